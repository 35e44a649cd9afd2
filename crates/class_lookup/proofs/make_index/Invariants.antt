-- The fragments that are left are still to be put.
use Rattle.std.proofs.Common.{◌≡◌, length}
use Rattle.class_layout.specs.Fragments.{fragments_of, All}
use Rattle.class_layout.specs.Sizes.{SizedFragment}
use Rattle.class_lookup.specs.Index.{indexed}
use Rattle.class_lookup.proofs.make_index.Given as goal

abbrev pub invariant-loop-at : goal.invariant-loop-at
invariant-loop-at l = record {
  each : All (SizedFragment l.table l.sizes) l.at-iterator;
  same : indexed l.table (fragments_of l.table) l.initial.index ≡ indexed l.table l.at-iterator l.index;
  kept : length l.index ≡ length l.initial.index;
}
