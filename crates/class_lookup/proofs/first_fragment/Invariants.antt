-- The fragment looked for is the first of those that are left.
use Rattle.std.proofs.Common.{◌≡◌, ℕ, Bool}
use Rattle.class_layout.specs.Fragments.{first_of, fragments_of, All}
use Rattle.class_layout.specs.Sizes.{SizedFragment}
use Rattle.class_lookup.specs.Tests.{Tests}
use Rattle.class_lookup.proofs.first_fragment.Given as goal

abbrev pub invariant-loop-at : goal.invariant-loop-at
invariant-loop-at g l = record {
  each : All (SizedFragment l.table l.sizes) l.at-iterator;
  same : (test : ℕ → Bool) → Tests l.table (goal.F-post g l.passes) test
      → first_of test (fragments_of l.table) ≡ first_of test l.at-iterator;
}
