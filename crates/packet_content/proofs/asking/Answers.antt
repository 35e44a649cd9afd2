-- The stream class that was found stands whole, with its roots.
use mathlib.Core.Path.{refl}
use native.Mathlib.Omega.{arith}
use Prim.Native.Nat.{◌+◌, ◌≤◌}
use lib.ListN.{length}
use Rattle.rules.specs.Record.{u8}
use Rattle.class_layout.specs.Sizes.{SizedFragment}
use Rattle.packet_content.proofs.StreamClass.{stream-sized, stream-there, of-stream}
use Rattle.packet_content.proofs.asking.Goals as goal
use Rattle.packet_content.proofs.asking.Lts as lts
use Rattle.packet_content.proofs.asking.Tie as tie
use Rattle.packet_content.proofs.asking.Reads as reads

-- Places of the code, in its order: all is given; the clock was asked for; the header's root was looked for, and the common context's

abbrev AtStart : Type 0
AtStart = lts.Start tie.the-claims reads.Pre reads.Post tie.handed_clauses

abbrev AtTimed : Type 0
AtTimed = lts.After-shared_slice_known3 tie.the-claims reads.Pre reads.Post tie.handed_clauses

abbrev AtHeader : Type 0
AtHeader = lts.After-root_place tie.the-claims reads.Pre reads.Post tie.handed_clauses

abbrev AtCommon : Type 0
AtCommon = lts.After-root_place2 tie.the-claims reads.Pre reads.Post tie.handed_clauses

-- The way back from each to the one before

abbrev to_start : AtTimed → AtStart
to_start c = c.before.before.before

abbrev to-timed : AtHeader → AtTimed
to-timed c = c.before

abbrev to-header : AtCommon → AtHeader
to-header c = c.before

-- What is known at the start

there : (c : AtStart) → c.args.class + 10 ≤ length c.args.table.now
there c = let a = c.args in stream-there a.table.now a.sizes.now a.id a.class c.requires.sized c.requires.id_value

sized : (c : AtStart) → SizedFragment c.args.table.now c.args.sizes.now c.args.class
sized c = let a = c.args in stream-sized a.table.now a.sizes.now a.id a.class c.requires.sized c.requires.id_value

-- The clock

pub overflow_add-timed : goal.overflow_add-timed
overflow_add-timed c = omega (arith, there c.before.before.before, c.requires.sized.limit)

pub bounds-table-class : goal.bounds-table-class
bounds-table-class c = omega (arith, there c.before.before.before.before)

-- The roots

pub root_place-header-requires : goal.root_place-header-requires
root_place-header-requires c =
    let start = to_start c.before in
    (sized start, start.requires.sized.limit, start.requires.sized.room)

pub root_place-common-requires : goal.root_place-common-requires
root_place-common-requires c =
    let start = to_start (to-timed c.before) in
    (sized start, start.requires.sized.limit, start.requires.sized.room)

pub returns : goal.returns
unfolding u8
returns c =
    let start = to_start (to-timed (to-header c.before)) in
    let a = start.args in (
      of-stream a.table.now a.sizes.now a.id a.class start.requires.sized start.requires.id_value _ _ _ refl
          c.root_place-header.ensures c.root_place-common.ensures,
      refl,
    )
