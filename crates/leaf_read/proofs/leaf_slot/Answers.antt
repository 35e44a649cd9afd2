-- Kinds 26 and 27 name a slot behind their kind; the others read none.
use native.Mathlib.Omega.{arith}
use mathlib.Core.Path.{refl}
use borrow.Author.Tests.{lt-ltb, le-ltb}
use Rattle.rules.specs.Record.{u8}
use Rattle.leaf_read.specs.Reads.{leaf_slot}
use Rattle.leaf_read.proofs.ByKind.{slot-there}
use Rattle.class_layout.proofs.Turns.{whole-inside}
use Rattle.leaf_read.proofs.leaf_slot.Goals as goal

pub bounds-table-at : goal.bounds-table-at
bounds-table-at c = whole-inside _ _ _ c.requires.whole

pub returns-then-reads_none : goal.returns-then-reads_none
unfolding leaf_slot u8
returns-then-reads_none c = rw (lt-ltb _ _ c.if-reads_none.true, leaf_slot) refl

pub overflow_add-at : goal.overflow_add-at
unfolding u8
overflow_add-at c =
    let s = c.before.before.before.before in
    omega (arith, slot-there _ _ s.requires.whole s.requires.at_bound c.if-reads_none.false, s.well_formed.0)

pub bounds-table-at-2 : goal.bounds-table-at-2
unfolding u8
bounds-table-at-2 c =
    let s = c.before.before.before.before.before in
    omega (arith, slot-there _ _ s.requires.whole s.requires.at_bound c.if-reads_none.false, s.well_formed.0)

pub returns : goal.returns
unfolding leaf_slot u8
returns c = rw (le-ltb _ _ c.if-reads_none.false, leaf_slot) c.wide.ensures.0
