-- The place is aligned, and its entry written, with the record's number, unless that lies past the bound.
use mathlib.Core.Path.{◌≡◌}
use native.Mathlib.Omega.{arith}
use Prim.Native.Nat.{ℕ, ◌^◌}
use Rattle.rules.specs.Record.{u8}
use Rattle.frame.specs.Framed.{aligned_at}
use Rattle.class_layout.specs.Notes.{align_noted, number_noted}
use Rattle.field_inside.proofs.Entering.{entered-past, entered-fits}
use Rattle.field_inside.proofs.opening.enter_structure.Goals as goal
use Rattle.field_inside.proofs.opening.enter_structure.Lts as lts
use Rattle.field_inside.proofs.opening.enter_structure.Tie as tie
use Rattle.field_inside.proofs.opening.enter_structure.Reads as reads

-- Places of the code, in its order: all is given; the alignment can be read; it was; the place is aligned; the bound is known; the place is
-- not past it; the count was read; the number was; the entry is written

abbrev AtStart : Type 0
AtStart = lts.Start tie.the-claims reads.Pre reads.Post tie.handed_clauses

abbrev AtNoted : Type 0
AtNoted = lts.After-shared_slice_known3 tie.the-claims reads.Pre reads.Post tie.handed_clauses

abbrev AtAlignment : Type 0
AtAlignment = lts.After-align_of tie.the-claims reads.Pre reads.Post tie.handed_clauses

abbrev AtAligned : Type 0
AtAligned = lts.After-align tie.the-claims reads.Pre reads.Post tie.handed_clauses

abbrev AtBound : Type 0
AtBound = lts.After-struct_known2 tie.the-claims reads.Pre reads.Post tie.handed_clauses

abbrev AtWithin : Type 0
AtWithin = lts.Else1 tie.the-claims reads.Pre reads.Post tie.handed_clauses

abbrev AtCount : Type 0
AtCount = lts.After-wide64 tie.the-claims reads.Pre reads.Post tie.handed_clauses

abbrev AtNumber : Type 0
AtNumber = lts.After-number_of tie.the-claims reads.Pre reads.Post tie.handed_clauses

abbrev AtListed : Type 0
AtListed = lts.After-list_holder tie.the-claims reads.Pre reads.Post tie.handed_clauses

-- The way back from each to the one before

abbrev to_start : AtNoted → AtStart
to_start c = c.before.before.before.before.before

abbrev to-noted : AtAlignment → AtNoted
to-noted c = c.before

abbrev to-alignment : AtAligned → AtAlignment
to-alignment c = c.before

abbrev to-aligned : AtBound → AtAligned
to-aligned c = c.before.before.before

abbrev to-bound : AtWithin → AtBound
to-bound c = c.before

abbrev to-within : AtCount → AtWithin
to-within c = c.before.before

abbrev to-count : AtNumber → AtCount
to-count c = c.before.before

abbrev to_number : AtListed → AtNumber
to_number c = c.before.before

abbrev aligned-start : AtAligned → AtStart
aligned-start c = c.before.before.before.before.before.before.before

abbrev within-start : AtWithin → AtStart
within-start c = c.before.before.before.before.before.before.before.before.before.before.before

abbrev number-start : AtNumber → AtStart
number-start c = c.before.before.before.before.before.before.before.before.before.before.before.before.before.before.before

-- What is known at them

-- the alignment noted of the class, in bits
abbrev bits : AtStart → ℕ
bits c = 2 ^ align_noted c.args.aligns.now c.args.at

placed : (c : AtAligned) →
    let s = aligned-start c in
    c.align-place.result ≡ aligned_at s.args.frame (bits s) s.args.from
unfolding aligned_at align_noted
placed c = rw c.align_of.ensures.0 at c.align-place.ensures

numbered : (c : AtNumber) →
    let a = c.args in
    c.number_of.result ≡ number_noted a.aligns.now a.at
unfolding number_noted
numbered c = c.number_of.ensures.0

-- The place

pub bounds-aligns-at : goal.bounds-aligns-at
bounds-aligns-at c = c.requires.at_in_bounds.1

pub align-place-requires : goal.align-place-requires
unfolding align_noted
align-place-requires c =
    let p = c.requires in
    (p.start_le_from.0, omega (arith, p.at_in_bounds.2, c.align_of.ensures.0), p.start_le_from.1)

pub returns-then-bound-place : goal.returns-then-bound-place
returns-then-bound-place c =
    let d = to-aligned c.before.before in
    let a = d.args in
    let both = entered-past a.frame (bits (aligned-start d)) a.from _ _ a.list.now (placed d) c.if-bound-place.true in record { value = both.0; list_after = both.1 }

-- Its entry

pub overflow_add-at : goal.overflow_add-at
overflow_add-at c = omega (arith, c.requires.at_in_bounds.0)

pub bounds-table-at : goal.bounds-table-at
bounds-table-at c = omega (arith, c.requires.at_in_bounds.0)

pub bounds-aligns-at-2 : goal.bounds-aligns-at-2
bounds-aligns-at-2 c = c.requires.at_in_bounds.1

pub list_holder-requires : goal.list_holder-requires
list_holder-requires c = c.requires.words_per_entry_in_bounds

pub shape_of-list : goal.shape_of-list
shape_of-list c = c.list_holder.auto.list

pub returns : goal.returns
unfolding aligned_at u8
returns c =
    let l = c.before.before.before in
    let n = to_number l in
    let w = to-within (to-count n) in
    let a = w.args in
    let both = entered-fits a.frame (bits (within-start w)) a.from _ _ a.list.now (placed (to-aligned (to-bound w))) w.if-bound-place.false
    n.wide64.ensures.0 (numbered n) l.list_holder.ensures in record { value = both.0; list_after = both.1 }
