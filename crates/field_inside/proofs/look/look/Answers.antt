-- By the kind: each return is the law of one.
use mathlib.Core.Path.{◌≡◌, sym, ◌∙◌}
use Prim.Native.Nat.{◌+◌, ◌^◌, ◌≤◌, ◌<◌}
use native.Mathlib.Omega.{arith}
use lib.ListN.{length}
use Rattle.rules.specs.Record.{u8}
use Rattle.class_layout.specs.Notes.{Notes, notes, align_noted}
use Rattle.field_inside.specs.Inside.{HolderStands}
use Rattle.field_inside.proofs.Holders.{inside-structure, inside-array, inside-no-length, inside-dynamic, inside-optional}
use Rattle.field_inside.proofs.Holders.{inside-variant, record-there, optional-there, variant-there}
use Rattle.field_inside.proofs.look.look.Goals as goal
use Rattle.field_inside.proofs.look.look.Lts as lts
use Rattle.field_inside.proofs.look.look.Tie as tie
use Rattle.field_inside.proofs.look.look.Reads as reads

-- Places of the code, in its order: all is given; the kind can be read; it is that of a structure, and its alignment was read; of a static
-- array, and its alignment was; of a dynamic one, its slot holds a length, and its alignment was; of an optional; of a variant

abbrev AtStart : Type 0
AtStart = lts.Start tie.the-claims reads.Pre reads.Post tie.handed_clauses

abbrev AtKind : Type 0
AtKind = lts.After-shared_slice_known4 tie.the-claims reads.Pre reads.Post tie.handed_clauses

abbrev AtStructure : Type 0
AtStructure = lts.Past-At-match-keys1 tie.the-claims reads.Pre reads.Post tie.handed_clauses

abbrev AtStructureAlign : Type 0
AtStructureAlign = lts.After-align_of tie.the-claims reads.Pre reads.Post tie.handed_clauses

abbrev AtArray : Type 0
AtArray = lts.Past-At-match-keys2 tie.the-claims reads.Pre reads.Post tie.handed_clauses

abbrev AtArrayAlign : Type 0
AtArrayAlign = lts.After-align_of2 tie.the-claims reads.Pre reads.Post tie.handed_clauses

abbrev AtDynamic : Type 0
AtDynamic = lts.Past-At-match-keys3 tie.the-claims reads.Pre reads.Post tie.handed_clauses

abbrev AtLength : Type 0
AtLength = lts.Past-After-known_told2 tie.the-claims reads.Pre reads.Post tie.handed_clauses

abbrev AtLengthAlign : Type 0
AtLengthAlign = lts.After-align_of3 tie.the-claims reads.Pre reads.Post tie.handed_clauses

abbrev AtOptional : Type 0
AtOptional = lts.Past-At-match-keys4 tie.the-claims reads.Pre reads.Post tie.handed_clauses

abbrev AtVariant : Type 0
AtVariant = lts.Past-At-match-rest tie.the-claims reads.Pre reads.Post tie.handed_clauses

-- The way back from each to the one before

abbrev to_start : AtKind → AtStart
to_start c = c.before.before.before.before

abbrev structure-kind : AtStructure → AtKind
structure-kind c = c.before

abbrev to-structure : AtStructureAlign → AtStructure
to-structure c = c.before.before.before

abbrev array_kind : AtArray → AtKind
array_kind c = c.before

abbrev to-array : AtArrayAlign → AtArray
to-array c = c.before.before.before

abbrev dynamic-kind : AtDynamic → AtKind
dynamic-kind c = c.before

abbrev to-dynamic : AtLength → AtDynamic
to-dynamic c = c.before.before

abbrev length-kind : AtLength → AtKind
length-kind c = c.before.before.before

abbrev to-length : AtLengthAlign → AtLength
to-length c = c.before.before

abbrev optional-kind : AtOptional → AtKind
optional-kind c = c.before

abbrev variant-kind : AtVariant → AtKind
variant-kind c = c.before

-- What is known at them

abbrev noted : AtKind → Notes
noted c = notes c.args.sizes.now c.args.aligns.now

stands : (c : AtKind) → HolderStands c.args.table.now (noted c) c.args.at
stands c = c.requires.holder_stands

-- the record is in the table, which is not too long
record-in : (c : AtKind) →
    let t = c.args.table.now in
    (c.args.at + 3 ≤ length t) × (length t ≤ 65536)
record-in c = (record-there (stands c), (stands c).limit)

align-in : (c : AtKind) → c.args.at < length c.args.aligns.now
align-in c = omega (arith, (stands c).aligns, record-there (stands c))

-- the place can be aligned
alignable : (c : AtKind) →
    let a = c.args in
    (align_noted a.aligns.now a.at ≤ 6) × (a.frame.start.0 ≤ a.place.0) × (a.place.0 + 64 ≤ 2 ^ 64)
alignable c = ((stands c).align, c.requires.start_le_place.0, c.requires.start_le_place.1)

-- no other kind is left
variant-told : (c : AtVariant) →
    let a = c.args in
    u8 a.table.now a.at ≡ 32
unfolding u8
variant-told c =
    let o = stands (variant-kind c) in
    let r = c.in_default.in_default-own.rest in
    omega (arith, o.kind, o.stands.high, r.0.0.0.1, r.0.0.1, r.0.1, r.1)

-- The kind

pub bounds-table-at : goal.bounds-table-at
bounds-table-at c =
    let holder = c.requires.holder_stands in
    omega (arith, record-there holder, holder.limit)

-- A structure

pub overflow_add-at : goal.overflow_add-at
overflow_add-at c = omega (arith, record-in (structure-kind c.before))

pub count_at-requires : goal.count_at-requires
count_at-requires c = omega (arith, record-in (structure-kind c.before))

pub overflow_add-at-in-28 : goal.overflow_add-at-in-28
overflow_add-at-in-28 c = omega (arith, record-in (structure-kind c.before.before))

pub bounds-aligns-at : goal.bounds-aligns-at
bounds-aligns-at c = align-in (structure-kind c.before.before.before)

pub members-requires : goal.members-requires
unfolding align_noted
members-requires c = rw c.align_of.ensures.0 (alignable (structure-kind (to-structure c.before)))

-- A static array

pub overflow_add-at-in-29 : goal.overflow_add-at-in-29
overflow_add-at-in-29 c = omega (arith, record-in (array_kind c.before))

pub u16_at-requires : goal.u16_at-requires
u16_at-requires c = omega (arith, record-in (array_kind c.before))

pub overflow_add-at-in-29-2 : goal.overflow_add-at-in-29-2
overflow_add-at-in-29-2 c = omega (arith, record-in (array_kind c.before.before))

pub bounds-aligns-at-in-29 : goal.bounds-aligns-at-in-29
bounds-aligns-at-in-29 c = align-in (array_kind c.before.before.before)

pub elements-requires : goal.elements-requires
unfolding align_noted
elements-requires c = rw c.align_of-in-29.ensures.0 (alignable (array_kind (to-array c.before)))

-- A dynamic array

pub overflow_add-at-in-Ok : goal.overflow_add-at-in-Ok
overflow_add-at-in-Ok c = omega (arith, record-in (length-kind c.before))

pub bounds-aligns-at-in-Ok : goal.bounds-aligns-at-in-Ok
bounds-aligns-at-in-Ok c = align-in (length-kind c.before.before)

pub elements-requires-in-Ok : goal.elements-requires-in-Ok
unfolding align_noted
elements-requires-in-Ok c = rw c.align_of-in-Ok.ensures.0 (alignable (length-kind (to-length c.before)))

-- An optional

pub choose_optional-requires : goal.choose_optional-requires
unfolding u8
choose_optional-requires c = optional-there (stands (optional-kind c.before)) c.in-31.is

pub size_at-requires : goal.size_at-requires
size_at-requires c =
    let k = optional-kind c.before.before in
    omega (arith, (stands k).sizes, record-in k)

pub overflow_add-at-in-31 : goal.overflow_add-at-in-31
overflow_add-at-in-31 c = omega (arith, record-in (optional-kind c.before.before.before), c.size_at.ensures.1)

-- A variant

pub choose_option-requires : goal.choose_option-requires
choose_option-requires c = variant-there (stands (variant-kind c.before)) (variant-told c.before)

-- What is told of each

pub returns-in-28 : goal.returns-in-28
unfolding u8 align_noted
returns-in-28 c =
    let d = to-structure c.before.before in
    rw (c.members.ensures, c.align_of.ensures.0, c.count_at.ensures.0)
    (inside-structure _ (noted (structure-kind d)) _ _ _ _ d.in-28.is)

pub returns-in-29 : goal.returns-in-29
unfolding u8 align_noted
returns-in-29 c =
    let d = to-array c.before.before in
    rw (c.elements.ensures, c.align_of-in-29.ensures.0, c.u16_at.ensures.0)
    (inside-array _ (noted (array_kind d)) _ _ _ _ d.in-29.is)

pub returns-in-Err : goal.returns-in-Err
unfolding u8
returns-in-Err c =
    let l = c.before.before in
    inside-no-length _ (noted (dynamic-kind l.before)) _ _ _ _ _ l.in-30.is
    (sym l.length_of.ensures ∙ c.in-Err.is)

pub returns-in-Ok : goal.returns-in-Ok
unfolding u8 align_noted
returns-in-Ok c =
    let n = to-length c.before.before in
    let d = to-dynamic n in
    rw (c.elements-in-Ok.ensures, c.align_of-in-Ok.ensures.0)
    (inside-dynamic _ (noted (dynamic-kind d)) _ _ _ _ _ d.in-30.is
    (sym n.length_of.ensures ∙ n.in-Ok.is))

pub returns-in-31 : goal.returns-in-31
unfolding u8
returns-in-31 c =
    let d = c.before.before.before.before in
    rw (c.optional.ensures, c.size_at.ensures.0, c.choose_optional.ensures)
    (inside-optional _ (noted (optional-kind d)) _ _ _ _ d.in-31.is)

pub returns-in_default : goal.returns-in_default
returns-in_default c =
    let d = c.before.before.before in
    rw (c.variant.ensures, c.choose_option.ensures)
    (inside-variant _ (noted (variant-kind d)) _ _ _ _ (variant-told d))
