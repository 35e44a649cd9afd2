-- Each kind is found by the numbers of its record: a law of ByKind says that what is seen is the reading of the class there.
use native.Mathlib.Omega.{arith}
use Prim.Native.Nat.{◌+◌, ◌≤◌}
use lib.ListN.{length}
use Rattle.rules.specs.Record.{u8}
use Rattle.class_layout.specs.Trees.{record_size, shape_of, shapes}
use Rattle.class_layout.proofs.Turns.{whole-inside}
use Rattle.leaf_read.specs.Seen.{seen_in}
use Rattle.leaf_read.proofs.ByKind.{record-there, is-dynamic, blob-within, sees-of, dynamic-of}
use Rattle.leaf_read.proofs.see_leaf.Goals as goal
use Rattle.leaf_read.proofs.see_leaf.Lts as lts
use Rattle.leaf_read.proofs.see_leaf.Tie as tie
use Rattle.leaf_read.proofs.see_leaf.Reads as reads

-- Places of the code, in its order: all is given; the kind is asked for; it is one from 21 on; and the kinds whose records have numbers

abbrev AtStart : Type 0
AtStart = lts.Start tie.the-claims reads.Pre reads.Post tie.handed_clauses

abbrev AtTable : Type 0
AtTable = lts.After-shared_slice_known4 tie.the-claims reads.Pre reads.Post tie.handed_clauses

abbrev AtKind : Type 0
AtKind = lts.After-shared_slice_known5 tie.the-claims reads.Pre reads.Post tie.handed_clauses

abbrev AtUnsigned : Type 0
AtUnsigned = lts.Past-At-match-keys1 tie.the-claims reads.Pre reads.Post tie.handed_clauses

abbrev AtSigned : Type 0
AtSigned = lts.Past-At-match-keys2 tie.the-claims reads.Pre reads.Post tie.handed_clauses

abbrev AtText : Type 0
AtText = lts.Past-At-match-keys4 tie.the-claims reads.Pre reads.Post tie.handed_clauses

abbrev AtBlob : Type 0
AtBlob = lts.Past-At-match-keys5 tie.the-claims reads.Pre reads.Post tie.handed_clauses

-- The way back from each to the one before

abbrev to_start : AtTable → AtStart
to_start c = c.before.before.before.before

abbrev to-table : AtKind → AtTable
to-table c = c.before.before

abbrev given : AtKind → AtStart
given c = c.before.before.before.before.before.before

-- What is known at them: the record is there, as long as its kind makes it

unsigned-there : (c : AtUnsigned) → c.args.at + 3 ≤ length c.args.table.now
unfolding record_size shape_of shapes u8
unsigned-there c = record-there _ _ 21 c.in-21.is c.requires.whole

signed-there : (c : AtSigned) → c.args.at + 2 ≤ length c.args.table.now
unfolding record_size shape_of shapes u8
signed-there c = record-there _ _ 22 c.in-22.is c.requires.whole

text-there : (c : AtText) → c.args.at + 3 ≤ length c.args.table.now
unfolding record_size shape_of shapes u8
text-there c = record-there _ _ 24 c.in-24.is c.requires.whole

blob-there : (c : AtBlob) → c.args.at + 4 ≤ length c.args.table.now
unfolding record_size shape_of shapes u8
blob-there c = record-there _ _ 25 c.in-25.is c.requires.whole

-- The needs: kinds 16 to 20

pub bounds-table-at : goal.bounds-table-at
bounds-table-at c = whole-inside _ _ _ c.requires.whole

pub see_bits-requires : goal.see_bits-requires
unfolding u8
see_bits-requires c =
    let start = to_start c.before.before in
    record { whole = start.requires.whole; at_bound = c.if-table-at-lt-FIRST_OF_BYTES.true; framed = start.requires.framed }

pub returns-then-table-at-lt-FIRST_OF_BYTES : goal.returns-then-table-at-lt-FIRST_OF_BYTES
returns-then-table-at-lt-FIRST_OF_BYTES c = c.see_bits.ensures _ _

pub bounds-table-at-2 : goal.bounds-table-at-2
bounds-table-at-2 c = whole-inside _ _ _ c.requires.whole

-- Kind 21

pub overflow_add-at : goal.overflow_add-at
overflow_add-at c =
    let kind = c.before.before in
    omega (arith, unsigned-there kind, kind.well_formed.0)

pub bounds-table-at-in-21 : goal.bounds-table-at-in-21
bounds-table-at-in-21 c =
    let kind = c.before.before.before in
    omega (arith, unsigned-there kind, kind.well_formed.0)

pub overflow_add-at-in-21 : goal.overflow_add-at-in-21
overflow_add-at-in-21 c =
    let kind = c.before.before.before in
    omega (arith, unsigned-there kind, kind.well_formed.0)

pub bounds-table-at-in-21-2 : goal.bounds-table-at-in-21-2
bounds-table-at-in-21-2 c =
    let kind = c.before.before.before.before in
    omega (arith, unsigned-there kind, kind.well_formed.0)

-- Kind 22

pub overflow_add-at-in-22 : goal.overflow_add-at-in-22
overflow_add-at-in-22 c =
    let kind = c.before.before in
    omega (arith, signed-there kind, kind.well_formed.0)

pub bounds-table-at-in-22 : goal.bounds-table-at-in-22
bounds-table-at-in-22 c =
    let kind = c.before.before.before in
    omega (arith, signed-there kind, kind.well_formed.0)

-- Kind 23

-- Kind 24

pub overflow_add-at-in-24 : goal.overflow_add-at-in-24
overflow_add-at-in-24 c = omega (arith, text-there c.before, c.well_formed.0)

pub u16_at-requires : goal.u16_at-requires
u16_at-requires c = omega (arith, text-there c.before, c.well_formed.0)

pub find_text-requires : goal.find_text-requires
find_text-requires c = record { framed = c.requires.framed; bytes_bound = omega (arith, c.u16_at.ensures.1) }

-- Kind 25

pub overflow_add-at-in-25 : goal.overflow_add-at-in-25
overflow_add-at-in-25 c = omega (arith, blob-there c.before, c.well_formed.0)

pub u16_at-requires-in-25 : goal.u16_at-requires-in-25
u16_at-requires-in-25 c = omega (arith, blob-there c.before, c.well_formed.0)

pub find_blob-requires : goal.find_blob-requires
find_blob-requires c = record { framed = c.requires.framed; bytes_bound = omega (arith, c.u16_at-in-25.ensures.1) }

pub overflow_add-at-in-25-2 : goal.overflow_add-at-in-25-2
overflow_add-at-in-25-2 c =
    let kind = c.before.before.before in
    omega (arith, blob-there kind, kind.well_formed.0)

pub bounds-table-at-in-25 : goal.bounds-table-at-in-25
bounds-table-at-in-25 c =
    let kind = c.before.before.before.before in
    omega (arith, blob-there kind, kind.well_formed.0)

pub static_blob-requires : goal.static_blob-requires
static_blob-requires c =
    let kind = c.before.before.before.before in
    blob-within kind.requires.framed _ _ c.find_blob.ensures

-- Kinds 26 and 27

pub bounds-table-at-in_default : goal.bounds-table-at-in_default
bounds-table-at-in_default c = whole-inside _ _ _ c.requires.whole

-- What is seen, by the kind

pub returns-in-21 : goal.returns-in-21
unfolding u8 shape_of shapes seen_in
returns-in-21 c =
    let found = c.before.before.before.before in
    sees-of _ _ _ _ _ _ _ _ _ 21 found.in-21.is (rw found.find_unsigned.ensures at c.unsigned_leb.ensures)

pub returns-in-22 : goal.returns-in-22
unfolding u8 shape_of shapes seen_in
returns-in-22 c =
    let found = c.before.before.before in
    sees-of _ _ _ _ _ _ _ _ _ 22 found.in-22.is (rw found.find_signed.ensures at c.signed_leb.ensures)

pub returns-in-23 : goal.returns-in-23
unfolding u8 shape_of shapes seen_in
returns-in-23 c =
    let found = c.before.before in
    sees-of _ _ _ _ _ _ _ _ _ 23 found.in-23.is (rw found.find_string.ensures at c.plain.ensures)

pub returns-in-24 : goal.returns-in-24
unfolding u8 shape_of shapes seen_in
returns-in-24 c =
    let found = c.before.before in
    let length = found.before in
    sees-of _ _ _ _ _ _ _ _ _ 24 length.in-24.is
    (rw (found.find_text.ensures, length.u16_at.ensures.0) at c.plain-in-24.ensures)

pub returns-in-25 : goal.returns-in-25
unfolding u8 shape_of shapes seen_in
returns-in-25 c =
    let found = c.before.before.before in
    let length = found.before in
    sees-of _ _ _ _ _ _ _ _ _ 25 length.in-25.is
    (rw (found.find_blob.ensures, length.u16_at-in-25.ensures.0) at c.static_blob.ensures)

pub returns-in_default : goal.returns-in_default
unfolding u8
returns-in_default c =
    let kind = c.before.before.before in
    let start = given kind.before in
    let low = is-dynamic start.args.table.now start.args.at kind.if-table-at-lt-FIRST_OF_BYTES.false kind.in_default.in_default-own.rest in
    dynamic-of _ _ _ _ _ _ _ _ _ low start.requires.at_bound c.see_dynamic.ensures
