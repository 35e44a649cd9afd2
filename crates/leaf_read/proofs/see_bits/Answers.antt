-- Length, order and align are read once, and the number is found; each kind sees it with its slot and role.
use mathlib.Core.Path.{◌≡◌}
use mathlib.Core.List.{List}
use Prim.Native.Nat.{ℕ, ◌+◌, ◌≤◌}
use lib.ListN.{length}
use native.Mathlib.Omega.{arith}
use Rattle.rules.specs.Record.{u8}
use Rattle.class_layout.specs.Trees.{record_size, shape_of, shapes}
use Rattle.rules.specs.Limits.{no_slot}
use Rattle.rules.specs.declared.Content.{Content}
use Rattle.rules.specs.Class.{Sort, bit_array, boolean, unsigned_int, signed_int, float}
use Rattle.leaf_after.specs.declared.Seen.{Seen}
use Rattle.leaf_after.specs.Seeing.{seen, fixed_seen}
use Rattle.leaf_read.specs.Seen.{bits_seen_at, seen_in, seen_at, BitsSeen}
use Rattle.leaf_read.proofs.ByKind.{BitsSay, bits-there, bits-say, record-there, is-float, bits-extend, seen_of, bits_of}
use Rattle.leaf_read.proofs.see_bits.Goals as goal
use Rattle.leaf_read.proofs.see_bits.Lts as lts
use Rattle.leaf_read.proofs.see_bits.Tie as tie
use Rattle.leaf_read.proofs.see_bits.Reads as reads

-- Places of the code, in its order: all is given; width, order and align were read; the number was found; the kind was read; and the kinds
-- that have a slot

abbrev AtStart : Type 0
AtStart = lts.Start tie.the-claims reads.Pre reads.Post tie.handed_clauses

abbrev AtWidth : Type 0
AtWidth = lts.After-wide64 tie.the-claims reads.Pre reads.Post tie.handed_clauses

abbrev AtOrder : Type 0
AtOrder = lts.After-order_of tie.the-claims reads.Pre reads.Post tie.handed_clauses

abbrev AtAlign : Type 0
AtAlign = lts.After-wide642 tie.the-claims reads.Pre reads.Post tie.handed_clauses

abbrev AtFound : Type 0
AtFound = lts.After-find_bits tie.the-claims reads.Pre reads.Post tie.handed_clauses

abbrev AtKind : Type 0
AtKind = lts.After-shared_slice_known6 tie.the-claims reads.Pre reads.Post tie.handed_clauses

abbrev AtBoolean : Type 0
AtBoolean = lts.Past-At-match-keys2 tie.the-claims reads.Pre reads.Post tie.handed_clauses

abbrev AtUnsigned : Type 0
AtUnsigned = lts.Past-At-match-keys3 tie.the-claims reads.Pre reads.Post tie.handed_clauses

abbrev AtSigned : Type 0
AtSigned = lts.Past-At-match-keys4 tie.the-claims reads.Pre reads.Post tie.handed_clauses

-- The way back from each to the one before

abbrev to_start : AtWidth → AtStart
to_start c = c.before.before.before.before

abbrev to-width : AtOrder → AtWidth
to-width c = c.before.before

abbrev to-order : AtAlign → AtOrder
to-order c = c.before.before

abbrev to-align : AtFound → AtAlign
to-align c = c.before

abbrev to-found : AtKind → AtFound
to-found c = c.before

abbrev given : AtAlign → AtStart
given c = c.before.before.before.before.before.before.before.before

abbrev given-kind : AtKind → AtStart
given-kind c = c.before.before.before.before.before.before.before.before.before.before

-- What is known at them: the record is there, as long as its kind makes it; what it says; and that each kind sees the class there by what
-- was found

there : (c : AtStart) → c.args.at + 4 ≤ length c.args.table.now
there c = bits-there _ _ c.requires.whole c.requires.at_bound

boolean-there : (c : AtBoolean) → c.args.at + 5 ≤ length c.args.table.now
unfolding record_size shape_of shapes u8
boolean-there c = record-there _ _ 17 c.in-17.is c.requires.whole

unsigned-there : (c : AtUnsigned) → c.args.at + 6 ≤ length c.args.table.now
unfolding record_size shape_of shapes u8
unsigned-there c = record-there _ _ 18 c.in-18.is c.requires.whole

signed-there : (c : AtSigned) → c.args.at + 5 ≤ length c.args.table.now
unfolding record_size shape_of shapes u8
signed-there c = record-there _ _ 19 c.in-19.is c.requires.whole

said : (c : AtAlign) →
    let a = c.args in
    BitsSay a.table.now a.at c.wide64-width.result c.order_of-order.result c.wide64-exponent.result
unfolding u8
said c =
    let start = given c in
    let order = to-order c in
    bits-say _ _ start.requires.whole start.requires.at_bound order.wide64-width.ensures.0 order.order_of-order.ensures c.wide64-exponent.ensures.0

sees : (c : AtKind) {r : Seen} (k : Sort) (i ro : ℕ) →
    let a = c.args in
    let t = a.table.now in
    let b = a.stream.now in
    r ≡ seen c.find_bits-found.result (fixed_seen a.number k c.order_of-order.result i ro)
    → ((u : List ℕ) (x : Content)
    → seen_at a.number t b u a.frame a.at a.from a.last x
    ≡ bits_seen_at a.number t b a.frame a.at a.from a.last k i ro)
    → BitsSeen a.number t b a.frame a.at a.from a.last r
sees c k i ro is kind =
    let found = to-found c in
    λ u x. bits_of _ _ _ u _ _ _ _ x (said (to-align found)) found.find_bits-found.ensures k i ro is (kind u x)

-- The needs: width, order and align

pub overflow_add-at : goal.overflow_add-at
overflow_add-at c =
    let start = c.before.before.before in
    omega (arith, there start, start.well_formed.0)

pub bounds-table-at : goal.bounds-table-at
bounds-table-at c =
    let start = c.before.before.before.before in
    omega (arith, there start, start.well_formed.0)

pub overflow_add-at-2 : goal.overflow_add-at-2
overflow_add-at-2 c =
    let start = to_start c.before in
    omega (arith, there start, start.well_formed.0)

pub bounds-table-at-2 : goal.bounds-table-at-2
bounds-table-at-2 c =
    let start = to_start c.before.before in
    omega (arith, there start, start.well_formed.0)

pub overflow_add-at-3 : goal.overflow_add-at-3
overflow_add-at-3 c =
    let start = to_start (to-width c.before) in
    omega (arith, there start, start.well_formed.0)

pub bounds-table-at-3 : goal.bounds-table-at-3
bounds-table-at-3 c =
    let start = to_start (to-width c.before.before) in
    omega (arith, there start, start.well_formed.0)

-- The number

pub find_bits-found-requires : goal.find_bits-found-requires
find_bits-found-requires c = record { framed = c.requires.framed; width_bound = ((said c.before).most, (said c.before).align) }

-- Slots and roles, by the kind

pub bounds-table-at-4 : goal.bounds-table-at-4
bounds-table-at-4 c =
    omega (arith, bits-there _ _ c.requires.whole c.requires.at_bound, c.well_formed.0)

pub overflow_add-at-in-17 : goal.overflow_add-at-in-17
overflow_add-at-in-17 c = omega (arith, boolean-there c.before, c.well_formed.0)

pub bounds-table-at-in-17 : goal.bounds-table-at-in-17
bounds-table-at-in-17 c =
    let kind = c.before.before in
    omega (arith, boolean-there kind, kind.well_formed.0)

pub overflow_add-at-in-18 : goal.overflow_add-at-in-18
overflow_add-at-in-18 c = omega (arith, unsigned-there c.before, c.well_formed.0)

pub bounds-table-at-in-18 : goal.bounds-table-at-in-18
bounds-table-at-in-18 c =
    let kind = c.before.before in
    omega (arith, unsigned-there kind, kind.well_formed.0)

pub overflow_add-at-in-18-2 : goal.overflow_add-at-in-18-2
overflow_add-at-in-18-2 c =
    let kind = c.before.before in
    omega (arith, unsigned-there kind, kind.well_formed.0)

pub bounds-table-at-in-18-2 : goal.bounds-table-at-in-18-2
bounds-table-at-in-18-2 c =
    let kind = c.before.before.before in
    omega (arith, unsigned-there kind, kind.well_formed.0)

pub overflow_add-at-in-19 : goal.overflow_add-at-in-19
overflow_add-at-in-19 c = omega (arith, signed-there c.before, c.well_formed.0)

pub bounds-table-at-in-19 : goal.bounds-table-at-in-19
bounds-table-at-in-19 c =
    let kind = c.before.before in
    omega (arith, signed-there kind, kind.well_formed.0)

pub signed-requires : goal.signed-requires
signed-requires c =
    let found = to-found c.before.before.before in
    let align = to-align found in
    bits-extend align.requires.framed _ _ _ _ _ found.find_bits-found.ensures (said align).some (said align).most

-- What is seen, by the kind

pub returns-in-16 : goal.returns-in-16
unfolding u8 shape_of shapes seen_in
returns-in-16 c =
    let kind = c.before.before in
    sees kind.before bit_array no_slot 0 c.bit_array.ensures (λ u x. seen_of _ _ _ u _ _ _ _ x 16 kind.in-16.is)

pub returns-in-17 : goal.returns-in-17
unfolding u8 shape_of shapes seen_in
returns-in-17 c =
    let kind = c.before.before.before in
    sees kind.before boolean _ 0 c.boolean.ensures (λ u x. seen_of _ _ _ u _ _ _ _ x 17 kind.in-17.is)

pub returns-in-18 : goal.returns-in-18
unfolding u8 shape_of shapes seen_in
returns-in-18 c =
    let kind = c.before.before.before.before in
    sees kind.before unsigned_int _ _ c.unsigned.ensures (λ u x. seen_of _ _ _ u _ _ _ _ x 18 kind.in-18.is)

pub returns-in-19 : goal.returns-in-19
unfolding u8 shape_of shapes seen_in
returns-in-19 c =
    let kind = c.before.before.before in
    sees kind.before signed_int _ 0 c.signed.ensures (λ u x. seen_of _ _ _ u _ _ _ _ x 19 kind.in-19.is)

pub returns-in_default : goal.returns-in_default
unfolding u8 shape_of shapes seen_in
returns-in_default c =
    let kind = c.before.before in
    let start = given-kind kind.before in
    let is = is-float _ _ start.requires.whole start.requires.at_bound kind.in_default.in_default-own.rest in
    sees kind.before float no_slot 0 c.float.ensures (λ u x. seen_of _ _ _ u _ _ _ _ x 20 is)
