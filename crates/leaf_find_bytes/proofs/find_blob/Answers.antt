-- Each return is the law of the test that leads to it.
use native.Mathlib.Omega.{arith}
use Rattle.leaf_find_bytes.proofs.Found.{blob-past, blob-short, blob-at}
use Rattle.frame.specs.Framed.{aligned_at}
use Rattle.leaf_find_bytes.proofs.find_blob.Goals as goal
use Rattle.leaf_find_bytes.proofs.find_blob.Lts as lts
use Rattle.leaf_find_bytes.proofs.find_blob.Tie as tie
use Rattle.leaf_find_bytes.proofs.find_blob.Reads as reads

-- Places of the code, in its order: the place is aligned; it is past the bound; it is inside; the bits of so many bytes are known; they do
-- not fit

abbrev AtAligned : Type 0
AtAligned = lts.After-align tie.the-claims reads.Pre reads.Post tie.handed_clauses

abbrev AtPast : Type 0
AtPast = lts.Then1 tie.the-claims reads.Pre reads.Post tie.handed_clauses

abbrev AtInside : Type 0
AtInside = lts.Else1 tie.the-claims reads.Pre reads.Post tie.handed_clauses

abbrev AtBits : Type 0
AtBits = lts.After-bits_in tie.the-claims reads.Pre reads.Post tie.handed_clauses

abbrev AtShort : Type 0
AtShort = lts.Then2 tie.the-claims reads.Pre reads.Post tie.handed_clauses

-- The way back from each to the one before

abbrev past-aligned : AtPast → AtAligned
past-aligned c = c.before.before.before

abbrev to-aligned : AtInside → AtAligned
to-aligned c = c.before.before.before

abbrev to_inside : AtBits → AtInside
to_inside c = c.before

abbrev short-bits : AtShort → AtBits
short-bits c = c.before.before.before

-- The needs: alignment and the bound

pub returns-then-frame-place : goal.returns-then-frame-place
unfolding aligned_at
returns-then-frame-place c = blob-past _ _ _ c.align-place.ensures _ c.if-frame-place.true

-- The bytes

pub returns-then-frame-place-2 : goal.returns-then-frame-place-2
unfolding aligned_at
returns-then-frame-place-2 c =
    let bits = short-bits c.before in
    let inside = to_inside bits in
    blob-short _ _ _ inside.align-place.ensures _ (omega (arith, inside.if-frame-place.false))
    (omega (arith, c.if-frame-place-2.true, bits.bits_in-bits.ensures))

pub returns : goal.returns
unfolding aligned_at
returns c =
    let bits = c.before.before.before.before in
    let aligned = to-aligned (to_inside bits) in
    rw c.bits_in-bits.ensures
    (blob-at _ _ _ aligned.align-place.ensures _ (omega (arith, c.if-frame-place-2.false, bits.bits_in-bits.ensures)))
