-- The slot gives a length, and so many bytes are found; or it gives none.
use Prim.Native.Nat.{◌≤◌}
use Rattle.leaf_after.proofs.Fits.{length-small}
use Rattle.leaf_read.proofs.ByKind.{no-length-seen, text-seen, blob-seen}
use Rattle.leaf_read.proofs.see_dynamic.Goals as goal
use Rattle.leaf_read.proofs.see_dynamic.Lts as lts
use Rattle.leaf_read.proofs.see_dynamic.Tie as tie
use Rattle.leaf_read.proofs.see_dynamic.Reads as reads

-- Places of the code, in its order: all is given; the slot was asked; it gives a length; and which of the two kinds it is

abbrev AtStart : Type 0
AtStart = lts.Start tie.the-claims reads.Pre reads.Post tie.handed_clauses

abbrev AtSlot : Type 0
AtSlot = lts.After-length_of tie.the-claims reads.Pre reads.Post tie.handed_clauses

abbrev AtBytes : Type 0
AtBytes = lts.Past-After-known_told2 tie.the-claims reads.Pre reads.Post tie.handed_clauses

abbrev AtText : Type 0
AtText = lts.Then1 tie.the-claims reads.Pre reads.Post tie.handed_clauses

abbrev AtBlob : Type 0
AtBlob = lts.Else1 tie.the-claims reads.Pre reads.Post tie.handed_clauses

-- The way back from each to the one before

abbrev to_start : AtSlot → AtStart
to_start c = c.before.before

abbrev to-slot : AtBytes → AtSlot
to-slot c = c.before

abbrev to-bytes-from-text : AtText → AtBytes
to-bytes-from-text c = c.before

abbrev to-bytes-from-blob : AtBlob → AtBytes
to-bytes-from-blob c = c.before

-- What is known at them: no slot gives more than 65,535 bytes

few : (c : AtBytes) → c.in-Ok.bytes ≤ 65535
few c = length-small _ c.length_of.ensures c.in-Ok.is

-- The needs: the slot

-- Kind 26

pub find_text-requires : goal.find_text-requires
find_text-requires c =
    let bytes = to-bytes-from-text c.before in
    record { framed = bytes.requires; bytes_bound = few bytes }

pub returns-then-kind-eq-DYNAMIC_STRING : goal.returns-then-kind-eq-DYNAMIC_STRING
returns-then-kind-eq-DYNAMIC_STRING c =
    let text = c.before.before.before in
    let bytes = to-bytes-from-text text in
    text-seen _ _ _ _ _ bytes.length_of.ensures bytes.in-Ok.is _ c.plain.ensures text.if-kind-eq-DYNAMIC_STRING.true
    c.find_text.ensures

-- Kind 27

pub find_blob-requires : goal.find_blob-requires
find_blob-requires c =
    let bytes = to-bytes-from-blob c.before in
    record { framed = bytes.requires; bytes_bound = few bytes }

pub returns-in-Err : goal.returns-in-Err
returns-in-Err c = no-length-seen _ _ _ _ _ c.length_of.ensures c.in-Err.is _

pub returns-else-kind-eq-DYNAMIC_STRING : goal.returns-else-kind-eq-DYNAMIC_STRING
returns-else-kind-eq-DYNAMIC_STRING c =
    let blob = c.before.before.before in
    let bytes = to-bytes-from-blob blob in
    blob-seen _ _ _ _ _ bytes.length_of.ensures bytes.in-Ok.is _ c.plain-in-Ok.ensures blob.if-kind-eq-DYNAMIC_STRING.false
    c.find_blob.ensures
