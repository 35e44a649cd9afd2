-- Where the BLOB of so many bytes stands; the text lies in the stream.
use Rattle.leaf_find_bytes.proofs.Found.{text-refused, text-malformed, text_at}
use Rattle.leaf_find_bytes.proofs.Lies.{blob-lies}
use Rattle.leaf_find_bytes.proofs.find_text.Goals as goal
use Rattle.leaf_find_bytes.proofs.find_text.Lts as lts
use Rattle.leaf_find_bytes.proofs.find_text.Tie as tie
use Rattle.leaf_find_bytes.proofs.find_text.Reads as reads

-- Places of the code, in its order: all is given; the BLOB was searched; it stands at a place; its bytes were read as text; they are not
-- text; they are

abbrev AtStart : Type 0
AtStart = lts.Start tie.the-claims reads.Pre reads.Post tie.handed_clauses

abbrev AtSearched : Type 0
AtSearched = lts.After-find_blob tie.the-claims reads.Pre reads.Post tie.handed_clauses

abbrev AtPlace : Type 0
AtPlace = lts.Past-After-known_told2 tie.the-claims reads.Pre reads.Post tie.handed_clauses

abbrev AtRead : Type 0
AtRead = lts.After-read tie.the-claims reads.Pre reads.Post tie.handed_clauses

abbrev AtNotText : Type 0
AtNotText = lts.Then1 tie.the-claims reads.Pre reads.Post tie.handed_clauses

abbrev AtText : Type 0
AtText = lts.Else1 tie.the-claims reads.Pre reads.Post tie.handed_clauses

-- The way back from each to the one before

abbrev to_start : AtSearched → AtStart
to_start c = c.before.before

abbrev to-searched : AtPlace → AtSearched
to-searched c = c.before

abbrev to-place : AtRead → AtPlace
to-place c = c.before.before

abbrev not-text-read : AtNotText → AtRead
not-text-read c = c.before.before

abbrev to_read : AtText → AtRead
to_read c = c.before.before

-- The needs: the BLOB

-- The text

pub read-text-requires : goal.read-text-requires
read-text-requires c =
    let place = c.before.before in
    let searched = to-searched place in
    rw c.bytes_before.ensures
    (blob-lies searched.requires.framed place.in-At.is _ searched.find_blob.ensures).1

pub returns-then-not-text : goal.returns-then-not-text
returns-then-not-text c =
    let read = not-text-read c.before in
    let place = to-place read in
    text-malformed _ _ _ _ place.find_blob.ensures place.in-At.is _ read.bytes_before.ensures
    _ read.read-text.ensures c.if-not-text.true

pub returns-in-Refused : goal.returns-in-Refused
returns-in-Refused c = text-refused _ _ _ _ c.find_blob.ensures c.in-Refused.is

pub returns-else-not-text : goal.returns-else-not-text
returns-else-not-text c =
    let read = to_read c.before.before in
    let place = to-place read in
    text_at _ _ _ _ place.find_blob.ensures place.in-At.is _ read.bytes_before.ensures
    _ read.read-text.ensures c.if-not-text.false
