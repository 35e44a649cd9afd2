-- The bytes from the aligned place to the bound, read as text, are those that the rules search.
use native.Mathlib.Omega.{arith}
use Rattle.leaf_find_bytes.proofs.Found.{StringRead, string-past, string-endless, short-text, string-malformed, string-ends}
use Rattle.frame.specs.Framed.{aligned_at}
use Rattle.leaf_find_bytes.proofs.find_string.Goals as goal
use Rattle.leaf_find_bytes.proofs.find_string.Lts as lts
use Rattle.leaf_find_bytes.proofs.find_string.Tie as tie
use Rattle.leaf_find_bytes.proofs.find_string.Reads as reads

-- Places of the code, in its order: all is given; the place is aligned; it is past the bound; it is inside; the bytes from it to the bound
-- are known; they were read as text; there is no zero byte; there is one; what stands before it is not text; it is

abbrev AtStart : Type 0
AtStart = lts.Start tie.the-claims reads.Pre reads.Post

abbrev AtAligned : Type 0
AtAligned = lts.After-align tie.the-claims reads.Pre reads.Post

abbrev AtPast : Type 0
AtPast = lts.Then1 tie.the-claims reads.Pre reads.Post

abbrev AtInside : Type 0
AtInside = lts.Else1 tie.the-claims reads.Pre reads.Post

abbrev AtBytes : Type 0
AtBytes = lts.After-bytes_before2 tie.the-claims reads.Pre reads.Post

abbrev AtRead : Type 0
AtRead = lts.After-read_before tie.the-claims reads.Pre reads.Post

abbrev AtEndless : Type 0
AtEndless = lts.Then2 tie.the-claims reads.Pre reads.Post

abbrev AtEnded : Type 0
AtEnded = lts.Else2 tie.the-claims reads.Pre reads.Post

abbrev AtNotText : Type 0
AtNotText = lts.Then3 tie.the-claims reads.Pre reads.Post

abbrev AtText : Type 0
AtText = lts.Else3 tie.the-claims reads.Pre reads.Post

-- The way back from each to the one before

abbrev to_start : AtAligned → AtStart
to_start c = c.before.before.before.before

abbrev past-aligned : AtPast → AtAligned
past-aligned c = c.before.before.before

abbrev to-aligned : AtInside → AtAligned
to-aligned c = c.before.before.before

abbrev to_inside : AtBytes → AtInside
to_inside c = c.before.before.before

abbrev to-bytes : AtRead → AtBytes
to-bytes c = c.before.before.before

abbrev endless-read : AtEndless → AtRead
endless-read c = c.before.before.before

abbrev to_read : AtEnded → AtRead
to_read c = c.before.before.before

abbrev not-text-ended : AtNotText → AtEnded
not-text-ended c = c.before.before

abbrev to-ended : AtText → AtEnded
to-ended c = c.before.before

abbrev given : AtBytes → AtStart
given c = c.before.before.before.before.before.before.before.before.before.before

-- What is known at them

known_at : (c : AtRead) → let bytes = to-bytes c in let start = given bytes in
    StringRead start.args.stream.now start.args.frame start.args.from bytes.align-place.result
    bytes.bytes_before-at.result bytes.bytes_before-end.result c.read_before-text.result
unfolding aligned_at
known_at c =
    let bytes = to-bytes c in
    let inside = to_inside bytes in
    record {
      framed = bytes.requires;
      aligned = inside.align-place.ensures;
      inside = omega (arith, inside.if-frame-place.false);
      at-is = bytes.bytes_before-at.ensures;
      end_is = bytes.bytes_before-end.ensures;
      text-is = c.read_before-text.ensures;
    }

-- The needs: alignment and the bound

pub returns-then-frame-place : goal.returns-then-frame-place
unfolding aligned_at
returns-then-frame-place c = string-past _ _ _ _ c.align-place.ensures c.if-frame-place.true

-- The bytes

pub overflow_sub-left : goal.overflow_sub-left
overflow_sub-left c =
    let bytes = c.before.before.before in
    rw (bytes.bytes_before-at.ensures, bytes.bytes_before-end.ensures) (omega (arith, bytes.if-frame-place.false))

pub read_before-text-requires : goal.read_before-text-requires
read_before-text-requires c =
    let bytes = c.before.before.before in
    rw (bytes.bytes_before-at.ensures, bytes.bytes_before-end.ensures)
    (omega (arith, bytes.if-frame-place.false, bytes.requires.ends))

-- The zero byte, and the text before it

pub returns-then-count-left : goal.returns-then-count-left
returns-then-count-left c = string-endless (known_at (endless-read c.before)) c.if-count-left.true

pub returns-then-not-text : goal.returns-then-not-text
returns-then-not-text c =
    let ended = not-text-ended c.before in
    string-malformed (known_at (to_read ended)) ended.if-count-left.false c.if-not-text.true

pub overflow_add-bytes : goal.overflow_add-bytes
overflow_add-bytes c =
    let ended = to-ended c.before.before in
    omega (arith, short-text (known_at (to_read ended)) ended.if-count-left.false)

pub bits_in-requires : goal.bits_in-requires
bits_in-requires c =
    let ended = to-ended c.before.before in
    omega (arith, short-text (known_at (to_read ended)) ended.if-count-left.false)

pub returns : goal.returns
returns c =
    let text = c.before.before.before in
    let ended = to-ended text in
    rw c.bits_in.ensures (string-ends (known_at (to_read ended)) ended.if-count-left.false text.if-not-text.false)
