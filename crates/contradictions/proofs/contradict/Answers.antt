-- The tests in their turn; where the stream ends is compared without a sum that might not fit.
use mathlib.Core.Path.{◌≡◌}
use mathlib.Core.Bool.{true, false}
use native.Mathlib.Omega.{arith}
use Prim.Native.Nat.{◌+◌, ◌%◌}
use lib.Dec.{ltb, eqb}
use borrow.Author.Tests.{lt-ltb, le-ltb, eq-eqb, ne_eqb}
use Rattle.contradictions.proofs.contradict.Goals as goal
use Rattle.contradictions.proofs.contradict.Lts as lts
use Rattle.contradictions.proofs.contradict.Reads as reads

-- Places of the code, in its order: all is given; the total length is whole bytes; the content is not above it; the packet starts in the
-- stream, and ends there

abbrev AtStart : Type 0
AtStart = lts.Start reads.Pre reads.Post

abbrev AtWhole : Type 0
AtWhole = lts.Else1 reads.Pre reads.Post

abbrev AtOrder : Type 0
AtOrder = lts.Else2 reads.Pre reads.Post

abbrev AtStarts : Type 0
AtStarts = lts.Else3 reads.Pre reads.Post

abbrev AtEnds : Type 0
AtEnds = lts.Else4 reads.Pre reads.Post

-- The way back from each to the one before

abbrev to_start : AtWhole → AtStart
to_start c = c.before

abbrev to_whole : AtOrder → AtWhole
to_whole c = c.before

abbrev to-order : AtStarts → AtOrder
to-order c = c.before.before.before

abbrev to-starts : AtEnds → AtStarts
to-starts c = c.before.before.before

abbrev given : AtOrder → AtStart
given c = c.before.before

-- What is known at them

whole : (c : AtOrder) → eqb (c.args.total % 8) 0 ≡ true
whole c = eq-eqb _ _ c.if-total-ne0.false

order : (c : AtOrder) → ltb c.args.total c.args.content ≡ false
order c = le-ltb _ _ c.if-content_above.false

-- The needs

pub returns-then-total-ne0 : goal.returns-then-total-ne0
returns-then-total-ne0 c = simp (ne_eqb _ _ c.if-total-ne0.true)

pub returns-then-content_above : goal.returns-then-content_above
returns-then-content_above c = simp (eq-eqb _ _ c.if-total-ne0.false, lt-ltb _ _ c.if-content_above.true)

pub returns-then-end-start : goal.returns-then-end-start
returns-then-end-start c =
    let k = c.before.before.before in
    let a = k.args in
    let past = lt-ltb a.end.0 (a.start.0 + a.total) (omega (arith, c.if-end-start.true)) in
    simp (whole k, order k, past)

pub returns-then-end-start-2 : goal.returns-then-end-start-2
returns-then-end-start-2 c =
    let k = to-order c.before.before.before in
    let a = k.args in
    let past = lt-ltb a.end.0 (a.start.0 + a.total) (omega (arith, c.if-end-start-2.true)) in
    simp (whole k, order k, past)

pub returns : goal.returns
returns c =
    let ends = c.before.before in
    let starts = to-starts ends in
    let k = to-order starts in
    let a = k.args in
    let within = le-ltb a.end.0 (a.start.0 + a.total) (omega (arith, starts.if-end-start.false, ends.if-end-start-2.false)) in
    simp (whole k, order k, within)
