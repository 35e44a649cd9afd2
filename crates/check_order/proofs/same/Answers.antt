-- A turn compares one byte, the last first; what is left to compare is the definition of the earlier ones.
use mathlib.Core.Path.{sym, ◌∙◌}
use native.Mathlib.Omega.{arith}
use Rattle.table_offsets.proofs.Searched.{same-unlike, same_alike, same_none}
use Rattle.check_order.proofs.same.Goals as goal

pub returns-then-byte : goal.returns-then-byte
returns-then-byte c =
    let a = c.byte.ensures in
    let b = c.byte-in-loop-i.ensures in
    sym (c.loop-i.invariant.1 ∙ same-unlike _ _ _ _ (omega arith) _ _ a b c.if-byte.true)

pub loop-i-preserved : goal.loop-i-preserved
loop-i-preserved c =
    let a = c.byte.ensures in
    let b = c.byte-in-loop-i.ensures in
    (omega (arith, c.loop-i.invariant.0), c.loop-i.invariant.1 ∙ same_alike _ _ _ _ (omega arith) _ _ a b c.if-byte.false)

pub returns : goal.returns
returns c = sym (c.loop-i.invariant.1 ∙ same_none _ _ _ _ (omega arith))
