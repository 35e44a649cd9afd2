-- The loop passes eight plain bytes at a time, up to eight of which some are not plain.
use mathlib.Core.Path.{sym, ◌∙◌}
use native.Mathlib.Omega.{arith}
use Rattle.text.proofs.Plain.{eight-more, eights-few, eights-end}
use Rattle.text.proofs.plain_eights.Goals as goal

pub returns-then-not-eight_plain : goal.returns-then-not-eight_plain
returns-then-not-eight_plain c =
    (eights-few _ _ c.loop-i.invariant (sym c.eight_plain.ensures ∙ c.if-not-eight_plain.true), omega arith)

pub loop-i-preserved : goal.loop-i-preserved
loop-i-preserved c = eight-more _ _ c.loop-i.invariant (sym c.eight_plain.ensures ∙ c.if-not-eight_plain.false)

pub returns : goal.returns
returns c = (eights-end c.args.bytes.now c.loop-i.i c.loop-i.invariant (omega arith), omega arith)
