-- In front of the text 0.
use mathlib.Core.Path.{◌∙◌}
use lib.ListN.{take, drop}
use Rattle.screen_text.proofs.Texts.{before-none, before-some}
use Rattle.screen_text.proofs.byte_before.Goals as goal

pub returns-then-i-k : goal.returns-then-i-k
returns-then-i-k c =
    let a = c.args in
    before-none (take a.bytes (drop a.from a.stream.now)) a.i a.k c.if-i-k.true

pub returns : goal.returns
returns c =
    let a = c.args in
    c.byte_at.ensures ∙ before-some (take a.bytes (drop a.from a.stream.now)) a.i a.k c.if-i-k.false
