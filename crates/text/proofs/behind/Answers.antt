-- A first byte where no byte is due; else one within the range, and one less is due.
use mathlib.Core.Path.{◌∙◌}
use native.Mathlib.Omega.{arith}
use Rattle.text.specs.Reading.{bytes_due}
use Rattle.text.proofs.Characters.{behind-whole, behind-low, behind-high, behind-next}
use Rattle.text.proofs.behind.Goals as goal

pub returns-then-was-eq0 : goal.returns-then-was-eq0
returns-then-was-eq0 c = c.first.ensures ∙ behind-whole _ _ c.if-was-eq0.true

pub returns-then-byte-was : goal.returns-then-byte-was
returns-then-byte-was c =
    let low = c.before in
    c.none.ensures ∙ behind-low _ _ (omega arith) low.if-byte-was.true

pub returns-then-was-byte : goal.returns-then-was-byte
returns-then-was-byte c =
    let high = c.before in
    c.none-then-was-byte.ensures ∙ behind-high _ _ (omega arith) high.if-was-byte.true

pub returns : goal.returns
unfolding bytes_due
returns c =
    let within = c.before in
    behind-next _ _ (omega arith) (omega arith) (omega arith)
