-- The three rows of UTF8-4, by the byte, and no row behind them.
use mathlib.Core.Path.{◌∙◌}
use native.Mathlib.Omega.{arith}
use Rattle.text.proofs.Characters.{first-F0, first-F4, first-behind, first-of-four}
use Rattle.text.proofs.first_of_four.Goals as goal

pub returns-then-byte-eq240 : goal.returns-then-byte-eq240
returns-then-byte-eq240 c = c.bytes_due.ensures ∙ first-F0 _ c.if-byte-eq240.true

pub returns-then-byte-eq244 : goal.returns-then-byte-eq244
returns-then-byte-eq244 c = c.bytes_due-then-byte-eq244.ensures ∙ first-F4 _ c.if-byte-eq244.true

pub returns-then-byte-gt244 : goal.returns-then-byte-gt244
returns-then-byte-gt244 c =
    let behind = c.before in
    let a = behind.args in
    c.none.ensures ∙ first-behind a.byte (omega arith)

pub returns : goal.returns
returns c =
    let other = c.before in
    let a = other.args in
    c.bytes_due-2.ensures ∙ first-of-four a.byte (omega arith) (omega arith)
