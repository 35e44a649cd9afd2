-- The rows by the byte: UTF8-1, no row, UTF8-2, UTF8-3 and UTF8-4.
use mathlib.Core.Path.{◌∙◌}
use native.Mathlib.Omega.{arith}
use Rattle.text.proofs.Characters.{first-of-one, first-within, first-of-two}
use Rattle.text.proofs.first.Goals as goal

pub returns-then-byte-lt128 : goal.returns-then-byte-lt128
returns-then-byte-lt128 c = let a = c.args in c.bytes_due.ensures ∙ first-of-one a.byte (omega arith)

pub returns-then-byte-lt194 : goal.returns-then-byte-lt194
returns-then-byte-lt194 c =
    let a = c.args in
    c.none.ensures ∙ first-within a.byte (omega arith) (omega arith)

pub returns-then-byte-lt224 : goal.returns-then-byte-lt224
returns-then-byte-lt224 c =
    let third = c.before in
    let a = third.args in
    c.bytes_due-then-byte-lt224.ensures ∙ first-of-two a.byte (omega arith) (omega arith)
