-- Each return is the law of its case.
use Rattle.std.specs.Prelude.{Result}
use Rattle.rules.specs.declared.TableFault.{TableFault}
use Rattle.rules.specs.declared.ByteLength.{ByteLength}
use mathlib.Core.Path.{◌≡◌, sym, ap, ◌∙◌}
use Prim.Native.Nat.{ℕ, ◌<◌, ◌≤◌}
use native.Mathlib.Omega.{arith}
use Rattle.table_offsets.specs.Earlier.{earlier}
use Rattle.table_offsets.specs.Faults.{number}
use Rattle.table_offsets.proofs.Earlier.{earlier-none, earlier-found, earlier-before, earlier-behind, earlier-lower, earlier-higher}
use Rattle.check_table.proofs.earlier_of.Goals as goal

-- The answer is known, and the law of its case

known : (l p : ℕ) (a c r : Result ByteLength TableFault) → a ≡ c → earlier l c p ≡ r → r ≡ earlier l a p
known l p a c r e k = sym (ap (λ d. earlier l d p) e ∙ k)

equal : (p b : ℕ) → p ≤ b → b ≤ p → p ≡ b
equal p b h k = omega (arith, h, k)

-- No fault was found

pub returns-then-size-p : goal.returns-then-size-p
returns-then-size-p c = sym (earlier-none _ _ c.if-size-p.true _)

-- The table is accepted else

pub returns-in-Ok : goal.returns-in-Ok
unfolding number
returns-in-Ok c = c.refused.ensures ∙ known _ _ _ _ _ c.in-Ok.is (earlier-found _ _ c.if-size-p.false _)

-- It is refused else: behind the byte, before it, and there

pub returns-then-p-byte : goal.returns-then-p-byte
unfolding number
returns-then-p-byte c =
    c.refused-then-p-byte.ensures ∙ known _ _ _ _ _ c.in-Err.is (earlier-before _ _ c.if-size-p.false _ _ c.if-p-byte.true)

pub returns-then-byte-p : goal.returns-then-byte-p
returns-then-byte-p c = known _ _ _ _ _ c.in-Err.is (earlier-behind _ _ _ _ c.if-byte-p.true)

pub returns-then-is_higher : goal.returns-then-is_higher
unfolding number
returns-then-is_higher c =
    let eleven : c.number.result ≡ 11 = c.number.ensures in
    let there = equal _ _ c.if-byte-p.false c.if-p-byte.false in
    let higher : 11 < c.in-Err.fault.number = omega (arith, eleven, c.if-is_higher.true) in
    c.refused-then-is_higher.ensures
    ∙ known _ _ _ _ _ c.in-Err.is (earlier-lower _ _ c.if-size-p.false _ _ there higher)

pub returns-else-is_higher : goal.returns-else-is_higher
unfolding number
returns-else-is_higher c =
    let eleven : c.number.result ≡ 11 = c.number.ensures in
    let lower : c.in-Err.fault.number ≤ 11 = omega (arith, eleven, c.if-is_higher.false) in
    known _ _ _ _ _ c.in-Err.is (earlier-higher _ _ _ _ c.if-p-byte.false lower)
