-- By where it stands, its kind and its bytes.
use mathlib.Core.Path.{sym, ap, ◌∙◌}
use Prim.Native.Nat.{◌+◌}
use native.Mathlib.Omega.{arith}
use Rattle.check_slots.proofs.Sized.{size-past, size-other, size-cut, size-whole}
use Rattle.check_slots.proofs.steps.class_size.Goals as goal

pub returns-then-table-at : goal.returns-then-table-at
returns-then-table-at c = size-past _ _ c.if-table-at.true

pub returns-then-not-within : goal.returns-then-not-within
returns-then-not-within c = size-other _ _ _ c.byte-k.ensures (sym c.within.ensures ∙ c.if-not-within.true)

pub returns-then-table-at-2 : goal.returns-then-table-at-2
returns-then-table-at-2 c =
    let bytes = ap (λ n. 1 + n) (c.wide-size.ensures.0 ∙ c.mark_of.ensures) in
    let class = sym c.within.ensures ∙ c.if-not-within.false in
    size-cut _ _ _ c.byte-k.ensures c.if-table-at.false class _ bytes c.if-table-at-2.true

pub returns : goal.returns
returns c =
    let bytes = ap (λ n. 1 + n) (c.wide-size.ensures.0 ∙ c.mark_of.ensures) in
    let class = sym c.within.ensures ∙ c.if-not-within.false in
    (size-whole _ _ _ c.byte-k.ensures c.if-table-at.false class _ bytes c.if-table-at-2.false, λ e. omega (arith, e))
