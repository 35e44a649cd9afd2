-- 255 names no slot.
use mathlib.Core.Path.{sym, ap, ◌∙◌}
use Prim.Native.Nat.{ℕ, ◌+◌}
use native.Mathlib.Omega.{arith}
use Rattle.class_layout.proofs.Setting.{one_none, one-there}
use Rattle.class_layout.proofs.words.sets_one.Goals as goal

pub returns-then-slot-eq-NO_SLOT : goal.returns-then-slot-eq-NO_SLOT
returns-then-slot-eq-NO_SLOT c = (sym (one_none _ c.if-slot-eq-NO_SLOT.true), omega arith)

pub returns : goal.returns
returns c =
    let w = c.wide.ensures in
    (ap (λ (n : ℕ). n + 1) w.0 ∙ sym (one-there _ c.if-slot-eq-NO_SLOT.false), omega (arith, w.1))
