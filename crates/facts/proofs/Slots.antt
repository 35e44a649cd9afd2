-- Past the sixty-four slots there is none: nothing stands there, and nothing is set.
--
-- no-content    a slot past the last holds nothing
-- no-slot       setting one past the last changes nothing
use mathlib.Core.Path.{◌≡◌, refl, ap}
use mathlib.Core.List.{[], ◌∷◌}
use Prim.Native.Nat.{ℕ, zero, suc, ◌≤◌}
use native.Mathlib.Omega.{arith}
use lib.ListN.{length, set, get_or-eq_default}
use Rattle.rules.specs.declared.Content.{Content}
use Rattle.rules.specs.declared.Content.TheVariants.{Unset}
use Rattle.rules.specs.declared.Slot.{Slot}
use Rattle.rules.specs.Limits.{slot_count}
use Rattle.rules.specs.Slots.{Slots, slot, slot_at, set_slot}

pub no-content : (l : Slots) (i : ℕ) → length l ≡ slot_count → slot_count ≤ i → slot_at l i ≡ Unset
unfolding slot_at
no-content l i n h = ap (λ (s : Slot). s.content) (get_or-eq_default l (slot Unset) (omega arith))

set_past : (l : Slots) (i : ℕ) (x : Slot) → length l ≤ i → set l i x ≡ l
set_past [] i x h = refl
set_past (y ∷ l) zero x h = absurd (omega arith)
set_past (y ∷ l) (suc i) x h = ap (λ k. y ∷ k) (set_past l i x (omega arith))

pub no-slot : (l : Slots) (i : ℕ) (x : Content) → length l ≡ slot_count → slot_count ≤ i → set_slot l i x ≡ l
unfolding set_slot
no-slot l i x n h = set_past l i (slot x) (omega arith)
