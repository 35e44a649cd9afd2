-- What is kept where a slot is set: the packet's slots where it is another, and that slots 16 to 63 are unset where it is none of these.
use mathlib.Core.Path.{◌≡◌, refl, ap}
use mathlib.Core.Logic.{◌⊎◌, inl, inr}
use Prim.Native.Nat.{ℕ, zero, suc, ◌-◌, ◌≤◌, ◌<◌}
use native.Mathlib.Omega.{arith}
use mathlib.Core.List.{List, [], ◌∷◌, ◌++◌}
use lib.ListN.{length, take, set, replicate, length-append, length-take, length-replicate}
use Rattle.rules.specs.declared.Content.{Content}
use Rattle.rules.specs.declared.Content.TheVariants.{Unset}
use Rattle.rules.specs.declared.Slot.{Slot}
use Rattle.rules.specs.Limits.{slot_count, packet_slot_count}
use Rattle.rules.specs.Slots.{Slots, slot, packet_slots, set_slot}
use Rattle.facts.proofs.Slots.{no-slot}

-- The packet's slots are kept where another is set; 255, no slot, is another

take-set : (l : Slots) (n i : ℕ) (x : Slot) → n ≤ i → take n (set l i x) ≡ take n l
take-set l zero i x h = refl
take-set [] (suc n) i x h = refl
take-set (y ∷ l) (suc n) zero x h = absurd (omega arith)
take-set (y ∷ l) (suc n) (suc i) x h = ap (λ k. y ∷ k) (take-set l n i x (omega arith))

pub set_keeps : (l : Slots) (i : ℕ) (x : Content) → packet_slot_count ≤ i → packet_slots (set_slot l i x) ≡ packet_slots l
unfolding packet_slots set_slot
set_keeps l i x h = rw (take-set l packet_slot_count i (slot x) h) refl

-- Slots 16 to 63 stay unset where another is set

set-in-front : (l r : Slots) (n i : ℕ) (x : Slot) → i < n → take n l ++ r ≡ l → take n (set l i x) ++ r ≡ set l i x
set-in-front l r zero i x h e = absurd (omega arith)
set-in-front [] r (suc n) i x h e = e
set-in-front (y ∷ l) r (suc n) zero x h e = let k : take n l ++ r ≡ l = cc in ap (λ k. x ∷ k) k
set-in-front (y ∷ l) r (suc n) (suc i) x h e = let k : take n l ++ r ≡ l = cc in ap (λ k. y ∷ k) (set-in-front l r n i x (omega arith) k)

unset-many : (l : Slots) → packet_slots l ≡ l → length l ≡ slot_count
unfolding packet_slots
unset-many l h =
    let n : length (take packet_slot_count l ++ replicate (slot_count - packet_slot_count) (slot Unset)) ≡ length l = ap length h in
    omega (
      arith,
      n,
      length-append (take packet_slot_count l) (replicate (slot_count - packet_slot_count) (slot Unset)),
      length-take packet_slot_count l,
      length-replicate (slot_count - packet_slot_count) (slot Unset),
    )

pub set-leaves : (l : Slots) (i : ℕ) (x : Content) → (i < packet_slot_count) ⊎ (slot_count ≤ i) → packet_slots l ≡ l
    → packet_slots (set_slot l i x) ≡ set_slot l i x
set-leaves l i x (inl k) h =
    unfold packet_slots set_slot in set-in-front l (replicate (slot_count - packet_slot_count) (slot Unset)) packet_slot_count i (slot x) k h
set-leaves l i x (inr k) h = rw (no-slot l i x (unset-many l h) k) h
