-- Values of bits, clocks and slots fit 64 bits. That those of LEB128 numbers do, and that their bytes and those of strings are there,
-- is shown beside the code that reads them.
use Rattle.std.specs.Prelude.{None, Some}
use mathlib.Core.Path.{◌≡◌, refl, subst}
use Prim.Native.Nat.{ℕ, zero, suc, ◌+◌, ◌-◌, ◌^◌, ◌≤◌}
use native.Mathlib.Omega.{arith}
use lib.Pow.{pow_mono}
use lib.IntN.{ℤ, pos, negsuc, sub_ℕ}
use mathlib.Core.List.{List, [], ◌∷◌, ◌++◌}
use mathlib.Core.Bool.{Bool, true, false, cond}
use lib.ListN.{take, replicate}
use lib.Dec.{ltb}
use borrow.Author.Tests.{ltb-true}
use Rattle.rules.specs.declared.Order.{Order}
use Rattle.rules.specs.declared.Content.{Content}
use Rattle.rules.specs.declared.Content.TheVariants.{Unset}
use Rattle.rules.specs.Bits.{bits, signed, word}
use Rattle.rules.specs.Clock.{advance, clock_after}
use Rattle.rules.specs.Class.{Sort, bit_array, boolean, unsigned_int, signed_int, float}
use Rattle.rules.specs.Slots.{Slots, slot, slot_at, set_slot, no_slots, packet_slots}
use Rattle.rules.specs.Field.{truth, one_or_none, value_of, slot_of}
use Rattle.bits.proofs.Laws.{bits_below}
use Rattle.promises.specs.Words.{Word}
use Rattle.laws.proofs.Law.{SlotOf}

bits-word : (o : Order) (s : List ℕ) (p n : ℕ) → n ≤ 64 → Word (bits o s p n)
bits-word o s p n h = let l : 2 ^ n ≤ 2 ^ 64 = pow_mono h in omega (arith, bits_below o s p n)

-- an integer that is not above a word has one
word-word : (z : ℤ) → ((v : ℕ) → z ≡ pos v → Word v) → Word (word z)
unfolding word
word-word (pos v) h = h v refl
word-word (negsuc v) h = omega arith

signed_word : (v n : ℕ) → Word v → Word (word (signed v n))
unfolding signed
signed_word v n h = by (ltb v (2 ^ (n - 1)))
  where
    minus : (c : Bool) → Word (word (cond c (negsuc (2 ^ n - suc v)) (pos (v - 2 ^ n))))
    minus true = word-word _ (λ k e. let z : ◌≡◌ {A = ℕ} 0 1 = cc in absurd (omega arith))
    minus false = word-word (pos (v - 2 ^ n)) (λ k e. let p : v - 2 ^ n ≡ k = cc in omega arith)

    by : (b : Bool) → Word (word (elim b [ true ↦ pos v | false ↦ sub_ℕ v (2 ^ n) ]))
    by true = word-word (pos v) (λ k e. let p : v ≡ k = cc in subst Word p h)
    by false = minus (ltb v (2 ^ n))

pub value-word : (k : Sort) (n : ℕ) (o : Order) (s : List ℕ) (p : ℕ) → n ≤ 64 → Word (value_of k n (bits o s p n))
unfolding value_of
value-word bit_array n o s p h = bits-word o s p n h
value-word boolean n o s p h = by (truth (bits o s p n))
  where
    by : (b : Bool) → Word (one_or_none b)
    by true = unfold one_or_none in omega arith
    by false = unfold one_or_none in omega arith
value-word unsigned_int n o s p h = bits-word o s p n h
value-word signed_int n o s p h = signed_word (bits o s p n) n (bits-word o s p n h)
value-word float n o s p h = bits-word o s p n h

-- clocks

pub clock-word : (c l v n : ℕ) → clock_after c l v ≡ Some n → Word n
unfolding clock_after
clock-word c l v n h = by (ltb (c + advance c l v) (2 ^ 64)) refl h
  where
    by : (b : Bool) → ltb (c + advance c l v) (2 ^ 64) ≡ b → elim b [ true ↦ Some (c + advance c l v) | false ↦ None ] ≡ Some n → Word n
    by true e h = let p : c + advance c l v ≡ n = cc in subst Word p (ltb-true _ _ e)
    by false e h = let z : ◌≡◌ {A = ℕ} 0 1 = cc in absurd (omega arith)

-- slots

abbrev pub WordSlots : Slots → Type 0
WordSlots [] = Unit {0}
WordSlots (x ∷ xs) = SlotOf Word x.content × WordSlots xs

pub slot-word : (l : Slots) (i : ℕ) → WordSlots l → SlotOf Word (slot_at l i)
unfolding slot_at
slot-word [] i h = tt
slot-word (x ∷ l) zero h = h.0
slot-word (x ∷ l) (suc i) h = slot-word l i h.1

pub set_word : (l : Slots) (i : ℕ) (x : Content) → WordSlots l → SlotOf Word x → WordSlots (set_slot l i x)
unfolding set_slot
set_word [] i x h g = tt
set_word (y ∷ l) zero x h g = (g, h.1)
set_word (y ∷ l) (suc i) x h g = (h.0, set_word l i x h.1 g)

unset-word : (n : ℕ) → WordSlots (replicate n (slot Unset))
unset-word zero = tt
unset-word (suc n) = (tt, unset-word n)

pub no_word : WordSlots no_slots
unfolding no_slots
no_word = unset-word 64

front-word : (n : ℕ) (l r : Slots) → WordSlots l → WordSlots r → WordSlots (take n l ++ r)
front-word zero l r h g = g
front-word (suc n) [] r h g = g
front-word (suc n) (x ∷ l) r h g = (h.0, front-word n l r h.1 g)

pub packet-word : (l : Slots) → WordSlots l → WordSlots (packet_slots l)
unfolding packet_slots
packet-word l h = front-word 16 l _ h (unset-word 48)

pub slot_of-word : (k : Sort) (n : ℕ) (o : Order) (s : List ℕ) (p : ℕ) → n ≤ 64 → SlotOf Word (slot_of k n (bits o s p n))
unfolding slot_of
slot_of-word bit_array n o s p h = tt
slot_of-word boolean n o s p h = tt
slot_of-word unsigned_int n o s p h = bits-word o s p n h
slot_of-word signed_int n o s p h = signed_word (bits o s p n) n (bits-word o s p n h)
slot_of-word float n o s p h = tt
