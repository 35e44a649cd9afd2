-- Laws of the pass over records: as many rounds as bytes are enough, so the slots from a byte up to an end, `slots_to`, are those of the
-- record there and then those behind it.
--
-- slots-none, slots-record          where the pass is at its end; where a record stands
-- slots-whole                       the slots of what stands at a byte, by its size
-- end_fits, end_low                 its end is a number that fits, and leaves room behind it
-- unset-passed, unset-found         what a record adds to the slots that become unset
-- Forgot                            what the loop that forgets has done; at its start, a record further, at its end
use mathlib.Core.Path.{◌≡◌, refl, sym, ap, ◌∙◌}
use Prim.Native.Nat.{ℕ, zero, suc, ◌+◌, ◌-◌, ◌≤◌, ◌<◌, ◌^◌}
use native.Mathlib.Omega.{arith}
use mathlib.Core.List.{List, [], ◌∷◌, ◌++◌}
use mathlib.Core.Bool.{Bool, true, false}
use mathlib.Core.Logic.{⊎_elim}
use lib.ListN.{length, length-set, get_or, set, get_or-eq_default}
use lib.Dec.{eqb}
use borrow.Author.Tests.{lt-ltb, le-ltb, ne_eqb}
use Rattle.rules.specs.Limits.{no_slot, slot_count}
use Rattle.rules.specs.Class.{setting}
use Rattle.rules.specs.Slots.{Slots, slot, set_slot, unset}
use Rattle.rules.specs.declared.Content.TheVariants.{Unset}
use Rattle.facts.proofs.Numbers.{lt-or-ge}
use Rattle.facts.proofs.Slots.{no-slot}
use Rattle.table_records.specs.Named.{named_at}
use Rattle.class_slots.specs.Named.{behind_record, slots_in, slots_of}

-- as many rounds as bytes
unfoldable pub slots_to : List ℕ → ℕ → ℕ → List ℕ
slots_to t p end = slots_in (end - p) t p end

in-none : (n : ℕ) (t : List ℕ) (p end : ℕ) → end ≤ p → slots_in n t p end ≡ []
unfolding slots_in
in-none zero t p end h = refl
in-none (suc n) t p end h = simp (le-ltb _ _ h, slots_in)

in-record : (n : ℕ) (t : List ℕ) (p end : ℕ) → p < end
    → slots_in (suc n) t p end ≡ setting (named_at t p) ++ slots_in n t (behind_record t p) end
unfolding slots_in
in-record n t p end h = simp (lt-ltb _ _ h, slots_in)

-- enough rounds are enough
in-enough : (m n : ℕ) (t : List ℕ) (p end : ℕ) → end ≤ p + m → end ≤ p + n → slots_in m t p end ≡ slots_in n t p end
in-enough zero n t p end h k = in-none zero t p end (omega arith) ∙ sym (in-none n t p end (omega arith))
in-enough (suc m) zero t p end h k = in-none (suc m) t p end (omega arith) ∙ sym (in-none zero t p end (omega arith))
in-enough (suc m) (suc n) t p end h k = ⊎_elim
    (λ (l : p < end).
    in-record m t p end l
    ∙ ap (λ x. setting (named_at t p) ++ x) (in-enough m n t (behind_record t p) end (omega arith) (omega arith))
    ∙ sym (in-record n t p end l))
    (λ (l : end ≤ p). in-none (suc m) t p end l ∙ sym (in-none (suc n) t p end l))
    (lt-or-ge p end)

pub slots-none : (t : List ℕ) (p end : ℕ) → end ≤ p → slots_to t p end ≡ []
unfolding slots_to
slots-none t p end h = in-none (end - p) t p end h

pub slots-record : (t : List ℕ) (p end : ℕ) → p < end → slots_to t p end ≡ setting (named_at t p) ++ slots_to t (behind_record t p) end
unfolding slots_to
slots-record t p end h =
    let n = end - p - 1 in
    let q = behind_record t p in
    let e : end - p ≡ suc n = omega arith in
    ap (λ m. slots_in m t p end) e ∙ in-record n t p end h
    ∙ ap (λ l. setting (named_at t p) ++ l) (in-enough n (end - q) t q end (omega arith) (omega arith))

pub slots-whole : (t s : List ℕ) (p : ℕ) → slots_of t s p ≡ slots_to t p (p + get_or s p 0)
unfolding slots_of slots_to
slots-whole t s p = let e : get_or s p 0 ≡ p + get_or s p 0 - p = omega arith in ap (λ n. slots_in n t p (p + get_or s p 0)) e

-- Where a pass ends: past the sizes none is noted, so the sum never overflows, and a pass that goes on ends low

module _ (s : List ℕ) (at : ℕ) {size : ℕ} (n : length s < 2 ^ 62) (e : size ≡ get_or s at 0) (b : size < 65536) where
  pub end_fits : at < 2 ^ 64 → at + size < 2 ^ 64
  end_fits h = ⊎_elim
      (λ (l : at < length s). omega arith)
      (λ (l : length s ≤ at). omega (arith, e, get_or-eq_default s 0 {n = at} l))
      (lt-or-ge at (length s))

  pub end_low : at < at + size → at + size < 2 ^ 63
  end_low h = ⊎_elim
      (λ (l : at < length s). omega arith)
      (λ (l : length s ≤ at). absurd (omega (arith, e, get_or-eq_default s 0 {n = at} l)))
      (lt-or-ge at (length s))

-- One record of the pass

setting-one : (i : ℕ) → ((i ≡ no_slot) → ⊥) → setting i ≡ i ∷ []
unfolding setting
setting-one i h = simp (ne_eqb _ _ h, setting)

-- a slot past the last, 255 among them
unset-out : (l : Slots) (i : ℕ) (is : List ℕ) → length l ≡ slot_count → slot_count ≤ i → (b : Bool) → eqb i no_slot ≡ b
    → unset l (setting i ++ is) ≡ unset l is
unfolding unset setting
unset-out l i is n h true e = ap (λ b. unset l (elim b [ true ↦ [] | false ↦ i ∷ [] ] ++ is)) e
unset-out l i is n h false e =
    ap (λ b. unset l (elim b [ true ↦ [] | false ↦ i ∷ [] ] ++ is)) e ∙ ap (λ x. unset x is) (no-slot l i Unset n h)

module _ (t : List ℕ) (p end : ℕ) (h : p < end) where
  pub unset-found : (l : Slots) → named_at t p < slot_count
      → unset l (slots_to t p end) ≡ unset (set_slot l (named_at t p) Unset) (slots_to t (behind_record t p) end)
  unfolding unset
  unset-found l k =
      let one = setting-one (named_at t p) (λ e. absurd (omega arith)) in
      ap (unset l) (slots-record t p end h ∙ ap (λ x. x ++ slots_to t (behind_record t p) end) one)

  pub unset-passed : (l : Slots) → length l ≡ slot_count → slot_count ≤ named_at t p
      → unset l (slots_to t p end) ≡ unset l (slots_to t (behind_record t p) end)
  unset-passed l n k =
      ap (unset l) (slots-record t p end h)
      ∙ unset-out l (named_at t p) (slots_to t (behind_record t p) end) n k (eqb (named_at t p) no_slot) refl

-- The loop that forgets: of the slots given, l is what those from `next` on are still to be unset of

pub record Forgot (t s : List ℕ) (at : ℕ) (given : Slots) (end : ℕ) (l : Slots) (next : ℕ) : Type 0 where
  pub many : length l ≡ slot_count
  pub rest : unset given (slots_of t s at) ≡ unset l (slots_to t next end)

pub forgot-start : (t s : List ℕ) (at : ℕ) (given : Slots) {end : ℕ} → length given ≡ slot_count → end ≡ at + get_or s at 0
    → Forgot t s at given end given at
forgot-start t s at given n e = record { many = n; rest = ap (unset given) (slots-whole t s at ∙ ap (slots_to t at) (sym e)) }

pub forgot-end : (t s : List ℕ) (at : ℕ) (given : Slots) (end : ℕ) (l : Slots) (next : ℕ) → Forgot t s at given end l next → end ≤ next
    → l ≡ unset given (slots_of t s at)
unfolding unset
forgot-end t s at given end l next f h = sym (f.rest ∙ ap (unset l) (slots-none t next end h))

module _ (t s : List ℕ) (at : ℕ) (given : Slots) (end : ℕ) (l : Slots) (from : ℕ) (h : from < end) (f : Forgot t s at given end l from)
    {next i : ℕ} (onward : next ≡ behind_record t from) (named : i ≡ named_at t from) where
  pub forgot-found : i ≤ 63 → {l' : Slots} → l' ≡ set l i (slot Unset) → Forgot t s at given end l' next
  unfolding set_slot
  forgot-found k e = record {
    many = ap length e ∙ length-set l i (slot Unset) ∙ f.many;
    rest = f.rest ∙ unset-found t from end h l (omega arith) ∙ rw (e, onward, ← named) refl;
  }

  pub forgot-passed : 63 < i → {l' : Slots} → l' ≡ l → Forgot t s at given end l' next
  forgot-passed k e = record {
    many = ap length e ∙ f.many;
    rest = f.rest ∙ unset-passed t from end h l f.many (omega arith) ∙ rw (e, onward) refl;
  }
