-- Slots that become unset, and an array's elements: "at the start and the end of each array element, the slots that any class inside that
-- element can set become unset" (02, 3). Twice is once, so that the start of an element behind another one changes nothing.
--
-- length-unset                   as many slots as before
-- unset-among, unset-other       a slot of the list is unset, and another one as it was
-- unset-append                   slots of two lists, one behind the other
-- unset-unset                    twice is once
-- forgetting, forget-as          the slots of a list are forgotten: a class's are those that it sets
-- forgetting-none, -more         none; and one after another, each a slot that becomes unset
-- forget-forget, forget-again    twice is once; in front of another step
-- forget-none                    a class that sets nothing forgets nothing
-- times-forget                   elements one after another: their slots are forgotten once in front, if there is one, and behind each
-- times-kept                     elements of a class that sets nothing: nothing is forgotten
use mathlib.Core.Path.{◌≡◌, refl, sym, ap, fun_ext, ◌∙◌}
use Prim.Native.Nat.{ℕ, zero, suc, ◌≤◌, ◌<◌}
use native.Mathlib.Omega.{arith}
use mathlib.Core.List.{List, [], ◌∷◌, ◌++◌}
use mathlib.Core.Bool.{Bool, true, false, ◌||◌}
use mathlib.Core.Logic.{⊎_elim}
use lib.ListN.{length, set, length-set, get_or-eq_default}
use lib.Seq.{set-set, get_or-set_same, get_or-set_other}
use lib.Dec.{eqb}
use borrow.Author.Tests.{eqb-true, eqb-false}
use Rattle.rules.specs.declared.Content.TheVariants.{Unset}
use Rattle.rules.specs.declared.Slot.{Slot}
use Rattle.rules.specs.Slots.{Slots, slot, slot_at, set_slot, unset}
use Rattle.rules.specs.Faults.{among}
use Rattle.rules.specs.Class.{Class, sets}
use Rattle.rules.specs.Step.{Step, go, ◌⨾◌, pass, after, onto, change, with_slots}
use Rattle.rules.specs.Field.{store, times, forget}
use Rattle.facts.proofs.Numbers.{lt-or-ge}
use Rattle.facts.proofs.Steps.{seq-assoc, pass-seq, seq-pass}

-- Slots

pub length-unset : (l : Slots) (is : List ℕ) → length (unset l is) ≡ length l
unfolding unset set_slot
length-unset l [] = refl
length-unset l (i ∷ is) = length-unset (set_slot l i Unset) is ∙ length-set l i (slot Unset)

-- one slot
set_same : (l : Slots) (i : ℕ) → slot_at (set_slot l i Unset) i ≡ Unset
unfolding slot_at set_slot
set_same l i = ⊎_elim
    (λ (h : i < length l). ap (λ (s : Slot). s.content) (get_or-set_same l i (slot Unset) (slot Unset) h))
    (λ (h : length l ≤ i). ap (λ (s : Slot). s.content)
    (get_or-eq_default (set l i (slot Unset)) (slot Unset) (omega (arith, length-set l i (slot Unset)))))
    (lt-or-ge i (length l))

set_other : (l : Slots) (i j : ℕ) → (j ≡ i → ⊥) → slot_at (set_slot l i Unset) j ≡ slot_at l j
unfolding slot_at set_slot
set_other l i j h = ap (λ (s : Slot). s.content) (get_or-set_other l i j (slot Unset) (slot Unset) h)

-- a slot that is unset stays so
unset-stays : (l : Slots) (is : List ℕ) (j : ℕ) → slot_at l j ≡ Unset → slot_at (unset l is) j ≡ Unset
unfolding unset
unset-stays l [] j h = h
unset-stays l (i ∷ is) j h = unset-stays (set_slot l i Unset) is j (by (eqb j i) refl)
  where
    by : (b : Bool) → eqb j i ≡ b → slot_at (set_slot l i Unset) j ≡ Unset
    by true e = rw (eqb-true j i e) (set_same l i)
    by false e = set_other l i j (eqb-false j i e) ∙ h

pub unset-among : (l : Slots) (is : List ℕ) (j : ℕ) → among j is ≡ true → slot_at (unset l is) j ≡ Unset
unfolding unset among
unset-among l [] j h = let z : ◌≡◌ {A = ℕ} 0 1 = cc in absurd (omega arith)
unset-among l (i ∷ is) j h = by (eqb j i) refl h (λ g. unset-among (set_slot l i Unset) is j g)
  where
    by : (b : Bool) → eqb j i ≡ b → (b || among j is) ≡ true → (among j is ≡ true → slot_at (unset (set_slot l i Unset) is) j ≡ Unset)
        → slot_at (unset (set_slot l i Unset) is) j ≡ Unset
    by true e g rec = unset-stays (set_slot l i Unset) is j (rw (eqb-true j i e) (set_same l i))
    by false e g rec = rec g

pub unset-other : (l : Slots) (is : List ℕ) (j : ℕ) → among j is ≡ false → slot_at (unset l is) j ≡ slot_at l j
unfolding unset among
unset-other l [] j h = refl
unset-other l (i ∷ is) j h = by (eqb j i) refl h (λ g. unset-other (set_slot l i Unset) is j g)
  where
    by : (b : Bool) → eqb j i ≡ b → (b || among j is) ≡ false
        → (among j is ≡ false → slot_at (unset (set_slot l i Unset) is) j ≡ slot_at (set_slot l i Unset) j)
        → slot_at (unset (set_slot l i Unset) is) j ≡ slot_at l j
    by true e g rec = let z : ◌≡◌ {A = ℕ} 0 1 = cc in absurd (omega arith)
    by false e g rec = rec g ∙ set_other l i j (eqb-false j i e)

pub unset-append : (l : Slots) (is js : List ℕ) → unset l (is ++ js) ≡ unset (unset l is) js
unfolding unset
unset-append l [] js = refl
unset-append l (i ∷ is) js = unset-append (set_slot l i Unset) is js

-- in any order
set-swap : (l : Slots) (i j : ℕ) (x : Slot) → set (set l i x) j x ≡ set (set l j x) i x
set-swap [] i j x = refl
set-swap (y ∷ l) zero zero x = refl
set-swap (y ∷ l) zero (suc j) x = refl
set-swap (y ∷ l) (suc i) zero x = refl
set-swap (y ∷ l) (suc i) (suc j) x = ap (λ k. y ∷ k) (set-swap l i j x)

set-behind : (l : Slots) (is : List ℕ) (i : ℕ) → set_slot (unset l is) i Unset ≡ unset (set_slot l i Unset) is
unfolding unset
set-behind l [] i = refl
set-behind l (j ∷ is) i =
    set-behind (set_slot l j Unset) is i ∙ ap (λ k. unset k is) (unfold set_slot in set-swap l j i (slot Unset))

pub unset-unset : (l : Slots) (is : List ℕ) → unset (unset l is) is ≡ unset l is
unfolding unset
unset-unset l [] = refl
unset-unset l (i ∷ is) =
    let same : set_slot (set_slot l i Unset) i Unset ≡ set_slot l i Unset = unfold set_slot in set-set l i (slot Unset) (slot Unset) in
    ap (λ k. unset k is) (set-behind (set_slot l i Unset) is i ∙ ap (λ k. unset k is) same) ∙ unset-unset (set_slot l i Unset) is

-- Steps

-- the slots of a list are forgotten
unfoldable pub forgetting : List ℕ → Step
forgetting is = change (λ s. with_slots (unset s.slots is) s)

pub forget-as : (c : Class) → forget c ≡ forgetting (sets c)
unfolding forget forgetting
forget-as c = refl

pub forgetting-none : forgetting [] ≡ pass
unfolding forgetting change with_slots unset pass
forgetting-none = refl

pub forgetting-more : (i : ℕ) (is : List ℕ) → forgetting (i ∷ is) ≡ (store i Unset ⨾ forgetting is)
unfolding forgetting change with_slots unset store ◌⨾◌ after onto
forgetting-more i is = refl

pub forgetting-twice : (is : List ℕ) → (forgetting is ⨾ forgetting is) ≡ forgetting is
unfolding forgetting change with_slots ◌⨾◌ after onto
forgetting-twice is = fun_ext (λ s. ap (λ l. go [] (with_slots l s)) (unset-unset s.slots is))

pub forget-forget : (c : Class) → (forget c ⨾ forget c) ≡ forget c
forget-forget c = rw (forget-as c) (forgetting-twice (sets c))

pub forget-none : (c : Class) → sets c ≡ [] → forget c ≡ pass
forget-none c e = forget-as c ∙ ap forgetting e ∙ forgetting-none

pub forget-again : (c : Class) (m : Step) → (forget c ⨾ (forget c ⨾ m)) ≡ (forget c ⨾ m)
forget-again c m = sym (seq-assoc (forget c) (forget c) m) ∙ ap (λ k. k ⨾ m) (forget-forget c)

some-times : (c : Class) (m : Step) (n : ℕ) → times (suc n) (forget c ⨾ m ⨾ forget c) ≡ (forget c ⨾ times (suc n) (m ⨾ forget c))
unfolding times
some-times c m zero = seq-assoc (forget c) (m ⨾ forget c) pass
some-times c m (suc n) =
    ap (λ k. (forget c ⨾ m ⨾ forget c) ⨾ k) (some-times c m n)
    ∙ seq-assoc (forget c) (m ⨾ forget c) (forget c ⨾ times (suc n) (m ⨾ forget c))
    ∙ ap (λ k. forget c ⨾ k) (seq-assoc m (forget c) (forget c ⨾ times (suc n) (m ⨾ forget c))
    ∙ ap (λ k. m ⨾ k) (forget-again c (times (suc n) (m ⨾ forget c)))
    ∙ sym (seq-assoc m (forget c) (times (suc n) (m ⨾ forget c))))

pub times-forget : (c : Class) (m : Step) (n : ℕ) → 0 < n → times n (forget c ⨾ m ⨾ forget c) ≡ (forget c ⨾ times n (m ⨾ forget c))
times-forget c m zero h = absurd (omega arith)
times-forget c m (suc n) h = some-times c m n

pub times-kept : (c : Class) (m : Step) (n : ℕ) → sets c ≡ [] → times n (forget c ⨾ m ⨾ forget c) ≡ times n m
times-kept c m n e = ap (times n) (ap (λ k. k ⨾ m ⨾ k) (forget-none c e) ∙ pass-seq (m ⨾ pass) ∙ seq-pass m)
