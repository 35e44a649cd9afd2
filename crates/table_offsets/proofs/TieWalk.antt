-- When a rules' parse of the rest and a walk at a byte say the same: both refuse, the walk's number lowered by the fragments seen, at the
-- same byte; or both go on at the same byte. Laws: one after the other; one record.
use mathlib.Core.Path.{◌≡◌, refl, sym, ap, ◌∙◌}
use mathlib.Core.Bool.{Bool, true, false}
use mathlib.Core.List.{List}
use Prim.Native.Nat.{ℕ, zero, suc}
use native.Mathlib.Omega.{arith}
use lib.Dec.{ltb}
use Rattle.rules.specs.Record.{Record, record_of, behind}
use Rattle.rules.specs.Faults.{Ids}
use Rattle.rules.specs.Parse.{Parsed, bad, good, Parser, then as rules_then, sound, one}
use Rattle.table_offsets.specs.Walks.{Walk, Fine, Bad}
use Rattle.table_offsets.specs.Check.{pick_n, first, or_else, then, byte_at, head_fault, order_fault, lowest}
use Rattle.table_offsets.proofs.Picked.{first_fine}
use Rattle.table_offsets.proofs.TieBytes.{Rest}
use Rattle.table_offsets.proofs.TieHead.{Whole, head-whole}
use Rattle.table_offsets.proofs.TieIds.{Sees}
use Rattle.table_offsets.proofs.TieOrder.{Late, number-tie, lowest-head}

-- P says what else is so of what was read and of the byte behind it
pub data Tied (t : List ℕ) (trace : Bool) (os : List ℕ) {A : Type 0} (P : A → ℕ → Type 0) : Parsed A → Walk → Type 0 where
  both-bad : {n m p : ℕ} {x : List ℕ} → n ≡ lowest t trace os m p → Rest t p x → Tied t trace os P (bad n x) (Bad m p)
  both-good : {a : A} {e : ℕ} {x : List ℕ} → P a e → Rest t e x → Tied t trace os P (good a x) (Fine e)

lowest-some : (t : List ℕ) (trace : Bool) (os : List ℕ) (m p : ℕ) → lowest t trace os (suc m) p ≡ 0 → ⊥
unfolding lowest
lowest-some t trace os m p = by (ltb (suc m) 4) (order_fault t trace os p (byte_at t p))
  where
    by : (b : Bool) (c : ℕ) → pick_n b (suc m) (first c (suc m)) ≡ 0 → ⊥
    by true c e = unfold pick_n in omega arith
    by false zero e = unfold pick_n first in omega arith
    by false (suc c) e = unfold pick_n first in omega arith

module _ (t : List ℕ) (trace : Bool) (os : List ℕ) where
  pub then_tie : {A B : Type 0} {P : A → ℕ → Type 0} {Q : B → ℕ → Type 0} {o : Parsed A} {w : Walk} → Tied t trace os P o w
      → (F : A → Parser B) (G : ℕ → Walk) → ((a : A) (e : ℕ) (x : List ℕ) → P a e → Rest t e x → Tied t trace os Q (F a x) (G e))
      → Tied t trace os Q (rules_then o F) (then w G)
  unfolding rules_then then
  then_tie (both-bad e r) F G h = both-bad e r
  then_tie (both-good {a = a} {e = e} {x = x} p r) F G h = h a e x p r

  -- what is made of what was read is no matter of bytes
  pub made-tie : {A B : Type 0} {P : A → ℕ → Type 0} {Q : B → ℕ → Type 0} {o : Parsed A} {w : Walk} → Tied t trace os P o w
      → (f : A → B) → ((a : A) (e : ℕ) → P a e → Q (f a) e) → Tied t trace os Q (rules_then o (λ a x. good (f a) x)) w
  unfolding rules_then
  made-tie (both-bad e r) f h = both-bad e r
  made-tie (both-good {a = a} {e = e} p r) f h = both-good (h a e p) r

  sound-tie : {A : Type 0} {P : A → ℕ → Type 0} (at : ℕ) (x : List ℕ) → Rest t at x → (f : Parser A) (w : Walk) (c n : ℕ)
      → n ≡ lowest t trace os c at
      → (c ≡ 0 → Tied t trace os P (f (behind x)) w) → Tied t trace os P (sound n x f) (or_else c at w)
  unfolding sound or_else
  sound-tie at x h f w zero zero e k = k refl
  sound-tie at x h f w zero (suc n) e k = absurd (omega (arith, lowest-head t trace os 0 at (omega arith)))
  sound-tie at x h f w (suc c) zero e k = absurd (lowest-some t trace os c at (sym e))
  sound-tie at x h f w (suc c) (suc n) e k = both-bad e h

  -- a record whose numbers from 9 up are m, and what is behind it
  pub one-tie : (q : Ids) → Sees t q trace os → {A : Type 0} {P : A → ℕ → Type 0} (at : ℕ) (x : List ℕ) → Rest t at x
      → (more : Record → ℕ) → Late more
      → (m : ℕ) → (Whole t at → more (record_of x) ≡ m) → (f : Record → Parser A) (w : Walk)
      → (Whole t at → m ≡ 0 → Tied t trace os P (f (record_of x) (behind x)) w)
      → Tied t trace os P (one q more f x) (or_else (first (head_fault t at) m) at w)
  unfolding one
  one-tie q s {A} {P} at x h more l m e f w k =
      sound-tie at x h (f (record_of x)) w (first (head_fault t at) m) _
      (number-tie t q trace os s at x h more l ∙ ap (λ c. lowest t trace os c at) (agree (head_fault t at) refl))
      (λ z. let n = first_fine (head_fault t at) m z in k (head-whole t at n.0) n.1)
    where
      agree : (c : ℕ) → head_fault t at ≡ c → first c (more (record_of x)) ≡ first c m
      agree zero p = unfold first in e (head-whole t at p)
      agree (suc c) p = unfold first in refl
