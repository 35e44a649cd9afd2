-- Tests that give a number, or 0: what follows of the number, of 0, and of a walk that goes on behind them.
use mathlib.Core.Path.{◌≡◌, refl}
use mathlib.Core.Bool.{Bool, true, false}
use Prim.Native.Nat.{ℕ, zero, suc, ◌+◌, ◌-◌, ◌≤◌}
use native.Mathlib.Omega.{arith}
use borrow.Author.Tests.{leb-true, eqb-true, eqb-false}
use lib.Dec.{leb, eqb}
use Rattle.facts.proofs.Truth.{and_left, and_right}
use Rattle.table_offsets.specs.Check.{first, pick_n, inside, or_else}
use Rattle.table_offsets.specs.Walks.{Walk, Bad}

pub first-zero : (n : ℕ) → n ≡ 0 → (m : ℕ) → first n m ≡ m
unfolding first
first-zero zero e m = refl
first-zero (suc n) e m = absurd (omega arith)

pub first_some : (n : ℕ) → (n ≡ 0 → ⊥) → (m : ℕ) → first n m ≡ n
unfolding first
first_some zero e m = absurd (e refl)
first_some (suc n) e m = refl

-- what a number 0 says

pub first_fine : (n m : ℕ) → first n m ≡ 0 → (n ≡ 0) × (m ≡ 0)
unfolding first
first_fine zero m e = (refl, e)
first_fine (suc n) m e = absurd (omega arith)

pub fails : (b : Bool) (n m : ℕ) → pick_n b (suc n) m ≡ 0 → (b ≡ false) × (m ≡ 0)
unfolding pick_n
fails true n m e = absurd (omega arith)
fails false n m e = (refl, e)

pub holds : (b : Bool) (n m : ℕ) → pick_n b m (suc n) ≡ 0 → (b ≡ true) × (m ≡ 0)
unfolding pick_n
holds true n m e = (refl, e)
holds false n m e = absurd (omega arith)

pub inside-fine : (x low high : ℕ) → inside x low high ≡ true → (low ≤ x) × (x ≤ high)
unfolding inside
inside-fine x low high e = (leb-true low x (and_left (leb low x) (leb x high) e), leb-true x high (and_right (leb low x) (leb x high) e))

-- walks

pub else-zero : (n at : ℕ) (w : Walk) → n ≡ 0 → or_else n at w ≡ w
unfolding or_else
else-zero zero at w e = refl
else-zero (suc n) at w e = absurd (omega arith)

pub else-some : (n at : ℕ) (w : Walk) → (n ≡ 0 → ⊥) → or_else n at w ≡ Bad n at
unfolding or_else
else-some zero at w e = absurd (e refl)
else-some (suc n) at w e = refl

-- a difference and a sum ask the same

by-shift : (at start : ℕ) (a b : Bool) → start ≤ at → eqb (at - start) 3 ≡ a → eqb at (start + 3) ≡ b → a ≡ b
by-shift at start true true h p q = refl
by-shift at start false false h p q = refl
by-shift at start true false h p q =
    let e : at - start ≡ 3 = eqb-true _ _ p in absurd (eqb-false at (start + 3) q (omega arith))
by-shift at start false true h p q =
    let e : at ≡ start + 3 = eqb-true _ _ q in absurd (eqb-false (at - start) 3 p (omega arith))

pub eqb-shift : (at start : ℕ) → start ≤ at → eqb (at - start) 3 ≡ eqb at (start + 3)
eqb-shift at start h = by-shift at start (eqb (at - start) 3) (eqb at (start + 3)) h refl refl
