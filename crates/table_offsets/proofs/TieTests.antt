-- Laws of tests, and of the rules' way and the check's way to put one test before another.
use mathlib.Core.Path.{◌≡◌, refl, sym}
use mathlib.Core.Bool.{Bool, true, false, not, ◌&&◌, ◌||◌}
use Prim.Native.Nat.{ℕ, suc, ◌+◌, ◌<◌, ◌≤◌}
use native.Mathlib.Omega.{arith}
use lib.Dec.{ltb, leb, eqb}
use borrow.Author.Tests.{leb-true, leb-false, le-ltb, lt-ltb, eq-eqb, ne_eqb, eqb-true, eqb-false}
use Rattle.rules.specs.Faults.{pick}
use Rattle.table_offsets.specs.Check.{pick_n, pick_b, first}

pub not-ltb : (a b : ℕ) → not (ltb a b) ≡ leb b a
not-ltb a b = by (leb b a) refl
  where
    by : (c : Bool) → leb b a ≡ c → not (ltb a b) ≡ c
    by true e = rw (le-ltb a b (leb-true b a e))
    by false e = rw (lt-ltb a b (leb-false b a e))

pub ltb-more : (a n : ℕ) → ltb a (1 + n) ≡ leb a n
ltb-more a n = by (leb a n) refl
  where
    by : (c : Bool) → leb a n ≡ c → ltb a (1 + n) ≡ c
    by true e = lt-ltb a (1 + n) (omega (arith, leb-true a n e))
    by false e = le-ltb a (1 + n) (omega (arith, leb-false a n e))

pub eqb_swap : (a b : ℕ) → eqb a b ≡ eqb b a
eqb_swap a b = by (eqb a b) refl
  where
    by : (c : Bool) → eqb a b ≡ c → c ≡ eqb b a
    by true e = sym (eq-eqb b a (sym (eqb-true a b e)))
    by false e = sym (ne_eqb b a (λ f. eqb-false a b e (sym f)))

pub or-none : (a : Bool) → (a || false) ≡ a
or-none true = refl
or-none false = refl

pub pick-or : (a b : Bool) → pick_b a true b ≡ (a || b)
unfolding pick_b
pick-or true b = refl
pick-or false b = refl

pub pick-and : (a b : Bool) → pick_b a b false ≡ (a && b)
unfolding pick_b
pick-and true b = refl
pick-and false b = refl

-- Numbers, one test before the others

pub pick_same : (b : Bool) (n m : ℕ) → pick b n m ≡ pick_n b n m
unfolding pick pick_n
pick_same true n m = refl
pick_same false n m = refl

pub pick-pick : (b : Bool) (n m m' : ℕ) → (b ≡ false → m ≡ m') → pick b n m ≡ pick_n b n m'
unfolding pick pick_n
pick-pick true n m m' h = refl
pick-pick false n m m' h = h refl

pub pick-high : (b : Bool) (n m : ℕ) → 9 ≤ n → (m < 9 → m ≡ 0) → pick b n m < 9 → pick b n m ≡ 0
unfolding pick
pick-high true n m h k l = absurd (omega arith)
pick-high false n m h k l = k l

-- a test, and what holds behind it where it finds nothing
pub first-pick : (b : Bool) (n m m' : ℕ) → (b ≡ false → m ≡ m') → pick b (suc n) m ≡ first (pick b (suc n) 0) m'
unfolding pick first
first-pick true n m m' h = refl
first-pick false n m m' h = h refl
