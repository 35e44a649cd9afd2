-- Laws of tests that are joined, and of cases by a test.
--
-- clash                 false is not true
-- or-false, or-true     what follows from a test `a || b` that failed, and that held
-- and_left, and_right   what follows from a test `a && b` that held
-- and_none              `a && false` fails
-- if-agree              two cases by one test agree where their first branches do
use mathlib.Core.Path.{◌≡◌, refl}
use Prim.Native.Nat.{ℕ}
use native.Mathlib.Omega.{arith}
use mathlib.Core.Bool.{Bool, true, false, ◌&&◌, ◌||◌}

pub clash : false ≡ true → ⊥
clash h = let z : ◌≡◌ {A = ℕ} 0 1 = cc in omega arith

pub or-false : (a b : Bool) → (a || b) ≡ false → (a ≡ false) × (b ≡ false)
or-false true b h = absurd (clash (cc))
or-false false b h = (refl, h)

pub or-true : (a b : Bool) {P : Type 0} → (a || b) ≡ true → (a ≡ true → P) → (b ≡ true → P) → P
or-true true b h f g = f refl
or-true false b h f g = g h

pub and_left : (a b : Bool) → (a && b) ≡ true → a ≡ true
and_left true b h = refl
and_left false b h = h

pub and_right : (a b : Bool) → (a && b) ≡ true → b ≡ true
and_right true b h = h
and_right false b h = absurd (clash h)

pub and_none : (a : Bool) → (a && false) ≡ false
and_none true = refl
and_none false = refl

-- the branch that a test takes first agrees, and the other is the same
pub if-agree : {A : Type 0} (b : Bool) (x y z : A) → (b ≡ true → x ≡ y)
    → ◌≡◌ {A = A} (elim b [ true ↦ x | false ↦ z ]) (elim b [ true ↦ y | false ↦ z ])
if-agree true x y z h = h refl
if-agree false x y z h = refl
