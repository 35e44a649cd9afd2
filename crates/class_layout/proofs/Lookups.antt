-- What a lookup's answer says: which fragment it is, that what holds of each fragment holds of it, and the bytes of its UUID.
use Rattle.std.specs.Prelude.{Option, None, Some}
use mathlib.Core.Path.{◌≡◌, refl, subst}
use Prim.Native.Nat.{ℕ, zero, suc, ◌+◌}
use native.Mathlib.Omega.{arith}
use mathlib.Core.List.{List, [], ◌∷◌}
use mathlib.Core.Bool.{Bool, true, false}
use lib.ListN.{take, drop}
use lib.Dec.{eqb}
use borrow.Author.Tests.{ne_eqb}
use Rattle.rules.specs.Record.{u8}
use Rattle.rules.specs.Parse.{uuid_of}
use Rattle.class_layout.specs.Fragments.{first_of, uuid_at, All}
use Rattle.class_layout.specs.Sizes.{uuid_place}

pub found_some : (o : Option ℕ) (p : ℕ) → Some p ≡ o → o ≡ Some p
found_some None p e = let z : ◌≡◌ {A = ℕ} 0 1 = cc in absurd (omega arith)
found_some (Some q) p e = cc

pub found_none : (o : Option ℕ) → None ≡ o → o ≡ None
found_none None e = refl
found_none (Some q) e = let z : ◌≡◌ {A = ℕ} 0 1 = cc in absurd (omega arith)

-- of the first that passes a test
pub first_holds : (P : ℕ → Type 0) (f : ℕ → Bool) (os : List ℕ) (o : ℕ) → first_of f os ≡ Some o → All P os → (f o ≡ true) × P o
unfolding first_of
first_holds P f [] o e h = let z : ◌≡◌ {A = ℕ} 0 1 = cc in absurd (omega arith)
first_holds P f (q ∷ os) o e h = by (f q) refl e (λ e. first_holds P f os o e h.1)
  where
    by : (b : Bool) → f q ≡ b → elim b [ true ↦ Some q | false ↦ first_of f os ] ≡ Some o → (first_of f os ≡ Some o → (f o ≡ true) × P o)
        → (f o ≡ true) × P o
    by true k e r = let j : q ≡ o = cc in subst (λ o. (f o ≡ true) × P o) j (k, h.0)
    by false k e r = r e

-- the bytes of the trace class's UUID stand where `uuid_place` says
unfoldable pub sixteen : List ℕ → Option ℕ → List ℕ
sixteen t None = []
sixteen t (Some p) = take 16 (drop p t)

pub uuid-bytes : (t : List ℕ) (o : ℕ) → uuid_at t (Some o) ≡ sixteen t (uuid_place t o)
unfolding uuid_at uuid_place
uuid-bytes t o = by (u8 t (o + 1))
  where
    by : (u : ℕ) → uuid_of u (take 16 (drop (o + 2) t)) ≡ sixteen t (elim (eqb u 0) [ true ↦ None | false ↦ Some (o + 2) ])
    by zero = unfold uuid_of sixteen in refl
    by (suc u) = rw (ne_eqb (suc u) 0 (λ e. omega arith)) (unfold uuid_of sixteen in refl)
