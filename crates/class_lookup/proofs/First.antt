-- Laws of the first fragment that passes a test: of those that are left it is the one in front, or it is among those behind that.
use Rattle.std.specs.Prelude.{Some, None}
use mathlib.Core.Path.{◌≡◌, refl}
use Prim.Native.Nat.{ℕ}
use mathlib.Core.List.{List, [], ◌∷◌}
use mathlib.Core.Bool.{Bool, true, false}
use Rattle.class_layout.specs.Fragments.{first_of}

-- os are all fragments, ls those that are left
module _ (f : ℕ → Bool) (os : List ℕ) {ls : List ℕ} (e : first_of f os ≡ first_of f ls) where
  pub first-hit : {o : ℕ} {rest : List ℕ} → ls ≡ o ∷ rest → f o ≡ true → Some o ≡ first_of f os
  unfolding first_of
  first-hit l b = rw (e, l, b, first_of) refl

  pub first-miss : {o : ℕ} {rest : List ℕ} → ls ≡ o ∷ rest → f o ≡ false → first_of f os ≡ first_of f rest
  unfolding first_of
  first-miss l b = rw (e, l, b, first_of) refl

  pub first-none : ls ≡ [] → None ≡ first_of f os
  unfolding first_of
  first-none l = rw (e, l) refl
