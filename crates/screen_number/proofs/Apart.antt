-- A law of a number that is none of a list's, as where a match of them all ends.
use mathlib.Core.Path.{◌≡◌}
use mathlib.Core.List.{List, [], ◌∷◌}
use mathlib.Core.Bool.{true, false}
use Prim.Native.Nat.{ℕ}
use borrow.Author.Tests.{ne_eqb}
use lib.Dec.{eqb}

abbrev pub Among : ℕ → List ℕ → Type 0
Among k [] = ⊥
Among k (j ∷ js) = elim (eqb k j) [ true ↦ Unit {0} | false ↦ Among k js ]

abbrev pub Apart : ℕ → List ℕ → Type 0
Apart k [] = Unit {0}
Apart k (j ∷ js) = (k ≡ j → ⊥) × Apart k js

pub not-among : (k : ℕ) (js : List ℕ) → Apart k js → Among k js → ⊥
not-among k [] n h = h
not-among k (j ∷ js) n h = not-among k js n.1 (rw (Among, ne_eqb k j n.0) at h)
