-- What a function that tests fragments answers.
use Rattle.std.specs.Prelude.{◌≡◌, ℕ, List, Bool}
use Rattle.class_layout.specs.Fragments.{Fragment}

-- at each fragment what this test does
abbrev pub Tests : List ℕ → (ℕ → Bool → Type 0) → (ℕ → Bool) → Type 0
Tests t answers test = (o : ℕ) (b : Bool) → Fragment t o → answers o b → b ≡ test o
