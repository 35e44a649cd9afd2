-- The slot that a record names, by what a class record announces.
use mathlib.Core.Path.{◌≡◌, refl, ap}
use Prim.Native.Nat.{ℕ, suc, ◌+◌, ◌-◌, ◌≤◌, ◌<◌}
use native.Mathlib.Omega.{arith}
use mathlib.Core.List.{List, [], ◌∷◌}
use mathlib.Core.Bool.{true, false}
use lib.Dec.{eqb}
use Rattle.rules.specs.Limits.{no_slot}
use Rattle.rules.specs.Faults.{pick}
use Rattle.rules.specs.Record.{u8}
use Rattle.rules.specs.Record.{Shape, bit_field, leb_field, signed_leb_field, zero_string, text, blob, text_of, blob_of, members, elements}
use Rattle.rules.specs.Record.{elements_of, option?, options, no, bits_layout, layouts}
use Rattle.rules.specs.Class.{bit_array, boolean, unsigned_int, signed_int, float, Sign, Range, Class, setting, sets}
use Rattle.facts.proofs.Cases.{◌▷◌, below}
use Rattle.table_offsets.specs.Bodies.{known, mark, body_mark}
use Rattle.table_records.specs.Named.{slot_place, named_at}
use Rattle.class_layout.specs.Trees.{shapes, shape_of, record_size, optional_of}

unfoldable pub place_in : Shape → ℕ
place_in (bit_field bit_array) = 0
place_in (bit_field boolean) = 4
place_in (bit_field unsigned_int) = 4
place_in (bit_field signed_int) = 4
place_in (bit_field float) = 0
place_in leb_field = 1
place_in signed_leb_field = 1
place_in zero_string = 0
place_in text = 0
place_in blob = 0
place_in text_of = 0
place_in blob_of = 0
place_in members = 0
place_in elements = 0
place_in elements_of = 0
place_in option? = 0
place_in options = 0

pub record OfShape (k : ℕ) (s : Shape) : Type 0 where
  pub bytes : suc (body_mark k) ≡ record_size s
  pub slot : slot_place k ≡ place_in s

pub of-class : (k : ℕ) → 16 ≤ k → k ≤ 32 → OfShape k (shape_of k)
unfolding body_mark mark known layouts no bits_layout slot_place pick place_in record_size shape_of shapes
of-class k l h = at-16 (k - 16) (omega arith) k (omega arith)
  where
    at-16 : (i : ℕ) → i < 17 → (k : ℕ) → k ≡ 16 + i → OfShape k (shape_of k)
    at-16 i h k e = rw e (below (λ i. OfShape (16 + i) (shape_of (16 + i))) 17 (
        record { bytes = refl; slot = refl } ▷ record { bytes = refl; slot = refl } ▷ record { bytes = refl; slot = refl }
        ▷ record { bytes = refl; slot = refl } ▷ record { bytes = refl; slot = refl } ▷ record { bytes = refl; slot = refl }
        ▷ record { bytes = refl; slot = refl } ▷ record { bytes = refl; slot = refl } ▷ record { bytes = refl; slot = refl }
        ▷ record { bytes = refl; slot = refl } ▷ record { bytes = refl; slot = refl } ▷ record { bytes = refl; slot = refl }
        ▷ record { bytes = refl; slot = refl } ▷ record { bytes = refl; slot = refl } ▷ record { bytes = refl; slot = refl }
        ▷ record { bytes = refl; slot = refl } ▷ record { bytes = refl; slot = refl } ▷ tt
        ) i h)

-- what a record names that names a slot i bytes behind its first
unfoldable pub named_in : List ℕ → ℕ → ℕ → List ℕ
named_in t p i = setting (elim (eqb i 0) [ true ↦ no_slot | false ↦ u8 t (p + i) ])

pub named-in : (t : List ℕ) (p i : ℕ) → slot_place (u8 t p) ≡ i → setting (named_at t p) ≡ named_in t p i
unfolding named_at named_in
named-in t p i e = ap (λ j. setting (elim (eqb j 0) [ true ↦ no_slot | false ↦ u8 t (p + j) ])) e

-- an optional sets what its class sets
pub optional-sets : (i : ℕ) (s : Sign) (rs : List Range) (c : Class) → sets (optional_of i s rs c) ≡ sets c
unfolding optional_of sets
optional-sets i s [] c = refl
optional-sets i s (r ∷ rs) c = refl
