-- The alignment of a class that stands whole is 2 to its exponent, and the exponent is at most 6.
use mathlib.Core.Path.{◌≡◌, refl, sym}
use Prim.Native.Nat.{ℕ, zero, suc, ◌+◌, ◌*◌, ◌^◌, ◌≤◌, max}
use native.Mathlib.Omega.{arith, max_cases}
use native.Mathlib.Nat.{max-le, max-eq_left, max-eq_right}
use lib.Pow.{pow_mono}
use mathlib.Core.List.{List, [], ◌∷◌}
use Rattle.rules.specs.Class.{Range, align_of, aligns_of}
use Rattle.rules.specs.Class.{bit_array, boolean, unsigned_int, signed_int, float}
use Rattle.rules.specs.Record.{Shape, bit_field, leb_field, signed_leb_field, zero_string, text, blob, text_of, blob_of, members, elements}
use Rattle.rules.specs.Record.{elements_of, option?, options, u8}
use Rattle.class_layout.specs.Trees.{shape_of, ranges_at, sign_at, optional_of, Stood, members_at, class_in, stood_at, class_at, align_members}
use Rattle.class_layout.specs.Trees.{align_in, align_at, WholeMembers, WholeIn, IsWhole}

pow-max : (a b : ℕ) → 2 ^ max a b ≡ max (2 ^ a) (2 ^ b)
pow-max a b = max_cases a b _
    (λ l e. rw e (sym (max-eq_right (pow_mono l))))
    (λ l e. rw e (sym (max-eq_left (pow_mono l))))

-- an alignment in bits, and its exponent
abbrev Exponent : ℕ → ℕ → Type 0
Exponent n a = (n ≡ 2 ^ a) × (a ≤ 6)

larger : (m n a b : ℕ) → Exponent m a → Exponent n b → Exponent (max m n) (max a b)
larger m n a b p q = (rw (p.0, q.0) (sym (pow-max a b)), max-le p.1 q.1)

module _ (t : List ℕ) (g : ℕ → Type 0) (f : ℕ → Stood) (h : ℕ → ℕ) (deeper : (p : ℕ) → g p → Exponent (align_of (f p).class) (h p)) where
  members-aligned : (at n : ℕ) → WholeMembers g f at n → Exponent (aligns_of (members_at f at n)) (align_members h f at n)
  unfolding WholeMembers members_at align_members align_of
  members-aligned at zero w = (refl, omega arith)
  members-aligned at (suc n) w = larger _ _ _ _ (deeper at w.0) (members-aligned (f at).next n w.1)

  shape-aligned : (at : ℕ) (s : Shape) → WholeIn g f t at s → Exponent (align_of (class_in f t at s)) (align_in h f t at s)
  unfolding WholeIn class_in align_in align_of
  shape-aligned at (bit_field bit_array) w = (refl, w.2)
  shape-aligned at (bit_field boolean) w = (refl, w.2)
  shape-aligned at (bit_field unsigned_int) w = (refl, w.2)
  shape-aligned at (bit_field signed_int) w = (refl, w.2)
  shape-aligned at (bit_field float) w = (refl, w.2)
  shape-aligned at leb_field w = (refl, omega arith)
  shape-aligned at signed_leb_field w = (refl, omega arith)
  shape-aligned at zero_string w = (refl, omega arith)
  shape-aligned at text w = (refl, omega arith)
  shape-aligned at blob w = (refl, omega arith)
  shape-aligned at text_of w = (refl, omega arith)
  shape-aligned at blob_of w = (refl, omega arith)
  shape-aligned at members w = larger _ _ _ _ (refl, w.0) (members-aligned (at + 3) (u8 t (at + 1)) w.1)
  shape-aligned at elements w = larger _ _ _ _ (refl, w.0) (deeper (at + 4) w.1)
  shape-aligned at elements_of w = larger _ _ _ _ (refl, w.0) (deeper (at + 3) w.1)
  shape-aligned at option? w = (optional-aligned (ranges_at t (at + 3) (u8 t (at + 2))), omega arith)
    where
      optional-aligned : (rs : List Range)
          → align_of (optional_of (u8 t (at + 1)) (sign_at t (at + 3)) rs (f (at + 3 + 18 * u8 t (at + 2))).class) ≡ 1
      optional-aligned [] = unfold optional_of in refl
      optional-aligned (r ∷ rs) = unfold optional_of in refl
  shape-aligned at options w = (refl, omega arith)

pub aligned : (d : ℕ) (t : List ℕ) (at : ℕ) → IsWhole d t at → Exponent (align_of (class_at d t at)) (align_at d t at)
unfolding IsWhole stood_at align_at
aligned zero t at w = absurd w
aligned (suc d) t at w = shape-aligned t (IsWhole d t) (stood_at d t) (align_at d t) (λ p v. aligned d t p v) at (shape_of (u8 t at)) w.parts
