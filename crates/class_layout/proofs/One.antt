-- A class that stands whole is one tree, with one end and one alignment, whatever the depths that are left to it.
use mathlib.Core.Path.{◌≡◌, refl, ap}
use Prim.Native.Nat.{ℕ, zero, suc, ◌+◌, ◌*◌}
use mathlib.Core.List.{List}
use Rattle.rules.specs.Class.{static_array, dynamic_array}
use Rattle.rules.specs.Record.{Shape, bit_field, leb_field, signed_leb_field, zero_string, text, blob, text_of, blob_of, members, elements}
use Rattle.rules.specs.Record.{elements_of, option?, options, u8, u16}
use Rattle.rules.specs.Class.{bit_array, boolean, unsigned_int, signed_int, float}
use Rattle.class_layout.specs.Trees.{shape_of, ranges_at, sign_at, option_class, optional_of, Stood, members_at, behind_members, options_at}
use Rattle.class_layout.specs.Trees.{behind_options, class_in, next_in, stood_at, align_members, align_in, align_at, WholeMembers}
use Rattle.class_layout.specs.Trees.{WholeOptions, WholeIn, IsWhole}

abbrev Same : Stood → Stood → ℕ → ℕ → Type 0
Same s s' a a' = (s ≡ s') × (a ≡ a')

module _ (t : List ℕ) (g g' : ℕ → Type 0) (f f' : ℕ → Stood) (h h' : ℕ → ℕ)
    (same : (p : ℕ) → g p → g' p → Same (f p) (f' p) (h p) (h' p)) where
  record SameMembers (at n : ℕ) : Type 0 where
    trees : members_at f at n ≡ members_at f' at n
    ends : behind_members f at n ≡ behind_members f' at n
    aligns : align_members h f at n ≡ align_members h' f' at n

  members-one : (at n : ℕ) → WholeMembers g f at n → WholeMembers g' f' at n → SameMembers at n
  unfolding members_at behind_members align_members WholeMembers
  members-one at zero w w' = record { trees = refl; ends = refl; aligns = refl }
  members-one at (suc n) w w' =
      let s = same at w.0 w'.0 in
      let r = members-one (f at).next n w.1 (rw (← s.0) at w'.1) in
      record { trees = rw (← s.0, r.trees); ends = rw (← s.0, r.ends); aligns = rw (← s.0, ← s.1, r.aligns) }

  options-one : (at n : ℕ) → WholeOptions g f t at n → WholeOptions g' f' t at n
      → (options_at f t at n ≡ options_at f' t at n) × (behind_options f t at n ≡ behind_options f' t at n)
  unfolding options_at behind_options WholeOptions
  options-one at zero w w' = (refl, refl)
  options-one at (suc n) w w' =
      let s = same (option_class t at) w.2 w'.2 in
      let r = options-one (f (option_class t at)).next n w.3 (rw (← s.0) at w'.3) in
      (rw (← s.0, r.0), rw (← s.0, r.1))

  abbrev SameIn : ℕ → Shape → Type 0
  SameIn at s =
      Same (record { class = class_in f t at s; next = next_in f t at s }) (record { class = class_in f' t at s; next = next_in f' t at s })
      (align_in h f t at s) (align_in h' f' t at s)

  shape_one : (at : ℕ) (s : Shape) → WholeIn g f t at s → WholeIn g' f' t at s → SameIn at s
  unfolding WholeIn class_in next_in align_in
  shape_one at (bit_field bit_array) w w' = (refl, refl)
  shape_one at (bit_field boolean) w w' = (refl, refl)
  shape_one at (bit_field unsigned_int) w w' = (refl, refl)
  shape_one at (bit_field signed_int) w w' = (refl, refl)
  shape_one at (bit_field float) w w' = (refl, refl)
  shape_one at leb_field w w' = (refl, refl)
  shape_one at signed_leb_field w w' = (refl, refl)
  shape_one at zero_string w w' = (refl, refl)
  shape_one at text w w' = (refl, refl)
  shape_one at blob w w' = (refl, refl)
  shape_one at text_of w w' = (refl, refl)
  shape_one at blob_of w w' = (refl, refl)
  shape_one at members w w' = let r = members-one (at + 3) (u8 t (at + 1)) w.1 w'.1 in (rw (r.trees, r.ends), rw r.aligns)
  shape_one at elements w w' =
      let s = same (at + 4) w.1 w'.1 in
      (ap (λ c. record { class = static_array (u16 t (at + 1)) (u8 t (at + 3)) c.class; next = c.next }) s.0, rw s.1)
  shape_one at elements_of w w' =
      let s = same (at + 3) w.1 w'.1 in
      (ap (λ c. record { class = dynamic_array (u8 t (at + 1)) (u8 t (at + 2)) c.class; next = c.next }) s.0, rw s.1)
  shape_one at option? w w' =
      let s = same (at + 3 + 18 * u8 t (at + 2)) w.1 w'.1 in
      let rs = ranges_at t (at + 3) (u8 t (at + 2)) in
      (ap (λ c. record { class = optional_of (u8 t (at + 1)) (sign_at t (at + 3)) rs c.class; next = c.next }) s.0, refl)
  shape_one at options w w' = let r = options-one (at + 3) (u8 t (at + 2)) w.1 w'.1 in (rw (r.0, r.1), refl)

pub one : (d e : ℕ) (t : List ℕ) (at : ℕ) → IsWhole d t at → IsWhole e t at
    → Same (stood_at d t at) (stood_at e t at) (align_at d t at) (align_at e t at)
unfolding IsWhole stood_at align_at
one zero e t at w w' = absurd w
one (suc d) zero t at w w' = absurd w'
one (suc d) (suc e) t at w w' =
    shape_one t (IsWhole d t) (IsWhole e t) (stood_at d t) (stood_at e t) (align_at d t) (align_at e t)
    (λ p v v'. one d e t p v v') at (shape_of (u8 t at)) w.parts w'.parts
