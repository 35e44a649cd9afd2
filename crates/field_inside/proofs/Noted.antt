-- What stands whole at some depth can be looked into by the notes, with no depth: each class that it holds begins in the table and ends
-- where the notes say. And a class that holds fields has the byte behind its kind in the table.
use mathlib.Core.Path.{◌≡◌, refl, sym, ap}
use Prim.Native.Nat.{ℕ, zero, suc, ◌+◌, ◌-◌, ◌*◌, ◌≤◌, ◌<◌}
use native.Mathlib.Omega.{arith}
use lib.ListN.{length}
use mathlib.Core.List.{List}
use mathlib.Core.Bool.{true, false}
use Rattle.rules.specs.Record.{Shape, bit_field, leb_field, signed_leb_field, zero_string, text, blob, text_of, blob_of, members, elements}
use Rattle.rules.specs.Record.{elements_of, option?, options, u8}
use Rattle.rules.specs.Class.{Sign, any_holds}
use Rattle.facts.proofs.Cases.{◌▷◌, below}
use Rattle.class_layout.specs.Trees.{shape_of, shapes, record_size, ranges_at, option_class, Stood, stood_at, next_at}
use Rattle.class_layout.specs.Trees.{WholeMembers, WholeOptions, WholeIn, IsWhole, KindsIn}
use Rattle.class_layout.specs.Notes.{Notes, end_noted, Prepared}
use Rattle.class_layout.proofs.Announced.{same-kinds}
use Rattle.class_layout.proofs.Turns.{whole-inside}
use Rattle.class_layout.proofs.Aligned.{aligned}
use Rattle.field_choice.specs.declared.Choice.TheVariants.{Class}
use Rattle.field_choice.specs.Choice.{InTable, option_from}
use Rattle.field_inside.specs.Inside.{HolderStands}

-- f and f' agree on where the classes end that stand whole by g, and these do by g' too
module _ (t : List ℕ) (g g' : ℕ → Type 0) (f f' : ℕ → Stood) (each : (p : ℕ) → g p → g' p)
    (same : (p : ℕ) → g p → (f p).next ≡ (f' p).next) where
  members-too : (at n : ℕ) → WholeMembers g f at n → WholeMembers g' f' at n
  unfolding WholeMembers
  members-too at zero w = tt
  members-too at (suc n) w = (each at w.0, rw (← same at w.0) (members-too (f at).next n w.1))

  options-too : (at n : ℕ) → WholeOptions g f t at n → WholeOptions g' f' t at n
  unfolding WholeOptions
  options-too at zero w = tt
  options-too at (suc n) w =
      let e = same (option_class t at) w.2 in
      (w.0, w.1, each (option_class t at) w.2, rw (← e) (options-too (f (option_class t at)).next n w.3))

  shape-too : (at : ℕ) (h : Shape) → WholeIn g f t at h → WholeIn g' f' t at h
  unfolding WholeIn
  shape-too at (bit_field k) w = w
  shape-too at leb_field w = w
  shape-too at signed_leb_field w = w
  shape-too at zero_string w = w
  shape-too at text w = w
  shape-too at blob w = w
  shape-too at text_of w = w
  shape-too at blob_of w = w
  shape-too at members w = (w.0, members-too (at + 3) (u8 t (at + 1)) w.1)
  shape-too at elements w = (w.0, each (at + 4) w.1)
  shape-too at elements_of w = (w.0, each (at + 3) w.1)
  shape-too at option? w = (w.0, each (at + 3 + 18 * u8 t (at + 2)) w.1)
  shape-too at options w = (w.0, options-too (at + 3) (u8 t (at + 2)) w.1)

  -- the same option is found
  pub option-same : (s : Sign) (v k at n : ℕ) → WholeOptions g f t at n → option_from f' t s v k at n ≡ option_from f t s v k at n
  unfolding WholeOptions option_from
  option-same s v k at zero w = refl
  option-same s v k at (suc n) w =
      let e = same (option_class t at) w.2 in
      let p = option_class t at in
      let rest : option_from f' t s v (k + 1) (f' p).next n ≡ option_from f t s v (k + 1) (f p).next n =
      rw (← e) (option-same s v (k + 1) (f p).next n w.3) in
      ap (λ o. elim (any_holds s v (ranges_at t (at + 2) (u8 t (at + 1)))) [ true ↦ Class (option_class t at) k | false ↦ o ]) rest

module _ (t : List ℕ) (x : Notes) (r : Prepared t x) where
  -- the notes say where a class ends
  pub end_same : (d p : ℕ) → IsWhole d t p → next_at d t p ≡ (end_noted x.sizes p).next
  unfolding end_noted
  end_same d p w = sym (r.classes d p w).size

  parts-too : (d at : ℕ) → IsWhole (suc d) t at → WholeIn (InTable t) (end_noted x.sizes) t at (shape_of (u8 t at))
  unfolding IsWhole
  parts-too d at w =
      shape-too t (IsWhole d t) (InTable t) (stood_at d t) (end_noted x.sizes) (λ p v. whole-inside d t p v) (end_same d) at
      (shape_of (u8 t at)) w.parts

  kinds-too : (d at : ℕ) → IsWhole (suc d) t at → KindsIn (end_noted x.sizes) t at (shape_of (u8 t at))
  unfolding IsWhole
  kinds-too d at w =
      same-kinds t (IsWhole d t) (stood_at d t) (end_noted x.sizes) (end_same d) at (shape_of (u8 t at)) w.parts w.kinds

  pub opens : (d at : ℕ) → IsWhole d t at → 28 ≤ u8 t at → HolderStands t x at
  unfolding IsWhole
  opens zero at w k = absurd w
  opens (suc d) at w k = record {
    limit = r.sized.limit;
    sizes = r.sized.room;
    aligns = r.room;
    kind = k;
    stands = record {
      low = w.low;
      high = w.high;
      there = w.there;
      parts = parts-too d at w;
      kinds = kinds-too d at w;
      begins = w.begins;
    };
    align = rw (r.classes (suc d) at w).align (aligned (suc d) t at w).1;
  }

-- kinds 28 to 32 have a byte or more behind their kind
held-size : (k : ℕ) → 28 ≤ k → k ≤ 32 → 2 ≤ record_size (shape_of k)
unfolding shape_of shapes record_size
held-size k l h = at-28 (k - 28) (omega arith) k (omega arith)
  where
    at-28 : (i : ℕ) → i < 5 → (k : ℕ) → k ≡ 28 + i → 2 ≤ record_size (shape_of k)
    at-28 i h k e = rw e
        (below (λ i. 2 ≤ record_size (shape_of (28 + i))) 5 (omega arith ▷ omega arith ▷ omega arith ▷ omega arith ▷ omega arith ▷ tt) i h)

-- so the slot that such a class reads stands in the table
pub slot-within : (t : List ℕ) (at d : ℕ) → IsWhole d t at → 28 ≤ u8 t at → at + 2 ≤ length t
unfolding IsWhole
slot-within t at zero w k = absurd w
slot-within t at (suc d) w k = omega (arith, w.there, held-size (u8 t at) k w.high)
