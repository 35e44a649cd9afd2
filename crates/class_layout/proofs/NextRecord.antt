-- The byte behind a record, by the table of body lengths: of a kind that there is, behind its body; of any other, behind the byte itself.
use Rattle.std.specs.Prelude.{Option, Some, None}
use mathlib.Core.Path.{◌≡◌, refl, sym, subst}
use Prim.Native.Nat.{ℕ, suc, ◌+◌, ◌≤◌, ◌<◌}
use native.Mathlib.Omega.{arith}
use mathlib.Core.List.{List, []}
use mathlib.Core.Bool.{Bool, true, false}
use mathlib.Core.Logic.{⊎_elim}
use lib.Dec.{T, leb, eqb, leb→le, eqb→eq}
use lib.ListN.{drop, get_or, get_or-eq_default}
use Rattle.rules.specs.Record.{u8, size, Layout, no, bits_layout, layouts}
use Rattle.table_offsets.specs.Bodies.{known, body_in, body_of}
use Rattle.facts.proofs.Every.{both, both_left, both_right}
use Rattle.facts.proofs.Numbers.{lt-or-ge}
use Rattle.class_layout.specs.Numbers.{next_record}
use Rattle.class_layout.proofs.Records.{each_row, row, size-at}

-- a row has few bytes, and none where it says nothing
abbrev small_row : Layout → Bool
small_row l = both (leb l.0 17) (elim (known (l.1 [])) [ true ↦ true | false ↦ eqb l.0 0 ])

rows-small : T (each_row (λ k l. small_row l) 0 layouts)
unfolding layouts bits_layout no known
rows-small = tt

past-small : (k : ℕ) → 35 ≤ k → T (small_row (get_or layouts k no))
unfolding layouts no known
past-small k h = subst (λ (l : Layout). T (small_row l)) (sym (get_or-eq_default layouts no {n = k} h)) tt

row_small : (k : ℕ) → T (small_row (get_or layouts k no))
row_small k = ⊎_elim
    (λ (l : k < 35). row (λ k l. small_row l) 0 layouts rows-small k (unfold layouts in l))
    (λ (l : 35 ≤ k). past-small k l)
    (lt-or-ge k 35)

row-bytes : (l : Layout) (n : ℕ) → T (small_row l) → body_in l ≡ Some n → (l.0 ≡ n) × (n ≤ 17)
unfolding body_in
row-bytes l n s = by (known (l.1 []))
  where
    small : l.0 ≤ 17
    small = leb→le l.0 17 (both_left (leb l.0 17) _ s)

    by : (b : Bool) → elim b [ true ↦ Some l.0 | false ↦ None ] ≡ Some n → (l.0 ≡ n) × (n ≤ 17)
    by true e = let same : l.0 ≡ n = cc in (same, omega (arith, small))
    by false e = let z : ◌≡◌ {A = ℕ} 0 1 = cc in absurd (omega arith)

row-unknown : (l : Layout) → T (small_row l) → body_in l ≡ None → l.0 ≡ 0
unfolding body_in
row-unknown l s = by (known (l.1 [])) (both_right (leb l.0 17) _ s)
  where
    by : (b : Bool) → T (elim b [ true ↦ true | false ↦ eqb l.0 0 ]) → ◌≡◌ {A = Option ℕ} (elim b [ true ↦ Some l.0 | false ↦ None ]) None
        → l.0 ≡ 0
    by true k e = let z : ◌≡◌ {A = ℕ} 0 1 = cc in absurd (omega arith)
    by false k e = eqb→eq l.0 0 k

module _ (t : List ℕ) (at : ℕ) where
  own-size : size (drop at t) ≡ suc (get_or layouts (u8 t at) no).0
  own-size = size-at t at (u8 t at) refl

  pub next_known : (n : ℕ) → body_of (u8 t at) ≡ Some n → (next_record t at ≡ at + 1 + n) × (n ≤ 17)
  unfolding body_of
  next_known n e = let b = row-bytes (get_or layouts (u8 t at) no) n (row_small (u8 t at)) e in (omega (arith, own-size, b.0), b.1)

  pub next-unknown : body_of (u8 t at) ≡ None → next_record t at ≡ at + 1
  unfolding body_of
  next-unknown e = omega (arith, own-size, row-unknown (get_or layouts (u8 t at) no) (row_small (u8 t at)) e)
