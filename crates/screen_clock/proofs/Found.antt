-- The walk from record to record finds what stands among the table's fragments: between where a fragment opens and where it ends no record
-- is of kinds 1 to 5. In order: the walk; past the end; over records that open nothing; over the fragments; over a table.
use Rattle.std.specs.Prelude.{Option, None, Some}
use mathlib.Core.Path.{◌≡◌, refl, sym, ap, ◌∙◌}
use mathlib.Core.List.{List, [], ◌∷◌}
use mathlib.Core.Bool.{Bool, true, false}
use Prim.Native.Nat.{ℕ, zero, suc, ◌+◌, ◌-◌, ◌<◌, ◌≤◌}
use native.Mathlib.Nat.{zero-add, suc-add}
use native.Mathlib.Omega.{arith}
use borrow.Author.Tests.{ltb-true, ltb-false}
use lib.ListN.{length, get_or-eq_default}
use lib.Dec.{ltb}
use Rattle.rules.specs.Record.{u8, layouts}
use Rattle.class_layout.specs.Numbers.{next_record}
use Rattle.class_layout.specs.Fragments.{opening_size, roots_of, behind_fragment, fragments_from, fragments_of, first_of, Fragment, All}
use Rattle.class_layout.specs.Fragments.{AllFragments}
use Rattle.class_layout.proofs.Numbers.{Row, next-onward}
use Rattle.class_layout.proofs.Records.{size-at}
use Rattle.class_layout.proofs.RootNumbers.{opening-bytes, roots-passed, records_before}

-- the first of n records from a byte on that passes a test
unfoldable pub found : (ℕ → Bool) → List ℕ → ℕ → ℕ → Option ℕ
found f t zero at = None
found f t (suc n) at = elim (f at) [ true ↦ Some at | false ↦ found f t n (next_record t at) ]

found-on : (f : ℕ → Bool) (t : List ℕ) (n at : ℕ) → f at ≡ false → found f t (suc n) at ≡ found f t n (next_record t at)
unfolding found
found-on f t n at h = simp (found, h)

found_here : (f : ℕ → Bool) (t : List ℕ) (n at : ℕ) → f at ≡ true → found f t (suc n) at ≡ Some at
unfolding found
found_here f t n at h = simp (found, h)

pub first-here : (f : ℕ → Bool) (at : ℕ) (os : List ℕ) → f at ≡ true → first_of f (at ∷ os) ≡ Some at
unfolding first_of
first-here f at os h = simp (first_of, h)

pub first_on : (f : ℕ → Bool) (at : ℕ) (os : List ℕ) → f at ≡ false → first_of f (at ∷ os) ≡ first_of f os
unfolding first_of
first_on f at os h = simp (first_of, h)

row_low : (t : List ℕ) (m p q : ℕ) → Row t p m q → p + m ≤ q
unfolding Row
row_low t zero p q r = omega (arith, r)
row_low t (suc m) p q r = omega (arith, row_low t m (next_record t p) q r.1, next-onward t p)

-- A test that no record passes which opens no fragment, and none past the table's end
module _ (f : ℕ → Bool) (t : List ℕ) (opens : (p : ℕ) → 5 < u8 t p → f p ≡ false) (ends : (p : ℕ) → length t ≤ p → f p ≡ false) where
  found-past : (n at : ℕ) → length t ≤ at → found f t n at ≡ None
  unfolding found
  found-past zero at h = refl
  found-past (suc n) at h = found-on f t n at (ends at h) ∙ found-past n (next_record t at) (omega (arith, next-onward t at))

  found-row : (m n p q : ℕ) → Row t p m q → found f t (m + n) p ≡ found f t n q
  unfolding Row
  found-row zero n p q r = rw (zero-add n, r)
  found-row (suc m) n p q r =
      rw (suc-add m n) (found-on f t (m + n) p (opens p r.0) ∙ found-row m n (next_record t p) q r.1)

  -- behind a fragment
  found-behind : (n at : ℕ) → Fragment t at → length t ≤ at + suc n → f at ≡ false
      → found f t (suc n) at ≡ found f t (n - records_before t at (length (roots_of (u8 t at)))) (behind_fragment t at)
  found-behind n at o l h =
      let k = records_before t at (length (roots_of (u8 t at))) in
      let row = (roots-passed t at o).row in
      let next : next_record t at ≡ at + opening_size (u8 t at) = ap (λ s. at + s) (opening-bytes t at o) in
      let all : k + (n - k) ≡ n =
      omega (arith, row_low t k (at + opening_size (u8 t at)) (behind_fragment t at) row, next, next-onward t at, o.within) in
      found-on f t n at h ∙ ap (λ p. found f t n p) next ∙ ap (λ j. found f t j (at + opening_size (u8 t at))) (sym all)
      ∙ found-row k (n - k) (at + opening_size (u8 t at)) (behind_fragment t at) row

  abbrev Rest : ℕ → Type 0
  Rest left =
      (n at : ℕ) → length t ≤ at + left → length t ≤ at + n → All (Fragment t) (fragments_from left t at)
      → found f t n at ≡ first_of f (fragments_from left t at)

  -- a fragment and those behind it
  found-one : (left : ℕ) → Rest left → (n at : ℕ) → length t ≤ at + suc left → length t ≤ at + n → at < length t → Fragment t at
      → All (Fragment t) (fragments_from left t (behind_fragment t at)) → (b : Bool) → f at ≡ b
      → found f t n at ≡ first_of f (at ∷ fragments_from left t (behind_fragment t at))
  found-one left rec zero at l m h o os b e = absurd (omega (arith, m, h))
  found-one left rec (suc n) at l m h o os true e = found_here f t n at e ∙ sym (first-here f at _ e)
  found-one left rec (suc n) at l m h o os false e =
      let k = records_before t at (length (roots_of (u8 t at))) in
      let row = row_low t k (at + opening_size (u8 t at)) (behind_fragment t at) (roots-passed t at o).row in
      let next : next_record t at ≡ at + opening_size (u8 t at) = ap (λ s. at + s) (opening-bytes t at o) in
      found-behind n at o m e
      ∙ rec (n - k) (behind_fragment t at) (omega (arith, l, o.onward)) (omega (arith, m, row, next, next-onward t at)) os
      ∙ sym (first_on f at _ e)

  found-fragments : (left : ℕ) → Rest left
  unfolding fragments_from first_of
  found-fragments zero n at l m os = found-past n at (omega (arith, l))
  found-fragments (suc left) n at l m os = by (ltb at (length t)) refl (λ n at l m os. found-fragments left n at l m os) os
    where
      by : (b : Bool) → ltb at (length t) ≡ b → Rest left
          → All (Fragment t) (elim b [ true ↦ at ∷ fragments_from left t (behind_fragment t at) | false ↦ [] ])
          → found f t n at ≡ first_of f (elim b [ true ↦ at ∷ fragments_from left t (behind_fragment t at) | false ↦ [] ])
      by true e rec os = found-one left rec n at l m (ltb-true at (length t) e) os.0 os.1 (f at) refl
      by false e rec os = found-past n at (ltb-false at (length t) e)

  -- a table that begins with its preamble
  pub found_all : u8 t 0 ≡ 1 → AllFragments t (fragments_of t) → f 0 ≡ false → found f t (length t) 0 ≡ first_of f (fragments_of t)
  unfolding fragments_of layouts
  found_all first os h = by (length t) refl
    where
      by : (n : ℕ) → n ≡ length t → found f t n 0 ≡ first_of f (fragments_from (length t - 2) t 2)
      by zero e =
          let none : u8 t 0 ≡ 0 = unfold u8 in get_or-eq_default t 0 {n = 0} (omega (arith, e)) in
          absurd (omega (arith, first, none))
      by (suc n) e =
          found-on f t n 0 h ∙ ap (λ s. found f t n (0 + s)) (size-at t 0 1 first)
          ∙ found-fragments (length t - 2) n 2 (omega arith) (omega (arith, e)) os
