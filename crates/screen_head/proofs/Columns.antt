-- Laws of the columns of a head: how long each is at most, and what the code lays of each.
use mathlib.Core.Path.{◌≡◌, refl, ap, ◌∙◌}
use mathlib.Core.List.{List, [], ◌∷◌, ◌++◌}
use mathlib.Core.Bool.{Bool, true, false}
use Prim.Native.Nat.{ℕ, ◌+◌, ◌-◌, ◌≤◌}
use native.Mathlib.Omega.{arith}
use lib.ListN.{length, length-append}
use Rattle.screen_number.specs.Number.{decimal, signed_decimal, blank, left, right, times}
use Rattle.screen_number.proofs.Decimal.{decimal-length, signed-length}
use Rattle.screen_number.proofs.Laid.{right-length, length-times}
use Rattle.screen_head.specs.Kinds.{row_of}
use Rattle.screen_head.specs.Head.{column, value_of_kind, shown_value, has_sign}

-- the column of a kind's word
pub left-fills : (w n : ℕ) (x : List ℕ) → n ≡ w - length x → x ++ times n blank ≡ left w x
unfolding left
left-fills w n x e = ap (λ k. x ++ times k blank) e

pub left-length : (w : ℕ) (x : List ℕ) → length (left w x) ≡ length x + (w - length x)
unfolding left
left-length w x = length-append x (times (w - length x) blank) ∙ ap (λ k. length x + k) (length-times (w - length x) blank)

-- a number's column
pub column-length : (w n : ℕ) → w ≤ 20 → length (column w (decimal n)) ≤ 21
unfolding column
column-length w n h = omega (arith, right-length w (decimal n), decimal-length n)

pub right-room : (w n : ℕ) → w ≤ 20 → length (right w (decimal n)) ≤ 20
right-room w n h = omega (arith, right-length w (decimal n), decimal-length n)

pub right-room-21 : (n : ℕ) → length (right 21 (decimal n)) ≤ 21
right-room-21 n = omega (arith, right-length 21 (decimal n), decimal-length n)

pub signed-room : (n : ℕ) → length (right 21 (signed_decimal n)) ≤ 21
signed-room n = omega (arith, right-length 21 (signed_decimal n), signed-length n)

pub column-is : (w : ℕ) (x : List ℕ) → (blank ∷ []) ++ right w x ≡ column w x
unfolding column
column-is w x = refl

-- a value's
pub value-signed : (k v : ℕ) → has_sign (row_of k).shows ≡ true → signed_decimal v ≡ value_of_kind k v
unfolding value_of_kind shown_value
value-signed k v e = simp (value_of_kind, shown_value, e)

pub value-plain : (k v : ℕ) → has_sign (row_of k).shows ≡ false → decimal v ≡ value_of_kind k v
unfolding value_of_kind shown_value
value-plain k v e = simp (value_of_kind, shown_value, e)

value-short : (b : Bool) (v : ℕ) → length {A = ℕ} (elim b [ true ↦ signed_decimal v | false ↦ decimal v ]) ≤ 21
value-short true v = signed-length v
value-short false v = omega (arith, decimal-length v)

pub value-length : (k v : ℕ) → length (column 21 (value_of_kind k v)) ≤ 22
unfolding column value_of_kind shown_value
value-length k v = omega (
  arith,
  right-length 21 (shown_value (row_of k).shows v),
  value-short (has_sign (row_of k).shows) v,
)
