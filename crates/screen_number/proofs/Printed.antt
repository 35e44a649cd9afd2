-- Laws of text that is safe to show: texts of printable ASCII are, whatever stands beside them, and numbers and columns are such texts.
-- In order: joined; safe; digits; columns; a text that is computed.
use mathlib.Core.Logic.{⊎_elim}
use mathlib.Core.List.{List, [], ◌∷◌, ◌++◌}
use mathlib.Core.Bool.{Bool, true, false}
use Prim.Native.String.{String}
use Prim.Native.Nat.{ℕ, zero, suc, ◌-◌, ◌/◌, ◌%◌, ◌^◌, ◌<◌, ◌≤◌}
use native.Mathlib.Omega.{arith}
use lib.ListN.{length}
use lib.Dec.{T, ltb, leb, leb→le}
use Rattle.facts.proofs.Numbers.{lt-or-ge}
use Rattle.facts.proofs.Every.{both, both_left, both_right}
use Rattle.screen_number.specs.Number.{bytes, decimal_of, decimal, signed_decimal, minus, glyph, hex, times, blank, right, left, zeros}
use Rattle.screen_number.specs.Safe.{Visible, Parted, Safe}
use Rattle.screen_number.proofs.Decimal.{one-digit, more-digits}
use Rattle.screen_number.proofs.Laid.{glyph-low, glyph-high}

abbrev pub Printed : List ℕ → Type 0
Printed [] = Unit {0}
Printed (b ∷ x) = ((32 ≤ b) × (b ≤ 126)) × Printed x

pub printed-append : (x y : List ℕ) → Printed x → Printed y → Printed (x ++ y)
printed-append [] y p q = q
printed-append (b ∷ x) y p q = (p.0, printed-append x y p.1 q)

-- three texts, four, five
module _ (v w x : List ℕ) (p : Printed v) (q : Printed w) (r : Printed x) where
  pub printed-3 : Printed (v ++ w ++ x)
  printed-3 = printed-append (v ++ w) x (printed-append v w p q) r

  module _ (y : List ℕ) (s : Printed y) where
    pub printed-4 : Printed (v ++ w ++ x ++ y)
    printed-4 = printed-append (v ++ w ++ x) y printed-3 s

    pub printed-5 : (z : List ℕ) → Printed z → Printed (v ++ w ++ x ++ y ++ z)
    printed-5 z t = printed-append (v ++ w ++ x ++ y) z printed-4 t

-- one of two texts
pub printed-either : (b : Bool) (x y : List ℕ) → Printed x → Printed y → Printed (elim b [ true ↦ x | false ↦ y ])
printed-either true x y p q = p
printed-either false x y p q = q

-- Safe texts

printed-visible : (x : List ℕ) → Printed x → Visible x
printed-visible [] p = tt
printed-visible (b ∷ x) p = ((p.0.0, λ e. omega (arith, e, p.0.1)), printed-visible x p.1)

printed-parted : (a : ℕ) (x : List ℕ) → Printed x → Parted a x
printed-parted a [] p = tt
printed-parted a (b ∷ x) p = (λ e l h. omega (arith, l, p.0.1), printed-parted b x p.1)

pub printed-safe : (x : List ℕ) → Printed x → Safe x
printed-safe x p = record { visible = printed-visible x p; parted = λ a. printed-parted a x p }

pub visible-append : (x y : List ℕ) → Visible x → Visible y → Visible (x ++ y)
visible-append [] y p q = q
visible-append (b ∷ x) y p q = (p.0, visible-append x y p.1 q)

parted-append : (a : ℕ) (x y : List ℕ) → Parted a x → ((b : ℕ) → Parted b y) → Parted a (x ++ y)
parted-append a [] y p q = q a
parted-append a (b ∷ x) y p q = (p.0, parted-append b x y p.1 q)

pub safe-append : (x y : List ℕ) → Safe x → Safe y → Safe (x ++ y)
safe-append x y p q = record {
  visible = visible-append x y p.visible q.visible;
  parted = λ a. parted-append a x y (p.parted a) q.parted;
}

-- Digits

digits-printed : (r n : ℕ) → Printed (decimal_of r n)
unfolding decimal_of
digits-printed zero n = tt
digits-printed (suc r) n = ⊎_elim
    (λ (l : n < 10). rw (one-digit r n l) ((omega arith, omega arith), tt))
    (λ (l : 10 ≤ n). rw (more-digits r n l)
    (printed-append (decimal_of r (n / 10)) _ (digits-printed r (n / 10)) ((omega arith, omega arith), tt)))
    (lt-or-ge n 10)

pub decimal-printed : (n : ℕ) → Printed (decimal n)
unfolding decimal
decimal-printed n = digits-printed 20 n

pub signed-printed : (w : ℕ) → Printed (signed_decimal w)
unfolding signed_decimal
signed-printed w =
    printed-either (ltb w (2 ^ 63)) (decimal w) (minus ∷ decimal (2 ^ 64 - w)) (decimal-printed w)
    ((omega arith, omega arith), decimal-printed (2 ^ 64 - w))

glyph-printed : (n : ℕ) → (32 ≤ glyph (n % 16)) × (glyph (n % 16) ≤ 126)
glyph-printed n = ⊎_elim
    (λ (l : n % 16 < 10). rw (← (glyph-low (n % 16) l)) (omega arith, omega (arith, l)))
    (λ (l : 10 ≤ n % 16). rw (← (glyph-high (n % 16) l)) (omega arith, omega arith))
    (lt-or-ge (n % 16) 10)

pub hex-printed : (k n : ℕ) → Printed (hex k n)
unfolding hex
hex-printed zero n = tt
hex-printed (suc k) n = printed-append (hex k (n / 16)) _ (hex-printed k (n / 16)) (glyph-printed n, tt)

-- Columns

times-printed : (n b : ℕ) → 32 ≤ b → b ≤ 126 → Printed (times n b)
unfolding times
times-printed zero b l h = tt
times-printed (suc n) b l h = ((l, h), times-printed n b l h)

pub right-printed : (w : ℕ) (x : List ℕ) → Printed x → Printed (right w x)
unfolding right
right-printed w x p = printed-append (times (w - length x) blank) x (times-printed (w - length x) blank (omega arith) (omega arith)) p

pub left-printed : (w : ℕ) (x : List ℕ) → Printed x → Printed (left w x)
unfolding left
left-printed w x p = printed-append x (times (w - length x) blank) p (times-printed (w - length x) blank (omega arith) (omega arith))

pub zeros-printed : (w n : ℕ) → Printed (zeros w n)
unfolding zeros
zeros-printed w n =
    printed-append (times (w - length (decimal n)) 48) (decimal n)
    (times-printed (w - length (decimal n)) 48 (omega arith) (omega arith)) (decimal-printed n)

-- A text that is computed

unfoldable pub all_printed : List ℕ → Bool
all_printed [] = true
all_printed (b ∷ x) = both (both (leb 32 b) (leb b 126)) (all_printed x)

pub all-printed : (x : List ℕ) → T (all_printed x) → Printed x
unfolding all_printed
all-printed [] h = tt
all-printed (b ∷ x) h =
    let t = both_left (both (leb 32 b) (leb b 126)) (all_printed x) h in (
      (leb→le 32 b (both_left (leb 32 b) (leb b 126) t), leb→le b 126 (both_right (leb 32 b) (leb b 126) t)),
      all-printed x (both_right (both (leb 32 b) (leb b 126)) (all_printed x) h),
    )

-- one that is quoted here
pub given-printed : (s : String) → T (all_printed (bytes s)) → Printed (bytes s)
given-printed s h = all-printed (bytes s) h
