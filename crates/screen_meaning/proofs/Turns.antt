-- Laws of seconds. In order: ten times a part, turn by turn; nine digits, one by one; the text.
use mathlib.Core.Path.{◌≡◌, sym, ap, ◌∙◌}
use mathlib.Core.List.{[], ◌++◌}
use Prim.Native.Nat.{ℕ, ◌+◌, ◌-◌, ◌*◌, ◌/◌, ◌%◌, ◌^◌, ◌<◌, ◌≤◌}
use native.Mathlib.Nat.{div-add-mod', mod-lt, div-lt_iff_lt-mul, div-eq_of_lt-le, pow-suc}
use native.Mathlib.Numerals.{add-one}
use native.Mathlib.Omega.{arith}
use borrow.Author.Tests.{eq-eqb, ne_eqb}
use lib.ListN.{length}
use Rattle.screen_number.specs.Number.{bytes, decimal, zeros}
use Rattle.screen_number.proofs.Decimal.{decimal-length}
use Rattle.screen_number.proofs.Laid.{zeros-length}
use Rattle.screen_meaning.specs.Seconds.{seconds, nanos}

-- so often the frequency goes into so many parts, and so much is left
pub record Turned (f p w l t : ℕ) : Type 0 where
  pub sum : w * f + l ≡ p * t
  pub less : l < f
  pub few : w ≤ t

pub turn-over : (f p w l t v m : ℕ) → p < f → Turned f p w l t → f - p ≤ l → v ≡ w + 1 → m ≡ l - (f - p) → Turned f p v m (t + 1)
turn-over f p w l t v m h g k ev em =
    let a : (w + 1) * f ≡ w * f + f = omega arith in
    let b : p * (t + 1) ≡ p * t + p = omega arith in
    rw (ev, em) record {
      sum = omega (arith, a, b, g.sum, g.less);
      less = omega (arith, g.less);
      few = omega (arith, g.few);
    }

pub turn_on : (f p w l t v m : ℕ) → p < f → Turned f p w l t → l < f - p → v ≡ w → m ≡ l + p → Turned f p v m (t + 1)
turn_on f p w l t v m h g k ev em =
    let b : p * (t + 1) ≡ p * t + p = omega arith in
    rw (ev, em) record {
      sum = omega (arith, b, g.sum);
      less = omega arith;
      few = omega (arith, g.few);
    }

pub turn-none : (f p : ℕ) → p < f → Turned f p 0 0 0
turn-none f p h = record { sum = omega arith; less = omega arith; few = omega arith }

-- what goes into it, and what is left
quotient : (f w l n : ℕ) → w * f + l ≡ n → l < f → w ≡ n / f
quotient f w l n e h =
    let a : (w + 1) * f ≡ w * f + f = omega arith in
    sym (div-eq_of_lt-le f (omega (arith, e)) (omega (arith, e, a)))

remainder : (f w l n : ℕ) → w * f + l ≡ n → l < f → l ≡ n % f
remainder f w l n e h =
    let q : w * f ≡ n / f * f = ap (λ z. z * f) (quotient f w l n e h) in
    omega (arith, e, q, div-add-mod' n f)

pub ten-whole : (f p w l t : ℕ) → Turned f p w l t → t ≡ 10 → w ≡ p * 10 / f
ten-whole f p w l t g e = quotient f w l (p * 10) (g.sum ∙ ap (λ k. p * k) e) g.less

pub ten-left : (f p w l t : ℕ) → Turned f p w l t → t ≡ 10 → l ≡ p * 10 % f
ten-left f p w l t g e = remainder f w l (p * 10) (g.sum ∙ ap (λ k. p * k) e) g.less

-- so many digits of a part
pub record Cut (f p l n d : ℕ) : Type 0 where
  pub sum : n * f + l ≡ p * 10 ^ d
  pub less : l < f
  pub few : n < 10 ^ d

pub digit-few : (f l : ℕ) → l < f → l * 10 / f < 10
digit-few f l h = (div-lt_iff_lt-mul {k = f} {x = l * 10} {y = 10} (omega arith)).1 (omega arith)

pub cut-more : (f p l n d w r : ℕ) → Cut f p l n d → w ≡ l * 10 / f → r ≡ l * 10 % f → Cut f p r (n * 10 + w) (d + 1)
cut-more f p l n d w r g ew er =
    let t : 10 ^ (d + 1) ≡ 10 ^ d * 10 = ap (λ k. 10 ^ k) (add-one d) ∙ pow-suc 10 d in
    let a : (n * 10 + w) * f ≡ n * f * 10 + w * f = omega arith in
    let b : p * 10 ^ (d + 1) ≡ p * 10 ^ d * 10 = ap (λ k. p * k) t ∙ omega arith in
    let q : w * f ≡ l * 10 / f * f = ap (λ z. z * f) ew in record {
      sum = omega (arith, a, b, q, er, g.sum, div-add-mod' (l * 10) f);
      less = rw er (mod-lt (l * 10) (omega (arith, g.less)));
      few = omega (arith, t, g.few, ew, digit-few f l g.less);
    }

-- the text
pub no-seconds : (f v : ℕ) → f ≡ 0 → [] ≡ seconds f v
unfolding seconds
no-seconds f v h = simp (seconds, eq-eqb f 0 h)

pub some-seconds : (f v n : ℕ) → (f ≡ 0 → ⊥) → n ≡ v % f * 1000000000 / f
    → decimal (v / f) ++ bytes "." ++ zeros 9 n ++ bytes " s" ≡ seconds f v
unfolding seconds nanos
some-seconds f v n h e = rw e (simp (seconds, ne_eqb f 0 h, nanos))

pub zeros-most : (w n : ℕ) → w ≤ 20 → length (zeros w n) ≤ 20
zeros-most w n h = omega (arith, zeros-length w n, decimal-length n)
