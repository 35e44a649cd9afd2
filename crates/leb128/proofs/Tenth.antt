-- The answer, by what the first nine bytes say: a number that ends within them fits 64 bits, and of a longer one the tenth byte decides.
-- In order: what the nine say; unsigned; signed. A law ends in the answer as the code gives it.
use mathlib.Core.Path.{◌≡◌, sym, ap, ◌∙◌}
use mathlib.Core.Logic.{⊎_elim}
use mathlib.Core.List.{List}
use mathlib.Core.Bool.{true, false}
use Prim.Native.Nat.{ℕ, suc, ◌+◌, ◌-◌, ◌*◌, ◌^◌, ◌<◌, ◌≤◌}
use native.Mathlib.Nat.{lt_of_lt_of_le}
use native.Mathlib.Omega.{arith}
use borrow.Author.Tests.{lt-ltb, le-ltb}
use lib.IntN.{ℤ, pos, negsuc}
use lib.ListN.{length, get_or}
use lib.Pow.{pow_mono}
use Rattle.rules.specs.declared.ByteLength.{ByteLength}
use Rattle.rules.specs.declared.Leb.TheVariants.{Value, Past, Large}
use Rattle.rules.specs.Limits.{leb_limit}
use Rattle.rules.specs.Place.{byte_length}
use Rattle.rules.specs.Bits.{signed, word}
use Rattle.rules.specs.Leb128.{sevens, fit_unsigned, fits64, signed_value, fit_signed, leb_unsigned, leb_signed}
use Rattle.facts.proofs.Numbers.{lt-or-ge, pow-double}
use Rattle.bits.proofs.Signed.{signed_low, signed_high}
use Rattle.leb128.specs.declared.Nine.{Nine}
use Rattle.leb128.specs.declared.Nine.TheVariants.{Ended, Short, GoOn}
use Rattle.leb128.specs.FirstNine.{under, Passed, EndsAfter, NineSay}
use Rattle.leb128.proofs.FirstNine.{next-ends, next-on}

-- what each answer of the first nine bytes means
module _ (bs : List ℕ) {r : Nine} (s : NineSay bs r) where
  pub says-short : r ≡ Short → sevens leb_limit bs ≡ Past
  unfolding NineSay
  says-short e = rw e at s

  pub says-ended : {v n : ℕ} → r ≡ Ended v n → EndsAfter bs v n
  unfolding NineSay
  says-ended e = rw e at s

  pub says_on : {v : ℕ} → r ≡ GoOn v → Passed bs v 9
  unfolding NineSay
  says_on e = rw e at s

-- a tenth byte that goes on
tenth-on : {bs : List ℕ} {v : ℕ} → Passed bs v 9 → (b : ℕ) → 9 < length bs → b ≡ get_or bs 9 0 → 128 ≤ b
    → sevens leb_limit bs ≡ Large
unfolding under sevens
tenth-on p b i e h = next-on p b i e h

-- unsigned
pub fit-value : (v : ℕ) (n : ByteLength) → v < 2 ^ 64 → fit_unsigned (Value v n) ≡ Value v n
unfolding fit_unsigned
fit-value v n h = simp (fit_unsigned, lt-ltb v (2 ^ 64) h)

pub fit-large : (v : ℕ) (n : ByteLength) → 2 ^ 64 ≤ v → fit_unsigned (Value v n) ≡ Large
unfolding fit_unsigned
fit-large v n h = simp (fit_unsigned, le-ltb v (2 ^ 64) h)

module _ (bs : List ℕ) where
  pub unsigned-past : sevens leb_limit bs ≡ Past → Past ≡ leb_unsigned bs
  unfolding leb_unsigned fit_unsigned
  unsigned-past e = rw e

  pub unsigned-ended : {v n : ℕ} → EndsAfter bs v n → Value v (byte_length n) ≡ leb_unsigned bs
  unfolding leb_unsigned
  unsigned-ended {v} {n} a =
      let fits : v < 2 ^ 64 = lt_of_lt_of_le a.small (pow_mono {i = 7 * n} {j = 64} (omega (arith, a.most))) in
      rw a.whole (sym (fit-value v (byte_length n) fits))

  module _ {v : ℕ} (p : Passed bs v 9) (b : ℕ) (i : 9 < length bs) (e : b ≡ get_or bs 9 0) where
    pub unsigned-tenth : b ≤ 1 → Value (v + b * 2 ^ 63) (byte_length 10) ≡ leb_unsigned bs
    unfolding leb_unsigned
    unsigned-tenth h = rw (next-ends p b i e (omega arith)) (sym (fit-value _ _ (omega (arith, p.small))))

    pub unsigned-large : 1 < b → Large ≡ leb_unsigned bs
    unfolding leb_unsigned fit_unsigned
    unsigned-large h = ⊎_elim
        (λ (l : b < 128). rw (next-ends p b i e l) (sym (fit-large (v + b * 2 ^ 63) (byte_length 10) (omega arith))))
        (λ (l : 128 ≤ b). rw (tenth-on p b i e l))
        (lt-or-ge b 128)

-- signed
pub word_value : (z : ℤ) (n : ByteLength) → fits64 z ≡ true → signed_value z n ≡ Value (word z) n
unfolding signed_value
word_value z n h = simp (signed_value, h)

pub no_word : (z : ℤ) (n : ByteLength) → fits64 z ≡ false → signed_value z n ≡ Large
unfolding signed_value
no_word z n h = simp (signed_value, h)

signed-fits : (v m : ℕ) → 0 < m → m ≤ 64 → v < 2 ^ m → fits64 (signed v m) ≡ true
unfolding fits64
signed-fits v m h₀ h₁ hv =
    let half : 2 ^ (m - 1) ≤ 2 ^ 63 = pow_mono {i = m - 1} {j = 63} (omega arith) in
    ⊎_elim
    (λ (l : v < 2 ^ (m - 1)). rw (signed_low v m l) (lt-ltb v (2 ^ 63) (omega arith)))
    (λ (l : 2 ^ (m - 1) ≤ v). rw (signed_high v m l hv) (lt-ltb (2 ^ m - suc v) (2 ^ 63) (omega (arith, pow-double m h₀))))
    (lt-or-ge v (2 ^ (m - 1)))

-- of seventy bits those numbers fit whose top seven are all alike
module _ (v : ℕ) (n : ByteLength) where
  seventy-zeros : v < 2 ^ 63 → signed_value (signed v 70) n ≡ Value v n
  unfolding fits64 word
  seventy-zeros h = rw (signed_low v 70 (omega arith)) (word_value (pos v) n (lt-ltb v (2 ^ 63) h))

  seventy-ones : 127 * 2 ^ 63 ≤ v → v < 2 ^ 70 → signed_value (signed v 70) n ≡ Value (2 ^ 64 - suc (2 ^ 70 - suc v)) n
  unfolding fits64 word
  seventy-ones h₀ h₁ =
      let fits = lt-ltb (2 ^ 70 - suc v) (2 ^ 63) (omega arith) in
      rw (signed_high v 70 (omega arith) h₁) (word_value (negsuc (2 ^ 70 - suc v)) n fits)

  seventy-mixed : 2 ^ 63 ≤ v → v < 127 * 2 ^ 63 → signed_value (signed v 70) n ≡ Large
  unfolding fits64
  seventy-mixed h₀ h₁ = ⊎_elim
      (λ (l : v < 2 ^ 69). rw (signed_low v 70 l) (no_word (pos v) n (le-ltb v (2 ^ 63) h₀)))
      (λ (l : 2 ^ 69 ≤ v).
      let below-least = le-ltb (2 ^ 70 - suc v) (2 ^ 63) (omega arith) in
      rw (signed_high v 70 l (omega arith)) (no_word (negsuc (2 ^ 70 - suc v)) n below-least))
      (lt-or-ge v (2 ^ 69))

module _ (bs : List ℕ) where
  pub signed-past : sevens leb_limit bs ≡ Past → Past ≡ leb_signed bs
  unfolding leb_signed fit_signed
  signed-past e = rw e

  pub signed-ended : {v n w : ℕ} → EndsAfter bs v n → w ≡ word (signed v (7 * n)) → Value w (byte_length n) ≡ leb_signed bs
  unfolding leb_signed fit_signed
  signed-ended {v} {n} a e =
      rw (a.whole, e) (sym (word_value _ _ (signed-fits v (7 * n) (omega (arith, a.some)) (omega (arith, a.most)) a.small)))

  module _ {v : ℕ} (p : Passed bs v 9) (b : ℕ) (i : 9 < length bs) (e : b ≡ get_or bs 9 0) where
    ten : b < 128 → leb_signed bs ≡ signed_value (signed (v + b * 2 ^ 63) 70) (byte_length 10)
    unfolding leb_signed fit_signed
    ten h = rw (next-ends p b i e h)

    pub signed-zeros : b ≡ 0 → Value v (byte_length 10) ≡ leb_signed bs
    signed-zeros h =
        sym (ten (omega arith) ∙ seventy-zeros _ _ (omega (arith, p.small)) ∙ ap (λ x. Value x (byte_length 10)) (omega arith))

    pub signed-ones : b ≡ 127 → Value (v + 2 ^ 63) (byte_length 10) ≡ leb_signed bs
    signed-ones h =
        let small = p.small in
        sym (ten (omega arith) ∙ seventy-ones _ _ (omega arith) (omega arith) ∙ ap (λ x. Value x (byte_length 10)) (omega arith))

    pub signed-large : (b ≡ 0 → ⊥) → (b ≡ 127 → ⊥) → Large ≡ leb_signed bs
    unfolding leb_signed fit_signed
    signed-large h₀ h₁ = ⊎_elim
        (λ (l : b < 128). sym (ten l ∙ seventy-mixed _ _ (omega arith) (omega (arith, p.small))))
        (λ (l : 128 ≤ b). rw (tenth-on p b i e l))
        (lt-or-ge b 128)
