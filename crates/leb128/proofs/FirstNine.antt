-- Laws of a number's first nine bytes. In order: no byte is passed; no byte is left; the next byte ends the number or goes on; the same
-- with the code's sum for the value.
use mathlib.Core.Path.{◌≡◌, refl, sym, ap, ◌∙◌}
use Prim.Native.Nat.{ℕ, suc, ◌+◌, ◌-◌, ◌*◌, ◌%◌, ◌^◌, ◌<◌, ◌≤◌}
use native.Mathlib.Nat.{mod-lt, mod-eq_of_lt, zero-add, mul-one, add-mul, mul_assoc, mul_left_comm, not-suc-le-zero, lt_of_lt_of_le}
use native.Mathlib.Numerals.{add-one}
use native.Mathlib.Omega.{arith}
use mathlib.Core.List.{List, ◌∷◌}
use borrow.Author.Count.{below_more}
use borrow.Author.Tests.{lt-ltb, le-ltb}
use lib.Arith.{digits_lt}
use lib.Dec.{lit<}
use lib.ListN.{length, get_or, drop}
use lib.Pow.{pow-add, pow_mono, shl_exact}
use lib.Seq.{drop-cons, drop-length}
use Rattle.rules.specs.declared.Leb.{Leb}
use Rattle.rules.specs.declared.Leb.TheVariants.{Value, Past, Large}
use Rattle.rules.specs.Limits.{leb_limit}
use Rattle.rules.specs.Place.{byte_length}
use Rattle.rules.specs.Leb128.{below, sevens}
use Rattle.leb128.specs.FirstNine.{under, Passed, EndsAfter}

-- a byte that ends the number, and one that goes on
pub sevens-end : (m b : ℕ) (bs : List ℕ) → b < 128 → sevens (suc m) (b ∷ bs) ≡ Value b (byte_length 1)
unfolding sevens
sevens-end m b bs h = simp (sevens, lt-ltb b 128 h)

pub sevens-on : (m b : ℕ) (bs : List ℕ) → 128 ≤ b → sevens (suc m) (b ∷ bs) ≡ below (b % 128) (sevens m bs)
unfolding sevens
sevens-on m b bs h = simp (sevens, le-ltb b 128 h)

-- seven bits more
pow-seven : (n : ℕ) → 2 ^ (7 * (n + 1)) ≡ 128 * 2 ^ (7 * n)
pow-seven n = let e : 7 * (n + 1) ≡ 7 + 7 * n = omega arith in rw (e, pow-add 2 7 (7 * n))

under_none : (x : Leb) → under 0 0 x ≡ x
unfolding under
under_none (Value w k) = rw (mul-one w, zero-add w, zero-add k.0)
under_none Past = refl
under_none Large = refl

under-below : (v n d : ℕ) (x : Leb) → under v n (below d x) ≡ under (v + d * 2 ^ (7 * n)) (n + 1) x
unfolding under below
under-below v n d (Value w k) =
    let number : v + (d + 128 * w) * 2 ^ (7 * n) ≡ v + d * 2 ^ (7 * n) + w * 2 ^ (7 * (n + 1)) =
    rw (pow-seven n, add-mul d (128 * w) (2 ^ (7 * n))) (omega (arith, mul_assoc 128 w (2 ^ (7 * n)), mul_left_comm w 128 (2 ^ (7 * n)))) in
    let count : n + (k.0 + 1) ≡ n + 1 + k.0 = omega arith in
    rw (number, count)
under-below v n d Past = refl
under-below v n d Large = refl

pub passed_none : (bs : List ℕ) → Passed bs 0 0
passed_none bs =
    record { whole = sym (under_none _); small = lit< tt; most = omega arith; inside = omega arith; on = λ i h. absurd (not-suc-le-zero h) }

-- the code's sum, which loses no bit within nine bytes
abbrev pub more : ℕ → ℕ → ℕ → ℕ
more v n b = v + (b % 128 * 2 ^ (7 * n)) % 2 ^ 64

module _ {bs : List ℕ} {v n : ℕ} (p : Passed bs v n) where
  pub passed-short : length bs ≤ n → sevens leb_limit bs ≡ Past
  unfolding under sevens
  passed-short e =
      let left : leb_limit - n ≡ suc (9 - n) = omega (arith, p.most) in
      let all : n ≡ length bs = omega (arith, p.inside) in
      p.whole ∙ rw (left, all, drop-length bs)

  module _ (b : ℕ) (i : n < length bs) (e : b ≡ get_or bs n 0) where
    next-byte : sevens leb_limit bs ≡ under v n (sevens (suc (leb_limit - (n + 1))) (b ∷ drop (n + 1) bs))
    next-byte =
        let left : leb_limit - n ≡ suc (leb_limit - (n + 1)) = omega (arith, p.most) in
        p.whole ∙ rw (left, e, add-one n, drop-cons bs n 0 i)

    pub next-ends : b < 128 → sevens leb_limit bs ≡ Value (v + b * 2 ^ (7 * n)) (byte_length (n + 1))
    unfolding under
    next-ends h = next-byte ∙ rw (sevens-end _ b (drop (n + 1) bs) h)

    pub next-on : 128 ≤ b
        → sevens leb_limit bs ≡ under (v + b % 128 * 2 ^ (7 * n)) (n + 1) (sevens (leb_limit - (n + 1)) (drop (n + 1) bs))
    next-on h = next-byte ∙ rw (sevens-on _ b (drop (n + 1) bs) h) (under-below v n (b % 128) _)

  module _ (b : ℕ) (h : n < 9) where
    more-exact : more v n b ≡ v + b % 128 * 2 ^ (7 * n)
    more-exact = ap (λ x. v + x) (shl_exact 7 (7 * n) 64 (mod-lt b (lit< tt)) (omega arith))

    more-small : more v n b < 2 ^ (7 * (n + 1))
    more-small = rw (more-exact, pow-seven n) (omega (arith, digits_lt {q = b % 128} {m = 128} (mod-lt b (lit< tt)) p.small))

    pub more-fits : more v n b < 2 ^ 64
    more-fits = lt_of_lt_of_le more-small (pow_mono {i = 7 * (n + 1)} {j = 64} (omega arith))

    module _ (i : n < length bs) (e : b ≡ get_or bs n 0) where
      pub passed-end : b < 128 → EndsAfter bs (more v n b) (n + 1)
      passed-end l =
          let whole : sevens leb_limit bs ≡ Value (more v n b) (byte_length (n + 1)) =
          rw (more-exact, mod-eq_of_lt l) (next-ends b i e l) in
          record { whole = whole; small = more-small; some = omega arith; most = omega arith }

      pub passed_on : 128 ≤ b → Passed bs (more v n b) (n + 1)
      passed_on l =
          let rest = sevens (leb_limit - (n + 1)) (drop (n + 1) bs) in
          let whole : sevens leb_limit bs ≡ under (more v n b) (n + 1) rest = rw more-exact (next-on b i e l) in
          record { whole = whole; small = more-small; most = omega arith; inside = omega arith; on = below_more _ n p.on (rw (← e) l) }
