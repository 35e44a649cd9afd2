-- Laws of a number in decimal. In order: a round more changes nothing; the digits give the number back; they are digits; how many there
-- are.
use mathlib.Core.Path.{◌≡◌, refl, sym, ap, ◌∙◌}
use mathlib.Core.Logic.{⊎_elim}
use mathlib.Core.List.{List, [], ◌∷◌, ◌++◌}
use Prim.Native.Nat.{ℕ, zero, suc, ◌+◌, ◌-◌, ◌*◌, ◌/◌, ◌%◌, ◌^◌, ◌<◌, ◌≤◌}
use native.Mathlib.Nat.{pow-suc}
use native.Mathlib.Omega.{arith}
use borrow.Author.Tests.{lt-ltb, le-ltb}
use lib.ListN.{length, length-append}
use Rattle.facts.proofs.Numbers.{lt-or-ge}
use Rattle.screen_number.specs.Number.{decimal_of, decimal, signed_decimal}
use Rattle.screen_number.specs.Back.{number_from, number_of}

-- the two clauses
pub one-digit : (r n : ℕ) → n < 10 → decimal_of (suc r) n ≡ (48 + n) ∷ []
unfolding decimal_of
one-digit r n h = simp (decimal_of, lt-ltb n 10 h)

pub more-digits : (r n : ℕ) → 10 ≤ n → decimal_of (suc r) n ≡ decimal_of r (n / 10) ++ ((48 + n % 10) ∷ [])
unfolding decimal_of
more-digits r n h = simp (decimal_of, le-ltb n 10 h)

pub tenth : (r n : ℕ) → n < 10 ^ suc r → n / 10 < 10 ^ r
tenth r n h = let p = pow-suc 10 r in omega (arith, p)

pub round-more : (r n : ℕ) → n < 10 ^ suc r → decimal_of (suc (suc r)) n ≡ decimal_of (suc r) n
round-more zero n h = one-digit 1 n (omega arith) ∙ sym (one-digit 0 n (omega arith))
round-more (suc r) n h = ⊎_elim
    (λ (l : n < 10). one-digit (suc (suc r)) n l ∙ sym (one-digit (suc r) n l))
    (λ (l : 10 ≤ n).
    more-digits (suc (suc r)) n l ∙ ap (λ x. x ++ ((48 + n % 10) ∷ [])) (round-more r (n / 10) (tenth (suc r) n h))
    ∙ sym (more-digits (suc r) n l))
    (lt-or-ge n 10)

-- what the code does: one digit, or those of the tenth and one more
pub decimal-one : (n : ℕ) → n < 10 → decimal n ≡ (48 + n) ∷ []
unfolding decimal
decimal-one n h = one-digit 19 n h

pub decimal-more : (n : ℕ) → 10 ≤ n → n < 10 ^ 20 → decimal n ≡ decimal (n / 10) ++ ((48 + n % 10) ∷ [])
unfolding decimal
decimal-more n h l = more-digits 19 n h ∙ ap (λ x. x ++ ((48 + n % 10) ∷ [])) (sym (round-more 18 (n / 10) (tenth 19 n l)))

-- The number back
number-snoc : (a : ℕ) (x : List ℕ) (d : ℕ) → number_from a (x ++ (d ∷ [])) ≡ number_from a x * 10 + (d - 48)
unfolding number_from
number-snoc a [] d = refl
number-snoc a (b ∷ x) d = number-snoc (a * 10 + (b - 48)) x d

number-back : (r n : ℕ) → n < 10 ^ r → number_from 0 (decimal_of r n) ≡ n
unfolding number_from decimal_of
number-back zero n h = omega arith
number-back (suc r) n h = ⊎_elim
    (λ (l : n < 10). rw (one-digit r n l) (omega arith))
    (λ (l : 10 ≤ n). rw (more-digits r n l, number-snoc 0 (decimal_of r (n / 10)) (48 + n % 10), number-back r (n / 10) (tenth r n h))
    (omega arith))
    (lt-or-ge n 10)

pub decimal-back : (n : ℕ) → n < 10 ^ 20 → number_of (decimal n) ≡ n
unfolding decimal number_of
decimal-back n h = number-back 20 n h

-- so no two numbers are shown alike
pub decimal-only : (m n : ℕ) → m < 10 ^ 20 → n < 10 ^ 20 → decimal m ≡ decimal n → m ≡ n
decimal-only m n h k e = sym (decimal-back m h) ∙ ap number_of e ∙ decimal-back n k

-- how many there are
digits-length : (r n : ℕ) → length (decimal_of r n) ≤ r
unfolding decimal_of
digits-length zero n = omega arith
digits-length (suc r) n = ⊎_elim
    (λ (l : n < 10). rw (one-digit r n l) (omega arith))
    (λ (l : 10 ≤ n). rw (more-digits r n l, length-append (decimal_of r (n / 10)) ((48 + n % 10) ∷ []))
    (omega (arith, digits-length r (n / 10))))
    (lt-or-ge n 10)

pub decimal-length : (n : ℕ) → length (decimal n) ≤ 20
unfolding decimal
decimal-length n = digits-length 20 n

pub signed-length : (w : ℕ) → length (signed_decimal w) ≤ 21
unfolding signed_decimal
signed-length w = ⊎_elim
    (λ (l : w < 2 ^ 63). simp (signed_decimal, lt-ltb w (2 ^ 63) l) (omega (arith, decimal-length w)))
    (λ (l : 2 ^ 63 ≤ w). simp (signed_decimal, le-ltb w (2 ^ 63) l) (omega (arith, decimal-length (2 ^ 64 - w))))
    (lt-or-ge w (2 ^ 63))
