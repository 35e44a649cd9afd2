-- Laws of a number's digits within a line: what stands behind them does not matter.
use mathlib.Core.Path.{◌≡◌, refl, sym, ap, ◌∙◌}
use mathlib.Core.Logic.{⊎_elim}
use mathlib.Core.List.{List, [], ◌∷◌, ◌++◌, append_assoc, append-nil}
use mathlib.Core.Bool.{true}
use Prim.Native.Nat.{ℕ, zero, suc, ◌+◌, ◌-◌, ◌*◌, ◌/◌, ◌^◌, ◌<◌, ◌≤◌}
use native.Mathlib.Omega.{arith}
use borrow.Author.Tests.{le-ltb}
use Rattle.facts.proofs.Numbers.{lt-or-ge}
use Rattle.screen_number.specs.Number.{decimal_of, decimal, blank}
use Rattle.screen_number.specs.Back.{is_end, token, number_from, number_of, number_in}
use Rattle.screen_number.proofs.Decimal.{one-digit, more-digits, decimal-back}
use Rattle.screen_number.proofs.Tokens.{Plain, word-plain, decimal-word, token-word}

abbrev pub Digits : List ℕ → Type 0
Digits [] = Unit {0}
Digits (b ∷ x) = ((48 ≤ b) × (b ≤ 57)) × Digits x

digits_append : (x y : List ℕ) → Digits x → Digits y → Digits (x ++ y)
digits_append [] y p q = q
digits_append (b ∷ x) y p q = (p.0, digits_append x y p.1 q)

digits_of : (r n : ℕ) → Digits (decimal_of r n)
unfolding decimal_of
digits_of zero n = tt
digits_of (suc r) n = ⊎_elim
    (λ (l : n < 10). rw (one-digit r n l) ((omega arith, omega arith), tt))
    (λ (l : 10 ≤ n). rw (more-digits r n l) (digits_append (decimal_of r (n / 10)) _ (digits_of r (n / 10))
    ((omega arith, omega arith), tt)))
    (lt-or-ge n 10)

pub decimal-digits : (n : ℕ) → Digits (decimal n)
unfolding decimal
decimal-digits n = digits_of 20 n

in-digit : (a b : ℕ) (x : List ℕ) → 48 ≤ b → b ≤ 57 → number_in a (b ∷ x) ≡ number_in (a * 10 + (b - 48)) x
unfolding number_in
in-digit a b x h l = simp (number_in, le-ltb b 48 h, le-ltb 57 b l)

in-digits : (a : ℕ) (x y : List ℕ) → Digits x → number_in a (x ++ y) ≡ number_in (number_from a x) y
unfolding number_from
in-digits a [] y d = refl
in-digits a (b ∷ x) y d = in-digit a b (x ++ y) d.0.0 d.0.1 ∙ in-digits (a * 10 + (b - 48)) x y d.1

-- what a number is told from: its digits, or these and one byte more that is none
none-behind : (a : ℕ) → number_in a [] ≡ a
unfolding number_in
none-behind a = refl

colon-behind : (a : ℕ) → number_in a (58 ∷ []) ≡ a
unfolding number_in
colon-behind a = refl

semicolon-behind : (a : ℕ) → number_in a (59 ∷ []) ≡ a
unfolding number_in
semicolon-behind a = refl

module _ (n : ℕ) (h : n < 10 ^ 20) where
  told-from : (y : List ℕ) → ((a : ℕ) → number_in a y ≡ a) → number_in 0 (decimal n ++ y) ≡ n
  unfolding number_of
  told-from y s = in-digits 0 (decimal n) y (decimal-digits n) ∙ s (number_from 0 (decimal n)) ∙ decimal-back n h

plain-append : (x y : List ℕ) → Plain x → Plain y → Plain (x ++ y)
plain-append [] y p q = q
plain-append (b ∷ x) y p q = (p.0, plain-append x y p.1 q)

blank-ends : is_end blank ≡ true
unfolding is_end
blank-ends = refl

colon-plain : Plain (58 ∷ [])
unfolding is_end
colon-plain = (refl, tt)

semicolon-plain : Plain (59 ∷ [])
unfolding is_end
semicolon-plain = (refl, tt)

-- a number's word: alone, before a colon, before a semicolon; what stands behind the blank does not matter
module _ (n : ℕ) (h : n < 10 ^ 20) (z : List ℕ) where
  decimal-plain : Plain (decimal n)
  decimal-plain = word-plain (decimal n) (decimal-word n h)

  pub told-alone : number_in 0 (token (decimal n ++ (blank ∷ z))) ≡ n
  told-alone =
      ap (number_in 0) (token-word (decimal n) (blank ∷ z) decimal-plain blank-ends ∙ sym (append-nil (decimal n))) ∙ told-from n h []
      none-behind

  pub colon-word : Plain (decimal n ++ (58 ∷ []))
  colon-word = plain-append (decimal n) (58 ∷ []) decimal-plain colon-plain

  pub told-colon : number_in 0 (token (decimal n ++ (58 ∷ (blank ∷ z)))) ≡ n
  told-colon =
      ap (λ x. number_in 0 (token x)) (sym (append_assoc (decimal n) (58 ∷ []) (blank ∷ z)))
      ∙ ap (number_in 0) (token-word (decimal n ++ (58 ∷ [])) (blank ∷ z) colon-word blank-ends)
      ∙ told-from n h (58 ∷ []) colon-behind

  pub told-semicolon : number_in 0 (token (decimal n ++ (59 ∷ (blank ∷ z)))) ≡ n
  told-semicolon =
      ap (λ x. number_in 0 (token x)) (sym (append_assoc (decimal n) (59 ∷ []) (blank ∷ z)))
      ∙ ap (number_in 0) (token-word (decimal n ++ (59 ∷ [])) (blank ∷ z) (plain-append (decimal n) (59 ∷ []) decimal-plain semicolon-plain)
      blank-ends)
      ∙ told-from n h (59 ∷ []) semicolon-behind
