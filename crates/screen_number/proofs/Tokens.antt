-- Laws of the words of a line: a word that has no blank is told from what stands behind it, and blanks are passed over.
use mathlib.Core.Path.{◌≡◌, refl, sym, ap, ◌∙◌}
use mathlib.Core.Logic.{⊎_elim}
use mathlib.Core.List.{List, [], ◌∷◌, ◌++◌}
use mathlib.Core.Bool.{Bool, true, false}
use Prim.Native.Nat.{ℕ, zero, suc, ◌+◌, ◌-◌, ◌/◌, ◌%◌, ◌^◌, ◌<◌, ◌≤◌}
use native.Mathlib.Omega.{arith}
use borrow.Author.Tests.{lt-ltb, le-ltb, ne_eqb}
use lib.Dec.{eqb}
use Rattle.facts.proofs.Numbers.{lt-or-ge}
use Rattle.facts.proofs.Truth.{clash}
use Rattle.screen_number.specs.Number.{decimal_of, decimal, signed_decimal, minus, blank, line_end, times}
use Rattle.screen_number.specs.Back.{is_end, token, after_token, skip}
use Rattle.screen_number.proofs.Decimal.{one-digit, more-digits, tenth}

-- no byte of it ends a word
abbrev pub Plain : List ℕ → Type 0
Plain [] = Unit {0}
Plain (b ∷ x) = (is_end b ≡ false) × Plain x

-- it has a byte, and none ends a word
abbrev pub Word : List ℕ → Type 0
Word [] = ⊥
Word (b ∷ x) = (is_end b ≡ false) × Plain x

-- what stands behind a word
abbrev pub Ends : List ℕ → Type 0
Ends [] = Unit {0}
Ends (b ∷ x) = is_end b ≡ true

pub word-plain : (x : List ℕ) → Word x → Plain x
word-plain [] w = absurd w
word-plain (b ∷ x) w = w

token_end : (b : ℕ) (y : List ℕ) → is_end b ≡ true → token (b ∷ y) ≡ []
unfolding token
token_end b y h = simp (token, h)

token-on : (b : ℕ) (y : List ℕ) → is_end b ≡ false → token (b ∷ y) ≡ b ∷ token y
unfolding token
token-on b y h = simp (token, h)

after_on : (b : ℕ) (y : List ℕ) → is_end b ≡ false → after_token (b ∷ y) ≡ after_token y
unfolding after_token
after_on b y h = simp (after_token, h)

after-end : (b : ℕ) (y : List ℕ) → is_end b ≡ true → after_token (b ∷ y) ≡ b ∷ y
unfolding after_token
after-end b y h = simp (after_token, h)

skip-on : (b : ℕ) (y : List ℕ) → eqb b blank ≡ false → skip (b ∷ y) ≡ b ∷ y
unfolding skip
skip-on b y h = simp (skip, h)

pub token-word : (x y : List ℕ) → Plain x → Ends y → token (x ++ y) ≡ x
unfolding token
token-word [] [] p e = refl
token-word [] (b ∷ y) p e = token_end b y e
token-word (b ∷ x) y p e = token-on b (x ++ y) p.0 ∙ ap (λ z. b ∷ z) (token-word x y p.1 e)

pub after-word : (x y : List ℕ) → Plain x → Ends y → after_token (x ++ y) ≡ y
unfolding after_token
after-word [] [] p e = refl
after-word [] (b ∷ y) p e = after-end b y e
after-word (b ∷ x) y p e = after_on b (x ++ y) p.0 ∙ after-word x y p.1 e

pub skip-blanks : (n : ℕ) (x : List ℕ) → skip (times n blank ++ x) ≡ skip x
unfolding skip times
skip-blanks zero x = refl
skip-blanks (suc n) x = skip-blanks n x

neither : (t u : Bool) → elim t [ true ↦ true | false ↦ u ] ≡ false → t ≡ false
neither true u e = absurd (clash (sym e))
neither false u e = refl

not_end : (b : ℕ) → is_end b ≡ false → eqb b blank ≡ false
unfolding is_end
not_end b h = neither (eqb b blank) _ h

pub skip-word : (x y : List ℕ) → Word x → skip (x ++ y) ≡ x ++ y
unfolding skip
skip-word [] y w = absurd w
skip-word (b ∷ x) y w = skip-on b (x ++ y) (not_end b w.0)

-- Columns: behind a word that fills its column from the left or not, and a blank, a word at the right end of its column is next
blank-end : is_end blank ≡ true
unfolding is_end
blank-end = refl

times-behind : (n : ℕ) (x : List ℕ) → times n blank ++ (blank ∷ x) ≡ blank ∷ (times n blank ++ x)
unfolding times
times-behind zero x = refl
times-behind (suc n) x = ap (λ z. blank ∷ z) (times-behind n x)

skip-one : (x : List ℕ) → skip (blank ∷ x) ≡ skip x
unfolding skip
skip-one x = refl

pub next_word : (w : List ℕ) (n m : ℕ) (x y : List ℕ) → Plain w → Word x
    → skip (after_token (w ++ (times n blank ++ (blank ∷ (times m blank ++ (x ++ y)))))) ≡ x ++ y
next_word w n m x y p q =
    ap (λ z. skip (after_token (w ++ z))) (times-behind n _)
    ∙ ap skip (after-word w (blank ∷ (times n blank ++ (times m blank ++ (x ++ y)))) p blank-end)
    ∙ skip-one _ ∙ skip-blanks n _ ∙ skip-blanks m _ ∙ skip-word x y q

pub this-word : (w : List ℕ) (n : ℕ) (x : List ℕ) → Plain w → token (w ++ (times n blank ++ (blank ∷ x))) ≡ w
this-word w n x p = ap (λ z. token (w ++ z)) (times-behind n x) ∙ token-word w (blank ∷ (times n blank ++ x)) p blank-end

-- Digits are words, and so is a minus sign with digits
plain-append : (x y : List ℕ) → Plain x → Plain y → Plain (x ++ y)
plain-append [] y p q = q
plain-append (b ∷ x) y p q = (p.0, plain-append x y p.1 q)

word-append : (x y : List ℕ) → Word x → Plain y → Word (x ++ y)
word-append [] y w q = absurd w
word-append (b ∷ x) y w q = (w.0, plain-append x y w.1 q)

ends-no-word : (b : ℕ) → (b ≡ blank → ⊥) → (b ≡ line_end → ⊥) → is_end b ≡ false
unfolding is_end
ends-no-word b h k = simp (is_end, ne_eqb b blank h, ne_eqb b line_end k)

digit-plain : (d : ℕ) → is_end (48 + d) ≡ false
digit-plain d = ends-no-word (48 + d) (λ e. omega (arith, e)) (λ e. omega (arith, e))

pub digits-word : (r n : ℕ) → n < 10 ^ suc r → Word (decimal_of (suc r) n)
digits-word zero n h = rw (one-digit 0 n (omega arith)) (digit-plain n, tt)
digits-word (suc r) n h = ⊎_elim
    (λ (l : n < 10). rw (one-digit (suc r) n l) (digit-plain n, tt))
    (λ (l : 10 ≤ n). rw (more-digits (suc r) n l)
    (word-append (decimal_of (suc r) (n / 10)) _ (digits-word r (n / 10) (tenth (suc r) n h)) (digit-plain (n % 10), tt)))
    (lt-or-ge n 10)

pub decimal-word : (n : ℕ) → n < 10 ^ 20 → Word (decimal n)
unfolding decimal
decimal-word n h = digits-word 19 n h

pub signed_word : (w : ℕ) → w < 2 ^ 64 → Word (signed_decimal w)
unfolding signed_decimal
signed_word w h = ⊎_elim
    (λ (l : w < 2 ^ 63). simp (signed_decimal, lt-ltb w (2 ^ 63) l) (decimal-word w (omega arith)))
    (λ (l : 2 ^ 63 ≤ w). simp (signed_decimal, le-ltb w (2 ^ 63) l) (
      ends-no-word minus (λ e. omega (arith, e)) (λ e. omega (arith, e)),
      word-plain (decimal (2 ^ 64 - w))
          (decimal-word (2 ^ 64 - w) (omega arith)),
    ))
    (lt-or-ge w (2 ^ 63))
