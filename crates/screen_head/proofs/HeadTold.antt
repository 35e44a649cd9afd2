-- From a line the entry's five words can be told, whatever stands behind its head.
use mathlib.Core.Path.{◌≡◌, refl, ap, ◌∙◌}
use mathlib.Core.Logic.{⊎_elim}
use mathlib.Core.List.{List, [], ◌∷◌, ◌++◌, append_assoc}
use mathlib.Core.Bool.{Bool, true, false}
use Prim.Native.Nat.{ℕ, zero, suc, ◌-◌, ◌/◌, ◌^◌, ◌<◌, ◌≤◌}
use native.Mathlib.Omega.{arith}
use borrow.Author.Tests.{lt-ltb, le-ltb, ne_eqb}
use lib.ListN.{length, get_or-eq_default}
use lib.Dec.{T}
use Rattle.facts.proofs.Numbers.{lt-or-ge}
use Rattle.facts.proofs.Cases.{Each, below, ◌▷◌}
use Rattle.screen_number.specs.Number.{decimal_of, decimal, signed_decimal, minus, blank, times, left, right, bytes}
use Rattle.screen_number.specs.Back.{number_from, number_of, value_of, same, is_end, token, after_token, skip, from}
use Rattle.screen_head.specs.Kinds.{rows, row_of, word, named, unknown, row, kind_number}
use Rattle.screen_head.specs.Head.{Five, column, value_of_kind, shown_value, has_sign, head}
use Rattle.screen_head.specs.Told.{kind_of, kind_from, told_words, Words64, words_of, HeadTold}
use Rattle.screen_number.proofs.Decimal.{decimal-back, one-digit, more-digits, tenth}
use Rattle.screen_number.proofs.Tokens.{Plain, Word, Ends, word-plain, decimal-word, signed_word, token-word, this-word, next_word}

-- The value: with a sign or without
digit-first : (x : List ℕ) (b : ℕ) → (b ≡ minus → ⊥) → value_of (b ∷ x) ≡ number_of (b ∷ x)
unfolding value_of
digit-first x b h = simp (value_of, ne_eqb b minus h)

minus-first : (x : List ℕ) → value_of (minus ∷ x) ≡ 2 ^ 64 - number_of x
unfolding value_of
minus-first x = refl

-- a list that begins with a digit
abbrev First : List ℕ → Type 0
First [] = ⊥
First (b ∷ x) = 48 ≤ b

first-append : (x y : List ℕ) → First x → First (x ++ y)
first-append [] y f = absurd f
first-append (b ∷ x) y f = f

digits-first : (r n : ℕ) → n < 10 ^ suc r → First (decimal_of (suc r) n)
digits-first zero n h = rw (one-digit 0 n (omega arith)) (omega arith)
digits-first (suc r) n h = ⊎_elim
    (λ (l : n < 10). rw (one-digit (suc r) n l) (omega arith))
    (λ (l : 10 ≤ n). rw (more-digits (suc r) n l)
    (first-append (decimal_of (suc r) (n / 10)) _ (digits-first r (n / 10) (tenth (suc r) n h))))
    (lt-or-ge n 10)

value-first : (x : List ℕ) → First x → value_of x ≡ number_of x
value-first [] f = absurd f
value-first (b ∷ x) f = digit-first x b (λ e. omega (arith, e, f))

pub plain_back : (n : ℕ) → n < 10 ^ 20 → value_of (decimal n) ≡ n
unfolding decimal
plain_back n h = value-first (decimal_of 20 n) (digits-first 19 n h) ∙ decimal-back n h

pub signed_back : (w : ℕ) → w < 2 ^ 64 → value_of (signed_decimal w) ≡ w
unfolding signed_decimal
signed_back w h = ⊎_elim
    (λ (l : w < 2 ^ 63). simp (signed_decimal, lt-ltb w (2 ^ 63) l) (plain_back w (omega arith)))
    (λ (l : 2 ^ 63 ≤ w). simp (signed_decimal, le-ltb w (2 ^ 63) l)
    (minus-first (decimal (2 ^ 64 - w)) ∙ ap (λ n. 2 ^ 64 - n) (decimal-back (2 ^ 64 - w) (omega arith)) ∙ omega arith))
    (lt-or-ge w (2 ^ 63))

-- The kind: the words of rows are told apart by computing all of them; behind them stand numbers
all_plain : List ℕ → Bool
all_plain [] = true
all_plain (b ∷ x) = elim (is_end b) [ true ↦ false | false ↦ all_plain x ]

is_word : List ℕ → Bool
is_word [] = false
is_word (b ∷ x) = elim (is_end b) [ true ↦ false | false ↦ all_plain x ]

split : (t u : Bool) → T (elim t [ true ↦ false | false ↦ u ]) → (t ≡ false) × T u
split true u h = absurd h
split false u h = (refl, h)

all_plain_lem : (x : List ℕ) → T (all_plain x) → Plain x
unfolding all_plain
all_plain_lem [] h = tt
all_plain_lem (b ∷ x) h = let s = split (is_end b) (all_plain x) h in (s.0, all_plain_lem x s.1)

is_word_lem : (x : List ℕ) → T (is_word x) → Word x
unfolding is_word
is_word_lem [] h = absurd h
is_word_lem (b ∷ x) h = let s = split (is_end b) (all_plain x) h in (s.0, all_plain_lem x s.1)

abbrev Computed : ℕ → Type 0
Computed k = (kind_of (word k) ≡ k) × T (is_word (word k))

rows_told : Each Computed 0 33
unfolding is_word all_plain kind_of kind_from number_of number_from same word named row_of rows row unknown kind_number bytes decimal decimal_of is_end
rows_told =
    (refl, tt) ▷ (refl, tt) ▷ (refl, tt) ▷ (refl, tt) ▷ (refl, tt) ▷ (refl, tt) ▷ (refl, tt) ▷ (refl, tt) ▷ (refl, tt) ▷ (refl, tt) ▷
    (refl, tt) ▷ (refl, tt) ▷ (refl, tt) ▷ (refl, tt) ▷ (refl, tt) ▷ (refl, tt) ▷ (refl, tt) ▷ (refl, tt) ▷ (refl, tt) ▷ (refl, tt) ▷
    (refl, tt) ▷ (refl, tt) ▷ (refl, tt) ▷ (refl, tt) ▷ (refl, tt) ▷ (refl, tt) ▷ (refl, tt) ▷ (refl, tt) ▷ (refl, tt) ▷ (refl, tt) ▷
    (refl, tt) ▷ (refl, tt) ▷ (refl, tt) ▷ tt

no_row : (k : ℕ) → 33 ≤ k → row_of k ≡ unknown
unfolding row_of rows row
no_row k h = get_or-eq_default rows unknown h

pub word_number : (k : ℕ) → 33 ≤ k → word k ≡ bytes "kind-" ++ decimal k
unfolding word named unknown kind_number
word_number k h = ap (λ r. named k r.name) (no_row k h)

number-kind : (x : List ℕ) → kind_of (bytes "kind-" ++ x) ≡ number_of x
unfolding kind_of kind_from same rows row bytes unknown
number-kind x = refl

kind-word : (x : List ℕ) → Plain x → Word (bytes "kind-" ++ x)
unfolding bytes is_end
kind-word x p = (refl, (refl, (refl, (refl, (refl, p)))))

pub kind-back : (k : ℕ) → k < 10 ^ 20 → kind_of (word k) ≡ k
kind-back k h = ⊎_elim
    (λ (l : k < 33). (below Computed 33 rows_told k l).0)
    (λ (l : 33 ≤ k). ap kind_of (word_number k l) ∙ number-kind (decimal k) ∙ decimal-back k h)
    (lt-or-ge k 33)

pub word-word : (k : ℕ) → k < 10 ^ 20 → Word (word k)
word-word k h = ⊎_elim
    (λ (l : k < 33). is_word_lem (word k) (below Computed 33 rows_told k l).1)
    (λ (l : 33 ≤ k). rw (word_number k l) (kind-word (decimal k) (word-plain (decimal k) (decimal-word k h))))
    (lt-or-ge k 33)

-- The value as its kind has it
by-sign-back : (t : Bool) (v : ℕ) → v < 2 ^ 64 → value_of (elim t [ true ↦ signed_decimal v | false ↦ decimal v ]) ≡ v
by-sign-back true v l = signed_back v l
by-sign-back false v l = plain_back v (omega arith)

by-sign-word : (t : Bool) (v : ℕ) → v < 2 ^ 64 → Word (elim t [ true ↦ signed_decimal v | false ↦ decimal v ])
by-sign-word true v l = signed_word v l
by-sign-word false v l = decimal-word v (omega arith)

pub value-back : (k v : ℕ) → v < 2 ^ 64 → value_of (value_of_kind k v) ≡ v
unfolding value_of_kind shown_value
value-back k v l = by-sign-back (has_sign (row_of k).shows) v l

pub value-word : (k v : ℕ) → v < 2 ^ 64 → Word (value_of_kind k v)
unfolding value_of_kind shown_value
value-word k v l = by-sign-word (has_sign (row_of k).shows) v l

-- The line, from its five words on
module _ (w p b v r t : List ℕ) (k₀ k₁ k₂ k₃ k₄ : ℕ) where
  abbrev at4 : List ℕ
  at4 = r ++ t

  abbrev at3 : List ℕ
  at3 = v ++ (blank ∷ (times k₄ blank ++ at4))

  abbrev at2 : List ℕ
  at2 = b ++ (blank ∷ (times k₃ blank ++ at3))

  abbrev at1 : List ℕ
  at1 = p ++ (blank ∷ (times k₂ blank ++ at2))

  abbrev at0 : List ℕ
  at0 = w ++ (times k₀ blank ++ (blank ∷ (times k₁ blank ++ at1)))

  module _ (hw : Word w) (hp : Word p) (hb : Word b) (hv : Word v) (hr : Word r) (ht : Ends t) where
    from-1 : from 1 at0 ≡ at1
    unfolding from
    from-1 = next_word w k₀ k₁ p _ (word-plain w hw) hp

    from-2 : from 2 at0 ≡ at2
    unfolding from times
    from-2 = ap (λ x. skip (after_token x)) from-1 ∙ next_word p 0 k₂ b _ (word-plain p hp) hb

    from-3 : from 3 at0 ≡ at3
    unfolding from times
    from-3 = ap (λ x. skip (after_token x)) from-2 ∙ next_word b 0 k₃ v _ (word-plain b hb) hv

    from-4 : from 4 at0 ≡ at4
    unfolding from times
    from-4 = ap (λ x. skip (after_token x)) from-3 ∙ next_word v 0 k₄ r _ (word-plain v hv) hr

    pub words-told : told_words at0 ≡ kind_of w ∷ number_of p ∷ number_of b ∷ value_of v ∷ number_of r ∷ []
    unfolding told_words times
    words-told =
        let e₀ : token at0 ≡ w = this-word w k₀ _ (word-plain w hw) in
        let e₁ : token (from 1 at0) ≡ p = ap token from-1 ∙ this-word p 0 _ (word-plain p hp) in
        let e₂ : token (from 2 at0) ≡ b = ap token from-2 ∙ this-word b 0 _ (word-plain b hb) in
        let e₃ : token (from 3 at0) ≡ v = ap token from-3 ∙ this-word v 0 _ (word-plain v hv) in
        let e₄ : token (from 4 at0) ≡ r = ap token from-4 ∙ token-word r t (word-plain r hr) ht in
        ap (λ x. kind_of x ∷ number_of (token (from 1 at0)) ∷ number_of (token (from 2 at0)) ∷ value_of (token (from 3 at0)) ∷ number_of
        (token (from 4 at0)) ∷ []) e₀
        ∙ ap (λ x. kind_of w ∷ number_of x ∷ number_of (token (from 2 at0)) ∷ value_of (token (from 3 at0)) ∷ number_of (token (from 4 at0))
        ∷ []) e₁
        ∙ ap (λ x. kind_of w ∷ number_of p ∷ number_of x ∷ value_of (token (from 3 at0)) ∷ number_of (token (from 4 at0)) ∷ []) e₂
        ∙ ap (λ x. kind_of w ∷ number_of p ∷ number_of b ∷ value_of x ∷ number_of (token (from 4 at0)) ∷ []) e₃
        ∙ ap (λ x. kind_of w ∷ number_of p ∷ number_of b ∷ value_of v ∷ number_of x ∷ []) e₄

module _ (e : Five) (t : List ℕ) (h : Words64 e) (ht : Ends t) where
  abbrev w : List ℕ
  w = word e.kind

  abbrev p : List ℕ
  p = decimal e.place

  abbrev b : List ℕ
  b = decimal e.bits

  abbrev v : List ℕ
  v = value_of_kind e.kind e.value

  abbrev r : List ℕ
  r = decimal e.number

  parts : head e ++ t ≡ at0 w p b v r t (15 - length w) (10 - length p) (9 - length b) (21 - length v) (5 - length r)
  unfolding head column left right
  parts = simp append_assoc

  pub words-of-head : told_words (head e ++ t) ≡ words_of e
  words-of-head =
      ap told_words parts
      ∙ words-told w p b v r t _ _ _ _ _
      (word-word _ (omega (arith, h.kind)))
      (decimal-word _ (omega (arith, h.place)))
      (decimal-word _ (omega (arith, h.bits)))
      (value-word _ _ h.value)
      (decimal-word _ (omega (arith, h.number)))
      ht
      ∙ rw (
        kind-back e.kind (omega (arith, h.kind)),
        decimal-back e.place (omega (arith, h.place)),
        decimal-back e.bits (omega (arith, h.bits)),
        value-back e.kind e.value h.value,
        decimal-back e.number (omega (arith, h.number)),
      )

pub head-told : HeadTold
head-told e t h ht = words-of-head e t h ht
