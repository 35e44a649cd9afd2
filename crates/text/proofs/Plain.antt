-- Plain bytes in front of a text: they change neither whether it is one, nor what behind them counts.
-- In order: how many there are, byte by byte; the text behind them; the loop that passes eight at a time; the reading; the same of bytes
-- that are lent.
use mathlib.Core.Path.{◌≡◌, refl, sym, ◌∙◌}
use mathlib.Core.Logic.{⊎_elim}
use mathlib.Core.List.{List, [], ◌∷◌}
use mathlib.Core.Bool.{Bool, true, false}
use Prim.Native.Nat.{ℕ, zero, suc, ◌+◌, ◌-◌, ◌*◌, ◌/◌, ◌<◌, ◌≤◌, min}
use native.Mathlib.Numerals.{add-one}
use native.Mathlib.Omega.{arith}
use borrow.Author.Tests.{ltb-true, leb-true, leb-false, lt-ltb, le-ltb, ne_eqb}
use lib.Dec.{eqb, ltb, leb}
use lib.ListN.{length, get_or, take, drop, drop_of_length-le, length-take, length-drop}
use lib.Seq.{drop-cons, take_all}
use Rattle.std.specs.Prelude.{cond}
use Rattle.std.specs.List.{prefix_len}
use Rattle.facts.proofs.Numbers.{lt-or-ge}
use Rattle.rules.specs.Place.{byte_length}
use Rattle.rules.specs.Text.{text_length, rows, utf8_from, utf8, is_text}
use Rattle.text.specs.declared.Text.{Text}
use Rattle.text.specs.Reading.{text_of, plain_length, is_some, is_plain}
use Rattle.text.proofs.Laws.{text-le, text-prefix}
use Rattle.text.proofs.Rows.{row_here, lead-taken, all-taken}

-- How many there are, byte by byte

pub plain-next : (b : ℕ) (bs : List ℕ) → (b ≡ 0 → ⊥) → b < 128 → plain_length (b ∷ bs) ≡ plain_length bs + 1
unfolding plain_length
plain-next zero bs there l = absurd (there refl)
plain-next (suc b) bs there l = simp (lt-ltb (suc b) 128 l, plain_length)

plain-zero : (b : ℕ) (bs : List ℕ) → b ≡ 0 → plain_length (b ∷ bs) ≡ 0
unfolding plain_length
plain-zero b bs e = rw e

plain-high : (b : ℕ) (bs : List ℕ) → 128 ≤ b → plain_length (b ∷ bs) ≡ 0
unfolding plain_length
plain-high zero bs l = absurd (omega arith)
plain-high (suc b) bs l = simp (le-ltb (suc b) 128 l, plain_length)

pub plain-some : (b : ℕ) (bs : List ℕ) → 0 < plain_length (b ∷ bs) → (0 < b) × (b < 128) × (plain_length (b ∷ bs) ≡ plain_length bs + 1)
plain-some zero bs h = absurd (omega (arith, plain-zero zero bs refl))
plain-some (suc b) bs h = ⊎_elim
    (λ l. (omega arith, l, plain-next (suc b) bs (λ e. absurd (omega arith)) l))
    (λ l. absurd (omega (arith, plain-high (suc b) bs l)))
    (lt-or-ge (suc b) 128)

-- with one byte more in front, by the test of it
abbrev one_more : Bool → ℕ → ℕ
one_more test n = elim test [ true ↦ n + 1 | false ↦ 0 ]

pub plain-le : (bs : List ℕ) → plain_length bs ≤ length bs
unfolding plain_length
plain-le [] = omega arith
plain-le (zero ∷ bs) = omega arith
plain-le (suc b ∷ bs) = by (plain-le bs) (ltb (suc b) 128)
  where
    by : plain_length bs ≤ length bs → (test : Bool) → one_more test (plain_length bs) ≤ suc (length bs)
    by h true = omega arith
    by h false = omega arith

plain-take : (n : ℕ) (bs : List ℕ) → plain_length (take n bs) ≡ min n (plain_length bs)
unfolding plain_length
plain-take zero bs = omega arith
plain-take (suc n) [] = omega arith
plain-take (suc n) (zero ∷ bs) = omega arith
plain-take (suc n) (suc b ∷ bs) = by (plain-take n bs) (ltb (suc b) 128)
  where
    by : plain_length (take n bs) ≡ min n (plain_length bs) → (test : Bool)
        → one_more test (plain_length (take n bs)) ≡ min (suc n) (one_more test (plain_length bs))
    by h true = omega arith
    by h false = omega arith

plain-drop : (n : ℕ) (bs : List ℕ) → n ≤ plain_length bs → plain_length bs ≡ n + plain_length (drop n bs)
unfolding plain_length
plain-drop zero bs l = omega arith
plain-drop (suc n) [] l = absurd (omega arith)
plain-drop (suc n) (zero ∷ bs) l = absurd (omega arith)
plain-drop (suc n) (suc b ∷ bs) l = by (plain-drop n bs) (ltb (suc b) 128) l
  where
    by : (n ≤ plain_length bs → plain_length bs ≡ n + plain_length (drop n bs)) → (test : Bool) → suc n ≤ one_more test (plain_length bs)
        → one_more test (plain_length bs) ≡ suc n + plain_length (drop n bs)
    by h true l = omega (arith, h (omega arith))
    by h false l = absurd (omega arith)

-- they go on as long as no byte is another one
plain-prefix : (bs : List ℕ) → plain_length bs ≡ prefix_len is_plain bs
unfolding plain_length
plain-prefix [] = refl
plain-prefix (zero ∷ bs) = refl
plain-prefix (suc b ∷ bs) =
    let some : eqb (suc b) 0 ≡ false = ne_eqb (suc b) 0 (λ e. absurd (omega arith)) in
    simp some (by (plain-prefix bs) (ltb (suc b) 128))
  where
    by : plain_length bs ≡ prefix_len is_plain bs → (test : Bool)
        → one_more test (plain_length bs) ≡ cond test (1 + prefix_len is_plain bs) 0
    by h true = omega arith
    by h false = refl

-- what is lent of bytes from one on is all that is behind it
rest-all : (k : ℕ) (bs : List ℕ) → take (length bs - k) (drop k bs) ≡ drop k bs
rest-all k bs = take_all (length bs - k) (drop k bs) (omega (arith, length-drop k bs))

-- as many as are whole eights, and behind them so many more
plain-told : (bs : List ℕ) (k n : ℕ) → k ≡ plain_length bs / 8 * 8 → n ≡ prefix_len is_plain (take (length bs - k) (drop k bs))
    → k + n ≡ plain_length bs
plain-told bs k n e f =
    let more = rw (rest-all k bs) at f in omega (arith, e, more, plain-drop k bs (omega (arith, e)), plain-prefix (drop k bs))

-- The text behind them

plain-one : (b : ℕ) (bs : List ℕ) → b < 128 → utf8 (b ∷ bs) ≡ utf8 bs
unfolding rows
plain-one b bs l = lead-taken b _ bs (row_here _ _ b (omega arith) (omega arith)) ∙ all-taken _ _ bs

-- what is said of the bytes behind the plain ones
abbrev SameBehind : List ℕ → ℕ → Type 0
SameBehind bs n = (text_length bs ≡ n + text_length (drop n bs)) × (is_text bs ≡ is_text (drop n bs))

behind-none : (bs : List ℕ) → SameBehind bs 0
behind-none bs = (omega arith, refl)

behind_more : (b : ℕ) (bs : List ℕ) (n : ℕ) → suc b < 128 → SameBehind bs n → SameBehind (suc b ∷ bs) (n + 1)
unfolding text_length is_text
behind_more b bs n l h =
    let text : is_text (suc b ∷ bs) ≡ is_text bs = rw (add-one (text_length bs)) (plain-one (suc b) _ l) in
    rw (add-one n) (omega (arith, h.0), text ∙ h.1)

plain-behind : (bs : List ℕ) → SameBehind bs (plain_length bs)
unfolding plain_length
plain-behind [] = behind-none []
plain-behind (zero ∷ bs) = behind-none (zero ∷ bs)
plain-behind (suc b ∷ bs) = by (plain-behind bs) (ltb (suc b) 128) refl
  where
    by : SameBehind bs (plain_length bs) → (test : Bool) → ltb (suc b) 128 ≡ test
        → SameBehind (suc b ∷ bs) (one_more test (plain_length bs))
    by h true i = behind_more b bs _ (ltb-true (suc b) 128 i) h
    by h false i = behind-none (suc b ∷ bs)

-- The loop that passes them, eight at a time

module _ (bs : List ℕ) (i : ℕ) (h : 8 * i ≤ plain_length bs) where
  abbrev ahead : ℕ
  ahead = plain_length (drop (8 * i) bs)

  pub eight-more : leb 8 ahead ≡ true → 8 * (i + 1) ≤ plain_length bs
  eight-more e = omega (arith, plain-drop (8 * i) bs h, leb-true 8 ahead e)

  pub eights-few : leb 8 ahead ≡ false → 8 * i ≡ plain_length bs / 8 * 8
  eights-few e = omega (arith, plain-drop (8 * i) bs h, leb-false 8 ahead e)

  pub eights-end : i ≡ length bs / 8 → length bs / 8 * 8 ≡ plain_length bs / 8 * 8
  eights-end e = omega (arith, h, plain-le bs)

-- The reading

text-behind : (bs : List ℕ) (n c : ℕ) (t : Bool) → n ≡ plain_length bs → c ≡ n + text_length (drop n bs) → t ≡ is_text (drop n bs)
    → record { count = byte_length c; formed = t } ≡ text_of bs
unfolding text_of
text-behind bs n c t e f g = let h = plain-behind bs in rw (f, g, e, h.0, h.1)

zero-next : (b : ℕ) (bs : List ℕ) → b ≡ 0 → (text_length (b ∷ bs) ≡ 0) × (is_text (b ∷ bs) ≡ true)
unfolding text_length utf8_from utf8 is_text
zero-next b bs e = rw e (refl, refl)

module _ (bs : List ℕ) (n : ℕ) (e : n ≡ plain_length bs) where
  -- no byte is left behind them
  all_plain_lem : n ≡ length bs → record { count = byte_length n; formed = true } ≡ text_of bs
  unfolding text_length utf8_from utf8 is_text
  all_plain_lem same =
      let end = drop_of_length-le bs {i = n} (omega arith) in text-behind bs n n true e (rw end (omega arith)) (rw end)

  -- a zero byte stands behind them
  plain-ended : n < length bs → get_or bs n 0 ≡ 0 → record { count = byte_length n; formed = true } ≡ text_of bs
  plain-ended l z =
      let next = drop-cons bs n 0 l in
      let ends = zero-next _ (drop (suc n) bs) z in
      text-behind bs n n true e (rw next (omega (arith, ends.0))) (rw next (sym ends.1))

  -- others do
  module _ (rest : ℕ) (f : rest ≡ prefix_len is_some (take (length bs - n) (drop n bs))) where
    rest-is : rest ≡ text_length (drop n bs)
    rest-is = rw (rest-all n bs) at f ∙ sym (text-prefix (drop n bs))

    rest-le : n + rest ≤ length bs
    rest-le = omega (arith, rest-is, text-le (drop n bs), length-drop n bs, e, plain-le bs)

    plain-before : (t : Bool) → t ≡ utf8 (take rest (take (length bs - n) (drop n bs)))
        → record { count = byte_length (n + rest); formed = t } ≡ text_of bs
    unfolding is_text
    plain-before t g = text-behind bs n (n + rest) t e (rw rest-is) (rw (← rest-is) (rw (rest-all n bs) at g))

-- The same of bytes that are lent of a stream

module _ (s : List ℕ) (at n : ℕ) (h : at + n ≤ length s) where
  abbrev lent : List ℕ
  lent = take (at + n - at) (drop at s)

  lent-length : length lent ≡ n
  lent-length = simp (length-take, length-drop) (omega arith)

  lent-text : {x : Text} → x ≡ text_of lent → x ≡ text_of (take n (drop at s))
  lent-text e = let all : at + n - at ≡ n = omega arith in rw all at e

  -- k plain bytes as whole eights, and m more
  module _ {k m : ℕ} (e : k ≡ plain_length lent / 8 * 8) (f : m ≡ prefix_len is_plain (take (length lent - k) (drop k lent))) where
    pub lent-few : k + m ≤ n
    lent-few = omega (arith, plain-told lent k m e f, plain-le lent, lent-length)

    pub lent-plain : k + m ≡ n → record { count = byte_length n; formed = true } ≡ text_of (take n (drop at s))
    lent-plain all = lent-text (rw all at (all_plain_lem lent (k + m) (plain-told lent k m e f) (all ∙ sym lent-length)))

    pub lent-ended : k + m < n → get_or lent (k + m) 0 ≡ 0
        → record { count = byte_length (k + m); formed = true } ≡ text_of (take n (drop at s))
    lent-ended l z = lent-text (plain-ended lent (k + m) (plain-told lent k m e f) (omega (arith, lent-length)) z)

    module _ {rest : ℕ} (g : rest ≡ prefix_len is_some (take (length lent - (k + m)) (drop (k + m) lent))) where
      pub lent-fits : k + m + rest ≤ n
      lent-fits = omega (arith, rest-le lent (k + m) (plain-told lent k m e f) rest g, lent-length)

      pub lent-cut : rest ≡ length (take rest (take (length lent - (k + m)) (drop (k + m) lent)))
      lent-cut = simp (length-take, length-drop) (omega (arith, lent-fits, lent-length))

      pub lent-before : {t : Bool} → t ≡ utf8 (take rest (take (length lent - (k + m)) (drop (k + m) lent)))
          → record { count = byte_length (k + m + rest); formed = t } ≡ text_of (take n (drop at s))
      lent-before {t} u = lent-text (plain-before lent (k + m) (plain-told lent k m e f) rest g t u)
