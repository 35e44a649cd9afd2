-- Laws of a text that is laid over a lent slice, and of the functions' own steps. In order: one text behind another; what a call has laid,
-- and another behind it; so many equal bytes; digits; columns; bytes that are given.
use mathlib.Core.Path.{◌≡◌, refl, sym, ap, subst, ◌∙◌}
use mathlib.Core.List.{List, [], ◌∷◌, ◌++◌, append_assoc}
use Prim.Native.Nat.{ℕ, zero, suc, ◌+◌, ◌-◌, ◌/◌, ◌%◌, ◌^◌, ◌<◌, ◌≤◌}
use native.Mathlib.Nat.{add-zero, add-suc, suc-add}
use native.Mathlib.Omega.{arith}
use borrow.Author.Tests.{lt-ltb, le-ltb}
use lib.ListN.{length, set, take, drop, replicate, length-append}
use lib.Seq.{sets}
use borrow.Rule.Slice.PartMut.{put_mid}
use Rattle.std.proofs.lemmas.Slice.{put_mid-paste}
use Rattle.std.proofs.lemmas.List.Edits.{paste_all, sets-eq}
use Rattle.screen_number.specs.Number.{decimal, signed_decimal, times, minus, glyph, hex, right, blank, zeros}
use Rattle.screen_number.proofs.Decimal.{decimal-one, decimal-more}

pub sets-append : (l : List ℕ) (i : ℕ) (x y : List ℕ) → sets (sets l i x) (i + length x) y ≡ sets l i (x ++ y)
sets-append l i [] y = let e : i + 0 ≡ i = add-zero i in rw e
sets-append l i (a ∷ x) y =
    let e : i + suc (length x) ≡ suc i + length x = add-suc i (length x) ∙ sym (suc-add i (length x)) in
    rw e (sets-append (set l i a) (suc i) x y)

-- what a call has laid, from a place on to where it ended: the room as it came, and as it is
pub record Laid (l m : List ℕ) (i e : ℕ) (x : List ℕ) : Type 0 where
  pub end : e ≡ i + length x
  pub list : m ≡ sets l i x

-- as contracts say it, both ways
pub laid : (l m : List ℕ) (i e : ℕ) (x : List ℕ) → (e ≡ i + length x) × (m ≡ sets l i x) → Laid l m i e x
laid l m i e x h = record { end = h.0; list = h.1 }

pub both : {l m : List ℕ} {i e : ℕ} {x : List ℕ} → Laid l m i e x → (e ≡ i + length x) × (m ≡ sets l i x)
both h = (h.end, h.list)

pub then : {l m k : List ℕ} {i e r : ℕ} {x y : List ℕ} → Laid l m i e x → Laid m k e r y → Laid l k i r (x ++ y)
then {l} {m} {k} {i} {e} {r} {x} {y} h g = record {
  end = omega (arith, h.end, g.end, length-append x y);
  list = g.list ∙ ap (λ z. sets z e y) h.list ∙ ap (λ z. sets (sets l i x) z y) h.end ∙ sets-append l i x y;
}

pub shown-as : {l m : List ℕ} {i e : ℕ} {x y : List ℕ} → Laid l m i e x → x ≡ y → Laid l m i e y
shown-as {l} {m} {i} {e} h p = subst (λ z. Laid l m i e z) p h

-- the same by another name
pub same_text : (l m : List ℕ) (i e : ℕ) (x y : List ℕ) → x ≡ y → (e ≡ i + length x) × (m ≡ sets l i x)
    → (e ≡ i + length y) × (m ≡ sets l i y)
same_text l m i e x y p h = (h.0 ∙ ap (λ z. i + length z) p, h.1 ∙ ap (λ z. sets l i z) p)

pub one_byte : (l : List ℕ) (i b : ℕ) → Laid l (set l i b) i (i + 1) (b ∷ [])
one_byte l i b = record { end = refl; list = refl }

pub length-times : (n b : ℕ) → length (times n b) ≡ n
unfolding times
length-times zero b = refl
length-times (suc n) b = ap suc (length-times n b)

-- a number of one digit, and one of more
module _ (n : ℕ) (h : n < 10) where
  pub one-length : 1 ≡ length (decimal n)
  one-length = rw (decimal-one n h)

  pub one-laid : (l : List ℕ) (i : ℕ) → set l i (48 + n) ≡ sets l i (decimal n)
  one-laid l i = rw (decimal-one n h)

module _ (n : ℕ) (h : 10 ≤ n) (k : n < 2 ^ 64) where
  pub more-length : length (decimal (n / 10)) + 1 ≡ length (decimal n)
  more-length = rw (decimal-more n h (omega arith)) (sym (length-append (decimal (n / 10)) _))

  pub more-laid : (l m : List ℕ) (i e : ℕ) → m ≡ sets l i (decimal (n / 10)) → e ≡ i + length (decimal (n / 10)) → set m e
      (48 + n % 10) ≡ sets l i (decimal n)
  more-laid l m i e p q = rw (p, q, decimal-more n h (omega arith)) (sets-append l i (decimal (n / 10)) _)

-- a number's last digits in base 16
pub hex-none : (n : ℕ) → hex 0 n ≡ []
unfolding hex
hex-none n = refl

hex-suc : (k n : ℕ) → hex (suc k) n ≡ hex k (n / 16) ++ (glyph (n % 16) ∷ [])
unfolding hex
hex-suc k n = refl

pub hex-more : (k n : ℕ) → 0 < k → hex (k - 1) (n / 16) ++ (glyph (n % 16) ∷ []) ≡ hex k n
hex-more k n h =
    let e : k ≡ suc (k - 1) = omega arith in
    sym (hex-suc (k - 1) n) ∙ ap (λ j. hex j n) (sym e)

pub length-hex : (k n : ℕ) → length (hex k n) ≡ k
unfolding hex
length-hex zero n = refl
length-hex (suc k) n = length-append (hex k (n / 16)) _ ∙ ap (λ j. j + 1) (length-hex k (n / 16)) ∙ omega arith

-- a digit in base 16
pub glyph-low : (d : ℕ) → d < 10 → 48 + d ≡ glyph d
unfolding glyph
glyph-low d h = simp (glyph, lt-ltb d 10 h)

pub glyph-high : (d : ℕ) → 10 ≤ d → 87 + d ≡ glyph d
unfolding glyph
glyph-high d h = simp (glyph, le-ltb d 10 h)

-- a word by its sign
pub signed_low : (w : ℕ) → w < 2 ^ 63 → decimal w ≡ signed_decimal w
unfolding signed_decimal
signed_low w h = simp (signed_decimal, lt-ltb w (2 ^ 63) h)

pub signed_high : (w : ℕ) → 2 ^ 63 ≤ w → w < 2 ^ 64 → minus ∷ decimal (2 ^ 64 - 1 - w + 1) ≡ signed_decimal w
unfolding signed_decimal
signed_high w h l =
    let e : 2 ^ 64 - 1 - w + 1 ≡ 2 ^ 64 - w = omega arith in
    ap (λ n. minus ∷ decimal n) e ∙ simp (signed_decimal, le-ltb w (2 ^ 63) h)

pub high-laid : (l : List ℕ) (i w : ℕ) → 2 ^ 63 ≤ w → w < 2 ^ 64
    → sets (set l i minus) (i + 1) (decimal (2 ^ 64 - 1 - w + 1)) ≡ sets l i (signed_decimal w)
high-laid l i w h k = let e : i + 1 ≡ suc i = omega arith in rw (e, ← (signed_high w h k))

pub high-length : (w : ℕ) → 2 ^ 63 ≤ w → w < 2 ^ 64 → 1 + length (decimal (2 ^ 64 - 1 - w + 1)) ≡ length (signed_decimal w)
high-length w h k = rw (← (signed_high w h k)) (omega arith)

-- a column: blanks, and the text at its right end
pub right-length : (w : ℕ) (x : List ℕ) → w - length x + length x ≡ length (right w x)
unfolding right
right-length w x = sym (length-append (times (w - length x) blank) x ∙ ap (λ k. k + length x) (length-times (w - length x) blank))

pub zeros-length : (w n : ℕ) → w - length (decimal n) + length (decimal n) ≡ length (zeros w n)
unfolding zeros
zeros-length w n =
    sym (length-append (times (w - length (decimal n)) 48) (decimal n)
    ∙ ap (λ k. k + length (decimal n)) (length-times (w - length (decimal n)) 48))

-- what fills a column, and then what stands in it
pub fills-right : (w n : ℕ) (x : List ℕ) → n ≡ w - length x → times n blank ++ x ≡ right w x
unfolding right
fills-right w n x e = ap (λ k. times k blank ++ x) e

pub fills-zeros : (w n v : ℕ) → n ≡ w - length (decimal v) → times n 48 ++ decimal v ≡ zeros w v
unfolding zeros
fills-zeros w n v e = ap (λ k. times k 48 ++ decimal v) e

-- a part of the room that was lent and came back
pub part-laid : (a k : ℕ) (l x y : List ℕ) → y ≡ x → k ≡ length x → a + length x ≤ length l → put_mid a k l y ≡ sets l a x
part-laid a k l x y e n h =
    put_mid-paste a k l y x (length x) e (sym n) refl ∙ paste_all l a x (length x) refl
    ∙ sym (sets-eq x l a h ∙ append_assoc (take a l) x (drop (a + length x) l))

pub times-replicate : (n b : ℕ) → replicate n b ≡ times n b
unfolding times
times-replicate zero b = refl
times-replicate (suc n) b = ap (λ x. b ∷ x) (times-replicate n b)
