-- Each way that a leaf counted in whole bytes is found or refused, by the tests that lead to it. In order: BLOBs; bytes read as text;
-- strings; texts.
use Prim.Native.Nat.{ℕ, ◌+◌, ◌-◌, ◌*◌, ◌/◌, ◌%◌, ◌^◌, ◌<◌, ◌≤◌}
use native.Mathlib.Omega.{arith}
use mathlib.Core.Path.{◌≡◌, refl, sym, ap, ◌∙◌}
use mathlib.Core.List.{List}
use mathlib.Core.Bool.{Bool, true, false, not}
use lib.ListN.{length, take, drop, length-take, length-drop}
use lib.Seq.{take-take}
use Rattle.rules.specs.declared.BitPlace.{BitPlace}
use Rattle.rules.specs.declared.ByteLength.{ByteLength}
use Rattle.rules.specs.declared.Refusal.{Refusal}
use Rattle.rules.specs.declared.Refusal.TheVariants.{PastBound, NoZeroByte, NotText}
use Rattle.rules.specs.Place.{byte_length}
use Rattle.rules.specs.Text.{text_length, zero_at, is_text}
use Rattle.text.specs.declared.Text.{Text}
use Rattle.text.specs.Reading.{text_of}
use Rattle.text.proofs.Laws.{text-le, text-own, zero-before, zero-never}
use Rattle.frame.specs.declared.Frame.{Frame}
use Rattle.leaf_find_number.specs.declared.Found.{Found}
use Rattle.leaf_find_number.specs.declared.Found.TheVariants.{At, Refused}
use Rattle.frame.specs.Framed.{Framed, aligned_at}
use Rattle.leaf_find_number.specs.Found.{unless, within, past_bound_of}
use Rattle.leaf_find_number.proofs.Finds.{within-past, within-fits, read, bytes-ahead}
use Rattle.leaf_find_bytes.specs.Found.{of_text, found_zero, found_string, found_blob, found_text}

-- BLOBs that stand at p once they are aligned
module _ (f : Frame) (from p : BitPlace) (e : p ≡ aligned_at f 8 from) where
  pub blob-past : (n : ℕ) → f.bound.0 < p.0 → past_bound_of f ≡ found_blob f from n
  unfolding found_blob
  blob-past n past = rw (← e) (sym (within-past f p 0 _ (omega arith)))

  pub blob-short : (n : ℕ) → p.0 ≤ f.bound.0 → f.bound.0 < p.0 + 8 * n → past_bound_of f ≡ found_blob f from n
  unfolding found_blob
  blob-short n l past = rw (← e) (sym (within-fits f p 0 _ (omega arith) ∙ within-past f p (8 * n) _ past))

  pub blob-at : (n : ℕ) → p.0 + 8 * n ≤ f.bound.0 → At (8 * n) p n ≡ found_blob f from n
  unfolding found_blob
  blob-at n fits = rw (← e) (sym (within-fits f p 0 _ (omega arith) ∙ within-fits f p (8 * n) _ fits))

-- bytes that were read as text

module _ (x : List ℕ) (t : Text) (is : t ≡ text_of x) (from : BitPlace) (y : Found) where
  not-text : not t.formed ≡ true → Refused from NotText ≡ of_text x from y
  unfolding text_of of_text unless
  not-text h = rw (sym (ap (λ u. not u.formed) is) ∙ h) refl

  of-text : not t.formed ≡ false → y ≡ of_text x from y
  unfolding text_of of_text unless
  of-text h = rw (sym (ap (λ u. not u.formed) is) ∙ h) refl

-- strings that stand at p once they are aligned
module _ (b : List ℕ) (f : Frame) (from p : BitPlace) (e : p ≡ aligned_at f 8 from) where
  pub string-past : f.bound.0 < p.0 → past_bound_of f ≡ found_string b f from
  unfolding found_string
  string-past past = rw (← e) (sym (within-past f p 0 _ (omega arith)))

  string-at : f.start.0 % 8 ≡ 0 → p.0 ≤ f.bound.0 → found_zero b from p (zero_at (read b f from p e)) ≡ found_string b f from
  unfolding found_string
  string-at whole l = rw (bytes-ahead b f from p e whole l, ← e) (sym (within-fits f p 0 _ (omega arith)))

-- where n bytes from p on hold a zero byte, what stands before it is their text
module _ (b : List ℕ) (from p : BitPlace) (i n : ℕ) (is : i ≡ p.0 / 8) where
  abbrev first : ℕ → List ℕ
  first k = take k (drop i b)

  zero-text : text_length (first n) < length (first n)
      → found_zero b from p (zero_at (first n)) ≡ of_text (first n) from (At (8 * (text_length (first n) + 1)) p (text_length (first n)))
  unfolding found_zero of_text
  zero-text h =
      let few : text_length (first n) ≤ n = omega (arith, length-take n (drop i b)) in
      let own : is_text (first (text_length (first n))) ≡ is_text (first n) =
      ap is_text (sym (take-take (text_length (first n)) n (drop i b) few)) ∙ text-own (first n) in
      rw (zero-before (first n) h, ← is, own) refl

-- the bytes from a string's aligned place to the bound, read as text
pub record StringRead (b : List ℕ) (f : Frame) (from p : BitPlace) (at end : ByteLength) (t : Text) : Type 0 where
  pub framed : Framed b f from
  pub aligned : p ≡ aligned_at f 8 from
  pub inside : p.0 ≤ f.bound.0
  pub at-is : at ≡ byte_length (p.0 / 8)
  pub end_is : end ≡ byte_length (f.bound.0 / 8)
  pub text-is : t ≡ text_of (take (end.0 - at.0) (drop at.0 b))

module _ {b : List ℕ} {f : Frame} {from p : BitPlace} {at end : ByteLength} {t : Text} (known : StringRead b f from p at end t) where
  abbrev left : ℕ
  left = end.0 - at.0

  abbrev part : List ℕ
  part = take left (drop at.0 b)

  string-is : found_zero b from p (zero_at part) ≡ found_string b f from
  string-is = rw (known.at-is, known.end_is) (string-at b f from p known.aligned known.framed.whole known.inside)

  count-is : t.count.0 ≡ text_length part
  unfolding text_of
  count-is = ap (λ u. u.count.0) known.text-is

  pub string-endless : t.count.0 ≡ left → Refused from NoZeroByte ≡ found_string b f from
  unfolding found_zero
  string-endless all =
      let none : length part ≤ text_length part = omega (arith, count-is, length-take left (drop at.0 b)) in
      rw (← string-is, zero-never part none) refl

  -- a zero byte stands behind the text
  module _ (more : t.count.0 ≡ left → ⊥) where
    fewer : (t.count.0 < length part) × (length part ≤ length b)
    fewer =
        let in-stream : end.0 ≤ length b = rw known.end_is (omega (arith, known.framed.ends)) in
        let all : length part ≡ left = simp (length-take, length-drop) (omega arith) in
        omega (arith, more, count-is, text-le part)

    pub short-text : t.count.0 + 1 < 2 ^ 60
    short-text = omega (arith, fewer, known.framed.small)

    string-text : of_text part from (At (8 * (t.count.0 + 1)) p t.count.0) ≡ found_string b f from
    string-text =
        let byte : at.0 ≡ p.0 / 8 = ap (λ k. k.0) known.at-is in
        let ends : text_length part < length part = omega (arith, fewer, count-is) in
        rw (count-is) (sym (zero-text b from p at.0 left byte ends) ∙ string-is)

    pub string-malformed : not t.formed ≡ true → Refused from NotText ≡ found_string b f from
    string-malformed h = not-text part t known.text-is from _ h ∙ string-text

    pub string-ends : not t.formed ≡ false → At (8 * (t.count.0 + 1)) p t.count.0 ≡ found_string b f from
    string-ends h = of-text part t known.text-is from _ h ∙ string-text

-- texts: where a BLOB of so many bytes stands, whatever y it says

module _ (w : Refusal) (bound q : BitPlace) (m v : ℕ) (y : Found) {x : Found} where
  refused-alike : (s t : Bool) {p : BitPlace} {r : Refusal} → x ≡ unless s w bound (unless t w bound (At m q v)) → x ≡ Refused p r
      → Refused p r ≡ unless s w bound (unless t w bound y)
  unfolding unless
  refused-alike true t is e = sym e ∙ is
  refused-alike false true is e = sym e ∙ is
  refused-alike false false is e = let z : ◌≡◌ {A = ℕ} 0 1 = cc in absurd (omega arith)

  found_alike : (s t : Bool) {p : BitPlace} {n k : ℕ} → x ≡ unless s w bound (unless t w bound (At m q v)) → x ≡ At n p k
      → (y ≡ unless s w bound (unless t w bound y)) × (q ≡ p) × (m ≡ n)
  unfolding unless
  found_alike true t is e = let z : ◌≡◌ {A = ℕ} 0 1 = cc in absurd (omega arith)
  found_alike false true is e = let z : ◌≡◌ {A = ℕ} 0 1 = cc in absurd (omega arith)
  found_alike false false {p} {n} {k} is e =
      let same : At m q v ≡ At n p k = sym is ∙ e in
      let place : q ≡ p = cc in
      let width : m ≡ n = cc in
      (refl, place, width)

module _ (b : List ℕ) (f : Frame) (from : BitPlace) (n : ℕ) {x : Found} (is : x ≡ found_blob f from n) where
  pub text-refused : {p : BitPlace} {r : Refusal} → x ≡ Refused p r → Refused p r ≡ found_text b f from n
  unfolding found_blob found_text within
  text-refused e = refused-alike _ _ _ _ _ _ _ _ is e

  -- its bytes, read as text
  module _ {p : BitPlace} {m v : ℕ} (found : x ≡ At m p v) (at : ByteLength) (at-is : at ≡ byte_length (p.0 / 8)) where
    abbrev text : List ℕ
    text = take n (drop at.0 b)

    text-found : of_text text from (At m p (text_length text)) ≡ found_text b f from n
    unfolding found_blob found_text within
    text-found =
        let q = aligned_at f 8 from in
        let y = take n (drop (q.0 / 8) b) in
        let alike = found_alike PastBound f.bound q (8 * n) n (of_text y from (At (8 * n) q (text_length y))) _ _ is found in
        rw (at-is, ← alike.1, ← alike.2) alike.0

    module _ (t : Text) (text-is : t ≡ text_of text) where
      pub text-malformed : not t.formed ≡ true → Refused from NotText ≡ found_text b f from n
      text-malformed h = not-text text t text-is from _ h ∙ text-found

      pub text_at : not t.formed ≡ false → At m p t.count.0 ≡ found_text b f from n
      unfolding text_of
      text_at h = rw (ap (λ u. u.count.0) text-is) (of-text text t text-is from _ h ∙ text-found)
