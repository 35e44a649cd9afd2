-- Laws of a walk over fragments. In order: enough rounds are enough, so that the places from a byte on are that byte, if a fragment is
-- there, and those behind it; the fragments behind the preamble; one fragment's own numbers.
use mathlib.Core.Path.{◌≡◌, refl, sym, ap, ◌∙◌}
use Prim.Native.Nat.{ℕ, zero, suc, ◌+◌, ◌-◌, ◌≤◌, ◌<◌}
use native.Mathlib.Omega.{arith}
use mathlib.Core.Logic.{⊎_elim}
use mathlib.Core.List.{List, [], ◌∷◌}
use lib.ListN.{length, get_or}
use borrow.Author.Tests.{lt-ltb, le-ltb}
use Rattle.facts.proofs.Numbers.{lt-or-ge}
use Rattle.rules.specs.Record.{u8}
use Rattle.class_layout.specs.Fragments.{opening_size, behind_fragment, fragments_from, fragments_of, Fragment, All}
use Rattle.class_layout.specs.Sizes.{SizedFragment, Sized, SizedFrom, places_from}

pub none_left : (t : List ℕ) (at left : ℕ) → length t ≤ at → fragments_from left t at ≡ []
unfolding fragments_from
none_left t at zero l = refl
none_left t at (suc left) l = rw (le-ltb at (length t) l, fragments_from)

one-ahead : (t : List ℕ) (n at : ℕ) → at < length t → fragments_from (suc n) t at ≡ at ∷ fragments_from n t (behind_fragment t at)
unfolding fragments_from
one-ahead t n at l = rw (lt-ltb at (length t) l, fragments_from) refl

module _ (t s : List ℕ) where
  from-enough : (m n at : ℕ) → All (SizedFragment t s) (fragments_from m t at) → length t ≤ at + m → length t ≤ at + n
      → fragments_from m t at ≡ fragments_from n t at
  from-enough zero n at w j k = none_left t at zero (omega arith) ∙ sym (none_left t at n (omega arith))
  from-enough (suc m) zero at w j k = none_left t at (suc m) (omega arith) ∙ sym (none_left t at zero (omega arith))
  from-enough (suc m) (suc n) at w j k = ⊎_elim
      (λ (l : at < length t).
      let w₁ : All (SizedFragment t s) (at ∷ fragments_from m t (behind_fragment t at)) = rw (one-ahead t m at l) at w in
      let f = w₁.0.stands.onward in
      one-ahead t m at l
      ∙ ap (λ os. at ∷ os) (from-enough m n (behind_fragment t at) w₁.1 (omega (arith, f)) (omega (arith, f)))
      ∙ sym (one-ahead t n at l))
      (λ (l : length t ≤ at). none_left t at (suc m) l ∙ sym (none_left t at (suc n) l))
      (lt-or-ge at (length t))

pub walk-none : (t : List ℕ) (at : ℕ) → length t ≤ at → places_from t at ≡ []
unfolding places_from
walk-none t at l = none_left t at (length t - at) l

-- a fragment, and those behind it
pub record Next (t s : List ℕ) (at n : ℕ) : Type 0 where
  pub onward : at < at + n
  pub same : places_from t at ≡ at ∷ places_from t (at + n)
  pub sized : SizedFrom t s (at + n)

pub walk-next : {t s : List ℕ} {at n : ℕ} → at < length t → SizedFrom t s at → n ≡ get_or s at 0 → Next t s at n
unfolding places_from
walk-next {t} {s} {at} {n} l h e =
    let m = length t - at - 1 in
    let z : length t - at ≡ suc m = omega arith in
    let q : fragments_from (length t - at) t at ≡ at ∷ fragments_from m t (behind_fragment t at) =
    ap (λ k. fragments_from k t at) z ∙ one-ahead t m at l in
    let w : All (SizedFragment t s) (at ∷ fragments_from m t (behind_fragment t at)) = rw q at h.each in
    let f = w.0 in
    let b : behind_fragment t at ≡ at + n = omega (arith, f.size, e) in
    let r : fragments_from m t (behind_fragment t at) ≡ fragments_from (length t - (at + n)) t (at + n) =
    from-enough t s m (length t - behind_fragment t at) (behind_fragment t at) w.1 (omega (arith, f.stands.onward)) (omega arith)
    ∙ ap (λ k. fragments_from (length t - k) t k) b in
    record {
      onward = omega (arith, f.stands.onward);
      same = q ∙ ap (λ os. at ∷ os) r;
      sized = record { limit = h.limit; room = h.room; each = rw r at w.1 };
    }

-- those behind the preamble
pub walk-start : {t s : List ℕ} → Sized t s → SizedFrom t s 2
unfolding fragments_of places_from
walk-start h = record { limit = h.limit; room = h.room; each = h.each }

pub preamble-first : (t : List ℕ) → places_from t 2 ≡ fragments_of t
unfolding fragments_of places_from
preamble-first t = refl

-- the numbers of a fragment's first record are there
pub opening-there : {t : List ℕ} {o : ℕ} (k : ℕ) → Fragment t o → u8 t o ≡ k → o + opening_size k ≤ length t
opening-there k h e = rw e at h.there
