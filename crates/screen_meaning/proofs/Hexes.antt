-- Laws of bytes in base 16. In order: one byte more; how long they are; a BLOB by its length; a bit array's digits.
use mathlib.Core.Path.{◌≡◌, refl, sym, ap, ◌∙◌}
use mathlib.Core.Logic.{⊎_elim}
use mathlib.Core.List.{List, [], ◌∷◌, ◌++◌, append-nil, append_assoc}
use Prim.Native.Nat.{ℕ, suc, ◌+◌, ◌*◌, ◌/◌, ◌<◌, ◌≤◌}
use native.Mathlib.Numerals.{add-one}
use native.Mathlib.Omega.{arith}
use borrow.Author.Tests.{lt-ltb, le-ltb}
use lib.ListN.{length, take, drop, get_or, length-append, length-drop}
use lib.Seq.{take-suc, take-take, get_or-drop, get_or-take, length-take-le}
use Rattle.facts.proofs.Numbers.{lt-or-ge}
use Rattle.screen_number.specs.Number.{hex}
use Rattle.screen_number.proofs.Laid.{length-hex}
use Rattle.screen_meaning.specs.Bytes.{hexes, more, blob, digits_of}

hexes-append : (x y : List ℕ) → hexes (x ++ y) ≡ hexes x ++ hexes y
unfolding hexes
hexes-append [] y = refl
hexes-append (c ∷ x) y = ap (λ z. hex 2 c ++ z) (hexes-append x y) ∙ sym (append_assoc (hex 2 c) (hexes x) (hexes y))

hexes-one : (c : ℕ) → hexes (c ∷ []) ≡ hex 2 c
unfolding hexes
hexes-one c = append-nil (hex 2 c)

pub hexes-none : (x : List ℕ) → hexes (take 0 x) ≡ []
unfolding hexes
hexes-none x = refl

pub hexes-more : (x : List ℕ) (k : ℕ) → k < length x → hexes (take k x) ++ hex 2 (get_or x k 0) ≡ hexes (take (k + 1) x)
hexes-more x k h =
    let s : k + 1 ≡ suc k = add-one k in
    rw (s, take-suc x k 0 h) (sym (hexes-append (take k x) (get_or x k 0 ∷ []) ∙ ap (λ z. hexes (take k x) ++ z) (hexes-one (get_or x k 0))))

pub length-hexes : (x : List ℕ) → length (hexes x) ≡ 2 * length x
unfolding hexes
length-hexes [] = refl
length-hexes (c ∷ x) = length-append (hex 2 c) (hexes x) ∙ omega (arith, length-hex 2 c, length-hexes x)

-- the part of the stream that is shown
pub length_part : (s : List ℕ) (from n : ℕ) → from + n ≤ length s → length (take n (drop from s)) ≡ n
length_part s from n h = length-take-le n (drop from s) (omega (arith, length-drop from s))

pub byte-of-part : (s : List ℕ) (from n i : ℕ) → i < n → get_or s (from + i) 0 ≡ get_or (take n (drop from s)) i 0
byte-of-part s from n i h = sym (get_or-take n (drop from s) i 0 h ∙ get_or-drop from s i 0)

-- how much of a BLOB is shown
pub first-bytes : (s : List ℕ) (from n : ℕ) → 32 < n → take 32 (drop from s) ≡ take 32 (take n (drop from s))
first-bytes s from n h = sym (take-take 32 n (drop from s) (omega arith))

-- a BLOB
pub blob-short : (x : List ℕ) → length x ≤ 32 → hexes x ≡ blob x
unfolding blob
blob-short x h = simp (blob, le-ltb 32 (length x) h)

pub blob-long : (x : List ℕ) → 32 < length x → hexes (take 32 x) ++ more (length x) ≡ blob x
unfolding blob
blob-long x h = simp (blob, lt-ltb 32 (length x) h)

-- a bit array
pub digits-all : (n : ℕ) → 60 < n → 16 ≡ digits_of n
unfolding digits_of
digits-all n h = simp (digits_of, lt-ltb 60 n h)

pub digits-some : (n : ℕ) → n ≤ 60 → (n + 3) / 4 ≡ digits_of n
unfolding digits_of
digits-some n h = simp (digits_of, le-ltb 60 n h)

pub digits-most : (n : ℕ) → digits_of n ≤ 16
digits-most n = ⊎_elim
    (λ (l : 60 < n). omega (arith, digits-all n l))
    (λ (l : n ≤ 60). omega (arith, digits-some n l))
    (lt-or-ge 60 n)
