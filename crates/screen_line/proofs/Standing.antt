-- Laws of where an entry's bytes stand: they are in the stream, and they are those that its value counts.
use mathlib.Core.Path.{◌≡◌, refl, sym, ap, ◌∙◌}
use mathlib.Core.Logic.{⊎_elim}
use mathlib.Core.List.{List, [], ◌∷◌}
use Prim.Native.Nat.{ℕ, zero, suc, ◌+◌, ◌-◌, ◌/◌, ◌<◌, ◌≤◌}
use native.Mathlib.Omega.{arith}
use borrow.Author.Tests.{lt-ltb, le-ltb}
use lib.ListN.{length, take, drop, length-drop}
use lib.Seq.{take_all, length-take-le}
use Rattle.facts.proofs.Numbers.{lt-or-ge}
use Rattle.screen_head.specs.Head.{Five}
use Rattle.screen_line.specs.Line.{bytes_of}
use Rattle.screen_line.specs.Room.{least, from_in, bytes_in}

pub least_first : (a b : ℕ) → a < b → a ≡ least a b
unfolding least
least_first a b h = simp (least, lt-ltb a b h)

pub least-second : (a b : ℕ) → b ≤ a → b ≡ least a b
unfolding least
least-second a b h = simp (least, le-ltb a b h)

least-most : (a b : ℕ) → least a b ≤ a
least-most a b = ⊎_elim
    (λ (h : a < b). omega (arith, least_first a b h))
    (λ (h : b ≤ a). omega (arith, least-second a b h))
    (lt-or-ge a b)

pub from_first : (n p : ℕ) → n < p / 8 → n ≡ from_in n p
unfolding from_in
from_first n p h = least_first n (p / 8) h

pub from_second : (n p : ℕ) → p / 8 ≤ n → p / 8 ≡ from_in n p
unfolding from_in
from_second n p h = least-second n (p / 8) h

pub from-most : (n p : ℕ) → from_in n p ≤ n
unfolding from_in
from-most n p = least-most n (p / 8)

pub bytes-first : (n p v f : ℕ) → f ≡ from_in n p → n - f < v → n - f ≡ bytes_in n p v
unfolding bytes_in
bytes-first n p v f e h = least_first (n - f) v h ∙ ap (λ k. least (n - k) v) e

pub bytes-second : (n p v f : ℕ) → f ≡ from_in n p → v ≤ n - f → v ≡ bytes_in n p v
unfolding bytes_in
bytes-second n p v f e h = least-second (n - f) v h ∙ ap (λ k. least (n - k) v) e

pub bytes_fit : (n p v : ℕ) → from_in n p + bytes_in n p v ≤ n
unfolding bytes_in
bytes_fit n p v = omega (arith, from-most n p, least-most (n - from_in n p) v)

-- nothing behind the end
drop_past : (n : ℕ) (s : List ℕ) → length s ≤ n → drop n s ≡ []
drop_past zero [] h = refl
drop_past (suc n) [] h = refl
drop_past zero (b ∷ s) h = absurd (omega arith)
drop_past (suc n) (b ∷ s) h = drop_past n s (omega arith)

same_from : (s : List ℕ) (p : ℕ) → drop (from_in (length s) p) s ≡ drop (p / 8) s
same_from s p = ⊎_elim
    (λ (h : length s < p / 8).
    drop_past (from_in (length s) p) s (omega (arith, from_first (length s) p h)) ∙ sym (drop_past (p / 8) s (omega arith)))
    (λ (h : p / 8 ≤ length s). ap (λ k. drop k s) (sym (from_second (length s) p h)))
    (lt-or-ge (length s) (p / 8))

same_bytes : (s : List ℕ) (p v : ℕ) (x : List ℕ) → x ≡ drop (from_in (length s) p) s → take (bytes_in (length s) p v) x ≡ take v x
same_bytes s p v x e =
    let n : length x ≡ length s - from_in (length s) p = ap length e ∙ length-drop (from_in (length s) p) s in
    ⊎_elim
    (λ (h : length s - from_in (length s) p < v).
    take_all (bytes_in (length s) p v) x (omega (arith, n, bytes-first (length s) p v (from_in (length s) p) refl h))
    ∙ sym (take_all v x (omega (arith, n))))
    (λ (h : v ≤ length s - from_in (length s) p). ap (λ k. take k x) (sym (bytes-second (length s) p v (from_in (length s) p) refl h)))
    (lt-or-ge (length s - from_in (length s) p) v)

pub bytes-are : (s : List ℕ) (e : Five) → take (bytes_in (length s) e.place e.value) (drop (from_in (length s) e.place) s) ≡
    bytes_of s e
unfolding bytes_of
bytes-are s e =
    same_bytes s e.place e.value (drop (from_in (length s) e.place) s) refl ∙ ap (λ x. take e.value x) (same_from s e.place)

pub bytes-length : (s : List ℕ) (e : Five) → length (bytes_of s e) ≡ bytes_in (length s) e.place e.value
bytes-length s e =
    ap length (sym (bytes-are s e))
    ∙ length-take-le _ (drop (from_in (length s) e.place) s)
    (omega (arith, length-drop (from_in (length s) e.place) s, bytes_fit (length s) e.place e.value))
