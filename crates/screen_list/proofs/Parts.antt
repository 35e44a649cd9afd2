-- A piece laid into a part of the room, from a byte of it on, is laid into the room.
use mathlib.Core.Path.{◌≡◌, sym, ap, ◌∙◌}
use mathlib.Core.List.{List, ◌++◌, append_assoc}
use Prim.Native.Nat.{ℕ, ◌+◌, ◌-◌, ◌≤◌}
use native.Mathlib.Omega.{arith}
use borrow.Author.Tests.{le-ltb}
use lib.ListN.{length, take, drop, length-drop, take-append-drop}
use lib.Seq.{sets, sets-eq, length-take-le, drop-append-le, drop-drop}
use Rattle.screen_verdict.specs.Verdict.{laid_line, laid_length}

-- what is lent from a byte on
pub length-lent : (l : List ℕ) (u : ℕ) → u ≤ length l → length (take (length l - u) (drop u l)) ≡ length l - u
length-lent l u h = length-take-le (length l - u) (drop u l) (omega (arith, length-drop u l))

-- and the room when it has come back with a text at its front
pub lent_back : (l : List ℕ) (u : ℕ) (x : List ℕ) → u + length x ≤ length l
    → take u l ++ (sets (take (length l - u) (drop u l)) 0 x ++ drop (length l - u) (drop u l)) ≡ sets l u x
lent_back l u x h =
    let k = length l - u in
    let d = drop u l in
    let m = take k d in
    let g : length x ≤ length m = omega (arith, length-lent l u (omega arith)) in
    let z : 0 + length x ≡ length x = omega arith in
    ap (λ z. take u l ++ (z ++ drop k d)) (sets-eq x m 0 (omega arith) ∙ ap (λ j. x ++ drop j m) z)
    ∙ ap (λ z. take u l ++ z)
    (append_assoc x (drop (length x) m) (drop k d)
    ∙ ap (λ z. x ++ z)
    (sym (drop-append-le (length x) m (drop k d) g) ∙ ap (λ z. drop (length x) z) (take-append-drop k d) ∙ drop-drop (length x) u l))
    ∙ sym (append_assoc (take u l) x (drop (u + length x) l))
    ∙ sym (sets-eq x l u h)

-- in room enough a line is laid whole
pub enough-list : (room x : List ℕ) → 256 ≤ length room → laid_line room x ≡ sets room 0 x
unfolding laid_line
enough-list room x h = simp (laid_line, le-ltb (length room) 256 h)

pub enough-length : (room x : List ℕ) → 256 ≤ length room → laid_length room x ≡ length x
unfolding laid_length
enough-length room x h = simp (laid_length, le-ltb (length room) 256 h)

-- so a piece that is put behind what is used stands there
pub laid-behind : (l m : List ℕ) (u r : ℕ) (x : List ℕ) → u + 256 ≤ length l → length x ≤ 255
    → r ≡ laid_length (take (length l - u) (drop u l)) x → m ≡ laid_line (take (length l - u) (drop u l)) x
    → (u + r ≡ u + length x) × (take u l ++ (m ++ drop (length l - u) (drop u l)) ≡ sets l u x)
laid-behind l m u r x h g p q =
    let k = length l - u in
    let d = drop u l in
    let b : 256 ≤ length (take k d) = omega (arith, length-lent l u (omega arith)) in (
      ap (λ z. u + z) (p ∙ enough-length (take k d) x b),
      ap (λ z. take u l ++ (z ++ drop k d)) (q ∙ enough-list (take k d) x b) ∙ lent_back l u x (omega arith),
    )
