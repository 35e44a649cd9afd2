-- Laws of a line's pieces, case by case, and how long they are.
use mathlib.Core.Path.{◌≡◌, refl, sym, ap, ◌∙◌}
use mathlib.Core.List.{List, [], ◌++◌}
use mathlib.Core.Bool.{true, false}
use Prim.Native.Nat.{ℕ, ◌+◌, ◌-◌, ◌*◌, ◌/◌, ◌%◌, ◌<◌, ◌≤◌}
use native.Mathlib.Omega.{arith}
use borrow.Author.Tests.{eq-eqb, ne_eqb, lt-ltb, le-ltb}
use lib.ListN.{length, take, drop, length-drop}
use lib.Seq.{length-take-le}
use Rattle.screen_number.specs.Number.{bytes}
use Rattle.screen_number.proofs.Laid.{Laid}
use Rattle.screen_head.specs.Head.{Five, head}
use Rattle.screen_text.specs.Escape.{part}
use Rattle.screen_line.specs.Line.{line, bytes_of}
use Rattle.screen_line.specs.Pieces.{is_text, last_part, text_part, text_piece, only_piece, piece, pieces}
use Rattle.screen_head.specs.Kinds.{word}
use Rattle.screen_number.specs.Number.{decimal, left}
use Rattle.screen_head.specs.Head.{column, value_of_kind}
use Rattle.screen_head.proofs.Words.{word-length}
use Rattle.screen_head.proofs.Columns.{left-length, column-length, value-length}
use lib.ListN.{length-append}
use lib.Dec.{lit≤}

pub laid_none : (l : List ℕ) (i : ℕ) → Laid l l i i []
laid_none l i = record { end = omega arith; list = refl }

-- a head has 112 bytes at most
lengths-5 : (v w x y z : List ℕ) → length (v ++ w ++ x ++ y ++ z) ≡ length v + length w + length x + length y + length z
lengths-5 v w x y z = simp length-append

pub head-length : (e : Five) → length (head e) ≤ 112
unfolding head
head-length e = omega (
  arith,
  lengths-5 (left 15 (word e.kind)) (column 10 (decimal e.place)) (column 9 (decimal e.bits))
      (column 21 (value_of_kind e.kind e.value)) (column 5 (decimal e.number)),
  left-length 15 (word e.kind),
  word-length e.kind,
  column-length 10 e.place (lit≤ tt),
  column-length 9 e.bits (lit≤ tt),
  value-length e.kind e.value,
  column-length 5 e.number (lit≤ tt),
)

-- a text's pieces
pub part-whole : (t : List ℕ) (k : ℕ) → k < length t / 32 → part t (32 * k) 32 ≡ text_part t k
unfolding text_part
part-whole t k h = simp (text_part, lt-ltb k (length t / 32) h)

pub part-last : (t : List ℕ) (k : ℕ) → k ≡ length t / 32 → part t (32 * k) (length t % 32) ++ bytes "\"\n" ≡ text_part t k
unfolding text_part last_part
part-last t k h = simp (text_part, le-ltb k (length t / 32) (omega (arith, h)), last_part, eq-eqb k (length t / 32) h)

pub part_none : (t : List ℕ) (k : ℕ) → length t / 32 ≤ k → (k ≡ length t / 32 → ⊥) → [] ≡ text_part t k
unfolding text_part last_part
part_none t k h n = simp (text_part, le-ltb k (length t / 32) h, last_part, ne_eqb k (length t / 32) n)

-- a text that is so many bytes of the stream, from one of them on
module _ (s : List ℕ) (from n : ℕ) (h : from + n ≤ length s) where
  text-length : length (take n (drop from s)) ≡ n
  text-length = length-take-le n (drop from s) (omega (arith, length-drop from s))

  pub whole_of : (k : ℕ) → k < n / 32 → part (take n (drop from s)) (32 * k) 32 ≡ text_part (take n (drop from s)) k
  whole_of k l = part-whole (take n (drop from s)) k (omega (arith, text-length))

  pub last_of : (k : ℕ) → k ≡ n / 32 → part (take n (drop from s)) (32 * k) (n % 32) ++ bytes "\"\n" ≡ text_part (take n (drop from s)) k
  last_of k e =
      ap (λ m. part (take n (drop from s)) (32 * k) (m % 32) ++ bytes "\"\n") (sym text-length)
      ∙ part-last (take n (drop from s)) k (omega (arith, text-length, e))

  pub none_of : (k : ℕ) → n / 32 ≤ k → (k ≡ n / 32 → ⊥) → [] ≡ text_part (take n (drop from s)) k
  none_of k l z = part_none (take n (drop from s)) k (omega (arith, text-length)) (λ e. z (omega (arith, e, text-length)))

pub piece-opens : (e : Five) (t : List ℕ) (i : ℕ) → i ≡ 0 → head e ++ bytes "  \"" ≡ text_piece e t i
unfolding text_piece
piece-opens e t i h = simp (text_piece, eq-eqb i 0 h)

pub piece-behind : (e : Five) (t : List ℕ) (i : ℕ) → (i ≡ 0 → ⊥) → text_part t (i - 1) ≡ text_piece e t i
unfolding text_piece
piece-behind e t i h = simp (text_piece, ne_eqb i 0 h)

-- a line's
pub piece-text : (s : List ℕ) (f : ℕ) (e : Five) (i : ℕ) → is_text e ≡ true → text_piece e (bytes_of s e) i ≡ piece s f e i
unfolding piece
piece-text s f e i h = simp (piece, h)

pub piece-only : (s : List ℕ) (f : ℕ) (e : Five) (i : ℕ) → is_text e ≡ false → i ≡ 0 → line s f e ≡ piece s f e i
unfolding piece only_piece
piece-only s f e i h z = simp (piece, h, only_piece, eq-eqb i 0 z)

pub piece-none : (s : List ℕ) (f : ℕ) (e : Five) (i : ℕ) → is_text e ≡ false → (i ≡ 0 → ⊥) → [] ≡ piece s f e i
unfolding piece only_piece
piece-none s f e i h z = simp (piece, h, only_piece, ne_eqb i 0 z)

pub pieces-text : (s : List ℕ) (e : Five) → is_text e ≡ true → length (bytes_of s e) / 32 + 2 ≡ pieces s e
unfolding pieces
pieces-text s e h = simp (pieces, h)

pub pieces-one : (s : List ℕ) (e : Five) → is_text e ≡ false → 1 ≡ pieces s e
unfolding pieces
pieces-one s e h = simp (pieces, h)
