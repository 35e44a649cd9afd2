-- Every piece of a line has less than 256 bytes, whatever the entry and the stream.
use mathlib.Core.Path.{◌≡◌, refl, sym, ap, ◌∙◌}
use mathlib.Core.List.{List, [], ◌++◌}
use mathlib.Core.Bool.{Bool, true, false}
use Prim.Native.Nat.{ℕ, ◌-◌, ◌*◌, ◌/◌, ◌%◌, ◌≤◌}
use native.Mathlib.Omega.{arith}
use borrow.Author.Tests.{eq-eqb}
use lib.ListN.{length, length-append}
use lib.Dec.{ltb, eqb}
use Rattle.facts.proofs.Truth.{clash}
use Rattle.screen_number.specs.Number.{bytes}
use Rattle.screen_head.specs.Kinds.{row_of}
use Rattle.screen_head.specs.Head.{Five, head}
use Rattle.screen_text.specs.Escape.{part}
use Rattle.screen_text.proofs.Texts.{part_length}
use Rattle.screen_verdict.specs.Verdict.{laid_length}
use Rattle.screen_line.specs.Line.{line, bytes_of, meaning}
use Rattle.screen_line.specs.Pieces.{sort_of_kind, is_text, last_part, text_part, text_piece, only_piece, piece}
use Rattle.screen_line.proofs.Sorted.{meant-by}
use Rattle.screen_line.proofs.Lengths.{either, short-length}
use Rattle.screen_line.proofs.Parts.{head-length, piece-text}

text-not : (e : Five) → is_text e ≡ false → sort_of_kind e.kind ≡ 4 → ⊥
unfolding is_text
text-not e h z = clash (sym h ∙ eq-eqb (sort_of_kind e.kind) 4 z)

number-either : (b : Bool) (x y n : ℕ) → x ≤ n → y ≤ n → elim b [ true ↦ x | false ↦ y ] ≤ n
number-either true x y n h k = h
number-either false x y n h k = k

piece-other : (s : List ℕ) (f : ℕ) (e : Five) (i : ℕ) → is_text e ≡ false → only_piece s f e i ≡ piece s f e i
unfolding piece
piece-other s f e i h = simp (piece, h)

-- every piece fits in its room
line-length : (s : List ℕ) (f : ℕ) (e : Five) → is_text e ≡ false → length (line s f e) ≤ 255
unfolding line bytes
line-length s f e h =
    let m = meaning (row_of e.kind).shows s f e in
    omega (
      arith,
      length-append (head e) (m ++ bytes "\n"),
      length-append m (bytes "\n"),
      head-length e,
      ap length (meant-by s f e (sort_of_kind e.kind) refl (text-not e h)),
      short-length (sort_of_kind e.kind) s f e,
    )

part_room : (t : List ℕ) (k : ℕ) → length (text_part t k) ≤ 255
unfolding text_part last_part bytes
part_room t k =
    either (ltb k (length t / 32)) (part t (32 * k) 32) (last_part t k) 255 (omega (arith, part_length t (32 * k) 32))
    (either (eqb k (length t / 32)) (part t (32 * k) (length t % 32) ++ bytes "\"\n") [] 255
    (omega (
      arith,
      length-append (part t (32 * k) (length t % 32)) (bytes "\"\n"),
      part_length t (32 * k) (length t % 32),
    ))
    (omega arith))

text-room : (e : Five) (t : List ℕ) (i : ℕ) → length (text_piece e t i) ≤ 255
unfolding text_piece bytes
text-room e t i =
    either (eqb i 0) (head e ++ bytes "  \"") (text_part t (i - 1)) 255
    (omega (arith, length-append (head e) (bytes "  \""), head-length e)) (part_room t (i - 1))

only-room : (s : List ℕ) (f : ℕ) (e : Five) (i : ℕ) → is_text e ≡ false → length (only_piece s f e i) ≤ 255
unfolding only_piece
only-room s f e i h = either (eqb i 0) (line s f e) [] 255 (line-length s f e h) (omega arith)

by-text : (s : List ℕ) (f : ℕ) (e : Five) (i : ℕ) (b : Bool) → is_text e ≡ b → length (piece s f e i) ≤ 255
by-text s f e i true h = rw (← (piece-text s f e i h)) (text-room e (bytes_of s e) i)
by-text s f e i false h = rw (← (piece-other s f e i h)) (only-room s f e i h)

pub piece-length : (s : List ℕ) (f : ℕ) (e : Five) (i : ℕ) → length (piece s f e i) ≤ 255
piece-length s f e i = by-text s f e i (is_text e) refl

-- so what is answered of a piece is less than its room
pub piece-most : (room s : List ℕ) (f : ℕ) (e : Five) (i : ℕ) → laid_length room (piece s f e i) ≤ 255
unfolding laid_length
piece-most room s f e i = number-either (ltb (length room) 256) 0 (length (piece s f e i)) 255 (omega arith) (piece-length s f e i)
