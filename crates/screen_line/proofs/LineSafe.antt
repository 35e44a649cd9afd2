-- A line steers no terminal: its head and every meaning but a text are of printable ASCII, and a text is safe beside them.
use mathlib.Core.Path.{sym}
use mathlib.Core.List.{List, [], ◌∷◌, ◌++◌, append_assoc}
use Prim.Native.Nat.{ℕ}
use lib.ListN.{length}
use lib.Dec.{eqb}
use Rattle.screen_number.specs.Number.{bytes, line_end}
use Rattle.screen_number.specs.Safe.{Safe}
use Rattle.screen_number.proofs.Printed.{Printed, printed-append, printed-either, printed-safe, safe-append, all_printed, given-printed}
use Rattle.screen_head.specs.Kinds.{Shows, plain, signed, as_hex, as_float, as_seconds, as_text, as_bytes, row_of}
use Rattle.screen_head.specs.Head.{Five, head}
use Rattle.screen_head.proofs.HeadPrinted.{head-printed}
use Rattle.screen_text.specs.Escape.{quoted}
use Rattle.screen_text.proofs.Visible.{text-safe}
use Rattle.screen_meaning.specs.Bytes.{blob, bit_array}
use Rattle.screen_meaning.specs.Seconds.{seconds}
use Rattle.screen_meaning.specs.Float.{shown_float}
use Rattle.screen_meaning.proofs.MeantPrinted.{bits-printed, float-printed, seconds-printed, blob-printed}
use Rattle.screen_line.specs.Line.{line, bytes_of, clock_meaning, blob_meaning, meaning}
use Rattle.screen_line.specs.Promised.{LineSafe}

blanks-printed : Printed (bytes "  ")
unfolding bytes all_printed
blanks-printed = given-printed "  " tt

behind-blanks : (x : List ℕ) → Printed x → Printed (bytes "  " ++ x)
behind-blanks x p = printed-append (bytes "  ") x blanks-printed p

clock-printed : (f v : ℕ) → Printed (clock_meaning f v)
unfolding clock_meaning
clock-printed f v = printed-either (eqb f 0) [] (bytes "  " ++ seconds f v) tt (behind-blanks (seconds f v) (seconds-printed f v))

bytes-printed : (b : List ℕ) → Printed (blob_meaning b)
unfolding blob_meaning
bytes-printed b = printed-either (eqb (length b) 0) [] (bytes "  " ++ blob b) tt (behind-blanks (blob b) (blob-printed b))

meaning-safe : (h : Shows) (s : List ℕ) (f : ℕ) (e : Five) → Safe (meaning h s f e)
unfolding meaning
meaning-safe plain s f e = printed-safe [] tt
meaning-safe signed s f e = printed-safe [] tt
meaning-safe as_hex s f e = printed-safe _ (behind-blanks (bit_array e.bits e.value) (bits-printed e.bits e.value))
meaning-safe as_float s f e = printed-safe _ (behind-blanks (shown_float e.bits e.value) (float-printed e.bits e.value))
meaning-safe as_seconds s f e = printed-safe _ (clock-printed f e.value)
meaning-safe as_text s f e =
    safe-append (bytes "  ") (quoted (bytes_of s e)) (printed-safe (bytes "  ") blanks-printed) (text-safe (bytes_of s e))
meaning-safe as_bytes s f e = printed-safe _ (bytes-printed (bytes_of s e))

pub line-safe : LineSafe
unfolding line bytes
line-safe s f e =
    let m = meaning (row_of e.kind).shows s f e in
    record {
      text = head e ++ m;
      whole = sym (append_assoc (head e) m (line_end ∷ []));
      safe = safe-append (head e) m (printed-safe (head e) (head-printed e)) (meaning-safe (row_of e.kind).shows s f e);
    }
