-- How long a meaning is at most, where it is no text: 98 bytes, its two blanks among them.
use mathlib.Core.Path.{◌≡◌, sym, ap}
use mathlib.Core.Logic.{⊎_elim}
use mathlib.Core.List.{List, [], ◌++◌}
use mathlib.Core.Bool.{Bool, true, false}
use Prim.Native.Nat.{ℕ, ◌+◌, ◌-◌, ◌*◌, ◌/◌, ◌%◌, ◌^◌, ◌<◌, ◌≤◌}
use native.Mathlib.Omega.{arith}
use lib.ListN.{length, take, length-append, length-take}
use lib.Dec.{eqb, lit≤}
use Rattle.facts.proofs.Numbers.{lt-or-ge}
use Rattle.screen_number.specs.Number.{bytes, decimal, hex, zeros}
use Rattle.screen_number.proofs.Decimal.{decimal-length}
use Rattle.screen_number.proofs.Laid.{length-hex}
use Rattle.screen_head.specs.Head.{Five}
use Rattle.screen_meaning.specs.Bytes.{hexes, more, blob, digits_of, bit_array}
use Rattle.screen_meaning.specs.Seconds.{seconds, nanos}
use Rattle.screen_meaning.specs.Float.{sign, exact, power_of, significand, mark, six_decimals, marked, decimals}
use Rattle.screen_meaning.specs.Float.{special, format, finite, binary32, binary64, shown_float, below, is_exact, millionths, Format}
use Rattle.screen_meaning.proofs.Hexes.{length-hexes, digits-most, blob-short, blob-long}
use Rattle.screen_meaning.proofs.Turns.{zeros-most}
use Rattle.screen_meaning.proofs.Forms.{sign-length, exact-length, mark-length}
use Rattle.screen_line.specs.Line.{bytes_of, clock_meaning, blob_meaning}
use Rattle.screen_line.specs.Sorts.{short_meaning, from_seconds}

-- one of two texts is as short as both
pub either : (b : Bool) (x y : List ℕ) (n : ℕ) → length x ≤ n → length y ≤ n → length {A = ℕ} (elim b [ true ↦ x | false ↦ y ]) ≤ n
either true x y n h k = h
either false x y n h k = k

lengths-3 : (x y z : List ℕ) → length (x ++ y ++ z) ≡ length x + length y + length z
lengths-3 x y z = simp length-append

lengths-4 : (w x y z : List ℕ) → length (w ++ x ++ y ++ z) ≡ length w + length x + length y + length z
lengths-4 w x y z = simp length-append

bits-length : (n v : ℕ) → length (bit_array n v) ≤ 18
unfolding bit_array bytes
bits-length n v = omega (arith, length-append (bytes "0x") (hex (digits_of n) v), length-hex (digits_of n) v, digits-most n)

six-length : (q : ℕ) → length (six_decimals q) ≤ 41
unfolding six_decimals bytes
six-length q = omega (
  arith,
  lengths-3 (decimal (q / 10 ^ 6)) (bytes ".") (zeros 6 (q % 10 ^ 6)),
  decimal-length (q / 10 ^ 6),
  zeros-most 6 (q % 10 ^ 6) (lit≤ tt),
)

marked-length : (b : Bool) (n q : ℕ) → length (marked b n q) ≤ 44
unfolding marked
marked-length b n q = omega (arith, lengths-3 (mark b) (sign n) (six_decimals q), mark-length b, sign-length n, six-length q)

decimals-length : (n m u d : ℕ) → length (decimals n m u d) ≤ 44
unfolding decimals
decimals-length n m u d =
    either (below m u d) (marked (is_exact m u d) n (millionths m u d)) [] 44 (marked-length (is_exact m u d) n (millionths m u d))
    (omega arith)

special-length : (n x : ℕ) → length (special n x) ≤ 84
unfolding special bytes
special-length n x =
    either (eqb x 0) (sign n ++ bytes "inf") (bytes "nan") 84
    (omega (arith, length-append (sign n) (bytes "inf"), sign-length n)) (omega arith)

finite-length : (f : Format) (n r x y : ℕ) → f.digits ≤ 13 → length (finite f n r x y) ≤ 84
unfolding finite
finite-length f n r x y h =
    let d = decimals n (significand f.unit r x) (power_of r - f.low) (f.low - power_of r) in
    omega (
      arith,
      lengths-3 (sign n) (exact f.digits y f.bias r x) d,
      sign-length n,
      exact-length f.digits y f.bias r x,
      decimals-length n (significand f.unit r x) (power_of r - f.low) (f.low - power_of r),
    )

length-32 : (n r x : ℕ) → length (binary32 n r x) ≤ 84
unfolding binary32
length-32 n r x =
    either (eqb r 255) (special n x) (finite (format 6 127 (2 ^ 23) 150) n r x (x * 2)) 84 (special-length n x)
    (finite-length (format 6 127 (2 ^ 23) 150) n r x (x * 2) (lit≤ tt))

length-64 : (n r x : ℕ) → length (binary64 n r x) ≤ 84
unfolding binary64
length-64 n r x =
    either (eqb r 2047) (special n x) (finite (format 13 1023 (2 ^ 52) 1075) n r x x) 84 (special-length n x)
    (finite-length (format 13 1023 (2 ^ 52) 1075) n r x x (lit≤ tt))

float-length : (n v : ℕ) → length (shown_float n v) ≤ 84
unfolding shown_float
float-length n v =
    either (eqb n 32) (binary32 (v / 2 ^ 31 % 2) (v / 2 ^ 23 % 256) (v % 2 ^ 23))
    (binary64 (v / 2 ^ 63 % 2) (v / 2 ^ 52 % 2048) (v % 2 ^ 52)) 84
    (length-32 (v / 2 ^ 31 % 2) (v / 2 ^ 23 % 256) (v % 2 ^ 23)) (length-64 (v / 2 ^ 63 % 2) (v / 2 ^ 52 % 2048) (v % 2 ^ 52))

seconds-length : (f v : ℕ) → length (seconds f v) ≤ 43
unfolding seconds bytes
seconds-length f v =
    either (eqb f 0) [] (decimal (v / f) ++ bytes "." ++ zeros 9 (nanos f v) ++ bytes " s") 43 (omega arith)
    (omega (
      arith,
      lengths-4 (decimal (v / f)) (bytes ".") (zeros 9 (nanos f v)) (bytes " s"),
      decimal-length (v / f),
      zeros-most 9 (nanos f v) (lit≤ tt),
    ))

more-length : (n : ℕ) → length (more n) ≤ 29
unfolding more bytes
more-length n = omega (arith, lengths-3 (bytes " + ") (decimal (n - 32)) (bytes " bytes"), decimal-length (n - 32))

blob-length : (b : List ℕ) → length (blob b) ≤ 93
blob-length b = ⊎_elim
    (λ (h : 32 < length b). omega (
      arith,
      ap length (sym (blob-long b h)),
      length-append (hexes (take 32 b)) (more (length b)),
      length-hexes (take 32 b),
      length-take 32 b,
      more-length (length b),
    ))
    (λ (h : length b ≤ 32). omega (arith, ap length (sym (blob-short b h)), length-hexes b))
    (lt-or-ge 32 (length b))

behind-blanks : (x : List ℕ) (n : ℕ) → length x ≤ n → length (bytes "  " ++ x) ≤ n + 2
unfolding bytes
behind-blanks x n h = omega (arith, length-append (bytes "  ") x)

clock-meant-length : (f v : ℕ) → length (clock_meaning f v) ≤ 98
unfolding clock_meaning
clock-meant-length f v =
    either (eqb f 0) [] (bytes "  " ++ seconds f v) 98 (omega arith)
    (omega (arith, behind-blanks (seconds f v) 43 (seconds-length f v)))

blob-meant-length : (b : List ℕ) → length (blob_meaning b) ≤ 98
unfolding blob_meaning
blob-meant-length b =
    either (eqb (length b) 0) [] (bytes "  " ++ blob b) 98 (omega arith) (omega (arith, behind-blanks (blob b) 93 (blob-length b)))

from-seconds-length : (n : ℕ) (s : List ℕ) (f : ℕ) (e : Five) → length (from_seconds n s f e) ≤ 98
unfolding from_seconds
from-seconds-length n s f e =
    either (eqb n 3) (clock_meaning f e.value) (elim (eqb n 5) [ true ↦ blob_meaning (bytes_of s e) | false ↦ [] ]) 98
    (clock-meant-length f e.value)
    (either (eqb n 5) (blob_meaning (bytes_of s e)) [] 98 (blob-meant-length (bytes_of s e)) (omega arith))

pub short-length : (n : ℕ) (s : List ℕ) (f : ℕ) (e : Five) → length (short_meaning n s f e) ≤ 98
unfolding short_meaning
short-length n s f e =
    either (eqb n 1) (bytes "  " ++ bit_array e.bits e.value)
    (elim (eqb n 2) [ true ↦ bytes "  " ++ shown_float e.bits e.value | false ↦ from_seconds n s f e ]) 98
    (omega (arith, behind-blanks (bit_array e.bits e.value) 18 (bits-length e.bits e.value)))
    (either (eqb n 2) (bytes "  " ++ shown_float e.bits e.value) (from_seconds n s f e) 98
    (omega (arith, behind-blanks (shown_float e.bits e.value) 84 (float-length e.bits e.value)))
    (from-seconds-length n s f e))
