-- What values mean is of printable ASCII alone. In order: bytes and bits; seconds; a float.
use mathlib.Core.List.{List, [], ◌∷◌, ◌++◌}
use mathlib.Core.Bool.{Bool, true, false}
use Prim.Native.Nat.{ℕ, ◌+◌, ◌-◌, ◌*◌, ◌/◌, ◌%◌, ◌^◌}
use native.Mathlib.Omega.{arith}
use lib.ListN.{length, take}
use lib.Dec.{ltb, eqb}
use Rattle.screen_number.specs.Number.{bytes, decimal, hex, zeros, minus}
use Rattle.screen_number.proofs.Printed.{Printed, printed-append, printed-3, printed-4, printed-5, printed-either, decimal-printed}
use Rattle.screen_number.proofs.Printed.{hex-printed, zeros-printed, all_printed, given-printed}
use Rattle.screen_meaning.specs.Bytes.{hexes, more, blob, digits_of, bit_array}
use Rattle.screen_meaning.specs.Seconds.{nanos, seconds}
use Rattle.screen_meaning.specs.Float.{sign, lead, power_of, significand, power_signed, exponent, exact, millionths, below, is_exact}
use Rattle.screen_meaning.specs.Float.{mark, six_decimals, marked, decimals, special, Format, format, finite, binary32, binary64}
use Rattle.screen_meaning.specs.Float.{shown_float}

-- Bytes and bits

hexes-printed : (b : List ℕ) → Printed (hexes b)
unfolding hexes
hexes-printed [] = tt
hexes-printed (c ∷ b) = printed-append (hex 2 c) (hexes b) (hex-printed 2 c) (hexes-printed b)

more-printed : (n : ℕ) → Printed (more n)
unfolding more bytes all_printed
more-printed n =
    printed-3 (bytes " + ") (decimal (n - 32)) (bytes " bytes")
    (given-printed " + " tt) (decimal-printed (n - 32)) (given-printed " bytes" tt)

pub blob-printed : (b : List ℕ) → Printed (blob b)
unfolding blob
blob-printed b =
    printed-either (ltb 32 (length b)) (hexes (take 32 b) ++ more (length b)) (hexes b)
    (printed-append (hexes (take 32 b)) (more (length b)) (hexes-printed (take 32 b)) (more-printed (length b))) (hexes-printed b)

pub bits-printed : (n v : ℕ) → Printed (bit_array n v)
unfolding bit_array bytes all_printed
bits-printed n v = printed-append (bytes "0x") (hex (digits_of n) v) (given-printed "0x" tt) (hex-printed (digits_of n) v)

-- Seconds

pub seconds-printed : (f v : ℕ) → Printed (seconds f v)
unfolding seconds bytes all_printed
seconds-printed f v =
    printed-either (eqb f 0) [] (decimal (v / f) ++ bytes "." ++ zeros 9 (nanos f v) ++ bytes " s") tt
    (printed-4 (decimal (v / f)) (bytes ".") (zeros 9 (nanos f v)) (decimal-printed (v / f)) (given-printed "." tt)
    (zeros-printed 9 (nanos f v)) (bytes " s") (given-printed " s" tt))

-- A float: its sign, its exact form, six decimals

sign-printed : (n : ℕ) → Printed (sign n)
unfolding sign
sign-printed n = printed-either (eqb n 0) [] (minus ∷ []) tt ((omega arith, omega arith), tt)

lead-printed : (r : ℕ) → Printed (lead r)
unfolding lead bytes all_printed
lead-printed r = printed-either (eqb r 0) (bytes "0") (bytes "1") (given-printed "0" tt) (given-printed "1" tt)

power-printed : (up down : ℕ) → Printed (power_signed up down)
unfolding power_signed
power-printed up down =
    printed-either (ltb up down) (minus ∷ decimal (down - up)) (43 ∷ decimal (up - down))
    ((omega arith, omega arith), decimal-printed (down - up)) ((omega arith, omega arith), decimal-printed (up - down))

exponent-printed : (bias r x : ℕ) → Printed (exponent bias r x)
unfolding exponent bytes all_printed
exponent-printed bias r x =
    printed-either (eqb (r + x) 0) (bytes "+0") (power_signed (power_of r) bias) (given-printed "+0" tt) (power-printed (power_of r) bias)

exact-printed : (digits filled bias r x : ℕ) → Printed (exact digits filled bias r x)
unfolding exact bytes all_printed
exact-printed digits filled bias r x =
    printed-append (bytes "0x" ++ lead r ++ bytes "." ++ hex digits filled ++ bytes "p") (exponent bias r x)
    (printed-5 (bytes "0x") (lead r) (bytes ".") (given-printed "0x" tt) (lead-printed r) (given-printed "." tt)
    (hex digits filled) (hex-printed digits filled) (bytes "p") (given-printed "p" tt))
    (exponent-printed bias r x)

mark-printed : (b : Bool) → Printed (mark b)
unfolding mark bytes all_printed
mark-printed true = given-printed " =" tt
mark-printed false = given-printed " ~" tt

six-printed : (q : ℕ) → Printed (six_decimals q)
unfolding six_decimals bytes all_printed
six-printed q =
    printed-3 (decimal (q / 10 ^ 6)) (bytes ".") (zeros 6 (q % 10 ^ 6)) (decimal-printed (q / 10 ^ 6)) (given-printed "." tt)
    (zeros-printed 6 (q % 10 ^ 6))

marked-printed : (b : Bool) (n q : ℕ) → Printed (marked b n q)
unfolding marked
marked-printed b n q = printed-3 (mark b) (sign n) (six_decimals q) (mark-printed b) (sign-printed n) (six-printed q)

decimals-printed : (n m u d : ℕ) → Printed (decimals n m u d)
unfolding decimals
decimals-printed n m u d =
    printed-either (below m u d) (marked (is_exact m u d) n (millionths m u d)) [] (marked-printed (is_exact m u d) n (millionths m u d)) tt

special-printed : (n x : ℕ) → Printed (special n x)
unfolding special bytes all_printed
special-printed n x =
    printed-either (eqb x 0) (sign n ++ bytes "inf") (bytes "nan")
    (printed-append (sign n) (bytes "inf") (sign-printed n) (given-printed "inf" tt)) (given-printed "nan" tt)

finite-printed : (f : Format) (n r x y : ℕ) → Printed (finite f n r x y)
unfolding finite
finite-printed f n r x y =
    let m = significand f.unit r x in
    let up = power_of r - f.low in
    let down = f.low - power_of r in
    printed-3 (sign n) (exact f.digits y f.bias r x) (decimals n m up down) (sign-printed n)
    (exact-printed f.digits y f.bias r x) (decimals-printed n m up down)

binary32-printed : (n r x : ℕ) → Printed (binary32 n r x)
unfolding binary32
binary32-printed n r x =
    let f = format 6 127 (2 ^ 23) 150 in
    printed-either (eqb r 255) (special n x) (finite f n r x (x * 2)) (special-printed n x) (finite-printed f n r x (x * 2))

binary64-printed : (n r x : ℕ) → Printed (binary64 n r x)
unfolding binary64
binary64-printed n r x =
    let f = format 13 1023 (2 ^ 52) 1075 in
    printed-either (eqb r 2047) (special n x) (finite f n r x x) (special-printed n x) (finite-printed f n r x x)

pub float-printed : (n v : ℕ) → Printed (shown_float n v)
unfolding shown_float
float-printed n v =
    printed-either (eqb n 32) (binary32 (v / 2 ^ 31 % 2) (v / 2 ^ 23 % 256) (v % 2 ^ 23))
    (binary64 (v / 2 ^ 63 % 2) (v / 2 ^ 52 % 2048) (v % 2 ^ 52))
    (binary32-printed (v / 2 ^ 31 % 2) (v / 2 ^ 23 % 256) (v % 2 ^ 23))
    (binary64-printed (v / 2 ^ 63 % 2) (v / 2 ^ 52 % 2048) (v % 2 ^ 52))
