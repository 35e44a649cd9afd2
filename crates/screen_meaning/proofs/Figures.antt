-- What values mean, computed from the definitions: a float of each sort, a clock, bytes and bits.
use mathlib.Core.Path.{◌≡◌, refl}
use mathlib.Core.List.{[], ◌∷◌}
use Rattle.screen_number.specs.Number.{bytes, times}
use Rattle.screen_meaning.specs.Bytes.{blob, bit_array}
use Rattle.screen_meaning.specs.Seconds.{seconds}
use Rattle.screen_meaning.specs.Float.{shown_float}
use Rattle.screen_meaning.specs.Meant.{meant}

a-third : shown_float 32 1051372203 ≡ bytes "0x1.555556p-2 ~0.333333"
unfolding meant
a-third = refl

a_tenth : shown_float 64 4591870180066957722 ≡ bytes "0x1.999999999999ap-4 ~0.100000"
unfolding meant
a_tenth = refl

a-half-below-zero : shown_float 32 3204448256 ≡ bytes "-0x1.000000p-1 =-0.500000"
unfolding meant
a-half-below-zero = refl

-- the sign of zero is kept; the least number; one above the limit
zero-below : shown_float 64 9223372036854775808 ≡ bytes "-0x0.0000000000000p+0 =-0.000000"
unfolding meant
zero-below = refl

the-least : shown_float 32 1 ≡ bytes "0x0.000002p-126 ~0.000000"
unfolding meant
the-least = refl

the-limit : shown_float 64 4786511204640096256 ≡ bytes "0x1.d1a94a2000000p+39"
unfolding meant
the-limit = refl

-- half a millionth goes up
half_up : shown_float 64 4575657221408423936 ≡ bytes "0x1.0000000000000p-7 ~0.007813"
unfolding meant
half_up = refl

no_number : shown_float 32 2143289344 ≡ bytes "nan"
unfolding meant
no_number = refl

without_end : shown_float 64 18442240474082181120 ≡ bytes "-inf"
unfolding meant
without_end = refl

a-clock : seconds 1000000 1060000 ≡ bytes "1.060000000 s"
unfolding meant
a-clock = refl

a-third-of-a-turn : seconds 3 1 ≡ bytes "0.333333333 s"
unfolding meant
a-third-of-a-turn = refl

no-clock : seconds 0 7 ≡ []
unfolding meant
no-clock = refl

flags : bit_array 12 2748 ≡ bytes "0xabc"
unfolding meant
flags = refl

a-frame : blob (0 ∷ 17 ∷ 255 ∷ []) ≡ bytes "0011ff"
unfolding meant
a-frame = refl

one_more : blob (times 33 1) ≡ bytes "0101010101010101010101010101010101010101010101010101010101010101 + 1 bytes"
unfolding meant
one_more = refl
