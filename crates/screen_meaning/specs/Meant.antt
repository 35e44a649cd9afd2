-- One name for the definitions of what is meant, to compute with them: `unfolding meant` opens them all.
use Rattle.std.specs.Prelude.{ℕ}
use Rattle.screen_number.specs.Number.{bytes, decimal, decimal_of, hex, glyph, times, zeros}
use Rattle.screen_meaning.specs.Bytes.{hexes, more, blob, digits_of, bit_array}
use Rattle.screen_meaning.specs.Seconds.{nanos, seconds}
use Rattle.screen_meaning.specs.Float.{sign, lead, power_of, significand, power_signed, exponent, exact}
use Rattle.screen_meaning.specs.Float.{over, millionths, below, is_exact, mark, six_decimals}
use Rattle.screen_meaning.specs.Float.{marked, decimals, special, finite, binary32, binary64, shown_float}

unfoldable pub texts : ℕ
unfolding bytes decimal decimal_of hex glyph times zeros hexes more blob digits_of bit_array nanos seconds
texts = 0

unfoldable pub forms : ℕ
unfolding sign lead power_of significand power_signed exponent exact special finite binary32 binary64 shown_float
forms = 0

unfoldable pub sixths : ℕ
unfolding over millionths below is_exact mark six_decimals marked decimals
sixths = 0

unfoldable pub meant : ℕ
unfolding texts forms sixths
meant = 0
