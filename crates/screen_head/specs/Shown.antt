-- One name for the definitions of a head, to compute with them: `unfolding shown` opens them all.
use Rattle.std.specs.Prelude.{ℕ}
use Rattle.screen_number.specs.Number.{bytes, decimal, decimal_of, signed_decimal, left, right, times}
use Rattle.screen_head.specs.Kinds.{rows, row, row_of, unknown, named, kind_number, word}
use Rattle.screen_head.specs.Head.{head, column, value_of_kind, shown_value, has_sign}

unfoldable pub shown : ℕ
unfolding bytes decimal decimal_of signed_decimal left right times rows row row_of unknown named kind_number word head column value_of_kind shown_value has_sign
shown = 0
