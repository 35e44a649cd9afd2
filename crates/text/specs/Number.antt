-- The papers' numbers for a string: by what its bytes are, and by where a zero byte ends it.
use Rattle.rules.specs.declared.ByteLength.{ByteLength}
use Rattle.std.specs.Prelude.{ℕ, Bool, true, false, Some, None, Option}
use Rattle.rules.specs.declared.Refusal.TheVariants.{NoZeroByte, NotText}
use Rattle.rules.specs.Verdict.{refusal_number}

-- "otherwise refuse with a new number 41" (02, 1)
unfoldable pub text_number : Bool → ℕ
text_number true = 0
text_number false = refusal_number NotText

-- "no zero byte before the bound" (25), whatever the bytes are
unfoldable pub ended_number : Bool → Option ByteLength → ℕ
ended_number formed (Some n) = text_number formed
ended_number formed None = refusal_number NoZeroByte
