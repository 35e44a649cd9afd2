-- What the rules' clock is as the code's answer, and document 01's number for each answer.
use Rattle.clock.specs.declared.Clock.{Clock}
use Rattle.std.specs.Prelude.{ℕ, Option, None, Some}
use Rattle.rules.specs.declared.Refusal.TheVariants.{ClockTooLarge}
use Rattle.rules.specs.Verdict.{refusal_number}

unfoldable pub ticked_of : Option ℕ → Option Clock
ticked_of (Some n) = Some (record { value = n })
ticked_of None = None

-- "clock above 64 bits" (36)
unfoldable pub ticked_number : Option Clock → ℕ
ticked_number (Some c) = 0
ticked_number None = refusal_number ClockTooLarge
