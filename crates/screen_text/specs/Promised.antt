-- What is promised of a text.
use Rattle.std.specs.Prelude.{ℕ, List}
use Rattle.screen_number.specs.Safe.{Safe}
use Rattle.screen_text.specs.Escape.{quoted}

-- whatever its bytes are, UTF-8 or not, it steers no terminal
abbrev pub TextSafe : Type 0
TextSafe = (s : List ℕ) → Safe (quoted s)
