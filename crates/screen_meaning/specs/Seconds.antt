-- A clock's value in seconds.
use Rattle.std.specs.Prelude.{ℕ, ◌*◌, ◌/◌, ◌%◌, ◌^◌, List, [], ◌++◌, true, false, eqb}
use Rattle.screen_number.specs.Number.{bytes, decimal, zeros}

-- of a clock of so many turns a second
unfoldable pub nanos : ℕ → ℕ → ℕ
nanos f v = v % f * 10 ^ 9 / f

-- whole seconds and nine digits, cut; nothing without a clock
unfoldable pub seconds : ℕ → ℕ → List ℕ
seconds f v = elim (eqb f 0) [ true ↦ [] | false ↦ decimal (v / f) ++ bytes "." ++ zeros 9 (nanos f v) ++ bytes " s" ]
