-- A last clock that is lower.
use mathlib.Core.Path.{◌≡◌}
use Prim.Native.Nat.{ℕ, ◌≤◌}
use mathlib.Core.Bool.{true}
use Rattle.rules.specs.Table.{StreamClass}

-- a last clock that is lower, where there is a clock
abbrev pub Low : StreamClass → (ℕ → ℕ) → Type 0
Low c l = c.timed ≡ true → (n : ℕ) → l n ≤ n
