-- What a walk over a part of a table finds: the byte behind it, or the number and the byte of the first record with a fault.
use Rattle.std.specs.Prelude.{ℕ}

pub data Walk : Type 0 where
  Fine : ℕ → Walk
  Bad : ℕ → ℕ → Walk
