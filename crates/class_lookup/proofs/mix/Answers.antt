-- Each product is below 2 to the 62, its factors being below 2 to the 32 and to the 30; so the sum of four fits 64 bits.
use mathlib.Core.Path.{refl}
use Prim.Native.Nat.{ℕ, ◌+◌, ◌^◌, ◌<◌}
use native.Mathlib.Omega.{arith}
use Rattle.class_lookup.specs.Index.{mixed}
use Rattle.class_lookup.proofs.mix.Goals as goal

sum_fits : (a b c d : ℕ) → a < 2 ^ 62 → b < 2 ^ 62 → c < 2 ^ 62 → d < 2 ^ 62 → a + b + c + d < 2 ^ 64
sum_fits a b c d p q r s = omega arith

pub overflow_add-result-3 : goal.overflow_add-result-3
overflow_add-result-3 c =
    record { fits = sum_fits _ _ _ _ (omega arith) (omega arith) (omega arith) (omega arith) }

pub returns : goal.returns
unfolding mixed
returns c = (refl, omega arith)
