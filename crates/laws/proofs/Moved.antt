-- Where a length is stated, the place has moved: roots whose fields have a bit or more keep it so.
use mathlib.Core.Logic.{inl, inr}
use Prim.Native.Nat.{ℕ, ◌≤◌}
use native.Mathlib.Omega.{arith}
use Rattle.rules.specs.declared.Said.{Said}
use Rattle.rules.specs.Field.{Env}
use Rattle.laws.specs.Between.{Moved}
use Rattle.laws.proofs.Between.{Kept}

moved_on : (e : Env) (p q : ℕ) (d : Said) → p ≤ q → Moved e p d → Moved e q d
moved_on e p q d h (inl x) = inl x
moved_on e p q d h (inr x) = inr (omega arith)

-- what is said stands behind a field of a bit or more
pub moved-kept : (e : Env) → Kept e (λ n. 1 ≤ n) (Moved e)
moved-kept e = record { some_bits = λ n h. h; moves = moved_on e; says = λ n p d d' w l k. inr (omega arith) }
