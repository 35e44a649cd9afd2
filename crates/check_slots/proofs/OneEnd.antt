-- What `Told` says of a walk fixes its answer: of two answers that it allows, each is the other.
use mathlib.Core.Path.{◌≡◌, sym, ap, ◌∙◌}
use mathlib.Core.List.{List}
use Prim.Native.Nat.{ℕ}
use native.Mathlib.Omega.{arith}
use Rattle.std.specs.Prelude.{Result, Ok, Err}
use Rattle.check_slots.specs.Homes.{fault_at}
use Rattle.check_slots.specs.Told.{Told}

pub one-end : (t : List ℕ) (from place : ℕ) (r s : Result ℕ ℕ) → Told t from place r → Told t from place s → r ≡ s
one-end t from place (Ok a) (Ok b) h k = ap Ok (h.0 ∙ sym k.0)
one-end t from place (Err a) (Err b) h k = let same : a ≡ b = omega (arith, h.1, k.1) in ap Err same
one-end t from place (Ok a) (Err b) h k = let within = h.1 k.0 in absurd (omega (arith, h.0, within, k.1))
one-end t from place (Err a) (Ok b) h k = let within = k.1 h.0 in absurd (omega (arith, k.0, within, h.1))
