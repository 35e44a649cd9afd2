-- The check before its first fragment: the size, the preamble, a root behind it.
use Rattle.std.specs.Prelude.{Err, Result}
use Rattle.rules.specs.Verdict.{table_fault}
use Rattle.rules.specs.declared.TableFault.{TableFault}
use Rattle.rules.specs.declared.ByteLength.{ByteLength}
use mathlib.Core.Path.{◌≡◌, refl}
use mathlib.Core.Bool.{false}
use mathlib.Core.List.{List, []}
use Prim.Native.Nat.{ℕ, zero, suc, ◌-◌, ◌<◌, ◌≤◌}
use native.Mathlib.Omega.{arith}
use borrow.Author.Tests.{lt-ltb, le-ltb, eq-eqb, ne_eqb}
use lib.ListN.{length}
use Rattle.rules.specs.Limits.{table_limit}
use Rattle.rules.specs.Place.{byte_length}
use Rattle.table_offsets.specs.Check.{or_refused, first_fault, stray, fragments_at, checked_at}

pub refused-zero : (n at : ℕ) (c : Result ByteLength TableFault) → n ≡ 0 → or_refused n at c ≡ c
unfolding or_refused
refused-zero zero at c e = refl
refused-zero (suc n) at c e = absurd (omega arith)

pub refused-some : (n at : ℕ) (c : Result ByteLength TableFault) → (n ≡ 0 → ⊥) → or_refused n at c ≡ Err (table_fault n (byte_length at))
unfolding or_refused
refused-some zero at c e = absurd (e refl)
refused-some (suc n) at c e = refl

pub checked-empty : (t : List ℕ) → length t ≡ 0 → checked_at t ≡ Err (table_fault 1 (byte_length 0))
unfolding checked_at
checked-empty t e = simp (eq-eqb _ _ e, checked_at)

pub checked-long : (t : List ℕ) → (length t ≡ 0 → ⊥) → table_limit < length t → checked_at t ≡ Err (table_fault 1 (byte_length 0))
unfolding checked_at
checked-long t e h = simp (ne_eqb _ _ e, lt-ltb _ _ h, checked_at)

pub checked-on : (t : List ℕ) → (length t ≡ 0 → ⊥) → length t ≤ table_limit
    → checked_at t ≡ or_refused (first_fault t) 0 (or_refused (stray t 2) 2 (fragments_at (length t - 2) t false [] 2))
unfolding checked_at
checked-on t e h = simp (ne_eqb _ _ e, le-ltb _ _ h, checked_at)
