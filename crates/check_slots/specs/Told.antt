-- What a walk tells of the place where it ends: that it goes on there, which is no byte past the end if the walk begins at none, or the
-- class that is at fault. A walk that begins past the end tells no fault: it ends where it begins, though `fault_at` is that of some byte.
use Rattle.std.specs.Prelude.{ℕ, List, ◌≡◌, ◌≤◌, length, Result, MatchResult}
use Rattle.check_slots.specs.Homes.{fault_at}

abbrev pub Told : List ℕ → ℕ → ℕ → Result ℕ ℕ → Type 0
Told t from place r = MatchResult r (λ next. (next ≡ place) × (from ≤ length t → next ≤ length t))
    (λ byte. (from ≤ length t) × (place ≡ fault_at t byte))
