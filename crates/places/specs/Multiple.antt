-- What the rules' alignment is in other words: the least multiple that is not below; and the standard's own formula.
use Rattle.std.specs.Prelude.{◌≡◌, ℕ, ◌+◌, ◌-◌, ◌%◌, ◌^◌, ◌<◌, ◌≤◌}
use Rattle.std.specs.Int.Bits.{bit_and}
use Rattle.rules.specs.Place.{round_up, align_from}

-- n is the least multiple of a that is at least x
pub record LeastMultiple (a x n : ℕ) : Type 0 where
  pub multiple : n % a ≡ 0
  pub not-below : x ≤ n
  pub least : (m : ℕ) → m % a ≡ 0 → x ≤ m → n ≤ m

-- 000 6.3.1: PO + ((O - PO + A - 1) & -A), with A = 2 ^ k. -A has ones from bit k on: in 64 + k bits it is 2 ^ (64 + k) - A
unfoldable pub standard : ℕ → ℕ → ℕ → ℕ
standard start k place = start + bit_and (place - start + (2 ^ k - 1)) (2 ^ (64 + k) - 2 ^ k)

pub record Aligning : Type 0 where
  pub is-least : (a x : ℕ) → 0 < a → LeastMultiple a x (round_up a x)
  pub is-standard : (start k place : ℕ) → place - start + (2 ^ k - 1) < 2 ^ 64 → standard start k place ≡ align_from start (2 ^ k) place
  -- never back, and never a whole unit on
  pub near : (start a place : ℕ) → 0 < a → start ≤ place → (place ≤ align_from start a place) × (align_from start a place < place + a)
