-- A law of every number below a bound, given one after the other: `a ▷ b ▷ .. ▷ tt`.
--
-- Each, _▷_    the cases, as a type and as they are written
-- below        what holds in each case holds of every number below the bound
use mathlib.Core.Path.{◌≡◌}
use Prim.Native.Nat.{ℕ, zero, suc, ◌+◌, ◌<◌}
use native.Mathlib.Omega.{arith}

-- n numbers from i on
abbrev pub Each : (ℕ → Type 0) → ℕ → ℕ → Type 0
Each P i zero = Unit {0}
Each P i (suc n) = P i × Each P (suc i) n

infixr 20 ◌▷◌
pub ◌▷◌ : {A B : Type 0} → A → B → A × B
a ▷ b = (a, b)

from : (P : ℕ → Type 0) (n i : ℕ) → Each P i n → (k : ℕ) → k < n → P (i + k)
from P zero i h k l = absurd (omega arith)
from P (suc n) i h zero l = let e : i + 0 ≡ i = omega arith in rw e h.0
from P (suc n) i h (suc k) l = let e : i + suc k ≡ suc i + k = omega arith in rw e (from P n (suc i) h.1 k (omega arith))

pub below : (P : ℕ → Type 0) (n : ℕ) → Each P 0 n → (k : ℕ) → k < n → P k
below P n h k l = let e : 0 + k ≡ k = omega arith in rw e at (from P n 0 h k l)
