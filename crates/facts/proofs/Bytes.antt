-- Laws of lists of bytes: a part of one is one.
use mathlib.Core.Logic.{⊎_elim}
use mathlib.Core.List.{List}
use Prim.Native.Nat.{ℕ, ◌+◌, ◌<◌, ◌≤◌}
use native.Mathlib.Omega.{arith}
use lib.ListN.{take, drop, length-take, get_or-eq_default}
use lib.Seq.{get_or-take, get_or-drop}
use Rattle.facts.specs.Bytes.{Bytes}
use Rattle.facts.proofs.Numbers.{lt-or-ge}

pub bytes_take : (n : ℕ) (bs : List ℕ) → Bytes bs → Bytes (take n bs)
bytes_take n bs h i = ⊎_elim
    (λ (l : i < n). rw (get_or-take n bs i 0 l) (h i))
    (λ (l : n ≤ i). rw (get_or-eq_default (take n bs) 0 {n = i} (omega (arith, length-take n bs))) (omega arith))
    (lt-or-ge i n)

pub bytes_drop : (n : ℕ) (bs : List ℕ) → Bytes bs → Bytes (drop n bs)
bytes_drop n bs h i = rw (get_or-drop n bs i 0) (h (n + i))
