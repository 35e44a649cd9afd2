-- The number of two bytes and of eight, as the code adds them up.
use mathlib.Core.Path.{◌≡◌, refl, ap}
use Prim.Native.Nat.{ℕ, suc, ◌+◌, ◌*◌, ◌≤◌, ◌<◌}
use native.Mathlib.Omega.{arith}
use mathlib.Core.List.{List}
use lib.ListN.{length, get_or, drop}
use lib.Seq.{drop-cons}
use Rattle.rules.specs.Record.{number, u16, u64}

number-next : (t : List ℕ) (at k n : ℕ) → at + k < length t
    → number (drop (at + k) t) (suc n) ≡ get_or t (at + k) 0 + 256 * number (drop (at + suc k) t) n
unfolding number
number-next t at k n h =
    let e : suc (at + k) ≡ at + suc k = omega arith in
    rw (drop-cons t (at + k) 0 h) (ap (λ j. get_or t (at + k) 0 + 256 * number (drop j t) n) e)

number-none : (x : List ℕ) → number x 0 ≡ 0
unfolding number
number-none x = refl

pub two : (t : List ℕ) (at : ℕ) → at + 2 ≤ length t → get_or t at 0 + get_or t (at + 1) 0 * 256 ≡ u16 t at
unfolding u16
two t at h =
    let z : at + 0 ≡ at = omega arith in
    let a = rw z at (number-next t at 0 1 (omega arith)) in
    omega (arith, a, number-next t at 1 0 (omega arith), number-none (drop (at + 2) t))

pub eight : (t : List ℕ) (at : ℕ) → at + 8 ≤ length t
    → get_or t at 0 + get_or t (at + 1) 0 * 256 + get_or t (at + 2) 0 * 65536 + get_or t (at + 3) 0 * 16777216
    + get_or t (at + 4) 0 * 4294967296 + get_or t (at + 5) 0 * 1099511627776 + get_or t (at + 6) 0 * 281474976710656
    + get_or t (at + 7) 0 * 72057594037927936 ≡ u64 t at
unfolding u64
eight t at h =
    let z : at + 0 ≡ at = omega arith in
    let a = rw z at (number-next t at 0 7 (omega arith)) in
    omega (
      arith,
      a,
      number-next t at 1 6 (omega arith),
      number-next t at 2 5 (omega arith),
      number-next t at 3 4 (omega arith),
      number-next t at 4 3 (omega arith),
      number-next t at 5 2 (omega arith),
      number-next t at 6 1 (omega arith),
      number-next t at 7 0 (omega arith),
      number-none (drop (at + 8) t),
    )
