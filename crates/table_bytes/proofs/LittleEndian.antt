-- Numbers of bytes, one byte more or less, and the bounds of their words.
use mathlib.Core.Path.{◌≡◌, refl}
use mathlib.Core.List.{List}
use Prim.Native.Nat.{ℕ, zero, suc, ◌+◌, ◌-◌, ◌*◌, ◌^◌, ◌<◌, ◌≤◌}
use native.Mathlib.Nat.{pow-suc}
use native.Mathlib.Omega.{arith}
use lib.ListN.{get_or}
use Rattle.table_offsets.specs.Check.{number_at}

number-suc : (t : List ℕ) (at n : ℕ) → number_at t at (suc n) ≡ number_at t (at + 1) n * 256 + get_or t at 0
unfolding number_at
number-suc t at n = refl

pub number_step : (t : List ℕ) (at i n : ℕ) → 0 < i → i ≤ n
    → number_at t (at + (i - 1)) (n - (i - 1)) ≡ number_at t (at + i) (n - i) * 256 + get_or t (at + (i - 1)) 0
number_step t at i n h k =
    let e : n - (i - 1) ≡ suc (n - i) = omega arith in let f : at + (i - 1) + 1 ≡ at + i = omega arith in rw (e, number-suc, f)

pub number-none : (t : List ℕ) (at n : ℕ) → number_at t at (n - n) ≡ 0
unfolding number_at
number-none t at n = let e : n - n ≡ 0 = omega arith in rw e

pub power-step : (i n : ℕ) → 0 < i → i ≤ n → 256 ^ (n - (i - 1)) ≡ 256 ^ (n - i) * 256
power-step i n h k = let e : n - (i - 1) ≡ suc (n - i) = omega arith in rw (e, pow-suc)

power-more : (k m : ℕ) → 256 ^ k ≤ 256 ^ (k + m)
power-more k zero = let e : k + 0 ≡ k = omega arith in rw e (omega arith)
power-more k (suc m) =
    let e : k + suc m ≡ suc (k + m) = omega arith in rw (e, pow-suc 256 (k + m)) (omega (arith, power-more k m))

pub power-most : (k : ℕ) → k ≤ 7 → 256 ^ k ≤ 72057594037927936
power-most k h = let e : k + (7 - k) ≡ 7 = omega arith in rw e at (power-more k (7 - k))
