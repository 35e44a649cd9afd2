-- Laws of two's complement, over the width: the numbers that it keeps, and those below zero; as integers and as words of 64 bits.
use mathlib.Core.Path.{◌≡◌, sym, ap}
use Prim.Native.Nat.{ℕ, suc, ◌+◌, ◌-◌, ◌^◌, ◌<◌, ◌≤◌}
use native.Mathlib.Omega.{arith}
use borrow.Author.Tests.{lt-ltb, le-ltb}
use lib.IntN.{pos, negsuc}
use lib.Pow.{pow_pos, pow_mono}
use Rattle.rules.specs.Bits.{signed, word}
use Rattle.facts.proofs.Numbers.{pow-double}

pub signed_low : (v n : ℕ) → v < 2 ^ (n - 1) → signed v n ≡ pos v
unfolding signed
signed_low v n h = simp (signed, lt-ltb v (2 ^ (n - 1)) h)

pub signed_high : (v n : ℕ) → 2 ^ (n - 1) ≤ v → v < 2 ^ n → signed v n ≡ negsuc (2 ^ n - suc v)
unfolding signed
signed_high v n h₀ h₁ = simp (signed, le-ltb v (2 ^ (n - 1)) h₀, lt-ltb v (2 ^ n) h₁)

pub word_low : (v n : ℕ) → v < 2 ^ (n - 1) → v ≡ word (signed v n)
unfolding word
word_low v n h = sym (ap word (signed_low v n h))

pub word-high : (v n : ℕ) → 0 < n → n ≤ 64 → v < 2 ^ n → 2 ^ (n - 1) ≤ v
    → (v - 2 ^ (n - 1)) + ((2 ^ 64 - 1) - (2 ^ (n - 1) - 1)) ≡ word (signed v n)
unfolding word
word-high v n h₀ h₁ h₂ h₃ =
    let half : 2 ^ (n - 1) ≤ 2 ^ 63 = pow_mono {i = n - 1} {j = 63} (omega arith) in
    rw (signed_high v n h₃ h₂) (omega (arith, pow-double n h₀, pow_pos (n - 1)))
