-- The larger of two numbers, as the library takes it.
use Rattle.std.proofs.Common.{rules, ◌≡◌, ℕ}
use Prim.Native.Nat.{max}
use Rattle.std.specs.Ordering.{ord_max, nat_cmp}

pub larger-is : (a b : ℕ) → ord_max nat_cmp a b ≡ max a b
larger-is a b = search rules
