-- What the rules' new clock is in other words: the least value, not below the old one, that ends in the stamp's bits; and the standard's
-- own procedure.
use Rattle.std.specs.Prelude.{◌≡◌, ℕ, ◌+◌, ◌-◌, ◌%◌, ◌^◌, ◌<◌, ◌≤◌, true, false, ◌↔◌, bit_and, nat_le, Some}
use Rattle.rules.specs.Clock.{advance, clock_after}

pub record Least (clock l stamp n : ℕ) : Type 0 where
  pub not-below : clock ≤ n
  pub low_bits : n % 2 ^ l ≡ stamp
  pub least : (m : ℕ) → clock ≤ m → m % 2 ^ l ≡ stamp → n ≤ m

-- 000 6.2.1, steps 2 to 5. ~MASK has ones from bit l on: in the 64 + l bits that are enough for a clock of 64 bits, all ones less MASK
unfoldable pub standard : ℕ → ℕ → ℕ → ℕ
standard clock l v =
    let mask = 2 ^ l - 1 in
    let h = bit_and clock (2 ^ (64 + l) - 1 - mask) in
    let cur = bit_and clock mask in
    elim (nat_le cur v) [ true ↦ h + v | false ↦ h + mask + 1 + v ]

pub record NewClock : Type 0 where
  pub is-least : (clock l stamp : ℕ) → stamp < 2 ^ l → Least clock l stamp (clock + advance clock l stamp)
  pub once : {clock l stamp a b : ℕ} → Least clock l stamp a → Least clock l stamp b → a ≡ b
  pub is-standard : (clock l stamp : ℕ) → clock < 2 ^ 64 → stamp < 2 ^ l → standard clock l stamp ≡ clock + advance clock l stamp
  -- the rules give the least value where it fits 64 bits, and nothing else
  pub given : {clock l stamp n : ℕ} → Least clock l stamp n → (clock_after clock l stamp ≡ Some n) ↔ (n < 2 ^ 64)
