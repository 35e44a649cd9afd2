-- A number by the sign's byte, in the order of its sign; and whether a range holds it.
use Rattle.std.proofs.Common.{◌≡◌, ℕ, ◌+◌, ◌%◌, ◌^◌, ◌<◌, ◌≤◌, false, leb, refl, le-leb}
use borrow.Author.Tests.{lt-leb}
use Rattle.rules.specs.Class.{Sign, Range, key, holds}
use Rattle.rules.specs.Faults.{sign_of}
use Rattle.slots.proofs.Signs.{sign-plain, sign-signed}

module _ (b n : ℕ) where
  pub key-plain : b ≡ 0 → n ≡ key (sign_of b) n
  unfolding key
  key-plain h = rw (sign-plain b h) refl

  pub key-signed : (b ≡ 0 → ⊥) → (n + 2 ^ 63) % 2 ^ 64 ≡ key (sign_of b) n
  unfolding key
  key-signed h = rw (sign-signed b h) refl

-- by the keys, as they are compared
module _ (g : Sign) (v : ℕ) (r : Range) where
  pub holds-below : {n low : ℕ} → n ≡ key g v → low ≡ key g r.low → n < low → false ≡ holds g v r
  unfolding holds
  holds-below d e l = rw (lt-leb (key g r.low) (key g v) (rw (d, e) at l)) refl

  pub holds-from : {n low high : ℕ} → n ≡ key g v → low ≡ key g r.low → high ≡ key g r.high → low ≤ n → leb n high ≡ holds g v r
  unfolding holds
  holds-from d e h l = rw (d, h, le-leb (key g r.low) (key g v) (rw (d, e) at l)) refl
