-- The sign of a range, by its byte; and how a number is asked of it.
use Rattle.std.specs.Prelude.{Ok, Err}
use mathlib.Core.Path.{◌≡◌, refl}
use Prim.Native.Nat.{ℕ, zero, suc}
use native.Mathlib.Omega.{arith}
use Rattle.rules.specs.declared.Content.TheVariants.{Unsigned, Signed}
use Rattle.rules.specs.declared.Refusal.TheVariants.{SlotOfWrongSort}
use Rattle.rules.specs.Class.{plain, signed}
use Rattle.rules.specs.Faults.{sign_of}
use Rattle.slots.specs.Taken.{number_of}

pub sign-plain : (b : ℕ) → b ≡ 0 → sign_of b ≡ plain
unfolding sign_of
sign-plain zero h = refl
sign-plain (suc b) h = absurd (omega arith)

pub sign-signed : (b : ℕ) → (b ≡ 0 → ⊥) → sign_of b ≡ signed
unfolding sign_of
sign-signed zero h = absurd (h refl)
sign-signed (suc b) h = refl

module _ (b n : ℕ) where
  pub unsigned-of-plain : b ≡ 0 → Ok n ≡ number_of (sign_of b) (Unsigned n)
  unfolding number_of
  unsigned-of-plain h = rw (sign-plain b h) refl

  pub unsigned-of-signed : (b ≡ 0 → ⊥) → Err SlotOfWrongSort ≡ number_of (sign_of b) (Unsigned n)
  unfolding number_of
  unsigned-of-signed h = rw (sign-signed b h) refl

  pub signed-of-plain : b ≡ 0 → Err SlotOfWrongSort ≡ number_of (sign_of b) (Signed n)
  unfolding number_of
  signed-of-plain h = rw (sign-plain b h) refl

  pub signed-of-signed : (b ≡ 0 → ⊥) → Ok n ≡ number_of (sign_of b) (Signed n)
  unfolding number_of
  signed-of-signed h = rw (sign-signed b h) refl
