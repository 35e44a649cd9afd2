-- A length is an unsigned number within its limit.
use Rattle.std.specs.Prelude.{◌≡◌, ℕ, ◌<◌, ◌≤◌, Bool, true, false, ltb, Result, Ok, Err}
use mathlib.Core.Path.{refl, sym, ap, ◌∙◌}
use borrow.Author.Tests.{lt-ltb, le-ltb}
use Rattle.rules.specs.declared.Content.{Content}
use Rattle.rules.specs.declared.Content.TheVariants.{Unset, Flag, Unsigned, Signed}
use Rattle.rules.specs.declared.Refusal.{Refusal}
use Rattle.rules.specs.declared.Refusal.TheVariants.{LengthTooLarge}
use Rattle.rules.specs.Limits.{length_limit}
use Rattle.rules.specs.Class.{plain}
use Rattle.rules.specs.Faults.{sign_of}
use Rattle.slots.specs.Taken.{length_of, number_of}

limited : Result ℕ Refusal → Result ℕ Refusal
limited (Ok n) = elim (ltb length_limit n) [ true ↦ Err LengthTooLarge | false ↦ Ok n ]
limited (Err r) = Err r

length-is : (x : Content) → length_of x ≡ limited (number_of plain x)
unfolding length_of number_of limited
length-is Unset = refl
length-is (Flag b) = refl
length-is (Unsigned n) = refl
length-is (Signed n) = refl

module _ (x : Content) {o : Result ℕ Refusal} (e : o ≡ number_of (sign_of 0) x) where
  is : length_of x ≡ limited o
  unfolding sign_of
  is = length-is x ∙ ap limited (sym e)

  pub no-length : {r : Refusal} {y : Result ℕ Refusal} → o ≡ Err r → y ≡ Err r → y ≡ length_of x
  unfolding limited
  no-length k l = l ∙ sym (is ∙ ap limited k)

  within : (n : ℕ) (b : Bool) → ltb length_limit n ≡ b → limited (Ok n) ≡ elim b [ true ↦ Err LengthTooLarge | false ↦ Ok n ]
  unfolding limited
  within n b h = ap {B = Result ℕ Refusal} (λ b. elim b [ true ↦ Err LengthTooLarge | false ↦ Ok n ]) h

  pub length-above : (n : ℕ) → o ≡ Ok n → length_limit < n → Err LengthTooLarge ≡ length_of x
  length-above n k h = sym (is ∙ ap limited k ∙ within n true (lt-ltb length_limit n h))

  pub length-fits : (n : ℕ) → o ≡ Ok n → n ≤ length_limit → Ok n ≡ length_of x
  length-fits n k h = sym (is ∙ ap limited k ∙ within n false (le-ltb length_limit n h))
