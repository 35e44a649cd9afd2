-- What an optional or a variant selects, by the tests that lead to it.
use Rattle.std.specs.Prelude.{Ok, Err}
use Rattle.std.proofs.Common.{◌≡◌, ℕ, zero, suc, ◌+◌, ◌≤◌, List, length, sym, refl, ap, ◌∙◌, arith}
use Rattle.rules.specs.declared.Content.{Content}
use Rattle.rules.specs.declared.Refusal.{Refusal}
use Rattle.rules.specs.Record.{u8}
use Rattle.rules.specs.Class.{Sign, any_holds}
use Rattle.rules.specs.Faults.{sign_of}
use Rattle.class_layout.specs.Trees.{Stood, ranges_at, sign_at}
use Rattle.class_layout.specs.Notes.{end_noted}
use Rattle.field_choice.specs.declared.Choice.TheVariants.{Refused}
use Rattle.slots.specs.Taken.{number_of}
use Rattle.field_choice.specs.Choice.{by_number, present_at, by_flag, by_ranges, optional_class, optional_at}
use Rattle.field_choice.specs.Choice.{option_from, variant_in, WholeVariant}
use Rattle.field_choice.proofs.Search.{option-here}

module _ (t : List ℕ) (at : ℕ) (x : Content) where
  flag-ranges : (g : Sign) (n class : ℕ) → n ≡ 0 → by_ranges x g (ranges_at t (at + 3) n) class ≡ by_flag x class
  unfolding ranges_at by_ranges
  flag-ranges g zero class h = refl
  flag-ranges g (suc n) class h = absurd (omega arith)

  some-ranges : (g : Sign) (n class : ℕ) → (n ≡ 0 → ⊥)
      → by_ranges x g (ranges_at t (at + 3) n) class
      ≡ by_number (number_of g x) (λ v. present_at (any_holds g v (ranges_at t (at + 3) n)) class)
  unfolding ranges_at by_ranges
  some-ranges g zero class h = absurd (h refl)
  some-ranges g (suc n) class h = refl

  -- the sign of the first range, by its byte
  optional-sign : sign_at t (at + 3) ≡ sign_of (u8 t (at + 4))
  unfolding sign_at
  optional-sign = let e : at + 3 + 1 ≡ at + 4 = omega arith in ap (λ i. sign_of (u8 t i)) e

  variant-sign : sign_at t (at + 5) ≡ sign_of (u8 t (at + 6))
  unfolding sign_at
  variant-sign = let e : at + 5 + 1 ≡ at + 6 = omega arith in ap (λ i. sign_of (u8 t i)) e

  pub optional-by-flag : u8 t (at + 2) ≡ 0 → by_flag x (optional_class t at) ≡ optional_at t at x
  unfolding optional_at
  optional-by-flag h = sym (flag-ranges (sign_at t (at + 3)) (u8 t (at + 2)) (optional_class t at) h)

  pub optional-refused : (r : Refusal) → (u8 t (at + 2) ≡ 0 → ⊥) → number_of (sign_of (u8 t (at + 4))) x ≡ Err r
      → Refused r ≡ optional_at t at x
  unfolding optional_at by_number
  optional-refused r h e = rw (optional-sign) (sym (some-ranges _ (u8 t (at + 2)) (optional_class t at) h ∙ rw (e) refl))

  pub optional-chosen : (n : ℕ) → (u8 t (at + 2) ≡ 0 → ⊥) → number_of (sign_of (u8 t (at + 4))) x ≡ Ok n
      → present_at (any_holds (sign_of (u8 t (at + 4))) n (ranges_at t (at + 3) (u8 t (at + 2)))) (optional_class t at) ≡ optional_at t at x
  unfolding optional_at by_number
  optional-chosen n h e = rw (optional-sign) (sym (some-ranges _ (u8 t (at + 2)) (optional_class t at) h ∙ rw (e) refl))

  module _ (f : ℕ → Stood) where
    pub variant-refused : (r : Refusal) → number_of (sign_of (u8 t (at + 6))) x ≡ Err r → Refused r ≡ variant_in f t at x
    unfolding variant_in by_number
    variant-refused r e = rw (variant-sign, e) refl

    pub variant-chosen : (n : ℕ) → number_of (sign_of (u8 t (at + 6))) x ≡ Ok n
        → option_from f t (sign_of (u8 t (at + 6))) n 0 (at + 3) (u8 t (at + 2)) ≡ variant_in f t at x
    unfolding variant_in by_number
    variant-chosen n e = rw (variant-sign, e) refl

-- a variant has an option, of a range at least
pub first_range : {t s : List ℕ} {at : ℕ} → WholeVariant t s at → at + 23 ≤ length t
first_range {t} {s} {at} w =
    let o = option-here (end_noted s) t (at + 3) (u8 t (at + 2)) w.some w.options in omega (arith, o.some, o.there)
