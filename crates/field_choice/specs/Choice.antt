-- What an optional or a variant selects, by the table's bytes.
use Rattle.rules.specs.declared.Refusal.{Refusal}
use Rattle.std.specs.Prelude.{ℕ, zero, suc, ◌+◌, ◌*◌, ◌<◌, ◌≤◌, Bool, true, false, List, [], ◌∷◌, length, Ok, Err, Result}
use Rattle.rules.specs.declared.Content.{Content}
use Rattle.rules.specs.declared.Content.TheVariants.{Unset, Flag, Unsigned, Signed}
use Rattle.rules.specs.declared.Refusal.TheVariants.{SlotUnset, SlotOfWrongSort}
use Rattle.rules.specs.Limits.{table_limit}
use Rattle.rules.specs.Class.{Sign, Range, any_holds}
use Rattle.rules.specs.Record.{u8, u64}
use Rattle.class_layout.specs.Trees.{Stood, ranges_at, sign_at, option_class, WholeOptions}
use Rattle.class_layout.specs.Notes.{end_noted}
use Rattle.slots.specs.Taken.{number_of}
use Rattle.field_choice.specs.declared.Choice.{Choice}
use Rattle.field_choice.specs.declared.Choice.TheVariants.{Class, Nothing, Refused}

unfoldable pub by_number : Result ℕ Refusal → (ℕ → Choice) → Choice
by_number (Ok n) m = m n
by_number (Err r) m = Refused r

-- the range at a byte
abbrev pub range_at : List ℕ → ℕ → Range
range_at t at = record { low = u64 t (at + 2); high = u64 t (at + 10) }

-- Optionals

unfoldable pub present_at : Bool → ℕ → Choice
present_at true class = Class class 0
present_at false class = Nothing

-- "An optional with 0 ranges needs a flag"
unfoldable pub by_flag : Content → ℕ → Choice
by_flag Unset class = Refused SlotUnset
by_flag (Flag b) class = present_at b class
by_flag (Unsigned n) class = Refused SlotOfWrongSort
by_flag (Signed n) class = Refused SlotOfWrongSort

unfoldable pub by_ranges : Content → Sign → List Range → ℕ → Choice
by_ranges x g [] class = by_flag x class
by_ranges x g (r ∷ rs) class = by_number (number_of g x) (λ v. present_at (any_holds g v (r ∷ rs)) class)

-- the byte of an optional's class
abbrev pub optional_class : List ℕ → ℕ → ℕ
optional_class t at = at + 3 + 18 * u8 t (at + 2)

unfoldable pub optional_at : List ℕ → ℕ → Content → Choice
optional_at t at x = by_ranges x (sign_at t (at + 3)) (ranges_at t (at + 3) (u8 t (at + 2))) (optional_class t at)

-- Variants; f is where the class at a byte ends

-- the first option, the kth and up, that holds the selector
unfoldable pub option_from : (ℕ → Stood) → List ℕ → Sign → ℕ → ℕ → ℕ → ℕ → Choice
option_from f t g v k at zero = Nothing
option_from f t g v k at (suc n) =
    elim (any_holds g v (ranges_at t (at + 2) (u8 t (at + 1))))
    [ true ↦ Class (option_class t at) k | false ↦ option_from f t g v (k + 1) (f (option_class t at)).next n ]

unfoldable pub variant_in : (ℕ → Stood) → List ℕ → ℕ → Content → Choice
variant_in f t at x = by_number (number_of (sign_at t (at + 5)) x) (λ v. option_from f t (sign_at t (at + 5)) v 0 (at + 3) (u8 t (at + 2)))

-- by the sizes noted
abbrev pub variant_at : List ℕ → List ℕ → ℕ → Content → Choice
variant_at t s at x = variant_in (end_noted s) t at x

-- What the code goes by

abbrev pub InTable : List ℕ → ℕ → Type 0
InTable t p = p < length t

pub record WholeOptional (t : List ℕ) (at : ℕ) : Type 0 where
  pub limit : length t ≤ table_limit
  pub there : at + 3 ≤ length t
  pub ranges : optional_class t at ≤ length t

pub record WholeVariant (t s : List ℕ) (at : ℕ) : Type 0 where
  pub limit : length t ≤ table_limit
  pub room : length t ≤ length s
  pub there : at + 3 ≤ length t
  pub some : 1 ≤ u8 t (at + 2)
  pub options : WholeOptions (InTable t) (end_noted s) t (at + 3) (u8 t (at + 2))
