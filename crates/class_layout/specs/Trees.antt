-- The class that stands at a byte of a table, as total functions of the bytes: its tree, the byte behind it, its alignment's exponent, and
-- that it stands whole. `d` is how many depths it may have, its own among them. Of an accepted table they are what the rules' parse
-- finds (proofs/Stands); a reader goes by them and parses nothing.
use Rattle.std.specs.Prelude.{◌≡◌, ℕ, zero, suc, ◌+◌, ◌-◌, ◌*◌, ◌≤◌, max, List, [], ◌∷◌, length, get_or}
use Rattle.rules.specs.Limits.{no_slot}
use Rattle.rules.specs.Class.{Sort, bit_array, boolean, unsigned_int, signed_int, float, Sign, Range, Class, fixed, leb128, signed_leb128}
use Rattle.rules.specs.Class.{string, static_string, static_blob, dynamic_string, dynamic_blob, structure, static_array, dynamic_array, flagged}
use Rattle.rules.specs.Class.{optional, variant, Classes, no_member, member, Options, no_option, option}
use Rattle.rules.specs.Record.{Shape, bit_field, leb_field, signed_leb_field, zero_string, text, blob, text_of, blob_of, members, elements}
use Rattle.rules.specs.Record.{elements_of, option?, options, u8, u16, u64}
use Rattle.rules.specs.Faults.{role_of, sign_of}
use Rattle.rules.specs.Parse.{order_of}
use Rattle.class_layout.specs.Numbers.{Begins}

-- Kinds

-- what a class record announces, by kind from 16
unfoldable pub shapes : List Shape
shapes =
    bit_field bit_array ∷ bit_field boolean ∷ bit_field unsigned_int ∷ bit_field signed_int ∷ bit_field float
    ∷ leb_field ∷ signed_leb_field ∷ zero_string ∷ text ∷ blob ∷ text_of ∷ blob_of
    ∷ members ∷ elements ∷ elements_of ∷ option? ∷ options ∷ []

unfoldable pub shape_of : ℕ → Shape
shape_of k = get_or shapes (k - 16) zero_string

-- the bytes of a class record itself, its kind among them
unfoldable pub record_size : Shape → ℕ
record_size (bit_field bit_array) = 4
record_size (bit_field boolean) = 5
record_size (bit_field unsigned_int) = 6
record_size (bit_field signed_int) = 5
record_size (bit_field float) = 4
record_size leb_field = 3
record_size signed_leb_field = 2
record_size zero_string = 1
record_size text = 3
record_size blob = 4
record_size text_of = 2
record_size blob_of = 2
record_size members = 3
record_size elements = 4
record_size elements_of = 3
record_size option? = 3
record_size options = 3

-- Ranges and options: a range takes 18 bytes, and an option's class stands behind its ranges

unfoldable pub ranges_at : List ℕ → ℕ → ℕ → List Range
ranges_at t at zero = []
ranges_at t at (suc n) = record { low = u64 t (at + 2); high = u64 t (at + 10) } ∷ ranges_at t (at + 18) n

-- the sign of the range at a byte
unfoldable pub sign_at : List ℕ → ℕ → Sign
sign_at t at = sign_of (u8 t (at + 1))

abbrev pub option_class : List ℕ → ℕ → ℕ
option_class t at = at + 2 + 18 * u8 t (at + 1)

-- an optional of no ranges goes by a flag
unfoldable pub optional_of : ℕ → Sign → List Range → Class → Class
optional_of i g [] c = flagged i c
optional_of i g (r ∷ rs) c = optional i g (r ∷ rs) c

-- Trees; f is what stands at a byte, one depth less

-- a tree, and the byte behind it
pub record Stood : Type 0 where
  pub class : Class
  pub next : ℕ

unfoldable pub members_at : (ℕ → Stood) → ℕ → ℕ → Classes
members_at f at zero = no_member
members_at f at (suc n) = member (f at).class (members_at f (f at).next n)

unfoldable pub behind_members : (ℕ → Stood) → ℕ → ℕ → ℕ
behind_members f at zero = at
behind_members f at (suc n) = behind_members f (f at).next n

unfoldable pub options_at : (ℕ → Stood) → List ℕ → ℕ → ℕ → Options
options_at f t at zero = no_option
options_at f t at (suc n) =
    option (ranges_at t (at + 2) (u8 t (at + 1))) (f (option_class t at)).class (options_at f t (f (option_class t at)).next n)

unfoldable pub behind_options : (ℕ → Stood) → List ℕ → ℕ → ℕ → ℕ
behind_options f t at zero = at
behind_options f t at (suc n) = behind_options f t (f (option_class t at)).next n

-- length, order and align of a record of kinds 16 to 20, with the slot and the role that its kind has
abbrev pub fixed_at : Sort → List ℕ → ℕ → ℕ → ℕ → Class
fixed_at k t at slot role = fixed k (u8 t (at + 1)) (order_of (u8 t (at + 2))) (u8 t (at + 3)) slot (role_of role)

unfoldable pub class_in : (ℕ → Stood) → List ℕ → ℕ → Shape → Class
class_in f t at (bit_field bit_array) = fixed_at bit_array t at no_slot 0
class_in f t at (bit_field boolean) = fixed_at boolean t at (u8 t (at + 4)) 0
class_in f t at (bit_field unsigned_int) = fixed_at unsigned_int t at (u8 t (at + 4)) (u8 t (at + 5))
class_in f t at (bit_field signed_int) = fixed_at signed_int t at (u8 t (at + 4)) 0
class_in f t at (bit_field float) = fixed_at float t at no_slot 0
class_in f t at leb_field = leb128 (u8 t (at + 1)) (role_of (u8 t (at + 2)))
class_in f t at signed_leb_field = signed_leb128 (u8 t (at + 1))
class_in f t at zero_string = string
class_in f t at text = static_string (u16 t (at + 1))
class_in f t at blob = static_blob (u16 t (at + 1)) (role_of (u8 t (at + 3)))
class_in f t at text_of = dynamic_string (u8 t (at + 1))
class_in f t at blob_of = dynamic_blob (u8 t (at + 1))
class_in f t at members = structure (u8 t (at + 2)) (members_at f (at + 3) (u8 t (at + 1)))
class_in f t at elements = static_array (u16 t (at + 1)) (u8 t (at + 3)) (f (at + 4)).class
class_in f t at elements_of = dynamic_array (u8 t (at + 1)) (u8 t (at + 2)) (f (at + 3)).class
class_in f t at option? =
    optional_of (u8 t (at + 1)) (sign_at t (at + 3)) (ranges_at t (at + 3) (u8 t (at + 2))) (f (at + 3 + 18 * u8 t (at + 2))).class
class_in f t at options = variant (u8 t (at + 1)) (sign_at t (at + 5)) (options_at f t (at + 3) (u8 t (at + 2)))

unfoldable pub next_in : (ℕ → Stood) → List ℕ → ℕ → Shape → ℕ
next_in f t at (bit_field k) = at + record_size (bit_field k)
next_in f t at leb_field = at + 3
next_in f t at signed_leb_field = at + 2
next_in f t at zero_string = at + 1
next_in f t at text = at + 3
next_in f t at blob = at + 4
next_in f t at text_of = at + 2
next_in f t at blob_of = at + 2
next_in f t at members = behind_members f (at + 3) (u8 t (at + 1))
next_in f t at elements = (f (at + 4)).next
next_in f t at elements_of = (f (at + 3)).next
next_in f t at option? = (f (at + 3 + 18 * u8 t (at + 2))).next
next_in f t at options = behind_options f t (at + 3) (u8 t (at + 2))

unfoldable pub stood_at : ℕ → List ℕ → ℕ → Stood
stood_at zero t at = record { class = string; next = at }
stood_at (suc d) t at = record { class = class_in (stood_at d t) t at (shape_of (u8 t at)); next = next_in (stood_at d t) t at (shape_of (u8 t at)) }

abbrev pub class_at : ℕ → List ℕ → ℕ → Class
class_at d t at = (stood_at d t at).class

abbrev pub next_at : ℕ → List ℕ → ℕ → ℕ
next_at d t at = (stood_at d t at).next

-- Alignments, as exponents; h is that of the class at a byte, one depth less

unfoldable pub align_members : (ℕ → ℕ) → (ℕ → Stood) → ℕ → ℕ → ℕ
align_members h f at zero = 0
align_members h f at (suc n) = max (h at) (align_members h f (f at).next n)

unfoldable pub align_in : (ℕ → ℕ) → (ℕ → Stood) → List ℕ → ℕ → Shape → ℕ
align_in h f t at (bit_field k) = u8 t (at + 3)
align_in h f t at leb_field = 3
align_in h f t at signed_leb_field = 3
align_in h f t at zero_string = 3
align_in h f t at text = 3
align_in h f t at blob = 3
align_in h f t at text_of = 3
align_in h f t at blob_of = 3
align_in h f t at members = max (u8 t (at + 2)) (align_members h f (at + 3) (u8 t (at + 1)))
align_in h f t at elements = max (u8 t (at + 3)) (h (at + 4))
align_in h f t at elements_of = max (u8 t (at + 2)) (h (at + 3))
align_in h f t at option? = 0
align_in h f t at options = 0

unfoldable pub align_at : ℕ → List ℕ → ℕ → ℕ
align_at zero t at = 0
align_at (suc d) t at = align_in (align_at d t) (stood_at d t) t at (shape_of (u8 t at))

-- That a class stands whole: its bytes are there, and its numbers are in range; g says so of a byte, one depth less

unfoldable pub WholeMembers : (ℕ → Type 0) → (ℕ → Stood) → ℕ → ℕ → Type 0
WholeMembers g f at zero = Unit {0}
WholeMembers g f at (suc n) = g at × WholeMembers g f (f at).next n

unfoldable pub WholeOptions : (ℕ → Type 0) → (ℕ → Stood) → List ℕ → ℕ → ℕ → Type 0
WholeOptions g f t at zero = Unit {0}
WholeOptions g f t at (suc n) =
    (1 ≤ u8 t (at + 1)) × (option_class t at ≤ length t) × g (option_class t at) × WholeOptions g f t (f (option_class t at)).next n

unfoldable pub WholeIn : (ℕ → Type 0) → (ℕ → Stood) → List ℕ → ℕ → Shape → Type 0
WholeIn g f t at (bit_field k) = (1 ≤ u8 t (at + 1)) × (u8 t (at + 1) ≤ 64) × (u8 t (at + 3) ≤ 6)
WholeIn g f t at leb_field = Unit {0}
WholeIn g f t at signed_leb_field = Unit {0}
WholeIn g f t at zero_string = Unit {0}
WholeIn g f t at text = Unit {0}
WholeIn g f t at blob = Unit {0}
WholeIn g f t at text_of = Unit {0}
WholeIn g f t at blob_of = Unit {0}
WholeIn g f t at members = (u8 t (at + 2) ≤ 6) × WholeMembers g f (at + 3) (u8 t (at + 1))
WholeIn g f t at elements = (u8 t (at + 3) ≤ 6) × g (at + 4)
WholeIn g f t at elements_of = (u8 t (at + 2) ≤ 6) × g (at + 3)
WholeIn g f t at option? = (at + 3 + 18 * u8 t (at + 2) ≤ length t) × g (at + 3 + 18 * u8 t (at + 2))
WholeIn g f t at options = (1 ≤ u8 t (at + 2)) × WholeOptions g f t (at + 3) (u8 t (at + 2))

-- That the ranges and the options that a class announces are records of their kinds, "33" and "34" (The class table)

unfoldable pub RangeKinds : List ℕ → ℕ → ℕ → Type 0
RangeKinds t at zero = Unit {0}
RangeKinds t at (suc n) = (u8 t at ≡ 33) × RangeKinds t (at + 18) n

unfoldable pub OptionKinds : (ℕ → Stood) → List ℕ → ℕ → ℕ → Type 0
OptionKinds f t at zero = Unit {0}
OptionKinds f t at (suc n) =
    (u8 t at ≡ 34) × RangeKinds t (at + 2) (u8 t (at + 1)) × OptionKinds f t (f (option_class t at)).next n

unfoldable pub KindsIn : (ℕ → Stood) → List ℕ → ℕ → Shape → Type 0
KindsIn f t at (bit_field k) = Unit {0}
KindsIn f t at leb_field = Unit {0}
KindsIn f t at signed_leb_field = Unit {0}
KindsIn f t at zero_string = Unit {0}
KindsIn f t at text = Unit {0}
KindsIn f t at blob = Unit {0}
KindsIn f t at text_of = Unit {0}
KindsIn f t at blob_of = Unit {0}
KindsIn f t at members = Unit {0}
KindsIn f t at elements = Unit {0}
KindsIn f t at elements_of = Unit {0}
KindsIn f t at option? = RangeKinds t (at + 3) (u8 t (at + 2))
KindsIn f t at options = OptionKinds f t (at + 3) (u8 t (at + 2))

-- the record itself is there, and is of a class; then what it announces, and of which kinds that is; and it is one of the table's records
pub record Whole (g : ℕ → Type 0) (f : ℕ → Stood) (t : List ℕ) (at : ℕ) : Type 0 where
  pub low : 16 ≤ u8 t at
  pub high : u8 t at ≤ 32
  pub there : at + record_size (shape_of (u8 t at)) ≤ length t
  pub parts : WholeIn g f t at (shape_of (u8 t at))
  pub kinds : KindsIn f t at (shape_of (u8 t at))
  pub begins : Begins t at

unfoldable pub IsWhole : ℕ → List ℕ → ℕ → Type 0
IsWhole zero t at = ⊥
IsWhole (suc d) t at = Whole (IsWhole d t) (stood_at d t) t at
