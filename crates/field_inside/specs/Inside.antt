-- What a field of kinds 28 to 32 holds and where it stands, by the table's bytes and what is noted of its classes: "slot checks 26, 27, 28,
-- alignment"; "29 after the slot checks" (Reading).
use Rattle.rules.specs.declared.Refusal.{Refusal}
use Rattle.std.specs.Prelude.{ℕ, ◌+◌, ◌^◌, ◌≤◌, List, true, false, length, get_or, ltb, Ok, Err, Result}
use Rattle.rules.specs.declared.BitPlace.{BitPlace}
use Rattle.rules.specs.declared.Content.{Content}
use Rattle.rules.specs.declared.Refusal.TheVariants.{PastBound, SelectorInNoOption}
use Rattle.rules.specs.Limits.{table_limit, no_slot}
use Rattle.rules.specs.Record.{Shape, bit_field, leb_field, signed_leb_field, zero_string, text, blob, text_of, blob_of, members, elements, elements_of, option?, options, u8, u16}
use Rattle.rules.specs.Entry.{entry}
use Rattle.rules.specs.Verdict.{stop_at}
use Rattle.rules.specs.Step.{Step, ◌⨾◌, refuse_at, listed}
use Rattle.rules.specs.Class.{Class as FieldClass}
use Rattle.rules.specs.Field.{Env, times, forget, read, read_members}
use Rattle.frame.specs.declared.Frame.{Frame}
use Rattle.frame.specs.Framed.{aligned_at}
use Rattle.slots.specs.Taken.{length_of}
use Rattle.class_layout.specs.Numbers.{number_at}
use Rattle.class_layout.specs.Trees.{shape_of, members_at, stood_at, class_at, Whole}
use Rattle.class_layout.specs.Notes.{Notes, end_noted, align_noted}
use Rattle.field_choice.specs.declared.Choice.{Choice}
use Rattle.field_choice.specs.declared.Choice.TheVariants.{Class, Nothing, Refused as NotTold}
use Rattle.field_inside.specs.declared.look.Inside.{Inside}
use Rattle.field_inside.specs.declared.look.Inside.TheVariants.{Members, Elements, Refused}
use Rattle.field_choice.specs.Choice.{InTable, optional_at, variant_at}

-- the slot that a class reads, at a byte
unfoldable pub slot_read_in : List ℕ → ℕ → Shape → ℕ
slot_read_in t at (bit_field k) = no_slot
slot_read_in t at leb_field = no_slot
slot_read_in t at signed_leb_field = no_slot
slot_read_in t at zero_string = no_slot
slot_read_in t at text = no_slot
slot_read_in t at blob = no_slot
slot_read_in t at text_of = u8 t (at + 1)
slot_read_in t at blob_of = u8 t (at + 1)
slot_read_in t at members = no_slot
slot_read_in t at elements = no_slot
slot_read_in t at elements_of = u8 t (at + 1)
slot_read_in t at option? = u8 t (at + 1)
slot_read_in t at options = u8 t (at + 1)

unfoldable pub slot_read_at : List ℕ → ℕ → ℕ
slot_read_at t at = slot_read_in t at (shape_of (u8 t at))

-- "alignment, bits or bytes past the bound" (22). "For 22 the place becomes the bound that would be crossed." (02, 8)
unfoldable pub within : Frame → BitPlace → Inside → Inside
within f p i = elim (ltb f.bound.0 p.0) [ true ↦ Refused (stop_at PastBound f.bound) | false ↦ i ]

-- what is told of the aligned place
unfoldable pub standing : Frame → ℕ → BitPlace → (BitPlace → Inside) → Inside
standing f a p m = within f (aligned_at f a p) (m (aligned_at f a p))

-- "structures and arrays have bits 0 and their count"
abbrev pub members_from : ℕ → ℕ → BitPlace → Inside
members_from n from p = Members p n from n

abbrev pub elements_from : ℕ → ℕ → BitPlace → Inside
elements_from n from p = Elements p n from n

unfoldable pub by_length : BitPlace → Result ℕ Refusal → (ℕ → Inside) → Inside
by_length p (Ok n) m = m n
by_length p (Err r) m = Refused (stop_at r p)

-- "optionals bits 0 and 1 or 0"; one that is not there holds no class, at the byte behind it
unfoldable pub optional_inside : BitPlace → ℕ → Choice → Inside
optional_inside p behind (Class class i) = Members p 1 class 1
optional_inside p behind Nothing = Members p 0 behind 0
optional_inside p behind (NotTold r) = Refused (stop_at r p)

-- "variants bits 0 and the option's number from 0"; "selector in no option" (29)
unfoldable pub variant_inside : BitPlace → Choice → Inside
variant_inside p (Class class i) = Members p i class 1
variant_inside p Nothing = Refused (stop_at SelectorInNoOption p)
variant_inside p (NotTold r) = Refused (stop_at r p)

-- the alignment noted of the class at a byte, in bits
abbrev pub bits_noted : Notes → ℕ → ℕ
bits_noted x at = 2 ^ align_noted x.aligns at

-- the byte behind the record of the class at a byte, as it is noted
abbrev pub behind_noted : Notes → ℕ → ℕ
behind_noted x at = at + get_or x.sizes at 0

-- kinds 16 to 27 hold no field
unfoldable pub inside_in : List ℕ → Notes → ℕ → Frame → BitPlace → Content → Shape → Inside
inside_in t x at f p c (bit_field k) = Members p 0 at 0
inside_in t x at f p c leb_field = Members p 0 at 0
inside_in t x at f p c signed_leb_field = Members p 0 at 0
inside_in t x at f p c zero_string = Members p 0 at 0
inside_in t x at f p c text = Members p 0 at 0
inside_in t x at f p c blob = Members p 0 at 0
inside_in t x at f p c text_of = Members p 0 at 0
inside_in t x at f p c blob_of = Members p 0 at 0
inside_in t x at f p c members = standing f (bits_noted x at) p (members_from (u8 t (at + 1)) (at + 3))
inside_in t x at f p c elements = standing f (bits_noted x at) p (elements_from (u16 t (at + 1)) (at + 4))
inside_in t x at f p c elements_of = by_length p (length_of c) (λ n. standing f (bits_noted x at) p (elements_from n (at + 3)))
inside_in t x at f p c option? = optional_inside p (behind_noted x at) (optional_at t at c)
inside_in t x at f p c options = variant_inside p (variant_at t x.sizes at c)

unfoldable pub inside_of : List ℕ → Notes → ℕ → Frame → BitPlace → Content → Inside
inside_of t x at f p c = inside_in t x at f p c (shape_of (u8 t at))

-- What is done with it: the field's entry, with its record's number m, and then the fields inside, which may have d depths

-- an element of an array: "at the start and the end of each array element, the slots .. become unset" (02, 3)
abbrev pub element_of : Env → ℕ → FieldClass → Step
element_of e m c = forget c ⨾ read e m c ⨾ forget c

unfoldable pub opened : Env → ℕ → ℕ → ℕ → List ℕ → Inside → Step
opened e m k d t (Members p v from n) s =
    (listed (entry k p 0 v m) p ⨾ read_members e (number_at t from) (members_at (stood_at d t) from n)) s
opened e m k d t (Elements p v from n) s =
    (listed (entry k p 0 v m) p ⨾ times n (element_of e (number_at t from) (class_at d t from))) s
opened e m k d t (Refused v) s = refuse_at v.why v.place s

-- What the code goes by: a class of kinds 28 to 32 stands at a byte, with all that it holds in the table, and what is noted of it can be
-- asked; no depth is in it

pub record HolderStands (t : List ℕ) (x : Notes) (at : ℕ) : Type 0 where
  pub limit : length t ≤ table_limit
  pub sizes : length t ≤ length x.sizes
  pub aligns : length t ≤ length x.aligns
  pub kind : 28 ≤ u8 t at
  pub stands : Whole (InTable t) (end_noted x.sizes) t at
  pub align : align_noted x.aligns at ≤ 6
