-- "A table in which a slot is set both inside an array element and outside it, within one packet's or one event's roots, is refused as
-- 11." (02, 3) So in an accepted table all classes that set one slot, within one packet's or one event's roots, have one home: the innermost
-- array whose element they stand in, or none. Said of the trees that the rules' parse gives, and not of the walk that finds the fault.
use Rattle.std.specs.Prelude.{◌≡◌, ◌⊎◌, ℕ, ◌+◌, List, [], ◌∷◌, ◌++◌, Option, None, Some}
use Rattle.rules.specs.Class.{Class, fixed, leb128, signed_leb128, string, static_string, static_blob, dynamic_string, dynamic_blob, structure}
use Rattle.rules.specs.Class.{static_array, dynamic_array, flagged, optional, variant, Classes, no_member, member, Options, no_option, option}
use Rattle.rules.specs.Class.{plain, setting, sets}
use Rattle.rules.specs.Table.{StreamClass, EventClass, Table}
use Rattle.rules.specs.Parse.{good, parse}

-- where a class stands: its root's number last, and in front of it, inwards, which member or option; 0 for what an array or an optional
-- holds
abbrev pub Place : Type 0
Place = List ℕ

-- the innermost array whose element a class stands in, by its place; or none
abbrev pub Home : Type 0
Home = Option Place

-- a slot that a class sets, and the home of that class
pub record Setting : Type 0 where
  pub slot : ℕ
  pub home : Home

-- slots that one class sets
unfoldable pub homed : Home → List ℕ → List Setting
homed h [] = []
homed h (i ∷ is) = record { slot = i; home = h } ∷ homed h is

-- all that a class, and those inside it, can set. An array's element has the array as its home; members, options and what an optional
-- holds have the home of what holds them
unfoldable mutual
  pub settings : Class → Home → Place → List Setting
  settings (fixed k n o a i r) h p = homed h (setting i)
  settings (leb128 i r) h p = homed h (setting i)
  settings (signed_leb128 i) h p = homed h (setting i)
  settings string h p = []
  settings (static_string n) h p = []
  settings (static_blob n r) h p = []
  settings (dynamic_string i) h p = []
  settings (dynamic_blob i) h p = []
  settings (structure a cs) h p = member_settings cs h p 0
  settings (static_array n a c) h p = settings c (Some p) (0 ∷ p)
  settings (dynamic_array i a c) h p = settings c (Some p) (0 ∷ p)
  settings (flagged i c) h p = settings c h (0 ∷ p)
  settings (optional i g rs c) h p = settings c h (0 ∷ p)
  settings (variant i g os) h p = option_settings os h p 0

  pub member_settings : Classes → Home → Place → ℕ → List Setting
  member_settings no_member h p k = []
  member_settings (member c cs) h p k = settings c h (k ∷ p) ++ member_settings cs h p (k + 1)

  pub option_settings : Options → Home → Place → ℕ → List Setting
  option_settings no_option h p k = []
  option_settings (option rs c os) h p k = settings c h (k ∷ p) ++ option_settings os h p (k + 1)

-- of roots, each there or not, the first of which has this number
unfoldable pub of_root : ℕ → Option Class → List Setting
of_root n None = []
of_root n (Some c) = settings c None (n ∷ [])

unfoldable pub of_roots : ℕ → List (Option Class) → List Setting
of_roots n [] = []
of_roots n (c ∷ cs) = of_root n c ++ of_roots (n + 1) cs

-- roots 0 and 1 are a packet's, 2 to 5 an event's
unfoldable pub of_packet : Option Class → StreamClass → List Setting
of_packet header s = of_roots 0 (header ∷ s.context ∷ [])

unfoldable pub of_event : StreamClass → EventClass → List Setting
of_event s e = of_roots 2 (s.header ∷ s.common ∷ e.specific ∷ e.payload ∷ [])

unfoldable pub In : {A : Type 0} → A → List A → Type 0
In a [] = ⊥
In a (b ∷ l) = (a ≡ b) ⊎ In a l

-- what sets one slot has one home
abbrev pub OneHome : List Setting → Type 0
OneHome l = (a b : Setting) → In a l → In b l → a.slot ≡ b.slot → a.home ≡ b.home

pub record TableHomes (t : Table) : Type 0 where
  pub packet : (s : StreamClass) → In s t.streams → OneHome (of_packet t.header s)
  pub event : (s : StreamClass) → In s t.streams → (e : EventClass) → In e t.events → e.stream ≡ s.id → OneHome (of_event s e)
  -- also where no stream class, or no event class, follows
  pub header : OneHome (of_roots 0 (t.header ∷ []))
  pub stream : (s : StreamClass) → In s t.streams → OneHome (of_roots 2 (s.header ∷ s.common ∷ []))

-- That homes are told apart: some classes that set slot 16

abbrev leaf : Class
leaf = signed_leb128 16

abbrev array : Class → Class
array c = static_array 2 0 c

abbrev two : Class → Class → Class
two c d = structure 0 (member c (member d no_member))

abbrev One : Class → Type 0
One c = OneHome (settings c None (0 ∷ []))

unfoldable pub slots_in : List Setting → List ℕ
slots_in [] = []
slots_in (a ∷ l) = a.slot ∷ slots_in l

pub record SlotHomes : Type 0 where
  pub accepted : (x : List ℕ) (t : Table) (y : List ℕ) → parse x ≡ good t y → TableHomes t
  -- no slot that a class can set is left out
  pub all_slots : (c : Class) (h : Home) (p : Place) → slots_in (settings c h p) ≡ sets c
  -- in an element and outside it; in two arrays, of one root or of two; in an inner element and in the outer one
  pub in-and-out : One (two (array leaf) leaf) → ⊥
  pub out-and-in : One (two leaf (array leaf)) → ⊥
  pub two-arrays : One (two (array leaf) (array leaf)) → ⊥
  pub two-roots : OneHome (of_roots 2 (Some (array leaf) ∷ Some (array leaf) ∷ [])) → ⊥
  pub inner-and-outer : One (array (two leaf (array leaf))) → ⊥
  -- twice in one element; outside all, also in an option or an optional
  pub one-element : One (array (two leaf leaf))
  pub no-array : One (two leaf (two (flagged 17 leaf) (variant 17 plain (option [] leaf (option [] leaf no_option)))))
