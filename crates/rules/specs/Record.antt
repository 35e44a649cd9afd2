-- The records of a class table. "Each record is one byte of kind, then a body whose length the kind fixes. Numbers are little-endian."
-- (The class table)
use Rattle.std.specs.Prelude.{ℕ, zero, suc, ◌+◌, ◌*◌, List, [], ◌∷◌, get_or, take, drop}
use Rattle.rules.specs.Limits.{no_slot}
use Rattle.rules.specs.Class.{Sort, bit_array, boolean, unsigned_int, signed_int, float}

-- what a record of kinds 16 to 32 announces
pub data Shape : Type 0 where
  bit_field : Sort → Shape
  leb_field signed_leb_field zero_string text blob text_of blob_of : Shape
  members elements elements_of option? options : Shape

-- what such a record says. What its kind leaves out is as it does no harm: length 1, order and align 0, no slot set, slot 0 read,
-- no role, count 1
pub record Says : Type 0 where
  pub kind : ℕ
  pub shape : Shape
  pub length : ℕ
  pub order : ℕ
  pub align : ℕ
  pub sets : ℕ
  pub reads : ℕ
  pub role : ℕ
  pub count : ℕ

abbrev pub says : ℕ → Shape → ℕ → ℕ → ℕ → ℕ → ℕ → ℕ → ℕ → Says
says k h l o a i j r n = record { kind = k; shape = h; length = l; order = o; align = a; sets = i; reads = j; role = r; count = n }

-- kinds 1 to 5
pub data Fragment : Type 0 where
  preamble : ℕ → Fragment
  trace_class : ℕ → List ℕ → Fragment
  clock_class : ℕ → ℕ → Fragment
  stream_class : ℕ → ℕ → Fragment
  event_class : ℕ → ℕ → Fragment

pub data Record : Type 0 where
  unknown : Record
  fragment : Fragment → Record
  root : ℕ → Record
  class : Says → Record
  range : ℕ → ℕ → ℕ → Record
  option : ℕ → Record

-- the number of n bytes, the first the least significant; of the bytes from the ith on
unfoldable pub number : List ℕ → ℕ → ℕ
number x zero = 0
number [] (suc n) = 0
number (b ∷ x) (suc n) = b + 256 * number x n

unfoldable pub u8 : List ℕ → ℕ → ℕ
u8 x i = get_or x i 0

unfoldable pub u16 : List ℕ → ℕ → ℕ
u16 x i = number (drop i x) 2

unfoldable pub u64 : List ℕ → ℕ → ℕ
u64 x i = number (drop i x) 8

-- body bytes, and what a body says
abbrev pub Layout : Type 0
Layout = ℕ × (List ℕ → Record)

unfoldable pub no : Layout
no = (0, λ x. unknown)

unfoldable pub bits_layout : ℕ → ℕ → Sort → (List ℕ → ℕ) → (List ℕ → ℕ) → Layout
bits_layout k n h slot role = (n, λ x. class (says k (bit_field h) (u8 x 0) (u8 x 1) (u8 x 2) (slot x) 0 (role x) 1))

-- the table's rows, by kind from 0
unfoldable pub layouts : List Layout
layouts =
    no
    ∷ (1, λ x. fragment (preamble (u8 x 0)))
    ∷ (17, λ x. fragment (trace_class (u8 x 0) (take 16 (drop 1 x))))
    ∷ (9, λ x. fragment (clock_class (u8 x 0) (u64 x 1)))
    ∷ (9, λ x. fragment (stream_class (u64 x 0) (u8 x 8)))
    ∷ (16, λ x. fragment (event_class (u64 x 0) (u64 x 8)))
    ∷ (1, λ x. root (u8 x 0))
    ∷ no ∷ no ∷ no ∷ no ∷ no ∷ no ∷ no ∷ no ∷ no
    ∷ bits_layout 16 3 bit_array (λ x. no_slot) (λ x. 0)
    ∷ bits_layout 17 4 boolean (λ x. u8 x 3) (λ x. 0)
    ∷ bits_layout 18 5 unsigned_int (λ x. u8 x 3) (λ x. u8 x 4)
    ∷ bits_layout 19 4 signed_int (λ x. u8 x 3) (λ x. 0)
    ∷ bits_layout 20 3 float (λ x. no_slot) (λ x. 0)
    ∷ (2, λ x. class (says 21 leb_field 1 0 0 (u8 x 0) 0 (u8 x 1) 1))
    ∷ (1, λ x. class (says 22 signed_leb_field 1 0 0 (u8 x 0) 0 0 1))
    ∷ (0, λ x. class (says 23 zero_string 1 0 0 no_slot 0 0 1))
    ∷ (2, λ x. class (says 24 text 1 0 0 no_slot 0 0 (u16 x 0)))
    ∷ (3, λ x. class (says 25 blob 1 0 0 no_slot 0 (u8 x 2) (u16 x 0)))
    ∷ (1, λ x. class (says 26 text_of 1 0 0 no_slot (u8 x 0) 0 1))
    ∷ (1, λ x. class (says 27 blob_of 1 0 0 no_slot (u8 x 0) 0 1))
    ∷ (2, λ x. class (says 28 members 1 0 (u8 x 1) no_slot 0 0 (u8 x 0)))
    ∷ (3, λ x. class (says 29 elements 1 0 (u8 x 2) no_slot 0 0 (u16 x 0)))
    ∷ (2, λ x. class (says 30 elements_of 1 0 (u8 x 1) no_slot (u8 x 0) 0 1))
    ∷ (2, λ x. class (says 31 option? 1 0 0 no_slot (u8 x 0) 0 (u8 x 1)))
    ∷ (2, λ x. class (says 32 options 1 0 0 no_slot (u8 x 0) 0 (u8 x 1)))
    ∷ (17, λ x. range (u8 x 0) (u64 x 1) (u64 x 9))
    ∷ (1, λ x. option (u8 x 0))
    ∷ []

-- the record that some bytes begin with: its row, its length, what it says, and the bytes behind it
unfoldable pub layout_of : List ℕ → Layout
layout_of x = get_or layouts (u8 x 0) no

unfoldable pub size : List ℕ → ℕ
size x = suc (layout_of x).0

unfoldable pub record_of : List ℕ → Record
record_of x = (layout_of x).1 (take (layout_of x).0 (drop 1 x))

unfoldable pub behind : List ℕ → List ℕ
behind x = drop (size x) x
