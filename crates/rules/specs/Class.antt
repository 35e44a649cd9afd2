-- Field classes as trees, and the alignment that a field needs.
use Rattle.std.specs.Prelude.{ℕ, ◌+◌, ◌^◌, max, ◌%◌, List, [], ◌∷◌, ◌++◌, Bool, true, false, ◌&&◌, ◌||◌, length, leb, eqb}
use Rattle.rules.specs.Limits.{no_slot}
use Rattle.rules.specs.declared.Order.{Order}

-- "Roles: 1 magic, 2 stream class id, 3 stream id, 4 UUID in root 0; 5 total length, 6 content length, 7 clock, 8 end clock, 9
-- discarded count, 10 sequence number in root 1; 7 clock, 11 event class id in root 2; 0 none." (The class table)
pub data Role : Type 0 where
  no_role magic stream_class_id stream_id uuid total_length content_length clock end_clock discarded sequence event_class_id : Role

-- what the bits of a kind 16 to 20 are read as
pub data Sort : Type 0 where
  bit_array boolean unsigned_int signed_int float : Sort

unfoldable pub kind_of : Sort → ℕ
kind_of bit_array = 16
kind_of boolean = 17
kind_of unsigned_int = 18
kind_of signed_int = 19
kind_of float = 20

-- the sign of a selector's ranges
pub data Sign : Type 0 where
  plain signed : Sign

pub record Range : Type 0 where
  pub low : ℕ
  pub high : ℕ

mutual
  pub data Class : Type 0 where
    -- 16 to 20: sort, length, order, align (an exponent), slot to set, role
    fixed : Sort → ℕ → Order → ℕ → ℕ → Role → Class
    -- 21, 22: slot to set, role
    leb128 : ℕ → Role → Class
    signed_leb128 : ℕ → Class
    -- 23 to 27: the bytes, or the slot of their count
    string : Class
    static_string : ℕ → Class
    static_blob : ℕ → Role → Class
    dynamic_string : ℕ → Class
    dynamic_blob : ℕ → Class
    -- 28: align, members. 29, 30: elements or their slot, align, element class
    structure : ℕ → Classes → Class
    static_array : ℕ → ℕ → Class → Class
    dynamic_array : ℕ → ℕ → Class → Class
    -- 31 with no ranges, with ranges; 32: slot, and what it selects
    flagged : ℕ → Class → Class
    optional : ℕ → Sign → List Range → Class → Class
    variant : ℕ → Sign → Options → Class

  pub data Classes : Type 0 where
    no_member : Classes
    member : Class → Classes → Classes

  pub data Options : Type 0 where
    no_option : Options
    option : List Range → Class → Options → Options

unfoldable pub count : Classes → ℕ
count no_member = 0
count (member c cs) = count cs + 1

-- "its own align for kinds 16 to 20, 8 for 21 to 27, for 28 to 30 the largest of their align and that of their parts, 1 for 31 and 32"
-- (Reading; 000 6.3.1); in bits
unfoldable mutual
  pub align_of : Class → ℕ
  align_of (fixed k n o a i r) = 2 ^ a
  align_of (leb128 i r) = 8
  align_of (signed_leb128 i) = 8
  align_of string = 8
  align_of (static_string n) = 8
  align_of (static_blob n r) = 8
  align_of (dynamic_string i) = 8
  align_of (dynamic_blob i) = 8
  align_of (structure a cs) = max (2 ^ a) (aligns_of cs)
  align_of (static_array n a c) = max (2 ^ a) (align_of c)
  align_of (dynamic_array i a c) = max (2 ^ a) (align_of c)
  align_of (flagged i c) = 1
  align_of (optional i g rs c) = 1
  align_of (variant i g os) = 1

  pub aligns_of : Classes → ℕ
  aligns_of no_member = 1
  aligns_of (member c cs) = max (align_of c) (aligns_of cs)

-- the records of a class: its own, and those of all that it holds, its ranges and options among them
unfoldable mutual
  pub records : Class → ℕ
  records (fixed k n o a i r) = 1
  records (leb128 i r) = 1
  records (signed_leb128 i) = 1
  records string = 1
  records (static_string n) = 1
  records (static_blob n r) = 1
  records (dynamic_string i) = 1
  records (dynamic_blob i) = 1
  records (structure a cs) = 1 + member_records cs
  records (static_array n a c) = 1 + records c
  records (dynamic_array i a c) = 1 + records c
  records (flagged i c) = 1 + records c
  records (optional i g rs c) = 1 + length rs + records c
  records (variant i g os) = 1 + option_records os

  pub member_records : Classes → ℕ
  member_records no_member = 0
  member_records (member c cs) = records c + member_records cs

  pub option_records : Options → ℕ
  option_records no_option = 0
  option_records (option rs c os) = 1 + length rs + records c + option_records os

-- the slot that a class sets, or none
unfoldable pub setting : ℕ → List ℕ
setting i = elim (eqb i no_slot) [ true ↦ [] | false ↦ i ∷ [] ]

-- "the slots that any class inside that element can set" (02, 3): those of a class and of all that it holds, whichever is read
unfoldable mutual
  pub sets : Class → List ℕ
  sets (fixed k n o a i r) = setting i
  sets (leb128 i r) = setting i
  sets (signed_leb128 i) = setting i
  sets string = []
  sets (static_string n) = []
  sets (static_blob n r) = []
  sets (dynamic_string i) = []
  sets (dynamic_blob i) = []
  sets (structure a cs) = members_set cs
  sets (static_array n a c) = sets c
  sets (dynamic_array i a c) = sets c
  sets (flagged i c) = sets c
  sets (optional i g rs c) = sets c
  sets (variant i g os) = options_set os

  pub members_set : Classes → List ℕ
  members_set no_member = []
  members_set (member c cs) = sets c ++ members_set cs

  pub options_set : Options → List ℕ
  options_set no_option = []
  options_set (option rs c os) = sets c ++ options_set os

-- 64-bit words in the order of the numbers that they stand for
unfoldable pub key : Sign → ℕ → ℕ
key plain x = x
key signed x = (x + 2 ^ 63) % 2 ^ 64

-- whether a selector lies in a range, both ends among it; in one of several
unfoldable pub holds : Sign → ℕ → Range → Bool
holds g v r = leb (key g r.low) (key g v) && leb (key g v) (key g r.high)

unfoldable pub any_holds : Sign → ℕ → List Range → Bool
any_holds g v [] = false
any_holds g v (r ∷ rs) = holds g v r || any_holds g v rs
