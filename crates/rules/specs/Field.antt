-- Reading a field. "Order within a field: room, slot checks 26, 27, 28, alignment, 23, then its bits or bytes; 29 after the slot checks."
-- "Afterwards, in order: entry, slot, role." (Reading)
use Rattle.rules.specs.declared.ByteLength.{ByteLength}
use Rattle.std.specs.Prelude.{ℕ, zero, suc, ◌+◌, ◌-◌, ◌*◌, ◌/◌, ◌%◌, ◌^◌, List, [], ◌∷◌, Bool, true, false, not, ◌&&◌, length, take, drop, ltb, eqb, Option, None, Some}
use Rattle.rules.specs.declared.BitPlace.{BitPlace}
use Rattle.rules.specs.declared.Order.{Order}
use Rattle.rules.specs.declared.Order.TheVariants.{Little, Big}
use Rattle.rules.specs.declared.Content.{Content}
use Rattle.rules.specs.declared.Content.TheVariants.{Unset, Flag, Unsigned, Signed}
use Rattle.rules.specs.declared.Said.{Said}
use Rattle.rules.specs.declared.Leb.{Leb}
use Rattle.rules.specs.declared.Leb.TheVariants.{Value, Past, Large}
use Rattle.rules.specs.declared.Refusal.TheVariants.{PastBound, OrderChanged, LebTooLarge, NoZeroByte, SlotUnset, SlotOfWrongSort}
use Rattle.rules.specs.declared.Refusal.TheVariants.{LengthTooLarge, SelectorInNoOption, WrongMagic, WrongUuid, ClockTooLarge, NotText}
use Rattle.rules.specs.Limits.{length_limit, leb_limit, magic_number}
use Rattle.rules.specs.Bits.{bits, signed, word}
use Rattle.rules.specs.Leb128.{leb_width, leb_unsigned, leb_signed}
use Rattle.rules.specs.Clock.{clock_after}
use Rattle.rules.specs.Text.{text_length, zero_at, is_text}
use Rattle.rules.specs.Place.{bit_place, further, align_from}
use Rattle.rules.specs.Slots.{slot_at, set_slot, unset}
use Rattle.rules.specs.Class.{Role, no_role, magic, stream_class_id, stream_id, uuid, total_length, content_length, clock, end_clock}
use Rattle.rules.specs.Class.{discarded, sequence, event_class_id}
use Rattle.rules.specs.Class.{Sort, bit_array, boolean, unsigned_int, signed_int, float, kind_of, Sign, plain, signed as with_sign}
use Rattle.rules.specs.Class.{any_holds}
use Rattle.rules.specs.Class.{Class, fixed, leb128, signed_leb128, string, static_string, static_blob, dynamic_string, dynamic_blob}
use Rattle.rules.specs.Class.{structure, static_array, dynamic_array, flagged, optional, variant, Classes, no_member, member, Options}
use Rattle.rules.specs.Class.{no_option, option}
use Rattle.rules.specs.Class.{count, align_of, sets, records}
use Rattle.rules.specs.Entry.{entry, clock_advanced}
use Rattle.rules.specs.Step.{State, Step, ◌⨾◌, pass, refuse, refuse_at, check, check_at, due, listed, change}
use Rattle.rules.specs.Step.{with_slots, with_order, with_clock, with_said}

-- what a reading of fields rests on: the stream's bytes; the packet's place P; the bound; the trace class's UUID
pub record Env : Type 0 where
  pub bytes : List ℕ
  pub start : BitPlace
  pub bound : BitPlace
  pub uuid : List ℕ

-- "A field aligns (place - P) up to its requirement"
unfoldable pub aligned : Env → ℕ → State → BitPlace
aligned e a s = bit_place (align_from e.start.0 a s.place.0)

-- "alignment, bits or bytes past the bound" (22): n bits from the aligned place on. "For 22 the place becomes the bound that would be
-- crossed." (02, 8)
unfoldable pub fit : Env → ℕ → ℕ → Step
fit e a n = check_at (λ s. ltb e.bound.0 ((aligned e a s).0 + n)) PastBound e.bound

-- the whole bytes from a place to the bound; n bytes from a place on
unfoldable pub ahead : Env → BitPlace → List ℕ
ahead e p = take ((e.bound.0 - p.0) / 8) (drop (p.0 / 8) e.bytes)

unfoldable pub bytes_at : Env → BitPlace → ℕ → List ℕ
bytes_at e p n = take n (drop (p.0 / 8) e.bytes)

-- "Fields: class kind, place once aligned, bits, value" (The list); "the fifth is the number of the class record within its own fragment,
-- counted from 0 at the record that opens it" (02, 7): m throughout. The place goes behind the field
unfoldable pub field : Env → ℕ → ℕ → ℕ → ℕ → ℕ → Step
field e m k a n v s = listed (entry k (aligned e a s) n v m) (further (aligned e a s) n) s

unfoldable pub store : ℕ → Content → Step
store i x = change (λ s. with_slots (set_slot s.slots i x) s)

-- Roles (000 6.1 steps 2 and 4, 6.2 step 1)

-- "entry 6 shows it": "place after the field, L, clock"; "clock above 64 bits" (36)
unfoldable pub new_clock : ℕ → Option ℕ → Step
new_clock l None = refuse ClockTooLarge
new_clock l (Some c) = (λ s. listed (entry clock_advanced s.place l c 0) s.place s) ⨾ change (with_clock c)

unfoldable pub say : (Said → Said) → Step
say f = change (λ s. with_said (f s.said) s)

-- the role of a number v, which has L bits as a timestamp
unfoldable pub role : Role → ℕ → ℕ → Step
role no_role l v = pass
role magic l v = check (λ s. not (eqb v magic_number)) WrongMagic
role stream_class_id l v = say (λ d. record { stream = v; total = d.total; content = d.content; ending = d.ending; event = d.event })
role stream_id l v = pass
role uuid l v = pass
role total_length l v = say (λ d. record { stream = d.stream; total = Some v; content = d.content; ending = d.ending; event = d.event })
role content_length l v = say (λ d. record { stream = d.stream; total = d.total; content = Some v; ending = d.ending; event = d.event })
role clock l v = due ⨾ (λ s. new_clock l (clock_after s.clock l v) s)
role end_clock l v = say (λ d. record { stream = d.stream; total = d.total; content = d.content; ending = Some v; event = d.event })
role discarded l v = pass
role sequence l v = pass
role event_class_id l v = say (λ d. record { stream = d.stream; total = d.total; content = d.content; ending = d.ending; event = v })

unfoldable pub same_bytes : List ℕ → List ℕ → Bool
same_bytes [] [] = true
same_bytes [] (y ∷ ys) = false
same_bytes (x ∷ xs) [] = false
same_bytes (x ∷ xs) (y ∷ ys) = eqb x y && same_bytes xs ys

-- the role of a BLOB's bytes: a UUID or none
unfoldable pub blob_role : Env → Role → List ℕ → Step
blob_role e no_role b = pass
blob_role e magic b = pass
blob_role e stream_class_id b = pass
blob_role e stream_id b = pass
blob_role e uuid b = check (λ s. not (same_bytes b e.uuid)) WrongUuid
blob_role e total_length b = pass
blob_role e content_length b = pass
blob_role e clock b = pass
blob_role e end_clock b = pass
blob_role e discarded b = pass
blob_role e sequence b = pass
blob_role e event_class_id b = pass

-- Slots that are read: "slot unset; of the wrong sort" (26, 27)

unfoldable pub from_slot : ℕ → (Content → Step) → Step
from_slot i f s = f (slot_at s.slots i) s

-- "An optional with 0 ranges needs a flag"
unfoldable pub as_flag : Content → (Bool → Step) → Step
as_flag Unset f = refuse SlotUnset
as_flag (Flag b) f = f b
as_flag (Unsigned n) f = refuse SlotOfWrongSort
as_flag (Signed n) f = refuse SlotOfWrongSort

-- "with ranges, a number of their sign, as a variant does"
unfoldable pub as_number : Sign → Content → (ℕ → Step) → Step
as_number g Unset f = refuse SlotUnset
as_number g (Flag b) f = refuse SlotOfWrongSort
as_number plain (Unsigned n) f = f n
as_number with_sign (Unsigned n) f = refuse SlotOfWrongSort
as_number plain (Signed n) f = refuse SlotOfWrongSort
as_number with_sign (Signed n) f = f n

-- "A length needs an unsigned number"; "length above 65,535" (28)
unfoldable pub as_length : Content → (ℕ → Step) → Step
as_length x f = as_number plain x (λ n. check (λ s. ltb length_limit n) LengthTooLarge ⨾ f n)

-- Kinds 16 to 20 (000 6.3.3 to 6.3.7)

-- "Booleans are 0 or, with any bit set, 1."
unfoldable pub truth : ℕ → Bool
truth zero = false
truth (suc v) = true

unfoldable pub one_or_none : Bool → ℕ
one_or_none true = 1
one_or_none false = 0

-- "floats and bit arrays their bits as unsigned" (The list)
unfoldable pub value_of : Sort → ℕ → ℕ → ℕ
value_of bit_array n v = v
value_of boolean n v = one_or_none (truth v)
value_of unsigned_int n v = v
value_of signed_int n v = word (signed v n)
value_of float n v = v

-- what the slot becomes; bit arrays and floats name none
unfoldable pub slot_of : Sort → ℕ → ℕ → Content
slot_of bit_array n v = Unset
slot_of boolean n v = Flag (truth v)
slot_of unsigned_int n v = Unsigned v
slot_of signed_int n v = Signed (word (signed v n))
slot_of float n v = Unset

unfoldable pub other_order : Order → Option Order → Bool
other_order o None = true
other_order Little (Some Little) = false
other_order Little (Some Big) = true
other_order Big (Some Little) = true
other_order Big (Some Big) = false

-- "Order may differ from that of the previous kind 16 to 20 field in the packet only at a multiple of 8 from P (23)." (000 6.3.3, step 3)
unfoldable pub turned : Env → ℕ → Order → State → Bool
turned e a o s = not (eqb (((aligned e a s).0 - e.start.0) % 8) 0) && other_order o s.order

unfoldable pub read_fixed : Env → ℕ → Sort → ℕ → Order → ℕ → ℕ → Role → Step
read_fixed e m k n o a i r =
    due ⨾ fit e a 0 ⨾ check (turned e a o) OrderChanged ⨾ fit e a n
    ⨾ λ s.
    let v = bits o e.bytes (aligned e a s).0 n in
    (field e m (kind_of k) a n (value_of k n v) ⨾ change (with_order (Some o)) ⨾ store i (slot_of k n v) ⨾ role r n (value_of k n v)) s

-- Kinds 21 to 27 stand at whole bytes (000 6.3.8 to 6.3.15)

-- "For 24 it becomes the first bit of the byte at which the number became too long or too large" (02, 8): the tenth, and no other
-- "LEB128 bits count 8 a byte"; "L the field's bits (7 times its bytes for LEB128)"
unfoldable pub read_leb : Env → ℕ → ℕ → (ℕ → Content) → ℕ → Role → Leb → Step
read_leb e m k c i r (Value v n) = field e m k 8 (8 * n.0) v ⨾ store i (c v) ⨾ role r (leb_width n) v
read_leb e m k c i r Past = refuse_at PastBound e.bound
read_leb e m k c i r Large = λ s. refuse_at LebTooLarge (further (aligned e 8 s) (8 * (leb_limit - 1))) s

-- "otherwise refuse with a new number 41 at the field. Inside a field it comes after 22 and 25." (02, 1)
unfoldable pub as_text : List ℕ → Step
as_text b = check (λ s. not (is_text b)) NotText

-- "string 23 counts without its zero (bits include it)"
unfoldable pub read_zero : Env → ℕ → Option ByteLength → Step
read_zero e m (Some n) = (λ s. as_text (bytes_at e (aligned e 8 s) n.0) s) ⨾ field e m 23 8 (8 * (n.0 + 1)) n.0
read_zero e m None = refuse NoZeroByte

-- n bytes as text: "Strings 24 and 26 have bits for all their bytes"; and as a BLOB: "BLOBs their byte count"
unfoldable pub read_text : Env → ℕ → ℕ → ℕ → Step
read_text e m k n =
    fit e 8 0 ⨾ fit e 8 (8 * n) ⨾ λ s. let b = bytes_at e (aligned e 8 s) n in (as_text b ⨾ field e m k 8 (8 * n) (text_length b)) s

unfoldable pub read_blob : Env → ℕ → ℕ → ℕ → Role → Step
read_blob e m k n r = fit e 8 0 ⨾ fit e 8 (8 * n) ⨾ λ s. (field e m k 8 (8 * n) n ⨾ blob_role e r (bytes_at e (aligned e 8 s) n)) s

-- Kinds 28 to 32 (000 6.3.16 to 6.3.20). "structures and arrays have bits 0 and their count, optionals bits 0 and 1 or 0, variants bits 0
-- and the option's number from 0" (The list)

unfoldable pub times : ℕ → Step → Step
times zero m = pass
times (suc n) m = m ⨾ times n m

-- "at the start and the end of each array element, the slots that any class inside that element can set become unset" (02, 3)
unfoldable pub forget : Class → Step
forget c = change (λ s. with_slots (unset s.slots (sets c)) s)

-- an optional that is there, and one that is not
unfoldable pub present : Env → ℕ → Bool → Step → Step
present e m true f = field e m 31 1 0 1 ⨾ f
present e m false f = field e m 31 1 0 0

unfoldable mutual
  pub read : Env → ℕ → Class → Step
  read e m (fixed k n o a i r) = read_fixed e m k n o (2 ^ a) i r
  read e m (leb128 i r) = due ⨾ fit e 8 0 ⨾ λ s. read_leb e m 21 Unsigned i r (leb_unsigned (ahead e (aligned e 8 s))) s
  read e m (signed_leb128 i) = due ⨾ fit e 8 0 ⨾ λ s. read_leb e m 22 Signed i no_role (leb_signed (ahead e (aligned e 8 s))) s
  read e m string = due ⨾ fit e 8 0 ⨾ λ s. read_zero e m (zero_at (ahead e (aligned e 8 s))) s
  read e m (static_string n) = due ⨾ read_text e m 24 n
  read e m (static_blob n r) = due ⨾ read_blob e m 25 n r
  read e m (dynamic_string i) = due ⨾ from_slot i (λ x. as_length x (λ n. read_text e m 26 n))
  read e m (dynamic_blob i) = due ⨾ from_slot i (λ x. as_length x (λ n. read_blob e m 27 n no_role))
  read e m (structure a cs) =
      due ⨾ fit e (align_of (structure a cs)) 0 ⨾ field e m 28 (align_of (structure a cs)) 0 (count cs) ⨾ read_members e (m + 1) cs
  read e m (static_array n a c) =
      due ⨾ fit e (align_of (static_array n a c)) 0 ⨾ field e m 29 (align_of (static_array n a c)) 0 n ⨾ times n (forget c ⨾ read e (m + 1) c ⨾ forget c)
  read e m (dynamic_array i a c) =
      due
      ⨾ from_slot i (λ x. as_length x (λ n.
      fit e (align_of (dynamic_array i a c)) 0 ⨾ field e m 30 (align_of (dynamic_array i a c)) 0 n ⨾ times n (forget c ⨾ read e (m + 1) c ⨾ forget c)))
  read e m (flagged i c) = due ⨾ from_slot i (λ x. as_flag x (λ b. present e m b (read e (m + 1) c)))
  read e m (optional i g rs c) = due ⨾ from_slot i (λ x. as_number g x (λ v. present e m (any_holds g v rs) (read e (m + 1 + length rs) c)))
  read e m (variant i g os) = due ⨾ from_slot i (λ x. as_number g x (λ v. read_option e m (m + 1) g v 0 os))

  -- the records of members stand one behind the other
  pub read_members : Env → ℕ → Classes → Step
  read_members e m no_member = pass
  read_members e m (member c cs) = read e m c ⨾ read_members e (m + records c) cs

  -- the first option, the kth and up, whose record is the jth, that holds the selector; "selector in no option" (29)
  pub read_option : Env → ℕ → ℕ → Sign → ℕ → ℕ → Options → Step
  read_option e m j g v k no_option = refuse SelectorInNoOption
  read_option e m j g v k (option rs c os) =
      elim (any_holds g v rs) [
        | true ↦ field e m 32 1 0 k ⨾ read e (j + 1 + length rs) c
        | false ↦ read_option e m (j + 1 + length rs + records c) g v (k + 1) os
      ]
