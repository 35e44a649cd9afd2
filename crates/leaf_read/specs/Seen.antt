-- What is seen of a leaf: by the content of the slot that it reads, from a place on, with the packet's last order.
use Rattle.rules.specs.declared.Order.{Order}
use Rattle.std.specs.Prelude.{ℕ, ◌+◌, ◌^◌, ◌≤◌, ◌≡◌, List, true, false, length, eqb, Option}
use Rattle.rules.specs.declared.BitPlace.{BitPlace}
use Rattle.rules.specs.declared.Content.{Content}
use Rattle.rules.specs.declared.Content.TheVariants.{Unsigned, Signed}
use Rattle.rules.specs.declared.Refusal.TheVariants.{PastBound}
use Rattle.rules.specs.Limits.{slot_count, no_slot, words_per_entry}
use Rattle.rules.specs.Verdict.{stop_at}
use Rattle.rules.specs.Class.{Sort, bit_array, boolean, unsigned_int, signed_int, float}
use Rattle.rules.specs.Record.{Shape, bit_field, leb_field, signed_leb_field, zero_string, text, blob, text_of, blob_of, u8, u16}
use Rattle.rules.specs.Record.{members, elements, elements_of, option?, options}
use Rattle.rules.specs.Parse.{order_of}
use Rattle.rules.specs.Slots.{slot_at}
use Rattle.rules.specs.Step.{State, Step}
use Rattle.slots.specs.Taken.{length_of}
use Rattle.frame.specs.declared.Frame.{Frame}
use Rattle.leaf_find_number.specs.Found.{found_bits, found_unsigned, found_signed}
use Rattle.leaf_find_bytes.specs.Found.{found_string, found_text, found_blob}
use Rattle.leaf_after.specs.declared.Seen.{Seen}
use Rattle.leaf_after.specs.declared.Seen.TheVariants.{Stops}
use Rattle.leaf_after.specs.Seeing.{Fits, done, seen, fixed_seen, leb_seen, plain_seen, blob_seen, for_length}
use Rattle.class_layout.specs.Trees.{shape_of}

-- to do what is seen is a step, whatever the slots hold but the one that is read
pub record LeafSeen (step : Step) (i : ℕ) (x : Content) (p : BitPlace) (o : Option Order) (r : Seen) : Type 0 where
  pub same : (s : State) → words_per_entry ≤ s.room → length s.slots ≡ slot_count → slot_at s.slots i ≡ x → s.place ≡ p → s.order ≡ o
      → step s ≡ done r s
  pub fits : Fits r

-- What is seen, by the bytes of the class's record; m is its number, t the table, b the stream, u the UUID, x what the slot holds that is
-- read

-- kinds 16 to 20: width, order and align, as an exponent of 2, stand first in each of their records
unfoldable pub bits_seen_at : ℕ → List ℕ → List ℕ → Frame → ℕ → BitPlace → Option Order → Sort → ℕ → ℕ → Seen
bits_seen_at m t b f at p o k i r =
    let d = order_of (u8 t (at + 2)) in
    seen (found_bits b f p o (u8 t (at + 1)) d (2 ^ u8 t (at + 3))) (fixed_seen m k d i r)

-- kinds 26 and 27, of n bytes
unfoldable pub dynamic_seen : ℕ → List ℕ → Frame → BitPlace → Option Order → ℕ → ℕ → Seen
dynamic_seen m b f p o k n =
    elim (eqb k 26) [ true ↦ seen (found_text b f p n) (plain_seen m k o) | false ↦ seen (found_blob f p n) (plain_seen m k o) ]

-- by what the record announces; no leaf is seen where it holds fields
unfoldable pub seen_in : ℕ → List ℕ → List ℕ → List ℕ → Frame → ℕ → BitPlace → Option Order → Content → Shape → Seen
seen_in m t b u f at p o x (bit_field bit_array) = bits_seen_at m t b f at p o bit_array no_slot 0
seen_in m t b u f at p o x (bit_field boolean) = bits_seen_at m t b f at p o boolean (u8 t (at + 4)) 0
seen_in m t b u f at p o x (bit_field unsigned_int) = bits_seen_at m t b f at p o unsigned_int (u8 t (at + 4)) (u8 t (at + 5))
seen_in m t b u f at p o x (bit_field signed_int) = bits_seen_at m t b f at p o signed_int (u8 t (at + 4)) 0
seen_in m t b u f at p o x (bit_field float) = bits_seen_at m t b f at p o float no_slot 0
seen_in m t b u f at p o x leb_field = seen (found_unsigned b f p) (leb_seen m 21 Unsigned o (u8 t (at + 1)) (u8 t (at + 2)))
seen_in m t b u f at p o x signed_leb_field = seen (found_signed b f p) (leb_seen m 22 Signed o (u8 t (at + 1)) 0)
seen_in m t b u f at p o x zero_string = seen (found_string b f p) (plain_seen m 23 o)
seen_in m t b u f at p o x text = seen (found_text b f p (u16 t (at + 1))) (plain_seen m 24 o)
seen_in m t b u f at p o x blob = seen (found_blob f p (u16 t (at + 1))) (blob_seen m b u (u8 t (at + 3)) o)
seen_in m t b u f at p o x text_of = for_length p (length_of x) (dynamic_seen m b f p o 26)
seen_in m t b u f at p o x blob_of = for_length p (length_of x) (dynamic_seen m b f p o 27)
seen_in m t b u f at p o x members = Stops (stop_at PastBound p)
seen_in m t b u f at p o x elements = Stops (stop_at PastBound p)
seen_in m t b u f at p o x elements_of = Stops (stop_at PastBound p)
seen_in m t b u f at p o x option? = Stops (stop_at PastBound p)
seen_in m t b u f at p o x options = Stops (stop_at PastBound p)

-- the leaf at a byte
unfoldable pub seen_at : ℕ → List ℕ → List ℕ → List ℕ → Frame → ℕ → BitPlace → Option Order → Content → Seen
seen_at m t b u f at p o x = seen_in m t b u f at p o x (shape_of (u8 t at))

-- kinds 16 to 20 read no slot and ask for no UUID
abbrev pub BitsSeen : ℕ → List ℕ → List ℕ → Frame → ℕ → BitPlace → Option Order → Seen → Type 0
BitsSeen m t b f at p o r = (u : List ℕ) (x : Content) → r ≡ seen_at m t b u f at p o x
