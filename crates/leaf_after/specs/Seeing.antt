-- A reading of a leaf in two parts: what is seen of it, by what was found, and what is done with that.
use Rattle.rules.specs.declared.Refusal.{Refusal}
use Rattle.std.specs.Prelude.{ℕ, ◌+◌, ◌*◌, ◌/◌, ◌^◌, ◌<◌, true, false, List, take, drop, eqb, Some, Ok, Err, Option, Result}
use Rattle.rules.specs.declared.BitPlace.{BitPlace}
use Rattle.rules.specs.declared.Entry.{Entry}
use Rattle.rules.specs.declared.Order.{Order}
use Rattle.rules.specs.declared.Content.{Content}
use Rattle.rules.specs.declared.Content.TheVariants.{Unset}
use Rattle.rules.specs.declared.Refusal.TheVariants.{WrongUuid}
use Rattle.rules.specs.Limits.{no_slot}
use Rattle.rules.specs.Place.{further}
use Rattle.rules.specs.Class.{Sort, kind_of}
use Rattle.rules.specs.Faults.{role_of}
use Rattle.rules.specs.Entry.{entry}
use Rattle.rules.specs.Verdict.{stop_at}
use Rattle.rules.specs.Step.{Step, ◌⨾◌, refuse, refuse_at, listed, change, with_order}
use Rattle.rules.specs.Field.{same_bytes, store, role, value_of, slot_of}
use Rattle.leaf_find_number.specs.declared.Found.{Found}
use Rattle.leaf_find_number.specs.declared.Found.TheVariants.{At, Refused}
use Rattle.listing.specs.Roled.{Stamp}
use Rattle.leaf_after.specs.declared.Due.{Due}
use Rattle.leaf_after.specs.declared.Seen.{Seen}
use Rattle.leaf_after.specs.declared.Seen.TheVariants.{Field, OtherUuid, Stops}

-- What is done

-- an entry, and the place goes behind the field
abbrev listing : Entry → Step
listing x = listed x (further x.place x.bits)

-- "Afterwards, in order: entry, slot, role" (Reading), with the order as the packet's last
unfoldable pub done_due : Due → Step
done_due d =
    listing d.entry
    ⨾ change (with_order d.order)
    ⨾ store d.slot d.content
    ⨾ role (role_of d.role) d.width d.entry.value

unfoldable pub done : Seen → Step
done (Field d) = done_due d
done (OtherUuid x) = listing x ⨾ refuse WrongUuid
done (Stops v) = refuse_at v.why v.place

-- what is due ends below what a place can be, and a number with the clock's role has no more bits than its field
abbrev pub DueFits : Due → Type 0
DueFits d = (d.entry.place.0 + d.entry.bits < 2 ^ 64) × Stamp d.role d.width d.entry.value

unfoldable pub Fits : Seen → Type 0
Fits (Field d) = DueFits d
Fits (OtherUuid x) = x.place.0 + x.bits < 2 ^ 64
Fits (Stops v) = Unit {0}

-- What is seen

-- by a leaf's place, bits and value; m is its record's number throughout
abbrev pub Told : Type 0
Told = BitPlace → ℕ → ℕ → Seen

unfoldable pub seen : Found → Told → Seen
seen (At n p v) f = f p n v
seen (Refused p r) f = Stops (stop_at r p)

abbrev field_seen : Entry → Option Order → ℕ → Content → ℕ → ℕ → Seen
field_seen x o i c r w = Field (record { entry = x; order = o; slot = i; content = c; role = r; width = w })

-- kinds 16 to 20, which leave their order as the packet's last
unfoldable pub fixed_seen : ℕ → Sort → Order → ℕ → ℕ → Told
fixed_seen m k o i r p n v = field_seen (entry (kind_of k) p n (value_of k n v) m) (Some o) i (slot_of k n v) r n

-- kinds 16 and 20, which have neither slot nor role: "their bits as unsigned" (The list)
unfoldable pub bits_seen : ℕ → ℕ → Order → Told
bits_seen m k o p n v = field_seen (entry k p n v m) (Some o) no_slot Unset 0 n

-- the others leave the packet's last order as it was. "L the field's bits (7 times its bytes for LEB128)"
unfoldable pub leb_seen : ℕ → ℕ → (ℕ → Content) → Option Order → ℕ → ℕ → Told
leb_seen m k c o i r p n v = field_seen (entry k p n v m) o i (c v) r (7 * (n / 8))

-- neither slot nor role
unfoldable pub plain_seen : ℕ → ℕ → Option Order → Told
plain_seen m k o p n v = field_seen (entry k p n v m) o no_slot Unset 0 0

-- a BLOB of a stream whose bytes must be a UUID's
unfoldable pub uuid_seen : ℕ → List ℕ → List ℕ → Option Order → Told
uuid_seen m b u o p n v =
    elim (same_bytes (take v (drop (p.0 / 8) b)) u) [ true ↦ plain_seen m 25 o p n v | false ↦ OtherUuid (entry 25 p n v m) ]

-- a static BLOB, which may have the UUID's role
unfoldable pub blob_seen : ℕ → List ℕ → List ℕ → ℕ → Option Order → Told
blob_seen m b u r o p n v = elim (eqb r 4) [ true ↦ uuid_seen m b u o p n v | false ↦ plain_seen m 25 o p n v ]

-- a length that a slot gives; or none, for a leaf from a place on
unfoldable pub for_length : BitPlace → Result ℕ Refusal → (ℕ → Seen) → Seen
for_length p (Ok n) f = f n
for_length p (Err r) f = Stops (stop_at r p)
