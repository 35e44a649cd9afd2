-- What the reading of some leaves does, up to and with the first of which a slot or a role is due: one leaf after another, entries and
-- places alone. t is the table, b the stream, u the UUID, x what the slot holds that the first leaf reads.
use Rattle.rules.specs.declared.Order.{Order}
use Rattle.std.specs.Prelude.{ℕ, zero, suc, ◌+◌, ◌-◌, ◌*◌, List, [], ◌∷◌, ◌++◌, Bool, true, false, not, ◌||◌, length, drop, eqb, ltb, leb, Option}
use Rattle.rules.specs.declared.BitPlace.{BitPlace}
use Rattle.rules.specs.declared.Entry.{Entry}
use Rattle.rules.specs.declared.Content.{Content}
use Rattle.rules.specs.declared.Content.TheVariants.{Flag, Unsigned, Signed}
use Rattle.rules.specs.declared.Refusal.{Refusal}
use Rattle.rules.specs.declared.Refusal.TheVariants.{PastBound, WrongUuid}
use Rattle.rules.specs.Limits.{words_per_entry, slot_count, no_slot}
use Rattle.rules.specs.Place.{further}
use Rattle.rules.specs.Record.{u8}
use Rattle.rules.specs.Entry.{words}
use Rattle.frame.specs.declared.Frame.{Frame}
use Rattle.leaf_after.specs.declared.Due.{Due}
use Rattle.leaf_after.specs.declared.Seen.{Seen}
use Rattle.leaf_after.specs.declared.Seen.TheVariants.{Field, OtherUuid, Stops}
use Rattle.leaf_after.specs.declared.Leaves.{Leaves}
use Rattle.class_layout.specs.Numbers.{number_at}
use Rattle.class_layout.specs.Trees.{next_at}
use Rattle.class_layout.specs.Fields.{WholeFields, onward}
use Rattle.leaf_read.specs.Seen.{seen_at}

-- what the slot of a leaf of a kind becomes, by the value that is listed: of kind 17 a flag, of kinds 19 and 22 a signed number
unfoldable pub content_of : ℕ → ℕ → Content
content_of k v = elim (eqb k 17) [
  | true ↦ Flag (not (eqb v 0))
  | false ↦ elim (eqb k 19 || eqb k 22) [ true ↦ Signed v | false ↦ Unsigned v ]
]

-- the place behind an entry's field
abbrev pub behind_entry : Entry → BitPlace
behind_entry e = further e.place e.bits

-- what some leaves did, and the entries that they listed
pub record LeavesListed : Type 0 where
  pub leaves : Leaves
  pub entries : List Entry

-- a list behind them
abbrev pub list_behind : LeavesListed → List ℕ → List ℕ
list_behind y ws = words y.entries ++ drop y.leaves.used ws

-- the leaf at a byte stopped, n being left with it: neither slot nor role is due
unfoldable pub stopped_leaves : Refusal → ℕ → ℕ → BitPlace → Option Order → ℕ → Leaves
stopped_leaves why at n p o used = record {
  on = false;
  why = why;
  at = at;
  todo = n;
  place = p;
  order = o;
  used = used;
  slot = no_slot;
  role = 0;
  width = 0;
  value = 0;
}

unfoldable pub stops_at : Refusal → ℕ → ℕ → BitPlace → Option Order → List Entry → LeavesListed
stops_at why at n p o es = record { leaves = stopped_leaves why at n p o (words_per_entry * length es); entries = es }

-- the leaf at a byte is the last, n being left behind it; its slot and its role are due
unfoldable pub last_leaf : Due → ℕ → ℕ → LeavesListed
last_leaf d at n = record {
  leaves = record {
    on = true;
    why = PastBound;
    at = at;
    todo = n;
    place = behind_entry d.entry;
    order = d.order;
    used = words_per_entry;
    slot = d.slot;
    role = d.role;
    width = d.width;
    value = d.entry.value;
  };
  entries = d.entry ∷ [];
}

-- some entries, and then what other leaves did
unfoldable pub behind_entries : List Entry → LeavesListed → LeavesListed
behind_entries es y = record {
  leaves = record {
    on = y.leaves.on;
    why = y.leaves.why;
    at = y.leaves.at;
    todo = y.leaves.todo;
    place = y.leaves.place;
    order = y.leaves.order;
    used = words_per_entry * length es + y.leaves.used;
    slot = y.leaves.slot;
    role = y.leaves.role;
    width = y.leaves.width;
    value = y.leaves.value;
  };
  entries = es ++ y.entries;
}

-- a leaf is the last if none is left; or there is no room for an entry; or the class at the next byte reads a slot or holds fields; or it
-- sets a slot; or it has a role
unfoldable pub leaves_end : List ℕ → ℕ → ℕ → ℕ → ℕ → ℕ → Bool
leaves_end t next n room slot role = eqb n 0 || ltb room words_per_entry || leb 26 (u8 t next) || ltb slot slot_count || not (eqb role 0)

-- by what is seen of the leaf at a byte, n being left with it, with an order; `rest` is what the others do behind it
unfoldable pub leaf_then : Seen → ℕ → ℕ → Option Order → (Due → Bool) → (Due → LeavesListed) → LeavesListed
leaf_then (Stops v) at n o ends rest = stops_at v.why at n v.place o []
leaf_then (OtherUuid e) at n o ends rest = stops_at WrongUuid at n (behind_entry e) o (e ∷ [])
leaf_then (Field d) at n o ends rest = elim (ends d) [ true ↦ last_leaf d at (n - 1) | false ↦ behind_entries (d.entry ∷ []) (rest d) ]

-- of n leaves from a byte on, one behind the other or one `again`, those that are read with room for so many words; of none, none
unfoldable pub leaves_read : Bool → List ℕ → List ℕ → List ℕ → Frame → Content → ℕ → ℕ → BitPlace → Option Order → ℕ → LeavesListed
leaves_read again t b u f x at zero p o room = stops_at PastBound at zero p o []
leaves_read again t b u f x at (suc n) p o room =
    let next = onward again at (next_at 1 t at) in
    leaf_then (seen_at (number_at t at) t b u f at p o x) at (suc n) o
    (λ d. leaves_end t next n (room - words_per_entry) d.slot d.role)
    (λ d. leaves_read again t b u f x next n (behind_entry d.entry) d.order (room - words_per_entry))

-- n classes from a byte on stand whole, at some number of depths
pub record Standing (again : Bool) (t : List ℕ) (at n : ℕ) : Type 0 where
  pub depth : ℕ
  pub stands : WholeFields again depth t at n
