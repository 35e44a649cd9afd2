-- The fifteen numbers that refuse a table, and the tests that give them: of one record, with those before it. A test that finds nothing
-- gives 0. Where the record stands and what comes of it is in Parse.
-- "Then the first record with a fault decides, by its first byte, and there the lowest number". (Refusing a table)
use Rattle.std.specs.Prelude.{ℕ, zero, suc, ◌+◌, ◌-◌, List, [], ◌∷◌, Bool, true, false, not, ◌&&◌, ◌||◌, length, get_or, ltb, leb, eqb, Option, None, Some}
use Rattle.rules.specs.Limits.{fragment_limit, slot_count, packet_slot_count, no_slot, no_clock}
use Rattle.rules.specs.Class.{Role, no_role, magic, stream_class_id, stream_id, uuid, total_length, content_length, clock, end_clock, discarded, sequence, event_class_id}
use Rattle.rules.specs.Class.{Sign, plain, signed, Range, key}
use Rattle.rules.specs.Record.{Says, Fragment, preamble, trace_class, clock_class, stream_class, event_class}
use Rattle.rules.specs.Record.{Record, unknown, fragment, root, class, range, option}

-- The numbers

abbrev pub bad_size : ℕ
bad_size = 1

abbrev pub unknown_kind : ℕ
unknown_kind = 2

abbrev pub cut_short : ℕ
cut_short = 3

abbrev pub preamble_misplaced : ℕ
preamble_misplaced = 4

abbrev pub wrong_version : ℕ
wrong_version = 5

abbrev pub trace_class_misplaced : ℕ
trace_class_misplaced = 6

abbrev pub id_used : ℕ
id_used = 7

abbrev pub id_unknown : ℕ
id_unknown = 8

abbrev pub kind_not_allowed : ℕ
kind_not_allowed = 9

abbrev pub number_out_of_range : ℕ
number_out_of_range = 10

abbrev pub slot_not_allowed : ℕ
slot_not_allowed = 11

abbrev pub role_not_allowed : ℕ
role_not_allowed = 12

abbrev pub ranges_contradict : ℕ
ranges_contradict = 13

abbrev pub too_deep : ℕ
too_deep = 14

abbrev pub too_many_fragments : ℕ
too_many_fragments = 15

-- a test's number where it holds, else what the tests behind it give
unfoldable pub pick : Bool → ℕ → ℕ → ℕ
pick true n m = n
pick false n m = m

-- whether x lies outside a to z
unfoldable pub out : ℕ → ℕ → ℕ → Bool
out a z x = ltb x a || ltb z x

-- Any record: 2 to 8

-- the ids of the fragments so far, the one that is being read among them
pub record Ids : Type 0 where
  pub trace : Bool
  pub clocks : List ℕ
  pub streams : List ℕ
  pub events : List (ℕ × ℕ)

unfoldable pub no_ids : Ids
no_ids = record { trace = false; clocks = []; streams = []; events = [] }

unfoldable pub seen : Ids → Fragment → Ids
seen q (preamble v) = q
seen q (trace_class u l) = record { trace = true; clocks = q.clocks; streams = q.streams; events = q.events }
seen q (clock_class i f) = record { trace = q.trace; clocks = i ∷ q.clocks; streams = q.streams; events = q.events }
seen q (stream_class i c) = record { trace = q.trace; clocks = q.clocks; streams = i ∷ q.streams; events = q.events }
seen q (event_class i j) = record { trace = q.trace; clocks = q.clocks; streams = q.streams; events = (i, j) ∷ q.events }

unfoldable pub among : ℕ → List ℕ → Bool
among x [] = false
among x (y ∷ ys) = eqb x y || among x ys

unfoldable pub pair_among : ℕ → ℕ → List (ℕ × ℕ) → Bool
pair_among x y [] = false
pair_among x y (p ∷ ps) = (eqb x p.0 && eqb y p.1) || pair_among x y ps

-- "first record no preamble, or a second one" (4); "trace class after a stream class, or a second one" (6); "clock id, stream class id or
-- event pair used before" (7); "clock or stream class named but not earlier" (8). Behind the preamble; m is the lowest from 9 up
unfoldable pub fragment_fault : Ids → Fragment → ℕ → ℕ
fragment_fault q (preamble v) m = preamble_misplaced
fragment_fault q (trace_class u x) m = pick (q.trace || not (eqb (length q.streams) 0)) trace_class_misplaced m
fragment_fault q (clock_class i f) m = pick (among i q.clocks) id_used m
fragment_fault q (stream_class i c) m =
    pick (among i q.streams) id_used (pick (not (eqb c no_clock) && not (among c q.clocks)) id_unknown m)
fragment_fault q (event_class i j) m = pick (pair_among i j q.events) id_used (pick (not (among i q.streams)) id_unknown m)

-- "unknown kind" (2); "bytes end inside a record or before what it announces" (3)
unfoldable pub record_fault : Bool → Ids → Record → ℕ → ℕ
record_fault short q unknown m = unknown_kind
record_fault short q (fragment f) m = pick short cut_short (fragment_fault q f m)
record_fault short q (root r) m = pick short cut_short m
record_fault short q (class y) m = pick short cut_short m
record_fault short q (range g l h) m = pick short cut_short m
record_fault short q (option n) m = pick short cut_short m

-- the first record: a preamble, whose version is 2 (5)
unfoldable pub first_fault : Bool → Record → ℕ
first_fault short unknown = unknown_kind
first_fault short (fragment (preamble v)) = pick short cut_short (pick (eqb v 2) 0 wrong_version)
first_fault short (fragment (trace_class u l)) = pick short cut_short preamble_misplaced
first_fault short (fragment (clock_class i f)) = pick short cut_short preamble_misplaced
first_fault short (fragment (stream_class i c)) = pick short cut_short preamble_misplaced
first_fault short (fragment (event_class i j)) = pick short cut_short preamble_misplaced
first_fault short (root r) = pick short cut_short preamble_misplaced
first_fault short (class y) = pick short cut_short preamble_misplaced
first_fault short (range g l h) = pick short cut_short preamble_misplaced
first_fault short (option n) = pick short cut_short preamble_misplaced

-- Where a class is due: 9 to 12, 14

-- where a class stands: right behind a root, as the first member of such a structure, or elsewhere
pub data Spot : Type 0 where
  top leading inside : Spot

unfoldable pub is_top : Spot → Bool
is_top top = true
is_top leading = false
is_top inside = false

unfoldable pub is_leading : Spot → Bool
is_leading top = false
is_leading leading = true
is_leading inside = false

unfoldable pub member_spot : Spot → Spot
member_spot top = leading
member_spot leading = inside
member_spot inside = inside

-- the root, and whether there is a clock for its stream class and a UUID for its trace class
pub record Under : Type 0 where
  pub root : ℕ
  pub timed : Bool
  pub uuid : Bool

-- "number outside its range above, as slot 64 to 254 or role 12" (10)
unfoldable pub bad_number : Says → Bool
bad_number y =
    out 1 64 y.length
    || (eqb y.kind 20 && not (eqb y.length 32 || eqb y.length 64))
    || ltb 1 y.order
    || ltb 6 y.align
    || not (out slot_count (no_slot - 1) y.sets)
    || not (out slot_count (no_slot - 1) y.reads)
    || ltb 11 y.role
    || (eqb y.kind 28 && ltb 64 y.count)
    || (eqb y.kind 31 && ltb 16 y.count)
    || (eqb y.kind 32 && out 1 32 y.count)

-- "Slots 0 to 15 are set by packet roots (0, 1), 16 to 63 by event roots, 255 means none where a slot is set. Packet roots read only 0
-- to 15; event roots read any." (The class table) Whether it is a packet root, and its record (11)
unfoldable pub bad_slot : Bool → Says → Bool
bad_slot true y = ltb (packet_slot_count - 1) y.reads || not (out packet_slot_count (no_slot - 1) y.sets)
bad_slot false y = eqb y.reads no_slot || ltb y.sets packet_slot_count

-- by number, from 0
unfoldable pub roles : List Role
roles =
    no_role ∷ magic ∷ stream_class_id ∷ stream_id ∷ uuid ∷ total_length ∷ content_length ∷ clock ∷ end_clock ∷ discarded ∷ sequence ∷ event_class_id ∷ []

unfoldable pub role_of : ℕ → Role
role_of r = get_or roles r no_role

-- "Magic is a kind 18 of 32 bits, first member of the header." "7 and 8 need the stream class to have a clock." (The class table)
-- Whether a role may stand on a number under a root
unfoldable pub number_role : Role → Under → Spot → Says → Bool
number_role no_role u z y = true
number_role magic u z y = eqb u.root 0 && eqb y.kind 18 && eqb y.length 32 && is_leading z
number_role stream_class_id u z y = eqb u.root 0
number_role stream_id u z y = eqb u.root 0
number_role uuid u z y = false
number_role total_length u z y = eqb u.root 1
number_role content_length u z y = eqb u.root 1
number_role clock u z y = (eqb u.root 1 || eqb u.root 2) && u.timed
number_role end_clock u z y = eqb u.root 1 && u.timed
number_role discarded u z y = eqb u.root 1
number_role sequence u z y = eqb u.root 1
number_role event_class_id u z y = eqb u.root 2

-- "UUID is on a 16-byte kind 25, in a trace class that has one; no other role stands on kind 25." (The class table)
unfoldable pub blob_role : Under → Says → Bool
blob_role u y = eqb y.role 0 || (eqb y.role 4 && eqb u.root 0 && eqb y.count 16 && u.uuid)

unfoldable pub bad_role : Under → Spot → Says → Bool
bad_role u z y = elim (eqb y.kind 25) [ true ↦ not (blob_role u y) | false ↦ not (number_role (role_of y.role) u z y) ]

-- a root is "followed by a structure"; elsewhere any class. `deep` at depth 9
unfoldable pub class_fault : Under → Spot → Bool → Record → ℕ
class_fault u z deep unknown = kind_not_allowed
class_fault u z deep (fragment f) = kind_not_allowed
class_fault u z deep (root r) = kind_not_allowed
class_fault u z deep (range g l h) = kind_not_allowed
class_fault u z deep (option n) = kind_not_allowed
class_fault u z deep (class y) =
    pick (is_top z && not (eqb y.kind 28)) kind_not_allowed
    (pick (bad_number y) number_out_of_range
    (pick (bad_slot (ltb u.root 2) y) slot_not_allowed
    (pick (bad_role u z y) role_not_allowed
    (pick deep too_deep 0))))

-- Where a range or an option is due: 9, 10, 13

unfoldable pub sign_of : ℕ → Sign
sign_of zero = plain
sign_of (suc g) = signed

unfoldable pub other_sign : Sign → Option Sign → Bool
other_sign g None = false
other_sign plain (Some plain) = false
other_sign plain (Some signed) = true
other_sign signed (Some plain) = true
other_sign signed (Some signed) = false

unfoldable pub meets : Sign → ℕ → ℕ → List Range → Bool
meets g l h [] = false
meets g l h (r ∷ rs) = (leb (key g l) (key g r.high) && leb (key g r.low) (key g h)) || meets g l h rs

-- "range low above high, mixed signs in one optional or variant, or ranges of two options meeting" (13): under the sign so far, with the
-- ranges of earlier options. "Ranges inside one option or optional may overlap."
unfoldable pub range_fault : Option Sign → List Range → Record → ℕ
range_fault o rs unknown = kind_not_allowed
range_fault o rs (fragment f) = kind_not_allowed
range_fault o rs (root r) = kind_not_allowed
range_fault o rs (class y) = kind_not_allowed
range_fault o rs (option n) = kind_not_allowed
range_fault o rs (range g l h) =
    pick (ltb 1 g) number_out_of_range
    (pick (ltb (key (sign_of g) h) (key (sign_of g) l) || other_sign (sign_of g) o || meets (sign_of g) l h rs) ranges_contradict 0)

-- an option has "ranges 1 to 16"
unfoldable pub option_fault : Record → ℕ
option_fault unknown = kind_not_allowed
option_fault (fragment f) = kind_not_allowed
option_fault (root r) = kind_not_allowed
option_fault (class y) = kind_not_allowed
option_fault (range g l h) = kind_not_allowed
option_fault (option n) = pick (out 1 16 n) number_out_of_range 0

-- Where a fragment or a root is due: 9, 10, 15

-- "a root 0 to 5 that is foreign, repeated or out of turn" (9)
unfoldable pub root_fault : Record → ℕ
root_fault unknown = kind_not_allowed
root_fault (fragment f) = kind_not_allowed
root_fault (root r) = pick (ltb r 6) kind_not_allowed number_out_of_range
root_fault (class y) = kind_not_allowed
root_fault (range g l h) = kind_not_allowed
root_fault (option m) = kind_not_allowed

unfoldable pub many : Ids → Bool
many q = leb fragment_limit (length q.clocks + length q.streams + length q.events)

-- a trace class says "1 if it has a UUID else 0"; a clock class "id, not 255; frequency (8), not 0"; "over 512 fragments" (15)
unfoldable pub open_fault : Ids → Record → ℕ
open_fault q unknown = kind_not_allowed
open_fault q (fragment (preamble v)) = kind_not_allowed
open_fault q (fragment (trace_class u l)) = pick (ltb 1 u) number_out_of_range 0
open_fault q (fragment (clock_class i f)) = pick (eqb i no_clock || eqb f 0) number_out_of_range (pick (many q) too_many_fragments 0)
open_fault q (fragment (stream_class i c)) = pick (many q) too_many_fragments 0
open_fault q (fragment (event_class i j)) = pick (many q) too_many_fragments 0
open_fault q (root r) = kind_not_allowed
open_fault q (class y) = kind_not_allowed
open_fault q (range g l h) = kind_not_allowed
open_fault q (option n) = kind_not_allowed
