-- Reading a class table: the table, or the number and the byte of the first record with a fault. A parser works on the rest of the
-- bytes, so that a record's byte is what the table has more.
use Rattle.rules.specs.Verdict.{table_fault}
use Rattle.rules.specs.declared.TableFault.{TableFault}
use Rattle.std.specs.Prelude.{ℕ, zero, suc, ◌-◌, List, [], ◌∷◌, ◌++◌, Bool, true, false, not, ◌&&◌, ◌||◌, length, get_or, ltb, leb, eqb, Option, None, Some, Err, Ok, Result}
use Rattle.rules.specs.declared.Order.{Order}
use Rattle.rules.specs.declared.Order.TheVariants.{Little, Big}
use Rattle.rules.specs.declared.ByteLength.{ByteLength}
use Rattle.rules.specs.Limits.{table_limit, depth_limit, no_clock}
use Rattle.rules.specs.Place.{byte_length}
use Rattle.rules.specs.Class.{Sign, plain, Range, Class, fixed, leb128, signed_leb128, string, static_string, static_blob, dynamic_string, dynamic_blob}
use Rattle.rules.specs.Class.{structure, static_array, dynamic_array, flagged, optional, variant, Classes, no_member, member, Options, no_option, option as an_option}
use Rattle.rules.specs.Record.{Shape, bit_field, leb_field, signed_leb_field, zero_string, text, blob, text_of, blob_of, members, elements, elements_of, option?, options}
use Rattle.rules.specs.Record.{Says, Fragment, preamble, trace_class, clock_class, stream_class, event_class}
use Rattle.rules.specs.Record.{Record, unknown, fragment, root, class, range, option, record_of, behind, size}
use Rattle.rules.specs.Faults.{slot_not_allowed, bad_size, unknown_kind, cut_short, kind_not_allowed, too_deep, pick, Ids, no_ids, seen, record_fault, first_fault}
use Rattle.rules.specs.Faults.{Spot, top, inside, member_spot, Under, role_of, class_fault, sign_of, range_fault, option_fault, root_fault, open_fault}
use Rattle.rules.specs.Table.{Table}
use Rattle.rules.specs.Homes.{Walked, fault, walked, lost, walk}

-- a number, and the bytes from the faulty record on; or what was read, and the bytes behind it
pub data Parsed (A : Type 0) : Type 0 where
  bad : ℕ → List ℕ → Parsed A
  good : A → List ℕ → Parsed A

abbrev pub Parser : Type 0 → Type 0
Parser A = List ℕ → Parsed A

unfoldable pub then : {A B : Type 0} → Parsed A → (A → Parser B) → Parsed B
then (bad n x) f = bad n x
then (good a x) f = f a x

-- behind a record that has no fault
unfoldable pub sound : {A : Type 0} → ℕ → List ℕ → Parser A → Parsed A
sound zero x f = f (behind x)
sound (suc n) x f = bad (suc n) x

unfoldable pub missing : List ℕ → Bool
missing [] = true
missing (b ∷ x) = false

-- one record behind the preamble, its numbers from 9 up by a function; "a record that is missing stands at the table's length"
unfoldable pub one : {A : Type 0} → Ids → (Record → ℕ) → (Record → Parser A) → Parser A
one q more f x =
    sound (pick (missing x) cut_short (record_fault (ltb (length x) (size x)) q (record_of x) (more (record_of x)))) x (f (record_of x))

-- Ranges and options

-- the sign so far, and ranges
abbrev pub Ranges : Type 0
Ranges = Option Sign × List Range

-- what a sound record holds
unfoldable pub range_of : Record → Ranges
range_of unknown = (None, [])
range_of (fragment f) = (None, [])
range_of (root r) = (None, [])
range_of (class y) = (None, [])
range_of (option n) = (None, [])
range_of (range g l h) = (Some (sign_of g), record { low = l; high = h } ∷ [])

unfoldable pub count_of : Record → ℕ
count_of unknown = 0
count_of (fragment f) = 0
count_of (root r) = 0
count_of (class y) = 0
count_of (range g l h) = 0
count_of (option n) = n

unfoldable pub the_sign : Option Sign → Sign
the_sign None = plain
the_sign (Some g) = g

-- n ranges, under a sign, and the sign behind them
unfoldable pub parse_ranges : Ids → List Range → ℕ → Option Sign → Parser Ranges
parse_ranges q earlier zero o x = good (o, []) x
parse_ranges q earlier (suc n) o x =
    one q (range_fault o earlier) (λ r x. then (parse_ranges q earlier n (range_of r).0 x) λ p x. good (p.0, (range_of r).1 ++ p.1) x) x

-- n options, under a sign and with the ranges of the options before
unfoldable pub parse_options : Ids → (Spot → Parser Class) → ℕ → Ranges → Parser (Option Sign × Options)
parse_options q f zero p x = good (p.0, no_option) x
parse_options q f (suc n) p x =
    one q option_fault
    (λ r x.
    then (parse_ranges q p.1 (count_of r) p.0 x) λ rs x.
    then (f inside x) λ c x.
    then (parse_options q f n (rs.0, p.1 ++ rs.1) x) λ os x. good (os.0, an_option rs.1 c os.1) x)
    x

-- Classes

unfoldable pub parse_members : (Spot → Parser Class) → Spot → ℕ → Parser Classes
parse_members f z zero x = good no_member x
parse_members f z (suc n) x = then (f z x) λ c x. then (parse_members f inside n x) λ cs x. good (member c cs) x

-- "Order is 0 little, 1 big."
unfoldable pub order_of : ℕ → Order
order_of zero = Little
order_of (suc o) = Big

-- an optional of no ranges goes by a flag
unfoldable pub selected : ℕ → Ranges → Class → Class
selected i p c = elim p.0 [ None ↦ flagged i c | Some g ↦ optional i g p.1 c ]

-- behind a sound record, where f reads the classes one deeper
unfoldable pub parse_shape : Ids → (Spot → Parser Class) → Spot → Says → Shape → Parser Class
parse_shape q f z y (bit_field k) x = good (fixed k y.length (order_of y.order) y.align y.sets (role_of y.role)) x
parse_shape q f z y leb_field x = good (leb128 y.sets (role_of y.role)) x
parse_shape q f z y signed_leb_field x = good (signed_leb128 y.sets) x
parse_shape q f z y zero_string x = good string x
parse_shape q f z y text x = good (static_string y.count) x
parse_shape q f z y blob x = good (static_blob y.count (role_of y.role)) x
parse_shape q f z y text_of x = good (dynamic_string y.reads) x
parse_shape q f z y blob_of x = good (dynamic_blob y.reads) x
parse_shape q f z y members x = then (parse_members f (member_spot z) y.count x) λ cs x. good (structure y.align cs) x
parse_shape q f z y elements x = then (f inside x) λ c x. good (static_array y.count y.align c) x
parse_shape q f z y elements_of x = then (f inside x) λ c x. good (dynamic_array y.reads y.align c) x
parse_shape q f z y option? x = then (parse_ranges q [] y.count None x) λ p x. then (f inside x) λ c x. good (selected y.reads p c) x
parse_shape q f z y options x = then (parse_options q f y.count (None, []) x) λ p x. good (variant y.reads (the_sign p.0) p.1) x

unfoldable pub parse_body : Ids → (Spot → Parser Class) → Spot → Record → Parser Class
parse_body q f z unknown x = bad unknown_kind x
parse_body q f z (fragment g) x = bad kind_not_allowed x
parse_body q f z (root r) x = bad kind_not_allowed x
parse_body q f z (class y) x = parse_shape q f z y y.shape x
parse_body q f z (range g l h) x = bad kind_not_allowed x
parse_body q f z (option n) x = bad kind_not_allowed x

-- a class with so many depths left, its own among them: "any class within another is one deeper"
unfoldable pub parse_class : Ids → Under → ℕ → Spot → Parser Class
parse_class q u zero z x = one q (class_fault u z true) (λ r x. bad too_deep x) x
parse_class q u (suc left) z x = one q (class_fault u z false) (λ r x. parse_body q (parse_class q u left) z r x) x

-- Roots: "each once, in rising number, each followed by a structure"

unfoldable pub is_root : ℕ → Record → Bool
is_root n unknown = false
is_root n (fragment f) = false
is_root n (root r) = eqb n r
is_root n (class y) = false
is_root n (range g l h) = false
is_root n (option m) = false

unfoldable pub any_root : Record → Bool
any_root unknown = false
any_root (fragment f) = false
any_root (root r) = true
any_root (class y) = false
any_root (range g l h) = false
any_root (option m) = false

-- the roots of a list of numbers, each there or not, in this order
unfoldable pub parse_roots : Ids → Bool → Bool → List ℕ → Parser (List (Option Class))
parse_roots q timed has_uuid [] x =
    elim (not (missing x) && any_root (record_of x)) [ true ↦ one q root_fault (λ r x. bad kind_not_allowed x) x | false ↦ good [] x ]
parse_roots q timed has_uuid (n ∷ ns) x =
    elim (leb (size x) (length x) && is_root n (record_of x)) [
      | true ↦ then (parse_class q (record { root = n; timed = timed; uuid = has_uuid }) depth_limit top (behind x)) λ c x.
          then (parse_roots q timed has_uuid ns x) λ cs x. good (Some c ∷ cs) x
      | false ↦ then (parse_roots q timed has_uuid ns x) λ cs x. good (None ∷ cs) x
    ]

-- Fragments: "Kinds 1 to 5 open a fragment. Its roots follow"

-- "root 0 under a trace class, 1 to 3 under a stream class, 4 and 5 under an event class"
unfoldable pub root_numbers : Fragment → List ℕ
root_numbers (preamble v) = []
root_numbers (trace_class u l) = 0 ∷ []
root_numbers (clock_class i f) = []
root_numbers (stream_class i c) = 1 ∷ 2 ∷ 3 ∷ []
root_numbers (event_class i j) = 4 ∷ 5 ∷ []

unfoldable pub is_timed : Fragment → Bool
is_timed (preamble v) = false
is_timed (trace_class u l) = false
is_timed (clock_class i f) = false
is_timed (stream_class i c) = not (eqb c no_clock)
is_timed (event_class i j) = false

unfoldable pub has_uuid : Fragment → Bool
has_uuid (preamble v) = false
has_uuid (trace_class u l) = eqb u 1
has_uuid (clock_class i f) = false
has_uuid (stream_class i c) = false
has_uuid (event_class i j) = false

unfoldable pub no_table : Table
no_table = record { uuid = []; header = None; streams = []; events = [] }

unfoldable pub root_of : List (Option Class) → ℕ → Option Class
root_of l i = get_or l i None

-- "1 if it has a UUID else 0; 16 bytes"
unfoldable pub uuid_of : ℕ → List ℕ → List ℕ
uuid_of zero l = []
uuid_of (suc u) l = l

-- a fragment with its roots, in front of the table behind it
unfoldable pub add : Fragment → List (Option Class) → Table → Table
add (preamble v) cs t = t
add (trace_class u l) cs t = record { uuid = uuid_of u l; header = root_of cs 0; streams = t.streams; events = t.events }
add (clock_class i f) cs t = t
add (stream_class i c) cs t = record {
  uuid = t.uuid;
  header = t.header;
  streams = record { id = i; timed = not (eqb c no_clock); context = root_of cs 0; header = root_of cs 1; common = root_of cs 2 } ∷ t.streams;
  events = t.events;
}
add (event_class i j) cs t = record {
  uuid = t.uuid;
  header = t.header;
  streams = t.streams;
  events = record { stream = i; id = j; specific = root_of cs 0; payload = root_of cs 1 } ∷ t.events;
}

-- a fragment's roots, and then what f reads
unfoldable pub parse_fragment : Ids → (Ids → Parser Table) → Fragment → Parser Table
parse_fragment q f g x =
    then (parse_roots (seen q g) (is_timed g) (has_uuid g) (root_numbers g) x) λ cs x. then (f (seen q g) x) λ t x. good (add g cs t) x

unfoldable pub parse_opened : Ids → (Ids → Parser Table) → Record → Parser Table
parse_opened q f unknown x = bad unknown_kind x
parse_opened q f (fragment g) x = parse_fragment q f g x
parse_opened q f (root r) x = bad kind_not_allowed x
parse_opened q f (class y) x = bad kind_not_allowed x
parse_opened q f (range g l h) x = bad kind_not_allowed x
parse_opened q f (option n) x = bad kind_not_allowed x

-- fragments to the end; each takes a byte or more, so that as many rounds as there are bytes are enough
unfoldable pub parse_fragments : ℕ → Ids → Parser Table
parse_fragments zero q x = good no_table x
parse_fragments (suc left) q x =
    elim (missing x) [ true ↦ good no_table x | false ↦ one q (open_fault q) (λ r x. parse_opened q (parse_fragments left) r x) x ]

-- "Number 1 is tested first, at byte 0." All but the homes of slots
unfoldable pub parse_table : Parser Table
parse_table x =
    elim (missing x || ltb table_limit (length x)) [
      | true ↦ bad bad_size x
      | false ↦ sound (first_fault (ltb (length x) (size x)) (record_of x)) x λ x.
          then (parse_roots no_ids false false [] x) λ cs x. parse_fragments (length x) no_ids x
    ]

-- "Then the first record with a fault decides, by its first byte, and there the lowest number": with a class that sets a slot of another home,
-- which has the bytes y from it on
unfoldable pub or_fault : Parsed Table → Walked → Parsed Table
or_fault (good t x) (fault y) = bad slot_not_allowed y
or_fault (good t x) (walked hs y) = good t x
or_fault (good t x) lost = good t x
or_fault (bad n x) (walked hs y) = bad n x
or_fault (bad n x) lost = bad n x
or_fault (bad n x) (fault y) =
    elim (ltb (length x) (length y) || (eqb (length x) (length y) && ltb slot_not_allowed n)) [ true ↦ bad slot_not_allowed y | false ↦ bad n x ]

unfoldable pub parse : Parser Table
parse x = or_fault (parse_table x) (walk x)

-- The answer

-- the byte at which the rest x of the bytes b begins
unfoldable pub byte_of : List ℕ → List ℕ → ByteLength
byte_of b x = byte_length (length b - length x)

-- "An accepted table gives 0 and its length."
unfoldable pub checked_of : List ℕ → Parsed Table → Result ByteLength TableFault
checked_of b (bad n x) = Err (table_fault n (byte_of b x))
checked_of b (good t x) = Ok (byte_length (length b))

unfoldable pub checked : List ℕ → Result ByteLength TableFault
checked b = checked_of b (parse b)

-- document 01's number and byte for each answer
unfoldable pub checked_number : Result ByteLength TableFault → ℕ
checked_number (Ok n) = 0
checked_number (Err v) = v.number

unfoldable pub checked_byte : Result ByteLength TableFault → ByteLength
checked_byte (Ok n) = n
checked_byte (Err v) = v.byte
