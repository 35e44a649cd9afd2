-- One slot, one home. "A table in which a slot is set both inside an array element and outside it, within one packet's or one event's roots, is
-- refused as 11." (02, 3) A class's home is the innermost array whose element it stands in, or none; all classes of one packet's or one event's
-- roots that set one slot have one home. A walk of its own goes over the records as the parser does, and stops at the first class that sets a
-- slot which one of another home has set. What it cannot go over another number refuses, there or before.
use Rattle.std.specs.Prelude.{ℕ, zero, suc, List, [], ◌∷◌, ◌++◌, Bool, true, false, ◌&&◌, length, leb, eqb}
use Rattle.rules.specs.Limits.{depth_limit}
use Rattle.rules.specs.Class.{setting}
use Rattle.rules.specs.Record.{Shape, bit_field, leb_field, signed_leb_field, zero_string, text, blob, text_of, blob_of, members, elements, elements_of, option?, options}
use Rattle.rules.specs.Record.{Says, Fragment, preamble, trace_class, clock_class, stream_class, event_class}
use Rattle.rules.specs.Record.{Record, unknown, fragment, root, class, range, option, record_of, behind, size}
use Rattle.rules.specs.Faults.{among}

-- slots that some classes set: those whose home is here, the innermost array that we are in or none; and all others
pub record Homes : Type 0 where
  pub here : List ℕ
  pub elsewhere : List ℕ

abbrev pub homes : List ℕ → List ℕ → Homes
homes h e = record { here = h; elsewhere = e }

abbrev pub no_homes : Homes
no_homes = homes [] []

unfoldable pub both : Homes → Homes → Homes
both g h = homes (g.here ++ h.here) (g.elsewhere ++ h.elsewhere)

-- across the border of an array's element, in and out: all is elsewhere
unfoldable pub across : Homes → Homes
across h = homes [] (h.here ++ h.elsewhere)

-- the bytes from the class at fault on; or what the classes walked over set, and the bytes behind them; or no such records are here
pub data Walked : Type 0 where
  fault : List ℕ → Walked
  walked : Homes → List ℕ → Walked
  lost : Walked

-- a walk, where h was set before; and then another one
abbrev pub Walk : Type 0
Walk = Homes → List ℕ → Walked

unfoldable pub more : Homes → Walked → Walked
more g (fault y) = fault y
more g (walked h x) = walked (both g h) x
more g lost = lost

unfoldable pub onward : Homes → Walked → Walk → Walked
onward h (fault y) f = fault y
onward h (walked g x) f = more g (f (both g h) x)
onward h lost f = lost

unfoldable pub out : Walked → Walked
out (fault y) = fault y
out (walked g x) = walked (across g) x
out lost = lost

unfoldable pub is_whole : List ℕ → Bool
is_whole x = leb (size x) (length x)

unfoldable pub is_range : Record → Bool
is_range unknown = false
is_range (fragment f) = false
is_range (root r) = false
is_range (class y) = false
is_range (range g l h) = true
is_range (option n) = false

unfoldable pub walk_ranges : ℕ → Walk
walk_ranges zero h x = walked no_homes x
walk_ranges (suc n) h x = elim (is_whole x && is_range (record_of x)) [ true ↦ walk_ranges n h (behind x) | false ↦ lost ]

unfoldable pub walk_option : Walk → Homes → Record → List ℕ → Walked
walk_option f h unknown x = lost
walk_option f h (fragment g) x = lost
walk_option f h (root r) x = lost
walk_option f h (class y) x = lost
walk_option f h (range g l k) x = lost
walk_option f h (option n) x = onward h (walk_ranges n h x) f

unfoldable pub walk_options : Walk → ℕ → Walk
walk_options f zero h x = walked no_homes x
walk_options f (suc n) h x = elim (is_whole x) [ true ↦ onward h (walk_option f h (record_of x) (behind x)) (walk_options f n) | false ↦ lost ]

unfoldable pub walk_members : Walk → ℕ → Walk
walk_members f zero h x = walked no_homes x
walk_members f (suc n) h x = onward h (f h x) (walk_members f n)

-- what a class sets and holds
unfoldable pub walk_shape : Walk → Says → Shape → Walk
walk_shape f y (bit_field s) h x = walked (homes (setting y.sets) []) x
walk_shape f y leb_field h x = walked (homes (setting y.sets) []) x
walk_shape f y signed_leb_field h x = walked (homes (setting y.sets) []) x
walk_shape f y zero_string h x = walked no_homes x
walk_shape f y text h x = walked no_homes x
walk_shape f y blob h x = walked no_homes x
walk_shape f y text_of h x = walked no_homes x
walk_shape f y blob_of h x = walked no_homes x
walk_shape f y members h x = walk_members f y.count h x
walk_shape f y elements h x = out (f (across h) x)
walk_shape f y elements_of h x = out (f (across h) x)
walk_shape f y option? h x = onward h (walk_ranges y.count h x) f
walk_shape f y options h x = walk_options f y.count h x

unfoldable pub walk_record : Walk → Homes → Record → List ℕ → Walked
walk_record f h unknown x = lost
walk_record f h (fragment g) x = lost
walk_record f h (root r) x = lost
walk_record f h (range g l k) x = lost
walk_record f h (option n) x = lost
walk_record f h (class y) x = elim (among y.sets h.elsewhere) [ true ↦ fault x | false ↦ walk_shape f y y.shape h (behind x) ]

-- a class with so many depths left behind its own: at depth 9 its record is still looked at (14 is the higher number)
unfoldable pub walk_class : ℕ → Walk
walk_class zero h x = elim (is_whole x) [ true ↦ walk_record (λ h x. lost) h (record_of x) x | false ↦ lost ]
walk_class (suc n) h x = elim (is_whole x) [ true ↦ walk_record (walk_class n) h (record_of x) x | false ↦ lost ]

unfoldable pub is_any_root : Record → Bool
is_any_root unknown = false
is_any_root (fragment f) = false
is_any_root (root r) = true
is_any_root (class y) = false
is_any_root (range g l h) = false
is_any_root (option n) = false

unfoldable pub walk_roots : ℕ → Walk
walk_roots zero h x = walked no_homes x
walk_roots (suc n) h x =
    elim (is_whole x && is_any_root (record_of x)) [ true ↦ onward h (walk_class depth_limit h (behind x)) (walk_roots n) | false ↦ walked no_homes x ]

-- what was set before a fragment's roots within one packet's or one event's roots: by the header, before a stream class's; by the stream class's
-- roots, before an event class's. Packet roots and event roots set different slots (11), so that both may stand in one

unfoldable pub homes_of : List (ℕ × Homes) → ℕ → Homes
homes_of [] i = no_homes
homes_of (p ∷ ps) i = elim (eqb p.0 i) [ true ↦ p.1 | false ↦ homes_of ps i ]

unfoldable pub homes_before : Homes → List (ℕ × Homes) → Fragment → Homes
homes_before h l (preamble v) = no_homes
homes_before h l (trace_class u x) = no_homes
homes_before h l (clock_class i f) = no_homes
homes_before h l (stream_class i c) = h
homes_before h l (event_class i j) = homes_of l i

-- and what is kept of a fragment that sets g: the header's homes, and each stream class's
unfoldable pub header_homes : Fragment → Homes → Homes → Homes
header_homes (preamble v) g h = h
header_homes (trace_class u x) g h = g
header_homes (clock_class i f) g h = h
header_homes (stream_class i c) g h = h
header_homes (event_class i j) g h = h

unfoldable pub stream_homes : Fragment → Homes → List (ℕ × Homes) → List (ℕ × Homes)
stream_homes (preamble v) g l = l
stream_homes (trace_class u x) g l = l
stream_homes (clock_class i f) g l = l
stream_homes (stream_class i c) g l = (i, g) ∷ l
stream_homes (event_class i j) g l = l

unfoldable pub walk_rest : (Homes → List (ℕ × Homes) → List ℕ → Walked) → Homes → List (ℕ × Homes) → Fragment → Walked → Walked
walk_rest f h l g (fault y) = fault y
walk_rest f h l g (walked k x) = f (header_homes g k h) (stream_homes g k l) x
walk_rest f h l g lost = lost

unfoldable pub walk_opened : (Homes → List (ℕ × Homes) → List ℕ → Walked) → Homes → List (ℕ × Homes) → Record → List ℕ → Walked
walk_opened f h l unknown x = lost
walk_opened f h l (root r) x = lost
walk_opened f h l (class y) x = lost
walk_opened f h l (range g m k) x = lost
walk_opened f h l (option n) x = lost
walk_opened f h l (fragment g) x = walk_rest f h l g (walk_roots (length x) (homes_before h l g) x)

-- fragments to the end; each takes a byte or more
unfoldable pub walk_fragments : ℕ → Homes → List (ℕ × Homes) → List ℕ → Walked
walk_fragments zero h l x = lost
walk_fragments (suc n) h l x = elim (is_whole x) [ true ↦ walk_opened (walk_fragments n) h l (record_of x) (behind x) | false ↦ lost ]

unfoldable pub walk : List ℕ → Walked
walk x = walk_fragments (length x) no_homes [] x
