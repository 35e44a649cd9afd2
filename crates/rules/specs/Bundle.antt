-- The smallest bundle: "the table that keeps the preamble, trace class, clocks, and just those stream and event classes whose finding some
-- reading lists; a stream class also stays if one of its event classes does" (02, 14).
use Rattle.rules.specs.Verdict.{table_fault}
use Rattle.rules.specs.declared.NoBundle.TheVariants.{Table, TooManyStreams, ShortBuffer}
use Rattle.rules.specs.declared.NoBundle.{NoBundle}
use Rattle.rules.specs.declared.TableFault.{TableFault}
use Rattle.rules.specs.declared.ByteLength.{ByteLength}
use Rattle.std.specs.Prelude.{ℕ, List, [], ◌∷◌, ◌++◌, Bool, true, false, ◌&&◌, ◌||◌, length, drop, ltb, eqb, Err, Ok, Result}
use Rattle.rules.specs.declared.Entry.{Entry}
use Rattle.rules.specs.Limits.{bundle_limit}
use Rattle.rules.specs.Place.{byte_length}
use Rattle.rules.specs.Entry.{stream_class_found, event_class_found}
use Rattle.rules.specs.Parse.{checked}
use Rattle.rules.specs.Read.{Reading}
use Rattle.rules.specs.Edition.{leave}
use Rattle.rules.specs.Lists.{parts, behind_parts, readings, words_after}

-- the stream class id behind an entry, where it was i in front: that of the latest entry 2
unfoldable pub under : ℕ → Entry → ℕ
under i e = elim (eqb e.kind stream_class_found) [ true ↦ e.value | false ↦ i ]

-- whether a list has the finding of stream class i; of event class j of stream class i, where h is the stream class in front; of an event
-- class of stream class i
unfoldable pub stream_in : ℕ → List Entry → Bool
stream_in i [] = false
stream_in i (e ∷ es) = (eqb e.kind stream_class_found && eqb e.value i) || stream_in i es

unfoldable pub event_in : ℕ → ℕ → ℕ → List Entry → Bool
event_in i j h [] = false
event_in i j h (e ∷ es) = (eqb e.kind event_class_found && eqb h i && eqb e.value j) || event_in i j (under h e) es

unfoldable pub event_under : ℕ → ℕ → List Entry → Bool
event_under i h [] = false
event_under i h (e ∷ es) = (eqb e.kind event_class_found && eqb h i) || event_under i (under h e) es

-- "whose finding some reading lists; a stream class also stays if one of its event classes does"
unfoldable pub stream_listed : List Reading → ℕ → Bool
stream_listed [] i = false
stream_listed (r ∷ rs) i = stream_in i r.entries || (event_under i 0 r.entries || stream_listed rs i)

unfoldable pub event_listed : List Reading → ℕ → ℕ → Bool
event_listed [] i j = false
event_listed (r ∷ rs) i j = event_in i j 0 r.entries || event_listed rs i j

-- what stays of a table's bytes
unfoldable pub bundle_of : List ℕ → List Reading → List ℕ
bundle_of x rs = leave (stream_listed rs) (event_listed rs) x

-- "A refused table (20), over sixteen streams and a short output buffer (new numbers) are refused in that order": 44 and 45. A short buffer
-- is told how many bytes it takes
unfoldable pub fitted : List ℕ → ℕ → Result ByteLength NoBundle
fitted y room = elim (ltb room (length y)) [ true ↦ Err (ShortBuffer (byte_length (length y))) | false ↦ Ok (byte_length (length y)) ]

unfoldable pub bundled : Result ByteLength TableFault → List ℕ → ℕ → List Reading → ℕ → Result ByteLength NoBundle
bundled (Err v) x count rs room = Err (Table v)
bundled (Ok n) x count rs room = elim (ltb bundle_limit count) [ true ↦ Err TooManyStreams | false ↦ fitted (bundle_of x rs) room ]

-- the readings that a bundle is of: x the table, b the streams' bytes, ns their lengths, ms the rooms, ws the words of the lists
abbrev pub bundle_readings : List ℕ → List ℕ → List ℕ → List ℕ → List ℕ → List Reading
bundle_readings x b ns ms ws = readings x (parts ns b) (parts ms ws)

-- the answer, in a buffer of so many bytes
abbrev pub bundle_answer : List ℕ → List ℕ → List ℕ → List ℕ → List ℕ → ℕ → Result ByteLength NoBundle
bundle_answer x b ns ms ws room = bundled (checked x) x (length ns) (bundle_readings x b ns ms ws) room

-- "the buffer is then untouched"; and what stands behind the table is
unfoldable pub buffer_after : Result ByteLength NoBundle → List ℕ → List ℕ → List ℕ
buffer_after (Ok n) y old = y ++ drop (length y) old
buffer_after (Err (Table v)) y old = old
buffer_after (Err TooManyStreams) y old = old
buffer_after (Err (ShortBuffer n)) y old = old

-- the lists hold the readings, of a short buffer too; by 20 and 44 nothing is read
unfoldable pub lists_after : Result ByteLength NoBundle → List Reading → List ℕ → List ℕ → List ℕ
lists_after (Ok n) rs ms old = words_after rs (parts ms old) ++ behind_parts ms old
lists_after (Err (Table v)) rs ms old = old
lists_after (Err TooManyStreams) rs ms old = old
lists_after (Err (ShortBuffer n)) rs ms old = words_after rs (parts ms old) ++ behind_parts ms old

-- The answer in numbers: "number, length, id"

unfoldable pub bundled_number : Result ByteLength NoBundle → ℕ
bundled_number (Ok n) = 0
bundled_number (Err (Table v)) = 20
bundled_number (Err TooManyStreams) = 44
bundled_number (Err (ShortBuffer n)) = 45

-- the table's length, the byte of a refused table's record, 0, or how many bytes are needed
unfoldable pub bundled_length : Result ByteLength NoBundle → ℕ
bundled_length (Ok n) = n.0
bundled_length (Err (Table v)) = v.byte.0
bundled_length (Err TooManyStreams) = 0
bundled_length (Err (ShortBuffer n)) = n.0

-- of a refused table its number
unfoldable pub bundled_first : Result ByteLength NoBundle → ℕ
bundled_first (Ok n) = 0
bundled_first (Err (Table v)) = v.number
bundled_first (Err TooManyStreams) = 0
bundled_first (Err (ShortBuffer n)) = 0
