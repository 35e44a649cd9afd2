-- A table's bytes, a stream's bytes and the words of a list give entries and a verdict.
use Rattle.std.specs.Prelude.{ℕ, ◌*◌, List, [], ◌++◌, true, false, ◌||◌, length, drop, ltb, eqb, None}
use Rattle.rules.specs.declared.Entry.{Entry}
use Rattle.rules.specs.declared.Refusal.TheVariants.{StreamSize}
use Rattle.rules.specs.declared.Verdict.{Verdict}
use Rattle.rules.specs.declared.Verdict.TheVariants.{Accepted, TableRefused, Refused}
use Rattle.rules.specs.declared.Report.{Report}
use Rattle.rules.specs.Limits.{stream_limit, words_per_entry}
use Rattle.rules.specs.Place.{bit_place}
use Rattle.rules.specs.Slots.{no_slots}
use Rattle.rules.specs.Entry.{words}
use Rattle.rules.specs.Verdict.{stop_at, number_of, place_of, first_of, second_of}
use Rattle.rules.specs.Step.{State, Out, stop, go}
use Rattle.rules.specs.Table.{Table, Asked, asked}
use Rattle.rules.specs.Parse.{Parsed, bad, good, parse, byte_of}
use Rattle.rules.specs.Packet.{nothing_said, read_packets}

pub record Reading : Type 0 where
  pub entries : List Entry
  pub verdict : Verdict

-- "Result: number (0 accepted), entries, place, two ids." (Refusing a stream)
unfoldable pub result_of : Reading → Report
result_of r = record {
  number = number_of r.verdict;
  entries = length r.entries;
  place = place_of r.verdict;
  first = first_of r.verdict;
  second = second_of r.verdict;
}

-- "Entries stay; words behind them are untouched." What a lent list holds afterwards, by what it held before
unfoldable pub list_after : Reading → List ℕ → List ℕ
list_after r old = words r.entries ++ drop (words_per_entry * length r.entries) old

-- "Accepted: 8 times the bytes", where a reading that goes through ends
unfoldable pub ended : Out → Reading
ended (stop es v) = record { entries = es; verdict = Refused v }
ended (go es s) = record { entries = es; verdict = Accepted s.place }

unfoldable pub begin : ℕ → State
begin room = record { place = bit_place 0; room = room; slots = no_slots; order = None; clock = 0; last = 0; said = nothing_said }

-- "stream empty or over 536,870,911 bytes; 0 entries, place 0" (21)
unfoldable pub read_stream : Asked → List ℕ → ℕ → Reading
read_stream t b room =
    elim (eqb (length b) 0 || ltb stream_limit (length b)) [
      | true ↦ record { entries = []; verdict = Refused (stop_at StreamSize (bit_place 0)) }
      | false ↦ ended (read_packets t b 0 None (length b) (begin room))
    ]

-- "20 comes before 21."
unfoldable pub read_parsed : List ℕ → Parsed Table → List ℕ → ℕ → Reading
read_parsed table (bad n x) b room = record { entries = []; verdict = TableRefused n (byte_of table x) }
read_parsed table (good t x) b room = read_stream (asked t) b room

unfoldable pub read_all : List ℕ → List ℕ → ℕ → Reading
read_all table b room = read_parsed table (parse table) b room
