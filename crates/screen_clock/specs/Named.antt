-- What is promised of a frequency: in a table that the rules accept it is the one of the clock class that the stream class names, as the
-- rules' own records say both.
use Rattle.std.specs.Prelude.{ℕ, ◌≡◌, List, true, false, drop, Some}
use Rattle.rules.specs.Record.{fragment, clock_class, stream_class, record_of}
use Rattle.rules.specs.Table.{Table, StreamClass, find_stream}
use Rattle.rules.specs.Parse.{good, parse}
use Rattle.class_layout.specs.Fragments.{fragments_of, find_stream_at, first_of}
use Rattle.screen_clock.specs.Frequency.{is_clock, frequency_of}

-- where the stream class stands and where its clock class does, both among the table's fragments; the clock's id is the one that both
-- have, and the frequency is f, which is not 0
pub record Clocked (t : List ℕ) (i f : ℕ) : Type 0 where
  pub stream : ℕ
  pub clock : ℕ
  pub id : ℕ
  pub stream-there : find_stream_at t (fragments_of t) i ≡ Some stream
  pub stream-says : record_of (drop stream t) ≡ fragment (stream_class i id)
  pub clock-there : first_of (λ p. is_clock t p id) (fragments_of t) ≡ Some clock
  pub clock-says : record_of (drop clock t) ≡ fragment (clock_class id f)
  pub some-turns : f ≡ 0 → ⊥

-- of the stream class of an id, which is timed where it names a clock
pub record Named (t : List ℕ) (i : ℕ) (k : StreamClass) : Type 0 where
  pub timed : k.timed ≡ true → Clocked t i (frequency_of t i)
  pub untimed : k.timed ≡ false → frequency_of t i ≡ 0

abbrev pub FrequencyNamed : Type 0
FrequencyNamed =
    (t : List ℕ) (T : Table) (y : List ℕ) → parse t ≡ good T y → (i : ℕ) (k : StreamClass) → find_stream T.streams i ≡ Some k
    → Named t i k
