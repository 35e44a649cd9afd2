-- The smallest bundle on a small table, as one statement: two stream classes, each with event classes 0 and 1. In order: what is kept; the
-- answers; the buffer; the lists.
use Rattle.rules.specs.Verdict.{table_fault}
use Rattle.rules.specs.declared.NoBundle.TheVariants.{Table, TooManyStreams, ShortBuffer}
use Rattle.rules.specs.declared.NoBundle.{NoBundle}
use Rattle.rules.specs.declared.ByteLength.{ByteLength}
use Rattle.std.specs.Prelude.{◌≡◌, ℕ, List, [], ◌∷◌, ◌++◌, replicate, Ok, Err, Result}
use Rattle.rules.specs.Place.{byte_length}
use Rattle.rules.specs.Entry.{words}
use Rattle.rules.specs.Read.{read_all}
use Rattle.rules.specs.Bundle.{bundle_of, bundle_readings, bundle_answer, buffer_after, lists_after, bundled_number, bundled_length, bundled_first}
use Rattle.promises.specs.Cases.{preamble, trace_class, clock_class, stream_class, event_class, root, structure, plain}

-- what always stays: the preamble, a trace class whose packet header says the stream class's id, and a clock class that nothing names
abbrev pub always : List ℕ
always = preamble ++ trace_class ++ root 0 ++ structure 1 ++ plain 255 2 ++ clock_class 1

-- a stream class whose event header says the event class's id
abbrev pub stream_of : ℕ → List ℕ
stream_of i = stream_class i 255 ++ root 2 ++ structure 1 ++ plain 255 11

abbrev pub two_by_two : List ℕ
two_by_two = always ++ stream_of 0 ++ stream_of 1 ++ event_class 0 0 ++ event_class 0 1 ++ event_class 1 0 ++ event_class 1 1

-- streams of one packet with one event each: event class 1 of stream class 0, and 0 of 1; each lists ten entries
abbrev pub stream01 : List ℕ
stream01 = 0 ∷ 1 ∷ []

abbrev pub stream10 : List ℕ
stream10 = 1 ∷ 0 ∷ []

abbrev pub lent : List ℕ
lent = replicate 120 9

abbrev pub cut_of : List ℕ → List ℕ → List ℕ → List ℕ
cut_of b ns ms = bundle_of two_by_two (bundle_readings two_by_two b ns ms lent)

-- what is kept for the first stream: 79 bytes; and for both
abbrev pub kept_for_one : List ℕ
kept_for_one = always ++ stream_of 0 ++ event_class 0 1

abbrev pub kept_for_both : List ℕ
kept_for_both = always ++ stream_of 0 ++ stream_of 1 ++ event_class 0 1 ++ event_class 1 0

-- the answer for the first stream, by the bytes of the buffer; what it leaves there, and in the lists, with rooms ms
abbrev pub answered : ℕ → Result ByteLength NoBundle
answered room = bundle_answer two_by_two stream01 (2 ∷ []) (50 ∷ []) lent room

abbrev pub buffer_behind : Result ByteLength NoBundle → List ℕ → List ℕ
buffer_behind r old = buffer_after r (cut_of stream01 (2 ∷ []) (50 ∷ [])) old

abbrev pub lists_behind : Result ByteLength NoBundle → List ℕ → List ℕ → List ℕ → List ℕ
lists_behind r b ns ms = lists_after r (bundle_readings two_by_two b ns ms lent) ms lent

abbrev pub words_for : List ℕ → List ℕ
words_for b = words (read_all two_by_two b 50).entries

-- "number, length, id"
abbrev pub numbers_of : Result ByteLength NoBundle → List ℕ
numbers_of r = bundled_number r ∷ bundled_length r ∷ bundled_first r ∷ []

pub record BundleFigures : Type 0 where
  -- an event class is kept under its own stream class, and by no other's id
  pub one : cut_of stream01 (2 ∷ []) (50 ∷ []) ≡ kept_for_one
  pub both : cut_of (stream01 ++ stream10) (2 ∷ 2 ∷ []) (50 ∷ 50 ∷ []) ≡ kept_for_both
  -- a list is read to its end, and as far as it goes: two events; an event class that is unknown (37); no room for an entry 5 (40)
  pub last-event : cut_of (1 ∷ 0 ∷ 1 ∷ []) (3 ∷ []) (120 ∷ []) ≡ always ++ stream_of 1 ++ event_class 1 0 ++ event_class 1 1
  pub unknown-event : cut_of (0 ∷ 1 ∷ 7 ∷ []) (3 ∷ []) (120 ∷ []) ≡ kept_for_one
  pub no_room : cut_of stream01 (2 ∷ []) (44 ∷ []) ≡ always ++ stream_of 0
  -- no stream; a stream with no list; a length that promises more than there is
  pub no_stream : cut_of [] [] [] ≡ always
  pub no-list : cut_of (stream01 ++ stream10) (2 ∷ 2 ∷ []) (50 ∷ []) ≡ kept_for_one
  pub long : cut_of (stream01 ++ stream10) (2 ∷ 9 ∷ []) (50 ∷ 50 ∷ []) ≡ kept_for_both
  -- 45 with the bytes that are needed
  pub fits : answered 79 ≡ Ok (byte_length 79)
  pub short : answered 78 ≡ Err (ShortBuffer (byte_length 79))
  -- "up to sixteen streams"; 44 comes before 45, and 20 before 44
  pub sixteen : bundle_answer preamble [] (replicate 16 0) [] [] 2 ≡ Ok (byte_length 2)
  pub seventeen : bundle_answer preamble [] (replicate 17 0) [] [] 0 ≡ Err TooManyStreams
  pub bad-table : bundle_answer (0 ∷ []) [] (replicate 17 0) [] [] 0 ≡ Err (Table (table_fault 2 (byte_length 0)))
  -- the answers in numbers
  pub number-0 : numbers_of (answered 79) ≡ 0 ∷ 79 ∷ 0 ∷ []
  pub number-45 : numbers_of (answered 78) ≡ 45 ∷ 79 ∷ 0 ∷ []
  pub number-44 : numbers_of (Err TooManyStreams) ≡ 44 ∷ 0 ∷ 0 ∷ []
  pub number-20 : numbers_of (Err (Table (table_fault 2 (byte_length 7)))) ≡ 20 ∷ 7 ∷ 2 ∷ []
  -- "the buffer is then untouched"
  pub buffer : buffer_behind (answered 81) (replicate 81 7) ≡ kept_for_one ++ (7 ∷ 7 ∷ [])
  pub buffer-45 : buffer_behind (answered 78) (replicate 78 7) ≡ replicate 78 7
  pub buffer-44 : buffer_behind (Err TooManyStreams) (replicate 81 7) ≡ replicate 81 7
  pub buffer-20 : buffer_behind (Err (Table (table_fault 2 (byte_length 7)))) (replicate 81 7) ≡ replicate 81 7
  -- each reading in its own list, of a short buffer too; behind its entries, in a list of no stream and behind the last list as it came
  pub lists : lists_behind (answered 79) (stream01 ++ stream10) (2 ∷ 2 ∷ []) (50 ∷ 52 ∷ [])
      ≡ words_for stream01 ++ words_for stream10 ++ replicate 20 9
  pub lists-45 : lists_behind (answered 78) stream01 (2 ∷ []) (55 ∷ 30 ∷ []) ≡ words_for stream01 ++ replicate 70 9
  pub lists-44 : lists_behind (Err TooManyStreams) stream01 (2 ∷ []) (50 ∷ []) ≡ lent
  pub lists-20 : lists_behind (Err (Table (table_fault 2 (byte_length 7)))) stream01 (2 ∷ []) (50 ∷ []) ≡ lent
