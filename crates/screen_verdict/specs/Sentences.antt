-- The papers' numbers in words.
use Rattle.std.specs.Prelude.{ℕ, ◌-◌, List, [], ◌∷◌, ◌++◌, true, false, get_or, eqb}
use Rattle.screen_number.specs.Number.{bytes, decimal}

unfoldable pub no_words : List ℕ
no_words = bytes "no number of the paper"

-- what is wrong with a table, by its number from 0 ("Refusing a table")
unfoldable pub faults : List (List ℕ)
faults =
    no_words
    ∷ bytes "the table is empty, or has more than 65,536 bytes"
    ∷ bytes "this kind of record is unknown"
    ∷ bytes "the table ends inside this record, or before one that was announced"
    ∷ bytes "the first record is no preamble, or this is a second one"
    ∷ bytes "the version is not 2"
    ∷ bytes "this trace class stands after a stream class, or is a second one"
    ∷ bytes "this clock id, stream class id or pair of event ids was used before"
    ∷ bytes "the clock or stream class that is named here does not stand earlier"
    ∷ bytes "this kind is not allowed here, or this root is foreign, repeated or out of turn"
    ∷ bytes "a number is outside its range"
    ∷ bytes "a slot is named that is not allowed here, or is set both inside an array element and outside it"
    ∷ bytes "a role is given that is not allowed here"
    ∷ bytes "a range has low above high, signs are mixed, or the ranges of two options meet"
    ∷ bytes "this class stands at depth 9"
    ∷ bytes "there are more than 512 clock, stream and event classes"
    ∷ []

unfoldable pub fault : ℕ → List ℕ
fault n = get_or faults n no_words

-- why a reading was refused, by its number from 20 ("Refusing a stream"); 20, 22, 33 and 37 name numbers, and stand below
unfoldable pub plain_reasons : List (List ℕ)
plain_reasons =
    no_words
    ∷ bytes "the stream is empty, or has more than 536,870,911 bytes"
    ∷ no_words
    ∷ bytes "the byte order changes off a byte boundary"
    ∷ bytes "a LEB128 number is too long or too large at its tenth byte"
    ∷ bytes "there is no zero byte before the bound"
    ∷ bytes "a slot is read that no field has set, or only one in an array element that is over"
    ∷ bytes "a slot is read that is of the wrong sort"
    ∷ bytes "a length is above 65,535"
    ∷ bytes "the selector is in no option"
    ∷ bytes "the magic number is wrong"
    ∷ bytes "the UUID is wrong"
    ∷ bytes "the stream class is not the first packet's"
    ∷ no_words
    ∷ bytes "the packet's lengths contradict each other, the stream or the context"
    ∷ bytes "the packet's start clock is above its end clock"
    ∷ bytes "the clock needs more than 64 bits"
    ∷ no_words
    ∷ bytes "the event took no bits"
    ∷ bytes "the clock is below the previous event's"
    ∷ bytes "the list is full"
    ∷ bytes "the string behind the last entry is not UTF-8 text"
    ∷ []

unfoldable pub plain_reason : ℕ → List ℕ
plain_reason n = get_or plain_reasons (n - 20) no_words

-- One name for these, to compute with them: `unfolding sentences` opens them all
unfoldable pub sentences : ℕ
unfolding bytes no_words faults fault plain_reasons plain_reason
sentences = 0

-- those that name numbers: the table's fault; the bound; ids
unfoldable pub table_refused : ℕ → List ℕ
table_refused i = bytes "the table is refused by " ++ decimal i ++ bytes ": " ++ fault i

unfoldable pub bound_crossed : ℕ → List ℕ
bound_crossed p = bytes "the field behind the last entry crosses the bound at bit " ++ decimal p

unfoldable pub no_stream_class : ℕ → List ℕ
no_stream_class i = bytes "the table has no stream class " ++ decimal i

unfoldable pub no_event_class : ℕ → ℕ → List ℕ
no_event_class i j = bytes "the table has no event class " ++ decimal j ++ bytes " in stream class " ++ decimal i

-- why a reading was refused, with the place and the two ids of its result
unfoldable pub reason : ℕ → ℕ → ℕ → ℕ → List ℕ
reason n p i j =
    elim (eqb n 20) [
      | true ↦ table_refused i
      | false ↦
          elim (eqb n 22) [
            | true ↦ bound_crossed p
            | false ↦
                elim (eqb n 33) [
                  | true ↦ no_stream_class i
                  | false ↦ elim (eqb n 37) [ true ↦ no_event_class i j | false ↦ plain_reason n ]
                ]
          ]
    ]
