-- What is promised of a line.
use Rattle.std.specs.Prelude.{ℕ, ◌≡◌, List}
use Rattle.screen_number.specs.Safe.{SafeLine}
use Rattle.screen_head.specs.Head.{Five}
use Rattle.screen_head.specs.Told.{told_words, Words64, words_of}
use Rattle.screen_verdict.specs.Told.{status_in}
use Rattle.screen_line.specs.Line.{line}
use Rattle.screen_line.specs.Pieces.{pieces, joined}

-- its pieces, one behind the other, are the line
abbrev pub LineJoined : Type 0
LineJoined = (s : List ℕ) (f : ℕ) (e : Five) → joined s f e (pieces s e) ≡ line s f e

-- from a line the entry's five words are told, whatever the stream holds and whatever the clock's frequency
abbrev pub LineTold : Type 0
LineTold = (s : List ℕ) (f : ℕ) (e : Five) → Words64 e → told_words (line s f e) ≡ words_of e

-- so two entries that print alike are the same
abbrev pub NoTwoAlike : Type 0
NoTwoAlike =
    (s s' : List ℕ) (f f' : ℕ) (e e' : Five) → Words64 e → Words64 e' → line s f e ≡ line s' f' e' → words_of e ≡ words_of e'

-- no byte of a trace reaches the terminal that could steer it: the line's end is the last byte and the only one below 32, no byte is 127,
-- and no C2 stands right before 80 to 9F, whatever the stream holds
abbrev pub LineSafe : Type 0
LineSafe = (s : List ℕ) (f : ℕ) (e : Five) → SafeLine (line s f e)

-- no entry's line begins as a verdict's does, so that a listing which was cut is never taken for a whole one
abbrev pub NotAVerdict : Type 0
NotAVerdict = (s : List ℕ) (f : ℕ) (e : Five) → status_in (line s f e) ≡ 2
