-- How a reading ends, in document 01's numbers: "Result: number (0 accepted), entries, place, two ids." (Refusing a stream)
use Rattle.std.specs.Prelude.{ℕ}
use Rattle.rules.specs.declared.Refusal.{Refusal}
use Rattle.rules.specs.declared.Refusal.TheVariants.{StreamSize, PastBound, OrderChanged, LebTooLarge, NoZeroByte, SlotUnset}
use Rattle.rules.specs.declared.Refusal.TheVariants.{SlotOfWrongSort, LengthTooLarge, SelectorInNoOption, WrongMagic, WrongUuid}
use Rattle.rules.specs.declared.Refusal.TheVariants.{StreamClassChanged, StreamClassUnknown, LengthsContradict, ClocksContradict}
use Rattle.rules.specs.declared.Refusal.TheVariants.{ClockTooLarge, EventClassUnknown, EventTookNoBits, ClockWentBack, ListFull, NotText}
use Rattle.rules.specs.declared.BitPlace.{BitPlace}
use Rattle.rules.specs.declared.ByteLength.{ByteLength}
use Rattle.rules.specs.declared.Stop.{Stop}
use Rattle.rules.specs.declared.TableFault.{TableFault}
use Rattle.rules.specs.declared.Verdict.{Verdict}
use Rattle.rules.specs.declared.Verdict.TheVariants.{Accepted, TableRefused, Refused}

abbrev pub stop_at : Refusal → BitPlace → Stop
stop_at r p = record { why = r; place = p }

abbrev pub table_fault : ℕ → ByteLength → TableFault
table_fault n b = record { number = n; byte = b }

unfoldable pub refusal_number : Refusal → ℕ
refusal_number StreamSize = 21
refusal_number PastBound = 22
refusal_number OrderChanged = 23
refusal_number LebTooLarge = 24
refusal_number NoZeroByte = 25
refusal_number SlotUnset = 26
refusal_number SlotOfWrongSort = 27
refusal_number LengthTooLarge = 28
refusal_number SelectorInNoOption = 29
refusal_number WrongMagic = 30
refusal_number WrongUuid = 31
refusal_number StreamClassChanged = 32
refusal_number (StreamClassUnknown i) = 33
refusal_number LengthsContradict = 34
refusal_number ClocksContradict = 35
refusal_number ClockTooLarge = 36
refusal_number (EventClassUnknown i j) = 37
refusal_number EventTookNoBits = 38
refusal_number ClockWentBack = 39
refusal_number ListFull = 40
refusal_number NotText = 41

-- "Ids are 0 elsewhere."
unfoldable pub refusal_first : Refusal → ℕ
refusal_first StreamSize = 0
refusal_first PastBound = 0
refusal_first OrderChanged = 0
refusal_first LebTooLarge = 0
refusal_first NoZeroByte = 0
refusal_first SlotUnset = 0
refusal_first SlotOfWrongSort = 0
refusal_first LengthTooLarge = 0
refusal_first SelectorInNoOption = 0
refusal_first WrongMagic = 0
refusal_first WrongUuid = 0
refusal_first StreamClassChanged = 0
refusal_first (StreamClassUnknown i) = i
refusal_first LengthsContradict = 0
refusal_first ClocksContradict = 0
refusal_first ClockTooLarge = 0
refusal_first (EventClassUnknown i j) = i
refusal_first EventTookNoBits = 0
refusal_first ClockWentBack = 0
refusal_first ListFull = 0
refusal_first NotText = 0

unfoldable pub refusal_second : Refusal → ℕ
refusal_second StreamSize = 0
refusal_second PastBound = 0
refusal_second OrderChanged = 0
refusal_second LebTooLarge = 0
refusal_second NoZeroByte = 0
refusal_second SlotUnset = 0
refusal_second SlotOfWrongSort = 0
refusal_second LengthTooLarge = 0
refusal_second SelectorInNoOption = 0
refusal_second WrongMagic = 0
refusal_second WrongUuid = 0
refusal_second StreamClassChanged = 0
refusal_second (StreamClassUnknown i) = 0
refusal_second LengthsContradict = 0
refusal_second ClocksContradict = 0
refusal_second ClockTooLarge = 0
refusal_second (EventClassUnknown i j) = j
refusal_second EventTookNoBits = 0
refusal_second ClockWentBack = 0
refusal_second ListFull = 0
refusal_second NotText = 0

-- "20: table refused; first id is its number, place its byte"
unfoldable pub number_of : Verdict → ℕ
number_of (Accepted p) = 0
number_of (TableRefused n b) = 20
number_of (Refused v) = refusal_number v.why

unfoldable pub place_of : Verdict → ℕ
place_of (Accepted p) = p.0
place_of (TableRefused n b) = b.0
place_of (Refused v) = v.place.0

unfoldable pub first_of : Verdict → ℕ
first_of (Accepted p) = 0
first_of (TableRefused n b) = n
first_of (Refused v) = refusal_first v.why

unfoldable pub second_of : Verdict → ℕ
second_of (Accepted p) = 0
second_of (TableRefused n b) = 0
second_of (Refused v) = refusal_second v.why
