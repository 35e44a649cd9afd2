-- Numbers that fit their words of 64 bits.
use Rattle.std.specs.Prelude.{ℕ, ◌^◌, ◌<◌, List, [], ◌∷◌}
use Rattle.rules.specs.Read.{Reading}
use Rattle.rules.specs.declared.Entry.{Entry}
use Rattle.rules.specs.declared.Refusal.{Refusal}
use Rattle.rules.specs.declared.Refusal.TheVariants.{StreamSize, PastBound, OrderChanged, LebTooLarge, NoZeroByte, SlotUnset}
use Rattle.rules.specs.declared.Refusal.TheVariants.{SlotOfWrongSort, LengthTooLarge, SelectorInNoOption, WrongMagic, WrongUuid}
use Rattle.rules.specs.declared.Refusal.TheVariants.{StreamClassChanged, StreamClassUnknown, LengthsContradict, ClocksContradict}
use Rattle.rules.specs.declared.Refusal.TheVariants.{ClockTooLarge, EventClassUnknown, EventTookNoBits, ClockWentBack, ListFull, NotText}
use Rattle.rules.specs.declared.Stop.{Stop}
use Rattle.rules.specs.declared.Verdict.{Verdict}
use Rattle.rules.specs.declared.Verdict.TheVariants.{Accepted, TableRefused, Refused}
use Rattle.laws.specs.All.{All}

abbrev pub Word : ℕ → Type 0
Word n = n < 2 ^ 64

abbrev pub AllWords : List ℕ → Type 0
AllWords [] = Unit {0}
AllWords (n ∷ l) = Word n × AllWords l

-- the words of an entry, and a verdict's place and ids
abbrev pub WordEntry : Entry → Type 0
WordEntry x = Word x.kind × Word x.place.0 × Word x.bits × Word x.value × Word x.number

abbrev pub WordIds : Refusal → Type 0
WordIds StreamSize = Unit {0}
WordIds PastBound = Unit {0}
WordIds OrderChanged = Unit {0}
WordIds LebTooLarge = Unit {0}
WordIds NoZeroByte = Unit {0}
WordIds SlotUnset = Unit {0}
WordIds SlotOfWrongSort = Unit {0}
WordIds LengthTooLarge = Unit {0}
WordIds SelectorInNoOption = Unit {0}
WordIds WrongMagic = Unit {0}
WordIds WrongUuid = Unit {0}
WordIds StreamClassChanged = Unit {0}
WordIds (StreamClassUnknown i) = Word i
WordIds LengthsContradict = Unit {0}
WordIds ClocksContradict = Unit {0}
WordIds ClockTooLarge = Unit {0}
WordIds (EventClassUnknown i j) = Word i × Word j
WordIds EventTookNoBits = Unit {0}
WordIds ClockWentBack = Unit {0}
WordIds ListFull = Unit {0}
WordIds NotText = Unit {0}

abbrev pub WordStop : Stop → Type 0
WordStop v = Word v.place.0 × WordIds v.why

abbrev pub WordVerdict : Verdict → Type 0
WordVerdict (Accepted p) = Word p.0
WordVerdict (TableRefused n b) = Word n × Word b.0
WordVerdict (Refused v) = WordStop v

abbrev pub WordReading : Reading → Type 0
WordReading r = All WordEntry r.entries × WordVerdict r.verdict
