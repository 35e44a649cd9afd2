-- The code's faults by their numbers, and its walks as the definition has them.
use Rattle.std.specs.Prelude.{ℕ, ⊤, Result, Ok, Err}
use Rattle.rules.specs.Faults.{bad_size, unknown_kind, cut_short, preamble_misplaced, wrong_version, trace_class_misplaced, id_used}
use Rattle.rules.specs.Faults.{id_unknown}
use Rattle.rules.specs.Faults.{kind_not_allowed, number_out_of_range, slot_not_allowed, role_not_allowed, ranges_contradict, too_deep}
use Rattle.rules.specs.Faults.{too_many_fragments}
use Rattle.table_offsets.specs.declared.faults.Fault.{Fault}
use Rattle.table_offsets.specs.declared.faults.Fault.TheVariants.{BadSize, UnknownKind, CutShort, PreambleMisplaced, WrongVersion}
use Rattle.table_offsets.specs.declared.faults.Fault.TheVariants.{TraceClassMisplaced, IdUsed, IdUnknown, KindNotAllowed, NumberOutOfRange}
use Rattle.table_offsets.specs.declared.faults.Fault.TheVariants.{SlotNotAllowed, RoleNotAllowed, RangesContradict, TooDeep}
use Rattle.table_offsets.specs.declared.faults.Fault.TheVariants.{TooManyFragments}
use Rattle.table_offsets.specs.declared.faults.FaultAt.{FaultAt}
use Rattle.table_offsets.specs.Walks.{Walk, Fine, Bad}

unfoldable pub number : Fault → ℕ
number BadSize = bad_size
number UnknownKind = unknown_kind
number CutShort = cut_short
number PreambleMisplaced = preamble_misplaced
number WrongVersion = wrong_version
number TraceClassMisplaced = trace_class_misplaced
number IdUsed = id_used
number IdUnknown = id_unknown
number KindNotAllowed = kind_not_allowed
number NumberOutOfRange = number_out_of_range
number SlotNotAllowed = slot_not_allowed
number RoleNotAllowed = role_not_allowed
number RangesContradict = ranges_contradict
number TooDeep = too_deep
number TooManyFragments = too_many_fragments

-- a test's number, 0 where it finds nothing
unfoldable pub fault_number : Result ⊤ Fault → ℕ
fault_number (Ok x) = 0
fault_number (Err f) = number f

unfoldable pub walk : Result ℕ FaultAt → Walk
walk (Ok e) = Fine e
walk (Err f) = Bad (number f.fault) f.byte
