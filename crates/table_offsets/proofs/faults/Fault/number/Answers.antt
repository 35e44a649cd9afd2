-- By case: both are told in the papers' order.
use mathlib.Core.Path.{◌≡◌, refl}
use Prim.Native.Nat.{◌+◌}
use denote.Enum.Declared.{tag_of}
use Rattle.table_offsets.specs.declared.faults.Fault.{Fault}
use Rattle.table_offsets.specs.declared.faults.Fault.TheVariants.{BadSize, UnknownKind, CutShort, PreambleMisplaced, WrongVersion}
use Rattle.table_offsets.specs.declared.faults.Fault.TheVariants.{TraceClassMisplaced, IdUsed, IdUnknown, KindNotAllowed, NumberOutOfRange}
use Rattle.table_offsets.specs.declared.faults.Fault.TheVariants.{SlotNotAllowed, RoleNotAllowed, RangesContradict, TooDeep}
use Rattle.table_offsets.specs.declared.faults.Fault.TheVariants.{TooManyFragments}
use Rattle.table_offsets.specs.Faults.{number}
use Rattle.table_offsets.specs.contracts.faults.Fault.{the_type}
use Rattle.table_offsets.proofs.faults.Fault.number.Goals as goal

by_case : (f : Fault) → tag_of the_type f + 1 ≡ number f
unfolding number
by_case BadSize = refl
by_case UnknownKind = refl
by_case CutShort = refl
by_case PreambleMisplaced = refl
by_case WrongVersion = refl
by_case TraceClassMisplaced = refl
by_case IdUsed = refl
by_case IdUnknown = refl
by_case KindNotAllowed = refl
by_case NumberOutOfRange = refl
by_case SlotNotAllowed = refl
by_case RoleNotAllowed = refl
by_case RangesContradict = refl
by_case TooDeep = refl
by_case TooManyFragments = refl

pub returns : goal.returns
returns c = by_case c.args.self
