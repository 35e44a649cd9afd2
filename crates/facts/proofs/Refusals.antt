-- The numbers of refusals: each is one of the papers', 21 to 41.
use Prim.Native.Nat.{◌≤◌}
use native.Mathlib.Omega.{arith}
use Rattle.rules.specs.declared.Refusal.{Refusal}
use Rattle.rules.specs.declared.Refusal.TheVariants.{StreamSize, PastBound, OrderChanged, LebTooLarge, NoZeroByte, SlotUnset}
use Rattle.rules.specs.declared.Refusal.TheVariants.{SlotOfWrongSort, LengthTooLarge, SelectorInNoOption, WrongMagic, WrongUuid}
use Rattle.rules.specs.declared.Refusal.TheVariants.{StreamClassChanged, StreamClassUnknown, LengthsContradict, ClocksContradict}
use Rattle.rules.specs.declared.Refusal.TheVariants.{ClockTooLarge, EventClassUnknown, EventTookNoBits, ClockWentBack, ListFull, NotText}
use Rattle.rules.specs.Verdict.{refusal_number}

pub refusal_number-bounds : (r : Refusal) → (21 ≤ refusal_number r) × (refusal_number r ≤ 41)
unfolding refusal_number
refusal_number-bounds StreamSize = omega arith
refusal_number-bounds PastBound = omega arith
refusal_number-bounds OrderChanged = omega arith
refusal_number-bounds LebTooLarge = omega arith
refusal_number-bounds NoZeroByte = omega arith
refusal_number-bounds SlotUnset = omega arith
refusal_number-bounds SlotOfWrongSort = omega arith
refusal_number-bounds LengthTooLarge = omega arith
refusal_number-bounds SelectorInNoOption = omega arith
refusal_number-bounds WrongMagic = omega arith
refusal_number-bounds WrongUuid = omega arith
refusal_number-bounds StreamClassChanged = omega arith
refusal_number-bounds (StreamClassUnknown i) = omega arith
refusal_number-bounds LengthsContradict = omega arith
refusal_number-bounds ClocksContradict = omega arith
refusal_number-bounds ClockTooLarge = omega arith
refusal_number-bounds (EventClassUnknown i j) = omega arith
refusal_number-bounds EventTookNoBits = omega arith
refusal_number-bounds ClockWentBack = omega arith
refusal_number-bounds ListFull = omega arith
refusal_number-bounds NotText = omega arith
