-- By the refusal.
use mathlib.Core.Path.{refl}
use Rattle.reader_result.specs.Answer.{refused_with}
use Rattle.rules.specs.Verdict.{refusal_number, refusal_first, refusal_second}
use Rattle.reader_result.proofs.refused.Goals as goal

pub returns-in-StreamSize : goal.returns-in-StreamSize
unfolding refused_with refusal_number refusal_first refusal_second
returns-in-StreamSize c = rw (c.with.ensures, c.in-StreamSize.is) refl

pub returns-in-PastBound : goal.returns-in-PastBound
unfolding refused_with refusal_number refusal_first refusal_second
returns-in-PastBound c = rw (c.with-in-PastBound.ensures, c.in-PastBound.is) refl

pub returns-in-OrderChanged : goal.returns-in-OrderChanged
unfolding refused_with refusal_number refusal_first refusal_second
returns-in-OrderChanged c = rw (c.with-in-OrderChanged.ensures, c.in-OrderChanged.is) refl

pub returns-in-LebTooLarge : goal.returns-in-LebTooLarge
unfolding refused_with refusal_number refusal_first refusal_second
returns-in-LebTooLarge c = rw (c.with-in-LebTooLarge.ensures, c.in-LebTooLarge.is) refl

pub returns-in-NoZeroByte : goal.returns-in-NoZeroByte
unfolding refused_with refusal_number refusal_first refusal_second
returns-in-NoZeroByte c = rw (c.with-in-NoZeroByte.ensures, c.in-NoZeroByte.is) refl

pub returns-in-SlotUnset : goal.returns-in-SlotUnset
unfolding refused_with refusal_number refusal_first refusal_second
returns-in-SlotUnset c = rw (c.with-in-SlotUnset.ensures, c.in-SlotUnset.is) refl

pub returns-in-SlotOfWrongSort : goal.returns-in-SlotOfWrongSort
unfolding refused_with refusal_number refusal_first refusal_second
returns-in-SlotOfWrongSort c = rw (c.with-in-SlotOfWrongSort.ensures, c.in-SlotOfWrongSort.is) refl

pub returns-in-LengthTooLarge : goal.returns-in-LengthTooLarge
unfolding refused_with refusal_number refusal_first refusal_second
returns-in-LengthTooLarge c = rw (c.with-in-LengthTooLarge.ensures, c.in-LengthTooLarge.is) refl

pub returns-in-SelectorInNoOption : goal.returns-in-SelectorInNoOption
unfolding refused_with refusal_number refusal_first refusal_second
returns-in-SelectorInNoOption c = rw (c.with-in-SelectorInNoOption.ensures, c.in-SelectorInNoOption.is) refl

pub returns-in-WrongMagic : goal.returns-in-WrongMagic
unfolding refused_with refusal_number refusal_first refusal_second
returns-in-WrongMagic c = rw (c.with-in-WrongMagic.ensures, c.in-WrongMagic.is) refl

pub returns-in-WrongUuid : goal.returns-in-WrongUuid
unfolding refused_with refusal_number refusal_first refusal_second
returns-in-WrongUuid c = rw (c.with-in-WrongUuid.ensures, c.in-WrongUuid.is) refl

pub returns-in-StreamClassChanged : goal.returns-in-StreamClassChanged
unfolding refused_with refusal_number refusal_first refusal_second
returns-in-StreamClassChanged c = rw (c.with-in-StreamClassChanged.ensures, c.in-StreamClassChanged.is) refl

pub returns-in-StreamClassUnknown : goal.returns-in-StreamClassUnknown
unfolding refused_with refusal_number refusal_first refusal_second
returns-in-StreamClassUnknown c = rw (c.with-in-StreamClassUnknown.ensures, c.in-StreamClassUnknown.is) refl

pub returns-in-LengthsContradict : goal.returns-in-LengthsContradict
unfolding refused_with refusal_number refusal_first refusal_second
returns-in-LengthsContradict c = rw (c.with-in-LengthsContradict.ensures, c.in-LengthsContradict.is) refl

pub returns-in-ClocksContradict : goal.returns-in-ClocksContradict
unfolding refused_with refusal_number refusal_first refusal_second
returns-in-ClocksContradict c = rw (c.with-in-ClocksContradict.ensures, c.in-ClocksContradict.is) refl

pub returns-in-ClockTooLarge : goal.returns-in-ClockTooLarge
unfolding refused_with refusal_number refusal_first refusal_second
returns-in-ClockTooLarge c = rw (c.with-in-ClockTooLarge.ensures, c.in-ClockTooLarge.is) refl

pub returns-in-EventClassUnknown : goal.returns-in-EventClassUnknown
unfolding refused_with refusal_number refusal_first refusal_second
returns-in-EventClassUnknown c = rw (c.with-in-EventClassUnknown.ensures, c.in-EventClassUnknown.is) refl

pub returns-in-EventTookNoBits : goal.returns-in-EventTookNoBits
unfolding refused_with refusal_number refusal_first refusal_second
returns-in-EventTookNoBits c = rw (c.with-in-EventTookNoBits.ensures, c.in-EventTookNoBits.is) refl

pub returns-in-ClockWentBack : goal.returns-in-ClockWentBack
unfolding refused_with refusal_number refusal_first refusal_second
returns-in-ClockWentBack c = rw (c.with-in-ClockWentBack.ensures, c.in-ClockWentBack.is) refl

pub returns-in-ListFull : goal.returns-in-ListFull
unfolding refused_with refusal_number refusal_first refusal_second
returns-in-ListFull c = rw (c.with-in-ListFull.ensures, c.in-ListFull.is) refl

pub returns-in-NotText : goal.returns-in-NotText
unfolding refused_with refusal_number refusal_first refusal_second
returns-in-NotText c = rw (c.with-in-NotText.ensures, c.in-NotText.is) refl
