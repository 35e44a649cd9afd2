-- What a slot's content is as a length, and as a number of a sign.
use Rattle.rules.specs.declared.Refusal.{Refusal}
use Rattle.std.specs.Prelude.{ℕ, true, false, ltb, Result, Ok, Err}
use Rattle.rules.specs.declared.Content.{Content}
use Rattle.rules.specs.declared.Content.TheVariants.{Unset, Flag, Unsigned, Signed}
use Rattle.rules.specs.declared.Refusal.TheVariants.{SlotUnset, SlotOfWrongSort, LengthTooLarge}
use Rattle.rules.specs.Limits.{length_limit}
use Rattle.rules.specs.Class.{Sign, plain, signed}

-- "A length needs an unsigned number"; "length above 65,535" (28)
unfoldable pub length_of : Content → Result ℕ Refusal
length_of Unset = Err SlotUnset
length_of (Flag b) = Err SlotOfWrongSort
length_of (Unsigned n) = elim (ltb length_limit n) [ true ↦ Err LengthTooLarge | false ↦ Ok n ]
length_of (Signed n) = Err SlotOfWrongSort

-- "slot unset; of the wrong sort" (26, 27): "with ranges, a number of their sign, as a variant does"
unfoldable pub number_of : Sign → Content → Result ℕ Refusal
number_of g Unset = Err SlotUnset
number_of g (Flag b) = Err SlotOfWrongSort
number_of plain (Unsigned n) = Ok n
number_of signed (Unsigned n) = Err SlotOfWrongSort
number_of plain (Signed n) = Err SlotOfWrongSort
number_of signed (Signed n) = Ok n
