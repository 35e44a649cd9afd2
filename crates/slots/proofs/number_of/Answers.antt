-- By what the slot holds, and then by the sign's byte.
use mathlib.Core.Path.{refl}
use Rattle.slots.specs.Taken.{number_of}
use Rattle.slots.proofs.Signs.{unsigned-of-plain, unsigned-of-signed, signed-of-plain, signed-of-signed}
use Rattle.slots.proofs.number_of.Goals as goal

pub returns-then-sign-eq-UNSIGNED : goal.returns-then-sign-eq-UNSIGNED
returns-then-sign-eq-UNSIGNED c = rw c.in-Unsigned.is (unsigned-of-plain _ _ c.if-sign-eq-UNSIGNED.true)

pub returns-then-sign-eq-UNSIGNED-2 : goal.returns-then-sign-eq-UNSIGNED-2
returns-then-sign-eq-UNSIGNED-2 c = rw c.in-Signed.is (signed-of-plain _ _ c.if-sign-eq-UNSIGNED-2.true)

pub returns-in-Unset : goal.returns-in-Unset
unfolding number_of
returns-in-Unset c = rw c.in-Unset.is refl

pub returns-in-Flag : goal.returns-in-Flag
unfolding number_of
returns-in-Flag c = rw c.in-Flag.is refl

pub returns-else-sign-eq-UNSIGNED : goal.returns-else-sign-eq-UNSIGNED
returns-else-sign-eq-UNSIGNED c = rw c.in-Unsigned.is (unsigned-of-signed _ _ c.if-sign-eq-UNSIGNED.false)

pub returns-else-sign-eq-UNSIGNED-2 : goal.returns-else-sign-eq-UNSIGNED-2
returns-else-sign-eq-UNSIGNED-2 c = rw c.in-Signed.is (signed-of-signed _ _ c.if-sign-eq-UNSIGNED-2.false)
