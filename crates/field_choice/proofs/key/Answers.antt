-- By the sign's byte.
use Rattle.field_choice.proofs.Keys.{key-plain, key-signed}
use Rattle.field_choice.proofs.key.Goals as goal

pub returns-then-sign-eq-UNSIGNED : goal.returns-then-sign-eq-UNSIGNED
returns-then-sign-eq-UNSIGNED c = key-plain _ _ c.if-sign-eq-UNSIGNED.true

pub returns : goal.returns
returns c = key-signed _ _ c.if-sign-eq-UNSIGNED.false
