-- By its kind.
use native.Mathlib.Omega.{arith}
use Rattle.rules.specs.Record.{u8}
use Rattle.bundle_table.specs.Kept.{marked}
use Rattle.bundle_table.proofs.One.{marked-stood, other-stood}
use Rattle.bundle_table.proofs.stays.Goals as goal

pub returns-in-4 : goal.returns-in-4
unfolding u8 marked
returns-in-4 c = marked-stood _ _ _ (omega arith) (omega arith)

pub returns-in_default : goal.returns-in_default
unfolding u8
returns-in_default c = other-stood _ _ _ (λ e. omega arith) (λ e. omega arith)

pub returns-in_default-2 : goal.returns-in_default-2
unfolding u8
returns-in_default-2 c = other-stood _ _ _ (λ e. omega arith) (λ e. omega arith)
