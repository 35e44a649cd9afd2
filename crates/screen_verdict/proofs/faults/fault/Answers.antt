-- A number that is in no arm has no words.
use native.Mathlib.Omega.{arith}
use Rattle.facts.proofs.Cases.{◌▷◌}
use Rattle.screen_verdict.specs.Sentences.{sentences}
use Rattle.screen_verdict.proofs.Sentences.{faultless}
use Rattle.screen_verdict.proofs.faults.fault.Goals as goal

pub returns-in_default : goal.returns-in_default
unfolding sentences
returns-in_default c = faultless c.args.number (
    omega arith ▷ omega arith ▷ omega arith ▷ omega arith ▷ omega arith ▷ omega arith ▷ omega arith ▷ omega arith ▷ omega arith
    ▷ omega arith ▷ omega arith ▷ omega arith ▷ omega arith ▷ omega arith ▷ omega arith ▷ tt)
