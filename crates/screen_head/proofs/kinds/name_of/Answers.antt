-- A kind that is in no arm has no word.
use native.Mathlib.Omega.{arith}
use Rattle.facts.proofs.Cases.{◌▷◌}
use Rattle.screen_head.proofs.Words.{wordless}
use Rattle.screen_head.proofs.kinds.name_of.Goals as goal

pub returns-in_default : goal.returns-in_default
returns-in_default c = wordless c.args.kind (
    omega arith ▷ omega arith ▷ omega arith ▷ omega arith ▷ omega arith ▷ omega arith ▷ omega arith ▷ omega arith ▷ omega arith ▷ omega arith
    ▷ omega arith ▷ omega arith ▷ omega arith ▷ omega arith ▷ omega arith ▷ omega arith ▷ omega arith ▷ omega arith ▷ omega arith
    ▷ omega arith ▷ omega arith ▷ omega arith ▷ omega arith ▷ omega arith ▷ omega arith ▷ tt)
