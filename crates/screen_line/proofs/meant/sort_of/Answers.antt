-- A kind that is in no arm has nothing behind its numbers.
use native.Mathlib.Omega.{arith}
use Rattle.facts.proofs.Cases.{◌▷◌}
use Rattle.screen_line.proofs.Sorted.{sortless}
use Rattle.screen_line.proofs.meant.sort_of.Goals as goal

pub returns-in_default : goal.returns-in_default
returns-in_default c = sortless c.args.kind (
    omega arith ▷ omega arith ▷ omega arith ▷ omega arith ▷ omega arith ▷ omega arith ▷ omega arith ▷ omega arith ▷ tt)
