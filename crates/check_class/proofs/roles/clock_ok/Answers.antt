-- By root.
use native.Mathlib.Omega.{arith}
use borrow.Author.Tests.{ne_eqb}
use Rattle.table_offsets.specs.Check.{clock_ok, pick_b}
use Rattle.check_class.proofs.roles.clock_ok.Goals as goal

pub returns-in-1 : goal.returns-in-1
unfolding clock_ok pick_b
returns-in-1 c = simp c.in-1.is

pub returns-in-2 : goal.returns-in-2
unfolding clock_ok pick_b
returns-in-2 c = simp c.in-2.is

pub returns-in_default : goal.returns-in_default
unfolding clock_ok pick_b
returns-in_default c = simp (ne_eqb c.args.root 1 (omega arith), ne_eqb c.args.root 2 (omega arith))
