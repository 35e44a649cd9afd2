-- The ranges stand behind the option, as many as it says.
use Rattle.std.proofs.Common.{◌∙◌, arith}
use Rattle.table_offsets.specs.Check.{meets_option}
use Rattle.check_ranges.proofs.meets_option.Goals as goal

pub overflow_add-o : goal.overflow_add-o
overflow_add-o c = omega (arith, c.requires)

pub overflow_add-o-2 : goal.overflow_add-o-2
overflow_add-o-2 c = omega (arith, c.requires)

pub meets_one-requires : goal.meets_one-requires
meets_one-requires c = omega (arith, c.wide.ensures.1)

pub returns : goal.returns
unfolding meets_option
returns c = c.meets_one.ensures ∙ simp (c.wide.ensures.0, c.byte.ensures)
