-- By the number that the slot holds.
use Rattle.std.specs.Prelude.{Err}
use Rattle.std.proofs.lemmas.Result.{err_from_is_err_and}
use mathlib.Core.Path.{ap, ◌∙◌}
use Rattle.slots.proofs.Lengths.{no-length, length-above, length-fits}
use Rattle.slots.proofs.length_of.Goals as goal

pub returns-in_err-n : goal.returns-in_err-n
returns-in_err-n c =
    let given = err_from_is_err_and c.from_residual.result c.from_residual.ensures.1 in
    no-length c.args.content c.number_of.ensures c.in_err-n.was (given.1 ∙ ap Err given.2)

pub returns-then-n-gt-LENGTH_LIMIT : goal.returns-then-n-gt-LENGTH_LIMIT
returns-then-n-gt-LENGTH_LIMIT c = length-above c.args.content c.number_of.ensures _ c.in_ok-n.was c.if-n-gt-LENGTH_LIMIT.true

pub returns : goal.returns
returns c = length-fits c.args.content c.number_of.ensures _ c.in_ok-n.was c.if-n-gt-LENGTH_LIMIT.false
