-- The part that was lent holds what is given.
use native.Mathlib.Omega.{arith}
use Rattle.screen_number.proofs.Laid.{part-laid}
use Rattle.screen_number.proofs.given.put_bytes.Goals as goal

pub returns-clause-out_after : goal.returns-clause-out_after
returns-clause-out_after c =
    let a = c.args in
    part-laid a.at _ a.out.now a.given.now c.copy_from_slice.new.self c.copy_from_slice.ensures.after (omega arith) c.requires
