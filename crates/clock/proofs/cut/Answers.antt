-- Cut to so many bits: below 64 by the shifted 1, from 64 on by nothing, since the number is already below 2 ^ 64.
use Rattle.std.proofs.Common.{◌^◌, ◌≤◌, sym, mod-eq_of_lt, arith, pow_pos, pow_mono}
use Rattle.facts.proofs.Numbers.{one_shl}
use Rattle.clock.proofs.cut.Goals as goal

pub nonzero_rem-result : goal.nonzero_rem-result
nonzero_rem-result c = rw (one_shl c.args.width (omega arith)) (pow_pos _)

pub returns-then-is_short : goal.returns-then-is_short
returns-then-is_short c = rw (one_shl c.args.width (omega arith))

pub returns-else-is_short : goal.returns-else-is_short
returns-else-is_short c =
    let turn : 2 ^ 64 ≤ 2 ^ c.args.width = pow_mono {i = 64} {j = c.args.width} (omega arith) in
    sym (mod-eq_of_lt (omega arith))
