-- A blank, and the number at the right end.
use native.Mathlib.Omega.{arith}
use lib.ListN.{set, length-set}
use Prim.Native.Nat.{◌+◌}
use Rattle.screen_number.specs.Number.{blank, decimal, right}
use Rattle.screen_number.proofs.Laid.{laid, then, shown-as, one_byte}
use Rattle.screen_head.proofs.Columns.{right-room, column-is}
use Rattle.screen_head.proofs.put_column.Goals as goal

pub put_right-requires : goal.put_right-requires
put_right-requires c =
    omega (arith, c.requires, length-set c.args.out.now c.args.at blank, right-room c.args.width c.args.n c.requires.width_bound)

pub returns : goal.returns
returns c =
    let a = c.args in
    let put = c.put_right in
    let all = shown-as
    (then
    (one_byte a.out.now a.at blank)
    (laid (set a.out.now a.at blank) put.new.out (a.at + 1) put.result (right a.width (decimal a.n))
    (put.ensures.value, put.ensures.out_after)))
    (column-is a.width (decimal a.n)) in
    record { value = all.end; out_after = all.list }
