-- The part that was lent holds one byte all over.
use mathlib.Core.Path.{sym, ap, ◌∙◌}
use Prim.Native.Nat.{◌+◌}
use native.Mathlib.Omega.{arith}
use lib.ListN.{replicate}
use borrow.Rule.Slice.PartMut.{mid_len}
use Rattle.screen_number.specs.Number.{times}
use Rattle.screen_number.proofs.Laid.{part-laid, length-times, times-replicate}
use Rattle.screen_number.proofs.given.put_times.Goals as goal

pub returns-clause-value : goal.returns-clause-value
returns-clause-value c = ap (λ k. c.args.at + k) (sym (length-times c.args.n c.args.b))

pub returns-clause-out_after : goal.returns-clause-out_after
returns-clause-out_after c =
    let a = c.args in
    part-laid a.at _ a.out.now (times a.n a.b) c.fill.new.self
    (c.fill.ensures.after (λ y h. h)
    ∙ ap (λ k. replicate k a.b) (mid_len a.at (a.at + a.n) a.out.now c.requires ∙ omega arith)
    ∙ times-replicate a.n a.b)
    (omega (arith, length-times a.n a.b))
    (omega (arith, c.requires, length-times a.n a.b))
