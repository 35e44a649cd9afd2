-- So many turns are added up.
use mathlib.Core.Path.{◌≡◌}
use native.Mathlib.Omega.{arith}
use Rattle.screen_meaning.proofs.Turns.{turn-over, turn_on, turn-none, ten-whole, ten-left}
use Rattle.screen_meaning.proofs.seconds.tenfold.Goals.{then-lacking-left, else-lacking-left}
use Rattle.screen_meaning.proofs.seconds.tenfold.Goals as goal

pub overflow_sub-lacking : goal.overflow_sub-lacking
overflow_sub-lacking c = omega arith

pub loop-turn-init : goal.loop-turn-init
loop-turn-init c = (turn-none c.args.frequency c.args.part c.requires, omega arith)

pub overflow_add-whole : goal.overflow_add-whole
overflow_add-whole c = omega (arith, c.loop-turn.invariant.0.few, c.loop-turn.invariant.1)

pub overflow_add-left : goal.overflow_add-left
overflow_add-left c = omega arith

pub loop-turn-preserved : goal.loop-turn-preserved
loop-turn-preserved c =
    let a = c.args in
    let at = c.loop-turn in (
      elim c.if-lacking-left.branch [
        | then-lacking-left y ↦
            turn-over a.frequency a.part at.whole at.left at._turn _ _ c.requires at.invariant.0 y.if-lacking-left.true y.whole-is y.left-is
        | else-lacking-left y ↦
            turn_on a.frequency a.part at.whole at.left at._turn _ _ c.requires at.invariant.0 y.if-lacking-left.false y.whole-is y.left-is
      ],
      omega (arith, c.loop-turn-test.true),
    )

pub returns : goal.returns
returns c =
    let a = c.args in
    let at = c.loop-turn in
    let ten : at._turn ≡ 10 = omega (arith, c.loop-turn-test.false, at.invariant.1) in (
      ten-whole a.frequency a.part at.whole at.left at._turn at.invariant.0 ten,
      ten-left a.frequency a.part
          at.whole at.left at._turn at.invariant.0 ten,
    )
