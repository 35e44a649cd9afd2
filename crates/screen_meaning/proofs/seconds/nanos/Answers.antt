-- So many digits are found.
use native.Mathlib.Omega.{arith}
use Rattle.screen_meaning.proofs.Turns.{cut-more}
use Rattle.screen_meaning.proofs.seconds.nanos.Goals as goal

pub loop-digit-preserved : goal.loop-digit-preserved
loop-digit-preserved c =
    let a = c.args in
    let at = c.loop-digit in (
      cut-more a.frequency a.part at.left at.found at._digit c.tenfold-next.result.whole
          c.tenfold-next.result.left at.invariant.0 c.tenfold-next.ensures.0 c.tenfold-next.ensures.1,
      omega (arith, c.loop-digit-test.true),
    )
