-- As the clock by numbers says.
use borrow.Author.Tests.{not-true, not-false}
use Rattle.listing.proofs.Roles.{clock-held, clock-advanced}
use Rattle.listing.proofs.role.tick.Goals as goal

pub returns-then-not-a : goal.returns-then-not-a
returns-then-not-a c =
    let a = c.advance-a in
    rw c.stopped.ensures (clock-held _ _ _ _ _ _ a.ensures.0 a.ensures.1 (not-true _ c.if-not-a.true))

pub returns : goal.returns
returns c =
    let a = c.advance-a in
    (clock-advanced _ _ _ _ _ _ a.ensures.0 a.ensures.1 (not-false _ c.if-not-a.false))
