-- By the role's number.
use Rattle.rules.specs.Faults.{roles, role_of}
use Rattle.listing.proofs.Roles.{magic-did, stream-did, total-did, content-did, ending-did, event-did, silent-did}
use Rattle.listing.proofs.role.apply.Goals as goal

pub returns-in-1 : goal.returns-in-1
unfolding role_of roles
returns-in-1 c = rw (c.in-1.is, c.check_magic.ensures) (magic-did _ _ _ _)

pub returns-in-2 : goal.returns-in-2
unfolding role_of roles
returns-in-2 c = rw (c.in-2.is, c.say.ensures) (stream-did _ _ _ _)

pub returns-in-5 : goal.returns-in-5
unfolding role_of roles
returns-in-5 c = rw (c.in-5.is, c.say-in-5.ensures) (total-did _ _ _ _)

pub returns-in-6 : goal.returns-in-6
unfolding role_of roles
returns-in-6 c = rw (c.in-6.is, c.say-in-6.ensures) (content-did _ _ _ _)

pub returns-in-7 : goal.returns-in-7
unfolding role_of roles
returns-in-7 c = rw c.in-7.is c.tick.ensures

pub returns-in-8 : goal.returns-in-8
unfolding role_of roles
returns-in-8 c = rw (c.in-8.is, c.say-in-8.ensures) (ending-did _ _ _ _)

pub returns-in-11 : goal.returns-in-11
unfolding role_of roles
returns-in-11 c = rw (c.in-11.is, c.say-in-11.ensures) (event-did _ _ _ _)

pub returns-in_default : goal.returns-in_default
returns-in_default c = let ne = c.in_default.in_default-own.rest in
    rw c.on.ensures
    (silent-did _ _ _ _ _ ne.0.0.0.0.0.0.1 ne.0.0.0.0.0.1 ne.0.0.0.0.1 ne.0.0.0.1 ne.0.0.1 ne.0.1 ne.1)
