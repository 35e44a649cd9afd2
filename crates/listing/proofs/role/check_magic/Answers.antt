-- By the number.
use mathlib.Core.Path.{refl}
use borrow.Author.Tests.{eq-eqb, ne_eqb}
use Rattle.listing.specs.Roled.{magic_done}
use Rattle.listing.proofs.role.check_magic.Goals as goal

pub returns-then-value-eq-MAGIC_NUMBER : goal.returns-then-value-eq-MAGIC_NUMBER
unfolding magic_done
returns-then-value-eq-MAGIC_NUMBER c = rw (c.on.ensures, eq-eqb _ _ c.if-value-eq-MAGIC_NUMBER.true, magic_done) refl

pub returns : goal.returns
unfolding magic_done
returns c = rw (c.stopped.ensures, ne_eqb _ _ c.if-value-eq-MAGIC_NUMBER.false, magic_done) refl
