-- Each kind of the definition, in its order.
use mathlib.Core.Path.{refl}
use borrow.Author.Tests.{ne_eqb}
use Rattle.leaf_read.specs.Leaves.{content_of}
use Rattle.leaf_read.proofs.content_of.Goals as goal

pub returns-in-17 : goal.returns-in-17
unfolding content_of
returns-in-17 c = rw c.in-17.is refl

pub returns-in-19 : goal.returns-in-19
unfolding content_of
returns-in-19 c = rw c.in-19.is refl

pub returns-in-22 : goal.returns-in-22
unfolding content_of
returns-in-22 c = rw c.in-22.is refl

pub returns-in_default : goal.returns-in_default
unfolding content_of
returns-in_default c = let other = c.in_default.in_default-own.rest in
    rw (ne_eqb _ _ other.0.0.1, ne_eqb _ _ other.0.1, ne_eqb _ _ other.1, content_of) refl
