-- By the two orders.
use borrow.Author.Rules.{rules}
use Rattle.leaf_find_number.proofs.differs.Goals as goal
use Rattle.leaf_find_number.proofs.differs.Lts as lts
use Rattle.leaf_find_number.proofs.differs.Reads as reads

-- Places of the code: there was an order; it was little; it was big

abbrev AtLast : Type 0
AtLast = lts.Past-After-known_told reads.Pre reads.Post

abbrev AtLittle : Type 0
AtLittle = lts.Past-After-enum_told2 reads.Pre reads.Post

abbrev AtBig : Type 0
AtBig = lts.Past-After-enum_told5 reads.Pre reads.Post

-- The way back from the two orders

abbrev was-little : AtLittle → AtLast
was-little c = c.before

abbrev was-big : AtBig → AtLast
was-big c = c.before

-- The needs

pub returns-in-None : goal.returns-in-None
unfolding Rattle.rules.specs.Field.other_order
returns-in-None c = simp c.in-None.is

pub returns-in-Little-order : goal.returns-in-Little-order
unfolding Rattle.rules.specs.Field.other_order
returns-in-Little-order c =
    let was = c.before in
    simp (was.in-Some.is, was.in-Little.is, c.in-Little-order.is)

pub returns-in-Big-order : goal.returns-in-Big-order
unfolding Rattle.rules.specs.Field.other_order
returns-in-Big-order c =
    let was = c.before in
    simp (was.in-Some.is, was.in-Little.is, c.in-Big-order.is)

pub returns-in-Little-order-2 : goal.returns-in-Little-order-2
unfolding Rattle.rules.specs.Field.other_order
returns-in-Little-order-2 c =
    let was = c.before in
    simp (was.in-Some.is, was.in-Big.is, c.in-Little-order-2.is)

pub returns-in-Big-order-2 : goal.returns-in-Big-order-2
unfolding Rattle.rules.specs.Field.other_order
returns-in-Big-order-2 c =
    let was = c.before in
    simp (was.in-Some.is, was.in-Big.is, c.in-Big-order-2.is)
