-- The two tests of the number's high bits, by the laws of eight bytes.
use mathlib.Core.Path.{◌∙◌}
use borrow.Author.Tests.{ne_eqb}
use Rattle.text.proofs.Eight.{eight_fits, eight-high, eight-low}
use Rattle.text.proofs.eight_plain.Goals as goal

pub overflow_sub-result : goal.overflow_sub-result
overflow_sub-result c = eight_fits _ (λ i. (c.type_inv.stream i).fits) _ c.requires c.eight-number.ensures c.if-number-eq0.true

pub returns-then-number-eq0 : goal.returns-then-number-eq0
returns-then-number-eq0 c = eight-low _ (λ i. (c.type_inv.stream i).fits) _ c.requires c.eight-number.ensures c.if-number-eq0.true

pub returns-else-number-eq0 : goal.returns-else-number-eq0
returns-else-number-eq0 c =
    ne_eqb _ _ c.if-number-eq0.false
    ∙ eight-high _ (λ i. (c.type_inv.stream i).fits) _ c.requires c.eight-number.ensures c.if-number-eq0.false
