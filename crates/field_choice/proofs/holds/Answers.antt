-- By the range's low end, and then its high end, which are there.
use Rattle.std.proofs.Common.{ap, ◌∙◌}
use Rattle.rules.specs.Class.{key}
use Rattle.rules.specs.Faults.{sign_of}
use Rattle.field_choice.proofs.Keys.{holds-below, holds-from}
use Rattle.field_choice.proofs.holds.Goals as goal

pub returns-then-selector-key : goal.returns-then-selector-key
returns-then-selector-key c =
    let low = c.key.ensures ∙ ap (key (sign_of c.args.sign)) c.u64_at.ensures in
    holds-below _ _ _ c.key-selector.ensures low c.if-selector-key.true

pub returns : goal.returns
returns c =
    let low = c.key.ensures ∙ ap (key (sign_of c.args.sign)) c.u64_at.ensures in
    let high = c.key-2.ensures ∙ ap (key (sign_of c.args.sign)) c.u64_at-2.ensures in
    holds-from _ _ _ c.key-selector.ensures low high c.if-selector-key.false
