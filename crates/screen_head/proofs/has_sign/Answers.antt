-- 19, or else 22.
use mathlib.Core.Path.{sym, ap, ◌∙◌}
use mathlib.Core.Bool.{◌||◌}
use lib.Dec.{eqb}
use borrow.Author.Tests.{eq-eqb, ne_eqb}
use Rattle.screen_head.proofs.Words.{sign_of}
use Rattle.screen_head.proofs.has_sign.Goals as goal

pub returns-then-kind-eq-SIGNED : goal.returns-then-kind-eq-SIGNED
returns-then-kind-eq-SIGNED c =
    let k = c.args.kind in
    sym (ap (λ t. t || eqb k 22) (eq-eqb k 19 c.if-kind-eq-SIGNED.true)) ∙ sign_of k

pub returns : goal.returns
returns c =
    let k = c.args.kind in
    sym (ap (λ t. t || eqb k 22) (ne_eqb k 19 c.if-kind-eq-SIGNED.false)) ∙ sign_of k
