-- By the tests, in the order of the definition.
use mathlib.Core.Path.{sym}
use native.Mathlib.Omega.{arith}
use borrow.Author.Rules.{rules}
use Rattle.class_layout.proofs.Setting.{both_first, both-second, both-same, both-several}
use Rattle.class_layout.proofs.words.sets_both.Goals as goal

pub returns-then-a-eq0 : goal.returns-then-a-eq0
returns-then-a-eq0 c = (sym (both_first _ _ c.if-a-eq0.true), search rules)

pub returns-then-b-eq0 : goal.returns-then-b-eq0
returns-then-b-eq0 c = (sym (both-second _ _ c.if-a-eq0.false c.if-b-eq0.true), search rules)

pub returns-then-a-b : goal.returns-then-a-b
returns-then-a-b c =
    let p = c.before in
    (sym (both-same _ _ p.if-a-eq0.false p.if-b-eq0.false c.if-a-b.true), search rules)

pub returns : goal.returns
returns c =
    let p = c.before in
    (sym (both-several _ _ p.if-a-eq0.false p.if-b-eq0.false c.if-a-b.false), omega arith)
