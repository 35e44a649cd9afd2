-- Behind the root's class if the root is there, else at the same byte.
use mathlib.Core.Path.{sym, ◌∙◌}
use native.Mathlib.Omega.{arith}
use Rattle.class_layout.specs.Sizes.{behind_root}
use Rattle.class_layout.proofs.openings.behind_root.Goals as goal

-- The root stands there

pub size_at-requires : goal.size_at-requires
size_at-requires c = omega (arith, (c.requires.0 (sym c.root_here.ensures ∙ c.if-root_here.true)).0)

pub returns-then-root_here : goal.returns-then-root_here
unfolding behind_root
returns-then-root_here c =
    let b = sym c.root_here.ensures ∙ c.if-root_here.true in
    let n = c.size_at.ensures in
    (rw (b, behind_root) (omega (arith, (c.requires.0 b).1, n.0)), omega (arith, n.1))

-- No root stands there

pub returns : goal.returns
unfolding behind_root
returns c = (rw (sym c.root_here.ensures ∙ c.if-root_here.false, behind_root), omega arith)
