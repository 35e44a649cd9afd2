-- The invariant: what the members so far reach, and what those left still do.
use mathlib.Core.Path.{◌≡◌, ap, ◌∙◌}
use Prim.Native.Nat.{◌+◌, ◌-◌, max}
use native.Mathlib.Omega.{arith}
use Rattle.class_layout.specs.Words.{sets_both}
use Rattle.class_layout.proofs.Reached.{members-start, members-next, members-done}
use Rattle.class_reach.proofs.Larger.{larger-is}
use Rattle.class_reach.proofs.reach_members.Goals as goal

pub loop-init : goal.loop-init
loop-init c =
    let all : c.args.count - 0 ≡ c.args.count = omega arith in
    rw all members-start

pub sets_both-sets-requires : goal.sets_both-sets-requires
sets_both-sets-requires c = (c.loop.invariant.small, c.sets_noted.ensures.1)

pub end_noted-next-requires : goal.end_noted-next-requires
end_noted-next-requires c = omega (arith, c.requires, c.loop.invariant.near)

pub loop-preserved : goal.loop-preserved
loop-preserved c =
    let l = c.loop in
    let n = c.args.count in
    let e = c.end_noted-next.ensures in
    let b = c.sets_both-sets.ensures in
    let most = c.max-align.ensures ∙ larger-is _ _ ∙ ap (max l.align) c.align_noted.ensures.0 in
    let set = b.0 ∙ ap (sets_both l.sets) c.sets_noted.ensures.0 in
    let left : n - (l.counter + 1) ≡ n - l.counter - 1 = omega arith in
    rw left (members-next _ (omega arith) most (set, b.1) e.0 e.1 l.invariant)

pub returns : goal.returns
returns c = members-done _ (omega arith) c.loop.invariant
