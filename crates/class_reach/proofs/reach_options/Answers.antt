-- The invariant: what the options so far reach, and what those left still do.
use mathlib.Core.Path.{◌≡◌, ap, ◌∙◌}
use Prim.Native.Nat.{◌+◌, ◌-◌}
use native.Mathlib.Omega.{arith}
use Rattle.class_layout.specs.Words.{sets_both}
use Rattle.class_layout.proofs.Reached.{options-start, options-next, options-done}
use Rattle.class_reach.proofs.reach_options.Goals as goal

pub loop-init : goal.loop-init
loop-init c =
    let all : c.args.count - 0 ≡ c.args.count = omega arith in
    rw all options-start

-- an option's place is near, so that no sum is too large

pub overflow_add-class : goal.overflow_add-class
overflow_add-class c = omega (arith, c.requires, c.loop.invariant.near)

pub overflow_add-next : goal.overflow_add-next
overflow_add-next c = omega (arith, c.requires, c.loop.invariant.near)

pub overflow_add-class-in-loop : goal.overflow_add-class-in-loop
overflow_add-class-in-loop c = omega (arith, c.requires, c.loop.invariant.near)

pub sets_both-sets-requires : goal.sets_both-sets-requires
sets_both-sets-requires c = (c.loop.invariant.small, c.sets_noted.ensures.1)

pub end_noted-next-requires : goal.end_noted-next-requires
end_noted-next-requires c = omega (arith, c.requires, c.loop.invariant.near)

pub loop-preserved : goal.loop-preserved
loop-preserved c =
    let l = c.loop in
    let n = c.args.count in
    let w = c.wide_byte.ensures in
    let e = c.end_noted-next.ensures in
    let b = c.sets_both-sets.ensures in
    let set = b.0 ∙ ap (sets_both l.sets) c.sets_noted.ensures.0 in
    let left : n - (l.counter + 1) ≡ n - l.counter - 1 = omega arith in
    rw left (options-next _ (omega arith) w.0 w.1 (set, b.1) e.0 e.1 l.invariant)

pub returns : goal.returns
returns c = options-done _ (omega arith) c.loop.invariant
