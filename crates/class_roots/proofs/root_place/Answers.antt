-- The invariant: the root looked for is so many turns further on as its number is.
use mathlib.Core.Path.{◌≡◌, sym, ◌∙◌}
use mathlib.Core.Bool.{true, false}
use Prim.Native.Nat.{◌+◌, ◌-◌}
use native.Mathlib.Omega.{arith}
use Rattle.rules.specs.Record.{u8}
use Rattle.class_layout.specs.Fragments.{root_here}
use Rattle.class_layout.proofs.Turns.{turn-none, turn-start, turn-sized, turn-next, turn-here, turn-absent}
use Rattle.class_roots.proofs.root_place.Goals as goal

-- How the fragment opens

pub bounds-table-fragment : goal.bounds-table-fragment
bounds-table-fragment c =
    let f = c.requires.0.stands in
    omega (arith, f.onward, f.within)

pub opening_of-opens-requires : goal.opening_of-opens-requires
unfolding u8
opening_of-opens-requires c =
    let f = c.requires.0.stands in
    (f.low, f.high)

pub returns-then-opens-turn : goal.returns-then-opens-turn
unfolding u8
returns-then-opens-turn c =
    let a = c.args in
    turn-none a.table.now a.fragment a.turn c.opening_of-opens.ensures c.if-opens-turn.true

-- The roots before the one looked for

pub overflow_add-at : goal.overflow_add-at
overflow_add-at c =
    let f = c.requires.0.stands in
    omega (arith, f.onward, f.within, c.opening_of-opens.ensures.small.0)

pub loop-earlier-init : goal.loop-earlier-init
unfolding u8
loop-earlier-init c =
    let a = c.args in
    let r = c.opening_of-opens.result in
    let o = c.opening_of-opens.ensures in
    let left : r.first + a.turn - r.first ≡ a.turn = omega arith in (
      rw left (turn-start a.table.now a.fragment a.turn o c.requires.0 c.if-opens-turn.false),
      omega (arith, o.size, c.requires.0.stands.there, o.small.2, c.if-opens-turn.false),
    )

pub behind_root-at-requires : goal.behind_root-at-requires
behind_root-at-requires c =
    let w = c.loop-earlier.invariant in
    (turn-sized w.0, c.requires.2, omega (arith, w.1))

pub loop-earlier-preserved : goal.loop-earlier-preserved
loop-earlier-preserved c =
    let r = c.opening_of-opens.result in
    let n = c.loop-earlier.earlier in
    let w = c.loop-earlier.invariant in
    let b = c.behind_root-at.ensures in
    let left : r.first + c.args.turn - (n + 1) ≡ r.first + c.args.turn - n - 1 = omega arith in
    (rw left (turn-next w.0 (omega arith) b.0), omega (arith, b.1, w.1))

-- The root looked for

pub root_here-requires : goal.root_here-requires
root_here-requires c = omega (arith, c.loop-earlier.invariant.1)

pub overflow_add-result : goal.overflow_add-result
overflow_add-result c = omega (arith, c.loop-earlier.invariant.1)

pub returns-then-root_here : goal.returns-then-root_here
returns-then-root_here c =
    let l = c.loop-earlier in
    let last : l.earlier ≡ c.opening_of-opens.result.first + c.args.turn = omega (arith, l.auto.earlier-end) in
    let here : root_here c.args.table.now l.at l.earlier ≡ true = rw last (sym c.root_here.ensures ∙ c.if-root_here.true) in
    turn-here l.invariant.0 (omega arith) here

pub returns : goal.returns
returns c =
    let l = c.loop-earlier in
    let last : l.earlier ≡ c.opening_of-opens.result.first + c.args.turn = omega (arith, l.auto.earlier-end) in
    let absent : root_here c.args.table.now l.at l.earlier ≡ false = rw last (sym c.root_here.ensures ∙ c.if-root_here.false) in
    turn-absent l.invariant.0 (omega arith) absent
