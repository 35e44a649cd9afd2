-- The invariant: the byte behind the roots that are left is the one looked for.
use mathlib.Core.Path.{◌≡◌}
use Prim.Native.Nat.{◌+◌, ◌-◌}
use native.Mathlib.Omega.{arith}
use Rattle.rules.specs.Record.{u8}
use Rattle.class_layout.proofs.Turns.{roots-start, roots-sized, roots-next, roots-done}
use Rattle.class_layout.proofs.openings.behind_fragment.Goals as goal

-- How the fragment opens

pub bounds-table-fragment : goal.bounds-table-fragment
bounds-table-fragment c =
    let f = c.requires.0 in
    omega (arith, f.onward, f.within)

pub opening_of-opens-requires : goal.opening_of-opens-requires
unfolding u8
opening_of-opens-requires c =
    let f = c.requires.0 in
    (f.low, f.high)

pub overflow_add-at : goal.overflow_add-at
overflow_add-at c =
    let f = c.requires.0 in
    omega (arith, f.onward, f.within, c.opening_of-opens.ensures.small.0)

-- Its roots

pub loop-number-init : goal.loop-number-init
unfolding u8
loop-number-init c =
    let p = c.requires in
    let r = c.opening_of-opens.result in
    let o = c.opening_of-opens.ensures in
    let left : r.first + r.count - r.first ≡ r.count = omega arith in
    (rw left (roots-start p.0 p.1 o), omega (arith, o.size, p.0.there, o.small.2))

pub behind_root-at-requires : goal.behind_root-at-requires
behind_root-at-requires c =
    let w = c.loop-number.invariant in
    (roots-sized _ (omega arith) w.0, c.requires.3, omega (arith, w.1))

pub loop-number-preserved : goal.loop-number-preserved
loop-number-preserved c =
    let r = c.opening_of-opens.result in
    let n = c.loop-number.number in
    let w = c.loop-number.invariant in
    let b = c.behind_root-at.ensures in
    let left : r.first + r.count - (n + 1) ≡ r.first + r.count - n - 1 = omega arith in
    (rw left (roots-next _ (omega arith) b.0 w.0), omega (arith, b.1, w.1))

pub returns : goal.returns
returns c = roots-done _ (omega arith) c.loop-number.invariant.0
