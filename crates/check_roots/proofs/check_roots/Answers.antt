-- A turn walks one root; what is left to walk is the definition at the next number.
use mathlib.Core.Path.{◌≡◌, sym, ◌∙◌}
use Prim.Native.Nat.{◌+◌, ◌-◌}
use native.Mathlib.Omega.{arith}
use Rattle.table_offsets.specs.Faults.{walk}
use Rattle.table_offsets.proofs.Told.{else-none, else-told, walk-fine, walk-bad, exit-walk}
use Rattle.table_offsets.proofs.Walked.{roots-bad, roots-fine, roots-none}
use Rattle.check_roots.proofs.check_roots.Goals as goal

pub loop-n-init : goal.loop-n-init
loop-n-init c =
    let all : c.args.first + c.args.count - c.args.first ≡ c.args.count = omega arith in
    rw all

pub returns-in_err-next : goal.returns-in_err-next
returns-in_err-next c =
    let bad = sym c.check_root.ensures ∙ walk-bad c.in_err-next.was in
    exit-walk _ _ c.from_residual.ensures.1 ∙ sym (c.loop-n.invariant ∙ roots-bad _ _ _ _ _ _ _ _ (omega arith) bad)

pub loop-n-preserved : goal.loop-n-preserved
loop-n-preserved c =
    let l = c.loop-n in
    let end = c.args.first + c.args.count in
    let one : end - l.n - 1 ≡ end - (l.n + 1) = omega arith in
    let fine = sym c.check_root.ensures ∙ walk-fine c.in_ok-next.was in
    let on = l.invariant ∙ roots-fine _ _ _ _ _ _ _ (omega arith) fine in
    rw one at on

pub returns-in-Err : goal.returns-in-Err
unfolding walk
returns-in-Err c =
    let over = c.loop-n.invariant ∙ roots-none _ _ _ _ _ _ (omega arith) in
    sym (over ∙ else-told c.stray.ensures c.in-Err.is _ _)

pub returns : goal.returns
unfolding walk
returns c =
    let over = c.loop-n.invariant ∙ roots-none _ _ _ _ _ _ (omega arith) in
    sym (over ∙ else-none c.stray.ensures c.in_default.is _ _)
