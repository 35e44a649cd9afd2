-- The invariant: what is to be made of the index is still to be made, from a word on.
use mathlib.Core.Path.{◌≡◌, sym, ap, ◌∙◌}
use Prim.Native.Nat.{◌+◌, ◌-◌, ◌%◌}
use native.Mathlib.Omega.{arith}
use Rattle.class_lookup.specs.Index.{places, put_from}
use Rattle.class_lookup.proofs.Index.{put-here, put_on, put_full}
use Rattle.class_lookup.proofs.put.Goals as goal

pub loop-step-init : goal.loop-step-init
loop-step-init c =
    let first : c.args.from ≡ (c.args.from + 0) % places = omega arith in
    ap (λ at. put_from places c.args.index.now at c.args.place) first

pub returns-then-index-at-eq0 : goal.returns-then-index-at-eq0
returns-then-index-at-eq0 c = sym (c.loop-step.invariant ∙ put-here _ _ _ _ (omega arith) c.if-index-at-eq0.true)

pub loop-step-preserved : goal.loop-step-preserved
loop-step-preserved c =
    let i = c.loop-step.step in
    let at = (c.args.from + i) % places in
    let left : places - i - 1 ≡ places - (i + 1) = omega arith in
    let next : (at + 1) % places ≡ (c.args.from + (i + 1)) % places = omega arith in
    c.loop-step.invariant ∙ put_on _ _ _ _ (omega arith) c.if-index-at-eq0.false
    ∙ ap (λ n. put_from n c.loop-step.index ((at + 1) % places) c.args.place) left
    ∙ ap (λ at. put_from (places - (i + 1)) c.loop-step.index at c.args.place) next

pub returns : goal.returns
returns c = sym (c.loop-step.invariant ∙ put_full _ _ _ _ (omega arith))
