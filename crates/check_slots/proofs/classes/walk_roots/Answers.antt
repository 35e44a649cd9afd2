-- A root a turn, its class two bytes on; what is left of the walk is the definition from there.
use Rattle.std.proofs.lemmas.Result.{err_from_is_err_and}
use Rattle.std.proofs.Common.{◌≡◌, ◌+◌, ◌-◌, ◌≤◌, refl, sym, ap, ◌∙◌, length, arith}
use Rattle.rules.specs.Record.{no, bits_layout, layouts}
use Rattle.table_offsets.specs.Bodies.{known, mark, body_mark}
use Rattle.table_offsets.specs.Check.{byte_at}
use Rattle.check_slots.specs.Homes.{roots_at}
use Rattle.check_slots.proofs.Onward.{a-here, roots-on, roots-ended, roots-stopped}
use Rattle.check_slots.proofs.Within.{place-of, set-of, roots-fault}
use Rattle.check_slots.proofs.classes.walk_roots.Goals as goal

root-mark : body_mark 6 ≡ 1
unfolding body_mark mark known layouts no bits_layout
root-mark = refl

pub returns-then-not-is_a : goal.returns-then-not-is_a
returns-then-not-is_a c =
    let i = c.loop.invariant.1 in
    let other = sym c.is_a.ensures ∙ c.if-not-is_a.true in
    let both = roots-stopped _ _ _ _ c.saturating_sub-end.ensures _ _ _ i.0 other in
    record { place = (both.0, i.1); set = both.1 }

pub returns-in_err-next : goal.returns-in_err-next
returns-in_err-next c =
    let root = sym c.is_a.ensures ∙ c.if-not-is_a.false in
    let all = ap (roots_at c.args.table.now (c.args.at, c.args.homes.now)) (sym c.saturating_sub-end.ensures) in
    let told = err_from_is_err_and c.from_residual.result c.from_residual.ensures.1 in
    let e =
    all ∙ c.loop.invariant.1.0 ∙ roots-fault _ _ _ (omega arith) root _ c.walk_class.ensures.set _ c.in_err-next.ensures.place.1
    in
    let begins : c.args.at ≤ length c.args.table.now = omega (arith, c.saturating_sub-end.ensures) in
    record { place = rw (told.1, told.2) (begins, sym (place-of e)); set = set-of e }

pub loop-preserved : goal.loop-preserved
loop-preserved c =
    let w = c.walk_class.ensures in
    let r = c.in_ok-next.ensures.place in
    let root = sym c.is_a.ensures ∙ c.if-not-is_a.false in
    let n = c.saturating_sub-end.result in
    let one : n - c.loop.counter - 1 ≡ n - (c.loop.counter + 1) = omega arith in
    let it = a-here _ _ _ root in
    let mark : body_mark (byte_at c.args.table.now c.loop.next) ≡ 1 = rw it.1 root-mark in
    let two : c.loop.next + 2 ≤ length c.args.table.now = omega (arith, mark, it.0.fits) in
    let on = c.loop.invariant.1.0 ∙ roots-on _ _ _ (omega arith) root _ _ r.0 w.set in (
      c.walk_class.auto.homes ∙ c.loop.invariant.0,
      (rw one at on, λ h. r.1 two),
    )

pub returns : goal.returns
returns c =
    let i = c.loop.invariant.1 in
    let both = roots-ended _ _ _ _ c.saturating_sub-end.ensures _ _ _ i.0 (omega arith) in
    record { place = (both.0, i.1); set = both.1 }
