-- The invariant: what is to be marked is still to be marked by the entries from one on.
use mathlib.Core.Path.{◌≡◌}
use Prim.Native.Nat.{◌+◌, ◌-◌, ◌*◌}
use native.Mathlib.Omega.{arith}
use Rattle.rules.specs.Limits.{words_per_entry}
use Rattle.bundle_marks.proofs.Marking.{mark-start, mark-next, mark-end}
use Rattle.bundle_marks.proofs.mark.Goals as goal

pub loop-i-init : goal.loop-i-init
loop-i-init c =
    let all : c.args.entries - 0 ≡ c.args.entries = omega arith in
    rw all (mark-start c.in_front-front.ensures)

pub mark_entry-front-requires : goal.mark_entry-front-requires
mark_entry-front-requires c = record {
  sized = c.requires.sized;
  place_value = (c.loop-i.invariant.front, omega (arith, c.requires.entries_in_bounds.1, c.loop-i.invariant.kept));
}

pub loop-i-preserved : goal.loop-i-preserved
loop-i-preserved c =
    let i = c.loop-i.i in
    let n = c.args.entries in
    let at : words_per_entry * (i + 1) ≡ words_per_entry * i + words_per_entry = omega arith in
    let left : n - (i + 1) ≡ n - i - 1 = omega arith in
    rw (at, left) (mark-next c.loop-i.invariant (omega arith) c.mark_entry-front.ensures c.mark_entry-front.auto.marks)

pub returns : goal.returns
returns c = mark-end c.loop-i.invariant (omega arith)
