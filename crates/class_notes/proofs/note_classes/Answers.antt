-- The invariant: the notes still to be made, from those made.
use mathlib.Core.Path.{refl, sym, ap, ◌∙◌}
use Prim.Native.Nat.{◌-◌}
use native.Mathlib.Omega.{arith}
use Rattle.class_layout.specs.Notes.{note_below}
use Rattle.class_layout.proofs.Reached.{below_next, below_none}
use Rattle.class_notes.proofs.note_classes.Goals as goal

pub loop-at-init : goal.loop-at-init
loop-at-init c = refl

pub note_class-requires : goal.note_class-requires
note_class-requires c =
    let p = c.requires in
    let l = c.loop-at in
    record {
      table_in_bounds = (omega (arith, l.auto.sizes, p.0), omega (arith, l.auto.aligns, p.1), p.2, p.3);
      at_in_bounds = omega (arith, l.auto.at, c.loop-at-test.true);
    }

pub loop-at-preserved : goal.loop-at-preserved
loop-at-preserved c =
    let t = c.args.table.now in
    let l = c.loop-at in
    l.invariant ∙ below_next t l.at _ c.loop-at-test.true ∙ ap (note_below t (l.at - 1)) (sym c.note_class.ensures)

pub returns : goal.returns
returns c = sym (c.loop-at.invariant ∙ below_none c.args.table.now c.loop-at.at _ (omega arith))
