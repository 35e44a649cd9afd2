-- A fragment that is left is put; those behind it are still to be.
use mathlib.Core.Path.{refl, sym, ap, ◌∙◌}
use Rattle.class_lookup.specs.Index.{indexed}
use Rattle.class_lookup.proofs.make_index.Goals as goal

pub loop-at-init : goal.loop-at-init
loop-at-init c =
    let e = c.into_iter-at-iterator.ensures.into_iter_gives ∙ c.fragments-at-items.ensures in
    record { each = rw e c.requires.0.each; same = ap (λ os. indexed c.args.table.now os c.args.index.now) (sym e); kept = refl }

pub index_one-requires : goal.index_one-requires
index_one-requires c =
    let w = rw c.in-Some.ensures.steps at c.loop-at.invariant.each in
    (w.0.stands, c.requires.0.limit, c.loop-at.invariant.kept ∙ c.requires.1)

pub loop-at-preserved : goal.loop-at-preserved
unfolding indexed
loop-at-preserved c =
    let w = rw c.in-Some.ensures.steps at c.loop-at.invariant.each in
    let i = c.loop-at.invariant in
    record {
      each = w.1;
      same = i.same ∙ ap (λ os. indexed c.args.table.now os c.loop-at.index) c.in-Some.ensures.steps
          ∙ ap (indexed c.args.table.now c.next.new.self) (sym c.index_one.ensures);
      kept = c.index_one.auto.index ∙ i.kept;
    }

pub returns : goal.returns
unfolding indexed
returns c =
    sym (c.loop-at.invariant.same ∙ ap (λ os. indexed c.args.table.now os c.loop-at.index) c.in-None.ensures.steps.0)
