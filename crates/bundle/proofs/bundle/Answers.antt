-- The check decides: 20, or what an accepted table gives.
use mathlib.Core.Path.{refl, sym, ◌∙◌}
use Rattle.class_layout.proofs.Asked.{checked-whole}
use Rattle.bundle.proofs.Answers.{refused_did}
use Rattle.bundle.proofs.bundle.Goals as goal

pub bundle_by-requires : goal.bundle_by-requires
bundle_by-requires c = checked-whole c.args.table.now _ (sym c.check.ensures ∙ c.in-Ok.is)

pub returns-in-Err : goal.returns-in-Err
returns-in-Err c =
    let a = c.args in
    let x = refused_did a.table.now a.streams.now a.lengths.now a.rooms.now a.list.now a.out.now _ _
    (sym c.check.ensures ∙ c.in-Err.is) refl in
    (x.answer, x.lists, x.buffer)

pub returns-in-Ok : goal.returns-in-Ok
returns-in-Ok c =
    let x = c.bundle_by.ensures in
    (x.answer, x.lists, x.buffer)
