-- 44 reads nothing. Else the notes are made, the streams read, and what stays by their marks is the bundle of their readings.
use mathlib.Core.Path.{refl}
use native.Mathlib.Omega.{arith}
use Rattle.rules.specs.Bundle.{bundle_readings}
use Rattle.class_lookup.proofs.Index.{made-hints}
use Rattle.bundle.proofs.Answers.{kept-bundle, many-did, few-did}
use Rattle.bundle.proofs.bundle_by.Goals as goal

pub returns-then-too_many : goal.returns-then-too_many
returns-then-too_many c =
    let a = c.args in
    many-did a.table.now a.streams.now a.lengths.now a.rooms.now a.list.now a.out.now _ c.requires
    c.if-too_many.true refl

pub note_sizes-requires : goal.note_sizes-requires
note_sizes-requires c = (c.requires, omega arith)

pub make_index-requires : goal.make_index-requires
make_index-requires c = (c.note_sizes.ensures, refl)

pub read_streams-requires : goal.read_streams-requires
read_streams-requires c =
    (c.note_sizes.ensures, made-hints c.args.table.now _ c.requires refl c.make_index.ensures, omega arith)

pub write_kept-requires : goal.write_kept-requires
write_kept-requires c = (c.note_sizes.ensures, c.read_streams.auto.marks)

pub returns : goal.returns
returns c =
    let a = c.args in
    let t = a.table.now in
    let rs = bundle_readings t a.streams.now a.lengths.now a.rooms.now a.list.now in
    let stays = kept-bundle t _ c.requires rs refl c.read_streams.ensures.1 in
    few-did t a.streams.now a.lengths.now a.rooms.now a.list.now a.out.now _ c.requires c.if-too_many.false
    c.read_streams.ensures.0 stays c.write_kept.ensures
