-- The packets do the rest.
use Rattle.class_layout.specs.Fragments.{asked_at}
use Rattle.reader.proofs.Answered.{stream-answers}
use Rattle.reader.proofs.read_by.Goals as goal

pub read_packets-requires : goal.read_packets-requires
read_packets-requires c = record { lent = c.requires.lent; hints = c.requires.hints }

pub returns : goal.returns
returns c =
    let a = c.args in
    stream-answers (asked_at a.table.now) a.stream.now a.list.now _ c.read_packets.ensures c.requires.in_bounds
    c.requires.lent.small c.answer.ensures
