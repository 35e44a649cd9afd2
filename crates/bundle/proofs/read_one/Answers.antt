-- The list begins with the reading's entries, and those are marked by.
use mathlib.Core.Path.{ap, ◌∙◌}
use lib.ListN.{length}
use Rattle.rules.specs.Read.{read_all}
use Rattle.bundle_marks.specs.Marked.{mark_list}
use Rattle.bundle.proofs.Streams.{read-room, read-entries}
use Rattle.bundle.proofs.read_one.Goals as goal

pub mark-requires : goal.mark-requires
mark-requires c =
    let a = c.args in
    let r = c.read-result in
    let x = read_all a.table.now a.stream.now (length a.list.now) in
    record {
      sized = (c.requires.0, c.requires.1);
      entries_in_bounds = (read-room x a.list.now r.ensures.0 r.ensures.1 r.auto.list, c.requires.2);
    }

pub returns : goal.returns
returns c =
    let a = c.args in
    let r = c.read-result in
    let x = read_all a.table.now a.stream.now (length a.list.now) in
    let es = read-entries x a.list.now r.ensures.0 r.ensures.1 in
    (r.ensures.1, c.mark.ensures ∙ ap (λ es. mark_list a.table.now 0 es a.marks.now) es)
