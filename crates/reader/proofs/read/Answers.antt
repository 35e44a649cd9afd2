-- The check decides: a refused table, or the stream by what the table says.
use mathlib.Core.Path.{sym, ◌∙◌}
use Rattle.class_layout.proofs.Asked.{checked-whole}
use Rattle.reader.proofs.Answered.{table-answers, accepted-reads}
use Rattle.reader.proofs.read.Goals as goal

-- The check

pub read_stream-requires : goal.read_stream-requires
read_stream-requires c = checked-whole c.args.table.now _ (sym c.check.ensures ∙ c.in-Ok.is)

-- 20

pub returns-in-Err : goal.returns-in-Err
returns-in-Err c =
    let a = c.args in
    let x = table-answers a.table.now a.stream.now a.list.now _ (sym c.check.ensures ∙ c.in-Err.is) in
    (x.result, x.list)

-- The stream

pub returns-in-Ok : goal.returns-in-Ok
returns-in-Ok c =
    let a = c.args in
    rw (accepted-reads a.table.now a.stream.now a.list.now _ (sym c.check.ensures ∙ c.in-Ok.is))
    (c.read_stream.ensures.result, c.read_stream.ensures.list)
