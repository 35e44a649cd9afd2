-- `bits::join` meets its contract: neither shift loses a bit, and neither sum leaves 64 bits.
use Rattle.bits.proofs.Laws.{joined-fits, joined-little, joined-big}
use Rattle.bits.proofs.join.Goals as goal

pub overflow_add-result : goal.overflow_add-result
overflow_add-result c =
    let start = c.before in
    let h = start.requires in
    let fits = joined-fits _ _ _ _ _ h.2 h.3 h.4 in
    record { fits = rw (joined-little _ _ _ start.args.more c.in-Little.is h.2 h.4) fits }

pub overflow_add-result-in-Big : goal.overflow_add-result-in-Big
overflow_add-result-in-Big c =
    let start = c.before in
    let h = start.requires in
    let fits = joined-fits _ _ _ _ _ h.2 h.3 h.4 in
    record { fits = rw (joined-big _ start.args.done _ _ c.in-Big.is h.2 h.3) fits }

pub returns-in-Little : goal.returns-in-Little
returns-in-Little c = joined-little _ _ _ _ c.in-Little.is c.requires.2 c.requires.4

pub returns-in-Big : goal.returns-in-Big
returns-in-Big c = joined-big _ _ _ _ c.in-Big.is c.requires.2 c.requires.3
