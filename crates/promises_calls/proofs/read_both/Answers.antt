-- Both calls meet the contract, and so demand 3 holds of them, and what less room does.
use Rattle.promises.proofs.Promised.{two-calls}
use Rattle.promises_calls.proofs.read_both.Goals as goal

pub returns : goal.returns
returns c =
    let a = c.args in
    two-calls a.table.now a.short.now a.stream.now _ _ _ _ _ _ c.read-first.ensures c.read-second.ensures
