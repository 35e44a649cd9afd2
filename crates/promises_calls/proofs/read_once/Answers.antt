-- The call meets the contract, and so demands 1 and 2 hold of it; the promises have their proofs.
use Rattle.promises.proofs.Promised.{one-call}
use Rattle.promises.proofs.Promises.{all-promises}
use Rattle.promises_calls.proofs.read_once.Goals as goal

pub returns : goal.returns
returns c =
    let a = c.args in
    record { one_call = one-call a.table.now a.stream.now _ _ _ c.read.ensures; promises = all-promises }
