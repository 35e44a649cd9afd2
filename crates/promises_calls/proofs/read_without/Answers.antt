-- Both calls meet the contract, and so packets stand on their own in them.
use Rattle.promises.proofs.ApartCalls.{two-streams}
use Rattle.promises_calls.proofs.read_without.Goals as goal

pub returns : goal.returns
returns c =
    let a = c.args in
    two-streams a.table.now a.stream.now a.shorter.now _ _ _ _ _ _ c.read-whole.ensures c.read-rest.ensures
