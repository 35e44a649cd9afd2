-- The call meets the contract of `bundle`, and so the smallest bundle holds of it.
use Rattle.promises.proofs.SmallestCalls.{cut-once}
use Rattle.promises_calls.proofs.cut_once.Goals as goal

pub returns : goal.returns
returns c =
    let a = c.args in
    cut-once a.table.now a.streams.now a.lengths.now a.rooms.now _ _ _ _ _ c.bundle.ensures
