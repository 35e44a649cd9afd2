-- The words are read once.
use Prim.Native.Nat.{◌+◌, ◌*◌}
use lib.ListN.{get_or}
use Rattle.rules.specs.Limits.{words_per_entry}
use Rattle.screen_head.specs.Head.{five}
use Rattle.screen_list.specs.Lines.{entry_at}
use Rattle.screen_list.proofs.Entries.{entry-put}
use Rattle.screen_list.proofs.put_entry.Goals as goal

pub returns : goal.returns
unfolding entry_at
returns c =
    let a = c.args in
    let w = a.list.now in
    let i = a.at * words_per_entry in
    let all = entry-put a.table.now a.stream.now a.out.now c.put_pieces-laid.new.out a.used a.piece a.frequency
    c.settle-turns.result c.pieces-count.result c.put_pieces-laid.result.piece c.put_pieces-laid.result.used
    (five (get_or w i 0) (get_or w (i + 1) 0) (get_or w (i + 2) 0) (get_or w (i + 3) 0) (get_or w (i + 4) 0))
    c.settle-turns.ensures c.pieces-count.ensures.value (c.put_pieces-laid.ensures.piece_value, c.put_pieces-laid.ensures.out_after) in
    record { value = all.0; out_after = all.1 }
