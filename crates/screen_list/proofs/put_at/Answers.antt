-- The part behind what is used has room enough; what is laid into it is laid into the room.
use Prim.Native.Nat.{◌-◌}
use native.Mathlib.Omega.{arith}
use lib.ListN.{length, take, drop}
use Rattle.screen_head.specs.Head.{five_of}
use Rattle.screen_line.specs.Pieces.{piece}
use Rattle.screen_line.proofs.Rooms.{piece-length, piece-most}
use Rattle.screen_list.proofs.Parts.{laid-behind}
use Rattle.screen_list.proofs.put_at.Goals as goal

pub overflow_add-result : goal.overflow_add-result
overflow_add-result c =
    let e = five_of c.args.entry in
    omega (
      arith,
      c.requires,
      c.requires,
      c.put_piece-more.ensures.value,
      piece-most (take (length c.args.out.now - c.args.used) (drop c.args.used c.args.out.now)) c.args.stream.now
          c.args.frequency e c.args.i,
    )

pub returns : goal.returns
returns c =
    let e = five_of c.args.entry in
    let all = laid-behind c.args.out.now c.put_piece-more.new.out c.args.used c.put_piece-more.result
    (piece c.args.stream.now c.args.frequency e c.args.i) c.requires
    (piece-length c.args.stream.now c.args.frequency e c.args.i) c.put_piece-more.ensures.value
    c.put_piece-more.ensures.out_after in
    record { value = all.0; out_after = all.1 }
