-- Each turn lays a piece; the loop ends behind the last, or where the room is full.
use mathlib.Core.Path.{◌≡◌, ◌∙◌}
use native.Mathlib.Omega.{arith}
use Rattle.screen_list.proofs.Pieces.{lays_step, lays-full, lays-end}
use Rattle.screen_list.proofs.put_pieces.Goals as goal

pub returns-then-out-end-lt-PIECE_ROOM : goal.returns-then-out-end-lt-PIECE_ROOM
returns-then-out-end-lt-PIECE_ROOM c = let all = lays-full c.loop-i.invariant.0 c.loop-i-test.true c.if-out-end-lt-PIECE_ROOM.true in
    record { piece_value = all.0; out_after = all.1 }

pub loop-i-preserved : goal.loop-i-preserved
loop-i-preserved c = (
  lays_step c.loop-i.invariant.0 c.loop-i-test.true c.if-out-end-lt-PIECE_ROOM.false c.put_at-end.ensures.value
      c.put_at-end.ensures.out_after,
  omega arith,
)

pub returns : goal.returns
returns c =
    let last : c.max.result ≡ c.loop-i.i = omega (arith, c.max.ensures, c.loop-i.invariant.1) in
    let all = lays-end c.loop-i.invariant.0 c.loop-i-test.false in
    record { piece_value = (last ∙ all.0.0, all.0.1); out_after = all.1 }
