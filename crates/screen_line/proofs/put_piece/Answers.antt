-- In too little room nothing; else the piece of the line that it is.
use mathlib.Core.Path.{refl}
use mathlib.Core.List.{[]}
use Rattle.screen_head.specs.Head.{five_of}
use Rattle.screen_verdict.proofs.Lines.{too_small, line-laid}
use Rattle.screen_line.specs.Line.{bytes_of, line}
use Rattle.screen_line.specs.Pieces.{text_piece, piece}
use Rattle.screen_line.proofs.Sorted.{is-text, not-text}
use Rattle.screen_line.proofs.Parts.{piece-text}
use Rattle.screen_line.proofs.Parts.{piece-only, piece-none}
use Rattle.screen_line.proofs.put_piece.Goals as goal

pub returns-then-out-lt-PIECE_ROOM : goal.returns-then-out-lt-PIECE_ROOM
returns-then-out-lt-PIECE_ROOM c =
    let all = too_small c.args.out.now (piece c.args.stream.now c.args.frequency (five_of c.args.entry) c.args.i)
    c.if-out-lt-PIECE_ROOM.true in
    record { value = all.0; out_after = all.1 }

pub returns-in-Text : goal.returns-in-Text
returns-in-Text c =
    let a = c.args in
    let put = c.put_text_piece in
    let e = five_of a.entry in
    let all = line-laid a.out.now put.new.out (text_piece e (bytes_of a.stream.now e) a.i) (piece a.stream.now a.frequency e a.i)
    put.result c.if-out-lt-PIECE_ROOM.false
    (piece-text a.stream.now a.frequency e a.i (is-text e 4 c.in-Text.ensures refl))
    (put.ensures.value, put.ensures.out_after) in
    record { value = all.0; out_after = all.1 }

pub returns-in_default : goal.returns-in_default
returns-in_default c =
    let a = c.args in
    let put = c.put_line in
    let e = five_of a.entry in
    let all = line-laid a.out.now put.new.out (line a.stream.now a.frequency e) (piece a.stream.now a.frequency e a.i)
    put.result c.if-out-lt-PIECE_ROOM.false
    (piece-only a.stream.now a.frequency e a.i (not-text e c.sort_of.result c.sort_of.ensures c.in_default.not-Text) c.if-i-eq0.true)
    (put.ensures.value, put.ensures.out_after) in
    record { value = all.0; out_after = all.1 }

pub returns-in_default-2 : goal.returns-in_default-2
returns-in_default-2 c =
    let a = c.args in
    let e = five_of a.entry in
    let all = line-laid a.out.now a.out.now [] (piece a.stream.now a.frequency e a.i) 0 c.if-out-lt-PIECE_ROOM.false
    (piece-none a.stream.now a.frequency e a.i (not-text e c.sort_of.result c.sort_of.ensures c.in_default.not-Text) c.if-i-eq0.false)
    (refl, refl) in
    record { value = all.0; out_after = all.1 }
