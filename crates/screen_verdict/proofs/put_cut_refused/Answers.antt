-- In too little room nothing; else the line.
use mathlib.Core.Path.{refl}
use Rattle.screen_verdict.specs.Verdict.{cut_refused}
use Rattle.screen_verdict.proofs.Lines.{too_small, line-laid}
use Rattle.screen_verdict.proofs.put_cut_refused.Goals as goal

pub returns-then-out-lt-LINE_ROOM : goal.returns-then-out-lt-LINE_ROOM
returns-then-out-lt-LINE_ROOM c =
    let a = c.args in
    let all = too_small a.out.now (cut_refused a.number a.byte.0) c.if-out-lt-LINE_ROOM.true in
    record { value = all.0; out_after = all.1 }

pub returns : goal.returns
returns c =
    let a = c.args in
    let put = c.put_cut_line in
    let l = cut_refused a.number a.byte.0 in
    let all = line-laid a.out.now put.new.out l l put.result c.if-out-lt-LINE_ROOM.false refl (put.ensures.value, put.ensures.out_after) in
    record { value = all.0; out_after = all.1 }
