-- In too little room nothing; else the line of what it was.
use mathlib.Core.Path.{sym, ap}
use Rattle.screen_verdict.specs.Verdict.{checked_line, accepted_table, refused_table}
use Rattle.screen_verdict.proofs.Lines.{too_small, line-laid}
use Rattle.screen_verdict.proofs.put_checked.Goals as goal

pub returns-then-out-lt-LINE_ROOM : goal.returns-then-out-lt-LINE_ROOM
returns-then-out-lt-LINE_ROOM c = let all = too_small c.args.out.now (checked_line c.args.checked) c.if-out-lt-LINE_ROOM.true in
    record { value = all.0; out_after = all.1 }

pub returns-in-Ok : goal.returns-in-Ok
unfolding checked_line
returns-in-Ok c =
    let a = c.args in
    let put = c.put_accepted_table in
    let all = line-laid a.out.now put.new.out (accepted_table c.in-Ok.bytes.0) (checked_line a.checked) put.result
    c.if-out-lt-LINE_ROOM.false (sym (ap checked_line c.in-Ok.is)) (put.ensures.value, put.ensures.out_after) in
    record { value = all.0; out_after = all.1 }

pub returns-in-Err : goal.returns-in-Err
unfolding checked_line
returns-in-Err c =
    let a = c.args in
    let put = c.put_refused_table in
    let all = line-laid a.out.now put.new.out (refused_table c.in-Err.fault.number c.in-Err.fault.byte.0)
    (checked_line a.checked) put.result
    c.if-out-lt-LINE_ROOM.false (sym (ap checked_line c.in-Err.is)) (put.ensures.value, put.ensures.out_after) in
    record { value = all.0; out_after = all.1 }
