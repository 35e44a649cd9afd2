-- In too little room nothing; else the line of what it was.
use Rattle.screen_verdict.specs.Verdict.{verdict, accepted_line, refused_line}
use Rattle.screen_verdict.proofs.Lines.{too_small, line-laid, verdict-accepted, verdict-refused}
use Rattle.screen_verdict.proofs.put_verdict.Goals as goal

pub returns-then-out-lt-LINE_ROOM : goal.returns-then-out-lt-LINE_ROOM
returns-then-out-lt-LINE_ROOM c = let all = too_small c.args.out.now (verdict c.args.r) c.if-out-lt-LINE_ROOM.true in
    record { value = all.0; out_after = all.1 }

pub returns-then-r-eq0 : goal.returns-then-r-eq0
returns-then-r-eq0 c =
    let a = c.args in
    let put = c.put_accepted in
    let all = line-laid a.out.now put.new.out (accepted_line a.r.entries a.r.place) (verdict a.r) put.result
    c.if-out-lt-LINE_ROOM.false (verdict-accepted a.r c.if-r-eq0.true) (put.ensures.value, put.ensures.out_after) in
    record { value = all.0; out_after = all.1 }

pub returns : goal.returns
returns c =
    let a = c.args in
    let put = c.put_refused in
    let all = line-laid a.out.now put.new.out (refused_line a.r.number a.r.entries a.r.place a.r.first a.r.second)
    (verdict a.r) put.result
    c.if-out-lt-LINE_ROOM.false (verdict-refused a.r c.if-r-eq0.false) (put.ensures.value, put.ensures.out_after) in
    record { value = all.0; out_after = all.1 }
