-- Those that name numbers, each by its own sentence, and the others.
use mathlib.Core.Path.{ap, ◌∙◌}
use lib.ListN.{length}
use native.Mathlib.Omega.{arith}
use Rattle.screen_number.proofs.Laid.{same_text}
use Rattle.screen_verdict.specs.Sentences.{reason, table_refused, bound_crossed, no_stream_class, no_event_class}
use Rattle.screen_verdict.proofs.Sentences.{reason-20, reason-22, reason-33, reason-37, reason-plain, plain-length}
use Rattle.screen_verdict.proofs.reasons.put_reason.Goals as goal

pub returns-in-20 : goal.returns-in-20
returns-in-20 c =
    let a = c.args in
    let put = c.put_table_refused in
    let all = same_text a.out.now put.new.out a.at put.result (table_refused a.r.first)
    (reason a.r.number a.r.place a.r.first a.r.second)
    (reason-20 a.r.number a.r.place a.r.first a.r.second c.in-20.is) (put.ensures.value, put.ensures.out_after) in
    record { value = all.0; out_after = all.1 }

pub returns-in-22 : goal.returns-in-22
returns-in-22 c =
    let a = c.args in
    let put = c.put_bound_crossed in
    let all = same_text a.out.now put.new.out a.at put.result (bound_crossed a.r.place)
    (reason a.r.number a.r.place a.r.first a.r.second)
    (reason-22 a.r.number a.r.place a.r.first a.r.second c.in-22.is) (put.ensures.value, put.ensures.out_after) in
    record { value = all.0; out_after = all.1 }

pub returns-in-33 : goal.returns-in-33
returns-in-33 c =
    let a = c.args in
    let put = c.put_no_stream_class in
    let all = same_text a.out.now put.new.out a.at put.result (no_stream_class a.r.first)
    (reason a.r.number a.r.place a.r.first a.r.second)
    (reason-33 a.r.number a.r.place a.r.first a.r.second c.in-33.is) (put.ensures.value, put.ensures.out_after) in
    record { value = all.0; out_after = all.1 }

pub returns-in-37 : goal.returns-in-37
returns-in-37 c =
    let a = c.args in
    let put = c.put_no_event_class in
    let all = same_text a.out.now put.new.out a.at put.result (no_event_class a.r.first a.r.second)
    (reason a.r.number a.r.place a.r.first a.r.second)
    (reason-37 a.r.number a.r.place a.r.first a.r.second c.in-37.is) (put.ensures.value, put.ensures.out_after) in
    record { value = all.0; out_after = all.1 }

pub put_bytes-requires : goal.put_bytes-requires
put_bytes-requires c = omega (arith, c.requires, ap length c.plain_reason.ensures, plain-length c.args.r.number)

pub returns-in_default : goal.returns-in_default
returns-in_default c =
    let a = c.args in
    let put = c.put_bytes in
    let all = same_text a.out.now put.new.out a.at put.result c.plain_reason.result.now
    (reason a.r.number a.r.place a.r.first a.r.second)
    (c.plain_reason.ensures ∙ reason-plain a.r.number a.r.place a.r.first a.r.second (omega arith) (omega arith)
    (omega arith) (omega arith)) (put.ensures.value, put.ensures.out_after) in
    record { value = all.0; out_after = all.1 }
