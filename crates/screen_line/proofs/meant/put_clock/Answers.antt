-- Nothing without a frequency.
use Rattle.screen_number.specs.Number.{bytes}
use Rattle.screen_meaning.specs.Seconds.{seconds}
use Rattle.screen_line.proofs.Sorted.{no-clock-meant, clock-meant}
use Rattle.screen_line.proofs.Parts.{laid_none}
use Rattle.screen_number.proofs.Laid.{laid, then, shown-as}
use Rattle.screen_line.proofs.meant.put_clock.Goals as goal

pub returns-then-frequency-eq0 : goal.returns-then-frequency-eq0
returns-then-frequency-eq0 c =
    let all = shown-as
    (laid_none c.args.out.now c.args.at)
    (no-clock-meant c.args.frequency c.args.clock c.if-frequency-eq0.true) in
    record { value = all.end; out_after = all.list }

pub returns : goal.returns
unfolding bytes
returns c =
    let all = shown-as
    (then
    (laid c.args.out.now c.put_bytes-a.new.out c.args.at c.put_bytes-a.result
    (bytes "  ") (c.put_bytes-a.ensures.value, c.put_bytes-a.ensures.out_after))
    (laid c.put_bytes-a.new.out c.put_seconds.new.out c.put_bytes-a.result
    c.put_seconds.result
    (seconds c.args.frequency c.args.clock) (c.put_seconds.ensures.value, c.put_seconds.ensures.out_after)))
    (clock-meant c.args.frequency c.args.clock c.if-frequency-eq0.false) in
    record { value = all.end; out_after = all.list }
