-- By the kind, then by the id.
use mathlib.Core.Path.{sym, ap, ◌∙◌}
use lib.Dec.{eqb}
use Rattle.screen_clock.proofs.Walked.{stream-here, no_stream}
use Rattle.screen_clock.proofs.is_stream.Goals as goal

pub returns-then-byte-eq-STREAM_CLASS : goal.returns-then-byte-eq-STREAM_CLASS
returns-then-byte-eq-STREAM_CLASS c =
    ap (λ n. eqb n c.args.id) c.number.ensures.0 ∙ stream-here c.args.table.now c.args.at c.args.id
    (sym c.byte.ensures ∙ c.if-byte-eq-STREAM_CLASS.true)

pub returns : goal.returns
returns c =
    no_stream c.args.table.now c.args.at c.args.id (λ e. c.if-byte-eq-STREAM_CLASS.false (c.byte.ensures ∙ e))
