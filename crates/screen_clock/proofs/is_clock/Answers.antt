-- By the kind, then by the id.
use mathlib.Core.Path.{sym, ap, ◌∙◌}
use lib.Dec.{eqb}
use Rattle.screen_clock.proofs.Walked.{clock-here, no-clock}
use Rattle.screen_clock.proofs.is_clock.Goals as goal

pub returns-then-byte-eq-CLOCK_CLASS : goal.returns-then-byte-eq-CLOCK_CLASS
returns-then-byte-eq-CLOCK_CLASS c =
    ap (λ n. eqb n c.args.clock) c.byte-then-byte-eq-CLOCK_CLASS.ensures ∙ clock-here c.args.table.now c.args.at c.args.clock
    (sym c.byte.ensures ∙ c.if-byte-eq-CLOCK_CLASS.true)

pub returns : goal.returns
returns c =
    no-clock c.args.table.now c.args.at c.args.clock (λ e. c.if-byte-eq-CLOCK_CLASS.false (c.byte.ensures ∙ e))
