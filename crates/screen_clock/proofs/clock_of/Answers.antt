-- What is found from here on is what is found at all.
use mathlib.Core.Path.{sym, ap, ◌∙◌}
use native.Mathlib.Omega.{arith}
use Prim.Native.Nat.{◌-◌}
use lib.ListN.{length}
use Rattle.screen_clock.specs.Frequency.{clock_from}
use Rattle.screen_clock.proofs.Walked.{clock-past, clock-found, clock-on}
use Rattle.screen_clock.proofs.Walked.{clock-none}
use Rattle.screen_clock.proofs.clock_of.Goals as goal

pub returns-then-table-at : goal.returns-then-table-at
returns-then-table-at c =
    clock-past (length c.args.table.now - c.loop-turn._turn) c.args.table.now c.loop-turn.at c.args.id c.if-table-at.true
    ∙ sym c.loop-turn.invariant

pub returns-then-is_stream : goal.returns-then-is_stream
returns-then-is_stream c =
    c.byte.ensures ∙ clock-found (length c.args.table.now - c.loop-turn._turn) (omega
    (arith, c.loop-turn-test.true)) c.args.table.now c.loop-turn.at
    c.args.id (sym c.is_stream.ensures ∙ c.if-is_stream.true) ∙ sym c.loop-turn.invariant

pub loop-turn-preserved : goal.loop-turn-preserved
loop-turn-preserved c =
    c.loop-turn.invariant ∙ clock-on (length c.args.table.now - c.loop-turn._turn) (omega
    (arith, c.loop-turn-test.true)) c.args.table.now c.loop-turn.at
    c.args.id (sym c.is_stream.ensures ∙ c.if-is_stream.false)
    ∙ ap (λ k. clock_from ((length c.args.table.now - c.loop-turn._turn) - 1) c.args.table.now k c.args.id) (sym c.behind-at.ensures)
    ∙ ap (λ n. clock_from n c.args.table.now c.behind-at.result c.args.id) (omega arith)

pub returns : goal.returns
returns c =
    clock-none (length c.args.table.now - c.loop-turn._turn) c.args.table.now c.loop-turn.at c.args.id (omega
    (arith, c.loop-turn-test.false))
    ∙ sym c.loop-turn.invariant
