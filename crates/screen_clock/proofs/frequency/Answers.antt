-- What is found from here on is what is found at all.
use mathlib.Core.Path.{sym, ap, ◌∙◌}
use native.Mathlib.Omega.{arith}
use Prim.Native.Nat.{◌-◌}
use lib.ListN.{length}
use Rattle.screen_clock.specs.Frequency.{frequency_from}
use Rattle.screen_clock.proofs.Walked.{frequency-past}
use Rattle.screen_clock.proofs.Walked.{frequency-found, frequency-on, frequency-none}
use Rattle.screen_clock.proofs.frequency.Goals as goal

pub returns-then-table-at : goal.returns-then-table-at
returns-then-table-at c =
    frequency-past (length c.args.table.now - c.loop-turn._turn) c.args.table.now c.loop-turn.at c.args.clock c.if-table-at.true
    ∙ sym c.loop-turn.invariant

pub returns-then-is_clock : goal.returns-then-is_clock
returns-then-is_clock c =
    c.frequency_at.ensures ∙ frequency-found (length c.args.table.now - c.loop-turn._turn) (omega
    (arith, c.loop-turn-test.true)) c.args.table.now
    c.loop-turn.at c.args.clock (sym c.is_clock.ensures ∙ c.if-is_clock.true) ∙ sym c.loop-turn.invariant

pub loop-turn-preserved : goal.loop-turn-preserved
loop-turn-preserved c =
    c.loop-turn.invariant ∙ frequency-on (length c.args.table.now - c.loop-turn._turn) (omega
    (arith, c.loop-turn-test.true)) c.args.table.now c.loop-turn.at
    c.args.clock (sym c.is_clock.ensures ∙ c.if-is_clock.false)
    ∙ ap (λ k. frequency_from ((length c.args.table.now - c.loop-turn._turn) - 1) c.args.table.now k c.args.clock)
    (sym c.behind-at.ensures)
    ∙ ap (λ n. frequency_from n c.args.table.now c.behind-at.result c.args.clock) (omega arith)

pub returns : goal.returns
returns c =
    frequency-none (length c.args.table.now - c.loop-turn._turn) c.args.table.now c.loop-turn.at c.args.clock (omega
    (arith, c.loop-turn-test.false))
    ∙ sym c.loop-turn.invariant
