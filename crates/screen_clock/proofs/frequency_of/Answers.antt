-- The clock's id, and its frequency.
use mathlib.Core.Path.{ap, ◌∙◌}
use lib.ListN.{length}
use Rattle.screen_clock.specs.Frequency.{frequency_from, frequency_of}
use Rattle.screen_clock.proofs.frequency_of.Goals as goal

pub returns : goal.returns
unfolding frequency_of
returns c =
    c.frequency.ensures ∙ ap (λ k. frequency_from (length c.args.table.now) c.args.table.now 0 k)
    c.clock_of-clock.ensures
