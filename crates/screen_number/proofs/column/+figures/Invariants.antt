-- The number falls.
use Rattle.screen_number.proofs.column.+figures.Given as goal

abbrev pub decreases-figures : goal.decreases-figures
decreases-figures l = l.n
