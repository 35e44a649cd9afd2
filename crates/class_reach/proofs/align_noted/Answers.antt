-- By the word.
use mathlib.Core.Path.{ap, ◌∙◌}
use Rattle.class_layout.specs.Words.{align_of_word}
use Rattle.class_layout.specs.Notes.{align_noted}
use Rattle.class_reach.proofs.align_noted.Goals as goal

pub returns : goal.returns
unfolding align_noted
returns c = (c.align_of.ensures.0 ∙ ap align_of_word c.word_noted.ensures, c.align_of.ensures.1)
