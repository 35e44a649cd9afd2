-- By the word.
use mathlib.Core.Path.{ap, ◌∙◌}
use Rattle.class_layout.specs.Words.{sets_of_word}
use Rattle.class_layout.specs.Notes.{sets_noted}
use Rattle.class_reach.proofs.sets_noted.Goals as goal

pub returns : goal.returns
unfolding sets_noted
returns c = (c.sets_of.ensures.0 ∙ ap sets_of_word c.word_noted.ensures, c.sets_of.ensures.1)
