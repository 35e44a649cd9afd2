-- The thirteen bits above them.
use borrow.Author.Rules.{rules}
use Rattle.class_layout.specs.Words.{sets_of_word}
use Rattle.class_layout.proofs.words.sets_of.Goals as goal

pub returns : goal.returns
unfolding sets_of_word
returns c = search rules
