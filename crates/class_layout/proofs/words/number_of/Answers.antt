-- What is above both.
use borrow.Author.Rules.{rules}
use Rattle.class_layout.specs.Words.{number_of_word}
use Rattle.class_layout.proofs.words.number_of.Goals as goal

pub returns : goal.returns
unfolding number_of_word
returns c = search rules
