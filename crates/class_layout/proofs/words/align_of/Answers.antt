-- The lowest three bits of a word.
use borrow.Author.Rules.{rules}
use Rattle.class_layout.specs.Words.{align_of_word}
use Rattle.class_layout.proofs.words.align_of.Goals as goal

pub returns : goal.returns
unfolding align_of_word
returns c = search rules
