-- Both in one word.
use borrow.Author.Rules.{rules}
use Rattle.class_layout.specs.Words.{word_of}
use Rattle.class_layout.proofs.words.word_of.Goals as goal

pub returns : goal.returns
unfolding word_of
returns c = search rules
