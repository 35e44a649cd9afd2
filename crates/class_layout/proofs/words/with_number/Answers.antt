-- The number above what the word had below it.
use borrow.Author.Rules.{rules}
use Rattle.class_layout.specs.Words.{numbered_word}
use Rattle.class_layout.proofs.words.with_number.Goals as goal

pub returns : goal.returns
unfolding numbered_word
returns c = search rules
