-- As many as the words are, or as many as are asked for.
use lib.ListN.{length}
use Rattle.screen_list.proofs.Entries.{entries-words, entries-asked}
use Rattle.screen_list.proofs.entries_in.Goals as goal

pub returns-then-all-entries : goal.returns-then-all-entries
returns-then-all-entries c = entries-words (length c.args.list.now) c.args.entries c.if-all-entries.true

pub returns : goal.returns
returns c = entries-asked (length c.args.list.now) c.args.entries c.if-all-entries.false
