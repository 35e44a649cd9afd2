-- Entry 2 settles it, and no other.
use mathlib.Core.Path.{◌∙◌}
use Rattle.screen_list.proofs.Entries.{settled-anew, settled_before}
use Rattle.screen_head.specs.Head.{five_of}
use Rattle.screen_list.proofs.settle.Goals as goal

pub returns-then-entry-eq-STREAM_CLASS_FOUND : goal.returns-then-entry-eq-STREAM_CLASS_FOUND
returns-then-entry-eq-STREAM_CLASS_FOUND c =
    c.frequency_of.ensures
    ∙ settled-anew c.args.table.now c.args.frequency (five_of c.args.entry) c.if-entry-eq-STREAM_CLASS_FOUND.true

pub returns : goal.returns
returns c =
    settled_before c.args.table.now c.args.frequency (five_of c.args.entry) c.if-entry-eq-STREAM_CLASS_FOUND.false
