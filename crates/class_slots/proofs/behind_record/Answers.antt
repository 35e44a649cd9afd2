-- The record's kind and its body.
use mathlib.Core.Path.{ap, ◌∙◌}
use Prim.Native.Nat.{◌+◌}
use Rattle.rules.specs.Record.{u8}
use Rattle.table_offsets.specs.Bodies.{body_mark}
use Rattle.class_slots.proofs.behind_record.Goals as goal

pub returns : goal.returns
unfolding u8
returns c = ap (λ n. c.args.at + 1 + n) (c.wide.ensures.0 ∙ c.mark_of.ensures ∙ ap body_mark c.byte.ensures)
