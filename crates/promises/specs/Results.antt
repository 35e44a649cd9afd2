-- What public functions answer by an equation: the types of their results, each once. A statement over all types would not be a fact that a
-- contract can hold; these are all that there are (tools/pub-functions holds them to the sources).
use Rattle.std.specs.Prelude.{ℕ, List, Bool, Option, Result}
use Rattle.rules.specs.declared.BitPlace.{BitPlace}
use Rattle.rules.specs.declared.ByteLength.{ByteLength}
use Rattle.rules.specs.declared.Leb.{Leb}
use Rattle.rules.specs.declared.Said.{Said}
use Rattle.rules.specs.declared.Content.{Content}
use Rattle.rules.specs.declared.Refusal.{Refusal}
use Rattle.rules.specs.declared.Report.{Report}
use Rattle.rules.specs.declared.TableFault.{TableFault}
use Rattle.rules.specs.declared.NoBundle.{NoBundle}
use Rattle.clock.specs.declared.Clock.{Clock}
use Rattle.text.specs.declared.Text.{Text}
use Rattle.listing.specs.declared.Progress.{Progress}
use Rattle.listing.specs.declared.role.Advanced.{Advanced}
use Rattle.table_offsets.specs.declared.Says.{Says}
use Rattle.frame.specs.declared.Frame.{Frame}
use Rattle.leaf_find_number.specs.declared.Found.{Found}
use Rattle.leaf_after.specs.declared.Seen.{Seen}
use Rattle.leaf_after.specs.declared.Leaves.{Leaves}
use Rattle.field_choice.specs.declared.Choice.{Choice}
use Rattle.field_inside.specs.declared.look.Inside.{Inside}
use Rattle.field_inside.specs.declared.opening.Opened.{Opened}
use Rattle.field_inside.specs.declared.opening.Entered.{Entered}
use Rattle.field_runs.specs.declared.Run.{Run}
use Rattle.outcome.specs.declared.Ran.{Ran}
use Rattle.event_turns.specs.declared.Turn.{Turn}

pub data Answer : Type 0 where
  number test list : Answer
  bit_place byte_length leb text content said checked result bundled : Answer
  clock slot_number state advanced : Answer
  place says : Answer
  frame found seen leaves choice inside opened entered run ran turn : Answer

unfoldable pub Of : Answer → Type 0
Of number = ℕ
Of test = Bool
Of list = List ℕ
Of bit_place = BitPlace
Of byte_length = ByteLength
Of leb = Leb
Of text = Text
Of content = Content
Of said = Said
Of checked = Result ByteLength TableFault
Of result = Report
Of bundled = Result ByteLength NoBundle
Of clock = Option Clock
Of slot_number = Result ℕ Refusal
Of state = Progress
Of advanced = Advanced
Of place = Option ℕ
Of says = Says
Of frame = Frame
Of found = Found
Of seen = Seen
Of leaves = Leaves
Of choice = Choice
Of inside = Inside
Of opened = Opened
Of entered = Entered
Of run = Run
Of ran = Ran
Of turn = Turn
