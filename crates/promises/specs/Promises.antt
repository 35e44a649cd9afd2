-- All that is promised, as one record: a field a statement. The contract of `promises_calls::read_once` cites it, so that the checker
-- itself asks for the proof of each. docs/PROMISES.md says in plain words what each one says, and names its proof; tools/promises holds
-- the page to this record.
use Rattle.promises.specs.Edition.{NothingLeft, Editions}
use Rattle.promises.specs.Missing.{Demand3, Demand3Figures}
use Rattle.promises.specs.Demands.{Demands}
use Rattle.promises.specs.Standard.{AsStandard}
use Rattle.promises.specs.Numbers.{Numbers}
use Rattle.promises.specs.Rejected.{Rejected}
use Rattle.promises.specs.Only.{NoSlack}
use Rattle.promises.specs.OnlyRan.{NoSlackRan}
use Rattle.promises.specs.Figures.{Figures}
use Rattle.promises.specs.Cases.{Cases}
use Rattle.promises.specs.Laws.{TheLaws}
use Rattle.promises.specs.Elements.{Elements}
use Rattle.promises.specs.SlotHomes.{SlotHomes}
use Rattle.promises.specs.Places.{Places}
use Rattle.promises.specs.Sizes.{StreamSizes}
use Rattle.promises.specs.Records.{Records}
use Rattle.promises.specs.Parts.{BitsCut, LebSettled, CheckTied, TableStands}
use Rattle.promises.specs.Apart.{Apart, ApartFigures, ApartOfCalls}
use Rattle.promises.specs.Smallest.{SmallestBundle}
use Rattle.promises.specs.SmallestCalls.{SmallestCalls}
use Rattle.promises.specs.BundleFigures.{BundleFigures}

pub record Promises : Type 0 where
  -- the three demands, of every call that meets the contract of `read`
  pub demands : Demands
  -- demand 2: as the standard says, and by the paper's numbers
  pub as-standard : AsStandard
  pub numbers : Numbers
  -- demand 3: of the rules alone; editions of a table; the paper's figure
  pub demand-3 : Demand3
  pub nothing_left : NothingLeft
  pub editions : Editions
  pub demand-3-figures : Demand3Figures
  -- that they are not empty, and leave no slack
  pub rejected : Rejected
  pub no-slack : NoSlack
  pub no-slack-ran : NoSlackRan
  -- of the rules
  pub figures : Figures
  pub cases : Cases
  pub the_laws : TheLaws
  pub elements : Elements
  pub slot-homes : SlotHomes
  pub places : Places
  pub stream-sizes : StreamSizes
  pub records : Records
  -- packets stand on their own: of the rules alone, and of every two calls that meet the contract of `read`
  pub apart : Apart
  pub apart-figures : ApartFigures
  pub apart-calls : ApartOfCalls
  -- the smallest bundle: of the rules alone, and of every call that meets the contract of `bundle`
  pub smallest-bundle : SmallestBundle
  pub bundle-figures : BundleFigures
  pub smallest-calls : SmallestCalls
  -- of the code
  pub bits-cut : BitsCut
  pub leb-settled : LebSettled
  pub check-tied : CheckTied
  pub table-stands : TableStands
