-- Every promise, each by its proof.
use Rattle.promises.specs.Promises.{Promises}
use Rattle.promises.proofs.Edited.{editions}
use Rattle.promises.proofs.Figures.{figures}
use Rattle.promises.proofs.Leave.{nothing_left}
use Rattle.promises.proofs.Exact.{demand-3}
use Rattle.promises.proofs.Finds.{demand-3-figures}
use Rattle.promises.proofs.Laws.{the_laws}
use Rattle.promises.proofs.Elements.{elements}
use Rattle.promises.proofs.SlotHomes.{slot-homes}
use Rattle.promises.proofs.Placed.{placed}
use Rattle.promises.proofs.Sizes.{stream-sizes}
use Rattle.promises.proofs.Records.{records}
use Rattle.promises.proofs.Promised.{demands}
use Rattle.promises.proofs.Only.{no-slack}
use Rattle.promises.proofs.OnlyRan.{no-slack-ran}
use Rattle.promises.proofs.Cases.{cases}
use Rattle.promises.proofs.Rejected.{rejected}
use Rattle.promises.proofs.Standard.{as-standard}
use Rattle.promises.proofs.Numbers.{numbers}
use Rattle.promises.proofs.Parts.{bits-cut, leb-settled, check-tied, table-stands}
use Rattle.promises.proofs.Apart.{apart, apart-figures}
use Rattle.promises.proofs.ApartCalls.{apart-calls}
use Rattle.promises.proofs.Smallest.{smallest-bundle}
use Rattle.promises.proofs.BundleFigures.{bundle-figures}
use Rattle.promises.proofs.SmallestCalls.{smallest-calls}

pub all-promises : Promises
all-promises = record {
  demands = demands;
  as-standard = as-standard;
  numbers = numbers;
  demand-3 = demand-3;
  nothing_left = nothing_left;
  editions = editions;
  demand-3-figures = demand-3-figures;
  rejected = rejected;
  no-slack = no-slack;
  no-slack-ran = no-slack-ran;
  figures = figures;
  cases = cases;
  the_laws = the_laws;
  elements = elements;
  slot-homes = slot-homes;
  places = placed;
  stream-sizes = stream-sizes;
  records = records;
  bits-cut = bits-cut;
  leb-settled = leb-settled;
  apart = apart;
  apart-figures = apart-figures;
  apart-calls = apart-calls;
  smallest-bundle = smallest-bundle;
  bundle-figures = bundle-figures;
  smallest-calls = smallest-calls;
  check-tied = check-tied;
  table-stands = table-stands;
}
