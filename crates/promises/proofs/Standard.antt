-- The rules are as the standard says: shown beside the code of each crate, and gathered here.
use Rattle.bits.proofs.Standard.{unsigned-standard, signed-standard, word-signed}
use Rattle.places.proofs.Multiple.{aligning}
use Rattle.clock.proofs.Least.{new-clock}
use Rattle.text.proofs.Encoding.{text-is}
use Rattle.promises.specs.Standard.{AsStandard}

pub as-standard : AsStandard
as-standard = record {
  clock = new-clock;
  aligning = aligning;
  unsigned-bits = unsigned-standard;
  signed-bits = signed-standard;
  signed_word = word-signed;
  text = text-is;
}
