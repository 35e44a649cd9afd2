-- `bits::piece` meets its contract: bits of one byte are that byte shifted and cut.
use mathlib.Core.Path.{sym}
use native.Mathlib.Omega.{arith}
use Rattle.facts.proofs.Numbers.{one_shl}
use Rattle.bits.proofs.Laws.{little-piece, big-piece}
use Rattle.bits.proofs.piece.Goals as goal

pub returns-in-Little : goal.returns-in-Little
returns-in-Little c = rw (one_shl c.args.width (omega arith), c.in-Little.is, c.from-byte.ensures) (sym (little-piece _ _ _ c.requires.1))

pub returns-in-Big : goal.returns-in-Big
returns-in-Big c = rw (one_shl c.args.width (omega arith), c.in-Big.is, c.from-byte.ensures) (sym (big-piece _ _ _ c.requires.1))
