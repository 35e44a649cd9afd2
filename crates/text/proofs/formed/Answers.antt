-- The whole is well-formed as the rest is, of which so much is due; at the end nothing may be.
use native.Mathlib.Omega.{arith}
use Rattle.text.proofs.Characters.{goes_first, goes-next, goes_last}
use Rattle.text.proofs.formed.Goals as goal

pub loop-byte-init : goal.loop-byte-init
loop-byte-init c = rw c.bytes_due-due.ensures (goes_first c.args.bytes.now)

pub loop-byte-preserved : goal.loop-byte-preserved
loop-byte-preserved c = rw c.behind-due.ensures (goes-next _ _ (omega arith) _ c.loop-byte.invariant)

pub returns : goal.returns
returns c = goes_last c.args.bytes.now c.loop-byte.byte-index (omega arith) _ c.loop-byte.invariant
