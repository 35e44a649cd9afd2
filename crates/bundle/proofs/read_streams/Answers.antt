-- The invariant: the readings of all streams are those so far, and then those of the streams that are left.
use native.Mathlib.Omega.{arith}
use Rattle.bundle.proofs.Streams.{going_start, going_next, going_end}
use Rattle.bundle.proofs.read_streams.Goals as goal

pub loop-i-init : goal.loop-i-init
loop-i-init c = going_start _ _ _ _ _ _

pub read_one-requires : goal.read_one-requires
read_one-requires c = (c.requires.0, c.requires.1, omega (arith, c.requires.2, c.loop-i.invariant.marked))

pub loop-i-preserved : goal.loop-i-preserved
loop-i-preserved c =
    going_next c.loop-i.invariant c.loop-i-test.true c.fitting-bytes.ensures c.fitting-words.ensures
    c.read_one.ensures c.read_one.auto.list c.read_one.auto.marks

pub returns : goal.returns
returns c = going_end c.loop-i.invariant c.loop-i-test.false
