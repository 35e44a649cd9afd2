-- What was found has the UUID's bytes, or other ones.
use mathlib.Core.Path.{refl}
use Rattle.leaf_after.specs.Seeing.{seen}
use Rattle.leaf_see_bytes.proofs.Uuid.{found_within, uuid-seen, other-seen}
use Rattle.leaf_see_bytes.proofs.uuid_blob.Goals as goal

pub same-requires : goal.same-requires
same-requires c = found_within _ c.in-At.is c.bytes_before-at.ensures c.requires

pub returns-then-same : goal.returns-then-same
returns-then-same c =
    rw c.plain.ensures (uuid-seen _ _ _ _ _ _ _ c.in-At.is c.bytes_before-at.ensures c.same.ensures c.if-same.true)

pub returns-in-Refused : goal.returns-in-Refused
unfolding seen
returns-in-Refused c = rw c.in-Refused.is refl

pub returns-else-same : goal.returns-else-same
returns-else-same c =
    rw c.from.ensures (other-seen _ _ _ _ _ _ _ c.in-At.is c.bytes_before-at.ensures c.same.ensures c.if-same.false)
