-- The tests of the definition, in its order; the place is tested by a difference there and by a sum here.
use Prim.Native.Nat.{◌+◌}
use native.Mathlib.Omega.{arith}
use borrow.Author.Tests.{eq-eqb, ne_eqb}
use Rattle.table_offsets.specs.Check.{magic_ok}
use Rattle.table_offsets.proofs.Picked.{eqb-shift}
use Rattle.check_class.proofs.roles.magic_ok.Goals as goal

pub returns-then-root-ne-PACKET_HEADER : goal.returns-then-root-ne-PACKET_HEADER
unfolding magic_ok
returns-then-root-ne-PACKET_HEADER c = simp (ne_eqb _ _ c.if-root-ne-PACKET_HEADER.true)

pub returns-then-kind-ne-UNSIGNED : goal.returns-then-kind-ne-UNSIGNED
unfolding magic_ok
returns-then-kind-ne-UNSIGNED c = simp (eq-eqb _ _ c.if-root-ne-PACKET_HEADER.false, ne_eqb _ _ c.if-kind-ne-UNSIGNED.true)

pub returns-then-length-ne-MAGIC_BITS : goal.returns-then-length-ne-MAGIC_BITS
unfolding magic_ok
returns-then-length-ne-MAGIC_BITS c =
    simp (
      eq-eqb _ _ c.if-root-ne-PACKET_HEADER.false,
      eq-eqb _ _ c.if-kind-ne-UNSIGNED.false,
      ne_eqb _ _ c.if-length-ne-MAGIC_BITS.true,
    )

pub returns-then-at-start : goal.returns-then-at-start
unfolding magic_ok
returns-then-at-start c =
    let if2 = c.if-kind-ne-UNSIGNED in
    let if1 = c.if-root-ne-PACKET_HEADER in
    let args = c.args in
    let far = ne_eqb args.at (args.start + 3) (omega arith) in
    simp (eq-eqb _ _ if1.false, eq-eqb _ _ if2.false, eq-eqb _ _ c.if-length-ne-MAGIC_BITS.false, far)

pub returns : goal.returns
unfolding magic_ok
returns c =
    let if2 = c.if-kind-ne-UNSIGNED in
    let if1 = c.if-root-ne-PACKET_HEADER in
    simp (eq-eqb _ _ if1.false, eq-eqb _ _ if2.false, eq-eqb _ _ c.if-length-ne-MAGIC_BITS.false) (eqb-shift _ _ c.if-at-start.false)
