-- The tests of the definition, in its order.
use borrow.Author.Tests.{eq-eqb, ne_eqb}
use Rattle.table_offsets.specs.Check.{blob_ok, pick_b}
use Rattle.check_class.proofs.roles.blob_ok.Goals as goal

pub returns-then-role-eq-NO_ROLE : goal.returns-then-role-eq-NO_ROLE
unfolding blob_ok pick_b
returns-then-role-eq-NO_ROLE c = simp (eq-eqb _ _ c.if-role-eq-NO_ROLE.true)

pub returns-then-role-ne-UUID : goal.returns-then-role-ne-UUID
unfolding blob_ok pick_b
returns-then-role-ne-UUID c = simp (ne_eqb _ _ c.if-role-eq-NO_ROLE.false, ne_eqb _ _ c.if-role-ne-UUID.true)

pub returns-then-root-ne-PACKET_HEADER : goal.returns-then-root-ne-PACKET_HEADER
unfolding blob_ok pick_b
returns-then-root-ne-PACKET_HEADER c =
    simp (
      ne_eqb _ _ c.if-role-eq-NO_ROLE.false,
      eq-eqb _ _ c.if-role-ne-UUID.false,
      ne_eqb _ _ c.if-root-ne-PACKET_HEADER.true,
    )

pub returns-then-count-ne-UUID_BYTES : goal.returns-then-count-ne-UUID_BYTES
unfolding blob_ok pick_b
returns-then-count-ne-UUID_BYTES c =
    let if2 = c.if-role-ne-UUID in
    let if1 = c.if-role-eq-NO_ROLE in
    simp (ne_eqb _ _ if1.false, eq-eqb _ _ if2.false, eq-eqb _ _ c.if-root-ne-PACKET_HEADER.false, ne_eqb _ _ c.if-count-ne-UUID_BYTES.true)

pub returns : goal.returns
unfolding blob_ok pick_b
returns c =
    let if2 = c.if-role-ne-UUID in
    let if1 = c.if-role-eq-NO_ROLE in
    simp (
      ne_eqb _ _ if1.false,
      eq-eqb _ _ if2.false,
      eq-eqb _ _ c.if-root-ne-PACKET_HEADER.false,
      eq-eqb _ _ c.if-count-ne-UUID_BYTES.false,
    )
