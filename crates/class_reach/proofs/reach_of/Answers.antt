-- One law for each kind; the last arm's kind is 32.
use mathlib.Core.Path.{◌≡◌, refl, sym, ap, ◌∙◌}
use Prim.Native.Nat.{◌+◌}
use native.Mathlib.Omega.{arith}
use Rattle.rules.specs.Record.{u8}
use Rattle.class_layout.specs.Words.{sets_one}
use Rattle.class_layout.specs.Notes.{notes}
use Rattle.class_layout.proofs.Reached.{bits-reach, bytes-reach, structure-reach, array-reach, dynamic-reach, optional-reach, variant-reach}
use Rattle.class_reach.proofs.reach_of.Goals as goal

-- Kinds 16 to 20

pub record_size-requires : goal.record_size-requires
unfolding u8
record_size-requires c = (c.requires.2, c.requires.3)

pub returns-then-kind-lt-FIRST_OF_BYTES : goal.returns-then-kind-lt-FIRST_OF_BYTES
unfolding u8
returns-then-kind-lt-FIRST_OF_BYTES c =
    let a = c.args in
    let r = bits-reach a.table.now (notes a.sizes.now a.aligns.now) a.at _ refl c.requires.2 c.if-kind-lt-FIRST_OF_BYTES.true in
    let set = c.sets_one.ensures in
    record {
      end = ap (λ n. a.at + n) c.record_size.ensures.0 ∙ sym r.0;
      align = c.wide64.ensures.0 ∙ c.byte.ensures ∙ sym r.1;
      sets = (set.0 ∙ ap sets_one c.slot_named.ensures ∙ sym r.2, set.1);
      onward = omega arith;
    }

-- Kinds 21 to 27

pub returns-then-kind-lt-FIRST_THAT_HOLDS : goal.returns-then-kind-lt-FIRST_THAT_HOLDS
unfolding u8
returns-then-kind-lt-FIRST_THAT_HOLDS c =
    let a = c.args in
    let r = bytes-reach a.table.now (notes a.sizes.now a.aligns.now) a.at _ refl c.if-kind-lt-FIRST_OF_BYTES.false
    c.if-kind-lt-FIRST_THAT_HOLDS.true in
    let set = c.sets_one-then-kind-lt-FIRST_THAT_HOLDS.ensures in
    record {
      end = ap (λ n. a.at + n) c.record_size-then-kind-lt-FIRST_THAT_HOLDS.ensures.0 ∙ sym r.0;
      align = sym r.1;
      sets = (set.0 ∙ ap sets_one c.slot_named-then-kind-lt-FIRST_THAT_HOLDS.ensures ∙ sym r.2, set.1);
      onward = omega arith;
    }

-- Kinds 28 to 32

pub returns-in-28 : goal.returns-in-28
unfolding u8
returns-in-28 c =
    let a = c.args in
    let r = structure-reach a.table.now (notes a.sizes.now a.aligns.now) a.at c.in-28.is in
    let m = c.reach_members-members.ensures in
    let n = c.wide_byte.ensures.0 in
    record {
      end = rw (m.end, n) r.0;
      align = rw (c.max.ensures, c.wide64-in-28.ensures.0, c.byte-in-28.ensures, m.align, n) r.1;
      sets = (rw (m.sets.0, n) r.2, m.sets.1);
      onward = omega (arith, m.onward);
    }

pub returns-in-29 : goal.returns-in-29
unfolding u8
returns-in-29 c =
    let a = c.args in
    let r = array-reach a.table.now (notes a.sizes.now a.aligns.now) a.at c.in-29.is in
    let set = c.sets_noted.ensures in
    record {
      end = c.end_noted.ensures.0 ∙ r.0;
      align = rw (c.max-in-29.ensures, c.wide64-in-29.ensures.0, c.byte-in-29.ensures, c.align_noted.ensures.0) r.1;
      sets = (set.0 ∙ r.2, set.1);
      onward = omega (arith, c.end_noted.ensures.0);
    }

pub returns-in-30 : goal.returns-in-30
unfolding u8
returns-in-30 c =
    let a = c.args in
    let r = dynamic-reach a.table.now (notes a.sizes.now a.aligns.now) a.at c.in-30.is in
    let set = c.sets_noted-in-30.ensures in
    record {
      end = c.end_noted-in-30.ensures.0 ∙ r.0;
      align = rw (c.max-in-30.ensures, c.wide64-in-30.ensures.0, c.byte-in-30.ensures, c.align_noted-in-30.ensures.0) r.1;
      sets = (set.0 ∙ r.2, set.1);
      onward = omega (arith, c.end_noted-in-30.ensures.0);
    }

pub returns-in-31 : goal.returns-in-31
unfolding u8
returns-in-31 c =
    let a = c.args in
    let r = optional-reach a.table.now (notes a.sizes.now a.aligns.now) a.at c.in-31.is in
    let n = c.wide_byte-in-31.ensures.0 in
    let set = c.sets_noted-in-31.ensures in
    record {
      end = rw (c.end_noted-in-31.ensures.0, n) r.0;
      align = r.1;
      sets = (rw (set.0, n) r.2, set.1);
      onward = omega (arith, c.end_noted-in-31.ensures.0);
    }

pub returns-in_default : goal.returns-in_default
unfolding u8
returns-in_default c =
    let a = c.args in
    let kind : u8 a.table.now a.at ≡ 32 = omega arith in
    let r = variant-reach a.table.now (notes a.sizes.now a.aligns.now) a.at kind in
    let o = c.reach_options.ensures in
    let n = c.wide_byte-in_default.ensures.0 in
    record {
      end = rw (o.end, n) r.0;
      align = o.align ∙ r.1;
      sets = (rw (o.sets.0, n) r.2, o.sets.1);
      onward = omega (arith, o.onward);
    }
