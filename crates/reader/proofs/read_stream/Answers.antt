-- 21 lists nothing. The table's notes are right once they are made, and then the index is.
use mathlib.Core.Path.{refl}
use native.Mathlib.Omega.{arith}
use Rattle.class_layout.specs.Fragments.{asked_at}
use Rattle.class_layout.proofs.Asked.{checked-accepts}
use Rattle.class_lookup.proofs.Index.{made-hints}
use Rattle.reader.proofs.Answered.{empty-answers, large-answers, checked-keeps}
use Rattle.reader.proofs.read_stream.Goals as goal

pub returns-then-stream-eq0 : goal.returns-then-stream-eq0
returns-then-stream-eq0 c =
    let a = c.args in
    empty-answers (asked_at a.table.now) a.stream.now a.list.now _ c.if-stream-eq0.true c.bad_size.ensures

pub returns-then-too_long : goal.returns-then-too_long
returns-then-too_long c =
    let a = c.args in
    large-answers (asked_at a.table.now) a.stream.now a.list.now _ c.if-too_long.true c.bad_size-then-too_long.ensures

pub prepare-requires : goal.prepare-requires
prepare-requires c =
    let k = (checked-accepts c.args.table.now _ c.requires).limit in
    record { table_value = c.requires; table_in_bounds = (k, k) }

pub make_index-requires : goal.make_index-requires
make_index-requires c = (c.prepare.ensures.ready.sized, refl)

pub read_prepared-requires : goal.read_prepared-requires
read_prepared-requires c =
    let t = c.args.table.now in
    record {
      ready = record { noted = c.prepare.ensures.ready; keeps = checked-keeps t _ c.requires };
      in_bounds = (omega (arith, c.if-stream-eq0.false), c.if-too_long.false);
      hints = made-hints t _ c.requires refl c.make_index.ensures;
    }
