-- The five columns, one behind the other.
use native.Mathlib.Omega.{arith}
use lib.Dec.{lit≤}
use Rattle.screen_number.specs.Number.{decimal, left}
use Rattle.screen_head.specs.Kinds.{word}
use Rattle.screen_head.specs.Head.{head, column, value_of_kind}
use Rattle.screen_number.proofs.Laid.{laid, then}
use Rattle.screen_head.proofs.Words.{word-length}
use Rattle.screen_head.proofs.Columns.{left-length, column-length, value-length}
use Rattle.screen_head.proofs.put_head.Goals as goal

pub put_column-behind_place-requires : goal.put_column-behind_place-requires
put_column-behind_place-requires c =
    let kind = c.put_kind-behind_kind in
    record {
      at_in_bounds = omega (
        arith,
        c.requires,
        kind.ensures.value,
        kind.auto.out,
        left-length 15 (word c.args.entry.kind),
        word-length c.args.entry.kind,
      );
      width_bound = lit≤ tt;
    }

pub put_column-behind_bits-requires : goal.put_column-behind_bits-requires
put_column-behind_bits-requires c =
    let kind = c.put_kind-behind_kind in
    let column = c.put_column-behind_place in record {
      at_in_bounds = omega (
        arith,
        c.requires,
        kind.ensures.value,
        kind.auto.out,
        left-length 15 (word c.args.entry.kind),
        word-length c.args.entry.kind,
        column.ensures.value,
        column.auto.out,
        column-length 10 c.args.entry.place.0 (lit≤ tt),
      );
      width_bound = lit≤ tt;
    }

pub put_value-behind_value-requires : goal.put_value-behind_value-requires
put_value-behind_value-requires c =
    let kind = c.put_kind-behind_kind in
    let column = c.put_column-behind_place in
    let column2 = c.put_column-behind_bits in
    omega (
      arith,
      c.requires,
      kind.ensures.value,
      kind.auto.out,
      left-length 15 (word c.args.entry.kind),
      word-length c.args.entry.kind,
      column.ensures.value,
      column.auto.out,
      column-length 10 c.args.entry.place.0 (lit≤ tt),
      column2.ensures.value,
      column2.auto.out,
      column-length
          9 c.args.entry.bits (lit≤ tt),
    )

pub put_column-requires : goal.put_column-requires
put_column-requires c =
    let kind = c.put_kind-behind_kind in
    let column = c.put_column-behind_place in
    let column2 = c.put_column-behind_bits in
    let value = c.put_value-behind_value in record {
      at_in_bounds = omega (
        arith,
        c.requires,
        kind.ensures.value,
        kind.auto.out,
        left-length 15 (word c.args.entry.kind),
        word-length c.args.entry.kind,
        column.ensures.value,
        column.auto.out,
        column-length 10 c.args.entry.place.0 (lit≤ tt),
        column2.ensures.value,
        column2.auto.out,
        column-length
            9 c.args.entry.bits (lit≤ tt),
        value.ensures.value,
        value.auto.out,
        value-length c.args.entry.kind c.args.entry.value,
      );
      width_bound = lit≤ tt;
    }

pub returns : goal.returns
unfolding head
returns c =
    let a = c.args in
    let kind = c.put_kind-behind_kind in
    let place = c.put_column-behind_place in
    let bits = c.put_column-behind_bits in
    let value = c.put_value-behind_value in
    let number = c.put_column in
    let all = then (then (then (then
    (laid a.out.now kind.new.out a.at kind.result (left 15 (word a.entry.kind)) (kind.ensures.value, kind.ensures.out_after))
    (laid kind.new.out place.new.out kind.result place.result (column 10 (decimal a.entry.place.0))
    (place.ensures.value, place.ensures.out_after)))
    (laid place.new.out bits.new.out place.result bits.result (column 9 (decimal a.entry.bits))
    (bits.ensures.value, bits.ensures.out_after)))
    (laid bits.new.out value.new.out bits.result value.result (column 21 (value_of_kind a.entry.kind a.entry.value))
    (value.ensures.value, value.ensures.out_after)))
    (laid value.new.out number.new.out value.result number.result (column 5 (decimal a.entry.number))
    (number.ensures.value, number.ensures.out_after)) in
    record { value = all.end; out_after = all.list }
