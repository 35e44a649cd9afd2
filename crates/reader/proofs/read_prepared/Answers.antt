-- The trace class, if there is one, lends its UUID and its header.
use native.Mathlib.Omega.{arith}
use Rattle.class_layout.specs.Notes.{notes}
use Rattle.reader.proofs.Answered.{lent_none, trace-sized, trace-there, lent-bare, uuid-there, lent-uuid}
use Rattle.reader.proofs.read_prepared.Goals as goal

pub read_by-requires : goal.read_by-requires
read_by-requires c =
    let a = c.args in
    let x = notes a.sizes.now a.aligns.now in
    let r = c.requires in
    record {
      lent = lent_none a.table.now x a.stream.now r.ready r.in_bounds.1 _ c.find_trace_class.ensures
          c.in-None.is;
      in_bounds = r.in_bounds.0;
      hints = r.hints;
    }

pub root_place-header-requires : goal.root_place-header-requires
root_place-header-requires c =
    let a = c.args in
    let x = notes a.sizes.now a.aligns.now in
    let r = c.requires in
    let g = r.ready.noted.sized in (
      trace-sized a.table.now x a.stream.now r.ready r.in_bounds.1 _ c.find_trace_class.ensures _ c.in-Some.is,
      g.limit,
      g.room,
    )

pub uuid_place-requires : goal.uuid_place-requires
uuid_place-requires c =
    let a = c.args in
    let x = notes a.sizes.now a.aligns.now in
    let r = c.requires in
    omega (
      arith,
      trace-there a.table.now x a.stream.now r.ready r.in_bounds.1 _ c.find_trace_class.ensures _ c.in-Some.is,
    )

pub read_by-requires-in-None-uuid_place : goal.read_by-requires-in-None-uuid_place
read_by-requires-in-None-uuid_place c =
    let a = c.args in
    let x = notes a.sizes.now a.aligns.now in
    let r = c.requires in
    record {
      lent = lent-bare a.table.now x a.stream.now r.ready r.in_bounds.1 _ c.find_trace_class.ensures _ c.in-Some.is
          _ c.root_place-header.ensures _ c.uuid_place.ensures c.in-None-uuid_place.is;
      in_bounds = r.in_bounds.0;
      hints = r.hints;
    }

-- the UUID lies in the table
pub overflow_add-at : goal.overflow_add-at
overflow_add-at c =
    let a = c.args in
    let x = notes a.sizes.now a.aligns.now in
    let r = c.requires in
    let l = uuid-there a.table.now x a.stream.now r.ready r.in_bounds.1 _ c.find_trace_class.ensures _ c.in-Some.is
    _ c.root_place-header.ensures _ c.uuid_place.ensures _ c.in-Some-uuid_place.is in
    omega (arith, l, r.ready.noted.sized.limit)

pub slice_bounds-read_by-end-in-Some-uuid_place : goal.slice_bounds-read_by-end-in-Some-uuid_place
slice_bounds-read_by-end-in-Some-uuid_place c =
    let a = c.args in
    let x = notes a.sizes.now a.aligns.now in
    let r = c.requires in
    let l = uuid-there a.table.now x a.stream.now r.ready r.in_bounds.1 _ c.find_trace_class.ensures _ c.in-Some.is
    _ c.root_place-header.ensures _ c.uuid_place.ensures _ c.in-Some-uuid_place.is in
    omega (arith, l)

pub read_by-requires-in-Some-uuid_place : goal.read_by-requires-in-Some-uuid_place
read_by-requires-in-Some-uuid_place c =
    let a = c.args in
    let x = notes a.sizes.now a.aligns.now in
    let r = c.requires in
    record {
      lent = lent-uuid a.table.now x a.stream.now r.ready r.in_bounds.1 _ c.find_trace_class.ensures _ c.in-Some.is
          _ c.root_place-header.ensures _ c.uuid_place.ensures _ c.in-Some-uuid_place.is;
      in_bounds = r.in_bounds.0;
      hints = r.hints;
    }
