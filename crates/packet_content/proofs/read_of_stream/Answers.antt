-- The context was lent the whole list; behind it the content is all that is left.
use mathlib.Core.Path.{◌≡◌, ◌∙◌}
use native.Mathlib.Omega.{arith}
use lib.ListN.{length}
use Prim.Native.Nat.{◌-◌, ◌≤◌}
use borrow.Rule.Slice.PartMut.{same_len_mid}
use Rattle.listing.proofs.Parts.{part_length}
use Rattle.event_turns.proofs.Looked.{root_stands}
use Rattle.packet_content.proofs.StreamClass.{stream-sized, stream-found, context-class, context-number}
use Rattle.outcome.proofs.Lists.{ran-room, ran-last}
use Rattle.packet_content.proofs.Running.{ContentLeft, start-in-frame, context-framed, context-unset, context-stopped, context-part}
use Rattle.packet_content.proofs.read_of_stream.Goals as goal
use Rattle.packet_content.proofs.read_of_stream.Goals.{After-or_else-content}

-- The context

pub root_place-context-requires : goal.root_place-context-requires
root_place-context-requires c =
    let a = c.args in
    let noted = c.requires.readable.ready.noted in
    (stream-sized a.table.now a.sizes.now a.id a.class noted.sized c.requires.id_value, noted.sized.limit, noted.sized.room)

pub read_root-c-requires : goal.read_root-c-requires
read_root-c-requires c =
    let a = c.args in
    let noted = c.requires.readable.ready.noted in record {
      root_stands = root_stands a.table.now a.class 0 _
          (stream-sized a.table.now a.sizes.now a.id a.class noted.sized c.requires.id_value).stands
          c.root_place-context.ensures;
      prepared = noted;
      framed = rw c.whole_frame-frame.ensures c.requires.framed;
    }

-- It stopped

pub returns-in-Err : goal.returns-in-Err
returns-in-Err c =
    let a = c.args in
    let p = c.requires in
    let f = c.whole_frame-frame in
    let is = context-class a.table.now a.class _ c.root_place-context.ensures in
    let numbered =
    context-number a.table.now a.sizes.now a.id a.class p.readable.ready.noted.sized p.id_value _ c.root_place-context.ensures
    in
    rw c.stopped.ensures
    (context-stopped a.table.now a.stream.now a.start a.class a.st a.slots a.list.now a.uuid.now
    p.readable.uuid f.result f.ensures _ is numbered c.read_root-c.ensures _ c.in-Err.is)

-- It went on: the lengths

pub overflow_sub-rest : goal.overflow_sub-rest
overflow_sub-rest c =
    let a = c.args in
    start-in-frame a.stream.now a.start a.st.place c.whole_frame-frame.result c.whole_frame-frame.ensures c.requires.framed

-- The content, in what the context left of the list: behind the lengths it is all that is left

content-left : (c : After-or_else-content) →
    let r = c.read_root-c in
    let a = c.args in
    ContentLeft a.table.now a.stream.now a.start a.class a.st a.slots a.list.now r.result
    r.new.list c.or_else-total.result c.or_else-content.result
content-left c =
    let a = c.args in
    let p = c.requires in
    let f = c.whole_frame-frame in
    let is = context-class a.table.now a.class _ c.root_place-context.ensures in
    let numbered =
    context-number a.table.now a.sizes.now a.id a.class p.readable.ready.noted.sized p.id_value _ c.root_place-context.ensures
    in
    context-part a.table.now a.stream.now a.start a.class a.st a.slots a.list.now a.uuid.now
    p.readable.uuid f.result f.ensures _ is numbered c.read_root-c.ensures
    c.in_default.is c.or_else-total.result c.or_else-content.result c.or_else-total.ensures c.or_else-content.ensures

pub offset_bounds-list-used : goal.offset_bounds-list-used
offset_bounds-list-used c =
    let left = content-left (goal.at.offset_bounds-list-used c).After-or_else-content in
    omega (arith, part_length left, left.room, c.well_formed)

pub slice_bounds-read_content-count : goal.slice_bounds-read_content-count
slice_bounds-read_content-count c =
    let left = content-left (goal.at.slice_bounds-read_content-count c).After-or_else-content in
    omega (arith, part_length left, left.room, c.well_formed)

pub slice_bounds-read_content-start : goal.slice_bounds-read_content-start
slice_bounds-read_content-start c =
    let left = content-left (goal.at.slice_bounds-read_content-start c).After-or_else-content in
    omega (arith, part_length left, left.room, c.well_formed)

pub read_content-r-requires : goal.read_content-r-requires
read_content-r-requires c =
    let a = c.args in
    let p = c.requires in
    let f = c.whole_frame-frame in
    let is = context-class a.table.now a.class _ c.root_place-context.ensures in
    let numbered =
    context-number a.table.now a.sizes.now a.id a.class p.readable.ready.noted.sized p.id_value _ c.root_place-context.ensures
    in
    let found = stream-found a.table.now a.sizes.now a.id a.class p.readable.ready.noted.sized p.id_value in record {
      readable = p.readable;
      id_value = p.id_value;
      framed = context-framed a.table.now a.stream.now a.start a.class a.st a.slots a.list.now a.uuid.now p.readable.uuid
          f.result f.ensures _ is numbered c.read_root-c.ensures p.framed c.in_default.is;
      hints = p.hints;
      slots_value = context-unset a.table.now a.stream.now a.start a.class a.st a.slots a.list.now a.uuid.now p.readable.uuid
          f.result f.ensures _ is numbered c.read_root-c.ensures (p.readable.ready.keeps.context a.id _ found) c.in_default.is
          p.slots_value;
    }

pub with_last-requires : goal.with_last-requires
with_last-requires c =
    let left = content-left (goal.at.with_last-requires c).After-or_else-content in
    omega (arith, ran-room _ left c.read_content-r.ensures, c.well_formed)

pub shape_of-list : goal.shape_of-list
shape_of-list c =
    let w = c.read_root-c in
    let ys = w.new.list in
    same_len_mid w.result.used (length ys - w.result.used) ys
    c.read_content-r.new.list c.read_content-r.auto.list
    ∙ w.auto.list

pub returns : goal.returns
returns c =
    let left = content-left (goal.at.returns c).After-or_else-content in
    rw c.with_last.ensures (ran-last _ left c.read_content-r.ensures _)
