-- A round is an event; it moves the place, so that the bits left are a measure and the rules' rounds are enough.
use mathlib.Core.Path.{◌∙◌}
use native.Mathlib.Omega.{arith}
use Prim.Native.Nat.{◌-◌, ◌≤◌, ◌<◌}
use lib.ListN.{length}
use borrow.Rule.Slice.PartMut.{same_len_mid}
use Rattle.rules.specs.Limits.{words_per_entry}
use Rattle.rules.specs.Packet.{read_events}
use Rattle.frame.specs.Framed.{env_of}
use Rattle.listing.specs.Did.{full}
use Rattle.listing.proofs.Checks.{full-said, room-said}
use Rattle.listing.proofs.Parts.{part_length, lent-room}
use Rattle.class_layout.specs.Fragments.{asked_at, stream_class_at}
use Rattle.packet_events.proofs.Rounding.{rounds-start, round_room, round-stops, round-moved, round-goes, end-full}
use Rattle.packet_events.proofs.Rounding.{end-listed}
use Rattle.packet_events.proofs.read_events.Goals as goal
use Rattle.packet_events.proofs.read_events.Lts as lts
use Rattle.packet_events.proofs.read_events.Tie as tie
use Rattle.packet_events.proofs.read_events.Reads as reads

-- Places of the code, in its order, and the way back from each to the one before

abbrev AtStart : Type 0
AtStart = lts.Start tie.the-claims reads.Pre reads.Post goal.the-invariant-loop-state goal.the-decreases-loop-state tie.handed_clauses

abbrev AtLoop : Type 0
AtLoop = lts.At-loop tie.the-claims reads.Pre reads.Post goal.the-invariant-loop-state goal.the-decreases-loop-state tie.handed_clauses

abbrev AtEvent : Type 0
AtEvent = lts.Then1 tie.the-claims reads.Pre reads.Post goal.the-invariant-loop-state goal.the-decreases-loop-state tie.handed_clauses

abbrev AtEnd : Type 0
AtEnd = lts.Else1 tie.the-claims reads.Pre reads.Post goal.the-invariant-loop-state goal.the-decreases-loop-state tie.handed_clauses

abbrev AtRead : Type 0
AtRead = lts.After-read_event tie.the-claims reads.Pre reads.Post goal.the-invariant-loop-state goal.the-decreases-loop-state tie.handed_clauses

abbrev AtFull : Type 0
AtFull = lts.Then2 tie.the-claims reads.Pre reads.Post goal.the-invariant-loop-state goal.the-decreases-loop-state tie.handed_clauses

abbrev AtRoom : Type 0
AtRoom = lts.Else2 tie.the-claims reads.Pre reads.Post goal.the-invariant-loop-state goal.the-decreases-loop-state tie.handed_clauses

abbrev AtListed : Type 0
AtListed = lts.After-write tie.the-claims reads.Pre reads.Post goal.the-invariant-loop-state goal.the-decreases-loop-state tie.handed_clauses

abbrev to_start : AtLoop → AtStart
to_start c = c.before.before.before.before.before.before.before.before

abbrev to-loop-from-event : AtEvent → AtLoop
to-loop-from-event c = c.before.before.before

abbrev to-loop-from-end : AtEnd → AtLoop
to-loop-from-end c = c.before.before.before

abbrev to-event : AtRead → AtEvent
to-event c = c.before.before

abbrev to-end-from-full : AtFull → AtEnd
to-end-from-full c = c.before.before.before

abbrev to_end : AtRoom → AtEnd
to_end c = c.before.before.before

abbrev to_room : AtListed → AtRoom
to_room c = c.before.before.before.before

-- What is known at them: no room for entry 7, or room

no_room : (c : AtFull) →
    let l = c.loop-state in
    length l.list - l.used < words_per_entry
no_room c = full-said _ c.is_full.ensures c.if-is_full.true

has_room : (c : AtRoom) →
    let l = c.loop-state in
    words_per_entry ≤ length l.list - l.used
has_room c = room-said _ c.is_full.ensures c.if-is_full.false

-- The needs

pub loop-state-init : goal.loop-state-init
loop-state-init c =
    let start = c.before.before.before.before.before.before.before.before in
    rounds-start _ _ _ _ _ _ _ _ _ start.requires.framed

pub offset_bounds-list-used : goal.offset_bounds-list-used
offset_bounds-list-used c =
    let event = c.before in
    let loop = to-loop-from-event event in
    let start = to_start loop in
    let w = c.loop-state.invariant in
    omega (arith, part_length w.part, w.part.room, start.well_formed.1.1.1.1.1.1.1.1.1.1.1.0)

pub slice_bounds-read_event-count : goal.slice_bounds-read_event-count
slice_bounds-read_event-count c =
    let event = c.before in
    let loop = to-loop-from-event event in
    let start = to_start loop in
    let w = c.loop-state.invariant in
    omega (arith, part_length w.part, w.part.room, start.well_formed.1.1.1.1.1.1.1.1.1.1.1.0)

pub slice_bounds-read_event-start : goal.slice_bounds-read_event-start
slice_bounds-read_event-start c =
    let event = c.before in
    let loop = to-loop-from-event event in
    let start = to_start loop in
    let w = c.loop-state.invariant in
    omega (arith, part_length w.part, w.part.room, start.well_formed.1.1.1.1.1.1.1.1.1.1.1.0)

pub slice_bounds-read_event-end : goal.slice_bounds-read_event-end
slice_bounds-read_event-end c = omega arith

pub read_event-r-requires : goal.read_event-r-requires
read_event-r-requires c =
    let event = c.before.before in
    let loop = to-loop-from-event event in
    let start = to_start loop in
    let p = start.requires in
    record {
      ready = p.ready;
      of_stream = p.of_stream;
      framed = loop.loop-state.invariant.framed;
      hints = p.hints;
      given_value = p.slots_value;
    }

pub overflow_add-used : goal.overflow_add-used
overflow_add-used c =
    let read = c.before.before.before.before in
    let event = to-event read in
    let loop = to-loop-from-event event in
    let start = to_start loop in
    let a = start.args in
    let t = a.table.now in
    let k = stream_class_at t a.with.class in
    let w = loop.loop-state.invariant in
    let o = read_events (asked_at t) k (env_of a.stream.now a.uuid.now a.frame) a.to 0 (a.frame.bound.0 - a.st.place.0)
    (full a.st a.slots (length a.list.now)) in
    omega (
      arith,
      round_room (asked_at t) k a.stream.now a.uuid.now a.frame a.to o a.slots w event.loop-state-test.true
          c.read_event-r.ensures,
      start.well_formed.1.1.1.1.1.1.1.1.1.1.1.0.0,
    )

pub shape_of-list-in-Err : goal.shape_of-list-in-Err
shape_of-list-in-Err c =
    let read = c.before.before.before.before.before.before in
    let event = to-event read in
    let loop = to-loop-from-event event in
    let l = loop.loop-state in
    same_len_mid l.used (length l.list - l.used) l.list read.read_event-r.new.list
    read.read_event-r.auto.list ∙ part_length l.invariant.part

pub returns-in-Err : goal.returns-in-Err
returns-in-Err c =
    let read = c.before.before.before.before.before.before in
    let event = to-event read in
    let loop = to-loop-from-event event in
    let start = to_start loop in
    let a = start.args in
    let t = a.table.now in
    let k = stream_class_at t a.with.class in
    let w = loop.loop-state.invariant in
    let o = read_events (asked_at t) k (env_of a.stream.now a.uuid.now a.frame) a.to 0 (a.frame.bound.0 - a.st.place.0)
    (full a.st a.slots (length a.list.now)) in
    rw c.stopped.ensures (round-stops (asked_at t) k a.stream.now a.uuid.now a.frame a.to o a.slots w
    event.loop-state-test.true read.read_event-r.ensures _ a.st c.in-Err.is)

pub overflow_add-count : goal.overflow_add-count
overflow_add-count c =
    let read = c.before.before.before.before.before.before in
    let event = to-event read in
    let loop = to-loop-from-event event in
    let w = loop.loop-state.invariant in
    omega (arith, w.few, w.framed.within, w.framed.ends, w.framed.small)

pub loop-state-smaller : goal.loop-state-smaller
loop-state-smaller c =
    let read = c.before.before.before.before.before.before in
    let event = to-event read in
    let loop = to-loop-from-event event in
    let start = to_start loop in
    let a = start.args in
    let t = a.table.now in
    let k = stream_class_at t a.with.class in
    let w = loop.loop-state.invariant in
    let o = read_events (asked_at t) k (env_of a.stream.now a.uuid.now a.frame) a.to 0 (a.frame.bound.0 - a.st.place.0)
    (full a.st a.slots (length a.list.now)) in
    omega (
      arith,
      round-moved (asked_at t) k a.stream.now a.uuid.now a.frame a.to o a.slots w event.loop-state-test.true
          read.read_event-r.ensures c.in_default.is,
      event.loop-state-test.true,
    )

pub loop-state-preserved : goal.loop-state-preserved
loop-state-preserved c =
    let read = c.before.before.before.before.before.before in
    let event = to-event read in
    let loop = to-loop-from-event event in
    let start = to_start loop in
    let a = start.args in
    let t = a.table.now in
    let k = stream_class_at t a.with.class in
    let w = loop.loop-state.invariant in
    let o = read_events (asked_at t) k (env_of a.stream.now a.uuid.now a.frame) a.to 0 (a.frame.bound.0 - a.st.place.0)
    (full a.st a.slots (length a.list.now)) in
    round-goes (asked_at t) k a.stream.now a.uuid.now a.frame a.to o a.slots w event.loop-state-test.true
    read.read_event-r.ensures c.in_default.is

pub overflow_sub-list : goal.overflow_sub-list
overflow_sub-list c =
    let end = c.before.before in
    let loop = to-loop-from-end end in
    let start = to_start loop in
    let w = loop.loop-state.invariant in
    omega (arith, part_length w.part, w.part.room, start.well_formed.1.1.1.1.1.1.1.1.1.1.1.0)

pub shape_of-list-then-is_full : goal.shape_of-list-then-is_full
shape_of-list-then-is_full c =
    let end = to-end-from-full c.before.before in
    let loop = to-loop-from-end end in
    part_length loop.loop-state.invariant.part

pub returns-then-is_full : goal.returns-then-is_full
returns-then-is_full c =
    let end = to-end-from-full c.before.before in
    let loop = to-loop-from-end end in
    let start = to_start loop in
    let a = start.args in
    let t = a.table.now in
    let k = stream_class_at t a.with.class in
    let w = loop.loop-state.invariant in
    let o = read_events (asked_at t) k (env_of a.stream.now a.uuid.now a.frame) a.to 0 (a.frame.bound.0 - a.st.place.0)
    (full a.st a.slots (length a.list.now)) in
    rw c.refused.ensures (end-full (asked_at t) k a.stream.now a.uuid.now a.frame a.to o a.slots w
    end.loop-state-test.false a.st (no_room c.before.before))

pub offset_bounds-list-used-2 : goal.offset_bounds-list-used-2
offset_bounds-list-used-2 c =
    let room = c.before in
    let end = to_end room in
    let loop = to-loop-from-end end in
    let start = to_start loop in
    let w = loop.loop-state.invariant in
    omega (arith, part_length w.part, w.part.room, start.well_formed.1.1.1.1.1.1.1.1.1.1.1.0)

pub slice_bounds-write-count : goal.slice_bounds-write-count
slice_bounds-write-count c =
    let room = c.before in
    let end = to_end room in
    let loop = to-loop-from-end end in
    let start = to_start loop in
    let w = loop.loop-state.invariant in
    omega (arith, part_length w.part, w.part.room, start.well_formed.1.1.1.1.1.1.1.1.1.1.1.0)

pub slice_bounds-write-start : goal.slice_bounds-write-start
slice_bounds-write-start c =
    let room = c.before in
    let end = to_end room in
    let loop = to-loop-from-end end in
    let start = to_start loop in
    let w = loop.loop-state.invariant in
    omega (arith, part_length w.part, w.part.room, start.well_formed.1.1.1.1.1.1.1.1.1.1.1.0)

pub slice_bounds-write-end : goal.slice_bounds-write-end
slice_bounds-write-end c = omega arith

pub overflow_sub-to : goal.overflow_sub-to
overflow_sub-to c =
    let room = c.before.before.before.before in
    let end = to_end room in
    let loop = to-loop-from-end end in
    let start = to_start loop in
    let w = loop.loop-state.invariant in
    omega (arith, w.framed.within, start.requires.bound_le_to)

pub write-requires : goal.write-requires
write-requires c =
    let room = c.before.before.before.before in
    let end = to_end room in
    let loop = to-loop-from-end end in
    omega (arith, lent-room loop.loop-state.used loop.loop-state.list, has_room room)

pub overflow_add-result : goal.overflow_add-result
overflow_add-result c =
    let listed = c.before.before.before in
    let room = to_room listed in
    let end = to_end room in
    let loop = to-loop-from-end end in
    let start = to_start loop in
    let w = loop.loop-state.invariant in
    omega (arith, has_room room, part_length w.part, w.part.room, start.well_formed.1.1.1.1.1.1.1.1.1.1.1.0)

pub shape_of-list : goal.shape_of-list
shape_of-list c =
    let listed = c.before.before.before.before in
    let room = to_room listed in
    let end = to_end room in
    let loop = to-loop-from-end end in
    let l = loop.loop-state in
    same_len_mid l.used (length l.list - l.used) l.list c.write.new.list
    c.write.auto.list ∙ part_length l.invariant.part

pub returns : goal.returns
returns c =
    let listed = c.before.before.before.before in
    let room = to_room listed in
    let end = to_end room in
    let loop = to-loop-from-end end in
    let start = to_start loop in
    let a = start.args in
    let t = a.table.now in
    let k = stream_class_at t a.with.class in
    let w = loop.loop-state.invariant in
    let o = read_events (asked_at t) k (env_of a.stream.now a.uuid.now a.frame) a.to 0 (a.frame.bound.0 - a.st.place.0)
    (full a.st a.slots (length a.list.now)) in
    rw c.at_place.ensures (end-listed (asked_at t) k a.stream.now a.uuid.now a.frame a.to o a.slots w end.loop-state-test.false
    a.st _ (has_room room) c.write.ensures)
