-- Each stop lists nothing; behind entry 3 the events are all that is left.
use mathlib.Core.Path.{◌∙◌}
use native.Mathlib.Omega.{arith}
use lib.ListN.{length}
use Prim.Native.Nat.{◌+◌, ◌-◌, ◌≤◌, ◌<◌}
use Rattle.rules.specs.Limits.{words_per_entry}
use Rattle.rules.specs.Place.{further}
use Rattle.frame.specs.Framed.{Framed}
use borrow.Rule.Slice.PartMut.{same_len_mid}
use Rattle.listing.proofs.Checks.{full-said, room-said}
use Rattle.outcome.proofs.Lists.{ran-room, ran-last}
use Rattle.packet_content.proofs.Lengths.{Lengths}
use Rattle.packet_content.proofs.Running.{content-ran-full, content-ran-lengths, content-ran-clocks, content-lengths-fine}
use Rattle.packet_content.proofs.Running.{events-framed, EventsLeft, content-part}
use Rattle.packet_content.proofs.read_content.Goals as goal
use Rattle.packet_content.proofs.read_content.Lts as lts
use Rattle.packet_content.proofs.read_content.Tie as tie
use Rattle.packet_content.proofs.read_content.Reads as reads

-- Places of the code, in its order: all is given; entry 3 has no room, or it has; the lengths are fine; the clocks are fine; entry 3 is
-- listed; the stream class was asked; the events were read

abbrev AtStart : Type 0
AtStart = lts.Start tie.the-claims reads.Pre reads.Post tie.handed_clauses

abbrev AtFull : Type 0
AtFull = lts.Then1 tie.the-claims reads.Pre reads.Post tie.handed_clauses

abbrev AtRoom : Type 0
AtRoom = lts.Else1 tie.the-claims reads.Pre reads.Post tie.handed_clauses

abbrev AtLengths : Type 0
AtLengths = lts.Else2 tie.the-claims reads.Pre reads.Post tie.handed_clauses

abbrev AtClocks : Type 0
AtClocks = lts.Else3 tie.the-claims reads.Pre reads.Post tie.handed_clauses

abbrev AtListed : Type 0
AtListed = lts.After-write tie.the-claims reads.Pre reads.Post tie.handed_clauses

abbrev AtClass : Type 0
AtClass = lts.After-asking tie.the-claims reads.Pre reads.Post tie.handed_clauses

abbrev AtEvents : Type 0
AtEvents = lts.After-read_events tie.the-claims reads.Pre reads.Post tie.handed_clauses

-- The way back from each to the one before

abbrev full_start : AtFull → AtStart
full_start c = c.before.before.before.before.before.before.before.before.before.before

abbrev to_start : AtRoom → AtStart
to_start c = c.before.before.before.before.before.before.before.before.before.before

abbrev to_room : AtLengths → AtRoom
to_room c = c.before.before.before.before

abbrev to-lengths : AtClocks → AtLengths
to-lengths c = c.before.before.before

abbrev to-clocks : AtListed → AtClocks
to-clocks c = c.before.before

abbrev to-listed : AtClass → AtListed
to-listed c = c.before.before.before.before.before

abbrev to-class : AtEvents → AtClass
to-class c = c.before.before

abbrev given : AtLengths → AtStart
given c = c.before.before.before.before.before.before.before.before.before.before.before.before.before.before

abbrev lengths-of : AtListed → AtLengths
lengths-of c = c.before.before.before.before.before

-- What is known at them: no room, or room; what 34 leaves; the events' frame; behind entry 3 the events are all that is left

no_room : (c : AtFull) → length c.args.list.now < words_per_entry
no_room c = full-said _ c.is_full.ensures c.if-is_full.true

has_room : (c : AtRoom) → words_per_entry ≤ length c.args.list.now
has_room c = room-said _ c.is_full.ensures c.if-is_full.false

fine : (c : AtLengths) →
    let a = c.args in
    Lengths a.stream.now a.start.0 a.total a.content a.st.place.0
fine c =
    let a = c.args in
    let d = c.contradict in
    let f = c.whole_frame in
    content-lengths-fine a.table.now a.stream.now a.class a.start a.total a.content a.st a.slots a.list.now
    (has_room (to_room c)) f.result f.ensures d.result d.ensures c.if-contradict.false

framed : (c : AtLengths) →
    let a = c.args in
    Framed a.stream.now (record { start = a.start; bound = further a.start a.content }) a.st.place
    × (a.start.0 + a.content ≤ a.start.0 + a.total)
framed c =
    let a = c.args in
    let d = c.contradict in
    let f = c.whole_frame in
    events-framed a.table.now a.stream.now a.class a.start a.total a.content a.st a.slots a.list.now
    (has_room (to_room c)) f.result f.ensures d.result d.ensures c.if-contradict.false c.requires.framed

-- the events are lent the list behind entry 3
listed-fits : (c : AtListed) → words_per_entry ≤ length c.write.new.list
listed-fits c = omega (arith, c.write.auto.list, has_room (to_room (lengths-of c)))

events-left : (c : AtClass) →
    let a = c.args in
    EventsLeft a.table.now a.stream.now a.class a.start a.total a.content a.st a.slots a.list.now
    a.uuid.now c.asking-with.result.class c.write.new.list c.further-bound.result
    c.further-to.result
events-left c =
    let listed = to-listed c in
    let clocks = to-clocks listed in
    let lengths = to-lengths clocks in
    let a = lengths.args in
    let d = lengths.contradict in
    let f = lengths.whole_frame in
    let y = clocks.above in
    content-part a.table.now a.stream.now a.class a.start a.total a.content a.st a.slots a.list.now
    (has_room (to_room lengths)) f.result f.ensures d.result d.ensures lengths.if-contradict.false y.result y.ensures
    clocks.if-above.false listed.write.ensures a.uuid.now lengths.requires.readable.uuid c.asking-with.result.class
    c.asking-with.ensures.1 _ _ c.further-bound.ensures c.further-to.ensures

-- No room for entry 3

pub returns-then-is_full : goal.returns-then-is_full
returns-then-is_full c =
    let a = c.args in
    rw c.refused.ensures
    (content-ran-full a.table.now a.stream.now a.class a.start a.total a.content a.st a.slots a.list.now
    (no_room c.before.before))

-- 34

pub returns-then-contradict : goal.returns-then-contradict
returns-then-contradict c =
    let room = c.before.before.before.before.before.before in
    let a = room.args in
    let d = c.contradict in
    let f = c.whole_frame in
    rw c.refused-then-contradict.ensures
    (content-ran-lengths a.table.now a.stream.now a.class a.start a.total a.content a.st a.slots a.list.now
    (has_room room) f.result f.ensures d.result d.ensures c.if-contradict.true)

-- 35

pub returns-then-above : goal.returns-then-above
returns-then-above c =
    let lengths = c.before.before.before.before.before in
    let a = lengths.args in
    let d = lengths.contradict in
    let f = lengths.whole_frame in
    let y = c.above in
    rw c.refused-then-above.ensures
    (content-ran-clocks a.table.now a.stream.now a.class a.start a.total a.content a.st a.slots a.list.now
    (has_room (to_room lengths)) f.result f.ensures d.result d.ensures lengths.if-contradict.false y.result y.ensures
    c.if-above.true)

-- Entry 3, and the ends of content and packet

pub write-requires : goal.write-requires
write-requires c = has_room (to_room (to-lengths c.before.before))

pub further-bound-requires : goal.further-bound-requires
further-bound-requires c =
    let h = lengths-of c.before.before.before in
    omega (arith, (fine h).order, (fine h).in_stream, h.requires.readable.small)

pub further-to-requires : goal.further-to-requires
further-to-requires c =
    let h = lengths-of c.before.before.before.before in
    omega (arith, (fine h).order, (fine h).in_stream, h.requires.readable.small)

-- The events

pub asking-with-requires : goal.asking-with-requires
asking-with-requires c =
    let p = c.requires in
    record { sized = p.readable.ready.noted.sized; id_value = p.id_value }

pub slice_bounds-read_events-count : goal.slice_bounds-read_events-count
slice_bounds-read_events-count c = omega (arith, listed-fits (to-listed c.before))

pub slice_bounds-read_events-start : goal.slice_bounds-read_events-start
slice_bounds-read_events-start c = omega (arith, listed-fits (to-listed c.before))

pub read_events-r-requires : goal.read_events-r-requires
read_events-r-requires c =
    let h = lengths-of (to-listed c.before.before) in
    let p = h.requires in
    record {
      ready = p.readable.ready;
      of_stream = c.asking-with.ensures.0;
      framed = rw c.further-bound.ensures (framed h).0;
      bound_le_to = rw (c.further-bound.ensures, c.further-to.ensures) (framed h).1;
      hints = p.hints;
      slots_value = p.slots_value;
    }

pub with_last-requires : goal.with_last-requires
with_last-requires c =
    let r = c.before.before.before in
    let k = to-class r in
    omega (arith, ran-room _ (events-left k) r.read_events-r.ensures, k.well_formed)

pub shape_of-list : goal.shape_of-list
shape_of-list c =
    let r = c.before.before.before.before in
    let w = r.write in
    same_len_mid words_per_entry (length w.new.list - words_per_entry) w.new.list
    r.read_events-r.new.list r.read_events-r.auto.list
    ∙ w.auto.list

pub returns : goal.returns
returns c =
    let r = c.before.before.before.before in
    rw c.with_last.ensures (ran-last _ (events-left (to-class r)) r.read_events-r.ensures _)
