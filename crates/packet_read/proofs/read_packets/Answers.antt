-- A round is a packet; it takes a byte or more, so that the bytes left are a measure and the rules' rounds are enough.
use mathlib.Core.Path.{◌∙◌}
use native.Mathlib.Omega.{arith}
use lib.ListN.{length}
use Prim.Native.Nat.{◌-◌, ◌*◌, ◌<◌, ◌≤◌}
use borrow.Rule.Slice.PartMut.{same_len_mid}
use Rattle.listing.proofs.Parts.{part_length}
use Rattle.class_layout.specs.Notes.{notes}
use Rattle.class_layout.specs.Fragments.{asked_at}
use Rattle.packet_read.proofs.Rounds.{before-end, behind-end}
use Rattle.packet_read.proofs.Fitted.{Fit, lent_fits}
use Rattle.packet_read.proofs.Rounds.{loop-start, round_room, round-stops, round-behind, round-goes, loop-end}
use Rattle.packet_read.proofs.read_packets.Goals as goal
use Rattle.packet_read.proofs.read_packets.Lts as lts
use Rattle.packet_read.proofs.read_packets.Tie as tie
use Rattle.packet_read.proofs.read_packets.Reads as reads

-- Places of the code, in its order: all is given; the state in which a reading begins; a round's start; a packet is left; none is; it was read

abbrev AtStart : Type 0
AtStart = lts.Start tie.the-claims reads.Pre reads.Post goal.the-invariant-loop-state goal.the-decreases-loop-state tie.handed_clauses

abbrev AtBegun : Type 0
AtBegun = lts.After-first_state tie.the-claims reads.Pre reads.Post goal.the-invariant-loop-state goal.the-decreases-loop-state tie.handed_clauses

abbrev AtLoop : Type 0
AtLoop = lts.At-loop tie.the-claims reads.Pre reads.Post goal.the-invariant-loop-state goal.the-decreases-loop-state tie.handed_clauses

abbrev AtPacket : Type 0
AtPacket = lts.Then1 tie.the-claims reads.Pre reads.Post goal.the-invariant-loop-state goal.the-decreases-loop-state tie.handed_clauses

abbrev AtEnd : Type 0
AtEnd = lts.Else1 tie.the-claims reads.Pre reads.Post goal.the-invariant-loop-state goal.the-decreases-loop-state tie.handed_clauses

abbrev AtRead : Type 0
AtRead = lts.After-read_packet tie.the-claims reads.Pre reads.Post goal.the-invariant-loop-state goal.the-decreases-loop-state tie.handed_clauses

-- The way back from each to the one before

abbrev to_start : AtBegun → AtStart
to_start c = c.before.before.before.before.before.before.before.before.before

abbrev to-begun : AtLoop → AtBegun
to-begun c = c.before

abbrev to-loop : AtPacket → AtLoop
to-loop c = c.before.before.before

abbrev last-loop : AtEnd → AtLoop
last-loop c = c.before.before.before

abbrev to-packet : AtRead → AtPacket
to-packet c = c.before.before

abbrev given : AtLoop → AtStart
given c = c.before.before.before.before.before.before.before.before.before.before

abbrev loop-of : AtRead → AtLoop
loop-of c = c.before.before.before.before.before

-- What is known at them

fits : (c : AtStart) → Fit (asked_at c.args.table.now)
fits c =
    let a = c.args in
    lent_fits a.table.now (notes a.sizes.now a.aligns.now) a.uuid.now a.header a.stream.now c.requires.lent

-- whether a packet is left, by the place behind the stream's bytes
left : (c : AtPacket) → c.loop-state.state.place.0 < 8 * length c.args.stream.now
left c =
    let loop = to-loop c in
    let end = loop.place_behind-end in
    before-end loop.loop-state.state.place end.result loop.args.stream.now end.ensures c.loop-state-test.true

none_left : (c : AtEnd) → 8 * length c.args.stream.now ≤ c.loop-state.state.place.0
none_left c =
    let loop = last-loop c in
    let end = loop.place_behind-end in
    behind-end loop.loop-state.state.place end.result loop.args.stream.now end.ensures c.loop-state-test.false

-- In front of the loop

pub place_behind-end-requires : goal.place_behind-end-requires
place_behind-end-requires c =
    let start = c.before.before.before.before.before.before.before.before in
    omega (arith, start.requires.lent.small)

pub loop-state-init : goal.loop-state-init
loop-state-init c = loop-start _ _ _ _ c.first_state-begun.ensures

-- A packet

pub offset_bounds-list-used : goal.offset_bounds-list-used
offset_bounds-list-used c =
    let x = c.loop-state.invariant in
    omega (arith, part_length x.part, x.part.room, c.well_formed)

pub slice_bounds-read_packet-count : goal.slice_bounds-read_packet-count
slice_bounds-read_packet-count c =
    let x = c.loop-state.invariant in
    omega (arith, part_length x.part, x.part.room, c.well_formed)

pub slice_bounds-read_packet-start : goal.slice_bounds-read_packet-start
slice_bounds-read_packet-start c =
    let x = c.loop-state.invariant in
    omega (arith, part_length x.part, x.part.room, c.well_formed)

pub slice_bounds-read_packet-end : goal.slice_bounds-read_packet-end
slice_bounds-read_packet-end c = omega arith

pub read_packet-r-requires : goal.read_packet-r-requires
read_packet-r-requires c =
    let loop = to-loop c.before.before in
    let p = loop.requires in
    record { lent = p.lent; starts = loop.loop-state.invariant.starts; hints = p.hints }

pub overflow_add-used : goal.overflow_add-used
overflow_add-used c =
    let read = c.before.before.before.before in
    let loop = loop-of read in
    let start = given loop in
    let room = round_room (asked_at start.args.table.now) (fits start) start.args.stream.now loop.loop-state.invariant
    (left (to-packet read)) read.read_packet-r.ensures in
    omega (arith, room, start.well_formed)

-- It stopped

pub shape_of-list-in-Err : goal.shape_of-list-in-Err
shape_of-list-in-Err c =
    let read = c.before.before.before.before.before.before in
    let l = read.loop-state in
    same_len_mid l.used (length l.list - l.used) l.list read.read_packet-r.new.list
    read.read_packet-r.auto.list ∙ part_length l.invariant.part

pub returns-in-Err : goal.returns-in-Err
returns-in-Err c =
    let read = c.before.before.before.before.before.before in
    let loop = loop-of read in
    let a = loop.args in
    rw c.stopped.ensures
    (round-stops (asked_at a.table.now) (fits (given loop)) a.stream.now loop.loop-state.invariant (left (to-packet read))
    read.read_packet-r.ensures _ _ loop.first_state-begun.ensures c.in-Err.is)

-- It went on

pub overflow_add-number : goal.overflow_add-number
overflow_add-number c =
    let loop = loop-of c.before.before.before.before.before.before in
    let x = loop.loop-state.invariant in
    omega (arith, x.count, x.starts.within, loop.requires.lent.small)

pub loop-state-smaller : goal.loop-state-smaller
loop-state-smaller c =
    let read = c.before.before.before.before.before.before in
    let loop = loop-of read in
    let a = loop.args in
    let behind = round-behind (asked_at a.table.now) (fits (given loop)) a.stream.now loop.loop-state.invariant
    (left (to-packet read)) read.read_packet-r.ensures c.in_default.is in
    omega (arith, behind.on, left (to-packet read))

pub loop-state-preserved : goal.loop-state-preserved
loop-state-preserved c =
    let read = c.before.before.before.before.before.before in
    let loop = loop-of read in
    let a = loop.args in
    round-goes (asked_at a.table.now) (fits (given loop)) a.stream.now loop.loop-state.invariant (left (to-packet read))
    read.read_packet-r.ensures c.in_default.is

-- No packet is left

pub shape_of-list : goal.shape_of-list
shape_of-list c = part_length c.loop-state.invariant.part

pub returns : goal.returns
returns c =
    let loop = last-loop c.before in
    let a = loop.args in
    loop-end (asked_at a.table.now) (fits (given loop)) a.stream.now loop.loop-state.invariant _ (none_left c.before)
