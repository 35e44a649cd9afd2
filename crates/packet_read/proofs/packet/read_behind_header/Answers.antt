-- Each stop lists nothing; behind entry 2 the context and the content are left.
use mathlib.Core.Path.{sym, ◌∙◌}
use native.Mathlib.Omega.{arith}
use lib.ListN.{length}
use Prim.Native.Nat.{◌-◌, ◌≤◌, ◌<◌}
use borrow.Rule.Slice.PartMut.{same_len_mid}
use Rattle.rules.specs.Limits.{words_per_entry}
use Rattle.listing.proofs.Checks.{full-said, room-said}
use Rattle.outcome.proofs.Lists.{ran-room, ran-last}
use Rattle.packet_read.proofs.Running.{header-ran-differs, header-ran-full, header-ran-unknown, header-part}
use Rattle.packet_read.proofs.packet.read_behind_header.Goals as goal
use Rattle.packet_read.proofs.packet.read_behind_header.Lts as lts
use Rattle.packet_read.proofs.packet.read_behind_header.Tie as tie
use Rattle.packet_read.proofs.packet.read_behind_header.Reads as reads

-- Places of the code, in its order, and the way back from each to the one before

abbrev AtStart : Type 0
AtStart = lts.Start tie.the-claims reads.Pre reads.Post tie.handed_clauses

abbrev AtAsked : Type 0
AtAsked = lts.After-differs tie.the-claims reads.Pre reads.Post tie.handed_clauses

abbrev AtSame : Type 0
AtSame = lts.Else1 tie.the-claims reads.Pre reads.Post tie.handed_clauses

abbrev AtFull : Type 0
AtFull = lts.Then2 tie.the-claims reads.Pre reads.Post tie.handed_clauses

abbrev AtRoom : Type 0
AtRoom = lts.Else2 tie.the-claims reads.Pre reads.Post tie.handed_clauses

abbrev AtFound : Type 0
AtFound = lts.After-find_stream_class tie.the-claims reads.Pre reads.Post tie.handed_clauses

abbrev AtListed : Type 0
AtListed = lts.After-write tie.the-claims reads.Pre reads.Post tie.handed_clauses

abbrev AtRead : Type 0
AtRead = lts.After-read_of_stream tie.the-claims reads.Pre reads.Post tie.handed_clauses

abbrev to_start : AtAsked → AtStart
to_start c = c.before.before.before.before.before.before.before.before.before

abbrev same_asked : AtSame → AtAsked
same_asked c = c.before

abbrev full-same : AtFull → AtSame
full-same c = c.before.before

abbrev to_same : AtRoom → AtSame
to_same c = c.before.before

abbrev to-asked : AtRoom → AtAsked
to-asked c = c.before.before.before

abbrev to_room : AtFound → AtRoom
to_room c = c.before

abbrev to-found : AtListed → AtFound
to-found c = c.before.before.before

abbrev to-listed : AtRead → AtListed
to-listed c = c.before.before.before.before

-- What is known of entry 2: no room, or room, and the rest is lent the list behind it

no_room : (c : AtFull) → length c.args.list.now < words_per_entry
no_room c = full-said _ c.is_full.ensures c.if-is_full.true

has_room : (c : AtRoom) → words_per_entry ≤ length c.args.list.now
has_room c = room-said _ c.is_full.ensures c.if-is_full.false

listed-fits : (c : AtListed) → words_per_entry ≤ length c.write.new.list
listed-fits c = omega (arith, c.write.auto.list, has_room (to_room (to-found c)))

-- The needs

pub returns-then-differs : goal.returns-then-differs
returns-then-differs c =
    let asked = c.before.before.before in
    let start = to_start asked in
    let a = start.args in
    rw c.refused.ensures (header-ran-differs a.table.now a.stream.now a.start a.first a.st a.slots a.list.now
    c.differs.result c.differs.ensures c.if-differs.true)

pub returns-then-is_full : goal.returns-then-is_full
returns-then-is_full c =
    let same = full-same c.before.before in
    let asked = same_asked same in
    let a = asked.args in
    rw c.refused-then-is_full.ensures (header-ran-full a.table.now a.stream.now a.start a.first a.st a.slots a.list.now
    asked.differs.result asked.differs.ensures same.if-differs.false (no_room c.before.before))

pub find_stream_class-requires : goal.find_stream_class-requires
find_stream_class-requires c =
    let room = c.before in
    let asked = to-asked room in
    let start = to_start asked in
    start.requires.readable.ready.noted.sized

pub write-requires : goal.write-requires
write-requires c = has_room (to_room c.before.before.before)

pub slice_bounds-read_of_stream-count : goal.slice_bounds-read_of_stream-count
slice_bounds-read_of_stream-count c = omega (arith, listed-fits c.before.before.before)

pub slice_bounds-read_of_stream-start : goal.slice_bounds-read_of_stream-start
slice_bounds-read_of_stream-start c = omega (arith, listed-fits c.before.before.before)

pub read_of_stream-r-requires : goal.read_of_stream-r-requires
read_of_stream-r-requires c =
    let listed = c.before.before.before.before in
    let found = to-found listed in
    let room = to_room found in
    let asked = to-asked room in
    let start = to_start asked in
    let g = start.requires.readable in
    record { readable = g; id_value = sym found.find_stream_class.ensures ∙ listed.in-Some.is; framed = start.requires.framed; hints = start.requires.hints; slots_value = start.requires.slots_value }

pub with_last-requires : goal.with_last-requires
with_last-requires c =
    let read = c.before.before.before in
    let listed = to-listed read in
    let found = to-found listed in
    let room = to_room found in
    let asked = to-asked room in
    let start = to_start asked in
    let a = start.args in
    omega (
      arith,
      ran-room _ (header-part a.table.now a.stream.now a.start a.first a.st a.slots a.list.now
          asked.differs.result asked.differs.ensures room.if-differs.false (has_room room) found.find_stream_class.result
          found.find_stream_class.ensures _ listed.in-Some.is listed.write.ensures)
          c.read_of_stream-r.ensures,
      start.well_formed,
    )

pub returns-in-None : goal.returns-in-None
returns-in-None c =
    let found = c.before.before.before in
    let room = to_room found in
    let asked = to-asked room in
    let start = to_start asked in
    let a = start.args in
    rw c.refused-in-None.ensures (header-ran-unknown a.table.now a.stream.now a.start a.first a.st a.slots a.list.now
    asked.differs.result asked.differs.ensures room.if-differs.false (has_room room)
    c.find_stream_class.result c.find_stream_class.ensures
    c.in-None.is)

pub shape_of-list : goal.shape_of-list
shape_of-list c =
    let read = c.before.before.before.before in
    let listed = to-listed read in
    same_len_mid words_per_entry (length listed.write.new.list - words_per_entry) listed.write.new.list
    c.read_of_stream-r.new.list
    c.read_of_stream-r.auto.list ∙ listed.write.auto.list

pub returns-in-Some : goal.returns-in-Some
returns-in-Some c =
    let read = c.before.before.before.before in
    let listed = to-listed read in
    let found = to-found listed in
    let room = to_room found in
    let asked = to-asked room in
    let start = to_start asked in
    let a = start.args in
    rw c.with_last.ensures (ran-last _
    (header-part a.table.now a.stream.now a.start a.first a.st a.slots a.list.now asked.differs.result
    asked.differs.ensures room.if-differs.false (has_room room) found.find_stream_class.result
    found.find_stream_class.ensures _ listed.in-Some.is listed.write.ensures)
    c.read_of_stream-r.ensures _)
