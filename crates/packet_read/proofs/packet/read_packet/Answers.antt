-- Behind entry 1 the header is read, and then the rest. Nothing depends on the slots that a packet finds.
use Rattle.std.specs.Prelude.{Ok, Err}
use mathlib.Core.Path.{◌≡◌, ◌∙◌}
use native.Mathlib.Omega.{arith}
use lib.ListN.{length}
use Prim.Native.Nat.{◌+◌, ◌-◌, ◌≤◌}
use borrow.Rule.Slice.PartMut.{same_len_mid}
use Rattle.listing.proofs.Checks.{full-said, room-said}
use Rattle.listing.proofs.Parts.{part_length, merged}
use Rattle.frame.specs.Framed.{Framed}
use Rattle.class_layout.specs.Notes.{notes}
use Rattle.rules.specs.Slots.{Slots, no_slots, packet_slots}
use Rattle.rules.specs.declared.Stop.{Stop}
use Rattle.rules.specs.Limits.{words_per_entry}
use Rattle.rules.specs.Packet.{read_packet}
use Rattle.listing.specs.Did.{full}
use Rattle.class_layout.specs.Fragments.{asked_at}
use Rattle.outcome.specs.Ran.{RanDid, stopped_ran}
use Rattle.packet_content.specs.Pieces.{whole_frame}
use Rattle.packet_read.specs.Pieces.{fresh_state}
use Rattle.outcome.proofs.Lists.{ran-room, ran-last}
use Rattle.packet_read.proofs.Running.{start-framed, packet-ran-full, header-framed, header-unset, header-stopped}
use Rattle.packet_read.proofs.Running.{header-room, RestLeft, behind-part}
use Rattle.packet_read.proofs.packet.read_packet.Goals as goal
use Rattle.packet_read.proofs.packet.read_packet.Goals.{After-write, After-read_root-h, In_default}

-- What is known of entry 1: the header is lent the list behind it

listed-fits : (c : After-write) → words_per_entry ≤ length c.write.new.list
listed-fits c = omega (arith, c.write.auto.list, room-said _ c.is_full.ensures c.if-is_full.false)

-- And behind the header: it had room; where it stopped, the packet did; and if it went on, it is framed, slots 16 to 63 are unset, and the
-- rest is all that is left

header-fits : (c : After-read_root-h) → words_per_entry + c.read_root-h.result.used ≤ length c.args.list.now
header-fits c =
    let a = c.args in
    let room = room-said _ c.is_full.ensures c.if-is_full.false in
    let f = c.whole_frame-frame in
    let b = c.fresh in
    let n = c.no_slots in
    header-room a.table.now (notes a.sizes.now a.aligns.now) a.uuid.now a.stream.now a.header c.requires.lent
    a.number a.first a.begun a.list.now room c.write.ensures f.result f.ensures
    b.result b.ensures n.result n.ensures c.read_root-h.ensures

stops : (c : After-read_root-h) (l : Slots) (v : Stop) → c.read_root-h.result.went ≡ Err v →
    let a = c.args in
    let r = c.read_root-h in
    RanDid (read_packet (asked_at a.table.now) a.stream.now a.number a.first (full a.begun l (length a.list.now)))
    a.begun (stopped_ran v (words_per_entry + r.result.used) a.begun) a.list.now
    (merged words_per_entry c.write.new.list r.new.list)
stops c l v off =
    let a = c.args in
    let room = room-said _ c.is_full.ensures c.if-is_full.false in
    let f = c.whole_frame-frame in
    let b = c.fresh in
    let n = c.no_slots in
    header-stopped a.table.now (notes a.sizes.now a.aligns.now) a.uuid.now a.stream.now a.header c.requires.lent
    a.number a.first a.begun a.list.now room c.write.ensures f.result f.ensures
    b.result b.ensures n.result n.ensures c.read_root-h.ensures l v off

held-framed : (c : After-read_root-h) → c.read_root-h.result.went ≡ Ok tt →
    let a = c.args in
    Framed a.stream.now (whole_frame a.stream.now a.begun.place) c.read_root-h.result.state.place
held-framed c on =
    let a = c.args in
    let room = room-said _ c.is_full.ensures c.if-is_full.false in
    let f = c.whole_frame-frame in
    let b = c.fresh in
    let n = c.no_slots in
    header-framed a.table.now (notes a.sizes.now a.aligns.now) a.uuid.now a.stream.now a.header c.requires.lent
    a.number a.first a.begun a.list.now room c.write.ensures f.result f.ensures
    b.result b.ensures n.result n.ensures c.read_root-h.ensures c.requires.starts on

held-unset : (c : After-read_root-h) → c.read_root-h.result.went ≡ Ok tt → packet_slots c.read_root-h.result.slots ≡ c.read_root-h.result.slots
held-unset c on =
    let a = c.args in
    let room = room-said _ c.is_full.ensures c.if-is_full.false in
    let f = c.whole_frame-frame in
    let b = c.fresh in
    let n = c.no_slots in
    header-unset a.table.now (notes a.sizes.now a.aligns.now) a.uuid.now a.stream.now a.header c.requires.lent
    a.number a.first a.begun a.list.now room c.write.ensures f.result f.ensures
    b.result b.ensures n.result n.ensures c.read_root-h.ensures on

rest-left : (c : In_default) (l : Slots) →
    let a = c.args in
    let r = c.read_root-h in
    RestLeft a.table.now a.stream.now a.number a.first a.begun a.list.now c.write.new.list
    r.result r.new.list l
rest-left c l =
    let a = c.args in
    let room = room-said _ c.is_full.ensures c.if-is_full.false in
    let f = c.whole_frame-frame in
    let b = c.fresh in
    let n = c.no_slots in
    behind-part a.table.now (notes a.sizes.now a.aligns.now) a.uuid.now a.stream.now a.header c.requires.lent
    a.number a.first a.begun a.list.now room c.write.ensures f.result f.ensures
    b.result b.ensures n.result n.ensures c.read_root-h.ensures l
    c.in_default.is

-- No room for entry 1

pub returns-then-is_full : goal.returns-then-is_full
returns-then-is_full c =
    let a = c.args in
    record {
      at = λ l. rw c.refused.ensures
          (packet-ran-full a.table.now (notes a.sizes.now a.aligns.now) a.uuid.now a.stream.now a.header
          c.requires.lent a.number a.first a.begun a.list.now l (full-said _ c.is_full.ensures c.if-is_full.true));
    }

-- Entry 1, and the header

pub write-requires : goal.write-requires
write-requires c = room-said _ c.is_full.ensures c.if-is_full.false

pub slice_bounds-read_root-count : goal.slice_bounds-read_root-count
slice_bounds-read_root-count c = omega (arith, listed-fits (goal.at.slice_bounds-read_root-count c).After-write)

pub slice_bounds-read_root-start : goal.slice_bounds-read_root-start
slice_bounds-read_root-start c = omega (arith, listed-fits (goal.at.slice_bounds-read_root-start c).After-write)

pub read_root-h-requires : goal.read_root-h-requires
unfolding fresh_state
read_root-h-requires c =
    let a = c.args in
    let g = c.requires.lent in record {
      root_stands = g.stands;
      prepared = g.ready.noted;
      framed = rw (c.whole_frame-frame.ensures, c.fresh.ensures)
          (start-framed a.stream.now a.begun.place g.small c.requires.starts);
    }

pub overflow_add-used : goal.overflow_add-used
overflow_add-used c =
    omega (arith, header-fits (goal.at.overflow_add-used c).After-read_root-h, c.well_formed)

-- The header stopped

pub shape_of-list-in-Err : goal.shape_of-list-in-Err
shape_of-list-in-Err c =
    let w = c.write in
    same_len_mid words_per_entry (length w.new.list - words_per_entry) w.new.list c.read_root-h.new.list
    c.read_root-h.auto.list ∙ w.auto.list

pub returns-in-Err : goal.returns-in-Err
returns-in-Err c =
    record { at = λ l. rw c.stopped.ensures (stops (goal.at.returns-in-Err c).After-read_root-h l _ c.in-Err.is) }

-- It went on: the rest

pub offset_bounds-list-used : goal.offset_bounds-list-used
offset_bounds-list-used c =
    let p = rest-left (goal.at.offset_bounds-list-used c).In_default no_slots in
    omega (arith, part_length p, p.room, c.well_formed)

pub slice_bounds-read_behind_header-count : goal.slice_bounds-read_behind_header-count
slice_bounds-read_behind_header-count c =
    let p = rest-left (goal.at.slice_bounds-read_behind_header-count c).In_default no_slots in
    omega (arith, part_length p, p.room, c.well_formed)

pub slice_bounds-read_behind_header-start : goal.slice_bounds-read_behind_header-start
slice_bounds-read_behind_header-start c =
    let p = rest-left (goal.at.slice_bounds-read_behind_header-start c).In_default no_slots in
    omega (arith, part_length p, p.room, c.well_formed)

pub read_behind_header-r-requires : goal.read_behind_header-r-requires
read_behind_header-r-requires c =
    let r = (goal.at.read_behind_header-r-requires c).After-read_root-h in
    let p = c.requires in
    let g = p.lent in
    let on = c.in_default.is in
    record {
      readable = record { ready = g.ready; uuid = g.uuid; small = g.small };
      framed = held-framed r on;
      hints = p.hints;
      slots_value = held-unset r on;
    }

pub with_last-requires : goal.with_last-requires
with_last-requires c =
    let left = rest-left (goal.at.with_last-requires c).In_default no_slots in
    omega (arith, ran-room _ left c.read_behind_header-r.ensures, c.well_formed)

pub shape_of-list : goal.shape_of-list
shape_of-list c =
    let m = merged words_per_entry c.write.new.list c.read_root-h.new.list in
    let used = words_per_entry + c.read_root-h.result.used in
    let left = rest-left (goal.at.shape_of-list c).In_default no_slots in
    same_len_mid used (length m - used) m c.read_behind_header-r.new.list c.read_behind_header-r.auto.list ∙ part_length left

pub returns : goal.returns
returns c =
    let rest = (goal.at.returns c).In_default in
    record { at = λ l. rw c.with_last.ensures (ran-last _ (rest-left rest l) c.read_behind_header-r.ensures _) }
