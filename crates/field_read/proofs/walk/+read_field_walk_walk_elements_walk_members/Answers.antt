-- What the four functions of a field that holds others read is what the rules read, and what stopped hands back what came. Such a field is
-- its entry, and then a walk of what is inside, one depth less; a walk is a loop over a run, and each of its rounds is a law of Round,
-- taken through Told. The measure is three times the depth left, one more for the loop, and two more for each walk; that of the loop is the
-- room left.
use Prim.Native.Nat.{ℕ, ◌<◌}
use Rattle.field_read.proofs.walk.read_field.Reads as read-field
use Rattle.field_read.proofs.walk.+read_field_walk_walk_elements_walk_members.Lts-read_field as read-field-lts
use Rattle.field_read.proofs.walk.walk.Reads as walk
use Rattle.field_read.proofs.walk.+read_field_walk_walk_elements_walk_members.Lts-walk as walk-lts
use Rattle.field_read.proofs.walk.walk_elements.Reads as walk-elements
use Rattle.field_read.proofs.walk.walk_members.Reads as walk-members
use Rattle.field_inside.proofs.look.slot_read.Reads as slot-read-reads
use Rattle.field_inside.proofs.opening.enter_structure.Reads as enter-structure-reads
use Rattle.field_inside.proofs.opening.open_field.Reads as open-field-reads
use Rattle.field_read.proofs.at.Reads as at_reads
use Rattle.field_read.proofs.walk.behind_entry.Reads as behind-entry-reads
use Rattle.field_read.proofs.walk.refused.Reads as refused-reads
use Rattle.field_read.proofs.walk.stopped.Reads as stopped-reads
use Rattle.field_runs.proofs.behind.Reads as behind-reads
use Rattle.field_runs.proofs.count.Reads as count-reads
use Rattle.field_runs.proofs.first.Reads as first_reads
use Rattle.class_slots.proofs.forgotten.Reads as forgotten-reads
use Rattle.field_runs.proofs.is_border.Reads as is-border-reads
use Rattle.field_runs.proofs.forward.Reads as forward-reads
use Rattle.field_runs.proofs.into.Reads as into-reads
use Rattle.field_runs.proofs.is_element.Reads as is-element-reads
use Rattle.field_runs.proofs.is_open.Reads as is-open-reads
use Rattle.field_runs.proofs.is_over.Reads as is-over-reads
use Rattle.field_runs.proofs.opened.Reads as opened-reads
use Rattle.field_runs.proofs.taken.Reads as taken-reads
use Rattle.leaf_read.proofs.content_of.Reads as content-of-reads
use Rattle.leaf_read.proofs.leaf_slot.Reads as leaf-slot-reads
use Rattle.leaf_read.proofs.read_leaves.Reads as read-leaves-reads
use Rattle.listing.proofs.at_place.Reads as at-place-reads
use Rattle.listing.proofs.entry.is_full.Reads as is-full-reads
use Rattle.listing.proofs.role.apply.Reads as apply-reads
use Rattle.table_bytes.proofs.wide.Reads as wide-reads
use borrow.Author.Rules.{rules}
use borrow.Author.Tests.{not-true, not-false}
use mathlib.Core.Path.{◌≡◌, refl, sym, ◌∙◌}
use mathlib.Core.Bool.{true, false}
use mathlib.Core.List.{List}
use mathlib.Core.Logic.{◌⊎◌, inl, inr}
use native.Mathlib.Omega.{arith}
use Prim.Native.Nat.{◌+◌, ◌-◌, ◌*◌, ◌^◌, ◌≤◌}
use lib.ListN.{length}
use Rattle.rules.specs.declared.Content.{Content}
use Rattle.rules.specs.declared.Stop.{Stop}
use Rattle.rules.specs.Limits.{slot_count, words_per_entry}
use Rattle.rules.specs.Record.{u8}
use Rattle.rules.specs.Slots.{slot_at, set_slot, unset}
use Rattle.rules.specs.Step.{◌⨾◌}
use Rattle.rules.specs.Faults.{role_of}
use Rattle.rules.specs.Field.{role}
use Rattle.facts.specs.Bytes.{Bytes}
use Rattle.class_layout.specs.Trees.{IsWhole}
use Rattle.class_layout.specs.Notes.{notes}
use Rattle.class_layout.proofs.InPlace.{members-few}
use Rattle.class_layout.proofs.Standing.{depth-some, kind-high, leaf-whole}
use Rattle.class_layout.proofs.Turns.{whole-inside}
use Rattle.frame.specs.Framed.{env_of}
use Rattle.class_slots.specs.Named.{slots_of}
use Rattle.leaf_read.specs.Reads.{leaf_slot}
use Rattle.leaf_read.specs.Leaves.{content_of}
use Rattle.listing.proofs.Checks.{full-said, room-said}
use Rattle.listing.proofs.Parts.{part_length, lent-room, merged}
use Rattle.field_inside.specs.Inside.{slot_read_at}
use Rattle.field_inside.proofs.Noted.{opens, slot-within}
use Rattle.field_inside.proofs.Slots.{content-met, past-unset}
use Rattle.field_runs.specs.declared.Run.{Run}
use Rattle.field_runs.specs.Run.{border}
use Rattle.field_runs.proofs.Cases.{Begun}
use Rattle.field_runs.specs.Ahead.{ahead}
use Rattle.field_runs.proofs.Ahead.{members-stand, members-reads as members-reads-ahead}
use Rattle.field_read.specs.Reads.{FieldReads, stopped_field, state_at}
use Rattle.field_read.proofs.Holds as Holds
use Rattle.field_read.proofs.Holds.{Closed, can-look, open-refused, open-members, open-elements, members-open, elements-open}
use Rattle.field_read.proofs.Holds.{closed_same, closed-reads}
use Rattle.field_read.proofs.Turns.{call, class_read}
use Rattle.field_read.proofs.Round.{Loop, left, Kept, Round, Stops, round-falls, round-full, LeavesRound, no-role}
use Rattle.field_read.proofs.Round.{RoleRound, Holder, CodeRound, EnterRound, FieldRound}
use Rattle.field_read.proofs.Told.{forward-round, forward-left, first-whole, leaves-in-row, leaves-did, leaves-due, role-did}
use Rattle.field_read.proofs.Told.{taken-round, FirstAt, taken_next, holds-first, entered-did, entered-run, inside-did, inside-run}
use Rattle.field_read.proofs.Told.{field-did, field-run, border-some, forgot-one}
use Rattle.field_read.proofs.Walks.{walk_loop, walk_start, walk-stopped, walk_end, elements-run-stands, elements-run-reads}
use Rattle.field_read.proofs.walk.+read_field_walk_walk_elements_walk_members.Goals as goal
use Rattle.field_read.proofs.walk.+read_field_walk_walk_elements_walk_members.Goals.{read_field-then-i-lt64, read_field-else-i-lt64}
use Rattle.field_read.proofs.walk.+read_field_walk_walk_elements_walk_members.Goals.{read_field-then-o, read_field-else-o}
use Rattle.field_read.proofs.walk.+read_field_walk_walk_elements_walk_members.Goals.{walk-then-is_border+then-run-le-ONE_SLOT}
use Rattle.field_read.proofs.walk.+read_field_walk_walk_elements_walk_members.Goals.{walk-then-is_border+else-run-le-ONE_SLOT}
use Rattle.field_read.proofs.walk.+read_field_walk_walk_elements_walk_members.Goals.{walk-else-is_border}
use Rattle.field_read.proofs.walk.+read_field_walk_walk_elements_walk_members.Goals.{walk-then-i-lt64, walk-else-i-lt64}
use Rattle.field_read.proofs.walk.+read_field_walk_walk_elements_walk_members.Goals.{walk-then-to-lt64, walk-else-to-lt64}
use Rattle.field_read.proofs.walk.+read_field_walk_walk_elements_walk_members.Goals.{walk-then-i-lt64-2, walk-else-i-lt64-2}

abbrev read-field-calls : ℕ → read-field-lts.Claims
read-field-calls t = (
  slot-read-reads.Asked,
  slot-read-reads.Learnt,
  open-field-reads.Asked,
  open-field-reads.Learnt,
  refused-reads.Asked,
  refused-reads.Learnt,
  at-place-reads.Asked,
  at-place-reads.Learnt,
  goal.walk_elements-below t,
  walk-elements.Post,
  goal.walk_members-below t,
  walk-members.Post,
  behind-entry-reads.Asked,
  behind-entry-reads.Learnt,
)

abbrev In-read-field : (t : ℕ)
    → ((calls : read-field-lts.Claims) (pre : read-field-lts.Pre-type) (post : read-field-lts.Post-type)
    → read-field-lts.the-Clauses calls pre post → Type 0)
    → Type 0
In-read-field t N = N (read-field-calls t) (goal.read_field-at t) read-field.Post (goal.the-clauses-read_field t)

-- read_field

module _ (t : ℕ) where
  -- Places of the code: what came is known; the content of the slot that it reads is met; its entry is listed; it goes inside; the fields
  -- inside are read

  abbrev AtGiven : Type 0
  AtGiven = In-read-field t read-field-lts.Start

  abbrev AtKnown : Type 0
  AtKnown = In-read-field t read-field-lts.After-slice_known

  abbrev AtMet : Type 0
  AtMet = In-read-field t read-field-lts.Joined1

  abbrev AtEntry : Type 0
  AtEntry = In-read-field t read-field-lts.After-open_field

  abbrev AtInside : Type 0
  AtInside = In-read-field t read-field-lts.After-at_place

  abbrev AtClosed : Type 0
  AtClosed = In-read-field t read-field-lts.Joined3

  -- and the ways back

  abbrev known-given : AtKnown → AtGiven
  known-given c = c.before.before.before.before.before.before

  abbrev met-known : AtMet → AtKnown
  met-known c = c.before.before

  abbrev met-given : AtMet → AtGiven
  met-given c = known-given (met-known c)

  abbrev entry-met : AtEntry → AtMet
  entry-met c = c.before.before.before

  abbrev inside-entry : AtInside → AtEntry
  inside-entry c = c.before.before.before.before.before.before

  abbrev inside-met : AtInside → AtMet
  inside-met c = entry-met (inside-entry c)

  abbrev inside-given : AtInside → AtGiven
  inside-given c = met-given (inside-met c)

  abbrev closed-inside : AtClosed → AtInside
  closed-inside c = c.before

  abbrev closed-given : AtClosed → AtGiven
  closed-given c = inside-given (closed-inside c)

  -- What is known at them

  field-holder : (c : AtMet) →
      let a = c.args in
      Holds.Holder a.stream.now a.uuid.now a.frame a.table.now (notes a.sizes.now a.aligns.now) a.left a.at
      c.if-i-lt64.content a.st a.slots a.list.now
  unfolding slot_at
  field-holder c =
      let s = met-given c in
      let p = s.requires in
      let many = s.well_formed.1.1.1.1.1.1.1.1.1.0.1.0.1 in
      record {
        stands = p.whole;
        holds = p.bound.0;
        room = p.bound.1;
        small = omega (arith, s.well_formed.1.1.1.1.1.1.1.1.1.1.0);
        noted = p.prepared;
        framed = p.framed;
        many = many;
        told = content-met s.args.slots many c.slot_read-i.ensures.0 (λ y. y) (λ y. y) (elim c.if-i-lt64.branch [
          | read_field-then-i-lt64 w ↦ inl w.content-is
          | read_field-else-i-lt64 w ↦ inr (w.if-i-lt64.false, w.content-is)
        ]);
      }

  was-opened : (c : AtInside) → c.open_field-o.result.on ≡ true
  was-opened c = not-false _ c.if-not-o.false

  -- what is inside is lent the list behind its entry
  entry-fits : (c : AtInside) → words_per_entry ≤ length c.open_field-o.new.list
  entry-fits c = omega (arith, c.open_field-o.auto.list, (field-holder (inside-met c)).room)

  one-depth : (c : AtInside) → 1 ≤ c.args.left
  one-depth c = omega (arith, depth-some _ _ _ (field-holder (inside-met c)).stands)

  -- what they did, members or elements
  field-closed : (c : AtClosed) →
      let a = c.args in
      Closed (call a.stream.now a.uuid.now a.frame (class_read a.left a.table.now a.at) a.st a.slots a.list.now)
      c.if-o.list c.if-o.r
  field-closed c =
      let i = closed-inside c in
      let h = field-holder (inside-met i) in
      let o = i.open_field-o.ensures in
      let at = c.at_place-next.ensures in
      elim c.if-o.branch [
        | read_field-then-o w ↦
            closed_same w.list-is w.r-is
            (elements-open h o.value o.list_after (was-opened i) w.if-o.true (rw (at) at w.walk_elements-r.ensures))
        | read_field-else-o w ↦
            closed_same w.list-is w.r-is
            (members-open h o.value o.list_after (was-opened i) w.if-o.false (rw (at) at w.walk_members-r.ensures))
      ]

-- The slot that it reads, and its entry

pub read_field-slot_read-i-requires : goal.read_field-slot_read-i-requires
read_field-slot_read-i-requires t c =
    let p = c.requires in
    (omega (arith, p.bound.0), kind-high _ _ _ p.whole, slot-within _ _ _ p.whole p.bound.0)

pub read_field-offset_bounds-slots-i : goal.read_field-offset_bounds-slots-i
read_field-offset_bounds-slots-i t c = omega arith

pub read_field-bounds-slots-i : goal.read_field-bounds-slots-i
read_field-bounds-slots-i t c = omega arith

pub read_field-open_field-o-requires : goal.read_field-open_field-o-requires
read_field-open_field-o-requires t c =
    let h = field-holder t c.before.before.before in
    record {
      holder_stands = can-look h;
      start_le_place = (h.framed.begun, omega (arith, h.framed.within, h.framed.ends, h.framed.small));
      words_per_entry_in_bounds = h.room;
    }

pub read_field-shape_of-list-then-not-o : goal.read_field-shape_of-list-then-not-o
read_field-shape_of-list-then-not-o t c = c.open_field-o.auto.list

pub read_field-returns-then-not-o : goal.read_field-returns-then-not-o
read_field-returns-then-not-o t c =
    let e = c.before.before.before.before.before.before.before in
    let o = e.open_field-o.ensures in
    rw c.refused.ensures (open-refused (field-holder t (entry-met t e)) o.value o.list_after (not-true _ c.if-not-o.true))

-- The fields inside

pub read_field-overflow_sub-left : goal.read_field-overflow_sub-left
read_field-overflow_sub-left t c = omega (arith, one-depth t c.before.before)

pub read_field-slice_bounds-walk_elements-count : goal.read_field-slice_bounds-walk_elements-count
read_field-slice_bounds-walk_elements-count t c = omega (arith, entry-fits t c.before.before)

pub read_field-slice_bounds-walk_elements-start : goal.read_field-slice_bounds-walk_elements-start
read_field-slice_bounds-walk_elements-start t c = omega (arith, entry-fits t c.before.before)

pub read_field-slice_bounds-walk_elements-end : goal.read_field-slice_bounds-walk_elements-end
read_field-slice_bounds-walk_elements-end t c = omega arith

pub read_field-walk_elements-r-requires : goal.read_field-walk_elements-r-requires
read_field-walk_elements-r-requires t c =
    let i = c.before.before.before in
    let h = field-holder t (inside-met t i) in
    let o = i.open_field-o.ensures in
    let inside = open-elements h o.value o.list_after (was-opened t i) c.if-o.true in (
      omega (arith, i.decreases, one-depth t i),
      (inside.0.class, (inside.0.forgets, (h.noted, rw c.at_place-next.ensures inside.1))),
    )

pub read_field-overflow_sub-left-else-o : goal.read_field-overflow_sub-left-else-o
read_field-overflow_sub-left-else-o t c = omega (arith, one-depth t c.before.before)

pub read_field-slice_bounds-walk_members-count : goal.read_field-slice_bounds-walk_members-count
read_field-slice_bounds-walk_members-count t c = omega (arith, entry-fits t c.before.before)

pub read_field-slice_bounds-walk_members-start : goal.read_field-slice_bounds-walk_members-start
read_field-slice_bounds-walk_members-start t c = omega (arith, entry-fits t c.before.before)

pub read_field-slice_bounds-walk_members-end : goal.read_field-slice_bounds-walk_members-end
read_field-slice_bounds-walk_members-end t c = omega arith

pub read_field-walk_members-r-requires : goal.read_field-walk_members-r-requires
read_field-walk_members-r-requires t c =
    let i = c.before.before.before in
    let h = field-holder t (inside-met t i) in
    let o = i.open_field-o.ensures in
    let inside = open-members h o.value o.list_after (was-opened t i) c.if-o.false in
    (omega (arith, i.decreases, one-depth t i), (inside.0, (h.noted, rw c.at_place-next.ensures inside.1)))

pub read_field-behind_entry-requires : goal.read_field-behind_entry-requires
read_field-behind_entry-requires t c = omega (arith, (field-closed t c.before).fits)

pub read_field-shape_of-list : goal.read_field-shape_of-list
read_field-shape_of-list t c = (field-closed t c.before.before).same

pub read_field-returns : goal.read_field-returns
read_field-returns t c = rw c.behind_entry.ensures (closed-reads (field-closed t c.before.before))

-- walk

abbrev walk-calls : ℕ → walk-lts.Claims
walk-calls t = (
  is-border-reads.Asked,
  is-border-reads.Learnt,
  forgotten-reads.Asked,
  forgotten-reads.Learnt,
  forward-reads.Asked,
  forward-reads.Learnt,
  is-over-reads.Asked,
  is-over-reads.Learnt,
  at_reads.Asked,
  at_reads.Learnt,
  is-full-reads.Asked,
  is-full-reads.Learnt,
  refused-reads.Asked,
  refused-reads.Learnt,
  first_reads.Asked,
  first_reads.Learnt,
  leaf-slot-reads.Asked,
  leaf-slot-reads.Learnt,
  count-reads.Asked,
  count-reads.Learnt,
  is-element-reads.Asked,
  is-element-reads.Learnt,
  read-leaves-reads.Asked,
  read-leaves-reads.Learnt,
  behind-reads.Asked,
  behind-reads.Learnt,
  content-of-reads.Asked,
  content-of-reads.Learnt,
  apply-reads.Asked,
  apply-reads.Learnt,
  stopped-reads.Asked,
  stopped-reads.Learnt,
  taken-reads.Asked,
  taken-reads.Learnt,
  enter-structure-reads.Asked,
  enter-structure-reads.Learnt,
  wide-reads.Asked,
  wide-reads.Learnt,
  opened-reads.Asked,
  opened-reads.Learnt,
  slot-read-reads.Asked,
  slot-read-reads.Learnt,
  is-open-reads.Asked,
  is-open-reads.Learnt,
  open-field-reads.Asked,
  open-field-reads.Learnt,
  into-reads.Asked,
  into-reads.Learnt,
  goal.read_field-below t,
  read-field.Post,
)

abbrev In-walk : (t : ℕ)
    → ((calls : walk-lts.Claims) (pre : walk-lts.Pre-type) (post : walk-lts.Post-type) → walk-lts.invariant-loop
    → walk-lts.decreases-loop → walk-lts.the-Clauses calls pre post → Type 0)
    → Type 0
In-walk t N =
    N (walk-calls t) (goal.walk-at t) walk.Post goal.the-walk-invariant-loop-only goal.the-walk-decreases-loop-only
    (goal.the-clauses-walk t)

module _ (t : ℕ) where
  -- Places of the code: the stream's bytes are known; in front of the loop; a round's start, its run forward; a field left, no room for it,
  -- or room, its class; leaves read, what is due of the last, its role done; a field that holds others, entered and its place taken, its
  -- members the run; told its slot, opened and its place taken, what it holds the run; or read by itself

  abbrev AtStart : Type 0
  AtStart = In-walk t walk-lts.Start

  abbrev AtStream : Type 0
  AtStream = In-walk t walk-lts.After-shared_slice_known5

  abbrev AtFront : Type 0
  AtFront = In-walk t walk-lts.After-place

  abbrev AtLoop : Type 0
  AtLoop = In-walk t walk-lts.At-loop

  abbrev AtBorder : Type 0
  AtBorder = In-walk t walk-lts.Joined1

  abbrev AtForward : Type 0
  AtForward = In-walk t walk-lts.After-forward

  abbrev AtField : Type 0
  AtField = In-walk t walk-lts.Else3

  abbrev AtFull : Type 0
  AtFull = In-walk t walk-lts.Then4

  abbrev AtRoom : Type 0
  AtRoom = In-walk t walk-lts.Else4

  abbrev AtClass : Type 0
  AtClass = In-walk t walk-lts.After-first

  abbrev AtLeaf : Type 0
  AtLeaf = In-walk t walk-lts.Joined6

  abbrev AtLeaves : Type 0
  AtLeaves = In-walk t walk-lts.After-read_leaves

  abbrev AtBehind : Type 0
  AtBehind = In-walk t walk-lts.After-behind

  abbrev AtDue : Type 0
  AtDue = In-walk t walk-lts.Joined8

  abbrev AtApplied : Type 0
  AtApplied = In-walk t walk-lts.After-apply

  abbrev AtHolder : Type 0
  AtHolder = In-walk t walk-lts.After-taken

  abbrev AtEntered : Type 0
  AtEntered = In-walk t walk-lts.After-enter_structure

  abbrev AtStood : Type 0
  AtStood = In-walk t walk-lts.After-struct_known7

  abbrev AtMembers : Type 0
  AtMembers = In-walk t walk-lts.After-opened

  abbrev AtTold : Type 0
  AtTold = In-walk t walk-lts.Joined12

  abbrev AtOpened : Type 0
  AtOpened = In-walk t walk-lts.After-open_field

  abbrev AtPlaced : Type 0
  AtPlaced = In-walk t walk-lts.After-struct_known8

  abbrev AtInto : Type 0
  AtInto = In-walk t walk-lts.After-into

  abbrev AtRead : Type 0
  AtRead = In-walk t walk-lts.After-read_field

  -- and the ways back

  abbrev stream-start : AtStream → AtStart
  stream-start c = c.before.before.before.before.before

  abbrev front-stream : AtFront → AtStream
  front-stream c = c.before.before

  abbrev front-start : AtFront → AtStart
  front-start c = stream-start (front-stream c)

  abbrev loop-front : AtLoop → AtFront
  loop-front c = c.before

  abbrev loop-stream : AtLoop → AtStream
  loop-stream c = front-stream (loop-front c)

  abbrev loop-start : AtLoop → AtStart
  loop-start c = front-start (loop-front c)

  abbrev border-loop : AtBorder → AtLoop
  border-loop c = c.before.before

  abbrev forward-border : AtForward → AtBorder
  forward-border c = c.before

  abbrev forward-loop : AtForward → AtLoop
  forward-loop c = border-loop (forward-border c)

  abbrev field-forward : AtField → AtForward
  field-forward c = c.before.before

  abbrev field-border : AtField → AtBorder
  field-border c = forward-border (field-forward c)

  abbrev field-loop : AtField → AtLoop
  field-loop c = forward-loop (field-forward c)

  abbrev full-field : AtFull → AtField
  full-field c = c.before.before

  abbrev room-field : AtRoom → AtField
  room-field c = c.before.before

  abbrev class-room : AtClass → AtRoom
  class-room c = c.before

  abbrev class-field : AtClass → AtField
  class-field c = room-field (class-room c)

  abbrev class-border : AtClass → AtBorder
  class-border c = field-border (class-field c)

  abbrev class-loop : AtClass → AtLoop
  class-loop c = field-loop (class-field c)

  abbrev leaf-class : AtLeaf → AtClass
  leaf-class c = c.before.before.before.before

  abbrev leaf_room : AtLeaf → AtRoom
  leaf_room c = class-room (leaf-class c)

  abbrev leaf-field : AtLeaf → AtField
  leaf-field c = class-field (leaf-class c)

  abbrev leaf-border : AtLeaf → AtBorder
  leaf-border c = class-border (leaf-class c)

  abbrev leaf-loop : AtLeaf → AtLoop
  leaf-loop c = class-loop (leaf-class c)

  abbrev leaves-leaf : AtLeaves → AtLeaf
  leaves-leaf c = c.before.before.before.before

  abbrev leaves-class : AtLeaves → AtClass
  leaves-class c = leaf-class (leaves-leaf c)

  abbrev leaves-room : AtLeaves → AtRoom
  leaves-room c = leaf_room (leaves-leaf c)

  abbrev leaves_field : AtLeaves → AtField
  leaves_field c = leaf-field (leaves-leaf c)

  abbrev leaves-border : AtLeaves → AtBorder
  leaves-border c = leaf-border (leaves-leaf c)

  abbrev leaves_loop : AtLeaves → AtLoop
  leaves_loop c = leaf-loop (leaves-leaf c)

  abbrev behind-leaves : AtBehind → AtLeaves
  behind-leaves c = c.before.before.before.before.before.before.before

  abbrev behind-border : AtBehind → AtBorder
  behind-border c = leaves-border (behind-leaves c)

  abbrev behind-loop : AtBehind → AtLoop
  behind-loop c = leaves_loop (behind-leaves c)

  abbrev due-behind : AtDue → AtBehind
  due-behind c = c.before.before

  abbrev due-leaves : AtDue → AtLeaves
  due-leaves c = behind-leaves (due-behind c)

  abbrev due-border : AtDue → AtBorder
  due-border c = behind-border (due-behind c)

  abbrev due-loop : AtDue → AtLoop
  due-loop c = behind-loop (due-behind c)

  abbrev applied-due : AtApplied → AtDue
  applied-due c = c.before.before.before.before

  abbrev applied-behind : AtApplied → AtBehind
  applied-behind c = due-behind (applied-due c)

  abbrev applied-leaves : AtApplied → AtLeaves
  applied-leaves c = due-leaves (applied-due c)

  abbrev applied-border : AtApplied → AtBorder
  applied-border c = due-border (applied-due c)

  abbrev applied-loop : AtApplied → AtLoop
  applied-loop c = due-loop (applied-due c)

  abbrev holder-class : AtHolder → AtClass
  holder-class c = c.before.before.before

  abbrev holder-room : AtHolder → AtRoom
  holder-room c = class-room (holder-class c)

  abbrev holder-field : AtHolder → AtField
  holder-field c = class-field (holder-class c)

  abbrev holder-border : AtHolder → AtBorder
  holder-border c = class-border (holder-class c)

  abbrev holder-loop : AtHolder → AtLoop
  holder-loop c = class-loop (holder-class c)

  abbrev entered-holder : AtEntered → AtHolder
  entered-holder c = c.before.before.before

  abbrev entered-room : AtEntered → AtRoom
  entered-room c = holder-room (entered-holder c)

  abbrev entered-border : AtEntered → AtBorder
  entered-border c = holder-border (entered-holder c)

  abbrev entered-loop : AtEntered → AtLoop
  entered-loop c = holder-loop (entered-holder c)

  abbrev stood-entered : AtStood → AtEntered
  stood-entered c = c.before.before.before.before

  abbrev members-stood : AtMembers → AtStood
  members-stood c = c.before.before.before.before

  abbrev members-entered : AtMembers → AtEntered
  members-entered c = stood-entered (members-stood c)

  abbrev told-holder : AtTold → AtHolder
  told-holder c = c.before.before.before

  abbrev told-class : AtTold → AtClass
  told-class c = holder-class (told-holder c)

  abbrev told-room : AtTold → AtRoom
  told-room c = holder-room (told-holder c)

  abbrev told-border : AtTold → AtBorder
  told-border c = holder-border (told-holder c)

  abbrev told-loop : AtTold → AtLoop
  told-loop c = holder-loop (told-holder c)

  abbrev opened-told : AtOpened → AtTold
  opened-told c = c.before.before.before.before

  abbrev opened-holder : AtOpened → AtHolder
  opened-holder c = told-holder (opened-told c)

  abbrev opened-class : AtOpened → AtClass
  opened-class c = told-class (opened-told c)

  abbrev opened-room : AtOpened → AtRoom
  opened-room c = told-room (opened-told c)

  abbrev opened-border : AtOpened → AtBorder
  opened-border c = told-border (opened-told c)

  abbrev opened-loop : AtOpened → AtLoop
  opened-loop c = told-loop (opened-told c)

  abbrev placed-opened : AtPlaced → AtOpened
  placed-opened c = c.before.before.before.before

  abbrev into-opened : AtInto → AtOpened
  into-opened c = placed-opened c.before.before

  abbrev read_told : AtRead → AtTold
  read_told c = c.before.before.before.before.before

  abbrev read-holder : AtRead → AtHolder
  read-holder c = told-holder (read_told c)

  abbrev read-class : AtRead → AtClass
  read-class c = told-class (read_told c)

  abbrev read-border : AtRead → AtBorder
  read-border c = told-border (read_told c)

  abbrev read-loop : AtRead → AtLoop
  read-loop c = told-loop (read_told c)

  -- What is known at them

  abbrev walk_of : AtLoop → Loop
  walk_of c =
      let a = c.args in
      walk_loop a.stream.now a.uuid.now a.frame a.left a.table.now (notes a.sizes.now a.aligns.now) a.begun
      a.st a.given a.list.now

  -- a round whose run is r
  abbrev Now : AtLoop → Run → Type 0
  Now c r = let l = c.loop-only in Round (walk_of c) r l.list l.used (state_at l.place l.order l.state) l.slots

  -- the same behind its border
  abbrev Here : AtBorder → Run → Type 0
  Here c r =
      let l = c.loop-only in
      Round (walk_of (border-loop c)) r l.list l.used (state_at l.place l.order l.state) c.if-is_border.slots

  now : (c : AtLoop) → Now c c.loop-only.run
  now c = c.loop-only.invariant.1

  -- what stopped hands back what came
  stopped : (c : AtLoop) {v : Stop} {n : ℕ} {ws : List ℕ} → Stops (walk_of c) v n ws →
      let a = c.args in
      FieldReads (ahead a.left a.table.now (env_of a.stream.now a.uuid.now a.frame) a.begun) a.st a.given
      (stopped_field v n a.st a.given) a.list.now ws
  stopped c stops = walk-stopped _ _ _ _ _ _ _ _ _ c.loop-only.invariant.0 stops

  within : (c : AtLoop) →
      let l = c.loop-only in
      let n = length c.args.list.now in
      (l.used ≤ length l.list) × (length l.list ≡ n) × (8 * n < 2 ^ 63)
  within c =
      let p = (now c).part in
      (omega (arith, part_length p, p.room), part_length p, omega (arith, c.well_formed.1.1.1.1.1.1.1.1.1.1.0))

  -- the run, with what it had put off in front where nothing else was left
  walk-border-told : (c : AtBorder) →
      let a = c.args in
      let l = c.loop-only in
      ((border l.run ≡ true) × (c.if-is_border.slots ≡ unset l.slots (slots_of a.table.now a.sizes.now l.run.again)))
      ⊎ ((border l.run ≡ false) × (c.if-is_border.slots ≡ l.slots))
  unfolding set_slot
  walk-border-told c =
      let is = sym c.is_border.ensures in
      elim c.if-is_border.branch [
        | walk-then-is_border+then-run-le-ONE_SLOT w ↦
            let b = is ∙ w.if-is_border.true in inl (b, forgot-one (now (border-loop c)) b w.if-run-le-ONE_SLOT.true refl w.slots-is)
        | walk-then-is_border+else-run-le-ONE_SLOT w ↦ inl (is ∙ w.if-is_border.true, w.slots-is ∙ w.forgotten-slots.ensures)
        | walk-else-is_border w ↦ inr (is ∙ w.if-is_border.false, w.slots-is)
      ]

  forwarded : (c : AtForward) → Here (forward-border c) c.forward-run.result
  forwarded c = forward-round c.forward-run.ensures (walk-border-told (forward-border c)) (now (forward-loop c))

  here : (c : AtField) → Here (field-border c) c.forward-run.result
  here c = forwarded (field-forward c)

  some_left : (c : AtField) → Begun c.forward-run.result
  some_left c = forward-left _ c.forward-run.ensures (sym c.is_over.ensures ∙ c.if-is_over.false)

  class-there : (c : AtClass) →
      let a = c.args in
      IsWhole a.left a.table.now c.first-next.result
  class-there c = first-whole c.first-next.ensures (here (class-field c)) (some_left (class-field c))

  table_fits : (c : AtLoop) → length c.args.table.now < 2 ^ 62
  table_fits c = omega (arith, c.well_formed.0)

  bytes : (c : AtLoop) → Bytes c.args.stream.now
  bytes c = search rules

  no_room : (c : AtFull) →
      let l = c.loop-only in
      length l.list - l.used < words_per_entry
  no_room c = full-said _ c.is_full.ensures c.if-is_full.true

  room : (c : AtRoom) →
      let l = c.loop-only in
      words_per_entry ≤ length l.list - l.used
  room c = room-said _ c.is_full.ensures c.if-is_full.false

  -- the content of the slot that the leaf reads
  leaf-told : (c : AtLeaf) →
      slot_at c.if-is_border.slots (leaf_slot c.args.table.now c.first-next.result)
      ≡ c.if-i-lt64.content
  unfolding slot_at
  leaf-told c =
      content-met c.if-is_border.slots (here (leaf-field c)).many c.leaf_slot-i.ensures (λ y. y) (λ y. y)
      (elim c.if-i-lt64.branch [
        | walk-then-i-lt64 w ↦ inl w.content-is
        | walk-else-i-lt64 w ↦ inr (w.if-i-lt64.false, w.content-is)
      ])

  -- what the leaves did
  leaves : (c : AtLeaves) →
      let k = leaves_field c in
      let l = c.loop-only in
      LeavesRound (walk_of (leaves_loop c)) k.forward-run.result l.list l.used
      (state_at l.place l.order l.state) c.if-is_border.slots
      c.read_leaves-r.result c.read_leaves-r.new.list
  unfolding u8
  leaves c =
      let k = leaves_field c in
      leaves-did (here k) (some_left k) c.is_element.ensures c.first-next.ensures
      c.count.ensures (bytes (leaves_loop c)) _ c.if-kind-lt-FIRST_THAT_HOLDS.true
      (room (leaves-room c)) (leaf-told (leaves-leaf c)) c.read_leaves-r.ensures.value c.read_leaves-r.ensures.list_after

  -- the slots behind the leaves, as they are told and joined
  slot-told : (c : AtDue) →
      let q = c.read_leaves-r.result in
      let came = c.if-is_border.slots in
      (c.if-to-lt64.slots ≡ set_slot came q.slot (content_of (u8 c.args.table.now q.at) q.value))
      ⊎ ((slot_count ≤ q.slot) × (c.if-to-lt64.slots ≡ came))
  unfolding u8 set_slot
  slot-told c =
      elim c.if-to-lt64.branch [
        | walk-then-to-lt64 w ↦ inl (rw w.content_of-content.ensures at w.slots-is)
        | walk-else-to-lt64 w ↦ inr (w.if-to-lt64.false, w.slots-is)
      ]

  leaves-on : (c : AtDue) → c.read_leaves-r.result.on ≡ true
  leaves-on c = not-false _ c.if-not-r.false

  due : (c : AtDue) →
      let l = c.loop-only in
      let y = c.read_leaves-r in
      let q = y.result in
      let r = c.behind-run.result in
      let w = walk_of (due-loop c) in
      Kept w (role (role_of q.role) q.width q.value ⨾ left w r) r
      (merged l.used l.list y.new.list) (l.used + q.used)
      (state_at q.place q.order l.state) c.if-to-lt64.slots
  due c =
      leaves-due (leaves (due-leaves c)) (leaves-on c) (here (leaves_field (due-leaves c))).many c.behind-run.ensures
      (slot-told c)

  -- a round with leaves lists an entry at least
  leaves-fall : (c : AtDue) →
      let l = c.loop-only in
      let q = c.read_leaves-r.result in
      (l.used + words_per_entry ≤ l.used + q.used) × (l.used + q.used ≤ length l.list)
      × (length l.list ≡ length c.args.list.now)
  leaves-fall c =
      let y = leaves (due-leaves c) in
      (omega (arith, y.some (leaves-on c)), omega (arith, y.room, within (due-loop c)), (within (due-loop c)).1)

  -- what its role did
  applied : (c : AtApplied) →
      let l = c.loop-only in
      let y = c.read_leaves-r in
      let q = y.result in
      let r = c.behind-run.result in
      let w = walk_of (applied-loop c) in
      RoleRound w (left w r) r (merged l.used l.list y.new.list) (l.used + q.used)
      (state_at q.place q.order l.state) c.if-to-lt64.slots c.apply-said.result c.apply-said.new.list
  applied c = role-did _ _ _ (due (applied-due c)) c.at-then-role-ne0.ensures c.apply-said.ensures

  holder-round : (c : AtHolder) → Here (holder-border c) c.taken-run.result
  holder-round c = taken-round c.taken-run.ensures (some_left (holder-field c)) (here (holder-field c))

  holder-next : (c : AtHolder) → FirstAt c.taken-run.result c.first-next.result
  holder-next c = taken_next _ c.first-next.ensures c.taken-run.ensures (some_left (holder-field c))

  -- its kind and the byte behind it
  slot-there : (c : AtHolder) → c.first-next.result + 2 ≤ length c.args.table.now
  unfolding u8
  slot-there c = slot-within _ _ _ (class-there (holder-class c)) c.if-kind-lt-FIRST_THAT_HOLDS.false

  holder : (c : AtHolder) (x : Content) →
      let l = c.loop-only in
      let came = c.if-is_border.slots in
      slot_at came (slot_read_at c.args.table.now c.first-next.result) ≡ x
      → Holder (walk_of (holder-loop c)) c.taken-run.result l.list l.used (state_at l.place l.order l.state) came x
  unfolding u8
  holder c x told = holds-first (holder-round c) (holder-next c) c.if-kind-lt-FIRST_THAT_HOLDS.false (room (holder-room c)) told

  -- a structure that was entered
  structure : (c : AtEntered) →
      let l = c.loop-only in
      EnterRound (walk_of (entered-loop c)) c.taken-run.result l.list l.used
      (state_at l.place l.order l.state) c.if-is_border.slots c.enter_structure-o.result
      c.enter_structure-o.new.list
  unfolding u8
  structure c =
      let k = entered-holder c in
      entered-did (holder k _ refl) (holder-next k) c.if-kind-eq-STRUCTURE.true
      c.enter_structure-o.ensures.value c.enter_structure-o.ensures.list_after

  holder-told : (c : AtTold) →
      slot_at c.if-is_border.slots (slot_read_at c.args.table.now c.first-next.result)
      ≡ c.if-i-lt64-2.content
  unfolding slot_at
  holder-told c =
      content-met c.if-is_border.slots (here (holder-field (told-holder c))).many c.slot_read-i.ensures.0 (λ y. y) (λ y. y)
      (elim c.if-i-lt64-2.branch [
        | walk-then-i-lt64-2 w ↦ inl w.content-is
        | walk-else-i-lt64-2 w ↦ inr (w.if-i-lt64-2.false, w.content-is)
      ])

  holds : (c : AtTold) →
      let l = c.loop-only in
      Holder (walk_of (told-loop c)) c.taken-run.result l.list l.used (state_at l.place l.order l.state)
      c.if-is_border.slots c.if-i-lt64-2.content
  holds c = holder (told-holder c) _ (holder-told c)

  opening : (c : AtOpened) →
      let l = c.loop-only in
      CodeRound (walk_of (opened-loop c)) c.taken-run.result l.list l.used
      (state_at l.place l.order l.state) c.if-is_border.slots c.open_field-o.result
      c.open_field-o.new.list
  unfolding u8
  opening c =
      let can = sym c.is_open.ensures ∙ c.if-is_open.true in
      inside-did (holds (opened-told c)) (holder-next (opened-holder c)) can c.open_field-o.ensures.value c.open_field-o.ensures.list_after

  -- what is inside, in the run
  into-round : (c : AtInto) →
      let l = c.loop-only in
      let o = c.open_field-o in
      Round (walk_of (opened-loop (into-opened c))) c.into-run.result
      (merged l.used l.list o.new.list) (l.used + words_per_entry)
      (state_at o.result.place l.order l.state)
      c.if-is_border.slots
  unfolding u8
  into-round c =
      let past = into-opened c in
      inside-run (holds (opened-told past)) (holder-next (opened-holder past)) (opening past) c.into-run.ensures
      (not-false _ c.if-not-o-2.false)

  field : (c : AtRead) →
      let l = c.loop-only in
      FieldRound (walk_of (read-loop c)) c.taken-run.result l.list l.used c.read_field-r.result
      c.read_field-r.new.list
  field c = field-did (holds (read_told c)) (holder-next (read-holder c)) c.at-in-loop-only.ensures c.read_field-r.ensures

-- The loop's start and its end

pub walk-loop-only-init : goal.walk-loop-only-init
walk-loop-only-init t c =
    let s = front-start t c.before in
    let many = s.well_formed.1.1.1.1.1.1.1.1.1.0.1.0.1 in
    (many, walk_start _ _ _ _ _ _ _ _ _ _ s.requires.whole_run s.requires.prepared s.requires.framed many)

pub walk-overflow_sub-only : goal.walk-overflow_sub-only
walk-overflow_sub-only t c =
    let at-border = c.before.before.before.before in
    border-some _ (sym at-border.is_border.ensures ∙ at-border.if-is_border.true)

pub walk-offset_bounds-slots-only : goal.walk-offset_bounds-slots-only
walk-offset_bounds-slots-only t c = omega (arith, c.if-run-le-ONE_SLOT.true)

pub walk-bounds-slots-only : goal.walk-bounds-slots-only
walk-bounds-slots-only t c = omega (arith, c.if-run-le-ONE_SLOT.true)

pub walk-shape_of-list-then-is_over : goal.walk-shape_of-list-then-is_over
walk-shape_of-list-then-is_over t c =
    let past = c.before.before.before.before in
    part_length (now t (forward-loop t past)).part

pub walk-returns-then-is_over : goal.walk-returns-then-is_over
walk-returns-then-is_over t c =
    let past = c.before.before.before.before in
    let over = sym c.is_over.ensures ∙ c.if-is_over.true in
    rw c.at.ensures (walk_end _ _ _ _ _ _ _ _ _ _ (forwarded t past) over)

-- No room (40)

pub walk-overflow_sub-list : goal.walk-overflow_sub-list
walk-overflow_sub-list t c = (within t (field-loop t c.before)).0

pub walk-shape_of-list-then-is_full : goal.walk-shape_of-list-then-is_full
walk-shape_of-list-then-is_full t c = part_length (now t (field-loop t (full-field t c.before.before))).part

pub walk-returns-then-is_full : goal.walk-returns-then-is_full
walk-returns-then-is_full t c =
    let k = full-field t c.before.before in
    rw c.refused.ensures (stopped t (field-loop t k) (round-full (here t k) (some_left t k) (no_room t c.before.before)))

-- Leaves

pub walk-bounds-table-next : goal.walk-bounds-table-next
walk-bounds-table-next t c = whole-inside _ _ _ (class-there t c.before.before)

pub walk-leaf_slot-i-requires : goal.walk-leaf_slot-i-requires
unfolding u8
walk-leaf_slot-i-requires t c =
    let past = c.before.before.before in
    record {
      whole = leaf-whole _ _ _ (class-there t past) c.if-kind-lt-FIRST_THAT_HOLDS.true;
      at_bound = c.if-kind-lt-FIRST_THAT_HOLDS.true;
    }

pub walk-offset_bounds-slots-i : goal.walk-offset_bounds-slots-i
walk-offset_bounds-slots-i t c = omega arith

pub walk-bounds-slots-i : goal.walk-bounds-slots-i
walk-bounds-slots-i t c = omega arith

pub walk-offset_bounds-list-used : goal.walk-offset_bounds-list-used
walk-offset_bounds-list-used t c =
    let past = c.before.before.before in
    omega (arith, within t (leaf-loop t past))

pub walk-slice_bounds-read_leaves-count : goal.walk-slice_bounds-read_leaves-count
walk-slice_bounds-read_leaves-count t c =
    let past = c.before.before.before in
    omega (arith, within t (leaf-loop t past))

pub walk-slice_bounds-read_leaves-start : goal.walk-slice_bounds-read_leaves-start
walk-slice_bounds-read_leaves-start t c =
    let past = c.before.before.before in
    omega (arith, within t (leaf-loop t past))

pub walk-slice_bounds-read_leaves-end : goal.walk-slice_bounds-read_leaves-end
walk-slice_bounds-read_leaves-end t c = omega arith

pub walk-read_leaves-r-requires : goal.walk-read_leaves-r-requires
unfolding u8
walk-read_leaves-r-requires t c =
    let past = c.before.before.before.before in
    let k = leaf-field t past in
    let l = past.loop-only in
    let h = here t k in
    let noted = h.noted in
    let count = c.count.ensures in
    record {
      standing = leaves-in-row h (some_left t k) c.is_element.ensures past.first-next.ensures count;
      from_bound = (
        past.if-kind-lt-FIRST_THAT_HOLDS.true,
        omega (arith, (some_left t k).some, count),
        omega (arith, lent-room l.used l.list, room t (leaf_room t past)),
      );
      table_in_bounds = (noted.sized.room, λ d p v. (noted.classes d p v).size);
      table_in_bounds_2 = (noted.room, noted.numbers);
      framed = h.framed;
      held = past-unset past.if-is_border.slots _ h.many (leaf-told t past);
    }

pub walk-overflow_add-used : goal.walk-overflow_add-used
walk-overflow_add-used t c =
    let past = c.before.before.before.before in
    omega (arith, (leaves t past).room, within t (leaves_loop t past))

pub walk-shape_of-list-then-not-r : goal.walk-shape_of-list-then-not-r
walk-shape_of-list-then-not-r t c =
    let past = c.before.before.before.before.before.before.before.before in
    (leaves t past).same

pub walk-returns-then-not-r : goal.walk-returns-then-not-r
walk-returns-then-not-r t c =
    let past = c.before.before.before.before.before.before.before.before in
    rw c.refused-then-not-r.ensures (stopped t (leaves_loop t past) ((leaves t past).stops (not-true _ c.if-not-r.true)))

pub walk-behind-run-requires : goal.walk-behind-run-requires
walk-behind-run-requires t c =
    let past = c.before.before.before.before.before.before.before in
    let k = leaves_loop t past in
    let there = whole-inside _ _ _ ((leaves t past).stand (not-false _ c.if-not-r.false)) in
    (omega (arith, there, (now t k).noted.sized.room), omega (arith, there, table_fits t k))

-- What is due of the last leaf: its slot is set, and its role is applied

pub walk-overflow_cast-to : goal.walk-overflow_cast-to
walk-overflow_cast-to t c = omega arith

pub walk-bounds-table-last : goal.walk-bounds-table-last
walk-bounds-table-last t c =
    let past = c.before.before.before.before in
    whole-inside _ _ _ ((leaves t (behind-leaves t past)).stand (not-false _ past.if-not-r.false))

pub walk-offset_bounds-slots-to : goal.walk-offset_bounds-slots-to
walk-offset_bounds-slots-to t c = omega arith

pub walk-bounds-slots-to : goal.walk-bounds-slots-to
walk-bounds-slots-to t c = omega arith

pub walk-offset_bounds-list-used-then-role-ne0 : goal.walk-offset_bounds-list-used-then-role-ne0
walk-offset_bounds-list-used-then-role-ne0 t c =
    let past = c.before.before.before in
    omega (arith, leaves-fall t past, within t (due-loop t past))

pub walk-slice_bounds-apply-count : goal.walk-slice_bounds-apply-count
walk-slice_bounds-apply-count t c = omega (arith, leaves-fall t c.before.before.before, within t (due-loop t c.before.before.before))

pub walk-slice_bounds-apply-start : goal.walk-slice_bounds-apply-start
walk-slice_bounds-apply-start t c = omega (arith, leaves-fall t c.before.before.before, within t (due-loop t c.before.before.before))

pub walk-slice_bounds-apply-end : goal.walk-slice_bounds-apply-end
walk-slice_bounds-apply-end t c = omega arith

pub walk-apply-said-requires : goal.walk-apply-said-requires
walk-apply-said-requires t c =
    let past = c.before.before.before.before in
    (leaves t (due-leaves t past)).stamp (leaves-on t past)

pub walk-overflow_add-used-then-role-ne0 : goal.walk-overflow_add-used-then-role-ne0
walk-overflow_add-used-then-role-ne0 t c =
    let past = c.before.before.before.before in
    omega (arith, (applied t past).room, within t (applied-loop t past))

pub walk-shape_of-list-in-Err : goal.walk-shape_of-list-in-Err
walk-shape_of-list-in-Err t c =
    let past = c.before.before.before.before.before.before in
    (applied t past).same

pub walk-returns-in-Err : goal.walk-returns-in-Err
walk-returns-in-Err t c =
    let past = c.before.before.before.before.before.before in
    rw c.stopped.ensures (stopped t (applied-loop t past) ((applied t past).stops _ c.in-Err.is))

pub walk-loop-only-smaller-in_default : goal.walk-loop-only-smaller-in_default
walk-loop-only-smaller-in_default t c =
    let past = c.before.before.before.before.before.before in
    let l = past.loop-only in
    let y = applied t past in
    let f = leaves-fall t (applied-due t past) in
    let used = l.used + past.read_leaves-r.result.used + past.apply-said.result.used in
    round-falls (length l.list) _ l.used used 0 0 (y.same ∙ sym f.2) (omega (arith, y.room, f.2)) (omega (arith, f.0))

pub walk-loop-only-preserved-in_default : goal.walk-loop-only-preserved-in_default
walk-loop-only-preserved-in_default t c =
    let past = c.before.before.before.before.before.before in
    (past.loop-only.invariant.0, (applied t past).goes c.in_default.is)

pub walk-loop-only-smaller-else-role-ne0 : goal.walk-loop-only-smaller-else-role-ne0
walk-loop-only-smaller-else-role-ne0 t c =
    let past = c.before.before in
    let l = past.loop-only in
    let f = leaves-fall t past in
    round-falls (length l.list) _ l.used (l.used + past.read_leaves-r.result.used) 0 0
    ((leaves t (due-leaves t past)).same ∙ sym f.2) f.1 (omega (arith, f.0))

pub walk-loop-only-preserved-else-role-ne0 : goal.walk-loop-only-preserved-else-role-ne0
walk-loop-only-preserved-else-role-ne0 t c = (c.loop-only.invariant.0, no-role _ _ _ c.if-role-ne0.false (due t c.before.before))

-- A field that holds others, taken as a member

pub walk-taken-run-requires : goal.walk-taken-run-requires
walk-taken-run-requires t c =
    let past = c.before.before.before in
    (some_left t (class-field t past)).some

-- A structure

pub walk-offset_bounds-list-used-then-kind-eq-STRUCTURE : goal.walk-offset_bounds-list-used-then-kind-eq-STRUCTURE
walk-offset_bounds-list-used-then-kind-eq-STRUCTURE t c = omega (arith, within t (holder-loop t c.before.before))

pub walk-slice_bounds-enter_structure-count : goal.walk-slice_bounds-enter_structure-count
walk-slice_bounds-enter_structure-count t c = omega (arith, within t (holder-loop t c.before.before))

pub walk-slice_bounds-enter_structure-start : goal.walk-slice_bounds-enter_structure-start
walk-slice_bounds-enter_structure-start t c = omega (arith, within t (holder-loop t c.before.before))

pub walk-slice_bounds-enter_structure-end : goal.walk-slice_bounds-enter_structure-end
walk-slice_bounds-enter_structure-end t c = omega arith

pub walk-enter_structure-o-requires : goal.walk-enter_structure-o-requires
unfolding u8
walk-enter_structure-o-requires t c =
    let k = c.before.before.before in
    let l = k.loop-only in
    let h = holder-round t k in
    let there = class-there t (holder-class t k) in
    let o = opens _ _ h.noted _ _ there k.if-kind-lt-FIRST_THAT_HOLDS.false in
    record {
      at_in_bounds = (slot-there t k, omega (arith, whole-inside _ _ _ there, o.aligns), o.align);
      start_le_from = (h.framed.begun, omega (arith, h.framed.within, h.framed.ends, h.framed.small));
      words_per_entry_in_bounds = omega (arith, lent-room l.used l.list, room t (holder-room t k));
    }

pub walk-shape_of-list-then-not-o : goal.walk-shape_of-list-then-not-o
walk-shape_of-list-then-not-o t c =
    let past = stood-entered t c.before.before.before in
    (structure t past).same

pub walk-returns-then-not-o : goal.walk-returns-then-not-o
walk-returns-then-not-o t c =
    let past = stood-entered t c.before.before.before in
    rw c.refused-then-not-o.ensures (stopped t (entered-loop t past) ((structure t past).stops (not-true _ c.if-not-o.true)))

pub walk-overflow_add-next : goal.walk-overflow_add-next
walk-overflow_add-next t c =
    let past = stood-entered t c.before.before in
    omega (arith, slot-there t (entered-holder t past), table_fits t (entered-loop t past))

pub walk-overflow_add-next-then-kind-eq-STRUCTURE : goal.walk-overflow_add-next-then-kind-eq-STRUCTURE
walk-overflow_add-next-then-kind-eq-STRUCTURE t c =
    let past = stood-entered t c.before.before in
    omega (arith, slot-there t (entered-holder t past), table_fits t (entered-loop t past))

pub walk-bounds-table-next-then-kind-eq-STRUCTURE : goal.walk-bounds-table-next-then-kind-eq-STRUCTURE
walk-bounds-table-next-then-kind-eq-STRUCTURE t c =
    let past = stood-entered t c.before.before.before in
    omega (arith, slot-there t (entered-holder t past))

pub walk-opened-run-requires : goal.walk-opened-run-requires
walk-opened-run-requires t c =
    let past = stood-entered t c.before.before.before.before in
    let k = entered-holder t past in
    let few = members-few _ _ _ _ (holder-round t k).stands.members in
    ((holder-next t k).0, omega (arith, few, c.wide.ensures.1, table_fits t (entered-loop t past)))

pub walk-overflow_add-used-then-kind-eq-STRUCTURE : goal.walk-overflow_add-used-then-kind-eq-STRUCTURE
walk-overflow_add-used-then-kind-eq-STRUCTURE t c =
    let past = members-entered t c.before in
    omega (arith, within t (entered-loop t past), room t (entered-room t past))

pub walk-loop-only-smaller-then-kind-eq-STRUCTURE : goal.walk-loop-only-smaller-then-kind-eq-STRUCTURE
walk-loop-only-smaller-then-kind-eq-STRUCTURE t c =
    let past = members-entered t c.before in
    let l = past.loop-only in
    round-falls (length l.list) _ l.used (l.used + words_per_entry) 0 0 ((structure t past).same ∙ sym (within t (entered-loop t past)).1)
    (omega (arith, room t (entered-room t past))) (omega arith)

pub walk-loop-only-preserved-then-kind-eq-STRUCTURE : goal.walk-loop-only-preserved-then-kind-eq-STRUCTURE
unfolding u8
walk-loop-only-preserved-then-kind-eq-STRUCTURE t c =
    let past = members-entered t c.before in
    let k = entered-holder t past in
    let on = not-false _ c.if-not-o.false in (
      past.loop-only.invariant.0,
      entered-run (holder t k _ refl) (holder-next t k) (structure t past) c.opened-run.ensures c.wide.ensures.0 on,
    )

-- Any other, by the content of the slot that it reads

pub walk-slot_read-i-requires : goal.walk-slot_read-i-requires
unfolding u8
walk-slot_read-i-requires t c =
    let k = c.before.before in
    (omega (arith, k.if-kind-lt-FIRST_THAT_HOLDS.false), kind-high _ _ _ (class-there t (holder-class t k)), slot-there t k)

pub walk-offset_bounds-slots-i-then-i-lt64-2 : goal.walk-offset_bounds-slots-i-then-i-lt64-2
walk-offset_bounds-slots-i-then-i-lt64-2 t c = omega arith

pub walk-bounds-slots-i-then-i-lt64-2 : goal.walk-bounds-slots-i-then-i-lt64-2
walk-bounds-slots-i-then-i-lt64-2 t c = omega arith

-- opened in its run

pub walk-offset_bounds-list-used-then-is_open : goal.walk-offset_bounds-list-used-then-is_open
walk-offset_bounds-list-used-then-is_open t c =
    let past = c.before.before.before in
    omega (arith, within t (told-loop t past))

pub walk-slice_bounds-open_field-count : goal.walk-slice_bounds-open_field-count
walk-slice_bounds-open_field-count t c =
    let past = c.before.before.before in
    omega (arith, within t (told-loop t past))

pub walk-slice_bounds-open_field-start : goal.walk-slice_bounds-open_field-start
walk-slice_bounds-open_field-start t c =
    let past = c.before.before.before in
    omega (arith, within t (told-loop t past))

pub walk-slice_bounds-open_field-end : goal.walk-slice_bounds-open_field-end
walk-slice_bounds-open_field-end t c = omega arith

pub walk-open_field-o-requires : goal.walk-open_field-o-requires
unfolding u8
walk-open_field-o-requires t c =
    let past = c.before.before.before.before in
    let k = told-holder t past in
    let l = past.loop-only in
    let h = holder-round t k in
    record {
      holder_stands = opens _ _ h.noted _ _ (class-there t (told-class t past)) k.if-kind-lt-FIRST_THAT_HOLDS.false;
      start_le_place = (h.framed.begun, omega (arith, h.framed.within, h.framed.ends, h.framed.small));
      words_per_entry_in_bounds = omega (arith, lent-room l.used l.list, room t (told-room t past));
    }

pub walk-shape_of-list-then-not-o-2 : goal.walk-shape_of-list-then-not-o-2
walk-shape_of-list-then-not-o-2 t c =
    let past = placed-opened t c.before.before.before in
    (opening t past).same

pub walk-returns-then-not-o-2 : goal.walk-returns-then-not-o-2
walk-returns-then-not-o-2 t c =
    let past = placed-opened t c.before.before.before in
    rw c.refused-then-not-o-2.ensures (stopped t (opened-loop t past) ((opening t past).stops (not-true _ c.if-not-o-2.true)))

pub walk-into-run-requires : goal.walk-into-run-requires
walk-into-run-requires t c =
    let past = placed-opened t c.before.before in
    let k = opened-holder t past in
    let h = holder-round t k in
    let next = holder-next t k in
    let there = whole-inside _ _ _ (class-there t (opened-class t past)) in
    let small = table_fits t (opened-loop t past) in (
      next.0,
      (λ off. omega (arith, members-few _ _ _ _ h.stands.members, (opening t past).few off, small)),
      omega (arith, next.1, there, h.noted.sized.room),
      omega (arith, next.1, there, small),
    )

pub walk-overflow_add-used-then-is_open : goal.walk-overflow_add-used-then-is_open
walk-overflow_add-used-then-is_open t c =
    let past = into-opened t c.before in
    omega (arith, within t (opened-loop t past), room t (opened-room t past))

pub walk-loop-only-smaller-then-is_open : goal.walk-loop-only-smaller-then-is_open
walk-loop-only-smaller-then-is_open t c =
    let past = into-opened t c.before in
    let l = past.loop-only in
    round-falls (length l.list) _ l.used (l.used + words_per_entry) 0 0 ((opening t past).same ∙ sym (within t (opened-loop t past)).1)
    (omega (arith, room t (opened-room t past))) (omega arith)

pub walk-loop-only-preserved-then-is_open : goal.walk-loop-only-preserved-then-is_open
walk-loop-only-preserved-then-is_open t c = (c.loop-only.invariant.0, into-round t c.before)

-- or read by itself

pub walk-offset_bounds-list-used-in-loop-only : goal.walk-offset_bounds-list-used-in-loop-only
walk-offset_bounds-list-used-in-loop-only t c =
    let past = c.before.before.before.before in
    omega (arith, within t (told-loop t past))

pub walk-slice_bounds-read_field-count : goal.walk-slice_bounds-read_field-count
walk-slice_bounds-read_field-count t c =
    let past = c.before.before.before.before in
    omega (arith, within t (told-loop t past))

pub walk-slice_bounds-read_field-start : goal.walk-slice_bounds-read_field-start
walk-slice_bounds-read_field-start t c =
    let past = c.before.before.before.before in
    omega (arith, within t (told-loop t past))

pub walk-slice_bounds-read_field-end : goal.walk-slice_bounds-read_field-end
walk-slice_bounds-read_field-end t c = omega arith

pub walk-read_field-r-requires : goal.walk-read_field-r-requires
unfolding u8
walk-read_field-r-requires t c =
    let past = c.before.before.before.before.before in
    let k = told-holder t past in
    let l = past.loop-only in
    let h = holder-round t k in (
      omega (arith, past.decreases),
      (
        class-there t (told-class t past),
        (
          (k.if-kind-lt-FIRST_THAT_HOLDS.false, omega (arith, lent-room l.used l.list, room t (told-room t past))),
          (h.noted, rw c.at-in-loop-only.ensures h.framed),
        ),
      ),
    )

pub walk-overflow_add-used-in-loop-only : goal.walk-overflow_add-used-in-loop-only
walk-overflow_add-used-in-loop-only t c =
    let past = c.before.before.before.before in
    omega (arith, (field t past).room, within t (read-loop t past))

pub walk-shape_of-list-in-Err-went : goal.walk-shape_of-list-in-Err-went
walk-shape_of-list-in-Err-went t c =
    let past = c.before.before.before.before.before.before in
    (field t past).same

pub walk-returns-in-Err-went : goal.walk-returns-in-Err-went
walk-returns-in-Err-went t c =
    let past = c.before.before.before.before.before.before in
    rw c.stopped-in-Err-went.ensures (stopped t (read-loop t past) ((field t past).stops _ c.in-Err-went.is))

pub walk-overflow_sub-run : goal.walk-overflow_sub-run
walk-overflow_sub-run t c =
    let past = c.before.before.before.before.before.before.before.before.before in
    omega (arith, (holder-next t (read-holder t past)).0)

pub walk-behind-run-requires-in-loop-only : goal.walk-behind-run-requires-in-loop-only
walk-behind-run-requires-in-loop-only t c =
    let past = c.before.before.before.before.before.before.before.before.before in
    let k = read-loop t past in
    let there = whole-inside _ _ _ (class-there t (read-class t past)) in
    (omega (arith, there, (now t k).noted.sized.room), omega (arith, there, table_fits t k))

pub walk-loop-only-smaller : goal.walk-loop-only-smaller
walk-loop-only-smaller t c =
    let past = c.before.before.before.before.before.before.before.before.before.before in
    let l = past.loop-only in
    let y = field t past in
    let some = y.some c.in_default-went.is in
    round-falls (length l.list) _ l.used (l.used + past.read_field-r.result.used) 0 0 (y.same ∙ sym (within t (read-loop t past)).1)
    (omega (arith, y.room, within t (read-loop t past))) (omega (arith, some))

pub walk-loop-only-preserved : goal.walk-loop-only-preserved
walk-loop-only-preserved t c =
    let past = c.before.before.before.before.before.before.before.before.before.before in
    let on = c.in_default-went.is in (
      past.loop-only.invariant.0,
      field-run (holds t (read_told t past)) (holder-next t (read-holder t past)) (field t past) c.behind-run-in-loop-only.ensures on,
    )

-- walk_elements

pub walk_elements-walk-requires : goal.walk_elements-walk-requires
walk_elements-walk-requires t c =
    let past = c.before.before in
    let stands = elements-run-stands _ _ _ _ _ past.requires.whole past.requires.forgets past.elements.ensures in
    (omega (arith, past.decreases), (stands, (past.requires.prepared, past.requires.framed)))

pub walk_elements-shape_of-list : goal.walk_elements-shape_of-list
walk_elements-shape_of-list t c = c.walk.auto.list

pub walk_elements-returns : goal.walk_elements-returns
walk_elements-returns t c =
    let past = c.before.before.before.before.before in
    let reads = elements-run-reads _ _ _ _ _ past.requires.whole past.requires.forgets past.elements.ensures in
    rw (reads _) at c.walk.ensures

-- walk_members

pub walk_members-walk-requires : goal.walk_members-walk-requires
walk_members-walk-requires t c = (
  omega (arith, c.decreases),
  (rw c.members.ensures (members-stand _ _ _ _ c.requires.whole_members), (c.requires.prepared, c.requires.framed)),
)

pub walk_members-shape_of-list : goal.walk_members-shape_of-list
walk_members-shape_of-list t c = c.walk.auto.list

pub walk_members-returns : goal.walk_members-returns
walk_members-returns t c =
    rw (c.members.ensures, members-reads-ahead _ _ _ _ _) at c.walk.ensures
