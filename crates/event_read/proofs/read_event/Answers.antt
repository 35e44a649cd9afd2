-- Behind entry 4 one loop: a round reads of a run, or opens a field of it, or brings back a run that was put off, or takes a turn; 38 is
-- asked behind all. What a round does is a law of field_read's Round and Apart, taken through Told, or of Rounds.
use borrow.Author.Rules.{rules}
use borrow.Author.Tests.{not-true, not-false}
use mathlib.Core.Path.{◌≡◌, refl, sym, ◌∙◌}
use mathlib.Core.Bool.{true, false}
use mathlib.Core.List.{List}
use mathlib.Core.Logic.{◌⊎◌, inl, inr}
use native.Mathlib.Omega.{arith}
use Prim.Native.Nat.{ℕ, ◌-◌, ◌+◌, ◌*◌, ◌^◌, ◌≤◌, ◌<◌}
use lib.ListN.{length}
use Rattle.rules.specs.declared.Content.{Content}
use Rattle.rules.specs.Limits.{slot_count, words_per_entry}
use Rattle.rules.specs.Record.{u8}
use Rattle.rules.specs.Slots.{set_slot, slot_at, unset}
use Rattle.rules.specs.Step.{Out, Step, ◌⨾◌}
use Rattle.rules.specs.Faults.{role_of}
use Rattle.rules.specs.Field.{role}
use Rattle.rules.specs.Packet.{read_event}
use Rattle.facts.specs.Bytes.{Bytes}
use Rattle.frame.specs.Framed.{env_of}
use Rattle.listing.specs.Did.{full}
use Rattle.listing.proofs.Checks.{full-said, room-said}
use Rattle.listing.proofs.Parts.{part_length, lent-room, merged}
use Rattle.leaf_read.specs.Reads.{leaf_slot}
use Rattle.leaf_read.specs.Leaves.{content_of}
use Rattle.class_layout.specs.Trees.{IsWhole}
use Rattle.class_layout.specs.Notes.{notes}
use Rattle.class_layout.specs.Fragments.{asked_at, stream_class_at}
use Rattle.class_layout.proofs.InPlace.{members-few}
use Rattle.class_layout.proofs.Standing.{kind-high, leaf-whole}
use Rattle.class_layout.proofs.Turns.{whole-inside}
use Rattle.field_inside.specs.Inside.{slot_read_at}
use Rattle.field_inside.proofs.Noted.{opens, slot-within}
use Rattle.field_inside.proofs.Slots.{content-met, past-unset}
use Rattle.field_runs.specs.Run.{border, over}
use Rattle.field_runs.proofs.Cases.{Begun}
use Rattle.class_slots.specs.Named.{slots_of}
use Rattle.field_read.specs.Reads.{state_at}
use Rattle.field_read.proofs.Round.{Loop, left, Kept, Round, round-falls, round-full, LeavesRound, no-role, event-role}
use Rattle.field_read.proofs.Round.{ClockRound, clock-role, RoleRound, Holder, CodeRound, EnterRound, FieldRound}
use Rattle.field_read.proofs.Apart.{piled, ApartRound}
use Rattle.field_read.proofs.Told.{border-some, forgot-one}
use Rattle.field_read.proofs.Told.{forward-round, forward-left, first-whole, leaves-in-row, leaves-did, leaves-due, role-did}
use Rattle.field_read.proofs.Told.{taken-round, FirstAt, taken_next, holds-first, entered-did, entered-run, inside-did, inside-run}
use Rattle.field_read.proofs.Told.{apart-did, apart-run, field-did, field-run}
use Rattle.event_read.specs.Start.{runs}
use Rattle.event_read.proofs.Evented.{nothing-did, event-full, started}
use Rattle.event_read.proofs.Ending.{packet-length, event-ended}
use Rattle.event_read.proofs.Rounds.{Given, event_loop, EventRound, gone-on, put-off, come-back, begun-round, event-stopped}
use Rattle.event_read.proofs.Rounds.{steps_left, opens-off, none-off, still-none, TurnRound, turn-round, round-ends}
use Rattle.event_read.proofs.read_event.Goals as goal
use Rattle.event_read.proofs.read_event.Goals.{then-is_border+then-run-le-ONE_SLOT, then-is_border+else-run-le-ONE_SLOT, else-is_border}
use Rattle.event_read.proofs.read_event.Goals.{then-i-lt64, else-i-lt64, then-sets_slot, else-sets_slot, then-i-lt64-2, else-i-lt64-2}
use Rattle.event_read.proofs.read_event.Lts as lts
use Rattle.event_read.proofs.read_event.Tie as tie
use Rattle.event_read.proofs.read_event.Reads as reads

-- Places of the code: no room for entry 4, or room; it is listed, in front of the loop, a round's start; the run over, and a turn taken; a
-- field left, no room for it, or room; leaves read, what is due of the last, its role done; a field that holds others, entered and its
-- place taken, its members the run; opened and its place taken, it goes on, the rest of its run is told; or read by itself

abbrev AtStart : Type 0
AtStart = lts.Start tie.the-claims reads.Pre reads.Post goal.the-invariant-loop-only goal.the-decreases-loop-only tie.handed_clauses

abbrev AtStream : Type 0
AtStream = lts.After-shared_slice_known6 tie.the-claims reads.Pre reads.Post
    goal.the-invariant-loop-only goal.the-decreases-loop-only tie.handed_clauses

abbrev AtNoEntry : Type 0
AtNoEntry = lts.Then1 tie.the-claims reads.Pre reads.Post goal.the-invariant-loop-only goal.the-decreases-loop-only tie.handed_clauses

abbrev AtEntry : Type 0
AtEntry = lts.Else1 tie.the-claims reads.Pre reads.Post goal.the-invariant-loop-only goal.the-decreases-loop-only tie.handed_clauses

abbrev AtListed : Type 0
AtListed = lts.After-begin tie.the-claims reads.Pre reads.Post goal.the-invariant-loop-only goal.the-decreases-loop-only tie.handed_clauses

abbrev AtFront : Type 0
AtFront = lts.After-members tie.the-claims reads.Pre reads.Post goal.the-invariant-loop-only goal.the-decreases-loop-only tie.handed_clauses

abbrev AtLoop : Type 0
AtLoop = lts.At-loop tie.the-claims reads.Pre reads.Post goal.the-invariant-loop-only goal.the-decreases-loop-only tie.handed_clauses

abbrev AtBorder : Type 0
AtBorder = lts.Joined2 tie.the-claims reads.Pre reads.Post goal.the-invariant-loop-only goal.the-decreases-loop-only tie.handed_clauses

abbrev AtForward : Type 0
AtForward = lts.After-forward tie.the-claims reads.Pre reads.Post
    goal.the-invariant-loop-only goal.the-decreases-loop-only tie.handed_clauses

abbrev AtOver : Type 0
AtOver = lts.Then4 tie.the-claims reads.Pre reads.Post goal.the-invariant-loop-only goal.the-decreases-loop-only tie.handed_clauses

abbrev AtTurned : Type 0
AtTurned = lts.After-open_turn tie.the-claims reads.Pre reads.Post
    goal.the-invariant-loop-only goal.the-decreases-loop-only tie.handed_clauses

abbrev AtField : Type 0
AtField = lts.Else4 tie.the-claims reads.Pre reads.Post goal.the-invariant-loop-only goal.the-decreases-loop-only tie.handed_clauses

abbrev AtFull : Type 0
AtFull = lts.Then7 tie.the-claims reads.Pre reads.Post goal.the-invariant-loop-only goal.the-decreases-loop-only tie.handed_clauses

abbrev AtRoom : Type 0
AtRoom = lts.Else7 tie.the-claims reads.Pre reads.Post goal.the-invariant-loop-only goal.the-decreases-loop-only tie.handed_clauses

abbrev AtClass : Type 0
AtClass = lts.After-first tie.the-claims reads.Pre reads.Post goal.the-invariant-loop-only goal.the-decreases-loop-only tie.handed_clauses

abbrev AtLeaf : Type 0
AtLeaf = lts.Joined9 tie.the-claims reads.Pre reads.Post goal.the-invariant-loop-only goal.the-decreases-loop-only tie.handed_clauses

abbrev AtLeaves : Type 0
AtLeaves = lts.After-read_leaves tie.the-claims reads.Pre reads.Post
    goal.the-invariant-loop-only goal.the-decreases-loop-only tie.handed_clauses

abbrev AtBehind : Type 0
AtBehind = lts.After-behind tie.the-claims reads.Pre reads.Post goal.the-invariant-loop-only goal.the-decreases-loop-only tie.handed_clauses

abbrev AtDue : Type 0
AtDue = lts.Joined11 tie.the-claims reads.Pre reads.Post goal.the-invariant-loop-only goal.the-decreases-loop-only tie.handed_clauses

abbrev AtAdvanced : Type 0
AtAdvanced = lts.After-advance tie.the-claims reads.Pre reads.Post
    goal.the-invariant-loop-only goal.the-decreases-loop-only tie.handed_clauses

abbrev AtApplied : Type 0
AtApplied = lts.After-apply tie.the-claims reads.Pre reads.Post goal.the-invariant-loop-only goal.the-decreases-loop-only tie.handed_clauses

abbrev AtHolder : Type 0
AtHolder = lts.After-taken tie.the-claims reads.Pre reads.Post goal.the-invariant-loop-only goal.the-decreases-loop-only tie.handed_clauses

abbrev AtEntered : Type 0
AtEntered = lts.After-enter_structure tie.the-claims reads.Pre reads.Post
    goal.the-invariant-loop-only goal.the-decreases-loop-only tie.handed_clauses

abbrev AtStood : Type 0
AtStood = lts.After-struct_known9 tie.the-claims reads.Pre reads.Post
    goal.the-invariant-loop-only goal.the-decreases-loop-only tie.handed_clauses

abbrev AtMembers : Type 0
AtMembers = lts.After-opened tie.the-claims reads.Pre reads.Post
    goal.the-invariant-loop-only goal.the-decreases-loop-only tie.handed_clauses

abbrev AtTold : Type 0
AtTold = lts.Joined18 tie.the-claims reads.Pre reads.Post goal.the-invariant-loop-only goal.the-decreases-loop-only tie.handed_clauses

abbrev AtOpened : Type 0
AtOpened = lts.After-open_field tie.the-claims reads.Pre reads.Post
    goal.the-invariant-loop-only goal.the-decreases-loop-only tie.handed_clauses

abbrev AtPlaced : Type 0
AtPlaced = lts.After-struct_known10 tie.the-claims reads.Pre reads.Post
    goal.the-invariant-loop-only goal.the-decreases-loop-only tie.handed_clauses

abbrev AtInside : Type 0
AtInside = lts.Else20 tie.the-claims reads.Pre reads.Post goal.the-invariant-loop-only goal.the-decreases-loop-only tie.handed_clauses

abbrev AtRest : Type 0
AtRest = lts.After-behind2 tie.the-claims reads.Pre reads.Post goal.the-invariant-loop-only goal.the-decreases-loop-only tie.handed_clauses

abbrev AtRead : Type 0
AtRead = lts.After-read_field tie.the-claims reads.Pre reads.Post
    goal.the-invariant-loop-only goal.the-decreases-loop-only tie.handed_clauses

-- and the ways back

abbrev stream-start : AtStream → AtStart
stream-start c = c.before.before.before.before.before.before

abbrev none-start : AtNoEntry → AtStart
none-start c = stream-start c.before.before.before

abbrev entry-stream : AtEntry → AtStream
entry-stream c = c.before.before.before

abbrev entry-start : AtEntry → AtStart
entry-start c = stream-start (entry-stream c)

abbrev listed-entry : AtListed → AtEntry
listed-entry c = c.before.before

abbrev listed-stream : AtListed → AtStream
listed-stream c = entry-stream (listed-entry c)

abbrev listed_start : AtListed → AtStart
listed_start c = stream-start (listed-stream c)

abbrev loop-front : AtLoop → AtFront
loop-front c = c.before

abbrev front-listed : AtFront → AtListed
front-listed c = c.before.before.before.before.before.before

abbrev front-start : AtFront → AtStart
front-start c = listed_start (front-listed c)

abbrev loop-start : AtLoop → AtStart
loop-start c = front-start (loop-front c)

abbrev loop-listed : AtLoop → AtListed
loop-listed c = front-listed (loop-front c)

abbrev border-loop : AtBorder → AtLoop
border-loop c = c.before.before

abbrev forward-border : AtForward → AtBorder
forward-border c = c.before

abbrev forward-loop : AtForward → AtLoop
forward-loop c = border-loop (forward-border c)

abbrev over-forward : AtOver → AtForward
over-forward c = c.before.before

abbrev forward-listed : AtForward → AtListed
forward-listed c = loop-listed (forward-loop c)

abbrev over-listed : AtOver → AtListed
over-listed c = forward-listed (over-forward c)

abbrev over-border : AtOver → AtBorder
over-border c = forward-border (over-forward c)

abbrev over-loop : AtOver → AtLoop
over-loop c = forward-loop (over-forward c)

abbrev turned-over : AtTurned → AtOver
turned-over c = c.before.before.before.before

abbrev turned-border : AtTurned → AtBorder
turned-border c = over-border (turned-over c)

abbrev turned-loop : AtTurned → AtLoop
turned-loop c = over-loop (turned-over c)

abbrev field-forward : AtField → AtForward
field-forward c = c.before.before

abbrev front-stream : AtFront → AtStream
front-stream c = listed-stream (front-listed c)

abbrev loop-stream : AtLoop → AtStream
loop-stream c = front-stream (loop-front c)

abbrev forward-stream : AtForward → AtStream
forward-stream c = loop-stream (forward-loop c)

abbrev field-stream : AtField → AtStream
field-stream c = forward-stream (field-forward c)

abbrev field-border : AtField → AtBorder
field-border c = forward-border (field-forward c)

abbrev field-loop : AtField → AtLoop
field-loop c = forward-loop (field-forward c)

abbrev class-room : AtClass → AtRoom
class-room c = c.before

abbrev full-field : AtFull → AtField
full-field c = c.before.before

abbrev room-field : AtRoom → AtField
room-field c = c.before.before

abbrev room-border : AtRoom → AtBorder
room-border c = field-border (room-field c)

abbrev room-loop : AtRoom → AtLoop
room-loop c = field-loop (room-field c)

abbrev class-border : AtClass → AtBorder
class-border c = room-border (class-room c)

abbrev class-loop : AtClass → AtLoop
class-loop c = room-loop (class-room c)

abbrev class-field : AtClass → AtField
class-field c = room-field (class-room c)

abbrev leaf-class : AtLeaf → AtClass
leaf-class c = c.before.before.before.before

abbrev leaf-border : AtLeaf → AtBorder
leaf-border c = class-border (leaf-class c)

abbrev leaf-loop : AtLeaf → AtLoop
leaf-loop c = class-loop (leaf-class c)

abbrev leaf-field : AtLeaf → AtField
leaf-field c = class-field (leaf-class c)

abbrev leaf_room : AtLeaf → AtRoom
leaf_room c = class-room (leaf-class c)

abbrev leaves-leaf : AtLeaves → AtLeaf
leaves-leaf c = c.before.before.before.before

abbrev forward-start : AtForward → AtStart
forward-start c = loop-start (forward-loop c)

abbrev field-start : AtField → AtStart
field-start c = forward-start (field-forward c)

abbrev room-start : AtRoom → AtStart
room-start c = field-start (room-field c)

abbrev class-start : AtClass → AtStart
class-start c = room-start (class-room c)

abbrev leaf-start : AtLeaf → AtStart
leaf-start c = class-start (leaf-class c)

abbrev leaves-start : AtLeaves → AtStart
leaves-start c = leaf-start (leaves-leaf c)

abbrev leaves-border : AtLeaves → AtBorder
leaves-border c = leaf-border (leaves-leaf c)

abbrev leaves_loop : AtLeaves → AtLoop
leaves_loop c = leaf-loop (leaves-leaf c)

abbrev room-forward : AtRoom → AtForward
room-forward c = field-forward (room-field c)

abbrev class-forward : AtClass → AtForward
class-forward c = room-forward (class-room c)

abbrev leaf-forward : AtLeaf → AtForward
leaf-forward c = class-forward (leaf-class c)

abbrev leaves-forward : AtLeaves → AtForward
leaves-forward c = leaf-forward (leaves-leaf c)

abbrev leaves_field : AtLeaves → AtField
leaves_field c = leaf-field (leaves-leaf c)

abbrev leaves-room : AtLeaves → AtRoom
leaves-room c = leaf_room (leaves-leaf c)

abbrev leaves-class : AtLeaves → AtClass
leaves-class c = leaf-class (leaves-leaf c)

abbrev behind-leaves : AtBehind → AtLeaves
behind-leaves c = c.before.before.before.before.before.before.before

abbrev behind-border : AtBehind → AtBorder
behind-border c = leaves-border (behind-leaves c)

abbrev behind-loop : AtBehind → AtLoop
behind-loop c = leaves_loop (behind-leaves c)

abbrev due-behind : AtDue → AtBehind
due-behind c = c.before.before

abbrev due-border : AtDue → AtBorder
due-border c = behind-border (due-behind c)

abbrev due-loop : AtDue → AtLoop
due-loop c = behind-loop (due-behind c)

abbrev behind-field : AtBehind → AtField
behind-field c = leaves_field (behind-leaves c)

abbrev due-field : AtDue → AtField
due-field c = behind-field (due-behind c)

abbrev due-leaves : AtDue → AtLeaves
due-leaves c = behind-leaves (due-behind c)

abbrev advanced-due : AtAdvanced → AtDue
advanced-due c = c.before.before.before.before.before.before

abbrev advanced-border : AtAdvanced → AtBorder
advanced-border c = due-border (advanced-due c)

abbrev advanced-loop : AtAdvanced → AtLoop
advanced-loop c = due-loop (advanced-due c)

abbrev advanced-field : AtAdvanced → AtField
advanced-field c = due-field (advanced-due c)

abbrev advanced-leaves : AtAdvanced → AtLeaves
advanced-leaves c = due-leaves (advanced-due c)

abbrev advanced-behind : AtAdvanced → AtBehind
advanced-behind c = due-behind (advanced-due c)

abbrev applied-due : AtApplied → AtDue
applied-due c = c.before.before.before.before.before.before

abbrev applied-border : AtApplied → AtBorder
applied-border c = due-border (applied-due c)

abbrev applied-loop : AtApplied → AtLoop
applied-loop c = due-loop (applied-due c)

abbrev applied-field : AtApplied → AtField
applied-field c = due-field (applied-due c)

abbrev applied-leaves : AtApplied → AtLeaves
applied-leaves c = due-leaves (applied-due c)

abbrev applied-behind : AtApplied → AtBehind
applied-behind c = due-behind (applied-due c)

abbrev holder-class : AtHolder → AtClass
holder-class c = c.before.before.before

abbrev holder-border : AtHolder → AtBorder
holder-border c = class-border (holder-class c)

abbrev holder-loop : AtHolder → AtLoop
holder-loop c = class-loop (holder-class c)

abbrev holder-field : AtHolder → AtField
holder-field c = class-field (holder-class c)

abbrev holder-room : AtHolder → AtRoom
holder-room c = class-room (holder-class c)

abbrev entered-holder : AtEntered → AtHolder
entered-holder c = c.before.before.before

abbrev holder-start : AtHolder → AtStart
holder-start c = class-start (holder-class c)

abbrev entered-start : AtEntered → AtStart
entered-start c = holder-start (entered-holder c)

abbrev entered-border : AtEntered → AtBorder
entered-border c = holder-border (entered-holder c)

abbrev entered-loop : AtEntered → AtLoop
entered-loop c = holder-loop (entered-holder c)

abbrev entered-field : AtEntered → AtField
entered-field c = holder-field (entered-holder c)

abbrev entered-room : AtEntered → AtRoom
entered-room c = holder-room (entered-holder c)

abbrev entered-class : AtEntered → AtClass
entered-class c = holder-class (entered-holder c)

abbrev stood-entered : AtStood → AtEntered
stood-entered c = c.before.before.before.before

abbrev members-stood : AtMembers → AtStood
members-stood c = c.before.before.before.before

abbrev members-entered : AtMembers → AtEntered
members-entered c = stood-entered (members-stood c)

abbrev told-holder : AtTold → AtHolder
told-holder c = c.before.before.before

abbrev told-border : AtTold → AtBorder
told-border c = holder-border (told-holder c)

abbrev told-loop : AtTold → AtLoop
told-loop c = holder-loop (told-holder c)

abbrev told-field : AtTold → AtField
told-field c = holder-field (told-holder c)

abbrev told-room : AtTold → AtRoom
told-room c = holder-room (told-holder c)

abbrev told-class : AtTold → AtClass
told-class c = holder-class (told-holder c)

abbrev opened-told : AtOpened → AtTold
opened-told c = c.before.before.before.before.before

abbrev told-start : AtTold → AtStart
told-start c = holder-start (told-holder c)

abbrev opened-start : AtOpened → AtStart
opened-start c = told-start (opened-told c)

abbrev opened-border : AtOpened → AtBorder
opened-border c = told-border (opened-told c)

abbrev opened-loop : AtOpened → AtLoop
opened-loop c = told-loop (opened-told c)

abbrev opened-field : AtOpened → AtField
opened-field c = told-field (opened-told c)

abbrev opened-room : AtOpened → AtRoom
opened-room c = told-room (opened-told c)

abbrev opened-class : AtOpened → AtClass
opened-class c = told-class (opened-told c)

abbrev opened-holder : AtOpened → AtHolder
opened-holder c = told-holder (opened-told c)

abbrev placed-opened : AtPlaced → AtOpened
placed-opened c = c.before.before.before.before

abbrev inside-opened : AtInside → AtOpened
inside-opened c = placed-opened c.before

abbrev rest-inside : AtRest → AtInside
rest-inside c = c.before.before.before

abbrev rest-opened : AtRest → AtOpened
rest-opened c = inside-opened (rest-inside c)

abbrev read_told : AtRead → AtTold
read_told c = c.before.before.before.before.before.before

abbrev read-start : AtRead → AtStart
read-start c = told-start (read_told c)

abbrev read-border : AtRead → AtBorder
read-border c = told-border (read_told c)

abbrev read-loop : AtRead → AtLoop
read-loop c = told-loop (read_told c)

abbrev read-field : AtRead → AtField
read-field c = told-field (read_told c)

abbrev read-class : AtRead → AtClass
read-class c = told-class (read_told c)

abbrev read-holder : AtRead → AtHolder
read-holder c = told-holder (read_told c)

-- What is known at them

abbrev start : AtLoop → AtStart
start c = loop-start c

abbrev given : AtLoop → Given
given c =
    let a = c.args in
    record {
      stream = a.stream.now;
      uuid = a.uuid.now;
      frame = a.frame;
      table = a.table.now;
      notes = notes a.sizes.now a.aligns.now;
      asking = a.with;
      begun = a.begun;
    }

abbrev event : AtLoop → Step
event c =
    let a = c.args in
    read_event (asked_at a.table.now) (stream_class_at a.table.now a.with.class) (env_of a.stream.now a.uuid.now a.frame)
    a.number

abbrev whole-event : AtLoop → Out
whole-event c = let a = c.args in event c (full a.begun a.given (length a.list.now))

given-many : (c : AtLoop) → length c.args.given ≡ 64
given-many c = c.well_formed.1.1.1.1.1.1.1.1.1.1.0.1.0.1

list-fits : (c : AtLoop) → 8 * length c.args.list.now < 2 ^ 63
list-fits c = omega (arith, c.well_formed.1.1.1.1.1.1.1.1.1.1.1.0)

abbrev Now : AtLoop → Out → List ℕ → Type 0
Now c all ws =
    let l = c.loop-only in
    EventRound (given c) all ws l.class l.turn l.run l.pile l.off l.list l.used
    (state_at l.place l.order l.state) l.slots

-- room for entry 4, or none
no-entry : (c : AtNoEntry) → length c.args.list.now < words_per_entry
no-entry c = full-said _ c.is_full.ensures c.if-is_full.true

entry-room : (c : AtEntry) → words_per_entry ≤ length c.args.list.now
entry-room c = room-said _ c.is_full.ensures c.if-is_full.false

now : (c : AtLoop) → Now c (whole-event c) c.args.list.now
now c =
    let a = c.args in
    let b = loop-listed c in
    let p = c.requires in
    let asked = asked_at a.table.now in
    let class = stream_class_at a.table.now a.with.class in
    c.loop-only.invariant _ _ (begun-round (given c) (event c) a.given a.list.now _ p.of_stream p.ready.noted
    (packet-length a.given (given-many c))
    (started asked class a.stream.now a.uuid.now a.frame a.number a.begun a.given a.list.now _
    (entry-room (listed-entry b)) (given-many c) p.framed b.begin-state.ensures.list_after) b.begin-state.ensures.value
    c.event_slots-slots.ensures c.header_run-run.ensures _ refl)

within : (c : AtLoop) →
    let l = c.loop-only in
    let n = length c.args.list.now in
    (l.used ≤ length l.list) × (length l.list ≡ n) × (8 * n < 2 ^ 63)
within c =
    let p = (now c).round.part in
    (omega (arith, part_length p, p.room), part_length p, list-fits c)

-- the slots behind a border, as they are told and joined
border-told : {all : Out} {ws : List ℕ} (c : AtBorder) → Now (border-loop c) all ws →
    let a = c.args in
    let k = c.loop-only in
    ((border k.run ≡ true) × (c.if-is_border.slots ≡ unset k.slots (slots_of a.table.now a.sizes.now k.run.again)))
    ⊎ ((border k.run ≡ false) × (c.if-is_border.slots ≡ k.slots))
unfolding set_slot
border-told c h =
    let is = sym c.is_border.ensures in
    elim c.if-is_border.branch [
      | then-is_border+then-run-le-ONE_SLOT w ↦
          let b = is ∙ w.if-is_border.true in inl (b, forgot-one h.round b w.if-run-le-ONE_SLOT.true refl w.slots-is)
      | then-is_border+else-run-le-ONE_SLOT w ↦ inl (is ∙ w.if-is_border.true, w.slots-is ∙ w.forgotten-slots.ensures)
      | else-is_border w ↦ inr (is ∙ w.if-is_border.false, w.slots-is)
    ]

-- the run, with what it had put off in front where nothing else was left
forwarded : {all : Out} {ws : List ℕ} (c : AtForward) → Now (forward-loop c) all ws →
    let l = c.loop-only in
    EventRound (given (forward-loop c)) all ws l.class l.turn c.forward-run.result l.pile l.off l.list l.used
    (state_at l.place l.order l.state) c.if-is_border.slots
forwarded c h = gone-on h (forward-round c.forward-run.ensures (border-told (forward-border c) h) h.round)

is-over : (c : AtOver) → over c.forward-run.result ≡ true
is-over c = sym c.is_over.ensures ∙ c.if-is_over.true

pub returns-then-is_full : goal.returns-then-is_full
returns-then-is_full c =
    let a = c.args in
    rw c.refused.ensures (nothing-did _ _ _ _ _ (event-full (asked_at a.table.now) (stream_class_at a.table.now a.with.class)
    (env_of a.stream.now a.uuid.now a.frame) a.number a.begun a.given (length a.list.now) (no-entry c.before.before.before)))

pub begin-state-requires : goal.begin-state-requires
begin-state-requires c = entry-room c.before.before

pub event_slots-slots-requires : goal.event_slots-slots-requires
event_slots-slots-requires c =
    let past = c.before.before.before.before in
    past.requires.given_value

pub loop-only-init : goal.loop-only-init
loop-only-init c = λ all ws held. held

pub overflow_sub-only : goal.overflow_sub-only
overflow_sub-only c =
    let at-border = c.before.before.before.before in
    border-some _ (sym at-border.is_border.ensures ∙ at-border.if-is_border.true)

pub offset_bounds-slots-only : goal.offset_bounds-slots-only
offset_bounds-slots-only c = omega (arith, c.if-run-le-ONE_SLOT.true)

pub bounds-slots-only : goal.bounds-slots-only
bounds-slots-only c = omega (arith, c.if-run-le-ONE_SLOT.true)

pub overflow_sub-off : goal.overflow_sub-off
overflow_sub-off c = omega (arith, c.if-off-gt0.true)

pub offset_bounds-pile-off : goal.offset_bounds-pile-off
offset_bounds-pile-off c = omega (arith, (now (over-loop c.before.before)).few)

pub bounds-pile-off : goal.bounds-pile-off
bounds-pile-off c = omega (arith, (now (over-loop c.before.before)).few, c.if-off-gt0.true)

pub loop-only-smaller-then-off-gt0 : goal.loop-only-smaller-then-off-gt0
loop-only-smaller-then-off-gt0 c =
    let past = c.before.before.before in
    let l = past.loop-only in
    round-falls (length l.list) _ l.used l.used (steps_left l.turn l.off) (steps_left l.turn (l.off - 1)) refl
    (within (over-loop past)).0 (omega (arith, c.if-off-gt0.true))

pub loop-only-preserved-then-off-gt0 : goal.loop-only-preserved-then-off-gt0
loop-only-preserved-then-off-gt0 c =
    let past = c.before.before.before in
    λ all ws held. come-back (forwarded (over-forward past) (past.loop-only.invariant all ws held)) c.if-off-gt0.true (is-over past)

-- no run is put off any more
over-now : {all : Out} {ws : List ℕ} (c : AtOver) → Now (over-loop c) all ws → c.loop-only.off ≡ 0 →
    let l = c.loop-only in
    EventRound (given (over-loop c)) all ws l.class l.turn c.forward-run.result l.pile 0 l.list l.used
    (state_at l.place l.order l.state) c.if-is_border.slots
over-now c h e = none-off (forwarded (over-forward c) h) e

pub shape_of-list-then-turn-eq-TURNS : goal.shape_of-list-then-turn-eq-TURNS
shape_of-list-then-turn-eq-TURNS c =
    let past = c.before.before.before.before.before in
    part_length (now (over-loop past)).round.part

pub returns-then-turn-eq-TURNS : goal.returns-then-turn-eq-TURNS
returns-then-turn-eq-TURNS c =
    let o = c.before.before.before.before.before in
    let k = over-loop o in
    let a = k.args in
    let p = k.requires in
    let none : k.loop-only.off ≡ 0 = omega (arith, c.if-off-gt0.false) in
    rw (c.ended.ensures, c.at.ensures)
    (event-ended (asked_at a.table.now) (stream_class_at a.table.now a.with.class) a.with.id
    (env_of a.stream.now a.uuid.now a.frame) p.ready.keeps p.of_stream.found a.number a.begun a.given
    (entry-room (listed-entry (over-listed o))) (given-many k)
    (round-ends (over-now o (now k) none) (is-over o) (omega (arith, c.if-turn-eq-TURNS.true))))

pub offset_bounds-list-used : goal.offset_bounds-list-used
offset_bounds-list-used c =
    let past = c.before.before.before in
    omega (arith, within (over-loop past))

pub slice_bounds-open_turn-count : goal.slice_bounds-open_turn-count
slice_bounds-open_turn-count c =
    let past = c.before.before.before in
    omega (arith, within (over-loop past))

pub slice_bounds-open_turn-start : goal.slice_bounds-open_turn-start
slice_bounds-open_turn-start c =
    let past = c.before.before.before in
    omega (arith, within (over-loop past))

pub slice_bounds-open_turn-end : goal.slice_bounds-open_turn-end
slice_bounds-open_turn-end c = omega arith

pub open_turn-o-requires : goal.open_turn-o-requires
open_turn-o-requires c =
    let past = c.before.before.before.before in
    let p = past.requires in
    record { sized = p.ready.noted.sized; known = (now (over-loop past)).known; hints = p.hints }

-- a turn that was taken
took : {all : Out} {ws : List ℕ} (c : AtTurned) → Now (turned-loop c) all ws →
    let l = c.loop-only in
    TurnRound (given (turned-loop c)) all ws l.class l.turn l.pile l.list l.used
    (state_at l.place l.order l.state) c.if-is_border.slots c.open_turn-o.result c.open_turn-o.new.list
took c h =
    let p = c.requires in
    let none : c.loop-only.off ≡ 0 = omega (arith, c.if-off-gt0.false) in
    turn-round (over-now (turned-over c) h none) p.ready.noted.sized p.of_stream (is-over (turned-over c))
    (omega (arith, h.early, c.if-turn-eq-TURNS.false)) (c.open_turn-o.ensures.value, c.open_turn-o.ensures.list_after)

pub overflow_add-used : goal.overflow_add-used
overflow_add-used c =
    let past = c.before.before.before.before in
    omega (arith, (took past (now (turned-loop past))).room, within (turned-loop past))

pub shape_of-list-in-Err : goal.shape_of-list-in-Err
shape_of-list-in-Err c =
    let past = c.before.before.before.before.before.before in
    (took past (now (turned-loop past))).same

pub returns-in-Err : goal.returns-in-Err
returns-in-Err c =
    let past = c.before.before.before.before.before.before in
    let y = took past (now (turned-loop past)) in
    rw c.stopped.ensures (event-stopped (event (turned-loop past)) _ _ (y.stops _ c.in-Err.is _ _))

pub loop-only-smaller-then-is_over : goal.loop-only-smaller-then-is_over
loop-only-smaller-then-is_over c =
    let past = c.before.before.before.before.before.before in
    let l = past.loop-only in
    let t = took past (now (turned-loop past)) in
    let rises = t.rises c.in_default.is in
    let r = past.open_turn-o.result in
    round-falls (length l.list) _ l.used (l.used + r.used) (steps_left l.turn l.off) (steps_left r.turn l.off)
    (t.same ∙ sym (within (turned-loop past)).1) (omega (arith, t.room, within (turned-loop past))) (omega (arith, rises.0, rises.1))

pub loop-only-preserved-then-is_over : goal.loop-only-preserved-then-is_over
loop-only-preserved-then-is_over c =
    let past = c.before.before.before.before.before.before in
    λ all ws held.
    let none : past.loop-only.off ≡ 0 = omega (arith, past.if-off-gt0.false) in
    still-none none ((took past (past.loop-only.invariant all ws held)).goes c.in_default.is)

-- a field is left
some_left : (c : AtField) → Begun c.forward-run.result
some_left c = forward-left _ c.forward-run.ensures (sym c.is_over.ensures ∙ c.if-is_over.false)

abbrev loop-of : AtField → Out → List ℕ → Loop
loop-of c all ws = let l = c.loop-only in piled (event_loop (given (field-loop c)) all ws l.class l.turn) l.pile l.off

here : {all : Out} {ws : List ℕ} (c : AtField) → Now (field-loop c) all ws →
    let l = c.loop-only in
    Round (loop-of c all ws) c.forward-run.result l.list l.used (state_at l.place l.order l.state) c.if-is_border.slots
here c h = (forwarded (field-forward c) h).round

bytes : (c : AtField) → Bytes c.args.stream.now
bytes c = search rules

-- room for its entry, or none
no_room : (c : AtFull) →
    let l = c.loop-only in
    length l.list - l.used < words_per_entry
no_room c = full-said _ c.is_full-in-loop-only.ensures c.if-is_full-2.true

room : (c : AtRoom) →
    let l = c.loop-only in
    words_per_entry ≤ length l.list - l.used
room c = room-said _ c.is_full-in-loop-only.ensures c.if-is_full-2.false

pub overflow_sub-list : goal.overflow_sub-list
overflow_sub-list c = (within (field-loop c.before)).0

pub shape_of-list-then-is_full-2 : goal.shape_of-list-then-is_full-2
shape_of-list-then-is_full-2 c =
    let past = full-field c.before.before in
    part_length (now (field-loop past)).round.part

pub returns-then-is_full-2 : goal.returns-then-is_full-2
returns-then-is_full-2 c =
    let k = full-field c.before.before in
    rw c.refused-then-is_full-2.ensures
    (event-stopped (event (field-loop k)) _ _ (round-full (here k (now (field-loop k))) (some_left k) (no_room c.before.before) _ _))

class-there : (c : AtClass) → IsWhole 8 c.args.table.now c.first-next.result
class-there c = first-whole c.first-next.ensures (here (class-field c) (now (class-loop c))) (some_left (class-field c))

pub bounds-table-next : goal.bounds-table-next
bounds-table-next c = whole-inside _ _ _ (class-there c.before.before)

pub leaf_slot-i-requires : goal.leaf_slot-i-requires
unfolding u8
leaf_slot-i-requires c =
    let past = c.before.before.before in
    record {
      whole = leaf-whole _ _ _ (class-there past) c.if-kind-lt-FIRST_THAT_HOLDS.true;
      at_bound = c.if-kind-lt-FIRST_THAT_HOLDS.true;
    }

pub offset_bounds-slots-i : goal.offset_bounds-slots-i
offset_bounds-slots-i c = omega arith

pub bounds-slots-i : goal.bounds-slots-i
bounds-slots-i c = omega arith

-- the content of the slot that the leaf reads
leaf-told : (c : AtLeaf) →
    slot_at c.if-is_border.slots (leaf_slot c.args.table.now c.first-next.result) ≡
    c.if-i-lt64.content
unfolding slot_at
leaf-told c =
    content-met c.if-is_border.slots (here (leaf-field c) (now (leaf-loop c))).many c.leaf_slot-i.ensures (λ y. y) (λ y. y)
    (elim c.if-i-lt64.branch [
      | then-i-lt64 w ↦ inl w.content-is
      | else-i-lt64 w ↦ inr (w.if-i-lt64.false, w.content-is)
    ])

pub offset_bounds-list-used-then-kind-lt-FIRST_THAT_HOLDS : goal.offset_bounds-list-used-then-kind-lt-FIRST_THAT_HOLDS
offset_bounds-list-used-then-kind-lt-FIRST_THAT_HOLDS c =
    let past = c.before.before.before in
    omega (arith, within (leaf-loop past))

pub slice_bounds-read_leaves-count : goal.slice_bounds-read_leaves-count
slice_bounds-read_leaves-count c =
    let past = c.before.before.before in
    omega (arith, within (leaf-loop past))

pub slice_bounds-read_leaves-start : goal.slice_bounds-read_leaves-start
slice_bounds-read_leaves-start c =
    let past = c.before.before.before in
    omega (arith, within (leaf-loop past))

pub slice_bounds-read_leaves-end : goal.slice_bounds-read_leaves-end
slice_bounds-read_leaves-end c = omega arith

pub read_leaves-r-requires : goal.read_leaves-r-requires
unfolding u8
read_leaves-r-requires c =
    let past = c.before.before.before.before in
    let k = leaf-field past in
    let l = past.loop-only in
    let h = here k (now (leaf-loop past)) in
    let noted = h.noted in record {
      standing = leaves-in-row h (some_left k) c.is_element.ensures past.first-next.ensures c.count.ensures;
      from_bound = (
        past.if-kind-lt-FIRST_THAT_HOLDS.true,
        omega (arith, (some_left k).some, c.count.ensures),
        omega (arith, lent-room l.used l.list, room (leaf_room past)),
      );
      table_in_bounds = (noted.sized.room, λ d p v. (noted.classes d p v).size);
      table_in_bounds_2 = (noted.room, noted.numbers);
      framed = h.framed;
      held = past-unset past.if-is_border.slots _ h.many (leaf-told past);
    }

-- what the leaves did
read-leaves : {all : Out} {ws : List ℕ} (c : AtLeaves) → Now (leaves_loop c) all ws →
    let l = c.loop-only in
    LeavesRound (loop-of (leaves_field c) all ws) c.forward-run.result l.list l.used
    (state_at l.place l.order l.state) c.if-is_border.slots
    c.read_leaves-r.result c.read_leaves-r.new.list
unfolding u8
read-leaves c h =
    let k = leaves_field c in
    leaves-did (here k h) (some_left k) c.is_element.ensures c.first-next.ensures
    c.count.ensures (bytes k) _ c.if-kind-lt-FIRST_THAT_HOLDS.true (room (leaves-room c))
    (leaf-told (leaves-leaf c)) c.read_leaves-r.ensures.value c.read_leaves-r.ensures.list_after

pub overflow_add-used-then-kind-lt-FIRST_THAT_HOLDS : goal.overflow_add-used-then-kind-lt-FIRST_THAT_HOLDS
overflow_add-used-then-kind-lt-FIRST_THAT_HOLDS c =
    let past = c.before.before.before.before in
    omega (arith, (read-leaves past (now (leaves_loop past))).room, within (leaves_loop past))

pub shape_of-list-then-not-r : goal.shape_of-list-then-not-r
shape_of-list-then-not-r c =
    let past = c.before.before.before.before.before.before.before.before in
    (read-leaves past (now (leaves_loop past))).same

pub returns-then-not-r : goal.returns-then-not-r
returns-then-not-r c =
    let past = c.before.before.before.before.before.before.before.before in
    let y = read-leaves past (now (leaves_loop past)) in
    rw c.refused-then-not-r.ensures (event-stopped (event (leaves_loop past)) _ _ (y.stops (not-true _ c.if-not-r.true) _ _))

pub behind-run-requires : goal.behind-run-requires
behind-run-requires c =
    let past = c.before.before.before.before.before.before.before in
    let there = whole-inside _ _ _ ((read-leaves past (now (leaves_loop past))).stand (not-false _ c.if-not-r.false)) in
    (omega (arith, there, (now (leaves_loop past)).round.noted.sized.room), omega (arith, there, past.well_formed.0))

pub overflow_cast-to : goal.overflow_cast-to
overflow_cast-to c = omega arith

pub bounds-table-last : goal.bounds-table-last
bounds-table-last c =
    let past = c.before.before.before.before in
    whole-inside _ _ _ ((read-leaves (behind-leaves past) (now (behind-loop past))).stand (not-false _ past.if-not-r.false))

pub offset_bounds-slots-to : goal.offset_bounds-slots-to
offset_bounds-slots-to c = omega arith

pub bounds-slots-to : goal.bounds-slots-to
bounds-slots-to c = omega arith

-- the slots behind the leaves, as they are told and joined
slot-told : (c : AtDue) →
    let l = c.loop-only in
    let q = c.read_leaves-r.result in
    (c.if-sets_slot.slots ≡ set_slot c.if-is_border.slots q.slot (content_of (u8 c.args.table.now q.at) q.value))
    ⊎ ((slot_count ≤ q.slot) × (c.if-sets_slot.slots ≡ c.if-is_border.slots))
unfolding u8 set_slot
slot-told c =
    elim c.if-sets_slot.branch [
      | then-sets_slot w ↦ inl (rw w.content_of-content.ensures at w.slots-is)
      | else-sets_slot w ↦ inr (w.if-sets_slot.false, w.slots-is)
    ]

-- the last leaf's slot is set, and its role is due
due : {all : Out} {ws : List ℕ} (c : AtDue) → Now (due-loop c) all ws →
    let l = c.loop-only in
    let y = c.read_leaves-r in
    let q = y.result in
    let r = c.behind-run.result in
    let w = loop-of (due-field c) all ws in
    Kept w (role (role_of q.role) q.width q.value ⨾ left w r) r
    (merged l.used l.list y.new.list) (l.used + q.used)
    (state_at q.place q.order l.state) c.if-sets_slot.slots
due c h =
    leaves-due (read-leaves (due-leaves c) h) (not-false _ c.if-not-r.false) (here (leaves_field (due-leaves c)) h).many
    c.behind-run.ensures (slot-told c)

-- a round with leaves lists an entry at least
leaves-fall : (c : AtDue) →
    let l = c.loop-only in
    let q = c.read_leaves-r.result in
    (l.used + words_per_entry ≤ l.used + q.used) × (l.used + q.used ≤ length l.list) ×
    (length l.list ≡ length c.args.list.now)
leaves-fall c =
    let y = read-leaves (due-leaves c) (now (due-loop c)) in (
      omega (arith, y.some (not-false _ c.if-not-r.false)),
      omega (arith, y.room, within (due-loop c)),
      (within (due-loop c)).1,
    )

pub loop-only-smaller-then-role-eq0 : goal.loop-only-smaller-then-role-eq0
loop-only-smaller-then-role-eq0 c =
    let l = c.loop-only in
    let f = leaves-fall c.before.before in
    let s = steps_left l.turn l.off in
    round-falls (length l.list) _ l.used (l.used + c.read_leaves-r.result.used) s s
    ((read-leaves (due-leaves c.before.before) (now (due-loop c.before.before))).same ∙ sym f.2) f.1 (omega (arith, f.0))

pub loop-only-preserved-then-role-eq0 : goal.loop-only-preserved-then-role-eq0
loop-only-preserved-then-role-eq0 c =
    λ all ws held.
    let k = c.loop-only.invariant all ws held in
    gone-on k (no-role _ _ _ c.if-role-eq0.true (due c.before.before k))

pub loop-only-smaller-then-role-eq-EVENT_CLASS_ID : goal.loop-only-smaller-then-role-eq-EVENT_CLASS_ID
loop-only-smaller-then-role-eq-EVENT_CLASS_ID c =
    let past = c.before.before.before.before in
    let l = past.loop-only in
    let f = leaves-fall past in
    let s = steps_left l.turn l.off in
    round-falls (length l.list) _ l.used (l.used + past.read_leaves-r.result.used) s s
    ((read-leaves (due-leaves past) (now (due-loop past))).same ∙ sym f.2) f.1 (omega (arith, f.0))

pub loop-only-preserved-then-role-eq-EVENT_CLASS_ID : goal.loop-only-preserved-then-role-eq-EVENT_CLASS_ID
loop-only-preserved-then-role-eq-EVENT_CLASS_ID c =
    let past = c.before.before.before.before in
    λ all ws held.
    let k = past.loop-only.invariant all ws held in
    gone-on k (event-role _ _ _ c.if-role-eq-EVENT_CLASS_ID.true (due past k))

pub offset_bounds-list-used-then-role-eq-CLOCK : goal.offset_bounds-list-used-then-role-eq-CLOCK
offset_bounds-list-used-then-role-eq-CLOCK c =
    let past = c.before.before.before.before.before in
    omega (arith, leaves-fall past, within (due-loop past))

pub slice_bounds-advance-count : goal.slice_bounds-advance-count
slice_bounds-advance-count c =
    let past = c.before.before.before.before.before in
    omega (arith, leaves-fall past, within (due-loop past))

pub slice_bounds-advance-start : goal.slice_bounds-advance-start
slice_bounds-advance-start c =
    let past = c.before.before.before.before.before in
    omega (arith, leaves-fall past, within (due-loop past))

pub slice_bounds-advance-end : goal.slice_bounds-advance-end
slice_bounds-advance-end c = omega arith

pub advance-a-requires : goal.advance-a-requires
advance-a-requires c =
    let past = c.before.before.before.before.before.before in
    (read-leaves (due-leaves past) (now (due-loop past))).stamp (not-false _ past.if-not-r.false) c.if-role-eq-CLOCK.true

-- what the clock's role did
advanced : {all : Out} {ws : List ℕ} (c : AtAdvanced) → Now (advanced-loop c) all ws →
    let l = c.loop-only in
    let y = c.read_leaves-r in
    let q = y.result in
    let r = c.behind-run.result in
    let w = loop-of (advanced-field c) all ws in
    ClockRound w (left w r) r (merged l.used l.list y.new.list) (l.used + q.used)
    (state_at q.place q.order l.state) c.if-sets_slot.slots c.advance-a.result c.advance-a.new.list
advanced c h = clock-role _ _ _ c.if-role-eq-CLOCK.true (due (advanced-due c) h) c.advance-a.ensures.0 c.advance-a.ensures.1

pub shape_of-list-then-not-a : goal.shape_of-list-then-not-a
shape_of-list-then-not-a c =
    let past = c.before.before.before.before.before.before in
    (advanced past (now (advanced-loop past))).same

pub returns-then-not-a : goal.returns-then-not-a
returns-then-not-a c =
    let past = c.before.before.before.before.before.before in
    let y = advanced past (now (advanced-loop past)) in
    rw c.refused-then-not-a.ensures (event-stopped (event (advanced-loop past)) _ _ (y.stops (not-true _ c.if-not-a.true) _ _))

pub overflow_add-used-then-role-eq-CLOCK : goal.overflow_add-used-then-role-eq-CLOCK
overflow_add-used-then-role-eq-CLOCK c =
    let past = c.before.before.before.before.before in
    omega (arith, (advanced past (now (advanced-loop past))).room (not-false _ c.if-not-a.false), within (advanced-loop past))

pub loop-only-smaller-then-role-eq-CLOCK : goal.loop-only-smaller-then-role-eq-CLOCK
loop-only-smaller-then-role-eq-CLOCK c =
    let past = c.before.before.before.before.before.before in
    let l = past.loop-only in
    let y = advanced past (now (advanced-loop past)) in
    let f = leaves-fall (advanced-due past) in
    let s = steps_left l.turn l.off in
    let room = y.room (not-false _ c.if-not-a.false) in
    round-falls (length l.list) _ l.used (l.used + past.read_leaves-r.result.used + words_per_entry) s s
    (y.same ∙ sym f.2) (omega (arith, room, f.2)) (omega (arith, f.0))

pub loop-only-preserved-then-role-eq-CLOCK : goal.loop-only-preserved-then-role-eq-CLOCK
loop-only-preserved-then-role-eq-CLOCK c =
    let past = c.before.before.before.before.before.before in
    λ all ws held.
    let k = past.loop-only.invariant all ws held in
    gone-on k ((advanced past k).goes (not-false _ c.if-not-a.false))

pub offset_bounds-list-used-then-kind-lt-FIRST_THAT_HOLDS-2 : goal.offset_bounds-list-used-then-kind-lt-FIRST_THAT_HOLDS-2
offset_bounds-list-used-then-kind-lt-FIRST_THAT_HOLDS-2 c =
    let past = c.before.before.before.before.before in
    omega (arith, leaves-fall past, within (due-loop past))

pub slice_bounds-apply-count : goal.slice_bounds-apply-count
slice_bounds-apply-count c =
    let past = c.before.before.before.before.before in
    omega (arith, leaves-fall past, within (due-loop past))

pub slice_bounds-apply-start : goal.slice_bounds-apply-start
slice_bounds-apply-start c =
    let past = c.before.before.before.before.before in
    omega (arith, leaves-fall past, within (due-loop past))

pub slice_bounds-apply-end : goal.slice_bounds-apply-end
slice_bounds-apply-end c = omega arith

pub apply-said-requires : goal.apply-said-requires
apply-said-requires c =
    let past = c.before.before.before.before.before.before in
    (read-leaves (due-leaves past) (now (due-loop past))).stamp (not-false _ past.if-not-r.false)

-- what any other role did
applied : {all : Out} {ws : List ℕ} (c : AtApplied) → Now (applied-loop c) all ws →
    let l = c.loop-only in
    let y = c.read_leaves-r in
    let q = y.result in
    let r = c.behind-run.result in
    let w = loop-of (applied-field c) all ws in
    RoleRound w (left w r) r (merged l.used l.list y.new.list) (l.used + q.used)
    (state_at q.place q.order l.state) c.if-sets_slot.slots c.apply-said.result c.apply-said.new.list
applied c h = role-did _ _ _ (due (applied-due c) h) c.at-then-kind-lt-FIRST_THAT_HOLDS.ensures c.apply-said.ensures

pub overflow_add-used-then-kind-lt-FIRST_THAT_HOLDS-2 : goal.overflow_add-used-then-kind-lt-FIRST_THAT_HOLDS-2
overflow_add-used-then-kind-lt-FIRST_THAT_HOLDS-2 c =
    let past = c.before.before.before.before in
    omega (arith, (applied past (now (applied-loop past))).room, within (applied-loop past))

pub shape_of-list-in-Err-went : goal.shape_of-list-in-Err-went
shape_of-list-in-Err-went c =
    let past = c.before.before.before.before.before.before in
    (applied past (now (applied-loop past))).same

pub returns-in-Err-went : goal.returns-in-Err-went
returns-in-Err-went c =
    let past = c.before.before.before.before.before.before in
    let y = applied past (now (applied-loop past)) in
    rw c.stopped-in-Err-went.ensures (event-stopped (event (applied-loop past)) _ _ (y.stops _ c.in-Err-went.is _ _))

pub loop-only-smaller-then-kind-lt-FIRST_THAT_HOLDS : goal.loop-only-smaller-then-kind-lt-FIRST_THAT_HOLDS
loop-only-smaller-then-kind-lt-FIRST_THAT_HOLDS c =
    let past = c.before.before.before.before.before.before in
    let l = past.loop-only in
    let y = applied past (now (applied-loop past)) in
    let f = leaves-fall (applied-due past) in
    let s = steps_left l.turn l.off in
    round-falls (length l.list) _ l.used (l.used + past.read_leaves-r.result.used + past.apply-said.result.used) s s
    (y.same ∙ sym f.2) (omega (arith, y.room, f.2)) (omega (arith, f.0))

pub loop-only-preserved-then-kind-lt-FIRST_THAT_HOLDS : goal.loop-only-preserved-then-kind-lt-FIRST_THAT_HOLDS
loop-only-preserved-then-kind-lt-FIRST_THAT_HOLDS c =
    let past = c.before.before.before.before.before.before in
    λ all ws held.
    let k = past.loop-only.invariant all ws held in
    gone-on k ((applied past k).goes c.in_default-went.is)

pub taken-run-requires : goal.taken-run-requires
taken-run-requires c =
    let past = c.before.before.before in
    (some_left (class-field past)).some

-- a field that holds others, taken as a member
holder-round : {all : Out} {ws : List ℕ} (c : AtHolder) → Now (holder-loop c) all ws →
    let l = c.loop-only in
    Round (loop-of (holder-field c) all ws) c.taken-run.result l.list l.used (state_at l.place l.order l.state) c.if-is_border.slots
holder-round c h = taken-round c.taken-run.ensures (some_left (holder-field c)) (here (holder-field c) h)

holder-next : (c : AtHolder) → FirstAt c.taken-run.result c.first-next.result
holder-next c = taken_next _ c.first-next.ensures c.taken-run.ensures (some_left (holder-field c))

holder : {all : Out} {ws : List ℕ} (c : AtHolder) → Now (holder-loop c) all ws → (x : Content) →
    let l = c.loop-only in
    slot_at c.if-is_border.slots (slot_read_at c.args.table.now c.first-next.result) ≡ x
    → Holder (loop-of (holder-field c) all ws) c.taken-run.result l.list l.used (state_at l.place l.order l.state) c.if-is_border.slots
    x
unfolding u8
holder c h x told = holds-first (holder-round c h) (holder-next c) c.if-kind-lt-FIRST_THAT_HOLDS.false (room (holder-room c)) told

pub offset_bounds-list-used-then-kind-eq-STRUCTURE : goal.offset_bounds-list-used-then-kind-eq-STRUCTURE
offset_bounds-list-used-then-kind-eq-STRUCTURE c = omega (arith, within (holder-loop c.before.before))

pub slice_bounds-enter_structure-count : goal.slice_bounds-enter_structure-count
slice_bounds-enter_structure-count c = omega (arith, within (holder-loop c.before.before))

pub slice_bounds-enter_structure-start : goal.slice_bounds-enter_structure-start
slice_bounds-enter_structure-start c = omega (arith, within (holder-loop c.before.before))

pub slice_bounds-enter_structure-end : goal.slice_bounds-enter_structure-end
slice_bounds-enter_structure-end c = omega arith

pub enter_structure-o-requires : goal.enter_structure-o-requires
unfolding u8
enter_structure-o-requires c =
    let k = c.before.before.before in
    let l = k.loop-only in
    let h = holder-round k (now (holder-loop k)) in
    let there = class-there (holder-class k) in
    let o = opens _ _ h.noted _ _ there k.if-kind-lt-FIRST_THAT_HOLDS.false in
    record {
      at_in_bounds = (
        slot-within _ _ _ there k.if-kind-lt-FIRST_THAT_HOLDS.false,
        omega (arith, whole-inside _ _ _ there, o.aligns),
        o.align,
      );
      start_le_from = (h.framed.begun, omega (arith, h.framed.within, h.framed.ends, h.framed.small));
      words_per_entry_in_bounds = omega (arith, lent-room l.used l.list, room (holder-room k));
    }

-- a structure that was entered
structure : {all : Out} {ws : List ℕ} (c : AtEntered) → Now (entered-loop c) all ws →
    let l = c.loop-only in
    EnterRound (loop-of (entered-field c) all ws) c.taken-run.result l.list l.used
    (state_at l.place l.order l.state) c.if-is_border.slots c.enter_structure-o.result c.enter_structure-o.new.list
unfolding u8
structure c h =
    entered-did (holder (entered-holder c) h _ refl) (holder-next (entered-holder c)) c.if-kind-eq-STRUCTURE.true
    c.enter_structure-o.ensures.value c.enter_structure-o.ensures.list_after

pub shape_of-list-then-not-o : goal.shape_of-list-then-not-o
shape_of-list-then-not-o c =
    let past = stood-entered c.before.before.before in
    (structure past (now (entered-loop past))).same

pub returns-then-not-o : goal.returns-then-not-o
returns-then-not-o c =
    let past = stood-entered c.before.before.before in
    let y = structure past (now (entered-loop past)) in
    rw c.refused-then-not-o.ensures (event-stopped (event (entered-loop past)) _ _ (y.stops (not-true _ c.if-not-o.true) _ _))

pub overflow_add-next : goal.overflow_add-next
unfolding u8
overflow_add-next c =
    let past = stood-entered c.before.before in
    omega (
      arith,
      slot-within _ _ _ (class-there (entered-class past)) past.if-kind-lt-FIRST_THAT_HOLDS.false,
      past.well_formed.0,
    )

pub overflow_add-next-then-kind-eq-STRUCTURE : goal.overflow_add-next-then-kind-eq-STRUCTURE
unfolding u8
overflow_add-next-then-kind-eq-STRUCTURE c =
    let past = stood-entered c.before.before in
    omega (
      arith,
      slot-within _ _ _ (class-there (entered-class past)) past.if-kind-lt-FIRST_THAT_HOLDS.false,
      past.well_formed.0,
    )

pub bounds-table-next-then-kind-eq-STRUCTURE : goal.bounds-table-next-then-kind-eq-STRUCTURE
unfolding u8
bounds-table-next-then-kind-eq-STRUCTURE c =
    let past = stood-entered c.before.before.before in
    omega (arith, slot-within _ _ _ (class-there (entered-class past)) past.if-kind-lt-FIRST_THAT_HOLDS.false)

pub opened-run-requires : goal.opened-run-requires
opened-run-requires c =
    let past = stood-entered c.before.before.before.before in
    let k = entered-holder past in
    let h = holder-round k (now (entered-loop past)) in
    ((holder-next k).0, omega (arith, members-few _ _ _ _ h.stands.members, c.wide.ensures.1, past.well_formed.0))

pub overflow_add-used-then-kind-eq-STRUCTURE : goal.overflow_add-used-then-kind-eq-STRUCTURE
overflow_add-used-then-kind-eq-STRUCTURE c =
    let past = members-entered c.before in
    omega (arith, within (entered-loop past), room (entered-room past))

pub loop-only-smaller-then-kind-eq-STRUCTURE : goal.loop-only-smaller-then-kind-eq-STRUCTURE
loop-only-smaller-then-kind-eq-STRUCTURE c =
    let past = members-entered c.before in
    let l = past.loop-only in
    let s = steps_left l.turn l.off in
    round-falls (length l.list) _ l.used (l.used + words_per_entry) s s
    ((structure past (now (entered-loop past))).same ∙ sym (within (entered-loop past)).1) (omega (arith, room (entered-room past)))
    (omega arith)

pub loop-only-preserved-then-kind-eq-STRUCTURE : goal.loop-only-preserved-then-kind-eq-STRUCTURE
unfolding u8
loop-only-preserved-then-kind-eq-STRUCTURE c =
    let past = members-entered c.before in
    λ all ws held.
    let k = past.loop-only.invariant all ws held in
    let on = not-false _ c.if-not-o.false in
    gone-on k (entered-run (holder (entered-holder past) k _ refl) (holder-next (entered-holder past)) (structure past k)
    c.opened-run.ensures c.wide.ensures.0 on)

pub slot_read-i-requires : goal.slot_read-i-requires
unfolding u8
slot_read-i-requires c =
    let k = c.before.before in
    let there = class-there (holder-class c.before.before) in
    (omega (arith, k.if-kind-lt-FIRST_THAT_HOLDS.false), kind-high _ _ _ there, slot-within _ _ _ there k.if-kind-lt-FIRST_THAT_HOLDS.false)

pub offset_bounds-slots-i-then-i-lt64-2 : goal.offset_bounds-slots-i-then-i-lt64-2
offset_bounds-slots-i-then-i-lt64-2 c = omega arith

pub bounds-slots-i-then-i-lt64-2 : goal.bounds-slots-i-then-i-lt64-2
bounds-slots-i-then-i-lt64-2 c = omega arith

-- the content of the slot that the field reads
holder-told : (c : AtTold) →
    slot_at c.if-is_border.slots (slot_read_at c.args.table.now c.first-next.result) ≡
    c.if-i-lt64-2.content
unfolding slot_at
holder-told c =
    content-met c.if-is_border.slots (here (holder-field (told-holder c)) (now (told-loop c))).many c.slot_read-i.ensures.0
    (λ y. y) (λ y. y)
    (elim c.if-i-lt64-2.branch [
      | then-i-lt64-2 w ↦ inl w.content-is
      | else-i-lt64-2 w ↦ inr (w.if-i-lt64-2.false, w.content-is)
    ])

holds : {all : Out} {ws : List ℕ} (c : AtTold) → Now (told-loop c) all ws →
    let l = c.loop-only in
    Holder (loop-of (told-field c) all ws) c.taken-run.result l.list l.used (state_at l.place l.order l.state)
    c.if-is_border.slots c.if-i-lt64-2.content
holds c h = holder (told-holder c) h _ (holder-told c)

pub offset_bounds-list-used-then-opens : goal.offset_bounds-list-used-then-opens
offset_bounds-list-used-then-opens c =
    let past = c.before.before.before.before in
    omega (arith, within (told-loop past))

pub slice_bounds-open_field-count : goal.slice_bounds-open_field-count
slice_bounds-open_field-count c =
    let past = c.before.before.before.before in
    omega (arith, within (told-loop past))

pub slice_bounds-open_field-start : goal.slice_bounds-open_field-start
slice_bounds-open_field-start c =
    let past = c.before.before.before.before in
    omega (arith, within (told-loop past))

pub slice_bounds-open_field-end : goal.slice_bounds-open_field-end
slice_bounds-open_field-end c = omega arith

pub open_field-o-requires : goal.open_field-o-requires
unfolding u8
open_field-o-requires c =
    let past = c.before.before.before.before.before in
    let k = told-holder past in
    let l = past.loop-only in
    let h = holder-round k (now (told-loop past)) in
    record {
      holder_stands = opens _ _ h.noted _ _ (class-there (told-class past)) k.if-kind-lt-FIRST_THAT_HOLDS.false;
      start_le_place = (h.framed.begun, omega (arith, h.framed.within, h.framed.ends, h.framed.small));
      words_per_entry_in_bounds = omega (arith, lent-room l.used l.list, room (told-room past));
    }

-- a field that was opened, in a run of its own
apart : {all : Out} {ws : List ℕ} (c : AtOpened) → Now (opened-loop c) all ws →
    let l = c.loop-only in
    ApartRound (loop-of (opened-field c) all ws) c.taken-run.result l.list l.used
    (state_at l.place l.order l.state) c.if-is_border.slots c.open_field-o.result c.open_field-o.new.list
unfolding u8
apart c h =
    apart-did (holds (opened-told c) h) (holder-next (opened-holder c)) c.open_field-o.ensures.value c.open_field-o.ensures.list_after

-- or in its own run
inside : {all : Out} {ws : List ℕ} (c : AtOpened) → Now (opened-loop c) all ws → c.is_open-here.result ≡ true
    →
    let l = c.loop-only in
    CodeRound (loop-of (opened-field c) all ws) c.taken-run.result l.list l.used
    (state_at l.place l.order l.state) c.if-is_border.slots c.open_field-o.result c.open_field-o.new.list
unfolding u8
inside c h here =
    inside-did (holds (opened-told c) h) (holder-next (opened-holder c)) (sym c.is_open-here.ensures ∙ here)
    c.open_field-o.ensures.value c.open_field-o.ensures.list_after

pub shape_of-list-then-not-o-2 : goal.shape_of-list-then-not-o-2
shape_of-list-then-not-o-2 c =
    let past = placed-opened c.before.before.before in
    (apart past (now (opened-loop past))).same

pub returns-then-not-o-2 : goal.returns-then-not-o-2
returns-then-not-o-2 c =
    let past = placed-opened c.before.before.before in
    let y = apart past (now (opened-loop past)) in
    rw c.refused-then-not-o-2.ensures (event-stopped (event (opened-loop past)) _ _ (y.stops (not-true _ c.if-not-o-2.true) _ _))

pub overflow_add-used-then-opens : goal.overflow_add-used-then-opens
overflow_add-used-then-opens c =
    let past = inside-opened c.before in
    omega (arith, within (opened-loop past), room (opened-room past))

pub into-run-requires : goal.into-run-requires
into-run-requires c =
    let past = inside-opened c.before.before in
    let k = opened-holder past in
    let h = holder-round k (now (opened-loop past)) in
    let next = holder-next k in
    let there = whole-inside _ _ _ (class-there (opened-class past)) in
    let small = past.well_formed.0 in (
      next.0,
      (λ off. omega (arith, members-few _ _ _ _ h.stands.members, (apart past (now (opened-loop past))).few off, small)),
      omega (arith, next.1, there, h.noted.sized.room),
      omega (arith, next.1, there, small),
    )

pub loop-only-smaller-then-here : goal.loop-only-smaller-then-here
loop-only-smaller-then-here c =
    let past = inside-opened c.before.before.before in
    let l = past.loop-only in
    let s = steps_left l.turn l.off in
    round-falls (length l.list) _ l.used (l.used + words_per_entry) s s
    ((apart past (now (opened-loop past))).same ∙ sym (within (opened-loop past)).1) (omega (arith, room (opened-room past)))
    (omega arith)

pub loop-only-preserved-then-here : goal.loop-only-preserved-then-here
unfolding u8
loop-only-preserved-then-here c =
    let past = inside-opened c.before.before.before in
    λ all ws held.
    let k = past.loop-only.invariant all ws held in
    let on = not-false _ c.if-not-o-2.false in
    gone-on k (inside-run (holds (opened-told past) k) (holder-next (opened-holder past))
    (inside past k c.if-here.true) c.into-run.ensures on)

pub overflow_sub-run : goal.overflow_sub-run
overflow_sub-run c =
    let past = inside-opened c.before.before.before in
    omega (arith, (holder-next (opened-holder past)).0)

pub behind-rest-requires : goal.behind-rest-requires
behind-rest-requires c =
    let past = inside-opened c.before.before.before in
    let there = whole-inside _ _ _ (class-there (opened-class past)) in
    (omega (arith, there, (now (opened-loop past)).round.noted.sized.room), omega (arith, there, past.well_formed.0))

-- there is a place for the run that is put off
off-few : (c : AtRest) → c.loop-only.off < runs
off-few c =
    let past = rest-opened c in
    opens-off _ _ (sym past.opens.ensures ∙ past.if-opens.true) c.if-here.false

pub offset_bounds-pile-off-then-opens : goal.offset_bounds-pile-off-then-opens
offset_bounds-pile-off-then-opens c = omega (arith, off-few c.before)

pub bounds-pile-off-then-opens : goal.bounds-pile-off-then-opens
bounds-pile-off-then-opens c = omega (arith, off-few c.before)

pub overflow_add-off : goal.overflow_add-off
overflow_add-off c = omega (arith, off-few c.before)

pub loop-only-smaller-then-opens : goal.loop-only-smaller-then-opens
loop-only-smaller-then-opens c =
    let past = rest-opened c.before.before in
    let l = past.loop-only in
    round-falls (length l.list) _ l.used (l.used + words_per_entry) (steps_left l.turn l.off) (steps_left l.turn (l.off + 1))
    ((apart past (now (opened-loop past))).same ∙ sym (within (opened-loop past)).1) (omega (arith, room (opened-room past)))
    (omega arith)

pub loop-only-preserved-then-opens : goal.loop-only-preserved-then-opens
loop-only-preserved-then-opens c =
    let past = rest-opened c.before.before in
    λ all ws held.
    let k = past.loop-only.invariant all ws held in
    let on = not-false _ c.if-not-o-2.false in
    let q = apart-run (holds (opened-told past) k) (holder-next (opened-holder past)) (apart past k) c.alone-run.ensures
    c.behind-rest.ensures on in
    put-off k (off-few c.before.before) q.0 q.1

pub offset_bounds-list-used-in-loop-only : goal.offset_bounds-list-used-in-loop-only
offset_bounds-list-used-in-loop-only c =
    let past = c.before.before.before.before.before in
    omega (arith, within (told-loop past))

pub slice_bounds-read_field-count : goal.slice_bounds-read_field-count
slice_bounds-read_field-count c =
    let past = c.before.before.before.before.before in
    omega (arith, within (told-loop past))

pub slice_bounds-read_field-start : goal.slice_bounds-read_field-start
slice_bounds-read_field-start c =
    let past = c.before.before.before.before.before in
    omega (arith, within (told-loop past))

pub slice_bounds-read_field-end : goal.slice_bounds-read_field-end
slice_bounds-read_field-end c = omega arith

pub read_field-r-requires : goal.read_field-r-requires
unfolding u8
read_field-r-requires c =
    let past = c.before.before.before.before.before.before in
    let k = told-holder past in
    let l = past.loop-only in
    let h = holder-round k (now (told-loop past)) in
    record {
      whole = class-there (told-class past);
      bound = (k.if-kind-lt-FIRST_THAT_HOLDS.false, omega (arith, lent-room l.used l.list, room (told-room past)));
      prepared = h.noted;
      framed = rw c.at-in-loop-only.ensures h.framed;
    }

-- a field that was read by itself
field : {all : Out} {ws : List ℕ} (c : AtRead) → Now (read-loop c) all ws →
    let l = c.loop-only in
    FieldRound (loop-of (read-field c) all ws) c.taken-run.result l.list l.used c.read_field-r.result
    c.read_field-r.new.list
field c h =
    field-did (holds (read_told c) h) (holder-next (read-holder c)) c.at-in-loop-only.ensures c.read_field-r.ensures

pub overflow_add-used-in-loop-only : goal.overflow_add-used-in-loop-only
overflow_add-used-in-loop-only c =
    let past = c.before.before.before.before in
    omega (arith, (field past (now (read-loop past))).room, within (read-loop past))

pub shape_of-list-in-Err-went-2 : goal.shape_of-list-in-Err-went-2
shape_of-list-in-Err-went-2 c =
    let past = c.before.before.before.before.before.before in
    (field past (now (read-loop past))).same

pub returns-in-Err-went-2 : goal.returns-in-Err-went-2
returns-in-Err-went-2 c =
    let past = c.before.before.before.before.before.before in
    let y = field past (now (read-loop past)) in
    rw c.stopped-in-Err-went-2.ensures (event-stopped (event (read-loop past)) _ _ (y.stops _ c.in-Err-went-2.is _ _))

pub overflow_sub-run-in-loop-only : goal.overflow_sub-run-in-loop-only
overflow_sub-run-in-loop-only c =
    let past = c.before.before.before.before.before.before.before.before.before in
    omega (arith, (holder-next (read-holder past)).0)

pub behind-run-requires-in-loop-only : goal.behind-run-requires-in-loop-only
behind-run-requires-in-loop-only c =
    let past = c.before.before.before.before.before.before.before.before.before in
    let there = whole-inside _ _ _ (class-there (read-class past)) in
    (omega (arith, there, (now (read-loop past)).round.noted.sized.room), omega (arith, there, past.well_formed.0))

pub loop-only-smaller : goal.loop-only-smaller
loop-only-smaller c =
    let past = c.before.before.before.before.before.before.before.before.before.before in
    let l = past.loop-only in
    let y = field past (now (read-loop past)) in
    let s = steps_left l.turn l.off in
    let some = y.some c.in_default-went-2.is in
    round-falls (length l.list) _ l.used (l.used + past.read_field-r.result.used) s s (y.same ∙ sym (within (read-loop past)).1)
    (omega (arith, y.room, within (read-loop past))) (omega (arith, some))

pub loop-only-preserved : goal.loop-only-preserved
loop-only-preserved c =
    let past = c.before.before.before.before.before.before.before.before.before.before in
    λ all ws held.
    let k = past.loop-only.invariant all ws held in
    let on = c.in_default-went-2.is in
    gone-on k (field-run (holds (read_told past) k) (holder-next (read-holder past)) (field past k) c.behind-run-in-loop-only.ensures on)
