-- Turn by turn: the leaf is seen, with the number that is noted of its record, and by that the definition says what is done, and of which
-- leaves the rest is.
use mathlib.Core.Path.{◌≡◌}
use mathlib.Core.List.{◌∷◌, [], ◌++◌}
use Prim.Native.Nat.{◌+◌, ◌*◌, ◌^◌, ◌<◌, ◌≤◌}
use native.Mathlib.Omega.{arith}
use lib.ListN.{length}
use Rattle.rules.specs.Limits.{words_per_entry}
use Rattle.facts.specs.Bytes.{Bytes}
use Rattle.listing.proofs.Parts.{Listed, one_more, listed-length, lent-room, merged}
use Rattle.leaf_after.specs.Seeing.{Fits}
use Rattle.class_layout.specs.Notes.{SizedClasses, NumberedClasses}
use Rattle.class_layout.specs.Numbers.{number_at}
use Rattle.class_layout.specs.Fields.{onward}
use Rattle.class_layout.specs.Trees.{next_at}
use Rattle.class_layout.proofs.Turns.{whole-inside}
use Rattle.leaf_read.specs.Seen.{seen_at}
use Rattle.leaf_read.proofs.Reading.{reading-start, reading-first, reading-length, reading-seen, reading-fits}
use Rattle.leaf_read.proofs.Reading.{reading-onward, next-inside, answer-stops, answer-other, answer-last, reading-next}
use Rattle.leaf_read.proofs.read_leaves.Goals as goal
use Rattle.leaf_read.proofs.read_leaves.Lts as lts
use Rattle.leaf_read.proofs.read_leaves.Tie as tie
use Rattle.leaf_read.proofs.read_leaves.Reads as reads

-- Places of the code: a leaf's turn; its number is known; it is seen; it stops, or has other bytes than the UUID, or something is due of
-- it; its entry stands in the list; the next one's byte is known

abbrev AtStart : Type 0
AtStart = lts.Start tie.the-claims reads.Pre reads.Post goal.the-invariant-loop-stop goal.the-decreases-loop-stop tie.handed_clauses

abbrev AtBegun : Type 0
AtBegun = lts.After-slice_known tie.the-claims reads.Pre reads.Post goal.the-invariant-loop-stop goal.the-decreases-loop-stop tie.handed_clauses

abbrev AtLeaf : Type 0
AtLeaf = lts.At-loop tie.the-claims reads.Pre reads.Post goal.the-invariant-loop-stop goal.the-decreases-loop-stop tie.handed_clauses

abbrev AtNumber : Type 0
AtNumber = lts.After-number_of tie.the-claims reads.Pre reads.Post goal.the-invariant-loop-stop goal.the-decreases-loop-stop tie.handed_clauses

abbrev AtSeen : Type 0
AtSeen = lts.After-see_leaf tie.the-claims reads.Pre reads.Post goal.the-invariant-loop-stop goal.the-decreases-loop-stop tie.handed_clauses

abbrev AtStops : Type 0
AtStops = lts.Past-After-known_told tie.the-claims reads.Pre reads.Post goal.the-invariant-loop-stop goal.the-decreases-loop-stop tie.handed_clauses

abbrev AtOther : Type 0
AtOther = lts.Past-After-known_told2 tie.the-claims reads.Pre reads.Post goal.the-invariant-loop-stop goal.the-decreases-loop-stop tie.handed_clauses

abbrev AtOtherListed : Type 0
AtOtherListed = lts.After-list tie.the-claims reads.Pre reads.Post goal.the-invariant-loop-stop goal.the-decreases-loop-stop tie.handed_clauses

abbrev AtDue : Type 0
AtDue = lts.Past-After-known_told3 tie.the-claims reads.Pre reads.Post goal.the-invariant-loop-stop goal.the-decreases-loop-stop tie.handed_clauses

abbrev AtListed : Type 0
AtListed = lts.After-list2 tie.the-claims reads.Pre reads.Post goal.the-invariant-loop-stop goal.the-decreases-loop-stop tie.handed_clauses

abbrev AtNext : Type 0
AtNext = lts.After-onward tie.the-claims reads.Pre reads.Post goal.the-invariant-loop-stop goal.the-decreases-loop-stop tie.handed_clauses

-- The way back

abbrev begun : AtBegun → AtStart
begun c = c.before.before.before.before.before.before

abbrev start : AtLeaf → AtStart
start c = c.before.before.before.before.before.before.before

abbrev number : AtSeen → AtNumber
number c = c.before

abbrev turn : AtNumber → AtLeaf
turn c = c.before.before

abbrev leaf : AtSeen → AtLeaf
leaf c = c.before.before.before

abbrev stops : AtStops → AtSeen
stops c = c.before

abbrev other : AtOther → AtSeen
other c = c.before

abbrev other-told : AtOtherListed → AtOther
other-told c = c.before.before.before

abbrev due : AtDue → AtSeen
due c = c.before

abbrev due-told : AtListed → AtDue
due-told c = c.before.before.before.before

abbrev due-listed : AtNext → AtListed
due-listed c = c.before.before.before.before

-- What is known at them

-- there is room for an entry, and the list is as long as it came
within : (c : AtLeaf) →
    let l = c.loop-stop in
    let ws = c.args.list.now in
    (l.used + words_per_entry ≤ length l.list) × (length l.list ≡ length ws) × (8 * length ws < 2 ^ 63)
within c =
    let h = c.loop-stop.invariant in
    (omega (arith, reading-length h, h.room), reading-length h, omega (arith, c.well_formed))

bytes : (c : AtLeaf) → Bytes c.args.stream.now
bytes c i = omega (arith, c.shared_slice_known-5-1.given i)

sized : (c : AtLeaf) →
    let a = c.args in
    (length a.table.now ≤ length a.sizes.now) × SizedClasses a.table.now a.sizes.now
sized c = c.requires.table_in_bounds

noted : (c : AtLeaf) →
    let a = c.args in
    (length a.table.now ≤ length a.aligns.now) × NumberedClasses a.table.now a.aligns.now
noted c = c.requires.table_in_bounds_2

-- there is a note of its class
inside : (c : AtLeaf) → c.loop-stop.at < length c.args.aligns.now
inside c = omega (arith, whole-inside _ _ _ (reading-first c.loop-stop.invariant).leaf, (noted c).0)

-- what is seen is by its record's number
sees : (c : AtSeen) →
    let a = c.args in
    let l = c.loop-stop in
    let t = a.table.now in
    c.see_leaf.result
    ≡ seen_at (number_at t l.at) t a.stream.now a.uuid.now a.frame l.at l.place l.order a.content
sees c =
    let l = leaf c in
    reading-seen l.loop-stop.invariant l.args.aligns.now (noted l).1 c.number_of-number.ensures.0 c.see_leaf.ensures

-- what is seen can be done
fits : (c : AtSeen) → Fits c.see_leaf.result
fits c = reading-fits c.loop-stop.invariant (bytes (leaf c)) (sees c)

-- the entry stands behind what was listed
other-list : (c : AtOtherListed) →
    let l = leaf (other (other-told c)) in
    let entry = c.in-OtherUuid.entry in
    let ws = merged l.loop-stop.used l.loop-stop.list c.write.new.list in
    Listed (l.loop-stop.invariant.listed ++ (entry ∷ [])) l.args.list.now ws (l.loop-stop.used + words_per_entry)
other-list c = let h = c.loop-stop.invariant in one_more h.list _ h.room c.write.ensures

due-list : (c : AtListed) →
    let l = leaf (due (due-told c)) in
    let entry = c.in-Field.due.entry in
    let ws = merged l.loop-stop.used l.loop-stop.list c.write-in-Field.new.list in
    Listed (l.loop-stop.invariant.listed ++ (entry ∷ [])) l.args.list.now ws (l.loop-stop.used + words_per_entry)
due-list c = let h = c.loop-stop.invariant in one_more h.list _ h.room c.write-in-Field.ensures

-- the next leaf's class stands where the sizes say
there : (c : AtNext) →
    let l = leaf (due (due-told (due-listed c))) in
    let a = l.args in
    c.onward-next.result ≡ onward a.again l.loop-stop.at (next_at 1 a.table.now l.loop-stop.at)
there c =
    let l = leaf (due (due-told (due-listed c))) in
    reading-onward l.loop-stop.invariant l.args.sizes.now (sized l).1 c.onward-next.ensures

-- The needs

pub loop-stop-init : goal.loop-stop-init
loop-stop-init c =
    let p = c.requires in
    let asks = p.from_bound in
    reading-start _ p.standing asks.0 asks.1 asks.2 p.framed p.held

pub offset_bounds-aligns-at : goal.offset_bounds-aligns-at
offset_bounds-aligns-at c = omega (arith, inside c.before, c.well_formed)

pub bounds-aligns-at : goal.bounds-aligns-at
bounds-aligns-at c = inside c.before.before

pub see_leaf-requires : goal.see_leaf-requires
see_leaf-requires c = let h = c.loop-stop.invariant in record { whole = (reading-first h).leaf; at_bound = h.kind; framed = h.framed }

pub shape_of-list-in-Stops : goal.shape_of-list-in-Stops
shape_of-list-in-Stops c = (within (leaf (stops c.before.before.before))).1

pub returns-in-Stops : goal.returns-in-Stops
returns-in-Stops c =
    let told = c.before.before.before in
    let seen = stops told in
    let both = answer-stops seen.loop-stop.invariant (sees seen) told.in-Stops.is in
    record { value = rw c.stopped.ensures both.0; list_after = both.1 }

pub offset_bounds-list-used : goal.offset_bounds-list-used
offset_bounds-list-used c = let i = within (leaf (other c.before)) in omega (arith, i.0, i.1, i.2)

pub slice_bounds-write-count : goal.slice_bounds-write-count
slice_bounds-write-count c = omega (arith, (within (leaf (other c.before))).0)

pub slice_bounds-write-start : goal.slice_bounds-write-start
slice_bounds-write-start c = omega (arith, (within (leaf (other c.before))).0)

pub write-requires : goal.write-requires
write-requires c = let l = leaf (other c.before.before) in omega (arith, (within l).0, lent-room l.loop-stop.used l.loop-stop.list)

pub further-requires : goal.further-requires
unfolding Fits
further-requires c =
    let told = other-told c.before.before.before in
    rw told.in-OtherUuid.is at (fits (other told))

pub overflow_add-used : goal.overflow_add-used
overflow_add-used c =
    let i = within (leaf (other (other-told c.before.before.before.before))) in
    omega (arith, i.0, i.1, i.2)

pub shape_of-list-in-OtherUuid : goal.shape_of-list-in-OtherUuid
shape_of-list-in-OtherUuid c = listed-length (other-list c.before.before.before.before.before)

pub returns-in-OtherUuid : goal.returns-in-OtherUuid
returns-in-OtherUuid c =
    let listed = c.before.before.before.before.before in
    let told = other-told listed in
    let seen = other told in
    let both = answer-other seen.loop-stop.invariant (sees seen) told.in-OtherUuid.is (other-list listed) in
    record { value = rw (c.stopped-in-OtherUuid.ensures, c.further.ensures) both.0; list_after = both.1 }

pub offset_bounds-list-used-in-Field : goal.offset_bounds-list-used-in-Field
offset_bounds-list-used-in-Field c = let i = within (leaf (due c.before.before)) in omega (arith, i.0, i.1, i.2)

pub slice_bounds-write-count-in-Field : goal.slice_bounds-write-count-in-Field
slice_bounds-write-count-in-Field c = omega (arith, (within (leaf (due c.before.before))).0)

pub slice_bounds-write-start-in-Field : goal.slice_bounds-write-start-in-Field
slice_bounds-write-start-in-Field c = omega (arith, (within (leaf (due c.before.before))).0)

pub write-requires-in-Field : goal.write-requires-in-Field
write-requires-in-Field c =
    let l = leaf (due c.before.before.before) in omega (arith, (within l).0, lent-room l.loop-stop.used l.loop-stop.list)

pub overflow_add-used-in-Field : goal.overflow_add-used-in-Field
overflow_add-used-in-Field c =
    let i = within (leaf (due (due-told c.before.before))) in
    omega (arith, i.0, i.1, i.2)

pub overflow_sub-todo : goal.overflow_sub-todo
overflow_sub-todo c = omega (arith, c.loop-stop.invariant.some)

pub further-place-requires : goal.further-place-requires
unfolding Fits
further-place-requires c =
    let told = due-told c.before.before.before in
    (rw told.in-Field.is at (fits (due told))).0

pub onward-next-requires : goal.onward-next-requires
onward-next-requires c =
    let l = leaf (due (due-told c.before.before.before.before)) in
    omega (arith, whole-inside _ _ _ (reading-first l.loop-stop.invariant).leaf, (sized l).0)

pub overflow_sub-list : goal.overflow_sub-list
overflow_sub-list c =
    let listed = due-listed c.before in
    omega (arith, listed-length (due-list listed), listed.loop-stop.invariant.room)

pub ends-requires : goal.ends-requires
ends-requires c = λ some. rw (there c.before) (next-inside c.loop-stop.invariant some)

pub shape_of-list-then-ends : goal.shape_of-list-then-ends
shape_of-list-then-ends c = listed-length (due-list (due-listed c.before.before.before))

pub returns-then-ends : goal.returns-then-ends
returns-then-ends c =
    let next = c.before.before.before in
    let listed = due-listed next in
    let told = due-told listed in
    let seen = due told in
    let last = answer-last seen.loop-stop.invariant _ (sees seen) told.in-Field.is (due-list listed) (there next) in
    let both = last c.ends.ensures c.if-ends.true in
    record { value = rw c.further-place.ensures both.0; list_after = both.1 }

pub loop-stop-smaller : goal.loop-stop-smaller
loop-stop-smaller c = omega (arith, c.loop-stop.invariant.some)

pub loop-stop-preserved : goal.loop-stop-preserved
loop-stop-preserved c =
    let next = c.before.before.before in
    let listed = due-listed next in
    let told = due-told listed in
    let seen = due told in
    let more = reading-next seen.loop-stop.invariant _ (sees seen) told.in-Field.is (due-list listed) (there next) in
    rw c.further-place.ensures (more c.ends.ensures (bytes (leaf seen)) c.if-ends.false)
