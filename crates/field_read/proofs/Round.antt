-- Rounds of a loop over a run of fields, whichever loop it is: what was listed, and then what is ahead of the run, and then what comes
-- behind it, is the whole outcome. In order: what a loop keeps; what falls; entries put into the list; the run's end and no room; leaves,
-- and what is due of the last; fields that are opened; a field that is read by itself.
use Rattle.std.specs.Prelude.{Option, Ok, Err, Result, ⊤}
use Rattle.rules.specs.declared.Order.{Order}
use mathlib.Core.Path.{◌≡◌, refl, ap, sym, subst, ◌∙◌}
use mathlib.Core.List.{List, [], ◌∷◌, ◌++◌, append-nil}
use mathlib.Core.Bool.{Bool, true, false}
use Prim.Native.Nat.{ℕ, zero, suc, ◌+◌, ◌-◌, ◌*◌, ◌≤◌, ◌<◌}
use native.Mathlib.Omega.{arith}
use borrow.Rule.Slice.PartMut.{same_len_mid}
use lib.ListN.{length, take, drop, length-set, take-append-drop}
use Rattle.rules.specs.declared.BitPlace.{BitPlace}
use Rattle.rules.specs.declared.Entry.{Entry}
use Rattle.rules.specs.declared.Stop.{Stop}
use Rattle.rules.specs.declared.Content.{Content}
use Rattle.rules.specs.declared.Refusal.TheVariants.{ListFull, PastBound}
use Rattle.rules.specs.Limits.{slot_count, words_per_entry}
use Rattle.rules.specs.Verdict.{stop_at}
use Rattle.rules.specs.Slots.{Slots, slot_at, set_slot, unset}
use Rattle.rules.specs.Entry.{entry, words}
use Rattle.rules.specs.Record.{u8}
use Rattle.rules.specs.Faults.{roles, role_of}
use Rattle.rules.specs.Class.{Class, fixed, leb128, signed_leb128, string, static_string, static_blob, dynamic_string, dynamic_blob}
use Rattle.rules.specs.Class.{sets, structure, static_array, dynamic_array, flagged, optional, variant}
use Rattle.rules.specs.Step.{State, Out, stop, go, Step, onto, after, ◌⨾◌, pass, refuse, refuse_at, listed, change, with_slots, with_said}
use Rattle.rules.specs.Field.{Env, read, read_fixed, store, say as saying, role}
use Rattle.facts.specs.Bytes.{Bytes}
use Rattle.facts.proofs.Truth.{clash}
use Rattle.facts.proofs.Forgets.{length-unset}
use Rattle.facts.proofs.Steps.{list_of, onto-nil, after-onto, seq-assoc, pass-seq}
use Rattle.class_layout.specs.Numbers.{number_at}
use Rattle.class_layout.specs.Trees.{stood_at, class_at, next_at, behind_members, IsWhole, WholeMembers}
use Rattle.class_layout.specs.Fields.{read_fields, onward}
use Rattle.class_layout.specs.Notes.{Notes, Prepared, SizedClasses, number_noted}
use Rattle.class_layout.proofs.Fields.{foremost}
use Rattle.class_layout.proofs.InPlace.{members-few}
use Rattle.class_layout.proofs.Standing.{depth-some, first}
use Rattle.frame.specs.declared.Frame.{Frame}
use Rattle.frame.specs.Framed.{Framed, env_of, aligned_at}
use Rattle.leaf_after.specs.declared.Seen.{Seen}
use Rattle.leaf_after.specs.declared.Seen.TheVariants.{Field as Sees, OtherUuid, Stops as SeesStop}
use Rattle.leaf_after.specs.declared.Due.{Due}
use Rattle.leaf_after.specs.declared.Leaves.{Leaves}
use Rattle.listing.specs.declared.Progress.{Progress}
use Rattle.listing.specs.declared.role.Roled.{Roled}
use Rattle.listing.specs.declared.role.Advanced.{Advanced}
use Rattle.listing.specs.Roled.{Stamp, with_event, ticked_state, advanced_by, list_advanced}
use Rattle.listing.specs.Did.{Did, RoleDid, full, out_of}
use Rattle.listing.proofs.Checks.{no-room-first}
use Rattle.listing.proofs.Roles.{clock-held, clock-advanced}
use Rattle.listing.proofs.Parts.{Part, part_step, part-stop, part_length, back-room, listed-length, lent, lent-room, merged}
use Rattle.leaf_read.specs.Reads.{leaf_slot}
use Rattle.leaf_read.specs.Leaves.{content_of, LeavesListed, list_behind, leaf_then, stops_at, stopped_leaves, last_leaf, behind_entries}
use Rattle.leaf_read.specs.Leaves.{leaves_read}
use Rattle.leaf_read.proofs.Leaves.{LeavesSay, leaves-read}
use Rattle.field_inside.specs.declared.look.Inside.{Inside}
use Rattle.field_inside.specs.declared.look.Inside.TheVariants.{Members, Elements, Refused}
use Rattle.field_inside.specs.declared.opening.Entered.{Entered}
use Rattle.field_inside.specs.declared.opening.Opened.{Opened}
use Rattle.field_inside.specs.Inside.{inside_of, slot_read_at, opened, standing, members_from, bits_noted}
use Rattle.field_inside.specs.Held.{Held, Placed, HeldMembers, HeldElements}
use Rattle.field_inside.specs.Opening.{opened_as, forgets_at, list_opened, went_in, list_holder, entered_at, list_entered}
use Rattle.field_inside.proofs.Holders.{inside-structure}
use Rattle.field_inside.proofs.Entering.{entered_on, entered-off}
use Rattle.field_inside.proofs.Opened.{inside-read}
use Rattle.field_inside.proofs.Held.{inside-whole, Ends, inside-ends}
use Rattle.field_inside.proofs.Deeper.{held-deeper, opened-deeper}
use Rattle.field_runs.specs.declared.Run.{Run}
use Rattle.field_runs.specs.Run.{over, free, element, first_at, count_of, behind_run, opened_run, into_run}
use Rattle.field_runs.specs.Ahead.{ahead, WholeRun, Forgets}
use Rattle.field_runs.proofs.Cases.{Begun, member-begun, first_member, count-members, element-yes, first-element, into-parts}
use Rattle.field_runs.proofs.Ahead.{elements-times, Same, held_read, instead, over_reads, sort-reads, sort-stands, behind-reads}
use Rattle.field_runs.proofs.Ahead.{behind-stands, tail_read}
use Rattle.field_runs.proofs.Openings.{Holds, into-opens}
use Rattle.laws.proofs.Between.{read_between}
use Rattle.field_read.specs.declared.Field.{Field}
use Rattle.field_read.specs.Reads.{FieldReads, state_at}
use Rattle.field_read.proofs.Noted.{around-noted}
use Rattle.field_read.proofs.Roles.{Stays, role-stays}

-- What stays through a loop: what is read and by which notes; the outcome of it all, what comes behind the run, and the list as it came
pub record Loop : Type 0 where
  pub stream : List ℕ
  pub uuid : List ℕ
  pub frame : Frame
  pub depths : ℕ
  pub table : List ℕ
  pub notes : Notes
  pub all : Out
  pub behind : Step
  pub list : List ℕ

abbrev pub env : Loop → Env
env w = env_of w.stream w.uuid w.frame

-- what is left: the run, and what comes behind it
abbrev pub left : Loop → Run → Step
left w r = ahead w.depths w.table (env w) r ⨾ w.behind

-- what a round keeps, m being left
pub record Kept (w : Loop) (m : Step) (r : Run) (ws : List ℕ) (used : ℕ) (st : Progress) (l : Slots) : Type 0 where
  pub stands : WholeRun w.depths w.table r
  pub noted : Prepared w.table w.notes
  pub framed : Framed w.stream w.frame st.place
  pub many : length l ≡ slot_count
  pub part : Part w.all m w.list ws used st l

-- a loop at a round's start
abbrev pub Round : Loop → Run → List ℕ → ℕ → Progress → Slots → Type 0
Round w r = Kept w (left w r) r

-- the loop stopped, with so many words listed
abbrev pub Stops : Loop → Stop → ℕ → List ℕ → Type 0
Stops w v n ws = (came : Progress) (l : Slots) → Did w.all came (Err v) n came l w.list ws

-- What falls: the room that is left, which a round that lists takes of, and the steps that a loop has to do without listing: turns that are
-- left, and runs that were put off. A walk has none of these

abbrev pub work_left : ℕ → ℕ → ℕ → ℕ
work_left words used steps = words - used + steps

pub round-falls : (words words' used used' steps steps' : ℕ) → words' ≡ words → used' ≤ words → used + steps' < used' + steps
    → work_left words' used' steps' < work_left words used steps
round-falls words words' used used' steps steps' e room some = omega (arith, e)

-- Entries put into the list

-- what was lent and came back as it was
unlent : (u : ℕ) (ws : List ℕ) → merged u ws (lent u ws) ≡ ws
unlent u ws = ap (λ z. take u ws ++ z) (take-append-drop (length ws - u) (drop u ws)) ∙ take-append-drop u ws

module _ {o : Out} {m : Step} {ws₀ ws : List ℕ} {used : ℕ} {st : Progress} {l : Slots} (part : Part o m ws₀ ws used st l)
    (es : List Entry) (n : ℕ) {ys : List ℕ} (counted : n ≡ words_per_entry * length es) (room : n ≤ length (lent used ws))
    (list : ys ≡ words es ++ drop n (lent used ws)) where
  -- by a step that goes on at a place and an order
  module _ (p : BitPlace) (order : Option Order) (g : Step)
      (reads : m (full st l (length ws₀ - used)) ≡ onto es (g (full (state_at p order st) l (length ws₀ - used - n)))) where
    put : Step
    put s = go es (record {
      place = p;
      room = s.room - n;
      slots = s.slots;
      order = order;
      clock = s.clock;
      last = s.last;
      said = s.said;
    })

    put-part : Part o (put ⨾ g) ws₀ ws used st l
    unfolding ◌⨾◌ after put onto
    put-part = record {
      listed = part.listed;
      list = part.list;
      counted = part.counted;
      room = part.room;
      rest = part.rest ∙ ap (onto part.listed) reads;
    }

    put-did : Did (put (full st l (length (lent used ws)))) st (Ok tt) n (state_at p order st) l (lent used ws) ys
    unfolding out_of put
    put-did = record {
      listed = es;
      out = refl;
      counted = counted;
      list = list;
      room = room;
      kept = λ v h. let z : ◌≡◌ {A = ℕ} 0 1 = cc in absurd (omega arith);
    }

    pub part-put : Part o g ws₀ (merged used ws ys) (used + n) (state_at p order st) l
    part-put = part_step put g put-part put-did refl

  -- by one that stops
  module _ (v : Stop) (reads : m (full st l (length ws₀ - used)) ≡ stop es v) where
    halt : Step
    halt s = stop es v

    halt-part : Part o (halt ⨾ pass) ws₀ ws used st l
    unfolding ◌⨾◌ after halt
    halt-part = record {
      listed = part.listed;
      list = part.list;
      counted = part.counted;
      room = part.room;
      rest = part.rest ∙ ap (onto part.listed) reads;
    }

    halt-did : Did (halt (full st l (length (lent used ws)))) st (Err v) n st l (lent used ws) ys
    unfolding out_of halt
    halt-did = record { listed = es; out = refl; counted = counted; list = list; room = room; kept = λ w h. refl }

    pub part-halt : (came : Progress) (l' : Slots) → Did o came (Err v) (used + n) came l' ws₀ (merged used ws ys)
    part-halt came l' = part-stop halt pass halt-part halt-did v came l' refl

  pub put-length : length (merged used ws ys) ≡ length ws₀
  put-length =
      same_len_mid used (length ws - used) ws ys (listed-length record { list = list; counted = counted; room = room })
      ∙ part_length part

-- The run's end, and no room

pub same-round : {w : Loop} {r r' : Run} {ws : List ℕ} {used : ℕ} {st : Progress} {l : Slots} → Same w.depths w.table r r'
    → Round w r ws used st l → Round w r' ws used st l
same-round {w} same h = record {
  stands = same.stands;
  noted = h.noted;
  framed = h.framed;
  many = h.many;
  part = rw (same.reads (env w)) at h.part;
}

pub round-over : {w : Loop} {r : Run} {ws : List ℕ} {used : ℕ} {st : Progress} {l : Slots} → Round w r ws used st l → over r ≡ true
    → Part w.all w.behind w.list ws used st l
round-over {w} {r} h e = rw (over_reads w.depths w.table (env w) r e, pass-seq w.behind) at h.part

-- 40 comes before all else of a field
read-full : (e : Env) (m : ℕ) (c : Class) (s : State) → s.room < words_per_entry → read e m c s ≡ refuse ListFull s
unfolding read read_fixed
read-full e m (fixed k n o a i r) s h = no-room-first _ s h
read-full e m (leb128 i r) s h = no-room-first _ s h
read-full e m (signed_leb128 i) s h = no-room-first _ s h
read-full e m string s h = no-room-first _ s h
read-full e m (static_string n) s h = no-room-first _ s h
read-full e m (static_blob n r) s h = no-room-first _ s h
read-full e m (dynamic_string i) s h = no-room-first _ s h
read-full e m (dynamic_blob i) s h = no-room-first _ s h
read-full e m (structure a cs) s h = no-room-first _ s h
read-full e m (static_array n a c) s h = no-room-first _ s h
read-full e m (dynamic_array i a c) s h = no-room-first _ s h
read-full e m (flagged i c) s h = no-room-first _ s h
read-full e m (optional i g rs c) s h = no-room-first _ s h
read-full e m (variant i g os) s h = no-room-first _ s h

-- a first step that stops with nothing listed
first_stops : (m g : Step) {o : Out} {ws₀ ws : List ℕ} {used : ℕ} {st : Progress} {l : Slots} (p : Part o (m ⨾ g) ws₀ ws used st l)
    (v : Stop) → m (full st l (length ws₀ - used)) ≡ stop [] v → (came : Progress) (l' : Slots) → Did o came (Err v) used came l' ws₀ ws
unfolding ◌⨾◌ after onto out_of
first_stops m g p v e came l' = record {
  listed = p.listed;
  out = p.rest ∙ ap (λ x. onto p.listed (after x g)) e ∙ ap (λ x. stop x v) (append-nil p.listed);
  counted = p.counted;
  list = p.list;
  room = p.room;
  kept = λ w h. refl;
}

-- a field that went on ends within the bound
still-framed : (b u : List ℕ) (f : Frame) (m : ℕ) (c : Class) (l : Slots) {st st' : Progress} {l' : Slots} {n : ℕ} {ws ys : List ℕ}
    {went : Result ⊤ Stop} → Framed b f st.place → went ≡ Ok tt → Did (read (env_of b u f) m c (full st l (length ws))) st went n st' l' ws ys
    → Framed b f st'.place
unfolding out_of
still-framed b u f m c l {st} {st'} {l'} {n} {ws} h on did =
    let before = full st l (length ws) in
    let behind = full st' l' (length ws - n) in
    let between = read_between (env_of b u f) m c before did.listed behind h.begun h.within (did.out ∙ rw (on) refl) in
    record { whole = h.whole; begun = omega (arith, between.0, h.begun); within = between.1; ends = h.ends; small = h.small }

-- The first field's class, and what is left behind it

module _ {w : Loop} {r : Run} {ws : List ℕ} {used : ℕ} {st : Progress} {l : Slots} (h : Round w r ws used st l) (some : Begun r) where
  abbrev first_read : Step
  first_read = read (env w) (number_at w.table (first_at r)) (class_at w.depths w.table (first_at r))

  abbrev behind_first : Run
  behind_first = behind_run r w.notes.sizes (first_at r) (count_of r - 1)

  sized : SizedClasses w.table w.notes.sizes
  sized d p v = (h.noted.classes d p v).size

  pub first-there : IsWhole w.depths w.table (first_at r)
  first-there = (foremost (element r) w.depths w.table (first_at r) (count_of r) some.some
      (sort-stands w.depths w.table r h.stands some.some)).stands

  first-left : left w r ≡ (first_read ⨾ left w behind_first)
  first-left =
      let d = w.depths in
      let t = w.table in
      let one = foremost (element r) d t (first_at r) (count_of r) some.some (sort-stands d t r h.stands some.some) in
      let tail = tail_read d t (env w) r in
      ap (λ (m : Step). m ⨾ w.behind)
      (sort-reads d t (env w) r some.plain ∙ ap (λ (m : Step). m ⨾ tail) (one.reads (env w)) ∙ seq-assoc _ _ _)
      ∙ seq-assoc _ _ _
      ∙ ap (λ (m : Step). first_read ⨾ (m ⨾ w.behind))
      (sym (behind-reads d t w.notes.sizes sized r (first_at r) (count_of r - 1) first-there (first-element r)
      some.plain (env w)))

  first_part : Part w.all (first_read ⨾ left w behind_first) w.list ws used st l
  first_part = subst (λ (m : Step). Part w.all m w.list ws used st l) first-left h.part

  first-stands : WholeRun w.depths w.table behind_first
  first-stands =
      let d = w.depths in
      let t = w.table in
      behind-stands d t w.notes.sizes sized r (first_at r) (count_of r - 1) first-there (first-element r) some.plain
      h.stands
      (foremost (element r) d t (first_at r) (count_of r) some.some (sort-stands d t r h.stands some.some)).rest

  pub round-full : length ws - used < words_per_entry → Stops w (stop_at ListFull st.place) used ws
  unfolding refuse
  round-full k =
      let no_room : length w.list - used < words_per_entry = omega (arith, part_length h.part) in
      first_stops first_read (left w behind_first) first_part _ (read-full (env w) _ _ _ no_room)

-- Leaves, and what is due of the last

-- of one class again and again, the last leaf's is that class
then_at : (y : Seen) (at n : ℕ) (o : Option Order) (ends : Due → Bool) (rest : Due → LeavesListed)
    → ((q : Due) → (rest q).leaves.at ≡ at) → (leaf_then y at n o ends rest).leaves.at ≡ at
unfolding leaf_then stops_at stopped_leaves last_leaf behind_entries
then_at (SeesStop v) at n o ends rest h = refl
then_at (OtherUuid e) at n o ends rest h = refl
then_at (Sees q) at n o ends rest h = by (ends q)
  where
    by : (c : Bool) →
        let y : LeavesListed = elim c [ true ↦ last_leaf q at (n - 1) | false ↦ behind_entries (q.entry ∷ []) (rest q) ] in
        y.leaves.at ≡ at
    by true = refl
    by false = h q

again-at : (t b u : List ℕ) (f : Frame) (x : Content) (at n : ℕ) (p : BitPlace) (o : Option Order) (room : ℕ)
    → (leaves_read true t b u f x at n p o room).leaves.at ≡ at
unfolding leaves_read stops_at stopped_leaves onward
again-at t b u f x at zero p o room = refl
again-at t b u f x at (suc n) p o room = then_at _ at (suc n) o _ _ (λ q. again-at t b u f x at n _ _ _)

module _ {w : Loop} {r : Run} {ws : List ℕ} {used : ℕ} {st : Progress} {l : Slots} (h : Round w r ws used st l) (some : Begun r)
    (bytes : Bytes w.stream) (x : Content) (kind : u8 w.table (first_at r) < 28) (room : words_per_entry ≤ length ws - used)
    (told : slot_at l (leaf_slot w.table (first_at r)) ≡ x) where
  abbrev pub leaves_of : LeavesListed
  leaves_of = leaves_read (element r) w.table w.stream w.uuid w.frame x (first_at r) (count_of r) st.place st.order
      (length (lent used ws))

  abbrev begun : State
  begun = full st l (length (lent used ws))

  same-room : length (lent used ws) ≡ length w.list - used
  same-room = lent-room used ws ∙ ap (λ (n : ℕ). n - used) (part_length h.part)

  say : LeavesSay (element r) w.depths w.table w.stream w.uuid w.frame (first_at r) (count_of r) begun leaves_of
  say = leaves-read (element r) w.depths w.table w.stream w.uuid w.frame x bytes (first_at r) (count_of r) begun
      (sort-stands w.depths w.table r h.stands some.some) some.some kind h.framed (omega (arith, lent-room used ws))
      h.many told

  abbrev tail : Step
  tail = tail_read w.depths w.table (env w) r

  abbrev fields : Step
  fields = read_fields (element r) w.depths w.table (first_at r) (count_of r) (env w)

  left-reads : left w r ≡ (fields ⨾ (tail ⨾ w.behind))
  left-reads = ap (λ (m : Step). m ⨾ w.behind) (sort-reads w.depths w.table (env w) r some.plain) ∙ seq-assoc _ _ _

  stop-reads : leaves_of.leaves.on ≡ false
      → left w r begun ≡ stop leaves_of.entries (stop_at leaves_of.leaves.why leaves_of.leaves.place)
  unfolding ◌⨾◌ after
  stop-reads off = ap (λ (m : Step). m begun) left-reads ∙ ap (λ o. after o (tail ⨾ w.behind)) (say.stops off)

  pub leaves-room : used + leaves_of.leaves.used ≤ length w.list
  leaves-room = omega (arith, say.room, lent-room used ws, part_length h.part)

  pub leaves-same : length (merged used ws (list_behind leaves_of (lent used ws))) ≡ length w.list
  leaves-same = put-length h.part leaves_of.entries leaves_of.leaves.used say.counted say.room refl

  pub leaves-stop : leaves_of.leaves.on ≡ false → Stops w (stop_at leaves_of.leaves.why leaves_of.leaves.place)
      (used + leaves_of.leaves.used) (merged used ws (list_behind leaves_of (lent used ws)))
  leaves-stop off = part-halt h.part leaves_of.entries leaves_of.leaves.used say.counted say.room refl _
      (rw (sym same-room) (stop-reads off))

  pub leaves-some : leaves_of.leaves.on ≡ true → words_per_entry ≤ leaves_of.leaves.used
  leaves-some on = (say.goes on).some

  pub leaves-stand : leaves_of.leaves.on ≡ true → IsWhole w.depths w.table leaves_of.leaves.at
  leaves-stand on = (say.goes on).stands

  abbrev pub behind_leaves : Run
  behind_leaves = behind_run r w.notes.sizes leaves_of.leaves.at leaves_of.leaves.todo

  -- the slot and the role of the last leaf, and then what is left
  abbrev pub due_left : Step
  due_left =
      store leaves_of.leaves.slot (content_of (u8 w.table leaves_of.leaves.at) leaves_of.leaves.value)
      ⨾ (role (role_of leaves_of.leaves.role) leaves_of.leaves.width leaves_of.leaves.value ⨾ left w behind_leaves)

  last-at : r.todo ≤ 0 → leaves_of.leaves.at ≡ r.again
  last-at k = rw (element-yes r k, first-element r k) (again-at _ _ _ _ _ _ _ _ _ _)

  due-reads : (on : leaves_of.leaves.on ≡ true)
      → left w r begun ≡ onto leaves_of.entries (due_left (full (state_at leaves_of.leaves.place leaves_of.leaves.order st) l
      (length (lent used ws) - leaves_of.leaves.used)))
  unfolding ◌⨾◌
  due-reads on =
      let go = say.goes on in
      let q = leaves_of.leaves in
      let act = store q.slot (content_of (u8 w.table q.at) q.value) in
      let say = role (role_of q.role) q.width q.value in
      let next = onward (element r) q.at (next_at w.depths w.table q.at) in
      let rest = read_fields (element r) w.depths w.table next q.todo (env w) in
      let sized : SizedClasses w.table w.notes.sizes = λ d p v. (h.noted.classes d p v).size in
      let back = behind-reads w.depths w.table w.notes.sizes sized r q.at q.todo go.stands last-at some.plain
      (env w) in
      let same : ((act ⨾ (say ⨾ rest)) ⨾ (tail ⨾ w.behind)) ≡ due_left =
      seq-assoc act (say ⨾ rest) (tail ⨾ w.behind)
      ∙ ap (λ (m : Step). act ⨾ m) (seq-assoc say rest (tail ⨾ w.behind)
      ∙ ap (λ (m : Step). say ⨾ m) (sym (seq-assoc rest tail w.behind) ∙ ap (λ (m : Step). m ⨾ w.behind) (sym back)))
      in
      ap (λ (m : Step). m begun) left-reads ∙ ap (λ o. after o (tail ⨾ w.behind)) go.reads ∙ after-onto _ _ _
      ∙ ap (λ (m : Step). onto leaves_of.entries (m (full (state_at q.place q.order st) l (length (lent used ws) - q.used)))) same

  pub leaves-on : leaves_of.leaves.on ≡ true → Kept w due_left behind_leaves (merged used ws (list_behind leaves_of (lent used ws)))
      (used + leaves_of.leaves.used) (state_at leaves_of.leaves.place leaves_of.leaves.order st) l
  leaves-on on =
      let go = say.goes on in
      let sized : SizedClasses w.table w.notes.sizes = λ d p v. (h.noted.classes d p v).size in
      record {
        stands = behind-stands w.depths w.table w.notes.sizes sized r _ _ go.stands last-at some.plain h.stands
            go.rest;
        noted = h.noted;
        framed = go.framed;
        many = h.many;
        part = part-put h.part leaves_of.entries leaves_of.leaves.used say.counted say.room refl _ _ due_left
            (rw (sym same-room) (due-reads on));
      }

-- the same of what the code says
pub record LeavesRound (w : Loop) (r : Run) (ws : List ℕ) (used : ℕ) (st : Progress) (l : Slots) (q : Leaves) (ys : List ℕ) : Type 0 where
  pub room : used + q.used ≤ length w.list
  pub same : length (merged used ws ys) ≡ length w.list
  pub stops : q.on ≡ false → Stops w (stop_at q.why q.place) (used + q.used) (merged used ws ys)
  pub some : q.on ≡ true → words_per_entry ≤ q.used
  pub stand : q.on ≡ true → IsWhole w.depths w.table q.at
  pub stamp : q.on ≡ true → Stamp q.role q.width q.value
  pub goes : q.on ≡ true
      → let r' = behind_run r w.notes.sizes q.at q.todo in
      Kept w (store q.slot (content_of (u8 w.table q.at) q.value) ⨾ (role (role_of q.role) q.width q.value ⨾ left w r'))
      r' (merged used ws ys) (used + q.used) (state_at q.place q.order st) l

pub leaves-round : {w : Loop} {r : Run} {ws : List ℕ} {used : ℕ} {st : Progress} {l : Slots} (h : Round w r ws used st l)
    (some : Begun r) (bytes : Bytes w.stream) (x : Content) (kind : u8 w.table (first_at r) < 28)
    (room : words_per_entry ≤ length ws - used) (told : slot_at l (leaf_slot w.table (first_at r)) ≡ x) {q : Leaves} {ys : List ℕ}
    → q ≡ (leaves_of h some bytes x kind room told).leaves → ys ≡ list_behind (leaves_of h some bytes x kind room told) (lent used ws)
    → LeavesRound w r ws used st l q ys
leaves-round h some bytes x kind room told e f = rw (e, f) record {
  room = leaves-room h some bytes x kind room told;
  same = leaves-same h some bytes x kind room told;
  stops = leaves-stop h some bytes x kind room told;
  some = leaves-some h some bytes x kind room told;
  stand = leaves-stand h some bytes x kind room told;
  stamp = λ on. ((say h some bytes x kind room told).goes on).stamp;
  goes = leaves-on h some bytes x kind room told;
}

-- the slot is set
pub stored : {w : Loop} {m : Step} {r : Run} {ws : List ℕ} {used : ℕ} {st : Progress} {l : Slots} (i : ℕ) (x : Content)
    → Kept w (store i x ⨾ m) r ws used st l → Kept w m r ws used st (set_slot l i x)
unfolding ◌⨾◌ after store change with_slots set_slot
stored i x h = record {
  stands = h.stands;
  noted = h.noted;
  framed = h.framed;
  many = rw (length-set) h.many;
  part = record {
    listed = h.part.listed;
    list = h.part.list;
    counted = h.part.counted;
    room = h.part.room;
    rest = h.part.rest ∙ ap (onto h.part.listed) (onto-nil _);
  };
}

-- the slots of an element are forgotten
pub forgot : {w : Loop} {m : Step} {r : Run} {ws : List ℕ} {used : ℕ} {st : Progress} {l : Slots} (is : List ℕ)
    → Kept w (change (λ s. with_slots (unset s.slots is) s) ⨾ m) r ws used st l → Kept w m r ws used st (unset l is)
unfolding ◌⨾◌ after change with_slots
forgot {l = l} is h = record {
  stands = h.stands;
  noted = h.noted;
  framed = h.framed;
  many = length-unset l is ∙ h.many;
  part = record {
    listed = h.part.listed;
    list = h.part.list;
    counted = h.part.counted;
    room = h.part.room;
    rest = h.part.rest ∙ ap (onto h.part.listed) (onto-nil _);
  };
}

-- no role is due
pub no-role : {w : Loop} {m : Step} {r : Run} {ws : List ℕ} {used : ℕ} {st : Progress} {l : Slots} (k n v : ℕ) → k ≡ 0
    → Kept w (role (role_of k) n v ⨾ m) r ws used st l → Kept w m r ws used st l
unfolding role role_of roles
no-role {w} {m} k n v e h = record {
  stands = h.stands;
  noted = h.noted;
  framed = h.framed;
  many = h.many;
  part = rw (e, pass-seq m) at h.part;
}

-- an event's id is said
abbrev pub said_event : ℕ → Progress → Progress
said_event v st = record { place = st.place; order = st.order; clock = st.clock; last = st.last; said = with_event v st.said }

pub event-role : {w : Loop} {m : Step} {r : Run} {ws : List ℕ} {used : ℕ} {st : Progress} {l : Slots} (k n v : ℕ) → k ≡ 11
    → Kept w (role (role_of k) n v ⨾ m) r ws used st l → Kept w m r ws used (said_event v st) l
unfolding ◌⨾◌ after role role_of roles saying change with_said
event-role {w} {m} {r} {ws} {used} {st} {l} k n v e h =
    let p : Part w.all (role (role_of 11) n v ⨾ m) w.list ws used st l = rw e at h.part in
    record {
      stands = h.stands;
      noted = h.noted;
      framed = h.framed;
      many = h.many;
      part = record {
        listed = p.listed;
        list = p.list;
        counted = p.counted;
        room = p.room;
        rest = p.rest ∙ ap (onto p.listed) (onto-nil _);
      };
    }

same_full : (p : BitPlace) (o : Option Order) (q : Progress) (l : Slots) (n : ℕ) → q.place ≡ p → q.order ≡ o
    → full q l n ≡ full (state_at p o q) l n
same_full p o q l n a b = rw (a, b) refl

-- the role is applied
pub record RoleRound (w : Loop) (m : Step) (r : Run) (ws : List ℕ) (used : ℕ) (st : Progress) (l : Slots) (q : Roled) (ys : List ℕ)
    : Type 0 where
  pub room : used + q.used ≤ length w.list
  pub same : length (merged used ws ys) ≡ length w.list
  pub stops : (v : Stop) → q.went ≡ Err v → Stops w v (used + q.used) (merged used ws ys)
  pub goes : q.went ≡ Ok tt → Kept w m r (merged used ws ys) (used + q.used) (state_at st.place st.order q.state) l

pub role-round : {w : Loop} {m : Step} {r : Run} {ws : List ℕ} {used : ℕ} {st : Progress} {l : Slots} {q : Roled} {ys : List ℕ} (k n v : ℕ)
    → Kept w (role (role_of k) n v ⨾ m) r ws used st l → RoleDid (role (role_of k) n v) st q (lent used ws) ys
    → RoleRound w m r ws used st l q ys
role-round {w} {m} {r} {ws} {used} {st} {l} {q} {ys} k n v h did =
    let d = did.at l in
    let p = h.part in
    record {
      room = back-room (role (role_of k) n v) p d;
      same = same_len_mid used (length ws - used) ws ys (listed-length record { list = d.list; counted = d.counted; room = d.room })
          ∙ part_length p;
      stops = λ v off came l'. part-stop (role (role_of k) n _) m p d v came l' off;
      goes = λ on.
          let stays : (q.state.place ≡ st.place) × (q.state.order ≡ st.order) =
          unfold Stays out_of in (rw (d.out, on) at (role-stays (role_of k) n v (full st l (length (lent used ws))))) in
          let part = part_step (role (role_of k) n v) m p d on in
          record {
            stands = h.stands;
            noted = h.noted;
            framed = h.framed;
            many = h.many;
            part = record {
              listed = part.listed;
              list = part.list;
              counted = part.counted;
              room = part.room;
              rest = part.rest ∙ ap (λ (z : State). onto part.listed (m z)) (same_full _ _ q.state l _ stays.0 stays.1);
            };
          };
    }

-- the clock by numbers
pub record ClockRound (w : Loop) (m : Step) (r : Run) (ws : List ℕ) (used : ℕ) (st : Progress) (l : Slots) (a : Advanced) (ys : List ℕ)
    : Type 0 where
  pub same : length (merged used ws ys) ≡ length w.list
  pub room : a.on ≡ true → used + words_per_entry ≤ length w.list
  pub stops : a.on ≡ false → Stops w (stop_at a.why st.place) used (merged used ws ys)
  pub goes : a.on ≡ true → Kept w m r (merged used ws ys) (used + words_per_entry) (ticked_state st a.clock) l

pub clock-role : {w : Loop} {m : Step} {r : Run} {ws : List ℕ} {used : ℕ} {st : Progress} {l : Slots} {a : Advanced} {ys : List ℕ}
    (k n v : ℕ) → k ≡ 7 → Kept w (role (role_of k) n v ⨾ m) r ws used st l → a ≡ advanced_by n v st.clock (length (lent used ws))
    → ys ≡ list_advanced st.place n a (lent used ws) → ClockRound w m r ws used st l a ys
unfolding role_of roles
clock-role {w} {m} {r} {ws} {used} {st} {l} {a} {ys} k n v is h e f = by a.on refl
  where
    kept : Kept w (role (role_of 7) n v ⨾ m) r ws used st l
    kept = rw is at h

    by : (b : Bool) → a.on ≡ b → ClockRound w m r ws used st l a ys
    by true on =
        let q = role-round 7 n v kept (clock-advanced n v st (lent used ws) a ys e f on) in
        record { same = q.same; room = λ _. q.room; stops = λ off. absurd (clash (sym off ∙ on)); goes = λ _. q.goes refl }
    by false off =
        let q = role-round 7 n v kept (clock-held n v st (lent used ws) a ys e f off) in
        let none : used + 0 ≡ used = omega arith in
        record {
          same = q.same;
          room = λ on. absurd (clash (sym off ∙ on));
          stops = λ _. rw none at (q.stops _ refl);
          goes = λ on. absurd (clash (sym off ∙ on));
        }

-- Fields that are opened

-- what is read of a field that holds others has its entry in front
onto-lists : (e : Entry) (o : Out) {es : List Entry} {z : State} → onto (e ∷ []) o ≡ go es z → 1 ≤ length es
unfolding onto list_of
onto-lists e (stop fs v) h = let z : ◌≡◌ {A = ℕ} 0 1 = cc in absurd (omega arith)
onto-lists e (go fs q) h = omega (arith, ap (λ o. length (list_of o)) h)

opened-lists : (e : Env) (m k d : ℕ) (t : List ℕ) (i : Inside) (a : State) {es : List Entry} {z : State} → opened e m k d t i a ≡ go es z
    → 1 ≤ length es
unfolding opened ◌⨾◌ after listed refuse_at
opened-lists e m k d t (Members p v from n) a h = onto-lists _ _ h
opened-lists e m k d t (Elements p v from n) a h = onto-lists _ _ h
opened-lists e m k d t (Refused v) a h = let z : ◌≡◌ {A = ℕ} 0 1 = cc in absurd (omega arith)

-- a first member that holds fields, with room for its entry; c is what the slot holds that it reads
pub record Holder (w : Loop) (r : Run) (ws : List ℕ) (used : ℕ) (st : Progress) (l : Slots) (c : Content) : Type 0 where
  pub round : Round w r ws used st l
  pub some : 0 < r.todo
  pub kind : 28 ≤ u8 w.table r.next
  pub room : words_per_entry ≤ length ws - used
  pub told : slot_at l (slot_read_at w.table r.next) ≡ c

-- the list behind its entry, with its record's number
abbrev pub opened_list : Loop → Run → Inside → List ℕ → List ℕ
opened_list w r = list_opened (u8 w.table r.next) (number_at w.table r.next)

-- what was opened: it stopped the loop, or its parts stand in the run
pub record OpenRound (w : Loop) (r : Run) (ws : List ℕ) (used : ℕ) (st : Progress) (l : Slots) (i : Inside) : Type 0 where
  pub same : length (merged used ws (opened_list w r i (lent used ws))) ≡ length w.list
  pub stops : (opened_as w.notes.aligns i).on ≡ false
      → let o = opened_as w.notes.aligns i in
      Stops w (stop_at o.why o.place) used (merged used ws (opened_list w r i (lent used ws)))
  pub goes : (opened_as w.notes.aligns i).on ≡ true
      → let o = opened_as w.notes.aligns i in
      Round w (into_run (u8 w.table r.next) r w.notes.sizes o.from o.count o.elements o.forgets)
      (merged used ws (opened_list w r i (lent used ws))) (used + words_per_entry) (state_at o.place st.order st) l

module _ {w : Loop} {r : Run} {ws : List ℕ} {used : ℕ} {st : Progress} {l : Slots} {c : Content} (h : Holder w r ws used st l c) where
  abbrev d : ℕ
  d = w.depths

  abbrev t : List ℕ
  t = w.table

  abbrev at : ℕ
  at = r.next

  abbrev number : ℕ
  number = number_at t at

  abbrev here : State
  here = full st l (length w.list - used)

  abbrev pub inside_here : Inside
  inside_here = inside_of t w.notes at w.frame st.place c

  holder-there : IsWhole d t at
  holder-there = (first (IsWhole d t) (stood_at d t) at r.todo h.some h.round.stands.members).whole

  deep : IsWhole (suc (d - 1)) t at
  deep = subst (λ (e : ℕ). IsWhole e t at) (depth-some t at d holder-there) holder-there

  less : d - 1 ≤ d
  less = omega arith

  held-less : Held (d - 1) t w.frame st.place inside_here
  held-less = inside-whole w.stream w.frame (d - 1) t w.notes at c st.place deep h.kind h.round.framed h.round.noted

  held : Held d t w.frame st.place inside_here
  held = held-deeper (d - 1) d t less w.frame st.place inside_here held-less

  ends : Ends d t at (u8 t at) inside_here
  ends = subst (λ (e : ℕ). Ends e t at (u8 t at) inside_here) (sym (depth-some t at d holder-there))
      (inside-ends w.frame (d - 1) t w.notes at c st.place deep h.round.noted h.kind)

  has_room : words_per_entry ≤ length w.list - used
  has_room = omega (arith, h.room, part_length h.round.part)

  -- its number is noted
  pub number-noted : number_noted w.notes.aligns at ≡ number
  number-noted = h.round.noted.numbers d at holder-there

  class-reads : read (env w) number (class_at d t at) here ≡ opened (env w) number (u8 t at) d t inside_here here
  class-reads =
      ap (λ (e : ℕ). read (env w) number (class_at e t at) here) (depth-some t at d holder-there)
      ∙ inside-read w.stream w.uuid w.frame (d - 1) t w.notes at c here deep h.kind has_room (sym h.told)
      h.round.framed h.round.noted
      ∙ opened-deeper (d - 1) d t less w.frame st.place (env w) number (u8 t at) inside_here here held-less

  placed : (p : BitPlace) → Placed w.frame st.place p → Framed w.stream w.frame p
  placed p q =
      let f = h.round.framed in
      record { whole = f.whole; begun = q.begun; within = q.within; ends = f.ends; small = f.small }

  -- the field, and then the rest of its run
  abbrev pub rest_here : Run
  rest_here = behind_run r w.notes.sizes at (r.todo - 1)

  some-here : Begun r
  some-here = member-begun r h.some

  pub holder-part : Part w.all (read (env w) number (class_at d t at) ⨾ left w rest_here) w.list ws used st l
  holder-part = rw (first_member r h.some, count-members r h.some) at (first_part h.round some-here)

  pub rest-stands : WholeRun d t rest_here
  rest-stands = rw (first_member r h.some, count-members r h.some) at (first-stands h.round some-here)

  -- what it holds, and that it reads its entry and then this
  pub record Told (p : BitPlace) (v from n : ℕ) (elements : Bool) : Type 0 where
    pub framed : Framed w.stream w.frame p
    pub reads : read (env w) number (class_at d t at) here
        ≡ (listed (entry (u8 t at) p 0 v number) p ⨾ held_read d t (env w) from n elements) here
    pub class : elements ≡ true → IsWhole d t from
    pub parts : elements ≡ false → WholeMembers (IsWhole d t) (stood_at d t) from n

  pub members-told : {p : BitPlace} {v from n : ℕ} → inside_here ≡ Members p v from n → Told p v from n false
  unfolding Held opened held_read
  members-told {p} {v} {from} {n} e =
      let q : HeldMembers d t w.frame st.place p from n = rw e at held in
      record {
        framed = placed p q.place;
        reads = class-reads ∙ ap (λ i. opened (env w) number (u8 t at) d t i here) e;
        class = λ b. absurd (clash b);
        parts = λ _. q.classes;
      }

  pub elements-told : {p : BitPlace} {v from n : ℕ} → inside_here ≡ Elements p v from n → Told p v from n true
  unfolding Held opened held_read
  elements-told {p} {v} {from} {n} e =
      let q : HeldElements d t w.frame st.place p from = rw e at held in
      record {
        framed = placed p q.place;
        reads =
            class-reads ∙ ap (λ i. opened (env w) number (u8 t at) d t i here) e
            ∙ ap (λ (m : Step). (listed (entry (u8 t at) p 0 v number) p ⨾ m) here) (sym (elements-times d t (env w) from n));
        class = λ _. q.class;
        parts = λ b. absurd (clash (sym b));
      }

  -- its entry is listed, and then g is left
  pub entry-put : (p : BitPlace) (v : ℕ) (m g : Step) → Part w.all m w.list ws used st l
      → m here ≡ (listed (entry (u8 t at) p 0 v number) p ⨾ g) here
      → Part w.all g w.list (merged used ws (list_holder (u8 t at) p v number (lent used ws))) (used + words_per_entry)
      (state_at p st.order st) l
  unfolding ◌⨾◌ after listed
  entry-put p v m g part reads =
      part-put part (entry (u8 t at) p 0 v number ∷ []) words_per_entry refl (omega (arith, lent-room used ws, h.room)) refl p st.order g
      reads

  -- and its parts stand in the run
  opened-round : {p : BitPlace} {v from n : ℕ} {elements : Bool} (f : ℕ) → Told p v from n elements
      → Holds d t r h.round.stands h.some w.notes.sizes (u8 t at) from n elements
      → (elements ≡ true → Forgets n f (sets (class_at d t from)))
      → Round w (into_run (u8 t at) r w.notes.sizes from n elements f) (merged used ws (list_holder (u8 t at) p v number (lent used ws)))
      (used + words_per_entry) (state_at p st.order st) l
  opened-round {p} {v} {from} {n} {elements} f q holds right =
      let sizes = w.notes.sizes in
      let into = into_run (u8 t at) r sizes from n elements f in
      let m = listed (entry (u8 t at) p 0 v number) p in
      let opens =
      into-opens d t r h.round.stands h.some sizes (u8 t at) from n elements f holds right (env w) here m q.reads in
      record {
        stands = opens.stands;
        noted = h.round.noted;
        framed = q.framed;
        many = h.round.many;
        part = entry-put p v (left w r) (left w into) h.round.part
            (instead (ahead d t (env w) r) m (ahead d t (env w) into) w.behind here opens.reads);
      }

  -- what is refused stops the loop
  refused-round : (v : Stop) → inside_here ≡ Refused v → Stops w v used (merged used ws (lent used ws))
  unfolding opened refuse_at
  refused-round v e came l' =
      let reads : read (env w) number (class_at d t at) here ≡ stop [] v =
      class-reads ∙ ap (λ i. opened (env w) number (u8 t at) d t i here) e in
      let did = first_stops _ _ holder-part _ reads came l' in
      let same : merged used ws (lent used ws) ≡ ws = unlent used ws in
      rw same did

  -- by what is told of it
  pub open-same : (i : Inside) → length (merged used ws (list_opened (u8 t at) number i (lent used ws))) ≡ length w.list
  unfolding list_opened
  open-same (Members p v from n) =
      put-length h.round.part (entry (u8 t at) p 0 v number ∷ []) words_per_entry refl (omega (arith, lent-room used ws, h.room)) refl
  open-same (Elements p v from n) =
      put-length h.round.part (entry (u8 t at) p 0 v number ∷ []) words_per_entry refl (omega (arith, lent-room used ws, h.room)) refl
  open-same (Refused v) = ap length (unlent used ws) ∙ part_length h.round.part

  pub open-stops : (i : Inside) → inside_here ≡ i → (opened_as w.notes.aligns i).on ≡ false →
      let o = opened_as w.notes.aligns i in
      Stops w (stop_at o.why o.place) used (merged used ws (list_opened (u8 t at) number i (lent used ws)))
  unfolding opened_as went_in list_opened
  open-stops (Members p v from n) e b = absurd (clash (sym b))
  open-stops (Elements p v from n) e b = absurd (clash (sym b))
  open-stops (Refused v) e b = refused-round v e

  few-told : (i : Inside) → Held d t w.frame st.place i → (opened_as w.notes.aligns i).elements ≡ false
      → (opened_as w.notes.aligns i).count ≤ length t
  unfolding Held opened_as went_in
  few-told (Members q v from n) k e = members-few d t from n k.classes
  few-told (Elements q v from n) k e = absurd (clash (sym e))
  few-told (Refused v) k e = omega arith

  pub open-few :
      let o = opened_as w.notes.aligns inside_here in
      o.elements ≡ false → o.count ≤ length t
  open-few = few-told inside_here held

  -- an array, or a variant, is opened in its run only where nothing is put off
  pub open-round : ((u8 t at ≡ 28 → ⊥) → (u8 t at ≡ 31 → ⊥) → free r ≡ true) → (i : Inside) → inside_here ≡ i → OpenRound w r ws used st l i
  unfolding Ends opened_as list_opened went_in
  open-round may (Members p v from n) e =
      let q = members-told e in
      let z : (u8 t at ≡ 32 → n ≡ 1) × ((u8 t at ≡ 32 → ⊥) → behind_members (stood_at d t) from n ≡ next_at d t at) = rw e at ends in
      record {
        same = open-same (Members p v from n);
        stops = open-stops (Members p v from n) e;
        goes = λ b. opened-round 0 q record {
          noted = λ d p v. (h.round.noted.classes d p v).size;
          many = λ b. absurd (clash b);
          one = λ b k. (z.0 k, may (λ x. absurd (omega arith)) (λ x. absurd (omega arith)));
          parts = q.parts;
          ends = λ b k. z.1 k;
        } (λ b. absurd (clash b));
      }
  open-round may (Elements p v from n) e =
      let q = elements-told e in
      let z : (u8 t at ≡ 28 → ⊥) × (u8 t at ≡ 31 → ⊥) = rw e at ends in
      record {
        same = open-same (Elements p v from n);
        stops = open-stops (Elements p v from n) e;
        goes = λ b. opened-round (forgets_at w.notes.aligns from n) q record {
          noted = λ d p v. (h.round.noted.classes d p v).size;
          many = λ b. (may z.0 z.1, q.class b);
          one = λ b. absurd (clash (sym b));
          parts = q.parts;
          ends = λ b. absurd (clash (sym b));
        } (λ b. around-noted d t w.notes h.round.noted from n (q.class b));
      }
  open-round may (Refused v) e = record {
    same = open-same (Refused v);
    stops = open-stops (Refused v) e;
    goes = λ b. absurd (clash b);
  }

-- the same of what the code says
pub record CodeRound (w : Loop) (r : Run) (ws : List ℕ) (used : ℕ) (st : Progress) (l : Slots) (o : Opened) (ys : List ℕ) : Type 0 where
  pub same : length (merged used ws ys) ≡ length w.list
  pub few : o.elements ≡ false → o.count ≤ length w.table
  pub stops : o.on ≡ false → Stops w (stop_at o.why o.place) used (merged used ws ys)
  pub goes : o.on ≡ true → Round w (into_run (u8 w.table r.next) r w.notes.sizes o.from o.count o.elements o.forgets)
      (merged used ws ys) (used + words_per_entry) (state_at o.place st.order st) l

pub code-round : {w : Loop} {r : Run} {ws : List ℕ} {used : ℕ} {st : Progress} {l : Slots} {c : Content} (h : Holder w r ws used st l c)
    → ((u8 w.table r.next ≡ 28 → ⊥) → (u8 w.table r.next ≡ 31 → ⊥) → free r ≡ true) → {o : Opened} {ys : List ℕ}
    → o ≡ opened_as w.notes.aligns (inside_here h)
    → ys ≡ list_opened (u8 w.table r.next) (number_noted w.notes.aligns r.next) (inside_here h) (lent used ws)
    → CodeRound w r ws used st l o ys
code-round h may e f =
    let q = open-round h may (inside_here h) refl in
    rw (e, f, number-noted h) record { same = q.same; few = open-few h; stops = q.stops; goes = q.goes }

-- a structure that was entered
pub record EnterRound (w : Loop) (r : Run) (ws : List ℕ) (used : ℕ) (st : Progress) (l : Slots) (o : Entered) (ys : List ℕ) : Type 0 where
  pub same : length (merged used ws ys) ≡ length w.list
  pub stops : o.on ≡ false → Stops w (stop_at PastBound o.place) used (merged used ws ys)
  pub goes : o.on ≡ true → Round w (opened_run r (r.next + 3) (u8 w.table (r.next + 1))) (merged used ws ys) (used + words_per_entry)
      (state_at o.place st.order st) l

pub enter-round : {w : Loop} {r : Run} {ws : List ℕ} {used : ℕ} {st : Progress} {l : Slots} {c : Content} → Holder w r ws used st l c
    → u8 w.table r.next ≡ 28 → {o : Entered} {ys : List ℕ} → o ≡ entered_at w.frame (bits_noted w.notes r.next) st.place
    → ys ≡ list_entered w.frame (bits_noted w.notes r.next) st.place (u8 w.table (r.next + 1))
    (number_noted w.notes.aligns r.next) (lent used ws)
    → EnterRound w r ws used st l o ys
unfolding opened_as list_opened went_in
enter-round {w} {r} {ws} {used} {st} {l} {c} h k {o} {ys} e f = by o.on refl
  where
    n : ℕ
    n = u8 w.table (r.next + 1)

    a : ℕ
    a = bits_noted w.notes r.next

    m : ℕ
    m = number_at w.table r.next

    listed_here : ys ≡ list_entered w.frame a st.place n m (lent used ws)
    listed_here = f ∙ ap (λ i. list_entered w.frame a st.place n i (lent used ws)) (number-noted h)

    told : standing w.frame a st.place (members_from n (r.next + 3)) ≡ inside_here h
    told = inside-structure w.table w.notes r.next w.frame st.place c k

    may : (u8 w.table r.next ≡ 28 → ⊥) → (u8 w.table r.next ≡ 31 → ⊥) → free r ≡ true
    may x y = absurd (x k)

    by : (b : Bool) → o.on ≡ b → EnterRound w r ws used st l o ys
    by true b =
        let on = entered_on w.frame a st.place n m (lent used ws) (members_from n (r.next + 3)) (ap (λ z. z.on) (sym e) ∙ b) in
        let q = open-round h may (Members (aligned_at w.frame a st.place) n (r.next + 3) n) (sym told ∙ on.told) in
        rw (listed_here ∙ on.listed, e ∙ on.on) record {
          same = rw k at q.same;
          stops = λ off. absurd (clash (sym off));
          goes = λ _. rw (sym (into-parts 28 r w.notes.sizes (r.next + 3) n false 0 refl (λ z. omega arith))) (rw k at (q.goes refl));
        }
    by false b =
        let off = entered-off w.frame a st.place n m (lent used ws) (members_from n (r.next + 3)) (ap (λ z. z.on) (sym e) ∙ b) in
        let q = open-round h may (Refused (stop_at PastBound w.frame.bound)) (sym told ∙ off.told) in
        rw (listed_here ∙ off.listed, e ∙ off.off) record {
          same = q.same;
          stops = λ _. q.stops refl;
          goes = λ on. absurd (clash on);
        }

-- A field that is read by itself

pub record FieldRound (w : Loop) (r : Run) (ws : List ℕ) (used : ℕ) (q : Field) (ys : List ℕ) : Type 0 where
  pub room : used + q.used ≤ length w.list
  pub same : length (merged used ws ys) ≡ length w.list
  pub some : q.went ≡ Ok tt → words_per_entry ≤ q.used
  pub stops : (v : Stop) → q.went ≡ Err v → Stops w v (used + q.used) (merged used ws ys)
  pub goes : q.went ≡ Ok tt
      → Round w (behind_run r w.notes.sizes r.next (r.todo - 1)) (merged used ws ys) (used + q.used) q.state q.slots

module _ {w : Loop} {r : Run} {ws : List ℕ} {used : ℕ} {st : Progress} {l : Slots} {c : Content} (h : Holder w r ws used st l c) where
  pub field-round : {q : Field} {ys : List ℕ}
      → FieldReads (read (env w) (number_at w.table r.next) (class_at w.depths w.table r.next)) st l q (lent used ws) ys
      → FieldRound w r ws used q ys
  unfolding out_of
  field-round {q} {ys} did =
      let d = did.did in
      let p = holder-part h in
      let m = number_at w.table r.next in
      let class = class_at w.depths w.table r.next in
      let n = length (lent used ws) - q.used in
      let room : length (lent used ws) ≡ length w.list - used = lent-room used ws ∙ ap (λ (n : ℕ). n - used) (part_length p) in
      let lists : q.went ≡ Ok tt → 1 ≤ length d.listed = λ on.
      opened-lists (env w) m (u8 w.table r.next) w.depths w.table (inside_here h) _ (sym (class-reads h)
      ∙ ap (λ (z : ℕ). read (env w) m class (full st l z)) (sym room) ∙ d.out
      ∙ ap (λ g. out_of d.listed g q.state q.slots n) on) in
      record {
        room = back-room (read (env w) _ _) p d;
        same = same_len_mid used (length ws - used) ws ys (listed-length record { list = d.list; counted = d.counted; room = d.room })
            ∙ part_length p;
        some = λ on. omega (arith, d.counted, lists on);
        stops = λ v off came l'. part-stop (read (env w) _ _) _ p d v came l' off;
        goes = λ on. record {
          stands = rest-stands h;
          noted = h.round.noted;
          framed = still-framed w.stream w.uuid w.frame _ _ l h.round.framed on d;
          many = did.many;
          part = part_step (read (env w) _ _) _ p d on;
        };
      }
