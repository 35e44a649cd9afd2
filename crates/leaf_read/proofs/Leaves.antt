-- Leaves one after another are the rules' fields: what was listed of them, and then what is still due of the last one and the fields behind
-- it; or the stop.
use Rattle.std.specs.Prelude.{Option}
use Rattle.rules.specs.declared.Order.{Order}
use mathlib.Core.Path.{◌≡◌, refl, sym, ap, ◌∙◌}
use Prim.Native.Nat.{ℕ, zero, suc, ◌+◌, ◌-◌, ◌*◌, ◌<◌, ◌≤◌}
use native.Mathlib.Omega.{arith}
use mathlib.Core.List.{List, [], ◌∷◌}
use mathlib.Core.Bool.{Bool, true, false, not, ◌||◌}
use mathlib.Core.Logic.{⊎_elim}
use lib.Dec.{eqb, ltb, leb}
use lib.ListN.{length}
use borrow.Author.Tests.{ltb-false, leb-false, eqb-true, eqb-false, not-false}
use Rattle.rules.specs.declared.BitPlace.{BitPlace}
use Rattle.rules.specs.declared.Entry.{Entry}
use Rattle.rules.specs.declared.Content.{Content}
use Rattle.rules.specs.declared.Refusal.{Refusal}
use Rattle.rules.specs.declared.Refusal.TheVariants.{WrongUuid}
use Rattle.rules.specs.Limits.{slot_count, words_per_entry}
use Rattle.rules.specs.Verdict.{stop_at}
use Rattle.rules.specs.Record.{u8}
use Rattle.rules.specs.Faults.{role_of}
use Rattle.rules.specs.Slots.{Slots, slot_at, set_slot}
use Rattle.rules.specs.Step.{State, Step, stop, onto, after, ◌⨾◌, refuse, refuse_at, listed, change, with_slots}
use Rattle.rules.specs.Field.{Env, read, store, role}
use Rattle.facts.specs.Bytes.{Bytes}
use Rattle.facts.proofs.Truth.{clash, or-false}
use Rattle.facts.proofs.Steps.{onto-nil, onto-onto, after-onto}
use Rattle.facts.proofs.Slots.{no-slot}
use Rattle.facts.proofs.Numbers.{lt-or-ge}
use Rattle.frame.specs.declared.Frame.{Frame}
use Rattle.frame.specs.Framed.{Framed, env_of}
use Rattle.listing.specs.Roled.{Stamp}
use Rattle.leaf_after.specs.declared.Due.{Due}
use Rattle.leaf_after.specs.declared.Leaves.{Leaves}
use Rattle.leaf_after.specs.declared.Seen.{Seen}
use Rattle.leaf_after.specs.declared.Seen.TheVariants.{Field, OtherUuid, Stops}
use Rattle.leaf_after.specs.Seeing.{Fits, DueFits, done}
use Rattle.class_layout.specs.Numbers.{number_at}
use Rattle.class_layout.specs.Trees.{class_at, next_at, IsWhole}
use Rattle.class_layout.specs.Fields.{read_fields, WholeFields, onward}
use Rattle.class_layout.proofs.Standing.{leaf-whole, leaf-class}
use Rattle.class_layout.proofs.One.{one}
use Rattle.class_layout.proofs.Fields.{foremost}
use Rattle.leaf_read.specs.Reads.{leaf_slot}
use Rattle.leaf_read.specs.Seen.{seen_at}
use Rattle.leaf_read.specs.Leaves.{content_of, behind_entry, LeavesListed, stopped_leaves, stops_at, last_leaf, behind_entries, leaves_end}
use Rattle.leaf_read.specs.Leaves.{leaf_then, leaves_read}
use Rattle.leaf_read.proofs.ByKind.{SeesAt, leaf-sees}
use Rattle.leaf_read.proofs.Due.{content-due, seen_alike, behind_due, slot_and_role, due-goes, due-passes, due-between}

-- a leaf in front of fields: its class is that of one depth, and so is its end
pub record LeafFirst (again : Bool) (d : ℕ) (t : List ℕ) (at n : ℕ) : Type 0 where
  pub stands : IsWhole d t at
  pub leaf : IsWhole 1 t at
  pub ends : next_at d t at ≡ next_at 1 t at
  pub rest : WholeFields again d t (onward again at (next_at 1 t at)) (n - 1)
  pub reads : (e : Env)
      → read_fields again d t at n e
      ≡ (read e (number_at t at) (class_at 1 t at) ⨾ read_fields again d t (onward again at (next_at 1 t at)) (n - 1) e)

pub leaf_first : (again : Bool) (d : ℕ) (t : List ℕ) (at n : ℕ) → 0 < n → WholeFields again d t at n → u8 t at < 28
    → LeafFirst again d t at n
leaf_first again d t at n some w kind =
    let first = foremost again d t at n some w in
    let leaf = leaf-whole t at d first.stands kind in
    let ends : next_at d t at ≡ next_at 1 t at = ap (λ s. s.next) (one d 1 t at first.stands leaf).0 in
    record {
      stands = first.stands;
      leaf = leaf;
      ends = ends;
      rest = rw (← ends) first.rest;
      reads = λ e. rw (← ends, ← leaf-class t at d first.stands kind) (first.reads e);
    }

-- the one class again stands where it stood
onward-again : (again : Bool) (at next : ℕ) → again ≡ true → onward again at next ≡ at
unfolding onward
onward-again true at next e = refl
onward-again false at next e = absurd (clash e)

-- where leaves go on behind one
pub record Onward (t : List ℕ) (next n room slot role : ℕ) : Type 0 where
  pub some : 0 < n
  pub fits : words_per_entry ≤ room
  pub kind : u8 t next < 26
  pub idle : slot_count ≤ slot
  pub plain : role ≡ 0

pub goes_on : (t : List ℕ) (next n room slot role : ℕ) → leaves_end t next n room slot role ≡ false → Onward t next n room slot role
unfolding leaves_end
goes_on t next n room slot role h =
    let two = eqb n 0 || ltb room words_per_entry in
    let three = two || leb 26 (u8 t next) in
    let four = three || ltb slot slot_count in
    let e = or-false four (not (eqb role 0)) h in
    let c = or-false three (ltb slot slot_count) e.0 in
    let b = or-false two (leb 26 (u8 t next)) c.0 in
    let a = or-false (eqb n 0) (ltb room words_per_entry) b.0 in
    record {
      some = ⊎_elim (λ (l : 0 < n). l) (λ (l : n ≤ 0). absurd (eqb-false n 0 a.0 (omega arith))) (lt-or-ge 0 n);
      fits = ltb-false room words_per_entry a.1;
      kind = leb-false 26 (u8 t next) b.1;
      idle = ltb-false slot slot_count c.1;
      plain = eqb-true role 0 (not-false (eqb role 0) e.1);
    }

-- the rules' state behind leaves
abbrev pub behind_leaves : Leaves → State → State
behind_leaves r s = record {
  place = r.place;
  room = s.room - r.used;
  slots = s.slots;
  order = r.order;
  clock = s.clock;
  last = s.last;
  said = s.said;
}

-- what is still due of the last leaf, its slot and its role, and then the fields behind it
abbrev pub due_then : Bool → ℕ → List ℕ → Env → Leaves → Step
due_then again d t e r =
    store r.slot (content_of (u8 t r.at) r.value)
    ⨾ role (role_of r.role) r.width r.value
    ⨾ read_fields again d t (onward again r.at (next_at d t r.at)) r.todo e

-- leaves that went on, of n from a byte on, from the rules' state s on
pub record LeavesWent (again : Bool) (d : ℕ) (t b u : List ℕ) (f : Frame) (at n : ℕ) (s : State) (y : LeavesListed) : Type 0 where
  pub some : words_per_entry ≤ y.leaves.used
  pub less : y.leaves.todo < n
  pub framed : Framed b f y.leaves.place
  pub same : again ≡ true → y.leaves.at ≡ at
  pub stands : IsWhole d t y.leaves.at
  pub kind : u8 t y.leaves.at < 28
  pub rest : WholeFields again d t (onward again y.leaves.at (next_at d t y.leaves.at)) y.leaves.todo
  pub stamp : Stamp y.leaves.role y.leaves.width y.leaves.value
  pub reads : read_fields again d t at n (env_of b u f) s
      ≡ onto y.entries (due_then again d t (env_of b u f) y.leaves (behind_leaves y.leaves s))

-- what leaves did is the rules' reading, whether it stopped or went on
pub record LeavesSay (again : Bool) (d : ℕ) (t b u : List ℕ) (f : Frame) (at n : ℕ) (s : State) (y : LeavesListed) : Type 0 where
  pub counted : y.leaves.used ≡ words_per_entry * length y.entries
  pub room : y.leaves.used ≤ s.room
  pub stops : y.leaves.on ≡ false
      → read_fields again d t at n (env_of b u f) s ≡ stop y.entries (stop_at y.leaves.why y.leaves.place)
  pub goes : y.leaves.on ≡ true → LeavesWent again d t b u f at n s y

-- what is due of a leaf in a frame ends within it; s is a state in which its slot holds x
pub due-framed : (b u : List ℕ) (f : Frame) (t : List ℕ) (at : ℕ) (x : Content) (s : State) (q : Due) {y : Seen}
    → SeesAt (number_at t at) b u f t at x s.place s.order y → y ≡ Field q → Framed b f s.place → words_per_entry ≤ s.room
    → length s.slots ≡ slot_count
    → slot_at s.slots (leaf_slot t at) ≡ x → Framed b f (behind_entry q.entry)
unfolding done
due-framed b u f t at x s q sees is framed room many told =
    let e = env_of b u f in
    let reads = sees.same s room many told refl refl ∙ ap (λ z. done z s) is in
    let between = due-between e (number_at t at) (class_at 1 t at) q s (framed.begun, framed.within) reads in
    record { whole = framed.whole; begun = between.0; within = between.1; ends = framed.ends; small = framed.small }

-- one leaf in front: it is read as what is seen of it is done
record OneLeaf (again : Bool) (d : ℕ) (t b u : List ℕ) (f : Frame) (x : Content) (at n : ℕ) (s : State) : Type 0 where
  pub first : LeafFirst again d t at n
  pub some : 0 < n
  pub kind : u8 t at < 28
  pub framed : Framed b f s.place
  pub room : words_per_entry ≤ s.room
  pub many : length s.slots ≡ slot_count
  pub told : 26 ≤ u8 t at → slot_at s.slots (leaf_slot t at) ≡ x

module _ (again : Bool) (d : ℕ) (t b u : List ℕ) (f : Frame) (x : Content) (bytes : Bytes b) (at n : ℕ) (s : State)
    (h : OneLeaf again d t b u f x at n s) where
  abbrev env : Env
  env = env_of b u f

  abbrev number : ℕ
  number = number_at t at

  abbrev this : Seen
  this = seen_at number t b u f at s.place s.order x

  abbrev next : ℕ
  next = onward again at (next_at 1 t at)

  abbrev rest : Step
  rest = read_fields again d t next (n - 1) env

  abbrev held : Content
  held = slot_at s.slots (leaf_slot t at)

  -- what is seen, by what the slot holds
  same_seen : seen_at number t b u f at s.place s.order held ≡ this
  same_seen = ⊎_elim
      (λ (k : u8 t at < 26). seen_alike number t b u f at s.place s.order held x h.first.leaf k)
      (λ (k : 26 ≤ u8 t at). ap (seen_at number t b u f at s.place s.order) (h.told k))
      (lt-or-ge (u8 t at) 26)

  sees : SeesAt number b u f t at held s.place s.order this
  sees = rw (same_seen) at (leaf-sees number b u f t at s.place s.order held h.framed bytes h.first.leaf h.kind)

  reads_first : {y : Seen} → this ≡ y → read env number (class_at 1 t at) s ≡ done y s
  reads_first is = sees.same s h.room h.many refl refl refl ∙ ap (λ z. done z s) is

  reads_all : {y : Seen} → this ≡ y → read_fields again d t at n env s ≡ after (done y s) rest
  unfolding ◌⨾◌
  reads_all is = ap (λ (m : Step). m s) (h.first.reads env) ∙ ap (λ o. after o rest) (reads_first is)

  -- it stops
  stops-say : (why : Refusal) (p : BitPlace) (o : Option Order) (es : List Entry) → words_per_entry * length es ≤ s.room
      → read_fields again d t at n env s ≡ stop es (stop_at why p) → LeavesSay again d t b u f at n s (stops_at why at n p o es)
  unfolding stops_at stopped_leaves
  stops-say why p o es room reads = record { counted = refl; room = room; stops = λ off. reads; goes = λ on. absurd (clash on) }

  module _ (q : Due) (is : this ≡ Field q) where
    abbrev behind : State
    behind = behind_due q s

    fits : DueFits q
    unfolding Fits
    fits = rw (is) at sees.fits

    framed-behind : Framed b f behind.place
    framed-behind = due-framed b u f t at held s q sees is h.framed h.room h.many refl

    due-reads : read_fields again d t at n env s ≡ onto (q.entry ∷ []) (after (slot_and_role q behind) rest)
    unfolding done
    due-reads = reads_all is ∙ ap (λ o. after o rest) (due-goes q s) ∙ after-onto (q.entry ∷ []) (slot_and_role q behind) rest

    -- it is the last
    content : (l : Slots) → length l ≡ slot_count
        → set_slot l q.slot q.content ≡ set_slot l q.slot (content_of (u8 t at) q.entry.value)
    content l long = ⊎_elim
        (λ (k : q.slot < slot_count).
        ap (set_slot l q.slot) (content-due number t b u f at s.place s.order x h.first.leaf h.kind q is k))
        (λ (k : slot_count ≤ q.slot). no-slot l q.slot _ long k ∙ sym (no-slot l q.slot _ long k))
        (lt-or-ge q.slot slot_count)

    last-reads :
        let r = (last_leaf q at (n - 1)).leaves in
        after (slot_and_role q behind) rest ≡ due_then again d t env r (behind_leaves r s)
    unfolding last_leaf ◌⨾◌ store change after
    last-reads =
        let act = role (role_of q.role) q.width q.entry.value in
        after-onto [] _ rest
        ∙ ap (λ l. onto [] (after (act (with_slots l behind)) rest)) (content s.slots h.many)
        ∙ ap (λ z. onto [] (after (act (with_slots (set_slot s.slots q.slot (content_of (u8 t at) q.entry.value)) behind))
        (read_fields again d t (onward again at z) (n - 1) env))) (sym h.first.ends)

    last_says : LeavesSay again d t b u f at n s (last_leaf q at (n - 1))
    unfolding last_leaf
    last_says = record {
      counted = refl;
      room = h.room;
      stops = λ off. absurd (clash (sym off));
      goes = λ on. record {
        some = omega arith;
        less = omega (arith, h.some);
        framed = framed-behind;
        same = λ a. refl;
        stands = h.first.stands;
        kind = h.kind;
        rest = rw h.first.ends h.first.rest;
        stamp = fits.1;
        reads = due-reads ∙ ap (onto (q.entry ∷ [])) last-reads;
      };
    }

    -- it is not the last
    module _ (on : Onward t next (n - 1) (s.room - words_per_entry) q.slot q.role) where
      onward-reads : read_fields again d t at n env s ≡ onto (q.entry ∷ []) (rest behind)
      unfolding after
      onward-reads = due-reads
          ∙ ap (λ o. onto (q.entry ∷ []) (after o rest)) (due-passes q behind h.many on.idle on.plain)
          ∙ ap (onto (q.entry ∷ [])) (onto-nil _)

      next-leaf : OneLeaf again d t b u f x next (n - 1) behind
      next-leaf = record {
        first = leaf_first again d t next (n - 1) on.some h.first.rest (omega (arith, on.kind));
        some = on.some;
        kind = omega (arith, on.kind);
        framed = framed-behind;
        room = on.fits;
        many = h.many;
        told = λ k. absurd (omega (arith, on.kind));
      }

      -- the state behind leaves, with so much room
      abbrev roomed : Leaves → ℕ → State
      roomed r z = record {
        place = r.place;
        room = z;
        slots = s.slots;
        order = r.order;
        clock = s.clock;
        last = s.last;
        said = s.said;
      }

      more-say : (y : LeavesListed) → LeavesSay again d t b u f next (n - 1) behind y
          → LeavesSay again d t b u f at n s (behind_entries (q.entry ∷ []) y)
      unfolding behind_entries onto
      more-say y say = record {
        counted = omega (arith, say.counted);
        room = omega (arith, say.room, h.room);
        stops = λ off. onward-reads ∙ ap (onto (q.entry ∷ [])) (say.stops off);
        goes = λ went.
            let g = say.goes went in
            let left : s.room - words_per_entry - y.leaves.used ≡ s.room - (words_per_entry + y.leaves.used) = omega arith in
            record {
              some = omega (arith, g.some);
              less = omega (arith, g.less);
              framed = g.framed;
              same = λ a. g.same a ∙ onward-again again at (next_at 1 t at) a;
              stands = g.stands;
              kind = g.kind;
              rest = g.rest;
              stamp = g.stamp;
              reads = onward-reads ∙ ap (onto (q.entry ∷ [])) g.reads ∙ onto-onto (q.entry ∷ []) y.entries
                  (due_then again d t env y.leaves (roomed y.leaves (s.room - words_per_entry - y.leaves.used)))
                  ∙ ap (λ (z : ℕ). onto (q.entry ∷ y.entries) (due_then again d t env y.leaves (roomed y.leaves z))) left;
            };
      }

  -- by what is seen
  leaf-says : (y : Seen) → this ≡ y → (rest : Due → LeavesListed)
      → ((q : Due) → OneLeaf again d t b u f x next (n - 1) (behind_due q s)
      → LeavesSay again d t b u f next (n - 1) (behind_due q s) (rest q))
      → LeavesSay again d t b u f at n s
      (leaf_then y at n s.order (λ q. leaves_end t next (n - 1) (s.room - words_per_entry) q.slot q.role) rest)
  unfolding leaf_then done refuse refuse_at listed ◌⨾◌ after onto
  leaf-says (Stops v) is more say = stops-say v.why v.place s.order [] (omega arith) (reads_all is)
  leaf-says (OtherUuid e) is more say = stops-say WrongUuid _ s.order (e ∷ []) (omega (arith, h.room)) (reads_all is)
  leaf-says (Field q) is more say = by (leaves_end t next (n - 1) (s.room - words_per_entry) q.slot q.role) refl
    where
      by : (l : Bool) → leaves_end t next (n - 1) (s.room - words_per_entry) q.slot q.role ≡ l
          → LeavesSay again d t b u f at n s (elim l [ true ↦ last_leaf q at (n - 1) | false ↦ behind_entries (q.entry ∷ []) (more q) ])
      by true e = last_says q is
      by false e =
          let on = goes_on t next (n - 1) (s.room - words_per_entry) q.slot q.role e in
          more-say q is on (more q) (say q (next-leaf q is on))

-- all of them
leaves-say : (again : Bool) (d : ℕ) (t b u : List ℕ) (f : Frame) (x : Content) → Bytes b → (n at : ℕ) (s : State)
    → OneLeaf again d t b u f x at n s
    → LeavesSay again d t b u f at n s (leaves_read again t b u f x at n s.place s.order s.room)
unfolding leaves_read
leaves-say again d t b u f x bytes zero at s h = absurd (omega (arith, h.some))
leaves-say again d t b u f x bytes (suc n) at s h =
    let e : suc n - 1 ≡ n = omega arith in
    let next = onward again at (next_at 1 t at) in
    rw (e) at (leaf-says again d t b u f x bytes at (suc n) s h (seen_at (number_at t at) t b u f at s.place s.order x) refl
    (λ q. leaves_read again t b u f x next n (behind_entry q.entry) q.order (s.room - words_per_entry))
    (λ q one. rw (e) (leaves-say again d t b u f x bytes n next (behind_due q s) (rw (e) at one))))

-- the same of what the loops know: the classes stand whole, and the slots hold x where the first leaf reads
pub leaves-read : (again : Bool) (d : ℕ) (t b u : List ℕ) (f : Frame) (x : Content) → Bytes b → (at n : ℕ) (s : State)
    → WholeFields again d t at n → 0 < n → u8 t at < 28 → Framed b f s.place → words_per_entry ≤ s.room → length s.slots ≡ slot_count
    → slot_at s.slots (leaf_slot t at) ≡ x
    → LeavesSay again d t b u f at n s (leaves_read again t b u f x at n s.place s.order s.room)
leaves-read again d t b u f x bytes at n s stands some kind framed room many told = leaves-say again d t b u f x bytes n at s record {
  first = leaf_first again d t at n some stands kind;
  some = some;
  kind = kind;
  framed = framed;
  room = room;
  many = many;
  told = λ k. told;
}
