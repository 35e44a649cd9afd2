-- The loop over leaves, turn by turn: of what the definition says of all of them, entries stand in the list, and the rest is what it says
-- of those that are left.
use Rattle.std.specs.Prelude.{None, Option}
use Rattle.rules.specs.declared.Order.{Order}
use mathlib.Core.Path.{◌≡◌, refl, sym, ap, ◌∙◌}
use Prim.Native.Nat.{ℕ, zero, suc, ◌+◌, ◌-◌, ◌*◌, ◌<◌, ◌≤◌}
use native.Mathlib.Omega.{arith}
use mathlib.Core.List.{List, [], ◌∷◌, ◌++◌, append-nil, append_assoc}
use mathlib.Core.Bool.{Bool, true, false}
use mathlib.Core.Logic.{⊎_elim}
use lib.ListN.{length, get_or, length-append, length-set, length-replicate}
use lib.Seq.{get_or-set_same}
use Rattle.rules.specs.declared.BitPlace.{BitPlace}
use Rattle.rules.specs.declared.Entry.{Entry}
use Rattle.rules.specs.declared.Content.{Content}
use Rattle.rules.specs.declared.Content.TheVariants.{Unset}
use Rattle.rules.specs.declared.Slot.{Slot}
use Rattle.rules.specs.declared.Stop.{Stop}
use Rattle.rules.specs.declared.Refusal.TheVariants.{PastBound, WrongUuid}
use Rattle.rules.specs.Limits.{slot_count, words_per_entry}
use Rattle.rules.specs.Record.{u8}
use Rattle.rules.specs.Slots.{no_slots, slot, slot_at, set_slot}
use Rattle.rules.specs.Step.{State}
use Rattle.facts.specs.Bytes.{Bytes}
use Rattle.facts.proofs.Slots.{no-content}
use Rattle.facts.proofs.Numbers.{lt-or-ge}
use Rattle.frame.specs.declared.Frame.{Frame}
use Rattle.frame.specs.Framed.{Framed}
use Rattle.listing.proofs.Parts.{Listed, none-listed, listed-length}
use Rattle.leaf_after.specs.declared.Due.{Due}
use Rattle.leaf_after.specs.declared.Leaves.{Leaves}
use Rattle.leaf_after.specs.declared.Seen.{Seen}
use Rattle.leaf_after.specs.declared.Seen.TheVariants.{Field, OtherUuid, Stops}
use Rattle.leaf_after.specs.Seeing.{Fits}
use Rattle.class_layout.specs.Numbers.{number_at}
use Rattle.class_layout.specs.Words.{number_of_word}
use Rattle.class_layout.specs.Trees.{next_at}
use Rattle.class_layout.specs.Fields.{WholeFields, onward}
use Rattle.class_layout.specs.Notes.{SizedClasses, number_noted, NumberedClasses}
use Rattle.class_layout.proofs.Fields.{foremost}
use Rattle.class_layout.proofs.Turns.{whole-inside}
use Rattle.leaf_read.specs.Reads.{Held, leaf_slot}
use Rattle.leaf_read.specs.Seen.{seen_at}
use Rattle.leaf_read.specs.Leaves.{behind_entry, LeavesListed, stopped_leaves, stops_at, last_leaf, behind_entries, leaves_end, leaf_then}
use Rattle.leaf_read.specs.Leaves.{list_behind, leaves_read, Standing}
use Rattle.leaf_read.proofs.ByKind.{SeesAt, leaf-sees}
use Rattle.leaf_read.proofs.Due.{seen_alike}
use Rattle.leaf_read.proofs.Leaves.{LeafFirst, leaf_first, goes_on, due-framed}

-- Entries in front

none-in-front : (y : LeavesListed) → behind_entries [] y ≡ y
unfolding behind_entries
none-in-front y = let e : words_per_entry * 0 + y.leaves.used ≡ y.leaves.used = omega arith in rw (e) refl

more-in-front : (es fs : List Entry) (y : LeavesListed) → behind_entries es (behind_entries fs y) ≡ behind_entries (es ++ fs) y
unfolding behind_entries
more-in-front es fs y =
    let e : words_per_entry * length es + (words_per_entry * length fs + y.leaves.used) ≡ words_per_entry * length (es ++ fs) + y.leaves.used
    = omega (arith, length-append es fs) in
    rw (e, append_assoc) refl

-- A state in which a slot holds a content

no-slots : length no_slots ≡ slot_count
unfolding no_slots
no-slots = length-replicate slot_count (slot Unset)

module _ (i : ℕ) (x : Content) (held : Held i x) where
  slots-many : length (set_slot no_slots i x) ≡ slot_count
  unfolding set_slot
  slots-many = length-set no_slots i (slot x) ∙ no-slots

  slot-holds : slot_at (set_slot no_slots i x) i ≡ x
  unfolding slot_at set_slot
  slot-holds = ⊎_elim
      (λ (k : i < slot_count). ap (λ (s : Slot). s.content) (get_or-set_same no_slots i (slot x) (slot Unset) (omega (arith, no-slots))))
      (λ (k : slot_count ≤ i). no-content (set_slot no_slots i x) i slots-many k ∙ sym (held k))
      (lt-or-ge i slot_count)

  abbrev holding : BitPlace → Option Order → State
  holding p o = record {
    place = p;
    room = words_per_entry;
    slots = set_slot no_slots i x;
    order = o;
    clock = 0;
    last = 0;
    said = record { stream = 0; total = None; content = None; ending = None; event = 0 };
  }

-- what is asked: leaves of a table, from a place on, and the list that they are listed into
pub record Asked : Type 0 where
  pub again : Bool
  pub table : List ℕ
  pub stream : List ℕ
  pub uuid : List ℕ
  pub frame : Frame
  pub content : Content
  pub from : ℕ
  pub count : ℕ
  pub begun : BitPlace
  pub last : Option Order
  pub list : List ℕ

abbrev pub asked : Bool → List ℕ → List ℕ → List ℕ → Frame → Content → ℕ → ℕ → BitPlace → Option Order → List ℕ → Asked
asked again t b u f x at n p o ws = record {
  again = again;
  table = t;
  stream = b;
  uuid = u;
  frame = f;
  content = x;
  from = at;
  count = n;
  begun = p;
  last = o;
  list = ws;
}

-- what the definition says of n leaves from a byte on
abbrev read_from : Asked → ℕ → ℕ → BitPlace → Option Order → ℕ → LeavesListed
read_from w at n p o room = leaves_read w.again w.table w.stream w.uuid w.frame w.content at n p o room

abbrev all : Asked → LeavesListed
all w = read_from w w.from w.count w.begun w.last (length w.list)

-- what the code hands back
abbrev pub Answered : Asked → Leaves → List ℕ → Type 0
Answered w r ws = (r ≡ (all w).leaves) × (ws ≡ list_behind (all w) w.list)

-- the leaf at a byte is the last, with what is due of it
abbrev pub lastly : Due → ℕ → ℕ → ℕ → Leaves
lastly q at n used = record {
  on = true;
  why = PastBound;
  at = at;
  todo = n;
  place = behind_entry q.entry;
  order = q.order;
  used = used;
  slot = q.slot;
  role = q.role;
  width = q.width;
  value = q.entry.value;
}

-- n leaves are left, from a byte, a place and an order on; `used` words stand in ws
pub record Reading (w : Asked) (ws : List ℕ) (at n : ℕ) (p : BitPlace) (o : Option Order) (used : ℕ) : Type 0 where
  pub depth : ℕ
  pub stands : WholeFields w.again depth w.table at n
  pub some : 0 < n
  pub kind : u8 w.table at < 28
  pub framed : Framed w.stream w.frame p
  pub held : 26 ≤ u8 w.table at → Held (leaf_slot w.table at) w.content
  pub listed : List Entry
  pub list : Listed listed w.list ws used
  pub room : used + words_per_entry ≤ length w.list
  pub rest : all w ≡ behind_entries listed (read_from w at n p o (length w.list - used))

pub reading-start : (w : Asked) → Standing w.again w.table w.from w.count → u8 w.table w.from < 28 → 1 ≤ w.count
    → words_per_entry ≤ length w.list → Framed w.stream w.frame w.begun → Held (leaf_slot w.table w.from) w.content
    → Reading w w.list w.from w.count w.begun w.last 0
reading-start w s kind some room framed held =
    let whole : length w.list - 0 ≡ length w.list = omega arith in
    record {
      depth = s.depth;
      stands = s.stands;
      some = omega arith;
      kind = kind;
      framed = framed;
      held = λ k. held;
      listed = [];
      list = none-listed w.list;
      room = omega arith;
      rest = rw (whole) (sym (none-in-front (all w)));
    }

-- one leaf of some, as the definition says
unfold-leaves : (again : Bool) (t b u : List ℕ) (f : Frame) (x : Content) (at n : ℕ) (p : BitPlace) (o : Option Order) (room : ℕ) → 0 < n →
    let next = onward again at (next_at 1 t at) in
    leaves_read again t b u f x at n p o room
    ≡ leaf_then (seen_at (number_at t at) t b u f at p o x) at n o (λ q. leaves_end t next (n - 1) (room - words_per_entry) q.slot q.role)
    (λ q. leaves_read again t b u f x next (n - 1) (behind_entry q.entry) q.order (room - words_per_entry))
unfolding leaves_read
unfold-leaves again t b u f x at zero p o room h = absurd (omega arith)
unfold-leaves again t b u f x at (suc n) p o room h = let e : suc n - 1 ≡ n = omega arith in rw (e) refl

module _ (q : Due) (at n : ℕ) (o : Option Order) (ends : Due → Bool) (others : Due → LeavesListed) where
  leaf_last : ends q ≡ true → leaf_then (Field q) at n o ends others ≡ last_leaf q at (n - 1)
  unfolding leaf_then
  leaf_last e = rw (e, leaf_then) refl

  leaf-more : ends q ≡ false → leaf_then (Field q) at n o ends others ≡ behind_entries (q.entry ∷ []) (others q)
  unfolding leaf_then
  leaf-more e = rw (e, leaf_then) refl

module _ {w : Asked} {ws : List ℕ} {at n : ℕ} {p : BitPlace} {o : Option Order} {used : ℕ} (h : Reading w ws at n p o used) where
  abbrev t : List ℕ
  t = w.table

  -- the next one's byte
  abbrev next : ℕ
  next = onward w.again at (next_at 1 t at)

  abbrev number : ℕ
  number = number_at t at

  -- what is seen of the leaf, by a number and what its slot holds; and by its own
  abbrev seen_by : ℕ → Content → Seen
  seen_by m x = seen_at m t w.stream w.uuid w.frame at p o x

  abbrev this : Seen
  this = seen_by number w.content

  abbrev left : ℕ
  left = length w.list - used

  abbrev ends : Due → Bool
  ends q = leaves_end t (next) (n - 1) (left - words_per_entry) q.slot q.role

  abbrev others : Due → LeavesListed
  others q = read_from w (next) (n - 1) (behind_entry q.entry) q.order (left - words_per_entry)

  pub reading-first : LeafFirst w.again h.depth t at n
  reading-first = leaf_first w.again h.depth t at n h.some h.stands h.kind

  pub reading-length : length ws ≡ length w.list
  reading-length = listed-length h.list

  -- all of them, by what is seen of this one
  reading-all : {y : Seen} → y ≡ this → all w ≡ behind_entries h.listed (leaf_then y at n o ends others)
  reading-all is = h.rest
      ∙ ap (behind_entries h.listed) (unfold-leaves w.again t w.stream w.uuid w.frame w.content at n p o left h.some)
      ∙ ap (λ z. behind_entries h.listed (leaf_then z at n o ends others)) (sym is)

  -- the byte that the sizes give for the next class
  pub reading-onward : (s : List ℕ) {m : ℕ} → SizedClasses t s → m ≡ onward w.again at (at + get_or s at 0) → m ≡ next
  reading-onward s sized e = rw (← sized 1 at reading-first.leaf) e

  -- what is seen with the number that the notes give
  pub reading-seen : (a : List ℕ) {m : ℕ} {y : Seen} → NumberedClasses t a → m ≡ number_of_word (get_or a at 0) → y ≡ seen_by m w.content
      → y ≡ this
  unfolding number_noted
  reading-seen a numbered word is = is ∙ ap (λ m. seen_by m w.content) (word ∙ numbered 1 at reading-first.leaf)

  pub next-inside : 0 < n - 1 → next < length t
  next-inside some = whole-inside _ t _ (foremost w.again h.depth t _ (n - 1) some reading-first.rest).stands

  module _ (bytes : Bytes w.stream) where
    reading-sees : SeesAt number w.stream w.uuid w.frame t at w.content p o this
    reading-sees =
        leaf-sees number w.stream w.uuid w.frame t at p o w.content h.framed bytes reading-first.leaf h.kind

    pub reading-fits : {y : Seen} → y ≡ this → Fits y
    reading-fits is = rw (is) reading-sees.fits

    framed-by : (q : Due) (x : Content) → Held (leaf_slot t at) x → seen_by number x ≡ Field q
        → Framed w.stream w.frame (behind_entry q.entry)
    framed-by q x held is =
        let i = leaf_slot t at in
        due-framed w.stream w.uuid w.frame t at x (holding i x held p o) q
        (leaf-sees number w.stream w.uuid w.frame t at p o x h.framed bytes reading-first.leaf h.kind) is
        h.framed (omega arith) (slots-many i x held) (slot-holds i x held)

    -- a leaf ends within the frame
    reading-framed : (q : Due) {y : Seen} → y ≡ this → y ≡ Field q → Framed w.stream w.frame (behind_entry q.entry)
    reading-framed q is e = ⊎_elim
        (λ (k : u8 t at < 26).
        let same = seen_alike number t w.stream w.uuid w.frame at p o Unset w.content reading-first.leaf k in
        framed-by q Unset (λ z. refl) (same ∙ sym is ∙ e))
        (λ (k : 26 ≤ u8 t at). framed-by q w.content (h.held k) (sym is ∙ e))
        (lt-or-ge (u8 t at) 26)

  -- it stops
  pub answer-stops : {y : Seen} {v : Stop} → y ≡ this → y ≡ Stops v → Answered w (stopped_leaves v.why at n v.place o used) ws
  unfolding leaf_then stops_at stopped_leaves behind_entries
  answer-stops {v = v} is e =
      let d : all w ≡ behind_entries h.listed (stops_at v.why at n v.place o []) = reading-all (sym e ∙ is) in
      let u : used ≡ words_per_entry * length h.listed + words_per_entry * 0 = omega (arith, h.list.counted) in
      rw (d, append-nil h.listed) (rw (← u) refl, rw (← u) h.list.list)

  pub answer-other : {y : Seen} {x : Entry} {ws' : List ℕ} → y ≡ this → y ≡ OtherUuid x
      → Listed (h.listed ++ (x ∷ [])) w.list ws' (used + words_per_entry)
      → Answered w (stopped_leaves WrongUuid at n (behind_entry x) o (used + words_per_entry)) ws'
  unfolding leaf_then stops_at stopped_leaves behind_entries
  answer-other {x = x} is e list =
      let d : all w ≡ behind_entries h.listed (stops_at WrongUuid at n (behind_entry x) o (x ∷ [])) = reading-all (sym e ∙ is) in
      let u : used + words_per_entry ≡ words_per_entry * length h.listed + words_per_entry * length (x ∷ [])
      = omega (arith, h.list.counted) in
      rw (d) (rw (← u) refl, rw (← u) list.list)

  module _ {y : Seen} (q : Due) (is : y ≡ this) (e : y ≡ Field q) {ws' : List ℕ}
      (list : Listed (h.listed ++ (q.entry ∷ [])) w.list ws' (used + words_per_entry)) where
    -- the test of the code is that of the definition
    module _ {at' : ℕ} (there : at' ≡ next) {r : Bool}
        (test : r ≡ leaves_end t at' (n - 1) (length ws' - (used + words_per_entry)) q.slot q.role) where
      same_test : {l : Bool} → r ≡ l → ends q ≡ l
      same_test is =
          let room : length ws' - (used + words_per_entry) ≡ left - words_per_entry = omega (arith, listed-length list) in
          sym (rw (there, room) at test) ∙ is

      -- it is the last
      pub answer-last : r ≡ true → Answered w (lastly q at (n - 1) (used + words_per_entry)) ws'
      unfolding last_leaf behind_entries
      answer-last last =
          let d : all w ≡ behind_entries h.listed (last_leaf q at (n - 1))
          = reading-all (sym e ∙ is) ∙ ap (behind_entries h.listed) (leaf_last q at n o ends others (same_test last)) in
          let u : used + words_per_entry ≡ words_per_entry * length h.listed + words_per_entry = omega (arith, h.list.counted) in
          rw (d) (rw (← u) refl, rw (← u) list.list)

      -- it is not
      pub reading-next : Bytes w.stream → r ≡ false
          → Reading w ws' at' (n - 1) (behind_entry q.entry) q.order (used + words_per_entry)
      reading-next bytes more =
          let on = goes_on t (next) (n - 1) (left - words_per_entry) q.slot q.role (same_test more) in
          let d : all w ≡ behind_entries h.listed (behind_entries (q.entry ∷ []) (others q))
          = reading-all (sym e ∙ is) ∙ ap (behind_entries h.listed) (leaf-more q at n o ends others (same_test more)) in
          let room : left - words_per_entry ≡ length w.list - (used + words_per_entry) = omega arith in
          rw (there) record {
            depth = h.depth;
            stands = reading-first.rest;
            some = on.some;
            kind = omega (arith, on.kind);
            framed = reading-framed bytes q is e;
            held = λ k. absurd (omega (arith, on.kind));
            listed = h.listed ++ (q.entry ∷ []);
            list = list;
            room = omega (arith, on.fits);
            rest = d ∙ more-in-front h.listed (q.entry ∷ []) (others q) ∙ rw (room) refl;
          }
