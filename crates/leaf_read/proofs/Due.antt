-- What is due of a leaf: the content of its slot, by its kind and its value; the place behind it; and what doing it leaves to be done.
use Rattle.std.specs.Prelude.{Option, None, Some}
use Rattle.rules.specs.declared.Order.{Order}
use mathlib.Core.Path.{◌≡◌, refl, sym, ap, subst, ◌∙◌}
use Prim.Native.Nat.{ℕ, ◌+◌, ◌-◌, ◌/◌, ◌<◌, ◌≤◌}
use native.Mathlib.Omega.{arith}
use mathlib.Core.List.{List, [], ◌∷◌}
use mathlib.Core.Bool.{Bool, true, false, not}
use mathlib.Core.Logic.{⊎_elim}
use lib.Dec.{eqb}
use lib.ListN.{length, take, drop}
use Rattle.rules.specs.declared.BitPlace.{BitPlace}
use Rattle.rules.specs.declared.Entry.{Entry}
use Rattle.rules.specs.declared.Content.{Content}
use Rattle.rules.specs.declared.Content.TheVariants.{Flag}
use Rattle.rules.specs.declared.Refusal.{Refusal}
use Rattle.rules.specs.Limits.{slot_count, words_per_entry}
use Rattle.rules.specs.Class.{Class}
use Rattle.rules.specs.Class.{Role, no_role, magic, stream_class_id, stream_id, uuid, total_length, content_length, clock, end_clock}
use Rattle.rules.specs.Class.{discarded, sequence, event_class_id}
use Rattle.rules.specs.Record.{u8}
use Rattle.rules.specs.Clock.{clock_after}
use Rattle.rules.specs.Faults.{roles, role_of}
use Rattle.rules.specs.Step.{State, Step, Out, stop, go, onto, after, ◌⨾◌, pass, refuse, check, due, listed, change}
use Rattle.rules.specs.Step.{with_order, with_clock, with_slots, with_said}
use Rattle.rules.specs.Field.{Env, store, role, say, new_clock, read, same_bytes, one_or_none, truth, value_of, slot_of}
use Rattle.facts.proofs.Cases.{◌▷◌, below}
use Rattle.facts.proofs.Steps.{onto-nil}
use Rattle.facts.proofs.Slots.{no-slot}
use Rattle.facts.proofs.Numbers.{lt-or-ge}
use Rattle.laws.specs.Between.{Between}
use Rattle.laws.proofs.Law.{Any, fits, law-read}
use Rattle.laws.proofs.Triple.{Ok}
use Rattle.laws.proofs.Between.{Kept, Held, In, At, NoMore, held-law}
use Rattle.listing.proofs.Checks.{check-stops, check-goes, room-first, no-room-first}
use Rattle.frame.specs.declared.Frame.{Frame}
use Rattle.leaf_find_number.specs.declared.Found.{Found}
use Rattle.leaf_find_number.specs.declared.Found.TheVariants.{At as Lies, Refused}
use Rattle.leaf_after.specs.declared.Due.{Due}
use Rattle.leaf_after.specs.declared.Seen.{Seen}
use Rattle.leaf_after.specs.declared.Seen.TheVariants.{Field, OtherUuid}
use Rattle.leaf_after.specs.Seeing.{Told, done_due, seen, fixed_seen, leb_seen, uuid_seen, blob_seen}
use Rattle.slots.specs.Taken.{length_of}
use Rattle.class_layout.specs.Trees.{shapes, shape_of, IsWhole}
use Rattle.leaf_read.specs.Seen.{bits_seen_at, seen_in, seen_at}
use Rattle.leaf_read.specs.Leaves.{content_of, behind_entry}
use Rattle.leaf_read.proofs.ByKind.{seen_of, plain-apart, dynamic-apart}

-- The content of its slot

-- where a leaf of kind k names a slot, that becomes what kind and value say
abbrev ContentDue : ℕ → Seen → Type 0
ContentDue k y = (d : Due) → y ≡ Field d → d.slot < slot_count → d.content ≡ content_of k d.entry.value

field-content : (k : ℕ) (q : Due) → (q.slot < slot_count → q.content ≡ content_of k q.entry.value) → ContentDue k (Field q)
field-content k q h d e =
    let same : q ≡ d = cc in
    subst (λ (z : Due). z.slot < slot_count → z.content ≡ content_of k z.entry.value) same h

seen-content : (k : ℕ) (x : Found) (m : Told) → ((p : BitPlace) (n v : ℕ) → ContentDue k (m p n v)) → ContentDue k (seen x m)
unfolding seen
seen-content k (Lies n p v) m h = h p n v
seen-content k (Refused p r) m h = λ d e s. let z : ◌≡◌ {A = ℕ} 0 1 = cc in absurd (omega arith)

-- what names no slot
apart-content : (k : ℕ) (y : Seen) → ((d : Due) → y ≡ Field d → slot_count ≤ d.slot) → ContentDue k y
apart-content k y h d e s = absurd (omega (arith, h d e))

one-or-none : (b : Bool) → b ≡ not (eqb (one_or_none b) 0)
unfolding one_or_none
one-or-none true = refl
one-or-none false = refl

uuid-apart : (m : ℕ) (b u : List ℕ) (o : Option Order) (p : BitPlace) (n v : ℕ) (d : Due) → uuid_seen m b u o p n v ≡ Field d
    → slot_count ≤ d.slot
unfolding uuid_seen seen
uuid-apart m b u o p n v d e = by (same_bytes (take v (drop (p.0 / 8) b)) u) refl e
  where
    by : (t : Bool) → same_bytes (take v (drop (p.0 / 8) b)) u ≡ t → uuid_seen m b u o p n v ≡ Field d → slot_count ≤ d.slot
    by true i e = plain-apart m 25 o (Lies n p v) d (rw (i, uuid_seen) at e)
    by false i e = let h : OtherUuid _ ≡ Field d = rw (i, uuid_seen) at e in let z : ◌≡◌ {A = ℕ} 0 1 = cc in absurd (omega arith)

blob-apart : (m : ℕ) (b u : List ℕ) (r : ℕ) (o : Option Order) (p : BitPlace) (n v : ℕ) (d : Due) → blob_seen m b u r o p n v ≡ Field d
    → slot_count ≤ d.slot
unfolding blob_seen seen
blob-apart m b u r o p n v d e = by (eqb r 4) refl e
  where
    by : (t : Bool) → eqb r 4 ≡ t → blob_seen m b u r o p n v ≡ Field d → slot_count ≤ d.slot
    by true i e = uuid-apart m b u o p n v d (rw (i, blob_seen) at e)
    by false i e = plain-apart m 25 o (Lies n p v) d (rw (i, blob_seen) at e)

module _ (m : ℕ) (t b u : List ℕ) (f : Frame) (at : ℕ) (p : BitPlace) (o : Option Order) (x : Content) where
  abbrev Says : ℕ → Type 0
  Says i = u8 t at ≡ 16 + i → ContentDue (16 + i) (seen_at m t b u f at p o x)

  is : (k : ℕ) → u8 t at ≡ k → seen_at m t b u f at p o x ≡ seen_in m t b u f at p o x (shape_of k)
  is k e = seen_of m t b u f at p o x k e

  says : (i : ℕ) → i < 12 → Says i
  unfolding shape_of shapes seen_in bits_seen_at fixed_seen leb_seen value_of slot_of content_of
  says = below Says 12
      ((λ k. rw (is 16 k) (seen-content 16 _ _ (λ q n v. field-content 16 _ (λ s. absurd (omega arith)))))
      ▷ (λ k. rw (is 17 k) (seen-content 17 _ _ (λ q n v. field-content 17 _ (λ s. ap (λ z. Flag z) (one-or-none (truth v))))))
      ▷ (λ k. rw (is 18 k) (seen-content 18 _ _ (λ q n v. field-content 18 _ (λ s. refl))))
      ▷ (λ k. rw (is 19 k) (seen-content 19 _ _ (λ q n v. field-content 19 _ (λ s. refl))))
      ▷ (λ k. rw (is 20 k) (seen-content 20 _ _ (λ q n v. field-content 20 _ (λ s. absurd (omega arith)))))
      ▷ (λ k. rw (is 21 k) (seen-content 21 _ _ (λ q n v. field-content 21 _ (λ s. refl))))
      ▷ (λ k. rw (is 22 k) (seen-content 22 _ _ (λ q n v. field-content 22 _ (λ s. refl))))
      ▷ (λ k. rw (is 23 k) (apart-content 23 _ (λ d. plain-apart m 23 o _ d)))
      ▷ (λ k. rw (is 24 k) (apart-content 24 _ (λ d. plain-apart m 24 o _ d)))
      ▷ (λ k. rw (is 25 k) (seen-content 25 _ _ (λ q n v. apart-content 25 _ (blob-apart m b u _ o q n v))))
      ▷ (λ k. rw (is 26 k) (apart-content 26 _ (λ d. dynamic-apart m b f p o 26 (length_of x) d)))
      ▷ (λ k. rw (is 27 k) (apart-content 27 _ (λ d. dynamic-apart m b f p o 27 (length_of x) d)))
      ▷ tt)

  pub content-due : IsWhole 1 t at → u8 t at < 28 → (d : Due) → seen_at m t b u f at p o x ≡ Field d → d.slot < slot_count
      → d.content ≡ content_of (u8 t at) d.entry.value
  unfolding IsWhole
  content-due w h d e s =
      let k : u8 t at ≡ 16 + (u8 t at - 16) = omega (arith, w.low) in
      rw (k) (says (u8 t at - 16) (omega (arith, w.low)) k d e s)

-- Kinds below 26 read no slot

module _ (m : ℕ) (t b u : List ℕ) (f : Frame) (at : ℕ) (p : BitPlace) (o : Option Order) (x y : Content) where
  abbrev Alike : ℕ → Type 0
  Alike i = u8 t at ≡ 16 + i → seen_at m t b u f at p o x ≡ seen_at m t b u f at p o y

  alike_at : (k : ℕ) → seen_in m t b u f at p o x (shape_of k) ≡ seen_in m t b u f at p o y (shape_of k) → u8 t at ≡ k
      → seen_at m t b u f at p o x ≡ seen_at m t b u f at p o y
  alike_at k h e = seen_of m t b u f at p o x k e ∙ h ∙ sym (seen_of m t b u f at p o y k e)

  alike : (i : ℕ) → i < 10 → Alike i
  unfolding shape_of shapes seen_in
  alike = below Alike 10
      (alike_at 16 refl ▷ alike_at 17 refl ▷ alike_at 18 refl ▷ alike_at 19 refl ▷ alike_at 20 refl
      ▷ alike_at 21 refl ▷ alike_at 22 refl ▷ alike_at 23 refl ▷ alike_at 24 refl ▷ alike_at 25 refl ▷ tt)

  pub seen_alike : IsWhole 1 t at → u8 t at < 26 → seen_at m t b u f at p o x ≡ seen_at m t b u f at p o y
  unfolding IsWhole
  seen_alike w h = alike (u8 t at - 16) (omega (arith, w.low)) (omega (arith, w.low))

-- What doing it leaves to be done

-- the rules' state behind its entry, with its order
abbrev pub behind_due : Due → State → State
behind_due d s = record {
  place = behind_entry d.entry;
  room = s.room - words_per_entry;
  slots = s.slots;
  order = d.order;
  clock = s.clock;
  last = s.last;
  said = s.said;
}

-- its slot, and its role
abbrev pub slot_and_role : Due → Step
slot_and_role d = store d.slot d.content ⨾ role (role_of d.role) d.width d.entry.value

pub due-goes : (d : Due) (s : State)
    → done_due d s ≡ onto (d.entry ∷ []) (slot_and_role d (behind_due d s))
unfolding done_due ◌⨾◌ after listed change with_order
due-goes d s = ap (onto (d.entry ∷ [])) (onto-nil _)

-- neither slot nor role
pub due-passes : (d : Due) (s : State) → length s.slots ≡ slot_count → slot_count ≤ d.slot → d.role ≡ 0
    → slot_and_role d s ≡ go [] s
unfolding store change with_slots ◌⨾◌ after onto role role_of roles pass
due-passes d s long idle plain = rw (no-slot s.slots d.slot d.content long idle, plain) refl

-- The place behind it

-- where an outcome is
unfoldable place_of : Out → BitPlace
place_of (stop es v) = v.place
place_of (go es s) = s.place

onto-place : (es : List Entry) (o : Out) → place_of (onto es o) ≡ place_of o
unfolding place_of onto
onto-place es (stop fs v) = refl
onto-place es (go fs s) = refl

check-place : (t : State → Bool) (r : Refusal) (s : State) → place_of (check t r s) ≡ s.place
unfolding place_of refuse
check-place t r s = by (t s) refl
  where
    by : (b : Bool) → t s ≡ b → place_of (check t r s) ≡ s.place
    by true e = rw (check-stops t r s e) refl
    by false e = rw (check-goes t r s e) refl

clock-place : (l : ℕ) (c : Option ℕ) (s : State) → place_of (new_clock l c s) ≡ s.place
unfolding new_clock place_of refuse ◌⨾◌ after onto listed change with_clock
clock-place l None s = refl
clock-place l (Some c) s = refl

due-place : (m : Step) (s : State) → place_of (m s) ≡ s.place → place_of ((due ⨾ m) s) ≡ s.place
unfolding place_of refuse
due-place m s e = ⊎_elim
    (λ (h : s.room < words_per_entry). ap place_of (no-room-first m s h))
    (λ (h : words_per_entry ≤ s.room). ap place_of (room-first m s h) ∙ e)
    (lt-or-ge s.room words_per_entry)

-- a role is done at the place behind its field
role-place : (r : Role) (l v : ℕ) (s : State) → place_of (role r l v s) ≡ s.place
unfolding role place_of pass say change with_said
role-place no_role l v s = refl
role-place magic l v s = check-place _ _ s
role-place stream_class_id l v s = refl
role-place stream_id l v s = refl
role-place uuid l v s = refl
role-place total_length l v s = refl
role-place content_length l v s = refl
role-place clock l v s = due-place (λ q. new_clock l (clock_after q.clock l v) q) s (clock-place l _ s)
role-place end_clock l v s = refl
role-place discarded l v s = refl
role-place sequence l v s = refl
role-place event_class_id l v s = refl

module _ (e : Env) where
  anywhere : Kept e Any (λ p d. Unit {0})
  anywhere = record { some_bits = λ n h. tt; moves = λ p p' d l k. tt; says = λ n p d d' w l k. tt }

  ok-between : (o : Out) → Ok (In e) (At e) (NoMore e) (Held e (λ p d. Unit {0})) o → Between e (place_of o).0
  unfolding place_of
  ok-between (stop es v) h = h.1
  ok-between (go es s) h = (h.1.from, h.1.to)

  read-ends : (m : ℕ) (c : Class) (s : State) → Between e s.place.0 → Between e (place_of (read e m c s)).0
  read-ends m c s h =
      ok-between (read e m c s) ((law-read e (held-law e anywhere) m c (fits Any Any Any (λ n. tt) (λ n. tt) (λ n. tt) c)).at s
      (record { from = h.0; to = h.1; kept = tt }))

  -- what is due of a class's field lies between the packet's start and the bound
  pub due-between : (m : ℕ) (c : Class) (d : Due) (s : State) → Between e s.place.0 → read e m c s ≡ done_due d s
      → Between e (d.entry.place.0 + d.entry.bits)
  unfolding store change with_slots ◌⨾◌ after
  due-between m c d s h is =
      let ends = read-ends m c s h in
      let place : place_of (done_due d s) ≡ behind_entry d.entry
      = ap place_of (due-goes d s) ∙ onto-place _ _ ∙ onto-place [] _ ∙ role-place (role_of d.role) d.width d.entry.value _ in
      subst (λ (q : BitPlace). Between e q.0) (ap place_of is ∙ place) ends
