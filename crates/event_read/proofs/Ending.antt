-- Slots 0 to 15 are an event's as they came, and how an event ends.
use Rattle.std.specs.Prelude.{Option, None, Some, Ok}
use mathlib.Core.Path.{◌≡◌, refl, ap, sym, ◌∙◌}
use mathlib.Core.List.{List}
use mathlib.Core.Bool.{Bool, true, false}
use Prim.Native.Nat.{ℕ, ◌-◌, ◌≤◌}
use native.Mathlib.Omega.{arith}
use lib.ListN.{length, take, replicate, length-take, length-append, length-replicate}
use lib.Dec.{eqb}
use borrow.Author.Tests.{eqb-true, eq-eqb}
use Rattle.rules.specs.declared.Entry.{Entry}
use Rattle.rules.specs.declared.Refusal.{Refusal}
use Rattle.rules.specs.declared.Refusal.TheVariants.{EventTookNoBits}
use Rattle.rules.specs.Verdict.{stop_at}
use Rattle.rules.specs.declared.Content.TheVariants.{Unset}
use Rattle.rules.specs.Limits.{slot_count, packet_slot_count, words_per_entry}
use Rattle.rules.specs.Slots.{Slots, slot, packet_slots}
use Rattle.rules.specs.Step.{State, Out, stop, go, Step, onto, after, ◌⨾◌, pass, refuse, check, due, listed, change, with_last}
use Rattle.rules.specs.Field.{Env}
use Rattle.rules.specs.Table.{StreamClass, EventClass, Asked}
use Rattle.rules.specs.Packet.{mark, with_event, start_event, read_event}
use Rattle.rules.specs.Entry.{event_class_found}
use Rattle.facts.proofs.Truth.{clash}
use Rattle.listing.specs.declared.Progress.{Progress}
use Rattle.listing.specs.Did.{full}
use Rattle.listing.proofs.Parts.{Part}
use Rattle.listing.proofs.Marks.{mark_on, change-on}
use Rattle.laws.specs.Kept.{KeepsSlots}
use Rattle.outcome.specs.Ran.{EventDid, stopped_ran}
use Rattle.event_turns.specs.Roots.{parts_of}
use Rattle.event_turns.specs.Event.{body_of}
use Rattle.event_read.specs.Start.{ended_ran}
use Rattle.event_read.proofs.Evented.{moved, behind_start, event-starts, unset-again, left-stops, left-goes, not-moved, has-moved}

-- Slots 0 to 15

abbrev Keeps : Step → Type 0
Keeps m = (s : State) (es : List Entry) (s' : State) → m s ≡ go es s' → packet_slots s'.slots ≡ packet_slots s.slots

onto-goes : (es fs : List Entry) (o : Out) (s' : State) {X : Type 0} → onto es o ≡ go fs s' → ((gs : List Entry) → o ≡ go gs s' → X) → X
unfolding onto
onto-goes es fs (stop gs v) s' e k = let z : ◌≡◌ {A = ℕ} 0 1 = cc in absurd (omega arith)
onto-goes es fs (go gs s) s' e k = let p : s ≡ s' = cc in k gs (ap (go gs) p)

then_keeps : (m n : Step) → Keeps m → Keeps n → Keeps (m ⨾ n)
unfolding ◌⨾◌ after
then_keeps m n h k s es s' e = by (m s) refl e
  where
    by : (o : Out) → m s ≡ o → after o n ≡ go es s' → packet_slots s'.slots ≡ packet_slots s.slots
    by (stop fs v) q e = let z : ◌≡◌ {A = ℕ} 0 1 = cc in absurd (omega arith)
    by (go fs r) q e = onto-goes fs es (n r) s' e (λ gs g. k r gs s' g ∙ h s fs r q)

change-keeps : (f : State → State) → ((s : State) → packet_slots (f s).slots ≡ packet_slots s.slots) → Keeps (change f)
unfolding change
change-keeps f h s es s' e = let p : f s ≡ s' = cc in rw (← p) (h s)

check-keeps : (q : State → Bool) (r : Refusal) → Keeps (check q r)
unfolding check refuse pass
check-keeps q r s es s' e = by (q s) e
  where
    by : (b : Bool) → elim b [ true ↦ refuse r s | false ↦ pass s ] ≡ go es s' → packet_slots s'.slots ≡ packet_slots s.slots
    by true e = let z : ◌≡◌ {A = ℕ} 0 1 = cc in absurd (omega arith)
    by false e = let p : s ≡ s' = cc in rw (← p) refl

due-keeps : Keeps due
unfolding due
due-keeps = check-keeps _ _

mark-keeps : (k n v : ℕ) → Keeps (mark k n v)
unfolding mark listed
mark-keeps k n v s es s' e = let p : packet_slots s.slots ≡ packet_slots s'.slots = cc in sym p

module _ (a : Asked) (c : StreamClass) (i : ℕ) (e : Env) (keeps : KeepsSlots a) (found : a.stream i ≡ Some c) where
  roots-keep : (d : EventClass) (j k v : ℕ) → a.event j k ≡ Some d
      → Keeps (mark event_class_found 0 v ⨾ parts_of e c d)
  unfolding parts_of
  roots-keep d j k v q =
      then_keeps _ _ (mark-keeps _ _ _)
      (then_keeps _ _ (keeps.common i c found e _) (then_keeps _ _ (keeps.specific j k d q e _) (keeps.payload j k d q e _)))

  look-keeps : Keeps (λ s. with_event c.id s.said.event (a.event c.id s.said.event)
      (λ d. mark event_class_found 0 s.said.event ⨾ parts_of e c d) s)
  unfolding with_event refuse
  look-keeps s es s' q = by (a.event c.id s.said.event) refl q
    where
      by : (x : Option EventClass) → a.event c.id s.said.event ≡ x
          → with_event c.id s.said.event x
          (λ d. mark event_class_found 0 s.said.event ⨾ parts_of e c d) s ≡ go es s'
          → packet_slots s'.slots ≡ packet_slots s.slots
      by None k q = let z : ◌≡◌ {A = ℕ} 0 1 = cc in absurd (omega arith)
      by (Some d) k q = roots-keep d c.id s.said.event s.said.event k s es s' q

  body-keeps : Keeps (body_of a c e)
  unfolding body_of with_last
  body-keeps = then_keeps _ _ (check-keeps _ _) (then_keeps _ _ (change-keeps _ (λ s. refl)) (then_keeps _ _ due-keeps look-keeps))

  behind-keeps : (st : Progress) → Keeps (behind_start a c e st)
  unfolding behind_start moved
  behind-keeps st = then_keeps _ _ (keeps.header i c found e _) (then_keeps _ _ body-keeps (check-keeps _ _))

  pub event-keeps : (n : ℕ) (st : Progress) (l : Slots) (room : ℕ) → words_per_entry ≤ room → length l ≡ slot_count
      → (es : List Entry) (s' : State) → read_event a c e n (full st l room) ≡ go es s' → packet_slots s'.slots ≡ packet_slots l
  unfolding start_event
  event-keeps n st l room h many es s' q =
      let o = sym (event-starts a c e n st l room h ∙ mark_on _ _ _ _ _ ∙ ap (onto _) (change-on start_event _ _)) ∙ q in
      onto-goes _ es _ s' o (λ gs g. behind-keeps st _ gs s' g ∙ unset-again l many)

pub packet-length : (l : Slots) → length l ≡ slot_count → length (packet_slots l) ≡ slot_count
unfolding packet_slots
packet-length l n =
    omega (
      arith,
      length-append (take packet_slot_count l) (replicate (slot_count - packet_slot_count) (slot Unset)),
      length-take packet_slot_count l,
      length-replicate (slot_count - packet_slot_count) (slot Unset),
    )

-- the place moved, and slots 0 to 15 are as they were
event-done : (a : Asked) (c : StreamClass) (i : ℕ) (e : Env) → KeepsSlots a → a.stream i ≡ Some c → (n : ℕ) (came : Progress) (l₀ : Slots)
    {ws₀ ws : List ℕ} {used : ℕ} {st : Progress} {l : Slots} → words_per_entry ≤ length ws₀ → length l₀ ≡ slot_count
    → Part (read_event a c e n (full came l₀ (length ws₀))) (moved came) ws₀ ws used st l → (st.place.0 ≡ came.place.0 → ⊥)
    → EventDid (read_event a c e n) came l₀ (record { went = Ok tt; used = used; state = st }) ws₀ ws
unfolding onto
event-done a c i e keeps found n came l₀ {ws₀} {ws} {used} {st} {l} h many p k =
    let on = has-moved came st l (length ws₀ - used) k in
    left-goes (moved came) (read_event a c e n) came l₀ p
    (event-keeps a c i e keeps found n came l₀ (length ws₀) h many _ (full st l (length ws₀ - used)) (p.rest ∙ ap (onto p.listed) on))
    on

-- the event's end, whether the place moved or not
pub event-ended : (a : Asked) (c : StreamClass) (i : ℕ) (e : Env) → KeepsSlots a → a.stream i ≡ Some c → (n : ℕ) (came : Progress)
    (l₀ : Slots) {ws₀ ws : List ℕ} {used : ℕ} {st : Progress} {l : Slots} → words_per_entry ≤ length ws₀ → length l₀ ≡ slot_count
    → Part (read_event a c e n (full came l₀ (length ws₀))) (moved came) ws₀ ws used st l
    → EventDid (read_event a c e n) came l₀ (ended_ran used st came) ws₀ ws
unfolding ended_ran
event-ended a c i e keeps found n came l₀ {ws₀} {ws} {used} {st} {l} h many p = by (eqb st.place.0 came.place.0) refl
  where
    by : (z : Bool) → eqb st.place.0 came.place.0 ≡ z
        → EventDid (read_event a c e n) came l₀
        (elim z [
          | true ↦ stopped_ran (stop_at EventTookNoBits st.place) used came
          | false ↦ record { went = Ok tt; used = used; state = st }
        ]) ws₀ ws
    by true q = left-stops (moved came) (read_event a c e n) came l₀ p _ (not-moved came st l (length ws₀ - used) (eqb-true _ _ q))
    by false q = event-done a c i e keeps found n came l₀ h many p (λ y. clash (sym q ∙ eq-eqb _ _ y))
