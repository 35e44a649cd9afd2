-- An event behind its header: 39 and room, the lookup, and the other roots behind entry 5.
use Rattle.std.specs.Prelude.{None, Some, Option}
use mathlib.Core.Path.{◌≡◌, refl, ap, sym, ◌∙◌}
use Prim.Native.Nat.{ℕ, ◌≤◌, ◌<◌}
use mathlib.Core.List.{List, []}
use mathlib.Core.Bool.{Bool, true, false, ◌&&◌}
use native.Mathlib.Omega.{arith}
use lib.Dec.{ltb, eqb}
use borrow.Author.Tests.{eqb-true, eqb-false}
use Rattle.rules.specs.declared.BitPlace.{BitPlace}
use Rattle.rules.specs.declared.Refusal.{Refusal}
use Rattle.rules.specs.declared.Refusal.TheVariants.{ClockWentBack, EventClassUnknown, ListFull}
use Rattle.rules.specs.Limits.{words_per_entry}
use Rattle.rules.specs.Verdict.{stop_at}
use Rattle.rules.specs.Slots.{Slots}
use Rattle.rules.specs.Entry.{event_class_found}
use Rattle.rules.specs.Step.{stop, ◌⨾◌, refuse, with_last}
use Rattle.rules.specs.Field.{Env}
use Rattle.rules.specs.Table.{StreamClass, EventClass, Asked}
use Rattle.rules.specs.Packet.{mark, with_event}
use Rattle.listing.specs.declared.Progress.{Progress}
use Rattle.listing.specs.Did.{full}
use Rattle.listing.proofs.Checks.{room-first}
use Rattle.class_layout.specs.Fragments.{map_option, stream_class_at, event_class_at, find_event_at, fragments_of, is_event, asked_at}
use Rattle.class_layout.specs.Sizes.{SizedFragment, Sized}
use Rattle.class_layout.proofs.Lookups.{found_some, found_none, first_holds}
use Rattle.event_turns.specs.declared.Asking.{Asking}
use Rattle.event_turns.specs.declared.LookedUp.{LookedUp}
use Rattle.event_turns.specs.Roots.{parts_of}
use Rattle.event_turns.specs.Ready.{OfStream}
use Rattle.event_turns.specs.Event.{held_to, body_of}
use Rattle.event_turns.specs.Left.{LookupLeft, refused_left, class_left, lookup_left, looked_left}
use Rattle.event_turns.specs.Turns.{Known}
use Rattle.event_turns.proofs.Lefts.{left-lookup, left_other}
use Rattle.listing.proofs.Marks.{check-stop, check-on, due-stop, change-on}

pub behind-first : (turn : ℕ) → 1 ≤ turn → (turn ≡ 1 → ⊥) → 2 ≤ turn
behind-first turn h k = omega (arith, h, k)

-- the clock of an event is the one that the next event's is held to
abbrev pub settled : Progress → Progress
settled st = held_to st.clock.value st

module _ (a : Asked) (c : StreamClass) (e : Env) (st : Progress) (l : Slots) (room : ℕ) where
  abbrev Back : Bool → Type 0
  Back b = (c.timed && ltb st.clock.value st.last) ≡ b

  pub body_back : Back true → body_of a c e (full st l room) ≡ stop [] (stop_at ClockWentBack st.place)
  unfolding body_of refuse
  body_back h = check-stop _ ClockWentBack _ (full st l room) h

  pub body-full : Back false → room < words_per_entry → body_of a c e (full st l room) ≡ stop [] (stop_at ListFull st.place)
  unfolding body_of refuse with_last
  body-full h k = check-on _ ClockWentBack _ (full st l room) h ∙ change-on _ _ (full st l room) ∙ due-stop _ (full (settled st) l room) k

  -- with room, what the lookup finds decides
  looked : Back false → words_per_entry ≤ room
      → body_of a c e (full st l room)
      ≡ with_event c.id st.said.event (a.event c.id st.said.event)
      (λ d. mark event_class_found 0 st.said.event ⨾ parts_of e c d) (full (settled st) l room)
  unfolding body_of with_last
  looked h k = check-on _ ClockWentBack _ (full st l room) h ∙ change-on _ _ (full st l room) ∙ room-first _ (full (settled st) l room) k

  pub body-unknown : Back false → words_per_entry ≤ room → a.event c.id st.said.event ≡ None
      → body_of a c e (full st l room) ≡ stop [] (stop_at (EventClassUnknown c.id st.said.event) st.place)
  unfolding with_event refuse
  body-unknown h k n = looked h k ∙ rw (n) refl

  pub body-found : (d : EventClass) → Back false → words_per_entry ≤ room → a.event c.id st.said.event ≡ Some d
      → body_of a c e (full st l room)
      ≡ (mark event_class_found 0 st.said.event ⨾ parts_of e c d) (full (settled st) l room)
  unfolding with_event
  body-found d h k n = looked h k ∙ rw (n) refl

-- What the lookup finds

pub event-stands : (t s : List ℕ) (i j p : ℕ) → Sized t s → Some p ≡ find_event_at t (fragments_of t) i j → SizedFragment t s p
event-stands t s i j p sized e = (first_holds (SizedFragment t s) (is_event t i j) (fragments_of t) p (found_some _ p e) sized.each).1

-- where a turn's lookup goes on, an event class stands at its byte
module _ (t s : List ℕ) (w : Asking) (p : BitPlace) (clock last id room : ℕ) (sized : Sized t s) where
  abbrev Stands : LookupLeft → Type 0
  Stands o = o.result.on ≡ true → SizedFragment t s o.result.class

  refused-stands : (why : Refusal) → Stands (refused_left why)
  refused-stands why on = let z : ◌≡◌ {A = ℕ} 0 1 = cc in absurd (omega arith)

  class-stands : (x : Option ℕ) → x ≡ find_event_at t (fragments_of t) w.id id → Stands (class_left w p clock id x)
  unfolding class_left
  class-stands None is = refused-stands (EventClassUnknown w.id id)
  class-stands (Some class) is = λ on. event-stands t s w.id id class sized is

  lookup-stands : Stands (lookup_left t w p clock last id room)
  unfolding lookup_left
  lookup-stands = by (w.timed && ltb clock last) (ltb room words_per_entry)
    where
      class : LookupLeft
      class = class_left w p clock id (find_event_at t (fragments_of t) w.id id)

      by : (a b : Bool)
          → Stands (elim a [ true ↦ refused_left ClockWentBack | false ↦ elim b [ true ↦ refused_left ListFull | false ↦ class ] ])
      by true b = refused-stands ClockWentBack
      by false true = refused-stands ListFull
      by false false = class-stands (find_event_at t (fragments_of t) w.id id) refl

  pub looked-stands : (turn class : ℕ) → Known t s turn class → (o : LookedUp)
      → o ≡ (looked_left t w turn class p clock last id room).result → o.on ≡ true → SizedFragment t s o.class
  looked-stands turn class known o is = rw (is) (by (eqb turn 1) refl)
    where
      by : (b : Bool) → eqb turn 1 ≡ b → Stands (looked_left t w turn class p clock last id room)
      by true h = rw (left-lookup t w turn class p clock last id room (eqb-true turn 1 h)) lookup-stands
      by false h =
          let other = eqb-false turn 1 h in
          rw (left_other t w turn class p clock last id room other) (λ on. known.1 (behind-first turn known.0 other))

module _ (t : List ℕ) (w : Asking) (j : ℕ) (of : OfStream t w) where
  abbrev Class : StreamClass
  Class = stream_class_at t w.class

  asked-id : (asked_at t).event Class.id j ≡ map_option (event_class_at t) (find_event_at t (fragments_of t) w.id j)
  unfolding asked_at
  asked-id = rw (sym of.id) refl

  pub event-unknown : None ≡ find_event_at t (fragments_of t) w.id j → (asked_at t).event Class.id j ≡ None
  unfolding map_option
  event-unknown e = asked-id ∙ rw (found_none _ e) refl

  pub event-found : (p : ℕ) → Some p ≡ find_event_at t (fragments_of t) w.id j
      → (asked_at t).event Class.id j ≡ Some (event_class_at t p)
  unfolding map_option
  event-found p e = asked-id ∙ rw (found_some _ p e) refl

  pub back_is : (st : Progress) (b : Bool) → (w.timed && ltb st.clock.value st.last) ≡ b
      → (Class.timed && ltb st.clock.value st.last) ≡ b
  back_is st b h = ap (λ u. u && ltb st.clock.value st.last) (sym of.timed) ∙ h
