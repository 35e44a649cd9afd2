-- How a packet that goes through ends: behind its total length; with the stream class id that its header said; and, where there is a
-- clock, with a last clock that is no lower than the one it began with (39). So it does not matter what stands for lengths that are not
-- stated, unless the packet ends just there; nor which packet was the first, as long as it is of that class.
use Rattle.std.specs.Prelude.{Option, None, Some}
use mathlib.Core.Path.{◌≡◌, refl, sym, ap, ◌∙◌, subst}
use mathlib.Core.Logic.{◌⊎◌, inl, inr}
use Prim.Native.Nat.{ℕ, zero, suc, ◌+◌, ◌-◌, ◌≤◌}
use native.Mathlib.Omega.{arith}
use native.Mathlib.Nat.{le_refl}
use mathlib.Core.List.{List}
use mathlib.Core.Bool.{Bool, true, false, ◌&&◌}
use lib.Dec.{ltb, eqb}
use borrow.Author.Tests.{ltb-false}
use Rattle.rules.specs.declared.BitPlace.{BitPlace}
use Rattle.rules.specs.declared.Entry.{Entry}
use Rattle.rules.specs.declared.Refusal.{Refusal}
use Rattle.rules.specs.declared.Refusal.TheVariants.{EventClassUnknown, EventTookNoBits, ClockWentBack}
use Rattle.rules.specs.declared.Stop.{Stop}
use Rattle.rules.specs.Verdict.{stop_at}
use Rattle.rules.specs.Slots.{slot_at}
use Rattle.rules.specs.Entry.{event_starts, event_class_found}
use Rattle.rules.specs.Step.{State, Out, stop, go, Step, ◌⨾◌, refuse_at, check, due, listed, change, with_slots, with_order, with_clock}
use Rattle.rules.specs.Step.{with_last, with_said}
use Rattle.rules.specs.Class.{Class}
use Rattle.rules.specs.Table.{StreamClass, EventClass, Asked}
use Rattle.rules.specs.Field.{Env, field, store, say, from_slot}
use Rattle.rules.specs.Packet.{mark, read_root, with_event, start_event, read_event, end_packet, read_events, or_else, differs, start_packet}
use Rattle.rules.specs.Packet.{first_root, header_number, common_number, payload_number}
use Rattle.laws.proofs.Law.{Any, AnyRecord}
use Rattle.laws.proofs.Simple.{view, Simple, simple-root}
use Rattle.laws.proofs.Triple.{Ok, Triple, then, passing, changing, refusing, refusing-at, checks, tested, untested, untested-at, dued}
use Rattle.packet_alone.specs.Behind.{to_end, up_to, less, total_of, content_of}
use Rattle.packet_alone.proofs.Beside.{events-end}
use Rattle.packet_alone.proofs.Roles.{OtherRoot, HeaderOnly, keeps-root}
use Rattle.packet_alone.proofs.Ran.{RanContent, Ran}

abbrev AnyEntry : Entry → Type 0
AnyEntry x = Unit {0}

abbrev AnyStop : Stop → Type 0
AnyStop v = Unit {0}

abbrev AnyRefusal : Refusal → Type 0
AnyRefusal r = Unit {0}

-- what holds of a state before a step and behind it
abbrev Stays : (State → Type 0) → Step → Type 0
Stays A m = Triple AnyEntry AnyStop AnyRefusal A m A

stays-both : {A B : State → Type 0} {m : Step} → Stays A m → Stays B m → Stays (λ s. A s × B s) m
stays-both {A} {B} {m} h k = record { at = λ s x. by (m s) (h.at s x.0) (k.at s x.1) }
  where
    by : (o : Out) → Ok AnyEntry AnyStop AnyRefusal A o → Ok AnyEntry AnyStop AnyRefusal B o
        → Ok AnyEntry AnyStop AnyRefusal (λ s. A s × B s) o
    by (stop es v) x y = x
    by (go es s) x y = (x.0, (x.1, y.1))

at-end : {A : State → Type 0} {m : Step} → Stays A m → (s : State) (es : List Entry) (u : State) → m s ≡ go es u → A s → A u
at-end {A} {m} h s es u q a = (subst (Ok AnyEntry AnyStop AnyRefusal A) q (h.at s a)).1

-- A root leaves the last clock alone

module _ (A : ℕ → Type 0) where
  abbrev OfLast : State → Type 0
  OfLast s = A s.last

  stops-last : (r : Refusal) → AnyRefusal r → (s : State) → OfLast s → AnyStop (stop_at r s.place)
  stops-last r i s h = tt

  last-simple : (e : Env) → Simple e AnyRecord Any (Stays OfLast) (Stays OfLast)
  unfolding refuse_at from_slot field listed store say with_slots with_order with_clock with_said
  last-simple e = record {
    seq = λ a b. then AnyEntry AnyStop AnyRefusal a b;
    seqʳ = λ a b. then AnyEntry AnyStop AnyRefusal a b;
    narrow = λ a. a;
    dueʳ = λ a. dued AnyEntry AnyStop AnyRefusal stops-last tt a;
    passes = passing AnyEntry AnyStop AnyRefusal;
    refuses = λ r small. refusing AnyEntry AnyStop AnyRefusal stops-last r tt;
    checks = λ t r small. checks AnyEntry AnyStop AnyRefusal stops-last _ r tt;
    checksʳ = λ t r small a. untested AnyEntry AnyStop AnyRefusal stops-last _ r tt a;
    refuses_past = refusing-at AnyEntry AnyStop AnyRefusal _ _ (λ s h. tt);
    checks_pastʳ = λ t a. untested-at AnyEntry AnyStop AnyRefusal _ _ (λ s h. tt) _ a;
    refuses_large = record { at = λ s h. (tt, tt) };
    looks = λ f a. record { at = λ s h. (a (view s)).at s h };
    looksʳ = λ f a. record { at = λ s h. (a (view s)).at s h };
    slots = λ i f a. record { at = λ s h. (a (slot_at s.slots i)).at s h };
    fields = λ m k a n v g z l. record { at = λ s h. ((tt, tt), h) };
    clocked = λ l c. record { at = λ s h. ((tt, tt), h) };
    stores = λ i x w. changing AnyEntry AnyStop AnyRefusal _ (λ s h. h);
    orders = λ o. changing AnyEntry AnyStop AnyRefusal _ (λ s h. h);
    clocks = λ c. changing AnyEntry AnyStop AnyRefusal _ (λ s h. h);
    says = λ f. changing AnyEntry AnyStop AnyRefusal _ (λ s h. h);
  }

  root-last : (e : Env) (m : ℕ) (c : Option Class) → Stays OfLast (read_root e m c)
  root-last e m c = simple-root e (last-simple e) m c

-- Events

module _ (t : Asked) (only : HeaderOnly t) (c : StreamClass) (i : ℕ) (found : t.stream i ≡ Some c) (j v : ℕ) where
  -- the stream class id is j; the last clock is v or more, where there is a clock
  abbrev NotBefore : ℕ → Type 0
  NotBefore n = c.timed ≡ true → v ≤ n

  abbrev Fine : State → Type 0
  Fine s = (s.said.stream ≡ j) × NotBefore s.last

  abbrev Keeps : Step → Type 0
  Keeps m = Stays Fine m

  stops : (r : Refusal) → AnyRefusal r → (s : State) → Fine s → AnyStop (stop_at r s.place)
  stops r i s h = tt

  infixr 20 ◌⨾ᶠ◌
  ◌⨾ᶠ◌ : {m n : Step} → Keeps m → Keeps n → Keeps (m ⨾ n)
  h ⨾ᶠ k = then AnyEntry AnyStop AnyRefusal h k

  due-fine : {m : Step} → Keeps m → Keeps (due ⨾ m)
  due-fine h = dued AnyEntry AnyStop AnyRefusal stops tt h

  mark-fine : (k n w : ℕ) → Keeps (mark k n w)
  unfolding mark listed
  mark-fine k n w = record { at = λ s h. ((tt, tt), h) }

  root-fine : (e : Env) (m : ℕ) (r : Option Class) → OtherRoot r → Keeps (read_root e m r)
  root-fine e m r w = stays-both (keeps-root j e m r w) (root-last NotBefore e m r)

  abbrev back : State → Bool
  back s = c.timed && ltb s.clock s.last

  above : (x : Bool) (a n : ℕ) → x && ltb a n ≡ false → (x ≡ true → v ≤ n) → x ≡ true → v ≤ a
  above false a n q h r = let z : ◌≡◌ {A = ℕ} 0 1 = cc in absurd (omega arith)
  above true a n q h r = omega (arith, ltb-false a n q, h refl)

  -- 39, and the last clock is set
  back-fine : {m : Step} → Keeps m → Keeps (check back ClockWentBack ⨾ change (λ s. with_last s.clock s) ⨾ m)
  unfolding with_last
  back-fine {m} h = tested AnyEntry AnyStop AnyRefusal stops back ClockWentBack tt
      (then AnyEntry AnyStop AnyRefusal
      (changing AnyEntry AnyStop AnyRefusal _ (λ s x. (x.0.0, above c.timed s.clock s.last x.1 x.0.1))) h)

  class-fine : (e : Env) (k l : ℕ) (x : Option EventClass) → t.event k l ≡ x
      → Keeps (with_event k l x (λ d. mark event_class_found 0 l ⨾ read_root e (common_number c) c.common ⨾ read_root e first_root d.specific
      ⨾ read_root e (payload_number d) d.payload))
  unfolding with_event
  class-fine e k l None q = refusing AnyEntry AnyStop AnyRefusal stops (EventClassUnknown k l) tt
  class-fine e k l (Some d) q =
      mark-fine event_class_found 0 l ⨾ᶠ root-fine e (common_number c) c.common (only.common i c found)
      ⨾ᶠ root-fine e first_root d.specific (only.specific k l d q)
      ⨾ᶠ root-fine e (payload_number d) d.payload (only.payload k l d q)

  start_fine : Keeps (change start_event)
  unfolding start_event
  start_fine = changing AnyEntry AnyStop AnyRefusal _ (λ s h. h)

  event-fine : (e : Env) (n : ℕ) → Keeps (read_event t c e n)
  unfolding read_event
  event-fine e n = record {
    at = λ s₀ h.
        (due-fine (mark-fine event_starts 0 n ⨾ᶠ start_fine ⨾ᶠ root-fine e (header_number c) c.header (only.header i c found)
        ⨾ᶠ back-fine (due-fine (record {
          at = λ s h. (class-fine e c.id s.said.event (t.event c.id s.said.event) refl).at s h;
        } ⨾ᶠ checks AnyEntry AnyStop AnyRefusal stops (λ s. eqb s.place.0 s₀.place.0) EventTookNoBits tt)))).at s₀ h;
  }

  end-fine : (to : BitPlace) (n : ℕ) → Keeps (end_packet to n)
  unfolding end_packet
  end-fine to n = due-fine (unfold listed in record { at = λ s h. ((tt, tt), h) })

  fine-if : (b : Bool) {m n : Step} → Keeps m → Keeps n → (s : State) → Fine s
      → Ok AnyEntry AnyStop AnyRefusal Fine (elim b [ true ↦ m s | false ↦ n s ])
  fine-if true h k s a = h.at s a
  fine-if false h k s a = k.at s a

  events-fine : (e : Env) (to : BitPlace) (n left : ℕ) → Keeps (read_events t c e to n left)
  unfolding read_events
  events-fine e to n zero = end-fine to n
  events-fine e to n (suc left) = record {
    at = λ s h. fine-if (ltb s.place.0 e.bound.0) (event-fine e n ⨾ᶠ events-fine e to (n + 1) left) (end-fine to n) s h;
  }

-- Packets

module _ (t : Asked) (b : List ℕ) (p : BitPlace) (rest : ℕ) (i : Option ℕ) (s : State) (es : List Entry) (u : State)
    (r : Ran t b p rest i s es u) where
  pub ends-behind : u.place.0 ≡ p.0 + total_of rest r.s₂
  ends-behind = ap (λ x. x.0)
      (events-end t r.c (up_to t b p (p.0 + content_of rest r.s₂)) _ 0 _ (less r.s₂) r.content.rest u r.content.events)

  module _ (only : HeaderOnly t) where
    abbrev NoEarlier : ℕ → Type 0
    NoEarlier n = r.c.timed ≡ true → s.last ≤ n

    header-last : NoEarlier r.s₁.last
    unfolding start_packet
    header-last = at-end (root-last NoEarlier (to_end t b p) first_root t.header) (start_packet s) r.es₁ r.s₁ r.header
        (λ q. le_refl s.last)

    context-fine : Fine t only r.c r.s₁.said.stream r.found r.s₁.said.stream s.last r.s₂
    context-fine = at-end
        (root-fine t only r.c r.s₁.said.stream r.found r.s₁.said.stream s.last (to_end t b p) first_root r.c.context
        (only.context r.s₁.said.stream r.c r.found)) (less r.s₁) r.es₂ r.s₂ r.context (refl, header-last)

    whole-fine : Fine t only r.c r.s₁.said.stream r.found r.s₁.said.stream s.last u
    whole-fine = at-end (events-fine t only r.c r.s₁.said.stream r.found r.s₁.said.stream s.last
        (up_to t b p (p.0 + content_of rest r.s₂)) _ 0 _)
        (less r.s₂) r.content.rest u r.content.events context-fine

    -- the stream class id is the header's
    pub ends-class : u.said.stream ≡ r.s₁.said.stream
    ends-class = whole-fine.0

    -- the class is the one of that id
    pub ends_found : t.stream u.said.stream ≡ Some r.c
    ends_found = ap t.stream ends-class ∙ r.found

    pub ends-no-earlier : r.c.timed ≡ true → s.last ≤ u.last
    ends-no-earlier = whole-fine.1

    -- whichever packet was the first, if it is of that class
    pub any-first : (i' : Option ℕ) → differs u.said.stream i' ≡ false → Ran t b p rest i' s es u
    any-first i' q = record {
      es₁ = r.es₁;
      s₁ = r.s₁;
      header = r.header;
      same = ap (λ x. differs x i') (sym ends-class) ∙ q;
      room = r.room;
      c = r.c;
      found = r.found;
      es₂ = r.es₂;
      s₂ = r.s₂;
      context = r.context;
      es₃ = r.es₃;
      content = r.content;
      list = r.list;
    }

  -- Lengths that are stated, one at least, or what stands for them

  stated : (x y : Option ℕ) (rest' : ℕ)
      → (or_else x y rest ≡ rest) ⊎ ((or_else x y rest ≡ or_else x y rest') × (or_else y x rest ≡ or_else y x rest'))
  unfolding or_else
  stated (Some m) (Some n) rest' = inr (refl, refl)
  stated (Some m) None rest' = inr (refl, refl)
  stated None (Some n) rest' = inr (refl, refl)
  stated None None rest' = inl refl

  -- a packet that does not end just there looks at no such number
  pub any-rest : (rest' : ℕ) → (u.place.0 ≡ p.0 + rest → ⊥) → Ran t b p rest' i s es u
  any-rest rest' d = by (stated r.s₂.said.total r.s₂.said.content rest')
    where
      by : (total_of rest r.s₂ ≡ rest)
          ⊎ ((total_of rest r.s₂ ≡ total_of rest' r.s₂) × (content_of rest r.s₂ ≡ content_of rest' r.s₂))
          → Ran t b p rest' i s es u
      by (inl q) = absurd (d (ends-behind ∙ ap (λ n. p.0 + n) q))
      by (inr q) = record {
        es₁ = r.es₁;
        s₁ = r.s₁;
        header = r.header;
        same = r.same;
        room = r.room;
        c = r.c;
        found = r.found;
        es₂ = r.es₂;
        s₂ = r.s₂;
        context = r.context;
        es₃ = r.es₃;
        content = subst (λ n. RanContent t r.c b p n (content_of rest' r.s₂) r.s₂ r.es₃ u) q.0
            (subst (λ n. RanContent t r.c b p (total_of rest r.s₂) n r.s₂ r.es₃ u) q.1 r.content);
        list = r.list;
      }
