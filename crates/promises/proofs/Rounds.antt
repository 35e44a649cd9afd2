-- The rounds of the event loop are enough: more of them change nothing. Each event that goes on has moved the place (38).
use Rattle.std.specs.Prelude.{Option, None, Some}
use mathlib.Core.Path.{◌≡◌, refl, ap}
use Prim.Native.Nat.{ℕ, zero, suc, ◌+◌, ◌-◌, ◌≤◌}
use native.Mathlib.Omega.{arith}
use native.Mathlib.Nat.{le_refl, suc-add}
use mathlib.Core.List.{List}
use mathlib.Core.Bool.{Bool, true, false}
use lib.Dec.{ltb, eqb}
use borrow.Author.Tests.{eqb-false, le-ltb}
use Rattle.rules.specs.declared.BitPlace.{BitPlace}
use Rattle.rules.specs.declared.Entry.{Entry}
use Rattle.rules.specs.declared.Refusal.TheVariants.{EventTookNoBits, ClockWentBack}
use Rattle.rules.specs.Class.{Class}
use Rattle.rules.specs.Step.{State, Out, stop, go, Step, onto, after, ◌⨾◌, refuse, check, pass, with_last}
use Rattle.rules.specs.Table.{StreamClass, EventClass, Asked}
use Rattle.rules.specs.Field.{Env}
use Rattle.rules.specs.Packet.{read_event, read_events, with_event, read_root, start_event, end_packet}
use Rattle.rules.specs.Packet.{first_root, header_number, common_number, payload_number}
use Rattle.facts.proofs.Truth.{if-agree}
use Rattle.promises.proofs.Rising.{RiseIn, Rise, rising_le, rise-check, rise-due, rise-change, rise-mark, rise-root}

-- a step that goes on, goes on from a place p or behind it
abbrev From : ℕ → Out → Type 0
From p (stop es v) = Unit {0}
From p (go es s) = p ≤ s.place.0

record Onward (m : Step) : Type 0 where
  at : (p : ℕ) (s : State) → p ≤ s.place.0 → From p (m s)

from-onto : (p : ℕ) (es : List Entry) (o : Out) → From p o → From p (onto es o)
unfolding onto
from-onto p es (stop fs v) h = tt
from-onto p es (go fs s) h = h

from-after : (p q : ℕ) (o : Out) (n : Step) → From p o → ((s : State) → p ≤ s.place.0 → From q (n s)) → From q (after o n)
unfolding after
from-after p q (stop es v) n h k = tt
from-after p q (go es s) n h k = from-onto q es (n s) (k s h)

rise-from : (e : Env) (p : ℕ) (s : State) (o : Out) → RiseIn e s.place.0 o → p ≤ s.place.0 → From p o
rise-from e p s (stop es v) h k = tt
rise-from e p s (go es s') h k = omega (arith, rising_le es s.place.0 s'.place.0 h)

rising : (e : Env) {m : Step} → Rise e m → Onward m
rising e {m} h = record { at = λ p s k. rise-from e p s (m s) (h.at s) k }

event-onward : (i j : ℕ) (x : Option EventClass) (f : EventClass → Step) → ((d : EventClass) → Onward (f d)) → Onward (with_event i j x f)
unfolding with_event refuse
event-onward i j None f h = record { at = λ p s k. tt }
event-onward i j (Some d) f h = h d

infixr 20 ◌⨾ᵒ◌
◌⨾ᵒ◌ : {m n : Step} → Onward m → Onward n → Onward (m ⨾ n)
unfolding ◌⨾◌
◌⨾ᵒ◌ {m} {n} h k = record { at = λ p s l. from-after p p (m s) n (h.at p s l) (λ s' l'. k.at p s' l') }

-- steps behind which the place is above p
record Above (p : ℕ) (m : Step) : Type 0 where
  at : (s : State) → p ≤ s.place.0 → From (suc p) (m s)

infixr 20 ◌⨾ᵃ◌
◌⨾ᵃ◌ : {p : ℕ} {m n : Step} → Onward m → Above p n → Above p (m ⨾ n)
unfolding ◌⨾◌
◌⨾ᵃ◌ {p} {m} {n} h k = record { at = λ s l. from-after p (suc p) (m s) n (h.at p s l) k.at }

above-moved : (p : ℕ) → Above p (check (λ s. eqb s.place.0 p) EventTookNoBits)
unfolding check refuse pass
above-moved p = record { at = λ s l. by s l (eqb s.place.0 p) refl }
  where
    by : (s : State) → p ≤ s.place.0 → (b : Bool) → eqb s.place.0 p ≡ b → From (suc p) (elim b [ true ↦ refuse EventTookNoBits s | false ↦ pass s ])
    by s l true h = tt
    by s l false h = let d : s.place.0 ≡ p → ⊥ = eqb-false s.place.0 p h in omega arith

event-moves : (t : Asked) (c : StreamClass) (e : Env) (n : ℕ) (s : State) → From (suc s.place.0) (read_event t c e n s)
unfolding read_event start_event with_last
event-moves t c e n s₀ =
    (rising e rise-due ⨾ᵃ rising e (rise-mark 4 0 n) ⨾ᵃ rising e (rise-change _ (λ s. refl)) ⨾ᵃ root (header_number c) c.header
    ⨾ᵃ rising e (rise-check _ ClockWentBack) ⨾ᵃ rising e (rise-change _ (λ s. refl)) ⨾ᵃ rising e rise-due
    ⨾ᵃ record {
      at = λ p s l. (event-onward c.id s.said.event _ _
          (λ d. rising e (rise-mark 5 0 s.said.event) ⨾ᵒ root (common_number c) c.common ⨾ᵒ root first_root d.specific
          ⨾ᵒ root (payload_number d) d.payload)).at p s l;
    }
    ⨾ᵃ above-moved s₀.place.0).at s₀ (le_refl s₀.place.0)
  where
    root : (m : ℕ) (x : Option Class) → Onward (read_root e m x)
    root m x = rising e (rise-root e m x)

-- steps that agree wherever an outcome goes on
after-agree : (p : ℕ) (o : Out) (n n' : Step) → From p o → ((s : State) → p ≤ s.place.0 → n s ≡ n' s) → after o n ≡ after o n'
unfolding after
after-agree p (stop es v) n n' h k = refl
after-agree p (go es s) n n' h k = ap (onto es) (k s h)

module _ (t : Asked) (c : StreamClass) (e : Env) (to : BitPlace) where
  over : (n more : ℕ) (s : State) → e.bound.0 ≤ s.place.0 → read_events t c e to n more s ≡ end_packet to n s
  unfolding read_events
  over n zero s h = refl
  over n (suc more) s h = simp (le-ltb _ _ h, read_events)

  rounds : (n left more : ℕ) (s : State) → e.bound.0 ≤ s.place.0 + left → read_events t c e to n (left + more) s ≡ read_events t c e to n left s
  unfolding read_events ◌⨾◌
  rounds n zero more s h = over n (zero + more) s (omega arith)
  rounds n (suc left) more s h =
      rw suc-add (if-agree (ltb s.place.0 e.bound.0) _ _ (end_packet to n s)
      (λ _. after-agree (suc s.place.0) (read_event t c e n s) _ _ (event-moves t c e n s) (λ s' l. rounds (n + 1) left more s' (omega arith))))

  -- at the rounds that the definition gives the loop
  pub event-rounds : (n more : ℕ) (s : State) → read_events t c e to n (e.bound.0 - s.place.0 + more) s ≡ read_events t c e to n (e.bound.0 - s.place.0) s
  event-rounds n more s = rounds n (e.bound.0 - s.place.0) more s (omega arith)
