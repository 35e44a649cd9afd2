-- An event that goes on has moved, and has not left the frame.
use Rattle.std.specs.Prelude.{Option, None, Some}
use mathlib.Core.Path.{◌≡◌, refl, subst}
use Prim.Native.Nat.{ℕ, ◌+◌, ◌≤◌, ◌<◌}
use native.Mathlib.Omega.{arith}
use mathlib.Core.List.{List}
use mathlib.Core.Bool.{Bool, true, false}
use mathlib.Core.Logic.{⊎_elim}
use lib.Dec.{eqb}
use borrow.Author.Tests.{eqb-false}
use Rattle.rules.specs.declared.Entry.{Entry}
use Rattle.rules.specs.declared.Refusal.{Refusal}
use Rattle.rules.specs.declared.Refusal.TheVariants.{EventTookNoBits}
use Rattle.rules.specs.Class.{Class}
use Rattle.facts.proofs.Numbers.{lt-or-ge}
use Rattle.rules.specs.Step.{State, Out, stop, go, Step, onto, after, ◌⨾◌, pass, refuse, check, due, listed, change, with_last}
use Rattle.rules.specs.Field.{Env}
use Rattle.rules.specs.Table.{StreamClass, EventClass, Asked}
use Rattle.rules.specs.Packet.{mark, read_root, with_event, start_event, read_event}
use Rattle.event_turns.specs.Roots.{parts_of}
use Rattle.outcome.proofs.Parted.{root-between}

-- what holds of the state where an outcome goes on
abbrev pub Onward : (State → Type 0) → Out → Type 0
Onward B (stop es v) = Unit {0}
Onward B (go es s) = B s

pub onward-onto : (B : State → Type 0) (es : List Entry) (o : Out) → Onward B o → Onward B (onto es o)
unfolding onto
onward-onto B es (stop fs v) h = tt
onward-onto B es (go fs s) h = h

pub onward-after : (A B : State → Type 0) (o : Out) (n : Step) → Onward A o → ((s : State) → A s → Onward B (n s)) → Onward B (after o n)
unfolding after
onward-after A B (stop es v) n h k = tt
onward-after A B (go es s) n h k = onward-onto B es (n s) (k s h)

pub onward-out : (B : State → Type 0) (o : Out) (es : List Entry) (s : State) → o ≡ go es s → Onward B o → B s
onward-out B o es s e h = subst (Onward B) e h

module _ (e : Env) (q : ℕ) where
  -- from q on, within the frame
  abbrev Here : State → Type 0
  Here s = (q ≤ s.place.0) × (e.start.0 ≤ s.place.0) × (s.place.0 ≤ e.bound.0)

  row : (B : State → Type 0) (m g : Step) (s : State) → Onward Here (m s) → ((s : State) → Here s → Onward B (g s)) → Onward B ((m ⨾ g) s)
  unfolding ◌⨾◌
  row B m g s h k = onward-after Here B (m s) g h k

  here-check : (t : State → Bool) (r : Refusal) (s : State) → Here s → Onward Here (check t r s)
  unfolding check pass refuse
  here-check t r s h = by (t s)
    where
      by : (b : Bool) → Onward Here (elim b [ true ↦ refuse r s | false ↦ pass s ])
      by true = tt
      by false = h

  here-root : (m : ℕ) (c : Option Class) (s : State) → Here s → Onward Here (read_root e m c s)
  here-root m c s h = by (read_root e m c s) refl
    where
      by : (o : Out) → read_root e m c s ≡ o → Onward Here o
      by (stop es v) k = tt
      by (go es s') k =
          let p = root-between e m c s es s' h.1 h.2 k in
          (omega (arith, p.0, h.0), omega (arith, p.0, h.1), p.1)

  module _ (a : Asked) (c : StreamClass) where
    here-look : (s : State) (o : Option EventClass) (s' : State) → Here s'
        → Onward Here (with_event c.id s.said.event o (λ d. mark 5 0 s.said.event ⨾ parts_of e c d) s')
    unfolding with_event refuse mark listed parts_of
    here-look s None s' h = tt
    here-look s (Some d) s' h =
        row Here (mark 5 0 s.said.event) _ s' h (λ s h. row Here (read_root e _ c.common) _ s (here-root _ c.common s h)
        (λ s h. row Here (read_root e _ d.specific) _ s (here-root _ d.specific s h) (λ s h. here-root _ d.payload s h)))

-- behind 38: the place is further on, and not past the bound
module _ (e : Env) (s₀ : State) where
  abbrev pub MovedOn : State → Type 0
  MovedOn s = (s₀.place.0 < s.place.0) × (s.place.0 ≤ e.bound.0)

  moved-check : (s : State) → Here e s₀.place.0 s → Onward MovedOn (check (λ s. eqb s.place.0 s₀.place.0) EventTookNoBits s)
  unfolding check pass refuse
  moved-check s h = by (eqb s.place.0 s₀.place.0) refl
    where
      apart : (x y : ℕ) → (x ≡ y → ⊥) → y ≤ x → y < x
      apart x y n l = ⊎_elim (λ (k : x < y + 1). absurd (n (omega arith))) (λ (k : y + 1 ≤ x). omega arith) (lt-or-ge x (y + 1))

      by : (b : Bool) → eqb s.place.0 s₀.place.0 ≡ b → Onward MovedOn (elim b [ true ↦ refuse EventTookNoBits s | false ↦ pass s ])
      by true k = tt
      by false k = (apart s.place.0 s₀.place.0 (eqb-false _ _ k) h.0, h.2)

  pub event-moves : (a : Asked) (c : StreamClass) (n : ℕ) → e.start.0 ≤ s₀.place.0 → s₀.place.0 ≤ e.bound.0
      → Onward MovedOn (read_event a c e n s₀)
  unfolding read_event due change mark listed start_event with_last parts_of
  event-moves a c n h k =
      let q = s₀.place.0 in
      let first : Here e q s₀ = (omega arith, h, k) in
      row e q MovedOn due _ s₀ (here-check e q _ _ s₀ first) (λ s h.
      row e q MovedOn (mark 4 0 n) _ s h (λ s h.
      row e q MovedOn (change start_event) _ s h (λ s h.
      row e q MovedOn (read_root e _ c.header) _ s (here-root e q _ c.header s h) (λ s h.
      row e q MovedOn (check _ _) _ s (here-check e q _ _ s h) (λ s h.
      row e q MovedOn (change (λ s. with_last s.clock s)) _ s h (λ s h.
      row e q MovedOn due _ s (here-check e q _ _ s h) (λ s h.
      row e q MovedOn _ _ s (here-look e q a c s _ s h) (λ s h. moved-check s h))))))))
