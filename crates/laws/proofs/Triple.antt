-- What holds before a step and behind it, of the entries that it lists, and of the verdict where it stops.
use mathlib.Core.Path.{◌≡◌, refl}
use mathlib.Core.List.{List}
use mathlib.Core.Bool.{Bool, true, false}
use Rattle.rules.specs.declared.BitPlace.{BitPlace}
use Rattle.rules.specs.declared.Entry.{Entry}
use Rattle.rules.specs.declared.Refusal.{Refusal}
use Rattle.rules.specs.declared.Refusal.TheVariants.{ListFull}
use Rattle.rules.specs.declared.Stop.{Stop}
use Rattle.rules.specs.Verdict.{stop_at}
use Rattle.rules.specs.Step.{State, Out, stop, go, Step, onto, after, ◌⨾◌, refuse, refuse_at, check, check_at, due, change, pass}
use Rattle.laws.specs.All.{All}
use Rattle.laws.proofs.All.{all_append}

-- Q of every entry, U of where it stops; I is what is asked of a refusal's ids
module _ (Q : Entry → Type 0) (U : Stop → Type 0) (I : Refusal → Type 0) where
  abbrev pub Ok : (State → Type 0) → Out → Type 0
  Ok B (stop es v) = All Q es × U v
  Ok B (go es s) = All Q es × B s

  pub record Triple (A : State → Type 0) (m : Step) (B : State → Type 0) : Type 0 where
    pub at : (s : State) → A s → Ok B (m s)

  ok-onto : (B : State → Type 0) (es : List Entry) (o : Out) → All Q es → Ok B o → Ok B (onto es o)
  unfolding onto
  ok-onto B es (stop fs v) h k = (all_append Q es fs h k.0, k.1)
  ok-onto B es (go fs s) h k = (all_append Q es fs h k.0, k.1)

  pub ok-after : (A B : State → Type 0) (o : Out) (n : Step) → Ok A o → Triple A n B → Ok B (after o n)
  unfolding after
  ok-after A B (stop es v) n h k = h
  ok-after A B (go es s) n h k = ok-onto B es (n s) h.0 (k.at s h.1)

  module _ {A B C : State → Type 0} where
    pub then : {m n : Step} → Triple A m B → Triple B n C → Triple A (m ⨾ n) C
    unfolding ◌⨾◌
    then {m} {n} h k = record { at = λ s a. ok-after B C (m s) n (h.at s a) k }

  -- by a test's outcome: refused at a place, or what its failing tells
  by-test : (A : State → Type 0) (t : State → Bool) (r : Refusal) (p : BitPlace) (s : State) → A s → U (stop_at r p) → (b : Bool) → t s ≡ b
      → Ok (λ s. A s × (t s ≡ false)) (elim b [ true ↦ refuse_at r p s | false ↦ pass s ])
  unfolding refuse_at pass
  by-test A t r p s h u true e = (tt, u)
  by-test A t r p s h u false e = (tt, (h, e))

  module _ {A : State → Type 0} where
    pub passing : Triple A pass A
    unfolding pass
    passing = record { at = λ s a. (tt, a) }

    pub changing : {B : State → Type 0} (f : State → State) → ((s : State) → A s → B (f s)) → Triple A (change f) B
    unfolding change
    changing f h = record { at = λ s a. (tt, h s a) }

    pub weaker : {A' B : State → Type 0} {m : Step} → ((s : State) → A' s → A s) → Triple A m B → Triple A' m B
    weaker f h = record { at = λ s a. h.at s (f s a) }

    pub looser : {B B' : State → Type 0} {m : Step} → ((s : State) → B s → B' s) → Triple A m B → Triple A m B'
    looser {B} {B'} {m} f h = record { at = λ s a. out (m s) (h.at s a) }
      where
        out : (o : Out) → Ok B o → Ok B' o
        out (stop es v) k = k
        out (go es s) k = (k.0, f s k.1)

    pub naming : {B : State → Type 0} (r : Refusal) → ((s : State) → A s → U (stop_at r s.place)) → Triple A (refuse r) B
    unfolding refuse
    naming r u = record { at = λ s h. (tt, u s h) }

    -- where a refusal at a place of its own will do
    module _ (r : Refusal) (p : BitPlace) (u : (s : State) → A s → U (stop_at r p)) where
      pub refusing-at : {B : State → Type 0} → Triple A (refuse_at r p) B
      unfolding refuse_at
      refusing-at = record { at = λ s h. (tt, u s h) }

      checking-at : (t : State → Bool) → Triple A (check_at t r p) (λ s. A s × (t s ≡ false))
      unfolding check_at
      checking-at t = record { at = λ s h. by-test A t r p s h (u s h) (t s) refl }

      pub tested_at : {B : State → Type 0} (t : State → Bool) {m : Step} → Triple (λ s. A s × (t s ≡ false)) m B
          → Triple A (check_at t r p ⨾ m) B
      tested_at {B} t {m} h = then (checking-at t) h

      pub untested-at : {B : State → Type 0} (t : State → Bool) {m : Step} → Triple A m B → Triple A (check_at t r p ⨾ m) B
      untested-at {B} t {m} h = then (checking-at t) (record { at = λ s a. h.at s a.0 })

    -- where a refusal at the state's place will do
    module _ (u : (r : Refusal) → I r → (s : State) → A s → U (stop_at r s.place)) where
      pub refusing : {B : State → Type 0} (r : Refusal) → I r → Triple A (refuse r) B
      refusing r i = naming r (u r i)

      -- a test, and what its failing tells
      pub checking : (t : State → Bool) (r : Refusal) → I r → Triple A (check t r) (λ s. A s × (t s ≡ false))
      unfolding check refuse refuse_at
      checking t r i = record { at = λ s h. by-test A t r s.place s h (u r i s h) (t s) refl }

      pub tested : {B : State → Type 0} (t : State → Bool) (r : Refusal) → I r → {m : Step} → Triple (λ s. A s × (t s ≡ false)) m B
          → Triple A (check t r ⨾ m) B
      tested {B} t r i {m} h = then (checking t r i) h

      pub untested : {B : State → Type 0} (t : State → Bool) (r : Refusal) → I r → {m : Step} → Triple A m B → Triple A (check t r ⨾ m) B
      untested {B} t r i {m} h = then (checking t r i) (record { at = λ s a. h.at s a.0 })

      pub checks : (t : State → Bool) (r : Refusal) → I r → Triple A (check t r) A
      checks t r i = looser (λ s a. a.0) (checking t r i)

      pub dued : I ListFull → {B : State → Type 0} {m : Step} → Triple A m B → Triple A (due ⨾ m) B
      unfolding due
      dued i {B} {m} h = untested _ ListFull i h
