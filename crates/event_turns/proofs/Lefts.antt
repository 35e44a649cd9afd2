-- What a turn gives, test by test: the branch of the definition that the code took. In order: the root that is next; the lookup; a turn.
use Rattle.std.specs.Prelude.{Some, None, Option}
use mathlib.Core.Path.{◌≡◌, refl, ap, sym, ◌∙◌}
use Prim.Native.Nat.{ℕ, suc, ◌+◌, ◌-◌, ◌≤◌, ◌<◌, max}
use native.Mathlib.Omega.{arith}
use mathlib.Core.List.{List, [], ◌∷◌, ◌++◌}
use mathlib.Core.Bool.{true, false, ◌&&◌}
use mathlib.Core.Logic.{◌⊎◌, inl, inr}
use lib.ListN.{drop}
use lib.Dec.{ltb}
use borrow.Author.Tests.{eq-eqb, ne_eqb}
use Rattle.facts.proofs.Numbers.{lt-or-ge}
use Rattle.rules.specs.declared.BitPlace.{BitPlace}
use Rattle.rules.specs.declared.Refusal.{Refusal}
use Rattle.rules.specs.declared.Refusal.TheVariants.{ClockWentBack, EventClassUnknown, ListFull}
use Rattle.rules.specs.Limits.{words_per_entry}
use Rattle.rules.specs.Entry.{entry, words, event_class_found}
use Rattle.class_layout.specs.Fragments.{find_event_at, fragments_of}
use Rattle.field_runs.specs.Run.{members_run}
use Rattle.event_turns.specs.declared.Asking.{Asking}
use Rattle.event_turns.specs.declared.Due.{Due}
use Rattle.event_turns.specs.declared.LookedUp.{LookedUp}
use Rattle.event_turns.specs.declared.Turn.{Turn}
use Rattle.event_turns.specs.Left.{turns, root_found, none_due, due_of, due_in, next_due, listed_into}
use Rattle.event_turns.specs.Left.{looked_on, not_looked, LookupLeft, refused_left, class_left, lookup_left, looked_left}
use Rattle.event_turns.specs.Left.{stopped_turn, due_turn, turn_behind}

-- the root that is next

module _ (t : List ℕ) (w : Asking) (class turn : ℕ) where
  pub due-end : turns ≤ turn → next_due t w class turn ≡ none_due turn
  unfolding next_due due_in
  due-end h = let e : turns - turn ≡ 0 = omega arith in rw (e) refl

  module _ (h : turn < turns) where
    one-turn : turns - turn ≡ suc (turns - (turn + 1))
    one-turn = omega arith

    pub due-at : (p : ℕ) → Some p ≡ root_found t w turn class → next_due t w class turn ≡ record { turn = turn + 1; run = members_run p 1 }
    unfolding next_due due_in due_of
    due-at p e = rw (one-turn, ← e) refl

    pub due-behind : None ≡ root_found t w turn class → next_due t w class turn ≡ next_due t w class (turn + 1)
    unfolding next_due due_in due_of
    due-behind e = rw (one-turn, ← e) refl

-- the turns are over: none had a root
pub due-over : (t : List ℕ) (w : Asking) (class from turn m : ℕ) → turns ≤ turn → (from ≤ turns → turn ≤ turns) → m ≡ max turns from
    → next_due t w class turn ≡ next_due t w class from → none_due m ≡ next_due t w class from
due-over t w class from turn m over bound last so_far = by (lt-or-ge from turns)
  where
    by : (from < turns) ⊎ (turns ≤ from) → none_due m ≡ next_due t w class from
    by (inl h) = let e : m ≡ turn = omega (arith, last, bound (omega arith)) in ap none_due e ∙ sym (due-end t w class turn over) ∙ so_far
    by (inr h) = let e : m ≡ from = omega (arith, last) in ap none_due e ∙ sym (due-end t w class from h)

-- the lookup

module _ (t : List ℕ) (w : Asking) (p : BitPlace) (clock last id room : ℕ) where
  pub left_back : (w.timed && ltb clock last) ≡ true → lookup_left t w p clock last id room ≡ refused_left ClockWentBack
  unfolding lookup_left
  left_back b = rw (lookup_left, b) refl

  module _ (b : (w.timed && ltb clock last) ≡ false) where
    pub left-full : ltb room words_per_entry ≡ true → lookup_left t w p clock last id room ≡ refused_left ListFull
    unfolding lookup_left
    left-full h = rw (lookup_left, b, h) refl

    left-looked : ltb room words_per_entry ≡ false
        → lookup_left t w p clock last id room ≡ class_left w p clock id (find_event_at t (fragments_of t) w.id id)
    unfolding lookup_left
    left-looked h = rw (lookup_left, b, h) refl

    module _ (h : ltb room words_per_entry ≡ false) {o : Option ℕ} (looked : o ≡ find_event_at t (fragments_of t) w.id id) where
      pub left-unknown : o ≡ None → lookup_left t w p clock last id room ≡ refused_left (EventClassUnknown w.id id)
      unfolding class_left
      left-unknown is = left-looked h ∙ ap (class_left w p clock id) (sym looked ∙ is)

      pub left-found : (class : ℕ) → o ≡ Some class → lookup_left t w p clock last id room ≡ class_left w p clock id (Some class)
      left-found class is = left-looked h ∙ ap (class_left w p clock id) (sym looked ∙ is)

-- in its turn, and in any other

module _ (t : List ℕ) (w : Asking) (turn class : ℕ) (p : BitPlace) (clock last id room : ℕ) where
  pub left-lookup : turn ≡ 1 → looked_left t w turn class p clock last id room ≡ lookup_left t w p clock last id room
  unfolding looked_left
  left-lookup h = rw (looked_left, eq-eqb _ _ h) refl

  pub left_other : (turn ≡ 1 → ⊥)
      → looked_left t w turn class p clock last id room ≡ record { result = looked_on class last turn 0; listed = [] }
  unfolding looked_left
  left_other h = rw (looked_left, ne_eqb _ _ h) refl

-- what the code gives back of the lookup and the list behind it, by the branch

abbrev pub LookupGives : LookupLeft → LookedUp → List ℕ → List ℕ → Type 0
LookupGives o r ws ws' = (r ≡ o.result) × (ws' ≡ listed_into o.listed ws)

pub gives_other : (o : LookupLeft) (class last turn : ℕ) (r : LookedUp) (ws : List ℕ)
    → o ≡ record { result = looked_on class last turn 0; listed = [] } → r ≡ looked_on class last turn 0 → LookupGives o r ws ws
unfolding words
gives_other o class last turn r ws left e = rw (left) (e, refl)

pub gives-refused : (o : LookupLeft) (why : Refusal) (r : LookedUp) (ws : List ℕ) → o ≡ refused_left why → r ≡ not_looked why
    → LookupGives o r ws ws
unfolding words
gives-refused o why r ws left e = rw (left) (e, refl)

pub gives_found : (o : LookupLeft) (w : Asking) (p : BitPlace) (clock id class : ℕ) (r : LookedUp) (ws ws' : List ℕ)
    → o ≡ class_left w p clock id (Some class) → r ≡ looked_on class clock 2 words_per_entry
    → ws' ≡ words (entry event_class_found p 0 id 0 ∷ []) ++ drop words_per_entry ws → LookupGives o r ws ws'
unfolding class_left
gives_found o w p clock id class r ws ws' left e list = rw (left) (e, list)

-- a turn, by what its lookup gave

module _ (t : List ℕ) (w : Asking) (p : BitPlace) (o o' : LookedUp) (gave : o ≡ o') where
  pub turn_stopped : (r : Turn) → o.on ≡ false → r ≡ stopped_turn o.why p → r ≡ turn_behind t w p o'
  unfolding turn_behind
  turn_stopped r off e = rw (← gave, off) e

  pub turn-due : (d : Due) → o.on ≡ true → d ≡ next_due t w o.class o.turn → due_turn o d ≡ turn_behind t w p o'
  unfolding turn_behind
  turn-due d on e = rw (← gave, on, e) refl
