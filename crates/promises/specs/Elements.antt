-- "From now on, at the start and the end of each array element, the slots that any class inside that element can set become unset." (02, 3)
-- So behind an array that had an element none of them is set, whatever the elements were.
use Rattle.std.specs.Prelude.{◌≡◌, ℕ, ◌<◌, List, true}
use Rattle.rules.specs.declared.Entry.{Entry}
use Rattle.rules.specs.declared.Content.TheVariants.{Unset, Unsigned}
use Rattle.rules.specs.Slots.{slot_at}
use Rattle.rules.specs.Faults.{among}
use Rattle.rules.specs.Step.{State, go, Step, ◌⨾◌}
use Rattle.rules.specs.Class.{Class, static_array, dynamic_array, sets}
use Rattle.rules.specs.Field.{Env, forget, read}

-- no slot that the class, or any class inside it, can set is set
abbrev pub NoneSet : Class → State → Type 0
NoneSet c s = (i : ℕ) → among i (sets c) ≡ true → slot_at s.slots i ≡ Unset

-- where a step goes on, the state behind it
abbrev pub Behind : (State → Type 0) → Step → Type 0
Behind P m = (s : State) (es : List Entry) (s' : State) → m s ≡ go es s' → P s'

pub record Elements : Type 0 where
  -- at an element's start and at its end
  pub start : (c : Class) → Behind (NoneSet c) (forget c)
  pub end : (e : Env) (m : ℕ) (c : Class) → Behind (NoneSet c) (forget c ⨾ read e m c ⨾ forget c)
  -- behind an array that has an element
  pub static : (e : Env) (m n a : ℕ) (c : Class) → 0 < n → Behind (NoneSet c) (read e m (static_array n a c))
  pub dynamic : (e : Env) (m i a : ℕ) (c : Class) (n : ℕ) → 0 < n → (s : State) (es : List Entry) (s' : State)
      → slot_at s.slots i ≡ Unsigned n → read e m (dynamic_array i a c) s ≡ go es s' → NoneSet c s'
