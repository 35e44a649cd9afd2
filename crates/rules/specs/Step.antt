-- Steps of a reading, one after another. A step lists entries, and goes on or stops.
use Rattle.rules.specs.declared.Order.{Order}
use Rattle.std.specs.Prelude.{ℕ, ◌-◌, List, [], ◌∷◌, ◌++◌, Bool, true, false, ltb, Option}
use Rattle.rules.specs.declared.BitPlace.{BitPlace}
use Rattle.rules.specs.declared.Said.{Said}
use Rattle.rules.specs.declared.Entry.{Entry}
use Rattle.rules.specs.declared.Refusal.{Refusal}
use Rattle.rules.specs.declared.Refusal.TheVariants.{ListFull}
use Rattle.rules.specs.declared.Stop.{Stop}
use Rattle.rules.specs.Limits.{words_per_entry}
use Rattle.rules.specs.Slots.{Slots}
use Rattle.rules.specs.Verdict.{stop_at}

-- the place; the words that the list has left; the slots; the order of the packet's last field of kind 16 to 20; the clock; the last
-- event's clock; what the roles said
pub record State : Type 0 where
  pub place : BitPlace
  pub room : ℕ
  pub slots : Slots
  pub order : Option Order
  pub clock : ℕ
  pub last : ℕ
  pub said : Said

-- the entries that a step listed, and why it stopped or the state behind it. "Entries stay" (Refusing a stream)
pub data Out : Type 0 where
  stop : List Entry → Stop → Out
  go : List Entry → State → Out

abbrev pub Step : Type 0
Step = State → Out

unfoldable pub onto : List Entry → Out → Out
onto es (stop fs v) = stop (es ++ fs) v
onto es (go fs s) = go (es ++ fs) s

unfoldable pub after : Out → Step → Out
after (stop es v) n = stop es v
after (go es s) n = onto es (n s)

-- one step, then another
infixr 20 ◌⨾◌
unfoldable pub ◌⨾◌ : Step → Step → Step
(m ⨾ n) s = after (m s) n

-- nothing to do
unfoldable pub pass : Step
pass s = go [] s

-- "The place is where the failing step began" (Refusing a stream)
unfoldable pub refuse : Refusal → Step
refuse r s = stop [] (stop_at r s.place)

-- refused at a place of its own
unfoldable pub refuse_at : Refusal → BitPlace → Step
refuse_at r p s = stop [] (stop_at r p)

-- refused where a test holds
unfoldable pub check : (State → Bool) → Refusal → Step
check t r s = elim (t s) [ true ↦ refuse r s | false ↦ pass s ]

unfoldable pub check_at : (State → Bool) → Refusal → BitPlace → Step
check_at t r p s = elim (t s) [ true ↦ refuse_at r p s | false ↦ pass s ]

-- "40 is tested only where an entry is due, and there before all else": "under four words left" (Refusing a stream), five from
-- request 7 on
unfoldable pub due : Step
due = check (λ s. ltb s.room words_per_entry) ListFull

-- an entry is listed, and the place moves
unfoldable pub listed : Entry → BitPlace → Step
listed e p s = go (e ∷ []) (record {
  place = p;
  room = s.room - words_per_entry;
  slots = s.slots;
  order = s.order;
  clock = s.clock;
  last = s.last;
  said = s.said;
})

-- changes of a state, one field each
unfoldable pub change : (State → State) → Step
change f s = go [] (f s)

unfoldable pub with_slots : Slots → State → State
with_slots l s = record { place = s.place; room = s.room; slots = l; order = s.order; clock = s.clock; last = s.last; said = s.said }

unfoldable pub with_order : Option Order → State → State
with_order o s = record { place = s.place; room = s.room; slots = s.slots; order = o; clock = s.clock; last = s.last; said = s.said }

unfoldable pub with_clock : ℕ → State → State
with_clock c s = record { place = s.place; room = s.room; slots = s.slots; order = s.order; clock = c; last = s.last; said = s.said }

unfoldable pub with_last : ℕ → State → State
with_last c s = record { place = s.place; room = s.room; slots = s.slots; order = s.order; clock = s.clock; last = c; said = s.said }

unfoldable pub with_said : Said → State → State
with_said d s = record { place = s.place; room = s.room; slots = s.slots; order = s.order; clock = s.clock; last = s.last; said = d }
