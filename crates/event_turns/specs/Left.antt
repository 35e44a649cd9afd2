-- What an event begins with, and what a turn behind its header gives back and lists, by the table's bytes. In order: a root's run; the
-- root that is next; the lookup; a turn.
use Rattle.std.specs.Prelude.{ℕ, zero, suc, ◌+◌, ◌-◌, ◌*◌, ◌≡◌, List, [], ◌∷◌, ◌++◌, true, false, ◌&&◌, length, drop, ltb, eqb, Some, None, Option, Ok, Err}
use Rattle.rules.specs.declared.BitPlace.{BitPlace}
use Rattle.rules.specs.declared.Entry.{Entry}
use Rattle.rules.specs.declared.Refusal.{Refusal}
use Rattle.rules.specs.declared.Refusal.TheVariants.{ClockWentBack, EventClassUnknown, ListFull}
use Rattle.rules.specs.Limits.{words_per_entry}
use Rattle.rules.specs.Verdict.{stop_at}
use Rattle.rules.specs.Entry.{entry, words, event_class_found}
use Rattle.class_layout.specs.Fragments.{root_place, find_event_at, fragments_of}
use Rattle.field_runs.specs.declared.Run.{Run}
use Rattle.field_runs.specs.Run.{members_run}
use Rattle.event_turns.specs.declared.Asking.{Asking}
use Rattle.event_turns.specs.declared.Due.{Due}
use Rattle.event_turns.specs.declared.LookedUp.{LookedUp}
use Rattle.event_turns.specs.declared.Turn.{Turn}

-- the list, where entries were written into its front
abbrev pub listed_into : List Entry → List ℕ → List ℕ
listed_into es ws = words es ++ drop (words_per_entry * length es) ws

-- a root is one member; there is none, where it is not there
unfoldable pub root_run : Option ℕ → Run
root_run None = members_run 0 0
root_run (Some p) = members_run p 1

-- what an event begins with
unfoldable pub header_run : Asking → Run
header_run w = root_run w.header

-- behind the lookup come common, specific and payload
unfoldable pub root_found : List ℕ → Asking → ℕ → ℕ → Option ℕ
root_found t w turn class =
    elim (eqb turn 2) [
      | true ↦ w.common
      | false ↦ elim (eqb turn 3) [ true ↦ root_place t class 0 | false ↦ root_place t class 1 ]
    ]

-- an event has five turns
abbrev pub turns : ℕ
turns = 5

-- no root, up to a turn
unfoldable pub none_due : ℕ → Due
none_due turn = record { turn = turn; run = members_run 0 0 }

-- a root in its turn, or else what is due behind it
unfoldable pub due_of : ℕ → Due → Option ℕ → Due
due_of turn behind None = behind
due_of turn behind (Some p) = record { turn = turn + 1; run = members_run p 1 }

-- the first root from a turn on, of so many turns
unfoldable pub due_in : List ℕ → Asking → ℕ → ℕ → ℕ → Due
due_in t w class turn zero = none_due turn
due_in t w class turn (suc n) = due_of turn (due_in t w class (turn + 1) n) (root_found t w turn class)

unfoldable pub next_due : List ℕ → Asking → ℕ → ℕ → Due
next_due t w class turn = due_in t w class turn (turns - turn)

-- the class is known, or not asked for yet: where it stands, the clock that the next event's is held to, the turn that is next, the words
abbrev pub looked_on : ℕ → ℕ → ℕ → ℕ → LookedUp
looked_on class last turn used = record { on = true; why = ListFull; class = class; last = last; turn = turn; used = used }

abbrev pub not_looked : Refusal → LookedUp
not_looked why = record { on = false; why = why; class = 0; last = 0; turn = 0; used = 0 }

pub record LookupLeft : Type 0 where
  pub result : LookedUp
  pub listed : List Entry

-- what stopped listed nothing
abbrev pub refused_left : Refusal → LookupLeft
refused_left why = record { result = not_looked why; listed = [] }

-- the event's clock is the one that the next event's is held to; the common root's turn is next
unfoldable pub class_left : Asking → BitPlace → ℕ → ℕ → Option ℕ → LookupLeft
class_left w p clock id None = refused_left (EventClassUnknown w.id id)
class_left w p clock id (Some class) =
    record { result = looked_on class clock 2 words_per_entry; listed = entry event_class_found p 0 id 0 ∷ [] }

-- 39, room (40), the lookup (37)
unfoldable pub lookup_left : List ℕ → Asking → BitPlace → ℕ → ℕ → ℕ → ℕ → LookupLeft
lookup_left t w p clock last id room = elim (w.timed && ltb clock last) [
  | true ↦ refused_left ClockWentBack
  | false ↦ elim (ltb room words_per_entry) [
    | true ↦ refused_left ListFull
    | false ↦ class_left w p clock id (find_event_at t (fragments_of t) w.id id)
  ]
]

-- in the lookup's turn; any other one passes on what came
unfoldable pub looked_left : List ℕ → Asking → ℕ → ℕ → BitPlace → ℕ → ℕ → ℕ → ℕ → LookupLeft
looked_left t w turn class p clock last id room =
    elim (eqb turn 1) [
      | true ↦ lookup_left t w p clock last id room
      | false ↦ record { result = looked_on class last turn 0; listed = [] }
    ]

-- what stopped leaves nothing
abbrev pub stopped_turn : Refusal → BitPlace → Turn
stopped_turn why p = record { went = Err (stop_at why p); used = 0; class = 0; last = 0; turn = 0; run = members_run 0 0 }

-- behind the lookup, the root that is due is left to be read
abbrev pub due_turn : LookedUp → Due → Turn
due_turn o d = record { went = Ok tt; used = o.used; class = o.class; last = o.last; turn = d.turn; run = d.run }

unfoldable pub turn_behind : List ℕ → Asking → BitPlace → LookedUp → Turn
turn_behind t w p o = elim o.on [ true ↦ due_turn o (next_due t w o.class o.turn) | false ↦ stopped_turn o.why p ]

pub record TurnLeft : Type 0 where
  pub result : Turn
  pub listed : List Entry

-- what the code gives back, and the list behind it, are those
abbrev pub Gives : TurnLeft → Turn → List ℕ → List ℕ → Type 0
Gives o r ws ws' = (r ≡ o.result) × (ws' ≡ listed_into o.listed ws)

-- a root lists nothing of its own
abbrev pub behind_lookup : List ℕ → Asking → BitPlace → LookupLeft → TurnLeft
behind_lookup t w p o = record { result = turn_behind t w p o.result; listed = o.listed }

-- of an event whose class stands at a byte, at a place, with its clock, the last event's, its id, and so many words of room
unfoldable pub turn_left : List ℕ → Asking → ℕ → ℕ → BitPlace → ℕ → ℕ → ℕ → ℕ → TurnLeft
turn_left t w turn class p clock last id room = behind_lookup t w p (looked_left t w turn class p clock last id room)
