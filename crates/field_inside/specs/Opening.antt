-- A field of kinds 28 to 32 opened, by what is told of it: its place and what it holds, in numbers alone; and the list behind its entry.
use Rattle.std.specs.Prelude.{ℕ, List, [], ◌∷◌, ◌++◌, Bool, true, false, drop, eqb, ltb}
use Rattle.rules.specs.declared.BitPlace.{BitPlace}
use Rattle.rules.specs.declared.Refusal.TheVariants.{PastBound}
use Rattle.rules.specs.Limits.{words_per_entry}
use Rattle.rules.specs.Entry.{entry, words}
use Rattle.frame.specs.declared.Frame.{Frame}
use Rattle.frame.specs.Framed.{aligned_at}
use Rattle.class_layout.specs.Notes.{sets_noted}
use Rattle.field_inside.specs.declared.look.Inside.{Inside}
use Rattle.field_inside.specs.declared.look.Inside.TheVariants.{Members, Elements, Refused}
use Rattle.field_inside.specs.declared.opening.Opened.{Opened}
use Rattle.field_inside.specs.declared.opening.Entered.{Entered}

-- n members from a byte on, or n elements of the class there
unfoldable pub went_in : BitPlace → ℕ → ℕ → Bool → ℕ → Opened
went_in p from n elements forgets =
    record { on = true; why = PastBound; place = p; from = from; count = n; elements = elements; forgets = forgets }

-- what is forgotten around each of n elements of the class at a byte, as it is noted; nothing where there is no element
unfoldable pub forgets_at : List ℕ → ℕ → ℕ → ℕ
forgets_at a from n = elim (eqb n 0) [ true ↦ 0 | false ↦ sets_noted a from ]

unfoldable pub opened_as : List ℕ → Inside → Opened
opened_as a (Members q v from n) = went_in q from n false 0
opened_as a (Elements q v from n) = went_in q from n true (forgets_at a from n)
opened_as a (Refused v) =
    record { on = false; why = v.why; place = v.place; from = 0; count = 0; elements = false; forgets = 0 }

-- the list behind the entry of a field of the kind k, which has no bits of its own; m is its record's number
abbrev pub list_holder : ℕ → BitPlace → ℕ → ℕ → List ℕ → List ℕ
list_holder k p v m ws = words (entry k p 0 v m ∷ []) ++ drop words_per_entry ws

unfoldable pub list_opened : ℕ → ℕ → Inside → List ℕ → List ℕ
list_opened k m (Members q v from n) ws = list_holder k q v m ws
list_opened k m (Elements q v from n) ws = list_holder k q v m ws
list_opened k m (Refused v) ws = ws

-- a structure, aligned to so many bits: its place lies past the bound, at which it is refused; or it is entered there
unfoldable pub entered_at : Frame → ℕ → BitPlace → Entered
entered_at f a p = elim (ltb f.bound.0 (aligned_at f a p).0) [
  | true ↦ record { on = false; place = f.bound }
  | false ↦ record { on = true; place = aligned_at f a p }
]

unfoldable pub list_entered : Frame → ℕ → BitPlace → ℕ → ℕ → List ℕ → List ℕ
list_entered f a p n m ws = elim (ltb f.bound.0 (aligned_at f a p).0) [ true ↦ ws | false ↦ list_holder 28 (aligned_at f a p) n m ws ]
