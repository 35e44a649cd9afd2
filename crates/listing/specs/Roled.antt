-- What a role does: one that lists nothing, and the clock's.
use Rattle.std.specs.Prelude.{ℕ, ◌^◌, ◌<◌, ◌≡◌, List, [], ◌∷◌, ◌++◌, true, false, eqb, ltb, drop, Option, None, Some, Ok, Err}
use Rattle.rules.specs.declared.BitPlace.{BitPlace}
use Rattle.rules.specs.declared.Refusal.{Refusal}
use Rattle.rules.specs.declared.Refusal.TheVariants.{WrongMagic, ListFull, ClockTooLarge}
use Rattle.rules.specs.declared.Said.{Said}
use Rattle.rules.specs.Clock.{clock_after}
use Rattle.rules.specs.Entry.{entry, words, clock_advanced}
use Rattle.rules.specs.Limits.{magic_number, words_per_entry}
use Rattle.clock.specs.declared.Clock.{Clock}
use Rattle.listing.specs.declared.Progress.{Progress}
use Rattle.listing.specs.declared.role.Roled.{Roled}
use Rattle.listing.specs.declared.role.Advanced.{Advanced}

abbrev pub on_done : Progress → Roled
on_done st = record { went = Ok tt; used = 0; state = st }

abbrev pub stopped_done : Refusal → Progress → Roled
stopped_done r st = record { went = Err (record { why = r; place = st.place }); used = 0; state = st }

abbrev pub said_done : Progress → Said → Roled
said_done st d = on_done (record { place = st.place; order = st.order; clock = st.clock; last = st.last; said = d })

unfoldable pub magic_done : ℕ → Progress → Roled
magic_done v st = elim (eqb v magic_number) [ true ↦ on_done st | false ↦ stopped_done WrongMagic st ]

abbrev pub ticked_state : Progress → Clock → Progress
ticked_state st c = record { place = st.place; order = st.order; clock = c; last = st.last; said = st.said }

-- the clock by numbers: no room (40), then a clock above 64 bits (36), which both leave it as it was; else the new one
abbrev pub held_at : Refusal → Clock → Advanced
held_at why c = record { on = false; why = why; clock = c }

unfoldable pub stepped_to : Option ℕ → Clock → Advanced
stepped_to None c = held_at ClockTooLarge c
stepped_to (Some n) c = record { on = true; why = ClockTooLarge; clock = record { value = n } }

unfoldable pub advanced_by : ℕ → ℕ → Clock → ℕ → Advanced
advanced_by w v c room = elim (ltb room words_per_entry) [ true ↦ held_at ListFull c | false ↦ stepped_to (clock_after c.value w v) c ]

-- the list behind it: entry 6, "place after the field, L, clock"
unfoldable pub list_advanced : BitPlace → ℕ → Advanced → List ℕ → List ℕ
list_advanced p w a ws =
    elim a.on [ true ↦ words (entry clock_advanced p w a.clock.value 0 ∷ []) ++ drop words_per_entry ws | false ↦ ws ]

-- the same with a state
unfoldable pub advanced_role : Progress → Advanced → Roled
advanced_role st a =
    elim a.on [ true ↦ record { went = Ok tt; used = words_per_entry; state = ticked_state st a.clock } | false ↦ stopped_done a.why st ]

-- what each role says, as the rules change it
abbrev pub with_stream : ℕ → Said → Said
with_stream v d = record { stream = v; total = d.total; content = d.content; ending = d.ending; event = d.event }

abbrev pub with_total : ℕ → Said → Said
with_total v d = record { stream = d.stream; total = Some v; content = d.content; ending = d.ending; event = d.event }

abbrev pub with_content : ℕ → Said → Said
with_content v d = record { stream = d.stream; total = d.total; content = Some v; ending = d.ending; event = d.event }

abbrev pub with_ending : ℕ → Said → Said
with_ending v d = record { stream = d.stream; total = d.total; content = d.content; ending = Some v; event = d.event }

abbrev pub with_event : ℕ → Said → Said
with_event v d = record { stream = d.stream; total = d.total; content = d.content; ending = d.ending; event = v }

-- a number with the clock's role has no more bits than its field
abbrev pub Stamp : ℕ → ℕ → ℕ → Type 0
Stamp role width v = role ≡ 7 → v < 2 ^ width
