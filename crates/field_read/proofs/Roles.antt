-- A role moves neither the place nor the order of the last field.
use Rattle.std.specs.Prelude.{Option, None, Some}
use mathlib.Core.Path.{◌≡◌, refl}
use mathlib.Core.List.{[]}
use mathlib.Core.Bool.{Bool, true, false, not}
use Prim.Native.Nat.{ℕ}
use lib.Dec.{eqb, ltb}
use Rattle.rules.specs.declared.Refusal.TheVariants.{ListFull, WrongMagic}
use Rattle.rules.specs.Limits.{words_per_entry, magic_number}
use Rattle.rules.specs.Class.{Role, no_role, magic, stream_class_id, stream_id, uuid, total_length, content_length, clock, end_clock, discarded}
use Rattle.rules.specs.Class.{sequence, event_class_id}
use Rattle.rules.specs.Step.{State, Out, stop, go, onto, after, ◌⨾◌, pass, refuse, check, due, listed, change, with_clock, with_said}
use Rattle.rules.specs.Clock.{clock_after}
use Rattle.rules.specs.Field.{new_clock, say, role}

-- what went on stands where it began
unfoldable pub Stays : State → Out → Type 0
Stays s (stop es v) = Unit {0}
Stays s (go es z) = (z.place ≡ s.place) × (z.order ≡ s.order)

clock-stays : (l : ℕ) (c : Option ℕ) (s : State) → Stays s (onto [] (new_clock l c s))
unfolding Stays new_clock refuse onto ◌⨾◌ after listed change with_clock
clock-stays l None s = tt
clock-stays l (Some c) s = (refl, refl)

pub role-stays : (r : Role) (l v : ℕ) (s : State) → Stays s (role r l v s)
unfolding Stays role pass check due say change with_said refuse ◌⨾◌ after
role-stays no_role l v s = (refl, refl)
role-stays magic l v s = by (not (eqb v magic_number))
  where
    by : (b : Bool) → Stays s (elim b [ true ↦ refuse WrongMagic s | false ↦ pass s ])
    by true = tt
    by false = (refl, refl)
role-stays stream_class_id l v s = (refl, refl)
role-stays stream_id l v s = (refl, refl)
role-stays uuid l v s = (refl, refl)
role-stays total_length l v s = (refl, refl)
role-stays content_length l v s = (refl, refl)
role-stays clock l v s = by (ltb s.room words_per_entry)
  where
    by : (b : Bool) → Stays s (after (elim b [ true ↦ refuse ListFull s | false ↦ pass s ]) (λ z. new_clock l (clock_after z.clock l v) z))
    by true = tt
    by false = clock-stays l _ s
role-stays end_clock l v s = (refl, refl)
role-stays discarded l v s = (refl, refl)
role-stays sequence l v s = (refl, refl)
role-stays event_class_id l v s = (refl, refl)
