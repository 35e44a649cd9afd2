-- What a field holds, with the depths that the field itself may have: it stands whole, and is read the same, as one depth less.
use mathlib.Core.Path.{◌≡◌, refl, ap}
use Prim.Native.Nat.{ℕ, ◌≤◌}
use mathlib.Core.List.{List}
use Rattle.rules.specs.declared.BitPlace.{BitPlace}
use Rattle.rules.specs.Entry.{entry}
use Rattle.rules.specs.Step.{State, ◌⨾◌, listed}
use Rattle.rules.specs.Field.{Env, times, read, read_members}
use Rattle.frame.specs.declared.Frame.{Frame}
use Rattle.class_layout.specs.Numbers.{number_at}
use Rattle.class_layout.proofs.Depths.{deeper, members-deeper}
use Rattle.field_inside.specs.declared.look.Inside.{Inside}
use Rattle.field_inside.specs.declared.look.Inside.TheVariants.{Members, Elements, Refused}
use Rattle.field_inside.specs.Inside.{element_of, opened}
use Rattle.field_inside.specs.Held.{Held}

module _ (d d' : ℕ) (t : List ℕ) (l : d ≤ d') (f : Frame) (from : BitPlace) where
  pub held-deeper : (i : Inside) → Held d t f from i → Held d' t f from i
  unfolding Held
  held-deeper (Members p v at n) h = record { place = h.place; classes = (members-deeper d d' t at n l h.classes).stand }
  held-deeper (Elements p v at n) h = record { place = h.place; class = (deeper d d' t l at h.class).0 }
  held-deeper (Refused v) h = tt

  pub opened-deeper : (e : Env) (m k : ℕ) (i : Inside) (s : State) → Held d t f from i → opened e m k d t i s ≡ opened e m k d' t i s
  unfolding Held opened
  opened-deeper e m k (Members p v at n) s h =
      ap (λ cs. (listed (entry k p 0 v m) p ⨾ read_members e (number_at t at) cs) s) (members-deeper d d' t at n l h.classes).same
  opened-deeper e m k (Elements p v at n) s h =
      ap (λ c. (listed (entry k p 0 v m) p ⨾ times n (element_of e (number_at t at) c.class)) s) (deeper d d' t l at h.class).1
  opened-deeper e m k (Refused v) s h = refl
