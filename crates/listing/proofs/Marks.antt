-- Steps that list nothing or one entry, in front of others.
use mathlib.Core.Path.{◌≡◌, refl, ap, ◌∙◌}
use mathlib.Core.List.{[], ◌∷◌}
use mathlib.Core.Bool.{Bool, true, false}
use Prim.Native.Nat.{ℕ, ◌-◌, ◌<◌}
use Rattle.rules.specs.declared.Refusal.{Refusal}
use Rattle.rules.specs.declared.Refusal.TheVariants.{ListFull}
use Rattle.rules.specs.Limits.{words_per_entry}
use Rattle.rules.specs.Verdict.{stop_at}
use Rattle.rules.specs.Entry.{entry}
use Rattle.rules.specs.Step.{State, stop, Step, onto, after, ◌⨾◌, refuse, check, due, listed, change}
use Rattle.rules.specs.Packet.{mark}
use Rattle.facts.proofs.Steps.{onto-nil}
use Rattle.listing.proofs.Checks.{check-stops, check-goes, no-room-first}

pub check-stop : (q : State → Bool) (r : Refusal) (m : Step) (s : State) → q s ≡ true → (check q r ⨾ m) s ≡ stop [] (stop_at r s.place)
unfolding ◌⨾◌ after refuse
check-stop q r m s h = ap (λ o. after o m) (check-stops q r s h)

pub check-on : (q : State → Bool) (r : Refusal) (m : Step) (s : State) → q s ≡ false → (check q r ⨾ m) s ≡ m s
unfolding ◌⨾◌ after
check-on q r m s h = ap (λ o. after o m) (check-goes q r s h) ∙ onto-nil (m s)

pub due-stop : (m : Step) (s : State) → s.room < words_per_entry → (due ⨾ m) s ≡ stop [] (stop_at ListFull s.place)
unfolding refuse
due-stop m s h = no-room-first m s h

-- the state behind an entry at the place
abbrev pub less : State → State
less s = record { place = s.place; room = s.room - words_per_entry; slots = s.slots; order = s.order; clock = s.clock; last = s.last; said = s.said }

pub mark_on : (k n v : ℕ) (m : Step) (s : State) → (mark k n v ⨾ m) s ≡ onto (entry k s.place n v 0 ∷ []) (m (less s))
unfolding ◌⨾◌ after mark listed
mark_on k n v m s = refl

pub change-on : (f : State → State) (m : Step) (s : State) → (change f ⨾ m) s ≡ m (f s)
unfolding ◌⨾◌ after change
change-on f m s = onto-nil (m (f s))
