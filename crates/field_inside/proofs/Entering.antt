-- A field opened, by what is told of it; and a structure entered, which is told the same.
use mathlib.Core.Path.{◌≡◌, refl, sym, ◌∙◌}
use Prim.Native.Nat.{ℕ, ◌≤◌, ◌<◌}
use mathlib.Core.List.{List}
use mathlib.Core.Bool.{Bool, true, false}
use lib.Dec.{ltb}
use borrow.Author.Tests.{lt-ltb, le-ltb}
use Rattle.rules.specs.declared.BitPlace.{BitPlace}
use Rattle.rules.specs.declared.Refusal.TheVariants.{PastBound}
use Rattle.rules.specs.Verdict.{stop_at}
use Rattle.facts.proofs.Truth.{clash}
use Rattle.frame.specs.declared.Frame.{Frame}
use Rattle.frame.specs.Framed.{aligned_at}
use Rattle.field_inside.specs.declared.look.Inside.{Inside}
use Rattle.field_inside.specs.declared.look.Inside.TheVariants.{Refused}
use Rattle.field_inside.specs.declared.opening.Entered.{Entered}
use Rattle.field_inside.specs.Inside.{within, standing}
use Rattle.field_inside.specs.Opening.{opened_as, list_holder, list_opened, entered_at, list_entered}

-- the record's number was read, and the field looked at
pub opened-by : (a : List ℕ) (k : ℕ) (ws : List ℕ) {n m : ℕ} {o i : Inside} (j : Inside) → n ≡ m → o ≡ i → o ≡ j
    → (opened_as a j ≡ opened_as a i) × (list_opened k n j ws ≡ list_opened k m i ws)
opened-by a k ws j number look e = rw (number, sym look ∙ e) (refl, refl)

abbrev entered : Bool → BitPlace → Entered
entered on p = record { on = on; place = p }

module _ (f : Frame) (a : ℕ) (from : BitPlace) (n m : ℕ) (ws : List ℕ) where
  pub entered-past : {p : BitPlace} → p ≡ aligned_at f a from → f.bound.0 < p.0
      → (entered false f.bound ≡ entered_at f a from) × (ws ≡ list_entered f a from n m ws)
  unfolding entered_at list_entered
  entered-past e h = rw (sym e, lt-ltb _ _ h, entered_at, list_entered) (refl, refl)

  -- the structure's count and its record's number were read
  pub entered-fits : {p : BitPlace} {v i : ℕ} {ws' : List ℕ} → p ≡ aligned_at f a from → p.0 ≤ f.bound.0 → v ≡ n → i ≡ m
      → ws' ≡ list_holder 28 p v i ws → (entered true p ≡ entered_at f a from) × (ws' ≡ list_entered f a from n m ws)
  unfolding entered_at list_entered
  entered-fits e h count number list = rw (sym e, le-ltb _ _ h, entered_at, list_entered, sym e) (refl, rw (count, number) at list)

  -- what is told of the aligned place, and of one past the bound
  pub record EnteredOn (i : BitPlace → Inside) : Type 0 where
    pub told : standing f a from i ≡ i (aligned_at f a from)
    pub listed : list_entered f a from n m ws ≡ list_holder 28 (aligned_at f a from) n m ws
    pub on : entered_at f a from ≡ entered true (aligned_at f a from)

  pub entered_on : (i : BitPlace → Inside) → (entered_at f a from).on ≡ true → EnteredOn i
  unfolding entered_at list_entered standing within
  entered_on i = by (ltb f.bound.0 (aligned_at f a from).0) refl
    where
      by : (c : Bool) → ltb f.bound.0 (aligned_at f a from).0 ≡ c → (entered_at f a from).on ≡ true → EnteredOn i
      by true q h = absurd (clash (rw (q, entered_at) at h))
      by false q h = record { told = rw (q, within) refl; listed = rw (q, list_entered) refl; on = rw (q, entered_at) refl }

  pub record EnteredOff (i : BitPlace → Inside) : Type 0 where
    pub told : standing f a from i ≡ Refused (stop_at PastBound f.bound)
    pub listed : list_entered f a from n m ws ≡ ws
    pub off : entered_at f a from ≡ entered false f.bound

  pub entered-off : (i : BitPlace → Inside) → (entered_at f a from).on ≡ false → EnteredOff i
  unfolding entered_at list_entered standing within
  entered-off i = by (ltb f.bound.0 (aligned_at f a from).0) refl
    where
      by : (c : Bool) → ltb f.bound.0 (aligned_at f a from).0 ≡ c → (entered_at f a from).on ≡ false → EnteredOff i
      by true q h = record { told = rw (q, within) refl; listed = rw (q, list_entered) refl; off = rw (q, entered_at) refl }
      by false q h = absurd (clash (sym (rw (q, entered_at) at h)))
