-- The rules' tests before something is listed.
use Prim.Native.Nat.{ℕ, ◌<◌, ◌≤◌}
use mathlib.Core.Path.{◌≡◌, refl, ap, sym, ◌∙◌}
use mathlib.Core.List.{[]}
use mathlib.Core.Bool.{Bool, true, false}
use lib.Dec.{ltb}
use borrow.Author.Tests.{lt-ltb, le-ltb, ltb-true, ltb-false}
use Rattle.rules.specs.declared.BitPlace.{BitPlace}
use Rattle.rules.specs.declared.Refusal.{Refusal}
use Rattle.rules.specs.declared.Refusal.TheVariants.{ListFull}
use Rattle.rules.specs.Limits.{words_per_entry}
use Rattle.rules.specs.Step.{State, Step, go, ◌⨾◌, after, pass, refuse, refuse_at, check, check_at, due}
use Rattle.facts.proofs.Steps.{onto-nil}

-- a test that holds stops the reading, one that does not goes by
pub check-stops : (t : State → Bool) (r : Refusal) (s : State) → t s ≡ true → check t r s ≡ refuse r s
unfolding check
check-stops t r s h = rw (h, check) refl

pub check-goes : (t : State → Bool) (r : Refusal) (s : State) → t s ≡ false → check t r s ≡ go [] s
unfolding check pass
check-goes t r s h = rw (h, check) refl

-- and so one that refuses at a place of its own
pub check_at-stops : (t : State → Bool) (r : Refusal) (p : BitPlace) (s : State) → t s ≡ true → check_at t r p s ≡ refuse_at r p s
unfolding check_at
check_at-stops t r p s h = rw (h, check_at) refl

pub check_at-goes : (t : State → Bool) (r : Refusal) (p : BitPlace) (s : State) → t s ≡ false → check_at t r p s ≡ go [] s
unfolding check_at pass
check_at-goes t r p s h = rw (h, check_at) refl

-- 40 is tested first, and goes by where there is room
pub room-first : (m : Step) (s : State) → words_per_entry ≤ s.room → (due ⨾ m) s ≡ m s
unfolding due ◌⨾◌ after
room-first m s h = ap (λ o. after o m) (check-goes _ ListFull s (le-ltb _ _ h)) ∙ onto-nil (m s)

pub no-room-first : (m : Step) (s : State) → s.room < words_per_entry → (due ⨾ m) s ≡ refuse ListFull s
unfolding due ◌⨾◌ after refuse
no-room-first m s h = ap (λ o. after o m) (check-stops _ ListFull s (lt-ltb _ _ h))

-- what the code's test for room, `is_full`, says of the words that are left
pub full-said : (left : ℕ) {r : Bool} → r ≡ ltb left words_per_entry → r ≡ true → left < words_per_entry
full-said left e h = ltb-true left words_per_entry (sym e ∙ h)

pub room-said : (left : ℕ) {r : Bool} → r ≡ ltb left words_per_entry → r ≡ false → words_per_entry ≤ left
room-said left e h = ltb-false left words_per_entry (sym e ∙ h)
