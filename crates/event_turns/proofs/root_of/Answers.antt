-- Turn by turn: common, specific, and else payload.
use mathlib.Core.Path.{◌≡◌, refl, ◌∙◌}
use mathlib.Core.List.{List}
use Prim.Native.Nat.{ℕ}
use borrow.Author.Tests.{ne_eqb}
use Rattle.class_layout.specs.Fragments.{root_place}
use Rattle.event_turns.specs.declared.Asking.{Asking}
use Rattle.event_turns.specs.Left.{root_found}
use Rattle.event_turns.proofs.root_of.Goals as goal

payload : (t : List ℕ) (w : Asking) (turn class : ℕ) → (turn ≡ 2 → ⊥) → (turn ≡ 3 → ⊥)
    → root_place t class 1 ≡ root_found t w turn class
unfolding root_found
payload t w turn class a b = rw (root_found, ne_eqb _ _ a, ne_eqb _ _ b) refl

pub returns-in-2 : goal.returns-in-2
unfolding root_found
returns-in-2 c = rw c.in-2.is refl

pub returns-in-3 : goal.returns-in-3
unfolding root_found
returns-in-3 c = rw c.in-3.is c.root_place.ensures

pub returns-in_default : goal.returns-in_default
returns-in_default c = let m = c.in_default.in_default-own.rest in c.root_place-in_default.ensures ∙ payload _ _ _ _ m.0.1 m.1
