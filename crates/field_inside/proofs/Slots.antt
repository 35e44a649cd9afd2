-- The content of the slot that a field reads: past the sixty-four there is none.
use mathlib.Core.Path.{◌≡◌, ap, sym, ◌∙◌}
use mathlib.Core.Logic.{⊎_elim, ◌⊎◌}
use Prim.Native.Nat.{ℕ, ◌≤◌}
use lib.ListN.{length}
use Rattle.rules.specs.declared.Content.{Content}
use Rattle.rules.specs.declared.Content.TheVariants.{Unset}
use Rattle.rules.specs.Limits.{slot_count}
use Rattle.rules.specs.Slots.{Slots, slot_at}
use Rattle.facts.proofs.Slots.{no-content}

pub content-met : (l : Slots) {i j : ℕ} {x : Content} {A B : Type 0} → length l ≡ slot_count → i ≡ j → (A → x ≡ slot_at l i)
    → (B → (slot_count ≤ i) × (x ≡ Unset)) → A ⊎ B → slot_at l j ≡ x
content-met l {i} n e a b h = ap (slot_at l) (sym e) ∙ ⊎_elim (λ y. sym (a y)) (λ y. no-content l i n (b y).0 ∙ sym (b y).1) h

pub past-unset : (l : Slots) (i : ℕ) {x : Content} → length l ≡ slot_count → slot_at l i ≡ x → slot_count ≤ i → x ≡ Unset
past-unset l i n e h = sym e ∙ no-content l i n h
