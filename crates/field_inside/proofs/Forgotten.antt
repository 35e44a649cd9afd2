-- What is forgotten around each of n elements of the class at a byte: by the tests of the code; and where what is noted of the class is
-- right of the slots l that it sets, so is this.
use mathlib.Core.Path.{◌≡◌, sym, ◌∙◌}
use mathlib.Core.Logic.{◌⊎◌, inl, inr, ⊎_elim}
use Prim.Native.Nat.{ℕ, ◌≤◌, ◌<◌}
use native.Mathlib.Omega.{arith}
use mathlib.Core.List.{List, []}
use lib.ListN.{length, get_or-eq_default}
use borrow.Author.Tests.{eq-eqb, ne_eqb}
use Rattle.facts.proofs.Numbers.{lt-or-ge}
use Rattle.class_layout.specs.Notes.{sets_noted}
use Rattle.class_layout.specs.Words.{sets_of_word, SaysSet}
use Rattle.field_inside.specs.Opening.{forgets_at}

module _ (a : List ℕ) (from n : ℕ) where
  -- By the tests of the code

  pub forgets-empty : n ≡ 0 → forgets_at a from n ≡ 0
  unfolding forgets_at
  forgets-empty e = simp (eq-eqb n 0 e, forgets_at)

  pub forgets-noted : (n ≡ 0 → ⊥) → forgets_at a from n ≡ sets_noted a from
  unfolding forgets_at
  forgets-noted h = simp (ne_eqb n 0 h, forgets_at)

  -- nothing is noted past the list
  pub forgets-past : (n ≡ 0 → ⊥) → length a ≤ from → forgets_at a from n ≡ 0
  unfolding sets_noted sets_of_word
  forgets-past h l = forgets-noted h ∙ rw (get_or-eq_default a 0 {n = from} l) (omega arith)

  -- The number is right

  module _ {l : List ℕ} (says : 0 < n → SaysSet (sets_noted a from) l) where
    pub forgets-none : forgets_at a from n ≡ 0 → (n ≡ 0) ⊎ (l ≡ [])
    forgets-none e =
        ⊎_elim
        (λ (some : 0 < n). inr ((says some).none (sym (forgets-noted (λ z. omega arith)) ∙ e)))
        (λ (none : n ≤ 0). inl (omega arith))
        (lt-or-ge 0 n)

    pub forgets-some : (forgets_at a from n ≡ 0 → ⊥) → (0 < n) × SaysSet (forgets_at a from n) l
    forgets-some h =
        let some : 0 < n = ⊎_elim (λ (l : 0 < n). l) (λ (none : n ≤ 0). absurd (h (forgets-empty (omega arith)))) (lt-or-ge 0 n) in
        (some, rw (forgets-noted (λ z. omega arith)) (says some))
