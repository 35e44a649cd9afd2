-- A class, by its kind: its fault, or the walk over what it holds with one depth less left.
use mathlib.Core.Path.{◌≡◌, sym, ◌∙◌}
use mathlib.Core.List.{List, []}
use Prim.Native.Nat.{ℕ, zero, suc, ◌+◌, ◌-◌}
use native.Mathlib.Omega.{arith}
use borrow.Author.Tests.{ne_eqb}
use lib.ListN.{get_or}
use Rattle.table_offsets.specs.Bodies.{body_mark}
use Rattle.table_offsets.specs.Check.{pick_w, ranges_at, members_at, options_at, then, class_at, class_fault, kind_at}
use Rattle.table_offsets.specs.declared.Under.{Under}
use Rattle.table_offsets.specs.Walks.{Fine, Bad}
use Rattle.table_offsets.proofs.Picked.{else-zero, else-some}
use Rattle.table_offsets.proofs.Sound.{sound}

pub less : (d : ℕ) → suc d - 1 ≡ d
less d = omega arith

pub class-bad : (u : Under) (left : ℕ) (t : List ℕ) (at n : ℕ) → n ≡ class_fault u left t at → (n ≡ 0 → ⊥) → Bad n at ≡ class_at u left t at
unfolding class_at
class-bad u zero t at n e h = sym (rw (← e) (else-some n at _ h))
class-bad u (suc d) t at n e h = sym (rw (← e) (else-some n at _ h))

pub class-on : (u : Under) (left : ℕ) (t : List ℕ) (at : ℕ) → class_fault u left t at ≡ 0
    → class_at u left t at ≡ kind_at (class_at u (left - 1) t) t at (get_or t at 0)
unfolding class_at
class-on u zero t at e = absurd (omega (arith, (sound u 0 t at e).level))
class-on u (suc d) t at e = rw (less d) (else-zero _ at _ e)

module _ (u : Under) (left : ℕ) (t : List ℕ) (at : ℕ) (fine : class_fault u left t at ≡ 0) where
  pub on-members : (n : ℕ) → get_or t at 0 ≡ 28 → n ≡ get_or t (at + 1) 0
      → class_at u left t at ≡ members_at (class_at u (left - 1) t) (at + 3) n
  unfolding kind_at pick_w
  on-members n k e = class-on u left t at fine ∙ rw (k, e)

  pub on-static : get_or t at 0 ≡ 29 → class_at u left t at ≡ class_at u (left - 1) t (at + 4)
  unfolding kind_at pick_w
  on-static k = class-on u left t at fine ∙ rw k

  pub on-dynamic : get_or t at 0 ≡ 30 → class_at u left t at ≡ class_at u (left - 1) t (at + 3)
  unfolding kind_at pick_w
  on-dynamic k = class-on u left t at fine ∙ rw k

  on-31 : (n : ℕ) → get_or t at 0 ≡ 31 → n ≡ get_or t (at + 2) 0
      → class_at u left t at ≡ then (ranges_at t (at + 3) [] (at + 3) n) (class_at u (left - 1) t)
  unfolding kind_at pick_w
  on-31 n k e = class-on u left t at fine ∙ rw (k, e)

  pub on-optional-bad : (n m p : ℕ) → get_or t at 0 ≡ 31 → n ≡ get_or t (at + 2) 0 → ranges_at t (at + 3) [] (at + 3) n ≡ Bad m p
      → class_at u left t at ≡ Bad m p
  unfolding then
  on-optional-bad n m p k e h = on-31 n k e ∙ rw h

  pub on-optional : (n p : ℕ) → get_or t at 0 ≡ 31 → n ≡ get_or t (at + 2) 0 → ranges_at t (at + 3) [] (at + 3) n ≡ Fine p
      → class_at u left t at ≡ class_at u (left - 1) t p
  unfolding then
  on-optional n p k e h = on-31 n k e ∙ rw h

  pub on-variant : (n : ℕ) → get_or t at 0 ≡ 32 → n ≡ get_or t (at + 2) 0
      → class_at u left t at ≡ options_at (class_at u (left - 1) t) t (at + 3 + 2) [] (at + 3) n
  unfolding kind_at pick_w
  on-variant n k e = let a : at + 3 + 2 ≡ at + 5 = omega arith in class-on u left t at fine ∙ rw (k, e, a)

  pub on-leaf : (n : ℕ) → (get_or t at 0 ≡ 28 → ⊥) → (get_or t at 0 ≡ 29 → ⊥) → (get_or t at 0 ≡ 30 → ⊥) → (get_or t at 0 ≡ 31 → ⊥)
      → (get_or t at 0 ≡ 32 → ⊥)
      → n ≡ body_mark (get_or t at 0) → class_at u left t at ≡ Fine (at + 1 + n)
  unfolding kind_at pick_w
  on-leaf n a b c d f e = class-on u left t at fine ∙ rw (ne_eqb _ _ a, ne_eqb _ _ b, ne_eqb _ _ c, ne_eqb _ _ d, ne_eqb _ _ f, e)
