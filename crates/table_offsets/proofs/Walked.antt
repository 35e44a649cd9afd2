-- Walks over ranges, members, options and roots: one turn, and none left.
use mathlib.Core.Path.{◌≡◌, refl, sym, ◌∙◌}
use mathlib.Core.Bool.{Bool, true, false}
use mathlib.Core.List.{List, ◌∷◌}
use Prim.Native.Nat.{ℕ, zero, suc, ◌+◌, ◌-◌, ◌<◌, ◌≤◌}
use native.Mathlib.Omega.{arith}
use borrow.Author.Tests.{le-ltb, eq-eqb}
use lib.ListN.{length, get_or, set}
use Rattle.table_offsets.specs.Check.{pick_n, pick_w, head_fault, number_at, stray, high_at, low_at, ranges_at, range_fault}
use Rattle.table_offsets.specs.Check.{bounds_fault, key, u64, members_at, options_at, option_fault}
use Rattle.table_offsets.specs.Check.{latest, or_else, then, class_at, root_here, root_at, under, roots_at}
use Rattle.table_offsets.specs.Walks.{Walk, Fine, Bad}
use Rattle.table_offsets.proofs.Picked.{first-zero, else-zero, else-some}
use Rattle.table_offsets.proofs.Places.{latest-set}

-- ranges

pub range-on : (t : List ℕ) (h : ℕ) (done : List ℕ) (at s l m : ℕ) → head_fault t at ≡ 0 → get_or t at 0 ≡ 33
    → s ≡ get_or t (at + 1) 0 → s ≤ 1
    → l ≡ key s (number_at t (at + 2) 8) → m ≡ key s (number_at t (at + 10) 8) → range_fault t h done at ≡ bounds_fault t h done s l m
unfolding range_fault low_at high_at u64 pick_n
range-on t h done at s l m e k a b p q = rw (first-zero _ e, eq-eqb _ _ k, ← a, le-ltb _ _ b, ← p, ← q)

pub ranges-step : (t : List ℕ) (h : ℕ) (done : List ℕ) (at n : ℕ) → 0 < n
    → ranges_at t h done at n ≡ or_else (range_fault t h done at) at (ranges_at t h done (at + 18) (n - 1))
unfolding ranges_at
ranges-step t h done at zero p = absurd (omega arith)
ranges-step t h done at (suc n) p = let e : suc n - 1 ≡ n = omega arith in rw e

pub ranges-none : (t : List ℕ) (h : ℕ) (done : List ℕ) (at n : ℕ) → n ≤ 0 → ranges_at t h done at n ≡ Fine at
unfolding ranges_at
ranges-none t h done at zero p = refl
ranges-none t h done at (suc n) p = absurd (omega arith)

-- members, where w is the whole walk, and what is left of it starts at `at`

members_step : (f : ℕ → Walk) (at n : ℕ) → 0 < n → members_at f at n ≡ then (f at) λ e. members_at f e (n - 1)
unfolding members_at
members_step f at zero p = absurd (omega arith)
members_step f at (suc n) p = let e : suc n - 1 ≡ n = omega arith in rw e

members-over : (f : ℕ → Walk) (at n : ℕ) → n ≤ 0 → members_at f at n ≡ Fine at
unfolding members_at
members-over f at zero p = refl
members-over f at (suc n) p = absurd (omega arith)

module _ (w : Walk) (f : ℕ → Walk) (at n : ℕ) (so_far : w ≡ members_at f at n) where
  pub members-none : n ≤ 0 → Fine at ≡ w
  members-none h = sym (so_far ∙ members-over f at n h)

  module _ (more : 0 < n) (r : Walk) (class : r ≡ f at) where
    pub members-bad : (m p : ℕ) → r ≡ Bad m p → Bad m p ≡ w
    unfolding then
    members-bad m p e = sym (so_far ∙ members_step f at n more ∙ rw (← class, e))

    pub members-fine : (e : ℕ) → r ≡ Fine e → w ≡ members_at f e (n - 1)
    unfolding then
    members-fine e h = so_far ∙ members_step f at n more ∙ rw (← class, h)

-- options, the first n of them done, their places the first of xs

options-step : (f : ℕ → Walk) (t : List ℕ) (h : ℕ) (done : List ℕ) (at n : ℕ) → 0 < n → options_at f t h done at n
    ≡ or_else (option_fault t at) at
    (then (ranges_at t h done (at + 2) (get_or t (at + 1) 0)) λ p. then (f p) λ e. options_at f t h (at ∷ done) e (n - 1))
unfolding options_at
options-step f t h done at zero p = absurd (omega arith)
options-step f t h done at (suc n) p = let e : suc n - 1 ≡ n = omega arith in rw e

options-over : (f : ℕ → Walk) (t : List ℕ) (h : ℕ) (done : List ℕ) (at n : ℕ) → n ≤ 0 → options_at f t h done at n ≡ Fine at
unfolding options_at
options-over f t h done at zero p = refl
options-over f t h done at (suc n) p = absurd (omega arith)

module _ (w : Walk) (f : ℕ → Walk) (t : List ℕ) (head : ℕ) (xs : List ℕ) (n count at : ℕ)
    (so_far : w ≡ options_at f t head (latest xs n) at (count - n)) where
  pub options-none : count ≤ n → Fine at ≡ w
  options-none h = sym (so_far ∙ options-over f t head (latest xs n) at (count - n) (omega arith))

  module _ (more : n < count) (fault : ℕ) (asked : fault ≡ option_fault t at) where
    next : w ≡ or_else fault at (then (ranges_at t head (latest xs n) (at + 2) (get_or t (at + 1) 0)) λ p.
        then (f p) λ e. options_at f t head (at ∷ latest xs n) e (count - n - 1))
    next = so_far ∙ options-step f t head (latest xs n) at (count - n) (omega arith) ∙ rw (← asked)

    pub options-stop : (fault ≡ 0 → ⊥) → Bad fault at ≡ w
    options-stop h = sym (next ∙ else-some fault at _ h)

    module _ (fine : fault ≡ 0) (ranges : ℕ) (said : ranges ≡ get_or t (at + 1) 0) (r : Walk)
        (walked : r ≡ ranges_at t head (latest xs n) (at + 2) ranges) where
      behind : w ≡ then r λ p. then (f p) λ e. options_at f t head (at ∷ latest xs n) e (count - n - 1)
      behind = next ∙ else-zero fault at _ fine ∙ rw (← said, ← walked)

      pub options-range : (m p : ℕ) → r ≡ Bad m p → Bad m p ≡ w
      unfolding then
      options-range m p e = sym (behind ∙ rw e)

      module _ (p : ℕ) (on : r ≡ Fine p) (c : Walk) (class : c ≡ f p) where
        pub options-class : (m q : ℕ) → c ≡ Bad m q → Bad m q ≡ w
        unfolding then
        options-class m q e = sym (behind ∙ rw (on, ← class, e))

        pub options-fine : (e : ℕ) → n < length xs → c ≡ Fine e → w ≡ options_at f t head (latest (set xs n at) (n + 1)) e (count - (n + 1))
        unfolding then
        options-fine e room h =
            let one : count - n - 1 ≡ count - (n + 1) = omega arith in
            behind ∙ rw (on, ← class, h) (rw (← latest-set xs n at room, one))

-- roots

pub root-there : (t : List ℕ) (timed uuid : Bool) (n at : ℕ) → root_here t n at ≡ true
    → root_at t timed uuid n at ≡ class_at (under timed uuid n (at + 2)) 8 t (at + 2)
unfolding root_at pick_w
root-there t timed uuid n at h = rw h

pub root-not : (t : List ℕ) (timed uuid : Bool) (n at : ℕ) → root_here t n at ≡ false → root_at t timed uuid n at ≡ Fine at
unfolding root_at pick_w
root-not t timed uuid n at h = rw h

roots-suc : (t : List ℕ) (timed uuid : Bool) (n at m : ℕ) → 0 < m
    → roots_at t timed uuid n at m ≡ then (root_at t timed uuid n at) λ e. roots_at t timed uuid (n + 1) e (m - 1)
unfolding roots_at
roots-suc t timed uuid n at zero h = absurd (omega arith)
roots-suc t timed uuid n at (suc m) h = let e : suc m - 1 ≡ m = omega arith in rw e

pub roots-bad : (t : List ℕ) (timed uuid : Bool) (n at m a p : ℕ) → 0 < m → root_at t timed uuid n at ≡ Bad a p
    → roots_at t timed uuid n at m ≡ Bad a p
unfolding then
roots-bad t timed uuid n at m a p h e = roots-suc t timed uuid n at m h ∙ rw e

pub roots-fine : (t : List ℕ) (timed uuid : Bool) (n at m e : ℕ) → 0 < m → root_at t timed uuid n at ≡ Fine e
    → roots_at t timed uuid n at m ≡ roots_at t timed uuid (n + 1) e (m - 1)
unfolding then
roots-fine t timed uuid n at m e h q = roots-suc t timed uuid n at m h ∙ rw q

pub roots-none : (t : List ℕ) (timed uuid : Bool) (n at m : ℕ) → m ≤ 0 → roots_at t timed uuid n at m ≡ or_else (stray t at) at (Fine at)
unfolding roots_at
roots-none t timed uuid n at zero h = refl
roots-none t timed uuid n at (suc m) h = absurd (omega arith)
