-- Loops that look for an id or for a range that meets: one turn, and none left.
use mathlib.Core.Path.{◌≡◌, refl, sym, ◌∙◌}
use mathlib.Core.Bool.{Bool, true, false, ◌&&◌}
use mathlib.Core.List.{List}
use Prim.Native.Nat.{ℕ, zero, suc, ◌+◌, ◌-◌, ◌<◌, ◌≤◌}
use native.Mathlib.Omega.{arith}
use borrow.Author.Tests.{eq-eqb, ne_eqb}
use lib.Dec.{ltb, eqb}
use lib.ListN.{length, get_or, get_or-eq_default}
use Rattle.table_offsets.specs.Check.{pick_n, pick_b, order_fault, lowest, same, latest, is_named}
use Rattle.table_offsets.specs.Check.{named, meets_here, meets_one, meets_option, meets_any}
use Rattle.table_offsets.proofs.Picked.{first-zero}
use Rattle.table_offsets.proofs.Places.{latest-step, latest-none}

-- the bytes of an id, from the last

same_step : (t : List ℕ) (a b i : ℕ) → 0 < i
    → same t a b i ≡ (eqb (get_or t (a + (i - 1)) 0) (get_or t (b + (i - 1)) 0) && same t a b (i - 1))
unfolding same
same_step t a b zero h = absurd (omega arith)
same_step t a b (suc i) h = let e : suc i - 1 ≡ i = omega arith in rw e

pub same-unlike : (t : List ℕ) (a b i : ℕ) → 0 < i → (x y : ℕ) → x ≡ get_or t (a + (i - 1)) 0 → y ≡ get_or t (b + (i - 1)) 0 → (x ≡ y → ⊥)
    → same t a b i ≡ false
same-unlike t a b i h x y p q e = same_step t a b i h ∙ simp (sym p, sym q, ne_eqb _ _ e)

pub same_alike : (t : List ℕ) (a b i : ℕ) → 0 < i → (x y : ℕ) → x ≡ get_or t (a + (i - 1)) 0 → y ≡ get_or t (b + (i - 1)) 0 → x ≡ y
    → same t a b i ≡ same t a b (i - 1)
same_alike t a b i h x y p q e = same_step t a b i h ∙ simp (sym p, sym q, eq-eqb _ _ e)

pub same_none : (t : List ℕ) (a b i : ℕ) → i ≤ 0 → same t a b i ≡ true
unfolding same
same_none t a b zero h = refl
same_none t a b (suc i) h = absurd (omega arith)

-- the fragments so far, whose places are the first i of xs; w is whether any is named, and what is left to ask

module _ (w : Bool) (t : List ℕ) (k at n : ℕ) (xs : List ℕ) (i : ℕ) (so_far : w ≡ named t k at n (latest xs i)) where
  pub named_none : i ≤ 0 → false ≡ w
  unfolding named
  named_none h = sym (so_far ∙ rw (latest-none xs i h))

  module _ (more : 0 < i) (o : ℕ) (there : o ≡ get_or xs (i - 1) 0) (b : Bool) (asked : b ≡ is_named t k at n o) where
    named-on : w ≡ pick_b b true (named t k at n (latest xs (i - 1)))
    unfolding named
    named-on = so_far ∙ rw (latest-step xs i more, ← there, ← asked)

    pub named-hit : b ≡ true → true ≡ w
    unfolding pick_b
    named-hit e = sym (named-on ∙ rw e)

    pub named-miss : b ≡ false → w ≡ named t k at n (latest xs (i - 1))
    unfolding pick_b
    named-miss e = named-on ∙ rw e

-- the ranges of an option

pub one-step : (t : List ℕ) (sign low high at n : ℕ) → 0 < n → meets_one t sign low high at n
    ≡ pick_b (meets_here t sign low high at) true (meets_one t sign low high (at + 18) (n - 1))
unfolding meets_one
one-step t sign low high at zero h = absurd (omega arith)
one-step t sign low high at (suc n) h = let e : suc n - 1 ≡ n = omega arith in rw e

pub one_none : (t : List ℕ) (sign low high at n : ℕ) → n ≤ 0 → meets_one t sign low high at n ≡ false
unfolding meets_one
one_none t sign low high at zero h = refl
one_none t sign low high at (suc n) h = absurd (omega arith)

-- the earlier options, whose places are the first i of xs; w is whether any meets, and what is left to ask

module _ (w : Bool) (t : List ℕ) (sign low high : ℕ) (xs : List ℕ) (i : ℕ) (so_far : w ≡ meets_any t sign low high (latest xs i)) where
  pub any_none : i ≤ 0 → false ≡ w
  unfolding meets_any
  any_none h = sym (so_far ∙ rw (latest-none xs i h))

  module _ (more : 0 < i) (o : ℕ) (there : o ≡ get_or xs (i - 1) 0) (b : Bool) (asked : b ≡ meets_option t sign low high o) where
    any-on : w ≡ pick_b b true (meets_any t sign low high (latest xs (i - 1)))
    unfolding meets_any
    any-on = so_far ∙ rw (latest-step xs i more, ← there, ← asked)

    pub any-hit : b ≡ true → true ≡ w
    unfolding pick_b
    any-hit e = sym (any-on ∙ rw e)

    pub any-miss : b ≡ false → w ≡ meets_any t sign low high (latest xs (i - 1))
    unfolding pick_b
    any-miss e = any-on ∙ rw e

-- a record behind the end is no fragment

order-zero : (t : List ℕ) (trace : Bool) (seen : List ℕ) (at : ℕ) → order_fault t trace seen at 0 ≡ 0
unfolding order_fault pick_n
order-zero t trace seen at = refl

pub lowest-out : (t : List ℕ) (trace : Bool) (seen : List ℕ) (m at : ℕ) → length t ≤ at → lowest t trace seen m at ≡ m
unfolding lowest pick_n
lowest-out t trace seen m at h =
    let e : get_or t at 0 ≡ 0 = get_or-eq_default t 0 {n = at} h in
    rw (e, order-zero, first-zero 0 refl) (either (ltb m 4) m)
  where
    either : (b : Bool) (m : ℕ) → pick_n b m m ≡ m
    either true m = refl
    either false m = refl
