-- Steps from record to record: what a record that stands at a byte says of the bytes, one step of each walk, and none left.
use mathlib.Core.Path.{◌≡◌, refl, sym, ap, ◌∙◌}
use mathlib.Core.Bool.{Bool, true, false}
use mathlib.Core.List.{List}
use Prim.Native.Nat.{ℕ, zero, suc, ◌+◌, ◌-◌, ◌<◌, ◌≤◌}
use native.Mathlib.Omega.{arith}
use lib.ListN.{length, get_or}
use lib.Dec.{leb, eqb}
use borrow.Author.Tests.{eqb-true, leb-true, eq-eqb, ne_eqb, le-leb, lt-leb}
use Rattle.facts.proofs.Truth.{and_left, and_right}
use Rattle.rules.specs.Record.{no, bits_layout, layouts}
use Rattle.table_offsets.specs.Bodies.{known, mark, body_mark}
use Rattle.table_offsets.specs.Check.{pick_n, byte_at, inside, u64, head_fault, latest, says_at}
use Rattle.table_offsets.proofs.Picked.{inside-fine}
use Rattle.table_offsets.proofs.Sound.{head-fine}
use Rattle.table_offsets.proofs.Places.{latest-step, latest-none}
use Rattle.check_slots.specs.Homes.{nowhere, is_a, is_among, behind_range, behind_ranges, stream_roots, Spot, pick_p, parts_at}
use Rattle.check_slots.specs.Homes.{set_elsewhere, noted, home_within, parts, part_at, class_at, roots_at, fault_at}

-- A record that stands whole

pub record Here (t : List ℕ) (at : ℕ) : Type 0 where
  pub head : head_fault t at ≡ 0
  pub within : at < length t
  pub fits : at + 1 + body_mark (byte_at t at) ≤ length t

here : (t : List ℕ) (at : ℕ) → head_fault t at ≡ 0 → Here t at
here t at e = record { head = e; within = (head-fine t at e).0; fits = omega (arith, head-fine t at e) }

pub a-here : (t : List ℕ) (k at : ℕ) → is_a t k at ≡ true → Here t at × (byte_at t at ≡ k)
unfolding is_a
a-here t k at e =
    (here t at (eqb-true _ _ (and_left _ _ e)), eqb-true _ _ (and_right (eqb (head_fault t at) 0) _ e))

pub among-here : (t : List ℕ) (low high at : ℕ) → is_among t low high at ≡ true → Here t at × ((low ≤ byte_at t at) × (byte_at t at ≤ high))
unfolding is_among
among-here t low high at e =
    (here t at (eqb-true _ _ (and_left _ _ e)), inside-fine _ _ _ (and_right (eqb (head_fault t at) 0) _ e))

-- Nothing stands past the end

pub nowhere-past : (t : List ℕ) (at : ℕ) → length t ≤ at → nowhere t at ≡ at
unfolding nowhere pick_n
nowhere-past t at h = rw (le-leb (length t) at h)

pub nowhere-within : (t : List ℕ) (at : ℕ) → at ≤ length t → nowhere t at ≡ length t
unfolding nowhere
nowhere-within t at h = by (leb (length t) at) refl
  where
    by : (b : Bool) → leb (length t) at ≡ b → pick_n b at (length t) ≡ length t
    by true e = unfold pick_n in omega (arith, leb-true (length t) at e)
    by false e = unfold pick_n in refl

-- Ranges

pub ranges-step : (t : List ℕ) (at n : ℕ) → 0 < n → behind_ranges t at n ≡ behind_ranges t (behind_range t at) (n - 1)
unfolding behind_ranges
ranges-step t at zero p = absurd (omega arith)
ranges-step t at (suc n) p = let e : suc n - 1 ≡ n = omega arith in rw e

pub ranges-none : (t : List ℕ) (at n : ℕ) → n ≤ 0 → behind_ranges t at n ≡ at
unfolding behind_ranges
ranges-none t at zero p = refl
ranges-none t at (suc n) p = absurd (omega arith)

-- Stream classes

pub stream-none : (t : List ℕ) (i : ℕ) (xs : List ℕ) (n : ℕ) → n ≤ 0 → stream_roots t i (latest xs n) ≡ length t
unfolding stream_roots
stream-none t i xs n h = rw (latest-none xs n h)

module _ (t : List ℕ) (i : ℕ) (xs : List ℕ) (n : ℕ) (more : 0 < n) (o : ℕ) (place : o ≡ get_or xs (n - 1) 0) (id : ℕ)
    (says : id ≡ u64 t (o + 1)) where
  pub stream-hit : id ≡ i → stream_roots t i (latest xs n) ≡ o + 10
  unfolding stream_roots pick_n
  stream-hit e = rw (latest-step xs n more, ← place, ← says, eq-eqb id i e)

  pub stream-miss : (id ≡ i → ⊥) → stream_roots t i (latest xs n) ≡ stream_roots t i (latest xs (n - 1))
  unfolding stream_roots pick_n
  stream-miss e = rw (latest-step xs n more, ← place, ← says, ne_eqb id i e)

-- Parts of a class

parts-step : (f : ℕ → List ℕ → Spot) (g : ℕ → ℕ) (p : Spot) (n : ℕ) → 0 < n → parts_at f g p n ≡ parts_at f g (f (g p.0) p.1) (n - 1)
unfolding parts_at
parts-step f g p zero h = absurd (omega arith)
parts-step f g p (suc n) h = let e : suc n - 1 ≡ n = omega arith in rw e

parts-over : (f : ℕ → List ℕ → Spot) (g : ℕ → ℕ) (p : Spot) (n : ℕ) → n ≤ 0 → parts_at f g p n ≡ p
unfolding parts_at
parts-over f g p zero h = refl
parts-over f g p (suc n) h = absurd (omega arith)

-- the whole walk w, of which n parts are left from `at` on, where v was set
module _ (w : Spot) (f : ℕ → List ℕ → Spot) (g : ℕ → ℕ) (at : ℕ) (v : List ℕ) (n : ℕ) (so_far : w ≡ parts_at f g (at, v) n) where
  pub parts_none : n ≤ 0 → w ≡ (at, v)
  parts_none h = so_far ∙ parts-over f g (at, v) n h

  pub parts-on : 0 < n → (c : ℕ) → c ≡ g at → (r : ℕ) (v' : List ℕ) → r ≡ (f c v).0 → v' ≡ (f c v).1 → w ≡ parts_at f g (r, v') (n - 1)
  parts-on h c e r v' p q = so_far ∙ parts-step f g (at, v) n h ∙ rw (p, q, e)

-- A class

pub class-none : (left : ℕ) (t : List ℕ) (home at : ℕ) (v : List ℕ) → left ≡ 0 → class_at left t home at v ≡ (nowhere t at, v)
unfolding class_at
class-none zero t home at v e = refl
class-none (suc n) t home at v e = absurd (omega arith)

pub class-not : (left : ℕ) (t : List ℕ) (home at : ℕ) (v : List ℕ) → is_among t 16 32 at ≡ false
    → class_at left t home at v ≡ (nowhere t at, v)
unfolding class_at pick_p
class-not zero t home at v e = refl
class-not (suc n) t home at v e = rw e

leaf-parts : (t : List ℕ) (at : ℕ) → byte_at t at < 28 → parts t at ≤ 0
unfolding parts pick_n inside
leaf-parts t at h =
    let a = ne_eqb (byte_at t at) 28 (λ e. omega (arith, e, h)) in
    let b = ne_eqb (byte_at t at) 32 (λ e. omega (arith, e, h)) in
    let d = lt-leb 29 (byte_at t at) (omega (arith, h)) in
    rw (a, b, d) (omega arith)

module _ (t : List ℕ) (home at : ℕ) (v : List ℕ) (there : is_among t 16 32 at ≡ true) (i : ℕ) (slot : i ≡ (says_at t at).sets) where
  pub class-fault : (left : ℕ) → 0 < left → set_elsewhere v i home ≡ true → class_at left t home at v ≡ (fault_at t at, v)
  unfolding class_at pick_p
  class-fault zero h e = absurd (omega arith)
  class-fault (suc n) h e = rw (there, ← slot, e)

  module _ (left : ℕ) (deep : 0 < left) (fine : set_elsewhere v i home ≡ false) (size : ℕ) (bytes : size ≡ 1 + body_mark (byte_at t at))
      (v' : List ℕ) (set : v' ≡ noted v i home) where
    on : (left : ℕ) → 0 < left
        → class_at left t home at v ≡ parts_at (class_at (left - 1) t (home_within t home at)) (part_at t at) (at + size, v') (parts t at)
    unfolding class_at pick_p
    on zero h = absurd (omega arith)
    on (suc left) h =
        let z : suc left - 1 ≡ left = omega arith in
        let b : at + size ≡ at + 1 + body_mark (byte_at t at) = omega (arith, bytes) in
        rw (there, ← slot, fine, z, b, set)

    pub class-leaf : (k : ℕ) → k ≡ byte_at t at → k < 28 → class_at left t home at v ≡ (at + size, v')
    class-leaf k e h = on left deep ∙ parts-over _ _ (at + size, v') (parts t at) (leaf-parts t at (omega (arith, e, h)))

    pub class-on : (inner : ℕ) → inner ≡ home_within t home at → (n : ℕ) → n ≡ parts t at
        → class_at left t home at v ≡ parts_at (class_at (left - 1) t inner) (part_at t at) (at + size, v') n
    class-on inner a n b = on left deep ∙ rw (a, b)

-- An array's record has bytes behind its first: its place and 1 fit in two bytes.

array-marks : (body_mark 29 ≡ 3) × (body_mark 30 ≡ 2)
unfolding body_mark mark known layouts no bits_layout
array-marks = (refl, refl)

pub within-small : (t : List ℕ) (home at : ℕ) → home < 65535 → length t ≤ 65536 → Here t at → home_within t home at < 65535
unfolding home_within pick_n
within-small t home at h l r = by (eqb (byte_at t at) 29) (eqb (byte_at t at) 30) refl refl
  where
    by : (a b : Bool) → eqb (byte_at t at) 29 ≡ a → eqb (byte_at t at) 30 ≡ b → pick_n a at (pick_n b at home) < 65535
    by true b p q = let m : body_mark (byte_at t at) ≡ 3 = ap body_mark (eqb-true _ _ p) ∙ array-marks.0 in omega (arith, m, l, r.fits)
    by false true p q = let m : body_mark (byte_at t at) ≡ 2 = ap body_mark (eqb-true _ _ q) ∙ array-marks.1 in omega (arith, m, l, r.fits)
    by false false p q = h

-- Roots

pub roots-none : (t : List ℕ) (p : Spot) (n : ℕ) → n ≤ 0 → roots_at t p n ≡ p
unfolding roots_at
roots-none t p zero h = refl
roots-none t p (suc n) h = absurd (omega arith)

pub roots-not : (t : List ℕ) (p : Spot) (n : ℕ) → is_a t 6 p.0 ≡ false → roots_at t p n ≡ p
unfolding roots_at pick_p
roots-not t p zero e = refl
roots-not t p (suc n) e = rw e

pub roots-on : (t : List ℕ) (p : Spot) (n : ℕ) → 0 < n → is_a t 6 p.0 ≡ true → (r : ℕ) (v : List ℕ)
    → r ≡ (class_at 9 t 0 (p.0 + 2) p.1).0 → v ≡ (class_at 9 t 0 (p.0 + 2) p.1).1 → roots_at t p n ≡ roots_at t (r, v) (n - 1)
unfolding roots_at pick_p
roots-on t p zero h e r v a b = absurd (omega arith)
roots-on t p (suc n) h e r v a b = let z : suc n - 1 ≡ n = omega arith in rw (e, a, b, z)

module _ (t : List ℕ) (at : ℕ) (v₀ : List ℕ) (n₀ : ℕ) (all : n₀ ≡ length t - at) (next : ℕ) (v : List ℕ) (n : ℕ)
    (so_far : roots_at t (at, v₀) n₀ ≡ roots_at t (next, v) n) where
  ended : roots_at t (next, v) n ≡ (next, v)
      → (next ≡ (roots_at t (at, v₀) (length t - at)).0) × (v ≡ (roots_at t (at, v₀) (length t - at)).1)
  ended h =
      let e : roots_at t (at, v₀) (length t - at) ≡ (next, v) = ap (roots_at t (at, v₀)) (sym all) ∙ so_far ∙ h in
      (sym (ap (λ (p : Spot). p.0) e), sym (ap (λ (p : Spot). p.1) e))

  pub roots-ended : n ≤ 0 → (next ≡ (roots_at t (at, v₀) (length t - at)).0) × (v ≡ (roots_at t (at, v₀) (length t - at)).1)
  roots-ended h = ended (roots-none t (next, v) n h)

  pub roots-stopped : is_a t 6 next ≡ false
      → (next ≡ (roots_at t (at, v₀) (length t - at)).0) × (v ≡ (roots_at t (at, v₀) (length t - at)).1)
  roots-stopped h = ended (roots-not t (next, v) n h)
