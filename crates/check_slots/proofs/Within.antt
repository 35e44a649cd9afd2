-- A walk that tells no fault ends at no byte past the end, and one that tells a fault goes on from nowhere. In order: a place;
-- ranges and options; parts of a class; roots; fragments; what the end tells.
use mathlib.Core.Path.{◌≡◌, refl, sym, ap, ◌∙◌}
use mathlib.Core.Bool.{Bool, true, false}
use mathlib.Core.List.{List}
use Prim.Native.Nat.{ℕ, zero, suc, ◌+◌, ◌-◌, ◌<◌, ◌≤◌}
use native.Mathlib.Omega.{arith}
use lib.ListN.{length}
use lib.Dec.{eqb}
use borrow.Author.Tests.{lt-ltb, le-ltb}
use Rattle.table_offsets.specs.Bodies.{body_mark}
use Rattle.table_offsets.specs.Check.{pick_n, byte_at}
use Rattle.table_offsets.proofs.Rows.{rows}
use Rattle.check_slots.specs.Homes.{nowhere, is_a, behind_range, behind_ranges, behind_option, Spot, parts_at}
use Rattle.check_slots.specs.Homes.{part_at, class_at, roots_at, fault_at, fragments_at, fault_of}
use Rattle.check_slots.proofs.Onward.{a-here, nowhere-past, nowhere-within, parts-on, roots-on}
use Rattle.check_slots.proofs.Rising.{not-among, parts-past, roots-past}

-- A place, and what is set there

pub place-of : {p : Spot} {r : ℕ} {v : List ℕ} → p ≡ (r, v) → r ≡ p.0
place-of e = sym (ap (λ (p : Spot). p.0) e)

pub set-of : {p : Spot} {r : ℕ} {v : List ℕ} → p ≡ (r, v) → v ≡ p.1
set-of e = sym (ap (λ (p : Spot). p.1) e)

-- Ranges and options

range-within : (t : List ℕ) (at : ℕ) → at ≤ length t → behind_range t at ≤ length t
unfolding behind_range
range-within t at l = by (is_a t 33 at) refl
  where
    by : (b : Bool) → is_a t 33 at ≡ b → pick_n b (at + 18) (nowhere t at) ≤ length t
    by true e = unfold pick_n in
        let h = a-here t 33 at e in
        let m : body_mark (byte_at t at) ≡ 17 = rw h.1 rows.range in omega (arith, m, h.0.fits)
    by false e = unfold pick_n in omega (arith, nowhere-within t at l)

ranges-within : (t : List ℕ) (n at : ℕ) → at ≤ length t → behind_ranges t at n ≤ length t
unfolding behind_ranges
ranges-within t zero at l = l
ranges-within t (suc n) at l = ranges-within t n (behind_range t at) (range-within t at l)

option-within : (t : List ℕ) (at : ℕ) → at ≤ length t → behind_option t at ≤ length t
unfolding behind_option
option-within t at l = by (is_a t 34 at) refl
  where
    by : (b : Bool) → is_a t 34 at ≡ b → pick_n b (behind_ranges t (at + 2) (byte_at t (at + 1))) (nowhere t at) ≤ length t
    by true e = unfold pick_n in
        let h = a-here t 34 at e in
        let m : body_mark (byte_at t at) ≡ 1 = rw h.1 rows.option in
        ranges-within t (byte_at t (at + 1)) (at + 2) (omega (arith, m, h.0.fits))
    by false e = unfold pick_n in omega (arith, nowhere-within t at l)

-- Parts of a class

pub part_within : (t : List ℕ) (at next : ℕ) → next ≤ length t → part_at t at next ≤ length t
unfolding part_at
part_within t at next l = by (eqb (byte_at t at) 31) (eqb (byte_at t at) 32)
  where
    by : (a b : Bool) → pick_n a (behind_ranges t next (byte_at t (at + 2))) (pick_n b (behind_option t next) next) ≤ length t
    by true b = unfold pick_n in ranges-within t (byte_at t (at + 2)) next l
    by false true = unfold pick_n in option-within t next l
    by false false = unfold pick_n in l

-- the whole walk w, of which n parts are left, the next of them at fault
pub parts-fault : (w : Spot) (d : ℕ) (t : List ℕ) (home o at : ℕ) (v : List ℕ) (n : ℕ)
    → w ≡ parts_at (class_at d t home) (part_at t o) (at, v) n → 0 < n → (c : ℕ) → c ≡ part_at t o at
    → (v' : List ℕ) → v' ≡ (class_at d t home c v).1 → (b : ℕ) → (class_at d t home c v).0 ≡ fault_at t b → w ≡ (fault_at t b, v')
parts-fault w d t home o at v n so_far more c p v' s b f =
    parts-on w (class_at d t home) (part_at t o) at v n so_far more c p (fault_at t b) v' (sym f) s
    ∙ parts-past d t home o (n - 1) (fault_at t b) v' (omega arith)

-- Roots

pub roots-fault : (t : List ℕ) (p : Spot) (n : ℕ) → 0 < n → is_a t 6 p.0 ≡ true → (v : List ℕ)
    → v ≡ (class_at 9 t 0 (p.0 + 2) p.1).1 → (b : ℕ) → (class_at 9 t 0 (p.0 + 2) p.1).0 ≡ fault_at t b
    → roots_at t p n ≡ (fault_at t b, v)
roots-fault t p n more a v s b f =
    roots-on t p n more a (fault_at t b) v (sym f) s ∙ roots-past t (n - 1) (fault_at t b) v (omega arith)

-- Fragments

pub fragments-past : (t : List ℕ) (header : ℕ) (os : List ℕ) (n at : ℕ) → length t ≤ at → fragments_at t header os at n ≡ at
unfolding fragments_at pick_n
fragments-past t header os zero at l = refl
fragments-past t header os (suc n) at l = rw (not-among t 1 5 at l) (nowhere-past t at l)

-- The end

pub fault-above : (t : List ℕ) (b : ℕ) → fault_of t (fault_at t b) ≡ b
unfolding fault_of pick_n
fault-above t b =
    let z : fault_at t b - length t - 1 ≡ b = omega arith in
    rw (lt-ltb (length t) (fault_at t b) (omega arith), z)

pub fault-none : (t : List ℕ) (e : ℕ) → e ≤ length t → fault_of t e ≡ length t
unfolding fault_of pick_n
fault-none t e l = rw (le-ltb (length t) e l)
