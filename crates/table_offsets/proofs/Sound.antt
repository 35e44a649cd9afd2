-- A record with no fault: its bytes are there, and its numbers are in their ranges.
use mathlib.Core.Path.{◌≡◌, refl, ap, ◌∙◌}
use mathlib.Core.Bool.{Bool, true, false, ◌&&◌}
use mathlib.Core.List.{List}
use Prim.Native.Nat.{ℕ, ◌+◌, ◌-◌, ◌<◌, ◌≤◌}
use native.Mathlib.Omega.{arith}
use borrow.Author.Tests.{leb-true, eqb-true, leb-false, eqb-false}
use lib.Dec.{ltb, leb, eqb}
use lib.ListN.{length, get_or}
use Rattle.table_offsets.specs.Bodies.{body_mark, no_kind}
use Rattle.table_offsets.specs.Check.{pick_n, pick_b, head_fault, kind_fault, number_fault, slot_fault, role_ok, length_ok, count_ok}
use Rattle.table_offsets.specs.Check.{says_at, say_of, sayings, say, inside, range_fault, option_fault, class_fault, say_fault}
use Rattle.table_offsets.specs.declared.Says.{Says}
use Rattle.table_offsets.specs.declared.Under.{Under}
use Rattle.table_offsets.proofs.Picked.{first_fine, fails, holds, inside-fine}
use Rattle.table_offsets.proofs.Rows.{rows}

by-head : (t : List ℕ) (at : ℕ) (a b c : Bool) → leb (length t) at ≡ a → leb (length t - at) (body_mark (get_or t at 0)) ≡ c
    → pick_n a 3 (pick_n b 2 (pick_n c 3 0)) ≡ 0 → (at < length t) × (body_mark (get_or t at 0) < length t - at)
unfolding pick_n
by-head t at true b c p r h = absurd (omega arith)
by-head t at false true c p r h = absurd (omega arith)
by-head t at false false true p r h = absurd (omega arith)
by-head t at false false false p r h = (leb-false _ _ p, leb-false _ _ r)

-- its bytes are there
pub head-fine : (t : List ℕ) (at : ℕ) → head_fault t at ≡ 0 → (at < length t) × (body_mark (get_or t at 0) < length t - at)
unfolding head_fault
head-fine t at e =
    by-head t at (leb (length t) at) (eqb (body_mark (get_or t at 0)) no_kind) (leb (length t - at) (body_mark (get_or t at 0))) refl refl e

by_kind : (k : ℕ) (a b c d : Bool) → eqb k 28 ≡ b → leb 16 k ≡ c → leb k 32 ≡ d → pick_n a (pick_n b 0 9) (pick_n (c && d) 0 9) ≡ 0
    → (16 ≤ k) × (k ≤ 32)
unfolding pick_n
by_kind k true true c d p q r h = let e : k ≡ 28 = eqb-true _ _ p in omega arith
by_kind k true false c d p q r h = absurd (omega arith)
by_kind k false b true true p q r h = (leb-true _ _ q, leb-true _ _ r)
by_kind k false b true false p q r h = absurd (omega arith)
by_kind k false b false d p q r h = absurd (omega arith)

-- a class record is of kinds 16 to 32
pub kind-fine : (k start at : ℕ) → kind_fault k start at ≡ 0 → (16 ≤ k) × (k ≤ 32)
unfolding kind_fault inside
kind-fine k start at e = by_kind k (eqb at start) (eqb k 28) (leb 16 k) (leb k 32) refl refl refl e

-- ranges and options

pub range-room : (t : List ℕ) (at : ℕ) → head_fault t at ≡ 0 → get_or t at 0 ≡ 33 → at + 18 ≤ length t
range-room t at e k =
    let b = head-fine t at e in let m : body_mark (get_or t at 0) ≡ 17 = ap body_mark k ∙ rows.range in omega (arith, b.0, b.1)

pub range-fine : (t : List ℕ) (h : ℕ) (done : List ℕ) (at : ℕ) → range_fault t h done at ≡ 0 → at + 18 ≤ length t
unfolding range_fault
range-fine t h done at e =
    let a = first_fine _ _ e in let b = head-fine t at a.0 in
    let k : get_or t at 0 ≡ 33 = eqb-true _ _ (holds (eqb (get_or t at 0) 33) 8 _ a.1).0 in
    let m : body_mark (get_or t at 0) ≡ 17 = ap body_mark k ∙ rows.range in omega (arith, b.0, b.1)

pub option-fine : (t : List ℕ) (at : ℕ) → option_fault t at ≡ 0 → (at + 2 ≤ length t) × (get_or t (at + 1) 0 ≤ 16)
unfolding option_fault
option-fine t at e =
    let a = first_fine _ _ e in let b = head-fine t at a.0 in
    let k = holds (eqb (get_or t at 0) 34) 8 _ a.1 in
    let m : body_mark (get_or t at 0) ≡ 1 = ap body_mark (eqb-true _ _ k.0) ∙ rows.option in
    (omega (arith, b.0, b.1), (inside-fine _ _ _ (holds (inside (get_or t (at + 1) 0) 1 16) 9 0 k.1).0).1)

-- classes

pub record Sound (u : Under) (left : ℕ) (t : List ℕ) (at : ℕ) : Type 0 where
  pub within : at < length t
  pub body : body_mark (get_or t at 0) < length t - at
  pub low : 16 ≤ get_or t at 0
  pub high : get_or t at 0 ≤ 32
  pub numbers : number_fault (says_at t at) ≡ 0
  pub slots : slot_fault u.root (says_at t at).sets (says_at t at).reads ≡ 0
  pub roles : role_ok (says_at t at) u at ≡ true
  pub level : 0 < left

pub sound : (u : Under) (left : ℕ) (t : List ℕ) (at : ℕ) → class_fault u left t at ≡ 0 → Sound u left t at
unfolding class_fault say_fault
sound u left t at e =
    let a = first_fine _ _ e in
    let h = head-fine t at a.0 in
    let b = first_fine _ _ a.1 in
    let k = kind-fine _ _ _ b.0 in
    let n = first_fine _ _ b.1 in
    let s = first_fine _ _ n.1 in
    let r = holds (role_ok (says_at t at) u at) 11 _ s.1 in
    let z : left ≡ 0 → ⊥ = eqb-false left 0 (fails (eqb left 0) 13 0 r.1).0 in
    record {
      within = h.0;
      body = h.1;
      low = k.0;
      high = k.1;
      numbers = n.0;
      slots = s.0;
      roles = r.0;
      level = omega (arith, z);
    }

-- a variant has at most 32 options

count-fine : (y : Says) → number_fault y ≡ 0 → count_ok y.kind y.count ≡ true
unfolding number_fault
count-fine y e =
    let a = holds (length_ok y.kind y.length) 9 _ e in
    let b = fails (ltb 1 y.order) 9 _ a.1 in
    let c = fails (ltb 6 y.align) 9 _ b.1 in
    let d = fails (inside y.sets 64 254) 9 _ c.1 in
    let f = fails (inside y.reads 64 254) 9 _ d.1 in
    let g = fails (ltb 11 y.role) 9 _ f.1 in (holds (count_ok y.kind y.count) 9 0 g.1).0

count-32 : (n : ℕ) → count_ok 32 n ≡ true → n ≤ 32
unfolding count_ok pick_b
count-32 n e = (inside-fine n 1 32 e).1

pub at-most-32 : (t : List ℕ) (at : ℕ) → get_or t at 0 ≡ 32 → number_fault (says_at t at) ≡ 0 → get_or t (at + 2) 0 ≤ 32
unfolding says_at say_of sayings say
at-most-32 t at k e = count-32 _ (rw k at (count-fine (says_at t at) e))
