-- Where a walk ends: a class takes bytes, and all of them are there. So the check comes to an end.
use mathlib.Core.Path.{◌≡◌, refl, sym, ◌∙◌}
use mathlib.Core.Bool.{Bool, true, false}
use mathlib.Core.List.{List, [], ◌∷◌}
use Prim.Native.Nat.{ℕ, zero, suc, ◌+◌, ◌*◌, ◌<◌, ◌≤◌}
use native.Mathlib.Omega.{arith}
use borrow.Author.Tests.{eqb-true}
use lib.Dec.{eqb}
use lib.ListN.{length, get_or}
use Rattle.facts.proofs.Truth.{and_left}
use Rattle.table_offsets.specs.Bodies.{body_mark}
use Rattle.table_offsets.specs.Check.{pick_w, head_fault, stray, ranges_at, range_fault, members_at, options_at, option_fault}
use Rattle.table_offsets.specs.Check.{or_else, then, class_at, class_fault, kind_at, root_here, root_at, under, roots_at}
use Rattle.table_offsets.specs.declared.Under.{Under}
use Rattle.table_offsets.specs.Walks.{Walk, Fine, Bad}
use Rattle.table_offsets.proofs.Rows.{rows, room}
use Rattle.table_offsets.proofs.Sound.{head-fine, range-fine, option-fine, sound}
use Rattle.table_offsets.proofs.Walked.{root-there, root-not}

pub fine-bad : (e n p : ℕ) → Bad n p ≡ Fine e → ⊥
fine-bad e n p h = let z : ◌≡◌ {A = ℕ} 0 1 = cc in omega arith

pub same_end : (a b : ℕ) → Fine a ≡ Fine b → a ≡ b
same_end a b h = cc

pub else-fine : (n at : ℕ) (w : Walk) (e : ℕ) → or_else n at w ≡ Fine e → (n ≡ 0) × (w ≡ Fine e)
unfolding or_else
else-fine zero at w e h = (refl, h)
else-fine (suc n) at w e h = absurd (fine-bad _ _ _ h)

pub record Then (w : Walk) (f : ℕ → Walk) (e : ℕ) : Type 0 where
  pub mid : ℕ
  pub front : w ≡ Fine mid
  pub back : f mid ≡ Fine e

pub then-fine : (w : Walk) (f : ℕ → Walk) (e : ℕ) → then w f ≡ Fine e → Then w f e
unfolding then
then-fine (Fine m) f e h = record { mid = m; front = refl; back = h }
then-fine (Bad n p) f e h = absurd (fine-bad _ _ _ h)

-- within a class

pub ranges-end : (t : List ℕ) (h : ℕ) (done : List ℕ) (at n e : ℕ) → at ≤ length t → ranges_at t h done at n ≡ Fine e
    → (e ≡ at + 18 * n) × (e ≤ length t)
unfolding ranges_at
ranges-end t h done at zero e l q = let z : at ≡ e = same_end _ _ q in (omega arith, omega arith)
ranges-end t h done at (suc n) e l q =
    let a = else-fine (range_fault t h done at) at _ e q in
    let b = ranges-end t h done (at + 18) n e (range-fine _ _ _ _ a.0) a.1 in (omega (arith, b.0), b.1)

module _ (f : ℕ → Walk) (t : List ℕ) (deeper : (p e : ℕ) → f p ≡ Fine e → (p < e) × (e ≤ length t)) where
  pub members-end : (at n e : ℕ) → at ≤ length t → members_at f at n ≡ Fine e → (at ≤ e) × (e ≤ length t)
  unfolding members_at
  members-end at zero e l q = let z : at ≡ e = same_end _ _ q in (omega arith, omega arith)
  members-end at (suc n) e l q =
      let a = then-fine (f at) _ e q in
      let b = deeper at a.mid a.front in
      let d = members-end a.mid n e b.1 a.back in (omega (arith, b.0, d.0), d.1)

  pub options-end : (h : ℕ) (done : List ℕ) (at n e : ℕ) → at ≤ length t → options_at f t h done at n ≡ Fine e → (at ≤ e) × (e ≤ length t)
  unfolding options_at
  options-end h done at zero e l q = let z : at ≡ e = same_end _ _ q in (omega arith, omega arith)
  options-end h done at (suc n) e l q =
      let a = else-fine (option_fault t at) at _ e q in
      let r = then-fine (ranges_at t h done (at + 2) (get_or t (at + 1) 0)) _ e a.1 in
      let x = ranges-end t h done (at + 2) (get_or t (at + 1) 0) r.mid (option-fine t at a.0).0 r.front in
      let c = then-fine (f r.mid) _ e r.back in
      let y = deeper r.mid c.mid c.front in
      let d = options-end h (at ∷ done) c.mid n e y.1 c.back in (omega (arith, x.0, y.0, d.0), d.1)

  kind-end : (at k e : ℕ) → 3 ≤ body_mark k + 3 → at + 1 + body_mark k ≤ length t
      → (k ≡ 28 → at + 3 ≤ length t) → (k ≡ 31 → at + 3 ≤ length t) → (k ≡ 32 → at + 3 ≤ length t)
      → (a b c d g : Bool) → eqb k 28 ≡ a → eqb k 31 ≡ d → eqb k 32 ≡ g
      → pick_w a (members_at f (at + 3) (get_or t (at + 1) 0))
      (pick_w b (f (at + 4))
      (pick_w c (f (at + 3))
      (pick_w d (then (ranges_at t (at + 3) [] (at + 3) (get_or t (at + 2) 0)) f)
      (pick_w g (options_at f t (at + 5) [] (at + 3) (get_or t (at + 2) 0)) (Fine (at + 1 + body_mark k)))))) ≡ Fine e
      → (at < e) × (e ≤ length t)
  unfolding pick_w
  kind-end at k e o l m n p true b c d g a1 d1 g1 q =
      let x = members-end (at + 3) (get_or t (at + 1) 0) e (m (eqb-true _ _ a1)) q in (omega (arith, x.0), x.1)
  kind-end at k e o l m n p false true c d g a1 d1 g1 q = let x = deeper (at + 4) e q in (omega (arith, x.0), x.1)
  kind-end at k e o l m n p false false true d g a1 d1 g1 q = let x = deeper (at + 3) e q in (omega (arith, x.0), x.1)
  kind-end at k e o l m n p false false false true g a1 d1 g1 q =
      let r = then-fine (ranges_at t (at + 3) [] (at + 3) (get_or t (at + 2) 0)) f e q in
      let x = ranges-end t (at + 3) [] (at + 3) (get_or t (at + 2) 0) r.mid (n (eqb-true _ _ d1)) r.front in
      let y = deeper r.mid e r.back in (omega (arith, x.0, y.0), y.1)
  kind-end at k e o l m n p false false false false true a1 d1 g1 q =
      let x = options-end (at + 5) [] (at + 3) (get_or t (at + 2) 0) e (p (eqb-true _ _ g1)) q in (omega (arith, x.0), x.1)
  kind-end at k e o l m n p false false false false false a1 d1 g1 q =
      let z : at + 1 + body_mark k ≡ e = same_end _ _ q in (omega arith, omega arith)

-- a class takes bytes, and they are there
pub class-end : (u : Under) (d : ℕ) (t : List ℕ) (at e : ℕ) → class_at u d t at ≡ Fine e → (at < e) × (e ≤ length t)
unfolding class_at kind_at
class-end u zero t at e q = absurd (fine-bad _ _ _ (else-fine (class_fault u 0 t at) at _ e q).1)
class-end u (suc d) t at e q =
    let a = else-fine (class_fault u (suc d) t at) at _ e q in
    let s = sound u (suc d) t at a.0 in
    let k = get_or t at 0 in
    let l : at + 1 + body_mark k ≤ length t = omega (arith, s.within, s.body) in
    kind-end (class_at u d t) t (λ p x h. class-end u d t p x h) at k e (omega arith) l
    (room k 28 2 rows.structure (length t) at l)
    (room k 31 2 rows.optional (length t) at l)
    (room k 32 2 rows.variant (length t) at l)
    (eqb k 28) (eqb k 29) (eqb k 30) (eqb k 31) (eqb k 32) refl refl refl a.1

-- roots

pub root-head : (t : List ℕ) (n at : ℕ) → root_here t n at ≡ true → at < length t
unfolding root_here
root-head t n at h = (head-fine t at (eqb-true (head_fault t at) 0 (and_left (eqb (head_fault t at) 0) _ h))).0

by-root : (t : List ℕ) (timed uuid : Bool) (n at e : ℕ) (b : Bool) → at ≤ length t → root_here t n at ≡ b
    → root_at t timed uuid n at ≡ Fine e → (at ≤ e) × (e ≤ length t)
by-root t timed uuid n at e true l h q =
    let x = class-end (under timed uuid n (at + 2)) 8 t (at + 2) e (sym (root-there t timed uuid n at h) ∙ q) in (omega (arith, x.0), x.1)
by-root t timed uuid n at e false l h q =
    let z : at ≡ e = same_end _ _ (sym (root-not t timed uuid n at h) ∙ q) in (omega arith, omega arith)

pub roots-end : (t : List ℕ) (timed uuid : Bool) (n at m e : ℕ) → at ≤ length t → roots_at t timed uuid n at m ≡ Fine e
    → (at ≤ e) × (e ≤ length t)
unfolding roots_at
roots-end t timed uuid n at zero e l q =
    let z : at ≡ e = same_end _ _ (else-fine (stray t at) at (Fine at) e q).1 in (omega arith, omega arith)
roots-end t timed uuid n at (suc m) e l q =
    let a = then-fine (root_at t timed uuid n at) _ e q in
    let b = by-root t timed uuid n at a.mid (root_here t n at) l refl a.front in
    let d = roots-end t timed uuid (n + 1) a.mid m e b.1 a.back in (omega (arith, b.0, d.0), d.1)
