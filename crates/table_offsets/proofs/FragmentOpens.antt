-- A fragment with no fault: its kind, its bytes, one more of those that count, and where its roots end.
use mathlib.Core.Path.{◌≡◌, refl, sym, ◌∙◌}
use mathlib.Core.Bool.{Bool, true, false, ◌||◌, not}
use mathlib.Core.List.{List, ◌∷◌}
use Prim.Native.Nat.{ℕ, ◌+◌, ◌-◌, ◌<◌, ◌≤◌}
use native.Mathlib.Omega.{arith}
use borrow.Author.Tests.{eqb-true, ltb-false, eqb-false}
use lib.Dec.{ltb, eqb}
use lib.ListN.{length, get_or, set}
use Rattle.table_offsets.specs.Bodies.{body_mark}
use Rattle.table_offsets.specs.Check.{pick_n, pick_w, latest, roots_at, roots_of, open_fault, fragment_fault, seen_with, counted}
use Rattle.table_offsets.specs.Walks.{Fine}
use Rattle.table_offsets.proofs.Ends.{roots-end}
use Rattle.table_offsets.proofs.Picked.{first_fine}
use Rattle.table_offsets.proofs.Places.{latest-other, latest-set}
use Rattle.table_offsets.proofs.Rows.{rows, room}
use Rattle.table_offsets.proofs.Sound.{head-fine}

pub record FragmentOpens (t : List ℕ) (n at : ℕ) : Type 0 where
  pub within : at < length t
  pub body : body_mark (get_or t at 0) < length t - at
  pub low : 2 ≤ get_or t at 0
  pub high : get_or t at 0 ≤ 5
  pub few : n + counted (get_or t at 0) ≤ 512

open-few : (n k x : ℕ) (a b c d : Bool) → eqb k 2 ≡ a → eqb k 3 ≡ b → eqb k 4 ≡ c → eqb k 5 ≡ d → n ≤ 512 → (u v w : Bool)
    → pick_n a x (pick_n b (pick_n u 10 (pick_n v 10 (pick_n w 15 0))) (pick_n (c || d) (pick_n w 15 0) 9)) ≡ 0 → ltb 511 n ≡ w
    → (2 ≤ k) × ((k ≤ 5) × (n + pick_n a 0 1 ≤ 512))
unfolding pick_n
open-few n k x true b c d p q r s h u v w e f = let z : k ≡ 2 = eqb-true _ _ p in (omega arith, (omega arith, omega arith))
open-few n k x false true c d p q r s h true v w e f = absurd (omega arith)
open-few n k x false true c d p q r s h false true w e f = absurd (omega arith)
open-few n k x false true c d p q r s h false false true e f = absurd (omega arith)
open-few n k x false true c d p q r s h false false false e f =
    let z : k ≡ 3 = eqb-true _ _ q in let y : n ≤ 511 = ltb-false _ _ f in (omega arith, (omega arith, omega arith))
open-few n k x false false true d p q r s h u v true e f = absurd (omega arith)
open-few n k x false false true d p q r s h u v false e f =
    let z : k ≡ 4 = eqb-true _ _ r in let y : n ≤ 511 = ltb-false _ _ f in (omega arith, (omega arith, omega arith))
open-few n k x false false false true p q r s h u v true e f = absurd (omega arith)
open-few n k x false false false true p q r s h u v false e f =
    let z : k ≡ 5 = eqb-true _ _ s in let y : n ≤ 511 = ltb-false _ _ f in (omega arith, (omega arith, omega arith))
open-few n k x false false false false p q r s h u v w e f = absurd (omega arith)

pub opens : (t : List ℕ) (trace : Bool) (seen : List ℕ) (n at : ℕ) → n ≤ 512 → (f : ℕ) → f ≡ fragment_fault t trace seen n at → f ≡ 0
    → FragmentOpens t n at
unfolding fragment_fault open_fault counted
opens t trace seen n at h f asked fine =
    let a = first_fine _ _ (sym asked ∙ fine) in
    let b = head-fine t at a.0 in
    let o = first_fine _ _ a.1 in
    let k = get_or t at 0 in
    let g = open-few n k _ (eqb k 2) (eqb k 3) (eqb k 4) (eqb k 5) refl refl refl refl h _ _ (ltb 511 n) o.1 refl in
    record { within = b.0; body = b.1; low = g.0; high = g.1.0; few = g.1.1 }

by-roots : (t : List ℕ) (at k e : ℕ) (a b c : Bool) → eqb k 2 ≡ a → eqb k 3 ≡ b → eqb k 4 ≡ c → 2 ≤ k → k ≤ 5
    → at + 1 + body_mark k ≤ length t
    → pick_w a (roots_at t false (eqb (get_or t (at + 1) 0) 1) 0 (at + 18) 1)
    (pick_w b (roots_at t false false 0 (at + 10) 0)
    (pick_w c (roots_at t (not (eqb (get_or t (at + 9) 0) 255)) false 1 (at + 10) 3) (roots_at t false false 4 (at + 17) 2))) ≡ Fine e
    → (at < e) × (e ≤ length t)
unfolding pick_w
by-roots t at k e true b c p q r l m h w =
    let x = roots-end t _ _ 0 (at + 18) 1 e (omega (arith, room k 2 17 rows.trace_class (length t) at h (eqb-true _ _ p))) w in
    (omega (arith, x.0), x.1)
by-roots t at k e false true c p q r l m h w =
    let x = roots-end t _ _ 0 (at + 10) 0 e (omega (arith, room k 3 9 rows.clock_class (length t) at h (eqb-true _ _ q))) w in
    (omega (arith, x.0), x.1)
by-roots t at k e false false true p q r l m h w =
    let x = roots-end t _ _ 1 (at + 10) 3 e (omega (arith, room k 4 9 rows.stream_class (length t) at h (eqb-true _ _ r))) w in
    (omega (arith, x.0), x.1)
by-roots t at k e false false false p q r l m h w =
    let a = eqb-false k 2 p in let b = eqb-false k 3 q in let c = eqb-false k 4 r in
    let z : k ≡ 5 = omega (arith, a, b, c) in
    let x = roots-end t _ _ 4 (at + 17) 2 e (omega (arith, room k 5 16 rows.event_class (length t) at h z)) w in
    (omega (arith, x.0), x.1)

pub fragment-end : (t : List ℕ) (n at e : ℕ) → FragmentOpens t n at → roots_of t at (get_or t at 0) ≡ Fine e → (at < e) × (e ≤ length t)
unfolding roots_of
fragment-end t n at e o w =
    let k = get_or t at 0 in
    by-roots t at k e (eqb k 2) (eqb k 3) (eqb k 4) refl refl refl o.low o.high (omega (arith, o.within, o.body)) w

-- what is seen with it

by-seen : (xs : List ℕ) (n at : ℕ) (b : Bool) → n < length xs
    → latest (set xs n at) (n + pick_n b 0 1) ≡ elim b [ true ↦ latest xs n | false ↦ at ∷ latest xs n ]
unfolding pick_n
by-seen xs n at true h = let e : n + 0 ≡ n = omega arith in rw e (latest-other xs n at n (omega arith))
by-seen xs n at false h = sym (latest-set xs n at h)

pub seen_more : (xs : List ℕ) (n at k : ℕ) → n < length xs → latest (set xs n at) (n + counted k) ≡ seen_with at k (latest xs n)
unfolding counted seen_with
seen_more xs n at k h = by-seen xs n at (eqb k 2) h

by_length : (at : ℕ) (seen : List ℕ) (b : Bool)
    → length {A = ℕ} (elim b as (λ _. List ℕ) [ true ↦ seen | false ↦ at ∷ seen ]) ≡ length seen + pick_n b 0 1
unfolding pick_n
by_length at seen true = omega arith
by_length at seen false = omega arith

pub seen-length : (at k : ℕ) (seen : List ℕ) → length (seen_with at k seen) ≡ length seen + counted k
unfolding seen_with counted
seen-length at k seen = by_length at seen (eqb k 2)
