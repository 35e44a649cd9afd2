-- The loop over a fragment's roots: which root's place it still has to find from a byte on.
use Rattle.std.specs.Prelude.{Option, None, Some}
use mathlib.Core.Path.{◌≡◌, refl, sym, ap, ◌∙◌}
use Prim.Native.Nat.{ℕ, zero, suc, ◌+◌, ◌-◌, ◌≤◌, ◌<◌}
use native.Mathlib.Omega.{arith}
use mathlib.Core.List.{List, [], ◌∷◌}
use mathlib.Core.Bool.{Bool, true, false}
use mathlib.Core.Logic.{⊎_elim}
use lib.ListN.{length, get_or, get_or-eq_default}
use Rattle.rules.specs.Limits.{depth_limit}
use Rattle.rules.specs.Record.{u8}
use Rattle.facts.proofs.Numbers.{lt-or-ge}
use Rattle.class_layout.specs.declared.openings.Opening.{Opening}
use Rattle.class_layout.specs.Trees.{next_at, IsWhole}
use Rattle.class_layout.specs.Fragments.{root_here, root_places, behind_roots, root_place, behind_fragment, Fragment}
use Rattle.class_layout.specs.Sizes.{SizedRoots, SizedFragment, numbered, OpeningOf, behind_root, SizedRoot}

-- a class that stands whole begins before the table's end, past which every byte reads as 0
pub whole-inside : (d : ℕ) (t : List ℕ) (p : ℕ) → IsWhole d t p → p < length t
unfolding IsWhole u8
whole-inside zero t p w = absurd w
whole-inside (suc d) t p w = ⊎_elim
    (λ (l : p < length t). l)
    (λ (l : length t ≤ p). absurd (omega (arith, w.low, get_or-eq_default t 0 {n = p} l)))
    (lt-or-ge p (length t))

-- the place of the root n if it stands at a byte, and the places behind it
abbrev place_here : List ℕ → ℕ → ℕ → Option ℕ
place_here t at n = elim (root_here t at n) [ true ↦ Some (at + 2) | false ↦ None ]

places-cons : (t : List ℕ) (at n : ℕ) (ns : List ℕ) → root_places t at (n ∷ ns) ≡ place_here t at n ∷ root_places t (behind_root t at n) ns
unfolding root_places behind_root
places-cons t at n ns = by (root_here t at n)
  where
    by : (b : Bool)
        → ◌≡◌ {A = List (Option ℕ)}
        (elim b [ true ↦ Some (at + 2) ∷ root_places t (next_at depth_limit t (at + 2)) ns | false ↦ None ∷ root_places t at ns ])
        (elim b [ true ↦ Some (at + 2) | false ↦ None ] ∷ root_places t (elim b [ true ↦ next_at depth_limit t (at + 2) | false ↦ at ]) ns)
    by true = refl
    by false = refl

length-places : (t : List ℕ) (at : ℕ) (ns : List ℕ) → length (root_places t at ns) ≡ length ns
length-places t at [] = unfold root_places in refl
length-places t at (n ∷ ns) = ap length (places-cons t at n ns) ∙ ap suc (length-places t (behind_root t at n) ns)

length-numbered : (n m : ℕ) → length (numbered n m) ≡ m
unfolding numbered
length-numbered n zero = refl
length-numbered n (suc m) = ap suc (length-numbered (n + 1) m)

-- from the root `number` on, at a byte, there are these roots, and the one looked for is `left` further on
pub record Turn (t s : List ℕ) (o turn at number left : ℕ) : Type 0 where
  pub more : ℕ
  pub enough : left < more
  pub same : root_place t o turn ≡ get_or (root_places t at (numbered number more)) left None
  pub roots : (j p : ℕ) → get_or (root_places t at (numbered number more)) j None ≡ Some p
      → IsWhole depth_limit t p × (p + get_or s p 0 ≡ next_at depth_limit t p)

module _ (t : List ℕ) (o turn : ℕ) {r : Opening} (e : OpeningOf (u8 t o) r) where
  places-are : (j : ℕ) → root_place t o j ≡ get_or (root_places t (o + r.size) (numbered r.first r.count)) j None
  unfolding root_place
  places-are j = rw (e.size, ← e.roots)

  pub turn-none : r.count ≤ turn → None ≡ root_place t o turn
  turn-none l =
      let ps = root_places t (o + r.size) (numbered r.first r.count) in
      let k : length ps ≤ turn =
      rw (length-places t (o + r.size) (numbered r.first r.count), length-numbered r.first r.count) l in
      rw (places-are turn, get_or-eq_default ps None {n = turn} k)

  pub turn-start : {s : List ℕ} → SizedFragment t s o → turn < r.count → Turn t s o turn (o + r.size) r.first turn
  turn-start h l = record {
    more = r.count;
    enough = l;
    same = places-are turn;
    roots = λ j p k. let q : root_place t o j ≡ Some p = places-are j ∙ k in (h.stands.roots j p q, h.roots j p q);
  }

-- the root at a byte, and those behind it
record Next (t s : List ℕ) (o turn at number left : ℕ) : Type 0 where
  sized : SizedRoot t s at number
  later : 0 < left → Turn t s o turn (behind_root t at number) (number + 1) (left - 1)
  here : left ≤ 0 → root_place t o turn ≡ place_here t at number

module _ {t s : List ℕ} {o turn at number left : ℕ} (h : Turn t s o turn at number left) where
  next : Next t s o turn at number left
  unfolding numbered
  next = by h.more left h.enough h.same h.roots
    where
      Roots : List (Option ℕ) → Type 0
      Roots ps = (j p : ℕ) → get_or ps j None ≡ Some p → IsWhole depth_limit t p × (p + get_or s p 0 ≡ next_at depth_limit t p)

      behind : ℕ → List (Option ℕ)
      behind more = root_places t (behind_root t at number) (numbered (number + 1) more)

      sized : (more : ℕ) → Roots (place_here t at number ∷ behind more) → SizedRoot t s at number
      sized more r b = let w = r 0 (at + 2) (rw (b, place_here)) in (whole-inside depth_limit t (at + 2) w.0, w.1)

      by : (more left : ℕ) → left < more → root_place t o turn ≡ get_or (root_places t at (numbered number more)) left None
          → Roots (root_places t at (numbered number more))
          → Next t s o turn at number left
      by zero left l e r = absurd (omega arith)
      by (suc more) zero l e r =
          let c = places-cons t at number (numbered (number + 1) more) in
          record { sized = sized more (rw c at r); later = λ k. absurd (omega arith); here = λ k. rw c at e }
      by (suc more) (suc left) l e r =
          let c = places-cons t at number (numbered (number + 1) more) in
          let m : suc left - 1 ≡ left = omega arith in
          record {
            sized = sized more (rw c at r);
            later = λ k. record { more = more; enough = omega arith; same = rw (c, ← m) at e; roots = λ j p k. r (suc j) p (rw c k) };
            here = λ k. absurd (omega arith);
          }

  pub turn-sized : SizedRoot t s at number
  turn-sized = next.sized

  pub turn-next : {a : ℕ} → 0 < left → a ≡ behind_root t at number → Turn t s o turn a (number + 1) (left - 1)
  turn-next l e = rw e (next.later l)

  pub turn-here : left ≤ 0 → root_here t at number ≡ true → Some (at + 2) ≡ root_place t o turn
  turn-here l b = rw (next.here l, b, place_here)

  pub turn-absent : left ≤ 0 → root_here t at number ≡ false → None ≡ root_place t o turn
  turn-absent l b = rw (next.here l, b, place_here)

-- The byte behind a fragment's roots: of those from a byte on, `left` are left

behind-cons : (t : List ℕ) (at n : ℕ) (ns : List ℕ) → behind_roots t at (n ∷ ns) ≡ behind_roots t (behind_root t at n) ns
unfolding behind_roots behind_root
behind-cons t at n ns = by (root_here t at n)
  where
    by : (b : Bool) → elim b [ true ↦ behind_roots t (next_at depth_limit t (at + 2)) ns | false ↦ behind_roots t at ns ]
        ≡ behind_roots t (elim b [ true ↦ next_at depth_limit t (at + 2) | false ↦ at ]) ns
    by true = refl
    by false = refl

pub record RootsLeft (t s : List ℕ) (o at number left : ℕ) : Type 0 where
  pub same : behind_fragment t o ≡ behind_roots t at (numbered number left)
  pub roots : (j p : ℕ) → get_or (root_places t at (numbered number left)) j None ≡ Some p
      → IsWhole depth_limit t p × (p + get_or s p 0 ≡ next_at depth_limit t p)

module _ {t s : List ℕ} {o : ℕ} where
  pub roots-start : {r : Opening} → Fragment t o → SizedRoots t s o → OpeningOf (u8 t o) r → RootsLeft t s o (o + r.size) r.first r.count
  unfolding behind_fragment
  roots-start h k e = record {
    same = rw (e.size, ← e.roots);
    roots = λ j p f. let q : root_place t o j ≡ Some p = places-are t o 0 e j ∙ f in (h.roots j p q, k j p q);
  }

  pub roots-sized : {at number : ℕ} (left : ℕ) → 0 < left → RootsLeft t s o at number left → SizedRoot t s at number
  unfolding numbered
  roots-sized zero l h b = absurd (omega arith)
  roots-sized {at} {number} (suc left) l h b =
      let w = h.roots 0 (at + 2) (rw (places-cons t at number (numbered (number + 1) left), b, place_here)) in
      (whole-inside depth_limit t (at + 2) w.0, w.1)

  pub roots-next : {at number a : ℕ} (left : ℕ) → 0 < left → a ≡ behind_root t at number → RootsLeft t s o at number left
      → RootsLeft t s o a (number + 1) (left - 1)
  unfolding numbered
  roots-next zero l e h = absurd (omega arith)
  roots-next {at} {number} (suc left) l e h =
      let z : suc left - 1 ≡ left = omega arith in
      let c = places-cons t at number (numbered (number + 1) left) in
      record {
        same = rw (e, z) (h.same ∙ behind-cons t at number (numbered (number + 1) left));
        roots = λ j p f. h.roots (suc j) p (rw c (rw (e, z) at f));
      }

  pub roots-done : {at number : ℕ} (left : ℕ) → left ≤ 0 → RootsLeft t s o at number left → at ≡ behind_fragment t o
  unfolding numbered behind_roots
  roots-done zero l h = sym h.same
  roots-done (suc left) l h = absurd (omega arith)
