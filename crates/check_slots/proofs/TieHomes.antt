-- Homes by value against the rules' two lists. In order: tests; what a walk did to one slot; to all of them; what is known before and
-- behind it.
use mathlib.Core.Path.{◌≡◌, refl, sym, ap, ◌∙◌}
use mathlib.Core.Bool.{Bool, true, false, not, ◌||◌}
use mathlib.Core.List.{List, [], ◌∷◌, ◌++◌}
use Prim.Native.Nat.{ℕ, zero, suc, ◌+◌, ◌<◌, ◌≤◌}
use native.Mathlib.Omega.{arith}
use lib.ListN.{length, get_or, set, replicate, length-set}
use lib.Seq.{get_or-set_same, get_or-set_other}
use lib.Dec.{eqb}
use borrow.Author.Tests.{eqb-true, eqb-false, eq-eqb, ne_eqb}
use Rattle.facts.proofs.Truth.{clash, or-true}
use Rattle.rules.specs.Class.{setting}
use Rattle.rules.specs.Faults.{among}
use Rattle.rules.specs.Homes.{Homes, homes, no_homes as nothing_set, both, across}
use Rattle.table_offsets.specs.Check.{pick_b}
use Rattle.table_offsets.proofs.TieTests.{or-none}
use Rattle.check_slots.specs.Homes.{no_homes, set_elsewhere, pick_l, noted}

-- Tests

pub among-append : (i : ℕ) (xs ys : List ℕ) → among i (xs ++ ys) ≡ (among i xs || among i ys)
unfolding among
among-append i [] ys = refl
among-append i (x ∷ xs) ys = rw (among-append i xs ys) (by (eqb i x))
  where
    by : (a : Bool) → (a || (among i xs || among i ys)) ≡ ((a || among i xs) || among i ys)
    by true = refl
    by false = refl

or_right : (a : Bool) → (a || true) ≡ true
or_right true = refl
or_right false = refl

-- of a slot's word: set by another home
unfoldable other : ℕ → ℕ → Bool
other home a = pick_b (eqb a 0) false (not (eqb a (home + 1)))

other-zero : (home a : ℕ) → a ≡ 0 → other home a ≡ false
unfolding other pick_b
other-zero home a e = rw (eq-eqb a 0 e)

other-here : (home a : ℕ) → a ≡ home + 1 → other home a ≡ false
unfolding other pick_b
other-here home a e = rw (ne_eqb a 0 (λ z. omega arith), eq-eqb a (home + 1) e)

other-else : (home a : ℕ) → (a ≡ 0 → ⊥) → (a ≡ home + 1 → ⊥) → other home a ≡ true
unfolding other pick_b
other-else home a n m = rw (ne_eqb a 0 n, ne_eqb a (home + 1) m)

-- One slot, whose word was a and is b: p and q say whether the walk that did it set the slot at its home, or at another. What it sets at
-- another home it sets in an array that begins at `at` or behind

pub data Did (home at a b : ℕ) (p q : Bool) : Type 0 where
  kept : b ≡ a → q ≡ false → (p ≡ true → a ≡ home + 1) → Did home at a b p q
  set_here : a ≡ 0 → b ≡ home + 1 → p ≡ true → q ≡ false → Did home at a b p q
  set-within : a ≡ 0 → at < b → p ≡ false → q ≡ true → Did home at a b p q

both_false : (p q : Bool) → p ≡ false → q ≡ false → (p || q) ≡ false
both_false p q e f = rw (e, f)

left-true : (p q : Bool) → p ≡ true → (p || q) ≡ true
left-true p q e = rw e

right-true : (p q : Bool) → q ≡ true → (p || q) ≡ true
right-true p q e = rw e (or_right p)

not-true : (p : Bool) → (p ≡ true → ⊥) → p ≡ false
not-true true h = absurd (h refl)
not-true false h = refl

did_then : (home at e a b c : ℕ) (p q p' q' : Bool) → home < at → at ≤ e → Did home at a b p q → Did home e b c p' q'
    → Did home at a c (p || p') (q || q')
did_then home at e a b c p q p' q' l u (kept x y z) (kept x' y' z') =
    kept (x' ∙ x) (both_false q q' y y') (λ o. or-true p p' o z (λ o'. sym x ∙ z' o'))
did_then home at e a b c p q p' q' l u (kept x y z) (set_here x' y' z' w') =
    set_here (sym x ∙ x') y' (right-true p p' z') (both_false q q' y w')
did_then home at e a b c p q p' q' l u (kept x y z) (set-within x' y' z' w') =
    set-within (sym x ∙ x') (omega arith) (both_false p p' (not-true p (λ o. let g = z o in omega arith)) z') (right-true q q' w')
did_then home at e a b c p q p' q' l u (set_here x y z w) (kept x' y' z') =
    set_here x (x' ∙ y) (left-true p p' z) (both_false q q' w y')
did_then home at e a b c p q p' q' l u (set_here x y z w) (set_here x' y' z' w') = absurd (omega arith)
did_then home at e a b c p q p' q' l u (set_here x y z w) (set-within x' y' z' w') = absurd (omega arith)
did_then home at e a b c p q p' q' l u (set-within x y z w) (kept x' y' z') =
    set-within x (omega arith) (both_false p p' z (not-true p' (λ o. let g = z' o in omega arith))) (left-true q q' w)
did_then home at e a b c p q p' q' l u (set-within x y z w) (set_here x' y' z' w') = absurd (omega arith)
did_then home at e a b c p q p' q' l u (set-within x y z w) (set-within x' y' z' w') = absurd (omega arith)

-- out of an element of the array at `at`
did-out : (home at next a b : ℕ) (p q : Bool) → at < next → a ≤ at → Did at next a b p q → Did home at a b false (p || q)
did-out home at next a b p q l u (kept x y z) =
    kept x (both_false p q (not-true p (λ o. let g = z o in omega arith)) y) (λ e. absurd (clash e))
did-out home at next a b p q l u (set_here x y z w) = set-within x (omega arith) refl (left-true p q z)
did-out home at next a b p q l u (set-within x y z w) = set-within x (omega arith) refl (right-true p q w)

did-sooner : (home at e a b : ℕ) (p q : Bool) → at ≤ e → Did home e a b p q → Did home at a b p q
did-sooner home at e a b p q l (kept x y z) = kept x y z
did-sooner home at e a b p q l (set_here x y z w) = set_here x y z w
did-sooner home at e a b p q l (set-within x y z w) = set-within x (omega arith) z w

-- All slots

abbrev pub word : List ℕ → ℕ → ℕ
word v i = get_or v i 0

-- a walk at a home, over what stands from `at` on, set g, and made v' of v
abbrev pub Own : ℕ → ℕ → List ℕ → List ℕ → Homes → Type 0
Own home at v v' g = (i : ℕ) → Did home at (word v i) (word v' i) (among i g.here) (among i g.elsewhere)

-- all homes in v are before `at`
abbrev pub Fresh : ℕ → List ℕ → Type 0
Fresh at v = (i : ℕ) → word v i ≤ at

-- v says what the rules know at a home
pub record Rel (home : ℕ) (h : Homes) (v : List ℕ) : Type 0 where
  pub here : (i : ℕ) → among i h.here ≡ eqb (word v i) (home + 1)
  pub elsewhere : (i : ℕ) → among i h.elsewhere ≡ set_elsewhere v i home

pub own-none : (home at : ℕ) (v : List ℕ) → Own home at v v nothing_set
unfolding among
own-none home at v i = kept refl refl (λ e. absurd (clash e))

pub own-then : (home at e : ℕ) (v v' v'' : List ℕ) (g g' : Homes) → home < at → at ≤ e → Own home at v v' g → Own home e v' v'' g'
    → Own home at v v'' (both g g')
unfolding both
own-then home at e v v' v'' g g' l u a b i =
    rw (among-append i g.here g'.here, among-append i g.elsewhere g'.elsewhere)
    (did_then home at e _ _ _ _ _ _ _ l u (a i) (b i))

pub own_out : (home at next : ℕ) (v v' : List ℕ) (g : Homes) → at < next → Fresh at v → Own at next v v' g → Own home at v v' (across g)
unfolding across among
own_out home at next v v' g l u a i = rw (among-append i g.here g.elsewhere) (did-out home at next _ _ _ _ l (u i) (a i))

pub own-sooner : (home at e : ℕ) (v v' : List ℕ) (g : Homes) → at ≤ e → Own home e v v' g → Own home at v v' g
own-sooner home at e v v' g l a i = did-sooner home at e _ _ _ _ l (a i)

-- what is known behind a walk
rel-here : (home at a b : ℕ) (p q r : Bool) → home < at → Did home at a b p q → r ≡ eqb a (home + 1) → (p || r) ≡ eqb b (home + 1)
rel-here home at a b true q r l (kept x y z) e = sym (eq-eqb b (home + 1) (x ∙ z refl))
rel-here home at a b false q r l (kept x y z) e = e ∙ ap (λ n. eqb n (home + 1)) (sym x)
rel-here home at a b p q r l (set_here x y z w) e = left-true p r z ∙ sym (eq-eqb b (home + 1) y)
rel-here home at a b p q r l (set-within x y z w) e =
    both_false p r z (e ∙ ne_eqb a (home + 1) (λ o. omega arith)) ∙ sym (ne_eqb b (home + 1) (λ o. omega arith))

rel-else : (home at a b : ℕ) (p q r : Bool) → home < at → Did home at a b p q → r ≡ other home a → (q || r) ≡ other home b
rel-else home at a b p q r l (kept x y z) e = rw (y, x) e
rel-else home at a b p q r l (set_here x y z w) e = both_false q r w (e ∙ other-zero home a x) ∙ sym (other-here home b y)
rel-else home at a b p q r l (set-within x y z w) e =
    left-true q r w ∙ sym (other-else home b (λ o. omega arith) (λ o. omega arith))

pub rel-own : (home at : ℕ) (v v' : List ℕ) (g h : Homes) → home < at → Rel home h v → Own home at v v' g → Rel home (both g h) v'
unfolding both set_elsewhere other
rel-own home at v v' g h l r o = record {
  here = λ i. rw (among-append i g.here h.here) (rel-here home at _ _ _ _ _ l (o i) (r.here i));
  elsewhere = λ i. rw (among-append i g.elsewhere h.elsewhere) (rel-else home at _ _ _ _ _ l (o i) (r.elsewhere i));
}

-- into an element of the array at `at`
across-else : (home at a : ℕ) → a ≤ at → (eqb a (home + 1) || other home a) ≡ other at a
across-else home at a u = by (eqb a 0) (eqb a (home + 1)) refl refl
  where
    by : (b c : Bool) → eqb a 0 ≡ b → eqb a (home + 1) ≡ c → (eqb a (home + 1) || other home a) ≡ other at a
    by true c p q =
        let z : a ≡ 0 = eqb-true a 0 p in
        both_false (eqb a (home + 1)) (other home a) (ne_eqb a (home + 1) (λ o. omega arith)) (other-zero home a z)
        ∙ sym (other-zero at a z)
    by false true p q = left-true (eqb a (home + 1)) (other home a) q ∙ sym (other-else at a (eqb-false a 0 p) (λ o. omega arith))
    by false false p q =
        right-true (eqb a (home + 1)) (other home a) (other-else home a (eqb-false a 0 p) (eqb-false a (home + 1) q))
        ∙ sym (other-else at a (eqb-false a 0 p) (λ o. omega arith))

pub rel-across : (home at : ℕ) (h : Homes) (v : List ℕ) → Fresh at v → Rel home h v → Rel at (across h) v
unfolding across set_elsewhere other among
rel-across home at h v u r = record {
  here = λ i. let l = u i in sym (ne_eqb (word v i) (at + 1) (λ o. omega arith));
  elsewhere = λ i. rw (among-append i h.here h.elsewhere, r.here i, r.elsewhere i) (across-else home at (word v i) (u i));
}

-- One class

noted-same : (v : List ℕ) (i home : ℕ) → (i ≡ 255 → ⊥) → noted v i home ≡ set v i (home + 1)
unfolding noted pick_l
noted-same v i home h = rw (ne_eqb i 255 h)

pub noted-none : (v : List ℕ) (i home : ℕ) → i ≡ 255 → noted v i home ≡ v
unfolding noted pick_l
noted-none v i home e = rw (eq-eqb i 255 e)

pub length-noted : (v : List ℕ) (i home : ℕ) → length (noted v i home) ≡ length v
unfolding noted
length-noted v i home = by (eqb i 255)
  where
    by : (b : Bool) → length (pick_l b v (set v i (home + 1))) ≡ length v
    by true = unfold pick_l in refl
    by false = unfold pick_l in length-set v i (home + 1)

own-set : (home at : ℕ) (v : List ℕ) (s : ℕ) → s < length v → set_elsewhere v s home ≡ false
    → Own home at v (set v s (home + 1)) (homes (s ∷ []) [])
unfolding among set_elsewhere
own-set home at v s l e i = by (eqb i s) refl
  where
    now : i ≡ s → word (set v s (home + 1)) i ≡ home + 1
    now z = rw z (get_or-set_same v s (home + 1) 0 l)

    was : i ≡ s → pick_b (eqb (word v i) 0) false (not (eqb (word v i) (home + 1))) ≡ false
    was z = rw z e

    hit : (a b : Bool) → eqb (word v i) 0 ≡ a → eqb (word v i) (home + 1) ≡ b → pick_b a false (not b) ≡ false
        → word (set v s (home + 1)) i ≡ home + 1 → Did home at (word v i) (word (set v s (home + 1)) i) true false
    hit true b p q f n = set_here (eqb-true (word v i) 0 p) n refl refl
    hit false true p q f n = let z = eqb-true (word v i) (home + 1) q in kept (n ∙ sym z) refl (λ o. z)
    hit false false p q f n = absurd (clash (unfold pick_b in sym f))

    by : (b : Bool) → eqb i s ≡ b → Did home at (word v i) (word (set v s (home + 1)) i) (b || false) false
    by true p = let z = eqb-true i s p in hit (eqb (word v i) 0) (eqb (word v i) (home + 1)) refl refl (was z) (now z)
    by false p = kept (get_or-set_other v s i (home + 1) 0 (eqb-false i s p)) refl (λ o. absurd (clash o))

pub own-noted : (home at : ℕ) (v : List ℕ) (s : ℕ) → s < length v → set_elsewhere v s home ≡ false
    → Own home at v (noted v s home) (homes (setting s) [])
unfolding setting
own-noted home at v s l e = by (eqb s 255) refl
  where
    by : (b : Bool) → eqb s 255 ≡ b → Own home at v (noted v s home) (homes (elim b [ true ↦ [] | false ↦ s ∷ [] ]) [])
    by true p = rw (noted-none v s home (eqb-true s 255 p)) (own-none home at v)
    by false p = rw (noted-same v s home (eqb-false s 255 p)) (own-set home at v s l e)

pub fresh-noted : (home at : ℕ) (v : List ℕ) (s : ℕ) → home < at → s < length v → Fresh at v → Fresh at (noted v s home)
unfolding noted
fresh-noted home at v s l m u = by (eqb s 255)
  where
    set-fresh : (i : ℕ) → word (set v s (home + 1)) i ≤ at
    set-fresh i = at_slot (eqb i s) refl
      where
        at_slot : (b : Bool) → eqb i s ≡ b → word (set v s (home + 1)) i ≤ at
        at_slot true p = let z : i ≡ s = eqb-true i s p in rw (z, get_or-set_same v s (home + 1) 0 m) (omega arith)
        at_slot false p = rw (get_or-set_other v s i (home + 1) 0 (eqb-false i s p)) (u i)

    by : (b : Bool) → Fresh at (pick_l b v (set v s (home + 1)))
    by true = unfold pick_l in u
    by false = unfold pick_l in set-fresh

pub fresh-later : (at e : ℕ) (v : List ℕ) → at ≤ e → Fresh at v → Fresh e v
fresh-later at e v l u i = let k = u i in omega arith

-- Nothing is set

word_none : (n i : ℕ) → word (replicate n 0) i ≡ 0
word_none zero i = refl
word_none (suc n) zero = refl
word_none (suc n) (suc i) = word_none n i

pub rel-none : (home : ℕ) → Rel home nothing_set no_homes
unfolding among set_elsewhere other
rel-none home = record {
  here = λ i. let z = word_none 256 i in sym (ne_eqb (word no_homes i) (home + 1) (λ o. omega arith));
  elsewhere = λ i. sym (other-zero home (word no_homes i) (word_none 256 i));
}

pub fresh-none : (at : ℕ) → Fresh at no_homes
fresh-none at i = let z = word_none 256 i in omega arith

-- what a walk set that began with nothing set
pub rel-first : (home at : ℕ) (v : List ℕ) (g : Homes) → home < at → Own home at no_homes v g → Rel home g v
unfolding both among
rel-first home at v g l o =
    let r = rel-own home at no_homes v g nothing_set l (rel-none home) o in
    record {
      here = λ i. sym (among-append i g.here [] ∙ or-none (among i g.here)) ∙ r.here i;
      elsewhere = λ i. sym (among-append i g.elsewhere [] ∙ or-none (among i g.elsewhere)) ∙ r.elsewhere i;
    }
