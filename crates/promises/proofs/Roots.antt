-- The roots of a fragment, as Local has it for classes: what follows them must be no root.
use Rattle.std.specs.Prelude.{Option, None, Some}
use mathlib.Core.Path.{◌≡◌, refl, sym, ap, ◌∙◌}
use Prim.Native.Nat.{ℕ, zero, suc, ◌+◌, ◌-◌, ◌≤◌}
use native.Mathlib.Omega.{arith}
use mathlib.Core.List.{List, [], ◌∷◌, ◌++◌, append_assoc}
use mathlib.Core.Bool.{Bool, true, false, not, ◌&&◌}
use lib.ListN.{length, length-append, take}
use lib.Dec.{ltb, leb}
use borrow.Author.Tests.{le-leb, leb-true}
use Rattle.facts.proofs.Truth.{and_left, and_right, and_none}
use Rattle.rules.specs.Class.{Class}
use Rattle.rules.specs.Record.{Record, unknown, fragment, root, class, range, option, record_of, size, behind, layout_of, layouts, no, u8}
use Rattle.rules.specs.Parse.{Parsed, bad, good, Parser, then, sound, missing, one, is_root, any_root, parse_class, parse_roots}
use Rattle.rules.specs.Faults.{pick, Ids, record_fault, top, Under, root_fault}
use Rattle.promises.proofs.Local.{Whole, Plain, nothing, after, is_fragment, local-class, whole-size, whole-record}
use Rattle.promises.proofs.Local.{whole-behind, first-whole, first-split, first-record, plain-append, bad-good}

-- no root stands here
abbrev pub Stops : List ℕ → Type 0
Stops z = (not (missing z) && any_root (record_of z)) ≡ false

-- the root n stands here
abbrev here : ℕ → List ℕ → Bool
here n x = leb (size x) (length x) && is_root n (record_of x)

no-root : (n : ℕ) (r : Record) → any_root r ≡ false → is_root n r ≡ false
unfolding any_root is_root
no-root n unknown h = refl
no-root n (fragment f) h = refl
no-root n (root r) h = let z : ◌≡◌ {A = ℕ} 0 1 = cc in absurd (omega arith)
no-root n (class y) h = refl
no-root n (range g l k) h = refl
no-root n (option m) h = refl

root-plain : (n : ℕ) (r : Record) → is_root n r ≡ true → is_fragment r ≡ false
unfolding is_root is_fragment
root-plain n unknown h = refl
root-plain n (fragment f) h = let z : ◌≡◌ {A = ℕ} 0 1 = cc in absurd (omega arith)
root-plain n (root r) h = refl
root-plain n (class y) h = refl
root-plain n (range g l k) h = refl
root-plain n (option m) h = refl

stops-here : (n : ℕ) (z : List ℕ) → Stops z → here n z ≡ false
unfolding missing size layout_of u8 layouts no record_of is_root
stops-here n [] h = refl
stops-here n (b ∷ z) h = rw (no-root n (record_of (b ∷ z)) h) (and_none (leb (size (b ∷ z)) (length (b ∷ z))))

whole_here : (n : ℕ) (w z : List ℕ) → Whole w → here n (w ++ z) ≡ is_root n (record_of w)
whole_here n w z h =
    let k : size (w ++ z) ≤ length (w ++ z) = rw (whole-size w z h, length-append w z) (omega (arith, h.whole)) in
    rw (le-leb _ _ k, whole-record w z h) refl

-- a root that does not stand in front of y does not stand in front of z
plain_here : (n : ℕ) (u y z : List ℕ) → Plain u → here n (u ++ y) ≡ false → Stops z → here n (u ++ z) ≡ false
plain_here n u y z nothing h s = stops-here n z s
plain_here n u y z (after {u = v} w hw k p) h s =
    rw (append_assoc w v z) (whole_here n w (v ++ z) hw ∙ sym (whole_here n w (v ++ y) hw) ∙ rw (append_assoc w v y) at h)

pub one-bad : {A : Type 0} (q : Ids) (more : Record → ℕ) (n : ℕ) (x : List ℕ) (a : A) (y : List ℕ)
    → one q more (λ r x. bad n x) x ≡ good a y → ⊥
unfolding one sound
one-bad q more n x a y h = by (pick (missing x) 3 (record_fault (ltb (length x) (size x)) q (record_of x) (more (record_of x)))) h
  where
    by : (m : ℕ) → sound m x (λ x. bad n x) ≡ good a y → ⊥
    by zero h = bad-good n _ a y h
    by (suc m) h = bad-good (suc m) x a y h

pub record Rooted (timed u? : Bool) (ns : List ℕ) (x : List ℕ) (cs : List (Option Class)) (y : List ℕ) : Type 0 where
  pub u : List ℕ
  pub split : x ≡ u ++ y
  pub plain : Plain u
  pub stops : Stops y
  pub again : (q : Ids) (z : List ℕ) → Stops z → parse_roots q timed u? ns (u ++ z) ≡ good cs z

pub root-there : (n : ℕ) (x : List ℕ) → is_root n (record_of x) ≡ true → missing x ≡ false
unfolding missing record_of layout_of layouts no u8 is_root
root-there n [] h = let z : ◌≡◌ {A = ℕ} 0 1 = cc in absurd (omega arith)
root-there n (b ∷ x) h = refl

step-true : (timed u? : Bool) (n : ℕ) (ns : List ℕ) (q : Ids) (x : List ℕ) → here n x ≡ true
    → parse_roots q timed u? (n ∷ ns) x
    ≡ then (parse_class q (record { root = n; timed = timed; uuid = u? }) 8 top (behind x))
    (λ c x. then (parse_roots q timed u? ns x) (λ cs x. good (Some c ∷ cs) x))
unfolding parse_roots
step-true timed u? n ns q x e = rw (e, parse_roots) refl

step-false : (timed u? : Bool) (n : ℕ) (ns : List ℕ) (q : Ids) (x : List ℕ) → here n x ≡ false
    → parse_roots q timed u? (n ∷ ns) x ≡ then (parse_roots q timed u? ns x) (λ cs x. good (None ∷ cs) x)
unfolding parse_roots
step-false timed u? n ns q x e = rw (e, parse_roots) refl

module _ (timed u? : Bool) where
  -- what is shown of the other roots
  abbrev Others : List ℕ → Ids → Type 0
  Others ns q = (x : List ℕ) (cs : List (Option Class)) (y : List ℕ) → parse_roots q timed u? ns x ≡ good cs y → Rooted timed u? ns x cs y

  pub roots-local : (ns : List ℕ) (q : Ids) (x : List ℕ) (cs : List (Option Class)) (y : List ℕ)
      → parse_roots q timed u? ns x ≡ good cs y → Rooted timed u? ns x cs y
  unfolding parse_roots then
  roots-local [] q x cs y h = by (not (missing x) && any_root (record_of x)) refl h
    where
      by : (b : Bool) → (not (missing x) && any_root (record_of x)) ≡ b
          → elim b as (λ _. Parsed (List (Option Class))) [ true ↦ one q root_fault (λ r x. bad 9 x) x | false ↦ good [] x ] ≡ good cs y
          → Rooted timed u? [] x cs y
      by true e h = absurd (one-bad q root_fault 9 x cs y h)
      by false e h =
          let p : x ≡ y = cc in
          let c : ◌≡◌ {A = List (Option Class)} [] cs = cc in
          record { u = []; split = p; plain = nothing; stops = rw p at e; again = λ q z s. rw (s, parse_roots) (ap (λ l. good l z) c) }
  roots-local (n ∷ ns) q x cs y h = by (λ x cs y h. roots-local ns q x cs y h) (here n x) refl h
    where
      U : Under
      U = record { root = n; timed = timed; uuid = u? }

      rest : Ids → Class → Parser (List (Option Class))
      rest q c x = then (parse_roots q timed u? ns x) (λ cs x. good (Some c ∷ cs) x)

      -- there is the root, its class, and the other roots
      found : (e : here n x ≡ true) (c : Class) (x₁ : List ℕ) → parse_class q U 8 top (behind x) ≡ good c x₁
          → (cs₁ : List (Option Class)) (x₂ : List ℕ) → Rooted timed u? ns x₁ cs₁ x₂
          → ◌≡◌ {A = Parsed (List (Option Class))} (good (Some c ∷ cs₁) x₂) (good cs y) → Rooted timed u? (n ∷ ns) x cs y
      found e c x₁ pc cs₁ x₂ r h =
          let ir = and_right (leb (size x) (length x)) (is_root n (record_of x)) e in
          let fits = leb-true _ _ (and_left (leb (size x) (length x)) (is_root n (record_of x)) e) in
          let th = root-there n x ir in
          let w = take (size x) x in
          let hw = first-whole x th fits in
          let hr = first-record x th fits in
          let k = (local-class U 8 top).at q (behind x) c x₁ pc in
          let py : x₂ ≡ y = cc in
          let pcs : Some c ∷ cs₁ ≡ cs = cc in
          let ry : x₁ ≡ r.u ++ y = r.split ∙ ap (λ l. r.u ++ l) py in
          let ky : behind x ≡ (k.u ++ r.u) ++ y = k.split ∙ ap (λ l. k.u ++ l) ry ∙ sym (append_assoc k.u r.u y) in
          record {
            u = w ++ (k.u ++ r.u);
            split = sym (first-split x) ∙ ap (λ l. w ++ l) ky ∙ sym (append_assoc w (k.u ++ r.u) y);
            plain = after w hw (rw hr (root-plain n (record_of x) ir)) (plain-append k.plain r.plain);
            stops = rw py at r.stops;
            again = λ q' z s.
                ap (parse_roots q' timed u? (n ∷ ns)) (append_assoc w (k.u ++ r.u) z ∙ ap (λ l. w ++ l) (append_assoc k.u r.u z))
                ∙ step-true timed u? n ns q' (w ++ (k.u ++ (r.u ++ z))) (whole_here n w (k.u ++ (r.u ++ z)) hw ∙ rw hr ir)
                ∙ ap (λ l. then (parse_class q' U 8 top l) (rest q')) (whole-behind w (k.u ++ (r.u ++ z)) hw)
                ∙ ap (λ o. then o (rest q')) (k.again q' (r.u ++ z))
                ∙ ap (λ o. then o (λ cs x. good (Some c ∷ cs) x)) (r.again q' z s)
                ∙ ap (λ l. good l z) pcs;
          }

      by3 : (e : here n x ≡ true) (c : Class) (x₁ : List ℕ) → parse_class q U 8 top (behind x) ≡ good c x₁ → Others ns q
          → (o : Parsed (List (Option Class))) → parse_roots q timed u? ns x₁ ≡ o → then o (λ cs x. good (Some c ∷ cs) x) ≡ good cs y
          → Rooted timed u? (n ∷ ns) x cs y
      by3 e c x₁ p rec (bad m x₂) pr h = absurd (bad-good m x₂ cs y h)
      by3 e c x₁ p rec (good cs₁ x₂) pr h = found e c x₁ p cs₁ x₂ (rec x₁ cs₁ x₂ pr) h

      by2 : (e : here n x ≡ true) → Others ns q
          → (o : Parsed Class) → parse_class q U 8 top (behind x) ≡ o → then o (rest q) ≡ good cs y → Rooted timed u? (n ∷ ns) x cs y
      by2 e rec (bad m x₁) p h = absurd (bad-good m x₁ cs y h)
      by2 e rec (good c x₁) p h = by3 e c x₁ p rec (parse_roots q timed u? ns x₁) refl h

      not-here : (e : here n x ≡ false) → Others ns q
          → (o : Parsed (List (Option Class))) → parse_roots q timed u? ns x ≡ o → then o (λ cs x. good (None ∷ cs) x) ≡ good cs y
          → Rooted timed u? (n ∷ ns) x cs y
      not-here e rec (bad m x₂) pr h = absurd (bad-good m x₂ cs y h)
      not-here e rec (good cs₁ x₂) pr h =
          let r = rec x cs₁ x₂ pr in
          let py : x₂ ≡ y = cc in
          let pcs : None ∷ cs₁ ≡ cs = cc in
          record {
            u = r.u;
            split = r.split ∙ ap (λ l. r.u ++ l) py;
            plain = r.plain;
            stops = rw py at r.stops;
            again = λ q' z s.
                step-false timed u? n ns q' (r.u ++ z) (plain_here n r.u x₂ z r.plain (ap (here n) (sym r.split) ∙ e) s)
                ∙ ap (λ o. then o (λ cs x. good (None ∷ cs) x)) (r.again q' z s)
                ∙ ap (λ l. good l z) pcs;
          }

      by : Others ns q → (b : Bool) → here n x ≡ b
          → elim b as (λ _. Parsed (List (Option Class))) [
            | true ↦ then (parse_class q U 8 top (behind x)) (rest q)
            | false ↦ then (parse_roots q timed u? ns x) (λ cs x. good (None ∷ cs) x)
          ] ≡ good cs y
          → Rooted timed u? (n ∷ ns) x cs y
      by rec true e h = by2 e rec _ refl h
      by rec false e h = not-here e rec _ refl h
