-- What the rules' parse accepts as a fragment's roots are the classes at the roots' places, each whole.
use Rattle.std.specs.Prelude.{Option, None, Some}
use mathlib.Core.Path.{◌≡◌, refl, sym, ap, ◌∙◌, subst}
use Prim.Native.Nat.{ℕ, zero, suc, ◌+◌, ◌≤◌, ◌<◌}
use native.Mathlib.Omega.{arith}
use mathlib.Core.List.{List, [], ◌∷◌, map}
use mathlib.Core.Bool.{Bool, true, false, not, ◌&&◌}
use mathlib.Core.Logic.{⊎_elim}
use lib.ListN.{length, get_or, drop, length-drop, get_or-map}
use lib.Dec.{ltb, leb, eqb}
use borrow.Author.Tests.{lt-ltb, le-ltb, le-leb, lt-leb, eqb-true, eqb-false}
use Rattle.rules.specs.Limits.{depth_limit}
use Rattle.rules.specs.Class.{Class}
use Rattle.rules.specs.Record.{Record, unknown, fragment, root, class, range, option, u8, size, record_of, behind}
use Rattle.rules.specs.Parse.{bad, good, then, one, missing, is_root, any_root, parse_class, parse_roots, root_of}
use Rattle.rules.specs.Faults.{Ids, top, Under, root_fault}
use Rattle.facts.proofs.Numbers.{lt-or-ge}
use Rattle.facts.proofs.Truth.{and_left, and_right, and_none}
use Rattle.class_layout.specs.Numbers.{Begins}
use Rattle.class_layout.specs.Trees.{class_at, next_at, IsWhole}
use Rattle.class_layout.specs.Fragments.{root_here, root_places, behind_roots, map_option}
use Rattle.class_layout.proofs.Numbers.{begins-behind}
use Rattle.class_layout.proofs.Records.{root-kind, root-record, root-size, behind-at}
use Rattle.class_layout.proofs.Sound.{bad-good, good-value, good-rest, then-good, one-good}
use Rattle.class_layout.proofs.Stands.{Stands, stands}

module _ (t : List ℕ) where
  -- whether a root stands at a byte

  two-left : (at : ℕ) → leb 2 (length (drop at t)) ≡ ltb (at + 1) (length t)
  two-left at = ⊎_elim
      (λ (l : at + 1 < length t). rw (lt-ltb _ _ l) (le-leb 2 (length (drop at t)) (omega (arith, length-drop at t))))
      (λ (l : length t ≤ at + 1). rw (le-ltb _ _ l) (lt-leb 2 (length (drop at t)) (omega (arith, length-drop at t))))
      (lt-or-ge (at + 1) (length t))

  no-root : (n at : ℕ) (r : Record) → record_of (drop at t) ≡ r → (u8 t at ≡ 6 → ⊥) → is_root n r ≡ false
  unfolding is_root
  no-root n at unknown e h = refl
  no-root n at (fragment g) e h = refl
  no-root n at (root r) e h = absurd (h (root-kind t at r e))
  no-root n at (class y) e h = refl
  no-root n at (range g a b) e h = refl
  no-root n at (option m) e h = refl

  root-here : (at n : ℕ) → (leb (size (drop at t)) (length (drop at t)) && is_root n (record_of (drop at t))) ≡ root_here t at n
  unfolding root_here
  root-here at n = by (eqb (u8 t at) 6) refl
    where
      by : (b : Bool) → eqb (u8 t at) 6 ≡ b
          → (leb (size (drop at t)) (length (drop at t)) && is_root n (record_of (drop at t)))
          ≡ (ltb (at + 1) (length t) && (eqb (u8 t at) 6 && eqb n (u8 t (at + 1))))
      by true e =
          let k = eqb-true (u8 t at) 6 e in
          rw (e, root-size t at k, root-record t at k) (unfold is_root in ap (λ b. b && eqb n (u8 t (at + 1))) (two-left at))
      by false e =
          rw (e, no-root n at (record_of (drop at t)) refl (eqb-false (u8 t at) 6 e))
          (and_none (leb (size (drop at t)) (length (drop at t))) ∙ sym (and_none (ltb (at + 1) (length t))))

  pub root-byte : (at n : ℕ) → root_here t at n ≡ true → u8 t at ≡ 6
  unfolding root_here
  root-byte at n h = eqb-true _ 6 (and_left (eqb (u8 t at) 6) _ (and_right (ltb (at + 1) (length t)) _ h))

  -- the roots

  pub record RootsStand (ps : List (Option ℕ)) (at next : ℕ) (cs : List (Option Class)) (x : List ℕ) : Type 0 where
    pub classes : cs ≡ map (map_option (class_at depth_limit t)) ps
    pub wholes : (i p : ℕ) → get_or ps i None ≡ Some p → IsWhole depth_limit t p
    pub rest : x ≡ drop next t
    pub within : next ≤ length t
    pub onward : at ≤ next
    pub begins : Begins t next

  none-some : {p : ℕ} → None ≡ Some p → ⊥
  none-some h = let z : ◌≡◌ {A = ℕ} 0 1 = cc in omega arith

  root-there : (at next : ℕ) (ps : List (Option ℕ)) (c : Class) (cs bs : List (Option Class)) (x y z : List ℕ)
      → Stands depth_limit t (at + 2) c x → RootsStand ps (next_at depth_limit t (at + 2)) next cs y → good (Some c ∷ cs) y ≡ good bs z
      → RootsStand (Some (at + 2) ∷ ps) at next bs z
  unfolding map_option
  root-there at next ps c cs bs x y z a b e = record {
    classes = sym (good-value e) ∙ rw (← a.says, b.classes);
    wholes = wholes;
    rest = sym (good-rest e) ∙ b.rest;
    within = b.within;
    onward = omega (arith, a.onward, b.onward);
    begins = b.begins;
  }
    where
      wholes : (i p : ℕ) → get_or (Some (at + 2) ∷ ps) i None ≡ Some p → IsWhole depth_limit t p
      wholes zero p e = subst (IsWhole depth_limit t) (cc) a.stands
      wholes (suc i) p e = b.wholes i p e

  root-absent : (at next : ℕ) (ps : List (Option ℕ)) (cs bs : List (Option Class)) (x z : List ℕ) → RootsStand ps at next cs x
      → good (None ∷ cs) x ≡ good bs z
      → RootsStand (None ∷ ps) at next bs z
  unfolding map_option
  root-absent at next ps cs bs x z b e =
      record {
        classes = sym (good-value e) ∙ rw b.classes;
        wholes = wholes;
        rest = sym (good-rest e) ∙ b.rest;
        within = b.within;
        onward = b.onward;
        begins = b.begins;
      }
    where
      wholes : (i p : ℕ) → get_or (None ∷ ps) i None ≡ Some p → IsWhole depth_limit t p
      wholes zero p e = absurd (none-some e)
      wholes (suc i) p e = b.wholes i p e

  pub roots-stand : (q : Ids) (timed u : Bool) (ns : List ℕ) (at : ℕ) (cs : List (Option Class)) (x : List ℕ) → at ≤ length t
      → Begins t at → parse_roots q timed u ns (drop at t) ≡ good cs x → RootsStand (root_places t at ns) at (behind_roots t at ns) cs x
  unfolding parse_roots root_places behind_roots
  roots-stand q timed u [] at cs x l begun e = by (not (missing (drop at t)) && any_root (record_of (drop at t))) e
    where
      by : (b : Bool) → elim b [ true ↦ one q root_fault (λ r x. bad 9 x) (drop at t) | false ↦ good [] (drop at t) ] ≡ good cs x
          → RootsStand [] at at cs x
      by true e = absurd (bad-good (one-good q _ _ t at cs x e).rest)
      by false e = record {
        classes = sym (good-value e);
        wholes = λ i p k. absurd (none-some k);
        rest = sym (good-rest e);
        within = l;
        onward = omega arith;
        begins = begun;
      }
  roots-stand q timed u (n ∷ ns) at cs x l begun e =
      by (root_here t at n) refl (λ at cs x l begun e. roots-stand q timed u ns at cs x l begun e) (rw (root-here at n, parse_roots) at e)
    where
      under : Under
      under = record { root = n; timed = timed; uuid = u }

      Rest : Type 0
      Rest = (at : ℕ) (cs : List (Option Class)) (x : List ℕ) → at ≤ length t → Begins t at
          → parse_roots q timed u ns (drop at t) ≡ good cs x
          → RootsStand (root_places t at ns) at (behind_roots t at ns) cs x

      by : (b : Bool) → root_here t at n ≡ b → Rest
          → elim b [
            | true ↦ then (parse_class q under depth_limit top (behind (drop at t))) λ c x.
                then (parse_roots q timed u ns x) λ cs x. good (Some c ∷ cs) x
            | false ↦ then (parse_roots q timed u ns (drop at t)) λ cs x. good (None ∷ cs) x
          ] ≡ good cs x
          → RootsStand
          (elim b [ true ↦ Some (at + 2) ∷ root_places t (next_at depth_limit t (at + 2)) ns | false ↦ None ∷ root_places t at ns ]) at
          (elim b [ true ↦ behind_roots t (next_at depth_limit t (at + 2)) ns | false ↦ behind_roots t at ns ]) cs x
      by true h rec e =
          let size = root-size t at (root-byte at n h) in
          let r : behind (drop at t) ≡ drop (at + 2) t = behind-at t at ∙ ap (λ k. drop (at + k) t) size in
          let a = then-good (parse_class q under depth_limit top (drop (at + 2) t)) _ cs x (rw r at e) in
          let b = stands q under depth_limit top t (at + 2) a.value a.rest (begins-behind begun 2 size) a.first in
          let c = then-good (parse_roots q timed u ns (drop (next_at depth_limit t (at + 2)) t)) _ cs x (rw b.rest at a.second) in
          let d = rec (next_at depth_limit t (at + 2)) c.value c.rest b.within b.begins c.first in
          root-there at _ _ a.value c.value cs a.rest c.rest x b d c.second
      by false h rec e =
          let c = then-good (parse_roots q timed u ns (drop at t)) _ cs x e in
          root-absent at _ _ c.value cs c.rest x (rec at c.value c.rest l begun c.first) c.second

  -- the ith root's class
  pub root-class : (ps : List (Option ℕ)) (at next : ℕ) (cs : List (Option Class)) (x : List ℕ) (i : ℕ) → RootsStand ps at next cs x
      → root_of cs i ≡ map_option (class_at depth_limit t) (get_or ps i None)
  unfolding root_of map_option
  root-class ps at next cs x i h = rw h.classes (get_or-map (map_option (class_at depth_limit t)) ps i None)
