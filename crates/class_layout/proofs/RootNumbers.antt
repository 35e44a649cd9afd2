-- The numbers of a fragment's roots: the record that opens it has 0, the first root's 1 and its structure 2, and the records go on through
-- the roots, each there or not.
--
-- opening-bytes, roots-passed              the record that opens a fragment, and those behind it up to the fragment's end
-- root-number                              of the ith root's structure, by the records of the roots in front of it
-- first-number … payload-number            of each root, as the rules number it
use Rattle.std.specs.Prelude.{Option, None, Some}
use mathlib.Core.Path.{◌≡◌, refl, ap, ◌∙◌}
use Prim.Native.Nat.{ℕ, zero, suc, ◌+◌, ◌-◌, ◌≤◌, ◌<◌}
use native.Mathlib.Omega.{arith}
use mathlib.Core.List.{List, [], ◌∷◌}
use mathlib.Core.Bool.{Bool, true, false}
use lib.ListN.{length, get_or, drop}
use Rattle.rules.specs.Limits.{depth_limit}
use Rattle.rules.specs.Class.{records}
use Rattle.rules.specs.Record.{u8, size, no, layouts}
use Rattle.rules.specs.Packet.{first_root, root_records, header_number, common_number, payload_number}
use Rattle.facts.proofs.Cases.{◌▷◌, below}
use Rattle.class_layout.specs.Numbers.{Begins, number_at}
use Rattle.class_layout.specs.Trees.{class_at, next_at, IsWhole}
use Rattle.class_layout.specs.Fragments.{opening_size, roots_of, root_here, root_places, root_place, map_option, root_class, stream_class_at}
use Rattle.class_layout.specs.Fragments.{event_class_at, behind_roots, behind_fragment, Fragment}
use Rattle.class_layout.proofs.Numbers.{begins-behind, next-number, opening-number, Passed, passed_none, passed-both}
use Rattle.class_layout.proofs.Records.{root-size, size-at}
use Rattle.class_layout.proofs.Rooted.{root-byte}
use Rattle.class_layout.proofs.Numbered.{class-opens-none, class-passed, behind-begins, number_behind, record-passed}

-- the records of the first i of the roots at these places, each there or not; those in front of a fragment's ith root

unfoldable pub roots_records : List ℕ → List (Option ℕ) → ℕ → ℕ
roots_records t ps zero = 0
roots_records t [] (suc i) = 0
roots_records t (p ∷ ps) (suc i) = root_records (map_option (class_at depth_limit t) p) + roots_records t ps i

unfoldable pub records_before : List ℕ → ℕ → ℕ → ℕ
records_before t o i = roots_records t (root_places t (o + opening_size (u8 t o)) (roots_of (u8 t o))) i

module _ (t : List ℕ) where
  none-some : {p : ℕ} → None ≡ Some p → ⊥
  none-some h = let z : ◌≡◌ {A = ℕ} 0 1 = cc in omega arith

  abbrev Wholes : List (Option ℕ) → Type 0
  Wholes ps = (i p : ℕ) → get_or ps i None ≡ Some p → IsWhole depth_limit t p

  -- the records of some roots, from a byte on
  roots-row : (ns : List ℕ) (at : ℕ) → Wholes (root_places t at ns)
      → Passed t at (roots_records t (root_places t at ns) (length ns)) (behind_roots t at ns)
  unfolding root_places behind_roots roots_records root_records map_option
  roots-row [] at w = passed_none t at at refl
  roots-row (n ∷ ns) at w = by (root_here t at n) refl (λ at w. roots-row ns at w) w
    where
      Rest : Type 0
      Rest = (at : ℕ) → Wholes (root_places t at ns) → Passed t at (roots_records t (root_places t at ns) (length ns)) (behind_roots t at ns)

      by : (b : Bool) → root_here t at n ≡ b → Rest
          → Wholes (elim b [ true ↦ Some (at + 2) ∷ root_places t (next_at depth_limit t (at + 2)) ns | false ↦ None ∷ root_places t at ns ])
          → Passed t at
          (roots_records t
          (elim b [ true ↦ Some (at + 2) ∷ root_places t (next_at depth_limit t (at + 2)) ns | false ↦ None ∷ root_places t at ns ])
          (suc (length ns)))
          (elim b [ true ↦ behind_roots t (next_at depth_limit t (at + 2)) ns | false ↦ behind_roots t at ns ])
      by true h rec w =
          let k = root-byte t at n h in
          passed-both
          (passed-both (record-passed t at 2 (omega (arith, k)) (root-size t at k)) (class-passed depth_limit t (at + 2) (w 0 (at + 2) refl)))
          (rec (next_at depth_limit t (at + 2)) (λ i p k. w (suc i) p k))
      by false h rec w = passed-both (passed_none t at at refl) (rec at (λ i p k. w (suc i) p k))

  -- m is the number that a record has at the byte `at`, if it opens no fragment
  abbrev Counted : ℕ → ℕ → Type 0
  Counted at m = 5 < u8 t at → number_at t at ≡ m

  abbrev Numbers : List (Option ℕ) → ℕ → Type 0
  Numbers ps m = (i p : ℕ) → get_or ps i None ≡ Some p → number_at t p ≡ m + 1 + roots_records t ps i

  root-there : (at m : ℕ) (ps : List (Option ℕ)) → number_at t (at + 2) ≡ m + 1
      → Numbers ps (m + (1 + records (class_at depth_limit t (at + 2)))) → Numbers (Some (at + 2) ∷ ps) m
  unfolding roots_records root_records map_option
  root-there at m ps e r zero p k = let same : at + 2 ≡ p = cc in omega (arith, e, ap (number_at t) same)
  root-there at m ps e r (suc i) p k = omega (arith, r i p k)

  root-absent : (m : ℕ) (ps : List (Option ℕ)) → Numbers ps m → Numbers (None ∷ ps) m
  unfolding roots_records root_records map_option
  root-absent m ps r zero p k = absurd (none-some k)
  root-absent m ps r (suc i) p k = omega (arith, r i p k)

  root-numbers : (ns : List ℕ) (at m : ℕ) → Begins t at → Counted at m → Wholes (root_places t at ns) → Numbers (root_places t at ns) m
  unfolding root_places
  root-numbers [] at m b c w = λ i p k. absurd (none-some k)
  root-numbers (n ∷ ns) at m b c w = by (root_here t at n) refl (λ at m b c w. root-numbers ns at m b c w) w
    where
      Rest : Type 0
      Rest = (at m : ℕ) → Begins t at → Counted at m → Wholes (root_places t at ns) → Numbers (root_places t at ns) m

      by : (b : Bool) → root_here t at n ≡ b → Rest
          → Wholes (elim b [ true ↦ Some (at + 2) ∷ root_places t (next_at depth_limit t (at + 2)) ns | false ↦ None ∷ root_places t at ns ])
          → Numbers (elim b [ true ↦ Some (at + 2) ∷ root_places t (next_at depth_limit t (at + 2)) ns | false ↦ None ∷ root_places t at ns ]) m
      by true h rec w =
          let k = root-byte t at n h in
          let v = w 0 (at + 2) refl in
          let own = c (omega (arith, k)) in
          let first = (record-passed t at 2 (omega (arith, k)) (root-size t at k)).number b (class-opens-none depth_limit t (at + 2) v) in
          let e : number_at t (at + 2) ≡ m + 1 = omega (arith, own, first) in
          root-there at m _ e
          (rec (next_at depth_limit t (at + 2)) (m + (1 + records (class_at depth_limit t (at + 2)))) (behind-begins depth_limit t (at + 2) v)
          (λ l. omega (arith, e, number_behind depth_limit t (at + 2) v l)) (λ i p k. w (suc i) p k))
      by false h rec w = root-absent m _ (rec at m b c (λ i p k. w (suc i) p k))

-- A fragment

opening-size : (k : ℕ) → 2 ≤ k → k ≤ 5 → suc (get_or layouts k no).0 ≡ opening_size k
unfolding layouts opening_size
opening-size k l h =
    let same : 2 + (k - 2) ≡ k = omega arith in
    rw same at
    (below (λ j. suc (get_or layouts (2 + j) no).0 ≡ opening_size (2 + j)) 4 (refl ▷ refl ▷ refl ▷ refl ▷ tt) (k - 2) (omega arith))

module _ (t : List ℕ) (o : ℕ) (f : Fragment t o) where
  pub opening-bytes : size (drop o t) ≡ opening_size (u8 t o)
  opening-bytes = size-at t o (u8 t o) refl ∙ opening-size (u8 t o) f.low f.high

  pub roots-passed : Passed t (o + opening_size (u8 t o)) (records_before t o (length (roots_of (u8 t o)))) (behind_fragment t o)
  unfolding records_before behind_fragment root_place
  roots-passed = roots-row t (roots_of (u8 t o)) (o + opening_size (u8 t o)) f.roots

  behind-opening : Counted t (o + opening_size (u8 t o)) 1
  behind-opening h =
      let n = rw opening-bytes at (next-number f.begins (rw opening-bytes h)) in
      omega (arith, n, opening-number f.begins f.high)

  root-counts : (i p : ℕ) → root_place t o i ≡ Some p → number_at t p ≡ first_root + records_before t o i
  unfolding root_place records_before
  root-counts i p e =
      root-numbers t (roots_of (u8 t o)) (o + opening_size (u8 t o)) 1 (begins-behind f.begins _ opening-bytes) behind-opening
      f.roots i p e

pub root-number : (t : List ℕ) (o i p : ℕ) → Fragment t o → root_place t o i ≡ Some p → number_at t p ≡ first_root + records_before t o i
root-number t o i p f e = root-counts t o f i p e

-- Each root: of a stream class its context, its event header and its common context; of an event class its specific context and its payload

before-second : (t : List ℕ) (o : ℕ) → records_before t o 1 ≡ root_records (root_class t o 0)
unfolding records_before root_class root_place
before-second t o = by (root_places t (o + opening_size (u8 t o)) (roots_of (u8 t o)))
  where
    by : (ps : List (Option ℕ)) → roots_records t ps 1 ≡ root_records (map_option (class_at depth_limit t) (get_or ps 0 None))
    by [] = unfold roots_records map_option root_records in refl
    by (p ∷ ps) = unfold roots_records in omega arith

before-third : (t : List ℕ) (o : ℕ) → records_before t o 2 ≡ root_records (root_class t o 0) + root_records (root_class t o 1)
unfolding records_before root_class root_place
before-third t o = by (root_places t (o + opening_size (u8 t o)) (roots_of (u8 t o)))
  where
    by : (ps : List (Option ℕ))
        → roots_records t ps 2
        ≡ root_records (map_option (class_at depth_limit t) (get_or ps 0 None)) + root_records (map_option (class_at depth_limit t) (get_or ps 1 None))
    by [] = unfold roots_records map_option root_records in refl
    by (p ∷ []) = unfold roots_records map_option root_records in refl
    by (p ∷ q ∷ ps) = unfold roots_records in omega arith

module _ (t : List ℕ) (o p : ℕ) (f : Fragment t o) where
  -- the trace class's header, a stream class's context, an event class's specific context
  pub first-number : root_place t o 0 ≡ Some p → number_at t p ≡ first_root
  unfolding records_before roots_records
  first-number e = root-counts t o f 0 p e

  pub header-number : root_place t o 1 ≡ Some p → number_at t p ≡ header_number (stream_class_at t o)
  unfolding stream_class_at
  header-number e = root-counts t o f 1 p e ∙ ap (λ n. first_root + n) (before-second t o)

  pub common-number : root_place t o 2 ≡ Some p → number_at t p ≡ common_number (stream_class_at t o)
  unfolding stream_class_at
  common-number e = omega (arith, root-counts t o f 2 p e, before-third t o)

  pub payload-number : root_place t o 1 ≡ Some p → number_at t p ≡ payload_number (event_class_at t o)
  unfolding event_class_at
  payload-number e = root-counts t o f 1 p e ∙ ap (λ n. first_root + n) (before-second t o)
