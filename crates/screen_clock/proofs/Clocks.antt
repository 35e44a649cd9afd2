-- What an accepted table's fragments say of clocks: a clock class has an id that is not 255 and a frequency that is not 0 (10), and a
-- clock that a stream class names stands earlier (8). In order: a clock's record; one fragment, under the ids seen before it; the
-- fragments; the table.
use Rattle.std.specs.Prelude.{None, Some}
use mathlib.Core.Path.{◌≡◌, refl, sym, ap, ◌∙◌}
use mathlib.Core.List.{List, [], ◌∷◌}
use mathlib.Core.Bool.{Bool, true, false, not, ◌&&◌, ◌||◌}
use Prim.Native.Nat.{ℕ, zero, suc, ◌+◌, ◌-◌, ◌≤◌}
use native.Mathlib.Omega.{arith}
use borrow.Author.Tests.{ltb-true, ltb-false, eq-eqb, ne_eqb, eqb-false}
use lib.ListN.{length, drop, length-drop, drop_of_length-le}
use lib.Seq.{drop-cons}
use lib.Dec.{ltb, eqb}
use Rattle.rules.specs.Record.{Fragment as Opening, preamble, trace_class, clock_class, stream_class, event_class}
use Rattle.rules.specs.Record.{Record, unknown, fragment, root, class, range, option, u8, u64, size, record_of, behind, layouts}
use Rattle.rules.specs.Table.{Table}
use Rattle.rules.specs.Faults.{Ids, no_ids, seen, among, fragment_fault, record_fault, open_fault, first_fault}
use Rattle.rules.specs.Parse.{bad, good, Parser, then, one, sound, missing, parse_roots, root_numbers, is_timed, has_uuid, no_table}
use Rattle.rules.specs.Parse.{parse_fragment, parse_opened, parse_fragments, parse_table, parse}
use Rattle.facts.proofs.Truth.{clash, or-false}
use Rattle.facts.proofs.Faults.{pick-false, pick-zero}
use Rattle.facts.proofs.Parsed.{parse-table}
use Rattle.class_layout.specs.Numbers.{Begins}
use Rattle.class_layout.specs.Fragments.{opening_size, roots_of, behind_roots, behind_fragment, fragments_from, fragments_of, first_of}
use Rattle.class_layout.specs.Fragments.{Fragment, All}
use Rattle.class_layout.proofs.Numbers.{begins-first, begins-behind}
use Rattle.class_layout.proofs.Records.{record-at, size-at, u8-body, number-body}
use Rattle.class_layout.proofs.Records.{trace-at, clock-at, stream_at, event-at}
use Rattle.class_layout.proofs.Sound.{bad-good, then-good, one-good}
use Rattle.class_layout.proofs.Rooted.{roots-stand}
use Rattle.class_layout.proofs.RootNumbers.{opening-bytes}
use Rattle.class_layout.proofs.Asked.{all-fragments}
use Rattle.screen_clock.specs.Frequency.{is_clock}
use Rattle.screen_clock.proofs.Found.{first-here, first_on}

-- A clock's record

pub clock-record : (t : List ℕ) (at : ℕ) → u8 t at ≡ 3 → record_of (drop at t) ≡ fragment (clock_class (u8 t (at + 1)) (u64 t (at + 2)))
unfolding layouts u64
clock-record t at k = record-at t at 3 k ∙ rw (u8-body t at 9 0 (omega arith), number-body t at 9 1 8 (omega arith))

clock-says : (t : List ℕ) (at i f : ℕ) → record_of (drop at t) ≡ fragment (clock_class i f)
    → (u8 t at ≡ 3) × (i ≡ u8 t (at + 1)) × (f ≡ u64 t (at + 2))
clock-says t at i f e =
    let k = (clock-at t at i f e).0 in
    let s = sym e ∙ clock-record t at k in
    let i₁ : i ≡ u8 t (at + 1) = cc s in
    let f₁ : f ≡ u64 t (at + 2) = cc s in
    (k, i₁, f₁)

-- One fragment

module _ (t : List ℕ) where
  -- a clock class is as it must be
  abbrev Sane : ℕ → Type 0
  Sane o = u8 t o ≡ 3 → (u8 t (o + 1) ≡ 255 → ⊥) × (u64 t (o + 2) ≡ 0 → ⊥)

  -- a clock was seen before, or is among these
  abbrev Known : Ids → List ℕ → ℕ → Type 0
  Known q os c = among c q.clocks ≡ false → first_of (λ p. is_clock t p c) os ≡ None → ⊥

  -- a stream class's clock, if it names one, is known
  abbrev Names : Ids → List ℕ → ℕ → Type 0
  Names q os o = u8 t o ≡ 4 → (u8 t (o + 9) ≡ 255 → ⊥) → Known q os (u8 t (o + 9))

  pub record Clocks (q : Ids) (os : List ℕ) : Type 0 where
    pub sane : All Sane os
    pub names : All (Names q os) os

  none-clocks : (q : Ids) → Clocks q []
  none-clocks q = record { sane = tt; names = tt }

  own-sane : (q : Ids) (g : Opening) (at : ℕ) → record_of (drop at t) ≡ fragment g → open_fault q (fragment g) ≡ 0 → Sane at
  unfolding open_fault
  own-sane q (preamble v) at e z k = absurd (omega (arith, z))
  own-sane q (trace_class u l) at e z k = absurd (omega (arith, k, (trace-at t at u l e).kind))
  own-sane q (clock_class i f) at e z k =
      let s = clock-says t at i f e in
      let h = or-false (eqb i 255) (eqb f 0) (pick-false _ 9 _ z) in
      (λ b. eqb-false i 255 h.0 (s.1 ∙ b), λ b. eqb-false f 0 h.1 (s.2 ∙ b))
  own-sane q (stream_class i c) at e z k = absurd (omega (arith, k, (stream_at t at i c e).kind))
  own-sane q (event_class i j) at e z k = absurd (omega (arith, k, (event-at t at i j e).kind))

  not-and : (a b : Bool) → (not a && not b) ≡ false → a ≡ false → b ≡ false → ⊥
  not-and true b h f g = clash (sym f)
  not-and false true h f g = clash (sym g)
  not-and false false h f g = clash (sym h)

  own-names : (q : Ids) (g : Opening) (m at : ℕ) (os : List ℕ) → record_of (drop at t) ≡ fragment g → fragment_fault q g m ≡ 0
      → Names q os at
  unfolding fragment_fault
  own-names q (preamble v) m at os e z k = absurd (omega (arith, z))
  own-names q (trace_class u l) m at os e z k = absurd (omega (arith, k, (trace-at t at u l e).kind))
  own-names q (clock_class i f) m at os e z k = absurd (omega (arith, k, (clock-at t at i f e).0))
  own-names q (stream_class i c) m at os e z k =
      let h = stream_at t at i c e in
      let c₁ : c ≡ u8 t (at + 9) = cc h.says in
      let no = pick-false _ 7 _ (pick-zero _ 6 _ z) in
      λ Some new first. not-and (eqb c 255) (among c q.clocks) no (ne_eqb c 255 (λ b. Some (sym c₁ ∙ b))) (rw c₁ new)
  own-names q (event_class i j) m at os e z k = absurd (omega (arith, k, (event-at t at i j e).kind))

  -- what was not seen before a fragment, and is not this one, is not seen behind it
  still-new : (q : Ids) (g : Opening) (at c : ℕ) → record_of (drop at t) ≡ fragment g → is_clock t at c ≡ false
      → among c q.clocks ≡ false → among c (seen q g).clocks ≡ false
  unfolding seen among is_clock
  still-new q (preamble v) at c e h n = n
  still-new q (trace_class u l) at c e h n = n
  still-new q (clock_class i f) at c e h n =
      let s = clock-says t at i f e in
      let other : c ≡ i → ⊥ = λ b. clash (sym h ∙ unfold u8 in simp (eq-eqb _ 3 s.0, eq-eqb _ c (sym (b ∙ s.1)))) in
      simp (ne_eqb c i other) n
  still-new q (stream_class i d) at c e h n = n
  still-new q (event_class i j) at c e h n = n

  known_on : (q : Ids) (g : Opening) (at c : ℕ) (os : List ℕ) → record_of (drop at t) ≡ fragment g → Known (seen q g) os c
      → (b : Bool) → is_clock t at c ≡ b → Known q (at ∷ os) c
  known_on q g at c os e k true h new first =
      let none-some : Some at ≡ None = sym (first-here (λ p. is_clock t p c) at os h) ∙ first in
      let z : ◌≡◌ {A = ℕ} 0 1 = cc in
      absurd (omega (arith, z))
  known_on q g at c os e k false h new first =
      k (still-new q g at c e h new) (sym (first_on (λ p. is_clock t p c) at os h) ∙ first)

  names-on : (q : Ids) (g : Opening) (at : ℕ) (os ps : List ℕ) → record_of (drop at t) ≡ fragment g → All (Names (seen q g) os) ps
      → All (Names q (at ∷ os)) ps
  names-on q g at os [] e h = tt
  names-on q g at os (p ∷ ps) e h =
      (λ k s. known_on q g at (u8 t (p + 9)) os e (h.0 k s) (is_clock t at (u8 t (p + 9))) refl, names-on q g at os ps e h.1)

  fragment-clocks : (q : Ids) (g : Opening) (m at : ℕ) (os : List ℕ) → record_of (drop at t) ≡ fragment g → open_fault q (fragment g) ≡ 0
      → fragment_fault q g m ≡ 0 → Clocks (seen q g) os → Clocks q (at ∷ os)
  fragment-clocks q g m at os e z f w = record {
    sane = (own-sane q g at e z, w.sane);
    names = (own-names q g m at (at ∷ os) e f, names-on q g at os os e w.names);
  }

  -- The fragments to the end

  missing_at : (at : ℕ) → missing (drop at t) ≡ not (ltb at (length t))
  unfolding missing
  missing_at at = by (ltb at (length t)) refl
    where
      by : (b : Bool) → ltb at (length t) ≡ b → missing (drop at t) ≡ not b
      by true e = rw (drop-cons t at 0 (ltb-true at (length t) e))
      by false e = rw (drop_of_length-le t {i = at} (ltb-false at (length t) e))

  roots-of : (q : Ids) (g : Opening) (at : ℕ) → record_of (drop at t) ≡ fragment g → open_fault q (fragment g) ≡ 0
      → root_numbers g ≡ roots_of (u8 t at)
  unfolding open_fault roots_of root_numbers
  roots-of q (preamble v) at e z = absurd (omega (arith, z))
  roots-of q (trace_class u l) at e z = rw (trace-at t at u l e).kind
  roots-of q (clock_class i f) at e z = rw (clock-at t at i f e).0
  roots-of q (stream_class i c) at e z = rw (stream_at t at i c e).kind
  roots-of q (event_class i j) at e z = rw (event-at t at i j e).kind

  abbrev roots_at : ℕ → ℕ
  roots_at at = at + opening_size (u8 t at)

  abbrev Rest : ℕ → Type 0
  Rest left =
      (q : Ids) (at : ℕ) (T : Table) (y : List ℕ) → at ≤ length t → Begins t at → All (Fragment t) (fragments_from left t at)
      → parse_fragments left q (drop at t) ≡ good T y → Clocks q (fragments_from left t at)

  opening-clocks : (left : ℕ) → Rest left → (q : Ids) (at : ℕ) (T : Table) (y : List ℕ) → Begins t at → Fragment t at
      → All (Fragment t) (fragments_from left t (behind_fragment t at)) → (r : Record) → record_of (drop at t) ≡ r
      → (s : Bool) → record_fault s q r (open_fault q r) ≡ 0 → open_fault q r ≡ 0
      → parse_opened q (parse_fragments left) r (drop (at + size (drop at t)) t) ≡ good T y
      → Clocks q (at ∷ fragments_from left t (behind_fragment t at))
  unfolding open_fault parse_opened parse_fragment record_fault behind_fragment
  opening-clocks left rec q at T y begun o os unknown e s v z k = absurd (omega (arith, z))
  opening-clocks left rec q at T y begun o os (root n) e s v z k = absurd (omega (arith, z))
  opening-clocks left rec q at T y begun o os (class c) e s v z k = absurd (omega (arith, z))
  opening-clocks left rec q at T y begun o os (range g l h) e s v z k = absurd (omega (arith, z))
  opening-clocks left rec q at T y begun o os (option n) e s v z k = absurd (omega (arith, z))
  opening-clocks left rec q at T y begun o os (fragment g) e s v z k =
      let bytes = opening-bytes t at o in
      let a = then-good (parse_roots (seen q g) (is_timed g) (has_uuid g) (roots_of (u8 t at)) (drop (roots_at at) t)) _ T y
      (rw (bytes, roots-of q g at e z) at k) in
      let b = roots-stand t (seen q g) (is_timed g) (has_uuid g) (roots_of (u8 t at)) (roots_at at) a.value a.rest o.there
      (begins-behind begun _ bytes) a.first in
      let c = then-good (parse_fragments left (seen q g) (drop (behind_fragment t at) t)) _ T y (rw b.rest at a.second) in
      fragment-clocks q g _ at _ e z (pick-zero s 2 _ v)
      (rec (seen q g) (behind_fragment t at) c.value c.rest o.within b.begins os c.first)

  fragments-clocks : (left : ℕ) → Rest left
  unfolding parse_fragments fragments_from
  fragments-clocks zero q at T y l begun os e = none-clocks q
  fragments-clocks (suc left) q at T y l begun os e =
      by (ltb at (length t)) (λ q at T y l begun os e. fragments-clocks left q at T y l begun os e) os
      (rw (missing_at at, parse_fragments) at e)
    where
      by : (b : Bool) → Rest left → All (Fragment t) (elim b [ true ↦ at ∷ fragments_from left t (behind_fragment t at) | false ↦ [] ])
          → elim (not b) [
            | true ↦ good no_table (drop at t)
            | false ↦ one q (open_fault q) (λ r x. parse_opened q (parse_fragments left) r x) (drop at t)
          ] ≡ good T y
          → Clocks q (elim b [ true ↦ at ∷ fragments_from left t (behind_fragment t at) | false ↦ [] ])
      by true rec os e =
          let k = one-good q _ _ t at T y e in
          opening-clocks left rec q at T y begun os.0 os.1 (record_of (drop at t)) refl _ k.sound k.fine k.rest
      by false rec os e = none-clocks q

-- The table

first-size : (t : List ℕ) → u8 t 0 ≡ 1 → size t ≡ 2
unfolding layouts
first-size t k = size-at t 0 1 k

behind-first : (t : List ℕ) → u8 t 0 ≡ 1 → behind t ≡ drop 2 t
unfolding behind
behind-first t k = ap (λ n. drop n t) (first-size t k)

first-there : (s : Bool) (r : Record) → first_fault s r ≡ 0 → s ≡ false
unfolding first_fault
first-there s unknown z = absurd (omega (arith, z))
first-there s (fragment (preamble v)) z = pick-false s 2 _ z
first-there s (fragment (trace_class u l)) z = pick-false s 2 _ z
first-there s (fragment (clock_class i f)) z = pick-false s 2 _ z
first-there s (fragment (stream_class i c)) z = pick-false s 2 _ z
first-there s (fragment (event_class i j)) z = pick-false s 2 _ z
first-there s (root n) z = pick-false s 2 _ z
first-there s (class c) z = pick-false s 2 _ z
first-there s (range g l h) z = pick-false s 2 _ z
first-there s (option n) z = pick-false s 2 _ z

module _ (t : List ℕ) (T : Table) (y : List ℕ) (ok : parse t ≡ good T y) where
  pub table-clocks : u8 t 0 ≡ 1 → Clocks t no_ids (fragments_of t)
  unfolding parse_table sound fragments_of behind_roots
  table-clocks first = by (missing t || ltb 65536 (length t)) (parse-table t T y ok)
    where
      rest : Parser Table
      rest x = then (parse_roots no_ids false false [] x) λ cs x. parse_fragments (length x) no_ids x

      long : 2 ≤ length t → sound 0 t rest ≡ good T y → Clocks t no_ids (fragments_from (length t - 2) t 2)
      long l e =
          let begun = begins-behind (begins-first t) 2 (first-size t first) in
          let a = then-good (parse_roots no_ids false false [] (drop 2 t)) _ T y (rw (behind-first t first) at e) in
          let r = roots-stand t no_ids false false [] 2 a.value a.rest l begun a.first in
          fragments-clocks t (length t - 2) no_ids 2 T y l begun (unfold fragments_of in all-fragments t T y ok)
          (rw (r.rest, length-drop 2 t) at a.second)

      behind-preamble : (n : ℕ) → first_fault (ltb (length t) (size t)) (record_of t) ≡ n → sound n t rest ≡ good T y
          → Clocks t no_ids (fragments_from (length t - 2) t 2)
      behind-preamble zero z e =
          long (omega (arith, first-size t first, ltb-false (length t) (size t) (first-there (ltb (length t) (size t)) (record_of t) z))) e
      behind-preamble (suc n) z e = absurd (bad-good e)

      by : (b : Bool)
          → elim b [ true ↦ bad 1 t | false ↦ sound (first_fault (ltb (length t) (size t)) (record_of t)) t rest ] ≡ good T y
          → Clocks t no_ids (fragments_from (length t - 2) t 2)
      by true e = absurd (bad-good e)
      by false e = behind-preamble _ refl e
