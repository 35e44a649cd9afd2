-- An accepted table's edition is accepted, and says what it said without the classes left out.
use Rattle.std.specs.Prelude.{Option}
use mathlib.Core.Path.{◌≡◌, refl, sym, ap, ◌∙◌, subst}
use Prim.Native.Nat.{ℕ, zero, suc, ◌+◌, ◌≤◌}
use native.Mathlib.Omega.{arith}
use mathlib.Core.List.{List, [], ◌∷◌, ◌++◌, append_assoc}
use mathlib.Core.Bool.{Bool, true, false, not, ◌&&◌, ◌||◌}
use lib.ListN.{length, length-append, length-drop, take, drop, take-append-drop}
use lib.Seq.{take_at}
use lib.Dec.{eqb}
use borrow.Author.Tests.{ltb-false, le-ltb, eqb-true, eq-eqb}
use Rattle.rules.specs.Class.{Class}
use Rattle.rules.specs.Record.{Record, unknown, fragment, root, class, range, option, Fragment, preamble}
use Rattle.rules.specs.Record.{trace_class, clock_class, stream_class, event_class, record_of, size, behind, layout_of, layouts, no, u8}
use Rattle.rules.specs.Table.{Table}
use Rattle.rules.specs.Parse.{Parsed, good, then, sound, missing, one, any_root, parse_fragment}
use Rattle.rules.specs.Parse.{parse_opened, parse_fragments, add, no_table, parse_table}
use Rattle.rules.specs.Homes.{Homes, no_homes, walked, walk_roots, homes_of, homes_before, header_homes, stream_homes}
use Rattle.rules.specs.Homes.{walk_rest, walk_fragments, is_whole, walk as walk_table}
use Rattle.facts.proofs.Parsed.{NoFault, parse-table, parse-walk, table-parse}
use Rattle.rules.specs.Faults.{pick, Ids, record_fault, fragment_fault, among, pair_among, many, open_fault, seen, first_fault, no_ids}
use Rattle.facts.proofs.Truth.{or-false, and_left}
use Rattle.facts.proofs.Faults.{pick-zero, pick-false}
use Rattle.promises.proofs.TableRounds.{behind-less}
use Rattle.promises.proofs.Local.{Whole, Plain, nothing, after, is_fragment, whole-size, whole-record, whole-behind}
use Rattle.promises.proofs.Local.{whole-missing, one-whole}
use Rattle.promises.proofs.Roots.{Stops}
use Rattle.promises.proofs.Homed.{RootsEnd}
use Rattle.promises.proofs.Fragments.{nil-of, missing-nil, Clean, RootsOf, Front, front, Start, start, behind-first}
use Rattle.promises.proofs.Fragments.{walk_step, goes-behind}
use Rattle.rules.specs.Edition.{both, stays, part, leave_records, leave}
use Rattle.promises.specs.Edition.{keep, keep_streams, keep_events, Editions}

unfoldable pub keep_if : Bool → List ℕ → List ℕ
keep_if true x = x
keep_if false x = []

module _ (ks : ℕ → Bool) (ke : ℕ → ℕ → Bool) where
  -- what a round leaves of x, with n more behind it, by whether x is at its end
  abbrev round : ℕ → Bool → List ℕ → Bool → List ℕ
  round n now x b = elim b [
    | true ↦ []
    | false ↦ part ks ke (stays ks ke now (record_of x)) x ++ leave_records ks ke n (stays ks ke now (record_of x)) (behind x)
  ]

  -- n rounds and m rounds leave the same of x
  abbrev Agree : ℕ → ℕ → List ℕ → Type 0
  Agree n m x = (now : Bool) → length x ≤ n → length x ≤ m → leave_records ks ke n now x ≡ leave_records ks ke m now x

  enough : (n m : ℕ) (now : Bool) (x : List ℕ) → length x ≤ n → length x ≤ m → leave_records ks ke n now x ≡ leave_records ks ke m now x
  unfolding leave_records missing
  enough zero zero now x h k = refl
  enough zero (suc m) now x h k = rw (nil-of x h) refl
  enough (suc n) zero now x h k = rw (nil-of x k) refl
  enough (suc n) (suc m) now x h k = by (λ s a b. enough n m s (behind x) a b) (missing x) refl
    where
      by : Agree n m (behind x) → (b : Bool) → missing x ≡ b → round n now x b ≡ round m now x b
      by rec true e = refl
      by rec false e = ap (λ l. part ks ke (stays ks ke now (record_of x)) x ++ l) (rec _ (behind-less x n e h) (behind-less x m e k))

  -- what is left of x, where a record behind a fragment's first stays as that one
  unfoldable pub left : Bool → List ℕ → List ℕ
  left now x = leave_records ks ke (length x) now x

  part-whole : (b : Bool) (w z : List ℕ) → Whole w → part ks ke b (w ++ z) ≡ keep_if b w
  unfolding part keep_if
  part-whole true w z h = rw (whole-size w z h) (take_at w z (size w) h.whole)
  part-whole false w z h = refl

  pub left-whole : (now : Bool) (w z : List ℕ) → Whole w
      → left now (w ++ z) ≡ keep_if (stays ks ke now (record_of w)) w ++ left (stays ks ke now (record_of w)) z
  unfolding left leave_records missing
  left-whole now [] z h = let x : ◌≡◌ {A = ℕ} 0 1 = cc h.there in absurd (omega arith)
  left-whole now (b ∷ w) z h =
      let s = stays ks ke now (record_of (b ∷ w)) in
      let e = enough (length (w ++ z)) (length z) s z (rw (length-append w z) (omega arith)) (omega arith) in
      rw (whole-record (b ∷ w) z h, part-whole s (b ∷ w) z h, whole-behind (b ∷ w) z h) (ap (λ l. keep_if s (b ∷ w) ++ l) e)

  stays_plain : (now : Bool) (r : Record) → is_fragment r ≡ false → stays ks ke now r ≡ now
  unfolding stays is_fragment
  stays_plain now unknown h = refl
  stays_plain now (fragment g) h = let z : ◌≡◌ {A = ℕ} 0 1 = cc in absurd (omega arith)
  stays_plain now (root r) h = refl
  stays_plain now (class y) h = refl
  stays_plain now (range g l k) h = refl
  stays_plain now (option n) h = refl

  if-nil : (b : Bool) → keep_if b [] ≡ []
  unfolding keep_if
  if-nil true = refl
  if-nil false = refl

  if-append : (b : Bool) (u v z : List ℕ) → keep_if b u ++ (keep_if b v ++ z) ≡ keep_if b (u ++ v) ++ z
  unfolding keep_if
  if-append true u v z = sym (append_assoc u v z)
  if-append false u v z = refl

  left-plain : (now : Bool) (u z : List ℕ) → Plain u → left now (u ++ z) ≡ keep_if now u ++ left now z
  unfolding keep_if
  left-plain now u z nothing = rw (if-nil now) refl
  left-plain now u z (after {u = v} w hw k p) =
      rw (append_assoc w v z)
      (left-whole now w (v ++ z) hw
      ∙ rw (stays_plain now (record_of w) k) (ap (λ l. keep_if now w ++ l) (left-plain now v z p) ∙ if-append now w v (left now z)))

  -- what the short table has seen

  record Fewer (q q' : Ids) : Type 0 where
    trace : q'.trace ≡ q.trace
    clocks : q'.clocks ≡ q.clocks
    streams : (i : ℕ) → ks i ≡ true → among i q'.streams ≡ among i q.streams
    events : (i j : ℕ) → both ks ke i j ≡ true → pair_among i j q'.events ≡ pair_among i j q.events
    streams≤ : length q'.streams ≤ length q.streams
    events≤ : length q'.events ≤ length q.events

  -- how many clock, stream and event classes were seen
  abbrev classes : Ids → ℕ
  classes q = length q.clocks + length q.streams + length q.events

  many-fewer : (q q' : Ids) → Fewer q q' → many q ≡ false → many q' ≡ false
  unfolding many
  many-fewer q q' f h =
      let a : classes q ≤ 511 = ltb-false 511 (classes q) h in
      let c : length q'.clocks ≡ length q.clocks = ap length f.clocks in
      let s = f.streams≤ in
      let e = f.events≤ in
      let b : classes q' ≤ 511 = omega arith in
      le-ltb 511 (classes q') b

  not-not : (a : Bool) → not a ≡ false → a ≡ true
  not-not true h = refl
  not-not false h = sym h

  pick-clean : (b : Bool) (n m : ℕ) → b ≡ false → m ≡ 0 → pick b n m ≡ 0
  unfolding pick
  pick-clean true n m h k = let z : ◌≡◌ {A = ℕ} 0 1 = cc in absurd (omega arith)
  pick-clean false n m h k = k

  -- no fault for too many, where fewer were seen
  few-kept : (q q' : Ids) → Fewer q q' → pick (many q) 15 0 ≡ 0 → pick (many q') 15 0 ≡ 0
  few-kept q q' f h = pick-clean (many q') 15 0 (many-fewer q q' f (pick-false (many q) 14 0 h)) refl

  clean-kept : (q q' : Ids) → Fewer q q' → (now : Bool) (g : Fragment) → stays ks ke now (fragment g) ≡ true → Clean q g → Clean q' g
  unfolding record_fault open_fault fragment_fault stays both
  clean-kept q q' f now (preamble v) s h = h
  clean-kept q q' f now (trace_class u l) s h =
      let h₀ = pick-zero false 2 _ h in
      let t₁ = pick-false (q.trace || not (eqb (length q.streams) 0)) 5 _ h₀ in
      let t₂ = or-false q.trace (not (eqb (length q.streams) 0)) t₁ in
      let t₃ : length q.streams ≡ 0 = eqb-true (length q.streams) 0 (not-not (eqb (length q.streams) 0) t₂.1) in
      let t₄ : length q'.streams ≡ 0 = omega (arith, f.streams≤) in
      pick-clean false 3 _ refl
      (pick-clean (q'.trace || not (eqb (length q'.streams) 0)) 6 _
      (rw (f.trace, t₂.0, eq-eqb _ 0 t₄) refl) (pick-zero (q.trace || not (eqb (length q.streams) 0)) 5 _ h₀))
  clean-kept q q' f now (clock_class i k) s h =
      let h₀ = pick-zero false 2 _ h in
      let h₁ = pick-zero (among i q.clocks) 6 _ h₀ in
      let h₂ = pick-zero (eqb i 255 || eqb k 0) 9 _ h₁ in
      pick-clean false 3 _ refl
      (pick-clean (among i q'.clocks) 7 _ (ap (among i) f.clocks ∙ pick-false (among i q.clocks) 6 _ h₀)
      (pick-clean (eqb i 255 || eqb k 0) 10 _ (pick-false (eqb i 255 || eqb k 0) 9 _ h₁) (few-kept q q' f h₂)))
  clean-kept q q' f now (stream_class i c) s h =
      let h₀ = pick-zero false 2 _ h in
      let h₁ = pick-zero (among i q.streams) 6 _ h₀ in
      let h₂ = pick-zero (not (eqb c 255) && not (among c q.clocks)) 7 _ h₁ in
      pick-clean false 3 _ refl
      (pick-clean (among i q'.streams) 7 _ (f.streams i s ∙ pick-false (among i q.streams) 6 _ h₀)
      (pick-clean (not (eqb c 255) && not (among c q'.clocks)) 8 _
      (ap (λ l. not (eqb c 255) && not (among c l)) f.clocks ∙ pick-false (not (eqb c 255) && not (among c q.clocks)) 7 _ h₁)
      (few-kept q q' f h₂)))
  clean-kept q q' f now (event_class i j) s h =
      let h₀ = pick-zero false 2 _ h in
      let h₁ = pick-zero (pair_among i j q.events) 6 _ h₀ in
      let h₂ = pick-zero (not (among i q.streams)) 7 _ h₁ in
      pick-clean false 3 _ refl
      (pick-clean (pair_among i j q'.events) 7 _ (f.events i j s ∙ pick-false (pair_among i j q.events) 6 _ h₀)
      (pick-clean (not (among i q'.streams)) 8 _
      (ap not (f.streams i (and_left (ks i) (ke i j) s)) ∙ pick-false (not (among i q.streams)) 7 _ h₁)
      (few-kept q q' f h₂)))

  -- what was seen stays related

  apart : (k : ℕ → Bool) (i j : ℕ) → k i ≡ true → k j ≡ false → eqb i j ≡ false
  apart k i j h g = by (eqb i j) refl
    where
      by : (b : Bool) → eqb i j ≡ b → b ≡ false
      by true e = sym h ∙ ap k (eqb-true i j e) ∙ g
      by false e = refl

  fewer-kept : (q q' : Ids) → Fewer q q' → (now : Bool) (g : Fragment) → stays ks ke now (fragment g) ≡ true → Fewer (seen q g) (seen q' g)
  unfolding seen among pair_among
  fewer-kept q q' f now (preamble v) s = f
  fewer-kept q q' f now (trace_class u l) s = record {
    trace = refl;
    clocks = f.clocks;
    streams = f.streams;
    events = f.events;
    streams≤ = f.streams≤;
    events≤ = f.events≤;
  }
  fewer-kept q q' f now (clock_class i k) s =
      record {
        trace = f.trace;
        clocks = ap (λ l. i ∷ l) f.clocks;
        streams = f.streams;
        events = f.events;
        streams≤ = f.streams≤;
        events≤ = f.events≤;
      }
  fewer-kept q q' f now (stream_class i c) s =
      record {
        trace = f.trace;
        clocks = f.clocks;
        streams = λ j h. ap (λ b. eqb j i || b) (f.streams j h);
        events = f.events;
        streams≤ = omega (arith, f.streams≤);
        events≤ = f.events≤;
      }
  fewer-kept q q' f now (event_class i j) s =
      record {
        trace = f.trace;
        clocks = f.clocks;
        streams = f.streams;
        events = λ k l h. ap (λ b. (eqb k i && eqb l j) || b) (f.events k l h);
        streams≤ = f.streams≤;
        events≤ = omega (arith, f.events≤);
      }

  pair-apart : (k l i j : ℕ) → both ks ke k l ≡ true → both ks ke i j ≡ false → (eqb k i && eqb l j) ≡ false
  pair-apart k l i j h g = by (eqb k i) (eqb l j) refl refl
    where
      by : (a b : Bool) → eqb k i ≡ a → eqb l j ≡ b → (a && b) ≡ false
      by true true p q = sym h ∙ ap (λ x. both ks ke x l) (eqb-true k i p) ∙ ap (both ks ke i) (eqb-true l j q) ∙ g
      by true false p q = refl
      by false true p q = refl
      by false false p q = refl

  fewer-left : (q q' : Ids) → Fewer q q' → (now : Bool) (g : Fragment) → stays ks ke now (fragment g) ≡ false → Fewer (seen q g) q'
  unfolding seen among pair_among stays
  fewer-left q q' f now (preamble v) s = let z : ◌≡◌ {A = ℕ} 0 1 = cc in absurd (omega arith)
  fewer-left q q' f now (trace_class u l) s = let z : ◌≡◌ {A = ℕ} 0 1 = cc in absurd (omega arith)
  fewer-left q q' f now (clock_class i k) s = let z : ◌≡◌ {A = ℕ} 0 1 = cc in absurd (omega arith)
  fewer-left q q' f now (stream_class i c) s =
      record {
        trace = f.trace;
        clocks = f.clocks;
        streams = λ j h. f.streams j h ∙ ap (λ b. b || among j q.streams) (sym (apart ks j i h s));
        events = f.events;
        streams≤ = omega (arith, f.streams≤);
        events≤ = f.events≤;
      }
  fewer-left q q' f now (event_class i j) s =
      record {
        trace = f.trace;
        clocks = f.clocks;
        streams = f.streams;
        events = λ k l h. f.events k l h ∙ ap (λ b. b || pair_among k l q.events) (sym (pair-apart k l i j h s));
        streams≤ = f.streams≤;
        events≤ = omega (arith, f.events≤);
      }

  -- the table without what is left out

  abbrev kept : Table → Table
  kept t = keep ks (both ks ke) t

  add_kept : (now : Bool) (g : Fragment) (cs : List (Option Class)) (t : Table) → stays ks ke now (fragment g) ≡ true
      → kept (add g cs t) ≡ add g cs (kept t)
  unfolding keep add keep_streams keep_events stays
  add_kept now (preamble v) cs t s = refl
  add_kept now (trace_class u l) cs t s = refl
  add_kept now (clock_class i f) cs t s = refl
  add_kept now (stream_class i c) cs t s = rw (s, keep_streams) refl
  add_kept now (event_class i j) cs t s = rw (s, keep_events) refl

  add_left : (now : Bool) (g : Fragment) (cs : List (Option Class)) (t : Table) → stays ks ke now (fragment g) ≡ false
      → kept (add g cs t) ≡ kept t
  unfolding keep add keep_streams keep_events stays
  add_left now (preamble v) cs t s = let z : ◌≡◌ {A = ℕ} 0 1 = cc in absurd (omega arith)
  add_left now (trace_class u l) cs t s = let z : ◌≡◌ {A = ℕ} 0 1 = cc in absurd (omega arith)
  add_left now (clock_class i f) cs t s = let z : ◌≡◌ {A = ℕ} 0 1 = cc in absurd (omega arith)
  add_left now (stream_class i c) cs t s = rw (s, keep_streams) refl
  add_left now (event_class i j) cs t s = rw (s, keep_events) refl

  -- the whole walk

  record Same (q' : Ids) (x' : List ℕ) (t : Table) : Type 0 where
    parses : (m : ℕ) → length x' ≤ m → parse_fragments m q' x' ≡ good (kept t) []
    stops : Stops x'

  same-nil : (q' : Ids) → Same q' [] no_table
  unfolding parse_fragments missing keep no_table keep_streams keep_events
  same-nil q' = record { parses = λ m h. by m; stops = refl }
    where
      by : (m : ℕ) → parse_fragments m q' [] ≡ good (kept no_table) []
      by zero = refl
      by (suc m) = refl

  frag-step : (m : ℕ) (q : Ids) (x : List ℕ) → missing x ≡ false
      → parse_fragments (suc m) q x ≡ one q (open_fault q) (λ r x. parse_opened q (parse_fragments m) r x) x
  unfolding parse_fragments
  frag-step m q x h = rw (h, parse_fragments) refl

  whole-Large : (w : List ℕ) → Whole w → 1 ≤ length w
  unfolding size
  whole-Large w h = rw h.whole (omega arith)

  -- a fragment that stays, in front of what stays behind it
  module _ (q q' : Ids) (f : Fewer q q') (now : Bool) (w : List ℕ) (g : Fragment) (hw : Whole w) (e : record_of w ≡ fragment g)
      (s : stays ks ke now (fragment g) ≡ true) (c : Clean q g) (x₁ x₂ : List ℕ) (cs : List (Option Class)) (r : RootsOf g x₁ cs x₂)
      (z : List ℕ) (t : Table) (h : Same (seen q' g) z t) where
    kept-parses : (m : ℕ) → length (w ++ (r.u ++ z)) ≤ m → parse_fragments m q' (w ++ (r.u ++ z)) ≡ good (kept (add g cs t)) []
    unfolding parse_opened parse_fragment then
    kept-parses zero l = absurd (omega (arith, whole-Large w hw, simp length-append at l))
    kept-parses (suc m) l =
        let len : length z ≤ m = omega (arith, whole-Large w hw, simp length-append at l) in
        frag-step m q' (w ++ (r.u ++ z)) (whole-missing w (r.u ++ z) hw)
        ∙ one-whole q' (open_fault q') (λ r x. parse_opened q' (parse_fragments m) r x) w (r.u ++ z) hw (rw e (clean-kept q q' f now g s c))
        ∙ ap (λ r'. parse_opened q' (parse_fragments m) r' (r.u ++ z)) e
        ∙ ap (λ o. then o (λ cs x. then (parse_fragments m (seen q' g) x) (λ t x. good (add g cs t) x))) (r.again (seen q' g) z h.stops)
        ∙ ap (λ o. then o (λ t x. good (add g cs t) x)) (h.parses m len)
        ∙ ap (λ t. good t []) (sym (add_kept now g cs t s))

    step_kept : Same q' (w ++ (r.u ++ z)) (add g cs t)
    unfolding any_root
    step_kept = record { parses = kept-parses; stops = rw (whole-missing w (r.u ++ z) hw, whole-record w (r.u ++ z) hw, e) refl }

  main-nil : (q' : Ids) (now : Bool) (x : List ℕ) (t : Table) → x ≡ [] → t ≡ no_table → Same q' (left now x) t
  unfolding left leave_records
  main-nil q' now x t p k = rw (p, k) (same-nil q')

  same_left : (q' : Ids) (x' : List ℕ) (now : Bool) (g : Fragment) (cs : List (Option Class)) (t : Table)
      → stays ks ke now (fragment g) ≡ false → Same q' x' t → Same q' x' (add g cs t)
  same_left q' x' now g cs t s h = record {
    parses = λ m l. h.parses m l ∙ ap (λ t. good t []) (sym (add_left now g cs t s));
    stops = h.stops;
  }

  abbrev Walk : ℕ → Type 0
  Walk n =
      (q q' : Ids) → Fewer q q' → (x : List ℕ) (t : Table) (y : List ℕ) → length x ≤ n → parse_fragments n q x ≡ good t y
      → (now : Bool) → Same q' (left now x) t

  -- one fragment, and what is behind it
  module _ (n : ℕ) (rec : Walk n) (q q' : Ids) (f : Fewer q q') (now : Bool) (x w : List ℕ) (g : Fragment) (hw : Whole w)
      (hr : record_of w ≡ fragment g) (c : Clean q g) (x₀ x₁ : List ℕ) (cs : List (Option Class)) (r : RootsOf g x₀ cs x₁)
      (xe : x ≡ w ++ (r.u ++ x₁)) (len : length x₁ ≤ n) (t₁ : Table) (y₁ : List ℕ) (p : parse_fragments n (seen q g) x₁ ≡ good t₁ y₁) where
    left_here : (s : Bool) → stays ks ke now (fragment g) ≡ s → left now x ≡ keep_if s w ++ (keep_if s r.u ++ left s x₁)
    left_here s e =
        ap (left now) xe ∙ left-whole now w (r.u ++ x₁) hw
        ∙ rw (hr, e) (ap (λ l. keep_if s w ++ l) (left-plain s r.u x₁ r.plain))

    walk-by : (s : Bool) → stays ks ke now (fragment g) ≡ s → Same q' (left now x) (add g cs t₁)
    unfolding keep_if
    walk-by true e =
        let h = rec (seen q g) (seen q' g) (fewer-kept q q' f now g e) x₁ t₁ y₁ len p true in
        rw (left_here true e) (step_kept q q' f now w g hw hr e c x₀ x₁ cs r (left true x₁) t₁ h)
    walk-by false e =
        let h = rec (seen q g) q' (fewer-left q q' f now g e) x₁ t₁ y₁ len p false in
        rw (left_here false e) (same_left q' (left false x₁) now g cs t₁ e h)

  walk-one : (n : ℕ) → Walk n → (q q' : Ids) → Fewer q q' → (x : List ℕ) (t : Table) (y : List ℕ) → Front n q x t y → (now : Bool)
      → Same q' (left now x) t
  walk-one n rec q q' f x t y o now =
      subst (Same q' (left now x)) o.all
      (walk-by n rec q q' f now x o.w o.g o.whole o.is o.clean (behind x) o.x₁ o.cs o.roots o.split o.len
      o.t₁ o.y₁ o.rest (stays ks ke now (fragment o.g)) refl)

  walk : (n : ℕ) → Walk n
  unfolding parse_fragments
  walk zero q q' f x t y l h now = let te : no_table ≡ t = cc in main-nil q' now x t (nil-of x l) (sym te)
  walk (suc n) q q' f x t y l h now = by (walk n) (missing x) refl
    where
      by : Walk n → (b : Bool) → missing x ≡ b → Same q' (left now x) t
      by rec true e =
          let h' : ◌≡◌ {A = Parsed Table} (good no_table x) (good t y) = rw (e, parse_fragments) at h in
          let te : no_table ≡ t = cc in main-nil q' now x t (missing-nil x e) (sym te)
      by rec false e = walk-one n rec q q' f x t y (front n q x t y l e h) now

  -- what stays is no longer than the whole
  part-short : (b : Bool) (x : List ℕ) → length (part ks ke b x) + length (behind x) ≤ length x
  unfolding part behind
  part-short true x = omega (arith, sym (length-append (take (size x) x) (drop (size x) x)) ∙ ap length (take-append-drop (size x) x))
  part-short false x = omega (arith, length-drop (size x) x)

  left-short : (n : ℕ) (now : Bool) (x : List ℕ) → length (leave_records ks ke n now x) ≤ length x
  unfolding leave_records
  left-short zero now x = omega arith
  left-short (suc n) now x = by (left-short n (stays ks ke now (record_of x)) (behind x)) (missing x)
    where
      by : length (leave_records ks ke n (stays ks ke now (record_of x)) (behind x)) ≤ length (behind x) → (b : Bool)
          → length (round n now x b) ≤ length x
      by k true = omega arith
      by k false = simp length-append (omega (arith, part-short (stays ks ke now (record_of x)) x))

  -- One slot, one home: a fragment that stays gets the same test in both tables

  abbrev HomesAs : List (ℕ × Homes) → List (ℕ × Homes) → Type 0
  HomesAs l l' = (i : ℕ) → ks i ≡ true → homes_of l' i ≡ homes_of l i

  before-kept : (h : Homes) (l l' : List (ℕ × Homes)) → HomesAs l l' → (now : Bool) (g : Fragment) → stays ks ke now (fragment g) ≡ true
      → homes_before h l' g ≡ homes_before h l g
  unfolding homes_before stays both
  before-kept h l l' f now (preamble v) s = refl
  before-kept h l l' f now (trace_class u x) s = refl
  before-kept h l l' f now (clock_class i k) s = refl
  before-kept h l l' f now (stream_class i c) s = refl
  before-kept h l l' f now (event_class i j) s = f i (and_left (ks i) (ke i j) s)

  homes-kept : (l l' : List (ℕ × Homes)) → HomesAs l l' → (g : Fragment) (k : Homes) → HomesAs (stream_homes g k l) (stream_homes g k l')
  unfolding stream_homes homes_of
  homes-kept l l' f (preamble v) k = f
  homes-kept l l' f (trace_class u x) k = f
  homes-kept l l' f (clock_class i c) k = f
  homes-kept l l' f (stream_class i c) k = λ j h. ap (λ o. elim (eqb i j) [ true ↦ k | false ↦ o ]) (f j h)
  homes-kept l l' f (event_class i j) k = f

  homes-left : (l l' : List (ℕ × Homes)) → HomesAs l l' → (now : Bool) (g : Fragment) (k : Homes) → stays ks ke now (fragment g) ≡ false
      → HomesAs (stream_homes g k l) l'
  unfolding stream_homes homes_of stays
  homes-left l l' f now (preamble v) k s = f
  homes-left l l' f now (trace_class u x) k s = f
  homes-left l l' f now (clock_class i c) k s = f
  homes-left l l' f now (stream_class i c) k s = λ j h.
      f j h ∙ ap (λ b. elim b [ true ↦ k | false ↦ homes_of l j ]) (sym (apart (λ n. not (ks n)) i j (ap not s) (ap not h)))
  homes-left l l' f now (event_class i j) k s = f

  header-left : (now : Bool) (g : Fragment) (k h : Homes) → stays ks ke now (fragment g) ≡ false → header_homes g k h ≡ h
  unfolding header_homes stays
  header-left now (preamble v) k h s = refl
  header-left now (trace_class u x) k h s = let z : ◌≡◌ {A = ℕ} 0 1 = cc in absurd (omega arith)
  header-left now (clock_class i c) k h s = refl
  header-left now (stream_class i c) k h s = refl
  header-left now (event_class i j) k h s = refl

  -- no fault in x; none in x', which stays of it
  abbrev Homely : List ℕ → List ℕ → Type 0
  Homely x x' = (h : Homes) (l l' : List (ℕ × Homes)) → HomesAs l l' → (m : ℕ) → length x ≤ m → NoFault (walk_fragments m h l x)
      → (m' : ℕ) → NoFault (walk_fragments m' h l' x')

  -- a fragment, its roots u, and x₁ behind them
  module _ (now : Bool) (w u x₁ : List ℕ) (g : Fragment) (cs : List (Option Class)) (hw : Whole w) (e : record_of w ≡ fragment g)
      (r : (h : Homes) → RootsEnd cs h u) (sx : Stops x₁) where
    homely-kept : (z : List ℕ) → Stops z → stays ks ke now (fragment g) ≡ true → Homely x₁ z → Homely (w ++ (u ++ x₁)) (w ++ (u ++ z))
    homely-kept z sz s rec h l l' a m n f zero = unfold walk_fragments in tt
    homely-kept z sz s rec h l l' a m n f (suc m') =
        let b = goes-behind w u x₁ g cs hw e r sx h l m n f in
        let len : length u ≤ length (u ++ z) = rw (length-append u z) (omega arith) in
        let p : walk_roots (length (u ++ z)) (homes_before h l' g) (u ++ z) ≡ walked b.k z =
        ap (λ o. walk_roots (length (u ++ z)) o (u ++ z)) (before-kept h l l' a now g s) ∙ b.goes (length (u ++ z)) z len sz in
        let q : NoFault (walk_rest (walk_fragments m') h l' g (walked b.k z)) = unfold walk_rest in
        rec (header_homes g b.k h) (stream_homes g b.k l) (stream_homes g b.k l') (homes-kept l l' a g b.k) b.m b.len
        b.none m' in
        subst NoFault (sym (walk_step m' h l' w (u ++ z) g hw e)) (subst (λ o. NoFault (walk_rest (walk_fragments m') h l' g o)) (sym p) q)

    homely-left : (z : List ℕ) → stays ks ke now (fragment g) ≡ false → Homely x₁ z → Homely (w ++ (u ++ x₁)) z
    homely-left z s rec h l l' a m n f m' =
        let b = goes-behind w u x₁ g cs hw e r sx h l m n f in
        rec h (stream_homes g b.k l) l' (homes-left l l' a now g b.k s) b.m b.len
        (subst (λ o. NoFault (walk_fragments b.m o (stream_homes g b.k l) x₁)) (header-left now g b.k h s) b.none) m'

  homely-nil : (now : Bool) (x : List ℕ) → x ≡ [] → Homely x (left now x)
  unfolding left leave_records walk_fragments is_whole size layout_of u8 layouts no
  homely-nil now x p = rw p (λ h l l' a m n f m'. by h l' m')
    where
      by : (h : Homes) (l : List (ℕ × Homes)) (m : ℕ) → NoFault (walk_fragments m h l (left now []))
      by h l zero = tt
      by h l (suc m) = tt

  abbrev WalkHomes : ℕ → Type 0
  WalkHomes n =
      (q q' : Ids) → Fewer q q' → (x : List ℕ) (t : Table) (y : List ℕ) → length x ≤ n → parse_fragments n q x ≡ good t y
      → (now : Bool) → Homely x (left now x)

  homely-one : (n : ℕ) → WalkHomes n → (q q' : Ids) → Fewer q q' → (x : List ℕ) (t : Table) (y : List ℕ) → Front n q x t y → (now : Bool)
      → Homely x (left now x)
  unfolding keep_if
  homely-one n rec q q' f x t y o now =
      let g = o.g in
      by g o.w o.whole o.is o.roots.u o.x₁ o.roots.plain o.roots.stops o.split o.cs o.ends
      (λ e. (
        rec (seen q g) (seen q' g) (fewer-kept q q' f now g e) o.x₁ o.t₁ o.y₁ o.len o.rest true,
        (walk n (seen q g) (seen q' g) (fewer-kept q q' f now g e) o.x₁ o.t₁ o.y₁ o.len o.rest true).stops,
      ))
      (λ e. rec (seen q g) q' (fewer-left q q' f now g e) o.x₁ o.t₁ o.y₁ o.len o.rest false)
      (stays ks ke now (fragment g)) refl
    where
      by : (g : Fragment) (w : List ℕ) → Whole w → record_of w ≡ fragment g → (u x₁ : List ℕ) → Plain u → Stops x₁ → x ≡ w ++ (u ++ x₁)
          → (cs : List (Option Class)) → ((h : Homes) → RootsEnd cs h u)
          → (stays ks ke now (fragment g) ≡ true → Homely x₁ (left true x₁) × Stops (left true x₁))
          → (stays ks ke now (fragment g) ≡ false → Homely x₁ (left false x₁))
          → (s : Bool) → stays ks ke now (fragment g) ≡ s → Homely x (left now x)
      by g w hw hr u x₁ pl sx xe cs re a b true e =
          let le : left now x ≡ w ++ (u ++ left true x₁) =
          ap (left now) xe ∙ left-whole now w (u ++ x₁) hw ∙ rw (hr, e) (ap (λ l. w ++ l) (left-plain true u x₁ pl)) in
          rw (le, xe) (homely-kept now w u x₁ g cs hw hr re sx (left true x₁) (a e).1 e (a e).0)
      by g w hw hr u x₁ pl sx xe cs re a b false e =
          let le : left now x ≡ left false x₁ =
          ap (left now) xe ∙ left-whole now w (u ++ x₁) hw ∙ rw (hr, e) (left-plain false u x₁ pl) in
          rw (le, xe) (homely-left now w u x₁ g cs hw hr re sx (left false x₁) e (b e))

  walk-homes : (n : ℕ) → WalkHomes n
  unfolding parse_fragments
  walk-homes zero q q' f x t y l h now = homely-nil now x (nil-of x l)
  walk-homes (suc n) q q' f x t y l h now = by (walk-homes n) (missing x) refl
    where
      by : WalkHomes n → (b : Bool) → missing x ≡ b → Homely x (left now x)
      by rec true e = homely-nil now x (missing-nil x e)
      by rec false e = homely-one n rec q q' f x t y (front n q x t y l e h) now

  none-fewer : Fewer no_ids no_ids
  none-fewer = record {
    trace = refl;
    clocks = refl;
    streams = λ i h. refl;
    events = λ i j h. refl;
    streams≤ = omega arith;
    events≤ = omega arith;
  }

  parse-first : (w z : List ℕ) → Whole w → length (w ++ z) ≤ 65536 → first_fault false (record_of w) ≡ 0
      → parse_table (w ++ z) ≡ behind-first z
  unfolding parse_table sound behind-first
  parse-first w z hw l c =
      let k : size (w ++ z) ≤ length (w ++ z) = rw (whole-size w z hw, length-append w z) (omega (arith, hw.whole)) in
      rw (whole-missing w z hw, le-ltb 65536 (length (w ++ z)) l, le-ltb _ _ k, whole-record w z hw, c, parse_table)
      (ap behind-first (whole-behind w z hw))

  -- the preamble, and what stays behind it
  module _ (x : List ℕ) (t : Table) (y : List ℕ) (s : Start x t y) where
    left-start : left true x ≡ s.w ++ (s.roots.u ++ left true s.x₁)
    unfolding keep_if stays
    left-start =
        ap (left true) s.split ∙ left-whole true s.w (s.roots.u ++ s.x₁) s.whole
        ∙ rw s.is (ap (λ l. s.w ++ l) (left-plain true s.roots.u s.x₁ s.roots.plain))

    same_start : Same no_ids (left true s.x₁) t
    same_start = walk (length s.x₁) no_ids no_ids none-fewer s.x₁ t y (omega arith) s.rest true

    edit-first : parse_table (left true x) ≡ good (kept t) []
    unfolding behind-first left then
    edit-first =
        let z = left true s.x₁ in
        let ll : length (s.w ++ (s.roots.u ++ z)) ≤ 65536 =
        omega (arith, s.limit, subst (λ z. length z ≤ length x) left-start (left-short (length x) true x)) in
        rw left-start
        (parse-first s.w (s.roots.u ++ z) s.whole ll (rw s.is s.clean)
        ∙ ap (λ o. then o (λ cs x. parse_fragments (length x) no_ids x)) (s.roots.again no_ids z same_start.stops)
        ∙ same_start.parses (length z) (omega arith))

    -- and so the short table's walk finds no fault
    edit-homes : NoFault (walk_table x) → NoFault (walk_table (left true x))
    unfolding walk_table stays
    edit-homes nf =
        let rec = walk-homes (length s.x₁) no_ids no_ids none-fewer s.x₁ t y (omega arith) s.rest true in
        let k = homely-kept true s.w s.roots.u s.x₁ (preamble s.v) s.cs s.whole s.is s.ends s.roots.stops
        (left true s.x₁) same_start.stops refl rec in
        let k' : Homely x (left true x) = subst (λ z. Homely z (left true x)) (sym s.split) (subst (Homely _) (sym left-start) k) in
        k' no_homes [] [] (λ i h. refl) (length x) (omega arith) nf (length (left true x))

pub editions : Editions
unfolding leave left
editions ks ke x t y h =
    let s = start x t y (parse-table x t y h) in
    table-parse (leave ks ke x) (edit-homes ks ke x t y s (parse-walk x t y h)) ∙ edit-first ks ke x t y s
