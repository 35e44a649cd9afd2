-- What a reading asks an accepted table is what stands at its fragments' places, and each fragment stands whole.
-- In order: one fragment, by its kind; the fragments to the end; the table.
use Rattle.std.specs.Prelude.{Option, Some, Ok}
use mathlib.Core.Path.{◌≡◌, refl, ap, ◌∙◌}
use Prim.Native.Nat.{ℕ, zero, suc, ◌+◌, ◌-◌, ◌≤◌}
use native.Mathlib.Omega.{arith}
use mathlib.Core.List.{List, [], ◌∷◌}
use mathlib.Core.Bool.{Bool, true, false, not, ◌&&◌, ◌||◌}
use lib.ListN.{length, take, drop, length-drop, drop_of_length-le}
use lib.Seq.{drop-cons}
use lib.Dec.{ltb, eqb}
use borrow.Author.Tests.{ltb-true, ltb-false}
use Rattle.rules.specs.declared.ByteLength.{ByteLength}
use Rattle.rules.specs.Place.{byte_length}
use Rattle.rules.specs.Class.{Class}
use Rattle.rules.specs.Record.{Fragment as Opening, preamble, trace_class, clock_class, stream_class, event_class, Record, unknown, fragment}
use Rattle.rules.specs.Record.{root, class, range, option, u8, u64, size, record_of, behind}
use Rattle.rules.specs.Table.{Table, find_stream, find_event, asked}
use Rattle.rules.specs.Parse.{Parsed, bad, good, Parser, then, one, sound, missing, parse_roots, root_numbers, is_timed, has_uuid, no_table}
use Rattle.rules.specs.Parse.{root_of, add, parse_fragment, parse_opened, parse_fragments, parse_table, parse, checked_of, checked}
use Rattle.rules.specs.Faults.{Ids, no_ids, seen, record_fault, open_fault, first_fault}
use Rattle.facts.proofs.Truth.{or-false}
use Rattle.class_layout.specs.Numbers.{Begins}
use Rattle.class_layout.specs.Fragments.{is_trace, is_stream, is_event, first_of, opening_size, roots_of, root_places, behind_roots}
use Rattle.class_layout.specs.Fragments.{root_place, behind_fragment, fragments_from, fragments_of, find_trace_at, find_stream_at}
use Rattle.class_layout.specs.Fragments.{find_event_at, map_option, root_class, stream_class_at, event_class_at, uuid_at, header_at, asked_at}
use Rattle.class_layout.specs.Fragments.{Fragment, AllFragments}
use Rattle.class_layout.proofs.Numbers.{begins-first, begins-behind}
use Rattle.class_layout.proofs.Records.{preamble-at, trace-at, clock-at, stream_at, event-at}
use Rattle.facts.proofs.Faults.{pick-false, pick-zero}
use Rattle.facts.proofs.Parsed.{parse-table}
use Rattle.class_layout.proofs.Sound.{bad-good, good-value, then-good, one-good}
use Rattle.class_layout.proofs.Once.{FirstOf, Once, none-once, fragment-once}
use Rattle.class_layout.proofs.Rooted.{RootsStand, roots-stand, root-class}

module _ (t : List ℕ) where
  -- One fragment

  -- an opening record at a byte, of the kind k
  record Opened (at : ℕ) (g : Opening) : Type 0 where
    low : 2 ≤ u8 t at
    high : u8 t at ≤ 5
    bytes : size (drop at t) ≡ opening_size (u8 t at)
    roots : root_numbers g ≡ roots_of (u8 t at)

  opened : (q : Ids) (at : ℕ) (g : Opening) → record_of (drop at t) ≡ fragment g → open_fault q (fragment g) ≡ 0 → Opened at g
  unfolding open_fault opening_size roots_of root_numbers
  opened q at (preamble v) e z = absurd (omega arith)
  opened q at (trace_class u l) e z =
      let h = trace-at t at u l e in
      record {
        low = omega (arith, h.kind);
        high = omega (arith, h.kind);
        bytes = rw h.kind h.bytes;
        roots = rw h.kind;
      }
  opened q at (clock_class i f) e z =
      let h = clock-at t at i f e in
      record {
        low = omega (arith, h.0);
        high = omega (arith, h.0);
        bytes = rw h.0 h.1;
        roots = rw h.0;
      }
  opened q at (stream_class i c) e z =
      let h = stream_at t at i c e in
      record {
        low = omega (arith, h.kind);
        high = omega (arith, h.kind);
        bytes = rw h.kind h.bytes;
        roots = rw h.kind;
      }
  opened q at (event_class i j) e z =
      let h = event-at t at i j e in
      record {
        low = omega (arith, h.kind);
        high = omega (arith, h.kind);
        bytes = rw h.kind h.bytes;
        roots = rw h.kind;
      }

  -- what a table of the fragments at these places says
  record Tabled (os : List ℕ) (T : Table) : Type 0 where
    each : AllFragments t os
    uuid : T.uuid ≡ uuid_at t (find_trace_at t os)
    header : T.header ≡ header_at t (find_trace_at t os)
    stream : (i : ℕ) → find_stream T.streams i ≡ map_option (stream_class_at t) (find_stream_at t os i)
    event : (i j : ℕ) → find_event T.events i j ≡ map_option (event_class_at t) (find_event_at t os i j)

  none-tabled : Tabled [] no_table
  unfolding no_table first_of uuid_at header_at find_stream find_event map_option
  none-tabled = record { each = tt; uuid = refl; header = refl; stream = λ i. refl; event = λ i j. refl }

  found : {A B : Type 0} (f : A → B) (b : Bool) (a : A) (o : Option A) (c : B) (p : Option B) → c ≡ f a → p ≡ map_option f o
      → ◌≡◌ {A = Option B} (elim b [ true ↦ Some c | false ↦ p ]) (map_option f (elim b [ true ↦ Some a | false ↦ o ]))
  unfolding map_option
  found f true a o c p e h = ap Some e
  found f false a o c p e h = h

  -- the lookups at a fragment of the kind k
  module _ (at k : ℕ) (os : List ℕ) (e : u8 t at ≡ k) where
    trace-here : find_trace_at t (at ∷ os) ≡ elim (eqb k 2) [ true ↦ Some at | false ↦ find_trace_at t os ]
    unfolding first_of is_trace
    trace-here = ap {B = Option ℕ} (λ k. elim (eqb k 2) [ true ↦ Some at | false ↦ find_trace_at t os ]) e

    stream-here : (i : ℕ)
        → find_stream_at t (at ∷ os) i ≡ elim (eqb k 4 && eqb (u64 t (at + 1)) i) [ true ↦ Some at | false ↦ find_stream_at t os i ]
    unfolding first_of is_stream
    stream-here i = ap {B = Option ℕ} (λ k. elim (eqb k 4 && eqb (u64 t (at + 1)) i) [ true ↦ Some at | false ↦ find_stream_at t os i ]) e

    event-here : (i j : ℕ)
        → find_event_at t (at ∷ os) i j
        ≡ elim (eqb k 5 && (eqb (u64 t (at + 1)) i && eqb (u64 t (at + 9)) j)) [ true ↦ Some at | false ↦ find_event_at t os i j ]
    unfolding first_of is_event
    event-here i j =
        ap {B = Option ℕ}
        (λ k. elim (eqb k 5 && (eqb (u64 t (at + 1)) i && eqb (u64 t (at + 9)) j)) [ true ↦ Some at | false ↦ find_event_at t os i j ])
        e

  added : (q : Ids) (g : Opening) (at : ℕ) (cs : List (Option Class)) (os : List ℕ) (T : Table) → record_of (drop at t) ≡ fragment g
      → open_fault q (fragment g) ≡ 0
      → Fragment t at → ((i : ℕ) → root_of cs i ≡ root_class t at i) → Tabled os T → Tabled (at ∷ os) (add g cs T)
  unfolding open_fault add uuid_at header_at find_stream find_event stream_class_at event_class_at
  added q (preamble v) at cs os T e z f r b = absurd (omega arith)
  added q (trace_class u x) at cs os T e z f r b =
      let h = trace-at t at u x e in
      let u₁ : u ≡ u8 t (at + 1) = cc h.says in
      let x₁ : x ≡ take 16 (drop (at + 2) t) = cc h.says in
      record {
        each = (f, b.each);
        uuid = rw (trace-here at 2 os h.kind, u₁, x₁);
        header = rw (trace-here at 2 os h.kind) (r 0);
        stream = λ i. rw (stream-here at 2 os h.kind i) (b.stream i);
        event = λ i j. rw (event-here at 2 os h.kind i j) (b.event i j);
      }
  added q (clock_class i c) at cs os T e z f r b =
      let h = clock-at t at i c e in
      record {
        each = (f, b.each);
        uuid = rw (trace-here at 3 os h.0) b.uuid;
        header = rw (trace-here at 3 os h.0) b.header;
        stream = λ i. rw (stream-here at 3 os h.0 i) (b.stream i);
        event = λ i j. rw (event-here at 3 os h.0 i j) (b.event i j);
      }
  added q (stream_class i c) at cs os T e z f r b =
      let h = stream_at t at i c e in
      let i₁ : i ≡ u64 t (at + 1) = cc h.says in
      let c₁ : c ≡ u8 t (at + 9) = cc h.says in
      record {
        each = (f, b.each);
        uuid = rw (trace-here at 4 os h.kind) b.uuid;
        header = rw (trace-here at 4 os h.kind) b.header;
        stream = λ j. rw (stream-here at 4 os h.kind j, i₁, c₁)
            (found (stream_class_at t) (eqb (u64 t (at + 1)) j) at _ _ _ (rw (r 0, r 1, r 2)) (b.stream j));
        event = λ i j. rw (event-here at 4 os h.kind i j) (b.event i j);
      }
  added q (event_class i j) at cs os T e z f r b =
      let h = event-at t at i j e in
      let i₁ : i ≡ u64 t (at + 1) = cc h.says in
      let j₁ : j ≡ u64 t (at + 9) = cc h.says in
      record {
        each = (f, b.each);
        uuid = rw (trace-here at 5 os h.kind) b.uuid;
        header = rw (trace-here at 5 os h.kind) b.header;
        stream = λ i. rw (stream-here at 5 os h.kind i) (b.stream i);
        event = λ k l. rw (event-here at 5 os h.kind k l, i₁, j₁)
            (found (event_class_at t) (eqb (u64 t (at + 1)) k && eqb (u64 t (at + 9)) l) at _ _ _ (rw (r 0, r 1)) (b.event k l));
      }

  -- Fragments to the end

  missing_at : (at : ℕ) → missing (drop at t) ≡ not (ltb at (length t))
  unfolding missing
  missing_at at = by (ltb at (length t)) refl
    where
      by : (b : Bool) → ltb at (length t) ≡ b → missing (drop at t) ≡ not b
      by true e = rw (drop-cons t at 0 (ltb-true at (length t) e))
      by false e = rw (drop_of_length-le t {i = at} (ltb-false at (length t) e))

  abbrev roots_at : ℕ → ℕ
  roots_at at = at + opening_size (u8 t at)

  fragment-stands : (at : ℕ) (g : Opening) (cs : List (Option Class)) (x : List ℕ) → Begins t at → Opened at g
      → at + size (drop at t) ≤ length t
      → RootsStand t (root_places t (roots_at at) (roots_of (u8 t at))) (roots_at at) (behind_roots t (roots_at at) (roots_of (u8 t at))) cs x
      → Fragment t at
  unfolding root_place behind_fragment
  fragment-stands at g cs x begun o l r =
      let s : 1 ≤ size (drop at t) = unfold size in omega arith in
      record {
        low = o.low;
        high = o.high;
        there = omega (arith, o.bytes);
        roots = r.wholes;
        onward = omega (arith, o.bytes, r.onward);
        within = r.within;
        begins = begun;
      }

  -- what the table says is had from these fragments, and no two of their classes have the same ids
  abbrev Asks : Ids → Table → List ℕ → Type 0
  Asks q T os = Tabled os T × Once t q os

  fragments-stand : (left : ℕ) (q : Ids) (at : ℕ) (T : Table) (y : List ℕ) → at ≤ length t → Begins t at
      → parse_fragments left q (drop at t) ≡ good T y
      → Asks q T (fragments_from left t at)
  unfolding parse_fragments fragments_from parse_opened parse_fragment open_fault behind_fragment root_class root_place
  fragments-stand zero q at T y l begun e = (rw (← good-value e) none-tabled, none-once t q)
  fragments-stand (suc left) q at T y l begun e =
      by (ltb at (length t)) (λ q at T y l begun e. fragments-stand left q at T y l begun e) (rw (missing_at at, parse_fragments) at e)
    where
      Rest : Type 0
      Rest = (q : Ids) (at : ℕ) (T : Table) (y : List ℕ) → at ≤ length t → Begins t at → parse_fragments left q (drop at t) ≡ good T y
          → Asks q T (fragments_from left t at)

      opening : Rest → (r : Record) → record_of (drop at t) ≡ r → (b : Bool) → record_fault b q r (open_fault q r) ≡ 0
          → open_fault q r ≡ 0 → at + size (drop at t) ≤ length t
          → parse_opened q (parse_fragments left) r (drop (at + size (drop at t)) t) ≡ good T y
          → Asks q T (at ∷ fragments_from left t (behind_fragment t at))
      opening rec unknown r s c z l k = absurd (omega arith)
      opening rec (root n) r s c z l k = absurd (omega arith)
      opening rec (class v) r s c z l k = absurd (omega arith)
      opening rec (range g a b) r s c z l k = absurd (omega arith)
      opening rec (option n) r s c z l k = absurd (omega arith)
      opening rec (fragment g) r u v z l k =
          let o = opened q at g r z in
          let a = then-good (parse_roots (seen q g) (is_timed g) (has_uuid g) (roots_of (u8 t at)) (drop (roots_at at) t)) _ T y
          (rw (o.bytes, o.roots) at k) in
          let b = roots-stand t (seen q g) (is_timed g) (has_uuid g) (roots_of (u8 t at)) (roots_at at) a.value a.rest
          (omega (arith, o.bytes)) (begins-behind begun _ o.bytes) a.first in
          let f = fragment-stands at g a.value a.rest begun o l b in
          let c = then-good (parse_fragments left (seen q g) (drop (behind_fragment t at) t)) _ T y (rw b.rest at a.second) in
          let w = rec (seen q g) (behind_fragment t at) c.value c.rest f.within b.begins c.first in (
            rw (← good-value c.second)
                (added q g at a.value _ c.value r z f (λ i. root-class t _ _ _ a.value a.rest i b) w.0),
            fragment-once t u q g _ at _ r v w.1,
          )

      by : (b : Bool) → Rest
          → elim (not b) [
            | true ↦ good no_table (drop at t)
            | false ↦ one q (open_fault q) (λ r x. parse_opened q (parse_fragments left) r x) (drop at t)
          ] ≡ good T y
          → Asks q T (elim b [ true ↦ at ∷ fragments_from left t (behind_fragment t at) | false ↦ [] ])
      by true rec e =
          let k = one-good q _ _ t at T y e in
          opening rec (record_of (drop at t)) refl _ k.sound k.fine k.there k.rest
      by false rec e = (rw (← good-value e) none-tabled, none-once t q)

-- The table

-- the first record is a preamble
record FirstRecord (t : List ℕ) : Type 0 where
  kind : u8 t 0 ≡ 1
  there : 2 ≤ length t
  onward : behind t ≡ drop 2 t
  begins : Begins t 2

first_fine : (t : List ℕ) (s : Bool) (r : Record) → ltb (length t) (size t) ≡ s → record_of t ≡ r → first_fault s r ≡ 0 → FirstRecord t
unfolding first_fault behind
first_fine t s unknown b e z = absurd (omega arith)
first_fine t s (fragment (preamble v)) b e z =
    let n = preamble-at t 0 v e in
    record {
      kind = n.0;
      there = omega (arith, n.1, ltb-false (length t) (size t) (b ∙ pick-false s 2 _ z));
      onward = ap (λ n. drop n t) n.1;
      begins = begins-behind (begins-first t) 2 n.1;
    }
first_fine t s (fragment (trace_class u l)) b e z = absurd (omega (arith, pick-zero s 2 4 z))
first_fine t s (fragment (clock_class i f)) b e z = absurd (omega (arith, pick-zero s 2 4 z))
first_fine t s (fragment (stream_class i c)) b e z = absurd (omega (arith, pick-zero s 2 4 z))
first_fine t s (fragment (event_class i j)) b e z = absurd (omega (arith, pick-zero s 2 4 z))
first_fine t s (root r) b e z = absurd (omega (arith, pick-zero s 2 4 z))
first_fine t s (class y) b e z = absurd (omega (arith, pick-zero s 2 4 z))
first_fine t s (range g l h) b e z = absurd (omega (arith, pick-zero s 2 4 z))
first_fine t s (option n) b e z = absurd (omega (arith, pick-zero s 2 4 z))

module _ (t : List ℕ) (T : Table) (y : List ℕ) (e : parse t ≡ good T y) where
  record Accepted-table : Type 0 where
    limit : length t ≤ 65536
    first : u8 t 0 ≡ 1
    says : Tabled t (fragments_of t) T
    once : Once t no_ids (fragments_of t)

  accepted : Accepted-table
  unfolding parse_table sound fragments_of behind_roots
  accepted = by (missing t || ltb 65536 (length t)) refl (parse-table t T y e)
    where
      rest : Parser Table
      rest x = then (parse_roots no_ids false false [] x) λ cs x. parse_fragments (length x) no_ids x

      behind-first : (n : ℕ) → first_fault (ltb (length t) (size t)) (record_of t) ≡ n → sound n t rest ≡ good T y
          → (u8 t 0 ≡ 1) × Asks t no_ids T (fragments_from (length t - 2) t 2)
      behind-first zero z e =
          let f = first_fine t _ (record_of t) refl refl z in
          let a = then-good (parse_roots no_ids false false [] (drop 2 t)) _ T y (rw f.onward at e) in
          let r = roots-stand t no_ids false false [] 2 a.value a.rest f.there f.begins a.first in
          (f.kind, fragments-stand t (length t - 2) no_ids 2 T y f.there f.begins (rw (r.rest, length-drop 2 t) at a.second))
      behind-first (suc n) z e = absurd (bad-good e)

      by : (b : Bool) → (missing t || ltb 65536 (length t)) ≡ b
          → elim b [ true ↦ bad 1 t | false ↦ sound (first_fault (ltb (length t) (size t)) (record_of t)) t rest ] ≡ good T y → Accepted-table
      by true m e = absurd (bad-good e)
      by false m e =
          let r = behind-first _ refl e in
          record { limit = ltb-false 65536 (length t) (or-false (missing t) _ m).1; first = r.0; says = r.1.0; once = r.1.1 }

  pub table-size : length t ≤ 65536
  table-size = accepted.limit

  pub preamble-first : u8 t 0 ≡ 1
  preamble-first = accepted.first

  pub all-fragments : AllFragments t (fragments_of t)
  all-fragments = accepted.says.each

  pub each-stream-first : (i : ℕ) → FirstOf (is_stream t i) (fragments_of t)
  each-stream-first i = (accepted.once.streams i).first

  pub each-event-first : (i j : ℕ) → FirstOf (is_event t i j) (fragments_of t)
  each-event-first i j = (accepted.once.events i j).first

  pub asked-at : asked T ≡ asked_at t
  unfolding asked asked_at
  asked-at = λ k. record {
    uuid = accepted.says.uuid k;
    header = accepted.says.header k;
    stream = λ i. accepted.says.stream i k;
    event = λ i j. accepted.says.event i j k;
  }

-- the same of a table that the check accepts
pub record Accepts (t : List ℕ) : Type 0 where
  pub limit : length t ≤ 65536
  pub first : u8 t 0 ≡ 1
  pub fragments : AllFragments t (fragments_of t)
  pub streams : (i : ℕ) → FirstOf (is_stream t i) (fragments_of t)
  pub firsts : (i j : ℕ) → FirstOf (is_event t i j) (fragments_of t)

pub checked-accepts : (t : List ℕ) (n : ByteLength) → checked t ≡ Ok n → Accepts t
unfolding checked checked_of
checked-accepts t n h = by (parse t) refl h
  where
    by : (o : Parsed Table) → parse t ≡ o → checked_of t o ≡ Ok n → Accepts t
    by (bad m x) e h = let z : ◌≡◌ {A = ℕ} 0 1 = cc in absurd (omega arith)
    by (good T y) e h = record {
      limit = table-size t T y e;
      first = preamble-first t T y e;
      fragments = all-fragments t T y e;
      streams = λ i. each-stream-first t T y e i;
      firsts = λ i j. each-event-first t T y e i j;
    }

-- a table that is accepted is so to its end
pub checked-whole : (t : List ℕ) (n : ByteLength) → checked t ≡ Ok n → checked t ≡ Ok (byte_length (length t))
unfolding checked
checked-whole t n h = by (parse t) h
  where
    by : (o : Parsed Table) → checked_of t o ≡ Ok n → checked_of t o ≡ Ok (byte_length (length t))
    by (bad m y) h = let z : ◌≡◌ {A = ℕ} 0 1 = unfold checked_of in cc in absurd (omega arith)
    by (good T y) h = unfold checked_of in refl
