-- From no mark at all, the marks of a table's stream and event classes are those that readings list: `Marks` by `stream_listed` and
-- `event_listed`. In order: one place that is marked; entries one after another, by any test of an entry; a stream class; an event class;
-- the table.
use Rattle.std.specs.Prelude.{Some, None, Option}
use mathlib.Core.Path.{◌≡◌, refl, sym, ap, ◌∙◌}
use Prim.Native.Nat.{ℕ, ◌+◌, ◌≤◌, ◌<◌}
use native.Mathlib.Omega.{arith}
use mathlib.Core.List.{List, [], ◌∷◌}
use mathlib.Core.Bool.{Bool, true, false, ◌&&◌, ◌||◌}
use lib.ListN.{length, get_or, length-set}
use lib.Seq.{get_or-set_same, get_or-set_other}
use lib.Dec.{ltb, eqb}
use borrow.Author.Tests.{eq-eqb, eqb-true, eqb-false}
use Rattle.rules.specs.declared.Entry.{Entry}
use Rattle.rules.specs.Entry.{stream_class_found, event_class_found}
use Rattle.rules.specs.Record.{u8, u64}
use Rattle.rules.specs.Read.{Reading}
use Rattle.rules.specs.Edition.{both}
use Rattle.rules.specs.Bundle.{under, stream_in, event_in, event_under, stream_listed, event_listed}
use Rattle.facts.proofs.Truth.{clash, and_left, and_right, and_none, or-true}
use Rattle.class_layout.specs.Fragments.{stream_kind, event_kind, is_stream, is_event, first_of, fragments_of, find_stream_at, find_event_at}
use Rattle.class_layout.specs.Fragments.{Fragment, All, AllFragments}
use Rattle.class_layout.proofs.Lookups.{found_some, first_holds}
use Rattle.class_layout.proofs.Asked.{Accepts}
use Rattle.bundle_table.specs.Kept.{marked, Mark, Marks}
use Rattle.bundle_marks.specs.Marked.{stream_place, event_place, mark_at, mark_one, mark_list, mark_all}

-- Tests

or-none : (a : Bool) → (a || false) ≡ a
or-none true = refl
or-none false = refl

or_some : (a : Bool) → (a || true) ≡ true
or_some true = refl
or_some false = refl

or_assoc : (a b c : Bool) → ((a || b) || c) ≡ (a || (b || c))
or_assoc true b c = refl
or_assoc false b c = refl

or_turn : (a b c : Bool) → (a || (b || c)) ≡ ((b || a) || c)
or_turn true true c = refl
or_turn true false c = refl
or_turn false true c = refl
or_turn false false c = refl

or-pairs : (a b c d : Bool) → ((a || b) || (c || d)) ≡ ((a || c) || (b || d))
or-pairs true b c d = refl
or-pairs false true true d = refl
or-pairs false true false d = refl
or-pairs false false c d = refl

not-both : (k : ℕ) → eqb k stream_class_found ≡ true → eqb k event_class_found ≡ true → ⊥
not-both k p q = omega (arith, eqb-true k stream_class_found p, eqb-true k event_class_found q)

-- One place

module _ (o : ℕ) where
  mark-here : (m : List ℕ) {p : Option ℕ} → o < length m → p ≡ Some o → marked (mark_at p m) o ≡ true
  unfolding mark_at marked
  mark-here m l e = rw (e, mark_at, get_or-set_same m o 1 0 l) refl

  mark-there : (m : List ℕ) (p : Option ℕ) → (p ≡ Some o → ⊥) → marked (mark_at p m) o ≡ marked m o
  unfolding mark_at marked
  mark-there m (Some q) h = ap (ltb 0) (get_or-set_other m q o 1 0 (λ e. h (ap Some (sym e))))
  mark-there m None h = refl

at_length : (p : Option ℕ) (m : List ℕ) → length (mark_at p m) ≡ length m
unfolding mark_at
at_length (Some o) m = length-set m o 1
at_length None m = refl

-- an entry's marks, by whether it is an entry 2 and whether it is an entry 5
abbrev mark_by : List ℕ → ℕ → ℕ → List ℕ → Bool → Bool → List ℕ
mark_by t i v m c d =
    elim c [
      | true ↦ mark_at (stream_place t v) m
      | false ↦ elim d [ true ↦ mark_at (stream_place t i) (mark_at (event_place t i v) m) | false ↦ m ]
    ]

one-length : (t : List ℕ) (i k v : ℕ) (m : List ℕ) → length (mark_one t i k v m) ≡ length m
unfolding mark_one
one-length t i k v m = by (eqb k stream_class_found) (eqb k event_class_found)
  where
    by : (c d : Bool) → length (mark_by t i v m c d) ≡ length m
    by true d = at_length _ m
    by false true = at_length (stream_place t i) _ ∙ at_length _ m
    by false false = refl

list_length : (t : List ℕ) (i : ℕ) (es : List Entry) (m : List ℕ) → length (mark_list t i es m) ≡ length m
unfolding mark_list
list_length t i [] m = refl
list_length t i (e ∷ es) m = list_length t (under i e) es _ ∙ one-length t i e.kind e.value m

-- Entries, where one of the kind k and the value v, with the stream class h in front, marks o if it passes a test

module _ (t : List ℕ) (o : ℕ) (hit : ℕ → ℕ → ℕ → Bool)
    (one : (h k v : ℕ) (m : List ℕ) → o < length m → marked (mark_one t h k v m) o ≡ (hit h k v || marked m o)) where
  hit_in : ℕ → List Entry → Bool
  hit_in h [] = false
  hit_in h (e ∷ es) = hit h e.kind e.value || hit_in (under h e) es

  hit_by : List Reading → Bool
  hit_by [] = false
  hit_by (r ∷ rs) = hit_in 0 r.entries || hit_by rs

  list-marks : (h : ℕ) (es : List Entry) (m : List ℕ) → o < length m → marked (mark_list t h es m) o ≡ (hit_in h es || marked m o)
  unfolding mark_list hit_in
  list-marks h [] m l = refl
  list-marks h (e ∷ es) m l =
      list-marks (under h e) es (mark_one t h e.kind e.value m) (rw one-length l)
      ∙ ap (λ b. hit_in (under h e) es || b) (one h e.kind e.value m l)
      ∙ or_turn (hit_in (under h e) es) (hit h e.kind e.value) (marked m o)

  all-marks : (rs : List Reading) (m : List ℕ) → o < length m → marked (mark_all t rs m) o ≡ (hit_by rs || marked m o)
  unfolding mark_all hit_by
  all-marks [] m l = refl
  all-marks (r ∷ rs) m l =
      all-marks rs (mark_list t 0 r.entries m) (rw list_length l)
      ∙ ap (λ b. hit_by rs || b) (list-marks 0 r.entries m l)
      ∙ or_turn (hit_by rs) (hit_in 0 r.entries) (marked m o)

-- A fragment of an accepted table

module _ {t : List ℕ} (a : Accepts t) (o : ℕ) where
  -- what a lookup finds passes its test
  passes : (f : ℕ → Bool) → first_of f (fragments_of t) ≡ Some o → f o ≡ true
  passes f e = (first_holds (Fragment t) f (fragments_of t) o (found_some _ o (sym e)) a.fragments).0

  stream-is : (v : ℕ) → stream_place t v ≡ Some o → (u8 t o ≡ stream_kind) × (u64 t (o + 1) ≡ v)
  unfolding stream_place is_stream
  stream-is v e =
      let b = passes (is_stream t v) e in
      (eqb-true _ _ (and_left (eqb (u8 t o) stream_kind) _ b), eqb-true _ v (and_right (eqb (u8 t o) stream_kind) _ b))

  event-is : (h v : ℕ) → event_place t h v ≡ Some o → (u8 t o ≡ event_kind) × (u64 t (o + 1) ≡ h) × (u64 t (o + 9) ≡ v)
  unfolding event_place is_event
  event-is h v e =
      let b = passes (is_event t h v) e in
      let i = and_right (eqb (u8 t o) event_kind) _ b in (
        eqb-true _ _ (and_left (eqb (u8 t o) event_kind) _ b),
        eqb-true _ h (and_left (eqb (u64 t (o + 1)) h) _ i),
        eqb-true _ v (and_right (eqb (u64 t (o + 1)) h) _ i),
      )

  -- A stream class, the first of its id

  module _ (i : ℕ) (k : u8 t o ≡ stream_kind) (id : u64 t (o + 1) ≡ i)
      (first : (i : ℕ) → is_stream t i o ≡ true → find_stream_at t (fragments_of t) i ≡ Some o) where
    -- the stream class of an id is this one just where the id is its own
    stream-here : (v : ℕ) → v ≡ i → stream_place t v ≡ Some o
    unfolding stream_place is_stream
    stream-here v e = first v (rw (k, eq-eqb (u64 t (o + 1)) v (id ∙ sym e)) refl)

    of-stream : (v : ℕ) (m : List ℕ) → o < length m → marked (mark_at (stream_place t v) m) o ≡ (eqb v i || marked m o)
    of-stream v m l = by (eqb v i) refl
      where
        by : (b : Bool) → eqb v i ≡ b → marked (mark_at (stream_place t v) m) o ≡ (b || marked m o)
        by true e = mark-here o m l (stream-here v (eqb-true v i e))
        by false e = mark-there o m (stream_place t v) (λ q. eqb-false v i e (sym (stream-is v q).1 ∙ id))

    -- and no event class is
    no-event : (h v : ℕ) (m : List ℕ) → marked (mark_at (event_place t h v) m) o ≡ marked m o
    no-event h v m = mark-there o m (event_place t h v) (λ q. omega (arith, (event-is h v q).0))

    names : ℕ → ℕ → ℕ → Bool
    names h x v = (eqb x stream_class_found && eqb v i) || (eqb x event_class_found && eqb h i)

    names-one : (h x v : ℕ) (m : List ℕ) → o < length m → marked (mark_one t h x v m) o ≡ (names h x v || marked m o)
    unfolding mark_one names
    names-one h x v m l = by (eqb x stream_class_found) refl (eqb x event_class_found) refl
      where
        by : (c : Bool) → eqb x stream_class_found ≡ c → (d : Bool) → eqb x event_class_found ≡ d
            → marked (mark_by t h v m c d) o ≡ (((c && eqb v i) || (d && eqb h i)) || marked m o)
        by true p true q = absurd (not-both x p q)
        by true p false q = of-stream v m l ∙ ap (λ b. b || marked m o) (sym (or-none (eqb v i)))
        by false p true q = of-stream h _ (rw at_length l) ∙ ap (λ b. eqb h i || b) (no-event h v m)
        by false p false q = refl

    names_in : (h : ℕ) (es : List Entry)
        → hit_in t o names names-one h es ≡ (stream_in i es || event_under i h es)
    unfolding hit_in stream_in event_under names
    names_in h [] = refl
    names_in h (e ∷ es) = rw (names_in (under h e) es)
        (or-pairs (eqb e.kind stream_class_found && eqb e.value i) (eqb e.kind event_class_found && eqb h i)
        (stream_in i es) (event_under i (under h e) es))

    names-by : (rs : List Reading) → hit_by t o names names-one rs ≡ stream_listed rs i
    unfolding hit_by stream_listed
    names-by [] = refl
    names-by (r ∷ rs) = rw (names_in 0 r.entries, names-by rs)
        (or_assoc (stream_in i r.entries) (event_under i 0 r.entries) (stream_listed rs i))

    pub stream-marked : (rs : List Reading) (m : List ℕ) → o < length m → marked m o ≡ false
        → marked (mark_all t rs m) o ≡ stream_listed rs i
    stream-marked rs m l z = all-marks t o names names-one rs m l ∙ rw (names-by rs, z) (or-none (stream_listed rs i))

  -- An event class, the first of its ids

  module _ (i j : ℕ) (k : u8 t o ≡ event_kind) (id : u64 t (o + 1) ≡ i) (id' : u64 t (o + 9) ≡ j)
      (first : (i j : ℕ) → is_event t i j o ≡ true → find_event_at t (fragments_of t) i j ≡ Some o) where
    event-here : (h v : ℕ) → (eqb h i && eqb v j) ≡ true → event_place t h v ≡ Some o
    unfolding event_place is_event
    event-here h v e =
        let p : u64 t (o + 1) ≡ h = id ∙ sym (eqb-true h i (and_left (eqb h i) _ e)) in
        let q : u64 t (o + 9) ≡ v = id' ∙ sym (eqb-true v j (and_right (eqb h i) _ e)) in
        first h v (rw (k, eq-eqb (u64 t (o + 1)) h p, eq-eqb (u64 t (o + 9)) v q) refl)

    event-own : (h v : ℕ) → event_place t h v ≡ Some o → (eqb h i && eqb v j) ≡ true
    event-own h v e = let x = event-is h v e in rw (eq-eqb h i (sym x.1 ∙ id), eq-eqb v j (sym x.2 ∙ id')) refl

    -- the event class of two ids is this one just where both are its own
    of-event : (h v : ℕ) (m : List ℕ) → o < length m
        → marked (mark_at (event_place t h v) m) o ≡ ((eqb h i && eqb v j) || marked m o)
    of-event h v m l = by (eqb h i && eqb v j) refl
      where
        by : (b : Bool) → (eqb h i && eqb v j) ≡ b → marked (mark_at (event_place t h v) m) o ≡ (b || marked m o)
        by true e = mark-here o m l (event-here h v e)
        by false e = mark-there o m (event_place t h v) (λ q. clash (sym e ∙ event-own h v q))

    -- and no stream class is
    no_stream : (v : ℕ) (m : List ℕ) → marked (mark_at (stream_place t v) m) o ≡ marked m o
    no_stream v m = mark-there o m (stream_place t v) (λ q. omega (arith, (stream-is v q).0))

    tells : ℕ → ℕ → ℕ → Bool
    tells h x v = eqb x event_class_found && eqb h i && eqb v j

    tells-one : (h x v : ℕ) (m : List ℕ) → o < length m → marked (mark_one t h x v m) o ≡ (tells h x v || marked m o)
    unfolding mark_one tells
    tells-one h x v m l = by (eqb x stream_class_found) refl (eqb x event_class_found) refl
      where
        by : (c : Bool) → eqb x stream_class_found ≡ c → (d : Bool) → eqb x event_class_found ≡ d
            → marked (mark_by t h v m c d) o ≡ ((d && eqb h i && eqb v j) || marked m o)
        by true p true q = absurd (not-both x p q)
        by true p false q = no_stream v m
        by false p true q = no_stream h _ ∙ of-event h v m l
        by false p false q = refl

    tells-in : (h : ℕ) (es : List Entry) → hit_in t o tells tells-one h es ≡ event_in i j h es
    unfolding hit_in event_in tells
    tells-in h [] = refl
    tells-in h (e ∷ es) = rw (tells-in (under h e) es) refl

    tells-by : (rs : List Reading) → hit_by t o tells tells-one rs ≡ event_listed rs i j
    unfolding hit_by event_listed
    tells-by [] = refl
    tells-by (r ∷ rs) = rw (tells-in 0 r.entries, tells-by rs) refl

    pub event-marked : (rs : List Reading) (m : List ℕ) → o < length m → marked m o ≡ false
        → marked (mark_all t rs m) o ≡ event_listed rs i j
    event-marked rs m l z = all-marks t o tells tells-one rs m l ∙ rw (tells-by rs, z) (or-none (event_listed rs i j))

-- An event class that is listed has its stream class listed

under-in : (i j h : ℕ) (es : List Entry) → event_in i j h es ≡ true → event_under i h es ≡ true
unfolding event_in event_under
under-in i j h (e ∷ es) p =
    or-true (eqb e.kind event_class_found && eqb h i && eqb e.value j) _ p
    (λ q. ap (λ b. b || event_under i (under h e) es) (and_left (eqb e.kind event_class_found && eqb h i) _ q))
    (λ q. rw (under-in i j (under h e) es q) (or_some (eqb e.kind event_class_found && eqb h i)))
under-in i j h [] p = absurd (clash p)

stream-of-event : (rs : List Reading) (i j : ℕ) → event_listed rs i j ≡ true → stream_listed rs i ≡ true
unfolding event_listed stream_listed
stream-of-event [] i j p = absurd (clash p)
stream-of-event (r ∷ rs) i j p =
    or-true (event_in i j 0 r.entries) _ p
    (λ q. rw (under-in i j 0 r.entries q) (or_some (stream_in i r.entries)))
    (λ q. rw (stream-of-event rs i j q, or_some (event_under i 0 r.entries)) (or_some (stream_in i r.entries)))

both-listed : (rs : List Reading) (i j : ℕ) → both (stream_listed rs) (event_listed rs) i j ≡ event_listed rs i j
unfolding both
both-listed rs i j = by (event_listed rs i j) refl
  where
    by : (b : Bool) → event_listed rs i j ≡ b → (stream_listed rs i && b) ≡ b
    by true e = rw (stream-of-event rs i j e) refl
    by false e = and_none (stream_listed rs i)

-- The table

no-mark : (m : List ℕ) → ((k : ℕ) → get_or m k 0 ≡ 0) → (o : ℕ) → marked m o ≡ false
unfolding marked
no-mark m z o = ap (ltb 0) (z o)

module _ {t : List ℕ} (a : Accepts t) (rs : List Reading) (m : List ℕ) (room : length t ≤ length m) (z : (k : ℕ) → get_or m k 0 ≡ 0) where
  -- of these fragments each is the first of its ids
  marks-of : (os : List ℕ) → AllFragments t os
      → ((i : ℕ) → All (λ o. is_stream t i o ≡ true → find_stream_at t (fragments_of t) i ≡ Some o) os)
      → ((i j : ℕ) → All (λ o. is_event t i j o ≡ true → find_event_at t (fragments_of t) i j ≡ Some o) os)
      → All (Mark (stream_listed rs) (event_listed rs) t (mark_all t rs m)) os
  marks-of [] f s e = tt
  marks-of (o ∷ os) f s e =
      let l : o < length m = omega (arith, f.0.onward, f.0.within) in (
        record {
          stream = λ k. stream-marked a o _ k refl (λ i. (s i).0) rs m l (no-mark m z o);
          event = λ k. event-marked a o _ _ k refl refl (λ i j. (e i j).0) rs m l (no-mark m z o) ∙ sym (both-listed rs _ _);
        },
        marks-of os f.1 (λ i. (s i).1) (λ i j. (e i j).1),
      )

  pub named : Marks (stream_listed rs) (event_listed rs) t (mark_all t rs m)
  named = record { each = marks-of (fragments_of t) a.fragments a.streams a.firsts }
