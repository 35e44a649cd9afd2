-- No two stream classes of an accepted table have the same id, and no two event classes the same ids (7): the class at a fragment's place
-- is the first of its ids. One fragment, under the ids seen before it; the walk over the fragments is in Asked.
use Rattle.std.specs.Prelude.{None, Some}
use mathlib.Core.Path.{◌≡◌, refl, sym, ◌∙◌}
use Prim.Native.Nat.{ℕ, ◌+◌}
use native.Mathlib.Omega.{arith}
use mathlib.Core.List.{List, [], ◌∷◌}
use mathlib.Core.Bool.{Bool, true, false, ◌&&◌, ◌||◌}
use lib.ListN.{drop}
use lib.Dec.{eqb}
use borrow.Author.Tests.{eqb-true, eq-eqb}
use Rattle.rules.specs.Record.{Fragment as Opening, preamble, trace_class, clock_class, stream_class, event_class, fragment, u8, u64, record_of}
use Rattle.rules.specs.Faults.{Ids, seen, among, pair_among, fragment_fault, record_fault}
use Rattle.facts.proofs.Truth.{clash, and_left, and_right}
use Rattle.facts.proofs.Faults.{pick-false, pick-zero}
use Rattle.class_layout.specs.Fragments.{is_stream, is_event, first_of, All}
use Rattle.class_layout.proofs.Records.{trace-at, clock-at, stream_at, event-at}

all_map : {P Q : ℕ → Type 0} → ((o : ℕ) → P o → Q o) → (os : List ℕ) → All P os → All Q os
all_map f [] h = tt
all_map f (o ∷ os) h = (f o h.0, all_map f os h.1)

-- each of these that passes a test is the first that does
abbrev pub FirstOf : (ℕ → Bool) → List ℕ → Type 0
FirstOf f os = All (λ o. f o ≡ true → first_of f os ≡ Some o) os

-- One test, f, of a fragment's place: s says whether an id that it goes by was seen

module _ (f : ℕ → Bool) (s : Ids → Bool) where
  pub record OnceOf (q : Ids) (os : List ℕ) : Type 0 where
    pub new : s q ≡ true → first_of f os ≡ None
    pub first : FirstOf f os

  -- what was seen stays seen; what the fragment has was not, and then is
  record Fresh (q : Ids) (g : Opening) (at : ℕ) : Type 0 where
    kept : s q ≡ true → s (seen q g) ≡ true
    own : f at ≡ true → (s q ≡ false) × (s (seen q g) ≡ true)

  none_of : (q : Ids) → OnceOf q []
  unfolding first_of
  none_of q = record { new = λ h. refl; first = tt }

  -- in front of the fragments behind it
  added_of : (q : Ids) (g : Opening) (at : ℕ) (os : List ℕ) → Fresh q g at → OnceOf (seen q g) os → OnceOf q (at ∷ os)
  unfolding first_of
  added_of q g at os h w = record {
    new = λ e. new e (f at) refl;
    first = (λ b. rw (b, first_of), all_map (λ o k b. further o (k b) (f at) refl) os w.first);
  }
    where
      new : s q ≡ true → (b : Bool) → f at ≡ b → first_of f (at ∷ os) ≡ None
      new e true b = absurd (clash (sym (h.own b).0 ∙ e))
      new e false b = rw (b, first_of) (w.new (h.kept e))

      further : (o : ℕ) → first_of f os ≡ Some o → (b : Bool) → f at ≡ b → first_of f (at ∷ os) ≡ Some o
      further o k true b = let n = w.new (h.own b).1 in let z : ◌≡◌ {A = ℕ} 0 1 = cc in absurd (omega arith)
      further o k false b = rw (b, first_of) k

module _ (t : List ℕ) where
  abbrev stream_seen : ℕ → Ids → Bool
  stream_seen i q = among i q.streams

  abbrev event_seen : ℕ → ℕ → Ids → Bool
  event_seen i j q = pair_among i j q.events

  pub record Once (q : Ids) (os : List ℕ) : Type 0 where
    pub streams : (i : ℕ) → OnceOf (is_stream t i) (stream_seen i) q os
    pub events : (i j : ℕ) → OnceOf (is_event t i j) (event_seen i j) q os

  pub none-once : (q : Ids) → Once q []
  none-once q = record { streams = λ i. none_of (is_stream t i) (stream_seen i) q; events = λ i j. none_of (is_event t i j) (event_seen i j) q }

  -- One fragment

  abbrev FreshStream : Ids → Opening → ℕ → Type 0
  FreshStream q g at = (i : ℕ) → Fresh (is_stream t i) (stream_seen i) q g at

  abbrev FreshEvent : Ids → Opening → ℕ → Type 0
  FreshEvent q g at = (i j : ℕ) → Fresh (is_event t i j) (event_seen i j) q g at

  no_stream : (i k at : ℕ) → u8 t at ≡ k → eqb k 4 ≡ false → is_stream t i at ≡ true → ⊥
  unfolding is_stream
  no_stream i k at h e b = clash (rw (h, e) at b)

  no-event : (i j k at : ℕ) → u8 t at ≡ k → eqb k 5 ≡ false → is_event t i j at ≡ true → ⊥
  unfolding is_event
  no-event i j k at h e b = clash (rw (h, e) at b)

  or_some : (a b : Bool) → b ≡ true → (a || b) ≡ true
  or_some true b h = refl
  or_some false b h = h

  stream-own : (q : Ids) (c x m at : ℕ) → record_of (drop at t) ≡ fragment (stream_class c x) → fragment_fault q (stream_class c x) m ≡ 0
      → (i : ℕ) → is_stream t i at ≡ true → (among i q.streams ≡ false) × (among i (c ∷ q.streams) ≡ true)
  unfolding fragment_fault is_stream among
  stream-own q c x m at e z i b =
      let h = stream_at t at c x e in
      let c₁ : c ≡ u64 t (at + 1) = cc h.says in
      let i₁ : i ≡ c = sym (c₁ ∙ eqb-true _ i (and_right (eqb (u8 t at) 4) _ b)) in
      (rw i₁ (pick-false _ 6 _ z), rw (eq-eqb i c i₁) refl)

  event-own : (q : Ids) (c x m at : ℕ) → record_of (drop at t) ≡ fragment (event_class c x) → fragment_fault q (event_class c x) m ≡ 0
      → (i j : ℕ) → is_event t i j at ≡ true → (pair_among i j q.events ≡ false) × (pair_among i j ((c, x) ∷ q.events) ≡ true)
  unfolding fragment_fault is_event pair_among
  event-own q c x m at e z i j b =
      let h = event-at t at c x e in
      let ids = and_right (eqb (u8 t at) 5) _ b in
      let c₁ : c ≡ u64 t (at + 1) = cc h.says in
      let x₁ : x ≡ u64 t (at + 9) = cc h.says in
      let i₁ : i ≡ c = sym (c₁ ∙ eqb-true _ i (and_left (eqb (u64 t (at + 1)) i) _ ids)) in
      let j₁ : j ≡ x = sym (x₁ ∙ eqb-true _ j (and_right (eqb (u64 t (at + 1)) i) _ ids)) in
      (rw (i₁, j₁) (pick-false _ 6 _ z), rw (eq-eqb i c i₁, eq-eqb j x j₁) refl)

  fresh-stream : (q : Ids) (g : Opening) (m at : ℕ) → record_of (drop at t) ≡ fragment g → fragment_fault q g m ≡ 0 → FreshStream q g at
  unfolding fragment_fault seen among
  fresh-stream q (preamble v) m at e z i = absurd (omega arith)
  fresh-stream q (trace_class u x) m at e z i =
      record { kept = λ h. h; own = λ b. absurd (no_stream i 2 at (trace-at t at u x e).kind refl b) }
  fresh-stream q (clock_class c x) m at e z i =
      record { kept = λ h. h; own = λ b. absurd (no_stream i 3 at (clock-at t at c x e).0 refl b) }
  fresh-stream q (stream_class c x) m at e z i = record { kept = λ h. or_some (eqb i c) _ h; own = λ b. stream-own q c x m at e z i b }
  fresh-stream q (event_class c x) m at e z i =
      record { kept = λ h. h; own = λ b. absurd (no_stream i 5 at (event-at t at c x e).kind refl b) }

  fresh-event : (q : Ids) (g : Opening) (m at : ℕ) → record_of (drop at t) ≡ fragment g → fragment_fault q g m ≡ 0 → FreshEvent q g at
  unfolding fragment_fault seen pair_among
  fresh-event q (preamble v) m at e z i j = absurd (omega arith)
  fresh-event q (trace_class u x) m at e z i j =
      record { kept = λ h. h; own = λ b. absurd (no-event i j 2 at (trace-at t at u x e).kind refl b) }
  fresh-event q (clock_class c x) m at e z i j =
      record { kept = λ h. h; own = λ b. absurd (no-event i j 3 at (clock-at t at c x e).0 refl b) }
  fresh-event q (stream_class c x) m at e z i j =
      record { kept = λ h. h; own = λ b. absurd (no-event i j 4 at (stream_at t at c x e).kind refl b) }
  fresh-event q (event_class c x) m at e z i j = record {
    kept = λ h. or_some (eqb i c && eqb j x) _ h;
    own = λ b. event-own q c x m at e z i j b;
  }

  pub fragment-once : (s : Bool) (q : Ids) (g : Opening) (m at : ℕ) (os : List ℕ) → record_of (drop at t) ≡ fragment g
      → record_fault s q (fragment g) m ≡ 0 → Once (seen q g) os → Once q (at ∷ os)
  unfolding record_fault
  fragment-once s q g m at os e z w =
      let n = pick-zero s 2 _ z in
      record {
        streams = λ i. added_of (is_stream t i) (stream_seen i) q g at os (fresh-stream q g m at e n i) (w.streams i);
        events = λ i j. added_of (is_event t i j) (event_seen i j) q g at os (fresh-event q g m at e n i j) (w.events i j);
      }
