-- Lookups among the classes that stay: what was found is found where its ids stay, and else nothing.
use Rattle.std.specs.Prelude.{None}
use mathlib.Core.Path.{◌≡◌, refl, sym, ap, ◌∙◌}
use Prim.Native.Nat.{ℕ, zero, suc, ◌≤◌}
use native.Mathlib.Omega.{arith}
use native.Mathlib.Nat.{le_refl}
use lib.ListN.{length, length-drop, take-append-drop}
use mathlib.Core.List.{List, [], ◌∷◌}
use mathlib.Core.Bool.{Bool, true, false, ◌&&◌}
use lib.Dec.{eqb}
use borrow.Author.Tests.{eqb-true}
use Rattle.rules.specs.Table.{StreamClass, EventClass, find_stream, find_event}
use Rattle.facts.proofs.Truth.{clash, and_left, and_right}
use Rattle.rules.specs.Record.{Record, unknown, fragment, root, class, range, option, preamble, trace_class, clock_class, stream_class, event_class, layout_of, record_of, size, behind}
use Rattle.rules.specs.Parse.{missing}
use Rattle.rules.specs.Edition.{both, stays, part, leave_records, leave}
use Rattle.promises.specs.Edition.{keep_events, keep_streams, NothingLeft}

module _ (k : ℕ → ℕ → Bool) (i j : ℕ) where
  ids : (c : EventClass) (x : Bool) → k i j ≡ x → (eqb c.stream i && eqb c.id j) ≡ true → k c.stream c.id ≡ x
  ids c x h q = cc (eqb-true c.stream i (and_left (eqb c.stream i) (eqb c.id j) q), eqb-true c.id j (and_right (eqb c.stream i) (eqb c.id j) q))

  pub kept : k i j ≡ true → (cs : List EventClass) → find_event (keep_events k cs) i j ≡ find_event cs i j
  unfolding find_event keep_events
  kept h [] = refl
  kept h (c ∷ cs) = by (k c.stream c.id) (eqb c.stream i && eqb c.id j) refl refl (kept h cs)
    where
      by : (x y : Bool) → k c.stream c.id ≡ x → (eqb c.stream i && eqb c.id j) ≡ y → find_event (keep_events k cs) i j ≡ find_event cs i j
          → find_event (keep_events k (c ∷ cs)) i j ≡ find_event (c ∷ cs) i j
      by true true p q r = simp (p, q, keep_events, find_event)
      by true false p q r = simp (p, q, keep_events, find_event) r
      by false true p q r = absurd (clash (sym p ∙ ids c true h q))
      by false false p q r = simp (p, q, keep_events, find_event) r

  pub gone : k i j ≡ false → (cs : List EventClass) → find_event (keep_events k cs) i j ≡ None
  unfolding find_event keep_events
  gone h [] = refl
  gone h (c ∷ cs) = by (k c.stream c.id) (eqb c.stream i && eqb c.id j) refl refl (gone h cs)
    where
      by : (x y : Bool) → k c.stream c.id ≡ x → (eqb c.stream i && eqb c.id j) ≡ y → find_event (keep_events k cs) i j ≡ None
          → find_event (keep_events k (c ∷ cs)) i j ≡ None
      by true true p q r = absurd (clash (sym (ids c false h q) ∙ p))
      by true false p q r = simp (p, q, keep_events, find_event) r
      by false true p q r = simp (p, keep_events) r
      by false false p q r = simp (p, keep_events) r

module _ (k : ℕ → Bool) (i : ℕ) where
  pub stream-kept : k i ≡ true → (cs : List StreamClass) → find_stream (keep_streams k cs) i ≡ find_stream cs i
  unfolding find_stream keep_streams
  stream-kept h [] = refl
  stream-kept h (c ∷ cs) = by (k c.id) (eqb c.id i) refl refl (stream-kept h cs)
    where
      by : (x y : Bool) → k c.id ≡ x → eqb c.id i ≡ y → find_stream (keep_streams k cs) i ≡ find_stream cs i
          → find_stream (keep_streams k (c ∷ cs)) i ≡ find_stream (c ∷ cs) i
      by true true p q r = simp (p, q, keep_streams, find_stream)
      by true false p q r = simp (p, q, keep_streams, find_stream) r
      by false true p q r = absurd (clash (sym p ∙ ap k (eqb-true _ _ q) ∙ h))
      by false false p q r = simp (p, q, keep_streams, find_stream) r

  pub stream-gone : k i ≡ false → (cs : List StreamClass) → find_stream (keep_streams k cs) i ≡ None
  unfolding find_stream keep_streams
  stream-gone h [] = refl
  stream-gone h (c ∷ cs) = by (k c.id) (eqb c.id i) refl refl (stream-gone h cs)
    where
      by : (x y : Bool) → k c.id ≡ x → eqb c.id i ≡ y → find_stream (keep_streams k cs) i ≡ None → find_stream (keep_streams k (c ∷ cs)) i ≡ None
      by true true p q r = absurd (clash (sym h ∙ ap k (sym (eqb-true _ _ q)) ∙ p))
      by true false p q r = simp (p, q, keep_streams, find_stream) r
      by false true p q r = simp (p, keep_streams) r
      by false false p q r = simp (p, keep_streams) r

-- Where every class stays, so does every byte

abbrev all : ℕ → Bool
all i = true

abbrev every : ℕ → ℕ → Bool
every i j = true

stays_all : (r : Record) → stays all every true r ≡ true
unfolding stays both
stays_all unknown = refl
stays_all (fragment (preamble v)) = refl
stays_all (fragment (trace_class u l)) = refl
stays_all (fragment (clock_class i f)) = refl
stays_all (fragment (stream_class i c)) = refl
stays_all (fragment (event_class i j)) = refl
stays_all (root r) = refl
stays_all (class y) = refl
stays_all (range g l h) = refl
stays_all (option n) = refl

behind-less : (n : ℕ) (a : ℕ) (x : List ℕ) → length (a ∷ x) ≤ suc n → length (behind (a ∷ x)) ≤ n
unfolding behind size
behind-less n a x h = omega (arith, length-drop (suc (layout_of (a ∷ x)).0) (a ∷ x))

records-all : (n : ℕ) (x : List ℕ) → length x ≤ n → leave_records all every n true x ≡ x
unfolding leave_records missing
records-all zero [] h = refl
records-all zero (a ∷ x) h = absurd (omega arith)
records-all (suc n) [] h = refl
records-all (suc n) (a ∷ x) h =
    rw (stays_all (record_of (a ∷ x)), records-all n (behind (a ∷ x)) (behind-less n a x h)) (unfold part behind in take-append-drop (size (a ∷ x)) (a ∷ x))

pub nothing_left : NothingLeft
unfolding leave
nothing_left x = records-all (length x) x (le_refl (length x))
