-- The rules' tests of lists say just the classes that some list finds. In order: one entry; one list; all lists.
use mathlib.Core.Path.{◌≡◌, refl}
use mathlib.Core.Logic.{◌⊎◌, inl, inr}
use Prim.Native.Nat.{ℕ}
use mathlib.Core.List.{List, [], ◌∷◌}
use mathlib.Core.Bool.{Bool, true, false, ◌&&◌, ◌||◌}
use lib.Dec.{eqb}
use borrow.Author.Tests.{eq-eqb, eqb-true}
use Rattle.facts.proofs.Truth.{clash, or-true, and_left, and_right}
use Rattle.rules.specs.declared.Entry.{Entry}
use Rattle.rules.specs.Entry.{stream_class_found, event_class_found}
use Rattle.rules.specs.Read.{Reading}
use Rattle.rules.specs.Bundle.{under, stream_in, event_in, event_under, stream_listed, event_listed}
use Rattle.promises.specs.Smallest.{Lists, SomeLists, FindsEvent, FindsStream, JustFound, entries_of}

or_left : (a b : Bool) → a ≡ true → (a || b) ≡ true
or_left true b h = refl
or_left false b h = absurd (clash h)

or_right : (a b : Bool) → b ≡ true → (a || b) ≡ true
or_right true b h = refl
or_right false b h = h

-- One entry

-- two numbers and two numbers, tested together
pair-told : (m n k l : ℕ) → (eqb m n && eqb k l) ≡ true → (m ≡ n) × (k ≡ l)
pair-told m n k l q = (eqb-true m n (and_left (eqb m n) (eqb k l) q), eqb-true k l (and_right (eqb m n) (eqb k l) q))

pair-tells : (m n k l : ℕ) → m ≡ n → k ≡ l → (eqb m n && eqb k l) ≡ true
pair-tells m n k l p q = rw (eq-eqb m n p) (eq-eqb k l q)

abbrev is_stream : ℕ → Entry → Bool
is_stream i e = eqb e.kind stream_class_found && eqb e.value i

abbrev is_under : ℕ → ℕ → Entry → Bool
is_under i h e = eqb e.kind event_class_found && eqb h i

abbrev is_event : ℕ → ℕ → ℕ → Entry → Bool
is_event i j h e = is_under i h e && eqb e.value j

event-told : (i j h : ℕ) (e : Entry) → is_event i j h e ≡ true → FindsEvent i j h e
event-told i j h e q =
    let p = pair-told e.kind event_class_found h i (and_left (is_under i h e) (eqb e.value j) q) in
    (p.0, p.1, eqb-true e.value j (and_right (is_under i h e) (eqb e.value j) q))

event-tells : (i j h : ℕ) (e : Entry) → FindsEvent i j h e → is_event i j h e ≡ true
event-tells i j h e q = rw (pair-tells e.kind event_class_found h i q.0 q.1) (eq-eqb e.value j q.2)

-- One list

event-listed : (i j h : ℕ) (es : List Entry) → event_in i j h es ≡ true → Lists (FindsEvent i j) h es
unfolding event_in
event-listed i j h [] q = absurd (clash q)
event-listed i j h (e ∷ es) q =
    or-true (is_event i j h e) (event_in i j (under h e) es) q
    (λ p. inl (event-told i j h e p)) (λ p. inr (event-listed i j (under h e) es p))

lists-event : (i j h : ℕ) (es : List Entry) → Lists (FindsEvent i j) h es → event_in i j h es ≡ true
unfolding event_in
lists-event i j h [] q = absurd q
lists-event i j h (e ∷ es) (inl q) = or_left (is_event i j h e) (event_in i j (under h e) es) (event-tells i j h e q)
lists-event i j h (e ∷ es) (inr q) = or_right (is_event i j h e) (event_in i j (under h e) es) (lists-event i j (under h e) es q)

stream-listed : (i h : ℕ) (es : List Entry) → stream_in i es ≡ true → Lists (FindsStream i) h es
unfolding stream_in
stream-listed i h [] q = absurd (clash q)
stream-listed i h (e ∷ es) q =
    or-true (is_stream i e) (stream_in i es) q
    (λ p. inl (inl (pair-told e.kind stream_class_found e.value i p))) (λ p. inr (stream-listed i (under h e) es p))

under-listed : (i h : ℕ) (es : List Entry) → event_under i h es ≡ true → Lists (FindsStream i) h es
unfolding event_under
under-listed i h [] q = absurd (clash q)
under-listed i h (e ∷ es) q =
    or-true (is_under i h e) (event_under i (under h e) es) q
    (λ p. inl (inr (pair-told e.kind event_class_found h i p))) (λ p. inr (under-listed i (under h e) es p))

-- the entry is the finding of the stream class, or of one of its event classes
lists-stream : (i h : ℕ) (es : List Entry) → Lists (FindsStream i) h es → (stream_in i es ≡ true) ⊎ (event_under i h es ≡ true)
unfolding stream_in event_under
lists-stream i h [] q = absurd q
lists-stream i h (e ∷ es) (inl (inl q)) =
    inl (or_left (is_stream i e) (stream_in i es) (pair-tells e.kind stream_class_found e.value i q.0 q.1))
lists-stream i h (e ∷ es) (inl (inr q)) =
    inr (or_left (is_under i h e) (event_under i (under h e) es) (pair-tells e.kind event_class_found h i q.0 q.1))
lists-stream i h (e ∷ es) (inr q) = by (lists-stream i (under h e) es q)
  where
    by : (stream_in i es ≡ true) ⊎ (event_under i (under h e) es ≡ true)
        → ((is_stream i e || stream_in i es) ≡ true) ⊎ ((is_under i h e || event_under i (under h e) es) ≡ true)
    by (inl p) = inl (or_right (is_stream i e) (stream_in i es) p)
    by (inr p) = inr (or_right (is_under i h e) (event_under i (under h e) es) p)

-- All lists

events-listed : (i j : ℕ) (rs : List Reading) → event_listed rs i j ≡ true → SomeLists (FindsEvent i j) (entries_of rs)
unfolding event_listed
events-listed i j [] q = absurd (clash q)
events-listed i j (r ∷ rs) q =
    or-true (event_in i j 0 r.entries) (event_listed rs i j) q
    (λ p. inl (event-listed i j 0 r.entries p)) (λ p. inr (events-listed i j rs p))

list-events : (i j : ℕ) (rs : List Reading) → SomeLists (FindsEvent i j) (entries_of rs) → event_listed rs i j ≡ true
unfolding event_listed
list-events i j [] q = absurd q
list-events i j (r ∷ rs) (inl q) = or_left (event_in i j 0 r.entries) (event_listed rs i j) (lists-event i j 0 r.entries q)
list-events i j (r ∷ rs) (inr q) = or_right (event_in i j 0 r.entries) (event_listed rs i j) (list-events i j rs q)

-- of a stream class there are two tests of each list
module _ (i : ℕ) (r : Reading) (rs : List Reading) where
  abbrev found : Bool
  found = stream_in i r.entries

  abbrev held : Bool
  held = event_under i 0 r.entries

  here-or-later : {P : Type 0} → (found || (held || stream_listed rs i)) ≡ true → (found ≡ true → P) → (held ≡ true → P)
      → (stream_listed rs i ≡ true → P) → P
  here-or-later q f g k = or-true found (held || stream_listed rs i) q f (λ p. or-true held (stream_listed rs i) p g k)

  is-here : (found ≡ true) ⊎ (held ≡ true) → (found || (held || stream_listed rs i)) ≡ true
  is-here (inl p) = or_left found (held || stream_listed rs i) p
  is-here (inr p) = or_right found (held || stream_listed rs i) (or_left held (stream_listed rs i) p)

  is_later : stream_listed rs i ≡ true → (found || (held || stream_listed rs i)) ≡ true
  is_later p = or_right found (held || stream_listed rs i) (or_right held (stream_listed rs i) p)

streams-listed : (i : ℕ) (rs : List Reading) → stream_listed rs i ≡ true → SomeLists (FindsStream i) (entries_of rs)
unfolding stream_listed
streams-listed i [] q = absurd (clash q)
streams-listed i (r ∷ rs) q =
    here-or-later i r rs q (λ p. inl (stream-listed i 0 r.entries p)) (λ p. inl (under-listed i 0 r.entries p))
    (λ p. inr (streams-listed i rs p))

list-streams : (i : ℕ) (rs : List Reading) → SomeLists (FindsStream i) (entries_of rs) → stream_listed rs i ≡ true
unfolding stream_listed
list-streams i [] q = absurd q
list-streams i (r ∷ rs) (inl q) = is-here i r rs (lists-stream i 0 r.entries q)
list-streams i (r ∷ rs) (inr q) = is_later i r rs (list-streams i rs q)

pub just-found : (rs : List Reading) → JustFound (stream_listed rs) (event_listed rs) (entries_of rs)
just-found rs = record {
  streams = λ i. (streams-listed i rs, list-streams i rs);
  events = λ i j. (events-listed i j rs, list-events i j rs);
}
