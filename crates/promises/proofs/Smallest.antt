-- The bundle is the smallest table, from demand 3: what stays is all that the lists find, so that no reading misses a class; and where a
-- class that a list finds is left out, that list ends before its finding. In order: nothing is missed; something is; the bundle cut
-- further; the statement.
use Rattle.std.specs.Prelude.{Option, None, Some}
use mathlib.Core.Path.{◌≡◌, refl, sym, ap, subst, ◌∙◌}
use mathlib.Core.Logic.{◌⊎◌, inl, inr}
use Prim.Native.Nat.{ℕ, suc, ◌<◌}
use native.Mathlib.Omega.{arith}
use mathlib.Core.List.{List, [], ◌∷◌, map}
use mathlib.Core.Bool.{Bool, true, false, not, ◌&&◌}
use lib.ListN.{length, take, length-take}
use lib.Dec.{eqb}
use borrow.Author.Tests.{eqb-true, eq-eqb}
use Rattle.facts.proofs.Truth.{clash, and_right}
use Rattle.rules.specs.declared.Entry.{Entry}
use Rattle.rules.specs.declared.Stop.{Stop}
use Rattle.rules.specs.declared.Refusal.TheVariants.{StreamClassUnknown, EventClassUnknown}
use Rattle.rules.specs.Verdict.{stop_at}
use Rattle.rules.specs.Entry.{stream_class_found, event_class_found}
use Rattle.rules.specs.Read.{Reading, read_all}
use Rattle.rules.specs.Edition.{both, leave}
use Rattle.rules.specs.Lists.{readings}
use Rattle.rules.specs.Bundle.{under, bundle_of, stream_listed, event_listed}
use Rattle.promises.specs.Missing.{Lost, lost, later, front, first_lost, gone_stream, gone_event, missed, Good}
use Rattle.promises.specs.Smallest.{Lists, SomeLists, FindsEvent, FindsStream, JustFound, entries_of}
use Rattle.promises.specs.Smallest.{any_stream, any_event, but_event, but_stream, Smallest, SmallestBundle}
use Rattle.promises.proofs.Exact.{demand-3}
use Rattle.promises.proofs.Found.{just-found}
use Rattle.promises.proofs.Further.{Keeps, leave-again}

-- the refusal that names the class of an entry, by two tests
abbrev named : ℕ → Entry → Bool → Bool → Option Stop
named h e a b = elim a [
  | true ↦ Some (stop_at (StreamClassUnknown e.value) e.place)
  | false ↦ elim b [ true ↦ Some (stop_at (EventClassUnknown h e.value) e.place) | false ↦ None ]
]

some-none : (v : Stop) → ◌≡◌ {A = Option Stop} (Some v) None → ⊥
some-none v q = let z : ◌≡◌ {A = ℕ} 0 1 = cc in omega arith

-- Nothing is missed

module _ (ks : ℕ → Bool) (ke : ℕ → ℕ → Bool) where
  none-lost : (h : ℕ) (e : Entry) → (e.kind ≡ 2 → ks e.value ≡ true) → (e.kind ≡ 5 → both ks ke h e.value ≡ true)
      → lost (gone_stream ks) (gone_event ks ke) h e ≡ None
  unfolding lost gone_stream gone_event
  none-lost h e f g = λ i. named h e (first (eqb e.kind stream_class_found) refl i) (second (eqb e.kind event_class_found) refl i)
    where
      first : (a : Bool) → eqb e.kind stream_class_found ≡ a → (a && not (ks e.value)) ≡ false
      first true q = ap not (f (eqb-true _ _ q))
      first false q = refl

      second : (a : Bool) → eqb e.kind event_class_found ≡ a → (a && not (both ks ke h e.value)) ≡ false
      second true q = ap not (g (eqb-true _ _ q))
      second false q = refl

  -- all that some lists find stays
  record Among (ess : List (List Entry)) : Type 0 where
    streams : (i : ℕ) → SomeLists (FindsStream i) ess → ks i ≡ true
    events : (i j : ℕ) → SomeLists (FindsEvent i j) ess → ke i j ≡ true

  none_first : (h : ℕ) (es : List Entry) → ((i : ℕ) → Lists (FindsStream i) h es → ks i ≡ true)
      → ((i j : ℕ) → Lists (FindsEvent i j) h es → ke i j ≡ true)
      → first_lost (gone_stream ks) (gone_event ks ke) h es ≡ None
  unfolding first_lost front later
  none_first h [] f g = refl
  none_first h (e ∷ es) f g =
      let here = none-lost h e (λ k. f e.value (inl (inl (k, refl))))
      (λ k. unfold both in rw (f h (inl (inr (k, refl)))) (g h e.value (inl (k, refl, refl)))) in
      rw (here, none_first (under h e) es (λ i q. f i (inr q)) (λ i j q. g i j (inr q))) refl

  none-missed : (es : List Entry) (ess : List (List Entry)) → Among (es ∷ ess) → missed ks ke es ≡ None
  unfolding missed
  none-missed es ess h = none_first 0 es (λ i q. h.streams i (inl q)) (λ i j q. h.events i j (inl q))

  among-rest : (es : List Entry) (ess : List (List Entry)) → Among (es ∷ ess) → Among ess
  among-rest es ess h = record { streams = λ i q. h.streams i (inr q); events = λ i j q. h.events i j (inr q) }

  module _ (x : List ℕ) (good : Good x) where
    one_alike : (b : List ℕ) (room : ℕ) (ess : List (List Entry)) → Among ((read_all x b room).entries ∷ ess)
        → read_all (leave ks ke x) b room ≡ read_all x b room
    one_alike b room ess h = (demand-3 ks ke x good b room).same (none-missed _ ess h)

    all_alike : (bs ls : List (List ℕ)) → Among (entries_of (readings x bs ls)) → readings (leave ks ke x) bs ls ≡ readings x bs ls
    unfolding readings
    all_alike [] ls h = refl
    all_alike (b ∷ bs) [] h = λ i. one_alike b 0 _ h i ∷ all_alike bs [] (among-rest _ _ h) i
    all_alike (b ∷ bs) (l ∷ ls) h = λ i. one_alike b (length l) _ h i ∷ all_alike bs ls (among-rest _ _ h) i

-- Something is: a list that ends earlier

-- an entry that is not lost does not say so
abbrev pub Losing : (ℕ → Bool) → (ℕ → ℕ → Bool) → (ℕ → Entry → Type 0) → Type 0
Losing gs ge P = (h : ℕ) (e : Entry) → P h e → lost gs ge h e ≡ None → ⊥

module _ (gs : ℕ → Bool) (ge : ℕ → ℕ → Bool) where
  record Loses (h : ℕ) (es : List Entry) : Type 0 where
    l : Lost
    is : first_lost gs ge h es ≡ Some l
    inside : l.index < length es

  loses-cons : (h : ℕ) (e : Entry) (es : List Entry) → (lost gs ge h e ≡ None → Loses (under h e) es) → Loses h (e ∷ es)
  unfolding first_lost front later
  loses-cons h e es f = by (lost gs ge h e) refl
    where
      by : (o : Option Stop) → lost gs ge h e ≡ o → Loses h (e ∷ es)
      by None q =
          let r = f q in
          record {
            l = record { index = suc r.l.index; refusal = r.l.refusal };
            is = rw (q, r.is) refl;
            inside = omega (arith, r.inside);
          }
      by (Some v) q = record { l = record { index = 0; refusal = v }; is = rw q refl; inside = omega arith }

  loses : {P : ℕ → Entry → Type 0} → Losing gs ge P → (h : ℕ) (es : List Entry) → Lists P h es → Loses h es
  loses f h [] q = absurd q
  loses f h (e ∷ es) (inl q) = loses-cons h e es (λ n. absurd (f h e q n))
  loses f h (e ∷ es) (inr q) = loses-cons h e es (λ n. loses f (under h e) es q)

  -- an entry that one of two tests names is lost
  is-named : (h : ℕ) (e : Entry) (a b : Bool) → (a ≡ true) ⊎ (b ≡ true) → named h e a b ≡ None → ⊥
  is-named h e true b q n = some-none _ n
  is-named h e false true q n = some-none _ n
  is-named h e false false (inl q) n = clash q
  is-named h e false false (inr q) n = clash q

  losing-event : (i j : ℕ) → ge i j ≡ true → Losing gs ge (FindsEvent i j)
  unfolding lost
  losing-event i j g h e q n =
      let there : ge h e.value ≡ true = rw (q.1, q.2) g in
      is-named h e (eqb e.kind stream_class_found && gs e.value) (eqb e.kind event_class_found && ge h e.value)
      (inr (rw (eq-eqb e.kind event_class_found q.0) there)) n

  losing-stream : (i : ℕ) → gs i ≡ true → ((j : ℕ) → ge i j ≡ true) → Losing gs ge (FindsStream i)
  unfolding lost
  losing-stream i g k h e (inl q) n =
      let there : gs e.value ≡ true = rw q.1 g in
      is-named h e (eqb e.kind stream_class_found && gs e.value) (eqb e.kind event_class_found && ge h e.value)
      (inl (rw (eq-eqb e.kind stream_class_found q.0) there)) n
  losing-stream i g k h e (inr q) n = losing-event i e.value (k e.value) h e (q.0, q.1, refl) n

-- how many entries each reading lists
abbrev pub counts_of : List Reading → List ℕ
counts_of rs = map (λ (r : Reading). length r.entries) rs

module _ (ts : ℕ → Bool) (te : ℕ → ℕ → Bool) (y : List ℕ) (good : Good y) {P : ℕ → Entry → Type 0}
    (f : Losing (gone_stream ts) (gone_event ts te) P) where
  one-other : (b : List ℕ) (room : ℕ) → Lists P 0 (read_all y b room).entries
      → length (read_all (leave ts te y) b room).entries ≡ length (read_all y b room).entries → ⊥
  unfolding missed
  one-other b room q n =
      let h = loses (gone_stream ts) (gone_event ts te) f 0 (read_all y b room).entries q in
      let c = ap length ((demand-3 ts te y good b room).cut h.l h.is).0 in
      omega (arith, c, n, h.inside, length-take h.l.index (read_all y b room).entries)

  pub other : (bs ls : List (List ℕ)) → SomeLists P (entries_of (readings y bs ls))
      → counts_of (readings (leave ts te y) bs ls) ≡ counts_of (readings y bs ls) → ⊥
  unfolding readings
  other [] ls q n = q
  other (b ∷ bs) [] (inl q) n = one-other b 0 q cc
  other (b ∷ bs) [] (inr q) n = other bs [] q cc
  other (b ∷ bs) (l ∷ ls) (inl q) n = one-other b (length l) q cc
  other (b ∷ bs) (l ∷ ls) (inr q) n = other bs ls q cc

-- The bundle cut further

-- ks and ke say just what the readings by x find, and what stays of x is y
module _ (x : List ℕ) (good : Good x) (bs ls : List (List ℕ)) (ks : ℕ → Bool) (ke : ℕ → ℕ → Bool)
    (found : JustFound ks ke (entries_of (readings x bs ls))) where
  abbrev y : List ℕ
  y = leave ks ke x

  abbrev rs : List Reading
  rs = readings x bs ls

  pub cut-accepted : Good y
  cut-accepted = (demand-3 ks ke x good [] 0).accepted

  pub cut-alike : readings y bs ls ≡ rs
  cut-alike = all_alike ks ke x good bs ls (record { streams = λ i q. (found.streams i).1 q; events = λ i j q. (found.events i j).1 q })

  -- what some reading by x finds, where a class of it is left out of y
  module _ (ts : ℕ → Bool) (te : ℕ → ℕ → Bool) (n : counts_of (readings (leave ts te y) bs ls) ≡ counts_of rs) where
    not_found : {P : ℕ → Entry → Type 0} → Losing (gone_stream ts) (gone_event ts te) P → SomeLists P (entries_of rs) → ⊥
    not_found {P} f q =
        other ts te y cut-accepted f bs ls (subst (λ z. SomeLists P (entries_of z)) (sym cut-alike) q) (n ∙ ap counts_of (sym cut-alike))

    event-stays : (i j : ℕ) → ke i j ≡ true → both ts te i j ≡ true
    event-stays i j k = by (both ts te i j) refl
      where
        by : (b : Bool) → both ts te i j ≡ b → b ≡ true
        by true e = refl
        by false e = absurd (not_found (losing-event _ _ i j (unfold gone_event in ap not e)) ((found.events i j).0 k))

    stream-stays : (i : ℕ) → ks i ≡ true → ts i ≡ true
    stream-stays i k = by (ts i) refl
      where
        by : (b : Bool) → ts i ≡ b → b ≡ true
        by true e = refl
        by false e =
            let gone : (j : ℕ) → gone_event ts te i j ≡ true = λ j. unfold gone_event both in ap (λ b. not (b && te i j)) e in
            absurd (not_found (losing-stream _ _ i (unfold gone_stream in ap not e) gone) ((found.streams i).0 k))

    pub cut-no-further : leave ts te y ≡ y
    cut-no-further = leave-again ks ke ts te (record {
      streams = stream-stays;
      events = λ i j k. event-stays i j (unfold both in and_right (ks i) (ke i j) k);
    }) x

  -- a class that was left out does not stay
  pub cut-event-needed : (i j : ℕ) → ke i j ≡ true → counts_of (readings (leave any_stream (but_event i j) y) bs ls) ≡ counts_of rs → ⊥
  unfolding both
  cut-event-needed i j k n =
      let s : but_event i j i j ≡ true = event-stays any_stream (but_event i j) n i j k in
      clash (rw (eq-eqb i i refl, eq-eqb j j refl) at s)

  pub cut-stream-needed : (i : ℕ) → ks i ≡ true → counts_of (readings (leave (but_stream i) any_event y) bs ls) ≡ counts_of rs → ⊥
  cut-stream-needed i k n =
      let s : but_stream i i ≡ true = stream-stays (but_stream i) any_event n i k in
      clash (rw (eq-eqb i i refl) at s)

pub smallest-bundle : SmallestBundle
unfolding bundle_of
smallest-bundle x good bs ls =
    let found = just-found (readings x bs ls) in
    record {
      ks = stream_listed (readings x bs ls);
      ke = event_listed (readings x bs ls);
      kept = refl;
      found = found;
      accepted = cut-accepted x good bs ls _ _ found;
      alike = cut-alike x good bs ls _ _ found;
      event-needed = λ i j k n. cut-event-needed x good bs ls _ _ found i j k (ap counts_of n);
      stream-needed = λ i k n. cut-stream-needed x good bs ls _ _ found i k (ap counts_of n);
      none-further = λ ts te n. cut-no-further x good bs ls _ _ found ts te (ap counts_of n);
    }
