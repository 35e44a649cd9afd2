-- A reading lists only findings of classes that its table has. And demand 3 computed of the figure.
use Rattle.std.specs.Prelude.{Option, None, Some}
use mathlib.Core.Path.{◌≡◌, refl, sym, ap, ◌∙◌}
use mathlib.Core.Logic.{inl, inr}
use Prim.Native.Nat.{ℕ, suc, ◌<◌}
use native.Mathlib.Omega.{arith}
use mathlib.Core.List.{List, [], ◌∷◌, ◌++◌}
use mathlib.Core.Bool.{Bool, true, false, not}
use lib.ListN.{length, take, length-take}
use Rattle.rules.specs.declared.Entry.{Entry}
use Rattle.rules.specs.declared.Stop.{Stop}
use Rattle.rules.specs.Table.{StreamClass, EventClass, Asked}
use Rattle.rules.specs.Read.{read_stream}
use Rattle.rules.specs.Opened.{opened}
use Rattle.promises.specs.Missing.{gone_stream, gone_event, Lost, lost, later}
use Rattle.promises.specs.Missing.{front, first_lost, missed, shortened, Demand3Figures}
use Rattle.promises.proofs.Exact.{KeptOrGone, latest, Less, sim-stream}
use Rattle.rules.specs.Edition.{both, stays, part, leave_records, leave}
use Rattle.rules.specs.Bundle.{under}

some-some : {A : Type 0} (a b : A) → Some a ≡ Some b → a ≡ b
some-some a b h = cc

pub first-index : (gs : ℕ → Bool) (ge : ℕ → ℕ → Bool) (i : ℕ) (es : List Entry) (l : Lost) → first_lost gs ge i es ≡ Some l
    → l.index < length es
unfolding first_lost
first-index gs ge i [] l h = let z : ◌≡◌ {A = ℕ} 0 1 = cc in absurd (omega arith)
first-index gs ge i (e ∷ es) l h = by (lost gs ge i e) (first_lost gs ge (under i e) es) h (first-index gs ge (under i e) es)
  where
    by : (x : Option Stop) (y : Option Lost) → front gs ge x y ≡ Some l → ((m : Lost) → y ≡ Some m → m.index < length es)
        → l.index < suc (length es)
    by None None h r = unfold front later in let z : ◌≡◌ {A = ℕ} 0 1 = cc in absurd (omega arith)
    by None (Some m) h r =
        unfold front later in
        let p : suc m.index ≡ l.index = ap (λ o. o.index) (some-some _ l h) in
        let q : m.index < length es = r m refl in
        omega arith
    by (Some v) y h r =
        unfold front in
        let p : 0 ≡ l.index = ap (λ o. o.index) (some-some _ l h) in
        omega arith

-- what the search finds: the entry at the index, of which the refusal is, and no such entry before it
pub record FoundFirst (gs : ℕ → Bool) (ge : ℕ → ℕ → Bool) (i : ℕ) (es : List Entry) (l : Lost) : Type 0 where
  pub before : List Entry
  pub found : Entry
  pub others : List Entry
  pub split : es ≡ before ++ (found ∷ others)
  pub at : l.index ≡ length before
  pub clear : first_lost gs ge i before ≡ None
  pub is : lost gs ge (latest gs ge i before) found ≡ Some l.refusal

pub first_found : (gs : ℕ → Bool) (ge : ℕ → ℕ → Bool) (i : ℕ) (es : List Entry) (l : Lost) → first_lost gs ge i es ≡ Some l
    → FoundFirst gs ge i es l
unfolding first_lost
first_found gs ge i [] l h = let z : ◌≡◌ {A = ℕ} 0 1 = cc in absurd (omega arith)
first_found gs ge i (e ∷ es) l h =
    by (lost gs ge i e) refl (first_lost gs ge (under i e) es) h (first_found gs ge (under i e) es)
  where
    by : (x : Option Stop) → lost gs ge i e ≡ x → (y : Option Lost) → front gs ge x y ≡ Some l
        → ((m : Lost) → y ≡ Some m → FoundFirst gs ge (under i e) es m) → FoundFirst gs ge i (e ∷ es) l
    by None q None h r = unfold front later in let z : ◌≡◌ {A = ℕ} 0 1 = cc in absurd (omega arith)
    by None q (Some m) h r =
        unfold front later latest in
        let p : record { index = suc m.index; refusal = m.refusal } ≡ l = some-some _ l h in
        let f = r m refl in
        let a : m.index ≡ length f.before = f.at in
        let b : suc m.index ≡ l.index = ap (λ o. o.index) p in
        record {
          before = e ∷ f.before;
          found = f.found;
          others = f.others;
          split = ap (λ z. e ∷ z) f.split;
          at = omega arith;
          clear = rw (q, f.clear) refl;
          is = f.is ∙ ap (λ o. Some o.refusal) p;
        }
    by (Some v) q y h r =
        unfold front latest in
        let p : record { index = 0; refusal = v } ≡ l = some-some _ l h in
        record {
          before = [];
          found = e;
          others = es;
          split = refl;
          at = ap (λ o. o.index) (sym p);
          clear = refl;
          is = q ∙ ap (λ o. Some o.refusal) p;
        }

unfoldable pub has : {A : Type 0} → Option A → Bool
has None = false
has (Some a) = true

-- what a table does not have
abbrev pub no_stream : Asked → ℕ → Bool
no_stream t i = not (has (t.stream i))

abbrev pub no_event : Asked → ℕ → ℕ → Bool
no_event t i j = not (has (t.event i j))

module _ (t : Asked) (ids : (i : ℕ) (c : StreamClass) → t.stream i ≡ Some c → c.id ≡ i) where
  own : Less (no_stream t) (no_event t) t t.stream t.event
  own = record { ids = ids; streams = λ i. by-stream (t.stream i); events = λ i j. by-event (t.event i j) }
    where
      by-stream : (x : Option StreamClass) → KeptOrGone (not (has x)) x x
      by-stream None = inr (unfold has in ((λ c p. refl), refl))
      by-stream (Some c) = inl (unfold has in (refl, refl))

      by-event : (x : Option EventClass) → KeptOrGone (not (has x)) x x
      by-event None = inr (unfold has in ((λ c p. refl), refl))
      by-event (Some c) = inl (unfold has in (refl, refl))

  -- no entry 2 or 5 of a reading is of a class that the table does not have
  pub finds : (b : List ℕ) (room : ℕ) → first_lost (no_stream t) (no_event t) 0 (read_stream t b room).entries ≡ None
  finds b room = by _ refl (sim-stream (no_stream t) (no_event t) t t.stream t.event own b room)
    where
      by : (x : Option Lost) → first_lost (no_stream t) (no_event t) 0 (read_stream t b room).entries ≡ x
          → read_stream t b room ≡ shortened x (read_stream t b room) → x ≡ None
      by None p h = refl
      by (Some l) p h =
          unfold shortened in
          let q : (read_stream t b room).entries ≡ take l.index (read_stream t b room).entries = ap (λ r. r.entries) h in
          let a : length (read_stream t b room).entries ≡ length (take l.index (read_stream t b room).entries) = ap length q in
          let c : l.index < length (read_stream t b room).entries = first-index (no_stream t) (no_event t) 0 _ l p in
          absurd (omega (arith, length-take l.index (read_stream t b room).entries))

-- by computation
pub demand-3-figures : Demand3Figures
unfolding opened leave leave_records part stays missed gone_stream gone_event both first_lost lost front later under
demand-3-figures = record {
  event-bytes = refl;
  event-missed = refl;
  event-result = refl;
  stream-bytes = refl;
  stream-missed = refl;
  stream-result = refl;
  text-bytes = refl;
  text-missed = refl;
  text-result = refl;
  text_same = refl;
}
