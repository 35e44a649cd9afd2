-- A loop that puts runs off: a field that cannot be opened in its run is opened in one of its own, and the rest of its run goes onto a
-- pile, of which the latest comes back when a run is over. In order: a loop with something else behind it; a field in a run of its own;
-- the pile.
use mathlib.Core.Path.{◌≡◌, refl, ap, sym, subst, ◌∙◌}
use mathlib.Core.List.{List}
use mathlib.Core.Bool.{Bool, true, false}
use mathlib.Core.Logic.{◌⊎◌, inl, inr}
use Prim.Native.Nat.{ℕ, zero, suc, ◌+◌, ◌-◌, ◌≤◌, ◌<◌}
use native.Mathlib.Omega.{arith}
use native.Mathlib.Numerals.{add-one}
use lib.ListN.{length, get_or, set}
use lib.Seq.{get_or-set_same, get_or-set_other}
use Rattle.rules.specs.declared.BitPlace.{BitPlace}
use Rattle.rules.specs.declared.Content.{Content}
use Rattle.rules.specs.Limits.{words_per_entry}
use Rattle.rules.specs.Verdict.{stop_at}
use Rattle.rules.specs.Slots.{Slots}
use Rattle.rules.specs.Entry.{entry}
use Rattle.rules.specs.Record.{u8}
use Rattle.rules.specs.Class.{sets}
use Rattle.rules.specs.Step.{Step, ◌⨾◌, listed}
use Rattle.rules.specs.Field.{read}
use Rattle.facts.proofs.Numbers.{lt-or-ge}
use Rattle.facts.proofs.Truth.{clash}
use Rattle.class_layout.specs.Numbers.{number_at}
use Rattle.class_layout.specs.Notes.{number_noted}
use Rattle.class_layout.specs.Trees.{class_at}
use Rattle.listing.specs.declared.Progress.{Progress}
use Rattle.listing.specs.Did.{full}
use Rattle.listing.proofs.Parts.{Part, lent, merged}
use Rattle.field_inside.specs.declared.look.Inside.{Inside}
use Rattle.field_inside.specs.declared.look.Inside.TheVariants.{Members, Elements, Refused}
use Rattle.field_inside.specs.declared.opening.Opened.{Opened}
use Rattle.field_inside.specs.Opening.{opened_as, forgets_at, list_opened, went_in, list_holder}
use Rattle.field_runs.specs.declared.Run.{Run}
use Rattle.field_runs.specs.Run.{run, over, behind_run, alone_run}
use Rattle.field_runs.specs.Ahead.{ahead, WholeRun, Forgets}
use Rattle.field_runs.proofs.Ahead.{held_read, alone-reads, alone-stands, instead}
use Rattle.field_read.specs.Reads.{state_at}
use Rattle.field_read.proofs.Noted.{around-noted}
use Rattle.field_read.proofs.Round.{Loop, env, left, Round, Stops, round-over, Holder, inside_here, holder-part, rest-stands}
use Rattle.field_read.proofs.Round.{opened_list, number-noted, Told, members-told, elements-told, entry-put, open-same, open-stops}
use Rattle.field_read.proofs.Round.{open-few}

-- The same loop with something else behind its run

abbrev pub with_behind : Loop → Step → Loop
with_behind w m = record {
  stream = w.stream;
  uuid = w.uuid;
  frame = w.frame;
  depths = w.depths;
  table = w.table;
  notes = w.notes;
  all = w.all;
  behind = m;
  list = w.list;
}

-- what is left of a run comes behind
abbrev pub apart_from : Loop → Run → Loop
apart_from w r = with_behind w (left w r)

-- A field that is opened in a run of its own, whatever its run has put off

pub record ApartRound (w : Loop) (r : Run) (ws : List ℕ) (used : ℕ) (st : Progress) (l : Slots) (o : Opened) (ys : List ℕ) : Type 0 where
  pub same : length (merged used ws ys) ≡ length w.list
  pub few : o.elements ≡ false → o.count ≤ length w.table
  pub rest-stands : WholeRun w.depths w.table (behind_run r w.notes.sizes r.next (r.todo - 1))
  pub stops : o.on ≡ false → Stops w (stop_at o.why o.place) used (merged used ws ys)
  pub goes : o.on ≡ true → Round (apart_from w (behind_run r w.notes.sizes r.next (r.todo - 1)))
      (alone_run o.from o.count o.elements o.forgets) (merged used ws ys) (used + words_per_entry)
      (state_at o.place st.order st) l

module _ {w : Loop} {r : Run} {ws : List ℕ} {used : ℕ} {st : Progress} {l : Slots} {c : Content} (h : Holder w r ws used st l c) where
  abbrev rest : Run
  rest = behind_run r w.notes.sizes r.next (r.todo - 1)

  told-round : {p : BitPlace} {v from n : ℕ} {elements : Bool} (f : ℕ) → Told h p v from n elements
      → (elements ≡ true → Forgets n f (sets (class_at w.depths w.table from)))
      → Round (apart_from w rest) (alone_run from n elements f)
      (merged used ws (list_holder (u8 w.table r.next) p v (number_at w.table r.next) (lent used ws)))
      (used + words_per_entry) (state_at p st.order st) l
  told-round {p} {v} {from} {n} {elements} f q right =
      let d = w.depths in
      let t = w.table in
      let this = read (env w) (number_at t r.next) (class_at d t r.next) in
      let m = listed (entry (u8 t r.next) p 0 v (number_at t r.next)) p in
      let alone = ahead d t (env w) (alone_run from n elements f) in
      let here = full st l (length w.list - used) in
      let reads = instead this m (held_read d t (env w) from n elements) (left w rest) here q.reads in
      record {
        stands = alone-stands d t from n elements f q.class right q.parts;
        noted = h.round.noted;
        framed = q.framed;
        many = h.round.many;
        part = entry-put h p v (this ⨾ left w rest) (alone ⨾ left w rest) (holder-part h)
            (reads ∙ ap (λ (x : Step). (m ⨾ (x ⨾ left w rest)) here) (sym (alone-reads d t (env w) from n elements f right)));
      }

  apart-goes : (i : Inside) → inside_here h ≡ i → (opened_as w.notes.aligns i).on ≡ true →
      let o = opened_as w.notes.aligns i in
      Round (apart_from w rest) (alone_run o.from o.count o.elements o.forgets)
      (merged used ws (opened_list w r i (lent used ws))) (used + words_per_entry) (state_at o.place st.order st) l
  unfolding opened_as went_in list_opened
  apart-goes (Members p v from n) e on = told-round 0 (members-told h e) (λ b. absurd (clash b))
  apart-goes (Elements p v from n) e on =
      let q = elements-told h e in
      told-round (forgets_at w.notes.aligns from n) q (λ b. around-noted _ _ w.notes h.round.noted from n (q.class b))
  apart-goes (Refused v) e on = absurd (clash on)

  pub apart-round : {o : Opened} {ys : List ℕ} → o ≡ opened_as w.notes.aligns (inside_here h)
      → ys ≡ list_opened (u8 w.table r.next) (number_noted w.notes.aligns r.next) (inside_here h) (lent used ws)
      → ApartRound w r ws used st l o ys
  apart-round e f = rw (e, f, number-noted h) record {
    same = open-same h (inside_here h);
    few = open-few h;
    rest-stands = rest-stands h;
    stops = open-stops h (inside_here h) refl;
    goes = apart-goes (inside_here h) refl;
  }

-- The pile: the first n of some runs were put off, the latest in front

abbrev pub no_run : Run
no_run = run 0 0 0 0 0 0 0

unfoldable pub pile_left : Loop → List Run → ℕ → Step
pile_left w p zero = w.behind
pile_left w p (suc n) = ahead w.depths w.table (env w) (get_or p n no_run) ⨾ pile_left w p n

abbrev pub piled : Loop → List Run → ℕ → Loop
piled w p n = with_behind w (pile_left w p n)

abbrev pub Standing : Loop → List Run → ℕ → Type 0
Standing w p n = (i : ℕ) → i < n → WholeRun w.depths w.table (get_or p i no_run)

-- none is put off
module _ {w : Loop} (p : List Run) {r : Run} {ws : List ℕ} {used : ℕ} {st : Progress} {l : Slots} where
  pub pile-start : Round w r ws used st l → Round (piled w p 0) r ws used st l
  unfolding pile_left
  pile-start q = record { stands = q.stands; noted = q.noted; framed = q.framed; many = q.many; part = q.part }

  pub pile-end : Round (piled w p 0) r ws used st l → Round w r ws used st l
  unfolding pile_left
  pile-end q = record { stands = q.stands; noted = q.noted; framed = q.framed; many = q.many; part = q.part }

pub none-standing : (w : Loop) (p : List Run) → Standing w p 0
none-standing w p i k = absurd (omega arith)

-- a place past those that were put off is set
pub piled-set : (w : Loop) (p : List Run) (n i : ℕ) (r : Run) → n ≤ i → pile_left w (set p i r) n ≡ pile_left w p n
unfolding pile_left
piled-set w p zero i r k = refl
piled-set w p (suc n) i r k = rw (get_or-set_other p i n r no_run (λ e. omega arith), piled-set w p n i r (omega arith)) refl

pile-push : (w : Loop) (p : List Run) (n : ℕ) (r : Run) → n < length p → pile_left w (set p n r) (n + 1) ≡ left (piled w p n) r
unfolding pile_left
pile-push w p n r k = rw (add-one n, pile_left, get_or-set_same p n r no_run k, piled-set w p n n r (omega arith)) refl

push-stands : (w : Loop) (p : List Run) (n : ℕ) (r : Run) → n < length p → Standing w p n → WholeRun w.depths w.table r
    → Standing w (set p n r) (n + 1)
push-stands w p n r k all one i small = by (lt-or-ge i n)
  where
    by : (i < n) ⊎ (n ≤ i) → WholeRun w.depths w.table (get_or (set p n r) i no_run)
    by (inl a) = rw (get_or-set_other p n i r no_run (λ e. omega arith)) (all i a)
    by (inr a) = let e : i ≡ n = omega arith in rw (e, get_or-set_same p n r no_run k) one

-- a run is put off
pub push-round : (w : Loop) (p : List Run) (n : ℕ) (rest : Run) {r : Run} {ws : List ℕ} {used : ℕ} {st : Progress} {l : Slots}
    → n < length p → Standing w p n → WholeRun w.depths w.table rest → Round (apart_from (piled w p n) rest) r ws used st l
    → Round (piled w (set p n rest) (n + 1)) r ws used st l × Standing w (set p n rest) (n + 1)
push-round w p n rest {r} {ws} {used} {st} {l} k all one q = (
  subst (λ (m : Step). Round (with_behind w m) r ws used st l) (sym (pile-push w p n rest k)) q,
  push-stands w p n rest k all one,
)

pile-pop : (w : Loop) (p : List Run) (n : ℕ) → 0 < n → pile_left w p n ≡ left (piled w p (n - 1)) (get_or p (n - 1) no_run)
unfolding pile_left
pile-pop w p zero k = absurd (omega arith)
pile-pop w p (suc n) k = let less : suc n - 1 ≡ n = omega arith in rw less refl

-- the latest comes back
pub pop-round : (w : Loop) (p : List Run) (n : ℕ) {r : Run} {ws : List ℕ} {used : ℕ} {st : Progress} {l : Slots} → 0 < n → Standing w p n
    → Round (piled w p n) r ws used st l → over r ≡ true
    → Round (piled w p (n - 1)) (get_or p (n - 1) no_run) ws used st l × Standing w p (n - 1)
pop-round w p n {r} {ws} {used} {st} {l} k all q e = (
  record {
    stands = all (n - 1) (omega arith);
    noted = q.noted;
    framed = q.framed;
    many = q.many;
    part = subst (λ (m : Step). Part w.all m w.list ws used st l) (pile-pop w p n k) (round-over q e);
  },
  λ i small. all i (omega arith),
)
