-- Readers that are no good fail on the figure's table and stream: by computation. Those that make up a count fail wherever they do.
use Rattle.std.specs.Prelude.{None}
use mathlib.Core.Path.{◌≡◌, refl, sym, ap, subst, ◌∙◌}
use mathlib.Core.Logic.{◌⊎◌, inl, inr}
use Prim.Native.Nat.{ℕ, ◌*◌}
use native.Mathlib.Omega.{arith}
use mathlib.Core.List.{List, [], ◌∷◌}
use mathlib.Core.Bool.{not, true}
use lib.ListN.{length, get_or, drop, replicate}
use lib.Seq.{get_or-drop}
use lib.Dec.{eqb}
use Rattle.rules.specs.Limits.{words_per_entry}
use Rattle.rules.specs.Verdict.{number_of}
use Rattle.rules.specs.Table.{Table}
use Rattle.rules.specs.Parse.{Parsed, bad, good, parse}
use Rattle.rules.specs.Read.{read_stream, read_all, result_of, list_after}
use Rattle.rules.specs.Opened.{opened}
use Rattle.promises.specs.Figures.{table40, stream1}
use Rattle.promises.specs.Cases.{numbered}
use Rattle.rules.specs.Edition.{both}
use Rattle.rules.specs.Bundle.{under}
use Rattle.promises.specs.Edition.{keep, keep_streams, keep_events}
use Rattle.promises.specs.Missing.{missed, shortened, gone_stream, gone_event, first_lost, lost, front, later}
use Rattle.promises.specs.Rejected.{Reader, Meets, Refusing, Fixed, Silent, AtOnce, WholeOrNone}
use Rattle.promises.specs.Rejected.{shown, MadeUpEntries, Counting, MadeUpEvents, Demand3By, nearest_event, nearest, Rejected}
use Rattle.promises.proofs.Exact.{left_out}
use Rattle.promises.proofs.Calls.{lists-entries}
use Rattle.promises.proofs.Counted.{reading-counts, reading-shown}

-- lists of 40 words and of 39
abbrev zeros : ℕ → List ℕ
zeros n = replicate n 0

-- the figure's result, and words of its list
accepts : (result_of (read_all table40 stream1 40)).number ≡ 0
unfolding opened
accepts = refl

entries-40 : (result_of (read_all table40 stream1 40)).entries ≡ 8
unfolding opened
entries-40 = refl

entries-39 : (result_of (read_all table40 stream1 39)).entries ≡ 7
unfolding opened
entries-39 = refl

word : ℕ → ℕ → ℕ
word v i = get_or (list_after (read_all table40 (v ∷ []) 40) (zeros 40)) i 0

first_kind : word 42 0 ≡ 1
unfolding opened word
first_kind = refl

first-place : word 42 1 ≡ 0
unfolding opened word
first-place = refl

last-place : word 42 36 ≡ 8
unfolding opened word
last-place = refl

value-42 : word 42 33 ≡ 42
unfolding opened word
value-42 = refl

value-43 : word 43 33 ≡ 43
unfolding opened word
value-43 = refl

module _ (f : Reader) (m : Meets f) where
  result-of : (n : ℕ) → length (zeros n) ≡ n → (f table40 stream1 (zeros n)).0 ≡ result_of (read_all table40 stream1 n)
  result-of n h = (m table40 stream1 (zeros n)).result ∙ ap (λ z. result_of (read_all table40 stream1 z)) h

  word-of : (v i : ℕ) → get_or (f table40 (v ∷ []) (zeros 40)).1 i 0 ≡ word v i
  unfolding word
  word-of v i = ap (λ l. get_or l i 0) (m table40 (v ∷ []) (zeros 40)).list

  eight : (f table40 stream1 (zeros 40)).0.entries ≡ 8
  eight = ap (λ r. r.entries) (result-of 40 refl) ∙ entries-40

  seven-39 : (f table40 stream1 (zeros 39)).0.entries ≡ 7
  seven-39 = ap (λ r. r.entries) (result-of 39 refl) ∙ entries-39

  no-refusing : Refusing f → ⊥
  no-refusing h = h table40 stream1 (zeros 40) (ap (λ r. r.number) (result-of 40 refl) ∙ accepts)

  no-fixed : Fixed f → ⊥
  no-fixed h =
      let p : ◌≡◌ {A = ℕ} 42 43 = sym (word-of 42 33 ∙ value-42)
      ∙ ap (λ l. get_or l 33 0) (h table40 table40 (42 ∷ []) (43 ∷ []) (zeros 40)) ∙ (word-of 43 33 ∙ value-43) in
      omega arith

  no-silent : Silent f → ⊥
  no-silent h = let p : ◌≡◌ {A = ℕ} 1 0 = sym (word-of 42 0 ∙ first_kind)
      ∙ ap (λ l. get_or l 0 0) (h table40 stream1 (zeros 40)) in omega arith

  no-at-once : AtOnce f → ⊥
  no-at-once h =
      let p : ◌≡◌ {A = ℕ} 8 0 = sym (word-of 42 36 ∙ last-place) ∙ h table40 (zeros 40) 42 7 (omega (arith, eight))
      ∙ (word-of 42 1 ∙ first-place) in
      omega arith

  no_whole : WholeOrNone f → ⊥
  no_whole h = by (h table40 (zeros 40) (zeros 39) 42 (omega arith))
    where
      by : ((f table40 stream1 (zeros 39)).0.entries
          ≡ (f table40 stream1 (zeros 40)).0.entries) ⊎ ((f table40 stream1 (zeros 39)).0.entries ≡ 0) → ⊥
      by (inl p) = let q = sym seven-39 ∙ p ∙ eight in omega arith
      by (inr p) = let q = sym seven-39 ∙ p in omega arith

  no-made-up-entries : (x b ws : List ℕ) → MadeUpEntries f x b ws → ⊥
  unfolding result_of list_after
  no-made-up-entries x b ws h =
      let n = words_per_entry * length (read_all x b (length ws)).entries in
      let z : get_or (drop n ws) 0 0 ≡ 0 = get_or-drop n ws 0 0 ∙ h.zeros _ in
      h.other (ap (λ a. a.entries) (m x b ws).result ∙ sym (reading-shown x b (length ws) _ z) ∙ ap shown (sym (m x b ws).list))

  no-made-up-events : (x b ws : List ℕ) → MadeUpEvents f x b ws → ⊥
  no-made-up-events x b ws h = h (subst (Counting 0) (sym (lists-entries x b _ (m x b ws))) (reading-counts x b (length ws)))

-- Event classes 0 and 2, and an event that says 1: the nearest is 2. Where that is left out, no entry names it, and yet the short reading is
-- refused

table_of : Parsed Table → Table
table_of (bad n x) = record { uuid = []; header = None; streams = []; events = [] }
table_of (good t x) = t

abbrev two : Table
two = table_of (parse numbered)

is-two : parse numbered ≡ good two []
unfolding opened table_of
is-two = refl

full-number : number_of (read_stream (nearest two) (1 ∷ []) 500).verdict ≡ 0
unfolding opened table_of nearest nearest_event
full-number = refl

full-missed : missed (λ i. true) (λ i j. not (eqb j 2)) (read_stream (nearest two) (1 ∷ []) 500).entries ≡ None
unfolding opened table_of nearest nearest_event missed gone_stream gone_event both first_lost lost front later under
full-missed = refl

short-number : number_of (read_stream (nearest (keep (λ i. true) (both (λ i. true) (λ i j. not (eqb j 2))) two)) (1 ∷ []) 500).verdict ≡ 37
unfolding opened table_of nearest nearest_event keep both keep_streams keep_events
short-number = refl

no-nearest : Demand3By nearest → ⊥
unfolding shortened
no-nearest h =
    let d = h (λ i. true) (λ i j. not (eqb j 2)) numbered two [] is-two (1 ∷ []) 500 in
    let e = d ∙ ap (λ o. shortened o (read_stream (nearest two) (1 ∷ []) 500)) full-missed in
    let p : ◌≡◌ {A = ℕ} 37 0 = sym short-number ∙ ap (λ r. number_of r.verdict) e ∙ full-number in
    omega arith

pub rejected : Rejected
unfolding missed
rejected = record {
  admitted = λ x b ws. record { result = refl; list = refl };
  refusing = λ f h m. no-refusing f m h;
  fixed = λ f h m. no-fixed f m h;
  silent = λ f h m. no-silent f m h;
  at_once = λ f h m. no-at-once f m h;
  whole-or-none = λ f h m. no_whole f m h;
  made-up-entries = λ f x b ws h m. no-made-up-entries f m x b ws h;
  made-up-events = λ f x b ws h m. no-made-up-events f m x b ws h;
  exact-id = λ ks ke x t y p b room. left_out ks ke t 0 b room;
  nearest-id = no-nearest;
}
