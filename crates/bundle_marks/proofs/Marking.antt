-- What `mark` does. In order: a place that is found can be marked; by one entry; the entries that are left.
use Rattle.std.specs.Prelude.{Option, None, Some}
use mathlib.Core.Path.{◌≡◌, refl, sym, ap, ◌∙◌}
use Prim.Native.Nat.{ℕ, zero, suc, ◌+◌, ◌-◌, ◌*◌, ◌≤◌, ◌<◌}
use native.Mathlib.Nat.{add-zero}
use native.Mathlib.Omega.{arith}
use mathlib.Core.List.{List}
use mathlib.Core.Bool.{Bool}
use lib.ListN.{length, get_or, drop, set}
use lib.Seq.{get_or-drop, drop-drop}
use borrow.Author.Tests.{eq-eqb, ne_eqb}
use Rattle.rules.specs.Limits.{table_limit, words_per_entry}
use Rattle.rules.specs.Entry.{stream_class_found, event_class_found}
use Rattle.rules.specs.Bundle.{under}
use Rattle.class_layout.specs.Fragments.{is_stream, is_event, first_of, fragments_of, find_event_at}
use Rattle.class_layout.specs.Sizes.{SizedFragment, Sized}
use Rattle.class_layout.proofs.Lookups.{first_holds}
use Rattle.bundle_marks.specs.declared.Front.{Front}
use Rattle.bundle_marks.specs.Marked.{entries_of, stream_place, event_place, front_of, Below, mark_at, next_front, mark_one, mark_list}

-- Places

pub place-below : (n o : ℕ) {p : Option ℕ} → p ≡ Some o → Below n p → o < n
unfolding Below
place-below n o e h = rw e at h

pub marked-at : (m : List ℕ) (o : ℕ) {p : Option ℕ} → p ≡ Some o → set m o 1 ≡ mark_at p m
unfolding mark_at
marked-at m o e = rw e refl

pub marked-nowhere : (m : List ℕ) {p : Option ℕ} → p ≡ None → m ≡ mark_at p m
unfolding mark_at
marked-nowhere m e = rw e refl

module _ {t s : List ℕ} (h : Sized t s) (n : ℕ) (l : table_limit ≤ n) where
  found_below : (f : ℕ → Bool) → Below n (first_of f (fragments_of t))
  found_below f = by (first_of f (fragments_of t)) refl
    where
      by : (x : Option ℕ) → first_of f (fragments_of t) ≡ x → Below n x
      by None e = unfold Below in tt
      by (Some o) e =
          unfold Below in
          let k = (first_holds (SizedFragment t s) f (fragments_of t) o e h.each).1.stands in
          omega (arith, k.onward, k.within, h.limit)

  pub stream-below : {p : Option ℕ} (i : ℕ) → p ≡ stream_place t i → Below n p
  unfolding stream_place
  stream-below {p} i e = rw e (found_below (is_stream t i))

  pub event-below : {p : Option ℕ} (i j : ℕ) → p ≡ find_event_at t (fragments_of t) i j → Below n p
  event-below {p} i j e = rw e (found_below (is_event t i j))

-- The stream class in front

module _ (t : List ℕ) (i : ℕ) {f : Front} (e : f ≡ front_of t i) where
  pub front-id : f.id ≡ i
  unfolding front_of
  front-id = ap (λ f. f.id) e

  pub front-place : f.place ≡ stream_place t i
  unfolding front_of
  front-place = ap (λ f. f.place) e

  own-place : f.place ≡ stream_place t f.id
  own-place = front-place ∙ ap (stream_place t) (sym front-id)

pub as-front : (t : List ℕ) (f : Front) → f.place ≡ stream_place t f.id → f ≡ front_of t f.id
unfolding front_of
as-front t f e = ap (λ p. record { id = f.id; place = p }) e

-- By one entry

-- which stream class is in front behind an entry, and the marks
abbrev pub One : List ℕ → ℕ → ℕ → ℕ → List ℕ → Front → List ℕ → Type 0
One t i k v m f m' = (f ≡ front_of t (next_front i k v)) × (m' ≡ mark_one t i k v m)

module _ (t m : List ℕ) (k v : ℕ) {f : Front} where
  pub stream-named : {m' : List ℕ} (i : ℕ) → k ≡ stream_class_found → f ≡ front_of t v → m' ≡ mark_at f.place m → One t i k v m f m'
  unfolding next_front mark_one
  stream-named i e w h =
      let b = eq-eqb k stream_class_found e in (rw (b, next_front) w, rw (b, mark_one) (h ∙ ap (λ p. mark_at p m) (front-place t v w)))

  module _ (n : k ≡ stream_class_found → ⊥) (w : f.place ≡ stream_place t f.id) where
    still : f ≡ front_of t (next_front f.id k v)
    unfolding next_front
    still = rw (ne_eqb k stream_class_found n, next_front) (as-front t f w)

    pub event-named : {p : Option ℕ} {x m' : List ℕ} → k ≡ event_class_found → p ≡ find_event_at t (fragments_of t) f.id v
        → x ≡ mark_at p m → m' ≡ mark_at f.place x → One t f.id k v m f m'
    unfolding mark_one event_place
    event-named e q h g =
        (still, rw (ne_eqb k stream_class_found n, eq-eqb k event_class_found e, mark_one) (g ∙ rw (h, q, w) refl))

    pub none_named : (k ≡ event_class_found → ⊥) → One t f.id k v m f m
    unfolding mark_one
    none_named e = (still, rw (ne_eqb k stream_class_found n, ne_eqb k event_class_found e, mark_one) refl)

-- The entries that are left

list-step : (t ws : List ℕ) (i left : ℕ) (m : List ℕ)
    → let k = get_or ws 0 0 in
    let v = get_or ws 3 0 in
    mark_list t i (entries_of (suc left) ws) m ≡ mark_list t (next_front i k v) (entries_of left (drop words_per_entry ws)) (mark_one t i k v m)
unfolding mark_list entries_of under next_front
list-step t ws i left m = refl

-- n entries were to be marked by, over the marks m₀; the last of them are left, from the word at on
pub record Marking (t ws m₀ : List ℕ) (n : ℕ) (m : List ℕ) (f : Front) (at left : ℕ) : Type 0 where
  pub front : f.place ≡ stream_place t f.id
  pub words : at + words_per_entry * left ≡ words_per_entry * n
  pub kept : length m ≡ length m₀
  pub same : mark_list t 0 (entries_of n ws) m₀ ≡ mark_list t f.id (entries_of left (drop at ws)) m

module _ {t ws m₀ : List ℕ} {n : ℕ} where
  pub mark-start : {f : Front} → f ≡ front_of t 0 → Marking t ws m₀ n m₀ f 0 n
  mark-start {f} e = record { front = own-place t 0 e; words = omega arith; kept = refl; same = rw (front-id t 0 e) refl }

  pub mark-next : {m m' : List ℕ} {f f' : Front} {at left : ℕ} → Marking t ws m₀ n m f at left → 0 < left
      → One t f.id (get_or ws at 0) (get_or ws (at + 3) 0) m f' m' → length m' ≡ length m
      → Marking t ws m₀ n m' f' (at + words_per_entry) (left - 1)
  mark-next {m} {m'} {f} {f'} {at} {left} h k d l = record {
    front = own-place t _ d.0;
    words = omega (arith, h.words);
    kept = l ∙ h.kept;
    same = h.same ∙ by left k (front-id t _ d.0);
  }
    where
      by : (left : ℕ) → 0 < left → f'.id ≡ next_front f.id (get_or ws at 0) (get_or ws (at + 3) 0)
          → mark_list t f.id (entries_of left (drop at ws)) m
          ≡ mark_list t f'.id (entries_of (left - 1) (drop (at + words_per_entry) ws)) m'
      by zero k i = absurd (omega arith)
      by (suc left) k i =
          let a : get_or (drop at ws) 0 0 ≡ get_or ws at 0 = get_or-drop at ws 0 0 ∙ rw add-zero in
          let b : suc left - 1 ≡ left = omega arith in
          list-step t (drop at ws) f.id left m ∙ rw (a, get_or-drop at ws 3 0, drop-drop words_per_entry at ws, ← i, ← d.1, b) refl

  pub mark-end : {m : List ℕ} {f : Front} {at left : ℕ} → Marking t ws m₀ n m f at left → left ≤ 0
      → m ≡ mark_list t 0 (entries_of n ws) m₀
  unfolding mark_list entries_of
  mark-end {m} {f} {at} {left} h k = let z : left ≡ 0 = omega arith in sym (h.same ∙ rw z refl)
