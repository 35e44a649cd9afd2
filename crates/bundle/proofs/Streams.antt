-- The streams one by one. In order: a length that is cut to what is left; one stream's reading in front of the others; its list; the loop.
use mathlib.Core.Path.{◌≡◌, refl, sym, ap, ◌∙◌}
use Prim.Native.Nat.{ℕ, zero, suc, ◌+◌, ◌-◌, ◌*◌, ◌≤◌, ◌<◌, min}
use native.Mathlib.Omega.{arith}
use native.Mathlib.Numerals.{add-one}
use mathlib.Core.Logic.{◌⊎◌, inl, inr, ⊎_elim}
use mathlib.Core.List.{List, [], ◌∷◌, ◌++◌, append_assoc}
use lib.ListN.{length, get_or, take, drop, length-append, length-take, length-drop, take-append-drop, drop_of_length-le, get_or-eq_default}
use borrow.Rule.Slice.PartMut.{put_mid, same_len_mid}
use lib.Seq.{drop-cons, drop-drop, take_at, drop_at}
use Rattle.rules.specs.Limits.{words_per_entry}
use Rattle.rules.specs.Entry.{words}
use Rattle.rules.specs.declared.Report.{Report}
use Rattle.rules.specs.Read.{Reading, result_of, read_all, list_after}
use Rattle.rules.specs.Lists.{parts, behind_parts, readings, words_after}
use Rattle.rules.specs.Bundle.{bundle_readings}
use Rattle.facts.proofs.Numbers.{lt-or-ge}
use Rattle.facts.proofs.Lists.{length-words}
use Rattle.bundle_marks.specs.Marked.{entries_of, mark_list, mark_all}
use Rattle.bundle_marks.proofs.Entries.{entries-of-words}
use Rattle.bundle.specs.Did.{lists_read}

-- Lengths: "where a length promises more than is left, what is left"

take_all : (n : ℕ) (l : List ℕ) → length l ≤ n → take n l ≡ l
take_all zero [] h = refl
take_all zero (x ∷ l) h = absurd (omega arith)
take_all (suc n) [] h = refl
take_all (suc n) (x ∷ l) h = ap (λ z. x ∷ z) (take_all n l (omega arith))

module _ (n : ℕ) (l : List ℕ) where
  take_min : take (min n (length l)) l ≡ take n l
  take_min = ⊎_elim
      (λ (h : n < length l). let e : min n (length l) ≡ n = omega arith in ap (λ k. take k l) e)
      (λ (h : length l ≤ n).
      let e : min n (length l) ≡ length l = omega arith in
      ap (λ k. take k l) e ∙ take_all (length l) l (omega arith) ∙ sym (take_all n l h))
      (lt-or-ge n (length l))

  drop_min : drop (min n (length l)) l ≡ drop n l
  drop_min = ⊎_elim
      (λ (h : n < length l). let e : min n (length l) ≡ n = omega arith in ap (λ k. drop k l) e)
      (λ (h : length l ≤ n).
      let e : min n (length l) ≡ length l = omega arith in
      ap (λ k. drop k l) e ∙ drop_of_length-le l {i = length l} (omega arith) ∙ sym (drop_of_length-le l {i = n} h))
      (lt-or-ge n (length l))

-- a part that is lent from a byte or a word on, as long as a length x says, and what is behind it
module _ (x : ℕ) (l : List ℕ) (at k : ℕ) (e : k ≡ min x (length l - at)) where
  part-size : at + k - at ≡ min x (length (drop at l))
  part-size = omega (arith, length-drop at l)

  part-is : take (at + k - at) (drop at l) ≡ take x (drop at l)
  part-is = ap (λ j. take j (drop at l)) part-size ∙ take_min x (drop at l)

  part-behind : drop (at + k - at) (drop at l) ≡ drop x (drop at l)
  part-behind = ap (λ j. drop j (drop at l)) part-size ∙ drop_min x (drop at l)

  rest-is : drop (at + k) l ≡ drop x (drop at l)
  rest-is =
      let a : k ≡ at + k - at = omega arith in
      sym (drop-drop k at l) ∙ ap (λ j. drop j (drop at l)) a ∙ part-behind

-- Readings

-- a list of rooms from one on: the first, and those behind it; no room is a room of 0
abbrev Ahead : ℕ → List ℕ → List ℕ → Type 0
Ahead y ms ms' = (ms ≡ y ∷ ms') ⊎ ((ms ≡ []) × (y ≡ 0) × (ms' ≡ []))

ahead : (ns : List ℕ) (i : ℕ) → Ahead (get_or ns i 0) (drop i ns) (drop (i + 1) ns)
ahead ns i = ⊎_elim
    (λ (h : i < length ns). inl (rw (add-one) (drop-cons ns i 0 h)))
    (λ (h : length ns ≤ i).
    inr (drop_of_length-le ns {i = i} h, get_or-eq_default ns 0 {n = i} h, drop_of_length-le ns {i = i + 1} (omega arith)))
    (lt-or-ge i (length ns))

module _ (t : List ℕ) where
  -- with x the length of the first stream, and y the room of its list
  readings-one : (x y : ℕ) (ns ms ms' b ws : List ℕ) → Ahead y ms ms'
      → bundle_readings t b (x ∷ ns) ms ws
      ≡ read_all t (take x b) (length (take y ws)) ∷ bundle_readings t (drop x b) ns ms' (drop y ws)
  unfolding parts readings
  readings-one x y ns ms ms' b ws (inl e) = rw e refl
  readings-one x y ns ms ms' b ws (inr e) = rw (e.0, e.1, e.2) refl

-- Lists

lists-none : (ms ws : List ℕ) → lists_read [] ms ws ≡ ws
unfolding parts words_after behind_parts
lists-none [] ws = refl
lists-none (m ∷ ms) ws =
    append_assoc (take m ws) (words_after [] (parts ms (drop m ws))) (behind_parts ms (drop m ws))
    ∙ ap (λ l. take m ws ++ l) (lists-none ms (drop m ws)) ∙ take-append-drop m ws

empty_of : (l : List ℕ) → length l ≡ 0 → l ≡ []
empty_of [] h = refl
empty_of (x ∷ l) h = absurd (omega arith)

lists-one : (r : Reading) (rs : List Reading) (y : ℕ) (ms ms' ws : List ℕ) → Ahead y ms ms'
    → length (list_after r (take y ws)) ≡ length (take y ws)
    → lists_read (r ∷ rs) ms ws ≡ list_after r (take y ws) ++ lists_read rs ms' (drop y ws)
unfolding parts words_after behind_parts
lists-one r rs y ms ms' ws (inl e) k =
    rw e (append_assoc (list_after r (take y ws)) (words_after rs (parts ms' (drop y ws))) (behind_parts ms' (drop y ws)))
lists-one r rs y ms ms' ws (inr e) k =
    rw (e.0, e.2, e.1) (rw (empty_of (list_after r []) (rw e.1 at k)) refl)

-- A list that a reading was written into

module _ (x : Reading) (ws : List ℕ) {r : Report} {ws' : List ℕ} (e : r ≡ result_of x) (w : ws' ≡ list_after x ws) where
  count : r.entries ≡ length x.entries
  unfolding result_of
  count = ap (λ r. r.entries) e

  -- its entries have room in it
  pub read-room : length ws' ≡ length ws → words_per_entry * r.entries ≤ length ws'
  unfolding list_after
  read-room k =
      let a = length-append (words x.entries) (drop (words_per_entry * length x.entries) ws) in
      omega (arith, count, ap length w, a, length-words x.entries)

  -- and are what it begins with
  pub read-entries : entries_of r.entries ws' ≡ x.entries
  unfolding list_after
  read-entries = rw (count, w) (entries-of-words x.entries _)

-- One round: the ith stream of the lengths ns and the rooms ms, the first in b, with the first list in ws

module _ (t b ns ms ws : List ℕ) (i : ℕ) (l : i < length ns) where
  abbrev first : Reading
  first = read_all t (take (get_or ns i 0) b) (length (take (get_or ms i 0) ws))

  abbrev others : List Reading
  others = bundle_readings t (drop (get_or ns i 0) b) (drop (i + 1) ns) (drop (i + 1) ms) (drop (get_or ms i 0) ws)

  round-readings : bundle_readings t b (drop i ns) (drop i ms) ws ≡ first ∷ others
  round-readings =
      let a : drop i ns ≡ get_or ns i 0 ∷ drop (i + 1) ns = rw add-one (drop-cons ns i 0 l) in
      ap (λ z. bundle_readings t b z (drop i ms) ws) a
      ∙ readings-one t (get_or ns i 0) (get_or ms i 0) (drop (i + 1) ns) (drop i ms) (drop (i + 1) ms) b ws (ahead ms i)

  round-lists : length (list_after first (take (get_or ms i 0) ws)) ≡ length (take (get_or ms i 0) ws)
      → lists_read (bundle_readings t b (drop i ns) (drop i ms) ws) (drop i ms) ws
      ≡ list_after first (take (get_or ms i 0) ws) ++ lists_read others (drop (i + 1) ms) (drop (get_or ms i 0) ws)
  round-lists k =
      ap (λ rs. lists_read rs (drop i ms) ws) round-readings
      ∙ lists-one first others (get_or ms i 0) (drop i ms) (drop (i + 1) ms) ws (ahead ms i) k

  round-marks : (m : List ℕ)
      → mark_all t (bundle_readings t b (drop i ns) (drop i ms) ws) m ≡ mark_all t others (mark_list t 0 first.entries m)
  unfolding mark_all
  round-marks m = ap (λ rs. mark_all t rs m) round-readings

-- The loop

-- the readings of all streams b, of which the lists had the words ws₀ and the marks were m₀, are those of the streams from the ith on:
-- these begin at the byte from, their lists at the word at of ws, and m are the marks so far
pub record Going (t b ns ms ws₀ m₀ : List ℕ) (i from at : ℕ) (ws m : List ℕ) : Type 0 where
  pub here : from ≤ length b
  pub there : at ≤ length ws
  pub kept : length ws ≡ length ws₀
  pub marked : length m ≡ length m₀
  pub lists : lists_read (bundle_readings t b ns ms ws₀) ms ws₀
      ≡ take at ws ++ lists_read (bundle_readings t (drop from b) (drop i ns) (drop i ms) (drop at ws)) (drop i ms) (drop at ws)
  pub marks : mark_all t (bundle_readings t b ns ms ws₀) m₀
      ≡ mark_all t (bundle_readings t (drop from b) (drop i ns) (drop i ms) (drop at ws)) m

pub going_start : (t b ns ms ws m : List ℕ) → Going t b ns ms ws m 0 0 0 ws m
going_start t b ns ms ws m = record { here = omega arith; there = omega arith; kept = refl; marked = refl; lists = refl; marks = refl }

module _ {t b ns ms ws₀ m₀ : List ℕ} {i from at : ℕ} {ws m : List ℕ} (h : Going t b ns ms ws₀ m₀ i from at ws m) where
  -- of one stream more, whose part and whose list are lent, ys in the list and m' the marks afterwards
  pub going_next : {n k : ℕ} {ys m' : List ℕ} → i < length ns → n ≡ min (get_or ns i 0) (length b - from)
      → k ≡ min (get_or ms i 0) (length ws - at)
      → let part = take (at + k - at) (drop at ws) in
      let r = read_all t (take (from + n - from) (drop from b)) (length part) in
      (ys ≡ list_after r part) × (m' ≡ mark_list t 0 r.entries m) → length ys ≡ length part → length m' ≡ length m
      → Going t b ns ms ws₀ m₀ (i + 1) (from + n) (at + k) (put_mid at (at + k - at) ws ys) m'
  going_next {n} {k} {ys} {m'} l en ek e same same' =
      let x = get_or ns i 0 in
      let y = get_or ms i 0 in
      let part = take y (drop at ws) in
      let r = read_all t (take x (drop from b)) (length part) in
      let pb = part-is x b from n en in
      let pw = part-is y ws at k ek in
      let ys₁ : ys ≡ list_after r part = rw (pb, pw) at e.0 in
      let m₁ : m' ≡ mark_list t 0 r.entries m = rw (pb, pw) at e.1 in
      let same₁ : length (list_after r part) ≡ length part = rw (ys₁, pw) at same in
      let long : length (take at ws ++ ys) ≡ at + k =
      omega (
        arith,
        length-append (take at ws) ys,
        length-take at ws,
        h.there,
        same,
        length-take (at + k - at) (drop at ws),
        length-drop at ws,
      ) in
      let all = append_assoc (take at ws) ys (drop (at + k - at) (drop at ws)) in
      let front : take (at + k) (put_mid at (at + k - at) ws ys) ≡ take at ws ++ list_after r part =
      ap (take (at + k)) (sym all) ∙ take_at (take at ws ++ ys) _ (at + k) long ∙ ap (λ z. take at ws ++ z) ys₁ in
      let back : drop (at + k) (put_mid at (at + k - at) ws ys) ≡ drop y (drop at ws) =
      ap (drop (at + k)) (sym all) ∙ drop_at (take at ws ++ ys) _ (at + k) long ∙ part-behind y ws at k ek in
      let rest = rest-is x b from n en in
      let len = same_len_mid at (at + k - at) ws ys same in
      record {
        here = omega (arith, h.here);
        there = omega (arith, h.there, len);
        kept = len ∙ h.kept;
        marked = same' ∙ h.marked;
        lists = h.lists
            ∙ ap (λ z. take at ws ++ z) (round-lists t (drop from b) ns ms (drop at ws) i l same₁)
            ∙ sym (append_assoc (take at ws) (list_after r part) _)
            ∙ rw (front, back, rest) refl;
        marks = h.marks ∙ round-marks t (drop from b) ns ms (drop at ws) i l m ∙ rw (back, rest, m₁) refl;
      }

  pub going_end : length ns ≤ i → (ws ≡ lists_read (bundle_readings t b ns ms ws₀) ms ws₀) × (m ≡ mark_all t (bundle_readings t b ns ms ws₀) m₀)
  unfolding parts readings mark_all
  going_end k =
      let e : drop i ns ≡ [] = drop_of_length-le ns {i = i} k in (
        sym (h.lists ∙ rw (e) (ap (λ l. take at ws ++ l) (lists-none (drop i ms) (drop at ws)) ∙ take-append-drop at ws)),
        sym (h.marks ∙ rw (e) refl),
      )
