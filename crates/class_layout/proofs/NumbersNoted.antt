-- The pass that notes numbers, from record to record: it leaves in each word what it said of alignment and slots, and puts into the word
-- at a record's first byte that record's number.
--
-- numbers-length, numbers-align, numbers-sets    what stays
-- numbers-number                                 of every record that begins in the table
use mathlib.Core.Path.{◌≡◌, refl, sym, ap, ◌∙◌}
use Prim.Native.Nat.{ℕ, zero, suc, ◌+◌, ◌≤◌, ◌<◌}
use native.Mathlib.Nat.{add-zero, zero-add}
use native.Mathlib.Omega.{arith}
use mathlib.Core.List.{List}
use mathlib.Core.Bool.{Bool, true, false}
use lib.ListN.{length, get_or, set, length-set}
use lib.Seq.{get_or-set_same, get_or-set_other}
use lib.Dec.{ltb, eqb}
use borrow.Author.Tests.{lt-ltb, ltb-true, eqb-true, eqb-false}
use Rattle.rules.specs.Record.{u8}
use Rattle.class_layout.specs.Numbers.{number_behind, next_record, record_place, record_number, Begins, number_at}
use Rattle.class_layout.specs.Words.{align_of_word, sets_of_word, number_of_word, numbered_word}
use Rattle.class_layout.specs.Notes.{align_noted, sets_noted, number_noted, numbers_from, note_numbers}
use Rattle.class_layout.proofs.Numbers.{next-onward, places-rise, index-low, begins-number}
use Rattle.class_layout.proofs.NotedWords.{align-numbered, sets-numbered, number-numbered}

-- the words with the number m at p
abbrev with_number : List ℕ → ℕ → ℕ → List ℕ
with_number a p m = set a p (numbered_word (get_or a p 0) m)

module _ (t : List ℕ) where
  -- one record, and those behind it
  pub numbers-record : (k p m : ℕ) (a : List ℕ) → p < length t
      → numbers_from (suc k) t p m a ≡ numbers_from k t (next_record t p) (number_behind (u8 t (next_record t p)) m) (with_number a p m)
  unfolding numbers_from
  numbers-record k p m a l = rw (lt-ltb p (length t) l, numbers_from)

  -- Q of the words holds of those noted, if it holds of the words as they came and each number keeps it
  numbers_keep : (Q : List ℕ → Type 0) → ((p m : ℕ) (a : List ℕ) → p < length t → Q a → Q (with_number a p m))
      → (k p m : ℕ) (a : List ℕ) → Q a → Q (numbers_from k t p m a)
  unfolding numbers_from
  numbers_keep Q keeps zero p m a q = q
  numbers_keep Q keeps (suc k) p m a q =
      by (ltb p (length t)) refl (λ p m a q. numbers_keep Q keeps k p m a q)
    where
      by : (b : Bool) → ltb p (length t) ≡ b → ((p m : ℕ) (a : List ℕ) → Q a → Q (numbers_from k t p m a))
          → Q (elim b [ true ↦ numbers_from k t (next_record t p) (number_behind (u8 t (next_record t p)) m) (with_number a p m) | false ↦ a ])
      by true e rec = rec _ _ _ (keeps p m a (ltb-true p (length t) e) q)
      by false e rec = q

  pub numbers-length : (k p m : ℕ) (a : List ℕ) → length (numbers_from k t p m a) ≡ length a
  numbers-length k p m a =
      numbers_keep (λ b. length b ≡ length a) (λ q n b l e. length-set b q _ ∙ e) k p m a refl

  -- what f reads of a word, if no number changes it
  module _ (f : ℕ → ℕ) (same : (w n : ℕ) → f (numbered_word w n) ≡ f w) where
    with-number : (q p m : ℕ) (a : List ℕ) → p < length a → f (get_or (with_number a p m) q 0) ≡ f (get_or a q 0)
    with-number q p m a l = by (eqb q p) refl
      where
        by : (b : Bool) → eqb q p ≡ b → f (get_or (with_number a p m) q 0) ≡ f (get_or a q 0)
        by true e =
            let k : q ≡ p = eqb-true q p e in
            rw k (ap f (get_or-set_same a p (numbered_word (get_or a p 0) m) 0 l) ∙ same (get_or a p 0) m)
        by false e = ap f (get_or-set_other a p q (numbered_word (get_or a p 0) m) 0 (eqb-false q p e))

    numbers-read : (q k p m : ℕ) (a : List ℕ) → length t ≤ length a → f (get_or (numbers_from k t p m a) q 0) ≡ f (get_or a q 0)
    numbers-read q k p m a l =
        (numbers_keep (λ b. (length b ≡ length a) × (f (get_or b q 0) ≡ f (get_or a q 0)))
        (λ p m b h e. (length-set b p _ ∙ e.0, with-number q p m b (omega (arith, e.0)) ∙ e.1)) k p m a (refl, refl)).1

  module _ (a : List ℕ) (room : length t ≤ length a) where
    pub numbers-align : (q : ℕ) → align_noted (note_numbers t a) q ≡ align_noted a q
    unfolding note_numbers align_noted
    numbers-align q = numbers-read align_of_word align-numbered q (length t) 0 0 a room

    pub numbers-sets : (q : ℕ) → sets_noted (note_numbers t a) q ≡ sets_noted a q
    unfolding note_numbers sets_noted
    numbers-sets q = numbers-read sets_of_word sets-numbered q (length t) 0 0 a room

  -- Numbers

  -- words in front of where the pass is stay
  numbers-front : (q k p m : ℕ) (a : List ℕ) → q < p → get_or (numbers_from k t p m a) q 0 ≡ get_or a q 0
  unfolding numbers_from
  numbers-front q zero p m a l = refl
  numbers-front q (suc k) p m a l = by (ltb p (length t)) (λ p m a l. numbers-front q k p m a l)
    where
      by : (b : Bool) → ((p m : ℕ) (a : List ℕ) → q < p → get_or (numbers_from k t p m a) q 0 ≡ get_or a q 0)
          → get_or (elim b [
            | true ↦ numbers_from k t (next_record t p) (number_behind (u8 t (next_record t p)) m) (with_number a p m)
            | false ↦ a
          ]) q 0 ≡ get_or a q 0
      by true rec =
          rec (next_record t p) _ (with_number a p m) (omega (arith, next-onward t p))
          ∙ get_or-set_other a p q _ 0 (λ e. omega arith)
      by false rec = refl

  -- from the kth record on, that of the nth behind it
  numbers-from : (k n rounds : ℕ) (a : List ℕ) → n < rounds → length t ≤ length a → record_place t (k + n) < length t
      → number_noted (numbers_from rounds t (record_place t k) (record_number t k) a) (record_place t (k + n)) ≡ record_number t (k + n)
  unfolding number_noted record_place record_number
  numbers-from k n zero a l room h = absurd (omega arith)
  numbers-from k zero (suc rounds) a l room h =
      let p = record_place t k in
      let m = record_number t k in
      let here : p < length t = rw (add-zero k) at h in
      rw (add-zero k, numbers-record rounds p m a here)
      (ap number_of_word (numbers-front p rounds (next_record t p) _ (with_number a p m) (omega (arith, next-onward t p))
      ∙ get_or-set_same a p (numbered_word (get_or a p 0) m) 0 (omega arith))
      ∙ number-numbered (get_or a p 0) m)
  numbers-from k (suc n) (suc rounds) a l room h =
      let p = record_place t k in
      let m = record_number t k in
      let here : p < length t = omega (arith, places-rise t k (suc n)) in
      let same : k + suc n ≡ suc k + n = omega arith in
      rw (same, numbers-record rounds p m a here)
      (numbers-from (suc k) n rounds (with_number a p m) (omega arith) (rw length-set room) (rw same at h))

  pub numbers-number : (a : List ℕ) (p : ℕ) → length t ≤ length a → Begins t p → p < length t
      → number_noted (note_numbers t a) p ≡ number_at t p
  unfolding note_numbers record_place record_number
  numbers-number a p room b l =
      let e : record_place t (0 + b.index) ≡ p = ap (record_place t) (zero-add b.index) ∙ b.place in
      let n = numbers-from 0 b.index (length t) a (omega (arith, index-low b)) room (omega (arith, e)) in
      ap (number_noted (numbers_from (length t) t 0 0 a)) (sym e) ∙ n ∙ ap (record_number t) (zero-add b.index) ∙ sym (begins-number b)
