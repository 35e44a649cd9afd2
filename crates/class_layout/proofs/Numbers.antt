-- The walk over a table's records: their places rise, so that the number at a byte is that of the one record which begins there. And
-- records one behind the other of which none opens a fragment: they count on.
--
-- begins-number               the number at a byte is that of the record which begins there
-- begins-first, begins-next   a record begins at the table's first byte, and behind each
-- opening-number              0 where a fragment opens
-- next-number                 one more behind a record
-- number-low                  no more than the bytes in front
-- Passed                      n records from a byte up to another, of which none opens a fragment; what follows of such a row
use mathlib.Core.Path.{◌≡◌, refl, sym, ap, ◌∙◌}
use Prim.Native.Nat.{ℕ, zero, suc, ◌+◌, ◌≤◌, ◌<◌}
use native.Mathlib.Nat.{add-zero, add-suc, suc-add, zero-add}
use native.Mathlib.Omega.{arith}
use mathlib.Core.List.{List}
use mathlib.Core.Logic.{⊎_elim}
use lib.ListN.{drop}
use borrow.Author.Tests.{lt-ltb, le-ltb, eq-eqb, ne_eqb}
use Rattle.rules.specs.Record.{u8, size}
use Rattle.facts.proofs.Numbers.{lt-or-ge}
use Rattle.class_layout.specs.Numbers.{opens_fragment, number_behind, next_record, record_place, record_number, Begins, number_from}
use Rattle.class_layout.specs.Numbers.{number_at}

-- Places rise: each record takes a byte or more

size-some : (x : List ℕ) → 1 ≤ size x
unfolding size
size-some x = omega arith

pub next-onward : (t : List ℕ) (p : ℕ) → p < next_record t p
next-onward t p = omega (arith, size-some (drop p t))

pub places-rise : (t : List ℕ) (k n : ℕ) → record_place t k + n ≤ record_place t (k + n)
unfolding record_place
places-rise t k zero = rw (add-zero k) (omega arith)
places-rise t k (suc n) = rw (add-suc k n) (omega (arith, places-rise t k n, next-onward t (record_place t (k + n))))

-- The number at a byte

-- from the kth record on, that of the nth behind it
number-from : (t : List ℕ) (k n rounds : ℕ) → n < rounds
    → number_from rounds t (record_place t (k + n)) (record_place t k) (record_number t k) ≡ record_number t (k + n)
unfolding number_from record_place record_number
number-from t k n zero l = absurd (omega arith)
number-from t k zero (suc rounds) l = rw (add-zero k, eq-eqb _ (record_place t k) refl, number_from)
number-from t k (suc n) (suc rounds) l =
    let far : record_place t k ≡ record_place t (k + suc n) → ⊥ = λ e. omega (arith, places-rise t k (suc n)) in
    let same : k + suc n ≡ suc k + n = omega arith in
    rw (ne_eqb _ _ far, number_from, same) (number-from t (suc k) n rounds (omega arith))

module _ {t : List ℕ} {p : ℕ} where
  pub index-low : (b : Begins t p) → b.index ≤ p
  unfolding record_place
  index-low b = omega (arith, b.place, rw (zero-add b.index) at (places-rise t 0 b.index))

  pub begins-number : (b : Begins t p) → number_at t p ≡ record_number t b.index
  unfolding number_at record_place record_number
  begins-number b =
      let l = index-low b in
      let n = number-from t 0 b.index (suc p) (omega arith) in
      rw (zero-add b.index, b.place) at n

pub begins-first : (t : List ℕ) → Begins t 0
unfolding record_place
begins-first t = record { index = 0; place = refl }

module _ {t : List ℕ} {p : ℕ} (b : Begins t p) where
  pub begins-next : Begins t (next_record t p)
  unfolding record_place
  begins-next = record { index = suc b.index; place = ap (next_record t) b.place }

  -- the same by the record's bytes
  pub begins-behind : (n : ℕ) → size (drop p t) ≡ n → Begins t (p + n)
  begins-behind n e = rw e at begins-next

  next-behind : number_at t (next_record t p) ≡ number_behind (u8 t (next_record t p)) (number_at t p)
  unfolding record_place record_number begins-next
  next-behind =
      begins-number begins-next ∙ ap (λ q. number_behind (u8 t q) (record_number t b.index)) (ap (next_record t) b.place)
      ∙ ap (number_behind (u8 t (next_record t p))) (sym (begins-number b))

  pub next-number : 5 < u8 t (next_record t p) → number_at t (next_record t p) ≡ number_at t p + 1
  unfolding number_behind opens_fragment
  next-number h = next-behind ∙ rw (le-ltb (u8 t (next_record t p)) 6 h, opens_fragment, number_behind)

  -- where a fragment opens the count begins anew
  opens-anew : (k : ℕ) → record_place t k ≡ p → u8 t p ≤ 5 → record_number t k ≡ 0
  unfolding record_number number_behind opens_fragment
  opens-anew zero e h = refl
  opens-anew (suc k) e h = rw (e, number_behind, opens_fragment, lt-ltb (u8 t p) 6 (omega arith))

  pub opening-number : u8 t p ≤ 5 → number_at t p ≡ 0
  opening-number h = begins-number b ∙ opens-anew b.index b.place h

-- a record has as many others in front of it as its index says, and each has a byte

pub behind-small : (k m : ℕ) → number_behind k m ≤ m + 1
unfolding number_behind opens_fragment
behind-small k m = ⊎_elim
    (λ (l : k < 6). rw (lt-ltb k 6 l, opens_fragment, number_behind) (omega arith))
    (λ (l : 6 ≤ k). rw (le-ltb k 6 l, opens_fragment, number_behind) (omega arith))
    (lt-or-ge k 6)

number-by-index : (t : List ℕ) (k : ℕ) → record_number t k ≤ k
unfolding record_number
number-by-index t zero = omega arith
number-by-index t (suc k) =
    omega (arith, number-by-index t k, behind-small (u8 t (record_place t (suc k))) (record_number t k))

pub number-low : {t : List ℕ} {p : ℕ} → Begins t p → number_at t p ≤ p
number-low {t} {p} b = omega (arith, begins-number b, number-by-index t b.index, index-low b)

-- Rows of records

-- n records one behind the other, from p up to q, of which none opens a fragment
unfoldable pub Row : List ℕ → ℕ → ℕ → ℕ → Type 0
Row t p zero q = p ≡ q
Row t p (suc n) q = (5 < u8 t p) × Row t (next_record t p) n q

row-both : (t : List ℕ) (p m q n r : ℕ) → Row t p m q → Row t q n r → Row t p (m + n) r
unfolding Row
row-both t p zero q n r v w = rw (zero-add n, v) w
row-both t p (suc m) q n r v w = rw (suc-add m n) (v.0, row-both t (next_record t p) m q n r v.1 w)

-- such a row: if the one at q opens none either, they count on up to it
pub record Passed (t : List ℕ) (p n q : ℕ) : Type 0 where
  pub row : Row t p n q
  pub first : 5 < u8 t q → 5 < u8 t p
  pub begins : Begins t p → Begins t q
  pub number : Begins t p → 5 < u8 t q → number_at t q ≡ number_at t p + n

pub passed_none : (t : List ℕ) (p q : ℕ) → p ≡ q → Passed t p 0 q
unfolding Row
passed_none t p q e = record {
  row = e;
  first = λ h. rw e h;
  begins = λ b. rw (← e) b;
  number = λ b h. rw (← e) (sym (add-zero (number_at t p)));
}

pub passed-one : (t : List ℕ) (p q : ℕ) → 5 < u8 t p → next_record t p ≡ q → Passed t p 1 q
unfolding Row
passed-one t p q k e = record {
  row = (k, e);
  first = λ h. k;
  begins = λ b. rw (← e) (begins-next b);
  number = λ b h. rw (← e) (next-number b (rw e h));
}

pub passed-both : {t : List ℕ} {p m q n r : ℕ} → Passed t p m q → Passed t q n r → Passed t p (m + n) r
passed-both {t} {p} {m} {q} {n} {r} v w = record {
  row = row-both t p m q n r v.row w.row;
  first = λ h. v.first (w.first h);
  begins = λ b. w.begins (v.begins b);
  number = λ b h. omega (arith, v.number b (w.first h), w.number (v.begins b) h);
}
