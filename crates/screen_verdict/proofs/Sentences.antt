-- Laws of the sentences: which numbers have none, how long a sentence is at most, and a reason by its cases.
use mathlib.Core.Path.{◌≡◌, refl, sym}
use mathlib.Core.Logic.{◌⊎◌, inl, inr, ⊎_elim}
use mathlib.Core.List.{List, [], ◌∷◌, ◌++◌}
use mathlib.Core.Bool.{Bool, true, false}
use Prim.Native.Nat.{ℕ, ◌+◌, ◌-◌, ◌<◌, ◌≤◌}
use native.Mathlib.Omega.{arith}
use borrow.Author.Tests.{eq-eqb, ne_eqb, eqb-true, eqb-false}
use lib.ListN.{length, get_or, length-append, get_or-eq_default}
use lib.Dec.{T, leb, eqb, leb→le}
use Rattle.facts.proofs.Numbers.{lt-or-ge}
use Rattle.facts.proofs.Cases.{Each, below, ◌▷◌}
use Rattle.screen_number.specs.Number.{bytes, decimal}
use Rattle.screen_number.proofs.Decimal.{decimal-length}
use Rattle.screen_number.proofs.Apart.{Among, Apart, not-among}
use Rattle.screen_verdict.specs.Sentences.{no_words, faults, fault, plain_reasons, plain_reason, reason}
use Rattle.screen_verdict.specs.Sentences.{table_refused, bound_crossed, no_stream_class, no_event_class}

by-test : (n k : ℕ) (b : Bool) → eqb n k ≡ b → (n ≡ k) ⊎ (n ≡ k → ⊥)
by-test n k true e = inl (eqb-true n k e)
by-test n k false e = inr (eqb-false n k e)

pub is-or : (n k : ℕ) → (n ≡ k) ⊎ (n ≡ k → ⊥)
is-or n k = by-test n k (eqb n k) refl

-- Numbers that have no sentence
pub fault-behind : (n : ℕ) → 16 ≤ n → no_words ≡ fault n
unfolding fault faults
fault-behind n h = sym (get_or-eq_default faults no_words h)

abbrev told_faults : List ℕ
told_faults = 1 ∷ 2 ∷ 3 ∷ 4 ∷ 5 ∷ 6 ∷ 7 ∷ 8 ∷ 9 ∷ 10 ∷ 11 ∷ 12 ∷ 13 ∷ 14 ∷ 15 ∷ []

abbrev Faultless : ℕ → Type 0
Faultless n = (Among n told_faults → ⊥) → no_words ≡ fault n

faultless_each : Each Faultless 0 16
unfolding fault faults
faultless_each =
    (λ n. refl) ▷ (λ n. absurd (n tt)) ▷ (λ n. absurd (n tt)) ▷ (λ n. absurd (n tt)) ▷ (λ n. absurd (n tt)) ▷ (λ n. absurd (n tt))
    ▷ (λ n. absurd (n tt)) ▷ (λ n. absurd (n tt)) ▷ (λ n. absurd (n tt)) ▷ (λ n. absurd (n tt)) ▷ (λ n. absurd (n tt))
    ▷ (λ n. absurd (n tt)) ▷ (λ n. absurd (n tt)) ▷ (λ n. absurd (n tt)) ▷ (λ n. absurd (n tt)) ▷ (λ n. absurd (n tt)) ▷ tt

pub faultless : (n : ℕ) → Apart n told_faults → no_words ≡ fault n
faultless n a = ⊎_elim
    (λ (l : n < 16). below Faultless 16 faultless_each n l (not-among n told_faults a))
    (λ (l : 16 ≤ n). fault-behind n l)
    (lt-or-ge n 16)

pub plain-behind : (n : ℕ) → 42 ≤ n → no_words ≡ plain_reason n
unfolding plain_reason plain_reasons
plain-behind n h = let l : 22 ≤ n - 20 = omega arith in sym (get_or-eq_default plain_reasons no_words l)

abbrev told_reasons : List ℕ
told_reasons =
    21 ∷ 23 ∷ 24 ∷ 25 ∷ 26 ∷ 27 ∷ 28 ∷ 29 ∷ 30 ∷ 31 ∷ 32 ∷ 34 ∷ 35 ∷ 36 ∷ 38 ∷ 39 ∷ 40 ∷ 41 ∷ []

abbrev Reasonless : ℕ → Type 0
Reasonless n = (Among n told_reasons → ⊥) → no_words ≡ plain_reason n

reasonless_each : Each Reasonless 0 42
unfolding plain_reason plain_reasons
reasonless_each =
    (λ n. refl) ▷ (λ n. refl) ▷ (λ n. refl) ▷ (λ n. refl) ▷ (λ n. refl) ▷ (λ n. refl) ▷ (λ n. refl) ▷ (λ n. refl) ▷ (λ n. refl)
    ▷ (λ n. refl) ▷ (λ n. refl) ▷ (λ n. refl) ▷ (λ n. refl) ▷ (λ n. refl) ▷ (λ n. refl) ▷ (λ n. refl) ▷ (λ n. refl) ▷ (λ n. refl)
    ▷ (λ n. refl) ▷ (λ n. refl) ▷ (λ n. refl) ▷ (λ n. absurd (n tt)) ▷ (λ n. refl) ▷ (λ n. absurd (n tt)) ▷ (λ n. absurd (n tt))
    ▷ (λ n. absurd (n tt)) ▷ (λ n. absurd (n tt)) ▷ (λ n. absurd (n tt)) ▷ (λ n. absurd (n tt)) ▷ (λ n. absurd (n tt))
    ▷ (λ n. absurd (n tt)) ▷ (λ n. absurd (n tt)) ▷ (λ n. absurd (n tt)) ▷ (λ n. refl) ▷ (λ n. absurd (n tt)) ▷ (λ n. absurd (n tt))
    ▷ (λ n. absurd (n tt)) ▷ (λ n. refl) ▷ (λ n. absurd (n tt)) ▷ (λ n. absurd (n tt)) ▷ (λ n. absurd (n tt)) ▷ (λ n. absurd (n tt))
    ▷ tt

pub reasonless : (n : ℕ) → Apart n told_reasons → no_words ≡ plain_reason n
reasonless n a = ⊎_elim
    (λ (l : n < 42). below Reasonless 42 reasonless_each n l (not-among n told_reasons a))
    (λ (l : 42 ≤ n). plain-behind n l)
    (lt-or-ge n 42)

-- A sentence has 96 bytes at most
abbrev ShortFault : ℕ → Type 0
ShortFault n = T (leb (length (fault n)) 96)

faults-short : Each ShortFault 0 16
unfolding fault faults no_words bytes
faults-short = tt ▷ tt ▷ tt ▷ tt ▷ tt ▷ tt ▷ tt ▷ tt ▷ tt ▷ tt ▷ tt ▷ tt ▷ tt ▷ tt ▷ tt ▷ tt ▷ tt

none-length : length no_words ≤ 96
unfolding no_words bytes
none-length = omega arith

pub fault-length : (n : ℕ) → length (fault n) ≤ 96
fault-length n = ⊎_elim
    (λ (l : n < 16). leb→le (length (fault n)) 96 (below ShortFault 16 faults-short n l))
    (λ (l : 16 ≤ n). rw (← (fault-behind n l)) none-length)
    (lt-or-ge n 16)

abbrev ShortPlain : ℕ → Type 0
ShortPlain n = T (leb (length (get_or plain_reasons n no_words)) 96)

plain-short : Each ShortPlain 0 22
unfolding plain_reasons no_words bytes
plain-short =
    tt ▷ tt ▷ tt ▷ tt ▷ tt ▷ tt ▷ tt ▷ tt ▷ tt ▷ tt ▷ tt ▷ tt ▷ tt ▷ tt ▷ tt ▷ tt ▷ tt ▷ tt ▷ tt ▷ tt ▷ tt ▷ tt ▷ tt

plain_at : (n : ℕ) → n < 22 → length (get_or plain_reasons n no_words) ≤ 96
plain_at n l = leb→le (length (get_or plain_reasons n no_words)) 96 (below ShortPlain 22 plain-short n l)

pub plain-length : (n : ℕ) → length (plain_reason n) ≤ 96
unfolding plain_reason
plain-length n = ⊎_elim
    (λ (l : n - 20 < 22). plain_at (n - 20) l)
    (λ (l : 22 ≤ n - 20). rw (← (plain-behind n (omega arith))) none-length)
    (lt-or-ge (n - 20) 22)

-- A reason by its cases
module _ (n p i j : ℕ) where
  pub reason-20 : n ≡ 20 → table_refused i ≡ reason n p i j
  unfolding reason
  reason-20 e = simp (reason, eq-eqb n 20 e)

  pub reason-22 : n ≡ 22 → bound_crossed p ≡ reason n p i j
  unfolding reason
  reason-22 e = simp (reason, ne_eqb n 20 (λ f. omega (arith, e, f)), eq-eqb n 22 e)

  pub reason-33 : n ≡ 33 → no_stream_class i ≡ reason n p i j
  unfolding reason
  reason-33 e = simp (reason, ne_eqb n 20 (λ f. omega (arith, e, f)), ne_eqb n 22 (λ f. omega (arith, e, f)), eq-eqb n 33 e)

  pub reason-37 : n ≡ 37 → no_event_class i j ≡ reason n p i j
  unfolding reason
  reason-37 e = simp (
    reason,
    ne_eqb n 20 (λ f. omega (arith, e, f)),
    ne_eqb n 22 (λ f. omega (arith, e, f)),
    ne_eqb n 33 (λ f. omega (arith, e, f)),
    eq-eqb n 37 e,
  )

  pub reason-plain : (n ≡ 20 → ⊥) → (n ≡ 22 → ⊥) → (n ≡ 33 → ⊥) → (n ≡ 37 → ⊥) → plain_reason n ≡ reason n p i j
  unfolding reason
  reason-plain a b c d = simp (reason, ne_eqb n 20 a, ne_eqb n 22 b, ne_eqb n 33 c, ne_eqb n 37 d)

lengths-4 : (w x y z : List ℕ) → length (w ++ x ++ y ++ z) ≡ length w + length x + length y + length z
lengths-4 w x y z = simp length-append

long-20 : (i : ℕ) → length (table_refused i) ≤ 142
unfolding table_refused bytes
long-20 i = omega (
  arith,
  lengths-4 (bytes "the table is refused by ") (decimal i) (bytes ": ") (fault i),
  decimal-length i,
  fault-length i,
)

long-22 : (p : ℕ) → length (bound_crossed p) ≤ 142
unfolding bound_crossed bytes
long-22 p = omega (
  arith,
  length-append (bytes "the field behind the last entry crosses the bound at bit ") (decimal p),
  decimal-length p,
)

long-33 : (i : ℕ) → length (no_stream_class i) ≤ 142
unfolding no_stream_class bytes
long-33 i = omega (arith, length-append (bytes "the table has no stream class ") (decimal i), decimal-length i)

long-37 : (i j : ℕ) → length (no_event_class i j) ≤ 142
unfolding no_event_class bytes
long-37 i j = omega (
  arith,
  lengths-4 (bytes "the table has no event class ") (decimal j) (bytes " in stream class ") (decimal i),
  decimal-length i,
  decimal-length j,
)

-- which of them a number has
pub data Case (n : ℕ) : Type 0 where
  is-20 : n ≡ 20 → Case n
  is-22 : n ≡ 22 → Case n
  is-33 : n ≡ 33 → Case n
  is-37 : n ≡ 37 → Case n
  is_plain : (n ≡ 20 → ⊥) → (n ≡ 22 → ⊥) → (n ≡ 33 → ⊥) → (n ≡ 37 → ⊥) → Case n

pub case : (n : ℕ) → Case n
case n =
    ⊎_elim is-20 (λ a. ⊎_elim is-22 (λ b. ⊎_elim is-33 (λ c. ⊎_elim is-37 (λ d. is_plain a b c d) (is-or n 37)) (is-or n 33)) (is-or n 22))
    (is-or n 20)

long : (n p i j : ℕ) → Case n → length (reason n p i j) ≤ 142
long n p i j (is-20 e) = rw (← (reason-20 n p i j e)) (long-20 i)
long n p i j (is-22 e) = rw (← (reason-22 n p i j e)) (long-22 p)
long n p i j (is-33 e) = rw (← (reason-33 n p i j e)) (long-33 i)
long n p i j (is-37 e) = rw (← (reason-37 n p i j e)) (long-37 i j)
long n p i j (is_plain a b c d) = rw (← (reason-plain n p i j a b c d)) (omega (arith, plain-length n))

pub reason-length : (n p i j : ℕ) → length (reason n p i j) ≤ 142
reason-length n p i j = long n p i j (case n)
