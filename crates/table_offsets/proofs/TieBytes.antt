-- The rest of a table, as the rules read it, against the table at a byte, as the check by offsets does: its bytes, and the numbers that
-- a body's bytes say. (Laws of the rules' records: they speak of no code.)
use mathlib.Core.Path.{◌≡◌, refl, ap, ◌∙◌}
use mathlib.Core.Bool.{Bool, true, false, not}
use mathlib.Core.List.{List, [], ◌∷◌}
use Prim.Native.Nat.{ℕ, zero, suc, ◌+◌, ◌-◌, ◌<◌, ◌≤◌}
use native.Mathlib.Omega.{arith}
use lib.ListN.{length, get_or, take, drop, length-drop}
use lib.Seq.{get_or-take, get_or-drop, drop-drop}
use lib.Dec.{ltb}
use borrow.Author.Tests.{ltb-true, ltb-false}
use Rattle.rules.specs.Record.{number, u8, u16 as ru16, u64 as ru64}
use Rattle.rules.specs.Parse.{missing}
use Rattle.table_offsets.specs.Check.{number_at, u16, u64}

-- x is what the table t has from the byte `at` on
pub record Rest (t : List ℕ) (at : ℕ) (x : List ℕ) : Type 0 where
  pub is : x ≡ drop at t
  pub within : at ≤ length t

pub rest-length : (t : List ℕ) (at : ℕ) (x : List ℕ) → Rest t at x → length x ≡ length t - at
rest-length t at x r = ap length r.is ∙ length-drop at t

pub rest-byte : (t : List ℕ) (at : ℕ) (x : List ℕ) → Rest t at x → (i : ℕ) → get_or x i 0 ≡ get_or t (at + i) 0
rest-byte t at x r i = rw r.is (get_or-drop at t i 0)

-- so many bytes on
pub rest-on : (t : List ℕ) (at n : ℕ) (x : List ℕ) → Rest t at x → at + n ≤ length t → Rest t (at + n) (drop n x)
rest-on t at n x r h = record { is = rw r.is (drop-drop n at t); within = h }

missing-none : (x : List ℕ) → length x ≡ 0 → missing x ≡ true
unfolding missing
missing-none [] h = refl
missing-none (b ∷ x) h = absurd (omega arith)

missing-some : (x : List ℕ) → 0 < length x → missing x ≡ false
unfolding missing
missing-some [] h = absurd (omega arith)
missing-some (b ∷ x) h = refl

pub rest-missing : (t : List ℕ) (at : ℕ) (x : List ℕ) → Rest t at x → missing x ≡ not (ltb at (length t))
rest-missing t at x r = by (ltb at (length t)) refl
  where
    by : (b : Bool) → ltb at (length t) ≡ b → missing x ≡ not b
    by true e = missing-some x (omega (arith, rest-length t at x r, ltb-true at (length t) e))
    by false e = missing-none x (omega (arith, rest-length t at x r, ltb-false at (length t) e))

-- Numbers

number-nil : (n : ℕ) → number [] n ≡ 0
unfolding number
number-nil zero = refl
number-nil (suc n) = refl

number-as : (n : ℕ) (x t : List ℕ) (at : ℕ) → ((i : ℕ) → i < n → get_or x i 0 ≡ get_or t (at + i) 0) → number x n ≡ number_at t at n
unfolding number number_at
number-as zero x t at h = refl
number-as (suc n) [] t at h =
    let z : at + 0 ≡ at = omega arith in
    let b : 0 ≡ get_or t at 0 = rw z at (h 0 (omega arith)) in
    let m : number [] n ≡ number_at t (at + 1) n = number-as n [] t (at + 1) (λ i l.
    let e : at + suc i ≡ at + 1 + i = omega arith in rw e at (h (suc i) (omega arith))) in
    omega (arith, number-nil n)
number-as (suc n) (c ∷ x) t at h =
    let z : at + 0 ≡ at = omega arith in
    let b : c ≡ get_or t at 0 = rw z at (h 0 (omega arith)) in
    let m : number x n ≡ number_at t (at + 1) n = number-as n x t (at + 1) (λ i l.
    let e : at + suc i ≡ at + 1 + i = omega arith in rw e at (h (suc i) (omega arith))) in
    omega arith

-- The body of a record: the n bytes behind its first

module _ (t : List ℕ) (at : ℕ) (x : List ℕ) (r : Rest t at x) (n : ℕ) where
  body-byte : (i : ℕ) → i < n → get_or (take n (drop 1 x)) i 0 ≡ get_or t (at + 1 + i) 0
  body-byte i h =
      let e : at + (1 + i) ≡ at + 1 + i = omega arith in
      rw (get_or-take n (drop 1 x) i 0 h, get_or-drop 1 x i 0, rest-byte t at x r (1 + i), e)

  pub body-u8 : (i : ℕ) → i < n → u8 (take n (drop 1 x)) i ≡ get_or t (at + (1 + i)) 0
  unfolding u8
  body-u8 i h = let e : at + 1 + i ≡ at + (1 + i) = omega arith in rw (body-byte i h, e)

  body-number : (i m : ℕ) → i + m ≤ n → number (drop i (take n (drop 1 x))) m ≡ number_at t (at + (1 + i)) m
  body-number i m h = number-as m _ t (at + (1 + i)) (λ j l.
      let e : at + 1 + (i + j) ≡ at + (1 + i) + j = omega arith in
      rw (get_or-drop i (take n (drop 1 x)) j 0, body-byte (i + j) (omega arith), e))

  pub body-u64 : (i : ℕ) → i + 8 ≤ n → ru64 (take n (drop 1 x)) i ≡ u64 t (at + (1 + i))
  unfolding ru64 u64
  body-u64 i h = body-number i 8 h

  pub body-u16 : (i : ℕ) → i + 2 ≤ n → ru16 (take n (drop 1 x)) i ≡ u16 t (at + (1 + i))
  unfolding ru16 u16 number_at
  body-u16 i h = body-number i 2 h ∙ omega arith
