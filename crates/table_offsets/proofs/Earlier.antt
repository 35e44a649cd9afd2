-- The rules' answer is the earlier of the parser's and the walk's, by their bytes: both stop within the table, so that fewer bytes left are
-- a later byte.
--
-- checked-earlier                 of the parser's answer
-- check-earlier                   of the check by offsets
-- earlier-none, -found            no byte was found; one was, in a table that is accepted else
-- earlier-before, -behind         it is before the byte of the answer, or behind it
-- earlier-lower, -higher          both stand at one byte: 11 is the lower number, or not
-- earlier-first                   at the table's first byte no lower number gives way
use Rattle.std.specs.Prelude.{Err, Ok, Result}
use Rattle.rules.specs.Verdict.{table_fault}
use Rattle.rules.specs.declared.TableFault.{TableFault}
use mathlib.Core.Path.{◌≡◌, refl, sym, ap, ◌∙◌}
use Prim.Native.Nat.{ℕ, ◌-◌, ◌≤◌, ◌<◌}
use native.Mathlib.Omega.{arith}
use native.Mathlib.Nat.{le_refl}
use mathlib.Core.List.{List}
use mathlib.Core.Bool.{Bool, true, false, ◌&&◌, ◌||◌}
use lib.ListN.{length}
use lib.Dec.{ltb, eqb}
use borrow.Author.Tests.{ltb-true, ltb-false, eqb-true, eqb-false, lt-ltb, le-ltb, eq-eqb, ne_eqb}
use Rattle.facts.specs.Bytes.{Bytes}
use Rattle.facts.proofs.Truth.{and_none}
use Rattle.facts.proofs.Rests.{table-short, walk-short}
use Rattle.rules.specs.declared.ByteLength.{ByteLength}
use Rattle.rules.specs.Place.{byte_length}
use Rattle.rules.specs.Faults.{slot_not_allowed}
use Rattle.rules.specs.Table.{Table}
use Rattle.rules.specs.Homes.{Walked, fault, walked, lost, walk}
use Rattle.rules.specs.Parse.{Parsed, bad, good, parse_table, or_fault, parse, byte_of, checked_of, checked}
use Rattle.table_offsets.specs.Check.{checked_at}
use Rattle.table_offsets.specs.Earlier.{fault_byte, earlier}
use Rattle.table_offsets.proofs.TieCheck.{check-tie}

-- fewer bytes left are a later byte
fewer-later : (l a b : ℕ) → a ≤ l → b ≤ l → ltb a b ≡ ltb (l - b) (l - a)
fewer-later l a b h k = by (ltb a b) refl
  where
    by : (c : Bool) → ltb a b ≡ c → c ≡ ltb (l - b) (l - a)
    by true e = let n : l - b < l - a = omega (arith, ltb-true a b e) in sym (lt-ltb (l - b) (l - a) n)
    by false e = let n : l - a ≤ l - b = omega (arith, ltb-false a b e) in sym (le-ltb (l - b) (l - a) n)

same_byte : (l a b : ℕ) → a ≤ l → b ≤ l → eqb a b ≡ eqb (l - b) (l - a)
same_byte l a b h k = by (eqb a b) refl
  where
    by : (c : Bool) → eqb a b ≡ c → c ≡ eqb (l - b) (l - a)
    by true e = let n : l - b ≡ l - a = omega (arith, eqb-true a b e) in sym (eq-eqb (l - b) (l - a) n)
    by false e = sym (ne_eqb (l - b) (l - a) (λ n. eqb-false a b e (omega arith)))

-- the test by the bytes that are left, and by the bytes where both stand
same_test : (l a b n : ℕ) → a ≤ l → (0 < b) × (b ≤ l)
    → (ltb a b || (eqb a b && ltb slot_not_allowed n))
    ≡ (ltb (l - b) l && (ltb (l - b) (l - a) || (eqb (l - b) (l - a) && ltb slot_not_allowed n)))
same_test l a b n h k =
    let m : l - b < l = omega (arith, k.0, k.1) in
    rw (fewer-later l a b h k.1, same_byte l a b h k.1, lt-ltb (l - b) l m) refl

-- no fault: the parser's answer
none-earlier : (t : List ℕ) (o : Parsed Table) → checked_of t o ≡ earlier (length t) (checked_of t o) (length t)
unfolding checked_of earlier
none-earlier t (good T x) = rw (le-ltb (length t) (length t) (le_refl (length t)), earlier) refl
none-earlier t (bad n x) = rw (le-ltb (length t) (length t) (le_refl (length t)), earlier) refl

or-earlier : (t : List ℕ) (o : Parsed Table) (w : Walked) → ((n : ℕ) (x : List ℕ) → o ≡ bad n x → length x ≤ length t)
    → ((y : List ℕ) → w ≡ fault y → (0 < length y) × (length y ≤ length t))
    → checked_of t (or_fault o w) ≡ earlier (length t) (checked_of t o) (fault_byte t w)
unfolding or_fault checked_of byte_of earlier fault_byte
or-earlier t (good T x) (walked hs y) h k = none-earlier t (good T x)
or-earlier t (good T x) lost h k = none-earlier t (good T x)
or-earlier t (bad n x) (walked hs y) h k = none-earlier t (bad n x)
or-earlier t (bad n x) lost h k = none-earlier t (bad n x)
or-earlier t (good T x) (fault y) h k =
    let some = k y refl in
    let m : length t - length y < length t = omega (arith, some.0, some.1) in
    rw (lt-ltb (length t - length y) (length t) m, earlier) refl
or-earlier t (bad n x) (fault y) h k =
    ap (λ b. checked_of t (choice b)) (same_test (length t) (length x) (length y) n (h n x refl) (k y refl))
    ∙ by (ltb (length t - length y) (length t) && (ltb (length t - length y) (length t - length x)
    || (eqb (length t - length y) (length t - length x) && ltb slot_not_allowed n)))
  where
    choice : Bool → Parsed Table
    choice b = elim b [ true ↦ bad slot_not_allowed y | false ↦ bad n x ]

    by : (b : Bool) → checked_of t (choice b)
        ≡ elim b [ true ↦ Err (table_fault slot_not_allowed (byte_length (length t - length y))) | false ↦ Err (table_fault n (byte_length (length t - length x))) ]
    by true = refl
    by false = refl

pub checked-earlier : (t : List ℕ) → checked t ≡ earlier (length t) (checked_of t (parse_table t)) (fault_byte t (walk t))
unfolding checked parse
checked-earlier t = or-earlier t (parse_table t) (walk t) (table-short t) (walk-short t)

pub check-earlier : (t : List ℕ) → Bytes t → checked t ≡ earlier (length t) (checked_at t) (fault_byte t (walk t))
check-earlier t b = checked-earlier t ∙ ap (λ c. earlier (length t) c (fault_byte t (walk t))) (sym (check-tie t b))

-- The earlier one, case by case

module _ (l p : ℕ) where
  pub earlier-none : l ≤ p → (c : Result ByteLength TableFault) → earlier l c p ≡ c
  unfolding earlier
  earlier-none h (Ok n) = rw (le-ltb p l h, earlier) refl
  earlier-none h (Err v) = rw (le-ltb p l h, earlier) refl

  module _ (h : p < l) where
    pub earlier-found : (n : ByteLength) → earlier l (Ok n) p ≡ Err (table_fault slot_not_allowed (byte_length p))
    unfolding earlier
    earlier-found n = rw (lt-ltb p l h, earlier) refl

    pub earlier-before : (n : ℕ) (b : ByteLength) → p < b.0 → earlier l (Err (table_fault n b)) p ≡ Err (table_fault slot_not_allowed (byte_length p))
    unfolding earlier
    earlier-before n b k = rw (lt-ltb p l h, lt-ltb p b.0 k, earlier) refl

    pub earlier-lower : (n : ℕ) (b : ByteLength) → p ≡ b.0 → slot_not_allowed < n
        → earlier l (Err (table_fault n b)) p ≡ Err (table_fault slot_not_allowed (byte_length p))
    unfolding earlier
    earlier-lower n b k m =
        let j : b.0 ≤ p = omega arith in
        rw (lt-ltb p l h, le-ltb p b.0 j, eq-eqb p b.0 k, lt-ltb slot_not_allowed n m, earlier) refl

  pub earlier-behind : (n : ℕ) (b : ByteLength) → b.0 < p → earlier l (Err (table_fault n b)) p ≡ Err (table_fault n b)
  unfolding earlier
  earlier-behind n b k =
      let j : b.0 ≤ p = omega arith in
      rw (le-ltb p b.0 j, ne_eqb p b.0 (λ e. omega arith), and_none (ltb p l), earlier) refl

  pub earlier-higher : (n : ℕ) (b : ByteLength) → b.0 ≤ p → n ≤ slot_not_allowed → earlier l (Err (table_fault n b)) p ≡ Err (table_fault n b)
  unfolding earlier
  earlier-higher n b k m =
      rw (le-ltb p b.0 k, le-ltb slot_not_allowed n m, and_none (eqb p b.0), and_none (ltb p l), earlier) refl

  pub earlier-first : (n : ℕ) → n ≤ slot_not_allowed → earlier l (Err (table_fault n (byte_length 0))) p ≡ Err (table_fault n (byte_length 0))
  earlier-first n m = earlier-higher n (byte_length 0) (omega arith) m
