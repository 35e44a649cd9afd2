-- An accepted table is one that the parser accepts and in whose classes the walk finds no slot of two homes.
--
-- NoFault                          the walk finds no fault
-- parse-table, parse-walk          both, of an accepted table
-- table-parse                      and the other way
use mathlib.Core.Path.{◌≡◌, refl}
use Prim.Native.Nat.{ℕ}
use native.Mathlib.Omega.{arith}
use mathlib.Core.List.{List}
use mathlib.Core.Bool.{Bool, true, false, ◌&&◌, ◌||◌}
use lib.ListN.{length}
use lib.Dec.{ltb, eqb}
use Rattle.rules.specs.Faults.{slot_not_allowed}
use Rattle.rules.specs.Table.{Table}
use Rattle.rules.specs.Homes.{Walked, fault, walked, lost, walk}
use Rattle.rules.specs.Parse.{Parsed, bad, good, parse_table, or_fault, parse}

abbrev pub NoFault : Walked → Type 0
NoFault (fault y) = ⊥
NoFault (walked h x) = Unit {0}
NoFault lost = Unit {0}

or-good : (o : Parsed Table) (w : Walked) (t : Table) (y : List ℕ) → or_fault o w ≡ good t y → (o ≡ good t y) × NoFault w
unfolding or_fault
or-good (good u x) (fault z) t y h = let n : ◌≡◌ {A = ℕ} 0 1 = cc in absurd (omega arith)
or-good (good u x) (walked hs z) t y h = (h, tt)
or-good (good u x) lost t y h = (h, tt)
or-good (bad n x) (walked hs z) t y h = (h, tt)
or-good (bad n x) lost t y h = (h, tt)
or-good (bad n x) (fault z) t y h =
    absurd (by (ltb (length x) (length z) || (eqb (length x) (length z) && ltb slot_not_allowed n)) h)
  where
    by : (b : Bool) → ◌≡◌ {A = Parsed Table} (elim b [ true ↦ bad slot_not_allowed z | false ↦ bad n x ]) (good t y) → ⊥
    by true g = let k : ◌≡◌ {A = ℕ} 0 1 = cc in omega arith
    by false g = let k : ◌≡◌ {A = ℕ} 0 1 = cc in omega arith

good-or : (o : Parsed Table) (w : Walked) → NoFault w → or_fault o w ≡ o
unfolding or_fault
good-or (good t x) (fault z) h = absurd h
good-or (good t x) (walked hs z) h = refl
good-or (good t x) lost h = refl
good-or (bad n x) (fault z) h = absurd h
good-or (bad n x) (walked hs z) h = refl
good-or (bad n x) lost h = refl

pub parse-table : (x : List ℕ) (t : Table) (y : List ℕ) → parse x ≡ good t y → parse_table x ≡ good t y
unfolding parse
parse-table x t y h = (or-good (parse_table x) (walk x) t y h).0

pub parse-walk : (x : List ℕ) (t : Table) (y : List ℕ) → parse x ≡ good t y → NoFault (walk x)
unfolding parse
parse-walk x t y h = (or-good (parse_table x) (walk x) t y h).1

pub table-parse : (x : List ℕ) → NoFault (walk x) → parse x ≡ parse_table x
unfolding parse
table-parse x h = good-or (parse_table x) (walk x) h
