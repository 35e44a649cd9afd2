-- An accepted table has at most 65,536 bytes, and each record takes one or more: so the numbers of its classes' records are below 65,536.
use mathlib.Core.Path.{◌≡◌, refl, sym, subst}
use Prim.Native.Nat.{ℕ, ◌+◌, ◌≤◌, ◌<◌}
use native.Mathlib.Omega.{arith}
use mathlib.Core.List.{List, [], ◌∷◌}
use mathlib.Core.Bool.{Bool, true, false, ◌||◌}
use lib.ListN.{length, length-drop}
use lib.Dec.{ltb}
use borrow.Author.Tests.{ltb-false}
use Rattle.rules.specs.Limits.{table_limit}
use Rattle.rules.specs.Record.{Fragment, Record, unknown, fragment, class, Says, no, u8, layouts, layout_of, record_of, size, behind}
use Rattle.rules.specs.Faults.{bad_size, first_fault}
use Rattle.rules.specs.Table.{Table, asked}
use Rattle.rules.specs.Parse.{Parsed, bad, good, missing, sound, parse_table, parse}
use Rattle.facts.proofs.Truth.{or-false}
use Rattle.facts.proofs.Parsed.{parse-table}
use Rattle.laws.specs.Owner.{Owner}
use Rattle.laws.proofs.Numbering.{InFragment, Walks, Numbering, accepted-numbering}

-- asked of a record's number
abbrev pub SmallRecord : ℕ → ℕ → Type 0
SmallRecord m k = m < table_limit

pub accepted-length : (x : List ℕ) (t : Table) (y : List ℕ) → parse x ≡ good t y → length x ≤ table_limit
unfolding parse_table
accepted-length x t y p = by (missing x || ltb table_limit (length x)) _ refl (parse-table x t y p)
  where
    by : (b : Bool) (o : Parsed Table) → (missing x || ltb table_limit (length x)) ≡ b
        → ◌≡◌ {A = Parsed Table} (elim b [ true ↦ bad bad_size x | false ↦ o ]) (good t y) → length x ≤ table_limit
    by true o e q = let z : ◌≡◌ {A = ℕ} 0 1 = cc in absurd (omega arith)
    by false o e q = ltb-false table_limit (length x) (or-false (missing x) (ltb table_limit (length x)) e).1

-- no bytes begin with a record
some_bytes : (x : List ℕ) → InFragment (record_of x) → 1 ≤ length x
unfolding record_of layout_of layouts no u8
some_bytes [] h = absurd h
some_bytes (b ∷ x) h = omega arith

shorter : (x : List ℕ) → 1 ≤ length x → length (behind x) < length x
unfolding behind size
shorter x h = omega (arith, length-drop (size x) x)

small-records : Walks (λ o. SmallRecord) (λ o m x. m + length x ≤ table_limit) (λ x. length x ≤ table_limit)
small-records = record {
  opens = λ x g h e. omega (arith, shorter x (first x g e));
  on = λ o m x h i. omega (arith, shorter x (some_bytes x i));
  over = λ o m x h. omega arith;
  tells = λ o m x y h e. omega (arith, some_bytes x (subst InFragment (sym e) tt));
}
  where
    first : (x : List ℕ) (g : Fragment) → record_of x ≡ fragment g → 1 ≤ length x
    first [] g e = unfold record_of layout_of layouts no u8 in let z : ◌≡◌ {A = ℕ} 0 1 = cc in absurd (omega arith)
    first (b ∷ x) g e = omega arith

pub accepted-small : (x : List ℕ) (t : Table) (y : List ℕ) → parse x ≡ good t y → Numbering (λ o. SmallRecord) (asked t)
accepted-small x t y p = accepted-numbering small-records x t y (accepted-length x t y p) p
