-- The records of a table, one behind the other from its first byte on, and the number of each within its own fragment: "counted from 0 at
-- the record that opens it" (02, 7). A reading asks for the number of the record at a byte (`number_at`).
use Rattle.std.specs.Prelude.{◌≡◌, ℕ, zero, suc, ◌+◌, List, Bool, true, false, drop, eqb, ltb}
use Rattle.rules.specs.Record.{u8, size}

-- "Kinds 1 to 5 open a fragment." (The class table)
unfoldable pub opens_fragment : ℕ → Bool
opens_fragment k = ltb k 6

-- the number of a record of the kind k behind one with the number m
unfoldable pub number_behind : ℕ → ℕ → ℕ
number_behind k m = elim (opens_fragment k) [ true ↦ 0 | false ↦ m + 1 ]

-- the byte behind the record at a byte
abbrev pub next_record : List ℕ → ℕ → ℕ
next_record t p = p + size (drop p t)

-- where the kth record stands, from 0; and its number
unfoldable pub record_place : List ℕ → ℕ → ℕ
record_place t zero = 0
record_place t (suc k) = next_record t (record_place t k)

unfoldable pub record_number : List ℕ → ℕ → ℕ
record_number t zero = 0
record_number t (suc k) = number_behind (u8 t (record_place t (suc k))) (record_number t k)

-- a record begins at a byte
pub record Begins (t : List ℕ) (at : ℕ) : Type 0 where
  pub index : ℕ
  pub place : record_place t index ≡ at

-- the number of the record at a byte, of k records or fewer from the byte p on, which has the number m; 0 where none of them begins there
unfoldable pub number_from : ℕ → List ℕ → ℕ → ℕ → ℕ → ℕ
number_from zero t at p m = 0
number_from (suc k) t at p m =
    elim (eqb p at) [
      | true ↦ m
      | false ↦ number_from k t at (next_record t p) (number_behind (u8 t (next_record t p)) m)
    ]

-- each record takes a byte or more, so that as many as there are bytes in front, and itself, are enough
unfoldable pub number_at : List ℕ → ℕ → ℕ
number_at t at = number_from (suc at) t at 0 0
