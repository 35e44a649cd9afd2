-- The slots that the records of a table name to be set, from one byte up to another: one record behind the other, in the order of their
-- bytes. That these are the slots of the class which stands there with all that it holds is a law (proofs/Sets).
use Rattle.std.specs.Prelude.{ℕ, zero, suc, ◌+◌, List, [], ◌++◌, true, false, get_or, ltb}
use Rattle.rules.specs.Record.{u8}
use Rattle.rules.specs.Class.{setting}
use Rattle.table_offsets.specs.Bodies.{body_mark}
use Rattle.table_records.specs.Named.{named_at}

-- the byte behind the record at a byte
abbrev pub behind_record : List ℕ → ℕ → ℕ
behind_record t p = p + 1 + body_mark (u8 t p)

-- of n records at most, from a byte up to an end
unfoldable pub slots_in : ℕ → List ℕ → ℕ → ℕ → List ℕ
slots_in zero t p end = []
slots_in (suc n) t p end =
    elim (ltb p end) [ true ↦ setting (named_at t p) ++ slots_in n t (behind_record t p) end | false ↦ [] ]

-- of what stands at a byte, by its size: each record takes a byte or more
unfoldable pub slots_of : List ℕ → List ℕ → ℕ → List ℕ
slots_of t s at = slots_in (get_or s at 0) t at (at + get_or s at 0)
