-- A table's answer, by numbers and bytes: "then the first record with a fault decides, by its first byte, and there the lowest number". The
-- parser has found its own; the walk over homes may have found 11 at a byte.
use Rattle.rules.specs.Verdict.{table_fault}
use Rattle.rules.specs.declared.TableFault.{TableFault}
use Rattle.rules.specs.declared.ByteLength.{ByteLength}
use Rattle.std.specs.Prelude.{ℕ, ◌-◌, List, true, false, ◌&&◌, ◌||◌, length, ltb, eqb, Err, Ok, Result}
use Rattle.rules.specs.Place.{byte_length}
use Rattle.rules.specs.Faults.{slot_not_allowed}
use Rattle.rules.specs.Homes.{Walked, fault, walked, lost}

-- the byte of t at which the walk finds a fault; where it finds none, the table's length
unfoldable pub fault_byte : List ℕ → Walked → ℕ
fault_byte t (fault y) = length t - length y
fault_byte t (walked h x) = length t
fault_byte t lost = length t

-- of a table of l bytes: its answer, or 11 at the byte p below l, whichever is earlier; at one byte the lower number
unfoldable pub earlier : ℕ → Result ByteLength TableFault → ℕ → Result ByteLength TableFault
earlier l (Ok n) p = elim (ltb p l) [ true ↦ Err (table_fault slot_not_allowed (byte_length p)) | false ↦ Ok n ]
earlier l (Err v) p =
    elim (ltb p l && (ltb p v.byte.0 || (eqb p v.byte.0 && ltb slot_not_allowed v.number))) [
      | true ↦ Err (table_fault slot_not_allowed (byte_length p))
      | false ↦ Err v
    ]
