-- Bits, LEB128 numbers, the check by offsets, and what an accepted table gives: shown beside their code, and gathered here.
use Rattle.bits.proofs.Cut.{bits-drop, bits-take}
use Rattle.leb128.proofs.Settled.{unsigned-settled, signed-settled}
use Rattle.table_offsets.proofs.TieCheck.{check-tie, check-once}
use Rattle.table_offsets.proofs.Earlier.{check-earlier}
use Rattle.class_layout.proofs.Asked.{table-size, all-fragments, asked-at}
use Rattle.promises.specs.Parts.{BitsCut, LebSettled, CheckTied, TableStands}

pub bits-cut : BitsCut
bits-cut = record { in-front = bits-drop; behind = bits-take }

pub leb-settled : LebSettled
leb-settled = record { unsigned = unsigned-settled; signed = signed-settled }

pub check-tied : CheckTied
check-tied = record { tie = check-tie; first = check-earlier; once = check-once }

pub table-stands : TableStands
table-stands t T y e = record { limit = table-size t T y e; fragments = all-fragments t T y e; asks = asked-at t T y e }
