-- The verdict's line, the last one, and the only one that begins as it does; and the exit status.
use Rattle.rules.specs.declared.TableFault.{TableFault}
use Rattle.rules.specs.declared.ByteLength.{ByteLength}
use Rattle.std.specs.Prelude.{ℕ, List, ◌++◌, true, false, length, eqb, ltb, Err, Ok, Result}
use Rattle.std.proofs.lemmas.List.Edits.{sets}
use Rattle.rules.specs.declared.Report.{Report}
use Rattle.screen_number.specs.Number.{bytes, decimal}
use Rattle.screen_verdict.specs.Sentences.{fault, reason}

-- of a refused table (20) the place is a byte
unfoldable pub unit : ℕ → List ℕ
unit n = elim (eqb n 20) [ true ↦ bytes " at byte " | false ↦ bytes " at bit " ]

unfoldable pub refused_at : ℕ → List ℕ → ℕ → List ℕ
refused_at n u p = bytes "refused " ++ decimal n ++ u ++ decimal p ++ bytes ": "

unfoldable pub listed : ℕ → List ℕ
listed n = bytes "; " ++ decimal n ++ bytes " entries\n"

unfoldable pub accepted_line : ℕ → ℕ → List ℕ
accepted_line n p = bytes "accepted: " ++ decimal n ++ bytes " entries, " ++ decimal p ++ bytes " bits\n"

unfoldable pub refused_line : ℕ → ℕ → ℕ → ℕ → ℕ → List ℕ
refused_line n e p i j = refused_at n (unit n) p ++ reason n p i j ++ listed e

-- a reading's
unfoldable pub verdict : Report → List ℕ
verdict r =
    elim (eqb r.number 0) [
      | true ↦ accepted_line r.entries r.place
      | false ↦ refused_line r.number r.entries r.place r.first r.second
    ]

-- a table's
unfoldable pub accepted_table : ℕ → List ℕ
accepted_table n = bytes "accepted: " ++ decimal n ++ bytes " bytes\n"

unfoldable pub refused_table : ℕ → ℕ → List ℕ
refused_table n b = refused_at n (bytes " at byte ") b ++ fault n ++ bytes "\n"

unfoldable pub checked_line : Result ByteLength TableFault → List ℕ
checked_line (Ok n) = accepted_table n.0
checked_line (Err v) = refused_table v.number v.byte.0

-- of `ctf cut`, which has no list
unfoldable pub cut_refused : ℕ → ℕ → List ℕ
cut_refused n b = refused_at 20 (unit 20) b ++ reason 20 b n 0 ++ bytes "\n"

-- the exit status: 0 accepted, 1 refused
unfoldable pub status : Report → ℕ
status r = elim (eqb r.number 0) [ true ↦ 0 | false ↦ 1 ]

unfoldable pub checked_status : Result ByteLength TableFault → ℕ
checked_status (Ok n) = 0
checked_status (Err v) = 1

-- Room: every such line has less than 256 bytes. In less room than that nothing is written
unfoldable pub laid_line : List ℕ → List ℕ → List ℕ
laid_line room x = elim (ltb (length room) 256) [ true ↦ room | false ↦ sets room 0 x ]

unfoldable pub laid_length : List ℕ → List ℕ → ℕ
laid_length room x = elim (ltb (length room) 256) [ true ↦ 0 | false ↦ length x ]
