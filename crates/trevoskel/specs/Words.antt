-- What a caller in C gets in words: those of a table's check, of a reading and of a bundle.
use Rattle.rules.specs.declared.NoBundle.{NoBundle}
use Rattle.rules.specs.declared.TableFault.{TableFault}
use Rattle.rules.specs.declared.ByteLength.{ByteLength}
use Rattle.std.specs.Prelude.{ℕ, List, [], ◌∷◌, Result}
use Rattle.rules.specs.declared.Report.{Report}
use Rattle.rules.specs.Parse.{checked_number, checked_byte}
use Rattle.rules.specs.Bundle.{bundled_number, bundled_length, bundled_first}

-- number (0 accepted), byte (the table's length, or where the record at fault begins)
unfoldable pub checked_words : Result ByteLength TableFault → List ℕ
checked_words c = checked_number c ∷ (checked_byte c).0 ∷ []

-- "Result: number (0 accepted), entries, place, two ids." (Refusing a stream)
unfoldable pub result_words : Report → List ℕ
result_words r = r.number ∷ r.entries ∷ r.place ∷ r.first ∷ r.second ∷ []

-- number (0 written), length (the table's, or how many bytes are needed; of a refused table the byte), and a refused table's number
unfoldable pub bundled_words : Result ByteLength NoBundle → List ℕ
bundled_words b = bundled_number b ∷ bundled_length b ∷ bundled_first b ∷ []
