-- From the verdict's line back to the exit status and to the result's five numbers (number, entries, place, two ids), and what is promised
-- of it. Its words stand at fixed places of the line.
use Rattle.rules.specs.declared.TableFault.{TableFault}
use Rattle.rules.specs.declared.ByteLength.{ByteLength}
use Rattle.std.specs.Prelude.{ℕ, ◌^◌, ◌<◌, ◌≡◌, List, [], ◌∷◌, true, false, eqb, Result}
use Rattle.rules.specs.declared.Report.{Report}
use Rattle.screen_number.specs.Number.{bytes}
use Rattle.screen_number.specs.Back.{token, skip, same, number_in, number_at}
use Rattle.screen_number.specs.Safe.{SafeLine}
use Rattle.screen_verdict.specs.Verdict.{verdict, checked_line, cut_refused, status, checked_status}

-- the exit status by a line's first word, as who starts the program tells it; 2 of a line that is no verdict's
unfoldable pub status_in : List ℕ → ℕ
status_in x =
    elim (same (token x) (bytes "accepted:")) [
      | true ↦ 0
      | false ↦ elim (same (token x) (bytes "refused")) [ true ↦ 1 | false ↦ 2 ]
    ]

-- behind the last semicolon: how many entries
unfoldable pub behind_semicolon : List ℕ → List ℕ → List ℕ
behind_semicolon found [] = found
behind_semicolon found (b ∷ x) = elim (eqb b 59) [ true ↦ behind_semicolon x x | false ↦ behind_semicolon found x ]

unfoldable pub entries_in : List ℕ → ℕ
entries_in x = number_in 0 (token (skip (behind_semicolon [] x)))

-- the ids: 20 and 33 name one, 37 both
unfoldable pub first_in : ℕ → List ℕ → ℕ
first_in n x =
    elim (eqb n 20) [
      | true ↦ number_at 10 x
      | false ↦ elim (eqb n 33) [ true ↦ number_at 11 x | false ↦ elim (eqb n 37) [ true ↦ number_at 15 x | false ↦ 0 ] ]
    ]

unfoldable pub second_in : ℕ → List ℕ → ℕ
second_in n x = elim (eqb n 37) [ true ↦ number_at 11 x | false ↦ 0 ]

unfoldable pub told_result : List ℕ → List ℕ
told_result x =
    elim (same (token x) (bytes "accepted:")) [
      | true ↦ 0 ∷ number_at 1 x ∷ number_at 3 x ∷ 0 ∷ 0 ∷ []
      | false ↦ number_at 1 x ∷ entries_in x ∷ number_at 4 x ∷ first_in (number_at 1 x) x ∷ second_in (number_at 1 x) x ∷ []
    ]

-- "number (0 accepted), entries, place, two ids", "Ids are 0 elsewhere." (Refusing a stream): what every reading answers
pub record OfAReading (r : Report) : Type 0 where
  pub number : r.number < 2 ^ 64
  pub entries : r.entries < 2 ^ 64
  pub place : r.place < 2 ^ 64
  pub first : r.first < 2 ^ 64
  pub second : r.second < 2 ^ 64
  pub no-first : (r.number ≡ 20 → ⊥) → (r.number ≡ 33 → ⊥) → (r.number ≡ 37 → ⊥) → r.first ≡ 0
  pub no_second : (r.number ≡ 37 → ⊥) → r.second ≡ 0

abbrev pub numbers_of : Report → List ℕ
numbers_of r = r.number ∷ r.entries ∷ r.place ∷ r.first ∷ r.second ∷ []

abbrev pub ResultTold : Type 0
ResultTold = (r : Report) → OfAReading r → told_result (verdict r) ≡ numbers_of r

-- the status is told by the line's first word: of a reading, of a table's check, and of `ctf cut`, whose line is a refusal's
pub record StatusTold : Type 0 where
  pub reading : (r : Report) → status_in (verdict r) ≡ status r
  pub table : (c : Result ByteLength TableFault) → status_in (checked_line c) ≡ checked_status c
  pub cut : (n b : ℕ) → status_in (cut_refused n b) ≡ 1

-- each of these is one line of printable bytes, whatever the numbers are
pub record VerdictSafe : Type 0 where
  pub reading : (r : Report) → SafeLine (verdict r)
  pub table : (c : Result ByteLength TableFault) → SafeLine (checked_line c)
  pub cut : (n b : ℕ) → SafeLine (cut_refused n b)
