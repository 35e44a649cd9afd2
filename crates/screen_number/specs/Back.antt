-- From a line back to its words and numbers. Whoever reads the lines of `ctf read` reads them so.
use Rattle.std.specs.Prelude.{ℕ, zero, suc, ◌+◌, ◌-◌, ◌*◌, ◌^◌, List, [], ◌∷◌, Bool, true, false, ◌&&◌, ◌||◌, eqb, ltb}
use Rattle.screen_number.specs.Number.{blank, minus, line_end}

-- words of a line, by blanks
unfoldable pub is_end : ℕ → Bool
is_end b = elim (eqb b blank) [ true ↦ true | false ↦ eqb b line_end ]

unfoldable pub token : List ℕ → List ℕ
token [] = []
token (b ∷ x) = elim (is_end b) [ true ↦ [] | false ↦ b ∷ token x ]

unfoldable pub after_token : List ℕ → List ℕ
after_token [] = []
after_token (b ∷ x) = elim (is_end b) [ true ↦ b ∷ x | false ↦ after_token x ]

unfoldable pub skip : List ℕ → List ℕ
skip [] = []
skip (b ∷ x) = elim (eqb b blank) [ true ↦ skip x | false ↦ b ∷ x ]

-- a number's digits
unfoldable pub number_from : ℕ → List ℕ → ℕ
number_from a [] = a
number_from a (b ∷ x) = number_from (a * 10 + (b - 48)) x

unfoldable pub number_of : List ℕ → ℕ
number_of x = number_from 0 x

-- a word in two's complement: a minus sign is told by its byte alone
unfoldable pub value_of : List ℕ → ℕ
value_of [] = 0
value_of (b ∷ x) = elim (eqb b minus) [ true ↦ 2 ^ 64 - number_of x | false ↦ number_of (b ∷ x) ]

unfoldable pub same : List ℕ → List ℕ → Bool
same [] [] = true
same [] (b ∷ y) = false
same (a ∷ x) [] = false
same (a ∷ x) (b ∷ y) = eqb a b && same x y

-- from the ith word of a line on
unfoldable pub from : ℕ → List ℕ → List ℕ
from zero x = x
from (suc n) x = skip (after_token (from n x))

-- the digits that a word begins with, behind which a colon or a semicolon may stand
unfoldable pub number_in : ℕ → List ℕ → ℕ
number_in a [] = a
number_in a (b ∷ x) = elim (ltb b 48 || ltb 57 b) [ true ↦ a | false ↦ number_in (a * 10 + (b - 48)) x ]

unfoldable pub number_at : ℕ → List ℕ → ℕ
number_at n x = number_in 0 (token (from n x))
