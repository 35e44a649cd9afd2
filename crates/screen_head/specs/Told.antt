-- From a line back to its entry's five words, and what is promised of it. Whoever reads the lines of `ctf read`, a writer among them,
-- reads them so.
use Rattle.std.specs.Prelude.{ℕ, ◌+◌, ◌^◌, ◌<◌, ◌≡◌, List, [], ◌∷◌, ◌++◌, true, false, drop}
use Rattle.screen_number.specs.Back.{token, number_of, value_of, same, from, is_end}
use Rattle.screen_head.specs.Kinds.{Row, rows}
use Rattle.screen_head.specs.Head.{Five, head}

-- the kind of a word: its row's number; behind "kind-", a number
unfoldable pub kind_from : List Row → ℕ → List ℕ → ℕ
kind_from [] k x = number_of (drop 5 x)
kind_from (r ∷ rs) k x = elim (same r.name x) [ true ↦ k | false ↦ kind_from rs (k + 1) x ]

unfoldable pub kind_of : List ℕ → ℕ
kind_of x = kind_from rows 0 x

-- the five words of a line
unfoldable pub told_words : List ℕ → List ℕ
told_words x =
    kind_of (token x) ∷ number_of (token (from 1 x)) ∷ number_of (token (from 2 x)) ∷ value_of (token (from 3 x)) ∷ number_of (token (from 4 x))
    ∷ []

-- the words of an entry are of 64 bits
pub record Words64 (e : Five) : Type 0 where
  pub kind : e.kind < 2 ^ 64
  pub place : e.place < 2 ^ 64
  pub bits : e.bits < 2 ^ 64
  pub value : e.value < 2 ^ 64
  pub number : e.number < 2 ^ 64

abbrev pub words_of : Five → List ℕ
words_of e = e.kind ∷ e.place ∷ e.bits ∷ e.value ∷ e.number ∷ []

-- what ends a word: a blank, or the line's end
abbrev pub Ends : List ℕ → Type 0
Ends [] = Unit {0}
Ends (b ∷ x) = is_end b ≡ true

-- from a line the entry's words are told, whatever stands behind its head
abbrev pub HeadTold : Type 0
HeadTold = (e : Five) (t : List ℕ) → Words64 e → Ends t → told_words (head e ++ t) ≡ words_of e
