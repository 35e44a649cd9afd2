-- Several streams, each with a list of its own: lent as one run of bytes and one of words, with the length of each (02, 14).
use Rattle.std.specs.Prelude.{ℕ, List, [], ◌∷◌, ◌++◌, length, take, drop}
use Rattle.rules.specs.Read.{Reading, read_all, list_after}

-- one behind another, as long as their lengths say; where a length promises more than is left, what is left
unfoldable pub parts : List ℕ → List ℕ → List (List ℕ)
parts [] b = []
parts (n ∷ ns) b = take n b ∷ parts ns (drop n b)

-- what is left behind the last of them
unfoldable pub behind_parts : List ℕ → List ℕ → List ℕ
behind_parts [] b = b
behind_parts (n ∷ ns) b = behind_parts ns (drop n b)

-- "up to sixteen streams, each with its own list room": a stream for which no room is said has a list of no words
unfoldable pub readings : List ℕ → List (List ℕ) → List (List ℕ) → List Reading
readings x [] ls = []
readings x (b ∷ bs) [] = read_all x b 0 ∷ readings x bs []
readings x (b ∷ bs) (l ∷ ls) = read_all x b (length l) ∷ readings x bs ls

-- the words of the lists afterwards: a list of no stream is as it came
unfoldable pub words_after : List Reading → List (List ℕ) → List ℕ
words_after rs [] = []
words_after [] (l ∷ ls) = l ++ words_after [] ls
words_after (r ∷ rs) (l ∷ ls) = list_after r l ++ words_after rs ls
