-- The entries of a list's words are those that were written there.
use mathlib.Core.Path.{◌≡◌, refl, ap}
use mathlib.Core.List.{List, [], ◌∷◌, ◌++◌}
use Prim.Native.Nat.{ℕ}
use lib.ListN.{length}
use Rattle.rules.specs.declared.Entry.{Entry}
use Rattle.rules.specs.Entry.{words}
use Rattle.bundle_marks.specs.Marked.{entries_of}

pub entries-of-words : (es : List Entry) (ws : List ℕ) → entries_of (length es) (words es ++ ws) ≡ es
unfolding entries_of words
entries-of-words [] ws = refl
entries-of-words (e ∷ es) ws = ap (λ l. e ∷ l) (entries-of-words es ws)
