-- What holds of every entry of two lists holds of every entry of both.
use mathlib.Core.List.{List, [], ◌∷◌, ◌++◌}
use Rattle.rules.specs.declared.Entry.{Entry}
use Rattle.laws.specs.All.{All}

pub all_append : (P : Entry → Type 0) (es fs : List Entry) → All P es → All P fs → All P (es ++ fs)
all_append P [] fs h k = k
all_append P (e ∷ es) fs h k = (h.0, all_append P es fs h.1 k)
