-- Laws of an entry's words: how many entries take, and those of two lists of entries.
--
-- length-words    each entry takes `words_per_entry` words
-- words_append    the words of two lists of entries stand one behind the other
use mathlib.Core.Path.{◌≡◌, refl, ap}
use Prim.Native.Nat.{◌*◌}
use native.Mathlib.Omega.{arith}
use mathlib.Core.List.{List, [], ◌∷◌, ◌++◌}
use lib.ListN.{length}
use Rattle.rules.specs.declared.Entry.{Entry}
use Rattle.rules.specs.Limits.{words_per_entry}
use Rattle.rules.specs.Entry.{words}

pub length-words : (es : List Entry) → length (words es) ≡ words_per_entry * length es
unfolding words
length-words [] = refl
length-words (e ∷ es) = omega (arith, length-words es)

pub words_append : (es fs : List Entry) → words (es ++ fs) ≡ words es ++ words fs
unfolding words
words_append [] fs = refl
words_append (e ∷ es) fs = ap (λ l. e.kind ∷ e.place.0 ∷ e.bits ∷ e.value ∷ e.number ∷ l) (words_append es fs)
