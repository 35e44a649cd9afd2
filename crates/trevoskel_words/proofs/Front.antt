-- The first words of a lent slice are `written` when there are as many as words or room allow.
use mathlib.Core.Path.{◌≡◌, refl}
use Prim.Native.Nat.{ℕ, ◌≤◌, min}
use native.Mathlib.Omega.{arith}
use native.Mathlib.Nat.{le_antisymm}
use mathlib.Core.Logic.{⊎_elim}
use mathlib.Core.List.{List, ◌++◌}
use lib.ListN.{length, take, drop, drop_of_length-le}
use lib.Seq.{take_all}
use Rattle.std.proofs.lemmas.Bool.{cases_lt}
use Rattle.trevoskel_words.specs.Written.{written}

-- the first i words stand, and behind them what was there
abbrev front : ℕ → List ℕ → List ℕ → List ℕ
front i ws old = take i ws ++ drop i old

-- no word is left
front-words : (i : ℕ) (ws old : List ℕ) → i ≤ length ws → i ≤ length old → length ws ≤ i → front i ws old ≡ written ws old
unfolding written
front-words i ws old h k l =
    rw (le_antisymm h l, take_all (length ws) ws (omega arith), take_all (length old) ws (omega arith)) refl

-- no room is left
front-room : (i : ℕ) (ws old : List ℕ) → i ≤ length ws → i ≤ length old → length old ≤ i → front i ws old ≡ written ws old
unfolding written
front-room i ws old h k l =
    rw (le_antisymm k l, drop_of_length-le old {i = length old} (omega arith), drop_of_length-le old {i = length ws} (omega arith)) refl

-- as many as either allows
pub front-most : (ws old : List ℕ) → front (min (length ws) (length old)) ws old ≡ written ws old
front-most ws old = ⊎_elim
    (λ l. front-words _ ws old (omega arith) (omega arith) (omega arith))
    (λ l. front-room _ ws old (omega arith) (omega arith) (omega arith))
    (cases_lt (length ws) (length old))
