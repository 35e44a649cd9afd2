-- What a lent slice holds when words were written.
use Rattle.std.specs.Prelude.{ℕ, List, ◌++◌, length, take, drop}

-- what a lent slice holds afterwards, by what it held before: as many of the words as it has room for, and behind them what was there
unfoldable pub written : List ℕ → List ℕ → List ℕ
written ws old = take (length old) ws ++ drop (length ws) old
