-- That a reading was answered: its result, and what it leaves in the list.
use Rattle.std.specs.Prelude.{ℕ, ◌≡◌, List}
use Rattle.rules.specs.declared.Report.{Report}
use Rattle.rules.specs.Read.{Reading, result_of, list_after}

pub record Answers (x : Reading) (r : Report) (ws ws' : List ℕ) : Type 0 where
  pub result : r ≡ result_of x
  pub list : ws' ≡ list_after x ws
