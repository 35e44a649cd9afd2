-- What a call of `bundle` did, and what reading the streams leaves in the lists.
use Rattle.rules.specs.declared.NoBundle.{NoBundle}
use Rattle.rules.specs.declared.ByteLength.{ByteLength}
use Rattle.std.specs.Prelude.{◌≡◌, ℕ, List, ◌++◌, length, Result}
use Rattle.rules.specs.Read.{Reading}
use Rattle.rules.specs.Lists.{parts, behind_parts, words_after}
use Rattle.rules.specs.Bundle.{bundle_readings, bundle_answer, bundle_of, lists_after, buffer_after}

-- the words of the lists with readings in them, and what is behind the last list
abbrev pub lists_read : List Reading → List ℕ → List ℕ → List ℕ
lists_read rs ms ws = words_after rs (parts ms ws) ++ behind_parts ms ws

-- of a table t, streams b, their lengths and rooms ns and ms, the words ws of the lists and the buffer y: the answer, and both afterwards
pub record BundleDid (t b ns ms ws y : List ℕ) (r : Result ByteLength NoBundle) (ws' y' : List ℕ) : Type 0 where
  pub answer : r ≡ bundle_answer t b ns ms ws (length y)
  pub lists : ws' ≡ lists_after r (bundle_readings t b ns ms ws) ms ws
  pub buffer : y' ≡ buffer_after r (bundle_of t (bundle_readings t b ns ms ws)) y
