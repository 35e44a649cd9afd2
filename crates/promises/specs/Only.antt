-- No slack: any two outcomes that a function's statement allows are the same. In order: what that means of a statement; the statements of
-- the public functions, shape by shape. docs/NO-SLACK.md says which function has which shape.
use Rattle.rules.specs.declared.NoBundle.{NoBundle}
use Rattle.rules.specs.declared.ByteLength.{ByteLength}
use Rattle.std.specs.Prelude.{◌≡◌, ℕ, ◌<◌, ◌≤◌, List, Result}
use Rattle.rules.specs.Slots.{Slots}
use Rattle.rules.specs.Step.{Step}
use Rattle.clock.specs.declared.Clock.{Clock}
use Rattle.table_offsets.specs.Walks.{Walk}
use Rattle.table_offsets.specs.Faults.{fault_number, walk}
use Rattle.listing.specs.declared.Progress.{Progress}
use Rattle.listing.specs.Did.{RoleDid}
use Rattle.field_read.specs.Reads.{FieldReads}
use Rattle.class_layout.specs.Sizes.{OpeningOf}
use Rattle.class_layout.specs.Notes.{Notes, Made, Reaches}
use Rattle.promises.specs.declared.Both.{Both}
use Rattle.promises.specs.Apart.{TwoStreams}
use Rattle.promises.specs.Demands.{call, Contract, OneCall, TwoCalls}
use Rattle.promises.specs.SmallestCalls.{cut, CutOnce}
use Rattle.promises.specs.Results.{Answer, Of}

-- a statement of a result that allows one
pub record Only {A : Type 0} (S : A → Type 0) : Type 0 where
  pub same : (r r' : A) → S r → S r' → r ≡ r'

-- a statement of a result and of a lent list afterwards that allows one of each
pub record OnlyBoth {A : Type 0} (S : A → List ℕ → Type 0) : Type 0 where
  pub same : (r r' : A) (ws ws' : List ℕ) → S r ws → S r' ws' → (r ≡ r') × (ws ≡ ws')

pub record NoSlack : Type 0 where
  -- `r ≡ …`, for each type of result; and for numbers the same beside a bound
  pub equation : (a : Answer) (v : Of a) → Only {A = Of a} (λ r. r ≡ v)
  pub below : (v n : ℕ) → Only (λ r. (r ≡ v) × (r < n))
  pub at_most : (v n : ℕ) → Only (λ r. (r ≡ v) × (r ≤ n))
  -- a struct of one field
  pub clock : (n : ℕ) → Only {A = Clock} (λ r. r.value ≡ n)
  -- `read`, and the calls of it that promise
  pub reading : (x b ws : List ℕ) → OnlyBoth (λ r ws'. Contract x b (call r ws ws'))
  pub once : (x b ws : List ℕ) → OnlyBoth (λ r ws'. OneCall x b (call r ws ws'))
  pub both : (x x' b ws vs : List ℕ) (r r' : Both) (wr wr' vr vr' : List ℕ)
      → TwoCalls x x' b (call r.first ws wr) (call r.second vs vr)
      → TwoCalls x x' b (call r'.first ws wr') (call r'.second vs vr') → (r ≡ r') × (wr ≡ wr') × (vr ≡ vr')
  pub streams : (x b b' ws vs : List ℕ) (r r' : Both) (wr wr' vr vr' : List ℕ)
      → TwoStreams x b b' (call r.first ws wr) (call r.second vs vr)
      → TwoStreams x b b' (call r'.first ws wr') (call r'.second vs vr') → (r ≡ r') × (wr ≡ wr') × (vr ≡ vr')
  -- a bundle that is cut: the result, the lists and the buffer
  pub cut-bundle : (x b ns ms ws out : List ℕ) (r r' : Result ByteLength NoBundle) (wr wr' or or' : List ℕ)
      → CutOnce x b ns ms (cut r ws wr out or) → CutOnce x b ns ms (cut r' ws wr' out or') → (r ≡ r') × (wr ≡ wr') × (or ≡ or')
  -- a role, a field
  pub role : (m : Step) (st : Progress) (ws : List ℕ) → OnlyBoth (λ r ws'. RoleDid m st r ws ws')
  pub field : (m : Step) (st : Progress) (l : Slots) (ws : List ℕ) → OnlyBoth (λ r ws'. FieldReads m st l r ws ws')
  -- how far a class reaches
  pub reach : (t : List ℕ) (x : Notes) (p : ℕ) → Only (λ r. Reaches t x p r)
  -- what is noted of a table, both lists
  pub notes : (t : List ℕ) (x : Notes) → Only (λ y. Made t x y)
  pub opening : (k : ℕ) → Only (λ r. OpeningOf k r)
  -- a test of a table and a walk over it, by their numbers
  pub fault : (n : ℕ) → Only (λ r. fault_number r ≡ n)
  pub walked : (w : Walk) → Only (λ r. walk r ≡ w)
