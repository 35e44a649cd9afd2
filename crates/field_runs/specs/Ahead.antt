-- What a run still reads, by the classes that stand at its bytes of the table t, d depths each, and their records' numbers; and that these
-- stand whole.
use Rattle.std.specs.Prelude.{◌≡◌, ℕ, ◌<◌, List, [], ◌⊎◌, Bool, true, false}
use Rattle.rules.specs.Class.{Class, sets}
use Rattle.rules.specs.Step.{Step, ◌⨾◌, pass}
use Rattle.rules.specs.Field.{Env, read, read_members, times, forget}
use Rattle.class_layout.specs.Numbers.{number_at}
use Rattle.class_layout.specs.Trees.{stood_at, class_at, members_at, IsWhole, WholeMembers}
use Rattle.class_layout.specs.Words.{SaysSet}
use Rattle.field_runs.specs.declared.Run.{Run}
use Rattle.field_runs.specs.Run.{forgetting}

-- the end of an element, if one is open; and an element of an array, or a class that is none
unfoldable pub closes : Bool → Class → Step
closes true c = forget c
closes false c = pass

unfoldable pub element_read : Bool → Env → ℕ → Class → Step
element_read true e m c = forget c ⨾ read e m c ⨾ forget c
element_read false e m c = read e m c

unfoldable pub ahead : ℕ → List ℕ → Env → Run → Step
ahead d t e r =
    read_members e (number_at t r.next) (members_at (stood_at d t) r.next r.todo)
    ⨾ closes (forgetting r) (class_at d t r.again)
    ⨾ times r.more (element_read (forgetting r) e (number_at t r.again) (class_at d t r.again))
    ⨾ read_members e (number_at t r.later) (members_at (stood_at d t) r.later r.rest)

pub record WholeRun (d : ℕ) (t : List ℕ) (r : Run) : Type 0 where
  pub members : WholeMembers (IsWhole d t) (stood_at d t) r.next r.todo
  pub elements : 0 < r.more → IsWhole d t r.again
  pub element : forgetting r ≡ true → IsWhole d t r.again
  pub forgotten : forgetting r ≡ true → SaysSet r.forgets (sets (class_at d t r.again))
  pub later : WholeMembers (IsWhole d t) (stood_at d t) r.later r.rest

-- the number f is right for n elements of a class that sets l: 0 where there is nothing to forget; else it says which, and there is an
-- element
pub record Forgets (n f : ℕ) (l : List ℕ) : Type 0 where
  pub none : f ≡ 0 → (n ≡ 0) ⊎ (l ≡ [])
  pub some : (f ≡ 0 → ⊥) → (0 < n) × SaysSet f l
