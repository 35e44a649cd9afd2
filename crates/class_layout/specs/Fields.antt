-- Fields in a row: n of them from a byte of the table on, of classes that stand one behind the other, or again and again of the class
-- there, whose record's number each has. They may have d depths.
use Rattle.std.specs.Prelude.{ℕ, List, Bool, true, false}
use Rattle.rules.specs.Step.{Step}
use Rattle.rules.specs.Field.{Env, read, read_members, times}
use Rattle.class_layout.specs.Numbers.{number_at}
use Rattle.class_layout.specs.Trees.{stood_at, class_at, members_at, IsWhole, WholeMembers}

unfoldable pub read_fields : Bool → ℕ → List ℕ → ℕ → ℕ → Env → Step
read_fields false d t at n e = read_members e (number_at t at) (members_at (stood_at d t) at n)
read_fields true d t at n e = times n (read e (number_at t at) (class_at d t at))

-- their classes stand whole
unfoldable pub WholeFields : Bool → ℕ → List ℕ → ℕ → ℕ → Type 0
WholeFields false d t at n = WholeMembers (IsWhole d t) (stood_at d t) at n
WholeFields true d t at n = IsWhole d t at

-- where the next one's class stands, behind one that stands at a byte and ends before another
unfoldable pub onward : Bool → ℕ → ℕ → ℕ
onward false at next = next
onward true at next = at
