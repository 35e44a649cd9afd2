-- Roots that were looked for: which class each is, its record's number, that it stands whole, and an event's roots one behind the other.
use Rattle.std.specs.Prelude.{◌≡◌, ℕ, List, Option, None, Some}
use Rattle.rules.specs.Limits.{depth_limit}
use Rattle.rules.specs.Class.{Class}
use Rattle.rules.specs.Step.{Step, ◌⨾◌}
use Rattle.rules.specs.Field.{Env}
use Rattle.rules.specs.Table.{StreamClass, EventClass}
use Rattle.rules.specs.Packet.{read_root, first_root, common_number, payload_number}
use Rattle.class_layout.specs.Numbers.{number_at}
use Rattle.class_layout.specs.Trees.{class_at, IsWhole}

-- the class
unfoldable pub class_of : List ℕ → Option ℕ → Option Class
class_of t None = None
class_of t (Some p) = Some (class_at depth_limit t p)

-- the number of its record, where there is one; and that this is m
unfoldable pub number_of : List ℕ → Option ℕ → ℕ
number_of t None = 0
number_of t (Some p) = number_at t p

unfoldable pub Numbered : List ℕ → Option ℕ → ℕ → Type 0
Numbered t None m = Unit {0}
Numbered t (Some p) m = number_at t p ≡ m

-- that it stands whole
unfoldable pub RootStands : List ℕ → Option ℕ → Type 0
RootStands t None = Unit {0}
RootStands t (Some p) = IsWhole depth_limit t p

-- common, specific, payload
unfoldable pub parts_of : Env → StreamClass → EventClass → Step
parts_of e c d = read_root e (common_number c) c.common ⨾ read_root e first_root d.specific ⨾ read_root e (payload_number d) d.payload
