-- The body of a kind, as the rules' rows have it.
use Rattle.std.specs.Prelude.{ℕ, Bool, true, false, [], get_or, Some, None, Option}
use Rattle.rules.specs.Faults.{unknown_kind}
use Rattle.rules.specs.Record.{Record, unknown, fragment, root, class, range, option, Layout, no, layouts}

-- whether there is such a kind: a row says nothing of any bytes where there is not
unfoldable pub known : Record → Bool
known unknown = false
known (fragment f) = true
known (root n) = true
known (class s) = true
known (range g l h) = true
known (option n) = true

unfoldable pub body_in : Layout → Option ℕ
body_in row = elim (known (row.1 [])) [ true ↦ Some row.0 | false ↦ None ]

unfoldable pub body_of : ℕ → Option ℕ
body_of kind = body_in (get_or layouts kind no)

-- the same as a number: the body's bytes, or a mark where there is no such kind
abbrev pub no_kind : ℕ
no_kind = 255

unfoldable pub mark : Layout → ℕ
mark row = elim (known (row.1 [])) [ true ↦ row.0 | false ↦ no_kind ]

unfoldable pub body_mark : ℕ → ℕ
body_mark kind = mark (get_or layouts kind no)

-- "unknown kind" (2)
unfoldable pub body_number : Option ℕ → ℕ
body_number (Some n) = 0
body_number None = unknown_kind
