-- By the table of body lengths.
use mathlib.Core.Path.{sym, ◌∙◌}
use native.Mathlib.Omega.{arith}
use Rattle.class_layout.proofs.ClassRecords.{class-bytes, class-known}
use Rattle.class_layout.proofs.record_size.Goals as goal

-- A body of so many bytes

pub overflow_add-result : goal.overflow_add-result
overflow_add-result c = omega (arith, class-bytes _ _ c.requires.0 c.requires.1 (sym c.body_of.ensures ∙ c.in-Some.is))

pub returns-in-Some : goal.returns-in-Some
returns-in-Some c =
    let n = class-bytes _ _ c.requires.0 c.requires.1 (sym c.body_of.ensures ∙ c.in-Some.is) in
    (n.0, omega (arith, n.1))

-- No class has an unknown body

pub returns-in-None : goal.returns-in-None
returns-in-None c = absurd (class-known _ c.requires.0 c.requires.1 (sym c.body_of.ensures ∙ c.in-None.is))
