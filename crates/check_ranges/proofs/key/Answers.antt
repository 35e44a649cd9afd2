-- The sign decides whether the word is moved.
use Rattle.std.proofs.Common.{sym, eq-eqb, ne_eqb}
use Rattle.table_offsets.specs.Check.{key, pick_n}
use Rattle.check_ranges.proofs.key.Goals as goal

pub returns-then-sign-eq0 : goal.returns-then-sign-eq0
unfolding key pick_n
returns-then-sign-eq0 c = simp (eq-eqb _ _ c.if-sign-eq0.true)

pub returns-else-sign-eq0 : goal.returns-else-sign-eq0
unfolding key pick_n
returns-else-sign-eq0 c = simp (ne_eqb _ _ c.if-sign-eq0.false, sym c.wrapping_add_u64.ensures.value)
