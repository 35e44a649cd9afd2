-- All of its bytes, or none.
use mathlib.Core.Path.{sym, ◌∙◌}
use native.Mathlib.Omega.{arith}
use Rattle.bundle_table.proofs.One.{stays-length, goes-length}
use Rattle.bundle_table.proofs.kept_size.Goals as goal

pub stays-requires : goal.stays-requires
stays-requires c =
    let f = c.requires.1.stands in
    (omega (arith, f.onward, f.within), omega (arith, f.onward, f.within, c.requires.0.limit, c.requires.2))

pub size_at-requires : goal.size_at-requires
size_at-requires c =
    let f = c.requires.1.stands in
    omega (arith, f.onward, f.within, c.requires.0.room)

pub returns-then-stays : goal.returns-then-stays
returns-then-stays c = stays-length _ _ _ c.requires.1 (sym c.if-stays.true ∙ c.stays.ensures) c.size_at.ensures.0

pub returns : goal.returns
returns c = goes-length _ _ _ (sym c.if-stays.false ∙ c.stays.ensures)
