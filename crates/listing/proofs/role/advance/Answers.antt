-- By the room, and then by the new clock.
use mathlib.Core.Path.{refl, sym, ◌∙◌}
use Rattle.listing.specs.Roled.{list_advanced}
use Rattle.listing.proofs.Checks.{full-said, room-said}
use Rattle.listing.proofs.Roles.{advanced-full, advanced-room, stepped-too-large, stepped-on}
use Rattle.listing.proofs.role.advance.Goals as goal

pub returns-then-is_full : goal.returns-then-is_full
unfolding list_advanced
returns-then-is_full c = rw c.held.ensures (sym (advanced-full _ _ _ _ (full-said _ c.is_full.ensures c.if-is_full.true)), refl)

pub returns-in-None : goal.returns-in-None
unfolding list_advanced
returns-in-None c =
    let room = room-said _ c.is_full.ensures c.if-is_full.false in
    let told = sym c.after.ensures ∙ c.in-None.is in
    rw c.held-in-None.ensures (sym (advanced-room _ _ _ _ room ∙ stepped-too-large _ _ told), refl)

pub returns-in-Some : goal.returns-in-Some
unfolding list_advanced
returns-in-Some c =
    let room = room-said _ c.is_full.ensures c.if-is_full.false in
    let told = sym c.after.ensures ∙ c.in-Some.is in
    (sym (advanced-room _ _ _ _ room ∙ stepped-on _ _ _ told), c.write.ensures)
