-- A hit is the first of its ids, by the hints.
use mathlib.Core.Path.{sym, ◌∙◌}
use Rattle.class_lookup.proofs.Index.{hint, hint-found}
use Rattle.class_lookup.proofs.find_event_class.Goals as goal

pub is_event_class-requires : goal.is_event_class-requires
is_event_class-requires c = ((hint c.requires.hints _ c.wide32-place.ensures.0 c.if-place-eq0.false).stands, c.requires.sized.limit)

pub returns-then-is_event_class : goal.returns-then-is_event_class
returns-then-is_event_class c =
    hint-found _ _ (hint c.requires.hints _ c.wide32-place.ensures.0 c.if-place-eq0.false)
    (sym c.is_event_class.ensures ∙ c.if-is_event_class.true)

pub returns : goal.returns
returns c = c.search_event_class.ensures
