-- In the lookup's turn 39, room and the lookup, asked in the order of the rules: each stops the turn with nothing listed, or goes by.
use mathlib.Core.Path.{sym, ◌∙◌}
use Rattle.event_turns.proofs.Lefts.{left-lookup, left_other, left_back, left-full, left-unknown, left-found}
use Rattle.event_turns.proofs.Lefts.{gives_other, gives-refused, gives_found}
use Rattle.event_turns.proofs.look_up.Goals as goal

-- Not its turn

pub returns-then-turn-ne-LOOKUP : goal.returns-then-turn-ne-LOOKUP
returns-then-turn-ne-LOOKUP c =
    let both = gives_other _ _ _ _ _ _ (left_other _ _ _ _ _ _ _ _ _ c.if-turn-ne-LOOKUP.true) c.looked_on.ensures in
    record { value = both.0; list_after = both.1 }

-- 39

pub returns-then-went_back : goal.returns-then-went_back
returns-then-went_back c =
    let turn = left-lookup _ _ _ _ _ _ _ _ _ c.if-turn-ne-LOOKUP.false in
    let back = sym c.went_back.ensures ∙ c.if-went_back.true in
    let both = gives-refused _ _ _ _ (turn ∙ left_back _ _ _ _ _ _ _ back) c.not_looked.ensures in
    record { value = both.0; list_after = both.1 }

-- 40

pub returns-then-is_full : goal.returns-then-is_full
returns-then-is_full c =
    let turn = left-lookup _ _ _ _ _ _ _ _ _ c.if-turn-ne-LOOKUP.false in
    let on = sym c.went_back.ensures ∙ c.if-went_back.false in
    let full = sym c.is_full.ensures ∙ c.if-is_full.true in
    let both = gives-refused _ _ _ _ (turn ∙ left-full _ _ _ _ _ _ _ on full) c.not_looked-then-is_full.ensures in
    record { value = both.0; list_after = both.1 }

-- The lookup, and entry 5

pub returns-in-None : goal.returns-in-None
returns-in-None c =
    let turn = left-lookup _ _ _ _ _ _ _ _ _ c.if-turn-ne-LOOKUP.false in
    let on = sym c.went_back.ensures ∙ c.if-went_back.false in
    let roomy = sym c.is_full.ensures ∙ c.if-is_full.false in
    let none = left-unknown _ _ _ _ _ _ _ on roomy c.find_event_class.ensures c.in-None.is in
    let both = gives-refused _ _ _ _ (turn ∙ none) c.not_looked-in-None.ensures in
    record { value = both.0; list_after = both.1 }

pub returns-in-Some : goal.returns-in-Some
returns-in-Some c =
    let turn = left-lookup _ _ _ _ _ _ _ _ _ c.if-turn-ne-LOOKUP.false in
    let on = sym c.went_back.ensures ∙ c.if-went_back.false in
    let roomy = sym c.is_full.ensures ∙ c.if-is_full.false in
    let found = left-found _ _ _ _ _ _ _ on roomy c.find_event_class.ensures _ c.in-Some.is in
    let both = gives_found _ _ _ _ _ _ _ _ _ (turn ∙ found) c.looked_on-in-Some.ensures c.write.ensures in
    record { value = both.0; list_after = both.1 }
