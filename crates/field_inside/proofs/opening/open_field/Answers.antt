-- By what is told of the field.
use native.Mathlib.Omega.{arith}
use mathlib.Core.Path.{◌≡◌, ◌∙◌}
use Rattle.rules.specs.Record.{u8}
use Rattle.class_layout.specs.Notes.{number_noted}
use Rattle.field_inside.specs.Opening.{opened_as, list_opened}
use Rattle.field_inside.proofs.Holders.{record-there}
use Rattle.field_inside.proofs.Entering.{opened-by}
use Rattle.field_inside.proofs.opening.open_field.Goals as goal
use Rattle.field_inside.proofs.opening.open_field.Lts as lts
use Rattle.field_inside.proofs.opening.open_field.Tie as tie
use Rattle.field_inside.proofs.opening.open_field.Reads as reads

-- Places of the code, in its order: all is given; the kind can be read; the record's number was; the field was looked at; it is refused; it
-- holds members, and its entry is written; or elements, its entry is written, and what is forgotten around each is told

abbrev AtStart : Type 0
AtStart = lts.Start tie.the-claims reads.Pre reads.Post tie.handed_clauses

abbrev AtKind : Type 0
AtKind = lts.After-shared_slice_known4 tie.the-claims reads.Pre reads.Post tie.handed_clauses

abbrev AtNumber : Type 0
AtNumber = lts.After-number_of tie.the-claims reads.Pre reads.Post tie.handed_clauses

abbrev AtTold : Type 0
AtTold = lts.After-look tie.the-claims reads.Pre reads.Post tie.handed_clauses

abbrev AtRefused : Type 0
AtRefused = lts.Past-After-known_told tie.the-claims reads.Pre reads.Post tie.handed_clauses

abbrev AtMembers : Type 0
AtMembers = lts.Past-After-known_told2 tie.the-claims reads.Pre reads.Post tie.handed_clauses

abbrev AtMembersListed : Type 0
AtMembersListed = lts.After-list_holder tie.the-claims reads.Pre reads.Post tie.handed_clauses

abbrev AtElements : Type 0
AtElements = lts.Past-After-known_told3 tie.the-claims reads.Pre reads.Post tie.handed_clauses

abbrev AtElementsListed : Type 0
AtElementsListed = lts.After-list_holder2 tie.the-claims reads.Pre reads.Post tie.handed_clauses

abbrev AtForgotten : Type 0
AtForgotten = lts.After-forgotten_around tie.the-claims reads.Pre reads.Post tie.handed_clauses

-- The way back from each to the one before

abbrev to_start : AtKind → AtStart
to_start c = c.before.before.before.before.before

abbrev number-start : AtNumber → AtStart
number-start c = c.before.before.before.before.before.before.before

abbrev to_number : AtTold → AtNumber
to_number c = c.before

abbrev told-start : AtTold → AtStart
told-start c = c.before.before.before.before.before.before.before.before

abbrev refused-told : AtRefused → AtTold
refused-told c = c.before

abbrev members-told : AtMembers → AtTold
members-told c = c.before

abbrev to-members : AtMembersListed → AtMembers
to-members c = c.before.before

abbrev elements-told : AtElements → AtTold
elements-told c = c.before

abbrev to-elements : AtElementsListed → AtElements
to-elements c = c.before.before

abbrev to-listed : AtForgotten → AtElementsListed
to-listed c = c.before.before.before

-- What is known at them

numbered : (c : AtNumber) →
    let a = c.args in
    c.number_of-number.result ≡ number_noted a.aligns.now a.at
unfolding number_noted
numbered c = c.number_of-number.ensures.0

-- Looked at

pub bounds-table-at : goal.bounds-table-at
bounds-table-at c = omega (arith, record-there c.requires.holder_stands)

pub bounds-aligns-at : goal.bounds-aligns-at
bounds-aligns-at c =
    let h = c.requires.holder_stands in
    omega (arith, record-there h, h.aligns)

pub look-requires : goal.look-requires
look-requires c = record { holder_stands = c.requires.holder_stands; start_le_place = c.requires.start_le_place }

-- It holds members

pub list_holder-requires : goal.list_holder-requires
list_holder-requires c = c.requires.words_per_entry_in_bounds

-- It holds elements

pub list_holder-requires-in-Elements : goal.list_holder-requires-in-Elements
list_holder-requires-in-Elements c = c.requires.words_per_entry_in_bounds

-- What is said of each

pub returns-in-Refused : goal.returns-in-Refused
unfolding opened_as list_opened
returns-in-Refused c =
    let d = c.before.before in
    let both = opened-by _ _ _ _ (numbered (to_number (refused-told d))) d.look.ensures d.in-Refused.is in record { value = both.0; list_after = both.1 }

pub shape_of-list-in-Members : goal.shape_of-list-in-Members
shape_of-list-in-Members c = c.list_holder.auto.list

pub returns-in-Members : goal.returns-in-Members
unfolding opened_as list_opened u8
returns-in-Members c =
    let l = c.before.before.before.before in
    let m = to-members l in
    let q = opened-by _ _ _ _ (numbered (to_number (members-told m))) m.look.ensures m.in-Members.is in
    record { value = c.went_in.ensures ∙ q.0; list_after = l.list_holder.ensures ∙ q.1 }

pub shape_of-list-in-Elements : goal.shape_of-list-in-Elements
shape_of-list-in-Elements c = c.list_holder-in-Elements.auto.list

pub returns-in-Elements : goal.returns-in-Elements
unfolding opened_as list_opened u8
returns-in-Elements c =
    let l = to-listed c.before.before in
    let m = to-elements l in
    let q = opened-by _ _ _ _ (numbered (to_number (elements-told m))) m.look.ensures m.in-Elements.is in
    record { value = rw c.forgotten_around-forgets.ensures at c.went_in-in-Elements.ensures ∙ q.0; list_after = l.list_holder-in-Elements.ensures ∙ q.1 }
