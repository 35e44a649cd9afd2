-- By the entry's kind: a stream class that is then in front, an event class and the stream class in front, or nothing.
use native.Mathlib.Omega.{arith}
use Rattle.bundle_marks.proofs.Marking.{stream-below, event-below, front-place, stream-named, event-named, none_named}
use Rattle.bundle_marks.proofs.mark_entry.Goals as goal

pub mark_place-requires : goal.mark_place-requires
mark_place-requires c =
    let a = c.args in
    let r = c.requires in
    stream-below r.sized.0 _ r.place_value.1 a.value (front-place a.table.now a.value c.in_front-found.ensures)

pub returns-then-kind-eq-STREAM_CLASS_FOUND : goal.returns-then-kind-eq-STREAM_CLASS_FOUND
returns-then-kind-eq-STREAM_CLASS_FOUND c =
    let a = c.args in
    stream-named a.table.now a.marks.now a.kind a.value a.front.id c.if-kind-eq-STREAM_CLASS_FOUND.true c.in_front-found.ensures
    c.mark_place.ensures

pub mark_place-requires-then-names_event : goal.mark_place-requires-then-names_event
mark_place-requires-then-names_event c =
    let a = c.args in
    event-below c.requires.sized.0 _ c.requires.place_value.1 a.front.id a.value c.find_event_class.ensures

pub mark_place-requires-then-names_event-2 : goal.mark_place-requires-then-names_event-2
mark_place-requires-then-names_event-2 c =
    let r = c.requires in
    let same = c.mark_place-then-names_event.auto.marks in
    stream-below r.sized.0 _ (omega (arith, same, r.place_value.1)) c.args.front.id r.place_value.0

pub returns-then-names_event : goal.returns-then-names_event
returns-then-names_event c =
    let a = c.args in
    event-named a.table.now a.marks.now a.kind a.value c.if-kind-eq-STREAM_CLASS_FOUND.false c.requires.place_value.0 c.if-names_event.true
    c.find_event_class.ensures c.mark_place-then-names_event.ensures c.mark_place-then-names_event-2.ensures

pub returns : goal.returns
returns c =
    let a = c.args in
    none_named a.table.now a.marks.now a.kind a.value c.if-kind-eq-STREAM_CLASS_FOUND.false c.requires.place_value.0 c.if-names_event.false
