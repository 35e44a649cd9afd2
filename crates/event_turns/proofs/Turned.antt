-- What a turn did in the rules' words. Where it goes on: what it listed, and then the run that it leaves and what is left of the event
-- from the turn behind it on. In order: a turn by itself; an event's beginning; its loop; a turn that was lent the rest of the list.
use Rattle.std.specs.Prelude.{Some, None, Option, Ok, Err}
use mathlib.Core.Path.{◌≡◌, refl, ap, sym, ◌∙◌}
use mathlib.Core.List.{List, [], ◌∷◌, ◌++◌}
use mathlib.Core.Bool.{Bool, true, false, ◌&&◌}
use Prim.Native.Nat.{ℕ, zero, suc, ◌+◌, ◌-◌, ◌≤◌, ◌<◌}
use native.Mathlib.Omega.{arith}
use lib.ListN.{length, drop}
use lib.Dec.{ltb, eqb}
use borrow.Author.Tests.{ltb-true, ltb-false, eqb-true, eqb-false}
use borrow.Rule.Slice.PartMut.{same_len_mid}
use Rattle.rules.specs.declared.Stop.{Stop}
use Rattle.rules.specs.declared.Refusal.{Refusal}
use Rattle.rules.specs.declared.Refusal.TheVariants.{ClockWentBack, EventClassUnknown, ListFull}
use Rattle.rules.specs.Verdict.{stop_at}
use Rattle.rules.specs.Limits.{depth_limit, words_per_entry}
use Rattle.rules.specs.Slots.{Slots}
use Rattle.rules.specs.Entry.{entry, words, event_class_found}
use Rattle.rules.specs.Step.{Out, stop, go, Step, onto, after, ◌⨾◌, pass}
use Rattle.rules.specs.Field.{Env}
use Rattle.rules.specs.Table.{StreamClass}
use Rattle.rules.specs.Packet.{mark, read_root, header_number}
use Rattle.facts.proofs.Steps.{after-onto, seq-assoc, pass-seq}
use Rattle.listing.specs.declared.Progress.{Progress}
use Rattle.listing.specs.Did.{Did, full, out_of}
use Rattle.listing.proofs.Roles.{went-no-further}
use Rattle.listing.proofs.Marks.{mark_on}
use Rattle.listing.proofs.Parts.{Part, part-start, part_step, part-stop, part_length, lent-room, lent, merged}
use Rattle.class_layout.specs.Fragments.{stream_class_at, event_class_at, asked_at, find_event_at, fragments_of}
use Rattle.class_layout.specs.Sizes.{Sized, SizedFragment}
use Rattle.field_runs.specs.declared.Run.{Run}
use Rattle.field_runs.specs.Run.{over}
use Rattle.field_runs.specs.Ahead.{ahead, WholeRun}
use Rattle.field_runs.proofs.Ahead.{over_reads}
use Rattle.event_turns.specs.declared.Asking.{Asking}
use Rattle.event_turns.specs.declared.Turn.{Turn}
use Rattle.event_turns.specs.Roots.{parts_of}
use Rattle.event_turns.specs.Ready.{OfStream}
use Rattle.event_turns.specs.Event.{body_of, held_to}
use Rattle.event_turns.specs.Left.{header_run, turns, next_due, looked_on, LookupLeft, refused_left, class_left, lookup_left}
use Rattle.event_turns.specs.Left.{looked_left, stopped_turn, due_turn, turn_behind, TurnLeft, Gives, behind_lookup, turn_left}
use Rattle.event_turns.specs.Turns.{turns_from, turns_at, Known}
use Rattle.event_turns.proofs.Bodies.{behind-first, settled, body_back, body-full, body-unknown, body-found}
use Rattle.event_turns.proofs.Bodies.{event-unknown, event-found, event-stands, back_is}
use Rattle.event_turns.proofs.Lefts.{left_back, left-full, left-unknown, left-found, left-lookup, left_other}
use Rattle.event_turns.proofs.Dues.{run-numbered, run-stands, due-from}

-- a turn at a state, by what it gave back and the list before and behind it
pub record TurnAt (t s : List ℕ) (w : Asking) (e : Env) (turn class : ℕ) (st : Progress) (l : Slots) (r : Turn) (ws ws' : List ℕ)
    : Type 0 where
  pub known : r.went ≡ Ok tt → Known t s r.turn r.class
  pub stands : r.went ≡ Ok tt → WholeRun depth_limit t r.run
  pub rises : r.went ≡ Ok tt → turn < turns → (turn < r.turn) × (r.turn ≤ turns)
  pub goes : r.went ≡ Ok tt
      → Part (turns_at t w e class turn (full st l (length ws))) (ahead depth_limit t e r.run ⨾ turns_at t w e r.class r.turn) ws ws'
      r.used (held_to r.last st) l
  pub stops : (v : Stop) → r.went ≡ Err v
      → Did (turns_at t w e class turn (full st l (length ws))) st (Err v) r.used st l ws ws'
  pub room : r.used ≤ length ws
  pub same : length ws' ≡ length ws

-- the turn that a state asks for, with so many words of room
abbrev pub turn_of : List ℕ → Asking → ℕ → ℕ → Progress → ℕ → TurnLeft
turn_of t w turn class st room = turn_left t w turn class st.place st.clock.value st.last st.said.event room

module _ (t s : List ℕ) (w : Asking) (sized : Sized t s) (of : OfStream t w) (class : ℕ) (st : Progress) (l : Slots) (e : Env)
    (ws : List ℕ) where
  abbrev Class : StreamClass
  Class = stream_class_at t w.class

  abbrev Id : ℕ
  Id = st.said.event

  -- behind the lookup or without it, an event class stands at a byte, and a root is due from a turn on
  due-at-state : (turn at last from used : ℕ) (ws' : List ℕ) → SizedFragment t s at → 2 ≤ from → turn ≤ from
      → (turn < turns → from < turns)
      → Part (turns_at t w e class turn (full st l (length ws))) (turns_at t w e at from) ws ws' used (held_to last st) l
      → TurnAt t s w e turn class st l (due_turn (looked_on at last from used) (next_due t w at from)) ws ws'
  due-at-state turn at last from used ws' stands behind onward below done =
      let d = due-from t s w of at stands from behind in
      record {
        known = λ on. (omega (arith, behind, d.onward), λ _. stands);
        stands = λ on. d.stands;
        rises = λ on h. (omega (arith, onward, d.rises (below h)), d.bound (omega (arith, below h)));
        goes = λ on. rw (d.reads e) at done;
        stops = λ v off. let z : ◌≡◌ {A = ℕ} 0 1 = cc in absurd (omega arith);
        room = done.room;
        same = part_length done;
      }

  -- the lookup's turn

  refused-at-state : (why : Refusal) → body_of (asked_at t) Class e (full st l (length ws)) ≡ stop [] (stop_at why st.place)
      → TurnAt t s w e 1 class st l (stopped_turn why st.place) ws ws
  unfolding turns_from
  refused-at-state why h = record {
    known = λ on. let z : ◌≡◌ {A = ℕ} 0 1 = cc in absurd (omega arith);
    stands = λ on. let z : ◌≡◌ {A = ℕ} 0 1 = cc in absurd (omega arith);
    rises = λ on. let z : ◌≡◌ {A = ℕ} 0 1 = cc in absurd (omega arith);
    goes = λ on. let z : ◌≡◌ {A = ℕ} 0 1 = cc in absurd (omega arith);
    stops = λ v off. let p : stop_at why st.place ≡ v = cc in rw (← p) (went-no-further _ st l (stop_at why st.place) ws h);
    room = omega arith;
    same = refl;
  }

  found-at-state : (p : ℕ) (ws' : List ℕ) → SizedFragment t s p → words_per_entry ≤ length ws
      → body_of (asked_at t) Class e (full st l (length ws))
      ≡ (mark event_class_found 0 Id ⨾ parts_of e Class (event_class_at t p)) (full (settled st) l (length ws))
      → ws' ≡ words (entry event_class_found st.place 0 Id 0 ∷ []) ++ drop words_per_entry ws
      → TurnAt t s w e 1 class st l (due_turn (looked_on p st.clock.value 2 words_per_entry) (next_due t w p 2)) ws ws'
  unfolding turns_from
  found-at-state p ws' stands room h list =
      due-at-state 1 p st.clock.value 2 words_per_entry ws' stands (omega arith) (omega arith) (λ _. omega arith) entered
    where
      entered : Part (turns_at t w e class 1 (full st l (length ws))) (turns_at t w e p 2) ws ws' words_per_entry (settled st) l
      entered = record {
        listed = entry event_class_found st.place 0 Id 0 ∷ [];
        list = list;
        counted = refl;
        room = room;
        rest = h ∙ mark_on event_class_found 0 Id _ (full (settled st) l (length ws));
      }

  -- 39, room (40) and the lookup (37)
  abbrev Lookup : LookupLeft
  Lookup = lookup_left t w st.place st.clock.value st.last Id (length ws)

  module _ (r : Turn) (ws' : List ℕ) (gave : Gives (behind_lookup t w st.place Lookup) r ws ws') where
    abbrev Looked : Type 0
    Looked = TurnAt t s w e 1 class st l r ws ws'

    abbrev back : Bool
    back = w.timed && ltb st.clock.value st.last

    gave-by : (o : LookupLeft) → Lookup ≡ o → Gives (behind_lookup t w st.place o) r ws ws'
    gave-by o left = rw (left) at gave

    refused : (why : Refusal) → Lookup ≡ refused_left why
        → body_of (asked_at t) Class e (full st l (length ws)) ≡ stop [] (stop_at why st.place) → Looked
    unfolding words turn_behind
    refused why left h = let g = gave-by (refused_left why) left in rw (g.0, g.1) (refused-at-state why h)

    told : (b : Bool) → back ≡ b → (Class.timed && ltb st.clock.value st.last) ≡ b
    told b h = back_is t w Id of st b h

    module _ (on : back ≡ false) (holds : ltb (length ws) words_per_entry ≡ false) where
      room : words_per_entry ≤ length ws
      room = ltb-false (length ws) words_per_entry holds

      looked : (x : Option ℕ) → x ≡ find_event_at t (fragments_of t) w.id Id → Looked
      unfolding class_left turn_behind
      looked None is =
          refused (EventClassUnknown w.id Id)
          (left-unknown t w st.place st.clock.value st.last Id (length ws) on holds is refl)
          (body-unknown (asked_at t) Class e st l (length ws) (told false on) room (event-unknown t w Id of is)
          ∙ ap (λ i. stop [] (stop_at (EventClassUnknown i Id) st.place)) (sym of.id))
      looked (Some p) is = rw g.0
          (found-at-state p ws' (event-stands t s w.id Id p sized is) room
          (body-found (asked_at t) Class e st l (length ws) (event_class_at t p) (told false on) room (event-found t w Id of p is))
          g.1)
        where
          left : Lookup ≡ class_left w st.place st.clock.value Id (Some p)
          left = left-found t w st.place st.clock.value st.last Id (length ws) on holds is p refl

          g : (r ≡ due_turn (looked_on p st.clock.value 2 words_per_entry) (next_due t w p 2))
              × (ws' ≡ words (entry event_class_found st.place 0 Id 0 ∷ []) ++ drop words_per_entry ws)
          g = gave-by (class_left w st.place st.clock.value Id (Some p)) left

      with-room : Looked
      with-room = looked (find_event_at t (fragments_of t) w.id Id) refl

    lookup-did : Looked
    lookup-did = first back refl
      where
        second : back ≡ false → (b : Bool) → ltb (length ws) words_per_entry ≡ b → Looked
        second on true h =
            refused ListFull (left-full t w st.place st.clock.value st.last Id (length ws) on h)
            (body-full (asked_at t) Class e st l (length ws) (told false on) (ltb-true (length ws) words_per_entry h))
        second on false h = with-room on h

        first : (b : Bool) → back ≡ b → Looked
        first true h =
            refused ClockWentBack (left_back t w st.place st.clock.value st.last Id (length ws) h)
            (body_back (asked_at t) Class e st l (length ws) (told true h))
        first false h = second h (ltb (length ws) words_per_entry) refl

  -- any other turn

  module _ (turn : ℕ) (known : Known t s turn class) (other : turn ≡ 1 → ⊥) where
    due-did : TurnAt t s w e turn class st l (due_turn (looked_on class st.last turn 0) (next_due t w class turn)) ws ws
    due-did =
        let behind = behind-first turn known.0 other in
        due-at-state turn class st.last turn 0 ws (known.1 behind) behind (omega arith) (λ h. h)
        (part-start (turns_at t w e class turn) ws st l)

  -- what `open_turn` gives at a state is a turn of the event that the rules read
  pub turn-did : (turn : ℕ) → Known t s turn class → (r : Turn) (ws' : List ℕ) → Gives (turn_of t w turn class st (length ws)) r ws ws'
      → TurnAt t s w e turn class st l r ws ws'
  unfolding words turn_left turn_behind
  turn-did turn known r ws' gave = by (eqb turn 1) refl
    where
      gave-by : (o : LookupLeft) → looked_left t w turn class st.place st.clock.value st.last Id (length ws) ≡ o
          → Gives (behind_lookup t w st.place o) r ws ws'
      gave-by o left = rw (left) at gave

      by : (b : Bool) → eqb turn 1 ≡ b → TurnAt t s w e turn class st l r ws ws'
      by true h =
          let is = eqb-true turn 1 h in
          let left = left-lookup t w turn class st.place st.clock.value st.last Id (length ws) is in
          rw (is) (lookup-did r ws' (gave-by Lookup left))
      by false h =
          let other = eqb-false turn 1 h in
          let left = left_other t w turn class st.place st.clock.value st.last Id (length ws) other in
          let g = gave-by _ left in
          rw (g.0, g.1) (due-did turn known other)

-- An event's beginning: its header is a run, and the lookup's turn is next

pub known-first : (t s : List ℕ) (class : ℕ) → Known t s 1 class
known-first t s class = (omega arith, λ h. absurd (omega arith))

pub header-stands : (t : List ℕ) (w : Asking) → OfStream t w → WholeRun depth_limit t (header_run w)
unfolding header_run
header-stands t w of = run-stands t w.header of.header_stands

-- behind entry 4
pub header-begins : (t : List ℕ) (w : Asking) (e : Env) (class : ℕ) (g : Step) → OfStream t w
    → (read_root e (header_number (stream_class_at t w.class)) (stream_class_at t w.class).header
    ⨾ (body_of (asked_at t) (stream_class_at t w.class) e ⨾ g))
    ≡ (ahead depth_limit t e (header_run w) ⨾ (turns_at t w e class 1 ⨾ g))
unfolding header_run turns_from
header-begins t w e class g of = rw (run-numbered t e w.header _ of.header_numbered, of.header) refl

-- An event's loop: a run, then the turns that are left, then g

module _ (t : List ℕ) (w : Asking) (e : Env) (class : ℕ) (g : Step) where
  -- the run is over: a turn is next
  pub turn-next : (r : Run) (turn : ℕ) → over r ≡ true
      → (ahead depth_limit t e r ⨾ (turns_at t w e class turn ⨾ g)) ≡ (turns_at t w e class turn ⨾ g)
  turn-next r turn h = rw (over_reads depth_limit t e r h) (pass-seq _)

  turns-done : (turn : ℕ) → turns ≤ turn → turns_at t w e class turn ≡ pass
  unfolding turns_from
  turns-done zero h = absurd (omega arith)
  turns-done (suc zero) h = absurd (omega arith)
  turns-done (suc (suc zero)) h = absurd (omega arith)
  turns-done (suc (suc (suc zero))) h = absurd (omega arith)
  turns-done (suc (suc (suc (suc zero)))) h = absurd (omega arith)
  turns-done (suc (suc (suc (suc (suc n))))) h = refl

  -- and no turn is left: g is
  pub turns-end : (r : Run) (turn : ℕ) → over r ≡ true → turns ≤ turn → (ahead depth_limit t e r ⨾ (turns_at t w e class turn ⨾ g)) ≡ g
  turns-end r turn h k = turn-next r turn h ∙ ap (λ m. m ⨾ g) (turns-done turn k) ∙ pass-seq g

-- m was begun in the part of the list that was lent, and m' is left of it
module _ (m m' g : Step) {o : Out} {ws₀ ws : List ℕ} {used : ℕ} {st : Progress} {l : Slots} (p : Part o (m ⨾ g) ws₀ ws used st l)
    {n : ℕ} {st' : Progress} {l' : Slots} {ys : List ℕ} (q : Part (m (full st l (length (lent used ws)))) m' (lent used ws) ys n st' l') where
  begins : Step
  begins s = go q.listed (full st' l' (length (lent used ws) - n))

  begun : (m ⨾ g) (full st l (length ws₀ - used)) ≡ (begins ⨾ (m' ⨾ g)) (full st l (length ws₀ - used))
  unfolding ◌⨾◌ after begins
  begun =
      let room : length ws₀ - used ≡ length (lent used ws) = omega (arith, lent-room used ws, part_length p) in
      ap (λ r. after (m (full st l r)) g) room ∙ ap (λ x. after x g) q.rest ∙ after-onto q.listed _ g

  begins-did : Did (begins (full st l (length (lent used ws)))) st (Ok tt) n st' l' (lent used ws) ys
  unfolding out_of begins
  begins-did = record {
    listed = q.listed;
    out = refl;
    counted = q.counted;
    list = q.list;
    room = q.room;
    kept = λ w h. let z : ◌≡◌ {A = ℕ} 0 1 = cc in absurd (omega arith);
  }

  before : Part o (begins ⨾ (m' ⨾ g)) ws₀ ws used st l
  before = record { listed = p.listed; list = p.list; counted = p.counted; room = p.room; rest = p.rest ∙ ap (onto p.listed) begun }

  part-begun : Part o (m' ⨾ g) ws₀ (merged used ws ys) (used + n) st' l'
  part-begun = part_step begins (m' ⨾ g) before begins-did refl

-- a turn that was lent the list behind what is listed
module _ (t s : List ℕ) (w : Asking) (e : Env) (turn class : ℕ) (g : Step) {o : Out} {ws₀ ws : List ℕ} {used : ℕ} {st : Progress} {l : Slots}
    (p : Part o (turns_at t w e class turn ⨾ g) ws₀ ws used st l) {r : Turn} {ys : List ℕ}
    (d : TurnAt t s w e turn class st l r (lent used ws) ys) where
  pub turn-room : used + r.used ≤ length ws₀
  turn-room = omega (arith, d.room, lent-room used ws, part_length p, p.room)

  pub turn-same : length (merged used ws ys) ≡ length ws₀
  turn-same = same_len_mid used (length ws - used) ws ys d.same ∙ part_length p

  pub turn-stops : (v : Stop) → r.went ≡ Err v → (came : Progress) (l₀ : Slots)
      → Did o came (Err v) (used + r.used) came l₀ ws₀ (merged used ws ys)
  turn-stops v off came l₀ = part-stop (turns_at t w e class turn) g p (d.stops v off) v came l₀ refl

  pub turn-goes : r.went ≡ Ok tt
      → Part o (ahead depth_limit t e r.run ⨾ (turns_at t w e r.class r.turn ⨾ g)) ws₀ (merged used ws ys) (used + r.used)
      (held_to r.last st) l
  turn-goes on =
      rw (← seq-assoc (ahead depth_limit t e r.run) (turns_at t w e r.class r.turn) g)
      (part-begun (turns_at t w e class turn) (ahead depth_limit t e r.run ⨾ turns_at t w e r.class r.turn) g p (d.goes on))
