-- Demand 1, and what less room does: of every call that meets the contract.
use Rattle.std.specs.Prelude.{None, Err}
use mathlib.Core.Path.{◌≡◌, refl, sym, ap, subst, ◌∙◌}
use mathlib.Core.Logic.{◌⊎◌, inl, inr}
use Prim.Native.Nat.{ℕ, ◌+◌, ◌-◌, ◌*◌, ◌/◌, ◌≤◌, ◌<◌}
use native.Mathlib.Omega.{arith}
use mathlib.Core.List.{List, [], ◌++◌}
use mathlib.Core.Bool.{Bool, true, false, ◌||◌}
use lib.Dec.{ltb, eqb}
use lib.ListN.{length, take, drop, length-append, length-drop}
use lib.Seq.{take_all, take_at, drop_at, take-length}
use Rattle.rules.specs.declared.Refusal.{Refusal}
use Rattle.rules.specs.declared.Refusal.TheVariants.{StreamSize, PastBound, OrderChanged, LebTooLarge, NoZeroByte, SlotUnset}
use Rattle.rules.specs.declared.Refusal.TheVariants.{SlotOfWrongSort, LengthTooLarge, SelectorInNoOption, WrongMagic, WrongUuid}
use Rattle.rules.specs.declared.Refusal.TheVariants.{StreamClassChanged, StreamClassUnknown, LengthsContradict, ClocksContradict}
use Rattle.rules.specs.declared.Refusal.TheVariants.{ClockTooLarge, EventClassUnknown, EventTookNoBits, ClockWentBack, ListFull, NotText}
use Rattle.rules.specs.declared.Verdict.{Verdict}
use Rattle.rules.specs.declared.Verdict.TheVariants.{Accepted, TableRefused, Refused}
use Rattle.rules.specs.Limits.{words_per_entry}
use Rattle.rules.specs.Entry.{words}
use Rattle.rules.specs.Verdict.{stop_at, refusal_number, refusal_first, refusal_second, number_of, place_of, first_of, second_of, table_fault}
use Rattle.rules.specs.Limits.{stream_limit}
use Rattle.rules.specs.Place.{bit_place}
use Rattle.rules.specs.Step.{Out, stop, go}
use Rattle.rules.specs.Table.{Table, Asked, asked}
use Rattle.rules.specs.Packet.{read_packets}
use Rattle.rules.specs.Parse.{Parsed, bad, good, parse, byte_of, checked_of, checked}
use Rattle.rules.specs.Read.{Reading, ended, begin, read_stream, read_parsed, read_all, result_of, list_after}
use Rattle.facts.proofs.Refusals.{refusal_number-bounds}
use Rattle.facts.proofs.Lists.{length-words}
use Rattle.promises.specs.Laws.{SpentReading, RanOut}
use Rattle.promises.specs.Demands.{Call, call, words_of, came_behind, Contract, ByTable, Demand1, LessRoom, LessRoomCalls}
use Rattle.promises.proofs.Laws.{the_laws}
use Rattle.promises.proofs.Numbered.{refused-number}
use Rattle.promises.proofs.Spent.{reading-spent}
use Rattle.promises.proofs.Room.{room-more}
use Rattle.promises.proofs.Calls.{lists-entries, lists-words}

-- Ids

ids-first : (r : Refusal) → (refusal_number r ≡ 33 → ⊥) → (refusal_number r ≡ 37 → ⊥) → refusal_first r ≡ 0
unfolding refusal_number refusal_first
ids-first StreamSize h k = refl
ids-first PastBound h k = refl
ids-first OrderChanged h k = refl
ids-first LebTooLarge h k = refl
ids-first NoZeroByte h k = refl
ids-first SlotUnset h k = refl
ids-first SlotOfWrongSort h k = refl
ids-first LengthTooLarge h k = refl
ids-first SelectorInNoOption h k = refl
ids-first WrongMagic h k = refl
ids-first WrongUuid h k = refl
ids-first StreamClassChanged h k = refl
ids-first (StreamClassUnknown i) h k = absurd (h refl)
ids-first LengthsContradict h k = refl
ids-first ClocksContradict h k = refl
ids-first ClockTooLarge h k = refl
ids-first (EventClassUnknown i j) h k = absurd (k refl)
ids-first EventTookNoBits h k = refl
ids-first ClockWentBack h k = refl
ids-first ListFull h k = refl
ids-first NotText h k = refl

ids-second : (r : Refusal) → (refusal_number r ≡ 37 → ⊥) → refusal_second r ≡ 0
unfolding refusal_number refusal_second
ids-second StreamSize h = refl
ids-second PastBound h = refl
ids-second OrderChanged h = refl
ids-second LebTooLarge h = refl
ids-second NoZeroByte h = refl
ids-second SlotUnset h = refl
ids-second SlotOfWrongSort h = refl
ids-second LengthTooLarge h = refl
ids-second SelectorInNoOption h = refl
ids-second WrongMagic h = refl
ids-second WrongUuid h = refl
ids-second StreamClassChanged h = refl
ids-second (StreamClassUnknown i) h = refl
ids-second LengthsContradict h = refl
ids-second ClocksContradict h = refl
ids-second ClockTooLarge h = refl
ids-second (EventClassUnknown i j) h = absurd (h refl)
ids-second EventTookNoBits h = refl
ids-second ClockWentBack h = refl
ids-second ListFull h = refl
ids-second NotText h = refl

verdict-first : (v : Verdict) → (number_of v ≡ 20 → ⊥) → (number_of v ≡ 33 → ⊥) → (number_of v ≡ 37 → ⊥) → first_of v ≡ 0
unfolding number_of first_of
verdict-first (Accepted p) g h k = refl
verdict-first (TableRefused n p) g h k = absurd (g refl)
verdict-first (Refused v) g h k = ids-first v.why h k

verdict-second : (v : Verdict) → (number_of v ≡ 37 → ⊥) → second_of v ≡ 0
unfolding number_of second_of
verdict-second (Accepted p) k = refl
verdict-second (TableRefused n p) k = refl
verdict-second (Refused v) k = ids-second v.why k

verdict-number : (v : Verdict) → (number_of v ≡ 0) ⊎ ((20 ≤ number_of v) × (number_of v ≤ 41))
unfolding number_of
verdict-number (Accepted p) = inl refl
verdict-number (TableRefused n p) = inr (omega arith)
verdict-number (Refused v) = inr (omega (arith, refusal_number-bounds v.why))

-- Readings: refused by the table's number and byte, or at a bit of the stream

record Placed (x b : List ℕ) (r : Reading) : Type 0 where
  accepted : number_of r.verdict ≡ 0 → place_of r.verdict ≡ 8 * length b
  by-table : number_of r.verdict ≡ 20 → ByTable x (result_of r)
  at-bit : 21 ≤ number_of r.verdict → place_of r.verdict ≤ 8 * length b

ended-not-20 : (o : Out) → number_of (ended o).verdict ≡ 20 → ⊥
unfolding ended number_of
ended-not-20 (stop es v) h = omega (arith, refusal_number-bounds v.why)
ended-not-20 (go es s) h = omega arith

stream-not-20 : (t : Asked) (b : List ℕ) (room : ℕ) → number_of (read_stream t b room).verdict ≡ 20 → ⊥
unfolding read_stream
stream-not-20 t b room = by (eqb (length b) 0 || ltb stream_limit (length b))
  where
    of : Bool → Reading
    of c = elim c [
      | true ↦ record { entries = []; verdict = Refused (stop_at StreamSize (bit_place 0)) }
      | false ↦ ended (read_packets t b 0 None (length b) (begin room))
    ]

    by : (c : Bool) → number_of (of c).verdict ≡ 20 → ⊥
    by true h = unfold number_of refusal_number in omega arith
    by false h = ended-not-20 _ h

placed-bad : (x b : List ℕ) (n : ℕ) (y : List ℕ) → checked x ≡ Err (table_fault n (byte_of x y)) → (1 ≤ n) × (n ≤ 15)
    → Placed x b (record { entries = []; verdict = TableRefused n (byte_of x y) })
unfolding number_of place_of result_of first_of byte_of
placed-bad x b n y k h = record {
  accepted = λ z. absurd (omega arith);
  by-table = λ z. record { check = k; number = h; byte = omega arith; none = refl };
  at-bit = λ z. absurd (omega arith);
}

placed : (x b : List ℕ) (room : ℕ) → Placed x b (read_all x b room)
placed x b room = by (parse x) refl
  where
    by : (p : Parsed Table) → parse x ≡ p → Placed x b (read_all x b room)
    by (bad n y) e =
        let q : read_all x b room ≡ record { entries = []; verdict = TableRefused n (byte_of x y) } =
        unfold read_all read_parsed in rw (e, read_all) refl in
        let k : checked x ≡ Err (table_fault n (byte_of x y)) = unfold checked checked_of in rw (e, checked) refl in
        subst (Placed x b) (sym q) (placed-bad x b n y k (refused-number x n y e))
    by (good t y) e =
        let w = the_laws x t y e in
        let q : read_all x b room ≡ read_stream (asked t) b room = unfold read_all read_parsed in rw (e, read_all) refl in
        record {
          accepted = λ h. w.ends b room h;
          by-table = λ h. absurd (stream-not-20 (asked t) b room (ap (λ r. number_of r.verdict) (sym q) ∙ h));
          at-bit = λ h. w.place_in b room;
        }

-- Demand 1

-- the one call that the contract allows, by the list that is lent
abbrev answer : List ℕ → List ℕ → List ℕ → Call
answer x b ws = call (result_of (read_all x b (length ws))) ws (list_after (read_all x b (length ws)) ws)

is-answer : (x b : List ℕ) (c : Call) → Contract x b c → answer x b c.before ≡ c
is-answer x b c h = sym (λ i. record { result = h.result i; before = c.before; after = h.list i })

answers : (x b ws : List ℕ) → Contract x b (answer x b ws)
answers x b ws = record { result = refl; list = refl }

enough : (x b ws : List ℕ) → words_per_entry * length (read_all x b (length ws)).entries ≤ length ws
enough x b ws = (reading-spent x b (length ws)).within

after-length : (r : Reading) (ws : List ℕ) → words_per_entry * length r.entries ≤ length ws → length (list_after r ws) ≡ length ws
unfolding list_after
after-length r ws h =
    let a = length-words r.entries in
    let b = length-drop (words_per_entry * length r.entries) ws in
    length-append (words r.entries) _ ∙ omega arith

answer-demand-1 : (x b ws : List ℕ) → Demand1 x b (answer x b ws)
unfolding result_of list_after
answer-demand-1 x b ws =
    let r = read_all x b (length ws) in
    let p = placed x b (length ws) in
    record {
      number = verdict-number r.verdict;
      accepted = p.accepted;
      by-table = p.by-table;
      at-bit = p.at-bit;
      first = verdict-first r.verdict;
      second = verdict-second r.verdict;
      room = enough x b ws;
      stay = lists-entries x b (answer x b ws) (answers x b ws);
      same_length = after-length r ws (enough x b ws);
      untouched = drop_at (words r.entries) _ _ (length-words r.entries);
    }

pub demand-1 : (x b : List ℕ) (c : Call) → Contract x b c → Demand1 x b c
demand-1 x b c h = subst (Demand1 x b) (is-answer x b c h) (answer-demand-1 x b c.before)

-- Less room

record Shorter (r r' : Reading) (room : ℕ) : Type 0 where
  front : r.entries ≡ take (length r.entries) r'.entries
  cut : r.entries ≡ take (room / words_per_entry) r'.entries
  few : length r.entries ≤ length r'.entries
  verdict : (r ≡ r') ⊎ (number_of r.verdict ≡ 40)

shorter : (x b : List ℕ) (room d : ℕ) → Shorter (read_all x b room) (read_all x b (room + d)) room
shorter x b room d = by (room-more x b room d)
  where
    r : Reading
    r = read_all x b room

    r' : Reading
    r' = read_all x b (room + d)

    spent : SpentReading room r
    spent = reading-spent x b room

    by : (r' ≡ r) ⊎ RanOut r r' → Shorter r r' room
    by (inl e) =
        let l : words_per_entry * length r.entries ≤ room = spent.within in
        subst (λ z. Shorter r z room) (sym e) (record {
          front = sym (take-length r.entries);
          cut = sym (take_all (room / words_per_entry) r.entries (omega arith));
          few = omega arith;
          verdict = inl refl;
        })
    by (inr q) =
        let l : words_per_entry * length r.entries ≤ room = spent.within in
        let m : room < words_per_entry * length r.entries + words_per_entry = spent.full q.number in
        let f : r.entries ≡ take (length r.entries) r'.entries =
        sym (ap (take (length r.entries)) q.entries ∙ take_at r.entries q.others _ refl) in
        let n : length r.entries ≡ room / words_per_entry = omega arith in
        let k : length r'.entries ≡ length r.entries + length q.others =
        ap length q.entries ∙ length-append r.entries q.others in
        record { front = f; cut = f ∙ ap (λ z. take z r'.entries) n; few = omega arith; verdict = inr q.number }

less-list : (x b ws vs : List ℕ) → Shorter (read_all x b (length vs)) (read_all x b (length ws)) (length vs)
    → (answer x b vs).after
    ≡ words_of (answer x b vs).result.entries (answer x b ws) ++ came_behind (answer x b vs).result.entries (answer x b vs)
unfolding result_of list_after
less-list x b ws vs s =
    let r = read_all x b (length vs) in
    ap (λ z. z ++ drop (words_per_entry * length r.entries) vs)
    (ap words s.front ∙ sym (lists-words x b (answer x b ws) (answers x b ws) (length r.entries) s.few))

less-room : (x b ws vs : List ℕ) → Shorter (read_all x b (length vs)) (read_all x b (length ws)) (length vs)
    → LessRoom (answer x b ws) (answer x b vs)
less-room x b ws vs s =
    let c = answer x b ws in
    let d = answer x b vs in
    let p = lists-entries x b c (answers x b ws) in
    let q = lists-entries x b d (answers x b vs) in
    record {
      list = less-list x b ws vs s;
      entries = q ∙ s.cut ∙ ap (take (length vs / words_per_entry)) (sym p);
      result = by s.verdict;
    }
  where
    by : (read_all x b (length vs) ≡ read_all x b (length ws)) ⊎ (number_of (read_all x b (length vs)).verdict ≡ 40)
        → (result_of (read_all x b (length vs)) ≡ result_of (read_all x b (length ws))) ⊎ ((result_of (read_all x b (length vs))).number ≡ 40)
    by (inl e) = inl (ap result_of e)
    by (inr n) = inr (unfold result_of in n)

pub less-room-calls : (x x' b : List ℕ) (c d : Call) → Contract x b c → Contract x' b d → LessRoomCalls x x' c d
less-room-calls x x' b c d h k e l =
    let k' : Contract x b d = subst (λ z. Contract z b d) e k in
    let n : length d.before + (length c.before - length d.before) ≡ length c.before = omega arith in
    let s : Shorter (read_all x b (length d.before)) (read_all x b (length c.before)) (length d.before) =
    subst (λ z. Shorter (read_all x b (length d.before)) (read_all x b z) (length d.before)) n (shorter x b (length d.before) _) in
    let r = less-room x b c.before d.before s in
    subst (LessRoom c) (is-answer x b d k') (subst (λ z. LessRoom z (answer x b d.before)) (is-answer x b c h) r)
