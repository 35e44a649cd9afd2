-- The laws of the rules, gathered: each is shown in a file of its own and put together here for an accepted table.
use Rattle.std.specs.Prelude.{None}
use mathlib.Core.Path.{◌≡◌, refl}
use Prim.Native.Nat.{ℕ, ◌*◌, ◌≤◌}
use native.Mathlib.Omega.{arith}
use native.Mathlib.Nat.{le_refl}
use mathlib.Core.List.{List, []}
use mathlib.Core.Bool.{Bool, true, false, ◌||◌}
use lib.ListN.{length}
use lib.Dec.{ltb, eqb}
use Rattle.rules.specs.declared.Refusal.TheVariants.{StreamSize}
use Rattle.rules.specs.declared.Verdict.TheVariants.{Refused}
use Rattle.rules.specs.Limits.{stream_limit}
use Rattle.rules.specs.Place.{bit_place}
use Rattle.rules.specs.Verdict.{stop_at, number_of, refusal_number, place_of}
use Rattle.rules.specs.Step.{Out, stop, go}
use Rattle.rules.specs.Field.{Env}
use Rattle.rules.specs.Table.{Table, asked}
use Rattle.rules.specs.Parse.{good, parse}
use Rattle.rules.specs.Packet.{read_event, read_packets}
use Rattle.rules.specs.Read.{Reading, ended, begin, read_stream, read_all, read_parsed}
use Rattle.facts.proofs.Refusals.{refusal_number-bounds}
use Rattle.promises.specs.Laws.{Rising, Within, Inside, TheLaws}
use Rattle.laws.proofs.Law.{Any}
use Rattle.laws.proofs.Accepted.{Tells, Fitting, accepted-fits}
use Rattle.laws.proofs.Triple.{Ok}
use Rattle.promises.proofs.Rounds.{event-rounds}
use Rattle.promises.proofs.Spent.{reading-spent}
use Rattle.promises.proofs.Room.{room-more}
use Rattle.laws.proofs.Between.{In, At, NoMore}
use Rattle.promises.proofs.Packets.{Positive, Goes, bound-event, packet-rounds, go-packets}
use Rattle.promises.proofs.TableRounds.{table-rounds}
use Rattle.promises.proofs.Listed.{reading-words, list-words}

-- an accepted table's fields have a bit or more
positive : Tells Positive (λ r. Any) Any (λ z. Unit {0})
positive = record { bits = λ n a b. a; slots = λ r i h. tt; values = λ x y g e k l. tt; on = λ x g. tt }

pub accepted-positive : (x : List ℕ) (t : Table) (y : List ℕ) → parse x ≡ good t y → Fitting Positive (λ r. Any) Any (asked t)
accepted-positive x t y p = accepted-fits positive x t y tt p

ok-within : (e : Env) (o : Out) → Ok (In e) (At e) (NoMore e) (Inside e) o → Within e o
ok-within e (stop es v) h = h
ok-within e (go es s) h = h

-- the places of a reading rise, and none is behind the last bit; where nothing refuses it, it ends there
EndsAt : ℕ → Reading → Type 0
EndsAt last r =
    Rising r.entries 0 (place_of r.verdict)
    × (number_of r.verdict ≡ 0 → place_of r.verdict ≡ last)
    × (place_of r.verdict ≤ last)

ended_at : (last : ℕ) (o : Out) → Goes last (λ s. s.place.0 ≡ last) 0 o → EndsAt last (ended o)
unfolding EndsAt ended place_of number_of
ended_at last (stop es v) h = (h.0, (λ z. absurd (omega (arith, (refusal_number-bounds v.why).0))), h.2)
ended_at last (go es s) h = (h.0, (λ z. h.1), omega (arith, h.1))

stream_at : (t : Table) → Fitting Positive (λ r. Any) Any (asked t) → (b : List ℕ) (room : ℕ)
    → EndsAt (8 * length b) (read_stream (asked t) b room)
unfolding read_stream
stream_at t w b room = by (eqb (length b) 0 || ltb stream_limit (length b))
  where
    by : (c : Bool) → EndsAt (8 * length b) (elim c [
      | true ↦ record { entries = []; verdict = Refused (stop_at StreamSize (bit_place 0)) }
      | false ↦ ended (read_packets (asked t) b 0 None (length b) (begin room))
    ])
    by true = unfold EndsAt number_of refusal_number place_of in (omega arith, (λ z. absurd (omega arith)), omega arith)
    by false = unfold begin in
        ended_at (8 * length b) (read_packets (asked t) b 0 None (length b) (begin room))
        (go-packets (asked t) w b 0 None (length b) (begin room) refl (omega arith) (omega arith))

reading-at : (x : List ℕ) (t : Table) (y : List ℕ) → parse x ≡ good t y → (b : List ℕ) (room : ℕ) → EndsAt (8 * length b) (read_all x b room)
unfolding read_all read_parsed
reading-at x t y p b room = rw (p, read_all) (stream_at t (accepted-positive x t y p) b room)

pub the_laws : TheLaws
unfolding EndsAt
the_laws x t y p = record {
  rises = λ b room. (reading-at x t y p b room).0;
  stays = λ i c q e n s h. ok-within e (read_event (asked t) c e n s) ((bound-event (asked t) (accepted-positive x t y p) i c q e n).at s h);
  ends = λ b room. (reading-at x t y p b room).1;
  place_in = λ b room. (reading-at x t y p b room).2;
  spends = λ b room. reading-spent x b room;
  room-more = λ b room more. room-more x b room more;
  fragment-rounds = λ q z more. table-rounds (length z) more q z (le_refl (length z));
  event-rounds = λ c e to n s more. event-rounds (asked t) c e to n more s;
  packet-rounds = λ b room more. unfold begin in
      packet-rounds (asked t) (accepted-positive x t y p) b 0 None (length b) more (begin room) refl (omega arith);
  fits = λ g b room. reading-words x g t y p b room;
  list-fits = λ g b room. list-words _ (reading-words x g t y p b room).0;
}
