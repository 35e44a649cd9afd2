-- A packet's events, round by round: what the loop keeps, one event, and entry 7.
use Rattle.std.specs.Prelude.{Ok, Err, Result, ⊤}
use mathlib.Core.Path.{◌≡◌, refl, ap, sym, ◌∙◌}
use Prim.Native.Nat.{ℕ, zero, suc, ◌+◌, ◌-◌, ◌≤◌, ◌<◌}
use native.Mathlib.Omega.{arith}
use mathlib.Core.List.{List, [], ◌∷◌, ◌++◌, append-nil}
use mathlib.Core.Bool.{Bool, true, false}
use lib.ListN.{length, drop}
use lib.Dec.{ltb}
use borrow.Author.Tests.{lt-ltb, le-ltb, ltb-true, ltb-false}
use Rattle.rules.specs.declared.BitPlace.{BitPlace}
use Rattle.rules.specs.declared.Entry.{Entry}
use Rattle.rules.specs.declared.Stop.{Stop}
use Rattle.rules.specs.declared.Refusal.TheVariants.{ListFull}
use Rattle.rules.specs.Limits.{words_per_entry}
use Rattle.rules.specs.Verdict.{stop_at}
use Rattle.rules.specs.Slots.{Slots, packet_slots}
use Rattle.rules.specs.Entry.{entry, words, packet_ends}
use Rattle.rules.specs.Field.{Env}
use Rattle.rules.specs.Step.{State, Out, stop, go, Step, onto, after, ◌⨾◌, refuse, listed}
use Rattle.rules.specs.Table.{StreamClass, Asked}
use Rattle.rules.specs.Packet.{mark, start_event, read_event, read_events, end_packet}
use Rattle.frame.specs.declared.Frame.{Frame}
use Rattle.listing.specs.declared.Progress.{Progress}
use Rattle.frame.specs.Framed.{Framed, env_of}
use Rattle.listing.specs.Did.{Did, full, out_of, at_place}
use Rattle.listing.proofs.Checks.{room-first, no-room-first}
use Rattle.listing.proofs.Roles.{went-listing}
use Rattle.listing.proofs.Parts.{Part, part-start, part_step, part-stop, part-last-on, part_length, back-room, lent, merged, lent-room}
use Rattle.outcome.specs.declared.Ran.{Ran}
use Rattle.outcome.specs.Ran.{RanDid, EventDid, stopped_ran}
use Rattle.event_read.specs.Start.{start_state}
use Rattle.outcome.proofs.Lists.{part_same}
use Rattle.listing.proofs.Marks.{change-on}
use Rattle.event_read.proofs.Evented.{behind_start, event-full, event-starts}
use Rattle.packet_events.proofs.Moving.{event-moves, onward-out, MovedOn}

module _ (a : Asked) (c : StreamClass) (b u : List ℕ) (f : Frame) (to : BitPlace) (o : Out) (given : Slots) where
  -- n events are read, and as many rounds are left as there are bits, or more
  pub record Rounding (ws₀ ws : List ℕ) (used : ℕ) (st : Progress) (n : ℕ) : Type 0 where
    pub framed : Framed b f st.place
    pub slots : Slots
    pub kept : packet_slots slots ≡ packet_slots given
    pub left : ℕ
    pub enough : f.bound.0 ≤ st.place.0 + left
    pub few : n ≤ st.place.0
    pub part : Part o (read_events a c (env_of b u f) to n left) ws₀ ws used st slots

went_on : (o : Out) (es : List Entry) (went : Result ⊤ Stop) (st : Progress) (l : Slots) (room : ℕ) → o ≡ out_of es went st l room → went ≡ Ok tt
    → o ≡ go es (full st l room)
unfolding out_of
went_on o es went st l room e on = e ∙ rw (on) refl

-- a round where the place is below the bound, and one where it is not
module _ (a : Asked) (c : StreamClass) (e : Env) (to : BitPlace) (n : ℕ) (s : State) where
  round-on : (left : ℕ) → s.place.0 < e.bound.0 → read_events a c e to n (suc left) s ≡ (read_event a c e n ⨾ read_events a c e to (n + 1) left) s
  unfolding read_events
  round-on left h = by (ltb s.place.0 e.bound.0) (lt-ltb _ _ h)
    where
      by : (x : Bool) → x ≡ true
          → elim x [ true ↦ (read_event a c e n ⨾ read_events a c e to (n + 1) left) s | false ↦ end_packet to n s ] ≡ (read_event a c e n ⨾ read_events a c e to (n + 1) left) s
      by true k = refl
      by false k = let z : ◌≡◌ {A = ℕ} 0 1 = cc in absurd (omega arith)

  round-off : (left : ℕ) → e.bound.0 ≤ s.place.0 → read_events a c e to n left s ≡ end_packet to n s
  unfolding read_events
  round-off zero h = refl
  round-off (suc left) h = by (ltb s.place.0 e.bound.0) (le-ltb _ _ h)
    where
      by : (x : Bool) → x ≡ false
          → elim x [ true ↦ (read_event a c e n ⨾ read_events a c e to (n + 1) left) s | false ↦ end_packet to n s ] ≡ end_packet to n s
      by true k = let z : ◌≡◌ {A = ℕ} 0 1 = cc in absurd (omega arith)
      by false k = refl

module _ (a : Asked) (c : StreamClass) (b u : List ℕ) (f : Frame) (to : BitPlace) where
  pub rounds-start : (st : Progress) (l : Slots) (ws : List ℕ) → Framed b f st.place
      → Rounding a c b u f to (read_events a c (env_of b u f) to 0 (f.bound.0 - st.place.0) (full st l (length ws))) l ws ws 0 st 0
  rounds-start st l ws h = record {
    framed = h;
    slots = l;
    kept = refl;
    left = f.bound.0 - st.place.0;
    enough = omega (arith, h.within);
    few = omega arith;
    part = part-start (read_events a c (env_of b u f) to 0 (f.bound.0 - st.place.0)) ws st l;
  }

  -- an event does not depend on what slots 16 to 63 held
  event-same : (n : ℕ) (st : Progress) (l l' : Slots) (room : ℕ) → packet_slots l ≡ packet_slots l'
      → read_event a c (env_of b u f) n (full st l room) ≡ read_event a c (env_of b u f) n (full st l' room)
  event-same n st l l' room h = by (ltb room words_per_entry) refl
    where
      e : Env
      e = env_of b u f

      behind : (l : Slots) → words_per_entry ≤ room
          → read_event a c e n (full st l room)
          ≡ onto (entry 4 st.place 0 n 0 ∷ []) (behind_start a c e st (full (start_state st) (packet_slots l) (room - words_per_entry)))
      behind l k = unfold ◌⨾◌ after mark listed start_event in
          event-starts a c e n st l room k
          ∙ ap (onto (entry 4 st.place 0 n 0 ∷ [])) (change-on start_event (behind_start a c e st) (full st l (room - words_per_entry)))

      by : (x : Bool) → ltb room words_per_entry ≡ x → read_event a c e n (full st l room) ≡ read_event a c e n (full st l' room)
      by true k =
          event-full a c e n st l room (ltb-true room words_per_entry k)
          ∙ sym (event-full a c e n st l' room (ltb-true room words_per_entry k))
      by false k =
          behind l (ltb-false room words_per_entry k)
          ∙ ap (λ s. onto (entry 4 st.place 0 n 0 ∷ []) (behind_start a c e st (full (start_state st) s (room - words_per_entry)))) h
          ∙ sym (behind l' (ltb-false room words_per_entry k))

  module _ (o : Out) (given : Slots) {ws₀ ws : List ℕ} {used : ℕ} {st : Progress} {n : ℕ} (w : Rounding a c b u f to o given ws₀ ws used st n) where
    -- one more event
    module _ (below : st.place.0 < f.bound.0) {r : Ran} {ys : List ℕ}
        (did : EventDid (read_event a c (env_of b u f) n) st given r (lent used ws) ys) where
      abbrev Rest : Step
      Rest = read_events a c (env_of b u f) to (n + 1) (w.left - 1)

      turn : Part o (read_event a c (env_of b u f) n ⨾ Rest) ws₀ ws used st w.slots
      turn = part_same _ (read_event a c (env_of b u f) n ⨾ Rest) (again w.left w.enough) w.part
        where
          again : (left : ℕ) → f.bound.0 ≤ st.place.0 + left
              → read_events a c (env_of b u f) to n left (full st w.slots (length ws₀ - used))
              ≡ (read_event a c (env_of b u f) n ⨾ read_events a c (env_of b u f) to (n + 1) (left - 1)) (full st w.slots (length ws₀ - used))
          again zero h = absurd (omega arith)
          again (suc left) h =
              let e : suc left - 1 ≡ left = omega arith in
              rw e (round-on a c (env_of b u f) to n (full st w.slots (length ws₀ - used)) left below)

      did-here : Did (read_event a c (env_of b u f) n (full st w.slots (length (lent used ws)))) st r.went r.used r.state did.slots (lent used ws) ys
      did-here = rw (event-same n st w.slots given (length (lent used ws)) w.kept) did.did

      pub round_room : used + r.used ≤ length ws₀
      round_room = back-room (read_event a c (env_of b u f) n) turn did-here

      pub round-stops : (v : Stop) (came : Progress) → r.went ≡ Err v → RanDid o came (stopped_ran v (used + r.used) came) ws₀ (merged used ws ys)
      round-stops v came off = record { slots = given; did = part-stop (read_event a c (env_of b u f) n) Rest turn did-here v came given off }

      pub round-moved : r.went ≡ Ok tt → (st.place.0 < r.state.place.0) × (r.state.place.0 ≤ f.bound.0)
      round-moved on =
          onward-out (MovedOn (env_of b u f) (full st w.slots (length (lent used ws)))) _ did-here.listed (full r.state did.slots (length (lent used ws) - r.used))
          (went_on _ _ _ _ _ _ did-here.out on)
          (event-moves (env_of b u f) (full st w.slots (length (lent used ws))) a c n w.framed.begun w.framed.within)

      pub round-goes : r.went ≡ Ok tt → Rounding a c b u f to o given ws₀ (merged used ws ys) (used + r.used) r.state (n + 1)
      round-goes on =
          let p = round-moved on in
          let h = w.framed in
          record {
            framed = record { whole = h.whole; begun = omega (arith, p.0, h.begun); within = p.1; ends = h.ends; small = h.small };
            slots = did.slots;
            kept = did.kept;
            left = w.left - 1;
            enough = omega (arith, p.0, w.enough, below);
            few = omega (arith, p.0, w.few);
            part = part_step (read_event a c (env_of b u f) n) Rest turn did-here on;
          }

    -- the events end
    module _ (reached : f.bound.0 ≤ st.place.0) where
      last : Part o (end_packet to n) ws₀ ws used st w.slots
      last = part_same _ (end_packet to n) (round-off a c (env_of b u f) to n (full st w.slots (length ws₀ - used)) w.left reached) w.part

      pub end-full : (came : Progress) → length ws - used < words_per_entry
          → RanDid o came (stopped_ran (stop_at ListFull st.place) used came) ws₀ ws
      unfolding end_packet refuse onto out_of
      end-full came h = record {
        slots = w.slots;
        did = record {
          listed = last.listed;
          out = last.rest ∙ ap (onto last.listed) (no-room-first _ (full st w.slots (length ws₀ - used)) (omega (arith, part_length last)))
              ∙ ap (λ x. stop x (stop_at ListFull st.place)) (append-nil last.listed);
          counted = last.counted;
          list = last.list;
          room = last.room;
          kept = λ v k. refl;
        };
      }

      pub end-listed : (came : Progress) (ys : List ℕ) → words_per_entry ≤ length ws - used
          → ys ≡ words (entry packet_ends to (to.0 - st.place.0) n 0 ∷ []) ++ drop words_per_entry (lent used ws)
          → RanDid o came (record { went = Ok tt; used = used + words_per_entry; state = at_place to st }) ws₀ (merged used ws ys)
      unfolding end_packet listed
      end-listed came ys h e =
          let long : words_per_entry ≤ length (lent used ws) = omega (arith, lent-room used ws) in
          record {
            slots = w.slots;
            did = part-last-on (end_packet to n) last
                (went-listing _ st (at_place to st) w.slots (entry packet_ends to (to.0 - st.place.0) n 0) (lent used ws) ys
                (room-first _ (full st w.slots (length (lent used ws))) long) e long) came refl;
          }
