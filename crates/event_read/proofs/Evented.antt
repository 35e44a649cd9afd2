-- One event: its entry, what is left behind it, and 38.
use Rattle.std.specs.Prelude.{Ok}
use mathlib.Core.Path.{◌≡◌, refl, ap, sym, ◌∙◌}
use Prim.Native.Nat.{ℕ, ◌-◌, ◌≤◌, ◌<◌}
use native.Mathlib.Omega.{arith}
use mathlib.Core.List.{List, [], ◌∷◌, ◌++◌, append-nil}
use mathlib.Core.Bool.{◌&&◌}
use lib.ListN.{length, drop, take, replicate, length-take}
use lib.Seq.{take_at}
use lib.Dec.{ltb, eqb}
use borrow.Author.Tests.{eq-eqb, ne_eqb}
use Rattle.rules.specs.declared.Content.TheVariants.{Unset}
use Rattle.rules.specs.declared.Stop.{Stop}
use Rattle.rules.specs.declared.Refusal.TheVariants.{ClockWentBack, EventTookNoBits, ListFull}
use Rattle.rules.specs.Verdict.{stop_at}
use Rattle.rules.specs.Limits.{slot_count, packet_slot_count, words_per_entry}
use Rattle.rules.specs.Slots.{Slots, slot, packet_slots}
use Rattle.rules.specs.Entry.{entry, words, event_starts, event_class_found}
use Rattle.rules.specs.Step.{stop, go, Step, onto, after, ◌⨾◌, refuse, check, due, listed, change, with_last}
use Rattle.rules.specs.Field.{Env}
use Rattle.rules.specs.Table.{StreamClass, Asked}
use Rattle.rules.specs.Packet.{mark, read_root, header_number, with_event, start_event, read_event}
use Rattle.facts.proofs.Steps.{seq-assoc}
use Rattle.frame.specs.declared.Frame.{Frame}
use Rattle.listing.specs.declared.Progress.{Progress}
use Rattle.frame.specs.Framed.{Framed, env_of}
use Rattle.listing.specs.Did.{full, out_of}
use Rattle.listing.proofs.Checks.{check-stops, check-goes, room-first, no-room-first}
use Rattle.listing.proofs.Roles.{went-no-further}
use Rattle.listing.proofs.Parts.{Part}
use Rattle.outcome.specs.Ran.{EventDid, stopped_ran}
use Rattle.event_read.specs.Start.{start_state}
use Rattle.event_turns.specs.Event.{body_of}
use Rattle.event_turns.specs.Roots.{parts_of}
use Rattle.outcome.proofs.Lists.{part_same}
use Rattle.listing.proofs.Marks.{change-on}
use Rattle.outcome.proofs.Parted.{Parted}

-- a step that stopped with nothing listed
pub nothing-did : (M : Step) (st : Progress) (l : Slots) (ws : List ℕ) (v : Stop) → M (full st l (length ws)) ≡ stop [] v
    → EventDid M st l (stopped_ran v 0 st) ws ws
nothing-did M st l ws v e = record { slots = l; kept = refl; did = went-no-further _ st l v ws e }

-- "38 if the place did not move"
unfoldable pub moved : Progress → Step
moved st = check (λ s. eqb s.place.0 st.place.0) EventTookNoBits

-- an event behind entry 4: its header, its body, and 38
unfoldable pub behind_start : Asked → StreamClass → Env → Progress → Step
behind_start a c e st = read_root e (header_number c) c.header ⨾ (body_of a c e ⨾ moved st)

module _ (a : Asked) (c : StreamClass) (e : Env) (n : ℕ) (st : Progress) (l : Slots) (room : ℕ) where
  abbrev Look : Step
  Look s = with_event c.id s.said.event (a.event c.id s.said.event)
      (λ d. mark event_class_found 0 s.said.event ⨾ parts_of e c d) s

  abbrev Back : Step
  Back = check (λ s. c.timed && ltb s.clock s.last) ClockWentBack

  abbrev Hold : Step
  Hold = change (λ s. with_last s.clock s)

  -- its body is one step, and 38 comes behind it
  body-first : (Back ⨾ (Hold ⨾ (due ⨾ (Look ⨾ moved st)))) ≡ (body_of a c e ⨾ moved st)
  unfolding body_of
  body-first =
      let m = moved st in
      sym (seq-assoc Back (Hold ⨾ (due ⨾ Look)) m
      ∙ ap (λ (k : Step). Back ⨾ k) (seq-assoc Hold (due ⨾ Look) m ∙ ap (λ (k : Step). Hold ⨾ k) (seq-assoc due Look m)))

  pub event-full : room < words_per_entry → read_event a c e n (full st l room) ≡ stop [] (stop_at ListFull st.place)
  unfolding read_event refuse
  event-full h = no-room-first _ (full st l room) h

  pub event-starts : words_per_entry ≤ room
      → read_event a c e n (full st l room) ≡ (mark event_starts 0 n ⨾ (change start_event ⨾ behind_start a c e st)) (full st l room)
  unfolding read_event behind_start moved parts_of
  event-starts h =
      let header = read_root e (header_number c) c.header in
      room-first _ (full st l room) h
      ∙ ap (λ (m : Step). (mark event_starts 0 n ⨾ (change start_event ⨾ (header ⨾ m))) (full st l room)) body-first

-- slots 16 to 63 are unset once
pub unset-again : (l : Slots) → length l ≡ slot_count → packet_slots (packet_slots l) ≡ packet_slots l
unfolding packet_slots
unset-again l h =
    ap (λ r. r ++ replicate (slot_count - packet_slot_count) (slot Unset))
    (take_at (take packet_slot_count l) (replicate (slot_count - packet_slot_count) (slot Unset)) packet_slot_count
    (omega (arith, length-take packet_slot_count l)))

-- entry 4 stands in front
module _ (a : Asked) (c : StreamClass) (b u : List ℕ) (f : Frame) (n : ℕ) (st : Progress) (l : Slots) (ws ws₁ : List ℕ)
    (h : words_per_entry ≤ length ws) (many : length l ≡ slot_count) (framed : Framed b f st.place)
    (e : ws₁ ≡ words (entry event_starts st.place 0 n 0 ∷ []) ++ drop words_per_entry ws)
  where
    abbrev Event : Step
    Event = read_event a c (env_of b u f) n

    listed-part : Part (Event (full st l (length ws))) (change start_event ⨾ behind_start a c (env_of b u f) st) ws ws₁ words_per_entry st l
    unfolding ◌⨾◌ after mark listed
    listed-part = record {
      listed = entry event_starts st.place 0 n 0 ∷ [];
      list = e;
      counted = refl;
      room = h;
      rest = event-starts a c (env_of b u f) n st l (length ws) h;
    }

    pub started : Parted b f Event (behind_start a c (env_of b u f) st) st l ws ws₁ words_per_entry (start_state st) (packet_slots l)
    unfolding start_event
    started = record {
      framed = framed;
      kept = unset-again l many;
      part = part_same _ (behind_start a c (env_of b u f) st) (change-on start_event _ (full st l (length ws - words_per_entry))) listed-part;
    }

-- what is left lists nothing: it stops, or the event is done
module _ (m M : Step) (came : Progress) (l₀ : Slots) {ws₀ ws : List ℕ} {used : ℕ} {st : Progress} {l : Slots}
    (p : Part (M (full came l₀ (length ws₀))) m ws₀ ws used st l) where
  pub left-stops : (v : Stop) → m (full st l (length ws₀ - used)) ≡ stop [] v → EventDid M came l₀ (stopped_ran v used came) ws₀ ws
  unfolding onto out_of
  left-stops v e = record {
    slots = l₀;
    kept = refl;
    did = record {
      listed = p.listed;
      out = p.rest ∙ ap (onto p.listed) e ∙ ap (λ x. stop x v) (append-nil p.listed);
      counted = p.counted;
      list = p.list;
      room = p.room;
      kept = λ w h. refl;
    };
  }

  pub left-goes : packet_slots l ≡ packet_slots l₀ → m (full st l (length ws₀ - used)) ≡ go [] (full st l (length ws₀ - used))
      → EventDid M came l₀ (record { went = Ok tt; used = used; state = st }) ws₀ ws
  unfolding onto out_of
  left-goes k e = record {
    slots = l;
    kept = k;
    did = record {
      listed = p.listed;
      out = p.rest ∙ ap (onto p.listed) e ∙ ap (λ x. go x _) (append-nil p.listed);
      counted = p.counted;
      list = p.list;
      room = p.room;
      kept = λ w h. let z : ◌≡◌ {A = ℕ} 0 1 = cc in absurd (omega arith);
    };
  }

module _ (st₀ st : Progress) (l : Slots) (room : ℕ) where
  pub not-moved : st.place.0 ≡ st₀.place.0 → moved st₀ (full st l room) ≡ stop [] (stop_at EventTookNoBits st.place)
  unfolding moved refuse
  not-moved h = check-stops _ EventTookNoBits (full st l room) (eq-eqb _ _ h)

  pub has-moved : (st.place.0 ≡ st₀.place.0 → ⊥) → moved st₀ (full st l room) ≡ go [] (full st l room)
  unfolding moved
  has-moved h = check-goes _ EventTookNoBits (full st l room) (ne_eqb _ _ h)
