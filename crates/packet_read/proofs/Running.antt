-- A packet's steps as the code takes them: each stop, and the part that is left behind entries 1 and 2.
use Rattle.std.specs.Prelude.{Some, None, Option, Ok, Err}
use mathlib.Core.Path.{◌≡◌, refl, ap, sym, ◌∙◌, subst}
use mathlib.Core.List.{List, [], ◌∷◌, ◌++◌}
use mathlib.Core.Bool.{Bool, true, false}
use Prim.Native.Nat.{ℕ, ◌+◌, ◌≤◌, ◌<◌}
use native.Mathlib.Omega.{arith}
use lib.ListN.{length, drop}
use Rattle.rules.specs.declared.BitPlace.{BitPlace}
use Rattle.rules.specs.declared.Stop.{Stop}
use Rattle.rules.specs.declared.Refusal.TheVariants.{ListFull, StreamClassChanged, StreamClassUnknown}
use Rattle.rules.specs.Limits.{stream_limit, words_per_entry}
use Rattle.rules.specs.Verdict.{stop_at}
use Rattle.rules.specs.Slots.{Slots, no_slots, packet_slots}
use Rattle.rules.specs.Entry.{entry, words, packet_starts, stream_class_found}
use Rattle.rules.specs.Step.{Out, ◌⨾◌}
use Rattle.rules.specs.Packet.{read_root, first_root, read_packet, differs, start_packet}
use Rattle.listing.specs.declared.Progress.{Progress}
use Rattle.frame.specs.declared.Frame.{Frame}
use Rattle.listing.specs.Did.{full}
use Rattle.frame.specs.Framed.{Framed, env_of}
use Rattle.listing.proofs.Parts.{Part, part_step, part-stop, back-room, lent, merged}
use Rattle.class_layout.specs.Fragments.{asked_at, stream_class_at, find_stream_at, fragments_of, map_option}
use Rattle.class_layout.specs.Notes.{Notes}
use Rattle.class_layout.proofs.Lookups.{found_some, found_none}
use Rattle.laws.specs.Kept.{LeavesUnset}
use Rattle.field_read.specs.declared.Field.{Field}
use Rattle.field_read.specs.Reads.{FieldReads}
use Rattle.event_turns.specs.Roots.{class_of, number_of}
use Rattle.event_turns.proofs.Looked.{numbered-reads}
use Rattle.outcome.specs.Ran.{RanDid, stopped_ran}
use Rattle.packet_content.specs.Pieces.{whole_frame, behind_found}
use Rattle.packet_read.specs.Pieces.{behind_header, fresh_state, Lent, Starts}
use Rattle.outcome.proofs.Parted.{root-framed, root-unset}
use Rattle.outcome.proofs.Lists.{refused-ran, marked-part}
use Rattle.packet_read.proofs.Packeted.{header-differs, header-full, header-unknown, header-marked, packet-full, packet-marked}

-- where a packet starts, up to the stream's end
pub start-framed : (b : List ℕ) (p : BitPlace) → length b ≤ stream_limit → Starts b p → Framed b (whole_frame b p) p
start-framed b p h s = record { whole = s.whole; begun = omega arith; within = s.within; ends = omega arith; small = omega arith }

-- Behind the header

module _ (t b : List ℕ) (p : BitPlace) (i : Option ℕ) (st : Progress) (l : Slots) (ws : List ℕ) (x : Bool)
    (k : x ≡ differs st.said.stream i) where
  abbrev Headed : Out
  Headed = behind_header (asked_at t) b p i (full st l (length ws))

  pub header-ran-differs : x ≡ true → RanDid Headed st (stopped_ran (stop_at StreamClassChanged st.place) 0 st) ws ws
  header-ran-differs h = refused-ran Headed st l ws _ (header-differs (asked_at t) b p i (full st l (length ws)) (sym k ∙ h))

  module _ (same : x ≡ false) where
    pub header-ran-full : length ws < words_per_entry → RanDid Headed st (stopped_ran (stop_at ListFull st.place) 0 st) ws ws
    header-ran-full h = refused-ran Headed st l ws _ (header-full (asked_at t) b p i (full st l (length ws)) (sym k ∙ same) h)

    module _ (room : words_per_entry ≤ length ws) (y : Option ℕ) (j : y ≡ find_stream_at t (fragments_of t) st.said.stream) where
      pub header-ran-unknown : y ≡ None
          → RanDid Headed st (stopped_ran (stop_at (StreamClassUnknown st.said.stream) st.place) 0 st) ws ws
      unfolding map_option asked_at
      header-ran-unknown h =
          refused-ran Headed st l ws _
          (header-unknown (asked_at t) b p i (full st l (length ws)) (sym k ∙ same) room
          (ap (map_option (stream_class_at t)) (found_none _ (sym h ∙ j))))

      pub header-part : (class : ℕ) → y ≡ Some class → {ws₁ : List ℕ}
          → ws₁ ≡ words (entry stream_class_found st.place 0 st.said.stream 0 ∷ []) ++ drop words_per_entry ws
          → Part Headed (behind_found (asked_at t) b p (stream_class_at t class)) ws ws₁ words_per_entry st l
      unfolding map_option asked_at
      header-part class h w = marked-part Headed (entry stream_class_found st.place 0 st.said.stream 0) _ room w
          (header-marked (asked_at t) b p i (full st l (length ws)) (sym k ∙ same) room (stream_class_at t class)
          (ap (map_option (stream_class_at t)) (found_some _ class (sym h ∙ j))))

-- The packet

-- "All slots are unset when a packet starts", so 16 to 63 are
none-unset : packet_slots no_slots ≡ no_slots
unfolding packet_slots no_slots
none-unset = refl

-- behind a header that was read as r says, with ws₁ on the list and ys in what was lent of it: the rest of the packet
abbrev pub RestLeft : (t b : List ℕ) (k : ℕ) (i : Option ℕ) (st : Progress) (ws ws₁ : List ℕ) (r : Field) (ys : List ℕ) (l : Slots) → Type 0
RestLeft t b k i st ws ws₁ r ys l =
    Part (read_packet (asked_at t) b k i (full st l (length ws))) (behind_header (asked_at t) b st.place i) ws (merged words_per_entry ws₁ ys)
    (words_per_entry + r.used) r.state r.slots

module _ (t : List ℕ) (x : Notes) (u b : List ℕ) (h : Option ℕ) (given : Lent t x u h b) (k : ℕ) (i : Option ℕ) (st : Progress) (ws : List ℕ) where
  pub packet-ran-full : (l : Slots) → length ws < words_per_entry
      → RanDid (read_packet (asked_at t) b k i (full st l (length ws))) st (stopped_ran (stop_at ListFull st.place) 0 st) ws ws
  packet-ran-full l h = refused-ran _ st l ws _ (packet-full (asked_at t) b k i (full st l (length ws)) h)

  module _ (room : words_per_entry ≤ length ws) {ws₁ : List ℕ}
      (w : ws₁ ≡ words (entry packet_starts st.place 0 k 0 ∷ []) ++ drop words_per_entry ws)
      (f : Frame) (e : f ≡ whole_frame b st.place) (begun : Progress) (j : begun ≡ fresh_state st) (none : Slots) (n : none ≡ no_slots) where
    packet-part : (l : Slots)
        → Part (read_packet (asked_at t) b k i (full st l (length ws)))
        (read_root (env_of b u f) (number_of t h) (class_of t h) ⨾ behind_header (asked_at t) b st.place i) ws ws₁ words_per_entry begun none
    unfolding start_packet fresh_state
    packet-part l = rw (numbered-reads t (env_of b u f) h first_root given.numbered, given.uuid, e, given.header, j, n)
        (marked-part _ (entry packet_starts st.place 0 k 0) _ room w (packet-marked (asked_at t) b k i (full st l (length ws)) room))

    module _ {r : Field} {ys : List ℕ}
        (d : FieldReads (read_root (env_of b u f) (number_of t h) (class_of t h)) begun none r (lent words_per_entry ws₁) ys) where
      pub header-framed : Starts b st.place → r.went ≡ Ok tt → Framed b (whole_frame b st.place) r.state.place
      unfolding fresh_state
      header-framed q on =
          let starts = start-framed b st.place given.small q in
          rw (e) at (root-framed b u f (number_of t h) (class_of t h) none on d.did (rw (e, j) starts))

      pub header-unset : r.went ≡ Ok tt → packet_slots r.slots ≡ r.slots
      header-unset on =
          root-unset b u f (number_of t h) (class_of t h) none on d.did
          (subst LeavesUnset (sym given.header) given.ready.keeps.packet)
          (subst (λ l. packet_slots l ≡ l) (sym n) none-unset)

      pub header-stopped : (l : Slots) (v : Stop) → r.went ≡ Err v
          → RanDid (read_packet (asked_at t) b k i (full st l (length ws))) st (stopped_ran v (words_per_entry + r.used) st) ws
          (merged words_per_entry ws₁ ys)
      header-stopped l v off = record { slots = l; did = part-stop _ _ (packet-part l) d.did v st l off }

      pub behind-part : (l : Slots) → r.went ≡ Ok tt → RestLeft t b k i st ws ws₁ r ys l
      behind-part l on = part_step _ _ (packet-part l) d.did on

      pub header-room : words_per_entry + r.used ≤ length ws
      header-room = back-room (read_root (env_of b u f) (number_of t h) (class_of t h)) (packet-part none) d.did
