-- A packet's steps, of the rules' states: where each stops, and what is left behind entries 1 and 2.
use Rattle.std.specs.Prelude.{None, Some, Option}
use mathlib.Core.Path.{◌≡◌, ap, ◌∙◌}
use mathlib.Core.List.{List, [], ◌∷◌}
use mathlib.Core.Bool.{true, false}
use Prim.Native.Nat.{ℕ, ◌≤◌, ◌<◌}
use Rattle.rules.specs.declared.BitPlace.{BitPlace}
use Rattle.rules.specs.declared.Refusal.TheVariants.{ListFull, StreamClassChanged, StreamClassUnknown}
use Rattle.rules.specs.Limits.{words_per_entry}
use Rattle.rules.specs.Verdict.{stop_at}
use Rattle.rules.specs.Entry.{entry, packet_starts, stream_class_found}
use Rattle.rules.specs.Step.{State, stop, Step, onto, ◌⨾◌, refuse}
use Rattle.rules.specs.Table.{StreamClass, Asked}
use Rattle.clock.specs.declared.Clock.{Clock}
use Rattle.rules.specs.Packet.{mark, read_root, first_root, read_packet, differs, with_stream, start_packet}
use Rattle.packet_content.specs.Pieces.{packet_env, behind_found}
use Rattle.packet_read.specs.Pieces.{behind_header}
use Rattle.listing.proofs.Checks.{room-first}
use Rattle.listing.proofs.Marks.{check-stop, check-on, due-stop, mark_on, change-on, less}

-- "Clock, from 0 at each packet" (Reading)
pub started : (c : Clock) → c.value ≡ 0 → c ≡ record { value = 0 }
started c e = ap (λ v. record { value = v }) e

module _ (t : Asked) (b : List ℕ) (p : BitPlace) (i : Option ℕ) (s : State) where
  pub header-differs : differs s.said.stream i ≡ true → behind_header t b p i s ≡ stop [] (stop_at StreamClassChanged s.place)
  unfolding behind_header
  header-differs h = check-stop _ StreamClassChanged _ s h

  module _ (same : differs s.said.stream i ≡ false) where
    pub header-full : s.room < words_per_entry → behind_header t b p i s ≡ stop [] (stop_at ListFull s.place)
    unfolding behind_header
    header-full h = check-on _ StreamClassChanged _ s same ∙ due-stop _ s h

    module _ (room : words_per_entry ≤ s.room) where
      pub header-unknown : t.stream s.said.stream ≡ None
          → behind_header t b p i s ≡ stop [] (stop_at (StreamClassUnknown s.said.stream) s.place)
      unfolding behind_header with_stream refuse
      header-unknown h = check-on _ StreamClassChanged _ s same ∙ room-first _ s room
          ∙ ap (λ x. with_stream s.said.stream x (λ c. mark stream_class_found 0 s.said.stream ⨾ behind_found t b p c) s) h

      pub header-marked : (c : StreamClass) → t.stream s.said.stream ≡ Some c
          → behind_header t b p i s ≡ onto (entry stream_class_found s.place 0 s.said.stream 0 ∷ []) (behind_found t b p c (less s))
      unfolding behind_header with_stream
      header-marked c h = check-on _ StreamClassChanged _ s same ∙ room-first _ s room
          ∙ ap (λ x. with_stream s.said.stream x (λ c. mark stream_class_found 0 s.said.stream ⨾ behind_found t b p c) s) h
          ∙ mark_on stream_class_found 0 s.said.stream _ s

module _ (t : Asked) (b : List ℕ) (k : ℕ) (i : Option ℕ) (s : State) where
  abbrev pub behind_start : Step
  behind_start = read_root (packet_env t b s.place) first_root t.header ⨾ behind_header t b s.place i

  pub packet-full : s.room < words_per_entry → read_packet t b k i s ≡ stop [] (stop_at ListFull s.place)
  unfolding read_packet
  packet-full h = due-stop _ s h

  pub packet-marked : words_per_entry ≤ s.room
      → read_packet t b k i s ≡ onto (entry packet_starts s.place 0 k 0 ∷ []) (behind_start (start_packet (less s)))
  unfolding read_packet behind_header behind_found
  packet-marked h = room-first _ s h ∙ mark_on packet_starts 0 k _ s
      ∙ ap (onto (entry packet_starts s.place 0 k 0 ∷ [])) (change-on start_packet _ (less s))
