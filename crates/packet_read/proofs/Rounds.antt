-- The loop over the packets: what is left of the rules' rounds, one round, and the end.
use Rattle.std.specs.Prelude.{None, Some, Option, Ok, Err}
use mathlib.Core.Path.{◌≡◌, refl, ◌∙◌, subst}
use mathlib.Core.List.{List}
use Prim.Native.Nat.{ℕ, zero, suc, ◌+◌, ◌-◌, ◌*◌, ◌≤◌, ◌<◌}
use native.Mathlib.Omega.{arith}
use lib.ListN.{length}
use borrow.Author.Tests.{lt-ltb, le-ltb}
use Rattle.rules.specs.declared.BitPlace.{BitPlace}
use Rattle.rules.specs.declared.Stop.{Stop}
use Rattle.rules.specs.Place.{bit_place}
use Rattle.rules.specs.Slots.{Slots, no_slots}
use Rattle.rules.specs.Step.{State, Out, go, Step, ◌⨾◌, pass}
use Rattle.rules.specs.Table.{Asked}
use Rattle.rules.specs.Packet.{read_packet, read_packets}
use Rattle.rules.specs.Read.{begin}
use Rattle.listing.specs.declared.Progress.{Progress}
use Rattle.listing.specs.Did.{full, out_of}
use Rattle.listing.proofs.Parts.{Part, part-start, part_step, part-stop, part_end, back-room, lent, merged}
use Rattle.outcome.specs.declared.Ran.{Ran}
use Rattle.outcome.specs.Ran.{RanDid, stopped_ran}
use Rattle.packet_read.specs.Pieces.{first_state, Starts, PacketDid}
use Rattle.outcome.proofs.Lists.{part_same}
use Rattle.packet_read.proofs.Fitted.{Fit}
use Rattle.packet_events.proofs.Moving.{Onward}
use Rattle.packet_read.proofs.Onward.{Behind, packet-onward}

-- the stream's end, as the place behind its bytes
pub before-end : (p end : BitPlace) (b : List ℕ) → end ≡ bit_place (8 * length b) → p.0 < end.0 → p.0 < 8 * length b
before-end p end b e h = rw (e) at h

pub behind-end : (p end : BitPlace) (b : List ℕ) → end ≡ bit_place (8 * length b) → end.0 ≤ p.0 → 8 * length b ≤ p.0
behind-end p end b e h = rw (e) at h

module _ (t : Asked) (b : List ℕ) (k : ℕ) (i : Option ℕ) where
  abbrev next : ℕ → Step
  next left s = read_packets t b (k + 1) (Some s.said.stream) left s

  more-packets : (left : ℕ) (s : State) → s.place.0 < 8 * length b → 0 < left
      → read_packets t b k i left s ≡ (read_packet t b k i ⨾ next (left - 1)) s
  unfolding read_packets
  more-packets zero s h n = absurd (omega arith)
  more-packets (suc left) s h n =
      let e : suc left - 1 ≡ left = omega arith in
      rw (e) (simp (lt-ltb _ _ h, read_packets))

  no-packets : (left : ℕ) (s : State) → 8 * length b ≤ s.place.0 → read_packets t b k i left s ≡ pass s
  unfolding read_packets
  no-packets zero s h = refl
  no-packets (suc left) s h = simp (le-ltb _ _ h, read_packets)

-- what the loop keeps: as many rounds are left as there are bytes, or more; and the packets so far took a byte each, or more
pub record Looping (t : Asked) (b : List ℕ) (o : Out) (ws₀ ws : List ℕ) (used : ℕ) (st : Progress) (first : Option ℕ) (number : ℕ) : Type 0 where
  pub slots : Slots
  pub left : ℕ
  pub part : Part o (read_packets t b number first left) ws₀ ws used st slots
  pub starts : Starts b st.place
  pub rounds : 8 * length b ≤ st.place.0 + 8 * left
  pub count : 8 * number ≤ st.place.0

pub loop-start : (t : Asked) (b ws : List ℕ) (st : Progress) → st ≡ first_state
    → Looping t b (read_packets t b 0 None (length b) (begin (length ws))) ws ws 0 st None 0
unfolding first_state begin
loop-start t b ws st e = rw (e) (record {
  slots = no_slots;
  left = length b;
  part = part-start (read_packets t b 0 None (length b)) ws first_state no_slots;
  starts = record { whole = refl; within = omega arith };
  rounds = omega arith;
  count = omega arith;
})

module _ (t : Asked) (w : Fit t) (b : List ℕ) {o : Out} {ws₀ ws : List ℕ} {used : ℕ} {st : Progress} {first : Option ℕ} {number : ℕ}
    (x : Looping t b o ws₀ ws used st first number) where
  module _ (more : st.place.0 < 8 * length b) where
    round : Part o (read_packet t b number first ⨾ next t b number first (x.left - 1)) ws₀ ws used st x.slots
    round =
        part_same _ _
        (more-packets t b number first x.left (full st x.slots (length ws₀ - used)) more (omega (arith, x.rounds))) x.part

    module _ {r : Ran} {ys : List ℕ} (d : PacketDid (read_packet t b number first) st r (lent used ws) ys) where
      pub round_room : used + r.used ≤ length ws₀
      round_room = back-room (read_packet t b number first) round (d.at x.slots).did

      -- a stop hands back the state in which the reading began
      pub round-stops : (v : Stop) (begun : Progress) → begun ≡ first_state → r.went ≡ Err v
          → RanDid o first_state (stopped_ran v (used + r.used) begun) ws₀ (merged used ws ys)
      round-stops v begun e off = rw (e) (record {
        slots = x.slots;
        did = part-stop (read_packet t b number first) (next t b number first (x.left - 1)) round (d.at x.slots).did v first_state
            x.slots off;
      })

      -- the rules' states in front of the packet, and behind it
      abbrev before : State
      before = full st x.slots (length (lent used ws))

      abbrev behind : State
      behind = full r.state (d.at x.slots).slots (length (lent used ws) - r.used)

      pub round-behind : r.went ≡ Ok tt → Behind b st.place.0 behind
      unfolding out_of
      round-behind on =
          let g = (d.at x.slots).did in
          let e : read_packet t b number first before ≡ go g.listed behind = g.out ∙ rw (on) refl in
          subst (Onward (Behind b st.place.0)) e (packet-onward t w b number first before more x.starts.whole)

      pub round-goes : r.went ≡ Ok tt
          → Looping t b o ws₀ (merged used ws ys) (used + r.used) r.state (Some r.state.said.stream) (number + 1)
      round-goes on =
          let h = round-behind on in
          let others = next t b number first (x.left - 1) in
          record {
            slots = (d.at x.slots).slots;
            left = x.left - 1;
            part = part_same others (read_packets t b (number + 1) (Some r.state.said.stream) (x.left - 1)) refl
                (part_step (read_packet t b number first) others round (d.at x.slots).did on);
            starts = record { whole = h.whole; within = h.within };
            rounds = omega (arith, h.on, x.rounds);
            count = omega (arith, h.on, x.count);
          }

  pub loop-end : (came : Progress) → 8 * length b ≤ st.place.0 → RanDid o came (record { went = Ok tt; used = used; state = st }) ws₀ ws
  unfolding pass
  loop-end came h =
      let none = no-packets t b number first x.left (full st x.slots (length ws₀ - used)) h in
      record { slots = x.slots; did = part_end (part_same _ pass none x.part) came (λ s. refl) }
