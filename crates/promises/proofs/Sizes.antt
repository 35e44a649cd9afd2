-- A stream is refused for its size just where it is empty or over the limit: any other lists its first packet's entry 1, or is refused by
-- 40 since there is no room for it.
use Rattle.std.specs.Prelude.{None, Option}
use mathlib.Core.Path.{◌≡◌, refl, sym, ap, subst, ◌∙◌}
use mathlib.Core.Logic.{◌⊎◌, inl, inr, ⊎_elim, ◌↔◌}
use Prim.Native.Nat.{ℕ, zero, suc, ◌*◌, ◌≤◌, ◌<◌}
use native.Mathlib.Omega.{arith}
use mathlib.Core.List.{List, [], ◌∷◌}
use mathlib.Core.Bool.{Bool, true, false, ◌||◌}
use lib.ListN.{length}
use lib.Dec.{ltb, eqb}
use borrow.Author.Tests.{ltb-true, ltb-false, lt-ltb, eqb-true}
use Rattle.rules.specs.declared.Entry.{Entry}
use Rattle.rules.specs.declared.Refusal.TheVariants.{StreamSize}
use Rattle.rules.specs.declared.Verdict.TheVariants.{Refused}
use Rattle.rules.specs.Limits.{words_per_entry, stream_limit}
use Rattle.rules.specs.Place.{bit_place}
use Rattle.rules.specs.Verdict.{stop_at, refusal_number, number_of, place_of, first_of, second_of, refusal_first, refusal_second}
use Rattle.rules.specs.Entry.{packet_starts}
use Rattle.rules.specs.Step.{State, Out, stop, go, Step, onto, after, ◌⨾◌, refuse}
use Rattle.rules.specs.Table.{Asked, asked}
use Rattle.rules.specs.Packet.{read_packet, read_packets}
use Rattle.rules.specs.Read.{ended, begin, read_stream, read_parsed, read_all, result_of}
use Rattle.facts.proofs.Truth.{clash, or-true, or-false}
use Rattle.listing.proofs.Checks.{room-first, no-room-first}
use Rattle.listing.proofs.Marks.{mark_on}
use Rattle.promises.specs.Sizes.{refused_by_size, StreamSizes}

positive : (n : ℕ) → eqb n 0 ≡ false → 1 ≤ n
positive zero h = absurd (clash (sym h))
positive (suc n) h = omega arith

-- an entry is listed, or there was no room for it
abbrev Begun : Out → Type 0
Begun (stop [] v) = refusal_number v.why ≡ 40
Begun (stop (x ∷ es) v) = Unit {0}
Begun (go [] s) = ⊥
Begun (go (x ∷ es) s) = Unit {0}

begun-onto : (x : Entry) (es : List Entry) (o : Out) → Begun (onto (x ∷ es) o)
unfolding onto
begun-onto x es (stop fs v) = tt
begun-onto x es (go fs s) = tt

begun-after : (o : Out) (m : Step) → Begun o → Begun (after o m)
unfolding after
begun-after (stop es v) m h = h
begun-after (go [] s) m h = absurd h
begun-after (go (x ∷ es) s) m h = begun-onto x es (m s)

-- 21 is neither
begun-not-size : (o : Out) → Begun o → result_of (ended o) ≡ refused_by_size → ⊥
unfolding ended result_of number_of
begun-not-size (stop [] v) h q = let n : refusal_number v.why ≡ 21 = ap (λ r. r.number) q in omega arith
begun-not-size (stop (x ∷ es) v) h q = let n : suc (length es) ≡ 0 = ap (λ r. r.entries) q in omega arith
begun-not-size (go [] s) h q = h
begun-not-size (go (x ∷ es) s) h q = let n : suc (length es) ≡ 0 = ap (λ r. r.entries) q in omega arith

module _ (t : Asked) (b : List ℕ) where
  -- a packet's first step is its entry 1
  packet-begun : (k : ℕ) (i : Option ℕ) (s : State) → Begun (read_packet t b k i s)
  unfolding read_packet
  packet-begun k i s = by (ltb s.room words_per_entry) refl
    where
      by : (c : Bool) → ltb s.room words_per_entry ≡ c → Begun (read_packet t b k i s)
      by true e = unfold refuse refusal_number in subst Begun (sym (no-room-first _ s (ltb-true _ _ e))) refl
      by false e = subst Begun (sym (room-first _ s (ltb-false _ _ e) ∙ mark_on packet_starts 0 k _ s)) (begun-onto _ [] _)

  packets-begun : (left : ℕ) → 1 ≤ left → (s : State) → s.place.0 < 8 * length b → Begun (read_packets t b 0 None left s)
  unfolding read_packets ◌⨾◌
  packets-begun zero h s l = absurd (omega arith)
  packets-begun (suc left) h s l = rw (lt-ltb s.place.0 (8 * length b) l, read_packets) (begun-after _ _ (packet-begun 0 None s))

  read-not-size : (room : ℕ) → 1 ≤ length b → result_of (ended (read_packets t b 0 None (length b) (begin room))) ≡ refused_by_size → ⊥
  unfolding begin
  read-not-size room h = begun-not-size _ (packets-begun (length b) h (begin room) (omega arith))

  -- by the test that the rules make
  sizes-just : (room : ℕ) → (result_of (read_stream t b room) ≡ refused_by_size) ↔ ((length b ≡ 0) ⊎ (536_870_911 < length b))
  unfolding read_stream
  sizes-just room = by (eqb (length b) 0 || ltb stream_limit (length b)) refl
    where
      Just : Bool → Type 0
      Just c = (result_of (elim c [
        | true ↦ record { entries = []; verdict = Refused (stop_at StreamSize (bit_place 0)) }
        | false ↦ ended (read_packets t b 0 None (length b) (begin room))
      ]) ≡ refused_by_size) ↔ ((length b ≡ 0) ⊎ (536_870_911 < length b))

      by : (c : Bool) → eqb (length b) 0 || ltb stream_limit (length b) ≡ c → Just c
      by true e = (
        (λ q. or-true _ _ e (λ h. inl (eqb-true _ _ h)) (λ h. inr (ltb-true _ _ h))),
        (λ h. unfold result_of number_of place_of first_of second_of refusal_number refusal_first refusal_second in refl),
      )
      by false e =
          let size = or-false _ _ e in
          let some : 1 ≤ length b = positive (length b) size.0 in
          let few : length b ≤ stream_limit = ltb-false _ _ size.1 in
          ((λ q. absurd (read-not-size room some q)), ⊎_elim (λ h. absurd (omega arith)) (λ h. absurd (omega arith)))

pub stream-sizes : StreamSizes
unfolding read_all read_parsed
stream-sizes x t y p b room = rw (p, read_all) (sizes-just (asked t) b room)
