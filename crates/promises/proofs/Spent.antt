-- Each entry takes its words of the room; and a reading that is refused by 40 has too few left for one more.
use Rattle.std.specs.Prelude.{None, Option}
use mathlib.Core.Path.{◌≡◌, refl, subst}
use Prim.Native.Nat.{ℕ, ◌+◌, ◌-◌, ◌*◌, ◌≤◌, ◌<◌}
use native.Mathlib.Omega.{arith}
use mathlib.Core.List.{List, []}
use mathlib.Core.Bool.{Bool, true, false, ◌||◌}
use lib.ListN.{length, length-append}
use lib.Dec.{ltb, eqb}
use borrow.Author.Tests.{ltb-false, ltb-true}
use Rattle.rules.specs.declared.BitPlace.{BitPlace}
use Rattle.rules.specs.declared.Entry.{Entry}
use Rattle.rules.specs.declared.Refusal.{Refusal}
use Rattle.rules.specs.declared.Refusal.TheVariants.{StreamSize, PastBound, LebTooLarge, ListFull}
use Rattle.rules.specs.declared.Stop.{Stop}
use Rattle.rules.specs.declared.Verdict.TheVariants.{Refused}
use Rattle.rules.specs.Limits.{words_per_entry, stream_limit}
use Rattle.rules.specs.Verdict.{stop_at, refusal_number, number_of}
use Rattle.rules.specs.Place.{bit_place}
use Rattle.rules.specs.Slots.{slot_at}
use Rattle.rules.specs.Step.{State, Out, stop, go, Step, onto, after, ◌⨾◌, refuse, refuse_at, check, check_at, due, listed}
use Rattle.rules.specs.Step.{change, pass, with_slots, with_order, with_clock, with_last, with_said}
use Rattle.rules.specs.Table.{Asked, asked}
use Rattle.rules.specs.Field.{Env, field, store, say, from_slot}
use Rattle.rules.specs.Packet.{read_packet, read_packets, mark, start_event, start_packet, end_packet}
use Rattle.rules.specs.Parse.{Parsed, bad, good, parse}
use Rattle.rules.specs.Read.{ended, begin, read_stream, read_all, read_parsed}
use Rattle.facts.proofs.Steps.{onto-nil}
use Rattle.promises.specs.Laws.{SpentReading}
use Rattle.laws.proofs.Law.{Any, AnyRecord}
use Rattle.laws.proofs.Places.{tenth_byte}
use Rattle.laws.proofs.Simple.{NotFull, Simple, view}
use Rattle.promises.proofs.Simple.{SimplePackets, simple-packet, simple-packets}

record Stopped (room : ℕ) (es : List Entry) (v : Stop) : Type 0 where
  within : words_per_entry * length es ≤ room
  full : refusal_number v.why ≡ 40 → room < words_per_entry * length es + words_per_entry

abbrev SpentOut : State → Out → Type 0
SpentOut s (stop es v) = Stopped s.room es v
SpentOut s (go es s') = s'.room + words_per_entry * length es ≡ s.room

record Spent (m : Step) : Type 0 where
  at : (s : State) → SpentOut s (m s)

-- the same where there is room for an entry
record SpentR (m : Step) : Type 0 where
  at : (s : State) → words_per_entry ≤ s.room → SpentOut s (m s)

spent-onto : (s : State) (es : List Entry) (s' : State) → s'.room + words_per_entry * length es ≡ s.room → (o : Out) → SpentOut s' o
    → SpentOut s (onto es o)
unfolding onto
spent-onto s es s' w (stop fs v) h =
    record {
      within = simp length-append (omega (arith, h.within));
      full = λ e. simp length-append (omega (arith, h.full e));
    }
spent-onto s es s' w (go fs s'') h = simp length-append (omega arith)

spent-after : (s : State) (o : Out) (n : Step) → SpentOut s o → Spent n → SpentOut s (after o n)
unfolding after
spent-after s (stop es v) n h k = h
spent-after s (go es s') n h k = spent-onto s es s' h (n s') (k.at s')

spent-change : (f : State → State) → ((s : State) → (f s).room ≡ s.room) → Spent (change f)
unfolding change
spent-change f h = record { at = λ s. let e : (f s).room ≡ s.room = h s in omega arith }

spent-pass : Spent pass
unfolding pass
spent-pass = record { at = λ s. omega arith }

spent-refuse_at : (r : Refusal) (p : BitPlace) → NotFull r → Spent (refuse_at r p)
unfolding refuse_at
spent-refuse_at r p h = record { at = λ s. record { within = omega arith; full = λ e. absurd (h e) } }

spent-refuse : (r : Refusal) → NotFull r → Spent (refuse r)
unfolding refuse refuse_at
spent-refuse r h = record { at = λ s. (spent-refuse_at r s.place h).at s }

spent-if : (s : State) (b : Bool) (x y : Out) → SpentOut s x → SpentOut s y → SpentOut s (elim b [ true ↦ x | false ↦ y ])
spent-if s true x y h k = h
spent-if s false x y h k = k

spent-check : (t : State → Bool) (r : Refusal) → NotFull r → Spent (check t r)
unfolding check
spent-check t r h = record { at = λ s. spent-if s (t s) _ _ ((spent-refuse r h).at s) (spent-pass.at s) }

-- behind a test
module _ (r : Refusal) (h : NotFull r) {m : Step} (k : SpentR m) where
  test-narrow : (p : BitPlace) (s : State) → words_per_entry ≤ s.room → (b : Bool)
      → SpentOut s (after (elim b [ true ↦ refuse_at r p s | false ↦ pass s ]) m)
  unfolding pass refuse_at after
  test-narrow p s q true = (spent-refuse_at r p h).at s
  test-narrow p s q false = rw (onto-nil (m s)) (k.at s q)

  check-narrow : (t : State → Bool) → SpentR (check t r ⨾ m)
  unfolding check ◌⨾◌ refuse refuse_at
  check-narrow t = record { at = λ s q. test-narrow s.place s q (t s) }

  check_at-narrow : (t : State → Bool) (p : BitPlace) → SpentR (check_at t r p ⨾ m)
  unfolding check_at ◌⨾◌
  check_at-narrow t p = record { at = λ s q. test-narrow p s q (t s) }

due-spent : {m : Step} → SpentR m → Spent (due ⨾ m)
unfolding due check ◌⨾◌ pass refuse after
due-spent {m} h = record { at = λ s. by s (ltb s.room words_per_entry) refl }
  where
    by : (s : State) (b : Bool) → ltb s.room words_per_entry ≡ b
        → SpentOut s (after (elim b [ true ↦ refuse ListFull s | false ↦ pass s ]) m)
    by s true e = unfold refusal_number in let r : s.room < words_per_entry = ltb-true s.room words_per_entry e in
        record { within = omega arith; full = λ q. omega arith }
    by s false e = rw (onto-nil (m s)) (h.at s (ltb-false s.room words_per_entry e))

spent-listed : (e : Entry) (p : BitPlace) (s : State) → words_per_entry ≤ s.room → SpentOut s (listed e p s)
unfolding listed
spent-listed e p s r = omega arith

spent-simple : (e : Env) → Simple e AnyRecord Any Spent SpentR
unfolding ◌⨾◌ refusal_number field store say from_slot with_slots with_order with_clock with_said
spent-simple e = record {
  seq = λ {m} {n} h k. record { at = λ s. spent-after s (m s) n (h.at s) k };
  seqʳ = λ {m} {n} h k. record { at = λ s r. spent-after s (m s) n (h.at s r) k };
  narrow = λ h. record { at = λ s r. h.at s };
  dueʳ = λ h. due-spent h;
  passes = spent-pass;
  refuses = λ r small. record { at = λ s q. (spent-refuse r small).at s };
  checks = λ t r small. spent-check _ r small;
  checksʳ = λ t r small h. check-narrow r small h _;
  refuses_past = record { at = λ s q. (spent-refuse_at PastBound e.bound (λ z. omega arith)).at s };
  checks_pastʳ = λ t h. check_at-narrow PastBound (λ z. omega arith) h _ e.bound;
  refuses_large = record { at = λ s q. (spent-refuse_at LebTooLarge (tenth_byte e s) (λ z. omega arith)).at s };
  looks = λ f h. record { at = λ s. (h (view s)).at s };
  looksʳ = λ f h. record { at = λ s r. (h (view s)).at s r };
  slots = λ i f h. record { at = λ s r. (h (slot_at s.slots i)).at s r };
  fields = λ m k a n v h z l. record { at = λ s r. spent-listed _ _ s r };
  clocked = λ l c. record { at = λ s r. spent-listed _ _ s r };
  stores = λ i x w. spent-change _ (λ s. refl);
  orders = λ o. spent-change _ (λ s. refl);
  clocks = λ c. spent-change _ (λ s. refl);
  says = λ f. spent-change _ (λ s. refl);
}

spent-packets : SimplePackets Spent SpentR
unfolding mark end_packet start_event start_packet with_last
spent-packets = record {
  simple = spent-simple;
  either = λ t h k. record { at = λ s. spent-if s (t (view s)) _ _ (h.at s) (k.at s) };
  marks = λ k n v. record { at = λ s r. spent-listed _ _ s r };
  starts = spent-change _ (λ s. refl);
  starts_packet = spent-change _ (λ s. refl);
  lasts = spent-change _ (λ s. refl);
  ends = λ to n. due-spent (record { at = λ s r. spent-listed _ _ s r });
}

-- a packet that goes through leaves no more room

pub packet-spent : (t : Asked) (b : List ℕ) (k : ℕ) (i : Option ℕ) (s : State) (es : List Entry) (u : State) → read_packet t b k i s ≡ go es u
    → u.room ≤ s.room
packet-spent t b k i s es u q =
    let h : u.room + words_per_entry * length es ≡ s.room = subst (SpentOut s) q ((simple-packet spent-packets t b k i).at s) in
    omega arith

-- readings

ended-spent : (s : State) (o : Out) → SpentOut s o → SpentReading s.room (ended o)
unfolding ended number_of
ended-spent s (stop es v) h = record { within = h.within; full = h.full }
ended-spent s (go es s') h = record { within = omega arith; full = λ e. absurd (omega arith) }

stream-spent : (t : Asked) (b : List ℕ) (room : ℕ) → SpentReading room (read_stream t b room)
unfolding read_stream number_of refusal_number
stream-spent t b room = by (eqb (length b) 0 || ltb stream_limit (length b))
  where
    by : (x : Bool) → SpentReading room (elim x [
      | true ↦ record { entries = []; verdict = Refused (stop_at StreamSize (bit_place 0)) }
      | false ↦ ended (read_packets t b 0 None (length b) (begin room))
    ])
    by true = record { within = omega arith; full = λ e. absurd (omega arith) }
    by false = unfold begin in ended-spent (begin room) _ ((simple-packets spent-packets t b 0 None (length b)).at (begin room))

-- the entries take no more than the room; and where the number is 40, the room has no place for one more
pub reading-spent : (x b : List ℕ) (room : ℕ) → SpentReading room (read_all x b room)
unfolding read_all number_of
reading-spent x b room = by (parse x)
  where
    by : (p : Parsed _) → SpentReading room (read_parsed x p b room)
    by (bad n y) = unfold read_parsed in record { within = omega arith; full = λ e. absurd (omega arith) }
    by (good t y) = unfold read_parsed in stream-spent (asked t) b room
