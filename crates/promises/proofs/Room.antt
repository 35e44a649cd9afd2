-- More room changes nothing, unless the reading ran out of it (40); then the entries are the first ones of those under more room.
use Rattle.std.specs.Prelude.{None, Option}
use mathlib.Core.Path.{◌≡◌, refl, sym, ap, ◌∙◌}
use mathlib.Core.Logic.{◌⊎◌, inl, inr}
use Prim.Native.Nat.{ℕ, ◌+◌, ◌-◌, ◌≤◌}
use native.Mathlib.Omega.{arith}
use mathlib.Core.List.{List, [], ◌∷◌, ◌++◌}
use mathlib.Core.Bool.{Bool, true, false, ◌||◌}
use lib.ListN.{length}
use lib.Dec.{ltb, eqb}
use borrow.Author.Tests.{ltb-false, le-ltb}
use Rattle.rules.specs.declared.BitPlace.{BitPlace}
use Rattle.rules.specs.declared.Entry.{Entry}
use Rattle.rules.specs.declared.Refusal.{Refusal}
use Rattle.rules.specs.declared.Refusal.TheVariants.{StreamSize, PastBound, LebTooLarge, ListFull}
use Rattle.rules.specs.declared.Verdict.TheVariants.{Refused}
use Rattle.rules.specs.Limits.{words_per_entry, stream_limit}
use Rattle.rules.specs.Verdict.{stop_at, refusal_number, number_of}
use Rattle.rules.specs.Place.{bit_place}
use Rattle.rules.specs.Slots.{slot_at}
use Rattle.rules.specs.Step.{State, Out, stop, go, Step, onto, after, ◌⨾◌, refuse, refuse_at, check, check_at, due, listed, change, pass}
use Rattle.rules.specs.Step.{with_slots, with_order, with_clock, with_last, with_said}
use Rattle.rules.specs.Table.{Asked, asked}
use Rattle.rules.specs.Field.{Env, aligned, field, store, say, from_slot}
use Rattle.rules.specs.Packet.{read_packet, read_packets, mark, start_event, start_packet, end_packet}
use Rattle.rules.specs.Parse.{Parsed, bad, good, parse}
use Rattle.rules.specs.Read.{Reading, ended, begin, read_stream, read_all, read_parsed}
use Rattle.facts.proofs.Steps.{onto-nil, onto-onto, after-onto}
use Rattle.promises.specs.Laws.{RanOut}
use Rattle.laws.proofs.Law.{Any, AnyRecord}
use Rattle.laws.proofs.Places.{tenth_byte}
use Rattle.laws.proofs.Simple.{Simple, View, view}
use Rattle.promises.proofs.Simple.{SimplePackets, simple-packet, simple-packets}

-- a state with d more words of room
unfoldable pub more : ℕ → State → State
more d s = record { place = s.place; room = s.room + d; slots = s.slots; order = s.order; clock = s.clock; last = s.last; said = s.said }

unfoldable wide : ℕ → Out → Out
wide d (stop es v) = stop es v
wide d (go es s) = go es (more d s)

-- out of room: refused by 40 behind some entries, where the other goes on from there
record Ran (o o' : Out) : Type 0 where
  es : List Entry
  place : BitPlace
  rest : Out
  stops : o ≡ stop es (stop_at ListFull place)
  goes : o' ≡ onto es rest

abbrev Wider : ℕ → Out → Out → Type 0
Wider d o o' = (o' ≡ wide d o) ⊎ Ran o o'

record Wide (m : Step) : Type 0 where
  at : (d : ℕ) (s : State) → Wider d (m s) (m (more d s))

-- the same where there is room for an entry
record WideR (m : Step) : Type 0 where
  at : (d : ℕ) (s : State) → words_per_entry ≤ s.room → Wider d (m s) (m (more d s))

wide-onto : (d : ℕ) (es : List Entry) (o : Out) → onto es (wide d o) ≡ wide d (onto es o)
unfolding wide onto
wide-onto d es (stop fs v) = refl
wide-onto d es (go fs s) = refl

wider-onto : (d : ℕ) (es : List Entry) (o o' : Out) → Wider d o o' → Wider d (onto es o) (onto es o')
unfolding onto
wider-onto d es o o' (inl p) = inl (ap (onto es) p ∙ wide-onto d es o)
wider-onto d es o o' (inr c) = inr (record {
  es = es ++ c.es;
  place = c.place;
  rest = c.rest;
  stops = ap (onto es) c.stops;
  goes = ap (onto es) c.goes ∙ onto-onto es c.es c.rest;
})

wider-same : (d : ℕ) (o : Out) (n : Step) → Wide n → Wider d (after o n) (after (wide d o) n)
unfolding after wide
wider-same d (stop es v) n h = inl refl
wider-same d (go es s) n h = wider-onto d es (n s) (n (more d s)) (h.at d s)

wider-after : (d : ℕ) (o o' : Out) (n : Step) → Wider d o o' → Wide n → Wider d (after o n) (after o' n)
unfolding after
wider-after d o o' n (inl p) h = rw p (wider-same d o n h)
wider-after d o o' n (inr c) h = inr (record {
  es = c.es;
  place = c.place;
  rest = after c.rest n;
  stops = ap (λ x. after x n) c.stops;
  goes = ap (λ x. after x n) c.goes ∙ after-onto c.es c.rest n;
})

wide-pass : Wide pass
unfolding pass wide
wide-pass = record { at = λ d s. inl refl }

wide-refuse : (r : Refusal) → Wide (refuse r)
unfolding refuse wide more
wide-refuse r = record { at = λ d s. inl refl }

wide-refuse_at : (r : Refusal) (p : BitPlace) → Wide (refuse_at r p)
unfolding refuse_at wide
wide-refuse_at r p = record { at = λ d s. inl refl }

wider-if : (d : ℕ) (b : Bool) (x x' y y' : Out) → Wider d x x' → Wider d y y' → Wider d (elim b [ true ↦ x | false ↦ y ]) (elim b [ true ↦ x' | false ↦ y' ])
wider-if d true x x' y y' h k = h
wider-if d false x x' y y' h k = k

-- a test that does not look at the room
wide-check : (t : View → Bool) (r : Refusal) → Wide (check (λ s. t (view s)) r)
unfolding check more
wide-check t r = record { at = λ d s. wider-if d (t (view s)) _ _ _ _ ((wide-refuse r).at d s) (wide-pass.at d s) }

module _ (t : View → Bool) (r : Refusal) {m : Step} (k : WideR m) where
  test-narrow : (p : BitPlace) (d : ℕ) (s : State) → words_per_entry ≤ s.room → (b : Bool)
      → Wider d (after (elim b [ true ↦ stop [] (stop_at r p) | false ↦ pass s ]) m)
      (after (elim b [ true ↦ stop [] (stop_at r p) | false ↦ pass (more d s) ]) m)
  unfolding wide pass after
  test-narrow p d s q true = inl refl
  test-narrow p d s q false = rw (onto-nil (m s), onto-nil (m (more d s))) (k.at d s q)

  check-narrow : WideR (check (λ s. t (view s)) r ⨾ m)
  unfolding check refuse ◌⨾◌ more
  check-narrow = record { at = λ d s q. test-narrow s.place d s q (t (view s)) }

  check_at-narrow : (p : BitPlace) → WideR (check_at (λ s. t (view s)) r p ⨾ m)
  unfolding check_at refuse_at ◌⨾◌ more
  check_at-narrow p = record { at = λ d s q. test-narrow p d s q (t (view s)) }

due-wide : {m : Step} → WideR m → Wide (due ⨾ m)
unfolding due check ◌⨾◌ pass refuse after
due-wide {m} h = record { at = λ d s. by d s (ltb s.room words_per_entry) refl }
  where
    by : (d : ℕ) (s : State) (b : Bool) → ltb s.room words_per_entry ≡ b
        → Wider d (after (elim b [ true ↦ refuse ListFull s | false ↦ pass s ]) m)
        (after (elim (ltb (more d s).room words_per_entry) [ true ↦ refuse ListFull (more d s) | false ↦ pass (more d s) ]) m)
    by d s true e = inr (record { es = []; place = s.place; rest = _; stops = refl; goes = sym (onto-nil _) })
    by d s false e =
        let r : words_per_entry ≤ s.room = ltb-false s.room words_per_entry e in
        let r' : ltb (more d s).room words_per_entry ≡ false = unfold more in le-ltb (s.room + d) words_per_entry (omega arith) in
        rw (r', onto-nil (m s), onto-nil (m (more d s))) (h.at d s r)

listed-wide : (e : Entry) (p : BitPlace) (d : ℕ) (s : State) → words_per_entry ≤ s.room → listed e p (more d s) ≡ wide d (listed e p s)
unfolding listed wide more
listed-wide e p d s r =
    let q : s.room + d - words_per_entry ≡ s.room - words_per_entry + d = omega arith in
    ap (λ x. go (e ∷ []) (record { place = p; room = x; slots = s.slots; order = s.order; clock = s.clock; last = s.last; said = s.said })) q

wide-simple : (e : Env) → Simple e AnyRecord Any Wide WideR
unfolding ◌⨾◌ field aligned store say from_slot change with_slots with_order with_clock with_said wide more
wide-simple e = record {
  seq = λ {m} {n} h k. record { at = λ d s. wider-after d (m s) (m (more d s)) n (h.at d s) k };
  seqʳ = λ {m} {n} h k. record { at = λ d s r. wider-after d (m s) (m (more d s)) n (h.at d s r) k };
  narrow = λ h. record { at = λ d s r. h.at d s };
  dueʳ = λ h. due-wide h;
  passes = wide-pass;
  refuses = λ r small. record { at = λ d s q. (wide-refuse r).at d s };
  checks = λ t r small. wide-check t r;
  checksʳ = λ t r small h. check-narrow t r h;
  refuses_past = record { at = λ d s q. (wide-refuse_at PastBound e.bound).at d s };
  checks_pastʳ = λ t h. check_at-narrow t PastBound h e.bound;
  refuses_large = record { at = λ d s q. (wide-refuse_at LebTooLarge (tenth_byte e s)).at d s };
  looks = λ f h. record { at = λ d s. (h (view s)).at d s };
  looksʳ = λ f h. record { at = λ d s r. (h (view s)).at d s r };
  slots = λ i f h. record { at = λ d s r. (h (slot_at s.slots i)).at d s r };
  fields = λ m k a n v h z l. record { at = λ d s r. inl (listed-wide _ _ d s r) };
  clocked = λ l c. record { at = λ d s r. inl (listed-wide _ _ d s r) };
  stores = λ i x w. record { at = λ d s. inl refl };
  orders = λ o. record { at = λ d s. inl refl };
  clocks = λ c. record { at = λ d s. inl refl };
  says = λ f. record { at = λ d s. inl refl };
}

wide-packets : SimplePackets Wide WideR
unfolding mark end_packet change start_event start_packet with_last wide more
wide-packets = record {
  simple = wide-simple;
  either = λ t h k. record { at = λ d s. wider-if d (t (view s)) _ _ _ _ (h.at d s) (k.at d s) };
  marks = λ k n v. record { at = λ d s r. inl (listed-wide _ _ d s r) };
  starts = record { at = λ d s. inl refl };
  starts_packet = record { at = λ d s. inl refl };
  lasts = record { at = λ d s. inl refl };
  ends = λ to n. due-wide (record { at = λ d s r. inl (listed-wide _ _ d s r) });
}

-- a packet that goes through

pub room-packet : (t : Asked) (b : List ℕ) (k : ℕ) (i : Option ℕ) (d : ℕ) (s : State) (es : List Entry) (u : State) → read_packet t b k i s ≡ go es u
    → read_packet t b k i (more d s) ≡ go es (more d u)
room-packet t b k i d s es u q = by ((simple-packet wide-packets t b k i).at d s)
  where
    by : Wider d (read_packet t b k i s) (read_packet t b k i (more d s)) → read_packet t b k i (more d s) ≡ go es (more d u)
    by (inl p) = unfold wide in p ∙ ap (wide d) q
    by (inr c) = let z : stop c.es (stop_at ListFull c.place) ≡ go es u = sym c.stops ∙ q in let n : ◌≡◌ {A = ℕ} 0 1 = cc in absurd (omega arith)

-- readings

ended-onto : (es : List Entry) (o : Out) → (fs : List Entry) × ((ended (onto es o)).entries ≡ es ++ fs)
unfolding ended onto
ended-onto es (stop fs v) = (fs, refl)
ended-onto es (go fs s) = (fs, refl)

ended-wide : (d : ℕ) (o : Out) → ended (wide d o) ≡ ended o
unfolding ended wide more
ended-wide d (stop es v) = refl
ended-wide d (go es s) = refl

ended-wider : (d : ℕ) (o o' : Out) → Wider d o o' → (ended o' ≡ ended o) ⊎ RanOut (ended o) (ended o')
unfolding ended number_of refusal_number
ended-wider d o o' (inl p) = inl (ap ended p ∙ ended-wide d o)
ended-wider d o o' (inr c) =
    let x = ended-onto c.es c.rest in
    inr (record {
      number = rw c.stops refl;
      others = x.0;
      entries = rw (c.goes, c.stops) x.1;
    })

room-stream : (t : Asked) (b : List ℕ) (room d : ℕ)
    → (read_stream t b (room + d) ≡ read_stream t b room) ⊎ RanOut (read_stream t b room) (read_stream t b (room + d))
unfolding read_stream
room-stream t b room d = by (eqb (length b) 0 || ltb stream_limit (length b))
  where
    of : Bool → ℕ → Reading
    of x n = elim x [ true ↦ record { entries = []; verdict = Refused (stop_at StreamSize (bit_place 0)) } | false ↦ ended (read_packets t b 0 None (length b) (begin n)) ]

    by : (x : Bool) → (of x (room + d) ≡ of x room) ⊎ RanOut (of x room) (of x (room + d))
    by true = inl refl
    by false = unfold begin more in ended-wider d _ _ ((simple-packets wide-packets t b 0 None (length b)).at d (begin room))

-- more room: the same reading, or the first one has number 40 and its entries come first in the other
pub room-more : (x b : List ℕ) (room d : ℕ) → (read_all x b (room + d) ≡ read_all x b room) ⊎ RanOut (read_all x b room) (read_all x b (room + d))
unfolding read_all
room-more x b room d = by (parse x)
  where
    by : (p : Parsed _) → (read_parsed x p b (room + d) ≡ read_parsed x p b room) ⊎ RanOut (read_parsed x p b room) (read_parsed x p b (room + d))
    by (bad n y) = unfold read_parsed in inl refl
    by (good t y) = unfold read_parsed in room-stream (asked t) b room d
