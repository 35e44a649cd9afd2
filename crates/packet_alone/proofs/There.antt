-- A packet that goes through goes through at another place in another stream, where the bytes are the same; also from a lower last clock.
-- What it lists is moved, and the state behind it too.
use Rattle.std.specs.Prelude.{Option}
use mathlib.Core.Path.{◌≡◌, refl, sym, ap, ◌∙◌}
use Prim.Native.Nat.{ℕ, ◌+◌, ◌-◌, ◌*◌, ◌%◌, ◌≤◌}
use native.Mathlib.Omega.{arith}
use mathlib.Core.List.{List, ◌∷◌, ◌++◌}
use mathlib.Core.Bool.{false, not}
use lib.ListN.{length}
use lib.Dec.{ltb, eqb}
use borrow.Author.Tests.{ltb-false}
use Rattle.rules.specs.declared.BitPlace.{BitPlace}
use Rattle.rules.specs.declared.Entry.{Entry}
use Rattle.rules.specs.Place.{bit_place, further}
use Rattle.rules.specs.Entry.{entry, stream_class_found}
use Rattle.rules.specs.Step.{State, go}
use Rattle.rules.specs.Class.{Class}
use Rattle.rules.specs.Table.{StreamClass, Asked}
use Rattle.rules.specs.Field.{Env}
use Rattle.rules.specs.Packet.{read_root, first_root, read_events, start_packet}
use Rattle.laws.specs.Between.{Between}
use Rattle.packet_alone.specs.Behind.{up_to, to_end, less, total_of, content_of, contradict, events_of}
use Rattle.laws.specs.Far.{away, far_entry, far_all, far}
use Rattle.laws.proofs.Far.{far-append}
use Rattle.laws.specs.Far.{Like}
use Rattle.laws.proofs.Pair.{pair-root}
use Rattle.packet_alone.proofs.Beside.{like, none_of_four, contradict-same, entries-same}
use Rattle.packet_alone.proofs.LowClock.{Low}
use Rattle.packet_alone.proofs.Lower.{Lowered, out_of, still-in, lowers-events}
use Rattle.packet_alone.proofs.Ran.{RanContent, Ran}

module _ (t : Asked) (b b' : List ℕ) (p p' : BitPlace) (y : Like (to_end t b p) (to_end t b' p')) (l : ℕ → ℕ) where
  abbrev e : Env
  e = to_end t b p

  abbrev e' : Env
  e' = to_end t b' p'

  abbrev there : State → State
  there s = far e e' l s

  root-there : (m : ℕ) (c : Option Class) (s : State) (es : List Entry) (u : State) → Between e s.place.0 → read_root e m c s ≡ go es u
      → read_root e' m c (there s) ≡ go (far_all e e' es) (there u)
  root-there m c s es u d q = out_of e e' l (read_root e m c s) (read_root e' m c (there s)) es u ((pair-root e e' y l m c).rel s d) q

  root_in : (m : ℕ) (c : Option Class) (s : State) (es : List Entry) (u : State) → Between e s.place.0 → read_root e m c s ≡ go es u
      → Between e u.place.0
  root_in m c s es u d q = still-in e e' y l (pair-root e e' y l m c) s es u d q

  header-there : (s : State) (es : List Entry) (u : State) → Between e s.place.0
      → read_root e first_root t.header (start_packet s) ≡ go es u
      → read_root e' first_root t.header (start_packet (there s)) ≡ go (far_all e e' es) (there u)
  unfolding start_packet far
  header-there s es u d q = root-there first_root t.header (start_packet s) es u d q

  header-in : (s : State) (es : List Entry) (u : State) → Between e s.place.0
      → read_root e first_root t.header (start_packet s) ≡ go es u
      → Between e u.place.0
  unfolding start_packet
  header-in s es u d q = root_in first_root t.header (start_packet s) es u d q

  context-there : (c : Option Class) (s : State) (es : List Entry) (u : State) → Between e s.place.0
      → read_root e first_root c (less s) ≡ go es u
      → read_root e' first_root c (less (there s)) ≡ go (far_all e e' es) (there u)
  unfolding far
  context-there c s es u d q = root-there first_root c (less s) es u d q

  -- the events, under the content's bound
  module _ (c : StreamClass) (low : Low c l) (total content : ℕ) (s : State) (es : List Entry) (u : State) where
    abbrev n : Env
    n = up_to t b p (p.0 + content)

    abbrev n' : Env
    n' = up_to t b' p' (p'.0 + content)

    -- the last clock behind them, and where they end there
    record EventsThere : Type 0 where
      l₁ : ℕ → ℕ
      low₁ : Low c l₁
      goes : events_of t c b' p' total content (less (there s)) ≡ go (far_all e e' es) (far e e' l₁ u)

    events-there : p.0 ≤ s.place.0 → s.place.0 ≤ p.0 + content → p.0 + content ≤ 8 * length b
        → events_of t c b p total content (less s) ≡ go es u → EventsThere
    unfolding far
    events-there f g h q = record { l₁ = w.l; low₁ = w.low; goes = moved }
      where
        to : p'.0 + (p.0 + total - p.0) ≡ p'.0 + total
        to = omega arith

        left : p'.0 + content - (p'.0 + (s.place.0 - p.0)) ≡ p.0 + content - s.place.0
        left = omega arith

        equal : p'.0 + content - p'.0 ≤ p.0 + content - p.0
        equal = omega arith

        w : Lowered c n n' (read_events t c n' (bit_place (away n n' (p.0 + total))) 0 (p.0 + content - s.place.0)
            (far n n' l (less s))) es u
        w = lowers-events n n' (like t b b' p p' y content h) equal t c l low (p.0 + total) 0 (p.0 + content - s.place.0) (less s) es
            u (f, g) (omega arith) q

        entries : far_all n n' es ≡ far_all e e' es
        entries = entries-same t b b' p p' y (p.0 + content) (p'.0 + content) (8 * length b) (8 * length b') es

        moved : events_of t c b' p' total content (less (there s)) ≡ go (far_all e e' es) (far e e' w.l u)
        moved =
            ap (λ k. read_events t c n' (further p' total) 0 k (far n n' l (less s))) left
            ∙ ap (λ z. read_events t c n' (bit_place z) 0 (p.0 + content - s.place.0) (far n n' l (less s))) (sym to)
            ∙ w.goes ∙ ap (λ z. go z (far e e' w.l u)) entries

  module _ (rest : ℕ) (i : Option ℕ) (s : State) (es : List Entry) (u : State) (d : Between e s.place.0) (r : Ran t b p rest i s es u)
      (low : Low r.c l) where
    abbrev total : ℕ
    total = total_of rest r.s₂

    abbrev content : ℕ
    content = content_of rest r.s₂

    -- the last clock behind it, and that it goes through there
    pub record RanThere : Type 0 where
      pub l₁ : ℕ → ℕ
      pub low₁ : Low r.c l₁
      pub runs : Ran t b' p' rest i (there s) (far_all e e' es) (far e e' l₁ u)

    d₁ : Between e r.s₁.place.0
    d₁ = header-in s r.es₁ r.s₁ d r.header

    d₂ : Between e r.s₂.place.0
    d₂ = root_in first_root r.c.context (less r.s₁) r.es₂ r.s₂ d₁ r.context

    fits : (content ≤ total) × (p.0 + total ≤ 8 * length b) × (r.s₂.place.0 ≤ p.0 + content)
    fits =
        let f = none_of_four (not (eqb (total % 8) 0)) (ltb total content) (ltb (8 * length b) (p.0 + total))
        (ltb (p.0 + content) r.s₂.place.0) r.content.lengths in
        (ltb-false _ _ f.0, ltb-false _ _ f.1, ltb-false _ _ f.2)

    in_stream : p.0 + content ≤ 8 * length b
    in_stream =
        let o : content ≤ total = fits.0 in
        let k : p.0 + total ≤ 8 * length b = fits.1 in
        omega arith

    lengths-there : contradict b' p' total content (there r.s₂) ≡ false
    unfolding far
    lengths-there =
        let f = none_of_four (not (eqb (total % 8) 0)) (ltb total content) (ltb (8 * length b) (p.0 + total))
        (ltb (p.0 + content) r.s₂.place.0) r.content.lengths in
        contradict-same t b b' p p' y r.c total content r.s₂ d₂.0 f.1 ∙ r.content.lengths

    later : EventsThere r.c low total content r.s₂ r.content.rest u
    later = events-there r.c low total content r.s₂ r.content.rest u d₂.0 fits.2 in_stream r.content.events

    content-there : RanContent t r.c b' p' total content (there r.s₂) (far_all e e' r.es₃) (far e e' later.l₁ u)
    content-there = record {
      room = unfold far in r.content.room;
      lengths = lengths-there;
      clocks = unfold far in r.content.clocks;
      rest = far_all e e' r.content.rest;
      events = later.goes;
      list = unfold far_all far_entry far in ap (far_all e e') r.content.list;
    }

    list-there : far_all e e' es
        ≡ far_all e e' r.es₁ ++ (entry stream_class_found (there r.s₁).place 0
        r.s₁.said.stream 0 ∷ (far_all e e' r.es₂ ++ far_all e e' r.es₃))
    list-there =
        ap (far_all e e') r.list
        ∙ far-append e e' r.es₁ (entry stream_class_found r.s₁.place 0 r.s₁.said.stream 0 ∷ (r.es₂ ++ r.es₃))
        ∙ ap (λ z. far_all e e' r.es₁ ++ z) (marked
        ∙ ap (λ z. entry stream_class_found (there r.s₁).place 0 r.s₁.said.stream 0 ∷ z) (far-append e e' r.es₂ r.es₃))
      where
        marked : far_all e e' (entry stream_class_found r.s₁.place 0 r.s₁.said.stream 0 ∷ (r.es₂ ++ r.es₃))
            ≡ entry stream_class_found (there r.s₁).place 0 r.s₁.said.stream 0 ∷ far_all e e' (r.es₂ ++ r.es₃)
        marked = unfold far_all far_entry far in refl

    pub goes-there : RanThere
    goes-there = record {
      l₁ = later.l₁;
      low₁ = later.low₁;
      runs = record {
        es₁ = far_all e e' r.es₁;
        s₁ = there r.s₁;
        header = header-there s r.es₁ r.s₁ d r.header;
        same = unfold far in r.same;
        room = unfold far in r.room;
        c = r.c;
        found = unfold far in r.found;
        es₂ = far_all e e' r.es₂;
        s₂ = there r.s₂;
        context = context-there r.c.context r.s₁ r.es₂ r.s₂ d₁ r.context;
        es₃ = far_all e e' r.es₃;
        content = unfold far in content-there;
        list = unfold far in list-there;
      };
    }
