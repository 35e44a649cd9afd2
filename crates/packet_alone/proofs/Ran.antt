-- A packet that goes through, part by part: header, class, context, lengths and events, with the state behind each. It is taken apart and
-- put together once, so that whatever else is said of such a packet is said of its parts.
use Rattle.std.specs.Prelude.{Option, None, Some}
use mathlib.Core.Path.{◌≡◌, refl, sym, ap, ◌∙◌}
use Prim.Native.Nat.{ℕ, ◌+◌, ◌-◌, ◌*◌}
use native.Mathlib.Omega.{arith}
use mathlib.Core.List.{List, ◌∷◌, ◌++◌}
use mathlib.Core.Bool.{Bool, false}
use lib.ListN.{length}
use lib.Dec.{ltb}
use Rattle.rules.specs.declared.BitPlace.{BitPlace}
use Rattle.rules.specs.declared.Entry.{Entry}
use Rattle.rules.specs.declared.Refusal.TheVariants.{StreamClassChanged, LengthsContradict, ClocksContradict}
use Rattle.rules.specs.Limits.{words_per_entry}
use Rattle.rules.specs.Entry.{entry, packet_starts, stream_class_found, lengths_settled}
use Rattle.rules.specs.Step.{State, go, Step, ◌⨾◌, refuse, check, due}
use Rattle.rules.specs.Table.{StreamClass, Asked}
use Rattle.rules.specs.Packet.{mark, read_root, first_root, above, read_content, with_stream, differs, start_packet, read_packet}
use Rattle.packet_alone.specs.Behind.{to_end, less, total_of, content_of, contradict, events_of, content_step, of_class, of_stream, packet}
use Rattle.laws.proofs.Pair.{through}
use Rattle.packet_alone.proofs.Through.{Split, split, join, passed, pass-check, do-change, has_room, past-due, pass-due, marked}
use Rattle.packet_alone.proofs.Through.{pass-mark}
use Rattle.packet_alone.proofs.Beside.{packet-is}

-- behind the context: lengths, entry 3 and the events
pub record RanContent (t : Asked) (c : StreamClass) (b : List ℕ) (p : BitPlace) (total content : ℕ) (s : State) (es : List Entry)
    (u : State) : Type 0 where
  pub room : ltb s.room words_per_entry ≡ false
  pub lengths : contradict b p total content s ≡ false
  pub clocks : above s.clock s.said.ending ≡ false
  pub rest : List Entry
  pub events : events_of t c b p total content (less s) ≡ go rest u
  pub list : es ≡ entry lengths_settled s.place total content 0 ∷ rest

pub record Ran (t : Asked) (b : List ℕ) (p : BitPlace) (rest : ℕ) (i : Option ℕ) (s : State) (es : List Entry) (u : State) : Type 0 where
  -- the header
  pub es₁ : List Entry
  pub s₁ : State
  pub header : read_root (to_end t b p) first_root t.header (start_packet s) ≡ go es₁ s₁
  -- the class
  pub same : differs s₁.said.stream i ≡ false
  pub room : ltb s₁.room words_per_entry ≡ false
  pub c : StreamClass
  pub found : t.stream s₁.said.stream ≡ Some c
  -- the context
  pub es₂ : List Entry
  pub s₂ : State
  pub context : read_root (to_end t b p) first_root c.context (less s₁) ≡ go es₂ s₂
  -- the content
  pub es₃ : List Entry
  pub content : RanContent t c b p (total_of rest s₂) (content_of rest s₂) s₂ es₃ u
  pub list : es ≡ es₁ ++ (entry stream_class_found s₁.place 0 s₁.said.stream 0 ∷ (es₂ ++ es₃))

in_order : (es₁ fs gs es₂ es₃ es : List Entry) (x : Entry) → es ≡ es₁ ++ fs → fs ≡ x ∷ gs → gs ≡ es₂ ++ es₃ → es ≡ es₁ ++ (x ∷ (es₂ ++ es₃))
in_order es₁ fs gs es₂ es₃ es x p q r = p ∙ ap (λ l. es₁ ++ l) (q ∙ ap (λ l. x ∷ l) r)

module _ (t : Asked) (b : List ℕ) (p : BitPlace) where
  module _ (c : StreamClass) (total content : ℕ) where
    abbrev clocked : Step
    clocked = check (λ s. above s.clock s.said.ending) ClocksContradict ⨾ mark lengths_settled total content
        ⨾ events_of t c b p total content

    abbrev measured : Step
    measured = check (contradict b p total content) LengthsContradict ⨾ clocked

    abbrev marking : Step
    marking = mark lengths_settled total content ⨾ events_of t c b p total content

    abbrev ends : State → Bool
    ends s = above s.clock s.said.ending

    pub ran-content : (s : State) (es : List Entry) (u : State) → read_content t c b p total content s ≡ go es u
        → RanContent t c b p total content s es u
    unfolding read_content
    ran-content s es u q =
        let q₁ : measured s ≡ go es u = past-due measured s es u q in
        let q₂ : clocked s ≡ go es u = through (contradict b p total content) LengthsContradict clocked s es u q₁ in
        let q₃ : marking s ≡ go es u = through ends ClocksContradict marking s es u q₂ in
        let m = marked lengths_settled total content (events_of t c b p total content) s es u q₃ in
        record {
          room = has_room measured s es u q;
          lengths = passed (contradict b p total content) LengthsContradict clocked s es u q₁;
          clocks = passed ends ClocksContradict marking s es u q₂;
          rest = m.0;
          events = m.1;
          list = m.2;
        }

    pub run-content : (s : State) (es : List Entry) (u : State) → RanContent t c b p total content s es u
        → read_content t c b p total content s ≡ go es u
    unfolding read_content
    run-content s es u r =
        pass-due measured s r.room
        ∙ pass-check (contradict b p total content) LengthsContradict clocked s r.lengths
        ∙ pass-check ends ClocksContradict marking s r.clocks
        ∙ pass-mark lengths_settled total content (events_of t c b p total content) s r.rest u r.events
        ∙ ap (λ l. go l u) (sym r.list)

  module _ (rest : ℕ) (i : Option ℕ) where
    abbrev differing : State → Bool
    differing s = differs s.said.stream i

    abbrev streamed : Step
    streamed s = of_stream t b p rest s s

    abbrev compared : Step
    compared = check differing StreamClassChanged ⨾ due ⨾ streamed

    abbrev pub headed : Step
    headed = read_root (to_end t b p) first_root t.header ⨾ compared

    abbrev behind : StreamClass → Step
    behind c = read_root (to_end t b p) first_root c.context ⨾ content_step t b p rest c

    pub ran : (s : State) (es : List Entry) (u : State) → packet t b p rest i s ≡ go es u → Ran t b p rest i s es u
    ran s es u q = by (t.stream s₁.said.stream) refl q₃
      where
        q₁ : headed (start_packet s) ≡ go es u
        q₁ = sym (do-change start_packet headed s) ∙ q

        h : Split (read_root (to_end t b p) first_root t.header) compared (start_packet s) es u
        h = split (read_root (to_end t b p) first_root t.header) compared (start_packet s) es u q₁

        s₁ : State
        s₁ = h.middle

        q₂ : (due ⨾ streamed) s₁ ≡ go h.second u
        q₂ = through differing StreamClassChanged (due ⨾ streamed) s₁ h.second u h.goes_on

        q₃ : streamed s₁ ≡ go h.second u
        q₃ = past-due streamed s₁ h.second u q₂

        by : (o : Option StreamClass) → t.stream s₁.said.stream ≡ o
            → with_stream s₁.said.stream o (of_class t b p rest s₁.said.stream) s₁ ≡ go h.second u → Ran t b p rest i s es u
        by None f g = unfold with_stream refuse in let z : ◌≡◌ {A = ℕ} 0 1 = cc in absurd (omega arith)
        by (Some c) f g =
            let m = marked stream_class_found 0 s₁.said.stream (behind c) s₁ h.second u (unfold with_stream in g) in
            let k = split (read_root (to_end t b p) first_root c.context) (content_step t b p rest c) (less s₁) m.0 u m.1 in
            record {
              es₁ = h.first;
              s₁ = s₁;
              header = h.goes;
              same = passed differing StreamClassChanged (due ⨾ streamed) s₁ h.second u h.goes_on;
              room = has_room streamed s₁ h.second u q₂;
              c = c;
              found = f;
              es₂ = k.first;
              s₂ = k.middle;
              context = k.goes;
              es₃ = k.second;
              content = ran-content c (total_of rest k.middle) (content_of rest k.middle) k.middle k.second u k.goes_on;
              list = in_order h.first h.second m.0 k.first k.second es _ h.list m.2 k.list;
            }

    pub run : (s : State) (es : List Entry) (u : State) → Ran t b p rest i s es u → packet t b p rest i s ≡ go es u
    run s es u r =
        do-change start_packet headed s
        ∙ join (read_root (to_end t b p) first_root t.header) compared (start_packet s) r.es₁ r.s₁ _ u r.header later
        ∙ ap (λ l. go l u) (sym r.list)
      where
        found : streamed r.s₁ ≡ with_stream r.s₁.said.stream (Some r.c) (of_class t b p rest r.s₁.said.stream) r.s₁
        found = ap (λ o. with_stream r.s₁.said.stream o (of_class t b p rest r.s₁.said.stream) r.s₁) r.found

        inside : behind r.c (less r.s₁) ≡ go (r.es₂ ++ r.es₃) u
        inside = join (read_root (to_end t b p) first_root r.c.context) (content_step t b p rest r.c) (less r.s₁) r.es₂
            r.s₂ r.es₃ u
            r.context
            (run-content r.c (total_of rest r.s₂) (content_of rest r.s₂) r.s₂ r.es₃ u r.content)

        whole : with_stream r.s₁.said.stream (Some r.c) (of_class t b p rest r.s₁.said.stream) r.s₁
            ≡ go (entry stream_class_found r.s₁.place 0 r.s₁.said.stream 0 ∷ (r.es₂ ++ r.es₃)) u
        whole = unfold with_stream in pass-mark stream_class_found 0 r.s₁.said.stream (behind r.c) r.s₁ _ u inside

        later : compared r.s₁ ≡ go (entry stream_class_found r.s₁.place 0 r.s₁.said.stream 0 ∷ (r.es₂ ++ r.es₃)) u
        later = pass-check differing StreamClassChanged (due ⨾ streamed) r.s₁ r.same ∙ pass-due streamed r.s₁ r.room ∙ found
            ∙ whole

-- entry 1 and what is behind it
pub record RanWhole (t : Asked) (b : List ℕ) (k : ℕ) (i : Option ℕ) (s : State) (es : List Entry) (u : State) : Type 0 where
  pub room : ltb s.room words_per_entry ≡ false
  pub others : List Entry
  pub behind : packet t b s.place (8 * length b - s.place.0) i (less s) ≡ go others u
  pub list : es ≡ entry packet_starts s.place 0 k 0 ∷ others

module _ (t : Asked) (b : List ℕ) (k : ℕ) (i : Option ℕ) (s : State) (es : List Entry) (u : State) where
  abbrev rests : Step
  rests = packet t b s.place (8 * length b - s.place.0) i

  pub ran-whole : read_packet t b k i s ≡ go es u → RanWhole t b k i s es u
  ran-whole q =
      let q₁ : (due ⨾ mark packet_starts 0 k ⨾ rests) s ≡ go es u = sym (packet-is t b k i s) ∙ q in
      let m = marked packet_starts 0 k rests s es u (past-due (mark packet_starts 0 k ⨾ rests) s es u q₁) in
      record { room = has_room (mark packet_starts 0 k ⨾ rests) s es u q₁; others = m.0; behind = m.1; list = m.2 }

  pub run-whole : RanWhole t b k i s es u → read_packet t b k i s ≡ go es u
  run-whole r =
      packet-is t b k i s ∙ pass-due (mark packet_starts 0 k ⨾ rests) s r.room
      ∙ pass-mark packet_starts 0 k rests s r.others u r.behind
      ∙ ap (λ l. go l u) (sym r.list)
