-- A packet behind its lookup as the code takes it: each stop, and the part that is left behind the context and behind entry 3.
use Rattle.std.specs.Prelude.{Option, Ok, Err}
use mathlib.Core.Path.{◌≡◌, refl, ap, sym, ◌∙◌}
use mathlib.Core.List.{List, [], ◌∷◌, ◌++◌}
use mathlib.Core.Bool.{Bool, true, false}
use Prim.Native.Nat.{ℕ, ◌+◌, ◌-◌, ◌*◌, ◌≤◌, ◌<◌}
use native.Mathlib.Omega.{arith}
use lib.ListN.{length, drop}
use Rattle.rules.specs.declared.BitPlace.{BitPlace}
use Rattle.rules.specs.declared.Stop.{Stop}
use Rattle.rules.specs.declared.Refusal.TheVariants.{ListFull, LengthsContradict, ClocksContradict}
use Rattle.rules.specs.Limits.{words_per_entry}
use Rattle.rules.specs.Verdict.{stop_at}
use Rattle.rules.specs.Place.{further}
use Rattle.rules.specs.Slots.{Slots, packet_slots}
use Rattle.rules.specs.Entry.{entry, words, lengths_settled}
use Rattle.rules.specs.Step.{Out}
use Rattle.rules.specs.Packet.{read_root, first_root, read_events, read_content, above, or_else}
use Rattle.listing.specs.declared.Progress.{Progress}
use Rattle.frame.specs.declared.Frame.{Frame}
use Rattle.listing.specs.Did.{Did, full}
use Rattle.frame.specs.Framed.{Framed, env_of}
use Rattle.listing.proofs.Parts.{Part}
use Rattle.class_layout.specs.Fragments.{asked_at, stream_class_at}
use Rattle.laws.specs.Kept.{LeavesUnset}
use Rattle.field_read.specs.declared.Field.{Field}
use Rattle.field_read.specs.Reads.{FieldReads}
use Rattle.event_turns.specs.Roots.{class_of, number_of, Numbered}
use Rattle.event_turns.proofs.Looked.{numbered-reads}
use Rattle.outcome.specs.Ran.{RanDid, stopped_ran}
use Rattle.contradictions.specs.Lengths.{contradicts}
use Rattle.packet_content.specs.Pieces.{whole_frame, packet_env, behind_found}
use Rattle.outcome.proofs.Parted.{root-framed, root-unset}
use Rattle.outcome.proofs.Lists.{refused-ran, marked-part, part_same, part-first, first-stopped}
use Rattle.packet_content.proofs.Lengths.{Lengths, lengths, content-full, content-lengths, content-clocks, content-marked}

-- Content

module _ (t b : List ℕ) (class : ℕ) (p : BitPlace) (total content : ℕ) (st : Progress) (l : Slots) (ws : List ℕ) where
  abbrev Contents : Out
  Contents = read_content (asked_at t) (stream_class_at t class) b p total content (full st l (length ws))

  -- behind entry 3, with ws₁ on the list: the events, by the UUID and the stream class as the code has them
  abbrev pub EventsLeft : (u : List ℕ) (k : ℕ) (ws₁ : List ℕ) (bound to : BitPlace) → Type 0
  EventsLeft u k ws₁ bound to =
      Part Contents
      (read_events (asked_at t) (stream_class_at t k) (env_of b u (record { start = p; bound = bound })) to 0 (bound.0 - st.place.0))
      ws ws₁ words_per_entry st l

  pub content-ran-full : length ws < words_per_entry → RanDid Contents st (stopped_ran (stop_at ListFull st.place) 0 st) ws ws
  content-ran-full h =
      refused-ran Contents st l ws _ (content-full (asked_at t) (stream_class_at t class) b p total content (full st l (length ws)) h)

  -- the stream's end as the code has it, and how its tests went
  module _ (room : words_per_entry ≤ length ws) (f : Frame) (e : f ≡ whole_frame b p) (x : Bool)
      (k : x ≡ contradicts total content p st.place f.bound.0) where
    told : (y : Bool) → x ≡ y → contradicts total content p st.place (8 * length b) ≡ y
    told y h = ap (λ g. contradicts total content p st.place g.bound.0) (sym e) ∙ sym k ∙ h

    pub content-ran-lengths : x ≡ true → RanDid Contents st (stopped_ran (stop_at LengthsContradict st.place) 0 st) ws ws
    content-ran-lengths h =
        refused-ran Contents st l ws _
        (content-lengths (asked_at t) (stream_class_at t class) b p total content (full st l (length ws)) room (told true h))

    module _ (ok : x ≡ false) where
      pub content-lengths-fine : Lengths b p.0 total content st.place.0
      content-lengths-fine = lengths b p st.place total content (told false ok)

      pub events-framed : Framed b (whole_frame b p) st.place
          → Framed b (record { start = p; bound = further p content }) st.place × (p.0 + content ≤ p.0 + total)
      events-framed w =
          let n = content-lengths-fine in
          let ends : p.0 + content ≤ 8 * length b = omega (arith, n.order, n.in_stream) in
          (record { whole = w.whole; begun = w.begun; within = n.reach; ends = ends; small = w.small }, omega (arith, n.order))

      module _ (y : Bool) (j : y ≡ above st.clock.value st.said.ending) where
        pub content-ran-clocks : y ≡ true → RanDid Contents st (stopped_ran (stop_at ClocksContradict st.place) 0 st) ws ws
        content-ran-clocks h =
            refused-ran Contents st l ws _
            (content-clocks (asked_at t) (stream_class_at t class) b p total content (full st l (length ws)) room (told false ok) (sym j ∙ h))

        pub content-part : y ≡ false → {ws₁ : List ℕ}
            → ws₁ ≡ words (entry lengths_settled st.place total content 0 ∷ []) ++ drop words_per_entry ws
            → (u : List ℕ) → u ≡ (asked_at t).uuid → (k : ℕ) → k ≡ class
            → (bound to : BitPlace) → bound ≡ further p content → to ≡ further p total → EventsLeft u k ws₁ bound to
        content-part h w u v k q bound to x y = rw (v, q, x, y)
            (marked-part Contents (entry lengths_settled st.place total content 0) _ room w
            (content-marked (asked_at t) (stream_class_at t class) b p total content (full st l (length ws)) room (told false ok) (sym j ∙ h)))

-- Behind the lookup: the context was lent the whole list

-- the lengths as they were stated, or what is left of the frame
abbrev pub total_of : Frame → BitPlace → Progress → ℕ
total_of f p st = or_else st.said.total st.said.content (f.bound.0 - p.0)

abbrev pub content_of : Frame → BitPlace → Progress → ℕ
content_of f p st = or_else st.said.content st.said.total (f.bound.0 - p.0)

pub start-in-frame : (b : List ℕ) (p q : BitPlace) (f : Frame) → f ≡ whole_frame b p → Framed b (whole_frame b p) q → p.0 ≤ f.bound.0
start-in-frame b p q f e h = rw (e) (omega (arith, h.begun, h.within))

-- behind a context that was read as r says, with ys on the list: content of these lengths
abbrev pub ContentLeft : (t b : List ℕ) (p : BitPlace) (class : ℕ) (st : Progress) (l : Slots) (ws : List ℕ) (r : Field) (ys : List ℕ)
    (total content : ℕ) → Type 0
ContentLeft t b p class st l ws r ys total content =
    Part (behind_found (asked_at t) b p (stream_class_at t class) (full st l (length ws)))
    (read_content (asked_at t) (stream_class_at t class) b p total content) ws ys r.used r.state r.slots

-- the context's root as the code has it
module _ (t b : List ℕ) (p : BitPlace) (class : ℕ) (st : Progress) (l : Slots) (ws : List ℕ) (u : List ℕ) (v : u ≡ (asked_at t).uuid)
    (f : Frame) (e : f ≡ whole_frame b p) (x : Option ℕ) (k : class_of t x ≡ (stream_class_at t class).context)
    (n : Numbered t x first_root) {r : Field} {ys : List ℕ}
    (d : FieldReads (read_root (env_of b u f) (number_of t x) (class_of t x)) st l r ws ys) where
  abbrev Founded : Out
  Founded = behind_found (asked_at t) b p (stream_class_at t class) (full st l (length ws))

  -- by its number in the fragment
  numbered : Did (read_root (env_of b u f) first_root (class_of t x) (full st l (length ws))) st r.went r.used r.state r.slots ws ys
  numbered = rw (numbered-reads t (env_of b u f) x first_root n) at d.did

  context : Did (read_root (packet_env (asked_at t) b p) first_root (stream_class_at t class).context (full st l (length ws))) st r.went
      r.used r.state r.slots ws ys
  context = rw (v, e, k) at numbered

  pub context-framed : Framed b (whole_frame b p) st.place → r.went ≡ Ok tt → Framed b (whole_frame b p) r.state.place
  context-framed h on = root-framed b (asked_at t).uuid (whole_frame b p) first_root (stream_class_at t class).context l on context h

  pub context-unset : LeavesUnset (stream_class_at t class).context → r.went ≡ Ok tt → packet_slots l ≡ l → packet_slots r.slots ≡ r.slots
  context-unset keeps on h =
      root-unset b (asked_at t).uuid (whole_frame b p) first_root (stream_class_at t class).context l on context keeps h

  pub context-stopped : (w : Stop) → r.went ≡ Err w → RanDid Founded st (stopped_ran w r.used st) ws ys
  unfolding behind_found
  context-stopped w off = first-stopped _ _ refl context w off

  pub context-part : r.went ≡ Ok tt → (total content : ℕ) → total ≡ total_of f p r.state → content ≡ content_of f p r.state
      → ContentLeft t b p class st l ws r ys total content
  unfolding behind_found
  context-part on total content h j = part_same _ _ (rw (h, j, e) refl) (part-first _ _ refl context on)
