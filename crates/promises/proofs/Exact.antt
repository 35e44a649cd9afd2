-- Demand 3, proved: a short table's step is the whole table's, cut at the first finding of a class left out.
use Rattle.std.specs.Prelude.{Option, None, Some, Ok}
use mathlib.Core.Path.{◌≡◌, refl, sym, ap, ◌∙◌, subst}
use mathlib.Core.Logic.{◌⊎◌, inl, inr}
use Prim.Native.Nat.{ℕ, zero, suc, ◌+◌, ◌*◌, ◌-◌}
use native.Mathlib.Omega.{arith}
use mathlib.Core.List.{List, [], ◌∷◌}
use mathlib.Core.Bool.{Bool, true, false, not, ◌&&◌, ◌||◌}
use lib.ListN.{length, take}
use lib.Dec.{ltb, eqb}
use borrow.Author.Tests.{eqb-true, ne_eqb}
use Rattle.rules.specs.declared.Entry.{Entry}
use Rattle.rules.specs.declared.BitPlace.{BitPlace}
use Rattle.rules.specs.declared.Refusal.TheVariants.{StreamSize, StreamClassChanged, StreamClassUnknown, LengthsContradict}
use Rattle.rules.specs.declared.Refusal.TheVariants.{ClocksContradict, EventClassUnknown, EventTookNoBits, ClockWentBack}
use Rattle.rules.specs.declared.Stop.{Stop}
use Rattle.rules.specs.declared.Verdict.TheVariants.{Refused}
use Rattle.rules.specs.Class.{Class}
use Rattle.rules.specs.Entry.{entry}
use Rattle.rules.specs.Limits.{stream_limit}
use Rattle.rules.specs.Verdict.{stop_at}
use Rattle.rules.specs.Place.{bit_place, byte_length, further}
use Rattle.rules.specs.Step.{State, Out, stop, go, Step, onto, after, ◌⨾◌, refuse, listed, with_last}
use Rattle.rules.specs.Table.{StreamClass, EventClass, Asked, Table, asked, find_stream, find_event}
use Rattle.rules.specs.Field.{Env}
use Rattle.rules.specs.Parse.{Parsed, bad, good, parse, checked_of, checked}
use Rattle.rules.specs.Read.{Reading, ended, begin, read_stream, read_all, read_parsed}
use Rattle.rules.specs.Packet.{read_event, read_events, read_content, read_packet, read_packets, with_event}
use Rattle.rules.specs.Packet.{first_root, header_number, common_number, payload_number}
use Rattle.rules.specs.Packet.{with_stream, mark, read_root, start_event, start_packet, end_packet}
use Rattle.facts.proofs.Steps.{list_of, onto-nil, onto-cons}
use Rattle.facts.proofs.Truth.{clash}
use Rattle.laws.specs.All.{All}
use Rattle.promises.proofs.Each.{Each, ◌⨾ᵉ◌, each-check, each-due, each-change, each-pass}
use Rattle.promises.proofs.Each.{each-refuse, each-λ, each-listed, FieldEntry, fields-root}
use Rattle.promises.proofs.Leave.{kept, gone, stream-kept, stream-gone}
use Rattle.rules.specs.Edition.{both}
use Rattle.rules.specs.Bundle.{under}
use Rattle.promises.specs.Edition.{keep, keep_streams, keep_events}
use Rattle.promises.proofs.Edited.{editions}
use Rattle.promises.specs.Missing.{gone_stream, gone_event, Lost, lost, later, front}
use Rattle.promises.specs.Missing.{first_lost, missed, Good, Demand3, shortened, Demand3≡}

pub found-id : (cs : List StreamClass) (i : ℕ) (c : StreamClass) → find_stream cs i ≡ Some c → c.id ≡ i
unfolding find_stream
found-id [] i c h = let z : ◌≡◌ {A = ℕ} 0 1 = cc in absurd (omega arith)
found-id (d ∷ cs) i c h = by (eqb d.id i) refl h (found-id cs i c)
  where
    by : (b : Bool) → eqb d.id i ≡ b → elim b [ true ↦ Some d | false ↦ find_stream cs i ] ≡ Some c
        → (find_stream cs i ≡ Some c → c.id ≡ i) → c.id ≡ i
    by true e h r = let p : d ≡ c = cc in ap (λ x. x.id) (sym p) ∙ eqb-true d.id i e
    by false e h r = r h

-- of a class: it stays, and the short table finds what the full one finds; or it is left out where it was found, and none is found
abbrev pub KeptOrGone : {A : Type 0} → Bool → Option A → Option A → Type 0
KeptOrGone {A} out full short = ((out ≡ false) × (short ≡ full)) ⊎ (((a : A) → full ≡ Some a → out ≡ true) × (short ≡ None))

module _ (gs : ℕ → Bool) (ge : ℕ → ℕ → Bool) where
  -- an outcome cut at the first finding of a class left out
  cut_at : Option Lost → Out → Out
  cut_at None o = o
  cut_at (Some l) o = stop (take l.index (list_of o)) l.refusal

  cut : ℕ → Out → Out
  cut i o = cut_at (first_lost gs ge i (list_of o)) o

  -- the stream class id behind some entries
  unfoldable pub latest : ℕ → List Entry → ℕ
  latest i [] = i
  latest i (e ∷ es) = latest (under i e) es

  front_out : Option Stop → Entry → Out → Out
  front_out None e o = onto (e ∷ []) o
  front_out (Some v) e o = stop [] v

  cut-go : (i : ℕ) (s : State) → cut i (go [] s) ≡ go [] s
  unfolding cut cut_at first_lost list_of
  cut-go i s = refl

  cut-stop : (i : ℕ) (v : Stop) → cut i (stop [] v) ≡ stop [] v
  unfolding cut cut_at first_lost list_of
  cut-stop i v = refl

  cut-cons : (i : ℕ) (e : Entry) (o : Out) → cut i (onto (e ∷ []) o) ≡ front_out (lost gs ge i e) e (cut (under i e) o)
  unfolding cut onto list_of first_lost cut_at front_out front later
  cut-cons i e (stop fs v) = by (lost gs ge i e) (first_lost gs ge (under i e) fs)
    where
      by : (x : Option Stop) (y : Option Lost) → cut_at (front gs ge x y) (stop (e ∷ fs) v) ≡ front_out x e (cut_at y (stop fs v))
      by None None = refl
      by None (Some l) = refl
      by (Some w) None = refl
      by (Some w) (Some l) = refl
  cut-cons i e (go fs s) = by (lost gs ge i e) (first_lost gs ge (under i e) fs)
    where
      by : (x : Option Stop) (y : Option Lost) → cut_at (front gs ge x y) (go (e ∷ fs) s) ≡ front_out x e (cut_at y (go fs s))
      by None None = refl
      by None (Some l) = refl
      by (Some w) None = refl
      by (Some w) (Some l) = refl

  cut-go-cons : (i : ℕ) (e : Entry) (es : List Entry) (s : State)
      → cut i (go (e ∷ es) s) ≡ front_out (lost gs ge i e) e (cut (under i e) (go es s))
  unfolding onto
  cut-go-cons i e es s = cut-cons i e (go es s)

  -- a step's outcome that is cut, and what comes behind it
  after_front : (x : Option Stop) (e : Entry) (o : Out) (n : Step) → after (front_out x e o) n ≡ front_out x e (after o n)
  unfolding front_out after onto
  after_front None e (stop fs v) n = refl
  after_front None e (go fs s) n = onto-cons e fs (n s)
  after_front (Some v) e o n = refl

  stop-after : (i : ℕ) (es : List Entry) (v : Stop) (n : Step) → after (cut i (stop es v)) n ≡ cut i (stop es v)
  unfolding cut after cut_at
  stop-after i es v n = by (first_lost gs ge i (list_of (stop es v)))
    where
      by : (x : Option Lost) → after (cut_at x (stop es v)) n ≡ cut_at x (stop es v)
      by None = refl
      by (Some l) = refl

  go-after : (i : ℕ) (es : List Entry) (s : State) (n n' : Step) → n' s ≡ cut (latest i es) (n s)
      → after (cut i (go es s)) n' ≡ cut i (onto es (n s))
  unfolding latest
  go-after i [] s n n' h = rw (cut-go i s, onto-nil (n s)) (unfold after in onto-nil (n' s) ∙ h)
  go-after i (e ∷ es) s n n' h =
      rw (onto-cons e es (n s), cut-cons i e (onto es (n s)))
      (ap (λ o. after o n') (cut-go-cons i e es s) ∙ after_front (lost gs ge i e) e (cut (under i e) (go es s)) n'
      ∙ ap (front_out (lost gs ge i e) e) (go-after (under i e) es s n n' h))

  cut-after : (i : ℕ) (o : Out) (n n' : Step) → ((es : List Entry) (s : State) → o ≡ go es s → n' s ≡ cut (latest i es) (n s))
      → after (cut i o) n' ≡ cut i (after o n)
  unfolding after
  cut-after i (stop es v) n n' h = stop-after i es v n'
  cut-after i (go es s) n n' h = go-after i es s n n' (h es s refl)

  -- entries that are no findings

  abbrev Calm : Entry → Type 0
  Calm e = (eqb e.kind 2 ≡ false) × (eqb e.kind 5 ≡ false)

  calm-lost : (i : ℕ) (e : Entry) → Calm e → lost gs ge i e ≡ None
  unfolding lost
  calm-lost i e h = by (eqb e.kind 2) (eqb e.kind 5) h.0 h.1
    where
      by : (a b : Bool) → a ≡ false → b ≡ false
          → ◌≡◌ {A = Option Stop} (elim (a && gs e.value) [
            | true ↦ Some (stop_at (StreamClassUnknown e.value) e.place)
            | false ↦ elim (b && ge i e.value) [ true ↦ Some (stop_at (EventClassUnknown i e.value) e.place) | false ↦ None ]
          ]) None
      by true b p q = absurd (clash (sym p))
      by false true p q = absurd (clash (sym q))
      by false false p q = refl

  calm-under : (i : ℕ) (e : Entry) → eqb e.kind 2 ≡ false → under i e ≡ i
  unfolding under
  calm-under i e h = simp (h, under)

  calm-first : (i : ℕ) (es : List Entry) → All Calm es → first_lost gs ge i es ≡ None
  unfolding first_lost front later
  calm-first i [] h = refl
  calm-first i (e ∷ es) h = rw (calm-lost i e h.0, calm-under i e h.0.0, calm-first i es h.1, first_lost)

  calm-cut : (i : ℕ) (o : Out) → All Calm (list_of o) → cut i o ≡ o
  unfolding cut cut_at
  calm-cut i o h = rw (calm-first i (list_of o) h, cut)

  abbrev Other : Entry → Type 0
  Other e = eqb e.kind 2 ≡ false

  other-latest : (i : ℕ) (es : List Entry) → All Other es → latest i es ≡ i
  unfolding latest
  other-latest i [] h = refl
  other-latest i (e ∷ es) h = rw (calm-under i e h.0) (other-latest i es h.1)

  not_five : (e : Entry) → FieldEntry e → Calm e
  not_five e (inl h) = (ne_eqb e.kind 2 (λ p. omega arith), ne_eqb e.kind 5 (λ p. omega arith))
  not_five e (inr h) = (ne_eqb e.kind 2 (λ p. omega arith), ne_eqb e.kind 5 (λ p. omega arith))

  all_map : {P Q : Entry → Type 0} → ((e : Entry) → P e → Q e) → (es : List Entry) → All P es → All Q es
  all_map f [] h = tt
  all_map f (e ∷ es) h = (f e h.0, all_map f es h.1)

  calm-root : (e : Env) (m : ℕ) (c : Option Class) → Each Calm (read_root e m c)
  calm-root e m c = record { at = λ s. all_map not_five (list_of (read_root e m c s)) ((fields-root e m c).at s) }

  calm-other : {m : Step} → Each Calm m → Each Other m
  calm-other {m} h = record { at = λ s. all_map (λ e c. c.0) (list_of (m s)) (h.at s) }

  calm-mark : (k n v : ℕ) → eqb k 2 ≡ false → eqb k 5 ≡ false → Each Calm (mark k n v)
  unfolding mark
  calm-mark k n v p q = record { at = λ s. each-listed Calm (entry k s.place n v 0) s.place s (p, q) }

  -- the short table's step is the whole one's, cut, under a stream class id

  record Sim (i : ℕ) (m m' : Step) : Type 0 where
    at : (s : State) → m' s ≡ cut i (m s)

  same : (i : ℕ) {m : Step} → Each Calm m → Sim i m m
  same i {m} h = record { at = λ s. sym (calm-cut i (m s) (h.at s)) }

  sim-after : (i : ℕ) {m m' n n' : Step} → Sim i m m' → ((j : ℕ) → Sim j n n') → Sim i (m ⨾ n) (m' ⨾ n')
  unfolding ◌⨾◌
  sim-after i {m} {m'} {n} {n'} h k = record {
    at = λ s. ap (λ o. after o n') (h.at s) ∙ cut-after i (m s) n n' (λ es s' p. (k (latest i es)).at s');
  }

  sim-other : (i : ℕ) {m m' n n' : Step} → Each Other m → Sim i m m' → Sim i n n' → Sim i (m ⨾ n) (m' ⨾ n')
  unfolding ◌⨾◌ list_of
  sim-other i {m} {m'} {n} {n'} o h k = record {
    at = λ s.
        ap (λ o. after o n') (h.at s)
        ∙ cut-after i (m s) n n' (λ es s' p.
        let l : latest i es ≡ i = other-latest i es (subst (λ x. All Other (list_of x)) p (o.at s)) in
        k.at s' ∙ ap (λ j. cut j (n s')) (sym l));
  }

  infixr 20 ◌⨟◌
  ◌⨟◌ : {i : ℕ} {m n n' : Step} → Each Calm m → Sim i n n' → Sim i (m ⨾ n) (m ⨾ n')
  ◌⨟◌ {i} h k = sim-other i (calm-other h) (same i h) k

  sim-λ : {i : ℕ} {f f' : State → Step} → ((s : State) → Sim i (f s) (f' s)) → Sim i (λ s. f s s) (λ s. f' s s)
  sim-λ h = record { at = λ s. (h s).at s }

  sim-if : (i : ℕ) (b : Bool) (x x' y y' : Out) → x' ≡ cut i x → y' ≡ cut i y
      → elim b [ true ↦ x' | false ↦ y' ] ≡ cut i (elim b [ true ↦ x | false ↦ y ])
  sim-if i true x x' y y' h k = h
  sim-if i false x x' y y' h k = k

  -- the lookup of an event class

  event-entry : (i j : ℕ) (p : BitPlace) (b : Bool) → ge i j ≡ b
      → lost gs ge i (entry 5 p 0 j 0) ≡ elim b [ true ↦ Some (stop_at (EventClassUnknown i j) p) | false ↦ None ]
  unfolding lost
  event-entry i j p true h = rw (h, lost) refl
  event-entry i j p false h = rw (h, lost) refl

  event-under : (i j : ℕ) (p : BitPlace) → under i (entry 5 p 0 j 0) ≡ i
  unfolding under
  event-under i j p = refl

  event-both : (i j : ℕ) (n : EventClass → Step) → ((d : EventClass) → Each Calm (n d)) → ge i j ≡ false → (x : Option EventClass)
      → Sim i (with_event i j x (λ d. mark 5 0 j ⨾ n d)) (with_event i j x (λ d. mark 5 0 j ⨾ n d))
  unfolding with_event refuse mark listed ◌⨾◌ after front_out
  event-both i j n c h None = record { at = λ s. sym (cut-stop i (stop_at (EventClassUnknown i j) s.place)) }
  event-both i j n c h (Some d) = record {
    at = λ s. sym (cut-cons i (entry 5 s.place 0 j 0) (n d _)
        ∙ rw (event-entry i j s.place false h, event-under i j s.place, calm-cut i (n d _) ((c d).at _)) refl);
  }

  event-less : (i j : ℕ) (n : EventClass → Step) (x : Option EventClass) → ((d : EventClass) → x ≡ Some d → ge i j ≡ true)
      → Sim i (with_event i j x (λ d. mark 5 0 j ⨾ n d)) (with_event i j None (λ d. mark 5 0 j ⨾ n d))
  unfolding with_event refuse mark listed ◌⨾◌ after front_out
  event-less i j n None h = record { at = λ s. sym (cut-stop i (stop_at (EventClassUnknown i j) s.place)) }
  event-less i j n (Some d) h = record {
    at = λ s. sym (cut-cons i (entry 5 s.place 0 j 0) (n d _) ∙ rw (event-entry i j s.place true (h d refl)) refl);
  }

  -- the lookup of a stream class

  stream-entry : (j i : ℕ) (p : BitPlace) (b : Bool) → gs i ≡ b
      → lost gs ge j (entry 2 p 0 i 0) ≡ elim b [ true ↦ Some (stop_at (StreamClassUnknown i) p) | false ↦ None ]
  unfolding lost
  stream-entry j i p true h = rw (h, lost) refl
  stream-entry j i p false h = rw (h, lost) refl

  stream-under : (j i : ℕ) (p : BitPlace) → under j (entry 2 p 0 i 0) ≡ i
  unfolding under
  stream-under j i p = refl

  stream-both : (j i : ℕ) (n n' : StreamClass → Step) → gs i ≡ false → (x : Option StreamClass)
      → ((c : StreamClass) → x ≡ Some c → Sim i (n c) (n' c))
      → Sim j (with_stream i x (λ c. mark 2 0 i ⨾ n c)) (with_stream i x (λ c. mark 2 0 i ⨾ n' c))
  unfolding with_stream refuse mark listed ◌⨾◌ after front_out
  stream-both j i n n' h None g = record { at = λ s. sym (cut-stop j (stop_at (StreamClassUnknown i) s.place)) }
  stream-both j i n n' h (Some c) g = record {
    at = λ s. sym (cut-cons j (entry 2 s.place 0 i 0) (n c _)
        ∙ rw (stream-entry j i s.place false h, stream-under j i s.place)
        (ap (onto (entry 2 s.place 0 i 0 ∷ [])) (sym ((g c refl).at _))));
  }

  stream-less : (j i : ℕ) (n n' : StreamClass → Step) (x : Option StreamClass) → ((c : StreamClass) → x ≡ Some c → gs i ≡ true)
      → Sim j (with_stream i x (λ c. mark 2 0 i ⨾ n c)) (with_stream i None (λ c. mark 2 0 i ⨾ n' c))
  unfolding with_stream refuse mark listed ◌⨾◌ after front_out
  stream-less j i n n' None h = record { at = λ s. sym (cut-stop j (stop_at (StreamClassUnknown i) s.place)) }
  stream-less j i n n' (Some c) h = record {
    at = λ s. sym (cut-cons j (entry 2 s.place 0 i 0) (n c _) ∙ rw (stream-entry j i s.place true (h c refl)) refl);
  }

  infixr 20 ◌⨾ᶜ◌
  ◌⨾ᶜ◌ : {m n : Step} → Each Calm m → Each Calm n → Each Calm (m ⨾ n)
  h ⨾ᶜ k = ◌⨾ᵉ◌ Calm h k

  infixr 20 ◌⨾°◌
  ◌⨾°◌ : {m n : Step} → Each Other m → Each Other n → Each Other (m ⨾ n)
  h ⨾° k = ◌⨾ᵉ◌ Other h k

  other-root : (e : Env) (m : ℕ) (c : Option Class) → Each Other (read_root e m c)
  other-root e m c = calm-other (calm-root e m c)

  other-five : (v : ℕ) → Each Other (mark 5 0 v)
  unfolding mark
  other-five v = record { at = λ s. each-listed Other (entry 5 s.place 0 v 0) s.place s refl }

  other-with : (i j : ℕ) (x : Option EventClass) (f : EventClass → Step) → ((d : EventClass) → Each Other (f d))
      → Each Other (with_event i j x f)
  unfolding with_event
  other-with i j None f h = each-refuse Other (EventClassUnknown i j)
  other-with i j (Some d) f h = h d

  calm-end : (to : BitPlace) (n : ℕ) → Each Calm (end_packet to n)
  unfolding end_packet
  calm-end to n = ◌⨾ᵉ◌ Calm (each-due Calm) (record { at = λ s. each-listed Calm (entry 7 to (to.0 - s.place.0) n 0) to s (refl, refl) })

  -- the reading, layer by layer: two tables, of which the short one finds what stays of what the full one finds

  pub record Less (full : Asked) (stream' : ℕ → Option StreamClass) (event' : ℕ → ℕ → Option EventClass) : Type 0 where
    pub ids : (i : ℕ) (c : StreamClass) → full.stream i ≡ Some c → c.id ≡ i
    pub streams : (i : ℕ)
        → ((gs i ≡ false) × (stream' i ≡ full.stream i))
        ⊎ (((c : StreamClass) → full.stream i ≡ Some c → gs i ≡ true) × (stream' i ≡ None))
    pub events : (i j : ℕ)
        → ((ge i j ≡ false) × (event' i j ≡ full.event i j))
        ⊎ (((d : EventClass) → full.event i j ≡ Some d → ge i j ≡ true) × (event' i j ≡ None))

  module _ (full : Asked) (stream' : ℕ → Option StreamClass) (event' : ℕ → ℕ → Option EventClass) (L : Less full stream' event') where
    abbrev pub less : Asked
    less = record { uuid = full.uuid; header = full.header; stream = stream'; event = event' }

    event-look : (i j : ℕ) (n : EventClass → Step) → ((d : EventClass) → Each Calm (n d))
        → Sim i (with_event i j (full.event i j) (λ d. mark 5 0 j ⨾ n d)) (with_event i j (event' i j) (λ d. mark 5 0 j ⨾ n d))
    event-look i j n c = by (L.events i j)
      where
        by : KeptOrGone (ge i j) (full.event i j) (event' i j)
            → Sim i (with_event i j (full.event i j) (λ d. mark 5 0 j ⨾ n d)) (with_event i j (event' i j) (λ d. mark 5 0 j ⨾ n d))
        by (inl h) = rw h.1 (event-both i j n c h.0 (full.event i j))
        by (inr h) = rw h.1 (event-less i j n (full.event i j) h.0)

    stream-look : (j i : ℕ) (n n' : StreamClass → Step) → ((c : StreamClass) → c.id ≡ i → Sim i (n c) (n' c))
        → Sim j (with_stream i (full.stream i) (λ c. mark 2 0 i ⨾ n c)) (with_stream i (stream' i) (λ c. mark 2 0 i ⨾ n' c))
    stream-look j i n n' g = by (L.streams i)
      where
        by : KeptOrGone (gs i) (full.stream i) (stream' i)
            → Sim j (with_stream i (full.stream i) (λ c. mark 2 0 i ⨾ n c)) (with_stream i (stream' i) (λ c. mark 2 0 i ⨾ n' c))
        by (inl h) = rw h.1 (stream-both j i n n' h.0 (full.stream i) (λ c p. g c (L.ids i c p)))
        by (inr h) = rw h.1 (stream-less j i n n' (full.stream i) h.0)

    -- what is read of the event class that is found
    abbrev found : StreamClass → Env → State → Step
    found c e s = with_event c.id s.said.event (full.event c.id s.said.event)
        (λ d. mark 5 0 s.said.event ⨾ read_root e (common_number c) c.common ⨾ read_root e first_root d.specific
        ⨾ read_root e (payload_number d) d.payload)

    other-found : (c : StreamClass) (e : Env) → Each Other (λ s. found c e s s)
    other-found c e = each-λ Other {f = found c e} (λ s. other-with c.id s.said.event _ _
        (λ d. other-five s.said.event ⨾° other-root e (common_number c) c.common ⨾° other-root e first_root d.specific
        ⨾° other-root e (payload_number d) d.payload))

    other-event : (c : StreamClass) (e : Env) (n : ℕ) → Each Other (read_event full c e n)
    unfolding read_event
    other-event c e n = record {
      at = λ s₀.
          (each-due Other ⨾° calm-other (calm-mark 4 0 n refl refl) ⨾° each-change Other start_event
          ⨾° other-root e (header_number c) c.header ⨾° each-check Other _ ClockWentBack
          ⨾° each-change Other (λ s. with_last s.clock s) ⨾° each-due Other
          ⨾° other-found c e
          ⨾° each-check Other (λ s. eqb s.place.0 s₀.place.0) EventTookNoBits).at s₀;
    }

    sim-event : (c : StreamClass) (e : Env) (n : ℕ) → Sim c.id (read_event full c e n) (read_event less c e n)
    unfolding read_event
    sim-event c e n = record {
      at = λ s₀.
          (each-due Calm ⨟ calm-mark 4 0 n refl refl ⨟ each-change Calm start_event
          ⨟ calm-root e (header_number c) c.header ⨟ each-check Calm _ ClockWentBack
          ⨟ each-change Calm (λ s. with_last s.clock s) ⨟ each-due Calm
          ⨟ sim-other c.id (other-found c e)
          (record {
            at = λ s. (event-look c.id s.said.event _
                (λ d. calm-root e (common_number c) c.common ⨾ᶜ calm-root e first_root d.specific
                ⨾ᶜ calm-root e (payload_number d) d.payload)).at s;
          })
          (same c.id (each-check Calm (λ s. eqb s.place.0 s₀.place.0) EventTookNoBits))).at s₀;
    }

    sim-events : (c : StreamClass) (e : Env) (to : BitPlace) (n left : ℕ)
        → Sim c.id (read_events full c e to n left) (read_events less c e to n left)
    unfolding read_events
    sim-events c e to n zero = same c.id (calm-end to n)
    sim-events c e to n (suc left) = record {
      at = λ s.
          sim-if c.id (ltb s.place.0 e.bound.0) _ _ _ _
          ((sim-other c.id (other-event c e n) (sim-event c e n) (sim-events c e to (n + 1) left)).at s)
          ((same c.id (calm-end to n)).at s);
    }

    sim-content : (c : StreamClass) (b : List ℕ) (p : BitPlace) (total content : ℕ)
        → Sim c.id (read_content full c b p total content) (read_content less c b p total content)
    unfolding read_content
    sim-content c b p total content =
        each-due Calm ⨟ each-check Calm _ LengthsContradict ⨟ each-check Calm _ ClocksContradict ⨟ calm-mark 3 total content refl refl
        ⨟ record { at = λ s. (sim-events c _ (further p total) 0 (p.0 + content - s.place.0)).at s }

    content-under : (c : StreamClass) (i : ℕ) → c.id ≡ i → (b : List ℕ) (p : BitPlace) (total content : ℕ)
        → Sim i (read_content full c b p total content) (read_content less c b p total content)
    content-under c i h b p total content =
        subst (λ z. Sim z (read_content full c b p total content) (read_content less c b p total content)) h
        (sim-content c b p total content)

    sim-packet : (b : List ℕ) (k : ℕ) (i : Option ℕ) (j : ℕ) → Sim j (read_packet full b k i) (read_packet less b k i)
    unfolding read_packet
    sim-packet b k i j = record {
      at = λ s₀.
          (each-due Calm ⨟ calm-mark 1 0 k refl refl ⨟ each-change Calm start_packet
          ⨟ calm-root _ first_root full.header ⨟ each-check Calm _ StreamClassChanged ⨟ each-due Calm
          ⨟ record {
            at = λ s. (stream-look j s.said.stream _ _
                (λ c p. calm-root _ first_root c.context ⨟ record { at = λ s. (content-under c _ p b s₀.place _ _).at s })).at s;
          }).at s₀;
    }

    sim-packets : (b : List ℕ) (k : ℕ) (i : Option ℕ) (left : ℕ) (j : ℕ) → Sim j (read_packets full b k i left) (read_packets less b k i left)
    unfolding read_packets
    sim-packets b k i zero j = same j (each-pass Calm)
    sim-packets b k i (suc left) j = record {
      at = λ s.
          sim-if j (ltb s.place.0 (8 * length b)) _ _ _ _
          ((sim-after j (sim-packet b k i j) (λ j'. record { at = λ s. (sim-packets b (k + 1) (Some s.said.stream) left j').at s })).at s)
          ((same j (each-pass Calm)).at s);
    }

    ended-cut : (i : ℕ) (o : Out) → ended (cut i o) ≡ shortened (first_lost gs ge i (ended o).entries) (ended o)
    unfolding ended cut list_of cut_at shortened
    ended-cut i (stop es v) = by (first_lost gs ge i es)
      where
        by : (x : Option Lost) → ended (cut_at x (stop es v)) ≡ shortened x (ended (stop es v))
        by None = refl
        by (Some l) = refl
    ended-cut i (go es s) = by (first_lost gs ge i es)
      where
        by : (x : Option Lost) → ended (cut_at x (go es s)) ≡ shortened x (ended (go es s))
        by None = refl
        by (Some l) = refl

    -- under any stream class id at the start
    pub sim-from : (j : ℕ) (b : List ℕ) (room : ℕ)
        → read_stream less b room ≡ shortened (first_lost gs ge j (read_stream full b room).entries) (read_stream full b room)
    unfolding read_stream
    sim-from j b room = by (eqb (length b) 0 || ltb stream_limit (length b))
      where
        of : Bool → Asked → Reading
        of x t = elim x [
          | true ↦ record { entries = []; verdict = Refused (stop_at StreamSize (bit_place 0)) }
          | false ↦ ended (read_packets t b 0 None (length b) (begin room))
        ]

        by : (x : Bool) → of x less ≡ shortened (first_lost gs ge j (of x full).entries) (of x full)
        by true = unfold first_lost shortened in refl
        by false =
            ap ended ((sim-packets b 0 None (length b) j).at (begin room))
            ∙ ended-cut j (read_packets full b 0 None (length b) (begin room))

    pub sim-stream : (b : List ℕ) (room : ℕ)
        → read_stream less b room ≡ shortened (first_lost gs ge 0 (read_stream full b room).entries) (read_stream full b room)
    sim-stream b room = sim-from 0 b room

-- over bytes

or-none : {A : Type 0} (x : Option A) (a : A) → x ≡ None → x ≡ Some a → ⊥
or-none x a h k = let p : None ≡ Some a = sym h ∙ k in let z : ◌≡◌ {A = ℕ} 0 1 = cc in omega arith

module _ (ks : ℕ → Bool) (ke : ℕ → ℕ → Bool) (t : Table) where
  -- what the short table finds
  abbrev stream_left : ℕ → Option StreamClass
  stream_left = find_stream (keep_streams ks t.streams)

  abbrev event_left : ℕ → ℕ → Option EventClass
  event_left = find_event (keep_events (both ks ke) t.events)

  left_less : Less (gone_stream ks) (gone_event ks ke) (asked t) stream_left event_left
  unfolding asked
  left_less = record {
    ids = λ i c p. found-id t.streams i c p;
    streams = λ i. by-stream i (ks i) refl;
    events = λ i j. by-event i j (both ks ke i j) refl;
  }
    where
      by-stream : (i : ℕ) (b : Bool) → ks i ≡ b → KeptOrGone (gone_stream ks i) (find_stream t.streams i) (stream_left i)
      by-stream i true h = inl (unfold gone_stream in ap not h, stream-kept ks i h t.streams)
      by-stream i false h = inr ((λ c p. unfold gone_stream in ap not h), stream-gone ks i h t.streams)

      by-event : (i j : ℕ) (b : Bool) → both ks ke i j ≡ b → KeptOrGone (gone_event ks ke i j) (find_event t.events i j) (event_left i j)
      by-event i j true h = inl (unfold gone_event in ap not h, kept (both ks ke) i j h t.events)
      by-event i j false h = inr ((λ d p. unfold gone_event in ap not h), gone (both ks ke) i j h t.events)

  -- the short table's reading by the full one's
  pub left_out : (j : ℕ) (b : List ℕ) (room : ℕ)
      → read_stream (asked (keep ks (both ks ke) t)) b room
      ≡ shortened (first_lost (gone_stream ks) (gone_event ks ke) j (read_stream (asked t) b room).entries) (read_stream (asked t) b room)
  unfolding asked keep
  left_out j b room =
      sim-from (gone_stream ks) (gone_event ks ke) (asked t) stream_left event_left left_less j b room

-- an accepted table says something
pub record Says (x : List ℕ) : Type 0 where
  pub table : Table
  pub rest : List ℕ
  pub parsed : parse x ≡ good table rest

pub good-says : (x : List ℕ) → Good x → Says x
unfolding checked
good-says x h = by (parse x) refl h
  where
    by : (p : Parsed Table) → parse x ≡ p → checked_of x p ≡ Ok (byte_length (length x)) → Says x
    by (bad n y) e k = unfold checked_of in let z : ◌≡◌ {A = ℕ} 0 1 = cc in absurd (omega arith)
    by (good t y) e k = record { table = t; rest = y; parsed = e }

says-good : (x : List ℕ) (t : Table) (y : List ℕ) → parse x ≡ good t y → Good x
unfolding checked checked_of
says-good x t y h = ap (checked_of x) h

pub demand-3≡ : Demand3≡
unfolding read_all read_parsed missed
demand-3≡ ks ke x h b room =
    let s = good-says x h in
    rw (editions ks ke x s.table s.rest s.parsed, s.parsed, read_all) (left_out ks ke s.table 0 b room)

shortened-cut : (o : Option Lost) (l : Lost) (r r' : Reading) → o ≡ Some l → r' ≡ shortened o r
    → (r'.entries ≡ take l.index r.entries) × (r'.verdict ≡ Refused l.refusal)
unfolding shortened
shortened-cut o l r r' h k =
    let p : r' ≡ shortened (Some l) r = k ∙ ap (λ z. shortened z r) h in
    (ap (λ z. z.entries) p, ap (λ z. z.verdict) p)

shortened_same : (o : Option Lost) (r r' : Reading) → o ≡ None → r' ≡ shortened o r → r' ≡ r
unfolding shortened
shortened_same o r r' h k = k ∙ ap (λ z. shortened z r) h

-- demand 3, in its own words
pub demand-3 : Demand3
demand-3 ks ke x g b room =
    let s = good-says x g in
    record {
      accepted = says-good _ _ [] (editions ks ke x s.table s.rest s.parsed);
      cut = λ l h. shortened-cut _ l (read_all x b room) _ h (demand-3≡ ks ke x g b room);
      same = λ h. shortened_same _ (read_all x b room) _ h (demand-3≡ ks ke x g b room);
    }
