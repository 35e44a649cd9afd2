-- A packet beside the same packet in another stream. In order: its parts and an event, as pairs of steps; all events, as one equation
-- where both bounds are as far; lengths and events; and THE LAW, `tail-packet`: a whole packet behind its entry 1, for any two places and
-- any two streams that hold the same bytes there, with the exception that `Far` (crate laws) says, `Cut`. A content's steps come last:
-- they may go behind the first bound.
use Rattle.std.specs.Prelude.{Option, None, Some}
use mathlib.Core.Path.{◌≡◌, refl, sym, ap, ◌∙◌, subst}
use mathlib.Core.Logic.{inl, inr}
use Prim.Native.Nat.{ℕ, zero, suc, ◌+◌, ◌-◌, ◌*◌, ◌%◌, ◌≤◌, ◌<◌}
use native.Mathlib.Omega.{arith}
use native.Mathlib.Nat.{le_refl}
use mathlib.Core.List.{List, [], ◌∷◌}
use mathlib.Core.Bool.{Bool, true, false, not, ◌&&◌, ◌||◌}
use lib.ListN.{length}
use lib.Dec.{ltb, eqb}
use borrow.Author.Tests.{eqb-true, eqb-false, eq-eqb, ne_eqb, ltb-true, ltb-false, lt-ltb, le-ltb}
use Rattle.rules.specs.declared.BitPlace.{BitPlace}
use Rattle.rules.specs.declared.Entry.{Entry}
use Rattle.rules.specs.declared.Refusal.{Refusal}
use Rattle.rules.specs.declared.Refusal.TheVariants.{StreamClassChanged, StreamClassUnknown, LengthsContradict, ClocksContradict}
use Rattle.rules.specs.declared.Refusal.TheVariants.{EventClassUnknown, EventTookNoBits, ClockWentBack, ListFull}
use Rattle.rules.specs.Limits.{words_per_entry}
use Rattle.rules.specs.Place.{bit_place, further}
use Rattle.rules.specs.Entry.{entry, packet_starts, stream_class_found, lengths_settled, event_starts, event_class_found, packet_ends}
use Rattle.rules.specs.Verdict.{stop_at}
use Rattle.rules.specs.Step.{State, Out, stop, go, Step, onto, after, ◌⨾◌, refuse, check, due, listed, change, pass, with_last}
use Rattle.rules.specs.Table.{StreamClass, EventClass, Asked}
use Rattle.rules.specs.Field.{Env}
use Rattle.rules.specs.Packet.{mark, read_root, with_event, start_event, read_event, end_packet, read_events, or_else, above, read_content}
use Rattle.rules.specs.Packet.{with_stream, differs, start_packet, read_packet, first_root, header_number, common_number, payload_number}
use Rattle.facts.proofs.Steps.{onto-nil, after-onto}
use Rattle.laws.specs.Between.{Between}
use Rattle.laws.proofs.Triple.{Ok, changing, checks, refusing}
use Rattle.laws.proofs.Between.{Held, In, At, NoMore, Holding}
use Rattle.packet_alone.specs.Behind.{up_to, to_end, contradict, events_of, content_step, of_class, of_stream, packet}
use Rattle.laws.specs.Far.{away, far_entry, far_all, far, far_out}
use Rattle.laws.proofs.Far.{far-onto, Exact, exact-refuse}
use Rattle.laws.specs.Far.{Rel}
use Rattle.laws.proofs.Far.{exact-pass, rel-check, rel-due}
use Rattle.laws.specs.Far.{Like}
use Rattle.laws.proofs.Pair.{Pair, pair-root, onto-go, through}
use Rattle.laws.proofs.Pair.{from, there-between, rel-onto, seq-pair}

-- the last event's clock as it is
abbrev pub same : ℕ → ℕ
same x = x

eqb-away : (p p' x z : ℕ) → p ≤ x → p ≤ z → eqb (p' + (x - p)) (p' + (z - p)) ≡ eqb x z
eqb-away p p' x z h k = by (eqb x z) refl
  where
    by : (b : Bool) → eqb x z ≡ b → eqb (p' + (x - p)) (p' + (z - p)) ≡ b
    by true q = let r : x ≡ z = eqb-true x z q in ap (λ u. eqb u (p' + (z - p))) (ap (λ u. p' + (u - p)) r)
        ∙ eq-eqb (p' + (z - p)) (p' + (z - p)) refl
    by false q = ne_eqb _ _ (λ (r : p' + (x - p) ≡ p' + (z - p)). let u : x ≡ z = omega arith in eqb-false x z q u)

module _ (e e' : Env) (y : Like e e') where
  abbrev pub far' : State → State
  far' s = far e e' same s

  abbrev pub Alike : Step → Step → Type 0
  Alike m m' = Pair e e' y same m m'

  -- primitives of packets and events, as pairs
  pub held-here : (x : Env) (q : ℕ) (k n v : ℕ) → Holding x (λ p d. q ≤ p) (mark k n v)
  unfolding mark listed
  held-here x q k n v = record { at = λ s h. (((h.from, h.to), tt), record { from = h.from; to = h.to; kept = h.kept }) }

  pub held-change : (x : Env) (q : ℕ) (f : State → State) → ((s : State) → (f s).place ≡ s.place) → Holding x (λ p d. q ≤ p) (change f)
  held-change x q f g =
      changing (In x) (At x) (NoMore x) f (λ s h. record { from = rw (g s) h.from; to = rw (g s) h.to; kept = rw (g s) h.kept })

  pub held-check : (x : Env) (q : ℕ) (t : State → Bool) (r : Refusal) → Holding x (λ p d. q ≤ p) (check t r)
  held-check x q t r = checks (In x) (At x) (NoMore x) (λ r i s h. (h.from, h.to)) t r tt

  held-refuse : (x : Env) (q : ℕ) (r : Refusal) → Holding x (λ p d. q ≤ p) (refuse r)
  held-refuse x q r = refusing (In x) (At x) (NoMore x) (λ r i s h. (h.from, h.to)) r tt

  of-exact : {m m' : Step} → Exact e e' m m' → ((q : ℕ) → Holding e (λ p d. q ≤ p) m) → ((q : ℕ) → Holding e' (λ p d. q ≤ p) m')
      → Alike m m'
  of-exact x h h' = record { rel = λ s b. inl (x.at same s); held = h; held' = h' }

  pair-mark : (k n v : ℕ) → Alike (mark k n v) (mark k n v)
  pair-mark k n v = of-exact (record { at = λ l s. unfold mark listed far_out far_all far_entry far in refl }) (λ q. held-here e q k n v)
      (λ q. held-here e' q k n v)

  pair-check : (t t' : State → Bool) (r : Refusal) → ((s : State) → Between e s.place.0 → t' (far' s) ≡ t s)
      → Alike (check t r) (check t' r)
  unfolding check
  pair-check t t' r h = record {
    rel = λ s b. inl (ap (λ x. elim x [ true ↦ refuse r (far' s) | false ↦ pass (far' s) ]) (h s b) ∙ by s (t s));
    held = λ q. held-check e q t r;
    held' = λ q. held-check e' q t' r;
  }
    where
      by : (s : State) (b : Bool)
          → elim b [ true ↦ refuse r (far' s) | false ↦ pass (far' s) ] ≡ far_out e e' same (elim b [ true ↦ refuse r s | false ↦ pass s ])
      by s true = (exact-refuse e e' r).at same s
      by s false = (exact-pass e e').at same s

  pub pair-due : Alike due due
  unfolding due
  pair-due = pair-check _ _ ListFull (λ s b. unfold far in refl)

  pair-refuse : (r : Refusal) → Alike (refuse r) (refuse r)
  pair-refuse r = of-exact (exact-refuse e e' r) (λ q. held-refuse e q r) (λ q. held-refuse e' q r)

  pair-change : (f : State → State) → ((s : State) → (f s).place ≡ s.place) → ((s : State) → f (far' s) ≡ far' (f s))
      → Alike (change f) (change f)
  unfolding change far_out far_all
  pair-change f g h = record { rel = λ s b. inl (ap (go []) (h s)); held = λ q. held-change e q f g; held' = λ q. held-change e' q f g }

  infixr 20 ◌⨾ᵖ◌
  pub ◌⨾ᵖ◌ : {m n m' n' : Step} → Alike m m' → Alike n n' → Alike (m ⨾ n) (m' ⨾ n')
  h ⨾ᵖ k = seq-pair e e' y same h k

  -- a step that looks at the state
  pair-look : (f f' : State → Step) → ((s : State) → Between e s.place.0 → Alike (f s) (f' (far' s)))
      → ((s : State) (q : ℕ) → Holding e (λ p d. q ≤ p) (f s))
      → ((s : State) (q : ℕ) → Holding e' (λ p d. q ≤ p) (f' s)) → Alike (λ s. f s s) (λ s. f' s s)
  pair-look f f' h g g' = record {
    rel = λ s b. (h s b).rel s b;
    held = λ q. record { at = λ s a. (g s q).at s a };
    held' = λ q. record { at = λ s a. (g' s q).at s a };
  }

  pub root : (m : ℕ) (c : Option _) → Alike (read_root e m c) (read_root e' m c)
  root m c = pair-root e e' y same m c

  -- an event
  module _ (t : Asked) (c : StreamClass) (n : ℕ) where
    abbrev pub inside : Env → ℕ → EventClass → Step
    inside x j d = mark event_class_found 0 j ⨾ read_root x (common_number c) c.common ⨾ read_root x first_root d.specific
        ⨾ read_root x (payload_number d) d.payload

    abbrev pub found : Env → State → Step
    found x s = with_event c.id s.said.event (t.event c.id s.said.event) (inside x s.said.event)

    abbrev pub body : Env → State → Step
    body x s₀ = due ⨾ mark event_starts 0 n ⨾ change start_event ⨾ read_root x (header_number c) c.header
        ⨾ check (λ s. c.timed && ltb s.clock s.last) ClockWentBack
        ⨾ change (λ s. with_last s.clock s) ⨾ due ⨾ (λ s. found x s s) ⨾ check (λ s. eqb s.place.0 s₀.place.0) EventTookNoBits

    by-class : (i j k : ℕ) (o : Option EventClass) → Alike (with_event i j o (inside e k)) (with_event i j o (inside e' k))
    unfolding with_event
    by-class i j k None = pair-refuse (EventClassUnknown i j)
    by-class i j k (Some d) =
        pair-mark event_class_found 0 k ⨾ᵖ root (common_number c) c.common ⨾ᵖ root first_root d.specific
        ⨾ᵖ root (payload_number d) d.payload

    pub pair_found : Alike (λ s. found e s s) (λ s. found e' s s)
    unfolding far
    pair_found = pair-look (found e) (found e')
        (λ s b. by-class c.id s.said.event s.said.event (t.event c.id s.said.event))
        (λ s q. (by-class c.id s.said.event s.said.event (t.event c.id s.said.event)).held q)
        (λ s q. (by-class c.id s.said.event s.said.event (t.event c.id s.said.event)).held' q)

    pair-starts : Alike (change start_event) (change start_event)
    unfolding start_event far
    pair-starts = pair-change start_event (λ s. refl) (λ s. refl)

    pair-back : Alike (check (λ s. c.timed && ltb s.clock s.last) ClockWentBack)
        (check (λ s. c.timed && ltb s.clock s.last) ClockWentBack)
    unfolding far
    pair-back = pair-check _ _ ClockWentBack (λ s b. refl)

    pair-last : Alike (change (λ s. with_last s.clock s)) (change (λ s. with_last s.clock s))
    unfolding with_last far
    pair-last = pair-change _ (λ s. refl) (λ s. refl)

    pub pair-moved : (s₀ : State) → Between e s₀.place.0
        → Alike (check (λ s. eqb s.place.0 s₀.place.0) EventTookNoBits)
        (check (λ s. eqb s.place.0 (far' s₀).place.0) EventTookNoBits)
    unfolding far
    pair-moved s₀ b₀ = pair-check _ _ EventTookNoBits
        (λ s b. eqb-away e.start.0 e'.start.0 s.place.0 s₀.place.0 b.0 b₀.0)

    whole : (s₀ : State) → Between e s₀.place.0 → Alike (body e s₀) (body e' (far' s₀))
    whole s₀ b₀ = pair-due ⨾ᵖ pair-mark event_starts 0 n ⨾ᵖ pair-starts ⨾ᵖ root (header_number c) c.header ⨾ᵖ pair-back
        ⨾ᵖ pair-last ⨾ᵖ pair-due ⨾ᵖ pair_found ⨾ᵖ pair-moved s₀ b₀

    -- it stays in the packet
    holds : (x : Env) (h : (m : ℕ) (o : Option _) (q : ℕ) → Holding x (λ p d. q ≤ p) (read_root x m o)) (f : (q : ℕ)
        → Holding x (λ p d. q ≤ p) (λ s. found x s s)) (s₀ : State) (q : ℕ) → Holding x (λ p d. q ≤ p) (body x s₀)
    unfolding due
    holds x h f s₀ q =
        let g = from e e' y x q in
        let full : Holding x (λ p d. q ≤ p) due = held-check x q (λ s. ltb s.room words_per_entry) ListFull in
        let lasts : Holding x (λ p d. q ≤ p) (change (λ s. with_last s.clock s)) =
        held-change x q (λ s. with_last s.clock s) (λ s. unfold with_last in refl) in
        g.seq full (g.seq (held-here x q event_starts 0 n)
        (g.seq (held-change x q start_event (λ s. unfold start_event in refl)) (g.seq (h (header_number c) c.header q)
        (g.seq (held-check x q (λ s. c.timed && ltb s.clock s.last) ClockWentBack)
        (g.seq lasts (g.seq full (g.seq (f q) (held-check x q (λ s. eqb s.place.0 s₀.place.0) EventTookNoBits))))))))

    pub pair-event : Alike (read_event t c e n) (read_event t c e' n)
    unfolding read_event
    pair-event = pair-look (body e) (body e') (λ s b. whole s b) (λ s q. holds e (λ m o q. (root m o).held q) pair_found.held s q)
        (λ s q. holds e' (λ m o q. (root m o).held' q) pair_found.held' s q)

  -- the packet's end: "Entry 7; the place becomes P plus total"
  pub end_same : (l : ℕ → ℕ) (to n : ℕ) (s : State) → Between e s.place.0 → e.start.0 ≤ to
      → end_packet (bit_place (away e e' to)) n (far e e' l s) ≡ far_out e e' l (end_packet (bit_place to) n s)
  unfolding end_packet due ◌⨾◌ check far_out after far
  end_same l to n s b h = exact-after (ltb s.room words_per_entry) _ _ last
    where
      out : ℕ → Out
      out d = go (entry packet_ends (bit_place (away e e' to)) d n 0 ∷ []) (record {
        place = bit_place (away e e' to);
        room = s.room - words_per_entry;
        slots = s.slots;
        order = s.order;
        clock = s.clock;
        last = l s.last;
        said = s.said;
      })

      last : listed (entry packet_ends (bit_place (away e e' to)) (away e e' to - (far e e' l s).place.0) n 0) (bit_place (away e e' to))
          (far e e' l s)
          ≡ far_out e e' l (listed (entry packet_ends (bit_place to) (to - s.place.0) n 0) (bit_place to) s)
      last = unfold listed far_out far_all far_entry far in
          let p : away e e' to - away e e' s.place.0 ≡ to - s.place.0 = omega (arith, b.0) in ap out p

      exact-after : (x : Bool) (m' m : Step) → m' (far e e' l s) ≡ far_out e e' l (m s)
          → (check (λ u. x) ListFull ⨾ m') (far e e' l s) ≡ far_out e e' l ((check (λ u. x) ListFull ⨾ m) s)
      exact-after true m' m h = unfold check ◌⨾◌ refuse after far_out far_all far in refl
      exact-after false m' m h = unfold check ◌⨾◌ pass after in onto-nil (m' (far e e' l s)) ∙ h ∙ ap (far_out e e' l) (sym (onto-nil (m s)))

  after_same : (o : Out) (n n' : Step) → Ok (In e) (At e) (NoMore e) (Held e (λ p d. 0 ≤ p)) o
      → ((u : State) → Between e u.place.0 → n' (far' u) ≡ far_out e e' same (n u))
      → after (far_out e e' same o) n' ≡ far_out e e' same (after o n)
  unfolding after far_out
  after_same (stop es v) n n' ok k = refl
  after_same (go es u) n n' ok k = ap (onto (far_all e e' es)) (k u (ok.1.from, ok.1.to)) ∙ far-onto e e' same es (n u)

  -- where the bounds are as far, all is the same
  module _ (equal : e'.bound.0 - e'.start.0 ≤ e.bound.0 - e.start.0) where
    exactly : {m m' : Step} → Alike m m' → (s : State) → Between e s.place.0 → m' (far' s) ≡ far_out e e' same (m s)
    exactly {m} {m'} h s b = by (h.rel s b)
      where
        by : Rel e e' same (m s) (m' (far' s)) → m' (far' s) ≡ far_out e e' same (m s)
        by (inl p) = p
        by (inr c) = absurd (omega (arith, c.wider))

    pub before-bound : (s : State) → Between e s.place.0 → ltb (far' s).place.0 e'.bound.0 ≡ ltb s.place.0 e.bound.0
    unfolding far
    before-bound s b = by (ltb s.place.0 e.bound.0) refl
      where
        by : (x : Bool) → ltb s.place.0 e.bound.0 ≡ x → ltb (away e e' s.place.0) e'.bound.0 ≡ x
        by true q =
            let u : s.place.0 < e.bound.0 = ltb-true _ _ q in
            let v : away e e' s.place.0 < e'.bound.0 = omega (arith, b.0, y.inside, y.inside', y.narrower) in
            lt-ltb _ _ v
        by false q =
            let u : e.bound.0 ≤ s.place.0 = ltb-false _ _ q in
            let v : e'.bound.0 ≤ away e e' s.place.0 = omega (arith, b.0, y.inside, y.inside') in
            le-ltb _ _ v

    pub loops : (t : Asked) (c : StreamClass) (to n left : ℕ) (s : State) → Between e s.place.0 → e.start.0 ≤ to
        → read_events t c e' (bit_place (away e e' to)) n left (far' s) ≡ far_out e e' same (read_events t c e (bit_place to) n left s)
    unfolding read_events
    loops t c to n zero s b h = end_same same to n s b h
    loops t c to n (suc left) s b h =
        ap (λ x. elim x [
          | true ↦ (read_event t c e' n
              ⨾ read_events t c e' (bit_place (away e e' to)) (n + 1) left) (far' s)
          | false ↦ end_packet (bit_place (away e e' to)) n (far' s)
        ]) (before-bound s b)
        ∙ by (ltb s.place.0 e.bound.0) (λ u d. loops t c to (n + 1) left u d h)
      where
        by : (x : Bool) → ((u : State) → Between e u.place.0
            → read_events t c e' (bit_place (away e e' to)) (n + 1) left (far' u)
            ≡ far_out e e' same (read_events t c e (bit_place to) (n + 1) left u))
            → elim x [
              | true ↦ (read_event t c e' n
                  ⨾ read_events t c e' (bit_place (away e e' to)) (n + 1) left) (far' s)
              | false ↦ end_packet (bit_place (away e e' to)) n (far' s)
            ]
            ≡ far_out e e' same (elim x
            [ true ↦ (read_event t c e n ⨾ read_events t c e (bit_place to) (n + 1) left) s | false ↦ end_packet (bit_place to) n s ])
        by true k = unfold ◌⨾◌ in
            ap (λ o. after o (read_events t c e' (bit_place (away e e' to)) (n + 1) left)) (exactly (pair-event t c n) s b)
            ∙ after_same (read_event t c e n s) _ _
            (((pair-event t c n).held 0).at s (record { from = b.0; to = b.1; kept = omega arith })) k
        by false k = end_same same to n s b h

-- a packet that goes through ends behind its total length
end-place : (to : BitPlace) (n : ℕ) (s : State) (fs : List Entry) (u : State) → end_packet to n s ≡ go fs u → u.place ≡ to
unfolding end_packet due listed
end-place to n s fs u q =
    let g : listed (entry packet_ends to (to.0 - s.place.0) n 0) to s ≡ go fs u = through _ ListFull _ s fs u q in
    let z : record {
      place = to;
      room = s.room - words_per_entry;
      slots = s.slots;
      order = s.order;
      clock = s.clock;
      last =
          s.last;
      said = s.said;
    } ≡ u = cc in
    sym (ap (λ x. x.place) z)

pub events-end : (t : Asked) (c : StreamClass) (x : Env) (to : BitPlace) (n left : ℕ) (s : State) (fs : List Entry) (u : State)
    → read_events t c x to n left s ≡ go fs u → u.place ≡ to
unfolding read_events
events-end t c x to n zero s fs u q = end-place to n s fs u q
events-end t c x to n (suc left) s fs u q = by (ltb s.place.0 x.bound.0) q (λ s₁ gs r. events-end t c x to (n + 1) left s₁ gs u r)
  where
    later : (o : Out) → after o (read_events t c x to (n + 1) left) ≡ go fs u
        → ((s₁ : State) (gs : List Entry) → read_events t c x to (n + 1) left s₁ ≡ go gs u → u.place ≡ to) → u.place ≡ to
    later (stop es v) r k = unfold after in let z : ◌≡◌ {A = ℕ} 0 1 = cc in absurd (omega arith)
    later (go es s₁) r k = let g = onto-go es (read_events t c x to (n + 1) left s₁) fs u (unfold after in r) in k s₁ g.0 g.1

    by : (b : Bool) → elim b [ true ↦ (read_event t c x n ⨾ read_events t c x to (n + 1) left) s | false ↦ end_packet to n s ] ≡ go fs u
        → ((s₁ : State) (gs : List Entry) → read_events t c x to (n + 1) left s₁ ≡ go gs u → u.place ≡ to) → u.place ≡ to
    by true r k = later (read_event t c x n s) (unfold ◌⨾◌ in r) k
    by false r k = end-place to n s fs u r

true-false : true ≡ false → ⊥
true-false q = let z : ◌≡◌ {A = ℕ} 0 1 = cc in omega arith

pub none_of_four : (a b c d : Bool) → a || b || c || d ≡ false → (b ≡ false) × (c ≡ false) × (d ≡ false)
none_of_four false false false false q = (refl, refl, refl)
none_of_four false false false true q = absurd (true-false q)
none_of_four false false true d q = absurd (true-false q)
none_of_four false true c d q = absurd (true-false q)
none_of_four true b c d q = absurd (true-false q)

third-of-four : (a b d : Bool) → a || b || true || d ≡ true
third-of-four false false d = refl
third-of-four false true d = refl
third-of-four true b d = refl

-- A packet's content. In order: the stream, from the packet's place P; and another, from P there
module _ (t : Asked) (b b' : List ℕ) (p p' : BitPlace) where
  abbrev pub e₀ : Env
  e₀ = to_end t b p

  abbrev pub e₁ : Env
  e₁ = to_end t b' p'

  module _ (y : Like e₀ e₁) where
    pub like : (content : ℕ) → p.0 + content ≤ 8 * length b → Like (up_to t b p (p.0 + content)) (up_to t b' p' (p'.0 + content))
    like content h = record {
      w = y.w;
      post = y.post;
      post' = y.post';
      here = y.here;
      there = y.there;
      whole = y.whole;
      whole' = y.whole';
      covers = omega (arith, y.covers);
      inside = omega arith;
      inside' = omega arith;
      narrower = omega arith;
      uuids = refl;
    }

    -- what is moved does not ask where the bounds are
    pub entries-same : (x x' z z' : ℕ) (es : List Entry)
        → far_all (up_to t b p x) (up_to t b' p' x') es ≡ far_all (up_to t b p z) (up_to t b' p' z') es
    unfolding far_all far_entry
    entries-same x x' z z' [] = refl
    entries-same x x' z z' (e ∷ es) =
        ap (λ l. entry e.kind (bit_place (p'.0 + (e.place.0 - p.0))) e.bits e.value e.number ∷ l) (entries-same x x' z z' es)

    out-same : (x x' z z' : ℕ) (o : Out) → far_out (up_to t b p x) (up_to t b' p' x') same o ≡ far_out (up_to t b p z) (up_to t b' p' z') same o
    unfolding far_out far
    out-same x x' z z' (stop es v) =
        ap (λ l. stop l (stop_at v.why (bit_place (p'.0 + (v.place.0 - p.0))))) (entries-same x x' z z' es)
    out-same x x' z z' (go es s) = ap (λ l. go l (record {
      place = bit_place (p'.0 + (s.place.0 - p.0));
      room = s.room;
      slots = s.slots;
      order = s.order;
      clock = s.clock;
      last = s.last;
      said = s.said;
    })) (entries-same x x' z z' es)

    abbrev pub F₀ : State → State
    F₀ s = far e₀ e₁ same s

    module _ (c : StreamClass) (total content : ℕ) where
      abbrev events : Step
      events = events_of t c b p total content

      abbrev events' : Step
      events' = events_of t c b' p' total content

      events-same : (s : State) → p.0 ≤ s.place.0 → s.place.0 ≤ p.0 + content → p.0 + content ≤ 8 * length b
          → events' (F₀ s) ≡ far_out e₀ e₁ same (events s)
      unfolding far
      events-same s f g h =
          let m : ℕ = p.0 + content in
          let m' : ℕ = p'.0 + content in
          let q : p'.0 + (p.0 + total - p.0) ≡ p'.0 + total = omega arith in
          let k : p'.0 + content - (p'.0 + (s.place.0 - p.0)) ≡ p.0 + content - s.place.0 = omega arith in
          let eq : m' - p'.0 ≤ m - p.0 = omega arith in
          ap (λ n. read_events t c (up_to t b' p' m') (further p' total) 0 n (far (up_to t b p m) (up_to t b' p' m') same s)) k
          ∙ ap (λ z. read_events t c (up_to t b' p' m') (bit_place z) 0 (p.0 + content - s.place.0)
          (far (up_to t b p m) (up_to t b' p' m') same s)) (sym q)
          ∙ loops (up_to t b p m) (up_to t b' p' m') (like content h) eq t c (p.0 + total) 0 (p.0 + content - s.place.0) s (f, g)
          (omega arith)
          ∙ out-same m m' (8 * length b) (8 * length b') (events s)

      -- behind the lengths: 35, entry 3, the events
      abbrev behind : Step
      behind = check (λ s. above s.clock s.said.ending) ClocksContradict ⨾ mark lengths_settled total content ⨾ events

      abbrev behind' : Step
      behind' = check (λ s. above s.clock s.said.ending) ClocksContradict ⨾ mark lengths_settled total content ⨾ events'

      marked : (s : State) → p.0 ≤ s.place.0 → s.place.0 ≤ p.0 + content → p.0 + content ≤ 8 * length b
          → (mark lengths_settled total content ⨾ events') (F₀ s) ≡ far_out e₀ e₁ same ((mark lengths_settled total content ⨾ events) s)
      unfolding ◌⨾◌
      marked s f g h =
          let m : (mark lengths_settled total content) (F₀ s) ≡ far_out e₀ e₁ same (mark lengths_settled total content s) =
          unfold mark listed far_out far_all far_entry far in refl in
          ap (λ o. after o events') m ∙ by
        where
          by : after (far_out e₀ e₁ same (mark lengths_settled total content s)) events'
              ≡ far_out e₀ e₁ same (after (mark lengths_settled total content s) events)
          by = unfold mark listed after far_out in
              ap (onto (far_all e₀ e₁ (entry lengths_settled s.place total content 0 ∷ [])))
              (events-same (record {
                place = s.place;
                room = s.room - words_per_entry;
                slots = s.slots;
                order = s.order;
                clock =
                    s.clock;
                last = s.last;
                said = s.said;
              }) f g h)
              ∙ far-onto e₀ e₁ same (entry lengths_settled s.place total content 0 ∷ []) _

      rel-behind : (s : State) → p.0 ≤ s.place.0 → s.place.0 ≤ p.0 + content → p.0 + content ≤ 8 * length b
          → Rel e₀ e₁ same (behind s) (behind' (F₀ s))
      rel-behind s f g h =
          rel-check e₀ e₁ same _ _ ClocksContradict (mark lengths_settled total content ⨾ events) (mark lengths_settled total content
          ⨾ events') s (unfold far in refl) (inl (marked s f g h))

      behind-end : (s : State) (fs : List Entry) (x : State) → behind' s ≡ go fs x → x.place.0 ≡ p'.0 + total
      unfolding ◌⨾◌ mark listed after
      behind-end s fs x q =
          let g : (mark lengths_settled total content ⨾ events') s ≡ go fs x =
          through (λ s. above s.clock s.said.ending) ClocksContradict (mark lengths_settled total content ⨾ events') s fs x q in
          let k = onto-go (entry lengths_settled s.place total content 0 ∷ []) _ fs x g in
          let z : x.place ≡ further p' total = events-end t c (up_to t b' p' (p'.0 + content)) (further p' total) 0 _ _ k.0 x k.1 in
          ap (λ w. w.0) z

      abbrev fault : State → Bool
      fault = contradict b p total content

      abbrev fault' : State → Bool
      fault' = contradict b' p' total content

      -- the fourth test comes out the same; the third-of-four one too where the total fits here
      short-same : (s : State) → p.0 ≤ s.place.0 → ltb (p'.0 + content) (F₀ s).place.0 ≡ ltb (p.0 + content) s.place.0
      unfolding far
      short-same s f = by (ltb (p.0 + content) s.place.0) refl
        where
          by : (x : Bool) → ltb (p.0 + content) s.place.0 ≡ x → ltb (p'.0 + content) (p'.0 + (s.place.0 - p.0)) ≡ x
          by true q =
              let v : p.0 + content < s.place.0 = ltb-true _ _ q in
              let v' : p'.0 + content < p'.0 + (s.place.0 - p.0) = omega arith in
              lt-ltb _ _ v'
          by false q =
              let v : s.place.0 ≤ p.0 + content = ltb-false _ _ q in
              let v' : p'.0 + (s.place.0 - p.0) ≤ p'.0 + content = omega arith in
              le-ltb _ _ v'

      pub contradict-same : (s : State) → p.0 ≤ s.place.0 → ltb (8 * length b) (p.0 + total) ≡ false → fault' (F₀ s) ≡ fault s
      contradict-same s f q =
          let v : p.0 + total ≤ 8 * length b = ltb-false _ _ q in
          let v' : p'.0 + total ≤ 8 * length b' = omega (arith, y.narrower, y.inside, y.inside') in
          let q' : ltb (8 * length b') (p'.0 + total) ≡ ltb (8 * length b) (p.0 + total) = le-ltb _ _ v' ∙ sym q in
          ap (λ x. not (eqb (total % 8) 0) || ltb total content || x || ltb (p'.0 + content) (F₀ s).place.0) q'
          ∙ ap (λ x. not (eqb (total % 8) 0) || ltb total content || ltb (8 * length b) (p.0 + total) || x) (short-same s f)

      passed : (q : State → Bool) (r : Refusal) (m : Step) (s : State) (fs : List Entry) (x : State) → (check q r ⨾ m) s ≡ go fs x
          → q s ≡ false
      unfolding check ◌⨾◌
      passed q r m s fs x h = by (q s) h
        where
          by : (z : Bool) → after (elim z [ true ↦ refuse r s | false ↦ pass s ]) m ≡ go fs x → z ≡ false
          by true g = unfold refuse after in let v : ◌≡◌ {A = ℕ} 0 1 = cc in absurd (omega arith)
          by false g = refl

      content-onward : (s : State) (fs : List Entry) (x : State) → read_content t c b' p' total content s ≡ go fs x
          → s.place.0 ≤ x.place.0
      unfolding read_content due
      content-onward s fs x q =
          let g : (check fault' LengthsContradict ⨾ behind') s ≡ go fs x =
          through _ ListFull (check fault' LengthsContradict ⨾ behind') s fs x q in
          let f = none_of_four (not (eqb (total % 8) 0)) (ltb total content) (ltb (8 * length b') (p'.0 + total))
          (ltb (p'.0 + content) s.place.0) (passed fault' LengthsContradict behind' s fs x g) in
          let m : content ≤ total = ltb-false _ _ f.0 in
          let n : s.place.0 ≤ p'.0 + content = ltb-false _ _ f.2 in
          let z : x.place.0 ≡ p'.0 + total = behind-end s fs x (through fault' LengthsContradict behind' s fs x g) in
          omega arith

      good : (s : State) → Between e₀ s.place.0 → fault s ≡ false → Rel e₀ e₁ same (after (pass s) behind) (after (pass (F₀ s)) behind')
      unfolding pass after
      good s d r =
          let f = none_of_four (not (eqb (total % 8) 0)) (ltb total content) (ltb (8 * length b) (p.0 + total))
          (ltb (p.0 + content) s.place.0) r in
          let m : content ≤ total = ltb-false _ _ f.0 in
          let v : p.0 + total ≤ 8 * length b = ltb-false _ _ f.1 in
          let n : s.place.0 ≤ p.0 + content = ltb-false _ _ f.2 in
          rw (onto-nil (behind s), onto-nil (behind' (F₀ s))) (rel-behind s d.0 n (omega arith))

      fine : (s : State) → Between e₀ s.place.0 → (z : Bool) → fault s ≡ z
          → Rel e₀ e₁ same (after (elim z [ true ↦ refuse LengthsContradict s | false ↦ pass s ]) behind)
          (after (elim z [ true ↦ refuse LengthsContradict (F₀ s) | false ↦ pass (F₀ s) ]) behind')
      fine s d true r = unfold refuse after far_out far_all far in inl refl
      fine s d false r = good s d r

      -- a total past the stream's end here
      beyond-end : (s : State) → 8 * length b < p.0 + total → (z : Bool) → fault' (F₀ s) ≡ z
          → Rel e₀ e₁ same (after (refuse LengthsContradict s) behind)
          (after (elim z [ true ↦ refuse LengthsContradict (F₀ s) | false ↦ pass (F₀ s) ]) behind')
      beyond-end s h true r = unfold refuse after far_out far_all far in inl refl
      beyond-end s h false r =
          let f = none_of_four (not (eqb (total % 8) 0)) (ltb total content) (ltb (8 * length b') (p'.0 + total))
          (ltb (p'.0 + content) (F₀ s).place.0) r in
          let v : p'.0 + total ≤ 8 * length b' = ltb-false _ _ f.1 in
          inr (record {
            es = [];
            v = stop_at LengthsContradict s.place;
            stops = unfold refuse after in refl;
            short = inr (inr refl);
            rest = behind' (F₀ s);
            goes = unfold pass after far_all in refl;
            wider = omega (arith, y.inside, y.inside');
            beyond = λ fs x q.
                let q' : behind' (F₀ s) ≡ go fs x = unfold pass after in (sym (onto-nil (behind' (F₀ s))) ∙ q) in
                let z : x.place.0 ≡ p'.0 + total = behind-end (F₀ s) fs x q' in
                omega (arith, y.inside);
          })

      pub rel-content : (s : State) → Between e₀ s.place.0
          → Rel e₀ e₁ same (read_content t c b p total content s) (read_content t c b' p' total content (F₀ s))
      unfolding read_content
      rel-content s d = rel-due e₀ e₁ same (check fault LengthsContradict ⨾ behind) (check fault' LengthsContradict
          ⨾ behind') s (by (ltb (8 * length b) (p.0 + total)) refl)
        where
          by : (x : Bool) → ltb (8 * length b) (p.0 + total) ≡ x
              → Rel e₀ e₁ same ((check fault LengthsContradict ⨾ behind) s) ((check fault' LengthsContradict ⨾ behind') (F₀ s))
          by false q = unfold check ◌⨾◌ in
              subst (λ z. Rel e₀ e₁ same (after (elim (fault s) [ true ↦ refuse LengthsContradict s | false ↦ pass s ]) behind)
              (after (elim z [ true ↦ refuse LengthsContradict (F₀ s) | false ↦ pass (F₀ s) ]) behind'))
              (sym (contradict-same s d.0 q)) (fine s d (fault s) refl)
          by true q = unfold check ◌⨾◌ in
              let v : 8 * length b < p.0 + total = ltb-true (8 * length b) (p.0 + total) q in
              let r : fault s ≡ true = ap (λ z. not (eqb (total % 8) 0) || ltb total content || z || ltb (p.0 + content) s.place.0) q
              ∙ third-of-four (not (eqb (total % 8) 0)) (ltb total content) (ltb (p.0 + content) s.place.0) in
              subst (λ z. Rel e₀ e₁ same (after (elim z [ true ↦ refuse LengthsContradict s | false ↦ pass s ]) behind)
              (after (elim (fault' (F₀ s)) [ true ↦ refuse LengthsContradict (F₀ s) | false ↦ pass (F₀ s) ]) behind'))
              (sym r) (beyond-end s v (fault' (F₀ s)) refl)

    -- Steps that come last: they may go behind the bound

    pub record Tail (n n' : Step) : Type 0 where
      pub rel : (s : State) → Between e₀ s.place.0 → Rel e₀ e₁ same (n s) (n' (F₀ s))
      pub onward : (s : State) → Between e₁ s.place.0 → (fs : List Entry) (x : State) → n' s ≡ go fs x → s.place.0 ≤ x.place.0

    abbrev Alike₀ : Step → Step → Type 0
    Alike₀ m m' = Pair e₀ e₁ y same m m'

    abbrev Ok₁ : ℕ → Out → Type 0
    Ok₁ q o = Ok (In e₁) (At e₁) (NoMore e₁) (Held e₁ (λ p d. q ≤ p)) o

    onward-after : (q : ℕ) (o : Out) (n n' : Step) → Tail n n' → Ok₁ q o → (fs : List Entry) (x : State) → after o n' ≡ go fs x
        → q ≤ x.place.0
    onward-after q (stop es v) n n' k ok fs x r = unfold after in let z : ◌≡◌ {A = ℕ} 0 1 = cc in absurd (omega arith)
    onward-after q (go es u) n n' k ok fs x r =
        let g = onto-go es (n' u) fs x (unfold after in r) in
        omega (arith, ok.1.kept, k.onward u (ok.1.from, ok.1.to) g.0 x g.1)

    beyond-tail : (a : ℕ) (o : Out) (n n' : Step) → Tail n n' → Ok₁ 0 o → ((fs : List Entry) (x : State) → o ≡ go fs x → a < x.place.0)
        → (fs : List Entry) (x : State) → after o n' ≡ go fs x → a < x.place.0
    beyond-tail a (stop es v) n n' k ok h fs x r = unfold after in let z : ◌≡◌ {A = ℕ} 0 1 = cc in absurd (omega arith)
    beyond-tail a (go es u) n n' k ok h fs x r =
        let g = onto-go es (n' u) fs x (unfold after in r) in
        omega (arith, h es u refl, k.onward u (ok.1.from, ok.1.to) g.0 x g.1)

    same-tail : (o : Out) (n n' : Step) → Tail n n' → Ok (In e₀) (At e₀) (NoMore e₀) (Held e₀ (λ p d. 0 ≤ p)) o
        → Rel e₀ e₁ same (after o n) (after (far_out e₀ e₁ same o) n')
    unfolding after far_out
    same-tail (stop es v) n n' k ok = inl refl
    same-tail (go es u) n n' k ok = rel-onto e₀ e₁ y same es (n u) (n' (F₀ u)) (k.rel u (ok.1.from, ok.1.to))

    rel-tail : (o o' : Out) (n n' : Step) → Rel e₀ e₁ same o o' → Ok (In e₀) (At e₀) (NoMore e₀) (Held e₀ (λ p d. 0 ≤ p)) o → Ok₁ 0 o'
        → Tail n n'
        → Rel e₀ e₁ same (after o n) (after o' n')
    rel-tail o o' n n' (inl p) ok ok' k = subst (λ x. Rel e₀ e₁ same (after o n) (after x n')) (sym p) (same-tail o n n' k ok)
    rel-tail o o' n n' (inr c) ok ok' k = inr (record {
      es = c.es;
      v = c.v;
      stops = unfold after in ap (λ x. after x n) c.stops;
      short = c.short;
      rest = after c.rest n';
      goes = ap (λ x. after x n') c.goes ∙ after-onto (far_all e₀ e₁ c.es) c.rest n';
      wider = c.wider;
      beyond = beyond-tail (away e₀ e₁ (8 * length b)) o' n n' k ok' c.beyond;
    })

    infixr 20 ◌⨾ᵗ◌
    ◌⨾ᵗ◌ : {m n m' n' : Step} → Alike₀ m m' → Tail n n' → Tail (m ⨾ n) (m' ⨾ n')
    unfolding ◌⨾◌
    ◌⨾ᵗ◌ {m} {n} {m'} {n'} h k = record {
      rel = λ s d.
          let d' : Between e₁ (F₀ s).place.0 = there-between e₀ e₁ y same s d in
          rel-tail (m s) (m' (F₀ s)) n n' (h.rel s d) ((h.held 0).at s (record { from = d.0; to = d.1; kept = omega arith }))
          ((h.held' 0).at (F₀ s) (record { from = d'.0; to = d'.1; kept = omega arith })) k;
      onward = λ s d fs x r. onward-after s.place.0 (m' s) n n' k
          ((h.held' s.place.0).at s (record { from = d.0; to = d.1; kept = le_refl s.place.0 })) fs x r;
    }

    -- A packet behind its entry 1

    tail-content : (rest : ℕ) (c : StreamClass) → Tail (content_step t b p rest c) (content_step t b' p' rest c)
    tail-content rest c = record {
      rel = λ s d. by s (rel-content c (or_else s.said.total s.said.content rest) (or_else s.said.content s.said.total rest)
          s d);
      onward = λ s d fs x r. content-onward c (or_else s.said.total s.said.content rest)
          (or_else s.said.content s.said.total rest) s fs x r;
    }
      where
        by : (s : State) → Rel e₀ e₁ same (content_step t b p rest c s)
            (read_content t c b' p' (or_else s.said.total s.said.content rest) (or_else s.said.content s.said.total rest)
            (F₀ s))
            → Rel e₀ e₁ same (content_step t b p rest c s) (content_step t b' p' rest c (F₀ s))
        by s h = unfold far in h

    tail-refuse : (r : Refusal) → Tail (refuse r) (refuse r)
    tail-refuse r = record {
      rel = λ s d. inl ((exact-refuse e₀ e₁ r).at same s);
      onward = λ s d fs x q. unfold refuse in let z : ◌≡◌ {A = ℕ} 0 1 = cc in absurd (omega arith);
    }

    by-stream : (rest i j : ℕ) (o : Option StreamClass)
        → Tail (with_stream i o (of_class t b p rest j)) (with_stream i o (of_class t b' p' rest j))
    unfolding with_stream
    by-stream rest i j None = tail-refuse (StreamClassUnknown i)
    by-stream rest i j (Some c) = pair-mark e₀ e₁ y stream_class_found 0 j ⨾ᵗ root e₀ e₁ y first_root c.context ⨾ᵗ tail-content rest c

    tail-stream : (rest : ℕ) → Tail (λ s. of_stream t b p rest s s) (λ s. of_stream t b' p' rest s s)
    tail-stream rest = record {
      rel = λ s d. by s ((by-stream rest s.said.stream s.said.stream (t.stream s.said.stream)).rel s d);
      onward = λ s d fs x r. (by-stream rest s.said.stream s.said.stream (t.stream s.said.stream)).onward s d fs x r;
    }
      where
        by : (s : State) → Rel e₀ e₁ same (of_stream t b p rest s s) (of_stream t b' p' rest s (F₀ s))
            → Rel e₀ e₁ same (of_stream t b p rest s s) (of_stream t b' p' rest (F₀ s) (F₀ s))
        by s h = unfold far in h

    pair-begin : Alike₀ (change start_packet) (change start_packet)
    unfolding start_packet far
    pair-begin = pair-change e₀ e₁ y start_packet (λ s. refl) (λ s. refl)

    pair-class : (i : Option ℕ)
        → Alike₀ (check (λ s. differs s.said.stream i) StreamClassChanged) (check (λ s. differs s.said.stream i) StreamClassChanged)
    unfolding far
    pair-class i = pair-check e₀ e₁ y _ _ StreamClassChanged (λ s d. refl)

    -- THE LAW: a packet in one stream beside the same bytes in another
    pub tail-packet : (rest : ℕ) (i : Option ℕ) → Tail (packet t b p rest i) (packet t b' p' rest i)
    tail-packet rest i = pair-begin ⨾ᵗ root e₀ e₁ y first_root t.header ⨾ᵗ pair-class i ⨾ᵗ pair-due e₀ e₁ y ⨾ᵗ tail-stream rest

-- `read_packet` is entry 1, and then the law's step
pub packet-is : (t : Asked) (b : List ℕ) (k : ℕ) (i : Option ℕ) (s : State)
    → read_packet t b k i s ≡ (due ⨾ mark packet_starts 0 k ⨾ packet t b s.place (8 * length b - s.place.0) i) s
unfolding read_packet
packet-is t b k i s = refl
