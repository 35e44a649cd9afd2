-- Packets of a table whose fields have a bit or more: the place never goes back, stays within the bound while events are read, and each
-- packet takes a byte or more and ends inside the stream; so that the rounds of the packet loop are enough.
use Rattle.std.specs.Prelude.{Option, None, Some}
use mathlib.Core.Path.{◌≡◌, refl, ap, ◌∙◌, subst}
use mathlib.Core.Logic.{◌⊎◌, inl, inr}
use Prim.Native.Nat.{ℕ, zero, suc, ◌+◌, ◌-◌, ◌*◌, ◌%◌, ◌≤◌, ◌<◌}
use native.Mathlib.Omega.{arith}
use native.Mathlib.Nat.{le_refl, suc-add}
use mathlib.Core.List.{List}
use mathlib.Core.Bool.{Bool, true, false, not, ◌||◌}
use lib.ListN.{length}
use lib.Dec.{ltb, eqb}
use borrow.Author.Tests.{ltb-true, ltb-false, eqb-true, le-ltb, not-false}
use Rattle.rules.specs.declared.BitPlace.{BitPlace}
use Rattle.rules.specs.declared.Entry.{Entry}
use Rattle.rules.specs.declared.Refusal.{Refusal}
use Rattle.rules.specs.declared.Refusal.TheVariants.{StreamClassChanged, StreamClassUnknown, LengthsContradict, ClocksContradict}
use Rattle.rules.specs.declared.Refusal.TheVariants.{EventClassUnknown, EventTookNoBits, ClockWentBack, ListFull}
use Rattle.rules.specs.Limits.{words_per_entry}
use Rattle.rules.specs.Place.{bit_place, further}
use Rattle.rules.specs.Step.{State, Out, stop, go, Step, onto, after, ◌⨾◌, refuse, check, due, listed, change, pass, with_last}
use Rattle.rules.specs.Table.{StreamClass, EventClass, Asked}
use Rattle.rules.specs.Field.{Env}
use Rattle.rules.specs.Packet.{read_event, read_events, read_content, read_packet, read_packets, with_event, with_stream}
use Rattle.rules.specs.Packet.{first_root, header_number, common_number, payload_number}
use Rattle.rules.specs.Packet.{mark, read_root, start_event, start_packet, nothing_said, end_packet, or_else}
use Rattle.facts.proofs.Truth.{or-false, if-agree}
use Rattle.laws.specs.Between.{Moved}
use Rattle.promises.specs.Laws.{Inside}
use Rattle.laws.proofs.Law.{Any}
use Rattle.laws.proofs.Accepted.{Fitting}
use Rattle.laws.proofs.Triple.{Ok, then, changing, naming, checks, dued}
use Rattle.promises.proofs.Rising.{RiseOut, Rise, Onward, rise-after, ◌⨾ᵘ◌, rise-refuse, rise-check, rise-due, rise-change}
use Rattle.promises.proofs.Rising.{rise-mark, rise-root, rise-within}
use Rattle.laws.proofs.Between.{In, At, NoMore}
use Rattle.promises.proofs.Bounds.{Bounded, place_of, bound-root}

abbrev pub Positive : ℕ → Type 0
Positive n = 1 ≤ n

-- Events

bound-mark : (e : Env) (k n v : ℕ) → Bounded e (mark k n v)
unfolding mark listed
bound-mark e k n v = record { at = λ s h. (((h.from, h.to), tt), record { from = h.from; to = h.to; moved = h.moved }) }

bound-with : (e : Env) (i j : ℕ) (x : Option EventClass) (f : EventClass → Step) → ((d : EventClass) → x ≡ Some d → Bounded e (f d))
    → Bounded e (with_event i j x f)
unfolding with_event
bound-with e i j None f h = naming (In e) (At e) (NoMore e) (EventClassUnknown i j) (place_of e (EventClassUnknown i j) tt)
bound-with e i j (Some d) f h = h d refl

rise-with : {e : Env} (i j : ℕ) (x : Option EventClass) (f : EventClass → Step) → ((d : EventClass) → Rise e (f d))
    → Rise e (with_event i j x f)
unfolding with_event
rise-with i j None f h = rise-refuse (EventClassUnknown i j)
rise-with i j (Some d) f h = h d

rise-event : (t : Asked) (c : StreamClass) (e : Env) (n : ℕ) → Rise e (read_event t c e n)
unfolding read_event start_event with_last
rise-event t c e n = record {
  at = λ s₀.
      (rise-due ⨾ᵘ rise-mark 4 0 n ⨾ᵘ rise-change _ (λ s. refl) ⨾ᵘ rise-root e (header_number c) c.header ⨾ᵘ rise-check _ ClockWentBack
      ⨾ᵘ rise-change _ (λ s. refl) ⨾ᵘ rise-due
      ⨾ᵘ record {
        at = λ s. (rise-with c.id s.said.event (t.event c.id s.said.event) _
            (λ d. rise-mark 5 0 s.said.event ⨾ᵘ rise-root e (common_number c) c.common ⨾ᵘ rise-root e first_root d.specific
            ⨾ᵘ rise-root e (payload_number d) d.payload)).at s;
      }
      ⨾ᵘ rise-check (λ s. eqb s.place.0 s₀.place.0) EventTookNoBits).at s₀;
}

-- Packets: from states of A a step rises, goes on to states of B, and stops nowhere behind a place

abbrev pub Stops : ℕ → Out → Type 0
Stops last (stop es v) = v.place.0 ≤ last
Stops last (go es s) = Unit {0}

abbrev pub Goes : ℕ → (State → Type 0) → ℕ → Out → Type 0
Goes last B p o = RiseOut p o × Onward B o × Stops last o

record Go (last : ℕ) (A : State → Type 0) (m : Step) (B : State → Type 0) : Type 0 where
  at : (s : State) → A s → Goes last B s.place.0 (m s)

-- states that are not behind it either
abbrev Not-behind : ℕ → (State → Type 0) → Type 0
Not-behind last A = (s : State) → A s → s.place.0 ≤ last

stops-onto : (last : ℕ) (es : List Entry) (o : Out) → Stops last o → Stops last (onto es o)
unfolding onto
stops-onto last es (stop fs v) h = h
stops-onto last es (go fs s) h = tt

stops-after : (last : ℕ) (A : State → Type 0) (o : Out) (n : Step) → Stops last o → Onward A o → ((s : State) → A s → Stops last (n s))
    → Stops last (after o n)
unfolding after
stops-after last A (stop es v) n h a k = h
stops-after last A (go es s) n h a k = stops-onto last es (n s) (k s a)

onward-onto : (B : State → Type 0) (es : List Entry) (o : Out) → Onward B o → Onward B (onto es o)
unfolding onto
onward-onto B es (stop fs v) h = tt
onward-onto B es (go fs s) h = h

onward-after : (A B : State → Type 0) (o : Out) (n : Step) → Onward A o → ((s : State) → A s → Onward B (n s)) → Onward B (after o n)
unfolding after
onward-after A B (stop es v) n h k = tt
onward-after A B (go es s) n h k = onward-onto B es (n s) (k s h)

goes_after : (last : ℕ) (A B : State → Type 0) (p : ℕ) (o : Out) (n : Step) → Goes last A p o
    → ((s : State) → A s → Goes last B s.place.0 (n s)) → Goes last B p (after o n)
goes_after last A B p o n h k = (
  rise-after A p o n h.0 h.1 (λ s a. (k s a).0),
  onward-after A B o n h.1 (λ s a. (k s a).1),
  stops-after last A o n h.2 h.1 (λ s a. (k s a).2),
)

onward-map : (A B : State → Type 0) (o : Out) → ((s : State) → A s → B s) → Onward A o → Onward B o
onward-map A B (stop es v) f h = tt
onward-map A B (go es s) f h = f s h

infixr 20 ◌⨾ᵍ◌
◌⨾ᵍ◌ : {last : ℕ} {A B C : State → Type 0} {m n : Step} → Go last A m B → Go last B n C → Go last A (m ⨾ n) C
unfolding ◌⨾◌
◌⨾ᵍ◌ {last} {A} {B} {C} {m} {n} h k = record { at = λ s a. goes_after last B C s.place.0 (m s) n (h.at s a) (λ s' b. k.at s' b) }

ok-onward : (e : Env) (o : Out) → Ok (In e) (At e) (NoMore e) (Inside e) o → Onward (Inside e) o
ok-onward e (stop es v) h = tt
ok-onward e (go es s) h = h.1

ok-stops : (last : ℕ) (e : Env) → e.bound.0 ≤ last → (o : Out) → Ok (In e) (At e) (NoMore e) (Inside e) o → Stops last o
ok-stops last e l (stop es v) h = omega (arith, h.1.1)
ok-stops last e l (go es s) h = tt

inside : {last : ℕ} (e : Env) → e.bound.0 ≤ last → {m : Step} → Rise e m → Bounded e m → Go last (Inside e) m (Inside e)
inside {last} e l {m} h k = record {
  at = λ s a.
      let ok = k.at s a in
      (rise-within e (Inside e) s.place.0 (m s) a.to ok (h.at s), ok-onward e (m s) ok, ok-stops last e l (m s) ok);
}

inside-le : (last : ℕ) (e : Env) → e.bound.0 ≤ last → Not-behind last (Inside e)
inside-le last e l s a = omega (arith, a.to)

-- a test, and what its failing tells
go-check : {last : ℕ} {A : State → Type 0} → Not-behind last A → (q : State → Bool) (r : Refusal)
    → Go last A (check q r) (λ s. A s × (q s ≡ false))
unfolding check
go-check {last} {A} l q r = record { at = λ s a. by s a (q s) refl }
  where
    by : (s : State) → A s → (b : Bool) → q s ≡ b
        → Goes last (λ s. A s × (q s ≡ false)) s.place.0 (elim b [ true ↦ refuse r s | false ↦ pass s ])
    by s a true h = unfold refuse in (le_refl s.place.0, tt, l s a)
    by s a false h = unfold pass in (le_refl s.place.0, (a, h), tt)

go_same : {last : ℕ} {A : State → Type 0} → Not-behind last A → (q : State → Bool) (r : Refusal) → Go last A (check q r) A
go_same {last} {A} l q r = record {
  at = λ s a. let g = (go-check {last = last} {A = A} l q r).at s a in (g.0, onward-map _ A (check q r s) (λ s x. x.0) g.1, g.2);
}

go-due : {last : ℕ} {A : State → Type 0} → Not-behind last A → Go last A due A
unfolding due
go-due l = go_same l _ ListFull

go-refuse : {last : ℕ} {A B : State → Type 0} → Not-behind last A → (r : Refusal) → Go last A (refuse r) B
unfolding refuse
go-refuse l r = record { at = λ s a. (le_refl s.place.0, tt, l s a) }

go-change : {last : ℕ} {A B : State → Type 0} (f : State → State) → ((s : State) → (f s).place ≡ s.place) → ((s : State) → A s → B (f s))
    → Go last A (change f) B
unfolding change
go-change f h k = record { at = λ s a. (rw (h s) (le_refl s.place.0), k s a, tt) }

-- the state behind an entry at the place
abbrev less : State → State
less s = record {
  place = s.place;
  room = s.room - words_per_entry;
  slots = s.slots;
  order = s.order;
  clock = s.clock;
  last = s.last;
  said = s.said;
}

go-mark : {last : ℕ} {A B : State → Type 0} (k n v : ℕ) → ((s : State) → A s → B (less s)) → Go last A (mark k n v) B
unfolding mark listed
go-mark k n v f = record { at = λ s a. ((le_refl s.place.0, le_refl s.place.0), f s a, tt) }

go-end : {last : ℕ} (to : BitPlace) (n : ℕ) → to.0 ≤ last → {A : State → Type 0} → Not-behind to.0 A
    → Go last A (end_packet to n) (λ s. s.place ≡ to)
unfolding end_packet
go-end {last} to n l {A} h =
    go-due (λ s a. let p : s.place.0 ≤ to.0 = h s a in omega arith)
    ⨾ᵍ unfold listed in record { at = λ s a. ((h s a, le_refl to.0), refl, tt) }

go-if : (last p : ℕ) (B : State → Type 0) (b : Bool) (x y : Out) → Goes last B p x → Goes last B p y
    → Goes last B p (elim b [ true ↦ x | false ↦ y ])
go-if last p B true x y h k = h
go-if last p B false x y h k = k

-- what 34 leaves
record Lengths (b : List ℕ) (p total content : ℕ) (s : State) : Type 0 where
  whole : total % 8 ≡ 0
  order : content ≤ total
  in_stream : p + total ≤ 8 * length b
  reach : s.place.0 ≤ p + content

-- what 34 asks
abbrev contradict : List ℕ → ℕ → ℕ → ℕ → State → Bool
contradict b p total content s =
    not (eqb (total % 8) 0) || ltb total content || ltb (8 * length b) (p + total) || ltb (p + content) s.place.0

lengths : (b : List ℕ) (p total content : ℕ) (s : State) → contradict b p total content s ≡ false → Lengths b p total content s
lengths b p total content s h =
    let x = or-false (not (eqb (total % 8) 0) || ltb total content || ltb (8 * length b) (p + total)) (ltb (p + content) s.place.0) h in
    let y = or-false (not (eqb (total % 8) 0) || ltb total content) (ltb (8 * length b) (p + total)) x.0 in
    let z = or-false (not (eqb (total % 8) 0)) (ltb total content) y.0 in
    record {
      whole = eqb-true (total % 8) 0 (not-false (eqb (total % 8) 0) z.0);
      order = ltb-false _ _ z.1;
      in_stream = ltb-false _ _ y.1;
      reach = ltb-false _ _ x.1;
    }

module _ (t : Asked) (w : Fitting Positive (λ r. Any) Any t) where
  -- an event stays within the bound
  pub bound-event : (i : ℕ) (c : StreamClass) → t.stream i ≡ Some c → (e : Env) (n : ℕ) → Bounded e (read_event t c e n)
  unfolding read_event
  bound-event i c p e n = record {
    at = λ s₀ h₀.
        (due' (bound-mark e 4 0 n ⨾ᵇ starts ⨾ᵇ bound-root e (header_number c) c.header (w.events i c p).0
        ⨾ᵇ checks (In e) (At e) (NoMore e) (place_of e) _ ClockWentBack tt ⨾ᵇ lasts
        ⨾ᵇ due' (look
        ⨾ᵇ checks (In e) (At e) (NoMore e) (place_of e) (λ s. eqb s.place.0 s₀.place.0) EventTookNoBits tt))).at s₀ h₀;
  }
    where
      infixr 20 ◌⨾ᵇ◌
      ◌⨾ᵇ◌ : {m n : Step} → Bounded e m → Bounded e n → Bounded e (m ⨾ n)
      h ⨾ᵇ k = then (In e) (At e) (NoMore e) h k

      due' : {m : Step} → Bounded e m → Bounded e (due ⨾ m)
      due' h = dued (In e) (At e) (NoMore e) (place_of e) tt h

      starts : Bounded e (change start_event)
      starts = unfold start_event in
          changing (In e) (At e) (NoMore e) _ (λ s h. record { from = h.from; to = h.to; moved = h.moved })

      lasts : Bounded e (change (λ s. with_last s.clock s))
      lasts = unfold with_last in
          changing (In e) (At e) (NoMore e) _ (λ s h. record { from = h.from; to = h.to; moved = h.moved })

      look : Bounded e (λ s. with_event c.id s.said.event (t.event c.id s.said.event)
          (λ d. mark 5 0 s.said.event ⨾ read_root e (common_number c) c.common ⨾ read_root e first_root d.specific
          ⨾ read_root e (payload_number d) d.payload) s)
      look = record {
        at = λ s h. (bound-with e c.id s.said.event (t.event c.id s.said.event) _
            (λ d q. bound-mark e 5 0 s.said.event ⨾ᵇ bound-root e (common_number c) c.common (w.events i c p).1
            ⨾ᵇ bound-root e first_root d.specific (w.event _ _ d q).0
            ⨾ᵇ bound-root e (payload_number d) d.payload (w.event _ _ d q).1)).at s h;
      }

  go-events : (last i : ℕ) (c : StreamClass) → t.stream i ≡ Some c → (e : Env) (to : BitPlace) (n left : ℕ) → e.bound.0 ≤ to.0
      → to.0 ≤ last → Go last (Inside e) (read_events t c e to n left) (λ s. s.place ≡ to)
  unfolding read_events
  go-events last i c p e to n zero h l = go-end to n l (inside-le to.0 e h)
  go-events last i c p e to n (suc left) h l = record {
    at = λ s a.
        go-if last s.place.0 _ (ltb s.place.0 e.bound.0) _ _
        ((inside e (omega arith) (rise-event t c e n) (bound-event i c p e n) ⨾ᵍ go-events last i c p e to (n + 1) left h l).at s a)
        ((go-end to n l {A = Inside e} (inside-le to.0 e h)).at s a);
  }

  -- a packet of some lengths ends behind its total
  go-content : (i : ℕ) (c : StreamClass) → t.stream i ≡ Some c → (b : List ℕ) (p : BitPlace) (total content : ℕ) (e : Env) → e.start ≡ p
      → e.bound.0 ≡ 8 * length b → (s₀ : State) → Inside e s₀
      → Goes (8 * length b) (λ s. (s.place ≡ further p total) × Lengths b p.0 total content s₀) s₀.place.0
      (read_content t c b p total content s₀)
  unfolding read_content
  go-content i c q b p total content e h l s₀ a₀ =
      (go-due (λ s x. near s x.0) ⨾ᵍ go-check (λ s x. near s x.0) _ LengthsContradict
      ⨾ᵍ go_same (λ s x. near s x.0.0) _ ClocksContradict ⨾ᵍ marked
      ⨾ᵍ record {
        at = λ s x.
            let o : content ≤ total = x.1.order in
            let r : p.0 + total ≤ 8 * length b = x.1.in_stream in
            let rounds = p.0 + content - s.place.0 in
            let g = (go-events (8 * length b) i c q inner (further p total) 0 rounds (omega arith) (omega arith)).at s x.0 in
            (g.0, onward-map _ Done (read_events t c inner (further p total) 0 rounds s) (λ s' y. (y, x.1)) g.1, g.2);
      }).at s₀ (a₀, refl)
    where
      near : Not-behind (8 * length b) (Inside e)
      near s a = omega (arith, a.to)

      inner : Env
      inner = record { bytes = b; start = p; bound = further p content; uuid = t.uuid }

      Done : State → Type 0
      Done s = (s.place ≡ further p total) × Lengths b p.0 total content s₀

      At₀ : State → Type 0
      At₀ s = Inside e s × (s ≡ s₀)

      marked : Go (8 * length b) (λ s. At₀ s × (contradict b p.0 total content s ≡ false))
          (mark 3 total content) (λ s. Inside inner s × Lengths b p.0 total content s₀)
      marked = go-mark 3 total content (λ s x.
          let l : Lengths b p.0 total content s = lengths b p.0 total content s x.1 in
          let a : Inside e s = x.0.0 in
          let f : e.start.0 ≤ s.place.0 = a.from in
          let z : e.start.0 ≡ p.0 = ap (λ y. y.0) h in (
            record {
              from = omega arith;
              to = l.reach;
              moved = subst (λ y. ((s.said.total ≡ None) × (s.said.content ≡ None)) ⊎ (y.0 < s.place.0)) h a.moved;
            },
            subst (Lengths b p.0 total content) x.0.1 l,
          ))

  -- a packet takes a byte or more, ends at a byte, and within the stream
  abbrev pub Behind : List ℕ → ℕ → State → Type 0
  Behind b p s = (p + 8 ≤ s.place.0) × (s.place.0 % 8 ≡ 0) × (s.place.0 ≤ 8 * length b)

  pub go-packet : (b : List ℕ) (k : ℕ) (i : Option ℕ) (s₀ : State) → s₀.place.0 < 8 * length b → s₀.place.0 % 8 ≡ 0
      → Goes (8 * length b) (Behind b s₀.place.0) s₀.place.0 (read_packet t b k i s₀)
  unfolding read_packet
  go-packet b k i s₀ l z =
      (go-due {A = Here} (λ s a. let q : s.place.0 ≡ s₀.place.0 = ap (λ y. y.0) a in omega arith) ⨾ᵍ marked ⨾ᵍ started
      ⨾ᵍ inside e (le_refl _) (rise-root e first_root t.header) (bound-root e first_root t.header w.header)
      ⨾ᵍ go_same near _ StreamClassChanged ⨾ᵍ go-due near
      ⨾ᵍ record { at = λ s a. look s a (t.stream s.said.stream) refl }).at s₀ refl
    where
      e : Env
      e = record { bytes = b; start = s₀.place; bound = bit_place (8 * length b); uuid = t.uuid }

      near : Not-behind (8 * length b) (Inside e)
      near s a = a.to

      Here : State → Type 0
      Here s = s.place ≡ s₀.place

      marked : Go (8 * length b) Here (mark 1 0 k) Here
      marked = go-mark 1 0 k (λ s a. a)

      started : Go (8 * length b) Here (change start_packet) (Inside e)
      started = unfold start_packet nothing_said in go-change _ (λ s. refl) (λ s a.
          let p : s.place.0 ≡ s₀.place.0 = ap (λ y. y.0) a in
          record { from = omega arith; to = omega arith; moved = inl (refl, refl) })

      second : (v : ℕ) → Go (8 * length b) (Inside e) (mark 2 0 v) (Inside e)
      second v = inside e (le_refl _) (rise-mark 2 0 v) (bound-mark e 2 0 v)

      rest : ℕ
      rest = 8 * length b - s₀.place.0

      total_of : State → ℕ
      total_of s = or_else s.said.total s.said.content rest

      content_of : State → ℕ
      content_of s = or_else s.said.content s.said.total rest

      takes : (s : State) → Inside e s → Lengths b s₀.place.0 (total_of s) (content_of s) s → 0 < total_of s
      takes s a n = by a.moved
        where
          by : Moved e s.place.0 s.said → 0 < total_of s
          by (inl x) =
              let q : total_of s ≡ rest =
              unfold or_else in ap (λ y. or_else y s.said.content rest) x.0 ∙ ap (λ y. or_else None y rest) x.1 in
              omega arith
          by (inr x) =
              let p : s.place.0 ≤ s₀.place.0 + content_of s = n.reach in
              let r : content_of s ≤ total_of s = n.order in
              omega arith

      behind : (s s' : State) → Inside e s
          → (s'.place ≡ further s₀.place (total_of s)) × Lengths b s₀.place.0 (total_of s) (content_of s) s
          → Behind b s₀.place.0 s'
      behind s s' a x =
          let p : 0 < total_of s = takes s a x.1 in
          let q : total_of s % 8 ≡ 0 = x.1.whole in
          let r : s₀.place.0 + total_of s ≤ 8 * length b = x.1.in_stream in
          let y : s'.place.0 ≡ s₀.place.0 + total_of s = ap (λ v. v.0) x.0 in
          omega arith

      -- what is read of the stream class that is found
      found : ℕ → StreamClass → Step
      found v c = mark 2 0 v ⨾ read_root e first_root c.context ⨾ λ s. read_content t c b s₀.place (total_of s) (content_of s) s

      look : (s : State) → Inside e s → (x : Option StreamClass) → t.stream s.said.stream ≡ x
          → Goes (8 * length b) (Behind b s₀.place.0) s.place.0 (with_stream s.said.stream x (found s.said.stream) s)
      look s a None p = unfold with_stream in (go-refuse {A = Inside e} near (StreamClassUnknown s.said.stream)).at s a
      look s a (Some c) p = unfold with_stream in
          (second s.said.stream ⨾ᵍ inside e (le_refl _) (rise-root e first_root c.context)
          (bound-root e first_root c.context (w.context _ c p))
          ⨾ᵍ record {
            at = λ s a.
                let g = go-content _ c p b s₀.place (total_of s) (content_of s) e refl refl s a in
                let o = read_content t c b s₀.place (total_of s) (content_of s) s in
                (g.0, onward-map _ (Behind b s₀.place.0) o (λ s' x. behind s s' a x) g.1, g.2);
          }).at s a

  -- The packet loop

  packets-agree : (B : State → Type 0) (o : Out) (n n' : Step) → Onward B o → ((s : State) → B s → n s ≡ n' s) → after o n ≡ after o n'
  unfolding after
  packets-agree B (stop es v) n n' h k = refl
  packets-agree B (go es s) n n' h k = ap (onto es) (k s h)

  packets-over : (b : List ℕ) (k : ℕ) (i : Option ℕ) (more : ℕ) (s : State) → 8 * length b ≤ s.place.0 → read_packets t b k i more s ≡ pass s
  unfolding read_packets
  packets-over b k i zero s h = refl
  packets-over b k i (suc more) s h = simp (le-ltb _ _ h, read_packets)

  -- as many rounds as there are bytes left are enough
  pub packet-rounds : (b : List ℕ) (k : ℕ) (i : Option ℕ) (left more : ℕ) (s : State) → s.place.0 % 8 ≡ 0
      → 8 * length b ≤ s.place.0 + 8 * left → read_packets t b k i (left + more) s ≡ read_packets t b k i left s
  unfolding read_packets ◌⨾◌
  packet-rounds b k i zero more s z h = packets-over b k i (zero + more) s (omega arith)
  packet-rounds b k i (suc left) more s z h =
      rw suc-add (if-agree (ltb s.place.0 (8 * length b)) _ _ (pass s)
      (λ q. packets-agree (Behind b s.place.0) (read_packet t b k i s) _ _ (go-packet b k i s (ltb-true _ _ q) z).1
      (λ s' x. let x0 = x.0 in packet-rounds b (k + 1) (Some s'.said.stream) left more s' x.1 (omega arith))))

  -- the place rises through all packets, a reading that goes through ends at the stream's end, and one that stops does so
  -- before it or there
  pub go-packets : (b : List ℕ) (k : ℕ) (i : Option ℕ) (left : ℕ) (s : State) → s.place.0 % 8 ≡ 0 → s.place.0 ≤ 8 * length b
      → 8 * length b ≤ s.place.0 + 8 * left
      → Goes (8 * length b) (λ s. s.place.0 ≡ 8 * length b) s.place.0 (read_packets t b k i left s)
  unfolding read_packets ◌⨾◌
  go-packets b k i zero s z u h = unfold pass in (le_refl s.place.0, omega arith, tt)
  go-packets b k i (suc left) s z u h = by (ltb s.place.0 (8 * length b)) refl
      (λ s' x. let x0 = x.0 in go-packets b (k + 1) (Some s'.said.stream) left s' x.1 x.2 (omega arith))
    where
      next : Step
      next s = read_packets t b (k + 1) (Some s.said.stream) left s

      AtEnd : State → Type 0
      AtEnd s = s.place.0 ≡ 8 * length b

      by : (c : Bool) → ltb s.place.0 (8 * length b) ≡ c
          → ((s' : State) → Behind b s.place.0 s' → Goes (8 * length b) AtEnd s'.place.0 (next s'))
          → Goes (8 * length b) AtEnd s.place.0 (elim c [ true ↦ after (read_packet t b k i s) next | false ↦ pass s ])
      by true q r =
          let g = go-packet b k i s (ltb-true _ _ q) z in
          goes_after (8 * length b) (Behind b s.place.0) AtEnd s.place.0 (read_packet t b k i s) next g r
      by false q r = unfold pass in let g : 8 * length b ≤ s.place.0 = ltb-false _ _ q in (le_refl s.place.0, omega arith, tt)
