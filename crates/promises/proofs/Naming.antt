-- Each entry of a reading names a record of its kind, in the fragment that it was read by: a law of steps, from an owner. In order:
-- owners; entries; steps; packets; readings.
use Rattle.std.specs.Prelude.{Option, None, Some}
use mathlib.Core.Path.{◌≡◌, refl, sym, ap, subst, ◌∙◌}
use mathlib.Core.Logic.{inl, inr}
use Prim.Native.Nat.{ℕ, zero, suc, ◌+◌, ◌-◌, ◌*◌, ◌≤◌, ◌<◌}
use native.Mathlib.Omega.{arith}
use mathlib.Core.List.{List, [], ◌∷◌, ◌++◌}
use mathlib.Core.Bool.{Bool, true, false, ◌||◌}
use lib.ListN.{length}
use lib.Dec.{ltb, eqb}
use borrow.Author.Tests.{ne_eqb}
use Rattle.rules.specs.declared.BitPlace.{BitPlace}
use Rattle.rules.specs.declared.Entry.{Entry}
use Rattle.rules.specs.declared.Refusal.TheVariants.{StreamSize, StreamClassChanged, StreamClassUnknown}
use Rattle.rules.specs.declared.Refusal.TheVariants.{LengthsContradict, ClocksContradict, EventClassUnknown}
use Rattle.rules.specs.declared.Refusal.TheVariants.{EventTookNoBits, ClockWentBack}
use Rattle.rules.specs.declared.Verdict.TheVariants.{Refused}
use Rattle.rules.specs.Limits.{stream_limit}
use Rattle.rules.specs.Place.{bit_place, further}
use Rattle.rules.specs.Verdict.{stop_at}
use Rattle.rules.specs.Entry.{entry, packet_starts, stream_class_found, lengths_settled, event_starts, event_class_found, clock_advanced}
use Rattle.rules.specs.Entry.{packet_ends}
use Rattle.rules.specs.Step.{State, Out, stop, go, Step, onto, after, ◌⨾◌, listed}
use Rattle.rules.specs.Class.{Class}
use Rattle.rules.specs.Table.{StreamClass, EventClass, Table, Asked, asked}
use Rattle.rules.specs.Field.{Env}
use Rattle.rules.specs.Packet.{mark, read_root, with_event, read_event, end_packet, read_events}
use Rattle.rules.specs.Packet.{first_root, header_number, common_number, payload_number}
use Rattle.rules.specs.Packet.{read_content, with_stream, read_packet, read_packets}
use Rattle.rules.specs.Parse.{good, parse}
use Rattle.rules.specs.Read.{Reading, ended, begin, read_stream, read_parsed, read_all}
use Rattle.facts.proofs.Steps.{list_of}
use Rattle.laws.specs.All.{All}
use Rattle.laws.specs.Owner.{Owner, nobody, of_trace, of_stream, of_event}
use Rattle.laws.proofs.Law.{FieldKind, NumberedRoot}
use Rattle.laws.proofs.Numbering.{Numbering}
use Rattle.promises.specs.Records.{Named, NamedBy, Names, stream_of, event_of, owner_behind}
use Rattle.promises.proofs.Each.{Each, ◌⨾ᵉ◌, each-pass, each-refuse, each-check, each-due, each-change, each-listed, each-root}
use Rattle.promises.proofs.Exact.{found-id}
use Rattle.promises.proofs.NamedRecords.{accepted-named}

-- Owners

owners_behind : Owner → List Entry → Owner
owners_behind o [] = o
owners_behind o (e ∷ es) = owners_behind (owner_behind o e) es

behind-append : (o : Owner) (es fs : List Entry) → owners_behind o (es ++ fs) ≡ owners_behind (owners_behind o es) fs
unfolding owners_behind
behind-append o [] fs = refl
behind-append o (e ∷ es) fs = behind-append (owner_behind o e) es fs

-- an entry of no kind that tells one
abbrev Plain : ℕ → Type 0
Plain k = (k ≡ packet_starts → ⊥) × (k ≡ stream_class_found → ⊥) × (k ≡ event_starts → ⊥) × (k ≡ event_class_found → ⊥)

plain-behind : (o : Owner) (e : Entry) → Plain e.kind → owner_behind o e ≡ o
unfolding owner_behind
plain-behind o e h = simp (
  ne_eqb e.kind packet_starts h.0,
  ne_eqb e.kind stream_class_found h.1,
  ne_eqb e.kind event_starts h.2,
  ne_eqb e.kind event_class_found h.3,
  owner_behind,
)

abbrev Is : Owner → Owner → Type 0
Is o z = z ≡ o

abbrev Anyone : Owner → Type 0
Anyone o = Unit {0}

-- a stream class, or an event class of it
abbrev Under : ℕ → Owner → Type 0
Under i o = stream_of o ≡ of_stream i

stream-under : (i : ℕ) (o : Owner) → Is (of_stream i) o → Under i o
unfolding stream_of
stream-under i o q = ap stream_of q

event-under : (i j : ℕ) (o : Owner) → Is (of_event i j) o → Under i o
unfolding stream_of
event-under i j o q = ap stream_of q

module _ (x : List ℕ) where
  -- Entries

  names-append : (o : Owner) (es fs : List Entry) → Names x o es → Names x (owners_behind o es) fs → Names x o (es ++ fs)
  unfolding owners_behind
  names-append o [] fs h k = k
  names-append o (e ∷ es) fs h k = (h.0, h.1, names-append (owner_behind o e) es fs h.2 k)

  -- an entry that is right under an owner, and leaves it
  record Steady (o : Owner) (e : Entry) : Type 0 where
    field : 16 ≤ e.kind → NamedBy x o e.number e.kind
    other : e.kind < 16 → e.number ≡ 0
    leaves : owner_behind o e ≡ o

  steady-names : (o : Owner) (es : List Entry) → All (Steady o) es → Names x o es
  steady-names o [] h = tt
  steady-names o (e ∷ es) h =
      (h.0.field, h.0.other, subst (λ z. Names x z es) (sym h.0.leaves) (steady-names o es h.1))

  steady-behind : (o : Owner) (es : List Entry) → All (Steady o) es → owners_behind o es ≡ o
  unfolding owners_behind
  steady-behind o [] h = refl
  steady-behind o (e ∷ es) h = ap (λ z. owners_behind z es) h.0.leaves ∙ steady-behind o es h.1

  -- of no field, with the number 0
  steady-plain : (o : Owner) (k n v : ℕ) (p : BitPlace) → k < 16 → Plain k → Steady o (entry k p n v 0)
  steady-plain o k n v p l h = record { field = λ q. absurd (omega arith); other = λ q. refl; leaves = plain-behind o (entry k p n v 0) h }

  plain-6 : Plain clock_advanced
  plain-6 = ((λ q. omega arith), (λ q. omega arith), (λ q. omega arith), (λ q. omega arith))

  -- of a field
  steady-field : (o : Owner) (m k n v : ℕ) (p : BitPlace) → FieldKind k → NamedBy x o m k → Steady o (entry k p n v m)
  steady-field o m k n v p h z = record {
    field = λ q. z;
    other = λ q. absurd (omega (arith, h.0));
    leaves = plain-behind o (entry k p n v m)
        ((λ q. omega (arith, h.0)), (λ q. omega (arith, h.0)), (λ q. omega (arith, h.0)), (λ q. omega (arith, h.0)));
  }

  steady-root : (o : Owner) (M : ℕ → ℕ → Type 0) → ((n k : ℕ) → M n k → NamedBy x o n k) → (e : Env) (m : ℕ) (c : Option Class)
      → NumberedRoot M m c → Each (Steady o) (read_root e m c)
  steady-root o M into e m c z = each-root (Steady o) M e
      (λ p m k n v h y. steady-field o m k n v p h (into m k y))
      (λ p l c. steady-plain o clock_advanced l c p (omega arith) plain-6) m c z

  -- Steps

  abbrev NamesOut : Owner → (Owner → Type 0) → Out → Type 0
  NamesOut o B (stop es v) = Names x o es
  NamesOut o B (go es s) = Names x o es × B (owners_behind o es)

  record Naming (A : Owner → Type 0) (m : Step) (B : Owner → Type 0) : Type 0 where
    at : (o : Owner) → A o → (s : State) → NamesOut o B (m s)

  names-onto : (o : Owner) (B : Owner → Type 0) (es : List Entry) (u : Out) → Names x o es → NamesOut (owners_behind o es) B u
      → NamesOut o B (onto es u)
  unfolding onto
  names-onto o B es (stop fs v) h k = names-append o es fs h k
  names-onto o B es (go fs s) h k = (names-append o es fs h k.0, subst B (sym (behind-append o es fs)) k.1)

  names-after : {A B : Owner → Type 0} (o : Owner) (u : Out) (n : Step) → NamesOut o A u → Naming A n B → NamesOut o B (after u n)
  unfolding after
  names-after {A} {B} o (stop es v) n h k = h
  names-after {A} {B} o (go es s) n h k = names-onto o B es (n s) h.0 (k.at (owners_behind o es) h.1 s)

  infixr 20 ◌⨾ᵒ◌
  ◌⨾ᵒ◌ : {A B C : Owner → Type 0} {m n : Step} → Naming A m B → Naming B n C → Naming A (m ⨾ n) C
  unfolding ◌⨾◌
  ◌⨾ᵒ◌ {A} {B} {C} {m} {n} h k = record { at = λ o a s. names-after o (m s) n (h.at o a s) k }

  looser-out : {A B : Owner → Type 0} (o : Owner) (u : Out) → ((z : Owner) → A z → B z) → NamesOut o A u → NamesOut o B u
  looser-out o (stop es v) f h = h
  looser-out o (go es s) f h = (h.0, f (owners_behind o es) h.1)

  looser : {A B C : Owner → Type 0} {m : Step} → ((z : Owner) → B z → C z) → Naming A m B → Naming A m C
  looser {A} {B} {C} {m} f h = record { at = λ o a s. looser-out o (m s) f (h.at o a s) }

  stricter : {A B C : Owner → Type 0} {m : Step} → ((z : Owner) → A z → B z) → Naming B m C → Naming A m C
  stricter {A} {B} {C} {m} f h = record { at = λ o a s. h.at o (f o a) s }

  steady-out : (o : Owner) (A : Owner → Type 0) (u : Out) → A o → All (Steady o) (list_of u) → NamesOut o A u
  unfolding list_of
  steady-out o A (stop es v) a h = steady-names o es h
  steady-out o A (go es s) a h = (steady-names o es h, subst A (sym (steady-behind o es h)) a)

  -- steps that leave the owner
  steady : (A : Owner → Type 0) {m : Step} → ((o : Owner) → A o → Each (Steady o) m) → Naming A m A
  steady A {m} h = record { at = λ o a s. steady-out o A (m s) a ((h o a).at s) }

  steady-is : (o : Owner) {m : Step} → Each (Steady o) m → Naming (Is o) m (Is o)
  steady-is o {m} h = steady (Is o) (λ z q. subst (λ y. Each (Steady y) m) (sym q) h)

  -- an entry that tells one
  tells : {A B : Owner → Type 0} (k n v : ℕ) → k < 16 → ((o : Owner) (p : BitPlace) → A o → B (owner_behind o (entry k p n v 0)))
      → Naming A (mark k n v) B
  unfolding mark listed owners_behind
  tells {A} {B} k n v l h = record { at = λ o a s. (((λ q. absurd (omega arith)), (λ q. refl), tt), h o s.place a) }

  mark-1 : (k : ℕ) → Naming Anyone (mark packet_starts 0 k) (Is of_trace)
  unfolding owner_behind
  mark-1 k = tells packet_starts 0 k (omega arith) (λ o p a. refl)

  mark-2 : (v : ℕ) → Naming (Is of_trace) (mark stream_class_found 0 v) (Is (of_stream v))
  unfolding owner_behind
  mark-2 v = tells stream_class_found 0 v (omega arith) (λ o p a. refl)

  mark-4 : (i n : ℕ) → Naming (Under i) (mark event_starts 0 n) (Is (of_stream i))
  unfolding owner_behind
  mark-4 i n = tells event_starts 0 n (omega arith) (λ o p a. a)

  mark-5 : (i j : ℕ) → Naming (Is (of_stream i)) (mark event_class_found 0 j) (Is (of_event i j))
  unfolding owner_behind event_of
  mark-5 i j = tells event_class_found 0 j (omega arith) (λ o p q. ap (λ y. event_of y j) q)

  plain-mark : (o : Owner) (k n v : ℕ) → k < 16 → Plain k → Each (Steady o) (mark k n v)
  unfolding mark
  plain-mark o k n v l h = record { at = λ s. each-listed (Steady o) _ s.place s (steady-plain o k n v s.place l h) }

  by-test : (o : Owner) (B : Owner → Type 0) (b : Bool) (u v : Out) → NamesOut o B u → NamesOut o B v
      → NamesOut o B (elim b [ true ↦ u | false ↦ v ])
  by-test o B true u v h k = h
  by-test o B false u v h k = k

  -- Packets

  end-names : (A : Owner → Type 0) (to : BitPlace) (n : ℕ) → Naming A (end_packet to n) A
  unfolding end_packet
  end-names A to n = steady A (λ o a. ◌⨾ᵉ◌ (Steady o) (each-due (Steady o)) (record {
    at = λ s. each-listed (Steady o) (entry packet_ends to (to.0 - s.place.0) n 0) to s
        (steady-plain o packet_ends _ n to (omega arith) ((λ q. omega arith), (λ q. omega arith), (λ q. omega arith), (λ q. omega arith)));
  }))

  module _ (t : Asked) (numbers : Numbering (Named x) t) (ids : (i : ℕ) (c : StreamClass) → t.stream i ≡ Some c → c.id ≡ i) where
    module _ (c : StreamClass) (own : t.stream c.id ≡ Some c) (e : Env) where
      -- the roots of an event behind its entry 5
      of-class : (j : ℕ) (d : EventClass) → t.event c.id j ≡ Some d
          → Naming (Is (of_stream c.id))
          (mark event_class_found 0 j ⨾ read_root e (common_number c) c.common ⨾ read_root e first_root d.specific
          ⨾ read_root e (payload_number d) d.payload) (Is (of_event c.id j))
      of-class j d p =
          let o : Owner = of_event c.id j in
          mark-5 c.id j
          ⨾ᵒ steady-is o
          (steady-root o (Named x (of_stream c.id)) (λ n k z. inl z) e (common_number c) c.common (numbers.common _ c own))
          ⨾ᵒ steady-is o (steady-root o (Named x o) (λ n k z. inr z) e first_root d.specific (numbers.specific _ _ d p))
          ⨾ᵒ steady-is o (steady-root o (Named x o) (λ n k z. inr z) e (payload_number d) d.payload (numbers.payload _ _ d p))

      found-names : (j : ℕ) (y : Option EventClass) → t.event c.id j ≡ y
          → Naming (Is (of_stream c.id))
          (with_event c.id j y (λ d. mark event_class_found 0 j ⨾ read_root e (common_number c) c.common
          ⨾ read_root e first_root d.specific ⨾ read_root e (payload_number d) d.payload)) (Under c.id)
      unfolding with_event
      found-names j None p = looser (stream-under c.id)
          (steady-is (of_stream c.id) (each-refuse (Steady (of_stream c.id)) (EventClassUnknown c.id j)))
      found-names j (Some d) p = looser (event-under c.id j) (of-class j d p)

      event-names : (n : ℕ) → Naming (Under c.id) (read_event t c e n) (Under c.id)
      unfolding read_event
      event-names n = record {
        at = λ o a s₀.
            let i : Owner = of_stream c.id in
            (steady (Under c.id) (λ o a. each-due (Steady o))
            ⨾ᵒ mark-4 c.id n
            ⨾ᵒ steady-is i (each-change (Steady i) _)
            ⨾ᵒ steady-is i (steady-root i (Named x i) (λ n k z. z) e (header_number c) c.header (numbers.header _ c own))
            ⨾ᵒ steady-is i (each-check (Steady i) _ ClockWentBack) ⨾ᵒ steady-is i (each-change (Steady i) _)
            ⨾ᵒ steady-is i (each-due (Steady i))
            ⨾ᵒ record { at = λ o q s. (found-names s.said.event (t.event c.id s.said.event) refl).at o q s }
            ⨾ᵒ steady (Under c.id) (λ o a. each-check (Steady o) (λ s. eqb s.place.0 s₀.place.0) EventTookNoBits)).at o a s₀;
      }

      events-names : (to : BitPlace) (n left : ℕ) → Naming (Under c.id) (read_events t c e to n left) (Under c.id)
      unfolding read_events
      events-names to n zero = end-names (Under c.id) to n
      events-names to n (suc left) = record {
        at = λ o a s. by-test o (Under c.id) (ltb s.place.0 e.bound.0) _ _
            ((event-names n ⨾ᵒ events-names to (n + 1) left).at o a s) ((end-names (Under c.id) to n).at o a s);
      }

    content-names : (c : StreamClass) → t.stream c.id ≡ Some c → (b : List ℕ) (p : BitPlace) (total content : ℕ)
        → Naming (Is (of_stream c.id)) (read_content t c b p total content) Anyone
    unfolding read_content
    content-names c own b p total content =
        let i : Owner = of_stream c.id in
        steady-is i (each-due (Steady i)) ⨾ᵒ steady-is i (each-check (Steady i) _ LengthsContradict)
        ⨾ᵒ steady-is i (each-check (Steady i) _ ClocksContradict)
        ⨾ᵒ steady-is i (plain-mark i lengths_settled total content (omega arith)
        ((λ q. omega arith), (λ q. omega arith), (λ q. omega arith), (λ q. omega arith)))
        ⨾ᵒ record {
          at = λ o q s. (looser (λ z u. tt) (events-names c own _ (further p total) 0 (p.0 + content - s.place.0))).at o
              (stream-under c.id o q) s;
        }

    stream-names : (b : List ℕ) (p : BitPlace) (total content : StreamClass → State → ℕ) (e : Env) (v : ℕ) (y : Option StreamClass)
        → t.stream v ≡ y
        → Naming (Is of_trace) (with_stream v y (λ c. mark stream_class_found 0 v ⨾ read_root e first_root c.context
        ⨾ λ s. read_content t c b p (total c s) (content c s) s)) Anyone
    unfolding with_stream
    stream-names b p total content e v None h =
        looser (λ z u. tt) (steady-is of_trace (each-refuse (Steady of_trace) (StreamClassUnknown v)))
    stream-names b p total content e v (Some c) h =
        let i : Owner = of_stream v in
        let own : t.stream c.id ≡ Some c = subst (λ z. t.stream z ≡ Some c) (sym (ids v c h)) h in
        mark-2 v
        ⨾ᵒ steady-is i (steady-root i (Named x i) (λ n k z. z) e first_root c.context (numbers.context v c h))
        ⨾ᵒ record {
          at = λ o q s. (content-names c own b p (total c s) (content c s)).at o (q ∙ ap of_stream (sym (ids v c h))) s;
        }

    packet-names : (b : List ℕ) (k : ℕ) (i : Option ℕ) → Naming Anyone (read_packet t b k i) Anyone
    unfolding read_packet
    packet-names b k i = record {
      at = λ o a s₀.
          (◌⨾ᵒ◌ {C = Anyone} (steady Anyone (λ o a. each-due (Steady o))) (
          mark-1 k
          ⨾ᵒ steady-is of_trace (each-change (Steady of_trace) _)
          ⨾ᵒ steady-is of_trace (steady-root of_trace (Named x of_trace) (λ n k z. z) _ first_root t.header numbers.packet)
          ⨾ᵒ steady-is of_trace (each-check (Steady of_trace) _ StreamClassChanged)
          ⨾ᵒ steady-is of_trace (each-due (Steady of_trace))
          ⨾ᵒ record {
            at = λ o q s. (stream-names b s₀.place _ _ _ s.said.stream (t.stream s.said.stream) refl).at o q s;
          }
          )).at o a s₀;
    }

    packets-names : (b : List ℕ) (k : ℕ) (i : Option ℕ) (left : ℕ) → Naming Anyone (read_packets t b k i left) Anyone
    unfolding read_packets
    packets-names b k i zero = steady Anyone (λ o a. each-pass (Steady o))
    packets-names b k i (suc left) = record {
      at = λ o a s. by-test o Anyone (ltb s.place.0 (8 * length b)) _ _
          ((◌⨾ᵒ◌ {C = Anyone} (packet-names b k i) (record { at = λ o a s. (packets-names b (k + 1) (Some s.said.stream) left).at o a s })).at o a s)
          ((steady Anyone (λ o a. each-pass (Steady o))).at o a s);
    }

    -- Readings

    ended-names : (o : Owner) (u : Out) → NamesOut o Anyone u → Names x o (ended u).entries
    unfolding ended
    ended-names o (stop es v) h = h
    ended-names o (go es s) h = h.0

    read_names : (b : List ℕ) (room : ℕ) → Names x nobody (read_stream t b room).entries
    unfolding read_stream
    read_names b room = by (eqb (length b) 0 || ltb stream_limit (length b))
      where
        packets : Out
        packets = read_packets t b 0 None (length b) (begin room)

        by : (z : Bool) → Names x nobody (elim z as (λ y. Reading) [
          | true ↦ record { entries = []; verdict = Refused (stop_at StreamSize (bit_place 0)) }
          | false ↦ ended packets
        ]).entries
        by true = tt
        by false = ended-names nobody packets ((packets-names b 0 None (length b)).at nobody tt (begin room))

  pub reading-names : (t : Table) (y : List ℕ) → parse x ≡ good t y → (b : List ℕ) (room : ℕ) → Names x nobody (read_all x b room).entries
  unfolding read_all read_parsed
  reading-names t y p b room =
      rw (p, read_all) (read_names (asked t) (accepted-named x t y p) (λ i c q. unfold asked in found-id t.streams i c q) b room)
