-- The counts of a reading's list are its own: each entry 4 has its number in the packet, and each entry 7 the number of events; and no
-- entry has kind 0, so that a list of zeros shows each of them. A law of steps, from a count n. In order: entries; quiet steps; steps;
-- packets; readings.
use Rattle.std.specs.Prelude.{Option, None, Some}
use mathlib.Core.Path.{◌≡◌, refl, sym, ap, subst, ◌∙◌}
use mathlib.Core.Logic.{inl, inr}
use Prim.Native.Nat.{ℕ, zero, suc, ◌+◌, ◌-◌, ◌*◌, ◌≤◌}
use native.Mathlib.Omega.{arith}
use mathlib.Core.List.{List, [], ◌∷◌, ◌++◌}
use mathlib.Core.Bool.{Bool, true, false, ◌||◌}
use lib.ListN.{length, get_or}
use lib.Dec.{ltb, eqb}
use borrow.Author.Tests.{ne_eqb}
use Rattle.rules.specs.declared.BitPlace.{BitPlace}
use Rattle.rules.specs.declared.Entry.{Entry}
use Rattle.rules.specs.declared.Refusal.TheVariants.{StreamSize, StreamClassChanged, StreamClassUnknown}
use Rattle.rules.specs.declared.Refusal.TheVariants.{LengthsContradict, ClocksContradict, EventClassUnknown}
use Rattle.rules.specs.declared.Refusal.TheVariants.{EventTookNoBits, ClockWentBack}
use Rattle.rules.specs.declared.Verdict.TheVariants.{Refused}
use Rattle.rules.specs.Limits.{stream_limit}
use Rattle.rules.specs.Place.{bit_place, further}
use Rattle.rules.specs.Verdict.{stop_at}
use Rattle.rules.specs.Entry.{words, packet_starts, stream_class_found, lengths_settled, event_starts, event_class_found, packet_ends}
use Rattle.rules.specs.Step.{State, Out, stop, go, Step, onto, after, ◌⨾◌, listed}
use Rattle.rules.specs.Class.{Class}
use Rattle.rules.specs.Table.{StreamClass, EventClass, Table, Asked, asked}
use Rattle.rules.specs.Field.{Env}
use Rattle.rules.specs.Packet.{mark, read_root, with_event, read_event, end_packet, read_events}
use Rattle.rules.specs.Packet.{first_root, header_number, common_number, payload_number}
use Rattle.rules.specs.Packet.{read_content, with_stream, read_packet, read_packets}
use Rattle.rules.specs.Parse.{Parsed, bad, good, parse}
use Rattle.rules.specs.Read.{Reading, ended, begin, read_stream, read_parsed, read_all}
use Rattle.facts.proofs.Steps.{list_of, list-onto}
use Rattle.laws.specs.All.{All}
use Rattle.laws.proofs.All.{all_append}
use Rattle.promises.specs.Rejected.{before, shown, events_behind, Counting}
use Rattle.promises.proofs.Each.{Each, ◌⨾ᵉ◌, each-pass, each-refuse, each-check, each-due, each-change, each-listed}
use Rattle.promises.proofs.Each.{FieldEntry, fields-root}

-- Entries

-- not of kind 0
abbrev Named : Entry → Type 0
Named e = 1 ≤ e.kind

-- of no kind that the count goes by
record QuietKind (k : ℕ) : Type 0 where
  named : 1 ≤ k
  not-packet : k ≡ packet_starts → ⊥
  not-event : k ≡ event_starts → ⊥
  not_end : k ≡ packet_ends → ⊥

abbrev Quiet : Entry → Type 0
Quiet e = QuietKind e.kind

count_behind : ℕ → List Entry → ℕ
count_behind n [] = n
count_behind n (e ∷ es) = count_behind (events_behind n e) es

abbrev Fine : ℕ → List Entry → Type 0
Fine n es = Counting n es × All Named es

counting-append : (n : ℕ) (es fs : List Entry) → Counting n es → Counting (count_behind n es) fs → Counting n (es ++ fs)
unfolding count_behind
counting-append n [] fs h k = k
counting-append n (e ∷ es) fs h k = (h.0, h.1, counting-append (events_behind n e) es fs h.2 k)

fine-append : (n : ℕ) (es fs : List Entry) → Fine n es → Fine (count_behind n es) fs → Fine n (es ++ fs)
fine-append n es fs h k = (counting-append n es fs h.0 k.0, all_append Named es fs h.1 k.1)

behind-append : (n : ℕ) (es fs : List Entry) → count_behind n (es ++ fs) ≡ count_behind (count_behind n es) fs
unfolding count_behind
behind-append n [] fs = refl
behind-append n (e ∷ es) fs = behind-append (events_behind n e) es fs

quiet-behind : (n : ℕ) (e : Entry) → Quiet e → events_behind n e ≡ n
unfolding events_behind
quiet-behind n e h = simp (ne_eqb e.kind packet_starts h.not-packet, ne_eqb e.kind event_starts h.not-event, events_behind)

quiet-counting : (n : ℕ) (es : List Entry) → All Quiet es → Counting n es
quiet-counting n [] h = tt
quiet-counting n (e ∷ es) h = (
  (λ q. absurd (h.0.not-event q)),
  (λ q. absurd (h.0.not_end q)),
  subst (λ z. Counting z es) (sym (quiet-behind n e h.0)) (quiet-counting n es h.1),
)

quiet-count : (n : ℕ) (es : List Entry) → All Quiet es → count_behind n es ≡ n
unfolding count_behind
quiet-count n [] h = refl
quiet-count n (e ∷ es) h = ap (λ z. count_behind z es) (quiet-behind n e h.0) ∙ quiet-count n es h.1

all_of : {P Q : Entry → Type 0} → ((e : Entry) → P e → Q e) → (es : List Entry) → All P es → All Q es
all_of f [] h = tt
all_of f (e ∷ es) h = (f e h.0, all_of f es h.1)

quiet-fine : (n : ℕ) (es : List Entry) → All Quiet es → Fine n es
quiet-fine n es h = (quiet-counting n es h, all_of (λ e q. q.named) es h)

-- Quiet steps: they list such entries alone

quiet : (k : ℕ) → 1 ≤ k → (k ≡ packet_starts → ⊥) → (k ≡ event_starts → ⊥) → (k ≡ packet_ends → ⊥) → QuietKind k
quiet k h p v n = record { named = h; not-packet = p; not-event = v; not_end = n }

kind_2 : QuietKind stream_class_found
kind_2 = quiet 2 (omega arith) (λ q. omega arith) (λ q. omega arith) (λ q. omega arith)

kind_3 : QuietKind lengths_settled
kind_3 = quiet 3 (omega arith) (λ q. omega arith) (λ q. omega arith) (λ q. omega arith)

kind-5 : QuietKind event_class_found
kind-5 = quiet 5 (omega arith) (λ q. omega arith) (λ q. omega arith) (λ q. omega arith)

field-quiet : (e : Entry) → FieldEntry e → Quiet e
field-quiet e (inl p) = quiet e.kind (omega arith) (λ q. omega arith) (λ q. omega arith) (λ q. omega arith)
field-quiet e (inr p) = quiet e.kind (omega (arith, p)) (λ q. omega (arith, p)) (λ q. omega (arith, p)) (λ q. omega (arith, p))

quiet-root : (e : Env) (m : ℕ) (c : Option Class) → Each Quiet (read_root e m c)
quiet-root e m c = record { at = λ s. all_of field-quiet (list_of (read_root e m c s)) ((fields-root e m c).at s) }

quiet-mark : (k n v : ℕ) → QuietKind k → Each Quiet (mark k n v)
unfolding mark
quiet-mark k n v h = record { at = λ s. each-listed Quiet _ s.place s h }

quiet-found : (i j : ℕ) (x : Option EventClass) (f : EventClass → Step) → ((d : EventClass) → Each Quiet (f d))
    → Each Quiet (with_event i j x f)
unfolding with_event
quiet-found i j None f h = each-refuse Quiet (EventClassUnknown i j)
quiet-found i j (Some d) f h = h d

infixr 20 ◌⨾q◌
◌⨾q◌ : {m n : Step} → Each Quiet m → Each Quiet n → Each Quiet (m ⨾ n)
h ⨾q k = ◌⨾ᵉ◌ Quiet h k

-- Steps, from a count n in front

-- behind which the count is k
abbrev CountOut : ℕ → ℕ → Out → Type 0
CountOut n k (stop es v) = Fine n es
CountOut n k (go es s) = Fine n es × (count_behind n es ≡ k)

record Counts (n k : ℕ) (m : Step) : Type 0 where
  at : (s : State) → CountOut n k (m s)

-- behind which it is any
record Counted (n : ℕ) (m : Step) : Type 0 where
  at : (s : State) → Fine n (list_of (m s))

quiet-out : (n : ℕ) (o : Out) → All Quiet (list_of o) → CountOut n n o
unfolding list_of
quiet-out n (stop es v) h = quiet-fine n es h
quiet-out n (go es s) h = (quiet-fine n es h, quiet-count n es h)

counts-quiet : (n : ℕ) {m : Step} → Each Quiet m → Counts n n m
counts-quiet n {m} h = record { at = λ s. quiet-out n (m s) (h.at s) }

counted-quiet : (n : ℕ) {m : Step} → Each Quiet m → Counted n m
counted-quiet n {m} h = record { at = λ s. quiet-fine n (list_of (m s)) (h.at s) }

counts-onto : (n k j : ℕ) (es : List Entry) (o : Out) → Fine n es → count_behind n es ≡ k → CountOut k j o → CountOut n j (onto es o)
unfolding onto
counts-onto n k j es (stop fs v) h e g = fine-append n es fs h (subst (λ z. Fine z fs) (sym e) g)
counts-onto n k j es (go fs s) h e g = (
  fine-append n es fs h (subst (λ z. Fine z fs) (sym e) g.0),
  behind-append n es fs ∙ ap (λ z. count_behind z fs) e ∙ g.1,
)

counts-after : (n k j : ℕ) (o : Out) (m : Step) → CountOut n k o → Counts k j m → CountOut n j (after o m)
unfolding after
counts-after n k j (stop es v) m h g = h
counts-after n k j (go es s) m h g = counts-onto n k j es (m s) h.0 h.1 (g.at s)

infixr 20 ◌⨾ᶜ◌
◌⨾ᶜ◌ : {n k j : ℕ} {m m' : Step} → Counts n k m → Counts k j m' → Counts n j (m ⨾ m')
unfolding ◌⨾◌
◌⨾ᶜ◌ {n} {k} {j} {m} {m'} h g = record { at = λ s. counts-after n k j (m s) m' (h.at s) g }

counted-after : (n k : ℕ) (o : Out) (m : Step) → CountOut n k o → Counted k m → Fine n (list_of (after o m))
unfolding after list_of
counted-after n k (stop es v) m h g = h
counted-after n k (go es s) m h g =
    subst (Fine n) (sym (list-onto es (m s)))
    (fine-append n es (list_of (m s)) h.0 (subst (λ z. Fine z (list_of (m s))) (sym h.1) (g.at s)))

infixr 20 ◌⨾ⁿ◌
◌⨾ⁿ◌ : {n k : ℕ} {m m' : Step} → Counts n k m → Counted k m' → Counted n (m ⨾ m')
unfolding ◌⨾◌
◌⨾ⁿ◌ {n} {k} {m} {m'} h g = record { at = λ s. counted-after n k (m s) m' (h.at s) g }

any-after : (n : ℕ) (o : Out) (m : Step) → Fine n (list_of o) → ((k : ℕ) → Counted k m) → Fine n (list_of (after o m))
unfolding after list_of
any-after n (stop es v) m h g = h
any-after n (go es s) m h g = subst (Fine n) (sym (list-onto es (m s))) (fine-append n es (list_of (m s)) h ((g (count_behind n es)).at s))

-- Packets

mark-event : (n : ℕ) → Counts n (n + 1) (mark event_starts 0 n)
unfolding mark listed count_behind events_behind
mark-event n = record { at = λ s. ((((λ q. refl), (λ q. absurd (omega arith)), tt), (omega arith, tt)), refl) }

mark-packet : (n k : ℕ) → Counts n 0 (mark packet_starts 0 k)
unfolding mark listed count_behind events_behind
mark-packet n k = record { at = λ s. ((((λ q. absurd (omega arith)), (λ q. absurd (omega arith)), tt), (omega arith, tt)), refl) }

counted-end : (to : BitPlace) (n : ℕ) → Counted n (end_packet to n)
unfolding end_packet
counted-end to n =
    counts-quiet n (each-due Quiet)
    ⨾ⁿ record { at = λ s. unfold listed list_of in (((λ q. absurd (omega arith)), (λ q. refl), tt), (omega arith, tt)) }

module _ (t : Asked) where
  counts-event : (c : StreamClass) (e : Env) (n : ℕ) → Counts n (n + 1) (read_event t c e n)
  unfolding read_event
  counts-event c e n = record {
    at = λ s₀.
        (counts-quiet n (each-due Quiet) ⨾ᶜ mark-event n
        ⨾ᶜ counts-quiet (n + 1) (each-change Quiet _ ⨾q quiet-root e (header_number c) c.header ⨾q each-check Quiet _ ClockWentBack
        ⨾q each-change Quiet _ ⨾q each-due Quiet
        ⨾q record {
          at = λ s. (quiet-found c.id s.said.event (t.event c.id s.said.event) _
              (λ d. quiet-mark event_class_found 0 s.said.event kind-5
              ⨾q quiet-root e (common_number c) c.common ⨾q quiet-root e first_root d.specific
              ⨾q quiet-root e (payload_number d) d.payload)).at s;
        }
        ⨾q each-check Quiet (λ s. eqb s.place.0 s₀.place.0) EventTookNoBits)).at s₀;
  }

  counted_if : (n : ℕ) (b : Bool) (o o' : Out) → Fine n (list_of o) → Fine n (list_of o') → Fine n (list_of (elim b [ true ↦ o | false ↦ o' ]))
  counted_if n true o o' h k = h
  counted_if n false o o' h k = k

  counted-events : (c : StreamClass) (e : Env) (to : BitPlace) (n left : ℕ) → Counted n (read_events t c e to n left)
  unfolding read_events
  counted-events c e to n zero = counted-end to n
  counted-events c e to n (suc left) = record {
    at = λ s. counted_if n (ltb s.place.0 e.bound.0) _ _
        ((counts-event c e n ⨾ⁿ counted-events c e to (n + 1) left).at s) ((counted-end to n).at s);
  }

  counted-content : (c : StreamClass) (b : List ℕ) (p : BitPlace) (total content : ℕ) → Counted 0 (read_content t c b p total content)
  unfolding read_content
  counted-content c b p total content =
      counts-quiet 0 (each-due Quiet)
      ⨾ⁿ counts-quiet 0 (each-check Quiet _ LengthsContradict) ⨾ⁿ counts-quiet 0 (each-check Quiet _ ClocksContradict)
      ⨾ⁿ counts-quiet 0 (quiet-mark lengths_settled total content kind_3)
      ⨾ⁿ record { at = λ s. (counted-events c _ (further p total) 0 (p.0 + content - s.place.0)).at s }

  counted-stream : (i : ℕ) (x : Option StreamClass) (f : StreamClass → Step) → ((c : StreamClass) → Counted 0 (f c))
      → Counted 0 (with_stream i x f)
  unfolding with_stream
  counted-stream i None f h = counted-quiet 0 (each-refuse Quiet (StreamClassUnknown i))
  counted-stream i (Some c) f h = h c

  counted-packet : (n : ℕ) (b : List ℕ) (k : ℕ) (i : Option ℕ) → Counted n (read_packet t b k i)
  unfolding read_packet
  counted-packet n b k i = record {
    at = λ s₀.
        (counts-quiet n (each-due Quiet) ⨾ⁿ mark-packet n k ⨾ⁿ counts-quiet 0 (each-change Quiet _)
        ⨾ⁿ counts-quiet 0 (quiet-root _ first_root t.header) ⨾ⁿ counts-quiet 0 (each-check Quiet _ StreamClassChanged)
        ⨾ⁿ counts-quiet 0 (each-due Quiet)
        ⨾ⁿ record {
          at = λ s. (counted-stream s.said.stream (t.stream s.said.stream) _
              (λ c. counts-quiet 0 (quiet-mark stream_class_found 0 s.said.stream kind_2)
              ⨾ⁿ counts-quiet 0 (quiet-root _ first_root c.context)
              ⨾ⁿ record { at = λ s. (counted-content c b s₀.place _ _).at s })).at s;
        }).at s₀;
  }

  counted-packets : (n : ℕ) (b : List ℕ) (k : ℕ) (i : Option ℕ) (left : ℕ) → Counted n (read_packets t b k i left)
  unfolding read_packets ◌⨾◌
  counted-packets n b k i zero = counted-quiet n (each-pass Quiet)
  counted-packets n b k i (suc left) = record {
    at = λ s. counted_if n (ltb s.place.0 (8 * length b)) _ _
        (any-after n (read_packet t b k i s) (λ s. read_packets t b (k + 1) (Some s.said.stream) left s) ((counted-packet n b k i).at s)
        (λ j. record { at = λ s. (counted-packets j b (k + 1) (Some s.said.stream) left).at s }))
        ((counted-quiet n (each-pass Quiet)).at s);
  }

-- Readings

ended-list : (o : Out) → (ended o).entries ≡ list_of o
unfolding ended list_of
ended-list (stop es v) = refl
ended-list (go es s) = refl

stream-fine : (t : Asked) (b : List ℕ) (room : ℕ) → Fine 0 (read_stream t b room).entries
unfolding read_stream
stream-fine t b room = by (eqb (length b) 0 || ltb stream_limit (length b))
  where
    packets : Out
    packets = read_packets t b 0 None (length b) (begin room)

    by : (x : Bool) → Fine 0 (elim x as (λ z. Reading) [
      | true ↦ record { entries = []; verdict = Refused (stop_at StreamSize (bit_place 0)) }
      | false ↦ ended packets
    ]).entries
    by true = (tt, tt)
    by false = subst (Fine 0) (sym (ended-list packets)) ((counted-packets t 0 b 0 None (length b)).at (begin room))

reading-fine : (x b : List ℕ) (room : ℕ) → Fine 0 (read_all x b room).entries
unfolding read_all
reading-fine x b room = by (parse x)
  where
    by : (p : Parsed Table) → Fine 0 (read_parsed x p b room).entries
    by (bad n y) = unfold read_parsed in (tt, tt)
    by (good t y) = unfold read_parsed in stream-fine (asked t) b room

pub reading-counts : (x b : List ℕ) (room : ℕ) → Counting 0 (read_all x b room).entries
reading-counts x b room = (reading-fine x b room).0

-- what is shown: the entries, where a 0 stands behind them

shown-none : (ws : List ℕ) → get_or ws 0 0 ≡ 0 → shown ws ≡ 0
unfolding shown before
shown-none [] h = refl
shown-none (k ∷ []) h = refl
shown-none (k ∷ p ∷ []) h = refl
shown-none (k ∷ p ∷ n ∷ []) h = refl
shown-none (k ∷ p ∷ n ∷ v ∷ []) h = refl
shown-none (k ∷ p ∷ n ∷ v ∷ m ∷ ws) h = rw (h, shown)

shown-entry : (k p n v m : ℕ) (ws : List ℕ) → 1 ≤ k → shown (k ∷ p ∷ n ∷ v ∷ m ∷ ws) ≡ suc (shown ws)
unfolding shown before
shown-entry zero p n v m ws h = absurd (omega arith)
shown-entry (suc k) p n v m ws h = omega arith

shown-words : (es : List Entry) (ws : List ℕ) → All Named es → get_or ws 0 0 ≡ 0 → shown (words es ++ ws) ≡ length es
unfolding words
shown-words [] ws h z = shown-none ws z
shown-words (e ∷ es) ws h z = shown-entry e.kind _ _ _ _ (words es ++ ws) h.0 ∙ ap suc (shown-words es ws h.1 z)

pub reading-shown : (x b : List ℕ) (room : ℕ) (ws : List ℕ) → get_or ws 0 0 ≡ 0
    → shown (words (read_all x b room).entries ++ ws) ≡ length (read_all x b room).entries
reading-shown x b room ws z = shown-words (read_all x b room).entries ws (reading-fine x b room).1 z
