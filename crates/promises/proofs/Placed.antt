-- The place of 22 is the bound in force, and that of 24 the tenth byte of a number that does not fit, as the list tells the bound: the
-- environment's bound is the one that the list tells. In order: bounds; packets; readings.
use Rattle.std.specs.Prelude.{Option, None, Some}
use mathlib.Core.Path.{◌≡◌, refl, sym, ap, subst, ◌∙◌}
use Prim.Native.Nat.{ℕ, zero, suc, ◌+◌, ◌-◌, ◌*◌, ◌%◌}
use native.Mathlib.Omega.{arith}
use mathlib.Core.List.{List, [], ◌∷◌, ◌++◌}
use mathlib.Core.Bool.{Bool, true, false, not, ◌||◌}
use lib.ListN.{length}
use lib.Dec.{ltb, eqb}
use borrow.Author.Tests.{eqb-true, not-false}
use Rattle.rules.specs.declared.BitPlace.{BitPlace}
use Rattle.rules.specs.declared.Entry.{Entry}
use Rattle.rules.specs.declared.Refusal.TheVariants.{StreamSize, StreamClassChanged, StreamClassUnknown, LengthsContradict}
use Rattle.rules.specs.declared.Refusal.TheVariants.{ClocksContradict}
use Rattle.rules.specs.declared.Verdict.TheVariants.{Accepted, TableRefused, Refused}
use Rattle.rules.specs.Limits.{stream_limit}
use Rattle.rules.specs.Place.{bit_place, further}
use Rattle.rules.specs.Verdict.{stop_at, refusal_number, number_of}
use Rattle.rules.specs.Entry.{entry, packet_starts, stream_class_found, lengths_settled}
use Rattle.rules.specs.Step.{State, Out, stop, go, Step, onto, after, ◌⨾◌, check, due, listed, pass}
use Rattle.rules.specs.Table.{StreamClass, Table, Asked, asked}
use Rattle.rules.specs.Field.{Env}
use Rattle.rules.specs.Packet.{mark, read_content, with_stream, read_packet, read_packets, first_root}
use Rattle.rules.specs.Parse.{Parsed, bad, good, parse}
use Rattle.rules.specs.Read.{Reading, ended, begin, read_stream, read_parsed, read_all}
use Rattle.facts.proofs.Truth.{or-false}
use Rattle.laws.specs.All.{All}
use Rattle.laws.proofs.Triple.{Ok, Triple, looser, checking}
use Rattle.packet_alone.specs.Behind.{up_to, to_end, contradict, events_of, packet}
use Rattle.promises.specs.Places.{Bounds, behind_entry, behind_entries, in_force, Places}
use Rattle.promises.proofs.PlacedFields.{Right, Other, other-right, Stands, Quiet, AnyState, AtPlace, by-test, At, Fine, others}
use Rattle.promises.proofs.PlacedFields.{lands-change, lands-refuse, lands-check, lands-due, lands-mark, lands-root, lands-events}

-- Bounds

module _ (b : List ℕ) where
  abbrev behind : Bounds → List Entry → Bounds
  behind z es = behind_entries (8 * length b) z es

  behind-append : (z : Bounds) (es fs : List Entry) → behind z (es ++ fs) ≡ behind (behind z es) fs
  unfolding behind_entries
  behind-append z [] fs = refl
  behind-append z (x ∷ es) fs = behind-append (behind_entry (8 * length b) z x) es fs

  quiet-entry : (z : Bounds) (x : Entry) → Quiet x → behind_entry (8 * length b) z x ≡ z
  unfolding behind_entry
  quiet-entry z x h = simp (h.0, h.1, behind_entry)

  quiet-behind : (z : Bounds) (es : List Entry) → All Quiet es → behind z es ≡ z
  unfolding behind_entries
  quiet-behind z [] h = refl
  quiet-behind z (x ∷ es) h = ap (λ y. behind y es) (quiet-entry z x h.0) ∙ quiet-behind z es h.1

  -- from bounds z on: where it stops, the place is right by the bound that the entries tell
  abbrev Told : Bounds → (State → Type 0) → Out → Type 0
  Told z B (stop es v) = Stands b (behind z es).bound v
  Told z B (go es s) = B s

  record Tells (z : Bounds) (A : State → Type 0) (m : Step) (B : State → Type 0) : Type 0 where
    at : (s : State) → A s → Told z B (m s)

  told-onto : (z : Bounds) (B : State → Type 0) (es : List Entry) (o : Out) → Told (behind z es) B o → Told z B (onto es o)
  unfolding onto
  told-onto z B es (stop fs v) h = subst (λ y. Stands b y.bound v) (sym (behind-append z es fs)) h
  told-onto z B es (go fs s) h = h

  told-after : (z : Bounds) (A B : State → Type 0) (o : Out) (m : Step) → Told z A o → ((y : Bounds) → Tells y A m B)
      → Told z B (after o m)
  unfolding after
  told-after z A B (stop es v) m h k = h
  told-after z A B (go es s) m h k = told-onto z B es (m s) ((k (behind z es)).at s h)

  -- a step that tells no bound, where that of z is in force
  abbrev Keeps : Bounds → (State → Type 0) → Step → (State → Type 0) → Type 0
  Keeps z A m B = Triple Quiet (Stands b z.bound) Other A m B

  told-quiet : (z : Bounds) (A : State → Type 0) (o : Out) → Ok Quiet (Stands b z.bound) Other A o → Told z A o
  told-quiet z A (stop es v) h = subst (λ y. Stands b y.bound v) (sym (quiet-behind z es h.0)) h.1
  told-quiet z A (go es s) h = h.1

  told-behind : (z : Bounds) (A B : State → Type 0) (o : Out) (m : Step) → Ok Quiet (Stands b z.bound) Other A o
      → Tells z A m B → Told z B (after o m)
  unfolding after
  told-behind z A B (stop es v) m h k = told-quiet z B (stop es v) h
  told-behind z A B (go es s) m h k =
      told-onto z B es (m s) (subst (λ y. Told y B (m s)) (sym (quiet-behind z es h.0)) (k.at s h.1))

  tells-quiet : {z : Bounds} {A B : State → Type 0} {m : Step} → Keeps z A m B → Tells z A m B
  tells-quiet {z} {A} {B} {m} h = record { at = λ s a. told-quiet z B (m s) (h.at s a) }

  infixr 20 ◌⨾ᵗ◌
  ◌⨾ᵗ◌ : {z : Bounds} {A B C : State → Type 0} {m n : Step} → Keeps z A m B → Tells z B n C → Tells z A (m ⨾ n) C
  unfolding ◌⨾◌
  ◌⨾ᵗ◌ {z} {A} {B} {C} {m} {n} h k = record { at = λ s a. told-behind z B C (m s) n (h.at s a) k }

  -- an entry that may tell one
  tells-mark : (z : Bounds) (k n v : ℕ) {A B : State → Type 0} {m : Step}
      → ((s : State) → A s → Tells (behind_entry (8 * length b) z (entry k s.place n v 0)) AnyState m B) → Tells z A (mark k n v ⨾ m) B
  unfolding ◌⨾◌ mark listed after behind_entries
  tells-mark z k n v {A} {B} {m} h = record { at = λ s a. told-onto z B (entry k s.place n v 0 ∷ []) (m _) ((h s a).at _ tt) }

  -- Packets, each from a whole byte on

  abbrev Whole : State → Type 0
  Whole s = s.place.0 % 8 ≡ 0

  -- in a packet from a place on, before its lengths are known
  abbrev in_packet : ℕ → Bounds
  in_packet p = record { packet = p; bound = 8 * length b }

  -- the test of 34 asks for whole bytes
  whole-total : (n : ℕ) (x y z : Bool) → not (eqb (n % 8) 0) || x || y || z ≡ false → n % 8 ≡ 0
  whole-total n x y z h = eqb-true (n % 8) 0 (not-false _ (or-false _ x (or-false _ y (or-false _ z h).0).0).0)

  module _ (t : Asked) (p : BitPlace) (w : p.0 % 8 ≡ 0) where
    abbrev e₀ : Env
    e₀ = to_end t b p

    settled : (total content : ℕ) → Fine e₀ AnyState (check (contradict b p total content) LengthsContradict) (λ s. total % 8 ≡ 0)
    unfolding refusal_number
    settled total content =
        looser Quiet (At e₀) Other (λ s x. whole-total total _ _ _ x.1)
        (checking Quiet (At e₀) Other (others e₀ AnyState) (contradict b p total content) LengthsContradict (refl, refl))

    events-whole : (c : StreamClass) (total content : ℕ) → total % 8 ≡ 0
        → Fine (up_to t b p (p.0 + content)) AnyState (events_of t c b p total content) Whole
    events-whole c total content q =
        looser Quiet _ Other (λ s x. omega arith)
        (record { at = λ s a. (lands-events (up_to t b p (p.0 + content)) w t c (further p total) 0 _).at s a })

    tells-content : (c : StreamClass) (total content : ℕ) → Tells (in_packet p.0) AnyState (read_content t c b p total content) Whole
    unfolding read_content refusal_number behind_entry
    tells-content c total content =
        lands-due e₀ ⨾ᵗ settled total content ⨾ᵗ lands-check e₀ _ ClocksContradict (refl, refl)
        ⨾ᵗ tells-mark (in_packet p.0) lengths_settled total content (λ s q. tells-quiet (events-whole c total content q))

    tells-found : (i : ℕ) (x : Option StreamClass) (f : StreamClass → Step)
        → ((c : StreamClass) → Tells (in_packet p.0) AnyState (f c) Whole) → Tells (in_packet p.0) AnyState (with_stream i x f) Whole
    unfolding with_stream refusal_number
    tells-found i None f h = tells-quiet (lands-refuse e₀ (StreamClassUnknown i) (refl, refl))
    tells-found i (Some c) f h = h c

    tells-behind : (rest : ℕ) (i : Option ℕ) → Tells (in_packet p.0) AnyState (packet t b p rest i) Whole
    unfolding refusal_number
    tells-behind rest i =
        lands-change e₀ _ ⨾ᵗ lands-root e₀ w first_root t.header ⨾ᵗ lands-check e₀ _ StreamClassChanged (refl, refl) ⨾ᵗ lands-due e₀
        ⨾ᵗ record {
          at = λ s a. (tells-found s.said.stream (t.stream s.said.stream) _
              (λ c. lands-mark e₀ stream_class_found 0 s.said.stream (refl, refl) ⨾ᵗ lands-root e₀ w first_root c.context
              ⨾ᵗ record { at = λ s a. (tells-content c _ _).at s a })).at s a;
        }

  module _ (t : Asked) where
    -- whatever the bound was, entry 1 tells the stream's end
    tells-start : (z : Bounds) (p : BitPlace) (k : ℕ) {m : Step} → Tells (in_packet p.0) AnyState m Whole
        → Tells z (AtPlace p) (due ⨾ mark packet_starts 0 k ⨾ m) Whole
    unfolding behind_entry
    tells-start z p k {m} h =
        lands-due (up_to t b p z.bound)
        ⨾ᵗ tells-mark z packet_starts 0 k (λ s q. subst (λ x. Tells (in_packet x) AnyState m Whole) (sym q) h)

    tells-packet : (z : Bounds) (k : ℕ) (i : Option ℕ) → Tells z Whole (read_packet t b k i) Whole
    unfolding read_packet
    tells-packet z k i = record {
      at = λ s w. (tells-start z s.place k (tells-behind t s.place w (8 * length b - s.place.0) i)).at s refl;
    }

    tells-packets : (z : Bounds) (k : ℕ) (i : Option ℕ) (left : ℕ) → Tells z Whole (read_packets t b k i left) AnyState
    unfolding read_packets ◌⨾◌ pass
    tells-packets z k i zero = record { at = λ s w. tt }
    tells-packets z k i (suc left) = record {
      at = λ s w. by-test (Told z AnyState) (ltb s.place.0 (8 * length b)) _ _
          (told-after z Whole AnyState (read_packet t b k i s) (λ s. read_packets t b (k + 1) (Some s.said.stream) left s)
          ((tells-packet z k i).at s w)
          (λ y. record { at = λ s w. (tells-packets y (k + 1) (Some s.said.stream) left).at s w })) tt;
    }

-- Readings

abbrev RightReading : List ℕ → Reading → Type 0
RightReading b r = Right b (in_force b r.entries) r.verdict

ended-right : (b : List ℕ) (o : Out) → Told b (in_packet b 0) AnyState o → RightReading b (ended o)
unfolding ended in_force refusal_number number_of
ended-right b (stop es v) h = h
ended-right b (go es s) h = other-right b _ (Accepted s.place) (refl, refl)

stream-right : (t : Asked) (b : List ℕ) (room : ℕ) → RightReading b (read_stream t b room)
unfolding read_stream begin refusal_number number_of
stream-right t b room = by (eqb (length b) 0 || ltb stream_limit (length b))
  where
    by : (x : Bool) → RightReading b (elim x as (λ z. Reading) [
      | true ↦ record { entries = []; verdict = Refused (stop_at StreamSize (bit_place 0)) }
      | false ↦ ended (read_packets t b 0 None (length b) (begin room))
    ])
    by true = other-right b _ (Refused (stop_at StreamSize (bit_place 0))) (refl, refl)
    by false = ended-right b _ ((tells-packets b t (in_packet b 0) 0 None (length b)).at (begin room) refl)

reading-right : (x b : List ℕ) (room : ℕ) → RightReading b (read_all x b room)
unfolding read_all read_parsed refusal_number number_of
reading-right x b room = by (parse x)
  where
    by : (p : Parsed Table) → RightReading b (read_parsed x p b room)
    by (bad n y) = other-right b _ (TableRefused n _) (refl, refl)
    by (good t y) = stream-right (asked t) b room

pub placed : Places
placed = record { past_bound = λ x b room. (reading-right x b room).past; too_large = λ x b room. (reading-right x b room).large }
