-- An accepted table of bytes: every word that a reading lists, and those of its verdict, are below 2 ^ 64.
-- In order: packets; what an accepted table's bytes can say; readings.
use Rattle.std.specs.Prelude.{Option, None, Some}
use mathlib.Core.Path.{◌≡◌, refl, sym, subst}
use Prim.Native.Nat.{ℕ, zero, suc, ◌+◌, ◌-◌, ◌*◌, ◌%◌, ◌≤◌}
use native.Mathlib.Omega.{arith}
use mathlib.Core.List.{List, [], ◌∷◌}
use mathlib.Core.Bool.{Bool, true, false, not, ◌||◌}
use lib.ListN.{length, get_or, take, drop}
use lib.Dec.{ltb, eqb}
use borrow.Author.Tests.{ltb-false}
use Rattle.rules.specs.declared.BitPlace.{BitPlace}
use Rattle.rules.specs.declared.Entry.{Entry}
use Rattle.rules.specs.declared.Refusal.TheVariants.{StreamSize, StreamClassChanged, StreamClassUnknown, LengthsContradict}
use Rattle.rules.specs.declared.Refusal.TheVariants.{ClocksContradict, EventClassUnknown, EventTookNoBits, ClockWentBack}
use Rattle.rules.specs.declared.Verdict.TheVariants.{Refused}
use Rattle.rules.specs.Limits.{stream_limit}
use Rattle.rules.specs.Place.{bit_place, further}
use Rattle.rules.specs.Verdict.{stop_at}
use Rattle.rules.specs.Entry.{entry, words}
use Rattle.rules.specs.Step.{State, Out, stop, go, Step, ◌⨾◌, change, with_last}
use Rattle.rules.specs.Record.{Record, unknown, fragment, root, class, range, option, Layout, layouts}
use Rattle.rules.specs.Record.{no, bits_layout, layout_of, record_of, behind, size, u8, u16, number}
use Rattle.rules.specs.Table.{Table, Asked, asked, StreamClass, EventClass}
use Rattle.rules.specs.Parse.{good, parse}
use Rattle.rules.specs.Field.{Env}
use Rattle.rules.specs.Packet.{read_event, read_events, read_content, read_packet, read_packets, with_event}
use Rattle.rules.specs.Packet.{first_root, header_number, common_number, payload_number}
use Rattle.rules.specs.Packet.{with_stream, mark, read_root, start_event, start_packet, nothing_said, end_packet}
use Rattle.rules.specs.Read.{ended, begin, read_stream, read_all, read_parsed}
use Rattle.facts.specs.Bytes.{Bytes}
use Rattle.facts.proofs.Bytes.{bytes_take, bytes_drop}
use Rattle.facts.proofs.Truth.{or-false}
use Rattle.laws.specs.All.{All}
use Rattle.promises.specs.Words.{Word, AllWords, WordEntry, WordIds, WordStop, WordReading}
use Rattle.laws.proofs.Law.{Any}
use Rattle.laws.proofs.Accepted.{Tells, Fitting, accepted-fits}
use Rattle.laws.proofs.Numbering.{Numbering}
use Rattle.laws.proofs.Triple.{changing, naming, tested, untested}
use Rattle.promises.proofs.Exact.{found-id}
use Rattle.promises.proofs.Small.{SmallRecord, accepted-small}
use Rattle.promises.proofs.Values.{no_word, packet-word}
use Rattle.promises.proofs.Words.{Wordy, Worded, WordedOut, Env64, To64, place_of, ◌⨾ʷ◌, word-listed}
use Rattle.promises.proofs.Words.{word-check, word-pass, word-due, word-root}

-- Packets

word-mark : (k n v : ℕ) → k ≤ 32 → Word n → Word v → Worded (mark k n v)
unfolding mark
word-mark k n v a b c = record {
  at = λ s w. word-listed (entry k s.place n v 0) s.place s (omega arith, w.place, b, c, omega arith) w.place w;
}

word-event : (i j : ℕ) (x : Option EventClass) (f : EventClass → Step)
    → Word i → Word j → ((d : EventClass) → x ≡ Some d → Worded (f d)) → Worded (with_event i j x f)
unfolding with_event
word-event i j None f a b h = naming WordEntry WordStop WordIds (EventClassUnknown i j) (λ s w. (w.place, (a, b)))
word-event i j (Some d) f a b h = h d refl

word-stream : (i : ℕ) (x : Option StreamClass) (f : StreamClass → Step)
    → Word i → ((d : StreamClass) → x ≡ Some d → Worded (f d)) → Worded (with_stream i x f)
unfolding with_stream
word-stream i None f a h = naming WordEntry WordStop WordIds (StreamClassUnknown i) (λ s w. (w.place, a))
word-stream i (Some d) f a h = h d refl

word-start_event : Worded (change start_event)
unfolding start_event
word-start_event = changing WordEntry WordStop WordIds _ (λ s w. record {
  place = w.place;
  clock = w.clock;
  slots = packet-word s.slots w.slots;
  said = record { stream = w.said.stream; event = omega arith; total = w.said.total; content = w.said.content };
})

word-start_packet : Worded (change start_packet)
unfolding start_packet nothing_said
word-start_packet = changing WordEntry WordStop WordIds _ (λ s w. record {
  place = w.place;
  clock = omega arith;
  slots = no_word;
  said = record { stream = omega arith; event = omega arith; total = tt; content = tt };
})

word-last : Worded (change (λ s. with_last s.clock s))
unfolding with_last
word-last = changing WordEntry WordStop WordIds _ (λ s w. record { place = w.place; clock = w.clock; slots = w.slots; said = w.said })

word_end : (to : BitPlace) (n : ℕ) → Word to.0 → Word n → Worded (end_packet to n)
unfolding end_packet
word_end to n a b = word-due (record { at = λ s w. word-listed (entry 7 to (to.0 - s.place.0) n 0) to s (omega arith) a w })

ok-if : (b : Bool) (x y : Out) → (b ≡ true → WordedOut x) → WordedOut y → WordedOut (elim b [ true ↦ x | false ↦ y ])
ok-if true x y h k = h refl
ok-if false x y h k = k

module _ (t : Asked) (w : Fitting To64 (λ r. Any) Word t) (numbers : Numbering (λ o. SmallRecord) t)
    (ids : (i : ℕ) (c : StreamClass) → t.stream i ≡ Some c → c.id ≡ i) where
  word-read_event : (i : ℕ) (c : StreamClass) → t.stream i ≡ Some c → Word i → (e : Env) → Env64 e → (n : ℕ) → Word n
      → Worded (read_event t c e n)
  unfolding read_event
  word-read_event i c p j e g n h = record {
    at = λ s₀ h₀.
        (word-due (word-mark 4 0 n (omega arith) (omega arith) h ⨾ʷ word-start_event
        ⨾ʷ word-root e g (header_number c) c.header (w.events i c p).0 (numbers.header i c p) ⨾ʷ word-check _ ClockWentBack tt
        ⨾ʷ word-last
        ⨾ʷ word-due (look ⨾ʷ word-check (λ s. eqb s.place.0 s₀.place.0) EventTookNoBits tt))).at s₀ h₀;
  }
    where
      look : Worded (λ s. with_event c.id s.said.event (t.event c.id s.said.event)
          (λ d. mark 5 0 s.said.event ⨾ read_root e (common_number c) c.common ⨾ read_root e first_root d.specific
          ⨾ read_root e (payload_number d) d.payload) s)
      look = record {
        at = λ s h.
            let k : Word c.id = subst Word (sym (ids i c p)) j in
            (word-event c.id s.said.event (t.event c.id s.said.event) _ k h.said.event
            (λ d q. word-mark 5 0 s.said.event (omega arith) (omega arith) h.said.event
            ⨾ʷ word-root e g (common_number c) c.common (w.events i c p).1 (numbers.common i c p)
            ⨾ʷ word-root e g first_root d.specific (w.event _ _ d q).0 (numbers.specific _ _ d q)
            ⨾ʷ word-root e g (payload_number d) d.payload (w.event _ _ d q).1 (numbers.payload _ _ d q))).at s h;
      }

  word-events : (i : ℕ) (c : StreamClass) → t.stream i ≡ Some c → Word i → (e : Env) → Env64 e → (to : BitPlace) (n left : ℕ)
      → Word to.0 → Word (n + left) → Worded (read_events t c e to n left)
  unfolding read_events
  word-events i c p j e g to n zero a h = word_end to n a (omega arith)
  word-events i c p j e g to n (suc left) a h = record {
    at = λ s x.
        ok-if (ltb s.place.0 e.bound.0) _ _
        (λ q. (word-read_event i c p j e g n (omega arith) ⨾ʷ word-events i c p j e g to (n + 1) left a (omega arith)).at s x)
        ((word_end to n a (omega arith)).at s x);
  }

  module _ (b : List ℕ) (small : length b ≤ stream_limit) where
    word-content : (i : ℕ) (c : StreamClass) → t.stream i ≡ Some c → Word i → (p : BitPlace) (total content : ℕ)
        → Worded (read_content t c b p total content)
    unfolding read_content
    word-content i c q j p total content = word-due (tested WordEntry WordStop WordIds place_of _ LengthsContradict tt (record {
      at = λ s x.
          let y = or-false (not (eqb (total % 8) 0) || ltb total content || ltb (8 * length b) (p.0 + total)) _ x.1 in
          let z = or-false (not (eqb (total % 8) 0) || ltb total content) (ltb (8 * length b) (p.0 + total)) y.0 in
          let u = or-false (not (eqb (total % 8) 0)) (ltb total content) z.0 in
          let l₁ : content ≤ total = ltb-false total content u.1 in
          let l₂ : p.0 + total ≤ 8 * length b = ltb-false (8 * length b) (p.0 + total) z.1 in
          let g : Env64 inner = record { start = omega arith; bound = omega arith } in
          let three = word-mark 3 total content (omega arith) (omega arith) (omega arith) in
          (untested WordEntry WordStop WordIds place_of _ ClocksContradict tt (three ⨾ʷ record {
            at = λ s x.
                (word-events i c q j inner g (further p total) 0 (p.0 + content - s.place.0) (omega arith) (omega arith)).at s x;
          })).at s x.0;
    }))
      where
        inner : Env
        inner = record { bytes = b; start = p; bound = further p content; uuid = t.uuid }

    word-packet : (k : ℕ) (i : Option ℕ) → Word k → (s₀ : State) → Wordy s₀ → WordedOut (read_packet t b k i s₀)
    unfolding read_packet
    word-packet k i h s₀ h₀ =
        (word-due (word-mark 1 0 k (omega arith) (omega arith) h ⨾ʷ word-start_packet
        ⨾ʷ word-root e g first_root t.header w.header numbers.packet ⨾ʷ word-check _ StreamClassChanged tt
        ⨾ʷ word-due (record {
          at = λ s x. (word-stream s.said.stream (t.stream s.said.stream) _ x.said.stream
              (λ c q. word-mark 2 0 s.said.stream (omega arith) (omega arith) x.said.stream
              ⨾ʷ word-root e g first_root c.context (w.context _ c q) (numbers.context _ c q)
              ⨾ʷ record { at = λ s' x'. (word-content _ c q x.said.stream s₀.place _ _).at s' x' })).at s x;
        }))).at s₀ h₀
      where
        e : Env
        e = record { bytes = b; start = s₀.place; bound = bit_place (8 * length b); uuid = t.uuid }

        g : Env64 e
        g = record { start = h₀.place; bound = omega arith }

    pub word-packets : (k : ℕ) (i : Option ℕ) (left : ℕ) → Word (k + left) → Worded (read_packets t b k i left)
    unfolding read_packets
    word-packets k i zero h = word-pass
    word-packets k i (suc left) h = record {
      at = λ s x.
          ok-if (ltb s.place.0 (8 * length b)) _ _
          (λ q. (packet ⨾ʷ record { at = λ s x. (word-packets (k + 1) (Some s.said.stream) left (omega arith)).at s x }).at s x)
          (word-pass.at s x);
    }
      where
        packet : Worded (read_packet t b k i)
        packet = record { at = λ s x. word-packet k i (omega arith) s x }

-- What an accepted table's bytes can say

u8-le : (x : List ℕ) (i : ℕ) → Bytes x → u8 x i ≤ 65535
unfolding u8
u8-le x i h = omega (arith, h i)

u16-le : (x : List ℕ) → Bytes x → u16 x 0 ≤ 65535
unfolding u16 number
u16-le [] h = omega arith
u16-le (a ∷ []) h = omega (arith, h 0)
u16-le (a ∷ b ∷ x) h = omega (arith, h 0, h 1)

abbrev CountOk : Record → Type 0
CountOk unknown = Unit {0}
CountOk (fragment f) = Unit {0}
CountOk (root r) = Unit {0}
CountOk (class y) = y.count ≤ 65535
CountOk (range g l h) = Unit {0}
CountOk (option n) = Unit {0}

abbrev LayoutsOk : List Layout → Type 0
LayoutsOk [] = Unit {0}
LayoutsOk (l ∷ ls) = ((x : List ℕ) → Bytes x → CountOk (l.1 x)) × LayoutsOk ls

one-count : 1 ≤ 65535
one-count = omega arith

layouts-ok : LayoutsOk layouts
unfolding layouts no bits_layout
layouts-ok = (
  (λ x g. tt),
  (
    (λ x g. tt),
    (
      (λ x g. tt),
      (
        (λ x g. tt),
        (
          (λ x g. tt),
          (
            (λ x g. tt),
            (
              (λ x g. tt),
              (
                (λ x g. tt),
                (
                  (λ x g. tt),
                  (
                    (λ x g. tt),
                    (
                      (λ x g. tt),
                      (
                        (λ x g. tt),
                        (
                          (λ x g. tt),
                          (
                            (λ x g. tt),
                            (
                              (λ x g. tt),
                              (
                                (λ x g. tt),
                                (
                                  (λ x g. one-count),
                                  (
                                    (λ x g. one-count),
                                    (
                                      (λ x g. one-count),
                                      (
                                        (λ x g. one-count),
                                        (
                                          (λ x g. one-count),
                                          (
                                            (λ x g. one-count),
                                            (
                                              (λ x g. one-count),
                                              (
                                                (λ x g. one-count),
                                                (
                                                  (λ x g. u16-le x g),
                                                  (
                                                    (λ x g. u16-le x g),
                                                    (
                                                      (λ x g. one-count),
                                                      (
                                                        (λ x g. one-count),
                                                        (
                                                          (λ x g. u8-le x 0 g),
                                                          (
                                                            (λ x g. u16-le x g),
                                                            (
                                                              (λ x g. one-count),
                                                              (
                                                                (λ x g. u8-le x 1 g),
                                                                (
                                                                  (λ x g. u8-le x 1 g),
                                                                  (
                                                                    (λ x g. tt),
                                                                    (
                                                                      (λ x g. tt),
                                                                      tt,
                                                                    ),
                                                                  ),
                                                                ),
                                                              ),
                                                            ),
                                                          ),
                                                        ),
                                                      ),
                                                    ),
                                                  ),
                                                ),
                                              ),
                                            ),
                                          ),
                                        ),
                                      ),
                                    ),
                                  ),
                                ),
                              ),
                            ),
                          ),
                        ),
                      ),
                    ),
                  ),
                ),
              ),
            ),
          ),
        ),
      ),
    ),
  ),
)

layout-ok : (ls : List Layout) (k : ℕ) → LayoutsOk ls → (x : List ℕ) → Bytes x → CountOk ((get_or ls k no).1 x)
unfolding no
layout-ok [] k h x g = tt
layout-ok (l ∷ ls) zero h x g = h.0 x g
layout-ok (l ∷ ls) (suc k) h x g = layout-ok ls k h.1 x g

record-ok : (x : List ℕ) → Bytes x → CountOk (record_of x)
unfolding record_of layout_of
record-ok x g =
    let n = (layout_of x).0 in
    layout-ok layouts (u8 x 0) layouts-ok (take n (drop 1 x)) (bytes_take n (drop 1 x) (bytes_drop 1 x g))

bytes-behind : (x : List ℕ) → Bytes x → Bytes (behind x)
unfolding behind
bytes-behind x g = bytes_drop (size x) x g

word-numbers : Tells To64 (λ r. Any) Word Bytes
word-numbers = record {
  bits = λ n a b. b;
  slots = λ r i h. tt;
  values = λ x y g e k l. let c : y.count ≤ 65535 = subst CountOk e (record-ok x g) in omega arith;
  on = bytes-behind;
}

pub accepted-words : (x : List ℕ) → Bytes x → (t : Table) (y : List ℕ) → parse x ≡ good t y → Fitting To64 (λ r. Any) Word (asked t)
accepted-words x g t y p = accepted-fits word-numbers x t y g p

-- Readings

ended-words : (o : Out) → WordedOut o → WordReading (ended o)
unfolding ended
ended-words (stop es v) h = h
ended-words (go es s) h = (h.0, h.1.place)

begin-words : (room : ℕ) → Wordy (begin room)
unfolding begin nothing_said
begin-words room = record {
  place = omega arith;
  clock = omega arith;
  slots = no_word;
  said = record { stream = omega arith; event = omega arith; total = tt; content = tt };
}

stream-words : (t : Asked) → Fitting To64 (λ r. Any) Word t → Numbering (λ o. SmallRecord) t
    → ((i : ℕ) (c : StreamClass) → t.stream i ≡ Some c → c.id ≡ i)
    → (b : List ℕ) (room : ℕ) → WordReading (read_stream t b room)
unfolding read_stream
stream-words t w numbers ids b room = by (eqb (length b) 0 || ltb stream_limit (length b)) refl
  where
    by : (c : Bool) → (eqb (length b) 0 || ltb stream_limit (length b)) ≡ c
        → WordReading (elim c [
          | true ↦ record { entries = []; verdict = Refused (stop_at StreamSize (bit_place 0)) }
          | false ↦ ended (read_packets t b 0 None (length b) (begin room))
        ])
    by true h = (tt, (omega arith, tt))
    by false h =
        let l : length b ≤ stream_limit = ltb-false stream_limit (length b) (or-false (eqb (length b) 0) (ltb stream_limit (length b)) h).1 in
        ended-words _ ((word-packets t w numbers ids b l 0 None (length b) (omega arith)).at (begin room) (begin-words room))

-- every word of every entry; the verdict's place and ids
pub reading-words : (x : List ℕ) → Bytes x → (t : Table) (y : List ℕ) → parse x ≡ good t y → (b : List ℕ) (room : ℕ)
    → WordReading (read_all x b room)
unfolding read_all read_parsed
reading-words x g t y p b room =
    let w = accepted-words x g t y p in
    let numbers = accepted-small x t y p in
    rw (p, read_all) (stream-words (asked t) w numbers (λ i c q. unfold asked in found-id t.streams i c q) b room)

-- and so of the list's words
pub list-words : (es : List Entry) → All WordEntry es → AllWords (words es)
unfolding words
list-words [] h = tt
list-words (e ∷ es) h = (h.0.0, (h.0.1, (h.0.2, (h.0.3, (h.0.4, list-words es h.1)))))
