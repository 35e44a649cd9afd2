-- Laws that ask nothing of a field's bits or values: what holds of the primitive steps of a packet, and under their composition, holds of
-- every packet. L is a law of steps, and R the same of steps that come where there is room for an entry.
use Rattle.std.specs.Prelude.{Option, None, Some}
use Prim.Native.Nat.{ℕ, zero, suc, ◌+◌, ◌-◌, ◌*◌, ◌%◌}
use native.Mathlib.Omega.{arith}
use mathlib.Core.List.{List}
use mathlib.Core.Bool.{Bool, true, false, not, ◌&&◌, ◌||◌}
use lib.ListN.{length}
use lib.Dec.{ltb, eqb}
use Rattle.rules.specs.declared.BitPlace.{BitPlace}
use Rattle.rules.specs.declared.Refusal.TheVariants.{StreamClassChanged, StreamClassUnknown, LengthsContradict, ClocksContradict, EventClassUnknown, EventTookNoBits, ClockWentBack}
use Rattle.rules.specs.Verdict.{refusal_number}
use Rattle.rules.specs.Place.{bit_place, further}
use Rattle.rules.specs.Entry.{packet_starts, stream_class_found, lengths_settled, event_starts, event_class_found}
use Rattle.rules.specs.Step.{Step, ◌⨾◌, check, due, change, with_last}
use Rattle.rules.specs.Table.{StreamClass, EventClass, Asked}
use Rattle.rules.specs.Field.{Env}
use Rattle.rules.specs.Packet.{mark, read_root, with_event, start_event, read_event, end_packet, read_events, or_else}
use Rattle.rules.specs.Packet.{above, read_content, with_stream, differs, start_packet, read_packet, read_packets}
use Rattle.rules.specs.Packet.{first_root, header_number, common_number, payload_number}
use Rattle.laws.proofs.Law.{Any, AnyRecord}
use Rattle.laws.proofs.Simple.{View, view, Simple, simple-root}

pub record SimplePackets (L R : Step → Type 0) : Type 0 where
  pub simple : (e : Env) → Simple e AnyRecord Any L R
  pub either : (t : View → Bool) {m n : Step} → L m → L n → L (λ s. elim (t (view s)) [ true ↦ m s | false ↦ n s ])
  pub marks : (k n v : ℕ) → R (mark k n v)
  pub starts : L (change start_event)
  pub starts_packet : L (change start_packet)
  pub lasts : L (change (λ s. with_last s.clock s))
  pub ends : (to : BitPlace) (n : ℕ) → L (end_packet to n)

module _ {L R : Step → Type 0} (h : SimplePackets L R) (t : Asked) where
  event-found : (e : Env) (i j : ℕ) (x : Option EventClass) (f : EventClass → Step) → ((d : EventClass) → R (f d)) → R (with_event i j x f)
  unfolding with_event refusal_number
  event-found e i j None f g = (h.simple e).refuses (EventClassUnknown i j) (λ z. omega arith)
  event-found e i j (Some d) f g = g d

  stream-found : (e : Env) (i : ℕ) (x : Option StreamClass) (f : StreamClass → Step) → ((c : StreamClass) → R (f c)) → R (with_stream i x f)
  unfolding with_stream refusal_number
  stream-found e i None f g = (h.simple e).refuses (StreamClassUnknown i) (λ z. omega arith)
  stream-found e i (Some c) f g = g c

  simple-event : (c : StreamClass) (e : Env) (n : ℕ) → L (read_event t c e n)
  unfolding read_event refusal_number
  simple-event c e n =
      let p = h.simple e in
      p.looks
      (λ x₀. due ⨾ mark event_starts 0 n ⨾ change start_event ⨾ read_root e (header_number c) c.header
      ⨾ check (λ s. c.timed && ltb s.clock s.last) ClockWentBack
      ⨾ change (λ s. with_last s.clock s) ⨾ due
      ⨾ (λ s. with_event c.id s.said.event (t.event c.id s.said.event)
      (λ d. mark event_class_found 0 s.said.event ⨾ read_root e (common_number c) c.common ⨾ read_root e first_root d.specific
      ⨾ read_root e (payload_number d) d.payload) s)
      ⨾ check (λ s. eqb s.place.0 x₀.place.0) EventTookNoBits)
      (λ x₀. p.dueʳ (p.seqʳ (h.marks event_starts 0 n) (p.seq h.starts (p.seq (simple-root e p (header_number c) c.header)
      (p.seq (p.checks (λ x. c.timed && ltb x.clock x.last) ClockWentBack (λ z. omega arith)) (p.seq h.lasts
      (p.dueʳ (p.seqʳ (p.looksʳ (λ x. with_event c.id x.said.event (t.event c.id x.said.event)
      (λ d. mark event_class_found 0 x.said.event ⨾ read_root e (common_number c) c.common ⨾ read_root e first_root d.specific
      ⨾ read_root e (payload_number d) d.payload))
      (λ x. event-found e c.id x.said.event _ _ (λ d. p.seqʳ (h.marks event_class_found 0 x.said.event)
      (p.seq (simple-root e p (common_number c) c.common)
      (p.seq (simple-root e p first_root d.specific) (simple-root e p (payload_number d) d.payload))))))
      (p.checks (λ x. eqb x.place.0 x₀.place.0) EventTookNoBits (λ z. omega arith))))))))))

  simple-events : (c : StreamClass) (e : Env) (to : BitPlace) (n left : ℕ) → L (read_events t c e to n left)
  unfolding read_events
  simple-events c e to n zero = h.ends to n
  simple-events c e to n (suc left) =
      h.either (λ x. ltb x.place.0 e.bound.0) ((h.simple e).seq (simple-event c e n) (simple-events c e to (n + 1) left)) (h.ends to n)

  simple-content : (c : StreamClass) (b : List ℕ) (p : BitPlace) (total content : ℕ) → L (read_content t c b p total content)
  unfolding read_content refusal_number
  simple-content c b p total content =
      let e : Env = record { bytes = b; start = p; bound = further p content; uuid = t.uuid } in
      let q = h.simple e in
      q.dueʳ
      (q.checksʳ (λ x. not (eqb (total % 8) 0) || ltb total content || ltb (8 * length b) (p.0 + total) || ltb (p.0 + content) x.place.0) LengthsContradict (λ z. omega arith)
      (q.checksʳ (λ x. above x.clock x.said.ending) ClocksContradict (λ z. omega arith)
      (q.seqʳ (h.marks lengths_settled total content)
      (q.looks (λ x. read_events t c e (further p total) 0 (p.0 + content - x.place.0)) (λ x. simple-events c e (further p total) 0 _)))))

  pub simple-packet : (b : List ℕ) (k : ℕ) (i : Option ℕ) → L (read_packet t b k i)
  unfolding read_packet refusal_number
  simple-packet b k i =
      (h.simple (env (bit_place 0))).looks
      (λ x₀. let e : Env = env x₀.place in
      due ⨾ mark packet_starts 0 k ⨾ change start_packet ⨾ read_root e first_root t.header
      ⨾ check (λ s. differs s.said.stream i) StreamClassChanged ⨾ due
      ⨾ λ s. with_stream s.said.stream (t.stream s.said.stream) (found e x₀.place s.said.stream) s)
      (λ x₀. let e : Env = env x₀.place in let p = h.simple e in
      p.dueʳ (p.seqʳ (h.marks packet_starts 0 k) (p.seq h.starts_packet (p.seq (simple-root e p first_root t.header)
      (p.seq (p.checks (λ x. differs x.said.stream i) StreamClassChanged (λ z. omega arith))
      (p.dueʳ (p.looksʳ (λ x. with_stream x.said.stream (t.stream x.said.stream) (found e x₀.place x.said.stream))
      (λ x. stream-found e x.said.stream _ _ (λ c. p.seqʳ (h.marks stream_class_found 0 x.said.stream)
      (p.seq (simple-root e p first_root c.context)
      (p.looks (content x₀.place c) (λ y. simple-content c b x₀.place _ _))))))))))))
    where
      env : BitPlace → Env
      env p = record { bytes = b; start = p; bound = bit_place (8 * length b); uuid = t.uuid }

      rest : BitPlace → ℕ
      rest p = 8 * length b - p.0

      content : BitPlace → StreamClass → View → Step
      content p c x = read_content t c b p (or_else x.said.total x.said.content (rest p)) (or_else x.said.content x.said.total (rest p))

      found : Env → BitPlace → ℕ → StreamClass → Step
      found e p i c = mark stream_class_found 0 i ⨾ read_root e first_root c.context ⨾ λ s. content p c (view s) s

  pub simple-packets : (b : List ℕ) (k : ℕ) (i : Option ℕ) (left : ℕ) → L (read_packets t b k i left)
  unfolding read_packets
  simple-packets b k i zero = (h.simple (record { bytes = b; start = bit_place 0; bound = bit_place 0; uuid = b })).passes
  simple-packets b k i (suc left) =
      let p = h.simple (record { bytes = b; start = bit_place 0; bound = bit_place 0; uuid = b }) in
      h.either (λ x. ltb x.place.0 (8 * length b))
      (p.seq (simple-packet b k i) (p.looks (λ x. read_packets t b (k + 1) (Some x.said.stream) left) (λ x. simple-packets b (k + 1) (Some x.said.stream) left)))
      p.passes
