-- Packets stand on their own. Along the packets of an accepted stream: those before the removed one read as they did, since they end
-- before the streams part; then it is passed over; those behind it go on by `Onwards`. In order: a round of the packet loop; what the
-- list shows of a packet; the stream without it; the reading; all of it; figures.
use Rattle.std.specs.Prelude.{None, Some, Option}
use mathlib.Core.Path.{◌≡◌, refl, sym, ap, ◌∙◌, subst}
use mathlib.Core.Logic.{◌⊎◌, inl, inr, ⊎_elim}
use Prim.Native.Nat.{ℕ, zero, suc, ◌+◌, ◌-◌, ◌*◌, ◌/◌, ◌%◌, ◌≤◌, ◌<◌}
use native.Mathlib.Omega.{arith}
use mathlib.Core.List.{List, [], ◌++◌, map, append_assoc}
use mathlib.Core.Bool.{Bool, true, false, ◌||◌}
use lib.ListN.{length, take, drop, length-drop, length-append, take-append-drop}
use lib.Seq.{length-take-le, drop-drop, drop_at}
use lib.Dec.{ltb, eqb}
use borrow.Author.Tests.{ltb-true, ltb-false, lt-ltb, le-ltb, ne_eqb}
use Rattle.rules.specs.declared.Entry.{Entry}
use Rattle.rules.specs.declared.Refusal.TheVariants.{StreamSize}
use Rattle.rules.specs.declared.Verdict.TheVariants.{Accepted, Refused}
use Rattle.rules.specs.Opened.{opened}
use Rattle.rules.specs.Limits.{stream_limit}
use Rattle.rules.specs.Place.{bit_place}
use Rattle.rules.specs.Verdict.{stop_at, refusal_number, number_of}
use Rattle.rules.specs.Step.{State, Out, stop, go, Step, ◌⨾◌, pass}
use Rattle.rules.specs.Table.{Table, Asked, asked}
use Rattle.rules.specs.Packet.{differs, read_packet, read_packets}
use Rattle.rules.specs.Parse.{Parsed, bad, good, parse}
use Rattle.rules.specs.Read.{Reading, ended, begin, read_stream, read_parsed, read_all}
use Rattle.facts.proofs.Numbers.{lt-or-ge}
use Rattle.facts.proofs.Truth.{or-false}
use Rattle.facts.proofs.Refusals.{refusal_number-bounds}
use Rattle.laws.proofs.Law.{Any}
use Rattle.laws.proofs.Accepted.{Fitting}
use Rattle.packet_alone.specs.Behind.{less}
use Rattle.packet_alone.proofs.Through.{split, join}
use Rattle.packet_alone.proofs.Roles.{HeaderOnly, header-only}
use Rattle.packet_alone.proofs.Ends.{ends-class, ends_found, ends-no-earlier}
use Rattle.packet_alone.proofs.Before.{same-packet}
use Rattle.promises.specs.Apart.{starts_packet, before_packet, from_packet, place_in, total_in, packets_in, number_lower, lower}
use Rattle.promises.specs.Apart.{list_without, bytes_without, Apart, three_packets, last_unstated, ApartFigures}
use Rattle.promises.proofs.Packets.{Positive, packet-rounds, go-packets}
use Rattle.promises.proofs.Rising.{Onward}
use Rattle.promises.proofs.Laws.{accepted-positive}
use Rattle.promises.proofs.Spent.{packet-spent}
use Rattle.promises.proofs.Whole.{Whole, whole-packet}
use Rattle.promises.proofs.TwoStates.{Onwards}
use Rattle.promises.proofs.Onwards.{Gap, Rest, onward-packets}
use Rattle.promises.proofs.Cut.{before-skip, from-skip, packet-passed, before_at, from_at, place_at, packets-at, total-at}

module _ (t : Asked) (w : Fitting Positive (λ r. Any) Any t) (only : HeaderOnly t) (b : List ℕ) where
  -- A round of the packet loop: it is over, or a packet is read and the loop goes on behind it

  record Round (k : ℕ) (i : Option ℕ) (left : ℕ) (s : State) (es : List Entry) (u : State) : Type 0 where
    first : List Entry
    middle : State
    second : List Entry
    place : s.place.0 < 8 * length b
    goes : read_packet t b k i s ≡ go first middle
    goes_on : read_packets t b (k + 1) (Some middle.said.stream) left middle ≡ go second u
    list : es ≡ first ++ second
    packet : Whole t b k i s first middle

  nothing : (s : State) (es : List Entry) (u : State) → pass s ≡ go es u → es ≡ []
  unfolding pass
  nothing s es u q = let f : [] ≡ es = cc in sym f

  round : (k : ℕ) (i : Option ℕ) (left : ℕ) (s : State) (es : List Entry) (u : State) → s.place.0 % 8 ≡ 0
      → read_packets t b k i (suc left) s ≡ go es u
      → (es ≡ []) ⊎ Round k i left s es u
  unfolding read_packets
  round k i left s es u z q = by (ltb s.place.0 (8 * length b)) refl q
    where
      next : Step
      next s = read_packets t b (k + 1) (Some s.said.stream) left s

      by : (x : Bool) → ltb s.place.0 (8 * length b) ≡ x → elim x [ true ↦ (read_packet t b k i ⨾ next) s | false ↦ pass s ] ≡ go es u
          → (es ≡ []) ⊎ Round k i left s es u
      by false h q = inl (nothing s es u q)
      by true h q =
          let g = split (read_packet t b k i) next s es u q in
          inr (record {
            first = g.first;
            middle = g.middle;
            second = g.second;
            place = ltb-true _ _ h;
            goes = g.goes;
            goes_on = g.goes_on;
            list = g.list;
            packet = whole-packet t w b k i s g.first g.middle (ltb-true _ _ h) z g.goes;
          })

  none_left : (k : ℕ) (i : Option ℕ) (s : State) (es : List Entry) (u : State) → read_packets t b k i zero s ≡ go es u → es ≡ []
  unfolding read_packets
  none_left k i s es u q = nothing s es u q

  -- what the list shows of its first packet and of those behind it
  module _ (k : ℕ) (i : Option ℕ) (left : ℕ) (s : State) (es : List Entry) (u : State) (r : Round k i left s es u) where
    abbrev others : List Entry
    others = r.packet.others

    counted : packets_in es ≡ packets_in r.second + 1
    counted = ap packets_in r.list ∙ packets-at s.place k r.first others r.packet.list r.packet.none r.second

    from-here : from_packet k es ≡ es
    from-here = ap (from_packet k) r.list ∙ from_at s.place k r.first others r.packet.list r.packet.none r.second
        ∙ sym r.list

    place_here : place_in (from_packet k es) ≡ s.place.0
    place_here = ap place_in from-here ∙ ap place_in r.list
        ∙ place_at s.place k r.first others r.packet.list r.packet.none r.second

    total_here : s.place.0 + total_in (from_packet k es) ≡ r.middle.place.0
    total_here =
        let h : r.middle.place.0 ≡ s.place.0 + total_in others = r.packet.total in
        let a : total_in es ≡ total_in others = ap total_in r.list
        ∙ total-at s.place k r.first others r.packet.list r.packet.none r.second (omega (arith, r.packet.takes)) in
        let c : total_in (from_packet k es) ≡ total_in es = ap total_in from-here in
        omega arith

    from-later : (n : ℕ) → (k ≡ n → ⊥) → from_packet n es ≡ from_packet n r.second
    from-later n d = ap (from_packet n) r.list
        ∙ from-skip n r.first r.second (packet-passed s.place k r.first others r.packet.list r.packet.none n d)

    before-later : (n : ℕ) → (k ≡ n → ⊥) → before_packet n es ≡ r.first ++ before_packet n r.second
    before-later n d = ap (before_packet n) r.list
        ∙ before-skip n r.first r.second (packet-passed s.place k r.first others r.packet.list r.packet.none n d)

    before_here : before_packet k es ≡ []
    before_here = ap (before_packet k) r.list ∙ before_at s.place k r.first others r.packet.list r.packet.none r.second

  -- a list begins with its first packet
  from_first : (left k : ℕ) (i : Option ℕ) (s : State) (es : List Entry) (u : State) → s.place.0 % 8 ≡ 0
      → read_packets t b k i left s ≡ go es u → from_packet k es ≡ es
  from_first left k i s es u z q = by left q
    where
      empty : es ≡ [] → from_packet k es ≡ es
      empty e = ap (from_packet k) e ∙ (unfold from_packet in sym e)

      by : (left : ℕ) → read_packets t b k i left s ≡ go es u → from_packet k es ≡ es
      by zero q = empty (none_left k i s es u q)
      by (suc left) q = ⊎_elim empty (from-here k i left s es u) (round k i left s es u z q)

  -- each packet takes a byte or more
  bytes-taken : (left k : ℕ) (i : Option ℕ) (s : State) (es : List Entry) (u : State) → s.place.0 % 8 ≡ 0 → s.place.0 ≤ 8 * length b
      → read_packets t b k i left s ≡ go es u → s.place.0 + 8 * packets_in es ≤ 8 * length b
  bytes-taken zero k i s es u z l q =
      let e : packets_in es ≡ 0 = ap packets_in (none_left k i s es u q) ∙ (unfold packets_in in refl) in
      omega arith
  bytes-taken (suc left) k i s es u z l q =
      by (round k i left s es u z q) (λ m fs z l q. bytes-taken left (k + 1) (Some m.said.stream) m fs u z l q)
    where
      by : (es ≡ []) ⊎ Round k i left s es u
          → ((m : State) (fs : List Entry) → m.place.0 % 8 ≡ 0 → m.place.0 ≤ 8 * length b
          → read_packets t b (k + 1) (Some m.said.stream) left m ≡ go fs u
          → m.place.0 + 8 * packets_in fs ≤ 8 * length b) → s.place.0 + 8 * packets_in es ≤ 8 * length b
      by (inl e) rec =
          let n : packets_in es ≡ 0 = ap packets_in e ∙ (unfold packets_in in refl) in
          omega arith
      by (inr r) rec =
          let h : r.middle.place.0 + 8 * packets_in r.second ≤ 8 * length b =
          rec r.middle r.second r.packet.whole r.packet.in_stream r.goes_on in
          omega (arith, counted k i left s es u r, r.packet.takes)

  -- A packet that the list shows

  record PacketShown (n : ℕ) (s : State) (es : List Entry) : Type 0 where
    from : s.place.0 ≤ place_in (from_packet n es)
    whole : place_in (from_packet n es) % 8 ≡ 0
    whole-total : total_in (from_packet n es) % 8 ≡ 0
    takes : 8 ≤ total_in (from_packet n es)
    in_stream : place_in (from_packet n es) + total_in (from_packet n es) ≤ 8 * length b
    -- the others take a byte or more each
    leaves : s.place.0 + total_in (from_packet n es) + 8 * packets_in es ≤ 8 * length b + 8

  found_here : (k : ℕ) (i : Option ℕ) (left : ℕ) (s : State) (es : List Entry) (u : State) → s.place.0 % 8 ≡ 0 → Round k i left s es u
      → PacketShown k s es
  found_here k i left s es u z r =
      let p : place_in (from_packet k es) ≡ s.place.0 = place_here k i left s es u r in
      let q : s.place.0 + total_in (from_packet k es) ≡ r.middle.place.0 = total_here k i left s es u r in
      let n : packets_in es ≡ packets_in r.second + 1 = counted k i left s es u r in
      let m : r.middle.place.0 + 8 * packets_in r.second ≤ 8 * length b =
      bytes-taken left (k + 1) _ r.middle r.second u r.packet.whole r.packet.in_stream r.goes_on in
      let a : s.place.0 + 8 ≤ r.middle.place.0 = r.packet.takes in
      let c : r.middle.place.0 % 8 ≡ 0 = r.packet.whole in
      let d : r.middle.place.0 ≤ 8 * length b = r.packet.in_stream in
      record {
        from = omega arith;
        whole = omega arith;
        whole-total = omega arith;
        takes = omega arith;
        in_stream = omega arith;
        leaves =
            omega arith;
      }

  found-later : (n k : ℕ) (i : Option ℕ) (left : ℕ) (s : State) (es : List Entry) (u : State) → (k ≡ n → ⊥) → (r : Round k i left s es u)
      → PacketShown n r.middle r.second → PacketShown n s es
  found-later n k i left s es u d r f =
      let g : from_packet n es ≡ from_packet n r.second = from-later k i left s es u r n d in
      let p : place_in (from_packet n es) ≡ place_in (from_packet n r.second) = ap place_in g in
      let q : total_in (from_packet n es) ≡ total_in (from_packet n r.second) = ap total_in g in
      let c : packets_in es ≡ packets_in r.second + 1 = counted k i left s es u r in
      let a : s.place.0 + 8 ≤ r.middle.place.0 = r.packet.takes in
      let h₁ : r.middle.place.0 ≤ place_in (from_packet n r.second) = f.from in
      let h₂ : place_in (from_packet n r.second) % 8 ≡ 0 = f.whole in
      let h₃ : total_in (from_packet n r.second) % 8 ≡ 0 = f.whole-total in
      let h₄ : 8 ≤ total_in (from_packet n r.second) = f.takes in
      let h₅ : place_in (from_packet n r.second) + total_in (from_packet n r.second) ≤ 8 * length b = f.in_stream in
      let h₆ : r.middle.place.0 + total_in (from_packet n r.second) + 8 * packets_in r.second ≤ 8 * length b + 8 = f.leaves in
      record {
        from = omega arith;
        whole = ap (λ x. x % 8) p ∙ h₂;
        whole-total = ap (λ x. x % 8) q
            ∙ h₃;
        takes = omega arith;
        in_stream = omega arith;
        leaves = omega arith;
      }

  found : (left n k : ℕ) (i : Option ℕ) (s : State) (es : List Entry) (u : State) → s.place.0 % 8 ≡ 0
      → read_packets t b k i left s ≡ go es u → k ≤ n
      → n < k + packets_in es → PacketShown n s es
  found zero n k i s es u z q l h =
      let e : packets_in es ≡ 0 = ap packets_in (none_left k i s es u q) ∙ (unfold packets_in in refl) in
      absurd (omega arith)
  found (suc left) n k i s es u z q l h =
      by (round k i left s es u z q) (λ m fs z q l h. found left n (k + 1) (Some m.said.stream) m fs u z q l h)
    where
      by : (es ≡ []) ⊎ Round k i left s es u
          → ((m : State) (fs : List Entry) → m.place.0 % 8 ≡ 0 → read_packets t b (k + 1) (Some m.said.stream) left m ≡ go fs u
          → k + 1 ≤ n
          → n < k + 1 + packets_in fs → PacketShown n m fs) → PacketShown n s es
      by (inl e) rec =
          let c : packets_in es ≡ 0 = ap packets_in e ∙ (unfold packets_in in refl) in
          absurd (omega arith)
      by (inr r) rec = ⊎_elim
          (λ (g : k < n). found-later n k i left s es u (λ e. omega arith) r
          (rec r.middle r.second r.packet.whole r.goes_on (omega arith) (omega (arith, counted k i left s es u r))))
          (λ (g : n ≤ k). let e : k ≡ n = omega arith in subst (λ m. PacketShown m s es) e (found_here k i left s es u z r))
          (lt-or-ge k n)

  -- The stream without a packet

  module _ (place total : ℕ) (zp : place % 8 ≡ 0) (zt : total % 8 ≡ 0) (a_byte : 8 ≤ total) (in_stream : place + total ≤ 8 * length b) where
    abbrev shared : List ℕ
    shared = take (place / 8) b

    abbrev b' : List ℕ
    b' = shared ++ drop ((place + total) / 8) b

    shared-length : length shared ≡ place / 8
    shared-length = length-take-le (place / 8) b (omega arith)

    b'-length : 8 * length b ≡ 8 * length b' + total
    b'-length =
        let n : length b' ≡ length shared + length (drop ((place + total) / 8) b) = length-append shared (drop ((place + total) / 8) b) in
        let m : length (drop ((place + total) / 8) b) ≡ length b - (place + total) / 8 = length-drop ((place + total) / 8) b in
        omega (arith, shared-length)

    gap : Gap b b' total ((place + total) / 8)
    gap = record { whole = zt; lengths = b'-length; tail = tail }
      where
        tail : (q : ℕ) → (place + total) / 8 ≤ q → drop q b ≡ drop (q - total / 8) b'
        tail q l =
            let m : ℕ = q - (place + total) / 8 in
            let x : (place + total) / 8 + m ≡ q = omega arith in
            let y : place / 8 + m ≡ q - total / 8 = omega arith in
            ap (λ n. drop n b) (sym x) ∙ sym (drop-drop m ((place + total) / 8) b)
            ∙ ap (drop m) (sym (drop_at shared (drop ((place + total) / 8) b) (place / 8) shared-length))
            ∙ drop-drop m (place / 8) b' ∙ ap (λ n. drop n b') y

    record Removed (n k : ℕ) (i : Option ℕ) (left : ℕ) (s : State) (es : List Entry) (u : State) : Type 0 where
      u' : State
      goes : read_packets t b' k i left s ≡ go (before_packet n es ++ map (lower total) (from_packet (suc n) es)) u'
      end : u'.place.0 + total ≡ u.place.0

    -- the packet itself
    removed-here : (k : ℕ) (i : Option ℕ) (left : ℕ) (s : State) (es : List Entry) (u : State) → s.place.0 % 8 ≡ 0
        → 8 * length b ≤ s.place.0 + 8 * suc left
        → Round k i left s es u → place_in (from_packet k es) ≡ place → total_in (from_packet k es) ≡ total → Removed k k i (suc left) s es u
    removed-here k i left s es u z f r p q =
        record { u' = x.u'; goes = rounds ∙ x.goes ∙ ap (λ l. go l x.u') (sym list); end = x.place }
      where
        at : s.place.0 ≡ place
        at = sym (place_here k i left s es u r) ∙ p

        to : s.place.0 + total ≡ r.middle.place.0
        to = ap (λ n. s.place.0 + n) (sym q) ∙ total_here k i left s es u r

        j : ℕ
        j = r.middle.said.stream

        class-is : j ≡ r.packet.ran.s₁.said.stream
        class-is = ends-class t b s.place _ i (less s) r.packet.others r.middle r.packet.ran only

        class-found : t.stream j ≡ Some r.packet.ran.c
        class-found = ends_found t b s.place _ i (less s) r.packet.others r.middle r.packet.ran only

        o : Onwards t total ((place + total) / 8) (k + 1) k (Some j) i r.middle s
        o = record {
          place = to;
          whole = r.packet.whole;
          behind = omega (arith, at, to);
          room = packet-spent t b k i s r.first r.middle r.goes;
          number = refl;
          class = j;
          first = refl;
          same = ap (λ n. differs n i) class-is ∙ r.packet.ran.same;
          last = λ c h timed.
              let e : Some r.packet.ran.c ≡ Some c = sym class-found ∙ h in
              let g : r.packet.ran.c ≡ c = cc in
              ends-no-earlier t b s.place _ i (less s) r.packet.others r.middle r.packet.ran only (ap (λ d. d.timed) g
              ∙ timed);
        }

        x : Rest t w only b b' total ((place + total) / 8) gap k i left s r.second u
        x = onward-packets t w only b b' total ((place + total) / 8) gap left (k + 1) k (Some j) i r.middle s r.second u o r.goes_on

        rounds : read_packets t b' k i (suc left) s ≡ read_packets t b' k i left s
        rounds =
            let e : suc left ≡ left + 1 = omega arith in
            ap (λ n. read_packets t b' k i n s) e ∙ packet-rounds t w b' k i left 1 s z (omega (arith, b'-length))

        later : from_packet (suc k) es ≡ r.second
        later =
            let e : suc k ≡ k + 1 = omega arith in
            from-later k i left s es u r (suc k) (λ d. omega arith) ∙ ap (λ n. from_packet n r.second) e
            ∙ from_first left (k + 1) (Some j) r.middle r.second u r.packet.whole r.goes_on

        list : before_packet k es ++ map (lower total) (from_packet (suc k) es) ≡ map (lower total) r.second
        list = ap (λ l. l ++ map (lower total) (from_packet (suc k) es)) (before_here k i left s es u r) ∙ ap (map (lower total)) later

    -- a packet before it
    removed-later : (n k : ℕ) (i : Option ℕ) (left : ℕ) (s : State) (es : List Entry) (u : State) → s.place.0 % 8 ≡ 0 → k < n
        → (r : Round k i left s es u)
        → r.middle.place.0 ≤ place → Removed n (k + 1) (Some r.middle.said.stream) left r.middle r.second u
        → Removed n k i (suc left) s es u
    unfolding read_packets
    removed-later n k i left s es u z h r l x = record { u' = x.u'; goes = ap whole test ∙ both; end = x.end }
      where
        next : Step
        next s = read_packets t b' (k + 1) (Some s.said.stream) left s

        whole : Bool → Out
        whole y = elim y [ true ↦ (read_packet t b' k i ⨾ next) s | false ↦ pass s ]

        test : ltb s.place.0 (8 * length b') ≡ true
        test =
            let a : s.place.0 + 8 ≤ r.middle.place.0 = r.packet.takes in
            let c : s.place.0 < 8 * length b' = omega (arith, b'-length) in
            lt-ltb _ _ c

        here : read_packet t (shared ++ drop (place / 8) b) k i s ≡ go r.first r.middle
        here = ap (λ l. read_packet t l k i s) (take-append-drop (place / 8) b) ∙ r.goes

        there : read_packet t b' k i s ≡ go r.first r.middle
        there =
            let a : s.place.0 + 8 ≤ r.middle.place.0 = r.packet.takes in
            let m : length (drop (place / 8) b) ≡ length b - place / 8 = length-drop (place / 8) b in
            same-packet t shared (drop (place / 8) b) (drop ((place + total) / 8) b) k i s r.first r.middle z
            (omega (arith, shared-length)) (omega (arith, shared-length)) (omega arith) here

        list : r.first ++ (before_packet n r.second ++ map (lower total) (from_packet (suc n) r.second))
            ≡ before_packet n es ++ map (lower total) (from_packet (suc n) es)
        list =
            sym (append_assoc r.first (before_packet n r.second) (map (lower total) (from_packet (suc n) r.second)))
            ∙ (λ j. sym (before-later k i left s es u r n (λ d. omega arith)) j ++ map (lower total)
            (sym (from-later k i left s es u r (suc n) (λ d. omega arith)) j))

        both : (read_packet t b' k i ⨾ next) s ≡ go (before_packet n es ++ map (lower total) (from_packet (suc n) es)) x.u'
        both = join (read_packet t b' k i) next s r.first r.middle _ x.u' there x.goes ∙ ap (λ l. go l x.u') list

    removed : (left n k : ℕ) (i : Option ℕ) (s : State) (es : List Entry) (u : State) → s.place.0 % 8 ≡ 0
        → 8 * length b ≤ s.place.0 + 8 * left
        → read_packets t b k i left s ≡ go es u → k ≤ n → n < k + packets_in es → place_in (from_packet n es) ≡ place
        → total_in (from_packet n es) ≡ total
        → Removed n k i left s es u
    removed zero n k i s es u z f q l h p c =
        let e : packets_in es ≡ 0 = ap packets_in (none_left k i s es u q) ∙ (unfold packets_in in refl) in
        absurd (omega arith)
    removed (suc left) n k i s es u z f q l h p c =
        by (round k i left s es u z q) (λ m fs z f q l h p c. removed left n (k + 1) (Some m.said.stream) m fs u z f q l h p c)
      where
        by : (es ≡ []) ⊎ Round k i left s es u
            → ((m : State) (fs : List Entry) → m.place.0 % 8 ≡ 0 → 8 * length b ≤ m.place.0 + 8 * left
            → read_packets t b (k + 1) (Some m.said.stream) left m ≡ go fs u
            → k + 1 ≤ n → n < k + 1 + packets_in fs → place_in (from_packet n fs) ≡ place → total_in (from_packet n fs) ≡ total
            → Removed n (k + 1) (Some m.said.stream) left m fs u) → Removed n k i (suc left) s es u
        by (inl e) rec =
            let d : packets_in es ≡ 0 = ap packets_in e ∙ (unfold packets_in in refl) in
            absurd (omega arith)
        by (inr r) rec = ⊎_elim before here (lt-or-ge k n)
          where
            before : k < n → Removed n k i (suc left) s es u
            before g =
                let m : n < k + 1 + packets_in r.second = omega (arith, counted k i left s es u r) in
                let v : from_packet n es ≡ from_packet n r.second = from-later k i left s es u r n (λ d. omega arith) in
                let a : place_in (from_packet n r.second) ≡ place = ap place_in (sym v) ∙ p in
                let y : PacketShown n r.middle r.second =
                found left n (k + 1) (Some r.middle.said.stream) r.middle r.second u r.packet.whole r.goes_on
                (omega arith) m in
                let d : r.middle.place.0 ≤ place_in (from_packet n r.second) = y.from in
                removed-later n k i left s es u z g r (omega arith)
                (rec r.middle r.second r.packet.whole (omega (arith, r.packet.takes)) r.goes_on (omega arith) m a
                (ap total_in (sym v) ∙ c))

            here : n ≤ k → Removed n k i (suc left) s es u
            here g =
                let e : k ≡ n = omega arith in
                subst (λ m. Removed m k i (suc left) s es u) e
                (removed-here k i left s es u z f r (ap (λ m. place_in (from_packet m es)) e ∙ p) (ap (λ m. total_in (from_packet m es)) e ∙ c))

  -- The reading

  module _ (room n : ℕ) where
    abbrev Without : Reading → Type 0
    Without r = number_of r.verdict ≡ 0 → 1 < packets_in r.entries → n < packets_in r.entries
        → read_stream t (bytes_without n r.entries b) room
        ≡ record {
          entries = list_without n r.entries;
          verdict =
              Accepted (bit_place (8 * length b - total_in (from_packet n r.entries)));
        }

    module _ (es : List Entry) (u : State) (q : read_packets t b 0 None (length b) (begin room) ≡ go es u)
        (size : eqb (length b) 0 || ltb stream_limit (length b) ≡ false) (two : 1 < packets_in es) (one : n < packets_in es) where
      abbrev place : ℕ
      place = place_in (from_packet n es)

      abbrev total : ℕ
      total = total_in (from_packet n es)

      at_zero : (begin room).place.0 ≡ 0
      unfolding begin
      at_zero = refl

      whole-start : (begin room).place.0 % 8 ≡ 0
      unfolding begin
      whole-start = refl

      f : PacketShown n (begin room) es
      f = found (length b) n 0 None (begin room) es u whole-start q (omega arith) (omega arith)

      abbrev left : List ℕ
      left = take (place / 8) b ++ drop ((place + total) / 8) b

      x : Removed place total f.whole f.whole-total f.takes f.in_stream n 0 None (length b) (begin room) es u
      x = removed place total f.whole f.whole-total f.takes f.in_stream (length b) n 0 None (begin room) es u whole-start
          (omega arith) q
          (omega arith) (omega arith) refl refl

      left-length : 8 * length b ≡ 8 * length left + total
      left-length = b'-length place total f.whole f.whole-total f.takes f.in_stream

      -- the rest is not empty, and no longer than the whole
      left-size : eqb (length left) 0 || ltb stream_limit (length left) ≡ false
      left-size =
          let s = or-false (eqb (length b) 0) (ltb stream_limit (length b)) size in
          let m : length b ≤ stream_limit = ltb-false _ _ s.1 in
          let h : (begin room).place.0 + total + 8 * packets_in es ≤ 8 * length b + 8 = f.leaves in
          let a : length left ≡ 0 → ⊥ = λ e. omega (arith, left-length, at_zero) in
          let c : length left ≤ stream_limit = omega (arith, left-length) in
          ap (λ y. y || ltb stream_limit (length left)) (ne_eqb (length left) 0 a) ∙ le-ltb _ _ c

      ends : u.place.0 ≡ 8 * length b
      ends = subst (Onward (λ s. s.place.0 ≡ 8 * length b)) q
          (go-packets t w b 0 None (length b) (begin room) whole-start (omega (arith, at_zero)) (omega arith)).1

      -- as many rounds as it has bytes
      rounds : read_packets t left 0 None (length left) (begin room) ≡ read_packets t left 0 None (length b) (begin room)
      rounds =
          let e : length b ≡ length left + total / 8 = omega (arith, left-length, f.whole-total) in
          sym (ap (λ m. read_packets t left 0 None m (begin room)) e
          ∙ packet-rounds t w left 0 None (length left) (total / 8) (begin room) whole-start (omega arith))

      end-place : x.u'.place ≡ bit_place (8 * length b - total)
      end-place =
          let e : x.u'.place.0 + total ≡ 8 * length b = x.end ∙ ends in
          let p : x.u'.place.0 ≡ 8 * length b - total = omega arith in
          ap bit_place p

      without : read_stream t (bytes_without n es b) room
          ≡ record { entries = list_without n es; verdict = Accepted (bit_place (8 * length b - total)) }
      unfolding read_stream bytes_without list_without ended
      without =
          ap (λ y. elim y [
            | true ↦ record { entries = []; verdict = Refused (stop_at StreamSize (bit_place 0)) }
            | false ↦ ended (read_packets t left 0 None (length left) (begin room))
          ]) left-size
          ∙ ap ended (rounds ∙ x.goes)
          ∙ ap (λ p. record { entries = before_packet n es ++ map (lower total) (from_packet (suc n) es); verdict = Accepted p }) end-place

    stream-without : Without (read_stream t b room)
    stream-without = by (eqb (length b) 0 || ltb stream_limit (length b)) refl
      where
        of : (o : Out) → read_packets t b 0 None (length b) (begin room) ≡ o → eqb (length b) 0 || ltb stream_limit (length b) ≡ false
            → Without (ended o)
        of (stop es v) q h z = unfold ended number_of in absurd (omega (arith, (refusal_number-bounds v.why).0))
        of (go es u) q h z = unfold ended in λ two one. without es u q h two one

        reading : Bool → Reading
        reading y = elim y [
          | true ↦ record { entries = []; verdict = Refused (stop_at StreamSize (bit_place 0)) }
          | false ↦ ended (read_packets t b 0 None (length b) (begin room))
        ]

        is : read_stream t b room ≡ reading (eqb (length b) 0 || ltb stream_limit (length b))
        is = unfold read_stream in refl

        by : (y : Bool) → eqb (length b) 0 || ltb stream_limit (length b) ≡ y → Without (read_stream t b room)
        by true h = subst Without (sym (is ∙ ap reading h)) (unfold number_of refusal_number in λ z. absurd (omega arith))
        by false h = subst Without (sym (is ∙ ap reading h)) (of (read_packets t b 0 None (length b) (begin room)) refl h)

-- All of it

abbrev OfParsed : List ℕ → List ℕ → ℕ → ℕ → Parsed Table → Type 0
OfParsed x b room k p =
    number_of (read_parsed x p b room).verdict ≡ 0 → 1 < packets_in (read_parsed x p b room).entries
    → k < packets_in (read_parsed x p b room).entries
    → read_parsed x p (bytes_without k (read_parsed x p b room).entries b) room
    ≡ record {
      entries = list_without k (read_parsed x p b room).entries;
      verdict = Accepted (bit_place (8 * length b - total_in (from_packet k (read_parsed x p b room).entries)));
    }

pub apart : Apart
unfolding read_all
apart x b room k = by (parse x) refl
  where
    by : (p : Parsed Table) → parse x ≡ p → OfParsed x b room k p
    by (bad n y) e = unfold read_parsed number_of in λ z. absurd (omega arith)
    by (good t y) e = unfold read_parsed in stream-without (asked t) (accepted-positive x t y e) (header-only x t y e) b room k

-- Figures, by computation

pub apart-figures : ApartFigures
unfolding opened three_packets last_unstated starts_packet before_packet from_packet place_in total_in packets_in number_lower lower list_without
    bytes_without
apart-figures = record {
  three = refl;
  without-first = refl;
  without-middle = refl;
  without-last = refl;
  list = refl;
  two = refl;
  without-stated = refl;
  without-unstated = refl;
}
