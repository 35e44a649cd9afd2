-- Behind a removed packet: the reading of the whole stream beside that of the stream without it. From packet to packet one record says
-- how the two states differ (`Onwards`): place, room, number, first class and last clock. Each packet goes through in both, and lists the
-- same, lowered.
use Rattle.std.specs.Prelude.{None, Some, Option}
use mathlib.Core.Path.{◌≡◌, refl, sym, ap, ◌∙◌, subst}
use Prim.Native.Nat.{ℕ, zero, suc, ◌+◌, ◌-◌, ◌*◌, ◌/◌, ◌%◌, ◌≤◌, ◌<◌}
use native.Mathlib.Omega.{arith}
use mathlib.Core.List.{List, [], ◌∷◌, ◌++◌, map, append-nil}
use mathlib.Core.Bool.{Bool, true, false, not}
use lib.ListN.{length, drop, length-drop}
use lib.Dec.{ltb, eqb}
use borrow.Author.Tests.{eqb-true, eq-eqb, ne_eqb, not-false, ltb-true, ltb-false, lt-ltb, le-ltb}
use Rattle.rules.specs.declared.BitPlace.{BitPlace}
use Rattle.rules.specs.declared.Entry.{Entry}
use Rattle.rules.specs.Limits.{words_per_entry}
use Rattle.rules.specs.Place.{bit_place}
use Rattle.rules.specs.Slots.{no_slots}
use Rattle.rules.specs.Entry.{entry, packet_starts}
use Rattle.rules.specs.Step.{State, Out, go, Step, ◌⨾◌, pass}
use Rattle.rules.specs.Table.{StreamClass, Asked}
use Rattle.rules.specs.Field.{Env}
use Rattle.rules.specs.Packet.{differs, nothing_said, start_packet, read_packet, read_packets}
use Rattle.laws.specs.All.{All}
use Rattle.laws.proofs.Law.{Any}
use Rattle.laws.proofs.Accepted.{Fitting}
use Rattle.packet_alone.specs.Behind.{to_end, less, packet}
use Rattle.laws.specs.Far.{far_entry, far_all, far}
use Rattle.laws.specs.Far.{Like}
use Rattle.packet_alone.proofs.Through.{Split, split, join, do-change}
use Rattle.packet_alone.proofs.Ran.{Ran, run, run-whole, headed}
use Rattle.packet_alone.proofs.LowClock.{Low}
use Rattle.packet_alone.proofs.Roles.{HeaderOnly}
use Rattle.packet_alone.proofs.Ends.{ends-class, ends_found, any-first}
use Rattle.packet_alone.proofs.There.{RanThere, goes-there}
use Rattle.promises.specs.Apart.{number_lower, lower}
use Rattle.promises.proofs.TwoStates.{Onwards}
use Rattle.promises.proofs.Packets.{Positive}
use Rattle.promises.proofs.Room.{more, room-packet}
use Rattle.promises.proofs.Whole.{NotOf, if-false, Whole, whole-packet}

-- Small facts

-- ids that do not differ
pub same_id : (x j : ℕ) → differs x (Some j) ≡ false → x ≡ j
unfolding differs
same_id x j q = eqb-true x j (not-false (eqb x j) q)

pub no_other : (x : ℕ) → differs x (Some x) ≡ false
unfolding differs
no_other x = ap not (eq-eqb x x refl)

-- a change of the last clock that takes a to a' and raises none, where there is a clock
record Lowering (c : StreamClass) (a a' : ℕ) : Type 0 where
  l : ℕ → ℕ
  low : Low c l
  takes : l a ≡ a'

lowering : (c : StreamClass) (a a' : ℕ) → (c.timed ≡ true → a' ≤ a) → Lowering c a a'
lowering c a a' h = by c.timed refl
  where
    by : (x : Bool) → c.timed ≡ x → Lowering c a a'
    by true q = let m : a' ≤ a = h q in record { l = λ n. n - (a - a'); low = λ r n. omega arith; takes = omega arith }
    by false q = record {
      l = λ n. a';
      low = λ r n. let z : true ≡ false = sym r ∙ q in let w : ◌≡◌ {A = ℕ} 0 1 = cc in absurd (omega arith);
      takes = refl;
    }

-- a packet looks at place, room and last clock alone
packet-from : (t : Asked) (b : List ℕ) (p : BitPlace) (rest : ℕ) (i : Option ℕ) (s s' : State) → start_packet s ≡ start_packet s'
    → packet t b p rest i s ≡ packet t b p rest i s'
packet-from t b p rest i s s' q =
    do-change start_packet (headed t b p rest i) s ∙ ap (headed t b p rest i) q ∙ sym (do-change start_packet (headed t b p rest i) s')

-- The two streams: behind `from` bytes the second has what the first has, so many bits earlier

pub record Gap (b b' : List ℕ) (total from : ℕ) : Type 0 where
  pub whole : total % 8 ≡ 0
  pub lengths : 8 * length b ≡ 8 * length b' + total
  pub tail : (q : ℕ) → from ≤ q → drop q b ≡ drop (q - total / 8) b'

pub tail-like : (t : Asked) (b b' : List ℕ) (p p' : BitPlace) → drop (p.0 / 8) b ≡ drop (p'.0 / 8) b' → p.0 % 8 ≡ 0 → p'.0 % 8 ≡ 0
    → p.0 ≤ 8 * length b → p'.0 ≤ 8 * length b' → 8 * length b - p.0 ≡ 8 * length b' - p'.0 → Like (to_end t b p) (to_end t b' p')
tail-like t b b' p p' h z z' l l' n = record {
  w = drop (p.0 / 8) b;
  post = [];
  post' = [];
  here = sym (append-nil (drop (p.0 / 8) b));
  there = sym h ∙ sym (append-nil (drop (p.0 / 8) b));
  whole = z;
  whole' = z';
  covers = omega (arith, length-drop (p.0 / 8) b);
  inside = l;
  inside' = l';
  narrower = omega arith;
  uuids = refl;
}

-- Entries lowered are entries moved

pub map-append : (f : Entry → Entry) (es fs : List Entry) → map f (es ++ fs) ≡ map f es ++ map f fs
map-append f [] fs = refl
map-append f (x ∷ es) fs = ap (λ l. f x ∷ l) (map-append f es fs)

lower-one : (e e' : Env) (total : ℕ) → e'.start.0 + total ≡ e.start.0 → (x : Entry) → NotOf packet_starts x → e.start.0 ≤ x.place.0
    → lower total x ≡ far_entry e e' x
unfolding lower number_lower far_entry
lower-one e e' total h x n l =
    let p : x.place.0 - total ≡ e'.start.0 + (x.place.0 - e.start.0) = omega arith in
    ap (λ v. entry x.kind (bit_place (x.place.0 - total)) x.bits v x.number)
    (if-false (eqb x.kind packet_starts) _ _ (ne_eqb x.kind packet_starts n))
    ∙ ap (λ z. entry x.kind (bit_place z) x.bits x.value x.number) p

lower-all : (e e' : Env) (total : ℕ) → e'.start.0 + total ≡ e.start.0 → (es : List Entry) → All (NotOf packet_starts) es
    → All (λ x. e.start.0 ≤ x.place.0) es
    → map (lower total) es ≡ far_all e e' es
unfolding far_all
lower-all e e' total h [] n l = refl
lower-all e e' total h (x ∷ es) n l = λ z. lower-one e e' total h x n.0 l.0 z ∷ lower-all e e' total h es n.1 l.1 z

-- Onwards

module _ (t : Asked) (w : Fitting Positive (λ r. Any) Any t) (only : HeaderOnly t) (b b' : List ℕ) (total from : ℕ)
    (gap : Gap b b' total from) where
  -- a packet, and where it leaves the two
  pub record Next (k k' : ℕ) (i' : Option ℕ) (s' : State) (es : List Entry) (u : State) : Type 0 where
    pub u' : State
    pub goes : read_packet t b' k' i' s' ≡ go (map (lower total) es) u'
    pub onwards : Onwards t total from (k + 1) (k' + 1) (Some u.said.stream) (Some u'.said.stream) u u'

  module _ (k k' : ℕ) (i i' : Option ℕ) (s s' : State) (es : List Entry) (u : State) (o : Onwards t total from k k' i i' s s')
      (l : s.place.0 < 8 * length b) (q : read_packet t b k i s ≡ go es u) where
    abbrev e : Env
    e = to_end t b s.place

    abbrev e' : Env
    e' = to_end t b' s'.place

    abbrev rest : ℕ
    rest = 8 * length b - s.place.0

    x : Whole t b k i s es u
    x = whole-packet t w b k i s es u l o.whole q

    y : Like e e'
    y = tail-like t b b' s.place s'.place
        (gap.tail (s.place.0 / 8) (omega (arith, o.behind))
        ∙ ap (λ n. drop n b') bytes) o.whole (omega (arith, o.whole, o.place, gap.whole))
        (omega arith) (omega (arith, o.place, gap.lengths)) (omega (arith, o.place, gap.lengths))
      where
        bytes : s.place.0 / 8 - total / 8 ≡ s'.place.0 / 8
        bytes = omega (arith, o.place, o.whole, gap.whole)

    -- the class is the one of the packets before
    class-is : u.said.stream ≡ o.class
    class-is = ends-class t b s.place rest i (less s) x.others u x.ran only
        ∙ same_id _ _ (subst (λ z. differs x.ran.s₁.said.stream z ≡ false) o.first x.ran.same)

    anew : Ran t b s.place rest i' (less s) x.others u
    anew = any-first t b s.place rest i (less s) x.others u x.ran only i' (ap (λ z. differs z i') class-is ∙ o.same)

    found : t.stream u.said.stream ≡ Some anew.c
    found = ends_found t b s.place rest i' (less s) x.others u anew only

    lowered : Lowering anew.c s.last s'.last
    lowered = lowering anew.c s.last s'.last (o.last anew.c (ap t.stream (sym class-is) ∙ found))

    moved : RanThere t b b' s.place s'.place y lowered.l rest i' (less s) x.others u (omega arith, omega arith) anew
        lowered.low
    moved = goes-there t b b' s.place s'.place y lowered.l rest i' (less s) x.others u (omega arith, omega arith) anew
        lowered.low

    -- the state there, with as much room as here
    abbrev s'' : State
    s'' = record {
      place = s'.place;
      room = s.room;
      slots = s'.slots;
      order = s'.order;
      clock = s'.clock;
      last = s'.last;
      said = s'.said;
    }

    abbrev u'' : State
    u'' = far e e' moved.l₁ u

    starts : start_packet (less s'') ≡ start_packet (far e e' lowered.l (less s))
    unfolding start_packet far
    starts = sym (ap (λ z. start z (lowered.l s.last)) at ∙ ap (start s'.place.0) lowered.takes)
      where
        start : ℕ → ℕ → State
        start p n = record {
          place = bit_place p;
          room = s.room - words_per_entry;
          slots = no_slots;
          order = None;
          clock = 0;
          last =
              n;
          said = nothing_said;
        }

        at : s'.place.0 + (s.place.0 - s.place.0) ≡ s'.place.0
        at = omega arith

    behind-there : packet t b' s'.place (8 * length b' - s'.place.0) i' (less s'') ≡ go (far_all e e' x.others) u''
    behind-there =
        ap (λ n. packet t b' s'.place n i' (less s'')) rests
        ∙ packet-from t b' s'.place rest i' (less s'') (far e e' lowered.l (less s)) starts
        ∙ run t b' s'.place rest i' (far e e' lowered.l (less s)) (far_all e e' x.others) u'' moved.runs
      where
        rests : 8 * length b' - s'.place.0 ≡ rest
        rests = omega (arith, o.place, gap.lengths)

    list-there : map (lower total) es ≡ entry packet_starts s'.place 0 k' 0 ∷ far_all e e' x.others
    unfolding lower number_lower
    list-there =
        ap (map (lower total)) x.list
        ∙ (λ z. entry packet_starts (bit_place (place z)) 0 (number z) 0
        ∷ lower-all e e' total o.place x.others x.none x.behind z)
      where
        place : s.place.0 - total ≡ s'.place.0
        place = omega (arith, o.place)

        number : k - 1 ≡ k'
        number = omega (arith, o.number)

    goes-there-too : read_packet t b' k' i' s'' ≡ go (map (lower total) es) u''
    goes-there-too = run-whole t b' k' i' s'' (map (lower total) es) u''
        (record { room = x.room; others = far_all e e' x.others; behind = behind-there; list = list-there })

    abbrev d : ℕ
    d = s'.room - s.room

    with-room : more d s'' ≡ s'
    unfolding more
    with-room =
        let r : s.room + (s'.room - s.room) ≡ s'.room = omega (arith, o.room) in
        ap (λ z. record {
          place = s'.place;
          room = z;
          slots = s'.slots;
          order = s'.order;
          clock = s'.clock;
          last = s'.last;
          said =
              s'.said;
        }) r

    on : Onwards t total from (k + 1) (k' + 1) (Some u.said.stream) (Some (more d u'').said.stream) u (more d u'')
    unfolding more far
    on = record {
      place = omega (arith, o.place, x.takes);
      whole = x.whole;
      behind = omega (arith, o.behind, x.takes);
      room = omega arith;
      number = ap (λ n. n + 1) o.number;
      class = u.said.stream;
      first = refl;
      same = no_other u.said.stream;
      last = λ c f timed.
          let g : Some anew.c ≡ Some c = sym found ∙ f in
          let h : anew.c ≡ c = cc in
          subst (λ z. Low z moved.l₁) h moved.low₁ timed u.last;
    }

    pub onward-packet : Next k k' i' s' es u
    onward-packet = record {
      u' = more d u'';
      goes = ap (read_packet t b' k' i') (sym with-room) ∙ room-packet t b' k' i' d s'' (map (lower total) es) u'' goes-there-too;
      onwards = on;
    }

  -- all packets from there on
  pub record Rest (k' : ℕ) (i' : Option ℕ) (left : ℕ) (s' : State) (es : List Entry) (u : State) : Type 0 where
    pub u' : State
    pub goes : read_packets t b' k' i' left s' ≡ go (map (lower total) es) u'
    pub place : u'.place.0 + total ≡ u.place.0

  over : (k' : ℕ) (i' : Option ℕ) (left : ℕ) (s s' : State) (es : List Entry) (u : State) → s'.place.0 + total ≡ s.place.0
      → read_packets t b' k' i' left s' ≡ pass s' → pass s ≡ go es u → Rest k' i' left s' es u
  unfolding pass
  over k' i' left s s' es u p r q =
      let f : [] ≡ es = cc in
      let g : s ≡ u = cc in
      record { u' = s'; goes = r ∙ ap (λ l. go l s') (ap (map (lower total)) f); place = p ∙ ap (λ z. z.place.0) g }

  pub onward-packets : (left k k' : ℕ) (i i' : Option ℕ) (s s' : State) (es : List Entry) (u : State) → Onwards t total from k k' i i' s s'
      → read_packets t b k i left s ≡ go es u → Rest k' i' left s' es u
  unfolding read_packets
  onward-packets zero k k' i i' s s' es u o q = over k' i' zero s s' es u o.place refl q
  onward-packets (suc left) k k' i i' s s' es u o q = by (ltb s.place.0 (8 * length b)) refl q
      (λ m m' o' fs r. onward-packets left (k + 1) (k' + 1) (Some m.said.stream) (Some m'.said.stream) m m' fs u o' r)
    where
      next : Step
      next s = read_packets t b (k + 1) (Some s.said.stream) left s

      next' : Step
      next' s = read_packets t b' (k' + 1) (Some s.said.stream) left s

      whole : Bool → Out
      whole z = elim z [ true ↦ (read_packet t b' k' i' ⨾ next') s' | false ↦ pass s' ]

      ended : (x : Bool) → ltb s.place.0 (8 * length b) ≡ x → ltb s'.place.0 (8 * length b') ≡ x
      ended true h = let a : s.place.0 < 8 * length b = ltb-true _ _ h in
          let c : s'.place.0 < 8 * length b' = omega (arith, o.place, gap.lengths) in lt-ltb _ _ c
      ended false h = let a : 8 * length b ≤ s.place.0 = ltb-false _ _ h in
          let c : 8 * length b' ≤ s'.place.0 = omega (arith, o.place, gap.lengths) in le-ltb _ _ c

      by : (x : Bool) → ltb s.place.0 (8 * length b) ≡ x → elim x [ true ↦ (read_packet t b k i ⨾ next) s | false ↦ pass s ] ≡ go es u
          → ((m m' : State) → Onwards t total from (k + 1) (k' + 1) (Some m.said.stream) (Some m'.said.stream) m m'
          → (fs : List Entry) → next m ≡ go fs u → Rest (k' + 1) (Some m'.said.stream) left m' fs u)
          → Rest k' i' (suc left) s' es u
      by false h q rec = over k' i' (suc left) s s' es u o.place (ap whole (ended false h)) q
      by true h q rec = record { u' = r.u'; goes = ap whole (ended true h) ∙ both; place = r.place }
        where
          g : Split (read_packet t b k i) next s es u
          g = split (read_packet t b k i) next s es u q

          p : Next k k' i' s' g.first g.middle
          p = onward-packet k k' i i' s s' g.first g.middle o (ltb-true _ _ h) g.goes

          r : Rest (k' + 1) (Some p.u'.said.stream) left p.u' g.second u
          r = rec g.middle p.u' p.onwards g.second g.goes_on

          both : (read_packet t b' k' i' ⨾ next') s' ≡ go (map (lower total) es) r.u'
          both = join (read_packet t b' k' i') next' s' (map (lower total) g.first) p.u' (map (lower total) g.second) r.u'
              p.goes r.goes
              ∙ ap (λ l. go l r.u') (sym (map-append (lower total) g.first g.second) ∙ ap (map (lower total)) (sym g.list))
