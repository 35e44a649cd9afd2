-- An event that goes through does so at another place too, and where the last event's clock was lower; it lists the same. 39 alone looks
-- at that clock, and behind 39 it is the event's own in both. So do all events of a packet; where there is none, the last clock stays
-- lower.
use mathlib.Core.Path.{◌≡◌, refl, sym, ap, ◌∙◌, subst}
use mathlib.Core.Logic.{inl, inr}
use Prim.Native.Nat.{ℕ, zero, suc, ◌+◌, ◌-◌, ◌≤◌}
use native.Mathlib.Omega.{arith}
use native.Mathlib.Nat.{le_refl}
use mathlib.Core.List.{List}
use mathlib.Core.Bool.{Bool, true, false, ◌&&◌}
use lib.Dec.{ltb}
use borrow.Author.Tests.{ltb-false, le-ltb}
use Rattle.rules.specs.declared.Entry.{Entry}
use Rattle.rules.specs.declared.Refusal.TheVariants.{ClockWentBack, ListFull}
use Rattle.rules.specs.Place.{bit_place}
use Rattle.rules.specs.Entry.{event_starts}
use Rattle.rules.specs.Step.{State, Out, stop, go, Step, ◌⨾◌, check, due, listed, change, with_last}
use Rattle.rules.specs.Table.{StreamClass, Asked}
use Rattle.rules.specs.Field.{Env}
use Rattle.rules.specs.Packet.{mark, start_event, read_event, end_packet, read_events, header_number}
use Rattle.laws.specs.Between.{Between}
use Rattle.laws.proofs.Triple.{Ok}
use Rattle.laws.proofs.Between.{Held, In, At, NoMore, Holding}
use Rattle.laws.specs.Far.{away, far_entry, far_all, far, far_out, Rel}
use Rattle.laws.proofs.Far.{far-append, Exact}
use Rattle.laws.specs.Far.{Like}
use Rattle.laws.proofs.Pair.{Pair, pair-root, exact-change, exact-due}
use Rattle.packet_alone.proofs.LowClock.{Low}
use Rattle.packet_alone.proofs.Through.{Split, split, join, passed, pass-check, do-change}
use Rattle.packet_alone.proofs.Beside.{same, Alike, held-here, held-change, held-check, pair-due, pair_found, pair-moved, pair-event}
use Rattle.packet_alone.proofs.Beside.{◌⨾ᵖ◌, body, end_same, before-bound, loops}

pub low_same : (c : StreamClass) → Low c same
low_same c q n = le_refl n

-- what stands beside an outcome that goes on
pub out_of : (e e' : Env) (l : ℕ → ℕ) (o o' : Out) (es : List Entry) (u : State) → Rel e e' l o o' → o ≡ go es u
    → o' ≡ go (far_all e e' es) (far e e' l u)
unfolding far_out
out_of e e' l o o' es u (inl p) q = p ∙ ap (far_out e e' l) q
out_of e e' l o o' es u (inr c) q = let z : stop c.es c.v ≡ go es u = sym c.stops
    ∙ q in let w : ◌≡◌ {A = ℕ} 0 1 = cc in absurd (omega arith)

-- where it went on, the place is still in the packet
pub still-in : (e e' : Env) (y : Like e e') (l : ℕ → ℕ) {m m' : Step} → Pair e e' y l m m' → (s : State) (es : List Entry) (u : State)
    → Between e s.place.0 → m s ≡ go es u → Between e u.place.0
still-in e e' y l {m} {m'} h s es u b q =
    let x = subst (Ok (In e) (At e) (NoMore e) (Held e (λ p d. 0 ≤ p))) q
    ((h.held 0).at s (record { from = b.0; to = b.1; kept = omega arith })) in
    (x.1.from, x.1.to)

module _ (e e' : Env) (y : Like e e') (l : ℕ → ℕ) where
  abbrev there : State → State
  there s = far e e' l s

  abbrev settled : State → State
  settled s = far e e' same s

  -- where the first goes through, so does the second, from the lower clock; behind it the clocks are the same
  record Lowers (n n' : Step) : Type 0 where
    at : (s : State) (es : List Entry) (u : State) → Between e s.place.0 → n s ≡ go es u
        → n' (there s) ≡ go (far_all e e' es) (settled u)

  lowers-seq : {m n m' n' : Step} → Pair e e' y l m m' → Lowers n n' → Lowers (m ⨾ n) (m' ⨾ n')
  lowers-seq {m} {n} {m'} {n'} h k = record {
    at = λ s es u b q.
        let g = split m n s es u q in
        let p : m' (there s) ≡ go (far_all e e' g.first) (there g.middle) =
        out_of e e' l (m s) (m' (there s)) g.first g.middle (h.rel s b) g.goes in
        let r : n' (there g.middle) ≡ go (far_all e e' g.second) (settled u) =
        k.at g.middle g.second u (still-in e e' y l h s g.first g.middle b g.goes) g.goes_on in
        join m' n' (there s) (far_all e e' g.first) (there g.middle) (far_all e e' g.second) (settled u) p r
        ∙ ap (λ w. go w (settled u)) (sym (far-append e e' g.first g.second) ∙ ap (far_all e e') (sym g.list));
  }

  pair-exact : {m m' : Step} → Exact e e' m m' → ((q : ℕ) → Holding e (λ p d. q ≤ p) m) → ((q : ℕ) → Holding e' (λ p d. q ≤ p) m')
      → Pair e e' y l m m'
  pair-exact x h h' = record { rel = λ s b. inl (x.at l s); held = h; held' = h' }

  low-due : Pair e e' y l due due
  unfolding due
  low-due = pair-exact (exact-due e e' y) (λ q. held-check e e' y e q _ ListFull) (λ q. held-check e e' y e' q _ ListFull)

  low-mark : (k n v : ℕ) → Pair e e' y l (mark k n v) (mark k n v)
  low-mark k n v = pair-exact (record { at = λ l s. unfold mark listed far_out far_all far_entry far in refl })
      (λ q. held-here e e' y e q k n v) (λ q. held-here e e' y e' q k n v)

  low-start : Pair e e' y l (change start_event) (change start_event)
  unfolding start_event far
  low-start = pair-exact (exact-change e e' y start_event (λ l s. refl))
      (λ q. held-change e e' y e q start_event (λ s. refl)) (λ q. held-change e e' y e' q start_event (λ s. refl))

  -- 39, and the last clock is set
  module _ (c : StreamClass) (low : Low c l) where
    abbrev went_back : State → Bool
    went_back s = c.timed && ltb s.clock s.last

    abbrev back : Step
    back = check went_back ClockWentBack

    abbrev own_clock : State → State
    own_clock s = with_last s.clock s

    lower-test : (a b : ℕ) (t : Bool) → (t ≡ true → l b ≤ b) → t && ltb a b ≡ false → t && ltb a (l b) ≡ false
    lower-test a b false h q = refl
    lower-test a b true h q =
        let u : b ≤ a = ltb-false a b q in
        let v : l b ≤ a = omega (arith, h refl) in
        le-ltb a (l b) v

    test-there : (s : State) → went_back s ≡ false → went_back (there s) ≡ false
    unfolding far
    test-there s q = lower-test s.clock s.last c.timed (λ r. low r s.last) q

    set_there : (s : State) → own_clock (there s) ≡ settled (own_clock s)
    unfolding with_last far
    set_there s = refl

    still : (s : State) → Between e s.place.0 → Between e (own_clock s).place.0
    unfolding with_last
    still s b = b

    lowers-back : {m m' : Step} → Alike e e' y m m' → Lowers (back ⨾ change own_clock ⨾ m) (back ⨾ change own_clock ⨾ m')
    lowers-back {m} {m'} h = record {
      at = λ s es u b q.
          let t : went_back s ≡ false = passed went_back ClockWentBack (change own_clock ⨾ m) s es u q in
          let g : m (own_clock s) ≡ go es u = sym (do-change own_clock m s)
          ∙ sym (pass-check went_back ClockWentBack (change own_clock ⨾ m) s t) ∙ q in
          pass-check went_back ClockWentBack (change own_clock ⨾ m') (there s) (test-there s t)
          ∙ do-change own_clock m' (there s) ∙ ap m' (set_there s)
          ∙ out_of e e' same (m (own_clock s)) (m' (settled (own_clock s))) es u (h.rel (own_clock s) (still s b)) g;
    }

    -- an event
    pub lowers-event : (t : Asked) (n : ℕ) (s : State) (es : List Entry) (u : State) → Between e s.place.0
        → read_event t c e n s ≡ go es u → read_event t c e' n (there s) ≡ go (far_all e e' es) (settled u)
    unfolding read_event far
    lowers-event t n s es u b q = whole.at s es u b q
      where
        whole : Lowers (body e e' y t c n e s) (body e e' y t c n e' (settled s))
        whole = lowers-seq low-due (lowers-seq (low-mark event_starts 0 n) (lowers-seq low-start
            (lowers-seq (pair-root e e' y l (header_number c) c.header)
            (lowers-back (◌⨾ᵖ◌ e e' y (pair-due e e' y) (◌⨾ᵖ◌ e e' y (pair_found e e' y t c n) (pair-moved e e' y t c n s b)))))))

-- all events, where the bounds are as far: the last clock is as low as it was, or the last event's own
pub record Lowered (c : StreamClass) (e e' : Env) (o' : Out) (es : List Entry) (u : State) : Type 0 where
  pub l : ℕ → ℕ
  pub low : Low c l
  pub goes : o' ≡ go (far_all e e' es) (far e e' l u)

module _ (e e' : Env) (y : Like e e') (equal : e'.bound.0 - e'.start.0 ≤ e.bound.0 - e.start.0) (t : Asked) (c : StreamClass)
    (l : ℕ → ℕ) (low : Low c l) where
  pub lowers-events : (to n left : ℕ) (s : State) (es : List Entry) (u : State) → Between e s.place.0 → e.start.0 ≤ to
      → read_events t c e (bit_place to) n left s ≡ go es u
      → Lowered c e e' (read_events t c e' (bit_place (away e e' to)) n left (far e e' l s)) es u
  unfolding read_events
  lowers-events to n zero s es u b h q =
      record { l = l; low = low; goes = unfold far_out in (end_same e e' y l to n s b h ∙ ap (far_out e e' l) q) }
  lowers-events to n (suc left) s es u b h q = by (ltb s.place.0 e.bound.0) refl q
    where
      next : Step
      next = read_events t c e (bit_place to) (n + 1) left

      next' : Step
      next' = read_events t c e' (bit_place (away e e' to)) (n + 1) left

      bounds : ltb (far e e' l s).place.0 e'.bound.0 ≡ ltb s.place.0 e.bound.0
      bounds = unfold far in before-bound e e' y equal s b

      whole : Bool → Out
      whole x = elim x [ true ↦ (read_event t c e' n ⨾ next') (far e e' l s) | false ↦ end_packet (bit_place (away e e' to)) n (far e e' l s) ]

      by : (x : Bool) → ltb s.place.0 e.bound.0 ≡ x
          → elim x [ true ↦ (read_event t c e n ⨾ next) s | false ↦ end_packet (bit_place to) n s ] ≡ go es u
          → Lowered c e e' (whole (ltb (far e e' l s).place.0 e'.bound.0)) es u
      by false x q = record {
        l = l;
        low = low;
        goes =
            unfold far_out in (ap whole (bounds ∙ x) ∙ end_same e e' y l to n s b h ∙ ap (far_out e e' l) q);
      }
      by true x q = record { l = same; low = low_same c; goes = ap whole (bounds ∙ x) ∙ joined }
        where
          g : Split (read_event t c e n) next s es u
          g = split (read_event t c e n) next s es u q

          first : read_event t c e' n (far e e' l s) ≡ go (far_all e e' g.first) (far e e' same g.middle)
          first = lowers-event e e' y l c low t n s g.first g.middle b g.goes

          later : next' (far e e' same g.middle) ≡ go (far_all e e' g.second) (far e e' same u)
          later = unfold far_out in
              (loops e e' y equal t c to (n + 1) left g.middle
              (still-in e e' y same (pair-event e e' y t c n) s g.first g.middle b g.goes) h
              ∙ ap (far_out e e' same) g.goes_on)

          joined : (read_event t c e' n ⨾ next') (far e e' l s) ≡ go (far_all e e' es) (far e e' same u)
          joined = join (read_event t c e' n) next' (far e e' l s) (far_all e e' g.first) (far e e' same g.middle)
              (far_all e e' g.second) (far e e' same u) first later
              ∙ ap (λ w. go w (far e e' same u)) (sym (far-append e e' g.first g.second) ∙ ap (far_all e e') (sym g.list))
