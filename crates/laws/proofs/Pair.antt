-- Two readings of the same classes over bytes that agree: each step of the one beside that of the other, closed under composition.
use Rattle.std.specs.Prelude.{Option, None, Some}
use mathlib.Core.Path.{◌≡◌, refl, sym, ap, ◌∙◌, subst}
use mathlib.Core.Logic.{◌⊎◌, inl, inr, ⊎_elim}
use Prim.Native.Nat.{ℕ, ◌+◌, ◌-◌, ◌*◌, ◌/◌, ◌%◌, ◌^◌, ◌≤◌, ◌<◌}
use native.Mathlib.Omega.{arith}
use native.Mathlib.Nat.{le_refl}
use mathlib.Core.List.{List, [], ◌++◌, append-nil}
use mathlib.Core.Bool.{Bool, true, false, not, ◌&&◌}
use lib.ListN.{length, take, drop, length-take, length-drop}
use lib.Seq.{take-add}
use lib.Dec.{ltb, eqb}
use Rattle.rules.specs.declared.ByteLength.{ByteLength}
use Rattle.rules.specs.declared.Order.{Order}
use Rattle.rules.specs.declared.Content.{Content}
use Rattle.rules.specs.declared.Content.TheVariants.{Unset, Unsigned, Signed}
use Rattle.rules.specs.declared.Said.{Said}
use Rattle.rules.specs.declared.Leb.{Leb}
use Rattle.rules.specs.declared.Leb.TheVariants.{Value, Past, Large}
use Rattle.rules.specs.declared.Entry.{Entry}
use Rattle.rules.specs.declared.Refusal.{Refusal}
use Rattle.rules.specs.declared.Refusal.TheVariants.{PastBound, OrderChanged, NoZeroByte, SlotUnset, SlotOfWrongSort, NotText}
use Rattle.rules.specs.declared.Refusal.TheVariants.{LengthTooLarge, SelectorInNoOption, WrongMagic, WrongUuid, ClockTooLarge, ListFull}
use Rattle.rules.specs.declared.Stop.{Stop}
use Rattle.rules.specs.Bits.{bits}
use Rattle.rules.specs.Leb128.{leb_unsigned, leb_signed}
use Rattle.rules.specs.Clock.{clock_after}
use Rattle.rules.specs.Text.{text_length, zero_at}
use Rattle.rules.specs.Slots.{slot_at}
use Rattle.rules.specs.Entry.{entry, clock_advanced}
use Rattle.rules.specs.Verdict.{stop_at}
use Rattle.rules.specs.Step.{State, Out, stop, go, Step, onto, after, ◌⨾◌, refuse, refuse_at, check, check_at, due, listed, change, pass}
use Rattle.rules.specs.Step.{with_slots, with_order, with_clock, with_said}
use Rattle.rules.specs.Class.{Role, no_role, magic, stream_class_id, stream_id, uuid, total_length, content_length, clock, end_clock, discarded}
use Rattle.rules.specs.Class.{sequence, event_class_id}
use Rattle.rules.specs.Class.{Class, Sort, kind_of}
use Rattle.rules.specs.Field.{Env, aligned, fit, field, store, new_clock, say, role, same_bytes, blob_role, from_slot, value_of, slot_of}
use Rattle.rules.specs.Field.{other_order, turned, ahead, bytes_at, read_fixed, read_leb, as_text, read_zero, read_text, read_blob}
use Rattle.rules.specs.Packet.{read_root}
use Rattle.facts.proofs.Steps.{onto-nil, onto-onto, after-onto}
use Rattle.facts.proofs.Numbers.{lt-or-ge}
use Rattle.text.proofs.Laws.{zero-found}
use Rattle.laws.specs.Between.{Between}
use Rattle.laws.proofs.Law.{Any, AnyRecord, Law}
use Rattle.laws.proofs.Triple.{Ok, Triple, ok-after, then, passing, changing, refusing, checks, dued}
use Rattle.laws.proofs.Between.{Kept, Held, In, At, NoMore, Holding, held-law}
use Rattle.laws.proofs.Places.{align-one}
use Rattle.laws.proofs.Two.{Law2, two-root}
use Rattle.laws.specs.Far.{Like, away, far_entry, far_all, far, far_out}
use Rattle.laws.proofs.Far.{far-append, far-onto, Exact, exact-seq}
use Rattle.laws.specs.Far.{Cut, Rel}
use Rattle.laws.proofs.Far.{aligned-far, start-aligned, exact-field, exact-refuse, exact-large, exact-pass, rel-check, rel-due}
use Rattle.laws.proofs.Far.{rel-past, rel-fit}
use Rattle.laws.proofs.Agree.{piece, bits-same, leb-more, leb-signed-more, zero_more}

-- where a step goes on, the place is at or behind where it was
abbrev Whatever : Entry → Type 0
Whatever x = Unit {0}

abbrev Wherever : Stop → Type 0
Wherever v = Unit {0}

abbrev Why : Refusal → Type 0
Why r = Unit {0}

abbrev Onward : Step → Type 0
Onward m = (q : ℕ) → Triple Whatever Wherever Why (λ s. q ≤ s.place.0) m (λ s. q ≤ s.place.0)

onward-seq : {m n : Step} → Onward m → Onward n → Onward (m ⨾ n)
onward-seq h k q = then Whatever Wherever Why (h q) (k q)

onward-change : (f : State → State) → ((s : State) → (f s).place ≡ s.place) → Onward (change f)
onward-change f h q = changing Whatever Wherever Why f (λ s a. rw (h s) a)

onward-check : (t : State → Bool) (r : Refusal) → Onward (check t r)
onward-check t r q = checks Whatever Wherever Why (λ r i s a. tt) t r tt

onward-pass : Onward pass
onward-pass q = passing Whatever Wherever Why

onward-tick : (l c : ℕ) → Onward (λ s. listed (entry clock_advanced s.place l c 0) s.place s)
unfolding listed
onward-tick l c q = record { at = λ s a. ((tt, tt), a) }

onward-clock : (l : ℕ) (o : Option ℕ) → Onward (new_clock l o)
unfolding new_clock
onward-clock l None q = refusing Whatever Wherever Why (λ r i s a. tt) ClockTooLarge tt
onward-clock l (Some c) q = onward-seq (onward-tick l c) (onward-change (with_clock c) (λ s. unfold with_clock in refl)) q

onward-role : (r : Role) (l v : ℕ) → Onward (role r l v)
unfolding role say with_said
onward-role no_role l v = onward-pass
onward-role magic l v = onward-check _ WrongMagic
onward-role stream_class_id l v = onward-change _ (λ s. refl)
onward-role stream_id l v = onward-pass
onward-role uuid l v = onward-pass
onward-role total_length l v = onward-change _ (λ s. refl)
onward-role content_length l v = onward-change _ (λ s. refl)
onward-role clock l v =
    λ q. dued Whatever Wherever Why (λ r i s a. tt) tt (record { at = λ s a. (onward-clock l (clock_after s.clock l v) q).at s a })
onward-role end_clock l v = onward-change _ (λ s. refl)
onward-role discarded l v = onward-pass
onward-role sequence l v = onward-pass
onward-role event_class_id l v = onward-change _ (λ s. refl)

onward-order : (o : Option Order) → Onward (change (with_order o))
unfolding with_order
onward-order o = onward-change (with_order o) (λ s. refl)

onward-store : (i : ℕ) (x : Content) → Onward (store i x)
unfolding store with_slots
onward-store i x = onward-change _ (λ s. refl)

-- a test in front is passed where the whole goes on
through-if : (b : Bool) (v : Stop) (m : Step) (s : State) (fs : List Entry) (u : State)
    → after (elim b [ true ↦ stop [] v | false ↦ pass s ]) m ≡ go fs u → m s ≡ go fs u
unfolding after pass
through-if true v m s fs u q = let z : ◌≡◌ {A = ℕ} 0 1 = cc in absurd (omega arith)
through-if false v m s fs u q = sym (onto-nil (m s)) ∙ q

pub through : (t : State → Bool) (r : Refusal) (m : Step) (s : State) (fs : List Entry) (u : State) → (check t r ⨾ m) s ≡ go fs u
    → m s ≡ go fs u
unfolding check refuse ◌⨾◌
through t r m s fs u q = through-if (t s) _ m s fs u q

pub through-fit : (x : Env) (a n : ℕ) (m : Step) (s : State) (fs : List Entry) (u : State) → (fit x a n ⨾ m) s ≡ go fs u → m s ≡ go fs u
unfolding fit check_at refuse_at ◌⨾◌
through-fit x a n m s fs u q = through-if (ltb x.bound.0 ((aligned x a s).0 + n)) _ m s fs u q

pub onto-go : (es : List Entry) (o : Out) (fs : List Entry) (t : State) → onto es o ≡ go fs t → (gs : List Entry) × (o ≡ go gs t)
unfolding onto
onto-go es (stop gs v) fs t q = let z : ◌≡◌ {A = ℕ} 0 1 = cc in absurd (omega arith)
onto-go es (go gs u) fs t q = let p : u ≡ t = cc in (gs, ap (go gs) p)

-- a field of n bits, and what does not go back
reach-field : (x : Env) (m k a n v : ℕ) (rest : Step) → Onward rest → (s : State) (fs : List Entry) (t : State)
    → (field x m k a n v ⨾ rest) s ≡ go fs t → (aligned x a s).0 + n ≤ t.place.0
unfolding field listed ◌⨾◌
reach-field x m k a n v rest h s fs t q =
    let at : ℕ = (aligned x a s).0 + n in
    let ok : Ok Whatever Wherever Why (λ u. at ≤ u.place.0) (after (field x m k a n v s) rest) =
    ok-after Whatever Wherever Why (λ u. at ≤ u.place.0) (λ u. at ≤ u.place.0) (field x m k a n v s) rest ((tt, tt), le_refl at)
    (h at) in
    (subst (Ok Whatever Wherever Why (λ u. at ≤ u.place.0)) q ok).1

module _ (e e' : Env) (y : Like e e') where
  abbrev pub Beside : (ℕ → ℕ) → Out → Out → Type 0
  Beside l o o' = Rel e e' l o o'

  abbrev pub there : (ℕ → ℕ) → State → State
  there l s = far e e' l s

  fits : (l : ℕ → ℕ) (a n : ℕ) (m m' : Step) (s : State)
      → ((aligned e a s).0 + n ≤ e.bound.0 → Beside l (m s) (m' (there l s)))
      → ((aligned e' a (there l s)).0 + n ≤ e'.bound.0 → (fs : List Entry) (t : State) → m' (there l s) ≡ go fs t
      → (aligned e' a (there l s)).0 + n ≤ t.place.0)
      → Beside l ((fit e a n ⨾ m) s) ((fit e' a n ⨾ m') (there l s))
  fits = rel-fit e e' y.inside y.inside' y.narrower

  pub record Pair (l : ℕ → ℕ) (m m' : Step) : Type 0 where
    pub rel : (s : State) → Between e s.place.0 → Beside l (m s) (m' (there l s))
    pub held : (q : ℕ) → Holding e (λ p d. q ≤ p) m
    pub held' : (q : ℕ) → Holding e' (λ p d. q ≤ p) m'

  at_least : (x : Env) (q : ℕ) → Kept x Any (λ p d. q ≤ p)
  at_least x q = record { some_bits = λ n h. tt; moves = λ p p' d l k. omega arith; says = λ n p d d' w l k. k }

  pub from : (x : Env) (q : ℕ) → Law x AnyRecord Any Any Any (Holding x (λ p d. q ≤ p)) (Holding x (λ p d. q ≤ p))
  from x q = held-law x (at_least x q)

  -- the state there is between its start and bound
  pub there-between : (l : ℕ → ℕ) (s : State) → Between e s.place.0 → Between e' (there l s).place.0
  unfolding far
  there-between l s b = omega (arith, b.0, b.1, y.inside, y.inside', y.narrower)

  pub rel-onto : (l : ℕ → ℕ) (es : List Entry) (o o' : Out) → Beside l o o' → Beside l (onto es o) (onto (far_all e e' es) o')
  rel-onto l es o o' (inl p) = inl (ap (onto (far_all e e' es)) p ∙ far-onto e e' l es o)
  rel-onto l es o o' (inr c) = inr (record {
    es = es ++ c.es;
    v = c.v;
    stops = unfold onto in ap (onto es) c.stops;
    short = c.short;
    rest = c.rest;
    goes = ap (onto (far_all e e' es)) c.goes ∙ onto-onto (far_all e e' es) (far_all e e' c.es) c.rest
        ∙ ap (λ x. onto x c.rest) (sym (far-append e e' es c.es));
    wider = c.wider;
    beyond = λ fs t q. let g = onto-go (far_all e e' es) o' fs t q in c.beyond g.0 t g.1;
  })

  -- behind outcomes that stand beside each other
  same_after : (l : ℕ → ℕ) (o : Out) (n n' : Step) → Ok (In e) (At e) (NoMore e) (Held e (λ p d. 0 ≤ p)) o → Pair l n n'
      → Beside l (after o n) (after (far_out e e' l o) n')
  unfolding after far_out
  same_after l (stop es v) n n' ok k = inl refl
  same_after l (go es t) n n' ok k = rel-onto l es (n t) (n' (there l t)) (k.rel t (ok.1.from, ok.1.to))

  beyond-after : (a : ℕ) (o' : Out) (n' : Step) → Ok (In e') (At e') (NoMore e') (Held e' (λ p d. 0 ≤ p)) o'
      → ((q : ℕ) → Holding e' (λ p d. q ≤ p) n')
      → ((fs : List Entry) (t : State) → o' ≡ go fs t → a < t.place.0) → (fs : List Entry) (t : State) → after o' n' ≡ go fs t
      → a < t.place.0
  beyond-after a (stop es v) n' ok k h fs t q = unfold after in let z : ◌≡◌ {A = ℕ} 0 1 = cc in absurd (omega arith)
  beyond-after a (go es u) n' ok k h fs t q =
      let g : Ok (In e') (At e') (NoMore e') (Held e' (λ p d. u.place.0 ≤ p)) (after (go es u) n') =
      ok-after (In e') (At e') (NoMore e') (Held e' (λ p d. u.place.0 ≤ p)) (Held e' (λ p d. u.place.0 ≤ p)) (go es u) n'
      (ok.0, record { from = ok.1.from; to = ok.1.to; kept = le_refl u.place.0 }) (k u.place.0) in
      let x = subst (Ok (In e') (At e') (NoMore e') (Held e' (λ p d. u.place.0 ≤ p))) q g in
      let m : u.place.0 ≤ t.place.0 = x.1.kept in
      omega (arith, h es u refl)

  rel-after : (l : ℕ → ℕ) (o o' : Out) (n n' : Step) → Beside l o o' → Ok (In e) (At e) (NoMore e) (Held e (λ p d. 0 ≤ p)) o
      → Ok (In e') (At e') (NoMore e') (Held e' (λ p d. 0 ≤ p)) o' → Pair l n n' → Beside l (after o n) (after o' n')
  rel-after l o o' n n' (inl p) ok ok' k = subst (λ x. Beside l (after o n) (after x n')) (sym p) (same_after l o n n' ok k)
  rel-after l o o' n n' (inr c) ok ok' k = inr (record {
    es = c.es;
    v = c.v;
    stops = unfold after in ap (λ x. after x n) c.stops;
    short = c.short;
    rest = after c.rest n';
    goes = ap (λ x. after x n') c.goes ∙ after-onto (far_all e e' c.es) c.rest n';
    wider = c.wider;
    beyond = beyond-after (away e e' e.bound.0) o' n' ok' k.held' c.beyond;
  })

  -- Steps that do the same

  pub exact-check : (t t' : State → Bool) (r : Refusal) → ((l : ℕ → ℕ) (s : State) → t' (there l s) ≡ t s)
      → Exact e e' (check t r) (check t' r)
  unfolding check
  exact-check t t' r h =
      record { at = λ l s. ap (λ b. elim b [ true ↦ refuse r (there l s) | false ↦ pass (there l s) ]) (h l s) ∙ by l s (t s) }
    where
      by : (l : ℕ → ℕ) (s : State) (b : Bool)
          → elim b [ true ↦ refuse r (there l s) | false ↦ pass (there l s) ]
          ≡ far_out e e' l (elim b [ true ↦ refuse r s | false ↦ pass s ])
      by l s true = (exact-refuse e e' r).at l s
      by l s false = (exact-pass e e').at l s

  pub exact-change : (f : State → State) → ((l : ℕ → ℕ) (s : State) → f (there l s) ≡ there l (f s)) → Exact e e' (change f) (change f)
  unfolding change far_out far_all
  exact-change f h = record { at = λ l s. ap (go []) (h l s) }

  pub exact-due : Exact e e' due due
  unfolding due
  exact-due = exact-check _ _ ListFull (λ l s. unfold far in refl)

  exact-clock : (w : ℕ) (o : Option ℕ) → Exact e e' (new_clock w o) (new_clock w o)
  unfolding new_clock
  exact-clock w None = exact-refuse e e' ClockTooLarge
  exact-clock w (Some c) = exact-seq e e' here (exact-change (with_clock c) (λ l s. unfold with_clock far in refl))
    where
      here : Exact e e' (λ s. listed (entry clock_advanced s.place w c 0) s.place s)
          (λ s. listed (entry clock_advanced s.place w c 0) s.place s)
      here = record { at = λ l s. unfold listed far_out far_all far_entry far in refl }

  exact-say : (f : Said → Said) → Exact e e' (say f) (say f)
  unfolding say
  exact-say f = exact-change _ (λ l s. unfold with_said far in refl)

  exact-role : (r : Role) (w v : ℕ) → Exact e e' (role r w v) (role r w v)
  unfolding role far
  exact-role no_role w v = exact-pass e e'
  exact-role magic w v = exact-check _ _ WrongMagic (λ l s. refl)
  exact-role stream_class_id w v = exact-say _
  exact-role stream_id w v = exact-pass e e'
  exact-role uuid w v = exact-pass e e'
  exact-role total_length w v = exact-say _
  exact-role content_length w v = exact-say _
  exact-role clock w v = exact-seq e e' exact-due (record { at = λ l s. ticks l s })
    where
      ticks : (l : ℕ → ℕ) (s : State)
          → new_clock w (clock_after (there l s).clock w v) (there l s) ≡ far_out e e' l (new_clock w (clock_after s.clock w v) s)
      ticks l s = (exact-clock w (clock_after s.clock w v)).at l s
  exact-role end_clock w v = exact-say _
  exact-role discarded w v = exact-pass e e'
  exact-role sequence w v = exact-pass e e'
  exact-role event_class_id w v = exact-say _

  exact-blob : (r : Role) (b : List ℕ) → Exact e e' (blob_role e r b) (blob_role e' r b)
  unfolding blob_role
  exact-blob no_role b = exact-pass e e'
  exact-blob magic b = exact-pass e e'
  exact-blob stream_class_id b = exact-pass e e'
  exact-blob stream_id b = exact-pass e e'
  exact-blob uuid b = exact-check _ _ WrongUuid (λ l s. ap (λ u. not (same_bytes b u)) y.uuids)
  exact-blob total_length b = exact-pass e e'
  exact-blob content_length b = exact-pass e e'
  exact-blob clock b = exact-pass e e'
  exact-blob end_clock b = exact-pass e e'
  exact-blob discarded b = exact-pass e e'
  exact-blob sequence b = exact-pass e e'
  exact-blob event_class_id b = exact-pass e e'

  exact-store : (i : ℕ) (x : Content) → Exact e e' (store i x) (store i x)
  unfolding store
  exact-store i x = exact-change _ (λ l s. unfold with_slots far in refl)

  exact-order : (o : Option Order) → Exact e e' (change (with_order o)) (change (with_order o))
  exact-order o = exact-change _ (λ l s. unfold with_order far in refl)

  -- Fields

  -- where a field stands, q bits behind the start
  stand : (a : ℕ) (l : ℕ → ℕ) (s : State) → (aligned e' a (there l s)).0 ≡ e'.start.0 + ((aligned e a s).0 - e.start.0)
  stand a l s = aligned-far e e' a l s

  turned_same : (a : ℕ) (o : Order) (l : ℕ → ℕ) (s : State) → turned e' a o (there l s) ≡ turned e a o s
  unfolding turned
  turned_same a o l s =
      let p : (aligned e' a (there l s)).0 - e'.start.0 ≡ (aligned e a s).0 - e.start.0 = omega (arith, stand a l s) in
      ap (λ x. not (eqb (x % 8) 0) && other_order o (there l s).order) p ∙ unfold far in refl

  bits-there : (a n : ℕ) (o : Order) (l : ℕ → ℕ) (s : State) → (aligned e a s).0 + n ≤ e.bound.0
      → bits o e'.bytes (aligned e' a (there l s)).0 n ≡ bits o e.bytes (aligned e a s).0 n
  bits-there a n o l s f =
      let q : ℕ = (aligned e a s).0 - e.start.0 in
      let g : e.start.0 ≤ (aligned e a s).0 = start-aligned e e' a s in
      let u : e.start.0 + q ≡ (aligned e a s).0 = omega arith in
      let k : q + n ≤ 8 * length y.w = omega (arith, y.covers) in
      ap (λ x. bits o e'.bytes x n) (stand a l s)
      ∙ bits-same y.w e.bytes e'.bytes y.post y.post' e.start.0 e'.start.0 y.here y.there y.whole
      y.whole' o q n k
      ∙ ap (λ x. bits o e.bytes x n) u

  bytes-there : (n : ℕ) (l : ℕ → ℕ) (s : State) → (aligned e 8 s).0 + 8 * n ≤ e.bound.0
      → bytes_at e' (aligned e' 8 (there l s)) n ≡ bytes_at e (aligned e 8 s) n
  unfolding bytes_at
  bytes-there n l s f =
      let q : ℕ = (aligned e 8 s).0 - e.start.0 in
      let g : e.start.0 ≤ (aligned e 8 s).0 = start-aligned e e' 8 s in
      let u : (aligned e 8 s).0 / 8 ≡ e.start.0 / 8 + q / 8 = omega (arith, y.whole) in
      let u' : (aligned e' 8 (there l s)).0 / 8 ≡ e'.start.0 / 8 + q / 8 = omega (arith, y.whole', stand 8 l s) in
      let k : q / 8 + n ≤ length y.w = omega (arith, y.covers) in
      ap (λ x. take n (drop x e'.bytes)) u' ∙ piece y.w e'.bytes y.post' (e'.start.0 / 8) y.there (q / 8) n k
      ∙ sym (ap (λ x. take n (drop x e.bytes)) u ∙ piece y.w e.bytes y.post (e.start.0 / 8) y.here (q / 8) n k)

  -- kinds 16 to 20
  module _ (m : ℕ) (k : Sort) (n : ℕ) (o : Order) (a i : ℕ) (r : Role) where
    abbrev body : Env → ℕ → Step
    body x v = field x m (kind_of k) a n (value_of k n v) ⨾ change (with_order (Some o)) ⨾ store i (slot_of k n v) ⨾ role r n (value_of k n v)

    body-exact : (v : ℕ) → Exact e e' (body e v) (body e' v)
    body-exact v =
        exact-seq e e' (exact-field e e' m (kind_of k) a n (value_of k n v))
        (exact-seq e e' (exact-order (Some o)) (exact-seq e e' (exact-store i (slot_of k n v)) (exact-role r n (value_of k n v))))

    body-reach : (v : ℕ) (s : State) (fs : List Entry) (t : State) → body e' v s ≡ go fs t → (aligned e' a s).0 + n ≤ t.place.0
    body-reach v s fs t q =
        reach-field e' m (kind_of k) a n (value_of k n v) _
        (onward-seq (onward-order (Some o)) (onward-seq (onward-store i (slot_of k n v)) (onward-role r n (value_of k n v)))) s fs t q

    abbrev value : Env → State → ℕ
    value x s = bits o x.bytes (aligned x a s).0 n

    rel-fixed : (l : ℕ → ℕ) (s : State) → Beside l (read_fixed e m k n o a i r s) (read_fixed e' m k n o a i r (there l s))
    unfolding read_fixed
    rel-fixed l s =
        rel-due e e' l _ _ s
        (fits l a 0 _ _ s
        (λ f. rel-check e e' l (turned e a o) (turned e' a o) OrderChanged _ _ s (turned_same a o l s)
        (fits l a n (λ u. body e (value e u) u) (λ u. body e' (value e' u) u) s
        (λ g. inl (ap (λ v. body e' v (there l s)) (bits-there a n o l s g) ∙ (body-exact (value e s)).at l s))
        (λ g fs t q. body-reach (value e' (there l s)) (there l s) fs t q)))
        (λ f fs t q.
        let q₁ = through (turned e' a o) OrderChanged _ (there l s) fs t q in
        let q₂ = through-fit e' a n (λ u. body e' (value e' u) u) (there l s) fs t q₁ in
        let z : (aligned e' a (there l s)).0 + n ≤ t.place.0 = body-reach (value e' (there l s)) (there l s) fs t q₂ in
        omega arith))

  -- kinds 21 and 22
  more : (l : ℕ → ℕ) (s : State) → List ℕ
  more l s = take ((e'.bound.0 - (aligned e' 8 (there l s)).0) / 8 - (e.bound.0 - (aligned e 8 s).0) / 8)
      (drop ((e.bound.0 - (aligned e 8 s).0) / 8) (drop ((aligned e' 8 (there l s)).0 / 8) e'.bytes))

  -- what is ahead there: what is ahead here, and more
  ahead-there : (l : ℕ → ℕ) (s : State) → (aligned e 8 s).0 ≤ e.bound.0
      → ahead e' (aligned e' 8 (there l s)) ≡ ahead e (aligned e 8 s) ++ more l s
  unfolding ahead more
  ahead-there l s f =
      let p : ℕ = (aligned e 8 s).0 in
      let p' : ℕ = (aligned e' 8 (there l s)).0 in
      let k : ℕ = (e.bound.0 - p) / 8 in
      let k' : ℕ = (e'.bound.0 - p') / 8 in
      let g : e.start.0 ≤ p = start-aligned e e' 8 s in
      let z : p' ≡ e'.start.0 + (p - e.start.0) = stand 8 l s in
      let u : k' ≡ k + (k' - k) = omega (arith, y.narrower, y.inside, y.inside') in
      let b : p + 8 * k ≤ e.bound.0 = omega arith in
      let same : take k (drop (p' / 8) e'.bytes) ≡ take k (drop (p / 8) e.bytes) = unfold bytes_at in bytes-there k l s b in
      ap (λ x. take x (drop (p' / 8) e'.bytes)) u ∙ take-add k (k' - k) (drop (p' / 8) e'.bytes)
      ∙ ap (λ x. x ++ take (k' - k) (drop k (drop (p' / 8) e'.bytes))) same

  -- and no more where the bounds are as far
  no_more : (l : ℕ → ℕ) (s : State) → (aligned e 8 s).0 ≤ e.bound.0 → e'.bound.0 - e'.start.0 ≤ e.bound.0 - e.start.0
      → more l s ≡ []
  unfolding more
  no_more l s f h =
      let p : ℕ = (aligned e 8 s).0 in
      let p' : ℕ = (aligned e' 8 (there l s)).0 in
      let g : e.start.0 ≤ p = start-aligned e e' 8 s in
      let z : p' ≡ e'.start.0 + (p - e.start.0) = stand 8 l s in
      let u : (e'.bound.0 - p') / 8 - (e.bound.0 - p) / 8 ≡ 0 = omega (arith, y.inside, y.inside') in
      ap (λ x. take x (drop ((e.bound.0 - p) / 8) (drop (p' / 8) e'.bytes))) u

  ahead-length : (s : State) → (aligned e 8 s).0 ≤ e.bound.0 → length (ahead e (aligned e 8 s)) ≡ (e.bound.0 - (aligned e 8 s).0) / 8
  unfolding ahead
  ahead-length s f =
      let p : ℕ = (aligned e 8 s).0 in
      let k : ℕ = (e.bound.0 - p) / 8 in
      let g : e.start.0 ≤ p = start-aligned e e' 8 s in
      let q : ℕ = p - e.start.0 in
      let u : p / 8 ≡ e.start.0 / 8 + q / 8 = omega (arith, y.whole) in
      let b : q / 8 + k ≤ length y.w = omega (arith, y.covers) in
      let same : take k (drop (p / 8) e.bytes) ≡ take k (drop (q / 8) y.w) =
      ap (λ x. take k (drop x e.bytes)) u ∙ piece y.w e.bytes y.post (e.start.0 / 8) y.here (q / 8) k b in
      ap length same ∙ omega (arith, length-take k (drop (q / 8) y.w), length-drop (q / 8) y.w)

  -- what a reading of bytes ahead comes to: the same; or here there were too few, and there, with n bytes, it went past them
  module _ (m k : ℕ) (c : ℕ → Content) (i : ℕ) (r : Role) where
    leb-same : (x : Leb) (l : ℕ → ℕ) (s : State) → Beside l (read_leb e m k c i r x s) (read_leb e' m k c i r x (there l s))
    unfolding read_leb
    leb-same (Value v n) l s =
        inl ((exact-seq e e' (exact-field e e' m k 8 (8 * n.0) v)
        (exact-seq e e' (exact-store i (c v)) (exact-role r (7 * n.0) v))).at l s)
    leb-same Past l s = rel-past e e' y.inside y.inside' y.narrower l s
    leb-same Large l s = inl ((exact-large e e').at l s)

    leb-reach : (x : Leb) (s : State) (fs : List Entry) (t : State) → read_leb e' m k c i r x s ≡ go fs t
        → (v : ℕ) × (n : ByteLength) × (x ≡ Value v n) × ((aligned e' 8 s).0 + 8 * n.0 ≤ t.place.0)
    unfolding read_leb
    leb-reach (Value v n) s fs t q =
        (v, n, refl, reach-field e' m k 8 (8 * n.0) v _ (onward-seq (onward-store i (c v)) (onward-role r (7 * n.0) v)) s fs t q)
    leb-reach Past s fs t q = unfold refuse_at in let z : ◌≡◌ {A = ℕ} 0 1 = cc in absurd (omega arith)
    leb-reach Large s fs t q = unfold refuse_at in let z : ◌≡◌ {A = ℕ} 0 1 = cc in absurd (omega arith)

    leb-cut : (l : ℕ → ℕ) (s : State) (x x' : Leb) → (aligned e 8 s).0 ≤ e.bound.0
        → e.bound.0 - e.start.0 < e'.bound.0 - e'.start.0
        → x ≡ Past → ((v : ℕ) (n : ByteLength) → x' ≡ Value v n → (e.bound.0 - (aligned e 8 s).0) / 8 < n.0)
        → Cut e e' (read_leb e m k c i r x s) (read_leb e' m k c i r x' (there l s))
    leb-cut l s x x' f w p h = record {
      es = [];
      v = stop_at PastBound e.bound;
      stops = unfold read_leb refuse_at in ap (λ z. read_leb e m k c i r z s) p;
      short = inl refl;
      rest = read_leb e' m k c i r x' (there l s);
      goes = unfold far_all in sym (onto-nil _);
      wider = w;
      beyond = λ fs t q.
          let g = leb-reach x' (there l s) fs t q in
          let u : (e.bound.0 - (aligned e 8 s).0) / 8 < g.1.0 = h g.0 g.1 g.2 in
          let d : (aligned e' 8 (there l s)).0 + 8 * g.1.0 ≤ t.place.0 = g.3 in
          let j : e.start.0 ≤ (aligned e 8 s).0 = start-aligned e e' 8 s in
          omega (arith, stand 8 l s);
    }

    -- by the bytes ahead
    rel-leb : (read : List ℕ → Leb)
        → ((xs ys : List ℕ) → (read (xs ++ ys) ≡ read xs)
        ⊎ ((read xs ≡ Past) × ((v : ℕ) (n : ByteLength) → read (xs ++ ys) ≡ Value v n → length xs < n.0)))
        → (l : ℕ → ℕ) (s : State)
        → Beside l ((fit e 8 0 ⨾ λ u. read_leb e m k c i r (read (ahead e (aligned e 8 u))) u) s)
        ((fit e' 8 0 ⨾ λ u. read_leb e' m k c i r (read (ahead e' (aligned e' 8 u))) u) (there l s))
    rel-leb read longer l s = fits l 8 0 _ _ s (λ f. by (omega arith)) (λ f fs t q. reaches fs t q)
      where
        reaches : (fs : List Entry) (t : State) → read_leb e' m k c i r (read (ahead e' (aligned e' 8 (there l s)))) (there l s) ≡ go fs t
            → (aligned e' 8 (there l s)).0 + 0 ≤ t.place.0
        reaches fs t q =
            let g = leb-reach (read (ahead e' (aligned e' 8 (there l s)))) (there l s) fs t q in
            let d : (aligned e' 8 (there l s)).0 + 8 * g.1.0 ≤ t.place.0 = g.3 in
            omega arith

        same : read (ahead e' (aligned e' 8 (there l s))) ≡ read (ahead e (aligned e 8 s))
            → Beside l (read_leb e m k c i r (read (ahead e (aligned e 8 s))) s)
            (read_leb e' m k c i r (read (ahead e' (aligned e' 8 (there l s)))) (there l s))
        same p = rw p (leb-same (read (ahead e (aligned e 8 s))) l s)

        by : (aligned e 8 s).0 ≤ e.bound.0
            → Beside l (read_leb e m k c i r (read (ahead e (aligned e 8 s))) s)
            (read_leb e' m k c i r (read (ahead e' (aligned e' 8 (there l s)))) (there l s))
        by f = ⊎_elim
            (λ (w : e.bound.0 - e.start.0 < e'.bound.0 - e'.start.0). further f w (longer (ahead e (aligned e 8 s)) (more l s)))
            (λ (w : e'.bound.0 - e'.start.0 ≤ e.bound.0 - e.start.0). same
            (ap read (ahead-there l s f ∙ ap (λ z. ahead e (aligned e 8 s) ++ z) (no_more l s f w) ∙ append-nil _)))
            (lt-or-ge (e.bound.0 - e.start.0) (e'.bound.0 - e'.start.0))
          where
            further : (aligned e 8 s).0 ≤ e.bound.0 → e.bound.0 - e.start.0 < e'.bound.0 - e'.start.0
                → (read (ahead e (aligned e 8 s) ++ more l s) ≡ read (ahead e (aligned e 8 s)))
                ⊎ ((read (ahead e (aligned e 8 s)) ≡ Past)
                × ((v : ℕ) (n : ByteLength) → read (ahead e (aligned e 8 s) ++ more l s) ≡ Value v n
                → length (ahead e (aligned e 8 s)) < n.0))
                → Beside l (read_leb e m k c i r (read (ahead e (aligned e 8 s))) s)
                (read_leb e' m k c i r (read (ahead e' (aligned e' 8 (there l s)))) (there l s))
            further f w (inl p) = same (ap read (ahead-there l s f) ∙ p)
            further f w (inr p) = inr (leb-cut l s _ _ f w p.0 (λ v n q.
                let u : length (ahead e (aligned e 8 s)) < n.0 = p.1 v n (sym (ap read (ahead-there l s f)) ∙ q) in
                omega (arith, ahead-length s f)))

  -- a field of text
  exact-text : (x : List ℕ) (m k n v : ℕ) → Exact e e' (as_text x ⨾ field e m k 8 n v) (as_text x ⨾ field e' m k 8 n v)
  unfolding as_text
  exact-text x m k n v = exact-seq e e' (exact-check _ _ NotText (λ l s. refl)) (exact-field e e' m k 8 n v)

  reach-only : (x : Env) (m k a n v : ℕ) (s : State) (fs : List Entry) (t : State) → field x m k a n v s ≡ go fs t
      → (aligned x a s).0 + n ≤ t.place.0
  unfolding field listed
  reach-only x m k a n v s fs t q =
      let at : ℕ = (aligned x a s).0 + n in
      let ok : Ok Whatever Wherever Why (λ u. at ≤ u.place.0) (field x m k a n v s) = ((tt, tt), le_refl at) in
      (subst (Ok Whatever Wherever Why (λ u. at ≤ u.place.0)) q ok).1

  reach-text : (x : List ℕ) (m k n v : ℕ) (s : State) (fs : List Entry) (t : State) → (as_text x ⨾ field e' m k 8 n v) s ≡ go fs t
      → (aligned e' 8 s).0 + n ≤ t.place.0
  unfolding as_text
  reach-text x m k n v s fs t q = reach-only e' m k 8 n v s fs t (through _ NotText _ s fs t q)

  -- kind 23
  zero_same : (m : ℕ) (x : Option ByteLength) (l : ℕ → ℕ) (s : State) → ((n : ByteLength) → x ≡ Some n → (aligned e 8 s).0 + 8 * n.0 ≤ e.bound.0)
      → read_zero e' m x (there l s) ≡ far_out e e' l (read_zero e m x s)
  unfolding read_zero ◌⨾◌
  zero_same m (Some n) l s f =
      ap (λ b. (as_text b ⨾ field e' m 23 8 (8 * (n.0 + 1)) n.0) (there l s)) (bytes-there n.0 l s (f n refl))
      ∙ (exact-text (bytes_at e (aligned e 8 s) n.0) m 23 (8 * (n.0 + 1)) n.0).at l s
  zero_same m None l s f = (exact-refuse e e' NoZeroByte).at l s

  zero-reach : (m : ℕ) (x : Option ByteLength) (s : State) (fs : List Entry) (t : State) → read_zero e' m x s ≡ go fs t
      → (n : ByteLength) × (x ≡ Some n) × ((aligned e' 8 s).0 + 8 * (n.0 + 1) ≤ t.place.0)
  unfolding read_zero ◌⨾◌
  zero-reach m (Some n) s fs t q =
      (n, refl, reach-text (bytes_at e' (aligned e' 8 s) n.0) m 23 (8 * (n.0 + 1)) n.0 s fs t q)
  zero-reach m None s fs t q = unfold refuse in let z : ◌≡◌ {A = ℕ} 0 1 = cc in absurd (omega arith)

  rel-zero : (m : ℕ) (l : ℕ → ℕ) (s : State) → Beside l ((fit e 8 0 ⨾ λ u. read_zero e m (zero_at (ahead e (aligned e 8 u))) u) s)
      ((fit e' 8 0 ⨾ λ u. read_zero e' m (zero_at (ahead e' (aligned e' 8 u))) u) (there l s))
  rel-zero m l s = fits l 8 0 _ _ s (λ f. by (omega arith)) (λ f fs t q. reaches fs t q)
    where
      reaches : (fs : List Entry) (t : State) → read_zero e' m (zero_at (ahead e' (aligned e' 8 (there l s)))) (there l s) ≡ go fs t
          → (aligned e' 8 (there l s)).0 + 0 ≤ t.place.0
      reaches fs t q =
          let g = zero-reach m (zero_at (ahead e' (aligned e' 8 (there l s)))) (there l s) fs t q in
          let d : (aligned e' 8 (there l s)).0 + 8 * (g.0.0 + 1) ≤ t.place.0 = g.2 in
          omega arith

      same : (aligned e 8 s).0 ≤ e.bound.0 → zero_at (ahead e' (aligned e' 8 (there l s))) ≡ zero_at (ahead e (aligned e 8 s))
          → Beside l (read_zero e m (zero_at (ahead e (aligned e 8 s))) s)
          (read_zero e' m (zero_at (ahead e' (aligned e' 8 (there l s)))) (there l s))
      same f p = inl (ap (λ x. read_zero e' m x (there l s)) p ∙ zero_same m (zero_at (ahead e (aligned e 8 s))) l s
          (λ n q. omega (arith, (zero-found (ahead e (aligned e 8 s)) n q).0, ahead-length s f)))

      cut : (aligned e 8 s).0 ≤ e.bound.0 → e.bound.0 - e.start.0 < e'.bound.0 - e'.start.0
          → (x x' : Option ByteLength) → x ≡ None → ((n : ByteLength) → x' ≡ Some n → (e.bound.0 - (aligned e 8 s).0) / 8 ≤ n.0)
          → Cut e e' (read_zero e m x s) (read_zero e' m x' (there l s))
      cut f w x x' p h = record {
        es = [];
        v = stop_at NoZeroByte s.place;
        stops = unfold read_zero refuse in ap (λ z. read_zero e m z s) p;
        short = inr (inl refl);
        rest = read_zero e' m x' (there l s);
        goes = unfold far_all in sym (onto-nil _);
        wider = w;
        beyond = λ fs t q.
            let g = zero-reach m x' (there l s) fs t q in
            let u : (e.bound.0 - (aligned e 8 s).0) / 8 ≤ g.0.0 = h g.0 g.1 in
            let d : (aligned e' 8 (there l s)).0 + 8 * (g.0.0 + 1) ≤ t.place.0 = g.2 in
            let j : e.start.0 ≤ (aligned e 8 s).0 = start-aligned e e' 8 s in
            omega (arith, stand 8 l s);
      }

      further : (aligned e 8 s).0 ≤ e.bound.0 → e.bound.0 - e.start.0 < e'.bound.0 - e'.start.0
          → (zero_at (ahead e (aligned e 8 s) ++ more l s) ≡ zero_at (ahead e (aligned e 8 s)))
          ⊎ ((zero_at (ahead e (aligned e 8 s)) ≡ None)
          × ((n : ByteLength) → zero_at (ahead e (aligned e 8 s) ++ more l s) ≡ Some n → length (ahead e (aligned e 8 s)) ≤ n.0))
          → Beside l (read_zero e m (zero_at (ahead e (aligned e 8 s))) s)
          (read_zero e' m (zero_at (ahead e' (aligned e' 8 (there l s)))) (there l s))
      further f w (inl p) = same f (ap zero_at (ahead-there l s f) ∙ p)
      further f w (inr p) = inr (cut f w _ _ p.0 (λ n q.
          let u : length (ahead e (aligned e 8 s)) ≤ n.0 = p.1 n (sym (ap zero_at (ahead-there l s f)) ∙ q) in
          omega (arith, ahead-length s f)))

      by : (aligned e 8 s).0 ≤ e.bound.0
          → Beside l (read_zero e m (zero_at (ahead e (aligned e 8 s))) s)
          (read_zero e' m (zero_at (ahead e' (aligned e' 8 (there l s)))) (there l s))
      by f = ⊎_elim
          (λ (w : e.bound.0 - e.start.0 < e'.bound.0 - e'.start.0). further f w (zero_more (ahead e (aligned e 8 s)) (more l s)))
          (λ (w : e'.bound.0 - e'.start.0 ≤ e.bound.0 - e.start.0). same f
          (ap zero_at (ahead-there l s f ∙ ap (λ z. ahead e (aligned e 8 s) ++ z) (no_more l s f w) ∙ append-nil _)))
          (lt-or-ge (e.bound.0 - e.start.0) (e'.bound.0 - e'.start.0))

  -- kinds 24 to 27
  rel-text : (m k n : ℕ) (l : ℕ → ℕ) (s : State) → Beside l (read_text e m k n s) (read_text e' m k n (there l s))
  unfolding read_text
  rel-text m k n l s =
      fits l 8 0 _ _ s
      (λ f. fits l 8 (8 * n) (λ u. put e (of e u) u) (λ u. put e' (of e' u) u) s
      (λ g. inl (ap (λ b. put e' b (there l s)) (bytes-there n l s g) ∙ (exact-text (of e s) m k (8 * n) (text_length (of e s))).at l s))
      (λ g fs t q. reach-text (of e' (there l s)) m k (8 * n) (text_length (of e' (there l s))) (there l s) fs t q))
      (λ f fs t q.
      let q₂ = through-fit e' 8 (8 * n) (λ u. put e' (of e' u) u) (there l s) fs t q in
      let z : (aligned e' 8 (there l s)).0 + 8 * n ≤ t.place.0 =
      reach-text (of e' (there l s)) m k (8 * n) (text_length (of e' (there l s))) (there l s) fs t q₂ in
      omega arith)
    where
      of : Env → State → List ℕ
      of x u = bytes_at x (aligned x 8 u) n

      put : Env → List ℕ → Step
      put x b = as_text b ⨾ field x m k 8 (8 * n) (text_length b)

  onward-blob : (x : Env) (r : Role) (b : List ℕ) → Onward (blob_role x r b)
  unfolding blob_role
  onward-blob x no_role b = onward-pass
  onward-blob x magic b = onward-pass
  onward-blob x stream_class_id b = onward-pass
  onward-blob x stream_id b = onward-pass
  onward-blob x uuid b = onward-check _ WrongUuid
  onward-blob x total_length b = onward-pass
  onward-blob x content_length b = onward-pass
  onward-blob x clock b = onward-pass
  onward-blob x end_clock b = onward-pass
  onward-blob x discarded b = onward-pass
  onward-blob x sequence b = onward-pass
  onward-blob x event_class_id b = onward-pass

  rel-blob : (m k n : ℕ) (r : Role) (l : ℕ → ℕ) (s : State) → Beside l (read_blob e m k n r s) (read_blob e' m k n r (there l s))
  unfolding read_blob
  rel-blob m k n r l s =
      fits l 8 0 _ _ s
      (λ f. fits l 8 (8 * n) (λ u. put e (of e u) u) (λ u. put e' (of e' u) u) s
      (λ g. inl (ap (λ b. put e' b (there l s)) (bytes-there n l s g)
      ∙ (exact-seq e e' (exact-field e e' m k 8 (8 * n) n) (exact-blob r (of e s))).at l s))
      (λ g fs t q. reach-field e' m k 8 (8 * n) n _ (onward-blob e' r (of e' (there l s))) (there l s) fs t q))
      (λ f fs t q.
      let q₂ = through-fit e' 8 (8 * n) (λ u. put e' (of e' u) u) (there l s) fs t q in
      let z : (aligned e' 8 (there l s)).0 + 8 * n ≤ t.place.0 =
      reach-field e' m k 8 (8 * n) n _ (onward-blob e' r (of e' (there l s))) (there l s) fs t q₂ in
      omega arith)
    where
      of : Env → State → List ℕ
      of x u = bytes_at x (aligned x 8 u) n

      put : Env → List ℕ → Step
      put x b = field x m k 8 (8 * n) n ⨾ blob_role x r b

  -- kinds 28 to 32: the entry, and what is inside
  held-field : (x : Env) (q i k a v : ℕ) (s : State) → x.start.0 ≤ (aligned x a s).0 → (aligned x a s).0 + 0 ≤ x.bound.0
      → q ≤ (aligned x a s).0
      → Ok (In x) (At x) (NoMore x) (Held x (λ p d. q ≤ p)) (field x i k a 0 v s)
  unfolding field listed
  held-field x q i k a v s f t h = ((omega arith, tt), record { from = omega arith; to = t; kept = omega arith })

  rel-inside : (l : ℕ → ℕ) (i k a v : ℕ) (m m' : Step) → Pair l m m' → (s : State) → (aligned e a s).0 + 0 ≤ e.bound.0
      → Beside l ((field e i k a 0 v ⨾ m) s) ((field e' i k a 0 v ⨾ m') (there l s))
  unfolding ◌⨾◌
  rel-inside l i k a v m m' h s f =
      let g : e.start.0 ≤ (aligned e a s).0 = start-aligned e e' a s in
      let z : (aligned e' a (there l s)).0 ≡ e'.start.0 + ((aligned e a s).0 - e.start.0) = stand a l s in
      let g' : e'.start.0 ≤ (aligned e' a (there l s)).0 = omega arith in
      let f' : (aligned e' a (there l s)).0 + 0 ≤ e'.bound.0 = omega (arith, y.inside, y.inside', y.narrower) in
      rel-after l (field e i k a 0 v s) (field e' i k a 0 v (there l s)) m m' (inl ((exact-field e e' i k a 0 v).at l s))
      (held-field e 0 i k a v s g f (omega arith)) (held-field e' 0 i k a v (there l s) g' f' (omega arith)) h

  reach-inside : (i k a v : ℕ) (m' : Step) → ((q : ℕ) → Holding e' (λ p d. q ≤ p) m') → (s : State) → e'.start.0 ≤ (aligned e' a s).0
      → (aligned e' a s).0 + 0 ≤ e'.bound.0
      → (fs : List Entry) (t : State) → (field e' i k a 0 v ⨾ m') s ≡ go fs t → (aligned e' a s).0 + 0 ≤ t.place.0
  unfolding ◌⨾◌
  reach-inside i k a v m' h s g f fs t q =
      let at : ℕ = (aligned e' a s).0 in
      let ok : Ok (In e') (At e') (NoMore e') (Held e' (λ p d. at ≤ p)) (after (field e' i k a 0 v s) m') =
      ok-after (In e') (At e') (NoMore e') (Held e' (λ p d. at ≤ p)) (Held e' (λ p d. at ≤ p)) (field e' i k a 0 v s) m'
      (held-field e' at i k a v s g f (le_refl at)) (h at) in
      let x = subst (Ok (In e') (At e') (NoMore e') (Held e' (λ p d. at ≤ p))) q ok in
      let u : at ≤ t.place.0 = x.1.kept in
      omega arith

  rel-head : (l : ℕ → ℕ) (i k a v : ℕ) (m m' : Step) → Pair l m m' → (s : State)
      → Beside l ((fit e a 0 ⨾ field e i k a 0 v ⨾ m) s) ((fit e' a 0 ⨾ field e' i k a 0 v ⨾ m') (there l s))
  rel-head l i k a v m m' h s =
      fits l a 0 _ _ s (λ f. rel-inside l i k a v m m' h s f)
      (λ f fs t q. let g' : e'.start.0 ≤ (aligned e' a (there l s)).0 = start-aligned e' e a (there l s) in
      reach-inside i k a v m' h.held' (there l s) g' f fs t q)

  at_place : (s : State) → Between e s.place.0 → (aligned e 1 s).0 + 0 ≤ e.bound.0
  unfolding aligned
  at_place s b = omega (arith, align-one e.start.0 s.place.0 b.0, b.1)

  pub seq-pair : (l : ℕ → ℕ) {m n m' n' : Step} → Pair l m m' → Pair l n n' → Pair l (m ⨾ n) (m' ⨾ n')
  seq-pair l {m} {n} {m'} {n'} h k = record {
    rel = λ s b. by s b;
    held = λ q. (from e q).seq (h.held q) (k.held q);
    held' = λ q. (from e' q).seq (h.held' q) (k.held' q);
  }
    where
      by : (s : State) → Between e s.place.0 → Beside l ((m ⨾ n) s) ((m' ⨾ n') (there l s))
      by s b = unfold ◌⨾◌ in
          let c : Between e' (there l s).place.0 = there-between l s b in
          rel-after l (m s) (m' (there l s)) n n' (h.rel s b)
          ((h.held 0).at s (record { from = b.0; to = b.1; kept = omega arith }))
          ((h.held' 0).at (there l s) (record { from = c.0; to = c.1; kept = omega arith })) k

  pub pairs : (l : ℕ → ℕ) → Law2 e e' (Pair l)
  pairs l = record {
    seq = λ h k. seq-pair l h k;
    dues = λ {m} {m'} h. record {
      rel = λ s b. rel-due e e' l m m' s (h.rel s b);
      held = λ q. (from e q).dueʳ (h.held q);
      held' =
          λ q. (from e' q).dueʳ (h.held' q);
    };
    passes = record { rel = λ s b. inl ((exact-pass e e').at l s); held = λ q. (from e q).passes; held' = λ q. (from e' q).passes };
    unsets = λ i. record {
      rel = λ s b. inl ((exact-store i Unset).at l s);
      held = λ q. (from e q).unsets i tt;
      held' =
          λ q. (from e' q).unsets i tt;
    };
    unset = record { rel = λ s b. inl ((exact-refuse e e' SlotUnset).at l s); held = λ q. (from e q).unset; held' = λ q. (from e' q).unset };
    wrong_sort = record {
      rel = λ s b. inl ((exact-refuse e e' SlotOfWrongSort).at l s);
      held = λ q. (from e q).wrong_sort;
      held' =
          λ q. (from e' q).wrong_sort;
    };
    in_none = record {
      rel = λ s b. inl ((exact-refuse e e' SelectorInNoOption).at l s);
      held = λ q. (from e q).in_none;
      held' =
          λ q. (from e' q).in_none;
    };
    within = λ n {m} {m'} h. record {
      rel = λ s b. rel-check e e' l _ _ LengthTooLarge m m' s refl (h.rel s b);
      held = λ q. (from e q).within n (h.held q);
      held' = λ q. (from e' q).within n (h.held' q);
    };
    slot = λ i f f' h. record {
      rel = λ s b. rel-slot i f f' l s ((h (slot_at s.slots i)).rel s b);
      held = λ q. (from e q).slot i f (λ x p. (h x).held q);
      held' = λ q. (from e' q).slot i f' (λ x p. (h x).held' q);
    };
    fixes = λ i k n o a j r. record {
      rel = λ s b. rel-fixed i k n o (2 ^ a) j r l s;
      held = λ q. (from e q).fixes i k n o a j r tt tt tt;
      held' =
          λ q. (from e' q).fixes i k n o a j r tt tt tt;
    };
    lebs = λ i j r. record {
      rel = λ s b. rel-leb i 21 Unsigned j r leb_unsigned leb-more l s;
      held = λ q. (from e q).lebs i j r tt tt;
      held' =
          λ q. (from e' q).lebs i j r tt tt;
    };
    signed_lebs = λ i j. record {
      rel = λ s b. rel-leb i 22 Signed j no_role leb_signed leb-signed-more l s;
      held = λ q. (from e q).signed_lebs i j tt tt;
      held' =
          λ q. (from e' q).signed_lebs i j tt tt;
    };
    zeros = λ i. record { rel = λ s b. rel-zero i l s; held = λ q. (from e q).zeros i tt; held' = λ q. (from e' q).zeros i tt };
    texts = λ i k n g. record {
      rel = λ s b. rel-text i k n l s;
      held = λ q. (from e q).texts i k n g tt;
      held' =
          λ q. (from e' q).texts i k n g tt;
    };
    blobs = λ i k n r g. record {
      rel = λ s b. rel-blob i k n r l s;
      held = λ q. (from e q).blobs i k n r g tt;
      held' =
          λ q. (from e' q).blobs i k n r g tt;
    };
    heads = λ i k a v g d {f} {f'} h. record {
      rel = λ s b. rel-head l i k a v f f' h s;
      held = λ q. (from e q).heads i k a v g tt d tt (h.held q);
      held' = λ q. (from e' q).heads i k a v g tt d tt (h.held' q);
    };
    tags = λ i k v g {f} {f'} h. record {
      rel = λ s b. rel-inside l i k 1 v f f' h s (at_place s b);
      held = λ q. (from e q).tags i k v g tt tt (h.held q);
      held' = λ q. (from e' q).tags i k v g tt tt (h.held' q);
    };
    tag = λ i k v g. record {
      rel = λ s b. inl ((exact-field e e' i k 1 0 v).at l s);
      held = λ q. (from e q).tag i k v g tt tt;
      held' =
          λ q. (from e' q).tag i k v g tt tt;
    };
  }
    where
      rel-slot : (i : ℕ) (f f' : Content → Step) (l : ℕ → ℕ) (s : State)
          → Beside l (f (slot_at s.slots i) s) (f' (slot_at s.slots i) (there l s))
          → Beside l (from_slot i f s) (from_slot i f' (there l s))
      rel-slot i f f' l s h = unfold from_slot far in h

  -- a root's reading over bytes that agree
  pub pair-root : (l : ℕ → ℕ) (m : ℕ) (c : Option Class) → Pair l (read_root e m c) (read_root e' m c)
  pair-root l m c = two-root e e' (pairs l) m c
