-- A reading of fields never leaves the packet: the place does not go back, and stays between the packet's start and the bound.
-- One law says it together with any fact of the place, and of what the roles said, that outlasts moves. Where it stops lies between them
-- too: at the state's place, at the bound (22), or at a number's tenth byte (24).
use Rattle.std.specs.Prelude.{Option, None, Some}
use mathlib.Core.Path.{◌≡◌, refl, subst}
use Prim.Native.Nat.{ℕ, ◌+◌, ◌*◌, ◌^◌, ◌≤◌, ◌<◌}
use native.Mathlib.Omega.{arith}
use native.Mathlib.Nat.{le_refl}
use lib.Pow.{pow_pos}
use mathlib.Core.List.{List}
use mathlib.Core.Bool.{Bool}
use lib.ListN.{length}
use borrow.Author.Tests.{ltb-false}
use Rattle.rules.specs.declared.ByteLength.{ByteLength}
use Rattle.rules.specs.declared.Order.{Order}
use Rattle.rules.specs.declared.Content.{Content}
use Rattle.rules.specs.declared.Content.TheVariants.{Unset, Unsigned, Signed}
use Rattle.rules.specs.declared.Said.{Said}
use Rattle.rules.specs.declared.Leb.{Leb}
use Rattle.rules.specs.declared.Leb.TheVariants.{Value, Past, Large}
use Rattle.rules.specs.declared.Entry.{Entry}
use Rattle.rules.specs.declared.Refusal.{Refusal}
use Rattle.rules.specs.declared.Refusal.TheVariants.{PastBound, OrderChanged, NoZeroByte, SlotUnset, SlotOfWrongSort}
use Rattle.rules.specs.declared.Refusal.TheVariants.{LengthTooLarge, SelectorInNoOption, WrongMagic, WrongUuid, ClockTooLarge, NotText}
use Rattle.rules.specs.declared.Stop.{Stop}
use Rattle.rules.specs.Verdict.{stop_at}
use Rattle.rules.specs.Bits.{bits}
use Rattle.rules.specs.Leb128.{leb_unsigned, leb_signed}
use Rattle.rules.specs.Clock.{clock_after}
use Rattle.rules.specs.Text.{text_length, zero_at}
use Rattle.rules.specs.Place.{align_from}
use Rattle.rules.specs.Slots.{slot_at}
use Rattle.rules.specs.Entry.{entry, clock_advanced}
use Rattle.rules.specs.Step.{State, go, Step, ◌⨾◌, refuse_at, check, listed, change, pass, with_slots, with_order, with_clock, with_said}
use Rattle.rules.specs.Class.{Role, no_role, magic, stream_class_id, stream_id, uuid, total_length, content_length, clock, end_clock}
use Rattle.rules.specs.Class.{discarded, sequence, event_class_id}
use Rattle.rules.specs.Class.{Class, Sort, kind_of}
use Rattle.rules.specs.Field.{Env, aligned, fit, field, store, new_clock, say, role, blob_role, from_slot, value_of, slot_of, ahead, bytes_at}
use Rattle.rules.specs.Field.{read_fixed, read_leb, as_text, read_zero, read_text, read_blob, read}
use Rattle.leb128.proofs.ValueSays.{unsigned-value, signed-value}
use Rattle.leb128.proofs.Settled.{unsigned-reaches, signed-reaches}
use Rattle.text.proofs.Laws.{zero-found}
use Rattle.laws.specs.Between.{Between}
use Rattle.laws.proofs.Law.{Any, any-slot, AnyRecord, Law, fits, law-read}
use Rattle.laws.proofs.Triple.{Ok, Triple, then, passing, changing, looser, refusing, refusing-at, checks, tested_at, untested}
use Rattle.laws.proofs.Triple.{untested-at, dued}
use Rattle.laws.proofs.Places.{align_from-le, start-le, align-one, ahead-fits, LebFits, LebReaches, start-tenth, tenth-fits}

-- J outlasts moves; and outlasts what a role says behind a field of n bits, where N n
pub record Kept (e : Env) (N : ℕ → Type 0) (J : ℕ → Said → Type 0) : Type 0 where
  pub some_bits : (n : ℕ) → 1 ≤ n → N n
  pub moves : (p q : ℕ) (d : Said) → p ≤ q → J p d → J q d
  pub says : (n p : ℕ) (d d' : Said) → N n → e.start.0 + n ≤ p → J p d → J p d'

pub record Held (e : Env) (J : ℕ → Said → Type 0) (s : State) : Type 0 where
  pub from : e.start.0 ≤ s.place.0
  pub to : s.place.0 ≤ e.bound.0
  pub kept : J s.place.0 s.said

module _ (e : Env) where
  abbrev pub In : Entry → Type 0
  In x = Between e x.place.0

  abbrev pub At : Stop → Type 0
  At v = Between e v.place.0

  abbrev pub NoMore : Refusal → Type 0
  NoMore r = Unit {0}

  abbrev pub Holding : (ℕ → Said → Type 0) → Step → Type 0
  Holding J m = Triple In At NoMore (Held e J) m (Held e J)

  module _ {N : ℕ → Type 0} {J : ℕ → Said → Type 0} (j : Kept e N J) where
    abbrev Fine : (State → Type 0) → Step → (State → Type 0) → Type 0
    Fine A m B = Triple In At NoMore A m B

    abbrev Holds : State → Type 0
    Holds s = Held e J s

    -- n bits fit from where a field stands, and the place is behind n bits
    abbrev Fit : ℕ → ℕ → State → Type 0
    Fit a n s = Holds s × ((aligned e a s).0 + n ≤ e.bound.0)

    abbrev Behind : ℕ → State → Type 0
    Behind n s = Holds s × (e.start.0 + n ≤ s.place.0)

    stops : (r : Refusal) → NoMore r → (s : State) → Holds s → At (stop_at r s.place)
    stops r i s h = (h.from, h.to)

    -- at the bound, which is not before the place
    at_bound : (s : State) → Holds s → At (stop_at PastBound e.bound)
    at_bound s h = let from : e.start.0 ≤ s.place.0 = h.from in omega (arith, h.to)

    infixr 20 ◌⨾ᵇ◌
    ◌⨾ᵇ◌ : {A B C : State → Type 0} {m n : Step} → Fine A m B → Fine B n C → Fine A (m ⨾ n) C
    h ⨾ᵇ k = then In At NoMore h k

    fitting : (a n : ℕ) {m : Step} → Fine (Fit a n) m Holds → Holding J (fit e a n ⨾ m)
    unfolding fit
    fitting a n h = tested_at In At NoMore _ _ at_bound _ (record { at = λ s x. h.at s (x.0, ltb-false _ _ x.1) })

    at_zero : (a : ℕ) {m : Step} → Fine (λ s. Holds s × ((aligned e a s).0 ≤ e.bound.0)) m Holds → Holding J (fit e a 0 ⨾ m)
    at_zero a h = fitting a 0 (record { at = λ s x. let b : (aligned e a s).0 + 0 ≤ e.bound.0 = x.1 in h.at s (x.0, omega arith) })

    plain-fit : (a n : ℕ) {m : Step} → Holding J m → Holding J (fit e a n ⨾ m)
    unfolding fit
    plain-fit a n h = untested-at In At NoMore _ _ at_bound _ h

    -- a field that fits
    put-field : (m k a n v : ℕ) → 1 ≤ a → Fine (Fit a n) (field e m k a n v) (Behind n)
    unfolding field listed aligned
    put-field m k a n v h = record {
      at = λ s x.
          let g = x.0 in
          let b : align_from e.start.0 a s.place.0 + n ≤ e.bound.0 = x.1 in
          let l : s.place.0 ≤ align_from e.start.0 a s.place.0 = align_from-le e.start.0 a s.place.0 h in
          let f : e.start.0 ≤ align_from e.start.0 a s.place.0 = start-le e.start.0 a s.place.0 in
          let kept = j.moves s.place.0 (align_from e.start.0 a s.place.0 + n) s.said (omega arith) g.kept in
          ((omega arith, tt), (record { from = omega arith; to = b; kept = kept }, omega arith));
    }

    a-field : (m k a n v : ℕ) → 1 ≤ a → Fine (Fit a n) (field e m k a n v) Holds
    a-field m k a n v h = looser In At NoMore (λ s x. x.0) (put-field m k a n v h)

    -- a field of text that fits
    text-field : (x : List ℕ) (m k n v : ℕ) → Fine (Fit 8 n) (as_text x ⨾ field e m k 8 n v) Holds
    unfolding as_text
    text-field x m k n v = untested In At NoMore (λ r i s y. stops r i s y.0) _ NotText tt (a-field m k 8 n v (omega arith))

    tagged : (m k v : ℕ) → Holding J (field e m k 1 0 v)
    unfolding aligned
    tagged m k v = record {
      at = λ s h. (a-field m k 1 0 v (le_refl 1)).at s (h, omega (arith, align-one e.start.0 s.place.0 h.from, h.to));
    }

    -- what leaves place and said alone
    set-order : (n : ℕ) (o : Option Order) → Fine (Behind n) (change (with_order o)) (Behind n)
    unfolding with_order
    set-order n o = changing In At NoMore _ (λ s h. (record { from = h.0.from; to = h.0.to; kept = h.0.kept }, h.1))

    unset-slot : (i : ℕ) → Holding J (store i Unset)
    unfolding store with_slots
    unset-slot i = changing In At NoMore _ (λ s h. record { from = h.from; to = h.to; kept = h.kept })

    set-slot : (n i : ℕ) (x : Content) → Fine (Behind n) (store i x) (Behind n)
    unfolding store with_slots
    set-slot n i x = changing In At NoMore _ (λ s h. (record { from = h.0.from; to = h.0.to; kept = h.0.kept }, h.1))

    held-check : (t : State → Bool) (r : Refusal) → Holding J (check t r)
    held-check t r = checks In At NoMore stops t r tt

    held-pass : Holding J pass
    held-pass = passing In At NoMore

    held-clock : (l : ℕ) (o : Option ℕ) → Holding J (new_clock l o)
    unfolding new_clock
    held-clock l None = refusing In At NoMore stops ClockTooLarge tt
    held-clock l (Some c) =
        by ⨾ᵇ changing In At NoMore (with_clock c) (λ s h. unfold with_clock in record { from = h.from; to = h.to; kept = h.kept })
      where
        by : Holding J (λ s. listed (entry clock_advanced s.place l c 0) s.place s)
        by = unfold listed in record { at = λ s h. (((h.from, h.to), tt), record { from = h.from; to = h.to; kept = h.kept }) }

    module _ (n : ℕ) (w : N n) where
      saying : (f : Said → Said) → Fine (Behind n) (say f) Holds
      unfolding say with_said
      saying f = changing In At NoMore _ (λ s h.
          record { from = h.0.from; to = h.0.to; kept = j.says n s.place.0 s.said (f s.said) w h.1 h.0.kept })

      easy : {m : Step} → Holding J m → Fine (Behind n) m Holds
      easy h = record { at = λ s x. h.at s x.0 }

      held-role : (r : Role) (l v : ℕ) → Fine (Behind n) (role r l v) Holds
      unfolding role
      held-role no_role l v = easy held-pass
      held-role magic l v = easy (held-check _ WrongMagic)
      held-role stream_class_id l v = saying _
      held-role stream_id l v = easy held-pass
      held-role uuid l v = easy held-pass
      held-role total_length l v = saying _
      held-role content_length l v = saying _
      held-role clock l v = easy (dued In At NoMore stops tt (record { at = λ s h. (held-clock l (clock_after s.clock l v)).at s h }))
      held-role end_clock l v = saying _
      held-role discarded l v = easy held-pass
      held-role sequence l v = easy held-pass
      held-role event_class_id l v = saying _

    held-blob_role : (r : Role) (b : List ℕ) → Holding J (blob_role e r b)
    unfolding blob_role
    held-blob_role no_role b = held-pass
    held-blob_role magic b = held-pass
    held-blob_role stream_class_id b = held-pass
    held-blob_role stream_id b = held-pass
    held-blob_role uuid b = held-check _ WrongUuid
    held-blob_role total_length b = held-pass
    held-blob_role content_length b = held-pass
    held-blob_role clock b = held-pass
    held-blob_role end_clock b = held-pass
    held-blob_role discarded b = held-pass
    held-blob_role sequence b = held-pass
    held-blob_role event_class_id b = held-pass

    held-fixed : (m : ℕ) (k : Sort) (n : ℕ) (o : Order) (a i : ℕ) (r : Role) → N n → 1 ≤ a → Holding J (read_fixed e m k n o a i r)
    unfolding read_fixed
    held-fixed m k n o a i r w h =
        dued In At NoMore stops tt (plain-fit a 0 (untested In At NoMore stops _ OrderChanged tt (fitting a n (record {
          at = λ s x.
              (let v : ℕ = bits o e.bytes (aligned e a s).0 n in
              put-field m (kind_of k) a n (value_of k n v) h ⨾ᵇ set-order n (Some o) ⨾ᵇ set-slot n i (slot_of k n v)
              ⨾ᵇ held-role n w r n (value_of k n v)).at s x;
        }))))

    held-leb : (m k : ℕ) (sl : ℕ → Content) (i : ℕ) (r : Role) (x : Leb) (s : State) → Holds s → (aligned e 8 s).0 ≤ e.bound.0
        → LebFits (ahead e (aligned e 8 s)) x → LebReaches (ahead e (aligned e 8 s)) x → Ok In At NoMore Holds (read_leb e m k sl i r x s)
    unfolding read_leb
    held-leb m k sl i r Past s h b g t = (refusing-at In At NoMore _ _ at_bound).at s h
    held-leb m k sl i r Large s h b g t = unfold refuse_at in (tt, (start-tenth e s, tenth-fits e s b (t refl)))
    held-leb m k sl i r (Value v n) s h b g t =
        let y = g v n refl in
        let w : N (8 * n.0) = j.some_bits (8 * n.0) (omega (arith, y.some)) in
        (put-field m k 8 (8 * n.0) v (omega arith) ⨾ᵇ set-slot (8 * n.0) i (sl v) ⨾ᵇ held-role (8 * n.0) w r (7 * n.0) v).at s
        (h, ahead-fits e (aligned e 8 s) n.0 b y.inside)

    held-zero : (m : ℕ) (x : Option ByteLength) (s : State) → Holds s → (aligned e 8 s).0 ≤ e.bound.0
        → ((n : ByteLength) → x ≡ Some n → n.0 < length (ahead e (aligned e 8 s)))
        → Ok In At NoMore Holds (read_zero e m x s)
    unfolding read_zero ◌⨾◌
    held-zero m None s h b g = (refusing In At NoMore stops NoZeroByte tt).at s h
    held-zero m (Some n) s h b g =
        let l : n.0 < length (ahead e (aligned e 8 s)) = g n refl in
        let x = bytes_at e (aligned e 8 s) n.0 in
        (text-field x m 23 (8 * (n.0 + 1)) n.0).at s (h, ahead-fits e (aligned e 8 s) (n.0 + 1) b (omega arith))

    pub held-law : Law e AnyRecord N Any Any (Holding J) (Holding J)
    unfolding from_slot
    held-law = record {
      none? = tt;
      one? = tt;
      seq = λ h k. h ⨾ᵇ k;
      dueʳ = λ h. dued In At NoMore stops tt h;
      passes = held-pass;
      unsets = λ i z. unset-slot i;
      unset = refusing In At NoMore stops SlotUnset tt;
      wrong_sort = refusing In At NoMore stops SlotOfWrongSort tt;
      in_none = refusing In At NoMore stops SelectorInNoOption tt;
      within = λ n h. untested In At NoMore stops _ LengthTooLarge tt h;
      slot = λ i f h. record { at = λ s x. (h (slot_at s.slots i) (any-slot (slot_at s.slots i))).at s x };
      fixes = λ m k n o a i r y w z. held-fixed m k n o (2 ^ a) i r w (pow_pos a);
      lebs = λ m i r y z. at_zero 8 (record {
        at = λ s x. held-leb m 21 Unsigned i r (leb_unsigned (ahead e (aligned e 8 s))) s x.0 x.1 (unsigned-value _)
            (unsigned-reaches _);
      });
      signed_lebs = λ m i y z. at_zero 8 (record {
        at = λ s x. held-leb m 22 Signed i no_role (leb_signed (ahead e (aligned e 8 s))) s x.0 x.1 (signed-value _)
            (signed-reaches _);
      });
      zeros = λ m y. at_zero 8 (record {
        at = λ s x. held-zero m (zero_at (ahead e (aligned e 8 s))) s x.0 x.1 (λ n z. (zero-found _ n z).0);
      });
      texts = λ m k n h y. unfold read_text in
          plain-fit 8 0 (fitting 8 (8 * n) (record {
            at = λ s x. let b = bytes_at e (aligned e 8 s) n in (text-field b m k (8 * n) (text_length b)).at s x;
          }));
      blobs = λ m k n r h y. unfold read_blob in
          plain-fit 8 0 (fitting 8 (8 * n) (record {
            at = λ s x. (a-field m k 8 (8 * n) n (omega arith) ⨾ᵇ held-blob_role r (bytes_at e (aligned e 8 s) n)).at s x;
          }));
      heads = λ m k a v h y g w x. fitting a 0 (a-field m k a 0 v g ⨾ᵇ x);
      tags = λ m k v h y w x. tagged m k v ⨾ᵇ x;
      tag = λ m k v h y w. tagged m k v;
    }

  -- Where the place was, for any class

  at_least : (q : ℕ) → Kept e Any (λ p d. q ≤ p)
  at_least q = record { some_bits = λ n h. tt; moves = λ p p' d l k. omega arith; says = λ n p d d' w l k. k }

  from-law : (q : ℕ) → Law e AnyRecord Any Any Any (Holding (λ p d. q ≤ p)) (Holding (λ p d. q ≤ p))
  from-law q = held-law (at_least q)

  went : (m : Step) → ((q : ℕ) → Holding (λ p d. q ≤ p) m) → (s : State) (es : List Entry) (s' : State)
      → e.start.0 ≤ s.place.0 → s.place.0 ≤ e.bound.0 → m s ≡ go es s'
      → (s.place.0 ≤ s'.place.0) × (s'.place.0 ≤ e.bound.0)
  went m h s es s' f t g =
      let held : Held e (λ p d. s.place.0 ≤ p) s = record { from = f; to = t; kept = le_refl s.place.0 } in
      let x = subst (Ok In At NoMore (Held e (λ p d. s.place.0 ≤ p))) g ((h s.place.0).at s held) in
      (x.1.kept, x.1.to)

  pub read_between : (m : ℕ) (c : Class) (s : State) (es : List Entry) (s' : State)
      → e.start.0 ≤ s.place.0 → s.place.0 ≤ e.bound.0 → read e m c s ≡ go es s'
      → (s.place.0 ≤ s'.place.0) × (s'.place.0 ≤ e.bound.0)
  read_between m c = went (read e m c) (λ q. law-read e (from-law q) m c (fits Any Any Any (λ n. tt) (λ n. tt) (λ n. tt) c))
