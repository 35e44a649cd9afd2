-- What fields and events list tells no bound, and where they are refused the place is right by the environment: 22 at its bound, 24 at the
-- tenth byte of a number that does not fit. In order: verdicts; a number's tenth byte; steps; fields; events.
use Rattle.std.specs.Prelude.{Option, None, Some}
use Rattle.rules.specs.declared.ByteLength.{ByteLength}
use mathlib.Core.Path.{◌≡◌, refl, ap, subst}
use mathlib.Core.Logic.{◌⊎◌, inl, inr, ⊎_elim}
use Prim.Native.Nat.{ℕ, zero, suc, ◌+◌, ◌-◌, ◌*◌, ◌/◌, ◌%◌, ◌≤◌}
use native.Mathlib.Omega.{arith}
use mathlib.Core.List.{List}
use mathlib.Core.Bool.{Bool, true, false}
use lib.ListN.{take, drop}
use lib.Dec.{ltb, eqb}
use borrow.Author.Tests.{ltb-false, eqb-false, ne_eqb}
use Rattle.rules.specs.declared.BitPlace.{BitPlace}
use Rattle.rules.specs.declared.Order.{Order}
use Rattle.rules.specs.declared.Content.{Content}
use Rattle.rules.specs.declared.Content.TheVariants.{Unsigned, Signed}
use Rattle.rules.specs.declared.Leb.{Leb}
use Rattle.rules.specs.declared.Leb.TheVariants.{Value, Past, Large}
use Rattle.rules.specs.declared.Entry.{Entry}
use Rattle.rules.specs.declared.Stop.{Stop}
use Rattle.rules.specs.declared.Refusal.{Refusal}
use Rattle.rules.specs.declared.Refusal.TheVariants.{PastBound, OrderChanged, LebTooLarge, NoZeroByte, SlotUnset, SlotOfWrongSort}
use Rattle.rules.specs.declared.Refusal.TheVariants.{LengthTooLarge, SelectorInNoOption, WrongMagic, WrongUuid, ClockTooLarge}
use Rattle.rules.specs.declared.Refusal.TheVariants.{EventClassUnknown, EventTookNoBits, ClockWentBack, ListFull, NotText}
use Rattle.rules.specs.declared.Verdict.{Verdict}
use Rattle.rules.specs.declared.Verdict.TheVariants.{Refused}
use Rattle.rules.specs.Limits.{leb_limit}
use Rattle.rules.specs.Place.{align_from, round_up}
use Rattle.rules.specs.Leb128.{leb_unsigned, leb_signed}
use Rattle.rules.specs.Clock.{clock_after}
use Rattle.rules.specs.Text.{zero_at}
use Rattle.rules.specs.Verdict.{stop_at, refusal_number, number_of, place_of}
use Rattle.rules.specs.Entry.{packet_starts, lengths_settled, event_starts, event_class_found}
use Rattle.rules.specs.Slots.{slot_at}
use Rattle.rules.specs.Step.{State, Out, Step, ◌⨾◌, refuse, refuse_at, check, due, listed, change, pass}
use Rattle.rules.specs.Class.{Role, no_role, magic, stream_class_id, stream_id, uuid, total_length, content_length, clock, end_clock}
use Rattle.rules.specs.Class.{discarded, sequence, event_class_id}
use Rattle.rules.specs.Class.{Class, Sort, bit_array, boolean, unsigned_int, signed_int, float, kind_of}
use Rattle.rules.specs.Table.{StreamClass, EventClass, Asked}
use Rattle.rules.specs.Field.{Env, aligned, ahead, bytes_at, fit, field, store, new_clock, say, role, blob_role, from_slot}
use Rattle.rules.specs.Field.{read_fixed, read_leb, as_text, read_zero, read_text, read_blob}
use Rattle.rules.specs.Packet.{mark, read_root, with_event, read_event, end_packet, read_events}
use Rattle.rules.specs.Packet.{first_root, header_number, common_number, payload_number}
use Rattle.leb128.specs.Answer.{TenthByte}
use Rattle.leb128.proofs.Settled.{unsigned-reaches, signed-reaches}
use Rattle.laws.proofs.Law.{FieldKind, Any, AnyRecord, any-slot, Law, law-any}
use Rattle.laws.proofs.Triple.{Ok, Triple, then, passing, changing, refusing, checks, tested_at, untested-at}
use Rattle.laws.proofs.Places.{ahead-fits, tenth_byte}
use Rattle.promises.specs.Places.{bytes_from, AtTenth}

-- Verdicts

-- with a bound in force, a verdict's place is the right one
pub record Right (b : List ℕ) (bound : ℕ) (u : Verdict) : Type 0 where
  pub past : number_of u ≡ refusal_number PastBound → place_of u ≡ bound
  pub large : number_of u ≡ refusal_number LebTooLarge → AtTenth b bound (place_of u)

-- neither 22 nor 24
abbrev pub OtherNumber : ℕ → Type 0
OtherNumber n = (eqb n (refusal_number PastBound) ≡ false) × (eqb n (refusal_number LebTooLarge) ≡ false)

abbrev pub Other : Refusal → Type 0
Other r = OtherNumber (refusal_number r)

pub other-right : (b : List ℕ) (bound : ℕ) (u : Verdict) → OtherNumber (number_of u) → Right b bound u
other-right b bound u h = record { past = λ q. absurd (eqb-false _ _ h.0 q); large = λ q. absurd (eqb-false _ _ h.1 q) }

-- the same of where a step stops
abbrev pub Stands : List ℕ → ℕ → Stop → Type 0
Stands b bound v = Right b bound (Refused v)

past-right : (b : List ℕ) (bound : BitPlace) → Stands b bound.0 (stop_at PastBound bound)
unfolding refusal_number number_of place_of
past-right b bound = record { past = λ q. refl; large = λ q. absurd (omega arith) }

large-right : (b : List ℕ) (bound : ℕ) (p : BitPlace) → AtTenth b bound p.0 → Stands b bound (stop_at LebTooLarge p)
unfolding refusal_number number_of place_of
large-right b bound p h = record { past = λ q. absurd (omega arith); large = λ q. h }

-- A number's tenth byte

-- from a whole byte on
ahead-from : (e : Env) (q : BitPlace) → q.0 % 8 ≡ 0 → ahead e q ≡ bytes_from e.bytes e.bound.0 (q.0 / 8)
unfolding ahead
ahead-from e q w =
    let bytes : (e.bound.0 - q.0) / 8 ≡ e.bound.0 / 8 - q.0 / 8 = omega arith in
    ap (λ n. take n (drop (q.0 / 8) e.bytes)) bytes

abbrev NoFit : List ℕ → Type 0
NoFit bs = (leb_unsigned bs ≡ Large) ⊎ (leb_signed bs ≡ Large)

tenth-at : (e : Env) (q : BitPlace) → q.0 % 8 ≡ 0 → q.0 ≤ e.bound.0 → NoFit (ahead e q)
    → AtTenth e.bytes e.bound.0 (q.0 + 8 * (leb_limit - 1))
tenth-at e q w l h =
    let tenth : TenthByte (ahead e q) = ⊎_elim (unsigned-reaches (ahead e q)) (signed-reaches (ahead e q)) h in
    record {
      first = q.0 / 8;
      place_is = omega arith;
      before = omega (arith, ahead-fits e q leb_limit l tenth.there);
      large = subst NoFit (ahead-from e q w) h;
      tenth = subst TenthByte (ahead-from e q w) tenth;
    }

aligned-whole : (e : Env) (s : State) → e.start.0 % 8 ≡ 0 → (aligned e 8 s).0 % 8 ≡ 0
unfolding aligned align_from round_up
aligned-whole e s w = omega arith

-- Steps

-- of no kind that tells a bound
abbrev pub QuietKind : ℕ → Type 0
QuietKind k = (eqb k packet_starts ≡ false) × (eqb k lengths_settled ≡ false)

abbrev pub Quiet : Entry → Type 0
Quiet x = QuietKind x.kind

field-quiet : (k : ℕ) → FieldKind k → QuietKind k
field-quiet k h = (ne_eqb k packet_starts (λ q. omega arith), ne_eqb k lengths_settled (λ q. omega arith))

sort-quiet : (k : Sort) → QuietKind (kind_of k)
unfolding kind_of
sort-quiet bit_array = (refl, refl)
sort-quiet boolean = (refl, refl)
sort-quiet unsigned_int = (refl, refl)
sort-quiet signed_int = (refl, refl)
sort-quiet float = (refl, refl)

abbrev pub AnyState : State → Type 0
AnyState s = Unit {0}

abbrev pub AtPlace : BitPlace → State → Type 0
AtPlace p s = s.place.0 ≡ p.0

pub by-test : (P : Out → Type 0) (x : Bool) (o o' : Out) → P o → P o' → P (elim x [ true ↦ o | false ↦ o' ])
by-test P true o o' h k = h
by-test P false o o' h k = k

module _ (e : Env) where
  abbrev pub At : Stop → Type 0
  At v = Stands e.bytes e.bound.0 v

  abbrev pub Fine : (State → Type 0) → Step → (State → Type 0) → Type 0
  Fine A m B = Triple Quiet At Other A m B

  -- what it lists tells no bound, and where it stops the place is right
  abbrev pub Lands : Step → Type 0
  Lands m = Fine AnyState m AnyState

  pub others : (A : State → Type 0) (r : Refusal) → Other r → (s : State) → A s → At (stop_at r s.place)
  unfolding number_of
  others A r h s a = other-right e.bytes e.bound.0 (Refused (stop_at r s.place)) h

  at_bound : (s : State) → AnyState s → At (stop_at PastBound e.bound)
  at_bound s a = past-right e.bytes e.bound

  infixr 20 ◌⨾ˡ◌
  ◌⨾ˡ◌ : {A B C : State → Type 0} {m n : Step} → Fine A m B → Fine B n C → Fine A (m ⨾ n) C
  h ⨾ˡ k = then Quiet At Other h k

  lands-pass : Lands pass
  lands-pass = passing Quiet At Other

  pub lands-change : (f : State → State) → Lands (change f)
  lands-change f = changing Quiet At Other f (λ s a. tt)

  pub lands-refuse : {B : State → Type 0} (r : Refusal) → Other r → Fine AnyState (refuse r) B
  lands-refuse r h = refusing Quiet At Other (others AnyState) r h

  pub lands-check : {A : State → Type 0} (t : State → Bool) (r : Refusal) → Other r → Fine A (check t r) A
  lands-check {A} t r h = checks Quiet At Other (others A) t r h

  pub lands-due : {A : State → Type 0} → Fine A due A
  unfolding due refusal_number
  lands-due = lands-check _ ListFull (refl, refl)

  pub lands-mark : (k n v : ℕ) → QuietKind k → Lands (mark k n v)
  unfolding mark listed
  lands-mark k n v h = record { at = λ s a. ((h, tt), tt) }

  lands-fit : (a n : ℕ) {m : Step} → Lands m → Lands (fit e a n ⨾ m)
  unfolding fit
  lands-fit a n h = untested-at Quiet At Other _ _ at_bound _ h

  -- behind the alignment to whole bytes
  at-bytes : {m : Step} → Fine (λ s. (aligned e 8 s).0 ≤ e.bound.0) m AnyState → Lands (fit e 8 0 ⨾ m)
  unfolding fit
  at-bytes h = tested_at Quiet At Other _ _ at_bound _ (record {
    at = λ s x. let b : (aligned e 8 s).0 + 0 ≤ e.bound.0 = ltb-false _ _ x.1 in h.at s (omega arith);
  })

  -- Fields

  lands-field : (m k a n v : ℕ) → QuietKind k → Lands (field e m k a n v)
  unfolding field listed
  lands-field m k a n v h = record { at = λ s a. ((h, tt), tt) }

  lands-store : (i : ℕ) (x : Content) → Lands (store i x)
  unfolding store
  lands-store i x = lands-change _

  lands-clock : (l : ℕ) (o : Option ℕ) → Lands (new_clock l o)
  unfolding new_clock listed refusal_number
  lands-clock l None = lands-refuse ClockTooLarge (refl, refl)
  lands-clock l (Some c) = record { at = λ s a. (((refl, refl), tt), tt) } ⨾ˡ lands-change _

  lands-role : (r : Role) (l v : ℕ) → Lands (role r l v)
  unfolding role say refusal_number
  lands-role no_role l v = lands-pass
  lands-role magic l v = lands-check _ WrongMagic (refl, refl)
  lands-role stream_class_id l v = lands-change _
  lands-role stream_id l v = lands-pass
  lands-role uuid l v = lands-pass
  lands-role total_length l v = lands-change _
  lands-role content_length l v = lands-change _
  lands-role clock l v = lands-due ⨾ˡ record { at = λ s a. (lands-clock l (clock_after s.clock l v)).at s a }
  lands-role end_clock l v = lands-change _
  lands-role discarded l v = lands-pass
  lands-role sequence l v = lands-pass
  lands-role event_class_id l v = lands-change _

  lands-blob_role : (r : Role) (b : List ℕ) → Lands (blob_role e r b)
  unfolding blob_role refusal_number
  lands-blob_role no_role b = lands-pass
  lands-blob_role magic b = lands-pass
  lands-blob_role stream_class_id b = lands-pass
  lands-blob_role stream_id b = lands-pass
  lands-blob_role uuid b = lands-check _ WrongUuid (refl, refl)
  lands-blob_role total_length b = lands-pass
  lands-blob_role content_length b = lands-pass
  lands-blob_role clock b = lands-pass
  lands-blob_role end_clock b = lands-pass
  lands-blob_role discarded b = lands-pass
  lands-blob_role sequence b = lands-pass
  lands-blob_role event_class_id b = lands-pass

  lands-fixed : (m : ℕ) (k : Sort) (n : ℕ) (o : Order) (a i : ℕ) (r : Role) → Lands (read_fixed e m k n o a i r)
  unfolding read_fixed refusal_number
  lands-fixed m k n o a i r =
      lands-due ⨾ˡ lands-fit a 0 (lands-check _ OrderChanged (refl, refl) ⨾ˡ lands-fit a n (record {
        at = λ s x. (lands-field m (kind_of k) a n _ (sort-quiet k) ⨾ˡ lands-change _ ⨾ˡ lands-store i _ ⨾ˡ lands-role r n _).at s x;
      }))

  -- where the number does not fit, its tenth byte is at hand
  lands-leb : (m k : ℕ) → QuietKind k → (c : ℕ → Content) (i : ℕ) (r : Role) (x : Leb) (s : State)
      → (x ≡ Large → AtTenth e.bytes e.bound.0 (tenth_byte e s).0) → Ok Quiet At Other AnyState (read_leb e m k c i r x s)
  unfolding read_leb refuse_at
  lands-leb m k g c i r (Value v n) s h = (lands-field m k 8 _ v g ⨾ˡ lands-store i (c v) ⨾ˡ lands-role r _ v).at s tt
  lands-leb m k g c i r Past s h = (tt, past-right e.bytes e.bound)
  lands-leb m k g c i r Large s h = (tt, large-right e.bytes e.bound.0 (tenth_byte e s) (h refl))

  lands-as_text : (x : List ℕ) → Lands (as_text x)
  unfolding as_text refusal_number
  lands-as_text x = lands-check _ NotText (refl, refl)

  lands-zero : (m : ℕ) (x : Option ByteLength) → Lands (read_zero e m x)
  unfolding read_zero refusal_number
  lands-zero m (Some n) =
      record { at = λ s a. (lands-as_text (bytes_at e (aligned e 8 s) n.0)).at s a } ⨾ˡ lands-field m 23 8 _ _ (refl, refl)
  lands-zero m None = lands-refuse NoZeroByte (refl, refl)

  module _ (whole : e.start.0 % 8 ≡ 0) where
    tenth-aligned : (s : State) → (aligned e 8 s).0 ≤ e.bound.0 → NoFit (ahead e (aligned e 8 s))
        → AtTenth e.bytes e.bound.0 (tenth_byte e s).0
    tenth-aligned s l h = tenth-at e (aligned e 8 s) (aligned-whole e s whole) l h

    lands-law : Law e AnyRecord Any Any Any Lands Lands
    unfolding from_slot refusal_number
    lands-law = record {
      none? = tt;
      one? = tt;
      seq = λ h k. h ⨾ˡ k;
      dueʳ = λ h. lands-due ⨾ˡ h;
      passes = lands-pass;
      unsets = λ i z. lands-store i _;
      unset = lands-refuse SlotUnset (refl, refl);
      wrong_sort = lands-refuse SlotOfWrongSort (refl, refl);
      in_none = lands-refuse SelectorInNoOption (refl, refl);
      within = λ n h. lands-check _ LengthTooLarge (refl, refl) ⨾ˡ h;
      slot = λ i f h. record { at = λ s a. (h (slot_at s.slots i) (any-slot (slot_at s.slots i))).at s a };
      fixes = λ m k n o a i r y w z. lands-fixed m k n o _ i r;
      lebs = λ m i r y z. at-bytes (record { at = λ s l. lands-leb m 21 (refl, refl) Unsigned i r _ s (λ q. tenth-aligned s l (inl q)) });
      signed_lebs = λ m i y z.
          at-bytes (record { at = λ s l. lands-leb m 22 (refl, refl) Signed i no_role _ s (λ q. tenth-aligned s l (inr q)) });
      zeros = λ m y. lands-fit 8 0 (record { at = λ s a. (lands-zero m (zero_at (ahead e (aligned e 8 s)))).at s a });
      texts = λ m k n g y. unfold read_text in
          lands-fit 8 0 (lands-fit 8 (8 * n) (record {
            at = λ s a. (lands-as_text (bytes_at e (aligned e 8 s) n) ⨾ˡ lands-field m k 8 (8 * n) _ (field-quiet k g)).at s a;
          }));
      blobs = λ m k n r g y. unfold read_blob in
          lands-fit 8 0 (lands-fit 8 (8 * n) (record {
            at = λ s a. (lands-field m k 8 (8 * n) n (field-quiet k g) ⨾ˡ lands-blob_role r _).at s a;
          }));
      heads = λ m k a v g y l w h. lands-fit a 0 (lands-field m k a 0 v (field-quiet k g) ⨾ˡ h);
      tags = λ m k v g y w h. lands-field m k 1 0 v (field-quiet k g) ⨾ˡ h;
      tag = λ m k v g y w. lands-field m k 1 0 v (field-quiet k g);
    }

    pub lands-root : (m : ℕ) (c : Option Class) → Lands (read_root e m c)
    lands-root m c = law-any e lands-law m c

    -- Events

    module _ (t : Asked) (c : StreamClass) where
      lands-found : (i j : ℕ) (x : Option EventClass) (f : EventClass → Step) → ((d : EventClass) → Lands (f d))
          → Lands (with_event i j x f)
      unfolding with_event refusal_number
      lands-found i j None f h = lands-refuse (EventClassUnknown i j) (refl, refl)
      lands-found i j (Some d) f h = h d

      lands-event : (n : ℕ) → Lands (read_event t c e n)
      unfolding read_event refusal_number
      lands-event n = record {
        at = λ s₀ a.
            (lands-due ⨾ˡ lands-mark event_starts 0 n (refl, refl) ⨾ˡ lands-change _ ⨾ˡ lands-root (header_number c) c.header
            ⨾ˡ lands-check _ ClockWentBack (refl, refl) ⨾ˡ lands-change _ ⨾ˡ lands-due
            ⨾ˡ record {
              at = λ s a. (lands-found c.id s.said.event (t.event c.id s.said.event) _
                  (λ d. lands-mark event_class_found 0 s.said.event (refl, refl)
                  ⨾ˡ lands-root (common_number c) c.common ⨾ˡ lands-root first_root d.specific
                  ⨾ˡ lands-root (payload_number d) d.payload)).at s a;
            }
            ⨾ˡ lands-check (λ s. eqb s.place.0 s₀.place.0) EventTookNoBits (refl, refl)).at s₀ a;
      }

      lands-end : (to : BitPlace) (n : ℕ) → Fine AnyState (end_packet to n) (AtPlace to)
      unfolding end_packet listed
      lands-end to n = lands-due ⨾ˡ record { at = λ s a. (((refl, refl), tt), refl) }

      pub lands-events : (to : BitPlace) (n left : ℕ) → Fine AnyState (read_events t c e to n left) (AtPlace to)
      unfolding read_events
      lands-events to n zero = lands-end to n
      lands-events to n (suc left) = record {
        at = λ s a. by-test (Ok Quiet At Other (AtPlace to)) (ltb s.place.0 e.bound.0) _ _
            ((lands-event n ⨾ˡ lands-events to (n + 1) left).at s a) ((lands-end to n).at s a);
      }
