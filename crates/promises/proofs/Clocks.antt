-- Every clock of a reading's list is the least one, and a stamp is refused where the least one needs more than 64 bits. A law of steps:
-- from the state's clock the entries tick; the clock behind them is the state's; and where 36 stops the step, it is behind the entry of a
-- stamp that does not fit. In order: the new clock; refusals; entries; steps; fields; packets; readings.
use Rattle.std.specs.Prelude.{Option, None, Some}
use Rattle.rules.specs.declared.ByteLength.{ByteLength}
use mathlib.Core.Path.{◌≡◌, refl, sym, ap, subst, ◌∙◌}
use Prim.Native.Nat.{ℕ, zero, suc, ◌+◌, ◌-◌, ◌*◌, ◌%◌, ◌^◌, ◌<◌, ◌≤◌}
use native.Mathlib.Nat.{mod-lt, mod-add-mod}
use native.Mathlib.Omega.{arith}
use lib.Pow.{pow_pos}
use mathlib.Core.List.{List, [], ◌∷◌, ◌++◌}
use mathlib.Core.Bool.{Bool, true, false, ◌||◌}
use lib.ListN.{length}
use lib.Dec.{ltb, eqb}
use borrow.Author.Tests.{ltb-true, ltb-false, ne_eqb}
use Rattle.rules.specs.declared.BitPlace.{BitPlace}
use Rattle.rules.specs.declared.Order.{Order}
use Rattle.rules.specs.declared.Content.{Content}
use Rattle.rules.specs.declared.Content.TheVariants.{Unsigned, Signed}
use Rattle.rules.specs.declared.Leb.{Leb}
use Rattle.rules.specs.declared.Leb.TheVariants.{Value, Past, Large}
use Rattle.rules.specs.declared.Entry.{Entry}
use Rattle.rules.specs.declared.Refusal.{Refusal}
use Rattle.rules.specs.declared.Refusal.TheVariants.{StreamSize, PastBound, OrderChanged, LebTooLarge, NoZeroByte, SlotUnset}
use Rattle.rules.specs.declared.Refusal.TheVariants.{SlotOfWrongSort, LengthTooLarge, SelectorInNoOption, WrongMagic, WrongUuid}
use Rattle.rules.specs.declared.Refusal.TheVariants.{StreamClassChanged, StreamClassUnknown, LengthsContradict, ClocksContradict}
use Rattle.rules.specs.declared.Refusal.TheVariants.{EventClassUnknown, EventTookNoBits, ClockWentBack, ListFull, NotText}
use Rattle.rules.specs.declared.Verdict.TheVariants.{Refused}
use Rattle.rules.specs.Limits.{words_per_entry, stream_limit}
use Rattle.rules.specs.Bits.{bits}
use Rattle.rules.specs.Leb128.{leb_unsigned, leb_signed, leb_width}
use Rattle.rules.specs.Clock.{advance, clock_after}
use Rattle.rules.specs.Text.{text_length, zero_at}
use Rattle.rules.specs.Place.{bit_place, further}
use Rattle.rules.specs.Slots.{slot_at}
use Rattle.rules.specs.Verdict.{stop_at, refusal_number, number_of, place_of}
use Rattle.rules.specs.Entry.{entry, packet_starts, stream_class_found, lengths_settled, event_starts, event_class_found, clock_advanced}
use Rattle.rules.specs.Step.{State, Out, stop, go, Step, onto, after, ◌⨾◌, refuse, refuse_at, check, check_at, due, listed}
use Rattle.rules.specs.Step.{change, pass, with_slots, with_order, with_clock, with_last, with_said}
use Rattle.rules.specs.Class.{Role, no_role, magic, stream_class_id, stream_id, uuid, total_length}
use Rattle.rules.specs.Class.{content_length, clock, end_clock, discarded, sequence, event_class_id}
use Rattle.rules.specs.Class.{Class, Sort, bit_array, boolean, unsigned_int, signed_int, float, kind_of}
use Rattle.rules.specs.Table.{StreamClass, EventClass, Table, Asked, asked}
use Rattle.rules.specs.Field.{Env, aligned, fit, field, store, new_clock, say, role, blob_role, from_slot}
use Rattle.rules.specs.Field.{value_of, ahead, bytes_at, read_fixed, read_leb, as_text, read_zero, read_text, read_blob}
use Rattle.rules.specs.Packet.{mark, read_root, with_event, with_stream, start_event, start_packet}
use Rattle.rules.specs.Packet.{first_root, header_number, common_number, payload_number}
use Rattle.rules.specs.Packet.{end_packet, read_event, read_events, read_content, read_packet, read_packets}
use Rattle.rules.specs.Parse.{Parsed, bad, good, parse}
use Rattle.rules.specs.Read.{Reading, ended, begin, read_stream, read_parsed, read_all}
use Rattle.facts.proofs.Steps.{onto-nil}
use Rattle.clock.specs.Least.{Least}
use Rattle.clock.proofs.Least.{new-clock}
use Rattle.laws.proofs.Law.{FieldKind, Any, AnyRecord, any-slot, Law, law-any}
use Rattle.laws.proofs.Places.{tenth_byte}
use Rattle.promises.specs.Clocks.{clock_behind, clocks_behind, stamp_bits, Ticking, NeedsMore}

-- The new clock

-- only the low bits of a stamp count
advance-low : (c l v : ℕ) → advance c l (v % 2 ^ l) ≡ advance c l v
unfolding advance
advance-low c l v =
    let q : c % 2 ^ l < 2 ^ l = mod-lt c (pow_pos l) in
    let a : v % 2 ^ l + 2 ^ l - c % 2 ^ l ≡ v % 2 ^ l + (2 ^ l - c % 2 ^ l) = omega arith in
    let b : v + 2 ^ l - c % 2 ^ l ≡ v + (2 ^ l - c % 2 ^ l) = omega arith in
    rw (a, b) (mod-add-mod v (2 ^ l) (2 ^ l - c % 2 ^ l))

some-some : (a b : ℕ) → Some a ≡ Some b → a ≡ b
some-some a b h = cc

-- what a stamp adds gives the least value
advance-least : (c l v : ℕ) → Least c l (v % 2 ^ l) (c + advance c l v)
advance-least c l v =
    subst (Least c l (v % 2 ^ l)) (ap (λ z. c + z) (advance-low c l v)) (new-clock.is-least c l (v % 2 ^ l) (mod-lt v (pow_pos l)))

pub after-least : (c l v n : ℕ) → clock_after c l v ≡ Some n → Least c l (v % 2 ^ l) n × (n < 2 ^ 64)
unfolding clock_after
after-least c l v n h = by (ltb (c + advance c l v) (2 ^ 64)) refl h
  where
    by : (b : Bool) → ltb (c + advance c l v) (2 ^ 64) ≡ b → elim b [ true ↦ Some (c + advance c l v) | false ↦ None ] ≡ Some n
        → Least c l (v % 2 ^ l) n × (n < 2 ^ 64)
    by true e k =
        let p : c + advance c l v ≡ n = some-some _ _ k in
        let q : c + advance c l v < 2 ^ 64 = ltb-true _ _ e in
        (subst (Least c l (v % 2 ^ l)) p (advance-least c l v), omega arith)
    by false e k = let z : ◌≡◌ {A = ℕ} 0 1 = cc in absurd (omega arith)

-- and where there is none, the least value does not fit
pub after_none : (c l v : ℕ) → clock_after c l v ≡ None → Least c l (v % 2 ^ l) (c + advance c l v) × (2 ^ 64 ≤ c + advance c l v)
unfolding clock_after
after_none c l v h = by (ltb (c + advance c l v) (2 ^ 64)) refl h
  where
    by : (b : Bool) → ltb (c + advance c l v) (2 ^ 64) ≡ b
        → ◌≡◌ {A = Option ℕ} (elim b [ true ↦ Some (c + advance c l v) | false ↦ None ]) None
        → Least c l (v % 2 ^ l) (c + advance c l v) × (2 ^ 64 ≤ c + advance c l v)
    by true e k = let z : ◌≡◌ {A = ℕ} 0 1 = cc in absurd (omega arith)
    by false e k = (advance-least c l v, ltb-false _ _ e)

-- Refusals

-- not by 36
abbrev Other : Refusal → Type 0
Other r = refusal_number r ≡ 36 → ⊥

-- a stamp that does not fit: the clock is c, the last entry p, and the place
record Unfit (c : ℕ) (p : Entry) (place : ℕ) : Type 0 where
  field : FieldKind p.kind
  behind : place ≡ p.place.0 + p.bits
  clock : ℕ
  least : Least c (stamp_bits p) (p.value % 2 ^ stamp_bits p) clock
  past : 2 ^ 64 ≤ clock

-- Entries

last_of : Entry → List Entry → Entry
last_of p [] = p
last_of p (e ∷ es) = last_of e es

ticking-append : (es fs : List Entry) (c : ℕ) (p : Entry) → Ticking c p es → Ticking (clocks_behind c es) (last_of p es) fs
    → Ticking c p (es ++ fs)
unfolding clocks_behind last_of
ticking-append [] fs c p h k = k
ticking-append (e ∷ es) fs c p h k = (h.0, ticking-append es fs (clock_behind c e) e h.1 k)

behind-append : (es fs : List Entry) (c : ℕ) → clocks_behind c (es ++ fs) ≡ clocks_behind (clocks_behind c es) fs
unfolding clocks_behind
behind-append [] fs c = refl
behind-append (e ∷ es) fs c = behind-append es fs (clock_behind c e)

last-append : (es fs : List Entry) (p : Entry) → last_of p (es ++ fs) ≡ last_of (last_of p es) fs
unfolding last_of
last-append [] fs p = refl
last-append (e ∷ es) fs p = last-append es fs e

-- an entry that is neither 1 nor 6
record Still (k : ℕ) : Type 0 where
  not-packet : k ≡ packet_starts → ⊥
  not-clock : k ≡ clock_advanced → ⊥

still-behind : (c : ℕ) (e : Entry) → Still e.kind → clock_behind c e ≡ c
unfolding clock_behind
still-behind c e h = simp (ne_eqb e.kind packet_starts h.not-packet, ne_eqb e.kind clock_advanced h.not-clock, clock_behind)

-- Steps

abbrev TickOut : ℕ → Entry → Out → Type 0
TickOut c p (stop es w) = Ticking c p es × (refusal_number w.why ≡ 36 → Unfit (clocks_behind c es) (last_of p es) w.place.0)
TickOut c p (go es s) = Ticking c p es × (clocks_behind c es ≡ s.clock)

-- behind an entry p, at the place after it
record TickAt (p : Entry) (m : Step) : Type 0 where
  at : (s : State) → s.place.0 ≡ p.place.0 + p.bits → TickOut s.clock p (m s)

-- behind any
record Tick (m : Step) : Type 0 where
  at : (p : Entry) (s : State) → TickOut s.clock p (m s)

tick-onto : (c : ℕ) (p : Entry) (es : List Entry) (o : Out) → Ticking c p es → TickOut (clocks_behind c es) (last_of p es) o
    → TickOut c p (onto es o)
unfolding onto
tick-onto c p es (stop fs w) h k = (
  ticking-append es fs c p h k.0,
  λ q. rw (behind-append es fs c, last-append es fs p) (k.1 q),
)
tick-onto c p es (go fs s) h k = (ticking-append es fs c p h k.0, behind-append es fs c ∙ k.1)

tick-after : (c : ℕ) (p : Entry) (o : Out) (n : Step) → TickOut c p o → Tick n → TickOut c p (after o n)
unfolding after
tick-after c p (stop es w) n h k = h
tick-after c p (go es s) n h k =
    tick-onto c p es (n s) h.0 (subst (λ z. TickOut z (last_of p es) (n s)) (sym h.1) (k.at (last_of p es) s))

infixr 20 ◌⨾ᵗ◌
◌⨾ᵗ◌ : {m n : Step} → Tick m → Tick n → Tick (m ⨾ n)
unfolding ◌⨾◌
◌⨾ᵗ◌ {m} {n} h k = record { at = λ v s. tick-after s.clock v (m s) n (h.at v s) k }

tick-pass : Tick pass
unfolding pass clocks_behind
tick-pass = record { at = λ v s. (tt, refl) }

tick-refuse : (r : Refusal) → Other r → Tick (refuse r)
unfolding refuse
tick-refuse r h = record { at = λ v s. (tt, λ q. absurd (h q)) }

tick-refuse_at : (r : Refusal) (p : BitPlace) → Other r → Tick (refuse_at r p)
unfolding refuse_at
tick-refuse_at r p h = record { at = λ v s. (tt, λ q. absurd (h q)) }

tick-if : (c : ℕ) (v : Entry) (b : Bool) (x y : Out) → TickOut c v x → TickOut c v y → TickOut c v (elim b [ true ↦ x | false ↦ y ])
tick-if c v true x y h k = h
tick-if c v false x y h k = k

tick-check : (t : State → Bool) (r : Refusal) → Other r → Tick (check t r)
unfolding check
tick-check t r h = record { at = λ v s. tick-if s.clock v (t s) _ _ ((tick-refuse r h).at v s) (tick-pass.at v s) }

tick-check_at : (t : State → Bool) (r : Refusal) (p : BitPlace) → Other r → Tick (check_at t r p)
unfolding check_at
tick-check_at t r p h = record { at = λ v s. tick-if s.clock v (t s) _ _ ((tick-refuse_at r p h).at v s) (tick-pass.at v s) }

tick-due : Tick due
unfolding due refusal_number
tick-due = tick-check _ ListFull (λ q. omega arith)

tick-change : (f : State → State) → ((s : State) → (f s).clock ≡ s.clock) → Tick (change f)
unfolding change clocks_behind
tick-change f h = record { at = λ v s. (tt, sym (h s)) }

tick-listed : (v e : Entry) (p : BitPlace) (s : State) → Still e.kind → TickOut s.clock v (listed e p s)
unfolding listed clocks_behind
tick-listed v e p s h = (((λ q. absurd (h.not-clock q)), tt), still-behind s.clock e h)

still : (k : ℕ) → (k ≡ 1 → ⊥) → (k ≡ 6 → ⊥) → Still k
still k a b = record { not-packet = a; not-clock = b }

tick-mark : (k n v : ℕ) → Still k → Tick (mark k n v)
unfolding mark
tick-mark k n v h = record { at = λ u s. tick-listed u _ s.place s h }

-- Fields

field-still : (k : ℕ) → FieldKind k → Still k
field-still k h = record { not-packet = λ e. absurd (omega (arith, h)); not-clock = λ e. absurd (omega (arith, h)) }

tick-field : (e : Env) (m k a n v : ℕ) → FieldKind k → Tick (field e m k a n v)
unfolding field
tick-field e m k a n v h = record { at = λ u s. tick-listed u _ _ s (field-still k h) }

-- an entry that is neither, and what comes behind it
tick-behind : (c : ℕ) (p x : Entry) (o : Out) → Still x.kind → TickOut c x o → TickOut c p (onto (x ∷ []) o)
unfolding clocks_behind last_of
tick-behind c p x o h k =
    tick-onto c p (x ∷ []) o ((λ q. absurd (h.not-clock q)), tt) (subst (λ z. TickOut z x o) (sym (still-behind c x h)) k)

tick-valued : (e : Env) (m k a n v : ℕ) → FieldKind k → {f : Step} → ((q : BitPlace) → TickAt (entry k q n v m) f)
    → Tick (field e m k a n v ⨾ f)
unfolding field listed ◌⨾◌ after
tick-valued e m k a n v h {f} g = record { at = λ p s. tick-behind s.clock p _ (f _) (field-still k h) ((g (aligned e a s)).at _ refl) }

at-any : (p : Entry) {m : Step} → Tick m → TickAt p m
at-any p h = record { at = λ s l. h.at p s }

at-change : (p : Entry) (f : State → State) → ((s : State) → (f s).clock ≡ s.clock) → ((s : State) → (f s).place ≡ s.place)
    → {m : Step} → TickAt p m → TickAt p (change f ⨾ m)
unfolding change ◌⨾◌ after
at-change p f h k {m} g = record {
  at = λ s l. rw (onto-nil (m (f s))) (subst (λ z. TickOut z p (m (f s))) (h s) (g.at (f s) (ap (λ q. q.0) (k s) ∙ l)));
}

-- the role of the clock, behind the field's own entry
at-clock : (l : ℕ) (p : Entry) → FieldKind p.kind → l ≡ stamp_bits p
    → TickAt p (due ⨾ λ s. new_clock l (clock_after s.clock l p.value) s)
unfolding due check ◌⨾◌ pass refuse after refusal_number
at-clock l p f k = record { at = λ s g. by s g (ltb s.room words_per_entry) }
  where
    stamped : Step
    stamped s = new_clock l (clock_after s.clock l p.value) s

    new : (s : State) → s.place.0 ≡ p.place.0 + p.bits → (o : Option ℕ) → clock_after s.clock l p.value ≡ o
        → TickOut s.clock p (new_clock l o s)
    new s g None e = unfold new_clock refuse last_of clocks_behind in
        let x = after_none s.clock l p.value e in (
          tt,
          λ q. record {
            field = f;
            behind = g;
            clock = s.clock + advance s.clock l p.value;
            least = subst (λ z. Least s.clock z (p.value % 2 ^ z) (s.clock + advance s.clock l p.value)) k x.0;
            past = x.1;
          },
        )
    new s g (Some c) e = unfold new_clock ◌⨾◌ listed after change onto with_clock clocks_behind clock_behind in
        let x = after-least s.clock l p.value c e in
        (((λ q. record { place = g; bits = k; least = x.0; fits = x.1 }), tt), refl)

    by : (s : State) → s.place.0 ≡ p.place.0 + p.bits → (b : Bool)
        → TickOut s.clock p (after (elim b [ true ↦ refuse ListFull s | false ↦ pass s ]) stamped)
    by s g true = unfold refuse after in (tt, λ q. absurd (omega arith))
    by s g false = unfold pass after in rw (onto-nil (stamped s)) (new s g (clock_after s.clock l p.value) refl)

at-role : (r : Role) (l : ℕ) (p : Entry) → FieldKind p.kind → (r ≡ clock → l ≡ stamp_bits p) → TickAt p (role r l p.value)
unfolding role say with_said refusal_number
at-role no_role l p f h = at-any p tick-pass
at-role magic l p f h = at-any p (tick-check _ WrongMagic (λ q. omega arith))
at-role stream_class_id l p f h = at-any p (tick-change _ (λ s. refl))
at-role stream_id l p f h = at-any p tick-pass
at-role uuid l p f h = at-any p tick-pass
at-role total_length l p f h = at-any p (tick-change _ (λ s. refl))
at-role content_length l p f h = at-any p (tick-change _ (λ s. refl))
at-role clock l p f h = at-clock l p f (h refl)
at-role end_clock l p f h = at-any p (tick-change _ (λ s. refl))
at-role discarded l p f h = at-any p tick-pass
at-role sequence l p f h = at-any p tick-pass
at-role event_class_id l p f h = at-any p (tick-change _ (λ s. refl))

tick-blob_role : (e : Env) (r : Role) (b : List ℕ) → Tick (blob_role e r b)
unfolding blob_role refusal_number
tick-blob_role e no_role b = tick-pass
tick-blob_role e magic b = tick-pass
tick-blob_role e stream_class_id b = tick-pass
tick-blob_role e stream_id b = tick-pass
tick-blob_role e uuid b = tick-check _ WrongUuid (λ q. omega arith)
tick-blob_role e total_length b = tick-pass
tick-blob_role e content_length b = tick-pass
tick-blob_role e clock b = tick-pass
tick-blob_role e end_clock b = tick-pass
tick-blob_role e discarded b = tick-pass
tick-blob_role e sequence b = tick-pass
tick-blob_role e event_class_id b = tick-pass

kind-field : (k : Sort) → FieldKind (kind_of k)
unfolding kind_of
kind-field bit_array = omega arith
kind-field boolean = omega arith
kind-field unsigned_int = omega arith
kind-field signed_int = omega arith
kind-field float = omega arith

-- the stamp's bits
fixed-bits : (k : Sort) (q : BitPlace) (n v m : ℕ) → n ≡ stamp_bits (entry (kind_of k) q n v m)
unfolding stamp_bits kind_of
fixed-bits bit_array q n v m = refl
fixed-bits boolean q n v m = refl
fixed-bits unsigned_int q n v m = refl
fixed-bits signed_int q n v m = refl
fixed-bits float q n v m = refl

leb-bits : (q : BitPlace) (n v m : ℕ) → 7 * n ≡ stamp_bits (entry 21 q (8 * n) v m)
unfolding stamp_bits
leb-bits q n v m = omega arith

no-clock : {A : Type 0} → no_role ≡ clock → A
no-clock h = let z : ◌≡◌ {A = ℕ} 0 1 = cc in absurd (omega arith)

module _ (e : Env) where
  tick-fit : (a n : ℕ) → Tick (fit e a n)
  unfolding fit refusal_number
  tick-fit a n = tick-check_at _ PastBound e.bound (λ q. omega arith)

  tick-fixed : (m : ℕ) (k : Sort) (n : ℕ) (o : Order) (a i : ℕ) (r : Role) → Tick (read_fixed e m k n o a i r)
  unfolding read_fixed store with_order with_slots refusal_number
  tick-fixed m k n o a i r =
      tick-due ⨾ᵗ tick-fit a 0 ⨾ᵗ tick-check _ OrderChanged (λ q. omega arith) ⨾ᵗ tick-fit a n
      ⨾ᵗ record {
        at = λ u s.
            let v = bits o e.bytes (aligned e a s).0 n in
            (tick-valued e m (kind_of k) a n (value_of k n v) (kind-field k)
            (λ q.
            let x = entry (kind_of k) q n (value_of k n v) m in
            at-change _ _ (λ s. refl) (λ s. refl)
            (at-change _ _ (λ s. refl) (λ s. refl) (at-role r n x (kind-field k) (λ h. fixed-bits k q n _ m))))).at u s;
      }

  tick-leb : (m k : ℕ) (c : ℕ → Content) (i : ℕ) (r : Role) (x : Leb) → FieldKind k
      → ((q : BitPlace) (n v : ℕ) → r ≡ clock → 7 * n ≡ stamp_bits (entry k q (8 * n) v m)) → Tick (read_leb e m k c i r x)
  unfolding read_leb store with_slots refusal_number
  tick-leb m k c i r (Value v n) h l =
      tick-valued e m k 8 (8 * n.0) v h
      (λ q. at-change _ _ (λ s. refl) (λ s. refl) (at-role r (leb_width n) (entry k q (8 * n.0) v m) h (l q n.0 v)))
  tick-leb m k c i r Past h l = tick-refuse_at PastBound e.bound (λ q. omega arith)
  tick-leb m k c i r Large h l = record { at = λ u s. (tick-refuse_at LebTooLarge (tenth_byte e s) (λ q. omega arith)).at u s }

  tick-as_text : (x : List ℕ) → Tick (as_text x)
  unfolding as_text refusal_number
  tick-as_text x = tick-check _ NotText (λ q. omega arith)

  tick-zero : (m : ℕ) (x : Option ByteLength) → Tick (read_zero e m x)
  unfolding read_zero refusal_number
  tick-zero m (Some n) =
      record { at = λ v s. (tick-as_text (bytes_at e (aligned e 8 s) n.0)).at v s } ⨾ᵗ tick-field e m 23 8 _ _ (omega arith)
  tick-zero m None = tick-refuse NoZeroByte (λ q. omega arith)

  tick-law : Law e AnyRecord Any Any Any Tick Tick
  unfolding from_slot refusal_number
  tick-law = record {
    none? = tt;
    one? = tt;
    seq = λ h k. h ⨾ᵗ k;
    dueʳ = λ h. tick-due ⨾ᵗ h;
    passes = tick-pass;
    unsets = λ i z. unfold store with_slots in tick-change _ (λ s. refl);
    unset = tick-refuse SlotUnset (λ q. omega arith);
    wrong_sort = tick-refuse SlotOfWrongSort (λ q. omega arith);
    in_none = tick-refuse SelectorInNoOption (λ q. omega arith);
    within = λ n h. tick-check _ LengthTooLarge (λ q. omega arith) ⨾ᵗ h;
    slot = λ i f h. record { at = λ v s. (h (slot_at s.slots i) (any-slot (slot_at s.slots i))).at v s };
    fixes = λ m k n o a i r y w z. tick-fixed m k n o (2 ^ a) i r;
    lebs = λ m i r y z. tick-fit 8 0 ⨾ᵗ record {
      at = λ v s.
          let x = leb_unsigned (ahead e (aligned e 8 s)) in
          (tick-leb m 21 Unsigned i r x (omega arith) (λ q n v h. leb-bits q n v m)).at v s;
    };
    signed_lebs = λ m i y z. tick-fit 8 0 ⨾ᵗ record {
      at = λ v s.
          let x = leb_signed (ahead e (aligned e 8 s)) in
          (tick-leb m 22 Signed i no_role x (omega arith) (λ q n v h. no-clock h)).at v s;
    };
    zeros = λ m y. tick-fit 8 0 ⨾ᵗ record { at = λ v s. (tick-zero m (zero_at (ahead e (aligned e 8 s)))).at v s };
    texts = λ m k n h y. unfold read_text in
        tick-fit 8 0 ⨾ᵗ tick-fit 8 (8 * n)
        ⨾ᵗ record {
          at = λ v s. let b = bytes_at e (aligned e 8 s) n in (tick-as_text b ⨾ᵗ tick-field e m k 8 (8 * n) (text_length b) h).at v s;
        };
    blobs = λ m k n r h y. unfold read_blob in
        tick-fit 8 0 ⨾ᵗ tick-fit 8 (8 * n)
        ⨾ᵗ record { at = λ v s. (tick-field e m k 8 (8 * n) n h ⨾ᵗ tick-blob_role e r (bytes_at e (aligned e 8 s) n)).at v s };
    heads = λ m k a v h y l w x. tick-fit a 0 ⨾ᵗ tick-field e m k a 0 v h ⨾ᵗ x;
    tags = λ m k v h y w x. tick-field e m k 1 0 v h ⨾ᵗ x;
    tag = λ m k v h y w. tick-field e m k 1 0 v h;
  }

  tick-root : (m : ℕ) (c : Option Class) → Tick (read_root e m c)
  tick-root m c = law-any e tick-law m c

-- Packets

module _ (t : Asked) where
  tick-found : (i j : ℕ) (x : Option EventClass) (f : EventClass → Step) → ((d : EventClass) → Tick (f d)) → Tick (with_event i j x f)
  unfolding with_event refusal_number
  tick-found i j None f h = tick-refuse (EventClassUnknown i j) (λ q. omega arith)
  tick-found i j (Some d) f h = h d

  tick-event : (c : StreamClass) (e : Env) (n : ℕ) → Tick (read_event t c e n)
  unfolding read_event start_event with_last refusal_number
  tick-event c e n = record {
    at = λ v s₀.
        (tick-due ⨾ᵗ tick-mark event_starts 0 n (still 4 (λ q. omega arith) (λ q. omega arith)) ⨾ᵗ tick-change _ (λ s. refl)
        ⨾ᵗ tick-root e (header_number c) c.header ⨾ᵗ tick-check _ ClockWentBack (λ q. omega arith)
        ⨾ᵗ tick-change _ (λ s. refl) ⨾ᵗ tick-due
        ⨾ᵗ record {
          at = λ v s. (tick-found c.id s.said.event (t.event c.id s.said.event) _
              (λ d. tick-mark event_class_found 0 s.said.event (still 5 (λ q. omega arith) (λ q. omega arith))
              ⨾ᵗ tick-root e (common_number c) c.common ⨾ᵗ tick-root e first_root d.specific
              ⨾ᵗ tick-root e (payload_number d) d.payload)).at v s;
        }
        ⨾ᵗ tick-check (λ s. eqb s.place.0 s₀.place.0) EventTookNoBits (λ q. omega arith)).at v s₀;
  }

  tick-end : (to : BitPlace) (n : ℕ) → Tick (end_packet to n)
  unfolding end_packet
  tick-end to n = tick-due ⨾ᵗ record { at = λ v s. tick-listed v _ to s (still 7 (λ q. omega arith) (λ q. omega arith)) }

  tick-events : (c : StreamClass) (e : Env) (to : BitPlace) (n left : ℕ) → Tick (read_events t c e to n left)
  unfolding read_events
  tick-events c e to n zero = tick-end to n
  tick-events c e to n (suc left) = record {
    at = λ v s.
        tick-if s.clock v (ltb s.place.0 e.bound.0) _ _
        ((tick-event c e n ⨾ᵗ tick-events c e to (n + 1) left).at v s) ((tick-end to n).at v s);
  }

  tick-content : (c : StreamClass) (b : List ℕ) (p : BitPlace) (total content : ℕ) → Tick (read_content t c b p total content)
  unfolding read_content refusal_number
  tick-content c b p total content =
      tick-due ⨾ᵗ tick-check _ LengthsContradict (λ q. omega arith) ⨾ᵗ tick-check _ ClocksContradict (λ q. omega arith)
      ⨾ᵗ tick-mark lengths_settled total content (still 3 (λ q. omega arith) (λ q. omega arith))
      ⨾ᵗ record { at = λ v s. (tick-events c _ (further p total) 0 (p.0 + content - s.place.0)).at v s }

  -- a packet starts: its entry 1 and the clock's 0 go together
  tick-start : (k : ℕ) {m : Step} → Tick m → Tick (mark packet_starts 0 k ⨾ change start_packet ⨾ m)
  unfolding mark listed ◌⨾◌ after change start_packet
  tick-start k {m} h = record {
    at = λ v s.
        tick-onto s.clock v (_ ∷ []) (onto [] (m _)) ((λ q. absurd (omega arith)), tt)
        (unfold clocks_behind clock_behind last_of in rw (onto-nil (m _)) (h.at _ _));
  }

  tick-stream : (i : ℕ) (x : Option StreamClass) (f : StreamClass → Step) → ((c : StreamClass) → Tick (f c)) → Tick (with_stream i x f)
  unfolding with_stream refusal_number
  tick-stream i None f h = tick-refuse (StreamClassUnknown i) (λ q. omega arith)
  tick-stream i (Some c) f h = h c

  tick-packet : (b : List ℕ) (k : ℕ) (i : Option ℕ) → Tick (read_packet t b k i)
  unfolding read_packet refusal_number
  tick-packet b k i = record {
    at = λ v s₀.
        (tick-due ⨾ᵗ tick-start k (tick-root _ first_root t.header ⨾ᵗ tick-check _ StreamClassChanged (λ q. omega arith) ⨾ᵗ tick-due
        ⨾ᵗ record {
          at = λ v s. (tick-stream s.said.stream (t.stream s.said.stream) _
              (λ c. tick-mark stream_class_found 0 s.said.stream (still 2 (λ q. omega arith) (λ q. omega arith))
              ⨾ᵗ tick-root _ first_root c.context
              ⨾ᵗ record { at = λ v s. (tick-content c b s₀.place _ _).at v s })).at v s;
        })).at v s₀;
  }

  tick-packets : (b : List ℕ) (k : ℕ) (i : Option ℕ) (left : ℕ) → Tick (read_packets t b k i left)
  unfolding read_packets
  tick-packets b k i zero = tick-pass
  tick-packets b k i (suc left) = record {
    at = λ v s.
        tick-if s.clock v (ltb s.place.0 (8 * length b)) _ _
        ((tick-packet b k i ⨾ᵗ record { at = λ v s. (tick-packets b (k + 1) (Some s.said.stream) left).at v s }).at v s)
        (tick-pass.at v s);
  }

-- Readings

abbrev Ticked : Entry → Reading → Type 0
Ticked p r =
    Ticking 0 p r.entries
    × (number_of r.verdict ≡ 36 → Unfit (clocks_behind 0 r.entries) (last_of p r.entries) (place_of r.verdict))

ended-ticks : (p : Entry) (o : Out) → TickOut 0 p o → Ticked p (ended o)
unfolding ended number_of place_of
ended-ticks p (stop es v) h = h
ended-ticks p (go es s) h = (h.0, λ q. absurd (omega arith))

stream-ticks : (t : Asked) (b : List ℕ) (room : ℕ) (p : Entry) → Ticked p (read_stream t b room)
unfolding read_stream number_of refusal_number
stream-ticks t b room p = by (eqb (length b) 0 || ltb stream_limit (length b))
  where
    by : (x : Bool) → Ticked p (elim x as (λ z. Reading) [
      | true ↦ record { entries = []; verdict = Refused (stop_at StreamSize (bit_place 0)) }
      | false ↦ ended (read_packets t b 0 None (length b) (begin room))
    ])
    by true = (tt, λ q. absurd (omega arith))
    by false = unfold begin in ended-ticks p _ ((tick-packets t b 0 None (length b)).at p (begin room))

reading-ticked : (x b : List ℕ) (room : ℕ) (e : Entry) → Ticked e (read_all x b room)
unfolding read_all number_of
reading-ticked x b room e = by (parse x)
  where
    by : (p : Parsed Table) → Ticked e (read_parsed x p b room)
    by (bad n y) = unfold read_parsed in (tt, λ q. absurd (omega arith))
    by (good t y) = unfold read_parsed in stream-ticks (asked t) b room e

pub reading-ticks : (x b : List ℕ) (room : ℕ) (e : Entry) → Ticking 0 e (read_all x b room).entries
reading-ticks x b room e = (reading-ticked x b room e).0

-- the last entry of a list that has one
last-stands : (p e : Entry) (es : List Entry) → (before : List Entry) × (e ∷ es ≡ before ++ (last_of p (e ∷ es) ∷ []))
unfolding last_of
last-stands p e [] = ([], refl)
last-stands p e (f ∷ es) = let h = last-stands e f es in (e ∷ h.0, ap (e ∷◌) h.1)

-- where 36 refuses it, behind whatever entry: one of no field shows that the list is not empty
unfit-last : (es : List Entry) (place : ℕ) → ((p : Entry) → Unfit (clocks_behind 0 es) (last_of p es) place) → NeedsMore es place
unfit-last [] place h = unfold last_of in absurd (omega (arith, (h (entry 0 (bit_place 0) 0 0 0)).field.0))
unfit-last (e ∷ es) place h =
    let u = h e in
    let l = last-stands e e es in
    record {
      before = l.0;
      stamp = last_of e (e ∷ es);
      last = l.1;
      field = u.field;
      behind = u.behind;
      clock = u.clock;
      least = u.least;
      past = u.past;
    }

pub reading-needs : (x b : List ℕ) (room : ℕ) → number_of (read_all x b room).verdict ≡ 36
    → NeedsMore (read_all x b room).entries (place_of (read_all x b room).verdict)
reading-needs x b room h = unfit-last _ _ (λ p. (reading-ticked x b room p).1 h)
