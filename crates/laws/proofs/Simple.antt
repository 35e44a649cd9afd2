-- Laws that ask nothing of a field's bits or values, of the slots that it sets only S, and of its record only M: what holds of the
-- primitive steps, and under their composition, holds of every root. L is a law of steps, and R the same of steps that come where there is
-- room for an entry.
use Rattle.std.specs.Prelude.{Option, None, Some}
use Rattle.rules.specs.declared.ByteLength.{ByteLength}
use mathlib.Core.Path.{◌≡◌}
use Prim.Native.Nat.{ℕ, ◌+◌, ◌-◌, ◌*◌, ◌%◌, ◌^◌, ◌≤◌}
use native.Mathlib.Omega.{arith}
use native.Mathlib.Nat.{le_refl}
use lib.Pow.{pow_pos}
use mathlib.Core.List.{List}
use mathlib.Core.Bool.{Bool, not, ◌&&◌}
use lib.Dec.{ltb, eqb}
use Rattle.rules.specs.declared.BitPlace.{BitPlace}
use Rattle.rules.specs.declared.Order.{Order}
use Rattle.rules.specs.declared.Content.{Content}
use Rattle.rules.specs.declared.Content.TheVariants.{Unset, Unsigned, Signed}
use Rattle.rules.specs.declared.Said.{Said}
use Rattle.rules.specs.declared.Leb.{Leb}
use Rattle.rules.specs.declared.Leb.TheVariants.{Value, Past, Large}
use Rattle.rules.specs.declared.Refusal.{Refusal}
use Rattle.rules.specs.declared.Refusal.TheVariants.{PastBound, OrderChanged, LebTooLarge, NoZeroByte, SlotUnset, SlotOfWrongSort}
use Rattle.rules.specs.declared.Refusal.TheVariants.{LengthTooLarge, SelectorInNoOption, WrongMagic, WrongUuid, ClockTooLarge, NotText}
use Rattle.rules.specs.Limits.{length_limit, magic_number}
use Rattle.rules.specs.Verdict.{refusal_number}
use Rattle.rules.specs.Bits.{bits}
use Rattle.rules.specs.Leb128.{leb_unsigned, leb_signed}
use Rattle.rules.specs.Clock.{clock_after}
use Rattle.rules.specs.Text.{text_length, zero_at, is_text}
use Rattle.rules.specs.Place.{bit_place, align_from}
use Rattle.rules.specs.Entry.{entry, clock_advanced}
use Rattle.rules.specs.Step.{State, Step, ◌⨾◌, refuse, refuse_at, check, check_at, due, listed, change, pass, with_order, with_clock}
use Rattle.rules.specs.Class.{Role, no_role, magic, stream_class_id, stream_id, uuid, total_length, content_length, clock, end_clock}
use Rattle.rules.specs.Class.{discarded, sequence, event_class_id}
use Rattle.rules.specs.Class.{Class, Sort, bit_array, boolean, unsigned_int, signed_int, float, kind_of}
use Rattle.rules.specs.Field.{Env, aligned, fit, ahead, bytes_at, field, store, new_clock, say, role, same_bytes, blob_role, from_slot}
use Rattle.rules.specs.Field.{value_of, slot_of, other_order, turned, as_text}
use Rattle.rules.specs.Field.{read_fixed, read_leb, read_zero, read_text, read_blob}
use Rattle.rules.specs.Packet.{read_root}
use Rattle.laws.proofs.Law.{FieldKind, Any, any-slot, AnyRecord, NumberedRoot, FitRoot, Law, numbered-root, law-root, law-any}
use Rattle.laws.proofs.Places.{tenth_byte}

-- what a step may look at beside the slots and the room
pub record View : Type 0 where
  pub place : BitPlace
  pub order : Option Order
  pub clock : ℕ
  pub last : ℕ
  pub said : Said

abbrev pub view : State → View
view s = record { place = s.place; order = s.order; clock = s.clock; last = s.last; said = s.said }

-- What a law must say of the primitives of a field

-- a refusal that is not the room's
abbrev pub NotFull : Refusal → Type 0
NotFull r = refusal_number r ≡ 40 → ⊥

pub record Simple (e : Env) (M : ℕ → ℕ → Type 0) (S : ℕ → Type 0) (L R : Step → Type 0) : Type 0 where
  pub seq : {m n : Step} → L m → L n → L (m ⨾ n)
  pub seqʳ : {m n : Step} → R m → L n → R (m ⨾ n)
  pub narrow : {m : Step} → L m → R m
  pub dueʳ : {m : Step} → R m → L (due ⨾ m)
  pub passes : L pass
  pub refuses : (r : Refusal) → NotFull r → R (refuse r)
  pub checks : (t : View → Bool) (r : Refusal) → NotFull r → L (check (λ s. t (view s)) r)
  pub checksʳ : (t : View → Bool) (r : Refusal) → NotFull r → {m : Step} → R m → R (check (λ s. t (view s)) r ⨾ m)
  -- 22 is refused at the bound, and 24 at the tenth byte
  pub refuses_past : R (refuse_at PastBound e.bound)
  pub checks_pastʳ : (t : View → Bool) {m : Step} → R m → R (check_at (λ s. t (view s)) PastBound e.bound ⨾ m)
  pub refuses_large : R (λ s. refuse_at LebTooLarge (tenth_byte e s) s)
  pub looks : (f : View → Step) → ((x : View) → L (f x)) → L (λ s. f (view s) s)
  pub looksʳ : (f : View → Step) → ((x : View) → R (f x)) → R (λ s. f (view s) s)
  pub slots : (i : ℕ) (f : Content → Step) → ((x : Content) → R (f x)) → R (from_slot i f)
  pub fields : (m k a n v : ℕ) → FieldKind k → M m k → 1 ≤ a → R (field e m k a n v)
  pub clocked : (l c : ℕ) → R (λ s. listed (entry clock_advanced s.place l c 0) s.place s)
  pub stores : (i : ℕ) (x : Content) → S i → L (store i x)
  pub orders : (o : Option Order) → L (change (with_order o))
  pub clocks : (c : ℕ) → L (change (with_clock c))
  pub says : (f : Said → Said) → L (say f)

kind-fields : (k : Sort) → FieldKind (kind_of k)
unfolding kind_of
kind-fields bit_array = omega arith
kind-fields boolean = omega arith
kind-fields unsigned_int = omega arith
kind-fields signed_int = omega arith
kind-fields float = omega arith

-- Fields

module _ (e : Env) {M : ℕ → ℕ → Type 0} {S : ℕ → Type 0} {L R : Step → Type 0} (h : Simple e M S L R) where
  fitting : (a n : ℕ) {m : Step} → R m → R (fit e a n ⨾ m)
  unfolding fit aligned
  fitting a n g = h.checks_pastʳ (λ x. ltb e.bound.0 (align_from e.start.0 a x.place.0 + n)) g

  turning : (a : ℕ) (o : Order) {m : Step} → R m → R (check (turned e a o) OrderChanged ⨾ m)
  unfolding turned aligned refusal_number
  turning a o g =
      h.checksʳ (λ x. not (eqb ((align_from e.start.0 a x.place.0 - e.start.0) % 8) 0) && other_order o x.order) OrderChanged
      (λ z. omega arith) g

  simple-new_clock : (l : ℕ) (o : Option ℕ) → R (new_clock l o)
  unfolding new_clock refusal_number
  simple-new_clock l None = h.refuses ClockTooLarge (λ z. omega arith)
  simple-new_clock l (Some c) = h.seqʳ (h.clocked l c) (h.clocks c)

  simple-role : (r : Role) (l v : ℕ) → L (role r l v)
  unfolding role refusal_number
  simple-role no_role l v = h.passes
  simple-role magic l v = h.checks (λ x. not (eqb v magic_number)) WrongMagic (λ z. omega arith)
  simple-role stream_class_id l v = h.says _
  simple-role stream_id l v = h.passes
  simple-role uuid l v = h.passes
  simple-role total_length l v = h.says _
  simple-role content_length l v = h.says _
  simple-role clock l v = h.dueʳ (h.looksʳ (λ x. new_clock l (clock_after x.clock l v)) (λ x. simple-new_clock l _))
  simple-role end_clock l v = h.says _
  simple-role discarded l v = h.passes
  simple-role sequence l v = h.passes
  simple-role event_class_id l v = h.says _

  simple-blob_role : (r : Role) (b : List ℕ) → L (blob_role e r b)
  unfolding blob_role refusal_number
  simple-blob_role no_role b = h.passes
  simple-blob_role magic b = h.passes
  simple-blob_role stream_class_id b = h.passes
  simple-blob_role stream_id b = h.passes
  simple-blob_role uuid b = h.checks (λ x. not (same_bytes b e.uuid)) WrongUuid (λ z. omega arith)
  simple-blob_role total_length b = h.passes
  simple-blob_role content_length b = h.passes
  simple-blob_role clock b = h.passes
  simple-blob_role end_clock b = h.passes
  simple-blob_role discarded b = h.passes
  simple-blob_role sequence b = h.passes
  simple-blob_role event_class_id b = h.passes

  simple-fixed : (m : ℕ) (k : Sort) (n : ℕ) (o : Order) (a i : ℕ) (r : Role) → M m (kind_of k) → S i → 1 ≤ a
      → L (read_fixed e m k n o a i r)
  unfolding read_fixed aligned
  simple-fixed m k n o a i r z w g =
      h.dueʳ (fitting a 0 (turning a o (fitting a n (h.looksʳ
      (λ x. let v = bits o e.bytes (align_from e.start.0 a x.place.0) n in
      field e m (kind_of k) a n (value_of k n v) ⨾ change (with_order (Some o)) ⨾ store i (slot_of k n v) ⨾ role r n (value_of k n v))
      (λ x. h.seqʳ (h.fields m (kind_of k) a n _ (kind-fields k) z g)
      (h.seq (h.orders (Some o)) (h.seq (h.stores i _ w) (simple-role r n _))))))))

  simple-leb : (m k : ℕ) (c : ℕ → Content) (i : ℕ) (r : Role) (x : Leb) → M m k → S i → FieldKind k → R (read_leb e m k c i r x)
  unfolding read_leb
  simple-leb m k c i r (Value v n) z w g =
      h.seqʳ (h.fields m k 8 (8 * n.0) v g z (omega arith)) (h.seq (h.stores i (c v) w) (simple-role r (7 * n.0) v))
  simple-leb m k c i r Past z w g = h.refuses_past
  simple-leb m k c i r Large z w g = h.refuses_large

  -- a field of text
  texted : (m k n v : ℕ) (x : View → List ℕ) → FieldKind k → M m k → R ((λ s. as_text (x (view s)) s) ⨾ field e m k 8 n v)
  unfolding as_text check refusal_number
  texted m k n v x g z = h.checksʳ (λ u. not (is_text (x u))) NotText (λ z. omega arith) (h.fields m k 8 n v g z (omega arith))

  simple-zero : (m : ℕ) (x : Option ByteLength) → M m 23 → R (read_zero e m x)
  unfolding read_zero aligned refusal_number
  simple-zero m (Some n) z =
      texted m 23 (8 * (n.0 + 1)) n.0 (λ x. bytes_at e (bit_place (align_from e.start.0 8 x.place.0)) n.0) (omega arith) z
  simple-zero m None z = h.refuses NoZeroByte (λ z. omega arith)

  -- a step behind the alignment to whole bytes, which looks at the place
  bytewise : (f : BitPlace → Step) → ((p : BitPlace) → R (f p)) → R (fit e 8 0 ⨾ λ s. f (aligned e 8 s) s)
  unfolding aligned
  bytewise f g = fitting 8 0 (h.looksʳ (λ x. f (bit_place (align_from e.start.0 8 x.place.0))) (λ x. g _))

  bytes : (n : ℕ) (f : BitPlace → Step) → ((p : BitPlace) → R (f p)) → R (fit e 8 0 ⨾ fit e 8 (8 * n) ⨾ λ s. f (aligned e 8 s) s)
  unfolding aligned
  bytes n f g = fitting 8 0 (fitting 8 (8 * n) (h.looksʳ (λ x. f (bit_place (align_from e.start.0 8 x.place.0))) (λ x. g _)))

  simple-law : Law e M Any S Any L R
  unfolding refusal_number
  simple-law = record {
    none? = tt;
    one? = tt;
    seq = λ a b. h.seq a b;
    dueʳ = λ a. h.dueʳ a;
    passes = h.passes;
    unsets = λ i w. h.stores i Unset w;
    unset = h.refuses SlotUnset (λ z. omega arith);
    wrong_sort = h.refuses SlotOfWrongSort (λ z. omega arith);
    in_none = h.refuses SelectorInNoOption (λ z. omega arith);
    within = λ n a. h.checksʳ (λ x. ltb length_limit n) LengthTooLarge (λ z. omega arith) a;
    slot = λ i f a. h.slots i f (λ x. a x (any-slot x));
    fixes = λ m k n o a i r z w y. simple-fixed m k n o (2 ^ a) i r z y (pow_pos a);
    lebs = λ m i r z w.
        bytewise (λ p. read_leb e m 21 Unsigned i r (leb_unsigned (ahead e p))) (λ p. simple-leb m 21 Unsigned i r _ z w (omega arith));
    signed_lebs = λ m i z w.
        bytewise (λ p. read_leb e m 22 Signed i no_role (leb_signed (ahead e p))) (λ p. simple-leb m 22 Signed i no_role _ z w (omega arith));
    zeros = λ m z. bytewise (λ p. read_zero e m (zero_at (ahead e p))) (λ p. simple-zero m _ z);
    texts = λ m k n g z. unfold read_text in
        bytes n (λ p. as_text (bytes_at e p n) ⨾ field e m k 8 (8 * n) (text_length (bytes_at e p n)))
        (λ p. texted m k (8 * n) (text_length (bytes_at e p n)) (λ x. bytes_at e p n) g z);
    blobs = λ m k n r g z. unfold read_blob in
        bytes n (λ p. field e m k 8 (8 * n) n ⨾ blob_role e r (bytes_at e p n))
        (λ p. h.seqʳ (h.fields m k 8 (8 * n) n g z (omega arith)) (simple-blob_role r _));
    heads = λ m k a v g z l w b. fitting a 0 (h.seqʳ (h.fields m k a 0 v g z l) b);
    tags = λ m k v g z w b. h.seqʳ (h.fields m k 1 0 v g z (le_refl 1)) b;
    tag = λ m k v g z w. h.fields m k 1 0 v g z (le_refl 1);
  }

  -- slots and records that will do
  pub simple-numbered : (m : ℕ) (c : Option Class) → FitRoot Any S Any c → NumberedRoot M m c → L (read_root e m c)
  simple-numbered m c w z = numbered-root e simple-law m c w z

pub simple-fits : (e : Env) {S : ℕ → Type 0} {L R : Step → Type 0} → Simple e AnyRecord S L R → (m : ℕ) (c : Option Class)
    → FitRoot Any S Any c → L (read_root e m c)
simple-fits e h m c w = law-root e (simple-law e h) m c w

pub simple-root : (e : Env) {L R : Step → Type 0} → Simple e AnyRecord Any L R → (m : ℕ) (c : Option Class) → L (read_root e m c)
simple-root e h m c = law-any e (simple-law e h) m c
