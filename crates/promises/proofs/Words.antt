-- Every word of an entry of a field is below 2 ^ 64, the clock's values among them.
use Rattle.std.specs.Prelude.{Option, None, Some}
use mathlib.Core.Path.{◌≡◌, refl}
use Prim.Native.Nat.{ℕ, ◌+◌, ◌-◌, ◌*◌, ◌/◌, ◌^◌, ◌≤◌, ◌<◌}
use native.Mathlib.Omega.{arith}
use mathlib.Core.List.{List}
use mathlib.Core.Bool.{Bool}
use lib.ListN.{length, take, drop, length-take}
use borrow.Author.Tests.{ltb-false}
use Rattle.rules.specs.declared.BitPlace.{BitPlace}
use Rattle.rules.specs.declared.ByteLength.{ByteLength}
use Rattle.rules.specs.declared.Order.{Order}
use Rattle.rules.specs.declared.Content.{Content}
use Rattle.rules.specs.declared.Content.TheVariants.{Unset, Unsigned, Signed}
use Rattle.rules.specs.declared.Said.{Said}
use Rattle.rules.specs.declared.Leb.{Leb}
use Rattle.rules.specs.declared.Leb.TheVariants.{Value, Past, Large}
use Rattle.rules.specs.declared.Entry.{Entry}
use Rattle.rules.specs.declared.Refusal.{Refusal}
use Rattle.rules.specs.declared.Refusal.TheVariants.{PastBound, OrderChanged, NoZeroByte, SlotUnset, SlotOfWrongSort}
use Rattle.rules.specs.declared.Refusal.TheVariants.{LengthTooLarge, SelectorInNoOption, WrongMagic, WrongUuid, ClockTooLarge, NotText}
use Rattle.rules.specs.Limits.{table_limit}
use Rattle.rules.specs.Verdict.{stop_at}
use Rattle.rules.specs.Bits.{bits}
use Rattle.rules.specs.Leb128.{leb_unsigned, leb_signed}
use Rattle.rules.specs.Clock.{clock_after}
use Rattle.rules.specs.Text.{text_length, zero_at}
use Rattle.rules.specs.Place.{align_from, round_up}
use Rattle.rules.specs.Slots.{slot_at}
use Rattle.rules.specs.Entry.{entry, clock_advanced}
use Rattle.rules.specs.Step.{State, Out, Step, ◌⨾◌, refuse, refuse_at, check, due, listed, change, pass}
use Rattle.rules.specs.Step.{with_slots, with_order, with_clock, with_said}
use Rattle.rules.specs.Class.{Role, no_role, magic, stream_class_id, stream_id, uuid, total_length}
use Rattle.rules.specs.Class.{content_length, clock, end_clock, discarded, sequence, event_class_id}
use Rattle.rules.specs.Class.{Class, Sort, bit_array, boolean, unsigned_int, signed_int, float, kind_of}
use Rattle.rules.specs.Field.{Env, aligned, fit, field, store, new_clock, say, role, blob_role, from_slot, value_of}
use Rattle.rules.specs.Field.{slot_of, ahead, bytes_at, read_fixed, read_leb, as_text, read_zero, read_text, read_blob}
use Rattle.rules.specs.Packet.{read_root}
use Rattle.leb128.proofs.ValueSays.{unsigned-value, signed-value}
use Rattle.leb128.proofs.Settled.{unsigned-reaches, signed-reaches}
use Rattle.text.proofs.Laws.{text-le, zero-found}
use Rattle.laws.proofs.Places.{LebFits, LebReaches, ahead-fits, tenth-fits}
use Rattle.promises.specs.Words.{Word, WordEntry, WordIds, WordStop}
use Rattle.laws.proofs.Law.{Any, SlotOf, Law, FitRoot, NumberedRoot, numbered-root}
use Rattle.laws.proofs.Triple.{Ok, Triple, then, passing, changing, refusing, refusing-at, checks, tested_at, untested, untested-at, dued}
use Rattle.promises.proofs.Small.{SmallRecord}
use Rattle.promises.proofs.Values.{value-word, clock-word, WordSlots, slot-word, set_word, slot_of-word}

abbrev pub StatedWord : Option ℕ → Type 0
StatedWord None = Unit {0}
StatedWord (Some v) = Word v

pub record WordSaid (d : Said) : Type 0 where
  pub stream : Word d.stream
  pub event : Word d.event
  pub total : StatedWord d.total
  pub content : StatedWord d.content

pub record Wordy (s : State) : Type 0 where
  pub place : Word s.place.0
  pub clock : Word s.clock
  pub slots : WordSlots s.slots
  pub said : WordSaid s.said

abbrev Fine : (State → Type 0) → Step → Type 0
Fine A m = Triple WordEntry WordStop WordIds A m Wordy

abbrev pub Worded : Step → Type 0
Worded m = Triple WordEntry WordStop WordIds Wordy m Wordy

-- an outcome whose entries, verdict and state are words
abbrev pub WordedOut : Out → Type 0
WordedOut o = Ok WordEntry WordStop WordIds Wordy o

pub place_of : (r : Refusal) → WordIds r → (s : State) → Wordy s → WordStop (stop_at r s.place)
place_of r i s h = (h.place, i)

infixr 20 ◌⨾ʷ◌
pub ◌⨾ʷ◌ : {A : State → Type 0} {m n : Step} → Fine A m → Worded n → Fine A (m ⨾ n)
h ⨾ʷ k = then WordEntry WordStop WordIds h k

pub word-listed : (x : Entry) (p : BitPlace) (s : State) → WordEntry x → Word p.0 → Wordy s
    → Ok WordEntry WordStop WordIds Wordy (listed x p s)
unfolding listed
word-listed x p s h k w = ((h, tt), record { place = k; clock = w.clock; slots = w.slots; said = w.said })

pub word-check : (t : State → Bool) (r : Refusal) → WordIds r → Worded (check t r)
word-check t r i = checks WordEntry WordStop WordIds place_of t r i

pub word-pass : Worded pass
word-pass = passing WordEntry WordStop WordIds

word-refuse : (r : Refusal) → WordIds r → Worded (refuse r)
word-refuse r i = refusing WordEntry WordStop WordIds place_of r i

pub word-due : {m : Step} → Worded m → Worded (due ⨾ m)
word-due h = dued WordEntry WordStop WordIds place_of tt h

word-order : (o : Option Order) → Worded (change (with_order o))
unfolding with_order
word-order o = changing WordEntry WordStop WordIds _
    (λ s h. record { place = h.place; clock = h.clock; slots = h.slots; said = h.said })

word-store : (i : ℕ) (x : Content) → SlotOf Word x → Worded (store i x)
unfolding store with_slots
word-store i x g = changing WordEntry WordStop WordIds _
    (λ s h. record { place = h.place; clock = h.clock; slots = set_word s.slots i x h.slots g; said = h.said })

word-say : (f : Said → Said) → ((d : Said) → WordSaid d → WordSaid (f d)) → Worded (say f)
unfolding say with_said
word-say f g = changing WordEntry WordStop WordIds _
    (λ s h. record { place = h.place; clock = h.clock; slots = h.slots; said = g s.said h.said })

word-new_clock : (l : ℕ) (o : Option ℕ) → Word l → ((c : ℕ) → o ≡ Some c → Word c) → Worded (new_clock l o)
unfolding new_clock
word-new_clock l None g h = word-refuse ClockTooLarge tt
word-new_clock l (Some c) g h = six ⨾ʷ advanced
  where
    six : Worded (λ s. listed (entry clock_advanced s.place l c 0) s.place s)
    six = record {
      at = λ s w.
          word-listed (entry clock_advanced s.place l c 0) s.place s (omega arith, w.place, g, h c refl, omega arith) w.place w;
    }

    advanced : Worded (change (with_clock c))
    advanced = unfold with_clock in changing WordEntry WordStop WordIds _
        (λ s w. record { place = w.place; clock = h c refl; slots = w.slots; said = w.said })

word-role : (r : Role) (l v : ℕ) → Word l → Word v → Worded (role r l v)
unfolding role
word-role no_role l v g h = word-pass
word-role magic l v g h = word-check _ WrongMagic tt
word-role stream_class_id l v g h = word-say _ (λ d w. record { stream = h; event = w.event; total = w.total; content = w.content })
word-role stream_id l v g h = word-pass
word-role uuid l v g h = word-pass
word-role total_length l v g h = word-say _ (λ d w. record { stream = w.stream; event = w.event; total = h; content = w.content })
word-role content_length l v g h = word-say _ (λ d w. record { stream = w.stream; event = w.event; total = w.total; content = h })
word-role clock l v g h = word-due (record {
  at = λ s w. (word-new_clock l (clock_after s.clock l v) g (λ c p. clock-word s.clock l v c p)).at s w;
})
word-role end_clock l v g h = word-say _ (λ d w. record { stream = w.stream; event = w.event; total = w.total; content = w.content })
word-role discarded l v g h = word-pass
word-role sequence l v g h = word-pass
word-role event_class_id l v g h = word-say _ (λ d w. record { stream = w.stream; event = h; total = w.total; content = w.content })

word-blob_role : (e : Env) (r : Role) (b : List ℕ) → Worded (blob_role e r b)
unfolding blob_role
word-blob_role e no_role b = word-pass
word-blob_role e magic b = word-pass
word-blob_role e stream_class_id b = word-pass
word-blob_role e stream_id b = word-pass
word-blob_role e uuid b = word-check _ WrongUuid tt
word-blob_role e total_length b = word-pass
word-blob_role e content_length b = word-pass
word-blob_role e clock b = word-pass
word-blob_role e end_clock b = word-pass
word-blob_role e discarded b = word-pass
word-blob_role e sequence b = word-pass
word-blob_role e event_class_id b = word-pass

kind-le : (k : Sort) → kind_of k ≤ 32
unfolding kind_of
kind-le bit_array = omega arith
kind-le boolean = omega arith
kind-le unsigned_int = omega arith
kind-le signed_int = omega arith
kind-le float = omega arith

-- an environment whose places are words
pub record Env64 (e : Env) : Type 0 where
  pub start : Word e.start.0
  pub bound : Word e.bound.0

abbrev pub To64 : ℕ → Type 0
To64 n = n ≤ 64

module _ (e : Env) (g : Env64 e) where
  abbrev Room : ℕ → ℕ → State → Type 0
  Room a n s = Wordy s × ((aligned e a s).0 + n ≤ e.bound.0)

  at_bound : (s : State) → Wordy s → WordStop (stop_at PastBound e.bound)
  at_bound s h = (g.bound, tt)

  fitting : (a n : ℕ) {m : Step} → Fine (Room a n) m → Worded (fit e a n ⨾ m)
  unfolding fit
  fitting a n h = tested_at WordEntry WordStop WordIds _ _ at_bound _ (record { at = λ s x. h.at s (x.0, ltb-false _ _ x.1) })

  plain-fit : (a n : ℕ) {m : Step} → Worded m → Worded (fit e a n ⨾ m)
  unfolding fit
  plain-fit a n h = untested-at WordEntry WordStop WordIds _ _ at_bound _ h

  a-field : (m k a n v : ℕ) → k ≤ 32 → m < table_limit → Word v → Fine (Room a n) (field e m k a n v)
  unfolding field
  a-field m k a n v h y w = record {
    at = λ s x.
        let b : (aligned e a s).0 + n ≤ e.bound.0 = x.1 in
        let c : Word e.bound.0 = g.bound in
        word-listed (entry k (aligned e a s) n v m) _ s (omega arith) (omega arith) x.0;
  }

  -- a field of text that fits
  text-field : (x : List ℕ) (m k n v : ℕ) → k ≤ 32 → m < table_limit → Word v → Fine (Room 8 n) (as_text x ⨾ field e m k 8 n v)
  unfolding as_text
  text-field x m k n v h z w =
      untested WordEntry WordStop WordIds (λ r i s y. place_of r i s y.0) _ NotText tt (a-field m k 8 n v h z w)

  tagged : (m k v : ℕ) → k ≤ 32 → m < table_limit → Word v → Worded (field e m k 1 0 v)
  unfolding field aligned align_from round_up
  tagged m k v h y w = record {
    at = λ s x.
        let b : Word s.place.0 = x.place in
        let c : Word e.start.0 = g.start in
        word-listed (entry k (aligned e 1 s) 0 v m) _ s (omega arith) (omega arith) x;
  }

  word-fixed : (m : ℕ) (k : Sort) (n : ℕ) (o : Order) (a i : ℕ) (r : Role) → m < table_limit → n ≤ 64 → Worded (read_fixed e m k n o a i r)
  unfolding read_fixed
  word-fixed m k n o a i r y h =
      word-due (plain-fit a 0 (untested WordEntry WordStop WordIds place_of _ OrderChanged tt (fitting a n (record {
        at = λ s x.
            (let p : ℕ = (aligned e a s).0 in
            let v : ℕ = bits o e.bytes p n in
            let w : Word (value_of k n v) = value-word k n o e.bytes p h in
            a-field m (kind_of k) a n (value_of k n v) (kind-le k) y w ⨾ʷ word-order (Some o)
            ⨾ʷ word-store i (slot_of k n v) (slot_of-word k n o e.bytes p h)
            ⨾ʷ word-role r n (value_of k n v) (omega arith) w).at s x;
      }))))

  word-leb : (m k : ℕ) (sl : ℕ → Content) (i : ℕ) (r : Role) (x : Leb) (s : State) → m < table_limit → k ≤ 32
      → ((v : ℕ) → Word v → SlotOf Word (sl v))
      → Wordy s → (aligned e 8 s).0 ≤ e.bound.0 → LebFits (ahead e (aligned e 8 s)) x → LebReaches (ahead e (aligned e 8 s)) x
      → WordedOut (read_leb e m k sl i r x s)
  unfolding read_leb
  word-leb m k sl i r Past s z q f h b p t = (refusing-at WordEntry WordStop WordIds _ _ at_bound).at s h
  word-leb m k sl i r Large s z q f h b p t =
      let bound : Word e.bound.0 = g.bound in
      unfold refuse_at in (tt, (omega (arith, tenth-fits e s b (t refl)), tt))
  word-leb m k sl i r (Value v n) s z q f h b p t =
      let y = p v n refl in
      let u : Word v = y.fits in
      (a-field m k 8 (8 * n.0) v q z u ⨾ʷ word-store i (sl v) (f v u) ⨾ʷ word-role r (7 * n.0) v (omega (arith, y.most)) u).at s
      (h, ahead-fits e (aligned e 8 s) n.0 b y.inside)

  word-zero : (m : ℕ) (x : Option ByteLength) (s : State) → m < table_limit → Wordy s → (aligned e 8 s).0 ≤ e.bound.0
      → ((n : ByteLength) → x ≡ Some n → n.0 < length (ahead e (aligned e 8 s))) → WordedOut (read_zero e m x s)
  unfolding read_zero ◌⨾◌
  word-zero m None s z h b p = (word-refuse NoZeroByte tt).at s h
  word-zero m (Some n) s z h b p =
      let l : n.0 < length (ahead e (aligned e 8 s)) = p n refl in
      let f : (aligned e 8 s).0 + 8 * (n.0 + 1) ≤ e.bound.0 = ahead-fits e (aligned e 8 s) (n.0 + 1) b (omega arith) in
      let c : Word e.bound.0 = g.bound in
      (text-field (bytes_at e (aligned e 8 s) n.0) m 23 (8 * (n.0 + 1)) n.0 (omega arith) z (omega arith)).at s (h, f)

  at_zero : {m : Step} → Fine (λ s. Wordy s × ((aligned e 8 s).0 ≤ e.bound.0)) m → Worded (fit e 8 0 ⨾ m)
  at_zero h = fitting 8 0 (record { at = λ s x. let b : (aligned e 8 s).0 + 0 ≤ e.bound.0 = x.1 in h.at s (x.0, omega arith) })

  text-word : (p : BitPlace) (n : ℕ) → text_length (bytes_at e p n) ≤ n
  unfolding bytes_at
  text-word p n = omega (arith, text-le (take n (drop (p.0 / 8) e.bytes)), length-take n (drop (p.0 / 8) e.bytes))

  pub word-law : Law e SmallRecord To64 Any Word Worded Worded
  unfolding from_slot
  word-law = record {
    none? = omega arith;
    one? = omega arith;
    seq = λ h k. h ⨾ʷ k;
    dueʳ = λ h. word-due h;
    passes = word-pass;
    unsets = λ i z. word-store i Unset tt;
    unset = word-refuse SlotUnset tt;
    wrong_sort = word-refuse SlotOfWrongSort tt;
    in_none = word-refuse SelectorInNoOption tt;
    within = λ n h. untested WordEntry WordStop WordIds place_of _ LengthTooLarge tt h;
    slot = λ i f h. record { at = λ s x. (h (slot_at s.slots i) (slot-word s.slots i x.slots)).at s x };
    fixes = λ m k n o a i r y w z. word-fixed m k n o (2 ^ a) i r y w;
    lebs = λ m i r y z. at_zero (record {
      at = λ s x.
          let l = leb_unsigned (ahead e (aligned e 8 s)) in
          word-leb m 21 Unsigned i r l s y (omega arith) (λ v w. w) x.0 x.1 (unsigned-value _) (unsigned-reaches _);
    });
    signed_lebs = λ m i y z. at_zero (record {
      at = λ s x.
          let l = leb_signed (ahead e (aligned e 8 s)) in
          word-leb m 22 Signed i no_role l s y (omega arith) (λ v w. w) x.0 x.1 (signed-value _) (signed-reaches _);
    });
    zeros = λ m y. at_zero (record {
      at = λ s x. word-zero m (zero_at (ahead e (aligned e 8 s))) s y x.0 x.1 (λ n z. (zero-found _ n z).0);
    });
    texts = λ m k n h z. unfold read_text in
        plain-fit 8 0 (fitting 8 (8 * n) (record {
          at = λ s x.
              let b : (aligned e 8 s).0 + 8 * n ≤ e.bound.0 = x.1 in
              let c : Word e.bound.0 = g.bound in
              let y = bytes_at e (aligned e 8 s) n in
              (text-field y m k (8 * n) (text_length y) h.1 z (omega (arith, text-word (aligned e 8 s) n))).at s x;
        }));
    blobs = λ m k n r h z. unfold read_blob in
        plain-fit 8 0 (fitting 8 (8 * n) (record {
          at = λ s x.
              let b : (aligned e 8 s).0 + 8 * n ≤ e.bound.0 = x.1 in
              let c : Word e.bound.0 = g.bound in
              (a-field m k 8 (8 * n) n h.1 z (omega arith) ⨾ʷ word-blob_role e r (bytes_at e (aligned e 8 s) n)).at s x;
        }));
    heads = λ m k a v h z l w x. fitting a 0 (a-field m k a 0 v h.1 z w ⨾ʷ x);
    tags = λ m k v h z w x. tagged m k v h.1 z w ⨾ʷ x;
    tag = λ m k v h z w. tagged m k v h.1 z w;
  }

  pub word-root : (m : ℕ) (c : Option Class) → FitRoot To64 Any Word c → NumberedRoot SmallRecord m c → Worded (read_root e m c)
  word-root m c w z = numbered-root e word-law m c w z
