-- The leaf of the class at a byte: what is seen of it by the numbers of its record is what the rules' reading of the class that stands
-- there does.
use Rattle.std.specs.Prelude.{Ok, Err, Option, Result}
use mathlib.Core.Path.{◌≡◌, refl, sym, ap, subst, ◌∙◌}
use Prim.Native.Nat.{ℕ, zero, suc, ◌+◌, ◌-◌, ◌^◌, ◌≤◌, ◌<◌}
use native.Mathlib.Omega.{arith}
use mathlib.Core.List.{List}
use mathlib.Core.Bool.{Bool, true, false}
use lib.Dec.{eqb}
use mathlib.Core.Logic.{⊎_elim}
use lib.ListN.{length}
use borrow.Author.Tests.{le-ltb, eq-eqb, ne_eqb}
use Rattle.rules.specs.declared.BitPlace.{BitPlace}
use Rattle.rules.specs.declared.Refusal.{Refusal}
use Rattle.rules.specs.declared.Order.{Order}
use Rattle.rules.specs.declared.Order.TheVariants.{Big}
use Rattle.rules.specs.declared.Content.{Content}
use Rattle.rules.specs.declared.Content.TheVariants.{Unsigned, Signed}
use Rattle.rules.specs.Limits.{no_slot, slot_count, words_per_entry}
use Rattle.rules.specs.Verdict.{stop_at}
use Rattle.rules.specs.Class.{Sort, bit_array, boolean, unsigned_int, signed_int, float, Class}
use Rattle.rules.specs.Record.{bit_field, u8, u16}
use Rattle.rules.specs.Parse.{order_of}
use Rattle.rules.specs.Slots.{Slots, slot_at}
use Rattle.rules.specs.Step.{State}
use Rattle.rules.specs.Field.{read, value_of}
use Rattle.facts.specs.Bytes.{Bytes}
use Rattle.facts.proofs.Numbers.{lt-or-ge}
use Rattle.facts.proofs.Cases.{◌▷◌, below}
use Rattle.frame.specs.declared.Frame.{Frame}
use Rattle.leaf_find_number.specs.declared.Found.{Found}
use Rattle.leaf_find_number.specs.declared.Found.TheVariants.{At, Refused}
use Rattle.frame.specs.Framed.{Framed, env_of}
use Rattle.leaf_find_number.proofs.Lies.{bits-lie}
use Rattle.leaf_find_number.specs.Found.{found_bits, found_unsigned, found_signed}
use Rattle.leaf_find_bytes.specs.Found.{found_string, found_text, found_blob}
use Rattle.leaf_find_bytes.proofs.Lies.{string-ends, text-ends, blob-ends, blob-lies}
use Rattle.slots.specs.Taken.{length_of}
use Rattle.leaf_after.specs.declared.Seen.{Seen}
use Rattle.leaf_after.specs.declared.Due.{Due}
use Rattle.leaf_after.specs.declared.Seen.TheVariants.{Field, Stops}
use Rattle.leaf_after.specs.Seeing.{Fits, done, seen, fixed_seen, leb_seen, plain_seen, blob_seen, for_length}
use Rattle.leaf_after.proofs.Seeing.{fixed-read, unsigned-read, signed-read, string-read, static-string-read, static-blob-read}
use Rattle.leaf_after.proofs.Seeing.{dynamic-string-read, dynamic-blob-read}
use Rattle.leaf_after.proofs.Fits.{fixed-fits, unsigned-fits, signed-fits, plain_fits, blob-fits}
use Rattle.leaf_see_number.specs.Extends.{Extends}
use Rattle.leaf_see_bytes.specs.InStream.{InStream}
use Rattle.class_layout.specs.Trees.{shapes, shape_of, record_size, stood_at, fixed_at, class_in, class_at, IsWhole, WholeIn}
use Rattle.leaf_read.specs.Reads.{leaf_slot}
use Rattle.leaf_read.specs.Seen.{LeafSeen, bits_seen_at, dynamic_seen, seen_in, seen_at}

-- a kind that is none of the n kinds from a on, as `match` says it
abbrev pub NoneOf : ℕ → ℕ → ℕ → Type 0
NoneOf a k zero = Unit {0}
NoneOf a k (suc n) = NoneOf a k n × (k ≡ a + n → ⊥)

past : (a k n : ℕ) → a ≤ k → NoneOf a k n → a + n ≤ k
past a k zero l none = omega arith
past a k (suc n) l none =
    let low = past a k n l none.0 in
    ⊎_elim (λ (h : k < a + suc n). absurd (none.1 (omega arith))) (λ (h : a + suc n ≤ k). h) (lt-or-ge k (a + suc n))

module _ (t : List ℕ) (at : ℕ) where
  pub is-float : IsWhole 1 t at → u8 t at < 21 → NoneOf 16 (u8 t at) 4 → u8 t at ≡ 20
  unfolding IsWhole
  is-float w h none = omega (arith, past 16 (u8 t at) 4 w.low none)

  pub is-dynamic : 21 ≤ u8 t at → NoneOf 21 (u8 t at) 5 → 26 ≤ u8 t at
  is-dynamic l none = omega (arith, past 21 (u8 t at) 5 l none)

-- what the record of a class of kinds 16 to 20 says: width, order, and align as an exponent
pub record BitsSay (t : List ℕ) (at w : ℕ) (o : Order) (e : ℕ) : Type 0 where
  pub width : w ≡ u8 t (at + 1)
  pub order : o ≡ order_of (u8 t (at + 2))
  pub exponent : e ≡ u8 t (at + 3)
  pub some : 1 ≤ w
  pub most : w ≤ 64
  pub align : e ≤ 6

module _ (t : List ℕ) (at : ℕ) where
  abbrev Numbers : Type 0
  Numbers = (1 ≤ u8 t (at + 1)) × (u8 t (at + 1) ≤ 64) × (u8 t (at + 3) ≤ 6)

  of-bits : (s : Sort) → WholeIn (IsWhole 0 t) (stood_at 0 t) t at (bit_field s) → Numbers
  unfolding WholeIn
  of-bits s w = w

  -- kind 16 + i
  abbrev Bits : ℕ → Type 0
  Bits i = (4 ≤ record_size (shape_of (16 + i))) × (WholeIn (IsWhole 0 t) (stood_at 0 t) t at (shape_of (16 + i)) → Numbers)

  bits : (i : ℕ) → i < 5 → Bits i
  unfolding shape_of shapes record_size
  bits = below Bits 5 (
      (omega arith, of-bits bit_array) ▷ (omega arith, of-bits boolean) ▷ (omega arith, of-bits unsigned_int)
      ▷ (omega arith, of-bits signed_int) ▷ (omega arith, of-bits float) ▷ tt
      )

  module _ (w : IsWhole 1 t at) (h : u8 t at < 21) where
    kind : u8 t at ≡ 16 + (u8 t at - 16)
    unfolding IsWhole
    kind = omega (arith, w.low)

    these : Bits (u8 t at - 16)
    these = bits (u8 t at - 16) (omega (arith, kind))

    pub bits-there : at + 4 ≤ length t
    unfolding IsWhole
    bits-there = omega (arith, w.there, these.0, ap (λ (k : ℕ). record_size (shape_of k)) kind)

    pub bits-say : {n e : ℕ} {o : Order} → n ≡ u8 t (at + 1) → o ≡ order_of (u8 t (at + 2)) → e ≡ u8 t (at + 3) → BitsSay t at n o e
    unfolding IsWhole
    bits-say n o e =
        let m = these.1 (subst (λ (k : ℕ). WholeIn (IsWhole 0 t) (stood_at 0 t) t at (shape_of k)) kind w.parts) in
        record { width = n; order = o; exponent = e; some = omega (arith, m.0); most = omega (arith, m.1); align = omega (arith, m.2) }

-- the record of a kind is there, and its numbers are in range
module _ (t : List ℕ) (at k : ℕ) (e : u8 t at ≡ k) (w : IsWhole 1 t at) where
  pub record-there : at + record_size (shape_of k) ≤ length t
  unfolding IsWhole
  record-there = rw (e) at w.there

-- kinds 26 and 27 have a byte behind their kind
pub slot-there : (t : List ℕ) (at : ℕ) → IsWhole 1 t at → u8 t at < 28 → 26 ≤ u8 t at → at + 2 ≤ length t
unfolding shape_of shapes record_size
slot-there t at w h l = ⊎_elim
    (λ (a : u8 t at < 27). record-there t at 26 (omega arith) w)
    (λ (a : 27 ≤ u8 t at). record-there t at 27 (omega arith) w)
    (lt-or-ge (u8 t at) 27)

-- "Order is 0 little, 1 big"
pub big-order : (k : ℕ) → (k ≡ 0 → ⊥) → Big ≡ order_of k
unfolding order_of
big-order zero h = absurd (h refl)
big-order (suc k) h = refl

module _ (t : List ℕ) (at : ℕ) where
  class_of : (k : ℕ) → u8 t at ≡ k → class_at 1 t at ≡ class_in (stood_at 0 t) t at (shape_of k)
  unfolding stood_at
  class_of k e = rw (e) refl

  -- kinds 26 and 27 read a slot
  slot_of : {x : Content} (k : ℕ) → u8 t at ≡ k → 26 ≤ k → (l : Slots) → slot_at l (leaf_slot t at) ≡ x → slot_at l (u8 t (at + 1)) ≡ x
  unfolding leaf_slot
  slot_of k e h l s = rw (e, le-ltb k 26 h, leaf_slot) at s

-- what names no slot sets none
pub plain-apart : (m k : ℕ) (o : Option Order) (x : Found) (d : Due) → seen x (plain_seen m k o) ≡ Field d → slot_count ≤ d.slot
unfolding seen plain_seen
plain-apart m k o (At n p v) d e = let same : no_slot ≡ d.slot = cc in omega (arith, same)
plain-apart m k o (Refused p r) d e = let z : ◌≡◌ {A = ℕ} 0 1 = cc in absurd (omega arith)

pub dynamic-apart : (m : ℕ) (b : List ℕ) (f : Frame) (p : BitPlace) (o : Option Order) (k : ℕ) (l : Result ℕ Refusal) (d : Due)
    → for_length p l (dynamic_seen m b f p o k) ≡ Field d → slot_count ≤ d.slot
unfolding for_length dynamic_seen
dynamic-apart m b f p o k (Ok n) d e = by (eqb k 26) refl e
  where
    by : (t : Bool) → eqb k 26 ≡ t → dynamic_seen m b f p o k n ≡ Field d → slot_count ≤ d.slot
    by true i e = plain-apart m k o _ d (rw (i, dynamic_seen) at e)
    by false i e = plain-apart m k o _ d (rw (i, dynamic_seen) at e)
dynamic-apart m b f p o k (Err r) d e = let z : ◌≡◌ {A = ℕ} 0 1 = cc in absurd (omega arith)

-- to do what is seen, with a number m, is to read the class that stands there, with that number
abbrev pub SeesAt : ℕ → List ℕ → List ℕ → Frame → List ℕ → ℕ → Content → BitPlace → Option Order → Seen → Type 0
SeesAt m b u f t at = LeafSeen (read (env_of b u f) m (class_at 1 t at)) (leaf_slot t at)

-- kinds 26 and 27, by what the slot holds
abbrev dynamically : ℕ → List ℕ → Frame → Content → ℕ → BitPlace → Option Order → Seen
dynamically m b f x k p o = for_length p (length_of x) (dynamic_seen m b f p o k)

module _ (m : ℕ) (t b u : List ℕ) (f : Frame) (at : ℕ) (p : BitPlace) (o : Option Order) (x : Content) where
  -- what is seen of the leaf at a byte, by its kind
  pub seen_of : (k : ℕ) → u8 t at ≡ k → seen_at m t b u f at p o x ≡ seen_in m t b u f at p o x (shape_of k)
  unfolding seen_at
  seen_of k e = rw (e) refl

  pub sees-of : {r : Seen} (k : ℕ) → u8 t at ≡ k → r ≡ seen_in m t b u f at p o x (shape_of k) → r ≡ seen_at m t b u f at p o x
  sees-of k e is = is ∙ sym (seen_of k e)

  -- what the code finds of kinds 16 to 20, by the numbers that it reads
  pub bits_of : {w e : ℕ} {d : Order} {y : Found} {r : Seen} → BitsSay t at w d e → y ≡ found_bits b f p o w d (2 ^ e)
      → (k : Sort) (i ro : ℕ) → r ≡ seen y (fixed_seen m k d i ro) → seen_at m t b u f at p o x ≡ bits_seen_at m t b f at p o k i ro
      → r ≡ seen_at m t b u f at p o x
  unfolding bits_seen_at
  bits_of n found k i ro is sees = rw (found, n.width, n.order, n.exponent) at is ∙ sym sees

  dynamic-is : 26 ≤ u8 t at → u8 t at < 28 → seen_at m t b u f at p o x ≡ dynamically m b f x (u8 t at) p o
  unfolding shape_of shapes seen_in
  dynamic-is low high = ⊎_elim
      (λ (h : u8 t at < 27). let k : u8 t at ≡ 26 = omega arith in rw (k) (seen_of 26 k))
      (λ (h : 27 ≤ u8 t at). let k : u8 t at ≡ 27 = omega arith in rw (k) (seen_of 27 k))
      (lt-or-ge (u8 t at) 27)

  pub dynamic-of : {r : Seen} → 26 ≤ u8 t at → u8 t at < 28 → r ≡ dynamically m b f x (u8 t at) p o → r ≡ seen_at m t b u f at p o x
  dynamic-of low high is = is ∙ sym (dynamic-is low high)

no-role : {A : Type 0} → ◌≡◌ {A = ℕ} 0 7 → A
no-role e = absurd (omega arith)

module _ (m : ℕ) (b u : List ℕ) (f : Frame) (t : List ℕ) (at : ℕ) (p : BitPlace) (o : Option Order) (x : Content) (framed : Framed b f p) where
  abbrev this : Seen
  this = seen_at m t b u f at p o x

  -- y is what is seen from a place on, with an order as the last
  by-class : (c : Class) (y : BitPlace → Option Order → Seen) → class_at 1 t at ≡ c → this ≡ y p o → Fits (y p o)
      → ((s : State) → words_per_entry ≤ s.room → length s.slots ≡ slot_count → slot_at s.slots (leaf_slot t at) ≡ x
      → read (env_of b u f) m c s ≡ done (y s.place s.order) s)
      → SeesAt m b u f t at x p o this
  by-class c y e is fits law = record {
    same = λ s room long slot place order.
        rw (e) (law s room long slot ∙ ap (λ q. done (y q s.order) s) place ∙ ap (λ l. done (y p l) s) order
        ∙ ap (λ z. done z s) (sym is));
    fits = rw (is) fits;
  }

  bits-sees : (k : Sort) (i ro : ℕ) → class_at 1 t at ≡ fixed_at k t at i ro → this ≡ bits_seen_at m t b f at p o k i ro
      → (ro ≡ 7 → (n v : ℕ) → value_of k n v ≡ v) → SeesAt m b u f t at x p o this
  unfolding read bits_seen_at
  bits-sees k i ro c is same =
      let d = order_of (u8 t (at + 2)) in
      let w = u8 t (at + 1) in
      let a = 2 ^ u8 t (at + 3) in
      by-class _ (λ q l. seen (found_bits b f q l w d a) (fixed_seen m k d i ro)) c is
      (fixed-fits framed m o w d a k i ro same)
      (λ s room long slot. fixed-read b u f m s room k w d a i ro)

  -- kinds 26 and 27
  dynamic-fits : (k : ℕ) → Fits (dynamically m b f x k p o)
  unfolding for_length dynamic_seen Fits
  dynamic-fits k = by (length_of x)
    where
      by_kind : (n : ℕ) (t : Bool) → eqb k 26 ≡ t → Fits (dynamic_seen m b f p o k n)
      by_kind n true e = rw (e, dynamic_seen) (plain_fits m k o _ (text-ends framed n refl))
      by_kind n false e = rw (e, dynamic_seen) (plain_fits m k o _ (blob-ends framed n refl))

      by : (l : Result ℕ Refusal) → Fits (for_length p l (dynamic_seen m b f p o k))
      by (Ok n) = by_kind n (eqb k 26) refl
      by (Err r) = tt

  module _ (bytes : Bytes b) where
    abbrev Sees : ℕ → Type 0
    Sees i = u8 t at ≡ 16 + i → SeesAt m b u f t at x p o this

    is : (k : ℕ) → u8 t at ≡ k → this ≡ seen_in m t b u f at p o x (shape_of k)
    is k e = seen_of m t b u f at p o x k e

    sees : (i : ℕ) → i < 12 → Sees i
    unfolding shape_of shapes class_in seen_in value_of dynamic_seen
    sees = below Sees 12
        ((λ k. bits-sees bit_array no_slot 0 (class_of t at 16 k) (is 16 k) (λ z. no-role z))
        ▷ (λ k. bits-sees boolean (u8 t (at + 4)) 0 (class_of t at 17 k) (is 17 k) (λ z. no-role z))
        ▷ (λ k. bits-sees unsigned_int (u8 t (at + 4)) (u8 t (at + 5)) (class_of t at 18 k) (is 18 k) (λ z n v. refl))
        ▷ (λ k. bits-sees signed_int (u8 t (at + 4)) 0 (class_of t at 19 k) (is 19 k) (λ z. no-role z))
        ▷ (λ k. bits-sees float no_slot 0 (class_of t at 20 k) (is 20 k) (λ z. no-role z))
        ▷ (λ k. by-class _ (λ q l. seen (found_unsigned b f q) (leb_seen m 21 Unsigned l (u8 t (at + 1)) (u8 t (at + 2))))
        (class_of t at 21 k) (is 21 k) (unsigned-fits framed m bytes o _ _)
        (λ s room long slot. unsigned-read b u f m s room _ _))
        ▷ (λ k. by-class _ (λ q l. seen (found_signed b f q) (leb_seen m 22 Signed l (u8 t (at + 1)) 0))
        (class_of t at 22 k) (is 22 k) (signed-fits framed m o _)
        (λ s room long slot. signed-read b u f m s room _))
        ▷ (λ k. by-class _ (λ q l. seen (found_string b f q) (plain_seen m 23 l))
        (class_of t at 23 k) (is 23 k) (plain_fits m 23 o _ (string-ends framed refl))
        (λ s room long slot. string-read b u f m s room long))
        ▷ (λ k. by-class _ (λ q l. seen (found_text b f q (u16 t (at + 1))) (plain_seen m 24 l))
        (class_of t at 24 k) (is 24 k) (plain_fits m 24 o _ (text-ends framed _ refl))
        (λ s room long slot. static-string-read b u f m s room long _))
        ▷ (λ k. by-class _ (λ q l. seen (found_blob f q (u16 t (at + 1))) (blob_seen m b u (u8 t (at + 3)) l))
        (class_of t at 25 k) (is 25 k) (blob-fits m b u o _ _ (blob-ends framed _ refl))
        (λ s room long slot. static-blob-read b u f m s room long _ _))
        ▷ (λ k. by-class _ (dynamically m b f x 26)
        (class_of t at 26 k) (is 26 k) (dynamic-fits 26)
        (λ s room long slot. dynamic-string-read b u f m s room long _ ∙ rw (slot_of t at 26 k (omega arith) s.slots slot) refl))
        ▷ (λ k. by-class _ (dynamically m b f x 27)
        (class_of t at 27 k) (is 27 k) (dynamic-fits 27)
        (λ s room long slot. dynamic-blob-read b u f m s room long _ ∙ rw (slot_of t at 27 k (omega arith) s.slots slot) refl))
        ▷ tt)

    -- to do what is seen of the leaf at a byte is to read its class
    pub leaf-sees : IsWhole 1 t at → u8 t at < 28 → SeesAt m b u f t at x p o this
    unfolding IsWhole
    leaf-sees w h = sees (u8 t at - 16) (omega (arith, w.low)) (omega (arith, w.low))

-- what the code rests on: a number in bits can be extended, and a BLOB's bytes lie in the stream
module _ {b : List ℕ} {f : Frame} {p : BitPlace} (framed : Framed b f p) where
  pub bits-extend : (x : Found) (o : Option Order) (w : ℕ) (d : Order) (a : ℕ) → x ≡ found_bits b f p o w d a → 1 ≤ w → w ≤ 64 → Extends x
  unfolding Extends
  bits-extend (At n q v) o w d a is low high =
      let lies = bits-lie framed refl o w d a is in
      (omega (arith, lies.2), omega (arith, lies.2), lies.1)
  bits-extend (Refused q r) o w d a is low high = tt

  pub blob-within : (x : Found) (n : ℕ) → x ≡ found_blob f p n → InStream b x
  unfolding InStream
  blob-within (At m q v) n is = let lies = blob-lies framed refl n is in rw lies.2 lies.1
  blob-within (Refused q r) n is = tt

-- A length that a slot gives, or none

module _ (m : ℕ) (b : List ℕ) (f : Frame) (p : BitPlace) (o : Option Order) {x y : Result ℕ Refusal} (is : x ≡ y) where
  pub no-length-seen : {why : Refusal} → x ≡ Err why → (k : ℕ) → Stops (stop_at why p) ≡ for_length p y (dynamic_seen m b f p o k)
  unfolding for_length
  no-length-seen e k = rw (← is, e) refl

  module _ {n : ℕ} (e : x ≡ Ok n) (k : ℕ) where
    text-is : k ≡ 26 → seen (found_text b f p n) (plain_seen m k o) ≡ for_length p y (dynamic_seen m b f p o k)
    unfolding for_length dynamic_seen
    text-is h = rw (← is, e, eq-eqb k 26 h, dynamic_seen) refl

    blob-is : (k ≡ 26 → ⊥) → seen (found_blob f p n) (plain_seen m k o) ≡ for_length p y (dynamic_seen m b f p o k)
    unfolding for_length dynamic_seen
    blob-is h = rw (← is, e, ne_eqb k 26 h, dynamic_seen) refl

    module _ {z : Found} {r : Seen} (sees : r ≡ seen z (plain_seen m k o)) where
      pub text-seen : k ≡ 26 → z ≡ found_text b f p n → r ≡ for_length p y (dynamic_seen m b f p o k)
      text-seen h found = rw (found) at sees ∙ text-is h

      pub blob-seen : (k ≡ 26 → ⊥) → z ≡ found_blob f p n → r ≡ for_length p y (dynamic_seen m b f p o k)
      blob-seen h found = rw (found) at sees ∙ blob-is h
