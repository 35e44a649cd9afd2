-- Each way that a leaf is found or refused, by the tests that lead to it.
use Rattle.std.specs.Prelude.{Option}
use Prim.Native.Nat.{ℕ, ◌+◌, ◌-◌, ◌/◌, ◌%◌, ◌<◌, ◌≤◌}
use native.Mathlib.Omega.{arith}
use mathlib.Core.Path.{◌≡◌, refl, sym, ◌∙◌}
use mathlib.Core.List.{List}
use mathlib.Core.Bool.{Bool, true, false, not, ◌&&◌}
use lib.Dec.{eqb}
use lib.ListN.{take, drop}
use borrow.Author.Tests.{lt-ltb, le-ltb}
use Rattle.rules.specs.declared.BitPlace.{BitPlace}
use Rattle.rules.specs.declared.ByteLength.{ByteLength}
use Rattle.rules.specs.declared.Leb.{Leb}
use Rattle.rules.specs.declared.Leb.TheVariants.{Value, Past, Large}
use Rattle.rules.specs.declared.Order.{Order}
use Rattle.rules.specs.declared.Refusal.TheVariants.{OrderChanged}
use Rattle.rules.specs.Place.{bit_place, align_from}
use Rattle.rules.specs.Bits.{bits}
use Rattle.rules.specs.Field.{other_order}
use Rattle.rules.specs.Leb128.{leb_unsigned, leb_signed}
use Rattle.places.proofs.Multiple.{aligning}
use Rattle.leb128.proofs.ValueSays.{unsigned-value, signed-value}
use Rattle.frame.specs.declared.Frame.{Frame}
use Rattle.leaf_find_number.specs.declared.Found.{Found}
use Rattle.leaf_find_number.specs.declared.Found.TheVariants.{At, Refused}
use Rattle.frame.specs.Framed.{aligned_at}
use Rattle.leaf_find_number.specs.Found.{unless, within, past_bound_of, bytes_ahead, found_bits, found_unsigned}
use Rattle.leaf_find_number.specs.Found.{found_signed, found_number, found_leb}
use Rattle.leaf_find_number.specs.Found.{Short}

pub within-past : (f : Frame) (p : BitPlace) (n : ℕ) (x : Found) → f.bound.0 < p.0 + n → within f p n x ≡ past_bound_of f
unfolding within unless
within-past f p n x past = rw (lt-ltb _ _ past) refl

pub within-fits : (f : Frame) (p : BitPlace) (n : ℕ) (x : Found) → p.0 + n ≤ f.bound.0 → within f p n x ≡ x
unfolding within unless
within-fits f p n x fits = rw (le-ltb _ _ fits) refl

unless_holds : (t : Bool) (p : BitPlace) (x : Found) → t ≡ true → unless t OrderChanged p x ≡ Refused p OrderChanged
unfolding unless
unless_holds t p x h = rw (h) refl

unless_not : (t : Bool) (p : BitPlace) (x : Found) → t ≡ false → unless t OrderChanged p x ≡ x
unfolding unless
unless_not t p x h = rw (h) refl

-- no field goes before its packet
pub aligned-from : (start a place : ℕ) (p : BitPlace) → p ≡ bit_place (align_from start a place) → start ≤ p.0
unfolding align_from
aligned-from start a place p e = rw (e) (omega arith)

-- kinds 21 to 27 stand at whole bytes
module _ (f : Frame) (from p : BitPlace) (e : p ≡ aligned_at f 8 from) where
  pub aligned-whole : f.start.0 % 8 ≡ 0 → p.0 % 8 ≡ 0
  unfolding aligned_at align_from
  aligned-whole whole = rw (e) (omega (arith, (aligning.is-least 8 (from.0 - f.start.0) (omega arith)).multiple))

-- a field that stands at p once it is aligned
module _ (b : List ℕ) (f : Frame) (from p : BitPlace) where
  module _ (last : Option Order) (n : ℕ) (o : Order) (a : ℕ) (e : p ≡ aligned_at f a from) where
    pub bits-past : f.bound.0 < p.0 → past_bound_of f ≡ found_bits b f from last n o a
    unfolding found_bits
    bits-past past = rw (← e) (sym (within-past f p 0 _ (omega arith)))

    pub bits-turned : p.0 ≤ f.bound.0 → (t : Bool) → t ≡ (not (eqb ((p.0 - f.start.0) % 8) 0) && other_order o last) → t ≡ true →
        Refused from OrderChanged ≡ found_bits b f from last n o a
    unfolding found_bits
    bits-turned in-it t is h =
        rw (← e) (sym (within-fits f p 0 _ (omega arith) ∙ unless_holds _ _ _ (sym is ∙ h)))

    pub bits-short : p.0 ≤ f.bound.0 → (t : Bool) → t ≡ (not (eqb ((p.0 - f.start.0) % 8) 0) && other_order o last) → t ≡ false →
        f.bound.0 < p.0 + n → past_bound_of f ≡ found_bits b f from last n o a
    unfolding found_bits
    bits-short in-it t is h past =
        rw (← e) (sym (within-fits f p 0 _ (omega arith) ∙ unless_not _ _ _ (sym is ∙ h) ∙ within-past f p n _ past))

    pub bits_at : (t : Bool) → t ≡ (not (eqb ((p.0 - f.start.0) % 8) 0) && other_order o last) → t ≡ false →
        p.0 + n ≤ f.bound.0 → At n p (bits o b p.0 n) ≡ found_bits b f from last n o a
    unfolding found_bits
    bits_at t is h fits =
        rw (← e) (sym (within-fits f p 0 _ (omega arith) ∙ unless_not _ _ _ (sym is ∙ h) ∙ within-fits f p n _ fits))

  module _ (e : p ≡ aligned_at f 8 from) where
    -- the bytes that the leaves are handed, up to the whole bytes before the bound
    abbrev pub read : List ℕ
    read = take (f.bound.0 / 8 - p.0 / 8) (drop (p.0 / 8) b)

    pub bytes-ahead : f.start.0 % 8 ≡ 0 → p.0 ≤ f.bound.0 → read ≡ bytes_ahead b f p
    unfolding bytes_ahead
    bytes-ahead whole l =
        let at_byte : p.0 % 8 ≡ 0 = aligned-whole f from p e whole in
        let same : f.bound.0 / 8 - p.0 / 8 ≡ (f.bound.0 - p.0) / 8 = omega arith in
        rw (same) refl

    unsigned-past : f.bound.0 < p.0 → past_bound_of f ≡ found_unsigned b f from
    unfolding found_unsigned
    unsigned-past past = rw (← e) (sym (within-past f p 0 _ (omega arith)))

    unsigned-at : f.start.0 % 8 ≡ 0 → p.0 ≤ f.bound.0 → found_leb f p (leb_unsigned read) ≡ found_unsigned b f from
    unfolding found_unsigned
    unsigned-at whole l = rw (bytes-ahead whole l, ← e) (sym (within-fits f p 0 _ (omega arith)))

    signed-past : f.bound.0 < p.0 → past_bound_of f ≡ found_signed b f from
    unfolding found_signed
    signed-past past = rw (← e) (sym (within-past f p 0 _ (omega arith)))

    signed-at : f.start.0 % 8 ≡ 0 → p.0 ≤ f.bound.0 → found_leb f p (leb_signed read) ≡ found_signed b f from
    unfolding found_signed
    signed-at whole l = rw (bytes-ahead whole l, ← e) (sym (within-fits f p 0 _ (omega arith)))

    -- either
    pub number-past : (signed : Bool) → f.bound.0 < p.0 → past_bound_of f ≡ found_number signed b f from
    unfolding found_number
    number-past true past = signed-past past
    number-past false past = unsigned-past past

    module _ (whole : f.start.0 % 8 ≡ 0) (l : p.0 ≤ f.bound.0) where
      pub number-signed : {signed : Bool} → signed ≡ true → found_leb f p (leb_signed read) ≡ found_number signed b f from
      unfolding found_number
      number-signed is = rw is (signed-at whole l)

      pub number-unsigned : {signed : Bool} → signed ≡ false → found_leb f p (leb_unsigned read) ≡ found_number signed b f from
      unfolding found_number
      number-unsigned is = rw is (unsigned-at whole l)

-- an answer of ten bytes at most
pub short-value : (x : Leb) (v : ℕ) (n : ByteLength) → Short x → x ≡ Value v n → n.0 ≤ 10
unfolding Short
short-value (Value w k) v n h e = let same : k ≡ n = cc in rw (← same) h
short-value Past v n h e = let z : ◌≡◌ {A = ℕ} 0 1 = cc in absurd (omega arith)
short-value Large v n h e = let z : ◌≡◌ {A = ℕ} 0 1 = cc in absurd (omega arith)

short-of : (x : Leb) → ((v : ℕ) (n : ByteLength) → x ≡ Value v n → n.0 ≤ 10) → Short x
unfolding Short
short-of (Value v n) h = h v n refl
short-of Past h = tt
short-of Large h = tt

pub short-unsigned : (x : Leb) (b : List ℕ) → x ≡ leb_unsigned b → Short x
unfolding Short
short-unsigned x b e = short-of x (λ v n h. (unsigned-value b v n (sym e ∙ h)).most)

pub short-signed : (x : Leb) (b : List ℕ) → x ≡ leb_signed b → Short x
short-signed x b e = short-of x (λ v n h. (signed-value b v n (sym e ∙ h)).most)
