-- What was found lies before the bound, and a number fits its bits. In order: the tests; kinds 16 to 20; LEB128.
use Rattle.std.specs.Prelude.{Option}
use mathlib.Core.Path.{◌≡◌, refl, sym, ◌∙◌}
use mathlib.Core.List.{List}
use mathlib.Core.Logic.{⊎_elim}
use mathlib.Core.Bool.{Bool, true, false}
use Prim.Native.Nat.{ℕ, ◌+◌, ◌-◌, ◌*◌, ◌/◌, ◌^◌, ◌<◌, ◌≤◌}
use native.Mathlib.Omega.{arith}
use lib.ListN.{length, drop, length-take}
use Rattle.rules.specs.declared.BitPlace.{BitPlace}
use Rattle.rules.specs.declared.ByteLength.{ByteLength}
use Rattle.rules.specs.declared.Order.{Order}
use Rattle.rules.specs.declared.Refusal.{Refusal}
use Rattle.rules.specs.declared.Leb.{Leb}
use Rattle.rules.specs.declared.Leb.TheVariants.{Value, Past, Large}
use Rattle.rules.specs.Bits.{bits}
use Rattle.facts.specs.Bytes.{Bytes}
use Rattle.facts.proofs.Bytes.{bytes_take, bytes_drop}
use Rattle.facts.proofs.Numbers.{lt-or-ge}
use Rattle.bits.proofs.Laws.{bits_below}
use Rattle.leb128.proofs.ValueSays.{unsigned-value, signed-value, unsigned_small}
use Rattle.frame.specs.declared.Frame.{Frame}
use Rattle.leaf_find_number.specs.declared.Found.{Found}
use Rattle.leaf_find_number.specs.declared.Found.TheVariants.{At}
use Rattle.frame.specs.Framed.{Framed, aligned_at}
use Rattle.leaf_find_number.specs.Found.{unless, within, bytes_ahead, found_bits, found_leb, found_unsigned, found_signed}
use Rattle.leaf_find_number.proofs.Finds.{within-past, within-fits}

-- A leaf that was found passed each test

module _ (f : Frame) (p : BitPlace) (m v : ℕ) where
  pub unless-found : (t : Bool) (r : Refusal) (q : BitPlace) (x : Found) → unless t r q x ≡ At m p v → x ≡ At m p v
  unfolding unless
  unless-found true r q x e = let z : ◌≡◌ {A = ℕ} 0 1 = cc in absurd (omega arith)
  unless-found false r q x e = e

  pub within-found : (q : BitPlace) (n : ℕ) (x : Found) → within f q n x ≡ At m p v → (q.0 + n ≤ f.bound.0) × (x ≡ At m p v)
  within-found q n x e = ⊎_elim
      (λ (past : f.bound.0 < q.0 + n). let z : ◌≡◌ {A = ℕ} 0 1 = cc (within-past f q n x past) in absurd (omega arith))
      (λ (fits : q.0 + n ≤ f.bound.0). (fits, sym (within-fits f q n x fits) ∙ e))
      (lt-or-ge f.bound.0 (q.0 + n))

  -- kinds 16 to 20
  module _ (b : List ℕ) (from : BitPlace) (last : Option Order) (n : ℕ) (o : Order) (a : ℕ) where
    lies_at : (q : BitPlace) → q.0 + n ≤ f.bound.0 → At n q (bits o b q.0 n) ≡ At m p v
        → (m ≡ n) × (p.0 + m ≤ f.bound.0) × (v < 2 ^ m)
    lies_at q fits e =
        let place : q ≡ p = cc in
        let width : n ≡ m = cc in
        let value : bits o b q.0 n ≡ v = cc in
        rw (← place, ← width, ← value) (refl, fits, bits_below o b q.0 n)

    bits-found : found_bits b f from last n o a ≡ At m p v → (m ≡ n) × (p.0 + m ≤ f.bound.0) × (v < 2 ^ m)
    unfolding found_bits
    bits-found e =
        let q = aligned_at f a from in
        let inside = within-found q n _ (unless-found _ _ _ _ (within-found q 0 _ e).1) in
        lies_at q inside.0 inside.1

  -- LEB128: what is known of every answer is known of the one that was found
  leb-found : (Says : ℕ → ℕ → Type 0) (q : BitPlace) (x : Leb)
      → ((w : ℕ) (k : ByteLength) → x ≡ Value w k → (q.0 + 8 * k.0 ≤ f.bound.0) × Says w k.0)
      → found_leb f q x ≡ At m p v → (p.0 + m ≤ f.bound.0) × Says v (m / 8)
  unfolding found_leb
  leb-found Says q (Value w k) says e =
      let place : q ≡ p = cc in
      let width : 8 * k.0 ≡ m = cc in
      let value : w ≡ v = cc in
      let bytes : 8 * k.0 / 8 ≡ k.0 = omega arith in
      rw (← place, ← width, ← value, bytes) (says w k refl)
  leb-found Says q Past says e = let z : ◌≡◌ {A = ℕ} 0 1 = cc in absurd (omega arith)
  leb-found Says q Large says e = let z : ◌≡◌ {A = ℕ} 0 1 = cc in absurd (omega arith)

-- no more bytes are ahead than lie before the bound
pub ahead-length : (b : List ℕ) (f : Frame) (q : BitPlace) → length (bytes_ahead b f q) ≤ (f.bound.0 - q.0) / 8
unfolding bytes_ahead
ahead-length b f q = omega (arith, length-take ((f.bound.0 - q.0) / 8) (drop (q.0 / 8) b))

ahead-bytes : (b : List ℕ) (f : Frame) (q : BitPlace) → Bytes b → Bytes (bytes_ahead b f q)
unfolding bytes_ahead
ahead-bytes b f q h = bytes_take ((f.bound.0 - q.0) / 8) (drop (q.0 / 8) b) (bytes_drop (q.0 / 8) b h)

module _ (b : List ℕ) (f : Frame) (from p : BitPlace) (m v : ℕ) where
  unsigned-found : Bytes b → found_unsigned b f from ≡ At m p v → (p.0 + m ≤ f.bound.0) × (v < 2 ^ (7 * (m / 8)))
  unfolding found_unsigned
  unsigned-found h e =
      let q = aligned_at f 8 from in
      let inside = within-found f p m v q 0 _ e in
      leb-found f p m v (λ w k. w < 2 ^ (7 * k)) q _
      (λ w k is.
      (omega (arith, inside.0, (unsigned-value _ w k is).inside, ahead-length b f q), unsigned_small _ (ahead-bytes b f q h) w k is))
      inside.1

  signed-found : found_signed b f from ≡ At m p v → p.0 + m ≤ f.bound.0
  unfolding found_signed
  signed-found e =
      let q = aligned_at f 8 from in
      let inside = within-found f p m v q 0 _ e in
      (leb-found f p m v (λ w k. w < 2 ^ 64) q _
      (λ w k is.
      (omega (arith, inside.0, (signed-value _ w k is).inside, ahead-length b f q), (signed-value _ w k is).fits))
      inside.1).0

-- What the code rests on: x is what was found in a frame

module _ {b : List ℕ} {f : Frame} {from : BitPlace} (framed : Framed b f from) where
  pub below-bound : (e : ℕ) → e ≤ f.bound.0 → e < 2 ^ 64
  below-bound e h = omega (arith, framed.ends, framed.small)

  module _ {x : Found} {p : BitPlace} {m v : ℕ} (at : x ≡ At m p v) where
    pub bits-lie : (last : Option Order) (n : ℕ) (o : Order) (a : ℕ) → x ≡ found_bits b f from last n o a
        → (p.0 + m < 2 ^ 64) × (v < 2 ^ m) × (m ≡ n)
    bits-lie last n o a is =
        let found = bits-found f p m v b from last n o a (sym is ∙ at) in
        (below-bound _ found.1, found.2, found.0)

    pub unsigned-lies : Bytes b → x ≡ found_unsigned b f from → (p.0 + m < 2 ^ 64) × (v < 2 ^ (7 * (m / 8)))
    unsigned-lies h is = let found = unsigned-found b f from p m v h (sym is ∙ at) in (below-bound _ found.0, found.1)

    pub signed-lies : x ≡ found_signed b f from → p.0 + m < 2 ^ 64
    signed-lies is = below-bound _ (signed-found b f from p m v (sym is ∙ at))
