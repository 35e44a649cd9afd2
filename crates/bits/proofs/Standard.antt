-- The rules' numbers are the standard's: whatever stood in its array V before, V after all turns is the rules' number, unsigned and in
-- two's complement; and the rules' word of 64 bits is what the machine reads as that number.
use mathlib.Core.Path.{◌≡◌, refl, ap, ◌∙◌}
use mathlib.Core.Logic.{⊎_elim}
use mathlib.Core.List.{List, [], ◌∷◌, ◌++◌}
use mathlib.Core.Bool.{Bool, true, false}
use Prim.Native.Nat.{ℕ, zero, suc, ◌+◌, ◌-◌, ◌*◌, ◌^◌, ◌<◌, ◌≤◌}
use native.Mathlib.Nat.{pow-suc, add_comm, mul_assoc}
use native.Mathlib.Numerals.{add-one, sub-one}
use native.Mathlib.Omega.{arith}
use borrow.Author.Tests.{lt-ltb, le-ltb}
use lib.Dec.{eqb, lit<}
use lib.IntN.{pos, negsuc}
use lib.ListN.{length, set, take, drop, length-set, length-append, length-drop}
use lib.Pow.{pow_mono}
use lib.Seq.{take-suc-set, set_split, drop_at, length-take-le, take_all, drop-length}
use mir.Syntax.{w64}
use mir.Val.{to_z}
use Rattle.rules.specs.declared.Order.{Order}
use Rattle.rules.specs.declared.Order.TheVariants.{Little, Big}
use Rattle.rules.specs.Bits.{bit_at, bits, signed, word}
use Rattle.facts.proofs.Numbers.{lt-or-ge, pow-double}
use Rattle.bits.specs.Standard.{index, turns, digit, unsigned_of, signed_of}
use Rattle.bits.proofs.Laws.{bit_below}
use Rattle.bits.proofs.Signed.{signed_low, signed_high}

digit-bit : (n : ℕ) → n < 2 → digit (eqb n 1) ≡ n
unfolding digit
digit-bit zero h = refl
digit-bit (suc zero) h = refl
digit-bit (suc (suc n)) h = absurd (omega arith)

length-turns : (o : Order) (s : List ℕ) (p l : ℕ) (v : List Bool) (i : ℕ) → length (turns o s p l v i) ≡ length v
unfolding turns
length-turns o s p l v zero = refl
length-turns o s p l v (suc i) = simp length-set (length-turns o s p l v i)

unsigned-snoc : (v : List Bool) (b : Bool) → unsigned_of (v ++ b ∷ []) ≡ unsigned_of v * 2 + digit b
unfolding unsigned_of
unsigned-snoc [] b = omega arith
unsigned-snoc (a ∷ v) b =
    let twice : digit a * 2 ^ (length v + 1) ≡ digit a * 2 ^ length v * 2 = simp (add-one, pow-suc, mul_assoc) in
    rw (unsigned-snoc v b, length-append v (b ∷ [])) (omega arith)

drop-set : (v : List Bool) (k m : ℕ) (b : Bool) → k < length v → suc k ≡ m → drop k (set v k b) ≡ b ∷ drop m v
drop-set v k m b h e = rw (← e, set_split v k b h) (drop_at (take k v) _ k (length-take-le k v (omega arith)))

module _ (s : List ℕ) (p l : ℕ) (v : List Bool) (full : length v ≡ l) where
  -- in big order V fills from its front
  front : (i : ℕ) → i ≤ l → unsigned_of (take i (turns Big s p l v i)) ≡ bits Big s p i
  unfolding turns index bits unsigned_of
  front zero h = refl
  front (suc i) h =
      let inside : i < length (turns Big s p l v i) = omega (arith, length-turns Big s p l v i) in
      let one = take-suc-set (turns Big s p l v i) i (eqb (bit_at Big s (p + i)) 1) inside in
      rw (one, unsigned-snoc, front i (omega arith), digit-bit _ (bit_below Big s (p + i)))

  -- in little order from its end
  back : (i : ℕ) → i ≤ l → unsigned_of (drop (l - i) (turns Little s p l v i)) ≡ bits Little s p i
  unfolding turns index bits unsigned_of
  back zero h = let all : l - 0 ≡ length v = omega arith in rw (all, drop-length v)
  back (suc i) h =
      let at : l - i - 1 ≡ l - suc i = omega arith in
      let next : suc (l - suc i) ≡ l - i = omega arith in
      let long : length (turns Little s p l v i) ≡ l = length-turns Little s p l v i ∙ full in
      let rest : length (drop (l - i) (turns Little s p l v i)) ≡ i = omega (arith, length-drop (l - i) (turns Little s p l v i)) in
      let inside : l - suc i < length (turns Little s p l v i) = omega arith in
      let one = drop-set (turns Little s p l v i) (l - suc i) (l - i) (eqb (bit_at Little s (p + i)) 1) inside next in
      rw (at, one, rest, back i (omega arith), digit-bit _ (bit_below Little s (p + i))) (add_comm _ _)

pub unsigned-standard : (o : Order) (s : List ℕ) (p l : ℕ) (v : List Bool) → length v ≡ l → unsigned_of (turns o s p l v l) ≡ bits o s p l
unsigned-standard Little s p l v full =
    let none : l - l ≡ 0 = omega arith in
    rw none at (back s p l v full l (omega arith))
unsigned-standard Big s p l v full =
    let all : length (turns Big s p l v l) ≤ l = omega (arith, length-turns Big s p l v l) in
    rw (take_all l _ all) at (front s p l v full l (omega arith))

unsigned-below : (v : List Bool) → unsigned_of v < 2 ^ length v
unfolding unsigned_of digit
unsigned-below [] = lit< tt
unsigned-below (true ∷ v) = omega (arith, unsigned-below v, pow-suc 2 (length v))
unsigned-below (false ∷ v) = omega (arith, unsigned-below v, pow-suc 2 (length v))

pub signed-standard : (v : List Bool) → signed (unsigned_of v) (length v) ≡ signed_of v
unfolding signed_of unsigned_of digit signed
signed-standard [] = refl
signed-standard (true ∷ v) =
    let small = unsigned-below v in
    let twice : 2 ^ suc (length v) ≡ 2 ^ length v * 2 = pow-suc 2 (length v) in
    let high = signed_high (1 * 2 ^ length v + unsigned_of v) (suc (length v)) (rw sub-one (omega arith)) (omega arith) in
    rw (high, lt-ltb (unsigned_of v) (1 * 2 ^ length v) (omega arith)) (ap negsuc (omega arith))
signed-standard (false ∷ v) =
    let small = unsigned-below v in
    let low = signed_low (0 * 2 ^ length v + unsigned_of v) (suc (length v)) (rw sub-one (omega arith)) in
    rw (low, le-ltb (unsigned_of v) (0 * 2 ^ length v) (omega arith)) (ap pos (omega arith))

-- how the machine reads a word of 64 bits as signed
pub word-signed : (v n : ℕ) → 0 < n → n ≤ 64 → v < 2 ^ n → to_z w64 (word (signed v n)) ≡ signed v n
unfolding word
word-signed v n h₀ h₁ hv =
    let half : 2 ^ (n - 1) ≤ 2 ^ 63 = pow_mono {i = n - 1} {j = 63} (omega arith) in
    let twice : 2 ^ n ≡ 2 ^ (n - 1) * 2 = pow-double n h₀ in
    ⊎_elim
    (λ (l : v < 2 ^ (n - 1)). rw (signed_low v n l, lt-ltb v (2 ^ 63) (omega arith)))
    (λ (l : 2 ^ (n - 1) ≤ v). rw (signed_high v n l hv, le-ltb (2 ^ 64 - suc (2 ^ n - suc v)) (2 ^ 63) (omega arith))
    (ap negsuc (omega arith)))
    (lt-or-ge v (2 ^ (n - 1)))
