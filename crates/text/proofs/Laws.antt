-- Laws of the bytes before the first zero byte. In order: how many there are; where a zero byte ends them; that they alone tell whether
-- they are text.
use mathlib.Core.Path.{◌≡◌, refl}
use mathlib.Core.Logic.{⊎_elim}
use mathlib.Core.List.{List, [], ◌∷◌}
use Prim.Native.Nat.{ℕ, zero, suc, ◌<◌, ◌≤◌}
use native.Mathlib.Numerals.{add-one}
use native.Mathlib.Omega.{arith}
use Rattle.std.specs.Prelude.{eqb, Some, None}
use Rattle.text.specs.Reading.{is_some}
use Rattle.std.specs.List.{prefix_len}
use borrow.Author.Tests.{ne_eqb}
use mathlib.Core.Bool.{false}
use lib.ListN.{length, take}
use lib.Seq.{take-take}
use Rattle.facts.proofs.Numbers.{lt-or-ge}
use Rattle.rules.specs.declared.ByteLength.{ByteLength}
use Rattle.rules.specs.Place.{byte_length}
use Rattle.rules.specs.Text.{text_length, one_later, zero_at, is_text}

pub text-le : (bs : List ℕ) → text_length bs ≤ length bs
unfolding text_length
text-le [] = omega arith
text-le (zero ∷ bs) = omega arith
text-le (suc b ∷ bs) = omega (arith, text-le bs)

-- it is as long as no byte is zero
pub text-prefix : (bs : List ℕ) → text_length bs ≡ prefix_len is_some bs
unfolding text_length
text-prefix [] = refl
text-prefix (zero ∷ bs) = refl
text-prefix (suc b ∷ bs) =
    let some : eqb (suc b) 0 ≡ false = ne_eqb (suc b) 0 (λ e. absurd (omega arith)) in
    simp some (omega (arith, text-prefix bs))

text-taken : (bs : List ℕ) → text_length (take (text_length bs) bs) ≡ text_length bs
unfolding text_length
text-taken [] = refl
text-taken (zero ∷ bs) = refl
text-taken (suc b ∷ bs) = rw (add-one (text_length bs)) (rw (← add-one (text_length bs), text-taken bs))

-- a zero byte stands behind the text where bytes are left, and nowhere else
pub zero-before : (bs : List ℕ) → text_length bs < length bs → zero_at bs ≡ Some (byte_length (text_length bs))
unfolding text_length one_later zero_at
zero-before [] h = absurd (omega arith)
zero-before (zero ∷ bs) h = refl
zero-before (suc b ∷ bs) h = rw (zero-before bs (omega arith))

pub zero-never : (bs : List ℕ) → length bs ≤ text_length bs → zero_at bs ≡ None
unfolding text_length one_later zero_at
zero-never [] h = refl
zero-never (zero ∷ bs) h = absurd (omega arith)
zero-never (suc b ∷ bs) h = rw (zero-never bs (omega arith))

pub zero-found : (bs : List ℕ) (n : ByteLength) → zero_at bs ≡ Some n → (n.0 < length bs) × (text_length bs ≡ n.0)
zero-found bs n e = ⊎_elim
    (λ (h : text_length bs < length bs). let same : byte_length (text_length bs) ≡ n = cc (zero-before bs h) in rw (← same) (h, refl))
    (λ (h : length bs ≤ text_length bs). let z : ◌≡◌ {A = ℕ} 0 1 = cc (zero-never bs h) in absurd (omega arith))
    (lt-or-ge (text_length bs) (length bs))

-- what is text stays so without the bytes behind it
pub text-own : (bs : List ℕ) → is_text (take (text_length bs) bs) ≡ is_text bs
unfolding is_text
text-own bs = let same = text-taken bs in rw (same, take-take (text_length bs) (text_length bs) bs (omega arith))
