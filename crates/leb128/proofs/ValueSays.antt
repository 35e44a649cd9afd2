-- What a value says of its bytes, for every list of numbers: by one recursion over `sevens`, whose count both signs keep.
use mathlib.Core.Path.{◌≡◌, refl, ◌∙◌, sym}
use mathlib.Core.Logic.{⊎_elim}
use mathlib.Core.List.{List, [], ◌∷◌}
use mathlib.Core.Bool.{Bool, true, false}
use Prim.Native.Nat.{ℕ, zero, suc, ◌+◌, ◌*◌, ◌%◌, ◌^◌, ◌<◌, ◌≤◌}
use native.Mathlib.Nat.{mod-lt}
use native.Mathlib.Omega.{arith}
use borrow.Author.Tests.{ltb-true}
use lib.Dec.{lit<}
use lib.IntN.{ℤ, pos, negsuc}
use lib.Pow.{pow-add}
use lib.ListN.{length}
use Rattle.rules.specs.declared.ByteLength.{ByteLength}
use Rattle.rules.specs.declared.Leb.{Leb}
use Rattle.rules.specs.declared.Leb.TheVariants.{Value, Past, Large}
use Rattle.rules.specs.Limits.{leb_limit}
use Rattle.rules.specs.Bits.{signed, word}
use Rattle.rules.specs.Leb128.{below, sevens, fit_unsigned, fits64, fit_signed, leb_unsigned, leb_signed}
use Rattle.facts.specs.Bytes.{Bytes}
use Rattle.facts.proofs.Numbers.{lt-or-ge}
use Rattle.leb128.specs.Answer.{ValueSays}
use Rattle.leb128.proofs.FirstNine.{sevens-end, sevens-on}
use Rattle.leb128.proofs.Tenth.{fit-value, fit-large, word_value, no_word}

-- how many bytes an answer took
abbrev Took : ℕ → List ℕ → Leb → Type 0
Took m bs (Value v n) = (1 ≤ n.0) × (n.0 ≤ m) × (n.0 ≤ length bs)
Took m bs Past = Unit
Took m bs Large = Unit

took-below : (m b d : ℕ) (bs : List ℕ) (x : Leb) → Took m bs x → Took (suc m) (b ∷ bs) (below d x)
unfolding below
took-below m b d bs (Value v n) h = omega arith
took-below m b d bs Past h = tt
took-below m b d bs Large h = tt

took : (m : ℕ) (bs : List ℕ) → Took m bs (sevens m bs)
unfolding sevens
took zero bs = tt
took (suc m) [] = tt
took (suc m) (b ∷ bs) = ⊎_elim
    (λ (l : b < 128). rw (sevens-end m b bs l) (omega arith))
    (λ (l : 128 ≤ b). rw (sevens-on m b bs l) (took-below m b (b % 128) bs _ (took m bs)))
    (lt-or-ge b 128)

word_fits : (z : ℤ) → fits64 z ≡ true → word z < 2 ^ 64
unfolding fits64 word
word_fits (pos w) h = omega (arith, ltb-true w (2 ^ 63) h)
word_fits (negsuc w) h = omega arith

module _ (bs : List ℕ) (v : ℕ) (n : ByteLength) where
  no_value : Large ≡ Value v n → ValueSays bs v n
  no_value e = let z : ◌≡◌ {A = ℕ} 0 1 = cc in absurd (omega arith)

  a-value : (w : ℕ) (k : ByteLength) → Took leb_limit bs (Value w k) → w < 2 ^ 64 → Value w k ≡ Value v n → ValueSays bs v n
  a-value w k t h e =
      let value : w ≡ v = cc in
      let count : k ≡ n = cc in
      rw (← value, ← count) (record { fits = h; some = t.0; most = t.1; inside = t.2 })

  of-unsigned : (x : Leb) → Took leb_limit bs x → fit_unsigned x ≡ Value v n → ValueSays bs v n
  unfolding fit_unsigned
  of-unsigned (Value w k) t e = ⊎_elim
      (λ (h : w < 2 ^ 64). a-value w k t h (sym (fit-value w k h) ∙ e))
      (λ (h : 2 ^ 64 ≤ w). no_value (sym (fit-large w k h) ∙ e))
      (lt-or-ge w (2 ^ 64))
  of-unsigned Past t e = let z : ◌≡◌ {A = ℕ} 0 1 = cc in absurd (omega arith)
  of-unsigned Large t e = no_value e

  pub unsigned-value : leb_unsigned bs ≡ Value v n → ValueSays bs v n
  unfolding leb_unsigned
  unsigned-value = of-unsigned _ (took leb_limit bs)

  of-signed : (x : Leb) → Took leb_limit bs x → fit_signed x ≡ Value v n → ValueSays bs v n
  unfolding fit_signed
  of-signed (Value w k) t e = by (fits64 (signed w (7 * k.0))) refl
    where
      by : (b : Bool) → fits64 (signed w (7 * k.0)) ≡ b → ValueSays bs v n
      by true h = a-value _ k t (word_fits _ h) (sym (word_value _ k h) ∙ e)
      by false h = no_value (sym (no_word _ k h) ∙ e)
  of-signed Past t e = let z : ◌≡◌ {A = ℕ} 0 1 = cc in absurd (omega arith)
  of-signed Large t e = no_value e

  pub signed-value : leb_signed bs ≡ Value v n → ValueSays bs v n
  unfolding leb_signed
  signed-value = of-signed _ (took leb_limit bs)

-- a value has seven bits a byte
abbrev Small : Leb → Type 0
Small (Value v n) = v < 2 ^ (7 * n.0)
Small Past = Unit {0}
Small Large = Unit {0}

small-below : (d : ℕ) → d < 128 → (x : Leb) → Small x → Small (below d x)
unfolding below
small-below d h (Value v n) l =
    let more : 7 * (n.0 + 1) ≡ 7 + 7 * n.0 = omega arith in
    rw (more, pow-add 2 7 (7 * n.0)) (omega arith)
small-below d h Past l = tt
small-below d h Large l = tt

sevens-small : (m : ℕ) (bs : List ℕ) → Small (sevens m bs)
unfolding sevens
sevens-small zero bs = tt
sevens-small (suc m) [] = tt
sevens-small (suc m) (b ∷ bs) = ⊎_elim
    (λ (l : b < 128). rw (sevens-end m b bs l) (omega arith))
    (λ (l : 128 ≤ b). rw (sevens-on m b bs l) (small-below (b % 128) (mod-lt b (lit< tt)) _ (sevens-small m bs)))
    (lt-or-ge b 128)

fit_small : (x : Leb) → Small x → Small (fit_unsigned x)
unfolding fit_unsigned
fit_small (Value v n) h = ⊎_elim
    (λ (l : v < 2 ^ 64). rw (fit-value v n l) h)
    (λ (l : 2 ^ 64 ≤ v). rw (fit-large v n l) tt)
    (lt-or-ge v (2 ^ 64))
fit_small Past h = tt
fit_small Large h = tt

pub unsigned_small : (bs : List ℕ) → Bytes bs → (v : ℕ) (n : ByteLength) → leb_unsigned bs ≡ Value v n → v < 2 ^ (7 * n.0)
unfolding leb_unsigned
unsigned_small bs h v n e = rw (e) at (fit_small (sevens leb_limit bs) (sevens-small leb_limit bs))
