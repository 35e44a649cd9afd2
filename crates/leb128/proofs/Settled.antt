-- 24 is settled at the tenth byte and nowhere else, for both signs by the same two ways through the first nine bytes: any nine, and
-- nine that all go on.
use mathlib.Core.Path.{◌≡◌, refl, sym, ◌∙◌}
use mathlib.Core.Logic.{⊎_elim, ◌⊎◌, inl, inr}
use mathlib.Core.List.{List}
use Prim.Native.Nat.{ℕ, zero, suc, ◌+◌, ◌<◌, ◌≤◌}
use native.Mathlib.Numerals.{add-one}
use native.Mathlib.Omega.{arith}
use lib.ListN.{length, get_or}
use Rattle.rules.specs.declared.ByteLength.{ByteLength}
use Rattle.rules.specs.declared.Leb.{Leb}
use Rattle.rules.specs.declared.Leb.TheVariants.{Value, Past, Large}
use Rattle.rules.specs.Limits.{leb_limit}
use Rattle.rules.specs.Leb128.{sevens, leb_unsigned, leb_signed}
use Rattle.facts.specs.Bytes.{Bytes}
use Rattle.facts.proofs.Numbers.{lt-or-ge}
use Rattle.leb128.specs.Answer.{AllGoOn, TenthByte, SettledAtTenth}
use Rattle.leb128.specs.FirstNine.{Passed, EndsAfter}
use Rattle.leb128.proofs.FirstNine.{passed_none, passed-short, passed-end, passed_on, more}
use Rattle.leb128.proofs.Tenth.{unsigned-past, unsigned-ended, unsigned-tenth, unsigned-large, signed-past}
use Rattle.leb128.proofs.Tenth.{signed-ended, signed-zeros, signed-ones, signed-large}

module _ (bs : List ℕ) {P : Type 0} where
  -- the number is cut short within nine bytes, ends within them, or goes on
  any-nine : (sevens leb_limit bs ≡ Past → P) → ((v n : ℕ) → EndsAfter bs v n → P) → ((v : ℕ) → Passed bs v 9 → P) → P
  any-nine short ended on = from 9 0 0 refl (passed_none bs)
    where
      from : (left n v : ℕ) → left + n ≡ 9 → Passed bs v n → P
      from zero n v e p = let nine : n ≡ 9 = omega arith in on v (rw nine at p)
      from (suc left) n v e p = ⊎_elim
          (λ (i : n < length bs). ⊎_elim
          (λ (l : get_or bs n 0 < 128). ended _ _ (passed-end p _ (omega arith) i refl l))
          (λ (l : 128 ≤ get_or bs n 0). from left (n + 1) _ (omega arith) (passed_on p _ (omega arith) i refl l))
          (lt-or-ge (get_or bs n 0) 128))
          (λ (i : length bs ≤ n). short (passed-short p i))
          (lt-or-ge n (length bs))

  -- all of them go on
  all-nine : (n : ℕ) → n ≤ 9 → n ≤ length bs → AllGoOn n bs → ((v : ℕ) → Passed bs v n → P) → P
  all-nine zero h i on k = k 0 (passed_none bs)
  all-nine (suc n) h i on k = all-nine n (omega arith) (omega arith) (λ j l. on j (omega arith))
      (λ v p.
      let next = passed_on p (get_or bs n 0) (omega arith) i refl (on n (omega arith)) in
      k (more v n (get_or bs n 0)) (rw (add-one n) at next))

module _ (bs : List ℕ) (answer : Leb) (past : sevens leb_limit bs ≡ Past → Past ≡ answer) where
  past-not-large : sevens leb_limit bs ≡ Past → answer ≡ Large → ⊥
  past-not-large s e = let same : Past ≡ Large = past s ∙ e in let z : ◌≡◌ {A = ℕ} 0 1 = cc in omega arith

  reaches-tenth : ((v n : ℕ) → EndsAfter bs v n → answer ≡ Large → ⊥) → answer ≡ Large → TenthByte bs
  reaches-tenth ended e =
      any-nine bs
      (λ s. absurd (past-not-large s e))
      (λ v n a. absurd (ended v n a e))
      (λ v p. ⊎_elim
      (λ (i : 9 < length bs). record { there = i; reached = p.on })
      (λ (i : length bs ≤ 9). absurd (past-not-large (passed-short p i) e))
      (lt-or-ge 9 (length bs)))

value-not-large : {v : ℕ} {n : ByteLength} {answer : Leb} → Value v n ≡ answer → answer ≡ Large → ⊥
value-not-large h e = let z : ◌≡◌ {A = ℕ} 0 1 = cc in omega arith

at-tenth : (bs : List ℕ) → TenthByte bs → {P : Type 0} → ((v : ℕ) → Passed bs v 9 → P) → P
at-tenth bs t k = all-nine bs 9 (omega arith) (omega (arith, t.there)) t.reached k

-- of every list, also of numbers that are no bytes
pub unsigned-reaches : (bs : List ℕ) → leb_unsigned bs ≡ Large → TenthByte bs
unsigned-reaches bs = reaches-tenth bs (leb_unsigned bs) (unsigned-past bs) (λ v n a. value-not-large (unsigned-ended bs a))

pub signed-reaches : (bs : List ℕ) → leb_signed bs ≡ Large → TenthByte bs
signed-reaches bs = reaches-tenth bs (leb_signed bs) (signed-past bs) (λ v n a. value-not-large (signed-ended bs a refl))

pub unsigned-settled : SettledAtTenth leb_unsigned (λ b. b ≤ 1)
unsigned-settled = record {
  reached = λ bs byte. unsigned-reaches bs;
  fits = λ bs byte t h. at-tenth bs t (λ v p. value-not-large (unsigned-tenth bs p _ t.there refl h));
  large = λ bs byte t h. at-tenth bs t (λ v p. sym (unsigned-large bs p (get_or bs 9 0) t.there refl (omega arith)));
}

pub signed-settled : SettledAtTenth leb_signed (λ b. (b ≡ 0) ⊎ (b ≡ 127))
signed-settled = record {
  reached = λ bs byte. signed-reaches bs;
  fits = λ bs byte t h. at-tenth bs t (λ v p. ⊎_elim
      (λ z. value-not-large (signed-zeros bs p _ t.there refl z))
      (λ z. value-not-large (signed-ones bs p _ t.there refl z))
      h);
  large = λ bs byte t h. at-tenth bs t (λ v p. sym (signed-large bs p _ t.there refl (λ z. h (inl z)) (λ z. h (inr z))));
}

-- so of fewer than ten bytes, or of bytes that end before the tenth, no number is too large
module _ {answer : List ℕ → Leb} {Fits : ℕ → Type 0} (s : SettledAtTenth answer Fits) (bs : List ℕ) (byte : Bytes bs) where
  pub few-not-large : length bs < leb_limit → answer bs ≡ Large → ⊥
  few-not-large h e = let t = s.reached bs byte e in omega (arith, t.there)

  pub ended-not-large : (i : ℕ) → i < 9 → get_or bs i 0 < 128 → answer bs ≡ Large → ⊥
  ended-not-large i h l e = let t = s.reached bs byte e in omega (arith, t.reached i h)
