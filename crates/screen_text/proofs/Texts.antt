-- Laws of texts: a byte as it is shown, and one more byte behind a part.
use mathlib.Core.Path.{◌≡◌, refl, sym, ap, ◌∙◌}
use mathlib.Core.List.{List, [], ◌∷◌, ◌++◌, append-nil, append_assoc}
use mathlib.Core.Bool.{Bool, true, false, ◌||◌}
use Prim.Native.Nat.{ℕ, zero, suc, ◌+◌, ◌-◌, ◌*◌, ◌<◌, ◌≤◌}
use native.Mathlib.Omega.{arith}
use borrow.Author.Tests.{eq-eqb, ne_eqb, lt-ltb, le-ltb, le-leb, lt-leb}
use lib.ListN.{length, get_or, length-append}
use lib.Dec.{leb, eqb}
use Rattle.screen_number.specs.Number.{hex}
use Rattle.screen_number.proofs.Laid.{length-hex}
use Rattle.screen_text.specs.Escape.{quote, backslash, within, control, control2, formless_e2, formless_ef, formless, hidden}
use Rattle.screen_text.specs.Escape.{marked, escaped, before, shown_at, part}

-- a byte: by its two digits, behind a backslash, as it is
pub by_digits : (c : ℕ) → (backslash ∷ []) ++ (120 ∷ []) ++ hex 2 c ≡ escaped true c
unfolding escaped
by_digits c = refl

pub behind-backslash : (c : ℕ) → marked c ≡ true → (backslash ∷ []) ++ (c ∷ []) ≡ escaped false c
unfolding escaped
behind-backslash c h = simp (escaped, h)

pub as-it-is : (c : ℕ) → marked c ≡ false → c ∷ [] ≡ escaped false c
unfolding escaped
as-it-is c h = simp (escaped, h)

short-plain : (b : Bool) (c : ℕ) → length {A = ℕ} (elim b [ true ↦ backslash ∷ c ∷ [] | false ↦ c ∷ [] ]) ≤ 4
short-plain true c = omega arith
short-plain false c = omega arith

pub escaped-length : (h : Bool) (c : ℕ) → length (escaped h c) ≤ 4
unfolding escaped
escaped-length true c = omega (arith, length-hex 2 c)
escaped-length false c = short-plain (marked c) c

pub shown-length : (s : List ℕ) (i : ℕ) → length (shown_at s i) ≤ 4
unfolding shown_at
shown-length s i = escaped-length (hidden (before s i 2) (before s i 1) (get_or s i 0) (get_or s (i + 1) 0) (get_or s (i + 2) 0)) (get_or s i 0)

-- a part, and one byte more
pub part_none : (s : List ℕ) (i : ℕ) → part s i 0 ≡ []
unfolding part
part_none s i = refl

pub part-more : (s : List ℕ) (i n : ℕ) → part s i n ++ shown_at s (i + n) ≡ part s i (n + 1)
unfolding part
part-more s i zero = let e : i + 0 ≡ i = omega arith in rw e (sym (append-nil (shown_at s i)))
part-more s i (suc n) =
    let e : suc n + 1 ≡ suc (n + 1) = omega arith in
    let k : i + suc n ≡ i + 1 + n = omega arith in
    rw (e, k) (append_assoc (shown_at s i) (part s (i + 1) n) (shown_at s (i + 1 + n)) ∙ ap (λ x. shown_at s i ++ x) (part-more s (i + 1) n))

pub part_length : (s : List ℕ) (i n : ℕ) → length (part s i n) ≤ 4 * n
unfolding part
part_length s i zero = omega arith
part_length s i (suc n) = omega (
  arith,
  length-append (shown_at s i) (part s (i + 1) n),
  shown-length s i,
  part_length s (i + 1) n,
)

-- two parts, one behind the other
pub part-append : (s : List ℕ) (i m n : ℕ) → part s i m ++ part s (i + m) n ≡ part s i (m + n)
unfolding part
part-append s i zero n =
    let e : i + 0 ≡ i = omega arith in
    let k : 0 + n ≡ n = omega arith in
    rw (e, k)
part-append s i (suc m) n =
    let e : suc m + n ≡ suc (m + n) = omega arith in
    let k : i + suc m ≡ i + 1 + m = omega arith in
    rw (e, k) (append_assoc (shown_at s i) (part s (i + 1) m) (part s (i + 1 + m) n) ∙ ap (λ x. shown_at s i ++ x)
    (part-append s (i + 1) m n))

-- bytes of a text that is a part of the stream

pub before-none : (s : List ℕ) (i k : ℕ) → i < k → 0 ≡ before s i k
unfolding before
before-none s i k h = simp (before, lt-ltb i k h)

pub before-some : (s : List ℕ) (i k : ℕ) → k ≤ i → get_or s (i - k) 0 ≡ before s i k
unfolding before
before-some s i k h = simp (before, le-ltb i k h)

-- Tests, one after the other
pub within_low : (l h b : ℕ) → l ≤ b → leb b h ≡ within l h b
unfolding within
within_low l h b e = simp (within, le-leb l b e)

pub within-below : (l h b : ℕ) → b < l → false ≡ within l h b
unfolding within
within-below l h b e = simp (within, lt-leb l b e)

pub control-low : (b : ℕ) → b < 32 → true ≡ control b
unfolding control
control-low b h = simp (control, lt-ltb b 32 h)

pub control-rest : (b : ℕ) → 32 ≤ b → eqb b 127 ≡ control b
unfolding control
control-rest b h = simp (control, le-ltb b 32 h)

pub control2-first : (b c : ℕ) → b ≡ 0xC2 → within 0x80 0x9F c ≡ control2 b c
unfolding control2
control2-first b c e = simp (control2, eq-eqb b 0xC2 e)

pub control2-other : (b c : ℕ) → (b ≡ 0xC2 → ⊥) → false ≡ control2 b c
unfolding control2
control2-other b c h = simp (control2, ne_eqb b 0xC2 h)

pub e2-low : (c d : ℕ) → c ≡ 0x80 → within 0x8B 0x8F d ≡ true → true ≡ formless_e2 c d
unfolding formless_e2
e2-low c d e h = simp (formless_e2, eq-eqb c 0x80 e, h)

pub e2-high : (c d : ℕ) → c ≡ 0x80 → within 0x8B 0x8F d ≡ false → within 0xA8 0xAE d ≡ formless_e2 c d
unfolding formless_e2
e2-high c d e h = simp (formless_e2, eq-eqb c 0x80 e, h)

pub e2-next : (c d : ℕ) → (c ≡ 0x80 → ⊥) → c ≡ 0x81 → within 0xA0 0xAF d ≡ formless_e2 c d
unfolding formless_e2
e2-next c d h e = simp (formless_e2, ne_eqb c 0x80 h, eq-eqb c 0x81 e)

pub e2-other : (c d : ℕ) → (c ≡ 0x80 → ⊥) → (c ≡ 0x81 → ⊥) → false ≡ formless_e2 c d
unfolding formless_e2
e2-other c d h k = simp (formless_e2, ne_eqb c 0x80 h, ne_eqb c 0x81 k)

pub ef-some : (c d : ℕ) → c ≡ 0xBB → eqb d 0xBF ≡ formless_ef c d
unfolding formless_ef
ef-some c d e = simp (formless_ef, eq-eqb c 0xBB e)

pub ef-other : (c d : ℕ) → (c ≡ 0xBB → ⊥) → false ≡ formless_ef c d
unfolding formless_ef
ef-other c d h = simp (formless_ef, ne_eqb c 0xBB h)

pub formless-e2 : (b c d : ℕ) → b ≡ 0xE2 → formless_e2 c d ≡ formless b c d
unfolding formless
formless-e2 b c d e = simp (formless, eq-eqb b 0xE2 e)

pub formless-ef : (b c d : ℕ) → (b ≡ 0xE2 → ⊥) → b ≡ 0xEF → formless_ef c d ≡ formless b c d
unfolding formless
formless-ef b c d h e = simp (formless, ne_eqb b 0xE2 h, eq-eqb b 0xEF e)

pub formless-other : (b c d : ℕ) → (b ≡ 0xE2 → ⊥) → (b ≡ 0xEF → ⊥) → false ≡ formless b c d
unfolding formless
formless-other b c d h k = simp (formless, ne_eqb b 0xE2 h, ne_eqb b 0xEF k)

pub marked-quote : (c : ℕ) → c ≡ quote → true ≡ marked c
unfolding marked
marked-quote c e = simp (marked, eq-eqb c quote e)

pub marked-rest : (c : ℕ) → (c ≡ quote → ⊥) → eqb c backslash ≡ marked c
unfolding marked
marked-rest c h = simp (marked, ne_eqb c quote h)

-- so many tests are false, and the next says it
pub any-1 : (x : Bool) (y : Bool) → x ≡ true → true ≡ (x || y)
any-1 x y h = simp h

pub any-on : (x y r : Bool) → x ≡ false → r ≡ y → r ≡ (x || y)
any-on x y r h e = simp h e

-- a byte by what is known of its neighbours
pub shown_by : (s : List ℕ) (i a b c d e : ℕ) (h : Bool) → a ≡ before s i 2 → b ≡ before s i 1 → c ≡ get_or s i 0 → d ≡ get_or s (i + 1) 0
    → e ≡ get_or s (i + 2) 0 → h ≡ hidden a b c d e → escaped h c ≡ shown_at s i
unfolding shown_at
shown_by s i a b c d e h ea eb ec ed ee eh = cc
