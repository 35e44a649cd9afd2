-- What the nine rows of `utf8` take: each the encodings of a range of numbers.
-- In order: an encoding by its range; the row of a byte; a character's bytes; those of two bytes and more, by their bits; the nine rows.
use Rattle.std.specs.Prelude.{Some}
use mathlib.Core.Path.{◌≡◌, refl, ◌∙◌}
use mathlib.Core.List.{List, [], ◌∷◌, ◌++◌}
use Prim.Native.Nat.{ℕ, zero, suc, ◌+◌, ◌-◌, ◌*◌, ◌/◌, ◌%◌, ◌^◌, ◌<◌, ◌≤◌}
use native.Mathlib.Omega.{arith}
use borrow.Author.Tests.{le-leb, lt-leb}
use lib.ListN.{take, get_or}
use Rattle.facts.proofs.Truth.{and_none}
use Rattle.rules.specs.Text.{Row, row, rows, row_of, utf8_from, utf8}
use Rattle.text.specs.Encoding.{six, encode_one, Encodes}

-- An encoding by its range

pub encode_one_lem : (c : ℕ) → c ≤ 0x7F → encode_one c ≡ c ∷ []
unfolding encode_one
encode_one_lem c z = simp (le-leb c 0x7F z, encode_one)

pub encode-two : (c : ℕ) → 0x7F < c → c ≤ 0x7FF → encode_one c ≡ (0xC0 + c / 2 ^ 6) ∷ six c ∷ []
unfolding encode_one
encode-two c a z = simp (lt-leb c 0x7F a, le-leb c 0x7FF z, encode_one)

pub encode-three : (c : ℕ) → 0x7FF < c → c ≤ 0xFFFF → encode_one c ≡ (0xE0 + c / 2 ^ 12) ∷ six (c / 2 ^ 6) ∷ six c ∷ []
unfolding encode_one
encode-three c a z = simp (lt-leb c 0x7F (omega arith), lt-leb c 0x7FF a, le-leb c 0xFFFF z, encode_one)

pub encode-four : (c : ℕ) → 0xFFFF < c → encode_one c ≡ (0xF0 + c / 2 ^ 18) ∷ six (c / 2 ^ 12) ∷ six (c / 2 ^ 6) ∷ six c ∷ []
unfolding encode_one
encode-four c a = simp (lt-leb c 0x7F (omega arith), lt-leb c 0x7FF (omega arith), lt-leb c 0xFFFF a, encode_one)

-- The row of a byte

pub row_here : (r : Row) (rs : List Row) (b : ℕ) → r.first ≤ b → b ≤ r.last → row_of (r ∷ rs) b ≡ Some r
unfolding row_of
row_here r rs b a z = simp (le-leb r.first b a, le-leb b r.last z, row_of)

row-later : (r : Row) (rs : List Row) (b : ℕ) → r.last < b → row_of (r ∷ rs) b ≡ row_of rs b
unfolding row_of
row-later r rs b a = simp (lt-leb b r.last a, and_none, row_of)

-- no byte is of this row
abbrev no_row : Row
no_row = row 1 0 0 0 0

unfoldable pub row_at : ℕ → Row
row_at k = get_or rows k no_row

-- the byte is behind all of these rows
abbrev pub Behind : List Row → ℕ → Type 0
Behind [] b = Unit {0}
Behind (r ∷ rs) b = (r.last < b) × Behind rs b

pub row-at : (rs : List Row) (k b : ℕ) → Behind (take k rs) b → (get_or rs k no_row).first ≤ b → b ≤ (get_or rs k no_row).last
    → row_of rs b ≡ Some (get_or rs k no_row)
row-at [] k b h a z = absurd (omega arith)
row-at (r ∷ rs) zero b h a z = row_here r rs b a z
row-at (r ∷ rs) (suc k) b h a z = row-later r rs b h.0 ∙ row-at rs k b h.1 a z

-- A character's bytes

pub lead-taken : (b : ℕ) (r : Row) (bs : List ℕ) → row_of rows b ≡ Some r → utf8 (b ∷ bs) ≡ utf8_from r.more r.low r.high bs
unfolding utf8_from utf8
lead-taken b r bs h = simp (h, utf8, utf8_from)

next-taken : (n l h b : ℕ) (bs : List ℕ) → l ≤ b → b ≤ h → utf8_from (suc n) l h (b ∷ bs) ≡ utf8_from n 0x80 0xBF bs
unfolding utf8_from
next-taken n l h b bs a z = simp (le-leb l b a, le-leb b h z)

-- where no byte is still to come, no range is asked for
pub all-taken : (l h : ℕ) (bs : List ℕ) → utf8_from 0 l h bs ≡ utf8 bs
unfolding utf8_from utf8
all-taken l h [] = refl
all-taken l h (b ∷ bs) = refl

-- so many bytes of a character, the next of them within a range, and scalar values encoded behind them
pub data Tail : ℕ → ℕ → ℕ → List ℕ → Type 0 where
  end : {l h : ℕ} {bs : List ℕ} → Encodes bs → Tail 0 l h bs
  next : {n l h b : ℕ} {bs : List ℕ} → l ≤ b → b ≤ h → Tail n 0x80 0xBF bs → Tail (suc n) l h (b ∷ bs)

pub ended : {l h : ℕ} {bs : List ℕ} → Tail 0 l h bs → Encodes bs
ended (end e) = e

-- a number of a range, encoded, and scalar values encoded behind it
pub record Led (low high : ℕ) (bytes : List ℕ) : Type 0 where
  pub number : ℕ
  pub from : low ≤ number
  pub to : number ≤ high
  pub rest : List ℕ
  pub same : encode_one number ++ rest ≡ bytes
  pub others : Encodes rest

-- the bytes of a range's numbers are taken
abbrev Taken : ℕ → ℕ → Type 0
Taken low high = (c : ℕ) (bs : List ℕ) → low ≤ c → c ≤ high → utf8 (encode_one c ++ bs) ≡ utf8 bs

-- a byte of the row and so many that follow it are of a range's numbers
abbrev Given : Row → ℕ → ℕ → ℕ → Type 0
Given r n low high = (b : ℕ) (bs : List ℕ) → r.first ≤ b → b ≤ r.last → Tail n r.low r.high bs → Led low high (b ∷ bs)

-- the kth row takes the numbers of a range, and nothing else
pub record Spans (k low high : ℕ) : Type 0 where
  pub taken : Taken low high
  pub given : Given (row_at k) (row_at k).more low high

-- Characters of two bytes and more, by their bits

-- the marking bits of the first byte, how many bytes follow the second, 2 to their bits, and the numbers encoded so
pub record Form : Type 0 where
  pub mark : ℕ
  pub others : ℕ
  pub unit : ℕ
  pub least : ℕ
  pub most : ℕ

abbrev pub two : Form
two = record { mark = 0xC0; others = 0; unit = 1; least = 0x80; most = 0x7FF }

abbrev pub three : Form
three = record { mark = 0xE0; others = 1; unit = 2 ^ 6; least = 0x800; most = 0xFFFF }

abbrev pub four : Form
four = record { mark = 0xF0; others = 2; unit = 2 ^ 12; least = 0x10000; most = 0x10FFFF }

-- the number of the first byte's bits, the second's and the others'
abbrev pub value : Form → ℕ → ℕ → ℕ → ℕ
value f x y w = 64 * f.unit * x + f.unit * y + w

-- the row takes these bits of a first byte and of a second
abbrev Takes : Row → Form → ℕ → ℕ → Type 0
Takes r f x y = (r.first ≤ f.mark + x) × (f.mark + x ≤ r.last) × (r.low ≤ 0x80 + y) × (0x80 + y ≤ r.high)

-- the kth row takes the bits of a range's numbers and no others, and no row before it takes its first bytes; `omega` shows it of each
record Fits (k : ℕ) (f : Form) (low high : ℕ) : Type 0 where
  count : (row_at k).more ≡ suc f.others
  marked : f.mark ≤ (row_at k).first
  six-from : 0x80 ≤ (row_at k).low
  six-to : (row_at k).high ≤ 0xBF
  least : f.least ≤ low
  most : high ≤ f.most
  apart : (b : ℕ) → (row_at k).first ≤ b → Behind (take k rows) b
  into : (x y w : ℕ) → y < 64 → w < f.unit → low ≤ value f x y w → value f x y w ≤ high → Takes (row_at k) f x y
  out : (x y w : ℕ) → y < 64 → w < f.unit → Takes (row_at k) f x y → (low ≤ value f x y w) × (value f x y w ≤ high)

-- the bytes of numbers that have these other bits
abbrev Spelt : Form → ℕ → List ℕ → Type 0
Spelt f w ws = (x y : ℕ) → y < 64 → f.least ≤ value f x y w → value f x y w ≤ f.most
    → encode_one (value f x y w) ≡ (f.mark + x) ∷ (0x80 + y) ∷ ws

spell-two : Spelt two 0 []
unfolding six
spell-two x y h a z =
    let first : value two x y 0 / 2 ^ 6 ≡ x = omega arith in
    let second : value two x y 0 % 2 ^ 6 ≡ y = omega arith in
    encode-two _ a z ∙ rw (first, second)

spell-three : (b : ℕ) → 0x80 ≤ b → b ≤ 0xBF → Spelt three (b - 0x80) (b ∷ [])
unfolding six
spell-three b i j x y h a z =
    let first : value three x y (b - 0x80) / 2 ^ 12 ≡ x = omega arith in
    let second : value three x y (b - 0x80) / 2 ^ 6 % 2 ^ 6 ≡ y = omega arith in
    let third : 0x80 + value three x y (b - 0x80) % 2 ^ 6 ≡ b = omega arith in
    encode-three _ a z ∙ rw (first, second, third)

-- the bits of two bytes that follow
abbrev twelve : ℕ → ℕ → ℕ
twelve b b' = 64 * (b - 0x80) + (b' - 0x80)

spell-four : (b b' : ℕ) → 0x80 ≤ b → b ≤ 0xBF → 0x80 ≤ b' → b' ≤ 0xBF → Spelt four (twelve b b') (b ∷ b' ∷ [])
unfolding six
spell-four b b' i j i' j' x y h a z =
    let first : value four x y (twelve b b') / 2 ^ 18 ≡ x = omega arith in
    let second : value four x y (twelve b b') / 2 ^ 12 % 2 ^ 6 ≡ y = omega arith in
    let third : 0x80 + value four x y (twelve b b') / 2 ^ 6 % 2 ^ 6 ≡ b = omega arith in
    let fourth : 0x80 + value four x y (twelve b b') % 2 ^ 6 ≡ b' = omega arith in
    encode-four _ a ∙ rw (first, second, third, fourth)

module _ (k low high : ℕ) where
  -- the first two bytes tell the row, and the number's range

  two-taken : (f : Form) → Fits k f low high → (x y w : ℕ) (bs : List ℕ) → y < 64 → w < f.unit
      → low ≤ value f x y w → value f x y w ≤ high
      → utf8 ((f.mark + x) ∷ (0x80 + y) ∷ bs) ≡ utf8_from f.others 0x80 0xBF bs
  unfolding row_at
  two-taken f fits x y w bs h i a z =
      let t = fits.into x y w h i a z in
      lead-taken _ _ _ (row-at rows k _ (fits.apart _ t.0) t.0 t.1)
      ∙ rw fits.count (next-taken f.others _ _ _ bs t.2 t.3)

  two-given : (f : Form) → Fits k f low high → (b b₁ w : ℕ) (ws rest : List ℕ)
      → (row_at k).first ≤ b → b ≤ (row_at k).last → (row_at k).low ≤ b₁ → b₁ ≤ (row_at k).high → w < f.unit
      → Spelt f w ws → Encodes rest → Led low high (b ∷ b₁ ∷ (ws ++ rest))
  two-given f fits b b₁ w ws rest a z a₁ z₁ i spell e =
      let x = b - f.mark in
      let y = b₁ - 0x80 in
      let first : f.mark + x ≡ b = omega arith in
      let second : 0x80 + y ≡ b₁ = omega arith in
      let ranged = fits.out x y w (omega arith) i (omega arith) in
      record {
        number = value f x y w;
        from = ranged.0;
        to = ranged.1;
        rest = rest;
        same = rw (spell x y (omega arith) (omega arith) (omega arith), first, second);
        others = e;
      }

  taken-two : Fits k two low high → Taken low high
  unfolding six
  taken-two fits c bs a z = rw (encode-two c (omega arith) (omega arith))
      (two-taken two fits (c / 2 ^ 6) (c % 2 ^ 6) 0 bs (omega arith) (omega arith) (omega arith) (omega arith) ∙ all-taken _ _ bs)

  given-two : Fits k two low high → Given (row_at k) 1 low high
  given-two fits b _ a z (next p q (end e)) = two-given two fits b _ 0 [] _ a z p q (omega arith) spell-two e

  of_two : Fits k two low high → Spans k low high
  of_two fits = record { taken = taken-two fits; given = rw fits.count (given-two fits) }

  taken-three : Fits k three low high → Taken low high
  unfolding six
  taken-three fits c bs a z = rw (encode-three c (omega arith) (omega arith))
      (two-taken three fits (c / 2 ^ 12) (c / 2 ^ 6 % 2 ^ 6) (c % 2 ^ 6) _ (omega arith) (omega arith) (omega arith) (omega arith)
      ∙ next-taken 0 _ _ _ bs (omega arith) (omega arith)
      ∙ all-taken _ _ bs)

  given-three : Fits k three low high → Given (row_at k) 2 low high
  given-three fits b _ a z (next p q (next {b = b₂} i j (end e))) =
      two-given three fits b _ (b₂ - 0x80) (b₂ ∷ []) _ a z p q (omega arith) (spell-three b₂ i j) e

  of_three : Fits k three low high → Spans k low high
  of_three fits = record { taken = taken-three fits; given = rw fits.count (given-three fits) }

  taken-four : Fits k four low high → Taken low high
  unfolding six
  taken-four fits c bs a z = rw (encode-four c (omega arith))
      (two-taken four fits (c / 2 ^ 18) (c / 2 ^ 12 % 2 ^ 6) (c % 2 ^ 12) _ (omega arith) (omega arith) (omega arith) (omega arith)
      ∙ next-taken 1 _ _ _ _ (omega arith) (omega arith)
      ∙ next-taken 0 _ _ _ bs (omega arith) (omega arith)
      ∙ all-taken _ _ bs)

  given-four : Fits k four low high → Given (row_at k) 3 low high
  given-four fits b _ a z (next p q (next {b = b₂} i j (next {b = b₃} i' j' (end e)))) =
      two-given four fits b _ (twelve b₂ b₃) (b₂ ∷ b₃ ∷ []) _ a z p q (omega arith) (spell-four b₂ b₃ i j i' j') e

  of_four : Fits k four low high → Spans k low high
  of_four fits = record { taken = taken-four fits; given = rw fits.count (given-four fits) }

-- The nine rows

pub to-7F : Spans 0 0 0x7F
unfolding rows row_at
to-7F = record {
  taken = λ c bs a z. rw (encode_one_lem c z) (lead-taken c _ bs (row-at rows 0 c tt a z) ∙ all-taken _ _ bs);
  given = λ b bs a z t. record { number = b; from = a; to = z; rest = bs; same = rw (encode_one_lem b z); others = ended t };
}

pub to-7FF : Spans 1 0x80 0x7FF
unfolding rows row_at
to-7FF = of_two 1 _ _ (omega arith)

pub to-FFF : Spans 2 0x800 0xFFF
unfolding rows row_at
to-FFF = of_three 2 _ _ (omega arith)

pub to-CFFF : Spans 3 0x1000 0xCFFF
unfolding rows row_at
to-CFFF = of_three 3 _ _ (omega arith)

pub to-D7FF : Spans 4 0xD000 0xD7FF
unfolding rows row_at
to-D7FF = of_three 4 _ _ (omega arith)

pub to-FFFF : Spans 5 0xE000 0xFFFF
unfolding rows row_at
to-FFFF = of_three 5 _ _ (omega arith)

pub to-3FFFF : Spans 6 0x10000 0x3FFFF
unfolding rows row_at
to-3FFFF = of_four 6 _ _ (omega arith)

pub to-FFFFF : Spans 7 0x40000 0xFFFFF
unfolding rows row_at
to-FFFFF = of_four 7 _ _ (omega arith)

pub to-10FFFF : Spans 8 0x100000 0x10FFFF
unfolding rows row_at
to-10FFFF = of_four 8 _ _ (omega arith)
