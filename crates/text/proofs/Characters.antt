-- What is due of a character: that it is as the rows say, and that the bytes behind are well-formed as `utf8_from` says of what is due.
-- In order: behind a first byte, by its row; behind a next byte; what is due, over the rest of the bytes; the loop over them.
use Rattle.std.specs.Prelude.{Option, None, Some}
use mathlib.Core.Path.{◌≡◌, refl, sym, ap, ◌∙◌}
use mathlib.Core.Logic.{⊎_elim}
use mathlib.Core.List.{List, [], ◌∷◌}
use mathlib.Core.Bool.{Bool, true, false, ◌&&◌}
use Prim.Native.Nat.{ℕ, zero, suc, ◌+◌, ◌-◌, ◌<◌, ◌≤◌}
use native.Mathlib.Omega.{arith}
use borrow.Author.Tests.{leb-true, le-leb, lt-leb, ne_eqb}
use lib.Dec.{leb, eqb}
use native.Mathlib.Numerals.{add-one}
use lib.ListN.{length, get_or, take, drop, drop_of_length-le}
use lib.Seq.{drop-cons}
use Rattle.facts.proofs.Numbers.{lt-or-ge}
use Rattle.facts.proofs.Truth.{and_left, and_right, and_none}
use Rattle.rules.specs.Text.{Row, rows, row_of, utf8_from, utf8}
use Rattle.text.specs.declared.Due.{Due}
use Rattle.text.specs.Reading.{bytes_due, none_due, row_due, first_due, due_behind}
use Rattle.text.proofs.Rows.{row_at, Behind, row-at}

-- Behind a first byte, by its row

first-at : (k b : ℕ) → Behind (take k rows) b → (row_at k).first ≤ b → b ≤ (row_at k).last
    → first_due b ≡ bytes_due (row_at k).more (row_at k).low (row_at k).high
unfolding row_at row_due first_due
first-at k b h a z = simp (row-at rows k b h a z, first_due, row_due)

-- the byte is of none of these rows
abbrev NoneOf : List Row → ℕ → Type 0
NoneOf [] b = Unit {0}
NoneOf (r ∷ rs) b = (r.first ≤ b → b ≤ r.last → ⊥) × NoneOf rs b

row-none : (rs : List Row) (b : ℕ) → NoneOf rs b → row_of rs b ≡ None
unfolding row_of
row-none [] b h = refl
row-none (r ∷ rs) b h = by (row-none rs b h.1) (leb r.first b && leb b r.last) refl
  where
    by : row_of rs b ≡ None → (test : Bool) → (leb r.first b && leb b r.last) ≡ test → row_of (r ∷ rs) b ≡ None
    by later true i = absurd (h.0 (leb-true r.first b (and_left _ _ i)) (leb-true b r.last (and_right (leb r.first b) _ i)))
    by later false i = simp (i, row_of) later

first-none : (b : ℕ) → NoneOf rows b → none_due ≡ first_due b
unfolding row_due first_due
first-none b h = simp (row-none rows b h, first_due, row_due)

module _ (b : ℕ) where
  pub first-of-one : b < 0x80 → bytes_due 0 0x80 0xBF ≡ first_due b
  unfolding rows row_at
  first-of-one z = sym (first-at 0 b tt (omega arith) (omega arith))

  -- 80 to C1: within a character, or of an overlong form
  pub first-within : 0x80 ≤ b → b < 0xC2 → none_due ≡ first_due b
  unfolding rows
  first-within a z = first-none b (omega arith)

  pub first-of-two : 0xC2 ≤ b → b < 0xE0 → bytes_due 1 0x80 0xBF ≡ first_due b
  unfolding rows row_at
  first-of-two a z = sym (first-at 1 b (omega arith) (omega arith) (omega arith))

  pub first-E0 : b ≡ 0xE0 → bytes_due 2 0xA0 0xBF ≡ first_due b
  unfolding rows row_at
  first-E0 e = sym (first-at 2 b (omega arith) (omega arith) (omega arith))

  pub first-ED : b ≡ 0xED → bytes_due 2 0x80 0x9F ≡ first_due b
  unfolding rows row_at
  first-ED e = sym (first-at 4 b (omega arith) (omega arith) (omega arith))

  -- E1 to EC, and EE and EF
  pub first-of-three : 0xE0 ≤ b → b < 0xF0 → (b ≡ 0xE0 → ⊥) → (b ≡ 0xED → ⊥) → bytes_due 2 0x80 0xBF ≡ first_due b
  unfolding rows row_at
  first-of-three a z other other' = ⊎_elim
      (λ l. sym (first-at 3 b (omega arith) (omega arith) (omega arith)))
      (λ l. sym (first-at 5 b (omega arith) (omega arith) (omega arith)))
      (lt-or-ge b 0xED)

  pub first-F0 : b ≡ 0xF0 → bytes_due 3 0x90 0xBF ≡ first_due b
  unfolding rows row_at
  first-F0 e = sym (first-at 6 b (omega arith) (omega arith) (omega arith))

  pub first-F4 : b ≡ 0xF4 → bytes_due 3 0x80 0x8F ≡ first_due b
  unfolding rows row_at
  first-F4 e = sym (first-at 8 b (omega arith) (omega arith) (omega arith))

  -- behind the last row
  pub first-behind : 0xF4 < b → none_due ≡ first_due b
  unfolding rows
  first-behind a = first-none b (omega arith)

  -- F1 to F3
  pub first-of-four : 0xF0 < b → b < 0xF4 → bytes_due 3 0x80 0xBF ≡ first_due b
  unfolding rows row_at
  first-of-four a z = sym (first-at 7 b (omega arith) (omega arith) (omega arith))

-- Behind a next byte

module _ (d : Due) (b : ℕ) where
  pub behind-whole : d.more ≡ 0 → first_due b ≡ due_behind d b
  unfolding due_behind
  behind-whole e = simp (e, due_behind)

  module _ (h : 0 < d.more) where
    pub behind-low : b < d.low → none_due ≡ due_behind d b
    unfolding due_behind
    behind-low l = by (d.more - 1) (omega arith)
      where
        by : (n : ℕ) → d.more ≡ suc n → none_due ≡ due_behind d b
        by n e = simp (e, lt-leb d.low b l, due_behind)

    pub behind-high : d.high < b → none_due ≡ due_behind d b
    unfolding due_behind
    behind-high l = by (d.more - 1) (omega arith)
      where
        by : (n : ℕ) → d.more ≡ suc n → none_due ≡ due_behind d b
        by n e = simp (e, lt-leb b d.high l, and_none, due_behind)

    pub behind-next : d.low ≤ b → b ≤ d.high → bytes_due (d.more - 1) 0x80 0xBF ≡ due_behind d b
    unfolding due_behind
    behind-next a z = by (d.more - 1) (omega arith)
      where
        by : (n : ℕ) → d.more ≡ suc n → bytes_due n 0x80 0xBF ≡ due_behind d b
        by n e = simp (e, le-leb d.low b a, le-leb b d.high z, due_behind)

-- What is due, over the rest of the bytes

abbrev pub goes_on : Due → List ℕ → Bool
goes_on d bs = utf8_from d.more d.low d.high bs

none-goes : (bs : List ℕ) → false ≡ goes_on none_due bs
unfolding utf8_from bytes_due none_due
none-goes [] = refl
none-goes (zero ∷ bs) = refl
none-goes (suc b ∷ bs) = simp (lt-leb (suc b) 0 (omega arith), and_none)

row_goes : (o : Option Row) (bs : List ℕ)
    → ◌≡◌ {A = Bool} (elim o [ None ↦ false | Some r ↦ utf8_from r.more r.low r.high bs ]) (goes_on (row_due o) bs)
unfolding bytes_due row_due
row_goes None bs = none-goes bs
row_goes (Some r) bs = refl

byte-goes : (n l h b : ℕ) (bs : List ℕ) → utf8_from n l h (b ∷ bs) ≡ goes_on (due_behind (bytes_due n l h) b) bs
unfolding utf8_from bytes_due first_due due_behind
byte-goes zero l h b bs = row_goes (row_of rows b) bs
byte-goes (suc n) l h b bs = by (leb l b) (leb b h)
  where
    by : (low high : Bool)
        → (low && high && utf8_from n 0x80 0xBF bs)
        ≡ goes_on (elim (low && high) [ true ↦ bytes_due n 0x80 0xBF | false ↦ none_due ]) bs
    by true true = refl
    by true false = none-goes bs
    by false high = none-goes bs

pub due-goes : (d : Due) (b : ℕ) (bs : List ℕ) → goes_on d (b ∷ bs) ≡ goes_on (due_behind d b) bs
unfolding bytes_due
due-goes d b bs = byte-goes d.more d.low d.high b bs

pub due-ends : (d : Due) → eqb d.more 0 ≡ goes_on d []
unfolding utf8_from
due-ends d = by d.more
  where
    by : (n : ℕ) → eqb n 0 ≡ utf8_from n d.low d.high []
    by zero = refl
    by (suc n) = ne_eqb (suc n) 0 (λ e. absurd (omega arith))

-- The loop over them

module _ (bs : List ℕ) where
  -- so many bytes are passed; what is due goes on over what is left
  abbrev pub Goes : ℕ → Due → Type 0
  Goes i d = utf8 bs ≡ goes_on d (drop i bs)

  pub goes_first : Goes 0 (bytes_due 0 0 0)
  unfolding utf8 bytes_due
  goes_first = refl

  pub goes-next : (i : ℕ) → i < length bs → (d : Due) → Goes i d → Goes (i + 1) (due_behind d (get_or bs i 0))
  goes-next i l d g = g ∙ rw (drop-cons bs i 0 l, add-one i) (due-goes d _ _)

  pub goes_last : (i : ℕ) → length bs ≤ i → (d : Due) → Goes i d → eqb d.more 0 ≡ utf8 bs
  goes_last i e d g = due-ends d ∙ sym (g ∙ ap (goes_on d) (drop_of_length-le bs e))
