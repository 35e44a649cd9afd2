-- An entry's five words in their columns.
use Rattle.std.specs.Prelude.{ℕ, List, ◌∷◌, ◌++◌, Bool, true, false}
use Rattle.rules.specs.declared.Entry.{Entry}
use Rattle.screen_number.specs.Number.{decimal, signed_decimal, left, right, blank}
use Rattle.screen_head.specs.Kinds.{Shows, plain, signed, as_hex, as_float, as_seconds, as_text, as_bytes, row_of, word}

-- "kind, place, bits, value", and the number of its class record
pub record Five : Type 0 where
  pub kind : ℕ
  pub place : ℕ
  pub bits : ℕ
  pub value : ℕ
  pub number : ℕ

abbrev pub five : ℕ → ℕ → ℕ → ℕ → ℕ → Five
five k p b v n = record { kind = k; place = p; bits = b; value = v; number = n }

-- as the code has them
abbrev pub five_of : Entry → Five
five_of e = five e.kind e.place.0 e.bits e.value e.number

-- whether a value is shown with its sign
unfoldable pub has_sign : Shows → Bool
has_sign signed = true
has_sign plain = false
has_sign as_hex = false
has_sign as_float = false
has_sign as_seconds = false
has_sign as_text = false
has_sign as_bytes = false

unfoldable pub shown_value : Shows → ℕ → List ℕ
shown_value h v = elim (has_sign h) [ true ↦ signed_decimal v | false ↦ decimal v ]

-- a column behind a blank
unfoldable pub column : ℕ → List ℕ → List ℕ
column w x = blank ∷ right w x

unfoldable pub value_of_kind : ℕ → ℕ → List ℕ
value_of_kind k v = shown_value (row_of k).shows v

-- the five words, each behind a blank but the first
unfoldable pub head : Five → List ℕ
head e =
    left 15 (word e.kind) ++ column 10 (decimal e.place) ++ column 9 (decimal e.bits) ++ column 21
    (value_of_kind e.kind e.value)
    ++ column 5 (decimal e.number)
