-- Text that a terminal shows and does not obey: no byte of it is below 32, none is 127, and none is U+0080 to U+009F, which in UTF-8 (RFC
-- 3629) is C2 and behind it 80 to 9F. The numbers are written out, so that what is hidden (screen_text) is held to them.
use Rattle.std.specs.Prelude.{ℕ, ◌≤◌, ◌≡◌, List, [], ◌∷◌, ◌++◌}
use Rattle.screen_number.specs.Number.{line_end}

abbrev pub Seen : ℕ → Type 0
Seen b = (32 ≤ b) × (b ≡ 127 → ⊥)

abbrev pub Visible : List ℕ → Type 0
Visible [] = Unit {0}
Visible (b ∷ x) = Seen b × Visible x

-- two bytes, one behind the other
abbrev pub Apart : ℕ → ℕ → Type 0
Apart a b = a ≡ 0xC2 → 0x80 ≤ b → b ≤ 0x9F → ⊥

-- a text behind a byte
abbrev pub Parted : ℕ → List ℕ → Type 0
Parted a [] = Unit {0}
Parted a (b ∷ x) = Apart a b × Parted b x

-- whatever stands in front of it
pub record Safe (x : List ℕ) : Type 0 where
  pub visible : Visible x
  pub parted : (a : ℕ) → Parted a x

-- such a text and the line's end, which is the last byte and the only one of its kind
pub record SafeLine (l : List ℕ) : Type 0 where
  pub text : List ℕ
  pub whole : l ≡ text ++ (line_end ∷ [])
  pub safe : Safe text
