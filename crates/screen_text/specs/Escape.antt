-- Bytes of a trace on a screen: a text stays on its line, ends at its quote, and drives no terminal.
use Rattle.std.specs.Prelude.{ℕ, zero, suc, ◌+◌, ◌-◌, List, [], ◌∷◌, ◌++◌, Bool, true, false, ◌&&◌, ◌||◌, length, get_or, ltb, leb, eqb}
use Rattle.screen_number.specs.Number.{hex}

abbrev pub quote : ℕ
quote = 34

abbrev pub backslash : ℕ
backslash = 92

unfoldable pub within : ℕ → ℕ → ℕ → Bool
within low high b = leb low b && leb b high

-- The characters that are not shown as they are, in UTF-8 (RFC 3629): those that steer a terminal, and those that have no form of their
-- own and turn, break or hide what stands beside them. U+0000 to U+001F and U+007F; U+0080 to U+009F
unfoldable pub control : ℕ → Bool
control b = ltb b 32 || eqb b 127

unfoldable pub control2 : ℕ → ℕ → Bool
control2 b c = eqb b 0xC2 && within 0x80 0x9F c

-- U+200B to U+200F and U+2028 to U+202E; U+2060 to U+206F; U+FEFF
unfoldable pub formless_e2 : ℕ → ℕ → Bool
formless_e2 c d = elim (eqb c 0x80) [ true ↦ within 0x8B 0x8F d || within 0xA8 0xAE d | false ↦ eqb c 0x81 && within 0xA0 0xAF d ]

unfoldable pub formless_ef : ℕ → ℕ → Bool
formless_ef c d = eqb c 0xBB && eqb d 0xBF

unfoldable pub formless : ℕ → ℕ → ℕ → Bool
formless b c d = elim (eqb b 0xE2) [ true ↦ formless_e2 c d | false ↦ eqb b 0xEF && formless_ef c d ]

-- whether a byte is of such a character: the two before it, itself, and the two behind it (0 where there is none)
unfoldable pub hidden : ℕ → ℕ → ℕ → ℕ → ℕ → Bool
hidden a b c d e = control c || (control2 c d || (control2 b c || (formless c d e || (formless b c d || formless a b c))))

unfoldable pub marked : ℕ → Bool
marked c = eqb c quote || eqb c backslash

-- a byte: `\"`, `\\`, `\x` and two digits where it is hidden, and else itself
unfoldable pub escaped : Bool → ℕ → List ℕ
escaped true c = backslash ∷ 120 ∷ hex 2 c
escaped false c = elim (marked c) [ true ↦ backslash ∷ c ∷ [] | false ↦ c ∷ [] ]

-- the byte that stands so many before a place, and the byte at a place as it is shown
unfoldable pub before : List ℕ → ℕ → ℕ → ℕ
before s i k = elim (ltb i k) [ true ↦ 0 | false ↦ get_or s (i - k) 0 ]

unfoldable pub shown_at : List ℕ → ℕ → List ℕ
shown_at s i = escaped (hidden (before s i 2) (before s i 1) (get_or s i 0) (get_or s (i + 1) 0) (get_or s (i + 2) 0)) (get_or s i 0)

-- so many bytes of a text, from one of them on
unfoldable pub part : List ℕ → ℕ → ℕ → List ℕ
part s i zero = []
part s i (suc n) = shown_at s i ++ part s (i + 1) n

-- a text, in quotes
unfoldable pub quoted : List ℕ → List ℕ
quoted s = quote ∷ (part s 0 (length s) ++ (quote ∷ []))
