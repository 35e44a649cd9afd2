-- Texts as they are shown, each computed from the definitions: what ends the quotes; the characters at both ends of each row of hidden
-- ones, and those beside them, which are shown as they are.
use mathlib.Core.Path.{◌≡◌, refl}
use Prim.Native.Nat.{ℕ}
use mathlib.Core.List.{[], ◌∷◌}
use Rattle.screen_number.specs.Number.{bytes, hex, glyph}
use Rattle.screen_text.specs.Escape.{quote, within, control, control2, formless_e2, formless_ef, formless, hidden, marked, escaped}
use Rattle.screen_text.specs.Escape.{before}
use Rattle.screen_text.specs.Escape.{shown_at, part, quoted}

unfoldable shown : ℕ
unfolding bytes hex glyph within control control2 formless_e2 formless_ef formless hidden marked escaped before shown_at part quoted
shown = 0

-- a quote and a backslash; U+001F, a blank, a letter, U+007E and U+007F
marks : quoted (34 ∷ 92 ∷ []) ≡ bytes "\"\\\"\\\\\""
unfolding shown
marks = refl

controls : quoted (0x1F ∷ 0x20 ∷ 0x41 ∷ 0x7E ∷ 0x7F ∷ []) ≡ bytes "\"\\x1f A~\\x7f\""
unfolding shown
controls = refl

-- U+0080 and U+009F; U+00A0
more-controls : quoted (0xC2 ∷ 0x80 ∷ 0xC2 ∷ 0x9F ∷ []) ≡ bytes "\"\\xc2\\x80\\xc2\\x9f\""
unfolding shown
more-controls = refl

beside-controls : quoted (0xC2 ∷ 0xA0 ∷ []) ≡ quote ∷ 0xC2 ∷ 0xA0 ∷ quote ∷ []
unfolding shown
beside-controls = refl

-- U+200A, and U+2010
beside-joiners : quoted (0xE2 ∷ 0x80 ∷ 0x8A ∷ 0xE2 ∷ 0x80 ∷ 0x90 ∷ []) ≡ quote ∷ 0xE2 ∷ 0x80 ∷ 0x8A ∷ 0xE2 ∷ 0x80 ∷ 0x90 ∷ quote ∷ []
unfolding shown
beside-joiners = refl

-- U+200B to U+200F
joiners : quoted (0xE2 ∷ 0x80 ∷ 0x8B ∷ 0xE2 ∷ 0x80 ∷ 0x8F ∷ []) ≡ bytes "\"\\xe2\\x80\\x8b\\xe2\\x80\\x8f\""
unfolding shown
joiners = refl

-- U+2027, and U+202F
beside-turns : quoted (0xE2 ∷ 0x80 ∷ 0xA7 ∷ 0xE2 ∷ 0x80 ∷ 0xAF ∷ []) ≡ quote ∷ 0xE2 ∷ 0x80 ∷ 0xA7 ∷ 0xE2 ∷ 0x80 ∷ 0xAF ∷ quote ∷ []
unfolding shown
beside-turns = refl

-- U+2028 to U+202E, which break a line or turn it
turns : quoted (0xE2 ∷ 0x80 ∷ 0xA8 ∷ 0xE2 ∷ 0x80 ∷ 0xAE ∷ []) ≡ bytes "\"\\xe2\\x80\\xa8\\xe2\\x80\\xae\""
unfolding shown
turns = refl

-- U+205F, and U+2070
beside-signs : quoted (0xE2 ∷ 0x81 ∷ 0x9F ∷ 0xE2 ∷ 0x81 ∷ 0xB0 ∷ []) ≡ quote ∷ 0xE2 ∷ 0x81 ∷ 0x9F ∷ 0xE2 ∷ 0x81 ∷ 0xB0 ∷ quote ∷ []
unfolding shown
beside-signs = refl

-- U+2060 to U+206F
signs : quoted (0xE2 ∷ 0x81 ∷ 0xA0 ∷ 0xE2 ∷ 0x81 ∷ 0xAF ∷ []) ≡ bytes "\"\\xe2\\x81\\xa0\\xe2\\x81\\xaf\""
unfolding shown
signs = refl

-- U+FEFF, and U+FEFE
order-mark : quoted (0xEF ∷ 0xBB ∷ 0xBF ∷ []) ≡ bytes "\"\\xef\\xbb\\xbf\""
unfolding shown
order-mark = refl

beside-order-mark : quoted (0xEF ∷ 0xBB ∷ 0xBE ∷ []) ≡ quote ∷ 0xEF ∷ 0xBB ∷ 0xBE ∷ quote ∷ []
unfolding shown
beside-order-mark = refl
