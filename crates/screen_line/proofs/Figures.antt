-- Lines of a few entries, whole, each computed from the definitions, as README shows them.
use mathlib.Core.Path.{◌≡◌, refl}
use Prim.Native.Nat.{ℕ}
use mathlib.Core.List.{[], ◌∷◌}
use Rattle.screen_number.specs.Number.{bytes}
use Rattle.screen_head.specs.Head.{five}
use Rattle.screen_head.specs.Shown.{shown}
use Rattle.screen_text.specs.Escape.{within, control, control2, formless_e2, formless_ef, formless, hidden}
use Rattle.screen_text.specs.Escape.{marked, escaped, before, shown_at, part, quoted}
use Rattle.screen_meaning.specs.Meant.{meant}
use Rattle.screen_line.specs.Line.{bytes_of, clock_meaning, blob_meaning, meaning, line}

unfoldable escapes : ℕ
unfolding within control control2 formless_e2 formless_ef formless hidden marked escaped before shown_at part quoted
escapes = 0

a-signed-number : line [] 0 (five 19 536 16 18446744073709551304 3)
    ≡ bytes "signed                 536        16                  -312     3\n"
unfolding shown meant bytes_of clock_meaning blob_meaning meaning line
a-signed-number = refl

a-clock : line [] 1000000 (five 6 536 16 1060000 0) ≡ bytes
    "clock                  536        16               1060000     0  1.060000000 s\n"
unfolding shown meant bytes_of clock_meaning blob_meaning meaning line
a-clock = refl

a-float : line [] 0 (five 20 1408 32 1051372203 3)
    ≡ bytes "float                 1408        32            1051372203     3  0x1.555556p-2 ~0.333333\n"
unfolding shown meant bytes_of clock_meaning blob_meaning meaning line
a-float = refl

-- a quote, an escape and a letter
a-string : line (0 ∷ 34 ∷ 27 ∷ 65 ∷ 0 ∷ []) 0 (five 23 8 32 3 7)
    ≡ bytes "string                   8        32                     3     7  \"\\\"\\x1bA\"\n"
unfolding shown meant escapes bytes_of clock_meaning blob_meaning meaning line
a-string = refl

a-blob : line (95 ∷ 28 ∷ []) 0 (five 25 0 16 2 4) ≡ bytes "static-blob              0        16                     2     4  5f1c\n"
unfolding shown meant bytes_of clock_meaning blob_meaning meaning line
a-blob = refl
