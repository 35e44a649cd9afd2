-- The head of each kind's line once, with the word that document 01 names it by. The table of words is a definition: nothing but these,
-- and whoever reads it beside the document, holds it.
use mathlib.Core.Path.{◌≡◌, refl}
use Prim.Native.Nat.{◌-◌, ◌^◌}
use Rattle.screen_number.specs.Number.{bytes}
use Rattle.screen_head.specs.Head.{five, head}
use Rattle.screen_head.specs.Shown.{shown}

kind_1 : head (five 1 16 8 7 3) ≡ bytes "packet                  16         8                     7     3"
unfolding shown
kind_1 = refl

kind_2 : head (five 2 16 8 7 3) ≡ bytes "stream-class            16         8                     7     3"
unfolding shown
kind_2 = refl

kind_3 : head (five 3 16 8 7 3) ≡ bytes "lengths                 16         8                     7     3"
unfolding shown
kind_3 = refl

kind-4 : head (five 4 16 8 7 3) ≡ bytes "event                   16         8                     7     3"
unfolding shown
kind-4 = refl

kind-5 : head (five 5 16 8 7 3) ≡ bytes "event-class             16         8                     7     3"
unfolding shown
kind-5 = refl

kind-6 : head (five 6 16 8 7 3) ≡ bytes "clock                   16         8                     7     3"
unfolding shown
kind-6 = refl

kind-7 : head (five 7 16 8 7 3) ≡ bytes "packet-end              16         8                     7     3"
unfolding shown
kind-7 = refl

kind-8 : head (five 8 16 8 7 3) ≡ bytes "skipped                 16         8                     7     3"
unfolding shown
kind-8 = refl

kind-16 : head (five 16 16 8 7 3) ≡ bytes "bit-array               16         8                     7     3"
unfolding shown
kind-16 = refl

kind-17 : head (five 17 16 8 7 3) ≡ bytes "boolean                 16         8                     7     3"
unfolding shown
kind-17 = refl

kind-18 : head (five 18 16 8 7 3) ≡ bytes "unsigned                16         8                     7     3"
unfolding shown
kind-18 = refl

kind-19 : head (five 19 16 8 7 3) ≡ bytes "signed                  16         8                     7     3"
unfolding shown
kind-19 = refl

kind-20 : head (five 20 16 8 7 3) ≡ bytes "float                   16         8                     7     3"
unfolding shown
kind-20 = refl

kind-21 : head (five 21 16 8 7 3) ≡ bytes "leb128-unsigned         16         8                     7     3"
unfolding shown
kind-21 = refl

kind-22 : head (five 22 16 8 7 3) ≡ bytes "leb128-signed           16         8                     7     3"
unfolding shown
kind-22 = refl

kind-23 : head (five 23 16 8 7 3) ≡ bytes "string                  16         8                     7     3"
unfolding shown
kind-23 = refl

kind-24 : head (five 24 16 8 7 3) ≡ bytes "static-string           16         8                     7     3"
unfolding shown
kind-24 = refl

kind-25 : head (five 25 16 8 7 3) ≡ bytes "static-blob             16         8                     7     3"
unfolding shown
kind-25 = refl

kind-26 : head (five 26 16 8 7 3) ≡ bytes "dynamic-string          16         8                     7     3"
unfolding shown
kind-26 = refl

kind-27 : head (five 27 16 8 7 3) ≡ bytes "dynamic-blob            16         8                     7     3"
unfolding shown
kind-27 = refl

kind-28 : head (five 28 16 8 7 3) ≡ bytes "structure               16         8                     7     3"
unfolding shown
kind-28 = refl

kind-29 : head (five 29 16 8 7 3) ≡ bytes "static-array            16         8                     7     3"
unfolding shown
kind-29 = refl

kind-30 : head (five 30 16 8 7 3) ≡ bytes "dynamic-array           16         8                     7     3"
unfolding shown
kind-30 = refl

kind-31 : head (five 31 16 8 7 3) ≡ bytes "optional                16         8                     7     3"
unfolding shown
kind-31 = refl

kind-32 : head (five 32 16 8 7 3) ≡ bytes "variant                 16         8                     7     3"
unfolding shown
kind-32 = refl

-- a minus sign, as on the winter sample's line; the least number; a kind that has no word; numbers as large as there are

minus-shown : head (five 19 536 16 (2 ^ 64 - 312) 3) ≡ bytes "signed                 536        16                  -312     3"
unfolding shown
minus-shown = refl

least-shown : head (five 22 0 80 (2 ^ 63) 1) ≡ bytes "leb128-signed            0        80  -9223372036854775808     1"
unfolding shown
least-shown = refl

one-below-zero : head (five 22 8 8 (2 ^ 64 - 1) 65536) ≡ bytes "leb128-signed            8         8                    -1 65536"
unfolding shown
one-below-zero = refl

no-word-shown : head (five 99 0 0 0 0) ≡ bytes "kind-99                  0         0                     0     0"
unfolding shown
no-word-shown = refl

large-shown : head (five 1000 (2 ^ 64 - 1) (2 ^ 64 - 1) (2 ^ 64 - 1) (2 ^ 64 - 1))
    ≡ bytes "kind-1000       18446744073709551615 18446744073709551615  18446744073709551615 18446744073709551615"
unfolding shown
large-shown = refl
