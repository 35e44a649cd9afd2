-- The starred figures of document 01 ("Figures to check against"), as one statement. Its words are those of five-word entries (02, 7).
use Rattle.std.specs.Prelude.{◌≡◌, ℕ, ◌^◌, ◌-◌, List, [], ◌∷◌, ◌++◌, ℤ, pos, neg_ℤ, Some}
use Rattle.rules.specs.declared.Order.TheVariants.{Little, Big}
use Rattle.rules.specs.declared.Entry.{Entry}
use Rattle.rules.specs.declared.Leb.TheVariants.{Value}
use Rattle.rules.specs.declared.Refusal.TheVariants.{ClockTooLarge}
use Rattle.rules.specs.Bits.{bits, signed, word}
use Rattle.rules.specs.Leb128.{leb_unsigned, leb_signed, leb_width}
use Rattle.rules.specs.Clock.{clock_after}
use Rattle.rules.specs.Place.{bit_place, byte_length, align_from}
use Rattle.rules.specs.Entry.{entry}
use Rattle.rules.specs.Verdict.{refusal_number}
use Rattle.rules.specs.Step.{State, refuse}
use Rattle.rules.specs.Field.{new_clock}
use Rattle.rules.specs.Read.{read_all, result_of}

-- "Table `01 02 | 04, 8 zeros, FF | 05, 16 zeros | 06 05 | 1C 01 00 | 12 08 00 00 FF 00` (40 bytes)"
abbrev pub table40 : List ℕ
table40 =
    0x01 ∷ 0x02
    ∷ 0x04 ∷ 0 ∷ 0 ∷ 0 ∷ 0 ∷ 0 ∷ 0 ∷ 0 ∷ 0 ∷ 0xFF
    ∷ 0x05 ∷ 0 ∷ 0 ∷ 0 ∷ 0 ∷ 0 ∷ 0 ∷ 0 ∷ 0 ∷ 0 ∷ 0 ∷ 0 ∷ 0 ∷ 0 ∷ 0 ∷ 0 ∷ 0
    ∷ 0x06 ∷ 0x05
    ∷ 0x1C ∷ 0x01 ∷ 0x00
    ∷ 0x12 ∷ 0x08 ∷ 0x00 ∷ 0x00 ∷ 0xFF ∷ 0x00
    ∷ []

abbrev pub stream1 : List ℕ
stream1 = 0x2A ∷ []

-- an entry, as the paper writes one, and the number of its class's record
abbrev pub listed : ℕ → ℕ → ℕ → ℕ → ℕ → Entry
listed k p n v m = entry k (bit_place p) n v m

abbrev pub seven : List Entry
seven =
    listed 1 0 0 0 0 ∷ listed 2 0 0 0 0 ∷ listed 3 0 8 8 0 ∷ listed 4 0 0 0 0 ∷ listed 5 0 0 0 0 ∷ listed 28 0 0 1 2 ∷ listed 18 0 8 42 3
    ∷ []

abbrev pub minus : ℕ → ℤ
minus n = neg_ℤ (pos n)

abbrev pub bytes3 : List ℕ
bytes3 = 0xAB ∷ 0xCD ∷ 0xEF ∷ []

pub record Figures : Type 0 where
  -- "32 words suffice, 31 give 40 after seven entries": "its 31 and 32 words ... speak of five-word entries from then on" (02, 7)
  pub entries-40 : (read_all table40 stream1 40).entries ≡ seven ++ (listed 7 8 0 1 0 ∷ [])
  pub result-40 : result_of (read_all table40 stream1 40) ≡ record { number = 0; entries = 8; place = 8; first = 0; second = 0 }
  pub entries-39 : (read_all table40 stream1 39).entries ≡ seven
  pub result-39 : result_of (read_all table40 stream1 39) ≡ record { number = 40; entries = 7; place = 8; first = 0; second = 0 }
  -- "12 bits twice from `AB CD EF`: little 3499, 3836; big 2748, 3567"
  pub little-1 : bits Little bytes3 0 12 ≡ 3499
  pub little-2 : bits Little bytes3 12 12 ≡ 3836
  pub big-1 : bits Big bytes3 0 12 ≡ 2748
  pub big-2 : bits Big bytes3 12 12 ≡ 3567
  -- "`E5 8E 26` unsigned 624485"
  pub leb-unsigned : leb_unsigned (0xE5 ∷ 0x8E ∷ 0x26 ∷ []) ≡ Value 624485 (byte_length 3)
  -- "`C0 BB 78` signed -123456"
  pub leb-signed : leb_signed (0xC0 ∷ 0xBB ∷ 0x78 ∷ []) ≡ Value (word (minus 123456)) (byte_length 3)
  -- "`80 00` is 0 with L 14"
  pub leb-padded : leb_unsigned (0x80 ∷ 0x00 ∷ []) ≡ Value 0 (byte_length 2)
  pub leb-bits : leb_width (byte_length 2) ≡ 14
  -- "Clock 250, L 8, stamp 5: 261. Clock 261, stamp 5: 261."
  pub clock-turned : clock_after 250 8 5 ≡ Some 261
  pub clock-same : clock_after 261 8 5 ≡ Some 261
  -- "Clock 5, L 64, stamp 4: 36. L 70 the same."
  pub clock-64 : (s : State) → new_clock 64 (clock_after 5 64 4) s ≡ refuse ClockTooLarge s
  pub clock-70 : (s : State) → new_clock 70 (clock_after 5 70 4) s ≡ refuse ClockTooLarge s
  pub clock-number : refusal_number ClockTooLarge ≡ 36
  -- "Offset 1 aligned to 8 is 8; 8 stays 8."
  pub align-1 : align_from 0 8 1 ≡ 8
  pub align-8 : align_from 0 8 8 ≡ 8
  -- "Four bits 1000 signed is -8."
  pub signed-4 : signed 0b1000 4 ≡ minus 8
  pub signed-4-word : word (minus 8) ≡ 2 ^ 64 - 8
