-- The papers' limits and fixed numbers, each named once.
use Rattle.std.specs.Prelude.{ℕ}

-- "empty, or over 65,536 bytes" (Refusing a table)
abbrev pub table_limit : ℕ
table_limit = 65_536

-- "over 512 fragments of kinds 3, 4, 5" (Refusing a table)
abbrev pub fragment_limit : ℕ
fragment_limit = 512

-- "to depth 8, the root structure being depth 1" (The class table)
abbrev pub depth_limit : ℕ
depth_limit = 8

-- "stream empty or over 536,870,911 bytes" (Refusing a stream)
abbrev pub stream_limit : ℕ
stream_limit = 536_870_911

-- "length above 65,535" (Refusing a stream)
abbrev pub length_limit : ℕ
length_limit = 65_535

-- "Lent 64-bit words", five an entry (The list; 02, 7)
abbrev pub words_per_entry : ℕ
words_per_entry = 5

-- "up to sixteen streams" (02, 14)
abbrev pub bundle_limit : ℕ
bundle_limit = 16

-- "LEB128 takes at most 10 bytes" (Reading)
abbrev pub leb_limit : ℕ
leb_limit = 10

-- "there are sixty-four slots", "Slots 0 to 15 are set by packet roots" (The class table)
abbrev pub slot_count : ℕ
slot_count = 64

abbrev pub packet_slot_count : ℕ
packet_slot_count = 16

-- "255 means none where a slot is set"; "clock id, 255 none" (The class table)
abbrev pub no_slot : ℕ
no_slot = 255

abbrev pub no_clock : ℕ
no_clock = 255

-- 000 6.1, step 2
abbrev pub magic_number : ℕ
magic_number = 0xC1FC_1FC1
