-- The clocks of a list: each entry 6 shows the least value, not below the packet's clock before it, that ends in the stamp's bits. It
-- stands right behind the entry of its field, whose value is the stamp. And a stamp that is refused: the least value does not fit 64 bits.
use Rattle.std.specs.Prelude.{◌≡◌, ℕ, ◌+◌, ◌*◌, ◌/◌, ◌%◌, ◌^◌, ◌<◌, ◌≤◌, List, [], ◌∷◌, ◌++◌, true, false, eqb}
use Rattle.rules.specs.declared.Entry.{Entry}
use Rattle.rules.specs.Entry.{packet_starts, clock_advanced}
use Rattle.clock.specs.Least.{Least}

-- the packet's clock behind an entry, where it was c in front: 0 where a packet starts, and what an entry 6 shows
unfoldable pub clock_behind : ℕ → Entry → ℕ
clock_behind c e =
    elim (eqb e.kind packet_starts) [ true ↦ 0 | false ↦ elim (eqb e.kind clock_advanced) [ true ↦ e.value | false ↦ c ] ]

-- and behind a list
unfoldable pub clocks_behind : ℕ → List Entry → ℕ
clocks_behind c [] = c
clocks_behind c (e ∷ es) = clocks_behind (clock_behind c e) es

-- the bits of the stamp that a field's entry shows: "L the field's bits (7 times its bytes for LEB128)"; of LEB128 numbers kind 21 may be a
-- stamp
unfoldable pub stamp_bits : Entry → ℕ
stamp_bits p = elim (eqb p.kind 21) [ true ↦ 7 * (p.bits / 8) | false ↦ p.bits ]

-- an entry 6, where the packet's clock is c in front and the entry right before it is p: "place after the field, L, clock"
pub record Ticks (c : ℕ) (p e : Entry) : Type 0 where
  pub place : e.place.0 ≡ p.place.0 + p.bits
  pub bits : e.bits ≡ stamp_bits p
  pub least : Least c e.bits (p.value % 2 ^ e.bits) e.value
  pub fits : e.value < 2 ^ 64

-- every entry 6 of a list, from a clock c and behind an entry p
abbrev pub Ticking : ℕ → Entry → List Entry → Type 0
Ticking c p [] = Unit {0}
Ticking c p (e ∷ es) = (e.kind ≡ clock_advanced → Ticks c p e) × Ticking (clock_behind c e) e es

-- A stamp that is refused, behind a list and at a place: the list's last entry is the stamp's field, the place is behind it, and the least
-- value, not below the packet's clock, that ends in the stamp's bits needs more than 64 bits
pub record NeedsMore (es : List Entry) (place : ℕ) : Type 0 where
  pub before : List Entry
  pub stamp : Entry
  pub last : es ≡ before ++ (stamp ∷ [])
  pub field : (16 ≤ stamp.kind) × (stamp.kind ≤ 32)
  pub behind : place ≡ stamp.place.0 + stamp.bits
  pub clock : ℕ
  pub least : Least (clocks_behind 0 es) (stamp_bits stamp) (stamp.value % 2 ^ stamp_bits stamp) clock
  pub past : 2 ^ 64 ≤ clock
