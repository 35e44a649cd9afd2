-- Where the place of a refusal is not the one at which the failing step began. "For 22 the place becomes the bound that would be crossed.
-- For 24 it becomes the first bit of the byte at which the number became too long or too large." (02, 8) The bound is told by the list
-- itself; that a number is settled at its tenth byte, and nowhere else, is `LebSettled`.
use Rattle.std.specs.Prelude.{◌≡◌, ◌⊎◌, ℕ, ◌+◌, ◌-◌, ◌*◌, ◌/◌, ◌≤◌, List, [], ◌∷◌, true, false, length, take, drop, eqb}
use Rattle.rules.specs.declared.Entry.{Entry}
use Rattle.rules.specs.declared.Leb.TheVariants.{Large}
use Rattle.rules.specs.declared.Refusal.TheVariants.{PastBound, LebTooLarge}
use Rattle.rules.specs.Limits.{leb_limit}
use Rattle.rules.specs.Leb128.{leb_unsigned, leb_signed}
use Rattle.rules.specs.Entry.{packet_starts, lengths_settled}
use Rattle.rules.specs.Verdict.{refusal_number, number_of, place_of}
use Rattle.rules.specs.Read.{read_all}
use Rattle.leb128.specs.Answer.{TenthByte}

-- "The bound is the stream's end until the packet's lengths are known, then the content's end." (Reading) What a list tells of it: the
-- place of the packet that is being read, and the bound in force
pub record Bounds : Type 0 where
  pub packet : ℕ
  pub bound : ℕ

-- behind an entry: 1 has the packet's place, 3 the content's length; `end` is the stream's end
unfoldable pub behind_entry : ℕ → Bounds → Entry → Bounds
behind_entry end z x = elim (eqb x.kind packet_starts) [
  | true ↦ record { packet = x.place.0; bound = end }
  | false ↦ elim (eqb x.kind lengths_settled) [ true ↦ record { packet = z.packet; bound = z.packet + x.value } | false ↦ z ]
]

unfoldable pub behind_entries : ℕ → Bounds → List Entry → Bounds
behind_entries end z [] = z
behind_entries end z (x ∷ es) = behind_entries end (behind_entry end z x) es

-- the bound that is in force behind the entries of a reading of the stream b
unfoldable pub in_force : List ℕ → List Entry → ℕ
in_force b es = (behind_entries (8 * length b) (record { packet = 0; bound = 8 * length b }) es).bound

-- the whole bytes of a stream from one on, up to a bound
abbrev pub bytes_from : List ℕ → ℕ → ℕ → List ℕ
bytes_from b bound i = take (bound / 8 - i) (drop i b)

-- a place is the first bit of the tenth byte of a number that does not fit
pub record AtTenth (b : List ℕ) (bound place : ℕ) : Type 0 where
  pub first : ℕ
  pub place_is : place ≡ 8 * (first + (leb_limit - 1))
  pub before : place + 8 ≤ bound
  pub large : (leb_unsigned (bytes_from b bound first) ≡ Large) ⊎ (leb_signed (bytes_from b bound first) ≡ Large)
  pub tenth : TenthByte (bytes_from b bound first)

pub record Places : Type 0 where
  pub past_bound : (x b : List ℕ) (room : ℕ) → number_of (read_all x b room).verdict ≡ refusal_number PastBound
      → place_of (read_all x b room).verdict ≡ in_force b (read_all x b room).entries
  pub too_large : (x b : List ℕ) (room : ℕ) → number_of (read_all x b room).verdict ≡ refusal_number LebTooLarge
      → AtTenth b (in_force b (read_all x b room).entries) (place_of (read_all x b room).verdict)
