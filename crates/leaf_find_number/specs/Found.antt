-- Where a leaf stands and what it says, or why it is refused: "alignment, 23, then its bits or bytes" (Reading). The steps of `read` in
-- which nothing is listed yet, as numbers. Kinds 23 to 27 are in the crate leaf_find_bytes.
use Rattle.std.specs.Prelude.{ℕ, ◌+◌, ◌-◌, ◌*◌, ◌/◌, ◌%◌, ◌≤◌, List, Bool, true, false, not, ◌&&◌, ltb, eqb, take, drop, Option}
use Rattle.rules.specs.declared.BitPlace.{BitPlace}
use Rattle.rules.specs.declared.Order.{Order}
use Rattle.rules.specs.declared.Refusal.{Refusal}
use Rattle.rules.specs.declared.Refusal.TheVariants.{PastBound, OrderChanged, LebTooLarge}
use Rattle.rules.specs.declared.Leb.{Leb}
use Rattle.rules.specs.declared.Leb.TheVariants.{Value, Past, Large}
use Rattle.rules.specs.Limits.{leb_limit}
use Rattle.rules.specs.Place.{further}
use Rattle.rules.specs.Bits.{bits}
use Rattle.rules.specs.Leb128.{leb_unsigned, leb_signed}
use Rattle.rules.specs.Field.{other_order}
use Rattle.frame.specs.declared.Frame.{Frame}
use Rattle.frame.specs.Framed.{aligned_at}
use Rattle.leaf_find_number.specs.declared.Found.{Found}
use Rattle.leaf_find_number.specs.declared.Found.TheVariants.{At, Refused}

-- refused at a place, where a test holds
unfoldable pub unless : Bool → Refusal → BitPlace → Found → Found
unless true r p x = Refused p r
unless false r p x = x

-- "For 22 the place becomes the bound that would be crossed." (02, 8)
abbrev pub past_bound_of : Frame → Found
past_bound_of f = Refused f.bound PastBound

-- "alignment, bits or bytes past the bound" (22): n bits from a place on
unfoldable pub within : Frame → BitPlace → ℕ → Found → Found
within f p n x = unless (ltb f.bound.0 (p.0 + n)) PastBound f.bound x

unfoldable pub found_bits : List ℕ → Frame → BitPlace → Option Order → ℕ → Order → ℕ → Found
found_bits b f from last n o a =
    let p = aligned_at f a from in
    within f p 0
    (unless (not (eqb ((p.0 - f.start.0) % 8) 0) && other_order o last) OrderChanged from
    (within f p n (At n p (bits o b p.0 n))))

-- the whole bytes from a place to the bound
unfoldable pub bytes_ahead : List ℕ → Frame → BitPlace → List ℕ
bytes_ahead b f p = take ((f.bound.0 - p.0) / 8) (drop (p.0 / 8) b)

-- "LEB128 bits count 8 a byte". "For 24 it becomes the first bit of the byte at which the number became too long or too large" (02, 8): the
-- tenth, and no other
unfoldable pub found_leb : Frame → BitPlace → Leb → Found
found_leb f p (Value v n) = At (8 * n.0) p v
found_leb f p Past = past_bound_of f
found_leb f p Large = Refused (further p (8 * (leb_limit - 1))) LebTooLarge

unfoldable pub found_unsigned : List ℕ → Frame → BitPlace → Found
found_unsigned b f from = let p = aligned_at f 8 from in within f p 0 (found_leb f p (leb_unsigned (bytes_ahead b f p)))

unfoldable pub found_signed : List ℕ → Frame → BitPlace → Found
found_signed b f from = let p = aligned_at f 8 from in within f p 0 (found_leb f p (leb_signed (bytes_ahead b f p)))

-- either, by whether it is signed
unfoldable pub found_number : Bool → List ℕ → Frame → BitPlace → Found
found_number true b f from = found_signed b f from
found_number false b f from = found_unsigned b f from

-- a LEB128 number of ten bytes at most
unfoldable pub Short : Leb → Type 0
Short (Value v n) = n.0 ≤ 10
Short Past = Unit {0}
Short Large = Unit {0}
