-- Where a leaf counted in whole bytes stands and what it says, or why it is refused, as numbers.
use Rattle.rules.specs.declared.ByteLength.{ByteLength}
use Rattle.std.specs.Prelude.{ℕ, ◌+◌, ◌*◌, ◌/◌, ◌^◌, ◌<◌, List, not, take, drop, Some, None, Option}
use Rattle.rules.specs.declared.BitPlace.{BitPlace}
use Rattle.rules.specs.declared.Refusal.TheVariants.{NoZeroByte, NotText}
use Rattle.rules.specs.Text.{text_length, zero_at, is_text}
use Rattle.frame.specs.declared.Frame.{Frame}
use Rattle.leaf_find_number.specs.declared.Found.{Found}
use Rattle.leaf_find_number.specs.declared.Found.TheVariants.{At, Refused}
use Rattle.frame.specs.Framed.{aligned_at}
use Rattle.leaf_find_number.specs.Found.{unless, within, bytes_ahead}

-- a leaf that ends below what a place can be
unfoldable pub Ends : Found → Type 0
Ends (At n p v) = p.0 + n < 2 ^ 64
Ends (Refused p r) = Unit {0}

-- "must be well-formed UTF-8 as RFC 3629 says; otherwise refuse with a new number 41 at the field" (02, 1): the bytes x, from a place on
unfoldable pub of_text : List ℕ → BitPlace → Found → Found
of_text x from y = unless (not (is_text x)) NotText from y

-- from a place on, at the aligned one, in the stream b: "string 23 counts without its zero (bits include it)"
unfoldable pub found_zero : List ℕ → BitPlace → BitPlace → Option ByteLength → Found
found_zero b from p (Some n) = of_text (take n.0 (drop (p.0 / 8) b)) from (At (8 * (n.0 + 1)) p n.0)
found_zero b from p None = Refused from NoZeroByte

unfoldable pub found_string : List ℕ → Frame → BitPlace → Found
found_string b f from = let p = aligned_at f 8 from in within f p 0 (found_zero b from p (zero_at (bytes_ahead b f p)))

-- "BLOBs their byte count"
unfoldable pub found_blob : Frame → BitPlace → ℕ → Found
found_blob f from n = let p = aligned_at f 8 from in within f p 0 (within f p (8 * n) (At (8 * n) p n))

-- "Strings 24 and 26 have bits for all their bytes"
unfoldable pub found_text : List ℕ → Frame → BitPlace → ℕ → Found
found_text b f from n =
    let p = aligned_at f 8 from in
    let x = take n (drop (p.0 / 8) b) in
    within f p 0 (within f p (8 * n) (of_text x from (At (8 * n) p (text_length x))))
