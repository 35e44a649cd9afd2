-- UTF-8 from its other side: section 3 of RFC 3629, by numbers, where `utf8` is section 4, by rows.
use Rattle.std.specs.Prelude.{ℕ, ◌+◌, ◌/◌, ◌%◌, ◌^◌, ◌≤◌, ◌≡◌, List, [], ◌∷◌, ◌++◌, true, cond, leb, get_or}
use Rattle.rules.specs.Text.{utf8}

-- "characters from the U+0000..U+10FFFF range"; "prohibits encoding character numbers between U+D800 and U+DFFF"
pub record Scalar (c : ℕ) : Type 0 where
  pub in-range : c ≤ 0x10FFFF
  pub no_surrogate : 0xD800 ≤ c → c ≤ 0xDFFF → ⊥

-- each number of a list is one; behind its end stands 0, and that is one too
abbrev pub Scalars : List ℕ → Type 0
Scalars cs = (i : ℕ) → Scalar (get_or cs i 0)

-- 10xxxxxx: the lowest six bits of a number
unfoldable pub six : ℕ → ℕ
six n = 0x80 + n % 2 ^ 6

-- "Determine the number of octets required from the character number": to 7F, to 7FF, to FFFF and above.
-- "Prepare the high-order bits": 0xxxxxxx, 110xxxxx, 1110xxxx or 11110xxx first. "Fill in the bits marked x": six each, from the last on
unfoldable pub encode_one : ℕ → List ℕ
encode_one c =
    cond (leb c 0x7F) (c ∷ [])
    (cond (leb c 0x7FF) ((0xC0 + c / 2 ^ 6) ∷ six c ∷ [])
    (cond (leb c 0xFFFF) ((0xE0 + c / 2 ^ 12) ∷ six (c / 2 ^ 6) ∷ six c ∷ [])
    ((0xF0 + c / 2 ^ 18) ∷ six (c / 2 ^ 12) ∷ six (c / 2 ^ 6) ∷ six c ∷ [])))

-- numbers, one behind the other
unfoldable pub encoded : List ℕ → List ℕ
encoded [] = []
encoded (c ∷ cs) = encode_one c ++ encoded cs

-- bytes that are scalar values, encoded
pub record Encodes (bytes : List ℕ) : Type 0 where
  pub values : List ℕ
  pub scalars : Scalars values
  pub same : encoded values ≡ bytes

-- `utf8` holds of what is encoded of scalar values, and of nothing else; and no two lists are encoded as one
pub record TextIs : Type 0 where
  pub sound : (cs : List ℕ) → Scalars cs → utf8 (encoded cs) ≡ true
  pub complete : (bytes : List ℕ) → utf8 bytes ≡ true → Encodes bytes
  pub once : (cs ds : List ℕ) → encoded cs ≡ encoded ds → cs ≡ ds
