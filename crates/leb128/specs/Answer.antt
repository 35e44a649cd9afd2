-- What an answer means: document 01's number for it, and what it says of the bytes that it was read from.
use Rattle.std.specs.Prelude.{◌≡◌, ℕ, ◌^◌, ◌<◌, ◌≤◌, List, length, get_or}
use Rattle.facts.specs.Bytes.{Bytes}
use Rattle.rules.specs.declared.ByteLength.{ByteLength}
use Rattle.rules.specs.declared.Leb.{Leb}
use Rattle.rules.specs.declared.Leb.TheVariants.{Value, Past, Large}
use Rattle.rules.specs.declared.Refusal.TheVariants.{PastBound, LebTooLarge}
use Rattle.rules.specs.Limits.{leb_limit}
use Rattle.rules.specs.Verdict.{refusal_number}

-- 22 past the bound, 24 for too long or too large; 0 is no refusal (Refusing a stream)
unfoldable pub leb_number : Leb → ℕ
leb_number (Value v n) = 0
leb_number Past = refusal_number PastBound
leb_number Large = refusal_number LebTooLarge

-- a value is a word, and takes at least one byte, at most ten, and none that is not there
pub record ValueSays (bs : List ℕ) (v : ℕ) (n : ByteLength) : Type 0 where
  pub fits : v < 2 ^ 64
  pub some : 1 ≤ n.0
  pub most : n.0 ≤ leb_limit
  pub inside : n.0 ≤ length bs

-- the first n bytes go on
abbrev pub AllGoOn : ℕ → List ℕ → Type 0
AllGoOn n bs = (i : ℕ) → i < n → 128 ≤ get_or bs i 0

-- there is a tenth byte, and the number goes on to it
pub record TenthByte (bs : List ℕ) : Type 0 where
  pub there : leb_limit ≤ length bs
  pub reached : AllGoOn 9 bs

-- 24 is settled at the tenth byte and nowhere else: it is reached, and then it alone decides. The parameters: the answer for a list of
-- bytes, and the tenth bytes with which a number fits 64 bits
pub record SettledAtTenth (answer : List ℕ → Leb) (Fits : ℕ → Type 0) : Type 0 where
  pub reached : (bs : List ℕ) → Bytes bs → answer bs ≡ Large → TenthByte bs
  pub fits : (bs : List ℕ) → Bytes bs → TenthByte bs → Fits (get_or bs 9 0) → answer bs ≡ Large → ⊥
  pub large : (bs : List ℕ) → Bytes bs → TenthByte bs → (Fits (get_or bs 9 0) → ⊥) → answer bs ≡ Large
