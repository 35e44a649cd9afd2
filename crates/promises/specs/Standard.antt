-- The rules beside the standard (document 000): the clock's update, the alignment, the bits of a number and what is text, each as the
-- standard says it.
use Rattle.std.specs.Prelude.{◌≡◌, ℕ, ◌^◌, ◌<◌, ◌≤◌, List, Bool, length}
use Rattle.std.specs.Int.{w64}
use Rattle.std.proofs.Common.{to_z}
use Rattle.rules.specs.declared.Order.{Order}
use Rattle.rules.specs.Bits.{bits, signed, word}
use Rattle.bits.specs.Standard.{turns, unsigned_of, signed_of}
use Rattle.places.specs.Multiple.{Aligning}
use Rattle.clock.specs.Least.{NewClock}
use Rattle.text.specs.Encoding.{TextIs}

pub record AsStandard : Type 0 where
  -- 6.2.1: the update of the clock is the standard's procedure; and the least value, not below the old one, that ends in the stamp's bits
  pub clock : NewClock
  -- 6.3.1: the alignment is the standard's formula; and the least multiple that is not below
  pub aligning : Aligning
  -- 6.3.3 and 6.3.5: l turns fill the standard's array of booleans, whatever it held; its unsigned integer is the rules' number
  pub unsigned-bits : (o : Order) (s : List ℕ) (p l : ℕ) (v : List Bool) → length v ≡ l → unsigned_of (turns o s p l v l) ≡ bits o s p l
  -- 6.3.6: and its signed integer, which the list's word stands for
  pub signed-bits : (v : List Bool) → signed (unsigned_of v) (length v) ≡ signed_of v
  pub signed_word : (v n : ℕ) → 0 < n → n ≤ 64 → v < 2 ^ n → to_z w64 (word (signed v n)) ≡ signed v n
  -- 6.3.11, 6.3.12 and 6.3.14, "following UTF-8" (RFC 3629): the bytes of scalar values, encoded, are text, and no others are
  pub text : TextIs
