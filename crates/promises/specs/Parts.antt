-- What is promised of parts of the reader. In order: bits of a stream; LEB128 numbers; the check of the class table by offsets, which is
-- the rules' own; and what a reading asks of an accepted table, all of which can be had from its bytes.
use Rattle.rules.specs.declared.TableFault.{TableFault}
use Rattle.rules.specs.declared.ByteLength.{ByteLength}
use Rattle.std.specs.Prelude.{◌≡◌, ◌⊎◌, ℕ, ◌+◌, ◌*◌, ◌≤◌, List, length, take, drop, Result}
use Rattle.facts.specs.Bytes.{Bytes}
use Rattle.rules.specs.declared.Order.{Order}
use Rattle.rules.specs.Limits.{table_limit}
use Rattle.rules.specs.Bits.{bits}
use Rattle.rules.specs.Leb128.{leb_unsigned, leb_signed}
use Rattle.rules.specs.Table.{Table, asked}
use Rattle.rules.specs.Parse.{good, parse_table, parse, checked_of, checked}
use Rattle.rules.specs.Homes.{walk}
use Rattle.leb128.specs.Answer.{SettledAtTenth}
use Rattle.table_offsets.specs.Check.{checked_at}
use Rattle.table_offsets.specs.Earlier.{fault_byte, earlier}
use Rattle.class_layout.specs.Fragments.{fragments_of, asked_at, AllFragments}

-- a number stays the same where the stream is cut k bytes in front of it, or behind it
pub record BitsCut : Type 0 where
  pub in-front : (o : Order) (s : List ℕ) (k p n : ℕ) → bits o (drop k s) p n ≡ bits o s (8 * k + p) n
  pub behind : (o : Order) (s : List ℕ) (k p n : ℕ) → p + n ≤ 8 * k → bits o (take k s) p n ≡ bits o s p n

-- 24 is settled at the tenth byte, which alone decides whether the number fits 64 bits
pub record LebSettled : Type 0 where
  pub unsigned : SettledAtTenth leb_unsigned (λ b. b ≤ 1)
  pub signed : SettledAtTenth leb_signed (λ b. (b ≡ 0) ⊎ (b ≡ 127))

pub record CheckTied : Type 0 where
  -- by offsets, as the code walks, and by trees, as the rules parse: one answer, but for the homes of slots
  pub tie : (t : List ℕ) → Bytes t → checked_at t ≡ checked_of t (parse_table t)
  -- and the rules' answer is this one or the walk's, whichever is earlier
  pub first : (t : List ℕ) → Bytes t → checked t ≡ earlier (length t) (checked_at t) (fault_byte t (walk t))
  -- and no other
  pub once : (t : List ℕ) (r s : Result ByteLength TableFault) → r ≡ checked t → s ≡ checked t → r ≡ s

-- of a table t that is accepted as T
pub record Accepts (t : List ℕ) (T : Table) : Type 0 where
  pub limit : length t ≤ table_limit
  -- each fragment's first record is there, its roots' classes stand whole, and it ends further on
  pub fragments : AllFragments t (fragments_of t)
  -- UUID, header and both lookups, by places in the bytes
  pub asks : asked T ≡ asked_at t

abbrev pub TableStands : Type 0
TableStands = (t : List ℕ) (T : Table) (y : List ℕ) → parse t ≡ good T y → Accepts t T
