-- What the first nine bytes of a LEB128 number say of the number: that the bytes are at an end, the number's value, or that it goes on.
use Rattle.std.specs.Prelude.{◌≡◌, ℕ, ◌+◌, ◌-◌, ◌*◌, ◌^◌, ◌<◌, ◌≤◌, List, length, drop}
use Rattle.rules.specs.declared.Leb.{Leb}
use Rattle.rules.specs.declared.Leb.TheVariants.{Value, Past, Large}
use Rattle.rules.specs.Limits.{leb_limit}
use Rattle.rules.specs.Place.{byte_length}
use Rattle.rules.specs.Leb128.{sevens}
use Rattle.leb128.specs.Answer.{AllGoOn}
use Rattle.leb128.specs.declared.Nine.{Nine}
use Rattle.leb128.specs.declared.Nine.TheVariants.{Ended, Short, GoOn}

-- n bytes that go on, whose number is v, under what stands behind them
unfoldable pub under : ℕ → ℕ → Leb → Leb
under v n (Value w k) = Value (v + w * 2 ^ (7 * n)) (byte_length (n + k.0))
under v n Past = Past
under v n Large = Large

-- n bytes are passed, all go on, and their number is v
pub record Passed (bs : List ℕ) (v n : ℕ) : Type 0 where
  pub whole : sevens leb_limit bs ≡ under v n (sevens (leb_limit - n) (drop n bs))
  pub small : v < 2 ^ (7 * n)
  pub most : n ≤ 9
  pub inside : n ≤ length bs
  pub on : AllGoOn n bs

-- the number ends after n bytes and is v
pub record EndsAfter (bs : List ℕ) (v n : ℕ) : Type 0 where
  pub whole : sevens leb_limit bs ≡ Value v (byte_length n)
  pub small : v < 2 ^ (7 * n)
  pub some : 0 < n
  pub most : n ≤ 9

unfoldable pub NineSay : List ℕ → Nine → Type 0
NineSay bs (Ended v n) = EndsAfter bs v n
NineSay bs Short = sevens leb_limit bs ≡ Past
NineSay bs (GoOn v) = Passed bs v 9
