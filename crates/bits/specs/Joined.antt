-- Numbers of bits that stand behind one another: two as one, and a part of one.
use Rattle.std.specs.Prelude.{ℕ, ◌+◌, ◌-◌, ◌*◌, ◌/◌, ◌%◌, ◌^◌}
use Rattle.rules.specs.declared.Order.{Order}
use Rattle.rules.specs.declared.Order.TheVariants.{Little, Big}

-- n bits whose number is v, and behind them m bits whose number is w
unfoldable pub joined : Order → ℕ → ℕ → ℕ → ℕ → ℕ
joined Little v n w m = v + w * 2 ^ n
joined Big v n w m = v * 2 ^ m + w

-- of n bits whose number is v, the m bits behind the first k
unfoldable pub part : Order → ℕ → ℕ → ℕ → ℕ → ℕ
part Little v n k m = v / 2 ^ k % 2 ^ m
part Big v n k m = v / 2 ^ (n - k - m) % 2 ^ m
