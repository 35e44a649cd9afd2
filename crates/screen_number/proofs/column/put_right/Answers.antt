-- The blanks that the digits leave, and the digits behind them.
use Rattle.std.proofs.Common.{◌≡◌, ◌-◌, ℕ, length, ap, ◌∙◌, arith}
use Rattle.screen_number.specs.Number.{blank, decimal, times}
use Rattle.screen_number.proofs.Laid.{laid, then, shown-as, right-length, length-times, fills-right}
use Rattle.screen_number.proofs.column.put_right.Goals as goal

-- How many they are
filled : {left taken : ℕ} (width n : ℕ) → left ≡ width - taken → taken ≡ length (decimal n) → left ≡ width - length (decimal n)
filled width n e f = e ∙ ap (λ k. width - k) f

pub put_times-from-requires : goal.put_times-from-requires
put_times-from-requires c =
    let a = c.args in
    omega (arith, c.requires, right-length a.width (decimal a.n), filled a.width a.n c.saturating_sub-blanks.ensures c.figures-taken.ensures)

pub put_decimal-requires : goal.put_decimal-requires
put_decimal-requires c =
    let a = c.args in
    let put = c.put_times-from in
    omega (
      arith,
      c.requires,
      right-length a.width (decimal a.n),
      filled a.width a.n c.saturating_sub-blanks.ensures c.figures-taken.ensures,
      put.ensures.value,
      put.auto.out,
      length-times c.saturating_sub-blanks.result blank,
    )

pub returns : goal.returns
returns c =
    let a = c.args in
    let put = c.put_times-from in
    let last = c.put_decimal in
    let all =
    shown-as
    (then (laid a.out.now put.new.out a.at put.result (times c.saturating_sub-blanks.result blank) (put.ensures.value, put.ensures.out_after))
    (laid put.new.out last.new.out put.result last.result (decimal a.n) (last.ensures.value, last.ensures.out_after)))
    (fills-right a.width c.saturating_sub-blanks.result (decimal a.n) (filled a.width a.n c.saturating_sub-blanks.ensures c.figures-taken.ensures))
    in
    record { value = all.end; out_after = all.list }
