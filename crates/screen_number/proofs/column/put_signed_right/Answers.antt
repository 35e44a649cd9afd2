-- The blanks that digits and sign leave, and these behind them.
use Rattle.std.proofs.Common.{◌≡◌, ◌-◌, ℕ, length, ap, ◌∙◌, arith}
use Rattle.screen_number.specs.Number.{blank, signed_decimal, times}
use Rattle.screen_number.proofs.Laid.{laid, then, shown-as, right-length, length-times, fills-right}
use Rattle.screen_number.proofs.column.put_signed_right.Goals as goal

-- How many they are
filled : {left taken : ℕ} (width n : ℕ) → left ≡ width - taken → taken ≡ length (signed_decimal n)
    → left ≡ width - length (signed_decimal n)
filled width n e f = e ∙ ap (λ k. width - k) f

pub put_times-from-requires : goal.put_times-from-requires
put_times-from-requires c =
    let a = c.args in
    omega (
      arith,
      c.requires,
      right-length a.width (signed_decimal a.word),
      filled a.width a.word c.saturating_sub-free.ensures c.signed_figures-taken.ensures,
    )

pub put_signed-requires : goal.put_signed-requires
put_signed-requires c =
    let a = c.args in
    let put = c.put_times-from in
    omega (
      arith,
      c.requires,
      right-length a.width (signed_decimal a.word),
      filled a.width a.word c.saturating_sub-free.ensures c.signed_figures-taken.ensures,
      put.ensures.value,
      put.auto.out,
      length-times c.saturating_sub-free.result blank,
    )

pub returns : goal.returns
returns c =
    let a = c.args in
    let put = c.put_times-from in
    let last = c.put_signed in
    let free = filled a.width a.word c.saturating_sub-free.ensures c.signed_figures-taken.ensures in
    let all =
    shown-as
    (then (laid a.out.now put.new.out a.at put.result (times c.saturating_sub-free.result blank) (put.ensures.value, put.ensures.out_after))
    (laid put.new.out last.new.out put.result last.result (signed_decimal a.word) (last.ensures.value, last.ensures.out_after)))
    (fills-right a.width c.saturating_sub-free.result (signed_decimal a.word) free)
    in
    record { value = all.end; out_after = all.list }
