-- The word, and blanks up to the column's width.
use mathlib.Core.Path.{ap, ◌∙◌}
use Prim.Native.Nat.{◌-◌}
use native.Mathlib.Omega.{arith}
use Rattle.screen_number.specs.Number.{blank, times}
use Rattle.screen_head.specs.Kinds.{word}
use Rattle.screen_number.proofs.Laid.{laid, then, shown-as}
use Rattle.screen_head.proofs.Words.{word-length}
use Rattle.screen_head.proofs.Columns.{left-fills}
use Rattle.screen_head.proofs.put_kind.Goals as goal

pub put_times-requires : goal.put_times-requires
put_times-requires c =
    let put = c.put_word-end in
    omega (arith, c.requires, put.ensures.value, put.auto.out, word-length c.args.kind, c.saturating_sub-blanks.ensures)

pub returns : goal.returns
returns c =
    let a = c.args in
    let put = c.put_word-end in
    let more = c.put_times in
    let n = c.saturating_sub-blanks.result in
    let all = shown-as
    (then
    (laid a.out.now put.new.out a.at put.result (word a.kind) (put.ensures.value, put.ensures.out_after))
    (laid put.new.out more.new.out put.result more.result (times n blank) (more.ensures.value, more.ensures.out_after)))
    (left-fills 15 n (word a.kind) (c.saturating_sub-blanks.ensures ∙ ap (λ k. 15 - k) (omega (arith, put.ensures.value)))) in
    record { value = all.end; out_after = all.list }
