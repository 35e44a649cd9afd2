-- Each turn puts an entry's line; the loop ends behind the last entry, or where the room is full.
use mathlib.Core.Path.{◌≡◌, ap, ◌∙◌}
use mathlib.Core.Bool.{true}
use Rattle.screen_list.specs.Rest.{mark_at}
use Rattle.screen_list.specs.Fill.{filled_at}
use borrow.Author.Tests.{not-true, not-false}
use native.Mathlib.Omega.{arith}
use lib.ListN.{length}
use Rattle.screen_list.proofs.Entries.{entries-most}
use Rattle.screen_list.proofs.Fills.{filling_step, filling-part, filling-end, came}
use Rattle.screen_list.proofs.fill.Goals as goal

pub put_entry-put-requires : goal.put_entry-put-requires
put_entry-put-requires c =
    let a = c.args in
    let h = c.loop-at.invariant.0 in (
      omega (arith, h.fits, h.same),
      omega (
        arith,
        c.loop-at-test.true,
        c.entries_in-count.ensures,
        entries-most (length a.list.now) a.entries,
      ),
    )

pub returns-then-not-put : goal.returns-then-not-put
returns-then-not-put c =
    let a = c.args in
    let all = came a.table.now a.stream.now a.list.now a.entries (length a.out.now) a.mark c.entries_in-count.result
    a.out.now c.put_entry-put.new.out _ c.entries_in-count.ensures
    (filling-part c.loop-at.invariant.0 c.loop-at-test.true c.put_entry-put.ensures.value c.put_entry-put.ensures.out_after
    (not-true _ c.if-not-put.true)) in
    record { value = all.0; out_after = all.1 }

pub loop-at-preserved : goal.loop-at-preserved
loop-at-preserved c = (
  filling_step c.loop-at.invariant.0 c.loop-at-test.true c.put_entry-put.ensures.value c.put_entry-put.ensures.out_after
      (not-false _ c.if-not-put.false),
  omega arith,
)

pub returns : goal.returns
returns c =
    let a = c.args in
    let last : c.max.result ≡ c.loop-at.at = omega (arith, c.max.ensures, c.loop-at.invariant.1) in
    let all = came a.table.now a.stream.now a.list.now a.entries (length a.out.now) a.mark c.entries_in-count.result
    a.out.now c.loop-at.out _ c.entries_in-count.ensures
    (filling-end c.loop-at.invariant.0 c.loop-at-test.false) in
    record {
      value = ap (λ i. filled_at (mark_at i c.loop-at.piece c.loop-at.frequency) c.loop-at.used true) last ∙ all.0;
      out_after = all.1;
    }
