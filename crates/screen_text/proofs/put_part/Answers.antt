-- The first `shown` of the bytes are laid.
use mathlib.Core.Path.{refl, sym, ap, ◌∙◌}
use native.Mathlib.Omega.{arith}
use Prim.Native.Nat.{◌+◌}
use lib.ListN.{length, take, drop}
use lib.Seq.{sets}
use Rattle.screen_text.specs.Escape.{part, shown_at}
use Rattle.screen_number.proofs.Laid.{laid, both, then, shown-as}
use Rattle.screen_text.proofs.Texts.{part_none, part-more, part_length}
use Rattle.screen_text.proofs.put_part.Goals as goal

pub loop-shown-init : goal.loop-shown-init
loop-shown-init c =
    let a = c.args in
    let none = part_none (take a.bytes (drop a.from a.stream.now)) a.done in (
      sym (ap (λ x. a.at + length x) none ∙ omega arith),
      sym (ap (λ x. sets a.out.now a.at x) none),
      omega arith,
      refl,
    )

pub put_byte-end-requires : goal.put_byte-end-requires
put_byte-end-requires c =
    let a = c.args in record {
      at_in_bounds = omega (
        arith,
        c.requires.n_in_bounds,
        c.loop-shown-test.true,
        c.loop-shown.invariant.0,
        c.loop-shown.invariant.3,
        part_length
            (take a.bytes (drop a.from a.stream.now)) a.done c.loop-shown.shown,
      );
      bytes_in_bounds = (c.requires.bytes_in_bounds.0, omega (arith, c.requires.bytes_in_bounds, c.loop-shown-test.true));
    }

pub loop-shown-preserved : goal.loop-shown-preserved
loop-shown-preserved c =
    let a = c.args in
    let put = c.put_byte-end in
    let t = take a.bytes (drop a.from a.stream.now) in
    let i = c.loop-shown.shown in
    let so_far = laid a.out.now c.loop-shown.out a.at c.loop-shown.end (part t a.done i)
    (c.loop-shown.invariant.0, c.loop-shown.invariant.1) in
    let one = laid c.loop-shown.out put.new.out c.loop-shown.end put.result (shown_at t (a.done + i))
    (put.ensures.value, put.ensures.out_after) in
    let all = both (shown-as (then so_far one) (part-more t a.done i)) in
    (all.0, all.1, omega (arith, c.loop-shown-test.true), put.auto.out ∙ c.loop-shown.invariant.3)
