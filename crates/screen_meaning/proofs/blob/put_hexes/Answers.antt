-- The first `shown` of the bytes are laid.
use mathlib.Core.Path.{◌≡◌, refl, sym, ap, ◌∙◌}
use native.Mathlib.Omega.{arith}
use Prim.Native.Nat.{◌+◌}
use lib.ListN.{length, take, drop, get_or}
use lib.Seq.{sets, length-take-le}
use Rattle.screen_number.specs.Number.{hex}
use Rattle.screen_meaning.specs.Bytes.{hexes}
use Rattle.screen_meaning.proofs.Hexes.{hexes-none, hexes-more, length-hexes, length_part, byte-of-part}
use Rattle.screen_number.proofs.Laid.{laid, both, then, shown-as}
use Rattle.screen_meaning.proofs.blob.put_hexes.Goals as goal

pub loop-shown-init : goal.loop-shown-init
loop-shown-init c =
    let none = hexes-none (take c.args.n (drop c.args.from c.args.stream.now)) in (
      sym (ap (λ x. c.args.at + length x) none ∙ omega arith),
      sym (ap (λ x. sets c.args.out.now c.args.at x) none),
      omega arith,
      refl,
    )

pub put_hex-end-requires : goal.put_hex-end-requires
put_hex-end-requires c =
    let a = c.args in
    let p = take a.n (drop a.from a.stream.now) in
    omega (
      arith,
      c.requires.n_in_bounds,
      c.loop-shown-test.true,
      c.loop-shown.invariant.0,
      c.loop-shown.invariant.3,
      length-hexes (take c.loop-shown.shown p),
      length_part a.stream.now a.from a.n c.requires.n_in_bounds_2,
      length-take-le c.loop-shown.shown p (omega (
        arith,
        c.loop-shown.invariant.2,
        length_part a.stream.now a.from a.n
            c.requires.n_in_bounds_2,
      )),
    )

pub loop-shown-preserved : goal.loop-shown-preserved
loop-shown-preserved c =
    let a = c.args in
    let p = take a.n (drop a.from a.stream.now) in
    let i = c.loop-shown.shown in
    let put = c.put_hex-end in
    let byte : c.from.result ≡ get_or p i 0 = c.from.ensures
    ∙ byte-of-part a.stream.now a.from a.n i c.loop-shown-test.true in
    let so_far = laid a.out.now c.loop-shown.out a.at c.loop-shown.end (hexes (take i p))
    (c.loop-shown.invariant.0, c.loop-shown.invariant.1) in
    let one = shown-as (laid c.loop-shown.out put.new.out c.loop-shown.end put.result (hex 2 c.from.result)
    (put.ensures.value, put.ensures.out_after)) (ap (λ b. hex 2 b) byte) in
    let all = both (shown-as (then so_far one) (hexes-more p i
    (omega (arith, c.loop-shown-test.true, length_part a.stream.now a.from a.n c.requires.n_in_bounds_2)))) in
    (all.0, all.1, omega (arith, c.loop-shown-test.true), put.auto.out ∙ c.loop-shown.invariant.3)
