-- The code's sum is the rules' own once `1 << exponent` is 2 ^ exponent, which is 64 at most.
use Prim.Native.Nat.{◌^◌, ◌≤◌}
use native.Mathlib.Omega.{arith}
use lib.Pow.{pow_pos, pow_mono}
use Rattle.facts.proofs.Numbers.{one_shl}
use Rattle.rules.specs.Place.{round_up, align_from}
use Rattle.places.proofs.Multiple.{align_fits}
use Rattle.places.proofs.aligned.Goals as goal

pub overflow_sub-result-2 : goal.overflow_sub-result-2
overflow_sub-result-2 c = omega (arith, one_shl c.args.exponent (omega arith), pow_pos c.args.exponent)

pub overflow_add-result : goal.overflow_add-result
overflow_add-result c =
    let unit : 2 ^ c.args.exponent ≤ 2 ^ 6 = pow_mono {i = c.args.exponent} {j = 6} (omega arith) in
    omega (arith, one_shl c.args.exponent (omega arith))

pub nonzero_div-result : goal.nonzero_div-result
nonzero_div-result c = rw (one_shl c.args.exponent (omega arith)) (pow_pos _)

pub overflow_mul-result : goal.overflow_mul-result
unfolding align_from round_up
overflow_mul-result c =
    rw (one_shl c.args.exponent (omega arith))
    (omega (arith, align_fits c.args.start c.args.exponent c.args.place (omega arith) (omega arith) (omega arith)))

pub overflow_add-result-2 : goal.overflow_add-result-2
unfolding align_from round_up
overflow_add-result-2 c = rw (one_shl c.args.exponent (omega arith)) (record {
  fits = align_fits c.args.start c.args.exponent c.args.place (omega arith) (omega arith) (omega arith);
})

pub returns : goal.returns
unfolding align_from round_up
returns c = rw (one_shl c.args.exponent (omega arith))
