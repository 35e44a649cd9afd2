-- Sign, exact form, decimals.
use mathlib.Core.Path.{ap}
use native.Mathlib.Omega.{arith}
use mathlib.Core.List.{◌++◌}
use Rattle.screen_meaning.specs.Float.{sign, exact}
use Rattle.screen_meaning.specs.Float.{decimals, finite}
use Rattle.screen_meaning.proofs.Forms.{sign-length}
use Rattle.screen_meaning.proofs.Forms.{significand-room}
use Rattle.screen_meaning.proofs.Forms.{exact-length, one_way}
use Rattle.screen_number.proofs.Laid.{laid, then, shown-as}
use Rattle.screen_meaning.proofs.float.put_finite.Goals as goal

pub put_exact-b-requires : goal.put_exact-b-requires
put_exact-b-requires c =
    record {
      at_in_bounds = omega (arith, c.requires, c.put_sign-a.ensures.value, c.put_sign-a.auto.out, sign-length c.args.p.negative);
      digits_bound = (c.requires.digits_bound.0, omega (arith, c.requires.digits_bound.1));
    }

pub put_decimals-requires : goal.put_decimals-requires
put_decimals-requires c =
    record {
      at_in_bounds = omega (
        arith,
        c.requires,
        c.put_sign-a.ensures.value,
        c.put_sign-a.auto.out,
        sign-length c.args.p.negative,
        c.put_exact-b.ensures.value,
        c.put_exact-b.auto.out,
        exact-length c.args.f.digits c.args.full
            c.args.f.bias c.args.p.raised c.args.p.fraction,
      );
      m_bound = (
        rw c.significand-m.ensures (significand-room c.args.f.unit c.args.p.raised c.args.p.fraction
            c.requires.digits_bound.1.0),
        rw (c.saturating_sub-up.ensures, c.saturating_sub-down.ensures) (one_way c.power_of-power.result c.args.f.low),
      );
    }

pub returns : goal.returns
unfolding finite
returns c =
    let all = shown-as
    (then
    (then
    (laid c.args.out.now c.put_sign-a.new.out c.args.at c.put_sign-a.result
    (sign c.args.p.negative) (c.put_sign-a.ensures.value, c.put_sign-a.ensures.out_after))
    (laid c.put_sign-a.new.out c.put_exact-b.new.out c.put_sign-a.result
    c.put_exact-b.result
    (exact c.args.f.digits c.args.full c.args.f.bias c.args.p.raised c.args.p.fraction)
    (c.put_exact-b.ensures.value, c.put_exact-b.ensures.out_after)))
    (laid c.put_exact-b.new.out c.put_decimals.new.out c.put_exact-b.result
    c.put_decimals.result
    (decimals c.args.p.negative c.significand-m.result c.saturating_sub-up.result c.saturating_sub-down.result)
    (c.put_decimals.ensures.value, c.put_decimals.ensures.out_after)))
    (ap (λ z. sign c.args.p.negative ++ exact c.args.f.digits c.args.full c.args.f.bias c.args.p.raised
    c.args.p.fraction ++ z) (cc (
      c.significand-m.ensures,
      c.saturating_sub-up.ensures,
      c.saturating_sub-down.ensures,
      c.power_of-power.ensures,
    ))) in
    record { value = all.end; out_after = all.list }
