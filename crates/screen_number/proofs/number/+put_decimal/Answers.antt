-- A number's last digit stands behind those of its tenth.
use Rattle.std.proofs.Common.{◌+◌, ap, arith}
use Rattle.screen_number.proofs.Laid.{one-length, one-laid, more-length, more-laid}
use Rattle.screen_number.proofs.number.+put_decimal.Goals as goal

-- One digit

pub bounds-out-at : goal.bounds-out-at
bounds-out-at t c = omega (arith, one-length c.args.n c.if-n-lt10.true, c.requires)

pub overflow_add-result : goal.overflow_add-result
overflow_add-result t c = omega (arith, one-length c.args.n c.if-n-lt10.true, c.requires)

pub returns-then-n-lt10 : goal.returns-then-n-lt10
returns-then-n-lt10 t c = record {
  value = ap (λ k. c.args.at + k) (one-length c.args.n c.if-n-lt10.true);
  out_after = one-laid c.args.n c.if-n-lt10.true _ _;
}

-- More

pub put_decimal-end-requires : goal.put_decimal-end-requires
put_decimal-end-requires t c =
    let large = c.if-n-lt10.false in
    (omega (arith, large, c.decreases), omega (arith, large, more-length c.args.n large (omega arith), c.requires))

pub bounds-out-end : goal.bounds-out-end
bounds-out-end t c =
    let put = c.put_decimal-end in
    omega (arith, put.ensures.value, put.auto.out, more-length c.args.n c.if-n-lt10.false (omega arith), c.requires)

pub overflow_add-result-2 : goal.overflow_add-result-2
overflow_add-result-2 t c =
    let put = c.put_decimal-end in
    omega (arith, put.ensures.value, put.auto.out, more-length c.args.n c.if-n-lt10.false (omega arith), c.requires)

pub returns : goal.returns
returns t c =
    let n = c.args.n in
    let large = c.if-n-lt10.false in
    let put = c.put_decimal-end.ensures in
    record {
      value = omega (arith, put.value, more-length n large (omega arith));
      out_after = more-laid n large (omega arith) _ _ _ _ put.out_after put.value;
    }
