-- By the number of bits.
use Prim.Native.Nat.{◌/◌, ◌%◌}
use Rattle.screen_meaning.specs.Float.{binary32, binary64}
use Rattle.screen_meaning.proofs.Forms.{float-32, float-64}
use Rattle.screen_number.proofs.Laid.{laid, shown-as}
use Rattle.screen_meaning.proofs.float.put_float.Goals as goal

pub returns-then-bits-eq32 : goal.returns-then-bits-eq32
returns-then-bits-eq32 c =
    let all = shown-as
    (laid c.args.out.now c.put_binary32.new.out c.args.at c.put_binary32.result
    (binary32 (c.args.value / 2147483648 % 2) (c.args.value / 8388608 % 256) (c.args.value % 8388608))
    (c.put_binary32.ensures.value, c.put_binary32.ensures.out_after))
    (float-32 c.args.bits c.args.value c.if-bits-eq32.true) in
    record { value = all.end; out_after = all.list }

pub returns : goal.returns
returns c =
    let all = shown-as
    (laid c.args.out.now c.put_binary64.new.out c.args.at c.put_binary64.result
    (binary64 (c.args.value / 9223372036854775808 % 2) (c.args.value / 4503599627370496 % 2048) (c.args.value % 4503599627370496))
    (c.put_binary64.ensures.value, c.put_binary64.ensures.out_after))
    (float-64 c.args.bits c.args.value c.if-bits-eq32.false) in
    record { value = all.end; out_after = all.list }
