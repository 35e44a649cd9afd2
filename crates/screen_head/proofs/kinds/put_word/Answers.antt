-- A word has 25 bytes at most.
use mathlib.Core.Path.{ap}
use native.Mathlib.Omega.{arith}
use lib.ListN.{length}
use Rattle.screen_head.proofs.Words.{word-length}
use Rattle.screen_head.proofs.kinds.put_word.Goals as goal

pub put_bytes-requires : goal.put_bytes-requires
put_bytes-requires c = omega (arith, c.requires, ap length c.in-Some.ensures, word-length c.args.kind)
