use Rattle.text.proofs.Characters.{Goes}
use Rattle.text.proofs.formed.Given as goal

abbrev pub invariant-loop-byte : goal.invariant-loop-byte
invariant-loop-byte l = Goes l.bytes l.byte-index l.due
