-- Each stream has its room behind those before, and each list too.
use Rattle.std.proofs.Common.{◌≡◌, ◌*◌, ◌≤◌, length}
use Rattle.ctf.proofs.cut.load_streams.Given as goal

abbrev pub invariant-loop-i : goal.invariant-loop-i
invariant-loop-i l =
    (l.at ≤ 65536 * l.i)
    × (l.used ≤ length l.list)
    × (length l.streams ≡ length l.initial.streams)
    × (length l.list ≡ length l.initial.list)
    × (length l.lengths ≡ length l.initial.lengths)
    × (length l.rooms ≡ length l.initial.rooms)
