-- A record behind the preamble in which no test finds anything: it is there, it fits, and the tests of its place find nothing either.
use mathlib.Core.Path.{◌≡◌}
use Prim.Native.Nat.{ℕ}
use native.Mathlib.Omega.{arith}
use mathlib.Core.Bool.{Bool, false}
use Rattle.rules.specs.Record.{Record, unknown, fragment, root, class, range, option}
use Rattle.rules.specs.Faults.{pick, Ids, record_fault, fragment_fault}
use Rattle.facts.proofs.Faults.{pick-false, pick-zero, fragment-zero}

pub record Sound (b s : Bool) (m : ℕ) : Type 0 where
  pub there : b ≡ false
  pub fits : s ≡ false
  pub later : m ≡ 0

plain-sound : (b s : Bool) (m : ℕ) → pick b 3 (pick s 3 m) ≡ 0 → Sound b s m
plain-sound b s m h =
    let k = pick-zero b 2 (pick s 3 m) h in
    record { there = pick-false b 2 _ h; fits = pick-false s 2 _ k; later = pick-zero s 2 _ k }

pub no-fault : (b s : Bool) (q : Ids) (r : Record) (m : ℕ) → pick b 3 (record_fault s q r m) ≡ 0 → Sound b s m
unfolding record_fault
no-fault b s q unknown m h = absurd (omega (arith, pick-zero b 2 2 h))
no-fault b s q (fragment g) m h =
    let k = pick-zero b 2 (pick s 3 (fragment_fault q g m)) h in
    record { there = pick-false b 2 _ h; fits = pick-false s 2 _ k; later = fragment-zero q g m (pick-zero s 2 _ k) }
no-fault b s q (root r) m h = plain-sound b s m h
no-fault b s q (class y) m h = plain-sound b s m h
no-fault b s q (range g l i) m h = plain-sound b s m h
no-fault b s q (option n) m h = plain-sound b s m h
