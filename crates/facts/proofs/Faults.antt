-- Laws of the rules' tests of a record, one before the others: where none finds anything.
--
-- pick-false, pick-zero    a test before the others did not hold, and the others found nothing
-- fragment-zero            of a fragment without a fault, what comes behind its own tests found nothing
use mathlib.Core.Path.{◌≡◌, refl}
use Prim.Native.Nat.{ℕ, suc}
use native.Mathlib.Omega.{arith}
use mathlib.Core.Bool.{Bool, true, false}
use Rattle.rules.specs.Record.{Fragment, preamble, trace_class, clock_class, stream_class, event_class}
use Rattle.rules.specs.Faults.{pick, Ids, fragment_fault}

pub pick-false : (b : Bool) (n m : ℕ) → pick b (suc n) m ≡ 0 → b ≡ false
unfolding pick
pick-false true n m h = absurd (omega arith)
pick-false false n m h = refl

pub pick-zero : (b : Bool) (n m : ℕ) → pick b (suc n) m ≡ 0 → m ≡ 0
unfolding pick
pick-zero true n m h = absurd (omega arith)
pick-zero false n m h = h

pub fragment-zero : (q : Ids) (g : Fragment) (m : ℕ) → fragment_fault q g m ≡ 0 → m ≡ 0
unfolding fragment_fault
fragment-zero q (preamble v) m h = absurd (omega arith)
fragment-zero q (trace_class u l) m h = pick-zero _ 5 m h
fragment-zero q (clock_class i f) m h = pick-zero _ 6 m h
fragment-zero q (stream_class i c) m h = pick-zero _ 7 m (pick-zero _ 6 _ h)
fragment-zero q (event_class i j) m h = pick-zero _ 7 m (pick-zero _ 6 _ h)
