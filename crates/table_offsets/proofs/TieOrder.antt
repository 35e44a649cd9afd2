-- Numbers 4 to 8: the rules' test of a record with the ids seen is the test at a byte with the places of the fragments seen. So the
-- rules' number of a record, wherever it stands, is `lowest` of what it has there.
use mathlib.Core.Path.{◌≡◌, refl, sym, ◌∙◌}
use mathlib.Core.Logic.{⊎_elim}
use mathlib.Core.Bool.{Bool, true, false, not, ◌&&◌, ◌||◌}
use mathlib.Core.List.{List}
use Prim.Native.Nat.{ℕ, zero, suc, ◌+◌, ◌<◌, ◌≤◌}
use native.Mathlib.Omega.{arith}
use lib.ListN.{length}
use lib.Dec.{ltb, eqb}
use borrow.Author.Tests.{ne_eqb, lt-ltb, le-ltb}
use Rattle.facts.proofs.Numbers.{lt-or-ge}
use Rattle.rules.specs.Record.{Fragment, preamble, trace_class, clock_class, stream_class, event_class, Record, fragment, record_of, size}
use Rattle.rules.specs.Faults.{pick, Ids, fragment_fault, record_fault}
use Rattle.rules.specs.Parse.{missing}
use Rattle.table_offsets.specs.Bodies.{no_kind, body_mark}
use Rattle.table_offsets.specs.Check.{pick_n, first, byte_at, u64, head_fault, named, order_fault, lowest}
use Rattle.table_offsets.proofs.TieBytes.{Rest}
use Rattle.table_offsets.proofs.TieKinds.{Stands, nothing, a_preamble, a_trace, a_clock, a_stream}
use Rattle.table_offsets.proofs.TieKinds.{an_event, a_root, a_class, a_range, an_option, stands}
use Rattle.table_offsets.proofs.TieHead.{head-whole, head-most, record-tested, record-fault}
use Rattle.table_offsets.proofs.TieIds.{Sees}

trace-order : (a b : Bool) (m : ℕ) → pick (a || b) 6 m ≡ first (pick_n a 6 (pick_n b 6 0)) m
unfolding pick pick_n first
trace-order true b m = refl
trace-order false true m = refl
trace-order false false m = refl

clock-order : (a : Bool) (m : ℕ) → pick a 7 m ≡ first (pick_n a 7 0) m
unfolding pick pick_n first
clock-order true m = refl
clock-order false m = refl

stream-order : (a b c : Bool) (m : ℕ) → pick a 7 (pick (not b && not c) 8 m) ≡ first (pick_n a 7 (pick_n b 0 (pick_n c 0 8))) m
unfolding pick pick_n first
stream-order true b c m = refl
stream-order false true c m = refl
stream-order false false true m = refl
stream-order false false false m = refl

event-order : (a b : Bool) (m : ℕ) → pick a 7 (pick (not b) 8 m) ≡ first (pick_n a 7 (pick_n b 0 8)) m
unfolding pick pick_n first
event-order true b m = refl
event-order false true m = refl
event-order false false m = refl

class-order : (t : List ℕ) (trace : Bool) (os : List ℕ) (at k : ℕ) → 16 ≤ k → order_fault t trace os at k ≡ 0
unfolding order_fault pick_n
class-order t trace os at k h =
    rw (
      ne_eqb k 1 (λ e. omega arith),
      ne_eqb k 2 (λ e. omega arith),
      ne_eqb k 3 (λ e. omega arith),
      ne_eqb k 4 (λ e. omega arith),
      ne_eqb k 5 (λ e. omega arith),
    )

module _ (t : List ℕ) (q : Ids) (trace : Bool) (os : List ℕ) (s : Sees t q trace os) where
  pub order-tie : (at k n : ℕ) (r : Record) → Stands t at k n r → (n ≡ no_kind → ⊥) → (m : ℕ)
      → record_fault false q r m ≡ first (order_fault t trace os at k) m
  unfolding record_fault fragment_fault order_fault pick pick_n first
  order-tie at k n r nothing h m = absurd (h refl)
  order-tie at k n r a_preamble h m = refl
  order-tie at k n r a_trace h m = rw (s.traced, ← s.any at) (trace-order trace (named t 4 at 0 os) m)
  order-tie at k n r a_clock h m = rw (← s.clocks (at + 1)) (clock-order (named t 3 (at + 1) 1 os) m)
  order-tie at k n r a_stream h m =
      rw (← s.streams (at + 1), ← s.clocks (at + 9))
      (stream-order (named t 4 (at + 1) 8 os) (eqb (byte_at t (at + 9)) 255) (named t 3 (at + 9) 1 os) m)
  order-tie at k n r an_event h m =
      let e : at + 9 ≡ at + 1 + 8 = omega arith in
      rw (e, ← s.events (at + 1), ← s.streams (at + 1)) (event-order (named t 5 (at + 1) 16 os) (named t 4 (at + 1) 8 os) m)
  order-tie at k n r a_root h m = refl
  order-tie at k n r (a_class l u b e c d) h m = rw (class-order t trace os at k l)
  order-tie at k n r a_range h m = refl
  order-tie at k n r an_option h m = refl

-- a test of the numbers from 9 up that no fragment passes
pub record Late (more : Record → ℕ) : Type 0 where
  pub fragments : (g : Fragment) → more (fragment g) ≡ 9
  pub high : (r : Record) → more r < 9 → more r ≡ 0

late-order : (t : List ℕ) (trace : Bool) (os : List ℕ) (at k n : ℕ) (r : Record) (more : Record → ℕ) → Late more → Stands t at k n r
    → (n ≡ no_kind → ⊥)
    → more r ≡ 0 → order_fault t trace os at k ≡ 0
unfolding order_fault pick_n
late-order t trace os at k n r more l nothing h e = absurd (h refl)
late-order t trace os at k n r more l (a_preamble) h e = absurd (omega (arith, l.fragments (preamble (byte_at t (at + 1)))))
late-order t trace os at k n r more l (a_trace {l = u}) h e = absurd (omega (arith, l.fragments (trace_class (byte_at t (at + 1)) u)))
late-order t trace os at k n r more l a_clock h e = absurd (omega (arith, l.fragments (clock_class (byte_at t (at + 1)) (u64 t (at + 2)))))
late-order t trace os at k n r more l a_stream h e =
    absurd (omega (arith, l.fragments (stream_class (u64 t (at + 1)) (byte_at t (at + 9)))))
late-order t trace os at k n r more l an_event h e = absurd (omega (arith, l.fragments (event_class (u64 t (at + 1)) (u64 t (at + 9)))))
late-order t trace os at k n r more l a_root h e = refl
late-order t trace os at k n r more l (a_class a u b c d f) h e = class-order t trace os at k a
late-order t trace os at k n r more l a_range h e = refl
late-order t trace os at k n r more l an_option h e = refl

pub lowest-head : (t : List ℕ) (trace : Bool) (os : List ℕ) (m at : ℕ) → m < 4 → lowest t trace os m at ≡ m
unfolding lowest pick_n
lowest-head t trace os m at h = rw (lt-ltb m 4 h)

lowest-late : (t : List ℕ) (trace : Bool) (os : List ℕ) (m at : ℕ) → 4 ≤ m
    → lowest t trace os m at ≡ first (order_fault t trace os at (byte_at t at)) m
unfolding lowest pick_n
lowest-late t trace os m at h = rw (le-ltb m 4 h)

-- the rules' number of a record
pub number-tie : (t : List ℕ) (q : Ids) (trace : Bool) (os : List ℕ) → Sees t q trace os → (at : ℕ) (x : List ℕ) → Rest t at x
    → (more : Record → ℕ) → Late more
    → pick (missing x) 3 (record_fault (ltb (length x) (size x)) q (record_of x) (more (record_of x)))
    ≡ lowest t trace os (first (head_fault t at) (more (record_of x))) at
unfolding first
number-tie t q trace os s at x h more l =
    record-fault t at x h (λ short r. record_fault short q r (more (record_of x))) (record-tested q (more (record_of x)))
    ∙ by (head_fault t at) refl
  where
    late : (m : ℕ) → more (record_of x) ≡ m → head_fault t at ≡ 0
        → first (order_fault t trace os at (byte_at t at)) m ≡ lowest t trace os m at
    late m p e = ⊎_elim
        (λ (g : m < 4).
        let y = l.high (record_of x) (omega arith) in
        let z : m ≡ 0 = omega arith in
        let o = late-order t trace os at (byte_at t at) (body_mark (byte_at t at)) (record_of x) more l (stands t at x h)
        (head-whole t at e).known (omega arith) in
        rw (o, z) (sym (lowest-head t trace os 0 at (omega arith))))
        (λ (g : 4 ≤ m). sym (lowest-late t trace os m at g))
        (lt-or-ge m 4)

    by : (c : ℕ) → head_fault t at ≡ c
        → first c (record_fault false q (record_of x) (more (record_of x))) ≡ lowest t trace os (first c (more (record_of x))) at
    by zero e =
        order-tie t q trace os s at (byte_at t at) (body_mark (byte_at t at)) (record_of x) (stands t at x h) (head-whole t at e).known
        (more (record_of x))
        ∙ late (more (record_of x)) refl e
    by (suc c) e = sym (lowest-head t trace os (suc c) at (omega (arith, head-most t at)))
