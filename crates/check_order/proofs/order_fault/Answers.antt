-- By kind, and there one law for each way through the tests.
use native.Mathlib.Omega.{arith}
use Rattle.table_offsets.specs.Faults.{number, fault_number}
use Rattle.table_offsets.proofs.Ordered.{preamble-again, other-kind, trace-again, trace-late, trace-fine, clock-used, clock-fine}
use Rattle.table_offsets.proofs.Ordered.{stream-used, stream-timeless, stream-fine, stream-without, event-used, event-fine, event-without}
use Rattle.check_order.proofs.order_fault.Goals as goal

-- A trace class

pub returns-then-trace : goal.returns-then-trace
unfolding fault_number number
returns-then-trace c = trace-again _ _ _ _ _ c.byte-k.ensures c.in-2.is c.if-trace.true

pub returns-then-named : goal.returns-then-named
unfolding fault_number number
returns-then-named c =
    trace-late _ _ _ _ _ c.byte-k.ensures c.in-2.is c.if-trace.false _ c.named.ensures c.if-named.true

-- A clock class

pub returns-then-named-2 : goal.returns-then-named-2
unfolding fault_number number
returns-then-named-2 c =
    clock-used _ _ _ _ _ c.byte-k.ensures c.in-3.is _ c.named-in-3.ensures c.if-named-2.true

-- A stream class

pub returns-then-named-3 : goal.returns-then-named-3
unfolding fault_number number
returns-then-named-3 c =
    stream-used _ _ _ _ _ c.byte-k.ensures c.in-4.is _ c.named-in-4.ensures c.if-named-3.true

pub returns-then-byte : goal.returns-then-byte
unfolding fault_number number
returns-then-byte c =
    stream-timeless _ _ _ _ _ c.byte-k.ensures c.in-4.is _ c.named-in-4.ensures c.if-named-3.false
    _ c.byte.ensures c.if-byte.true

pub returns-then-named-4 : goal.returns-then-named-4
unfolding fault_number number
returns-then-named-4 c =
    stream-fine _ _ _ _ _ c.byte-k.ensures c.in-4.is _ c.named-in-4.ensures c.if-named-3.false
    _ c.byte.ensures c.if-byte.false _ c.named-in-4-2.ensures c.if-named-4.true

-- An event class

pub returns-then-named-5 : goal.returns-then-named-5
unfolding fault_number number
returns-then-named-5 c =
    event-used _ _ _ _ _ c.byte-k.ensures c.in-5.is _ c.named-in-5.ensures c.if-named-5.true

pub returns-then-named-6 : goal.returns-then-named-6
unfolding fault_number number
returns-then-named-6 c =
    event-fine _ _ _ _ _ c.byte-k.ensures c.in-5.is _ c.named-in-5.ensures c.if-named-5.false
    _ c.named-in-5-2.ensures c.if-named-6.true

-- By kind again: what each is where its tests are over

pub returns-in-1 : goal.returns-in-1
unfolding fault_number number
returns-in-1 c = preamble-again _ _ _ _ _ c.byte-k.ensures c.in-1.is

pub returns-else-named : goal.returns-else-named
unfolding fault_number number
returns-else-named c =
    trace-fine _ _ _ _ _ c.byte-k.ensures c.in-2.is c.if-trace.false _ c.named.ensures c.if-named.false

pub returns-else-named-2 : goal.returns-else-named-2
unfolding fault_number number
returns-else-named-2 c =
    clock-fine _ _ _ _ _ c.byte-k.ensures c.in-3.is _ c.named-in-3.ensures c.if-named-2.false

pub returns-else-named-4 : goal.returns-else-named-4
unfolding fault_number number
returns-else-named-4 c =
    stream-without _ _ _ _ _ c.byte-k.ensures c.in-4.is _ c.named-in-4.ensures c.if-named-3.false
    _ c.byte.ensures c.if-byte.false _ c.named-in-4-2.ensures c.if-named-4.false

pub returns-else-named-6 : goal.returns-else-named-6
unfolding fault_number number
returns-else-named-6 c =
    event-without _ _ _ _ _ c.byte-k.ensures c.in-5.is _ c.named-in-5.ensures c.if-named-5.false
    _ c.named-in-5-2.ensures c.if-named-6.false

pub returns-in_default : goal.returns-in_default
unfolding fault_number number
returns-in_default c =
    other-kind _ _ _ _ _ c.byte-k.ensures (omega arith) (omega arith) (omega arith) (omega arith) (omega arith)
