-- The slot that a sound class sets.
use mathlib.Core.Path.{◌≡◌, subst}
use Prim.Native.Nat.{ℕ, ◌-◌, ◌≤◌, ◌<◌}
use native.Mathlib.Omega.{arith}
use mathlib.Core.Bool.{false, true, not}
use mathlib.Core.Logic.{◌⊎◌, inl, inr}
use lib.Dec.{ltb, eqb}
use borrow.Author.Tests.{ltb-true, ltb-false, lt-ltb, le-ltb, not-false}
use Rattle.rules.specs.Limits.{slot_count, packet_slot_count, no_slot}
use Rattle.rules.specs.Record.{Says}
use Rattle.rules.specs.Faults.{out, bad_slot}
use Rattle.facts.proofs.Truth.{or-false, or-true}

-- the slots that a root's fields may set: an event's none of the packet's, and a packet's none of an event's
abbrev pub SetUnder : ℕ → ℕ → Type 0
SetUnder r i = (2 ≤ r → packet_slot_count ≤ i) × (r < 2 → (i < packet_slot_count) ⊎ (slot_count ≤ i))

pub slot-in : (r : ℕ) (y : Says) → bad_slot (ltb r 2) y ≡ false → SetUnder r y.sets
unfolding bad_slot out
slot-in r y h = (event, packet)
  where
    event : 2 ≤ r → packet_slot_count ≤ y.sets
    event g =
        let k : bad_slot false y ≡ false = subst (λ b. bad_slot b y ≡ false) (le-ltb r 2 g) h in
        ltb-false y.sets packet_slot_count (or-false (eqb y.reads no_slot) (ltb y.sets packet_slot_count) k).1

    packet : r < 2 → (y.sets < packet_slot_count) ⊎ (slot_count ≤ y.sets)
    packet g =
        let k : bad_slot true y ≡ false = subst (λ b. bad_slot b y ≡ false) (lt-ltb r 2 g) h in
        let o = not-false _ (or-false (ltb (packet_slot_count - 1) y.reads) (not (out packet_slot_count (no_slot - 1) y.sets)) k).1 in
        or-true (ltb y.sets packet_slot_count) (ltb (no_slot - 1) y.sets) o
        (λ b. inl (ltb-true y.sets packet_slot_count b))
        (λ b. inr (omega (arith, ltb-true (no_slot - 1) y.sets b)))
