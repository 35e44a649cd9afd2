-- What the slots that a root's fields set cannot change, the root keeps: an accepted table's event roots the packet's slots, and its packet
-- roots that slots 16 to 63 are unset (11 refuses others). No other step sets a slot.
use Rattle.std.specs.Prelude.{Option}
use mathlib.Core.Path.{◌≡◌, refl, ◌∙◌, subst}
use Prim.Native.Nat.{ℕ, ◌≤◌, ◌<◌}
use native.Mathlib.Omega.{arith}
use mathlib.Core.List.{List}
use Rattle.rules.specs.declared.Content.{Content}
use Rattle.rules.specs.declared.Entry.{Entry}
use Rattle.rules.specs.declared.Refusal.{Refusal}
use Rattle.rules.specs.declared.Stop.{Stop}
use Rattle.rules.specs.Verdict.{stop_at}
use Rattle.rules.specs.Slots.{Slots, slot_at, packet_slots, set_slot}
use Rattle.rules.specs.Step.{State, Step, go, refuse_at, listed, with_slots, with_order, with_clock, with_said}
use Rattle.rules.specs.Class.{Class}
use Rattle.rules.specs.Field.{Env, field, store, say, from_slot}
use Rattle.rules.specs.Table.{Table, asked}
use Rattle.rules.specs.Packet.{read_root}
use Rattle.rules.specs.Parse.{good, parse}
use Rattle.laws.specs.Kept.{RootKeeps, LeavesUnset, KeepsSlots}
use Rattle.laws.proofs.Law.{Any, AnyRecord, FitRoot}
use Rattle.laws.proofs.Simple.{view, Simple, simple-fits}
use Rattle.laws.proofs.Triple.{Ok, Triple, then, passing, changing, refusing, refusing-at, checks, untested, untested-at, dued}
use Rattle.laws.proofs.SlotIn.{SetUnder}
use Rattle.laws.proofs.Accepted.{Tells, accepted-fits}
use Rattle.laws.proofs.SetKept.{set_keeps, set-leaves}

-- Any root

abbrev AnyEntry : Entry → Type 0
AnyEntry x = Unit {0}

abbrev AnyStop : Stop → Type 0
AnyStop v = Unit {0}

abbrev AnyRefusal : Refusal → Type 0
AnyRefusal r = Unit {0}

-- P of the slots is kept where a slot of S is set
module _ (P : Slots → Type 0) (S : ℕ → Type 0) (set-kept : (l : Slots) (i : ℕ) (x : Content) → S i → P l → P (set_slot l i x)) where
  abbrev Has : State → Type 0
  Has s = P s.slots

  abbrev Keeps : Step → Type 0
  Keeps m = Triple AnyEntry AnyStop AnyRefusal Has m Has

  stops : (r : Refusal) → AnyRefusal r → (s : State) → Has s → AnyStop (stop_at r s.place)
  stops r i s h = tt

  keeps-simple : (e : Env) → Simple e AnyRecord S Keeps Keeps
  unfolding refuse_at from_slot field listed store say with_slots with_order with_clock with_said
  keeps-simple e = record {
    seq = λ a b. then AnyEntry AnyStop AnyRefusal a b;
    seqʳ = λ a b. then AnyEntry AnyStop AnyRefusal a b;
    narrow = λ a. a;
    dueʳ = λ a. dued AnyEntry AnyStop AnyRefusal stops tt a;
    passes = passing AnyEntry AnyStop AnyRefusal;
    refuses = λ r small. refusing AnyEntry AnyStop AnyRefusal stops r tt;
    checks = λ t r small. checks AnyEntry AnyStop AnyRefusal stops _ r tt;
    checksʳ = λ t r small a. untested AnyEntry AnyStop AnyRefusal stops _ r tt a;
    refuses_past = refusing-at AnyEntry AnyStop AnyRefusal _ _ (λ s h. tt);
    checks_pastʳ = λ t a. untested-at AnyEntry AnyStop AnyRefusal _ _ (λ s h. tt) _ a;
    refuses_large = record { at = λ s h. (tt, tt) };
    looks = λ f a. record { at = λ s h. (a (view s)).at s h };
    looksʳ = λ f a. record { at = λ s h. (a (view s)).at s h };
    slots = λ i f a. record { at = λ s h. (a (slot_at s.slots i)).at s h };
    fields = λ m k a n v g z l. record { at = λ s h. ((tt, tt), h) };
    clocked = λ l c. record { at = λ s h. ((tt, tt), h) };
    stores = λ i x w. changing AnyEntry AnyStop AnyRefusal _ (λ s h. set-kept s.slots i x w h);
    orders = λ o. changing AnyEntry AnyStop AnyRefusal _ (λ s h. h);
    clocks = λ c. changing AnyEntry AnyStop AnyRefusal _ (λ s h. h);
    says = λ f. changing AnyEntry AnyStop AnyRefusal _ (λ s h. h);
  }

  root-keeps : (c : Option Class) → FitRoot Any S Any c → (e : Env) (m : ℕ) (s : State) (es : List Entry) (s' : State)
      → read_root e m c s ≡ go es s'
      → P s.slots → P s'.slots
  root-keeps c w e m s es s' g h = (subst (Ok AnyEntry AnyStop AnyRefusal Has) g ((simple-fits e (keeps-simple e) m c w).at s h)).1

-- An event's root, and a packet's

event-root : (r : ℕ) → 2 ≤ r → (c : Option Class) → FitRoot Any (SetUnder r) Any c → RootKeeps c
event-root r h c w e m s es s' g =
    root-keeps (λ l. packet_slots l ≡ packet_slots s.slots) (SetUnder r) (λ l i x k q. set_keeps l i x (k.0 h) ∙ q) c w e m s es s' g refl

packet-root : (r : ℕ) → r < 2 → (c : Option Class) → FitRoot Any (SetUnder r) Any c → LeavesUnset c
packet-root r h c w = root-keeps (λ l. packet_slots l ≡ l) (SetUnder r) (λ l i x k q. set-leaves l i x (k.1 h) q) c w

-- An accepted table's roots

set-by : Tells Any SetUnder Any (λ x. Unit {0})
set-by = record { bits = λ n a b. tt; slots = λ r i h. h; values = λ x y g e k l. tt; on = λ x g. tt }

pub accepted-keeps : (x : List ℕ) (t : Table) (y : List ℕ) → parse x ≡ good t y → KeepsSlots (asked t)
accepted-keeps x t y p =
    let f = accepted-fits set-by x t y tt p in
    record {
      packet = packet-root 0 (omega arith) (asked t).header f.header;
      context = λ i c q. packet-root 1 (omega arith) c.context (f.context i c q);
      header = λ i c q. event-root 2 (omega arith) c.header (f.events i c q).0;
      common = λ i c q. event-root 3 (omega arith) c.common (f.events i c q).1;
      specific = λ i j d q. event-root 4 (omega arith) d.specific (f.event i j d q).0;
      payload = λ i j d q. event-root 5 (omega arith) d.payload (f.event i j d q).1;
    }
