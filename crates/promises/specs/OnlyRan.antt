-- No slack, of what hands no slots on: events, an event, a packet.
use Rattle.std.specs.Prelude.{ℕ, List}
use Rattle.rules.specs.Slots.{Slots}
use Rattle.rules.specs.Step.{Out, Step}
use Rattle.listing.specs.declared.Progress.{Progress}
use Rattle.outcome.specs.Ran.{RanDid, EventDid}
use Rattle.packet_read.specs.Pieces.{PacketDid}
use Rattle.promises.specs.Only.{OnlyBoth}

pub record NoSlackRan : Type 0 where
  pub ran : (o : Out) (st : Progress) (ws : List ℕ) → OnlyBoth (λ r ws'. RanDid o st r ws ws')
  pub event : (m : Step) (st : Progress) (l : Slots) (ws : List ℕ) → OnlyBoth (λ r ws'. EventDid m st l r ws ws')
  pub packet : (m : Step) (st : Progress) (ws : List ℕ) → OnlyBoth (λ r ws'. PacketDid m st r ws ws')
