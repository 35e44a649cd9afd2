-- A root that is there is one member; one that is not leaves all as it was.
use mathlib.Core.Path.{◌≡◌}
use lib.ListN.{length}
use Rattle.rules.specs.Limits.{slot_count}
use Rattle.event_turns.proofs.Looked.{one-member}
use Rattle.packet_root.proofs.Rooted.{no-root, a-root}
use Rattle.packet_root.proofs.read_root.Goals as goal
use Rattle.packet_root.proofs.read_root.Lts as lts
use Rattle.packet_root.proofs.read_root.Tie as tie
use Rattle.packet_root.proofs.read_root.Reads as reads

-- Places of the code, in its order: all is given; no root is there; one is; it was read

abbrev AtStart : Type 0
AtStart = lts.Start tie.the-claims reads.Pre reads.Post tie.handed_clauses

abbrev AtNone : Type 0
AtNone = lts.Past-After-enum_told tie.the-claims reads.Pre reads.Post tie.handed_clauses

abbrev AtRoot : Type 0
AtRoot = lts.Past-After-known_told tie.the-claims reads.Pre reads.Post tie.handed_clauses

abbrev AtRead : Type 0
AtRead = lts.After-walk_members tie.the-claims reads.Pre reads.Post tie.handed_clauses

-- The way back from each to the one before

abbrev to-start-from-none : AtNone → AtStart
to-start-from-none c = c.before.before.before.before.before.before.before

abbrev to_start : AtRoot → AtStart
to_start c = c.before.before.before.before.before.before.before

abbrev to-root : AtRead → AtRoot
to-root c = c.before.before

-- What is known at the start

slots-all : (c : AtStart) → length c.args.slots ≡ slot_count
slots-all c = c.well_formed.1.1.1.1.1.1.1.1.0.1.0.1

-- The needs

pub walk_members-requires : goal.walk_members-requires
walk_members-requires c =
    let root = c.before.before in
    let p = root.requires in
    record { whole_members = one-member _ _ _ root.in-Some.is p.root_stands; prepared = p.prepared; framed = p.framed }

pub returns-in-None : goal.returns-in-None
returns-in-None c = no-root _ _ _ _ _ _ (slots-all (to-start-from-none c.before)) c.in-None.is

pub returns-in-Some : goal.returns-in-Some
returns-in-Some c =
    let read = c.before.before.before in
    a-root _ _ _ _ _ _ read.in-Some.is read.walk_members.ensures
