-- The tests of the definition, in its order.
use mathlib.Core.Path.{◌≡◌, refl, sym, ◌∙◌}
use mathlib.Core.Bool.{true, false}
use native.Mathlib.Omega.{arith}
use lib.Dec.{eqb, ltb}
use borrow.Author.Tests.{lt-ltb, le-ltb, le-leb, lt-leb, eq-eqb, ne_eqb}
use Rattle.rules.specs.Limits.{words_per_entry}
use Rattle.rules.specs.Record.{u8}
use Rattle.leaf_read.specs.Leaves.{leaves_end}
use Rattle.leaf_read.proofs.ends.Goals as goal
use Rattle.leaf_read.proofs.ends.Lts as lts
use Rattle.leaf_read.proofs.ends.Tie as tie
use Rattle.leaf_read.proofs.ends.Reads as reads

-- Places of the code: some are left to do; the list is full, or it has room

abbrev AtSome : Type 0
AtSome = lts.Else1 tie.the-claims reads.Pre reads.Post

abbrev AtFull : Type 0
AtFull = lts.Then2 tie.the-claims reads.Pre reads.Post

abbrev AtRoom : Type 0
AtRoom = lts.Else2 tie.the-claims reads.Pre reads.Post

-- The way back

abbrev given : AtSome → lts.Start tie.the-claims reads.Pre reads.Post
given c = c.before.before

abbrev room-some : AtRoom → AtSome
room-some c = c.before.before

-- What is known at them

some : (c : AtSome) → eqb c.args.todo 0 ≡ false
some c = ne_eqb _ _ c.if-todo-eq0.false

full : (c : AtFull) → ltb c.args.room words_per_entry ≡ true
full c = sym c.is_full.ensures ∙ c.if-is_full.true

room : (c : AtRoom) → ltb c.args.room words_per_entry ≡ false
room c = sym c.is_full.ensures ∙ c.if-is_full.false

-- The needs

pub returns-then-todo-eq0 : goal.returns-then-todo-eq0
unfolding leaves_end
returns-then-todo-eq0 c = rw (eq-eqb _ _ c.if-todo-eq0.true, leaves_end) refl

pub returns-then-is_full : goal.returns-then-is_full
unfolding leaves_end
returns-then-is_full c = rw (some c.before.before.before, full c.before, leaves_end) refl

pub bounds-table-next : goal.bounds-table-next
bounds-table-next c =
    let s = room-some c.before.before in
    s.requires (omega (arith, s.if-todo-eq0.false))

pub returns-then-reads_or_holds : goal.returns-then-reads_or_holds
unfolding leaves_end u8
returns-then-reads_or_holds c =
    let r = c.before.before.before in
    rw (some (room-some r), room r, le-leb _ _ c.if-reads_or_holds.true, leaves_end) refl

pub returns-then-sets_slot : goal.returns-then-sets_slot
unfolding leaves_end u8
returns-then-sets_slot c =
    let r = c.before.before.before.before in
    rw (some (room-some r), room r, lt-leb _ _ c.if-reads_or_holds.false, lt-ltb _ _ c.if-sets_slot.true, leaves_end) refl

pub returns : goal.returns
unfolding leaves_end u8
returns c =
    let r = c.before.before.before.before in
    rw (some (room-some r), room r, lt-leb _ _ c.if-reads_or_holds.false, le-ltb _ _ c.if-sets_slot.false, leaves_end) refl
