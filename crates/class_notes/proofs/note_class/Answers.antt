-- By the kind: no class, or one whose size and word are stored.
use mathlib.Core.Path.{◌≡◌, refl, ap, ◌∙◌}
use Prim.Native.Nat.{ℕ}
use Rattle.rules.specs.Record.{u8}
use Rattle.class_layout.specs.Words.{word_of}
use Rattle.class_layout.specs.Notes.{notes, size_to}
use Rattle.class_layout.proofs.Reached.{note-low, note-high, note-class, not_first}
use Rattle.class_notes.proofs.note_class.Goals as goal

-- The word of an exponent and of what is set

word_same : {a b m n : ℕ} → a ≡ b → m ≡ n → word_of a m ≡ word_of b n
word_same e f = rw (e, f) refl

-- No class

pub returns-then-kind-lt-FIRST_CLASS : goal.returns-then-kind-lt-FIRST_CLASS
unfolding u8
returns-then-kind-lt-FIRST_CLASS c =
    let a = c.args in
    note-low a.table.now a.at (notes a.sizes.now a.aligns.now) c.if-kind-lt-FIRST_CLASS.true

pub returns-then-kind-gt-LAST_CLASS : goal.returns-then-kind-gt-LAST_CLASS
unfolding u8
returns-then-kind-gt-LAST_CLASS c =
    let a = c.args in
    note-high a.table.now a.at (notes a.sizes.now a.aligns.now) c.if-kind-gt-LAST_CLASS.true

-- A class: its size and its word

pub reach_of-reach-requires : goal.reach_of-reach-requires
unfolding u8
reach_of-reach-requires c =
    let p = c.requires in
    (p.at_in_bounds, p.table_in_bounds.2, c.if-kind-lt-FIRST_CLASS.false, c.if-kind-gt-LAST_CLASS.false)

pub size_to-size-requires : goal.size_to-size-requires
unfolding u8
size_to-size-requires c =
    let a = c.args in
    let p = c.requires in
    (not_first a.table.now a.at p.table_in_bounds.3 c.if-kind-lt-FIRST_CLASS.false, p.table_in_bounds.2, c.reach_of-reach.ensures.onward)

pub word_of-requires : goal.word_of-requires
word_of-requires c = c.reach_of-reach.ensures.sets.1

pub returns : goal.returns
unfolding u8
returns c =
    let r = c.reach_of-reach.ensures in
    let a = c.args in
    let t = a.table.now in
    note-class t a.at (notes a.sizes.now a.aligns.now) c.if-kind-lt-FIRST_CLASS.false c.if-kind-gt-LAST_CLASS.false
    (c.size_to-size.ensures ∙ ap (size_to t a.at) r.end) (c.word_of.ensures ∙ word_same r.align r.sets.0)
