-- The classes' notes first, by which the fragments' are made; then the numbers, into the classes' words.
use native.Mathlib.Omega.{arith}
use Rattle.facts.specs.Bytes.{Bytes}
use Rattle.class_layout.specs.Notes.{notes}
use Rattle.class_layout.proofs.Asked.{checked-accepts}
use Rattle.class_layout.proofs.Written.{first-pass, all-passes}
use Rattle.class_notes.proofs.prepare.Goals as goal

-- The classes

pub note_classes-requires : goal.note_classes-requires
note_classes-requires c =
    let k = checked-accepts c.args.table.now _ c.requires.table_value in
    (c.requires.table_in_bounds.0, c.requires.table_in_bounds.1, k.limit, omega (arith, k.first))

-- The fragments

pub note_fragments-requires : goal.note_fragments-requires
note_fragments-requires c =
    let a = c.args in
    let t = a.table.now in
    let p = c.requires.table_in_bounds in
    let k = checked-accepts t _ c.requires.table_value in
    let bytes : Bytes t = λ i. omega (arith, c.type_inv.table i) in
    let n = first-pass t (notes a.sizes.now a.aligns.now) bytes p.0 p.1 c.note_classes.ensures in
    (k.fragments, n.0, k.limit, n.1)

-- The numbers

pub note_numbers-requires : goal.note_numbers-requires
note_numbers-requires c =
    let a = c.args in
    let t = a.table.now in
    let p = c.requires.table_in_bounds in
    let bytes : Bytes t = λ i. omega (arith, c.type_inv.table i) in
    let n = first-pass t (notes a.sizes.now a.aligns.now) bytes p.0 p.1 c.note_classes.ensures in
    (n.2, (checked-accepts t _ c.requires.table_value).limit)

pub returns : goal.returns
returns c =
    let a = c.args in
    let t = a.table.now in
    let p = c.requires.table_in_bounds in
    let bytes : Bytes t = λ i. omega (arith, c.type_inv.table i) in
    all-passes t (notes a.sizes.now a.aligns.now) bytes p.0 p.1 c.note_classes.ensures (checked-accepts t _ c.requires.table_value)
    c.note_fragments.ensures c.note_numbers.ensures
