-- A turn walks one fragment and its roots: the whole check is what is left of it, with the fragments so far in `seen`.
use mathlib.Core.Bool.{Bool}
use mathlib.Core.List.{List}
use mathlib.Core.Path.{◌≡◌, refl, sym, ap, ◌∙◌}
use Prim.Native.Nat.{ℕ, ◌+◌, ◌≤◌}
use native.Mathlib.Omega.{arith}
use lib.ListN.{length, take, set, length-set}
use Rattle.std.specs.Prelude.{⊤, Result, Ok}
use Rattle.std.proofs.lemmas.List.{length-take-le}
use Rattle.table_offsets.specs.Check.{latest, fragment_fault}
use Rattle.table_offsets.specs.Faults.{fault_number}
use Rattle.table_offsets.specs.Walks.{Bad}
use Rattle.table_offsets.specs.declared.faults.Fault.{Fault}
use Rattle.table_offsets.proofs.FragmentOpens.{FragmentOpens, opens, fragment-end}
use Rattle.table_offsets.proofs.Places.{latest-taken}
use Rattle.table_offsets.proofs.Rounds.{turn-none, turn-stop, turn-bad, turn-fine}
use Rattle.table_offsets.proofs.Told.{number-some, none, told, walk-fine, walk-bad}
use Rattle.check_table.proofs.check_fragments.Goals as goal

-- A fragment's test, the first n places of xs before it; one with no fault; room for its place

module _ (r : Result ⊤ Fault) (t : List ℕ) (trace : Bool) (xs : List ℕ) (n at : ℕ) (few : n ≤ 512) (size : length xs ≡ 513)
    (asked : fault_number r ≡ fragment_fault t trace (latest (take n xs) (length (take n xs))) (length (take n xs)) at) where
  tested : fault_number r ≡ fragment_fault t trace (latest xs n) n at
  tested = let l : n ≤ length xs = omega arith in rw (latest-taken xs n l, length-take-le n xs l) at asked

  opened : {x : ⊤} → r ≡ Ok x → FragmentOpens t n at
  opened fine = opens _ _ _ _ _ few 0 (sym (none tested fine)) refl

more-room : (xs : List ℕ) (n v m : ℕ) → m ≤ 512 → length xs ≡ 513 → m ≤ length (set xs n v)
more-room xs n v m few size = let l : length (set xs n v) ≡ 513 = simp length-set size in omega arith

pub loop-next-init : goal.loop-next-init
unfolding latest
loop-next-init c = (omega arith, (refl, refl))

-- The fragment

pub returns-in-Err : goal.returns-in-Err
returns-in-Err c =
    let l = c.loop-next in
    let t = tested _ _ _ l.seen l.n _ l.invariant.0 l.invariant.1.0 c.fragment_fault.ensures in
    c.refused.ensures
    ∙ turn-stop _ _ _ _ _ _ l.invariant.1.1 c.loop-next-test.true _ (sym (told t c.in-Err.is)) (number-some _)

pub overflow_add-n : goal.overflow_add-n
overflow_add-n c =
    let l = c.loop-next in
    let o = opened _ _ _ l.seen l.n _ l.invariant.0 l.invariant.1.0 c.fragment_fault.ensures c.in_default.is in
    omega (arith, o.few, c.counted-n.ensures)

-- Its roots

pub roots_of-requires : goal.roots_of-requires
roots_of-requires c =
    let l = c.loop-next in
    let o = opened _ _ _ l.seen l.n _ l.invariant.0 l.invariant.1.0 c.fragment_fault.ensures c.in_default.is in
    (c.requires.0, (omega (arith, c.requires, c.loop-next-test.true), (o.low, o.high)))

pub slice_bounds-seen-end-in-Err-roots_of : goal.slice_bounds-seen-end-in-Err-roots_of
slice_bounds-seen-end-in-Err-roots_of c =
    let l = c.loop-next in
    let o = opened _ _ _ l.seen l.n _ l.invariant.0 l.invariant.1.0 c.fragment_fault.ensures c.in_default.is in
    more-room _ _ _ _ (omega (arith, o.few, c.counted-n.ensures)) l.invariant.1.0

pub slice_bounds-lowest-end : goal.slice_bounds-lowest-end
slice_bounds-lowest-end c =
    let l = c.loop-next in
    let o = opened _ _ _ l.seen l.n _ l.invariant.0 l.invariant.1.0 c.fragment_fault.ensures c.in_default.is in
    sym (length-take-le _ _ (more-room _ _ _ _ (omega (arith, o.few, c.counted-n.ensures)) l.invariant.1.0))

pub returns-in-Err-roots_of : goal.returns-in-Err-roots_of
returns-in-Err-roots_of c =
    let l = c.loop-next in
    let t = tested _ _ _ l.seen l.n _ l.invariant.0 l.invariant.1.0 c.fragment_fault.ensures in
    let o = opened _ _ _ l.seen l.n _ l.invariant.0 l.invariant.1.0 c.fragment_fault.ensures c.in_default.is in
    let room = more-room l.seen l.n l.next (l.n + c.counted-n.result) (omega (arith, o.few, c.counted-n.ensures)) l.invariant.1.0 in
    let bad = walk-bad c.in-Err-roots_of.is ∙ ap (λ m. Bad m c.in-Err-roots_of.found.byte) (sym c.number.ensures) in
    turn-bad _ _ _ _ _ _ l.invariant.1.1 c.loop-next-test.true 0 (sym (none t c.in_default.is)) refl
    l.invariant.0 l.invariant.1.0 _ _ c.traced-trace.ensures c.counted-n.ensures _ c.roots_of.ensures _ _ _
    bad (rw (latest-taken _ _ room) at c.lowest-low.ensures)

-- The next turn

pub loop-next-smaller : goal.loop-next-smaller
loop-next-smaller c =
    let l = c.loop-next in
    let o = opened _ _ _ l.seen l.n _ l.invariant.0 l.invariant.1.0 c.fragment_fault.ensures c.in_default.is in
    let walked = sym c.roots_of.ensures ∙ walk-fine c.in-Ok.is in
    omega (arith, (fragment-end _ _ _ _ o walked).0, c.loop-next-test.true)

pub loop-next-preserved : goal.loop-next-preserved
loop-next-preserved c =
    let l = c.loop-next in
    let t = tested _ _ _ l.seen l.n _ l.invariant.0 l.invariant.1.0 c.fragment_fault.ensures in
    let o = opened _ _ _ l.seen l.n _ l.invariant.0 l.invariant.1.0 c.fragment_fault.ensures c.in_default.is in (
      omega (arith, o.few, c.counted-n.ensures),
      (
        simp length-set l.invariant.1.0,
        turn-fine _ _ _ _ _ _ l.invariant.1.1 c.loop-next-test.true 0 (sym (none t c.in_default.is)) refl
            l.invariant.0 l.invariant.1.0 _ _ c.traced-trace.ensures c.counted-n.ensures _ c.roots_of.ensures _
            (walk-fine c.in-Ok.is),
      ),
    )

pub returns : goal.returns
returns c = turn-none _ c.args.table.now _ _ _ _ c.loop-next.invariant.1.1 c.loop-next-test.false
