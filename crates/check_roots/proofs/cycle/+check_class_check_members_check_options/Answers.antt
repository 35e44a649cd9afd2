-- A class with no fault has the bytes that its kind wants; each return is the law of its kind. A walk of members or options is what is
-- left of it.
use Rattle.std.specs.Prelude.{⊤, Result, Ok}
use Rattle.std.proofs.Common.{◌≡◌, ◌+◌, ◌-◌, ◌<◌, ℕ, List, length, refl, sym, ◌∙◌, arith, length-set}
use Rattle.table_offsets.specs.Check.{latest, class_fault}
use Rattle.table_offsets.specs.Faults.{fault_number, walk}
use Rattle.table_offsets.specs.declared.faults.Fault.{Fault}
use Rattle.table_offsets.specs.declared.Under.{Under}
use Rattle.table_offsets.proofs.Descent.{class-bad, on-members, on-static, on-dynamic, on-optional-bad, on-optional, on-variant, on-leaf}
use Rattle.table_offsets.proofs.Places.{latest-taken}
use Rattle.table_offsets.proofs.Sound.{Sound, sound, at-most-32, option-fine}
use Rattle.table_offsets.proofs.Told.{number-some, none, told, walk-fine, walk-bad, exit-walk}
use Rattle.table_offsets.proofs.Walked.{members-bad, members-fine, members-none}
use Rattle.table_offsets.proofs.Walked.{options-stop, options-range, options-class, options-fine, options-none}
use Rattle.check_roots.proofs.cycle.+check_class_check_members_check_options.Goals as goal

whole : {r : Result ⊤ Fault} {left at : ℕ} {u : Under} {t : List ℕ} {x : ⊤} → fault_number r ≡ class_fault u left t at → r ≡ Ok x
    → Sound u left t at
whole asked fine = sound _ _ _ _ (none asked fine)

-- The class's own fault, and its two first bytes

pub check_class-returns-in-Err : goal.check_class-returns-in-Err
unfolding walk
check_class-returns-in-Err t c =
    class-bad _ _ _ _ _ (sym (told c.class_fault.ensures c.in-Err.is)) (number-some _)

pub check_class-bounds-table-at : goal.check_class-bounds-table-at
check_class-bounds-table-at t c = (whole c.class_fault.ensures c.in_default.is).within

pub check_class-overflow_sub-deeper : goal.check_class-overflow_sub-deeper
check_class-overflow_sub-deeper t c = (whole c.class_fault.ensures c.in_default.is).level

pub check_class-overflow_add-at : goal.check_class-overflow_add-at
check_class-overflow_add-at t c = omega (arith, (whole c.class_fault.ensures c.in_default.is).within, c.requires)

pub check_class-overflow_add-at-2 : goal.check_class-overflow_add-at-2
check_class-overflow_add-at-2 t c = omega (arith, (whole c.class_fault.ensures c.in_default.is).within, c.requires)

-- What it holds: members, an element, the ranges and the class of an optional, options

pub check_class-check_members-requires : goal.check_class-check_members-requires
check_class-check_members-requires t c = (omega (arith, (whole c.class_fault.ensures c.in_default.is).level, c.decreases), c.requires)

pub check_class-check_class-requires : goal.check_class-check_class-requires
check_class-check_class-requires t c = (omega (arith, (whole c.class_fault.ensures c.in_default.is).level, c.decreases), c.requires)

pub check_class-check_class-requires-in-30 : goal.check_class-check_class-requires-in-30
check_class-check_class-requires-in-30 t c = (omega (arith, (whole c.class_fault.ensures c.in_default.is).level, c.decreases), c.requires)

pub check_class-check_class-requires-in-31 : goal.check_class-check_class-requires-in-31
check_class-check_class-requires-in-31 t c = (omega (arith, (whole c.class_fault.ensures c.in_default.is).level, c.decreases), c.requires)

pub check_class-check_options-requires : goal.check_class-check_options-requires
check_class-check_options-requires t c =
    let w = whole c.class_fault.ensures c.in_default.is in
    let most = at-most-32 _ _ c.in-32.is w.numbers in
    let second = c.wide-second.ensures.0 ∙ c.byte-2.ensures in
    (omega (arith, w.level, c.decreases), (c.requires, (omega (arith, w.within, c.requires), omega (arith, most, second))))

pub check_class-overflow_add-result : goal.check_class-overflow_add-result
check_class-overflow_add-result t c = omega (arith, (whole c.class_fault.ensures c.in_default.is).within, c.requires)

pub check_class-overflow_add-result-in_default-k : goal.check_class-overflow_add-result-in_default-k
check_class-overflow_add-result-in_default-k t c =
    omega (arith, (whole c.class_fault.ensures c.in_default.is).within, c.requires, c.wide.ensures.1)

-- The whole walk, by kind

pub check_class-returns-in-28 : goal.check_class-returns-in-28
check_class-returns-in-28 t c =
    c.check_members.ensures
    ∙ sym (on-members _ _ _ _ (none c.class_fault.ensures c.in_default.is) _ c.in-28.is (c.wide-first.ensures.0 ∙ c.byte.ensures))

pub check_class-returns-in-29 : goal.check_class-returns-in-29
check_class-returns-in-29 t c = c.check_class.ensures ∙ sym (on-static _ _ _ _ (none c.class_fault.ensures c.in_default.is) c.in-29.is)

pub check_class-returns-in-30 : goal.check_class-returns-in-30
check_class-returns-in-30 t c =
    c.check_class-in-30.ensures ∙ sym (on-dynamic _ _ _ _ (none c.class_fault.ensures c.in_default.is) c.in-30.is)

pub check_class-returns-in_err-class-in-31 : goal.check_class-returns-in_err-class-in-31
unfolding latest
check_class-returns-in_err-class-in-31 t c =
    let second = c.wide-second.ensures.0 ∙ c.byte-2.ensures in
    let bad = sym c.check_ranges.ensures ∙ walk-bad c.in_err-class-in-31.was in
    exit-walk _ _ c.from_residual.ensures.1
    ∙ sym (on-optional-bad _ _ _ _ (none c.class_fault.ensures c.in_default.is) _ _ _ c.in-31.is second bad)

pub check_class-returns-in_ok-class-in-31 : goal.check_class-returns-in_ok-class-in-31
unfolding latest
check_class-returns-in_ok-class-in-31 t c =
    let second = c.wide-second.ensures.0 ∙ c.byte-2.ensures in
    let fine = sym c.check_ranges.ensures ∙ walk-fine c.in_ok-class-in-31.was in
    c.check_class-in-31.ensures ∙ sym (on-optional _ _ _ _ (none c.class_fault.ensures c.in_default.is) _ _ c.in-31.is second fine)

pub check_class-returns-in-32 : goal.check_class-returns-in-32
check_class-returns-in-32 t c =
    let second = c.wide-second.ensures.0 ∙ c.byte-2.ensures in
    c.check_options.ensures ∙ sym (on-variant _ _ _ _ (none c.class_fault.ensures c.in_default.is) _ c.in-32.is second)

pub check_class-returns-in_default-k : goal.check_class-returns-in_default-k
unfolding walk
check_class-returns-in_default-k t c =
    let mark = c.wide.ensures.0 ∙ c.mark_of.ensures in
    let fine = none c.class_fault.ensures c.in_default.is in
    sym (on-leaf _ _ _ _ fine _ (omega arith) (omega arith) (omega arith) (omega arith) (omega arith) mark)

-- The members

pub check_members-returns-in_err-next : goal.check_members-returns-in_err-next
check_members-returns-in_err-next t c =
    let bad = walk-bad c.in_err-next.was in
    exit-walk _ _ c.from_residual.ensures.1
    ∙ members-bad _ _ _ _ c.loop.invariant (omega arith) _ c.check_class.ensures _ _ bad

pub check_members-loop-preserved : goal.check_members-loop-preserved
check_members-loop-preserved t c =
    let one : c.args.count - c.loop.counter - 1 ≡ c.args.count - (c.loop.counter + 1) = omega arith in
    let on = members-fine _ _ _ _ c.loop.invariant (omega arith) _ c.check_class.ensures _ (walk-fine c.in_ok-next.was) in
    rw one at on

pub check_members-returns : goal.check_members-returns
unfolding walk
check_members-returns t c = members-none _ _ _ _ c.loop.invariant (omega arith)

-- The options

pub check_options-loop-n-init : goal.check_options-loop-n-init
unfolding latest
check_options-loop-n-init t c =
    let e : c.args.count - 0 ≡ c.args.count = omega arith in
    (refl, rw e)

pub check_options-returns-in-Err : goal.check_options-returns-in-Err
unfolding walk
check_options-returns-in-Err t c =
    let asked = sym (told c.option_fault.ensures c.in-Err.is) in
    options-stop _ _ _ _ _ _ _ _ c.loop-n.invariant.1 (omega arith) _ asked (number-some _)

-- Their ranges

pub check_options-overflow_add-next : goal.check_options-overflow_add-next
check_options-overflow_add-next t c = omega (arith, (option-fine _ _ (none c.option_fault.ensures c.in_default.is)).0, c.requires)

pub check_options-overflow_add-next-in-loop-n : goal.check_options-overflow_add-next-in-loop-n
check_options-overflow_add-next-in-loop-n t c = omega (arith, (option-fine _ _ (none c.option_fault.ensures c.in_default.is)).0, c.requires)

pub check_options-returns-in_err-class : goal.check_options-returns-in_err-class
check_options-returns-in_err-class t c =
    let taken = latest-taken c.loop-n.done c.loop-n.n (omega arith) in
    exit-walk _ _ c.from_residual.ensures.1
    ∙ options-range _ _ _ _ _ _ _ _ c.loop-n.invariant.1 (omega arith) 0 (sym (none c.option_fault.ensures c.in_default.is)) refl
    _ (c.wide.ensures.0 ∙ c.byte.ensures) _ (rw taken at c.check_ranges.ensures) _ _ (walk-bad c.in_err-class.was)

-- Their classes

pub check_options-returns-in_err-end : goal.check_options-returns-in_err-end
check_options-returns-in_err-end t c =
    let taken = latest-taken c.loop-n.done c.loop-n.n (omega arith) in
    exit-walk _ _ c.from_residual-in_err-end.ensures.1
    ∙ options-class _ _ _ _ _ _ _ _ c.loop-n.invariant.1 (omega arith) 0 (sym (none c.option_fault.ensures c.in_default.is)) refl
    _ (c.wide.ensures.0 ∙ c.byte.ensures) _ (rw taken at c.check_ranges.ensures) _ (walk-fine c.in_ok-class.was)
    _ c.check_class.ensures _ _ (walk-bad c.in_err-end.was)

-- Each is among those done

pub check_options-overflow_cast-done : goal.check_options-overflow_cast-done
check_options-overflow_cast-done t c = omega (arith, (option-fine _ _ (none c.option_fault.ensures c.in_default.is)).0, c.requires)

pub check_options-loop-n-preserved : goal.check_options-loop-n-preserved
check_options-loop-n-preserved t c =
    let l = c.loop-n in
    let taken = latest-taken l.done l.n (omega arith) in
    let room : l.n < length l.done = omega (arith, l.invariant.0, c.requires) in
    let left =
    options-fine _ _ _ _ _ _ _ _ l.invariant.1 (omega arith) 0 (sym (none c.option_fault.ensures c.in_default.is)) refl
    _ (c.wide.ensures.0 ∙ c.byte.ensures) _ (rw taken at c.check_ranges.ensures) _ (walk-fine c.in_ok-class.was)
    _ c.check_class.ensures _ room (walk-fine c.in_ok-end.was)
    in
    (simp length-set l.invariant.0, left)

pub check_options-returns : goal.check_options-returns
unfolding walk
check_options-returns t c = options-none _ _ _ _ _ _ _ _ c.loop-n.invariant.1 (omega arith)
