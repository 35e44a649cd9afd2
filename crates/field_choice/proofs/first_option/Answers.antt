-- The outer invariant: the option looked for is the first of those left that holds the number. The inner: whether one of its ranges does is
-- whether one of the ranges left does. In both nothing is found yet.
use Rattle.std.proofs.Common.{◌≤◌, refl, sym, ◌∙◌, arith}
use Rattle.class_layout.specs.Notes.{end_noted}
use Rattle.field_choice.proofs.Search.{ranges-start, ranges-hit, ranges-next, ranges-done}
use Rattle.field_choice.proofs.Search.{options-start, options-there, options-hit, options-next, options-done}
use Rattle.field_choice.proofs.first_option.Goals as goal

pub search-init : goal.search-init
search-init c = (options-start _ _ _ _ c.requires.whole_options, refl)

-- The class of the next option is there

pub overflow_add-next : goal.overflow_add-next
overflow_add-next c =
    let there = options-there _ _ _ _ c.search.invariant.0 c.search-test.true in
    omega (arith, there, c.requires.table_len_bound.0)

pub count_at-ranges-requires : goal.count_at-ranges-requires
count_at-ranges-requires c =
    let there = options-there _ _ _ _ c.search.invariant.0 c.search-test.true in
    omega (arith, there, c.requires.table_len_bound.0)

pub overflow_add-class : goal.overflow_add-class
overflow_add-class c =
    let there = options-there _ _ _ _ c.search.invariant.0 c.search-test.true in
    omega (arith, there, c.requires.table_len_bound.0)

pub overflow_add-class-in-search : goal.overflow_add-class-in-search
overflow_add-class-in-search c =
    let there = options-there _ _ _ _ c.search.invariant.0 c.search-test.true in
    omega (arith, there, c.requires.table_len_bound.0)

pub overflow_add-next-in-loop-i : goal.overflow_add-next-in-loop-i
overflow_add-next-in-loop-i c =
    let there = options-there _ _ _ _ c.search.invariant.0 c.search-test.true in
    omega (arith, there, c.requires.table_len_bound.0)

pub overflow_add-next-in-loop-i-2 : goal.overflow_add-next-in-loop-i-2
overflow_add-next-in-loop-i-2 c =
    let there = options-there _ _ _ _ c.search.invariant.0 c.search-test.true in
    omega (arith, there, c.requires.table_len_bound.0, c.loop-i-test.true)

pub size_at-requires : goal.size_at-requires
size_at-requires c =
    let there = options-there _ _ _ _ c.search.invariant.0 c.search-test.true in
    omega (arith, there, c.requires.table_len_bound.1)

pub overflow_add-next-in-search : goal.overflow_add-next-in-search
overflow_add-next-in-search c =
    let there = options-there _ _ _ _ c.search.invariant.0 c.search-test.true in
    omega (arith, there, c.requires.table_len_bound.0, c.size_at.ensures.1)

-- Its ranges, from the first on

pub loop-i-init : goal.loop-i-init
loop-i-init c = (ranges-start _ _ _ _ _, c.search.invariant.1)

-- a range that is left ends in front of the class
pub holds-requires : goal.holds-requires
holds-requires c =
    let there = options-there _ _ _ _ c.search.invariant.0 c.search-test.true in
    (omega (arith, there, c.count_at-ranges.ensures.0, c.loop-i-test.true), c.requires.table_len_bound.0)

pub loop-i-preserved : goal.loop-i-preserved
loop-i-preserved c =
    let i = c.loop-i.invariant in
    (ranges-next _ _ _ i.0 c.loop-i-test.true (sym c.holds.ensures ∙ c.if-holds.false), i.1)

-- One of them holds the number, or all are passed and the next option is tried, or none is left

pub returns-then-holds : goal.returns-then-holds
returns-then-holds c =
    let held = ranges-hit _ _ _ c.loop-i.invariant.0 c.loop-i-test.true (sym c.holds.ensures ∙ c.if-holds.true) in
    rw c.count_at-ranges.ensures.0
    (options-hit _ _ _ _ c.search.invariant.0 c.search-test.true (rw c.count_at-ranges.ensures.0 at held))

pub search-preserved : goal.search-preserved
unfolding end_noted
search-preserved c =
    let all_passed : c.count_at-ranges.result ≤ c.loop-i.i = omega arith in
    let none = ranges-done _ _ _ c.loop-i.invariant.0 all_passed in
    let next = options-next _ _ _ _ c.search.invariant.0 c.search-test.true (rw c.count_at-ranges.ensures.0 at none) in
    rw (c.size_at.ensures.0, c.count_at-ranges.ensures.0) (next, c.loop-i.invariant.1)

pub returns-after-search : goal.returns-after-search
returns-after-search c = c.search.invariant.1 ∙ options-done _ _ _ _ c.search.invariant.0 c.search-test.false
