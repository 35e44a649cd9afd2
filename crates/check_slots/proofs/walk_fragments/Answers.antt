-- A fragment a turn: what is left of the walk is the definition from there. Stream classes take ten bytes: their places have room.
use Rattle.std.proofs.Common.{◌≡◌, ◌+◌, ◌-◌, ◌<◌, ◌≤◌, ℕ, List, [], Bool, set, refl, sym, ◌∙◌, true, length, arith}
use Rattle.std.proofs.lemmas.Result.{err_from_is_err_and}
use lib.ListN.{length-set}
use Rattle.table_offsets.specs.Check.{latest}
use Rattle.check_slots.specs.Homes.{is_among, all_roots_at, fragments_at, roots_before}
use Rattle.check_slots.proofs.Onward.{Here, among-here, nowhere-within}
use Rattle.check_slots.proofs.Rising.{known-none, known-set, at_most_one, counted-room, fragment-of}
use Rattle.check_slots.proofs.Rising.{fragments-none, fragments-not, fragments-on}
use Rattle.table_offsets.proofs.Places.{latest-taken}
use Rattle.check_slots.proofs.Within.{fragments-past}
use Rattle.check_slots.proofs.walk_fragments.Goals as goal
use Rattle.check_slots.proofs.walk_fragments.Goals.{After-wide}

here : (t : List ℕ) (at : ℕ) {b : Bool} → b ≡ is_among t 1 5 at → b ≡ true → Here t at
here t at p e = (among-here t 1 5 at (sym p ∙ e)).0

pub loop-init : goal.loop-init
unfolding latest
loop-init c =
    let all : length c.args.table.now - 0 ≡ length c.args.table.now = omega arith in
    (omega arith, (refl, (rw all, (omega arith, (refl, (refl, (known-none _, omega arith)))))))

pub returns-then-not-is_among : goal.returns-then-not-is_among
returns-then-not-is_among c =
    let none = sym c.is_among.ensures ∙ c.if-not-is_among.true in
    let all = fragments-not _ _ _ _ _ _ _ c.loop.invariant.1.1.0 (omega arith) none in
    let end = nowhere-within c.args.table.now c.loop.next c.loop.invariant.1.1.1.1.1.1.1 in
    (c.nowhere.ensures ∙ sym all, λ h. omega (arith, c.nowhere.ensures, end))

pub bounds-table-next : goal.bounds-table-next
bounds-table-next c = (here _ _ c.is_among.ensures c.if-not-is_among.false).within

pub overflow_add-n : goal.overflow_add-n
overflow_add-n c =
    let b : c.counted-n.result ≤ 1 = omega (arith, at_most_one _ _ c.counted-n.ensures) in
    omega (arith, (here _ _ c.is_among.ensures c.if-not-is_among.false).within, c.requires, c.loop.invariant.0)

-- The fragment's own walk ends at e: the whole walk is what is left from there.
on : (c : After-wide) (e : ℕ) → e ≡ (all_roots_at c.args.table.now (c.loop.next + 1 + c.wide.result) c.renewed-homes.result).0
    → fragments_at c.args.table.now (length c.args.table.now) [] 0 (length c.args.table.now)
    ≡ fragments_at c.args.table.now c.header_with-header.result
    (latest (set c.loop.streams c.loop.n c.loop.next) (c.loop.n + c.counted-n.result)) e
    (length c.args.table.now - (c.loop.counter + 1))
on c e ends =
    let t = c.args.table.now in
    let l = c.loop in
    let there = sym c.is_among.ensures ∙ c.if-not-is_among.false in
    let room : l.n < length l.streams =
    omega (arith, (among-here t 1 5 l.next there).0.within, c.requires, l.invariant.0, l.invariant.1.0)
    in
    let one : length t - l.counter - 1 ≡ length t - (l.counter + 1) = omega arith in
    let taken = latest-taken l.streams l.n (omega arith) in
    let before : c.roots_before-before.result ≡ roots_before t l.header (latest l.streams l.n) l.next =
    rw taken at c.roots_before-before.ensures
    in
    rw one at (
    fragments-on _ _ _ _ _ _ _ l.invariant.1.1.0 (omega arith) there room _ refl _ before _ c.header_with-header.ensures _
    c.counted-n.ensures _ (c.wide.ensures.0 ∙ c.mark_of.ensures) _ (fragment-of _ _ _ _ c.renewed-homes.ensures _ ends)
    )

pub returns-in_err-next : goal.returns-in_err-next
returns-in_err-next c =
    let told = err_from_is_err_and c.from_residual.result c.from_residual.ensures.1 in
    let e = on (goal.at.returns-in_err-next c).After-wide _ (sym c.in_err-next.ensures.1) in
    rw (told.1, told.2) (omega arith, e ∙ fragments-past _ _ _ _ _ (omega arith))

pub loop-preserved : goal.loop-preserved
loop-preserved c =
    let l = c.loop in
    let v = l.invariant.1.1.1 in
    let m = c.wide.ensures.0 ∙ c.mark_of.ensures in
    let r = c.in_ok-next.ensures in
    let e = fragment-of _ _ _ _ c.renewed-homes.ensures _ r.0 in
    let it = here _ _ c.is_among.ensures c.if-not-is_among.false in
    let still =
    known-set _ l.known l.places v.1.0 v.1.1.0 v.1.1.1.0 _ c.kept_at-i.ensures _ _ c.renewed-homes.ensures
    in (
      counted-room _ _ _ _ _ m l.invariant.0 _ c.counted-n.ensures _ _ e,
      (
        simp length-set l.invariant.1.0,
        (
          on (goal.at.loop-preserved c).After-wide _ r.0,
          (
            c.next_turn-turn.ensures,
            (simp length-set v.1.0, (simp length-set v.1.1.0, (still, r.1 (omega (arith, it.fits, m))))),
          ),
        ),
      ),
    )

pub returns : goal.returns
returns c = (
  sym (fragments-none _ _ _ _ _ _ _ c.loop.invariant.1.1.0 (omega arith)),
  λ h. c.loop.invariant.1.1.1.1.1.1.1,
)
