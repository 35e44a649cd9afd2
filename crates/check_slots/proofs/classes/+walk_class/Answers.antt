-- A class, with a depth less left for what it holds. In the loop the whole walk is what is left of it, from where it goes on.
use Rattle.std.proofs.lemmas.Result.{err_from_is_err_and}
use Rattle.std.proofs.Common.{◌≤◌, length, ◌≡◌, ◌+◌, ◌-◌, ℕ, List, true, refl, sym, ◌∙◌, arith}
use Rattle.table_offsets.specs.Bodies.{body_mark}
use Rattle.table_offsets.specs.Check.{byte_at, says_at}
use Rattle.table_records.specs.Named.{named_at}
use Rattle.check_slots.specs.Homes.{is_among, class_size, class_at, part_at, parts_at}
use Rattle.check_slots.proofs.Onward.{Here, among-here, nowhere-within, class-none, class-not, class-fault, class-leaf, class-on, parts-on}
use Rattle.check_slots.proofs.Onward.{parts_none, within-small}
use Rattle.check_slots.proofs.Sized.{named-says, sized-none, sized}
use Rattle.check_slots.proofs.Within.{place-of, set-of, part_within, parts-fault}
use Rattle.check_slots.proofs.classes.+walk_class.Goals as goal
use Rattle.check_slots.proofs.classes.+walk_class.Goals.{After-parts-end}

-- What is known where a class stands, whose record has n bytes

module _ (t : List ℕ) (at n : ℕ) (it : (n ≡ class_size t at) × (n ≡ 0 → ⊥)) where
  there : is_among t 16 32 at ≡ true
  there = (sized t at n it.0 it.1).0

  whole : n ≡ 1 + body_mark (byte_at t at)
  whole = (sized t at n it.0 it.1).1

  here : Here t at
  here = (among-here t 16 32 at there).0

  says : named_at t at ≡ (says_at t at).sets
  says = let k = (among-here t 16 32 at there).1 in named-says t at k.0 k.1

-- No class is here

pub returns-then-left-eq0 : goal.returns-then-left-eq0
returns-then-left-eq0 t c =
    let e = class-none _ _ _ _ _ c.if-left-eq0.true in record {
      place = (c.nowhere.ensures ∙ place-of e, λ h. omega (arith, c.nowhere.ensures, nowhere-within c.args.table.now c.args.at h));
      set = set-of e;
    }

pub returns-in_default : goal.returns-in_default
returns-in_default t c =
    let n = c.nowhere-in_default.ensures in
    let e = class-not _ _ _ _ _ (sized-none _ _ _ refl c.in_default.ensures) in record {
      place = (n ∙ place-of e, λ h. omega (arith, n, nowhere-within c.args.table.now c.args.at h));
      set = set-of e;
    }

-- It sets a slot of another home, or not

pub slot_named-slot-requires : goal.slot_named-slot-requires
slot_named-slot-requires t c = omega (arith, (here _ _ _ c.in-Some.ensures).within, c.requires.0)

pub returns-then-elsewhere : goal.returns-then-elsewhere
returns-then-elsewhere t c =
    let s = c.in-Some.ensures in
    let begins : c.args.at ≤ length c.args.table.now = omega (arith, (here _ _ _ s).within) in
    let e =
    class-fault _ _ _ _ (there _ _ _ s) _ (c.slot_named-slot.ensures ∙ says _ _ _ s) _ (omega arith)
    (sym c.elsewhere.ensures ∙ c.if-elsewhere.true)
    in
    record { place = (begins, sym (place-of e)); set = set-of e }

-- It holds no other

pub overflow_add-next : goal.overflow_add-next
overflow_add-next t c =
    let s = c.in-Some.ensures in omega (arith, (here _ _ _ s).fits, whole _ _ _ s, c.requires.0)

pub returns-then-is_leaf : goal.returns-then-is_leaf
returns-then-is_leaf t c =
    let s = c.in-Some.ensures in
    let end : c.args.at + c.in-Some.size ≤ length c.args.table.now = omega (arith, (here _ _ _ s).fits, whole _ _ _ s) in
    let free = sym c.elsewhere.ensures ∙ c.if-elsewhere.false in
    let e =
    class-leaf _ _ _ _ (there _ _ _ s) _ (c.slot_named-slot.ensures ∙ says _ _ _ s) _ (omega arith) free _ (whole _ _ _ s) _
    c.note.ensures _ c.byte-is_leaf.ensures c.if-is_leaf.true
    in
    record { place = (place-of e, λ h. end); set = set-of e }

-- What it holds

walked : (t : ℕ) (c : After-parts-end t) → class_at c.args.left c.args.table.now c.args.home c.args.at c.args.homes.now
    ≡ parts_at (class_at (c.args.left - 1) c.args.table.now c.home_within-inner.result) (part_at c.args.table.now c.args.at)
    (c.args.at + c.in-Some.size, c.note.new.homes) c.parts-end.result
walked t c =
    let s = c.in-Some.ensures in
    let free = sym c.elsewhere.ensures ∙ c.if-elsewhere.false in
    class-on _ _ _ _ (there _ _ _ s) _ (c.slot_named-slot.ensures ∙ says _ _ _ s) _ (omega arith) free _ (whole _ _ _ s) _
    c.note.ensures _ c.home_within-inner.ensures _ c.parts-end.ensures

pub loop-init : goal.loop-init
loop-init t c =
    let s = c.in-Some.ensures in
    let all : c.parts-end.result - 0 ≡ c.parts-end.result = omega arith in
    (c.note.auto.homes ∙ c.requires.1.0, (rw all, omega (arith, (here _ _ _ s).fits, whole _ _ _ s)))

pub walk_class-requires : goal.walk_class-requires
walk_class-requires t c =
    let a = c.args in
    let p = c.requires in
    let near = within-small a.table.now a.home a.at p.1.1 p.0 (here _ _ _ c.in-Some.ensures) in
    (omega (arith, c.decreases), (p.0, (c.loop.invariant.0, omega (arith, c.home_within-inner.ensures, near))))

pub returns-in_err-next : goal.returns-in_err-next
returns-in_err-next t c =
    let so_far = walked t (goal.at.returns-in_err-next t c).After-parts-end ∙ c.loop.invariant.1.0 in
    let told = err_from_is_err_and c.from_residual.result c.from_residual.ensures.1 in
    let e =
    parts-fault _ _ _ _ _ _ _ _ so_far (omega arith) _ c.part_at.ensures _ c.walk_class.ensures.set _ c.in_err-next.ensures.place.1
    in
    let begins : c.args.at ≤ length c.args.table.now = omega (arith, (here _ _ _ c.in-Some.ensures).within) in
    record { place = rw (told.1, told.2) (begins, sym (place-of e)); set = set-of e }

pub loop-preserved : goal.loop-preserved
loop-preserved t c =
    let r = c.in_ok-next.ensures.place in
    let one : c.parts-end.result - c.loop.counter - 1 ≡ c.parts-end.result - (c.loop.counter + 1) = omega arith in
    let on =
    parts-on _ _ _ _ _ _ c.loop.invariant.1.0 (omega arith) _ c.part_at.ensures _ _ r.0 c.walk_class.ensures.set
    in
    let within = part_within c.args.table.now c.args.at c.loop.next c.loop.invariant.1.1 in (
      c.walk_class.auto.homes ∙ c.loop.invariant.0,
      (rw one at on, r.1 (omega (arith, c.part_at.ensures, within))),
    )

pub returns : goal.returns
returns t c =
    let so_far = walked t (goal.at.returns t c).After-parts-end ∙ c.loop.invariant.1.0 in
    let e = parts_none _ _ _ _ _ _ so_far (omega arith) in
    record { place = (place-of e, λ h. c.loop.invariant.1.1); set = set-of e }
