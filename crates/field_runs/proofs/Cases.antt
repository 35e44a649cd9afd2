-- What is made of a run, by whether its first field is an element, and whether slots are forgotten around its elements.
use mathlib.Core.Path.{◌≡◌, refl, sym, ap, ◌∙◌}
use Prim.Native.Nat.{ℕ, ◌+◌, ◌-◌, ◌<◌, ◌≤◌}
use native.Mathlib.Omega.{arith}
use mathlib.Core.List.{List}
use mathlib.Core.Bool.{Bool, true, false, not, ◌&&◌}
use lib.ListN.{get_or}
use mathlib.Core.Logic.{◌⊎◌, inl, inr}
use lib.Dec.{eqb}
use Rattle.facts.proofs.Numbers.{lt-or-ge}
use Rattle.facts.proofs.Truth.{clash}
use borrow.Author.Tests.{eq-eqb, ne_eqb}
use Rattle.field_runs.specs.declared.Run.{Run}
use Rattle.field_runs.specs.Run.{optional_kind, variant_kind, can_open, run, members_run, elements_run, alone_run}
use Rattle.field_runs.specs.Run.{forgetting, border, free, over, element, first_at, count_of}
use Rattle.field_runs.specs.Run.{forward_run, behind_run, taken_run, opened_run, put_off_run, into_run}

some-eqb : (n : ℕ) → 0 < n → eqb n 0 ≡ false
some-eqb n h = ne_eqb n 0 (λ e. omega arith)

none-eqb : (n : ℕ) → n ≤ 0 → eqb n 0 ≡ true
none-eqb n h = eq-eqb n 0 (omega arith)

-- by the number that says which slots are forgotten
pub forgetting-some : (r : Run) → (r.forgets ≡ 0 → ⊥) → forgetting r ≡ true
unfolding forgetting
forgetting-some r h = ap not (ne_eqb r.forgets 0 h)

pub forgetting-none : (r : Run) → r.forgets ≡ 0 → forgetting r ≡ false
unfolding forgetting
forgetting-none r h = ap not (eq-eqb r.forgets 0 h)

module _ (r : Run) (h : 0 < r.todo) where
  pub element-no : element r ≡ false
  unfolding element
  element-no = some-eqb r.todo h

  pub first_member : first_at r ≡ r.next
  unfolding first_at element
  first_member = rw (some-eqb r.todo h, first_at) refl

  pub count-members : count_of r ≡ r.todo
  unfolding count_of element
  count-members = rw (some-eqb r.todo h, count_of) refl

  pub taken-members : taken_run r ≡ r
  unfolding taken_run element
  taken-members = rw (some-eqb r.todo h, taken_run) refl

  pub forward-members : forward_run r ≡ r
  unfolding forward_run
  forward-members = rw (count-members, some-eqb r.todo h, forward_run) (by (forgetting r))
    where
      by : (b : Bool) → ◌≡◌ {A = Run} (elim b [ true ↦ taken_run r | false ↦ r ]) r
      by true = taken-members
      by false = refl

  pub behind-members : (s : List ℕ) (last left : ℕ)
      → behind_run r s last left ≡ run (last + get_or s last 0) left r.again r.more r.later r.rest r.forgets
  unfolding behind_run element
  behind-members s last left = rw (some-eqb r.todo h, behind_run) refl

  pub no-border : border r ≡ false
  unfolding border
  no-border = rw (some-eqb r.todo h) refl

  pub not-over : over r ≡ false
  unfolding over
  not-over = rw (some-eqb r.todo h) refl

-- a border, by whether the first field is an element
module _ (r : Run) where
  pub border-element : element r ≡ true → border r ≡ forgetting r
  unfolding border element
  border-element e = rw e refl

  pub border-member : element r ≡ false → border r ≡ false
  unfolding border element
  border-member e = rw e refl

module _ (r : Run) (h : r.todo ≤ 0) where
  pub element-yes : element r ≡ true
  unfolding element
  element-yes = none-eqb r.todo h

  pub first-element : first_at r ≡ r.again
  unfolding first_at element
  first-element = rw (none-eqb r.todo h, first_at) refl

  pub count-elements : count_of r ≡ r.more
  unfolding count_of element
  count-elements = rw (none-eqb r.todo h, count_of) refl

  pub some-element : 0 < count_of r → 0 < r.more
  some-element k = rw (count-elements) at k

  pub border-forgets : border r ≡ forgetting r
  unfolding border
  border-forgets = rw (none-eqb r.todo h) refl

  abbrev taken_by : Bool → Run
  taken_by b = elim b [ true ↦ taken_run r | false ↦ r ]

  forward-by : 0 < r.more → forward_run r ≡ taken_by (forgetting r)
  unfolding forward_run
  forward-by k = rw (count-elements, some-eqb r.more k, forward_run) refl

  pub forward-elements : 0 < r.more → forgetting r ≡ false → forward_run r ≡ r
  forward-elements k f = forward-by k ∙ ap taken_by f

  pub forward-taken : 0 < r.more → forgetting r ≡ true → forward_run r ≡ taken_run r
  forward-taken k f = forward-by k ∙ ap taken_by f

  pub forward-later : r.more ≤ 0 → forward_run r ≡ members_run r.later r.rest
  unfolding forward_run
  forward-later k = rw (count-elements, none-eqb r.more k, forward_run) refl

  pub behind-elements : (s : List ℕ) (last left : ℕ)
      → behind_run r s last left ≡ run r.next 0 r.again left r.later r.rest r.forgets
  unfolding behind_run element
  behind-elements s last left = rw (none-eqb r.todo h, behind_run) refl

  pub taken-element : taken_run r ≡ run r.again 1 r.again (r.more - 1) r.later r.rest r.forgets
  unfolding taken_run element
  taken-element = rw (none-eqb r.todo h, taken_run) refl

  pub over-free : over r ≡ free r
  unfolding over
  over-free = rw (none-eqb r.todo h) refl

-- an element that is open, whatever is put off
pub forgets-free : (r : Run) → forgetting r ≡ true → free r ≡ false
unfolding free
forgets-free r h = rw (h) (by (eqb r.more 0) (eqb r.rest 0))
  where
    by : (b d : Bool) → (b && (d && false)) ≡ false
    by true true = refl
    by true false = refl
    by false d = refl

-- where none is, nothing put off is left to ask for
pub free-rest : (r : Run) → r.more ≤ 0 → forgetting r ≡ false → free r ≡ eqb r.rest 0
unfolding free
free-rest r h k = rw (none-eqb r.more h, k) (by (eqb r.rest 0))
  where
    by : (b : Bool) → (b && true) ≡ b
    by true = refl
    by false = refl

members-over : (at n : ℕ) → n ≤ 0 → over (members_run at n) ≡ true
unfolding over free members_run forgetting
members-over at n h = rw (none-eqb n h) refl

-- what came forward and is not over has a first field
pub forward-some : (r : Run) → over (forward_run r) ≡ false → 0 < count_of (forward_run r)
forward-some r not = by (lt-or-ge 0 r.todo) (lt-or-ge 0 r.more)
  where
    later : (at n : ℕ) → over (members_run at n) ≡ false → 0 < count_of (members_run at n)
    later at n e = more (lt-or-ge 0 n)
      where
        more : (0 < n) ⊎ (n ≤ 0) → 0 < count_of (members_run at n)
        more (inl m) = rw (count-members (members_run at n) (unfold members_run in m)) (unfold members_run in m)
        more (inr m) = absurd (clash (sym e ∙ members-over at n m))

    by : (0 < r.todo) ⊎ (r.todo ≤ 0) → (0 < r.more) ⊎ (r.more ≤ 0) → 0 < count_of (forward_run r)
    by (inl h) k = rw (forward-members r h, count-members r h) h
    by (inr h) (inl k) = around (forgetting r) refl
      where
        around : (b : Bool) → forgetting r ≡ b → 0 < count_of (forward_run r)
        around true f =
            rw (
              forward-taken r h k f,
              taken-element r h,
              count-members (run r.again 1 r.again (r.more - 1) r.later r.rest r.forgets) (omega arith),
            )
            (omega arith)
        around false f = rw (forward-elements r h k f, count-elements r h) k
    by (inr h) (inr k) = rw (forward-later r h k) (later r.later r.rest (rw (forward-later r h k) at not))

-- a first field is there, and if it is an element, then of an array whose slots need not be forgotten in front of it
pub record Begun (r : Run) : Type 0 where
  pub some : 0 < count_of r
  pub plain : r.todo ≤ 0 → forgetting r ≡ false

pub member-begun : (r : Run) → 0 < r.todo → Begun r
member-begun r h = record { some = rw (count-members r h) h; plain = λ k. absurd (omega (arith, h, k)) }

-- behind a border
pub forward-begun : (r : Run) → over (forward_run r) ≡ false → Begun (forward_run r)
forward-begun r not = record { some = forward-some r not; plain = by (lt-or-ge 0 r.todo) (lt-or-ge 0 r.more) (forgetting r) refl }
  where
    by : (0 < r.todo) ⊎ (r.todo ≤ 0) → (0 < r.more) ⊎ (r.more ≤ 0) → (b : Bool) → forgetting r ≡ b
        → (forward_run r).todo ≤ 0 → forgetting (forward_run r) ≡ false
    by (inl h) k b f = rw (forward-members r h) (λ g. absurd (omega (arith, h, g)))
    by (inr h) (inl k) true f = rw (forward-taken r h k f, taken-element r h) (λ g. absurd (omega (arith, g)))
    by (inr h) (inl k) false f = rw (forward-elements r h k f) (λ g. f)
    by (inr h) (inr k) b f = rw (forward-later r h k) (λ g. unfold forgetting members_run in refl)

pub more-free : (r : Run) → 0 < r.more → free r ≡ false
unfolding free
more-free r h = rw (some-eqb r.more h) refl

module _ (r : Run) (h : r.more ≤ 0) where
  pub rest-free : 0 < r.rest → free r ≡ false
  unfolding free
  rest-free k = rw (none-eqb r.more h, some-eqb r.rest k) refl

  pub free-forgets : r.rest ≤ 0 → free r ≡ eqb r.forgets 0
  unfolding free forgetting
  free-forgets k = rw (none-eqb r.more h, none-eqb r.rest k) (by (eqb r.forgets 0))
    where
      by : (b : Bool) → not (not b) ≡ b
      by true = refl
      by false = refl

pub open-optional : (k : ℕ) (r : Run) → k ≡ optional_kind → can_open k r ≡ true
unfolding can_open
open-optional k r e = rw (eq-eqb k optional_kind e, can_open) refl

pub open_free : (k : ℕ) (r : Run) → (k ≡ optional_kind → ⊥) → can_open k r ≡ free r
unfolding can_open
open_free k r e = rw (ne_eqb k optional_kind e, can_open) refl

-- what a field holds, in a run of its own
pub alone-elements : (at n : ℕ) (b : Bool) (f : ℕ) → b ≡ true → alone_run at n b f ≡ elements_run at n f
unfolding alone_run
alone-elements at n b f e = rw e refl

pub alone-members : (at n : ℕ) (b : Bool) (f : ℕ) → b ≡ false → alone_run at n b f ≡ members_run at n
unfolding alone_run
alone-members at n b f e = rw e refl

-- what `into` picks
module _ (k : ℕ) (r : Run) (s : List ℕ) (from n : ℕ) (b : Bool) (f : ℕ) where
  pub into-elements : b ≡ true → into_run k r s from n b f ≡ put_off_run r s from n f
  unfolding into_run
  into-elements e = rw e refl

  pub into-variant : b ≡ false → k ≡ variant_kind → into_run k r s from n b f ≡ put_off_run r s from 1 0
  unfolding into_run
  into-variant e h = rw (e, eq-eqb k variant_kind h, into_run) refl

  pub into-parts : b ≡ false → (k ≡ variant_kind → ⊥) → into_run k r s from n b f ≡ opened_run r from n
  unfolding into_run
  into-parts e h = rw (e, ne_eqb k variant_kind h, into_run) refl

pub positive : (n : ℕ) → (n ≡ 0 → ⊥) → 0 < n
positive n h = by (lt-or-ge 0 n)
  where
    by : (0 < n) ⊎ (n ≤ 0) → 0 < n
    by (inl k) = k
    by (inr k) = absurd (h (omega arith))
