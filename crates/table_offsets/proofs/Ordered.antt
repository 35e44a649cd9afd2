-- Numbers 4 to 8 of a fragment behind the preamble: one law for each way through the tests. k is its kind, n and m are whether an id was
-- named before, x is a clock's id.
use mathlib.Core.Path.{◌≡◌, sym}
use mathlib.Core.Bool.{Bool, true, false}
use mathlib.Core.List.{List}
use Prim.Native.Nat.{ℕ, ◌+◌}
use lib.ListN.{get_or}
use borrow.Author.Tests.{eq-eqb, ne_eqb}
use Rattle.table_offsets.specs.Check.{named, order_fault, pick_n}

module _ (t : List ℕ) (trace : Bool) (seen : List ℕ) (at k : ℕ) (is : k ≡ get_or t at 0) where
  abbrev fault : ℕ
  fault = order_fault t trace seen at (get_or t at 0)

  pub preamble-again : k ≡ 1 → 4 ≡ fault
  unfolding order_fault pick_n
  preamble-again e = simp (sym is, e)

  pub other-kind : (k ≡ 1 → ⊥) → (k ≡ 2 → ⊥) → (k ≡ 3 → ⊥) → (k ≡ 4 → ⊥) → (k ≡ 5 → ⊥) → 0 ≡ fault
  unfolding order_fault pick_n
  other-kind a b c d e =
      simp (sym is, ne_eqb _ _ a, ne_eqb _ _ b, ne_eqb _ _ c, ne_eqb _ _ d, ne_eqb _ _ e)

  -- a trace class

  pub trace-again : k ≡ 2 → trace ≡ true → 6 ≡ fault
  unfolding order_fault pick_n
  trace-again e g = simp (sym is, e, g)

  module _ (e : k ≡ 2) (g : trace ≡ false) (n : Bool) (asked : n ≡ named t 4 at 0 seen) where
    pub trace-late : n ≡ true → 6 ≡ fault
    unfolding order_fault pick_n
    trace-late b = simp (sym is, e, g, sym asked, b)

    pub trace-fine : n ≡ false → 0 ≡ fault
    unfolding order_fault pick_n
    trace-fine b = simp (sym is, e, g, sym asked, b)

  -- a clock class

  module _ (e : k ≡ 3) (n : Bool) (asked : n ≡ named t 3 (at + 1) 1 seen) where
    pub clock-used : n ≡ true → 7 ≡ fault
    unfolding order_fault pick_n
    clock-used b = simp (sym is, e, sym asked, b)

    pub clock-fine : n ≡ false → 0 ≡ fault
    unfolding order_fault pick_n
    clock-fine b = simp (sym is, e, sym asked, b)

  -- a stream class

  module _ (e : k ≡ 4) (n : Bool) (asked : n ≡ named t 4 (at + 1) 8 seen) where
    pub stream-used : n ≡ true → 7 ≡ fault
    unfolding order_fault pick_n
    stream-used b = simp (sym is, e, sym asked, b)

    module _ (new : n ≡ false) (x : ℕ) (has : x ≡ get_or t (at + 9) 0) where
      pub stream-timeless : x ≡ 255 → 0 ≡ fault
      unfolding order_fault pick_n
      stream-timeless b = simp (sym is, e, sym asked, new, sym has, eq-eqb _ _ b)

      module _ (timed : x ≡ 255 → ⊥) (m : Bool) (sought : m ≡ named t 3 (at + 9) 1 seen) where
        pub stream-fine : m ≡ true → 0 ≡ fault
        unfolding order_fault pick_n
        stream-fine b = simp (sym is, e, sym asked, new, sym has, ne_eqb _ _ timed, sym sought, b)

        pub stream-without : m ≡ false → 8 ≡ fault
        unfolding order_fault pick_n
        stream-without b = simp (sym is, e, sym asked, new, sym has, ne_eqb _ _ timed, sym sought, b)

  -- an event class

  module _ (e : k ≡ 5) (n : Bool) (asked : n ≡ named t 5 (at + 1) 16 seen) where
    pub event-used : n ≡ true → 7 ≡ fault
    unfolding order_fault pick_n
    event-used b = simp (sym is, e, sym asked, b)

    module _ (new : n ≡ false) (m : Bool) (sought : m ≡ named t 4 (at + 1) 8 seen) where
      pub event-fine : m ≡ true → 0 ≡ fault
      unfolding order_fault pick_n
      event-fine b = simp (sym is, e, sym asked, new, sym sought, b)

      pub event-without : m ≡ false → 8 ≡ fault
      unfolding order_fault pick_n
      event-without b = simp (sym is, e, sym asked, new, sym sought, b)
