-- The slot that a record names: where its kind has no place for one, and where it has.
use mathlib.Core.Path.{◌≡◌}
use Prim.Native.Nat.{ℕ, ◌+◌}
use mathlib.Core.List.{List}
use lib.ListN.{get_or}
use borrow.Author.Tests.{ne_eqb}
use Rattle.rules.specs.Limits.{no_slot}
use Rattle.rules.specs.Record.{u8}
use Rattle.table_records.specs.Named.{slot_place, named_at}

module _ (t : List ℕ) (p : ℕ) {k : ℕ} (kind : k ≡ get_or t p 0) where
  pub named_none : slot_place k ≡ 0 → named_at t p ≡ no_slot
  unfolding named_at u8
  named_none e = simp (← kind, e, named_at)

  pub named-there : {i : ℕ} → i ≡ slot_place k → ((i ≡ 0) → ⊥) → named_at t p ≡ get_or t (p + i) 0
  unfolding named_at u8
  named-there {i} e h = simp (← kind, ← e, ne_eqb _ _ h, named_at)
