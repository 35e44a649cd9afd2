-- Five words, and those behind them as they were.
use mathlib.Core.Path.{◌≡◌, refl}
use mathlib.Core.List.{List, [], ◌∷◌}
use Prim.Native.Nat.{ℕ, ◌≤◌}
use native.Mathlib.Omega.{arith}
use lib.ListN.{length, drop, set}
use Rattle.rules.specs.Limits.{words_per_entry}
use Rattle.rules.specs.Entry.{words}
use Rattle.listing.proofs.entry.write.Goals as goal

written : (l : List ℕ) (a b c d e : ℕ) → words_per_entry ≤ length l
    → set (set (set (set (set l 0 a) 1 b) 2 c) 3 d) 4 e ≡ a ∷ b ∷ c ∷ d ∷ e ∷ drop words_per_entry l
written [] a b c d e h = absurd (omega arith)
written (v ∷ []) a b c d e h = absurd (omega arith)
written (v ∷ w ∷ []) a b c d e h = absurd (omega arith)
written (v ∷ w ∷ x ∷ []) a b c d e h = absurd (omega arith)
written (v ∷ w ∷ x ∷ y ∷ []) a b c d e h = absurd (omega arith)
written (v ∷ w ∷ x ∷ y ∷ z ∷ l) a b c d e h = refl

pub returns : goal.returns
unfolding words
returns c = let e = c.args.entry in written c.args.list.now e.kind e.place.0 e.bits e.value e.number c.requires
