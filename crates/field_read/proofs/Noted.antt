-- What is forgotten around each of n elements of the class at a byte is noted of that class.
use Prim.Native.Nat.{ℕ}
use mathlib.Core.List.{List}
use Rattle.rules.specs.Class.{sets}
use Rattle.class_layout.specs.Trees.{IsWhole, class_at}
use Rattle.class_layout.specs.Notes.{Notes, Prepared}
use Rattle.field_inside.specs.Opening.{forgets_at}
use Rattle.field_inside.proofs.Forgotten.{forgets-none, forgets-some}
use Rattle.field_runs.specs.Ahead.{Forgets}

pub around-noted : (d : ℕ) (t : List ℕ) (x : Notes) → Prepared t x → (from n : ℕ) → IsWhole d t from
    → Forgets n (forgets_at x.aligns from n) (sets (class_at d t from))
around-noted d t x noted from n class =
    let says = (noted.classes d from class).sets in
    record { none = forgets-none x.aligns from n (λ _. says); some = forgets-some x.aligns from n (λ _. says) }
