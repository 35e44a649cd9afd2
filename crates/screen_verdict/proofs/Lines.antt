-- Laws of the verdict's lines: how long their parts are at most, their cases, and a line in the room that is lent.
use mathlib.Core.Path.{◌≡◌, ap, ◌∙◌}
use mathlib.Core.List.{List, ◌++◌}
use mathlib.Core.Bool.{Bool, true, false}
use Prim.Native.Nat.{ℕ, ◌+◌, ◌<◌, ◌≤◌}
use native.Mathlib.Omega.{arith}
use borrow.Author.Tests.{eq-eqb, ne_eqb, lt-ltb, le-ltb}
use lib.ListN.{length, length-append}
use lib.Seq.{sets}
use lib.Dec.{eqb}
use Rattle.rules.specs.declared.Report.{Report}
use Rattle.screen_number.specs.Number.{bytes, decimal}
use Rattle.screen_number.proofs.Decimal.{decimal-length}
use Rattle.screen_verdict.specs.Verdict.{unit, refused_at, accepted_line, refused_line, verdict, status, laid_line, laid_length}

-- a place's unit
pub unit-byte : (n : ℕ) → n ≡ 20 → bytes " at byte " ≡ unit n
unfolding unit
unit-byte n e = simp (unit, eq-eqb n 20 e)

pub unit-bit : (n : ℕ) → (n ≡ 20 → ⊥) → bytes " at bit " ≡ unit n
unfolding unit
unit-bit n h = simp (unit, ne_eqb n 20 h)

unit-short : (b : Bool) → length {A = ℕ} (elim b [ true ↦ bytes " at byte " | false ↦ bytes " at bit " ]) ≤ 9
unfolding bytes
unit-short true = omega arith
unit-short false = omega arith

pub unit-length : (n : ℕ) → length (unit n) ≤ 9
unfolding unit
unit-length n = unit-short (eqb n 20)

lengths-5 : (v w x y z : List ℕ) → length (v ++ w ++ x ++ y ++ z) ≡ length v + length w + length x + length y + length z
lengths-5 v w x y z = simp length-append

pub refused-length : (n p : ℕ) → length (refused_at n (unit n) p) ≤ 59
unfolding refused_at bytes
refused-length n p = omega (
  arith,
  lengths-5 (bytes "refused ") (decimal n) (unit n) (decimal p) (bytes ": "),
  decimal-length n,
  decimal-length p,
  unit-length n,
)

-- a reading's line, accepted or refused
pub verdict-accepted : (r : Report) → r.number ≡ 0 → accepted_line r.entries r.place ≡ verdict r
unfolding verdict
verdict-accepted r e = simp (verdict, eq-eqb r.number 0 e)

pub verdict-refused : (r : Report) → (r.number ≡ 0 → ⊥) → refused_line r.number r.entries r.place r.first r.second ≡ verdict
    r
unfolding verdict
verdict-refused r h = simp (verdict, ne_eqb r.number 0 h)

pub status-accepted : (r : Report) → r.number ≡ 0 → 0 ≡ status r
unfolding status
status-accepted r e = simp (status, eq-eqb r.number 0 e)

pub status-refused : (r : Report) → (r.number ≡ 0 → ⊥) → 1 ≡ status r
unfolding status
status-refused r h = simp (status, ne_eqb r.number 0 h)

-- a line in the room
pub too_small : (room x : List ℕ) → length room < 256 → (0 ≡ laid_length room x) × (room ≡ laid_line room x)
unfolding laid_length laid_line
too_small room x h = (simp (laid_length, lt-ltb (length room) 256 h), simp (laid_line, lt-ltb (length room) 256 h))

pub line-laid : (room new x y : List ℕ) (n : ℕ) → 256 ≤ length room → x ≡ y → (n ≡ 0 + length x) × (new ≡ sets room 0 x)
    → (n ≡ laid_length room y) × (new ≡ laid_line room y)
unfolding laid_length laid_line
line-laid room new x y n h e w =
    let k : n ≡ length y = w.0 ∙ omega arith ∙ ap length e in
    let m : new ≡ sets room 0 y = w.1 ∙ ap (λ z. sets room 0 z) e in
    (simp (laid_length, le-ltb (length room) 256 h) k, simp (laid_line, le-ltb (length room) 256 h) m)
