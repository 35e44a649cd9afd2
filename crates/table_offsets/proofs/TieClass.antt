-- Numbers 9 to 14 of a record where a class is due: the rules' are those at a byte.
use mathlib.Core.Path.{◌≡◌, refl, sym}
use mathlib.Core.Bool.{Bool, true, false, not, ◌&&◌}
use mathlib.Core.List.{List}
use Prim.Native.Nat.{ℕ, ◌+◌, ◌-◌, ◌<◌, ◌≤◌}
use native.Mathlib.Omega.{arith}
use lib.ListN.{get_or}
use lib.Dec.{ltb, eqb}
use borrow.Author.Tests.{eqb-true, le-leb}
use Rattle.facts.specs.Bytes.{Bytes}
use Rattle.facts.proofs.Truth.{clash}
use Rattle.rules.specs.Record.{Says as Said, Record, unknown, fragment, root, class, range, option}
use Rattle.rules.specs.Faults.{pick, Spot, is_top, Under as RulesUnder}
use Rattle.rules.specs.Faults.{bad_number, bad_slot, bad_role, class_fault as rules_fault}
use Rattle.table_offsets.specs.declared.Under.{Under}
use Rattle.table_offsets.specs.Bodies.{no_kind}
use Rattle.table_offsets.specs.Check.{pick_n, first, inside, kind_fault, say_fault, say_of, sayings, say, bits_say}
use Rattle.facts.proofs.Cases.{Each, ◌▷◌, below}
use Rattle.table_offsets.proofs.TieKinds.{plain, Stands, nothing, a_preamble, a_trace, a_clock}
use Rattle.table_offsets.proofs.TieKinds.{a_stream, an_event, a_root, a_class, a_range, an_option}
use Rattle.table_offsets.proofs.TieTests.{pick-high, first-pick}
use Rattle.table_offsets.proofs.TieOrder.{Late}
use Rattle.table_offsets.proofs.TieSays.{Spotted, at_top, number-agrees, in-range, slot-agrees, ruled, role-agrees}

-- a class reads slot 0, or the slot that a byte names
reads_byte : (t : List ℕ) → Bytes t → (at k : ℕ) → 16 ≤ k → k ≤ 32 → (say_of k t at).reads < 256
unfolding say_of
reads_byte t b at k l m = below (λ i. (get_or sayings i (λ t at. say 0 255 0 0 1 0) t at).reads < 256) 17 rows (k - 16) (omega arith)
  where
    zero-byte : 0 < 256
    zero-byte = omega arith

    rows : Each (λ i. (get_or sayings i (λ t at. say 0 255 0 0 1 0) t at).reads < 256) 0 17
    rows = unfold sayings say bits_say in
        zero-byte ▷ zero-byte ▷ zero-byte ▷ zero-byte ▷ zero-byte ▷ zero-byte ▷ zero-byte ▷ zero-byte ▷ zero-byte ▷ zero-byte
        ▷ b (at + 1) ▷ b (at + 1) ▷ zero-byte ▷ zero-byte ▷ b (at + 1) ▷ b (at + 1) ▷ b (at + 1) ▷ tt

kind-agrees : (z : Spot) (start at k j m : ℕ) → Spotted z start at → 16 ≤ k → k ≤ 32 → j ≡ k
    → pick (is_top z && not (eqb j 28)) 9 m ≡ first (kind_fault k start at) m
unfolding kind_fault inside
kind-agrees z start at k j m h l u e = rw (e, at_top z start at h, le-leb 16 k l, le-leb k 32 u) (by (is_top z) (eqb k 28))
  where
    by : (a b : Bool) → pick (a && not b) 9 m ≡ first (pick_n a (pick_n b 0 9) (pick_n true 0 9)) m
    by true true = unfold pick pick_n first in refl
    by true false = unfold pick pick_n first in refl
    by false b = unfold pick pick_n first in refl

say-agrees : (u : Under) (z : Spot) (left at : ℕ) (y : Said) → Spotted z u.start at → y.reads < 256
    → pick (bad_number y) 10 (pick (bad_slot (ltb u.root 2) y) 11 (pick (bad_role (ruled u) z y) 12 (pick (eqb left 0) 14 0)))
    ≡ say_fault u left at (plain y)
unfolding say_fault
say-agrees u z left at y h b =
    rw (number-agrees y) (first-pick (bad_number y) 9 _ _ (λ e.
    let g = in-range y e in
    rw (slot-agrees u.root y b g, role-agrees u z at h y g.role)
    (first-pick (bad_slot (ltb u.root 2) y) 10 _ _ (λ f. by (bad_role (ruled u) z y) (eqb left 0)))))
  where
    by : (c d : Bool) → pick c 12 (pick d 14 0) ≡ pick_n (not c) (pick_n d 14 0) 12
    by true d = unfold pick pick_n in refl
    by false true = unfold pick pick_n in refl
    by false false = unfold pick pick_n in refl

not-a-class : (k start at m : ℕ) → inside k 16 32 ≡ false → 9 ≡ first (kind_fault k start at) m
unfolding kind_fault inside
not-a-class k start at m h = rw h (by (eqb at start) (eqb k 28) refl)
  where
    by : (a b : Bool) → eqb k 28 ≡ b → 9 ≡ first (pick_n a (pick_n b 0 9) (pick_n false 0 9)) m
    by true true p = let e : k ≡ 28 = eqb-true k 28 p in let z : true ≡ false = rw e at h in absurd (clash (sym z))
    by true false p = unfold pick_n first in refl
    by false b p = unfold pick_n first in refl

-- the rules' numbers from 9 up where a class is due
pub class-agrees : (t : List ℕ) → Bytes t → (u : Under) (z : Spot) (left at k n : ℕ) (r : Record) → Stands t at k n r → (n ≡ no_kind → ⊥)
    → Spotted z u.start at
    → rules_fault (ruled u) z (eqb left 0) r ≡ first (kind_fault k u.start at) (say_fault u left at (say_of k t at))
unfolding rules_fault inside ruled
class-agrees t b u z left at k n r nothing h s = absurd (h refl)
class-agrees t b u z left at k n r a_preamble h s = not-a-class 1 u.start at _ refl
class-agrees t b u z left at k n r a_trace h s = not-a-class 2 u.start at _ refl
class-agrees t b u z left at k n r a_clock h s = not-a-class 3 u.start at _ refl
class-agrees t b u z left at k n r a_stream h s = not-a-class 4 u.start at _ refl
class-agrees t b u z left at k n r an_event h s = not-a-class 5 u.start at _ refl
class-agrees t b u z left at k n r a_root h s = not-a-class 6 u.start at _ refl
class-agrees t b u z left at k n r (a_class {y = y} l m f e g c) h s =
    let reads : y.reads < 256 = unfold plain in rw (← g) at (reads_byte t b at k l m) in
    rw (← g, ← say-agrees u z left at y s reads) (kind-agrees z u.start at k y.kind _ s l m e)
class-agrees t b u z left at k n r a_range h s = not-a-class 33 u.start at _ refl
class-agrees t b u z left at k n r an_option h s = not-a-class 34 u.start at _ refl

pub class-late : (u : RulesUnder) (z : Spot) (deep : Bool) → Late (rules_fault u z deep)
unfolding rules_fault
class-late u z deep = record { fragments = λ g. refl; high = high }
  where
    high : (r : Record) → rules_fault u z deep r < 9 → rules_fault u z deep r ≡ 0
    high unknown l = absurd (omega arith)
    high (fragment f) l = absurd (omega arith)
    high (root r) l = absurd (omega arith)
    high (class y) l =
        pick-high _ 9 _ (omega arith) (pick-high _ 10 _ (omega arith) (pick-high _ 11 _ (omega arith) (pick-high _ 12 _ (omega arith)
        (pick-high deep 14 0 (omega arith) (λ h. refl))))) l
    high (range g a b) l = absurd (omega arith)
    high (option n) l = absurd (omega arith)
