-- What a parser that accepts has found: of one record that it is there and has no fault, of two parsers in turn that both accept.
use mathlib.Core.Path.{◌≡◌, refl}
use Prim.Native.Nat.{ℕ, zero, suc, ◌+◌, ◌≤◌}
use native.Mathlib.Omega.{arith}
use mathlib.Core.List.{List}
use mathlib.Core.Bool.{Bool, true, false, not, ◌&&◌}
use lib.ListN.{length, drop, length-drop}
use lib.Dec.{ltb, eqb}
use borrow.Author.Tests.{ltb-false, eq-eqb}
use Rattle.rules.specs.Record.{Record, unknown, fragment, root, class, range, option, Says, record_of, size}
use Rattle.rules.specs.Parse.{Parsed, bad, good, Parser, then, sound, missing, one}
use Rattle.rules.specs.Faults.{pick, Ids, record_fault, Spot, is_top, Under, bad_number, class_fault, out}
use Rattle.facts.proofs.Faults.{pick-false, pick-zero, fragment-zero}
use Rattle.facts.proofs.Truth.{or-false, clash}
use Rattle.class_layout.proofs.Records.{behind-at}

pub bad-good : {A : Type 0} {n : ℕ} {x : List ℕ} {b : A} {y : List ℕ} → ◌≡◌ {A = Parsed A} (bad n x) (good b y) → ⊥
bad-good h = let z : ◌≡◌ {A = ℕ} 0 1 = cc in omega arith

pub good-value : {A : Type 0} {a b : A} {x y : List ℕ} → ◌≡◌ {A = Parsed A} (good a x) (good b y) → a ≡ b
good-value h = cc

pub good-rest : {A : Type 0} {a b : A} {x y : List ℕ} → ◌≡◌ {A = Parsed A} (good a x) (good b y) → x ≡ y
good-rest h = cc

-- two parsers in turn
pub record Both {A B : Type 0} (o : Parsed A) (f : A → Parser B) (b : B) (y : List ℕ) : Type 0 where
  pub value : A
  pub rest : List ℕ
  pub first : o ≡ good value rest
  pub second : f value rest ≡ good b y

pub then-good : {A B : Type 0} (o : Parsed A) (f : A → Parser B) (b : B) (y : List ℕ) → then o f ≡ good b y → Both o f b y
unfolding then
then-good (bad n x) f b y h = absurd (bad-good h)
then-good (good a x) f b y h = record { value = a; rest = x; first = refl; second = h }

-- tests that find nothing
fault-zero : (s : Bool) (q : Ids) (r : Record) (m : ℕ) → record_fault s q r m ≡ 0 → (s ≡ false) × (m ≡ 0)
unfolding record_fault
fault-zero s q unknown m h = absurd (omega arith)
fault-zero s q (fragment g) m h = (pick-false s 2 _ h, fragment-zero q g m (pick-zero s 2 _ h))
fault-zero s q (root r) m h = (pick-false s 2 m h, pick-zero s 2 m h)
fault-zero s q (class y) m h = (pick-false s 2 m h, pick-zero s 2 m h)
fault-zero s q (range g l i) m h = (pick-false s 2 m h, pick-zero s 2 m h)
fault-zero s q (option n) m h = (pick-false s 2 m h, pick-zero s 2 m h)

-- one record at a byte of a table: it has no fault, its bytes are there, and the rest begins behind it
pub record OneRecord {A : Type 0} (q : Ids) (more : Record → ℕ) (f : Record → Parser A) (t : List ℕ) (at : ℕ) (a : A) (y : List ℕ)
    : Type 0 where
  pub sound : record_fault (ltb (length (drop at t)) (size (drop at t))) q (record_of (drop at t)) (more (record_of (drop at t))) ≡ 0
  pub fine : more (record_of (drop at t)) ≡ 0
  pub there : at + size (drop at t) ≤ length t
  pub rest : f (record_of (drop at t)) (drop (at + size (drop at t)) t) ≡ good a y

pub one-good : {A : Type 0} (q : Ids) (more : Record → ℕ) (f : Record → Parser A) (t : List ℕ) (at : ℕ) (a : A) (y : List ℕ)
    → one q more f (drop at t) ≡ good a y → OneRecord q more f t at a y
unfolding one sound
one-good {A} q more f t at a y h = by _ refl h
  where
    x : List ℕ
    x = drop at t

    by : (n : ℕ) → pick (missing x) 3 (record_fault (ltb (length x) (size x)) q (record_of x) (more (record_of x))) ≡ n
        → sound n x (f (record_of x)) ≡ good a y → OneRecord q more f t at a y
    by (suc n) e h = absurd (bad-good h)
    by zero e h =
        let z = pick-zero (missing x) 2 _ e in
        let k = fault-zero _ q (record_of x) _ z in
        let s : size x ≤ length x = ltb-false _ _ k.0 in
        let l : 1 ≤ size x = unfold size in omega arith in
        record { sound = z; fine = k.1; there = omega (arith, length-drop at t); rest = rw (behind-at t at) at h }

-- a class record with no fault: its numbers lie in their ranges
pub record Sane (y : Says) : Type 0 where
  pub low : 1 ≤ y.length
  pub high : y.length ≤ 64
  pub align : y.align ≤ 6
  pub options : y.kind ≡ 32 → 1 ≤ y.count

and-false : (a b : Bool) → (a && b) ≡ false → a ≡ true → b ≡ false
and-false true b h e = h
and-false false b h e = absurd (clash (cc))

pub class-sane : (u : Under) (z : Spot) (deep : Bool) (y : Says) → class_fault u z deep (class y) ≡ 0 → Sane y
unfolding class_fault bad_number out
class-sane u z deep y h =
    let n = or-false _ _ (pick-false (bad_number y) 9 _ (pick-zero (is_top z && not (eqb y.kind 28)) 8 _ h)) in
    let a = or-false _ _ (or-false _ _ (or-false _ _ (or-false _ _ (or-false _ _ (or-false _ _ n.0).0).0).0).0).0 in
    let l = or-false _ _ (or-false _ _ (or-false _ _ a.0).0).0 in
    record {
      low = ltb-false y.length 1 l.0;
      high = ltb-false 64 y.length l.1;
      align = ltb-false 6 y.align a.1;
      options = λ e. ltb-false y.count 1 (or-false _ _ (and-false _ _ n.1 (eq-eqb y.kind 32 e))).0;
    }
