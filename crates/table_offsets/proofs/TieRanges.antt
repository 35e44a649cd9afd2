-- Number 13 and the walk over ranges. The rules carry the sign so far and the ranges of earlier options; the walk looks the sign up at the
-- first range, and the ranges at the options' places.
use Rattle.std.specs.Prelude.{Option, None, Some}
use mathlib.Core.Path.{◌≡◌, refl, sym, ap}
use mathlib.Core.Logic.{◌⊎◌, inr, ⊎_elim}
use mathlib.Core.Bool.{Bool, true, false, not, ◌&&◌, ◌||◌}
use mathlib.Core.List.{List, [], ◌∷◌, ◌++◌}
use Prim.Native.Nat.{ℕ, zero, suc, ◌+◌, ◌<◌, ◌≤◌}
use native.Mathlib.Omega.{arith}
use lib.Dec.{ltb, leb, eqb}
use borrow.Author.Tests.{ltb-false, eqb-true, eq-eqb, ne_eqb}
use Rattle.rules.specs.Class.{Sign, Range, key as rules_key}
use Rattle.rules.specs.Record.{Record, unknown, fragment, root, class, range, option, record_of, behind}
use Rattle.rules.specs.Faults.{pick, Ids, sign_of, other_sign, meets, range_fault as rules_fault}
use Rattle.rules.specs.Parse.{good, then, Ranges, range_of, parse_ranges}
use Rattle.table_offsets.specs.Bodies.{no_kind}
use Rattle.table_offsets.specs.Check.{pick_n, byte_at, u64, key, low_at, high_at, meets_here, meets_one, meets_option, meets_any}
use Rattle.table_offsets.specs.Check.{bounds_fault}
use Rattle.table_offsets.specs.Check.{range_fault, ranges_at}
use Rattle.table_offsets.proofs.TieBytes.{Rest}
use Rattle.table_offsets.proofs.TieKinds.{Stands, nothing, a_preamble, a_trace, a_clock, a_stream}
use Rattle.table_offsets.proofs.TieKinds.{an_event, a_root, a_class, a_range, an_option}
use Rattle.table_offsets.proofs.TieKinds.{stands, stands-as}
use Rattle.table_offsets.proofs.TieHead.{Whole, rest-behind}
use Rattle.table_offsets.proofs.TieIds.{Sees}
use Rattle.table_offsets.proofs.TieOrder.{Late}
use Rattle.table_offsets.proofs.TieWalk.{Tied, both-good, made-tie, one-tie}
use Rattle.table_offsets.proofs.TieTests.{or-none, pick-or, pick-pick, pick-high}

-- Signs and keys

key-agrees : (g x : ℕ) → g ≤ 1 → rules_key (sign_of g) x ≡ key g x
unfolding rules_key sign_of key pick_n
key-agrees zero x h = refl
key-agrees (suc zero) x h = refl
key-agrees (suc (suc g)) x h = absurd (omega arith)

signs-agree : (b g : ℕ) → b ≤ 1 → g ≤ 1 → eqb b g ≡ not (other_sign (sign_of g) (Some (sign_of b)))
unfolding sign_of other_sign
signs-agree zero zero h k = refl
signs-agree zero (suc zero) h k = refl
signs-agree (suc zero) zero h k = refl
signs-agree (suc zero) (suc zero) h k = refl
signs-agree zero (suc (suc g)) h k = absurd (omega arith)
signs-agree (suc zero) (suc (suc g)) h k = absurd (omega arith)
signs-agree (suc (suc b)) g h k = absurd (omega arith)

-- the sign so far, where the next range stands at `at` and the first at `head`
abbrev pub Signed : List ℕ → ℕ → Option Sign → ℕ → Type 0
Signed t head None at = at ≡ head
Signed t head (Some g) at = (g ≡ sign_of (byte_at t (head + 1))) × (byte_at t (head + 1) ≤ 1)

sign-agrees : (t : List ℕ) (head at : ℕ) (o : Option Sign) → Signed t head o at → byte_at t (at + 1) ≤ 1
    → eqb (byte_at t (head + 1)) (byte_at t (at + 1)) ≡ not (other_sign (sign_of (byte_at t (at + 1))) o)
unfolding other_sign
sign-agrees t head at None h l = rw (← h) (eq-eqb (byte_at t (at + 1)) (byte_at t (at + 1)) refl)
sign-agrees t head at (Some g) h l = rw h.0 (signs-agree (byte_at t (head + 1)) (byte_at t (at + 1)) h.1 l)

-- Ranges of earlier options

-- the ranges of some options, by their places; the n ranges from `at` on
abbrev pub Told : List ℕ → List ℕ → List Range → Type 0
Told t os rs = (g l h : ℕ) → g ≤ 1 → meets (sign_of g) l h rs ≡ meets_any t g (key g l) (key g h) os

abbrev pub Ranged : List ℕ → ℕ → ℕ → List Range → Type 0
Ranged t at n rs = (g l h : ℕ) → g ≤ 1 → meets (sign_of g) l h rs ≡ meets_one t g (key g l) (key g h) at n

ranged-more : (t : List ℕ) (at n : ℕ) (rs : List Range) → Ranged t (at + 18) n rs
    → Ranged t at (suc n) (record { low = u64 t (at + 2); high = u64 t (at + 10) } ∷ rs)
unfolding meets meets_one meets_here low_at high_at
ranged-more t at n rs k g l h s =
    rw (pick-or, key-agrees g l s, key-agrees g h s, key-agrees g (u64 t (at + 2)) s, key-agrees g (u64 t (at + 10)) s, k g l h s)

meets-append : (g : Sign) (l h : ℕ) (rs ss : List Range) → meets g l h (rs ++ ss) ≡ (meets g l h ss || meets g l h rs)
unfolding meets
meets-append g l h [] ss = sym (or-none (meets g l h ss))
meets-append g l h (r ∷ rs) ss =
    rw (meets-append g l h rs ss)
    (or-middle (leb (rules_key g l) (rules_key g r.high) && leb (rules_key g r.low) (rules_key g h)) (meets g l h ss) (meets g l h rs))
  where
    or-middle : (a b c : Bool) → (a || (b || c)) ≡ (b || (a || c))
    or-middle true true c = refl
    or-middle true false c = refl
    or-middle false b c = refl

-- the option at o has been read
pub told_more : (t : List ℕ) (os : List ℕ) (rs ss : List Range) (o : ℕ) → Told t os rs → Ranged t (o + 2) (byte_at t (o + 1)) ss
    → Told t (o ∷ os) (rs ++ ss)
unfolding meets_any meets_option
told_more t os rs ss o h k g l j s = rw (meets-append (sign_of g) l j rs ss, h g l j s, k g l j s, pick-or)

-- A range's number

bounds : (a b c : Bool) → pick (a || b || c) 13 0 ≡ pick_n a 13 (pick_n (not b) (pick_n c 13 0) 13)
unfolding pick pick_n
bounds true b c = refl
bounds false true c = refl
bounds false false true = refl
bounds false false false = refl

-- the numbers from 9 up where a range is due
unfoldable later_fault : List ℕ → ℕ → List ℕ → ℕ → ℕ → ℕ
later_fault t head os at k =
    pick_n (eqb k 33)
    (pick_n (ltb 1 (byte_at t (at + 1))) 10
    (bounds_fault t head os (byte_at t (at + 1)) (low_at t (byte_at t (at + 1)) at) (high_at t (byte_at t (at + 1)) at)))
    9

module _ (t : List ℕ) (head at : ℕ) (o : Option Sign) (os : List ℕ) (rs : List Range) (s : Signed t head o at) (d : Told t os rs) where
  range-here : rules_fault o rs (range (byte_at t (at + 1)) (u64 t (at + 2)) (u64 t (at + 10))) ≡ later_fault t head os at 33
  unfolding rules_fault later_fault bounds_fault low_at high_at pick_n
  range-here = pick-pick (ltb 1 (byte_at t (at + 1))) 10 _ _ (λ e.
      let l = ltb-false 1 (byte_at t (at + 1)) e in
      rw (
        key-agrees (byte_at t (at + 1)) (u64 t (at + 2)) l,
        key-agrees (byte_at t (at + 1)) (u64 t (at + 10)) l,
        sign-agrees t head at o s l,
        d (byte_at t (at + 1)) (u64 t (at + 2)) (u64 t (at + 10)) l,
      )
      (bounds (ltb (high_at t (byte_at t (at + 1)) at) (low_at t (byte_at t (at + 1)) at)) (other_sign (sign_of (byte_at t (at + 1))) o)
      (meets_any t (byte_at t (at + 1)) (low_at t (byte_at t (at + 1)) at) (high_at t (byte_at t (at + 1)) at) os)))

  range-agrees : (k n : ℕ) (r : Record) → Stands t at k n r → (n ≡ no_kind → ⊥) → rules_fault o rs r ≡ later_fault t head os at k
  unfolding rules_fault later_fault pick_n
  range-agrees k n r nothing h = absurd (h refl)
  range-agrees k n r a_preamble h = refl
  range-agrees k n r a_trace h = refl
  range-agrees k n r a_clock h = refl
  range-agrees k n r a_stream h = refl
  range-agrees k n r an_event h = refl
  range-agrees k n r a_root h = refl
  range-agrees k n r (a_class l u b e f c) h = rw (ne_eqb k 33 (λ g. omega arith))
  range-agrees k n r a_range h = range-here
  range-agrees k n r an_option h = refl

pub range-late : (o : Option Sign) (rs : List Range) → Late (rules_fault o rs)
unfolding rules_fault
range-late o rs = record { fragments = λ g. refl; high = high }
  where
    high : (r : Record) → rules_fault o rs r < 9 → rules_fault o rs r ≡ 0
    high unknown l = absurd (omega arith)
    high (fragment f) l = absurd (omega arith)
    high (root r) l = absurd (omega arith)
    high (class y) l = absurd (omega arith)
    high (range g a b) l = pick-high _ 10 _ (omega arith) (pick-high _ 13 0 (omega arith) (λ h. refl)) l
    high (option n) l = absurd (omega arith)

-- what a sound range says of its kind and its sign
record Sound (t : List ℕ) (head at : ℕ) : Type 0 where
  kind : byte_at t at ≡ 33
  sign : byte_at t (at + 1) ≤ 1
  same : byte_at t (head + 1) ≡ byte_at t (at + 1)

sound-range : (t : List ℕ) (head : ℕ) (os : List ℕ) (at : ℕ) → later_fault t head os at (byte_at t at) ≡ 0 → Sound t head at
unfolding later_fault bounds_fault
sound-range t head os at =
    by (eqb (byte_at t at) 33) (ltb 1 (byte_at t (at + 1))) _ (eqb (byte_at t (head + 1)) (byte_at t (at + 1))) _ refl refl refl
  where
    by : (a b c d e : Bool) → eqb (byte_at t at) 33 ≡ a → ltb 1 (byte_at t (at + 1)) ≡ b
        → eqb (byte_at t (head + 1)) (byte_at t (at + 1)) ≡ d
        → pick_n a (pick_n b 10 (pick_n c 13 (pick_n d (pick_n e 13 0) 13))) 9 ≡ 0 → Sound t head at
    by false b c d e p q r h = unfold pick_n in absurd (omega arith)
    by true true c d e p q r h = unfold pick_n in absurd (omega arith)
    by true false true d e p q r h = unfold pick_n in absurd (omega arith)
    by true false false false e p q r h = unfold pick_n in absurd (omega arith)
    by true false false true e p q r h = record {
      kind = eqb-true (byte_at t at) 33 p;
      sign = ltb-false 1 (byte_at t (at + 1)) q;
      same = eqb-true (byte_at t (head + 1)) (byte_at t (at + 1)) r;
    }

a-range : (t : List ℕ) (at n : ℕ) (r : Record) → Stands t at 33 n r → (n ≡ no_kind → ⊥)
    → (r ≡ range (byte_at t (at + 1)) (u64 t (at + 2)) (u64 t (at + 10))) × (n ≡ 17)
a-range t at n r nothing h = absurd (h refl)
a-range t at n r (a_class l u b f g c) h = absurd (omega arith)
a-range t at n r a_range h = (refl, refl)

-- The walk

-- what is told by n ranges read under a sign o, besides where they end: the first settles the sign
pub record Read (t : List ℕ) (head at n : ℕ) (o : Option Sign) (p : Ranges) (e : ℕ) : Type 0 where
  pub on : at ≤ e
  pub ranges : Ranged t at n p.1
  pub sign : (0 < n) ⊎ ((a : ℕ) → Signed t head o a) → (a : ℕ) → Signed t head p.0 a

read_none : (t : List ℕ) (head at : ℕ) (o : Option Sign) → Read t head at 0 o (o, []) at
unfolding meets meets_one
read_none t head at o = record { on = omega arith; ranges = λ g l h k. refl; sign = ⊎_elim (λ l. absurd (omega arith)) (λ k. k) }

read_more : (t : List ℕ) (head at n e : ℕ) (o : Option Sign) (p : Ranges) → Sound t head at
    → Read t head (at + 18) n (Some (sign_of (byte_at t (at + 1)))) p e
    → Read t head at (suc n) o (p.0, record { low = u64 t (at + 2); high = u64 t (at + 10) } ∷ p.1) e
read_more t head at n e o p s k = record {
  on = omega (arith, k.on);
  ranges = ranged-more t at n p.1 k.ranges;
  sign = λ l. k.sign (inr (λ a. (ap sign_of (sym s.same), rw s.same s.sign)));
}

module _ (t : List ℕ) (q : Ids) (trace : Bool) (seen : List ℕ) (known : Sees t q trace seen) (head : ℕ) (os : List ℕ) (rs : List Range)
    (d : Told t os rs) where
  behind-range : (n at : ℕ) (x : List ℕ) (o : Option Sign) → Rest t at x → Whole t at → Sound t head at
      → ((y : List ℕ) → Rest t (at + 18) y → Tied t trace seen (Read t head (at + 18) n (Some (sign_of (byte_at t (at + 1)))))
      (parse_ranges q rs n (Some (sign_of (byte_at t (at + 1)))) y) (ranges_at t head os (at + 18) n))
      → Tied t trace seen (Read t head at (suc n) o)
      (then (parse_ranges q rs n (range_of (record_of x)).0 (behind x)) λ p x'. good (p.0, (range_of (record_of x)).1 ++ p.1) x')
      (ranges_at t head os (at + 18) n)
  unfolding range_of
  behind-range n at x o h w s rec =
      let r = a-range t at _ _ (stands-as t at x h 33 s.kind) w.known in
      rw r.0 (made-tie t trace seen (rec (behind x) (rest-behind t at x h w 17 r.1))
      (λ p. (p.0, record { low = u64 t (at + 2); high = u64 t (at + 10) } ∷ p.1))
      (λ p e k. read_more t head at n e o p s k))

  pub ranges-tie : (n at : ℕ) (x : List ℕ) (o : Option Sign) → Rest t at x → Signed t head o at
      → Tied t trace seen (Read t head at n o) (parse_ranges q rs n o x) (ranges_at t head os at n)
  unfolding parse_ranges ranges_at range_fault later_fault
  ranges-tie zero at x o h s = both-good (read_none t head at o) h
  ranges-tie (suc n) at x o h s =
      one-tie t trace seen q known at x h (rules_fault o rs) (range-late o rs) (later_fault t head os at (byte_at t at))
      (λ w. range-agrees t head at o os rs s d _ _ _ (stands t at x h) w.known) _ _ (λ w e.
      let g = sound-range t head os at e in
      behind-range n at x o h w g
      (λ y r. ranges-tie n (at + 18) y (Some (sign_of (byte_at t (at + 1)))) r (ap sign_of (sym g.same), rw g.same g.sign)))
