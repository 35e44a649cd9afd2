-- Numbers 10 to 12: the rules' tests of what a class record says are the tests at a byte. The rules' spot is where the class stands from
-- its root structure: at its byte, at its first member's, or behind that.
use mathlib.Core.Path.{◌≡◌, refl, sym, ap, ◌∙◌}
use mathlib.Core.Bool.{Bool, true, false, not, ◌&&◌, ◌||◌}
use Prim.Native.Nat.{ℕ, ◌+◌, ◌<◌, ◌≤◌}
use native.Mathlib.Omega.{arith}
use lib.Dec.{ltb, leb, eqb}
use borrow.Author.Tests.{ltb-true, ltb-false, eqb-true, eqb-false, le-leb, lt-leb, le-ltb, eq-eqb, ne_eqb}
use Rattle.facts.proofs.Truth.{clash, or-true}
use Rattle.rules.specs.Record.{Says as Said}
use Rattle.rules.specs.Faults.{pick, out, Spot, top, leading, is_top, is_leading, inside as within, Under as RulesUnder}
use Rattle.rules.specs.Faults.{bad_number, bad_slot, roles, role_of, number_role, blob_role, bad_role}
use Rattle.table_offsets.specs.declared.Under.{Under}
use Rattle.table_offsets.specs.Check.{pick_n, pick_b, inside, length_ok, count_ok, number_fault}
use Rattle.table_offsets.specs.Check.{slot_fault, magic_ok, blob_ok, clock_ok, end_ok}
use Rattle.table_offsets.specs.Check.{number_ok, role_ok}
use Rattle.facts.proofs.Cases.{Each, ◌▷◌, below}
use Rattle.table_offsets.proofs.TieKinds.{plain}
use Rattle.table_offsets.proofs.TieTests.{not-ltb, or-none, pick-or, pick-and}

-- Where a class stands

abbrev pub Spotted : Spot → ℕ → ℕ → Type 0
Spotted top start at = at ≡ start
Spotted leading start at = at ≡ start + 3
Spotted within start at = start + 3 < at

pub at_top : (z : Spot) (start at : ℕ) → Spotted z start at → eqb at start ≡ is_top z
unfolding is_top
at_top top start at h = eq-eqb at start h
at_top leading start at h = ne_eqb at start (λ e. omega arith)
at_top within start at h = ne_eqb at start (λ e. omega arith)

at-leading : (z : Spot) (start at : ℕ) → Spotted z start at → eqb at (start + 3) ≡ is_leading z
unfolding is_leading
at-leading top start at h = ne_eqb at (start + 3) (λ e. omega arith)
at-leading leading start at h = eq-eqb at (start + 3) h
at-leading within start at h = ne_eqb at (start + 3) (λ e. omega arith)

-- 10: numbers

pub inside-not-out : (x a z : ℕ) → inside x a z ≡ not (out a z x)
unfolding inside out
inside-not-out x a z = by (ltb x a) (ltb z x) refl refl
  where
    by : (c d : Bool) → ltb x a ≡ c → ltb z x ≡ d → (leb a x && leb x z) ≡ not (c || d)
    by true d p q = rw (lt-leb a x (ltb-true x a p))
    by false true p q = rw (le-leb a x (ltb-false x a p), lt-leb x z (ltb-true z x q))
    by false false p q = rw (le-leb a x (ltb-false x a p), le-leb x z (ltb-false z x q))

or-all : (a : Bool) → (a || true) ≡ true
or-all true = refl
or-all false = refl

-- a float's length is one of two, both of which are among 1 to 64
length-agrees : (k n : ℕ) → length_ok k n ≡ not (out 1 64 n || (eqb k 20 && not (eqb n 32 || eqb n 64)))
unfolding length_ok pick_b
length-agrees k n = by (eqb k 20) (eqb n 32) (eqb n 64) refl refl
  where
    by : (a b c : Bool) → eqb n 32 ≡ b → eqb n 64 ≡ c → pick_b a (b || c) (inside n 1 64) ≡ not (out 1 64 n || (a && not (b || c)))
    by true true c p q = unfold out in rw (eqb-true n 32 p)
    by true false true p q = unfold out in rw (eqb-true n 64 q)
    by true false false p q = rw (or-all (out 1 64 n))
    by false b c p q = rw (or-none (out 1 64 n)) (inside-not-out n 1 64)

count-agrees : (k n : ℕ) → count_ok k n ≡ not ((eqb k 28 && ltb 64 n) || (eqb k 31 && ltb 16 n) || (eqb k 32 && out 1 32 n))
unfolding count_ok pick_b
count-agrees k n = by (eqb k 28) (eqb k 31) (eqb k 32) refl refl refl
  where
    by : (a b c : Bool) → eqb k 28 ≡ a → eqb k 31 ≡ b → eqb k 32 ≡ c
        → pick_b a (leb n 64) (pick_b b (leb n 16) (pick_b c (inside n 1 32) true))
        ≡ not ((a && ltb 64 n) || (b && ltb 16 n) || (c && out 1 32 n))
    by true true c p q r = absurd (omega (arith, eqb-true k 28 p, eqb-true k 31 q))
    by true false true p q r = absurd (omega (arith, eqb-true k 28 p, eqb-true k 32 r))
    by true false false p q r = rw (or-none (ltb 64 n), or-none (ltb 64 n)) (sym (not-ltb 64 n))
    by false true true p q r = absurd (omega (arith, eqb-true k 31 q, eqb-true k 32 r))
    by false true false p q r = rw (or-none (ltb 16 n)) (sym (not-ltb 16 n))
    by false false true p q r = inside-not-out n 1 32
    by false false false p q r = refl

first-of-tests : (l o a s r g c d e : Bool)
    → pick_n (not l) (pick_n o 10 (pick_n a 10 (pick_n (not s) 10 (pick_n (not r) 10 (pick_n g 10 (pick_n (not (c || d || e)) 0 10)))))) 10
    ≡ pick (l || o || a || not s || not r || g || c || d || e) 10 0
unfolding pick_n pick
first-of-tests true o a s r g c d e = refl
first-of-tests false true a s r g c d e = refl
first-of-tests false false true s r g c d e = refl
first-of-tests false false false false r g c d e = refl
first-of-tests false false false true false g c d e = refl
first-of-tests false false false true true true c d e = refl
first-of-tests false false false true true false true d e = refl
first-of-tests false false false true true false false true e = refl
first-of-tests false false false true true false false false true = refl
first-of-tests false false false true true false false false false = refl

pub number-agrees : (y : Said) → number_fault (plain y) ≡ pick (bad_number y) 10 0
unfolding number_fault bad_number plain
number-agrees y =
    rw (
      length-agrees y.kind y.length,
      inside-not-out y.sets 64 254,
      inside-not-out y.reads 64 254,
      count-agrees y.kind y.count,
    )
    (first-of-tests (out 1 64 y.length || (eqb y.kind 20 && not (eqb y.length 32 || eqb y.length 64))) (ltb 1 y.order)
    (ltb 6 y.align) (out 64 254 y.sets) (out 64 254 y.reads) (ltb 11 y.role)
    (eqb y.kind 28 && ltb 64 y.count) (eqb y.kind 31 && ltb 16 y.count)
    (eqb y.kind 32 && out 1 32 y.count))

-- what the tests of 10 leave for those of 11 and 12
pub record InRange (y : Said) : Type 0 where
  pub reads : out 64 254 y.reads ≡ true
  pub role : y.role ≤ 11

passed : (a r g c d e : Bool) → (a || not r || g || c || d || e) ≡ false → (r ≡ true) × (g ≡ false)
passed true r g c d e h = absurd (clash (sym h))
passed false false g c d e h = absurd (clash (sym h))
passed false true true c d e h = absurd (clash (sym h))
passed false true false c d e h = (refl, refl)

pub in-range : (y : Said) → bad_number y ≡ false → InRange y
unfolding bad_number
in-range y h =
    let earlier : Bool = out 1 64 y.length || (eqb y.kind 20 && not (eqb y.length 32 || eqb y.length 64)) || ltb 1 y.order
    || ltb 6 y.align
    || not (out 64 254 y.sets) in
    let p = passed earlier (out 64 254 y.reads) (ltb 11 y.role) (eqb y.kind 28 && ltb 64 y.count)
    (eqb y.kind 31 && ltb 16 y.count)
    (eqb y.kind 32 && out 1 32 y.count) h in
    record { reads = p.0; role = ltb-false 11 y.role p.1 }

-- 11: slots

-- of the bytes past 63 that no test of 10 refuses, 255 is left
not-read : (j : ℕ) → j < 256 → out 64 254 j ≡ true → ltb 63 j ≡ eqb j 255
unfolding out
not-read j b h = by (eqb j 255) refl
  where
    by : (c : Bool) → eqb j 255 ≡ c → ltb 63 j ≡ c
    by true e = rw (eqb-true j 255 e)
    by false e =
        let n = eqb-false j 255 e in
        le-ltb 63 j (or-true (ltb j 64) (ltb 254 j) h (λ p. omega (arith, ltb-true j 64 p))
        (λ p. absurd (n (omega (arith, ltb-true 254 j p)))))

two-tests : (a b : Bool) (n : ℕ) → pick_n a n (pick_n b n 0) ≡ pick (a || b) n 0
unfolding pick_n pick
two-tests true b n = refl
two-tests false true n = refl
two-tests false false n = refl

pub slot-agrees : (r : ℕ) (y : Said) → y.reads < 256 → InRange y
    → slot_fault r (plain y).sets (plain y).reads ≡ pick (bad_slot (ltb r 2) y) 11 0
unfolding slot_fault plain
slot-agrees r y b h = by (ltb r 2)
  where
    by : (c : Bool)
        → pick_n c (pick_n (ltb 15 y.reads) 11 (pick_n (inside y.sets 16 254) 11 0))
        (pick_n (ltb 63 y.reads) 11 (pick_n (ltb y.sets 16) 11 0))
        ≡ pick (bad_slot c y) 11 0
    by true = unfold pick_n bad_slot in rw (inside-not-out y.sets 16 254) (two-tests (ltb 15 y.reads) (not (out 16 254 y.sets)) 11)
    by false = unfold pick_n bad_slot in rw (not-read y.reads b h.reads) (two-tests (eqb y.reads 255) (ltb y.sets 16) 11)

-- 12: roles

and_last : (a b c d : Bool) → (a && (b && (c && d))) ≡ (a && b && c && d)
and_last true true c d = refl
and_last true false c d = refl
and_last false b c d = refl

-- the rules' name of what a class stands under
unfoldable pub ruled : Under → RulesUnder
ruled u = record { root = u.root; timed = u.timed; uuid = u.uuid }

module _ (u : Under) (z : Spot) (at : ℕ) (h : Spotted z u.start at) (y : Said) where
  number-role : Each (λ r. number_ok r (plain y) u at ≡ number_role (role_of r) (ruled u) z y) 0 12
  unfolding number_ok number_role role_of roles ruled plain pick_b magic_ok clock_ok end_ok
  number-role =
      refl
      ▷ rw (at-leading z u.start at h) (and_last (eqb u.root 0) (eqb y.kind 18) (eqb y.length 32) (is_leading z))
      ▷ refl ▷ refl ▷ refl ▷ refl ▷ refl
      ▷ pick-and (eqb u.root 1 || eqb u.root 2) u.timed
      ▷ pick-and (eqb u.root 1) u.timed
      ▷ refl ▷ refl ▷ refl ▷ tt

  pub role-agrees : y.role ≤ 11 → role_ok (plain y) u at ≡ not (bad_role (ruled u) z y)
  unfolding role_ok bad_role blob_ok blob_role plain ruled
  role-agrees l = by (eqb y.kind 25)
    where
      twice : (b : Bool) → b ≡ not (not b)
      twice true = refl
      twice false = refl

      by : (c : Bool) → pick_b c (blob_ok y.role u.root y.count u.uuid) (number_ok y.role (plain y) u at)
          ≡ not (elim c [ true ↦ not (blob_role (ruled u) y) | false ↦ not (number_role (role_of y.role) (ruled u) z y) ])
      by true = unfold pick_b in
          pick-or (eqb y.role 0) _
          ∙ ap (λ b. eqb y.role 0 || b) (and_last (eqb y.role 4) (eqb u.root 0) (eqb y.count 16) u.uuid) ∙ twice _
      by false = unfold pick_b in
          below (λ r. number_ok r (plain y) u at ≡ number_role (role_of r) (ruled u) z y) 12 number-role y.role (omega arith) ∙ twice _
