-- The fragments of an accepted table: the first one, and what is behind it; and the walk over homes, which goes over both. In order: a
-- fragment in front of others; the preamble in front of them all; the walk.
use Rattle.std.specs.Prelude.{Option}
use mathlib.Core.Path.{◌≡◌, refl, sym, ap, ◌∙◌, subst}
use Prim.Native.Nat.{ℕ, zero, suc, ◌≤◌}
use native.Mathlib.Omega.{arith}
use mathlib.Core.List.{List, [], ◌∷◌, ◌++◌}
use mathlib.Core.Bool.{Bool, true, false, ◌||◌}
use lib.ListN.{length, length-append, take}
use lib.Dec.{ltb}
use borrow.Author.Tests.{ltb-false}
use Rattle.facts.proofs.Truth.{or-false}
use Rattle.facts.proofs.Faults.{pick-zero, pick-false}
use Rattle.facts.proofs.Parsed.{NoFault}
use Rattle.laws.proofs.Sound.{Sound, no-fault}
use Rattle.rules.specs.Class.{Class}
use Rattle.rules.specs.Faults.{pick, Ids, no_ids, seen, record_fault, open_fault, first_fault}
use Rattle.rules.specs.Record.{Fragment, preamble, trace_class, clock_class, stream_class, event_class}
use Rattle.rules.specs.Record.{Record, unknown, fragment, root, class, range, option, record_of, size, behind}
use Rattle.rules.specs.Table.{Table}
use Rattle.rules.specs.Parse.{Parsed, bad, good, Parser, then, sound, missing, one, parse_roots, is_timed, has_uuid, root_numbers, add}
use Rattle.rules.specs.Parse.{parse_fragment, parse_opened, parse_fragments, parse_table}
use Rattle.rules.specs.Homes.{Homes, walked, walk_roots, homes_before, header_homes, stream_homes, walk_rest, walk_opened, walk_fragments}
use Rattle.promises.proofs.TableRounds.{behind-less}
use Rattle.promises.proofs.Local.{Whole, whole-record, whole-behind, first-whole, first-split, first-record, bad-good}
use Rattle.promises.proofs.Roots.{Stops, Rooted, roots-local}
use Rattle.promises.proofs.Homed.{through, is-whole, whole-one, OfRoots, RootsEnd, over, within, roots-end}

pub nil-of : (x : List ℕ) → length x ≤ 0 → x ≡ []
nil-of [] h = refl
nil-of (b ∷ x) h = absurd (omega arith)

pub missing-nil : (x : List ℕ) → missing x ≡ true → x ≡ []
unfolding missing
missing-nil [] h = refl
missing-nil (b ∷ x) h = let z : ◌≡◌ {A = ℕ} 0 1 = cc in absurd (omega arith)

-- a fragment's first record that has no fault behind what was seen
abbrev pub Clean : Ids → Fragment → Type 0
Clean q g = record_fault false q (fragment g) (open_fault q (fragment g)) ≡ 0

-- the roots of a fragment, from x to y
abbrev pub RootsOf : Fragment → List ℕ → List (Option Class) → List ℕ → Type 0
RootsOf g x cs y = Rooted (is_timed g) (has_uuid g) (root_numbers g) x cs y

record ParsedFragment (n : ℕ) (q : Ids) (x : List ℕ) (t : Table) (y : List ℕ) : Type 0 where
  g : Fragment
  fits : size x ≤ length x
  is : record_of x ≡ fragment g
  clean : Clean q g
  goes : parse_fragment q (parse_fragments n) g (behind x) ≡ good t y

opens : (n : ℕ) (q : Ids) (x : List ℕ) (t : Table) (y : List ℕ)
    → missing x ≡ false → parse_fragments (suc n) q x ≡ good t y → ParsedFragment n q x t y
unfolding parse_fragments one sound parse_opened open_fault
opens n q x t y m h = by _ refl (rw (m, parse_fragments) at h)
  where
    nine : (r : Record) → record_of x ≡ r → Sound (missing x) (ltb (length x) (size x)) (open_fault q r)
        → record_fault (ltb (length x) (size x)) q r (open_fault q r) ≡ 0
        → parse_opened q (parse_fragments n) r (behind x) ≡ good t y → ParsedFragment n q x t y
    nine unknown e s c h = absurd (omega (arith, s.later))
    nine (fragment g) e s c h = record { g = g; fits = ltb-false _ _ s.fits; is = e; clean = rw s.fits at c; goes = h }
    nine (root r) e s c h = absurd (omega (arith, s.later))
    nine (class k) e s c h = absurd (omega (arith, s.later))
    nine (range k l i) e s c h = absurd (omega (arith, s.later))
    nine (option k) e s c h = absurd (omega (arith, s.later))

    by : (v : ℕ) → pick (missing x) 3 (record_fault (ltb (length x) (size x)) q (record_of x) (open_fault q (record_of x))) ≡ v
        → sound v x (λ x'. parse_opened q (parse_fragments n) (record_of x) x') ≡ good t y → ParsedFragment n q x t y
    by zero e h =
        let s = no-fault (missing x) (ltb (length x) (size x)) q (record_of x) (open_fault q (record_of x)) e in
        nine (record_of x) refl s (pick-zero (missing x) 2 _ e) h
    by (suc v) e h = absurd (bad-good (suc v) x t y h)

-- a fragment: its first record w, its roots, and the bytes x₁ behind them, which say t₁
pub record Front (n : ℕ) (q : Ids) (x : List ℕ) (t : Table) (y : List ℕ) : Type 0 where
  pub g : Fragment
  pub clean : Clean q g
  pub w : List ℕ
  pub whole : Whole w
  pub is : record_of w ≡ fragment g
  pub cs : List (Option Class)
  pub x₁ : List ℕ
  pub roots : RootsOf g (behind x) cs x₁
  pub ends : (h : Homes) → RootsEnd cs h roots.u
  pub split : x ≡ w ++ (roots.u ++ x₁)
  pub len : length x₁ ≤ n
  pub t₁ : Table
  pub y₁ : List ℕ
  pub rest : parse_fragments n (seen q g) x₁ ≡ good t₁ y₁
  pub all : add g cs t₁ ≡ t

pub front : (n : ℕ) (q : Ids) (x : List ℕ) (t : Table) (y : List ℕ) → length x ≤ suc n → missing x ≡ false
    → parse_fragments (suc n) q x ≡ good t y → Front n q x t y
unfolding parse_fragment
front n q x t y l m h =
    let o = opens n q x t y m h in
    let g = o.g in
    let roots = parse_roots (seen q g) (is_timed g) (has_uuid g) (root_numbers g) (behind x) in
    let p₁ = through roots (λ cs x. then (parse_fragments n (seen q g) x) (λ t x. good (add g cs t) x)) t y o.goes in
    let r = roots-local (is_timed g) (has_uuid g) (root_numbers g) (seen q g) (behind x) p₁.a p₁.x p₁.first in
    let p₂ = through (parse_fragments n (seen q g) p₁.x) (λ t x. good (add g p₁.a t) x) t y p₁.second in
    let e₂ : ◌≡◌ {A = Parsed Table} (good (add g p₁.a p₂.a) p₂.x) (good t y) = p₂.second in
    let bl : length (r.u ++ p₁.x) ≤ n = rw r.split at (behind-less x n m l) in
    record {
      g = g;
      clean = o.clean;
      w = take (size x) x;
      whole = first-whole x m o.fits;
      is = first-record x m o.fits ∙ o.is;
      cs = p₁.a;
      x₁ = p₁.x;
      roots = r;
      ends = roots-end (is_timed g) (has_uuid g) (seen q g) (root_numbers g) (behind x) p₁.a p₁.x p₁.first r.u r.split;
      split = sym (first-split x) ∙ ap (λ l. take (size x) x ++ l) r.split;
      len = omega (arith, simp length-append at bl);
      t₁ = p₂.a;
      y₁ = p₂.x;
      rest = p₂.first;
      all = cc;
    }

-- The preamble

-- its record w, and the bytes x₁ behind it, which say the table
pub record Start (x : List ℕ) (t : Table) (y : List ℕ) : Type 0 where
  pub limit : length x ≤ 65536
  pub v : ℕ
  pub clean : first_fault false (fragment (preamble v)) ≡ 0
  pub w : List ℕ
  pub whole : Whole w
  pub is : record_of w ≡ fragment (preamble v)
  pub cs : List (Option Class)
  pub x₁ : List ℕ
  pub roots : Rooted false false [] (behind x) cs x₁
  pub ends : (h : Homes) → RootsEnd cs h roots.u
  pub split : x ≡ w ++ (roots.u ++ x₁)
  pub rest : parse_fragments (length x₁) no_ids x₁ ≡ good t y

unfoldable pub behind-first : Parser Table
behind-first x = then (parse_roots no_ids false false [] x) (λ cs x. parse_fragments (length x) no_ids x)

-- the first record is a preamble, and whole
record Preamble (short : Bool) (r : Record) : Type 0 where
  fits : short ≡ false
  v : ℕ
  is : r ≡ fragment (preamble v)
  clean : first_fault false (fragment (preamble v)) ≡ 0

a-preamble : (short : Bool) (r : Record) → first_fault short r ≡ 0 → Preamble short r
unfolding first_fault
a-preamble short (fragment (preamble v)) h = record {
  fits = pick-false short 2 _ h;
  v = v;
  is = refl;
  clean = subst (λ b. first_fault b (fragment (preamble v)) ≡ 0) (pick-false short 2 _ h) h;
}
a-preamble short unknown h = absurd (omega arith)
a-preamble short (fragment (trace_class u l)) h = let z = pick-zero short 2 _ h in absurd (omega arith)
a-preamble short (fragment (clock_class i f)) h = let z = pick-zero short 2 _ h in absurd (omega arith)
a-preamble short (fragment (stream_class i c)) h = let z = pick-zero short 2 _ h in absurd (omega arith)
a-preamble short (fragment (event_class i j)) h = let z = pick-zero short 2 _ h in absurd (omega arith)
a-preamble short (root r) h = let z = pick-zero short 2 _ h in absurd (omega arith)
a-preamble short (class y) h = let z = pick-zero short 2 _ h in absurd (omega arith)
a-preamble short (range g l k) h = let z = pick-zero short 2 _ h in absurd (omega arith)
a-preamble short (option n) h = let z = pick-zero short 2 _ h in absurd (omega arith)

pub start : (x : List ℕ) (t : Table) (y : List ℕ) → parse_table x ≡ good t y → Start x t y
unfolding parse_table sound behind-first
start x t y h = by (missing x || ltb 65536 (length x)) refl h
  where
    of : missing x ≡ false → length x ≤ 65536 → first_fault (ltb (length x) (size x)) (record_of x) ≡ 0 → behind-first (behind x) ≡ good t y
        → Start x t y
    of m l c h =
        let k = a-preamble (ltb (length x) (size x)) (record_of x) c in
        let fits = ltb-false (length x) (size x) k.fits in
        let p = through (parse_roots no_ids false false [] (behind x)) (λ cs x. parse_fragments (length x) no_ids x) t y h in
        let r = roots-local false false [] no_ids (behind x) p.a p.x p.first in
        record {
          limit = l;
          v = k.v;
          clean = k.clean;
          w = take (size x) x;
          whole = first-whole x m fits;
          is = first-record x m fits ∙ k.is;
          cs = p.a;
          x₁ = p.x;
          roots = r;
          ends = roots-end false false no_ids [] (behind x) p.a p.x p.first r.u r.split;
          split = sym (first-split x) ∙ ap (λ l. take (size x) x ++ l) r.split;
          rest = p.second;
        }

    by2 : missing x ≡ false → length x ≤ 65536 → (v : ℕ) → first_fault (ltb (length x) (size x)) (record_of x) ≡ v
        → sound v x behind-first ≡ good t y → Start x t y
    by2 m l zero e h = of m l e h
    by2 m l (suc v) e h = absurd (bad-good (suc v) x t y h)

    by : (b : Bool) → (missing x || ltb 65536 (length x)) ≡ b
        → elim b as (λ _. Parsed Table) [
          | true ↦ bad 1 x
          | false ↦ sound (first_fault (ltb (length x) (size x)) (record_of x)) x behind-first
        ] ≡ good t y
        → Start x t y
    by true e h = absurd (bad-good 1 x t y h)
    by false e h = by2 (or-false (missing x) _ e).0 (ltb-false 65536 (length x) (or-false (missing x) _ e).1) _ refl h

-- The walk

-- over a fragment's first record
pub walk_step : (m : ℕ) (h : Homes) (l : List (ℕ × Homes)) (w z : List ℕ) (g : Fragment) → Whole w → record_of w ≡ fragment g
    → walk_fragments (suc m) h l (w ++ z) ≡ walk_rest (walk_fragments m) h l g (walk_roots (length z) (homes_before h l g) z)
unfolding walk_fragments walk_opened
walk_step m h l w z g hw e =
    rw (is-whole w z hw, whole-record w z hw, e, whole-behind w z hw, walk_fragments) refl

-- its roots u, and x₁ behind them
module _ (w u x₁ : List ℕ) (g : Fragment) (cs : List (Option Class)) (hw : Whole w) (e : record_of w ≡ fragment g)
    (r : (h : Homes) → RootsEnd cs h u) (sx : Stops x₁) where
  -- where the walk finds no fault it goes over the roots, and goes on behind them
  pub record Behind (h : Homes) (l : List (ℕ × Homes)) : Type 0 where
    pub k : Homes
    pub told : OfRoots cs (homes_before h l g) k
    pub goes : (m : ℕ) (z : List ℕ) → length u ≤ m → Stops z → walk_roots m (homes_before h l g) (u ++ z) ≡ walked k z
    pub m : ℕ
    pub len : length x₁ ≤ m
    pub none : NoFault (walk_fragments m (header_homes g k h) (stream_homes g k l) x₁)

  pub goes-behind : (h : Homes) (l : List (ℕ × Homes)) (m : ℕ) → length (w ++ (u ++ x₁)) ≤ m
      → NoFault (walk_fragments m h l (w ++ (u ++ x₁))) → Behind h l
  unfolding walk_rest
  goes-behind h l zero n f = absurd (omega (arith, whole-one w hw, simp length-append at n))
  goes-behind h l (suc m) n f = by (r (homes_before h l g))
    where
      len : length u ≤ length (u ++ x₁)
      len = rw (length-append u x₁) (omega arith)

      f' : NoFault (walk_rest (walk_fragments m) h l g (walk_roots (length (u ++ x₁)) (homes_before h l g) (u ++ x₁)))
      f' = subst NoFault (walk_step m h l w (u ++ x₁) g hw e) f

      by : RootsEnd cs (homes_before h l g) u → Behind h l
      by (over k t p) = record {
        k = k;
        told = t;
        goes = p;
        m = m;
        len = omega (arith, whole-one w hw, simp length-append at n);
        none = subst (λ o. NoFault (walk_rest (walk_fragments m) h l g o)) (p (length (u ++ x₁)) x₁ len sx) f';
      }
      by (within v p) = absurd (subst (λ o. NoFault (walk_rest (walk_fragments m) h l g o)) (p (length (u ++ x₁)) x₁ len sx) f')
