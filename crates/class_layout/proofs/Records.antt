-- The record that stands at a byte of a table: its kind is its first byte, its numbers are those of the table's own bytes, and what is
-- behind it begins where it ends. In order: numbers of a body; kinds; ranges, options and roots; the records that open a fragment.
-- Those of classes are in ClassRecords.
use mathlib.Core.Path.{◌≡◌, refl, sym, ap, ◌∙◌}
use Prim.Native.Nat.{ℕ, zero, suc, ◌+◌, ◌*◌, ◌≤◌, ◌<◌}
use native.Mathlib.Nat.{add-zero, add-suc, suc-add, zero-add}
use native.Mathlib.Omega.{arith}
use mathlib.Core.List.{List, [], ◌∷◌}
use mathlib.Core.Bool.{Bool, true}
use mathlib.Core.Logic.{⊎_elim}
use lib.Dec.{T, leb, eqb, eqb→eq}
use lib.ListN.{length, get_or, take, drop, get_or-eq_default}
use lib.Seq.{get_or-take, get_or-drop, drop-drop, take-take}
use Rattle.rules.specs.Record.{Fragment, preamble, trace_class, clock_class, stream_class, event_class, Record, unknown, fragment, root, class}
use Rattle.rules.specs.Record.{range, option}
use Rattle.rules.specs.Record.{number, u8, u64, Layout, no, bits_layout, layouts, layout_of, size, record_of, behind}
use Rattle.facts.proofs.Numbers.{lt-or-ge}
use Rattle.facts.proofs.Every.{both, both_left, both_right}

-- Numbers of a body, the bytes behind a record's first

abbrev pub body : List ℕ → ℕ → ℕ → List ℕ
body t at n = take n (drop 1 (drop at t))

pub u8-body : (t : List ℕ) (at n i : ℕ) → i < n → u8 (body t at n) i ≡ u8 t (at + suc i)
unfolding u8
u8-body t at n i h =
    let e : at + (1 + i) ≡ at + suc i = omega arith in
    get_or-take n (drop 1 (drop at t)) i 0 h ∙ get_or-drop 1 (drop at t) i 0 ∙ get_or-drop at t (1 + i) 0 ∙ ap (λ j. get_or t j 0) e

number-take : (m n : ℕ) (x : List ℕ) → m ≤ n → number (take n x) m ≡ number x m
unfolding number
number-take zero n x h = refl
number-take (suc m) zero x h = absurd (omega arith)
number-take (suc m) (suc n) [] h = refl
number-take (suc m) (suc n) (b ∷ x) h = ap (λ v. b + 256 * v) (number-take m n x (omega arith))

take_part : (i m n : ℕ) (x : List ℕ) → i + m ≤ n → take m (drop i (take n x)) ≡ take m (drop i x)
take_part zero m n x h = take-take m n x (omega arith)
take_part (suc i) m zero x h = absurd (omega arith)
take_part (suc i) m (suc n) [] h = refl
take_part (suc i) m (suc n) (b ∷ x) h = take_part i m n x (omega arith)

pub take-body : (t : List ℕ) (at n i m : ℕ) → i + m ≤ n → take m (drop i (body t at n)) ≡ take m (drop (at + suc i) t)
take-body t at n i m h =
    let e : at + (1 + i) ≡ at + suc i = omega arith in
    take_part i m n (drop 1 (drop at t)) h
    ∙ ap (take m) (drop-drop i 1 (drop at t) ∙ drop-drop (1 + i) at t ∙ ap (λ j. drop j t) e)

pub number-body : (t : List ℕ) (at n i m : ℕ) → i + m ≤ n → number (drop i (body t at n)) m ≡ number (drop (at + suc i) t) m
number-body t at n i m h =
    sym (number-take m m _ (omega arith)) ∙ ap (λ x. number x m) (take-body t at n i m h) ∙ number-take m m _ (omega arith)

-- what is behind a record
pub behind-at : (t : List ℕ) (at : ℕ) → behind (drop at t) ≡ drop (at + size (drop at t)) t
unfolding behind
behind-at t at = drop-drop (size (drop at t)) at t

-- Kinds of records

unfoldable pub fragment_kind : Fragment → ℕ
fragment_kind (preamble v) = 1
fragment_kind (trace_class u l) = 2
fragment_kind (clock_class i f) = 3
fragment_kind (stream_class i c) = 4
fragment_kind (event_class i j) = 5

-- whether a record may have a kind
unfoldable pub of_kind : ℕ → Record → Bool
of_kind k unknown = true
of_kind k (fragment f) = eqb k (fragment_kind f)
of_kind k (root r) = eqb k 6
of_kind k (class y) = both (leb 16 k) (leb k 32)
of_kind k (range g l h) = eqb k 33
of_kind k (option n) = eqb k 34

-- the test f passes at each row and its kind, counted from i
abbrev pub each_row : (ℕ → Layout → Bool) → ℕ → List Layout → Bool
each_row f i [] = true
each_row f i (l ∷ ls) = both (f i l) (each_row f (suc i) ls)

pub row : (f : ℕ → Layout → Bool) (i : ℕ) (ls : List Layout) → T (each_row f i ls) → (k : ℕ) → k < length ls → T (f (i + k) (get_or ls k no))
row f i [] h k l = absurd (omega arith)
row f i (r ∷ rs) h zero l = rw add-zero (both_left (f i r) _ h)
row f i (r ∷ rs) h (suc k) l = rw (add-suc, ← suc-add) (row f (suc i) rs (both_right (f i r) _ h) k (omega arith))

abbrev kind_test : List ℕ → ℕ → Layout → Bool
kind_test x k l = of_kind k (l.1 (take l.0 (drop 1 x)))

kinds-pass : (x : List ℕ) → T (each_row (kind_test x) 0 layouts)
unfolding layouts bits_layout no of_kind fragment_kind
kinds-pass x = tt

past-pass : (x : List ℕ) (k : ℕ) → 35 ≤ k → T (kind_test x k (get_or layouts k no))
unfolding layouts of_kind no
past-pass x k h = rw (get_or-eq_default layouts no {n = k} h) tt

-- a record is of the kind that its first byte says
kind_at : (x : List ℕ) → T (of_kind (u8 x 0) (record_of x))
unfolding record_of layout_of
kind_at x = ⊎_elim
    (λ (l : u8 x 0 < 35). rw zero-add at (row (kind_test x) 0 layouts (kinds-pass x) (u8 x 0) (unfold layouts in l)))
    (λ (l : 35 ≤ u8 x 0). past-pass x (u8 x 0) l)
    (lt-or-ge (u8 x 0) 35)

first_byte : (t : List ℕ) (at : ℕ) → u8 (drop at t) 0 ≡ u8 t at
unfolding u8
first_byte t at = get_or-drop at t 0 0 ∙ rw add-zero

pub kind-of : (t : List ℕ) (at : ℕ) (r : Record) → record_of (drop at t) ≡ r → T (of_kind (u8 t at) r)
kind-of t at r e = rw (e, first_byte t at) at (kind_at (drop at t))

module _ (t : List ℕ) (at k : ℕ) (e : u8 t at ≡ k) where
  pub size-at : size (drop at t) ≡ suc (get_or layouts k no).0
  unfolding size layout_of
  size-at = rw (first_byte t at, e)

  pub record-at : record_of (drop at t) ≡ (get_or layouts k no).1 (body t at (get_or layouts k no).0)
  unfolding record_of layout_of
  record-at = ap (λ j. (get_or layouts j no).1 (body t at (get_or layouts j no).0)) (first_byte t at ∙ e)

-- Ranges, options, roots: a record of the kind k and of n bytes that says s

pub record Here (t : List ℕ) (at k n : ℕ) (r s : Record) : Type 0 where
  pub kind : u8 t at ≡ k
  pub bytes : size (drop at t) ≡ n
  pub says : r ≡ s

pub range_at : (t : List ℕ) (at g l h : ℕ) → record_of (drop at t) ≡ range g l h
    → Here t at 33 18 (range g l h) (range (u8 t (at + 1)) (u64 t (at + 2)) (u64 t (at + 10)))
unfolding of_kind layouts u64
range_at t at g l h e =
    let k : u8 t at ≡ 33 = eqb→eq _ 33 (kind-of t at _ e) in
    record {
      kind = k;
      bytes = size-at t at 33 k;
      says = sym e ∙ record-at t at 33 k
          ∙ rw (u8-body t at 17 0 (omega arith), number-body t at 17 1 8 (omega arith), number-body t at 17 9 8 (omega arith));
    }

pub option-at : (t : List ℕ) (at n : ℕ) → record_of (drop at t) ≡ option n → Here t at 34 2 (option n) (option (u8 t (at + 1)))
unfolding of_kind layouts
option-at t at n e =
    let k : u8 t at ≡ 34 = eqb→eq _ 34 (kind-of t at _ e) in
    record { kind = k; bytes = size-at t at 34 k; says = sym e ∙ record-at t at 34 k ∙ ap option (u8-body t at 1 0 (omega arith)) }

pub root-record : (t : List ℕ) (at : ℕ) → u8 t at ≡ 6 → record_of (drop at t) ≡ root (u8 t (at + 1))
unfolding layouts
root-record t at k = record-at t at 6 k ∙ ap root (u8-body t at 1 0 (omega arith))

pub root-size : (t : List ℕ) (at : ℕ) → u8 t at ≡ 6 → size (drop at t) ≡ 2
unfolding layouts
root-size t at k = size-at t at 6 k

pub root-kind : (t : List ℕ) (at r : ℕ) → record_of (drop at t) ≡ root r → u8 t at ≡ 6
unfolding of_kind
root-kind t at r e = eqb→eq _ 6 (kind-of t at _ e)

-- The records that open a fragment

pub preamble-at : (t : List ℕ) (at v : ℕ) → record_of (drop at t) ≡ fragment (preamble v) → (u8 t at ≡ 1) × (size (drop at t) ≡ 2)
unfolding of_kind fragment_kind layouts
preamble-at t at v e = let k : u8 t at ≡ 1 = eqb→eq _ 1 (kind-of t at _ e) in (k, size-at t at 1 k)

pub trace-at : (t : List ℕ) (at u : ℕ) (l : List ℕ) → record_of (drop at t) ≡ fragment (trace_class u l)
    → Here t at 2 18 (fragment (trace_class u l)) (fragment (trace_class (u8 t (at + 1)) (take 16 (drop (at + 2) t))))
unfolding of_kind fragment_kind layouts
trace-at t at u l e =
    let k : u8 t at ≡ 2 = eqb→eq _ 2 (kind-of t at _ e) in
    record {
      kind = k;
      bytes = size-at t at 2 k;
      says = sym e ∙ record-at t at 2 k ∙ rw (u8-body t at 17 0 (omega arith), take-body t at 17 1 16 (omega arith));
    }

pub clock-at : (t : List ℕ) (at i f : ℕ) → record_of (drop at t) ≡ fragment (clock_class i f) → (u8 t at ≡ 3) × (size (drop at t) ≡ 10)
unfolding of_kind fragment_kind layouts
clock-at t at i f e = let k : u8 t at ≡ 3 = eqb→eq _ 3 (kind-of t at _ e) in (k, size-at t at 3 k)

pub stream_at : (t : List ℕ) (at i c : ℕ) → record_of (drop at t) ≡ fragment (stream_class i c)
    → Here t at 4 10 (fragment (stream_class i c)) (fragment (stream_class (u64 t (at + 1)) (u8 t (at + 9))))
unfolding of_kind fragment_kind layouts u64
stream_at t at i c e =
    let k : u8 t at ≡ 4 = eqb→eq _ 4 (kind-of t at _ e) in
    record {
      kind = k;
      bytes = size-at t at 4 k;
      says = sym e ∙ record-at t at 4 k ∙ rw (u8-body t at 9 8 (omega arith), number-body t at 9 0 8 (omega arith));
    }

pub event-at : (t : List ℕ) (at i j : ℕ) → record_of (drop at t) ≡ fragment (event_class i j)
    → Here t at 5 17 (fragment (event_class i j)) (fragment (event_class (u64 t (at + 1)) (u64 t (at + 9))))
unfolding of_kind fragment_kind layouts u64
event-at t at i j e =
    let k : u8 t at ≡ 5 = eqb→eq _ 5 (kind-of t at _ e) in
    record {
      kind = k;
      bytes = size-at t at 5 k;
      says = sym e ∙ record-at t at 5 k ∙ rw (number-body t at 16 0 8 (omega arith), number-body t at 16 8 8 (omega arith));
    }
