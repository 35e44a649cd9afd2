-- Numbers 2 and 3: the rules' test of the rest of the bytes is the test at a byte; and what stands behind a whole record.
use mathlib.Core.Path.{◌≡◌, refl, ◌∙◌}
use mathlib.Core.Logic.{◌⊎◌, inl, inr, ⊎_elim}
use mathlib.Core.Bool.{Bool, true, false}
use mathlib.Core.List.{List}
use Prim.Native.Nat.{ℕ, ◌+◌, ◌-◌, ◌<◌, ◌≤◌}
use native.Mathlib.Omega.{arith}
use lib.ListN.{length}
use lib.Dec.{ltb, leb, eqb}
use borrow.Author.Tests.{leb-false, le-leb, lt-leb, eq-eqb, ne_eqb, eqb-true, eqb-false}
use Rattle.facts.proofs.Numbers.{lt-or-ge}
use Rattle.facts.proofs.Truth.{clash}
use Rattle.rules.specs.Record.{Record, unknown, fragment, root, class, range, option, record_of, size, behind}
use Rattle.rules.specs.Faults.{pick, Ids, record_fault}
use Rattle.rules.specs.Parse.{missing}
use Rattle.table_offsets.specs.Bodies.{known, no_kind, body_mark}
use Rattle.table_offsets.specs.Check.{pick_n, first, byte_at, head_fault}
use Rattle.table_offsets.proofs.TieTests.{not-ltb, ltb-more}
use Rattle.table_offsets.proofs.TieBytes.{Rest, rest-length, rest-missing, rest-on}
use Rattle.table_offsets.proofs.TieKinds.{Stands, nothing, a_preamble, a_trace, a_clock, a_stream}
use Rattle.table_offsets.proofs.TieKinds.{an_event, a_root, a_class, a_range, an_option}
use Rattle.table_offsets.proofs.TieKinds.{stands, known-size}

pub known-or-not : (t : List ℕ) (at k n : ℕ) (r : Record) → Stands t at k n r
    → ((n ≡ no_kind) × (r ≡ unknown)) ⊎ ((n ≡ no_kind → ⊥) × (known r ≡ true))
unfolding known
known-or-not t at k n r nothing = inl (refl, refl)
known-or-not t at k n r a_preamble = inr (λ e. omega arith, refl)
known-or-not t at k n r a_trace = inr (λ e. omega arith, refl)
known-or-not t at k n r a_clock = inr (λ e. omega arith, refl)
known-or-not t at k n r a_stream = inr (λ e. omega arith, refl)
known-or-not t at k n r an_event = inr (λ e. omega arith, refl)
known-or-not t at k n r a_root = inr (λ e. omega arith, refl)
known-or-not t at k n r (a_class l h b c e s) = inr (λ e. omega arith, refl)
known-or-not t at k n r a_range = inr (λ e. omega arith, refl)
known-or-not t at k n r an_option = inr (λ e. omega arith, refl)

-- a record's test: an unknown kind comes first, and then whether the bytes end in it
pub record Tested (test : Bool → Record → ℕ) : Type 0 where
  pub unknowns : (short : Bool) → test short unknown ≡ 2
  pub others : (short : Bool) (r : Record) → known r ≡ true → test short r ≡ pick short 3 (test false r)

pub record-tested : (q : Ids) (m : ℕ) → Tested (λ short r. record_fault short q r m)
unfolding record_fault pick known
record-tested q m = record { unknowns = λ s. refl; others = others }
  where
    others : (s : Bool) (r : Record) → known r ≡ true → record_fault s q r m ≡ pick s 3 (record_fault false q r m)
    others s unknown h = absurd (clash h)
    others s (fragment g) h = refl
    others s (root n) h = refl
    others s (class y) h = refl
    others s (range g l u) h = refl
    others s (option n) h = refl

pick_first : (b c : Bool) (m : ℕ) → pick b 3 (pick c 3 m) ≡ first (pick_n b 3 (pick_n false 2 (pick_n c 3 0))) m
unfolding pick pick_n first
pick_first true c m = refl
pick_first false true m = refl
pick_first false false m = refl

pick-unknown : (b c : Bool) (m : ℕ) → pick b 3 2 ≡ first (pick_n b 3 (pick_n true 2 (pick_n c 3 0))) m
unfolding pick pick_n first
pick-unknown true c m = refl
pick-unknown false c m = refl

-- a whole record
pub record Whole (t : List ℕ) (at : ℕ) : Type 0 where
  pub known : body_mark (byte_at t at) ≡ no_kind → ⊥
  pub fits : at + (1 + body_mark (byte_at t at)) ≤ length t

pub head-whole : (t : List ℕ) (at : ℕ) → head_fault t at ≡ 0 → Whole t at
unfolding head_fault
head-whole t at =
    by (leb (length t) at) (eqb (body_mark (byte_at t at)) no_kind) (leb (length t - at) (body_mark (byte_at t at))) refl refl refl
  where
    by : (a b c : Bool) → leb (length t) at ≡ a → eqb (body_mark (byte_at t at)) no_kind ≡ b
        → leb (length t - at) (body_mark (byte_at t at)) ≡ c
        → pick_n a 3 (pick_n b 2 (pick_n c 3 0)) ≡ 0 → Whole t at
    by true b c p q r e = absurd (unfold pick_n in omega arith)
    by false true c p q r e = absurd (unfold pick_n in omega arith)
    by false false true p q r e = absurd (unfold pick_n in omega arith)
    by false false false p q r e = record {
      known = eqb-false (body_mark (byte_at t at)) no_kind q;
      fits = omega (arith, leb-false (length t) at p, leb-false (length t - at) (body_mark (byte_at t at)) r);
    }

pub whole-head : (t : List ℕ) (at : ℕ) → Whole t at → head_fault t at ≡ 0
unfolding head_fault pick_n
whole-head t at w =
    rw (
      lt-leb (length t) at (omega (arith, w.fits)),
      ne_eqb (body_mark (byte_at t at)) no_kind w.known,
      lt-leb (length t - at) (body_mark (byte_at t at)) (omega (arith, w.fits)),
    )

pub head-most : (t : List ℕ) (at : ℕ) → head_fault t at ≤ 3
unfolding head_fault
head-most t at = by (leb (length t) at) (eqb (body_mark (byte_at t at)) no_kind) (leb (length t - at) (body_mark (byte_at t at)))
  where
    by : (a b c : Bool) → pick_n a 3 (pick_n b 2 (pick_n c 3 0)) ≤ 3
    by true b c = unfold pick_n in omega arith
    by false true c = unfold pick_n in omega arith
    by false false true = unfold pick_n in omega arith
    by false false false = unfold pick_n in omega arith

module _ (t : List ℕ) (at : ℕ) (x : List ℕ) (h : Rest t at x) where
  -- the bytes end inside a record of a known kind
  short-at : (body_mark (byte_at t at) ≡ no_kind → ⊥) → ltb (length x) (size x) ≡ leb (length t - at) (body_mark (byte_at t at))
  short-at k = rw (known-size t at x h k, rest-length t at x h) (ltb-more (length t - at) (body_mark (byte_at t at)))

  -- the bytes hold a record of a known kind
  pub whole-at : (body_mark (byte_at t at) ≡ no_kind → ⊥) → leb (size x) (length x) ≡ eqb (head_fault t at) 0
  whole-at k = rw (known-size t at x h k, rest-length t at x h) (by (eqb (head_fault t at) 0) refl)
    where
      by : (b : Bool) → eqb (head_fault t at) 0 ≡ b → leb (1 + body_mark (byte_at t at)) (length t - at) ≡ b
      by true e =
          le-leb (1 + body_mark (byte_at t at)) (length t - at) (omega (arith, (head-whole t at (eqb-true (head_fault t at) 0 e)).fits))
      by false e = ⊎_elim
          (λ (l : length t - at < 1 + body_mark (byte_at t at)). lt-leb (1 + body_mark (byte_at t at)) (length t - at) l)
          (λ (l : 1 + body_mark (byte_at t at) ≤ length t - at). absurd (eqb-false (head_fault t at) 0 e
          (whole-head t at (record { known = k; fits = omega (arith, h.within) }))))
          (lt-or-ge (length t - at) (1 + body_mark (byte_at t at)))

  pub missing_at : missing x ≡ leb (length t) at
  missing_at = rest-missing t at x h ∙ not-ltb at (length t)

  -- the record's number, with those behind 3
  pub record-fault : (test : Bool → Record → ℕ) → Tested test
      → pick (missing x) 3 (test (ltb (length x) (size x)) (record_of x)) ≡ first (head_fault t at) (test false (record_of x))
  unfolding head_fault
  record-fault test g = rw missing_at (⊎_elim
      (λ e. rw (e.1, eq-eqb (body_mark (byte_at t at)) no_kind e.0, g.unknowns (ltb (length x) (size x)))
      (pick-unknown (leb (length t) at) (leb (length t - at) (body_mark (byte_at t at))) (test false unknown)))
      (λ k. rw (
        short-at k.0,
        g.others (leb (length t - at) (body_mark (byte_at t at))) (record_of x) k.1,
        ne_eqb (body_mark (byte_at t at)) no_kind k.0,
      )
      (pick_first (leb (length t) at) (leb (length t - at) (body_mark (byte_at t at))) (test false (record_of x))))
      (known-or-not t at _ _ _ (stands t at x h)))

  -- the bytes behind it
  pub rest-behind : Whole t at → (n : ℕ) → body_mark (byte_at t at) ≡ n → Rest t (at + (1 + n)) (behind x)
  unfolding behind
  rest-behind w n e =
      let fits : at + (1 + n) ≤ length t = omega (arith, w.fits) in
      rw (known-size t at x h w.known, e) (rest-on t at (1 + n) x h fits)
