-- The walk over a fragment's roots is the rules' parse of them: each there or not, in rising number, and no other behind them.
use Rattle.std.specs.Prelude.{Option, None, Some}
use mathlib.Core.Path.{◌≡◌, refl, sym}
use mathlib.Core.Logic.{⊎_elim}
use mathlib.Core.Bool.{Bool, true, false, not, ◌&&◌}
use mathlib.Core.List.{List, [], ◌∷◌}
use Prim.Native.Nat.{ℕ, zero, suc, ◌+◌, ◌<◌}
use native.Mathlib.Omega.{arith}
use lib.ListN.{length}
use lib.Dec.{ltb, leb, eqb}
use borrow.Author.Tests.{eqb-true, ne_eqb}
use Rattle.facts.specs.Bytes.{Bytes}
use Rattle.facts.proofs.Truth.{and_left, and_right, and_none}
use Rattle.rules.specs.Class.{Class}
use Rattle.rules.specs.Record.{Record, unknown, fragment, root, class, range, option, record_of, behind, size, layouts}
use Rattle.rules.specs.Faults.{Ids, top, root_fault}
use Rattle.rules.specs.Parse.{bad, good, then as rules_then, one, is_root, any_root, parse_class, parse_roots}
use Rattle.table_offsets.specs.Walks.{Fine}
use Rattle.table_offsets.specs.Bodies.{known, mark, no_kind, body_mark}
use Rattle.table_offsets.specs.Check.{pick_n, pick_w, first, or_else, then, byte_at, head_fault}
use Rattle.table_offsets.specs.Check.{root_here, stray, under, root_at, roots_at, class_at}
use Rattle.table_offsets.proofs.TieBytes.{Rest}
use Rattle.table_offsets.proofs.TieKinds.{Stands, nothing, a_preamble, a_trace, a_clock, a_stream}
use Rattle.table_offsets.proofs.TieKinds.{an_event, a_root, a_class, a_range, an_option}
use Rattle.table_offsets.proofs.TieKinds.{stands, stands-as}
use Rattle.table_offsets.proofs.TieHead.{head-whole, known-or-not, whole-at, missing_at, rest-behind}
use Rattle.table_offsets.proofs.TieIds.{Sees}
use Rattle.table_offsets.proofs.TieOrder.{Late}
use Rattle.table_offsets.proofs.TieWalk.{Tied, both-good, then_tie, made-tie, one-tie}
use Rattle.table_offsets.proofs.TieSays.{ruled}
use Rattle.table_offsets.proofs.TieTests.{eqb_swap, pick_same, pick-high}
use Rattle.table_offsets.proofs.TieClasses.{class-tie}

-- Which record is a root

body_mark-root : body_mark 6 ≡ 1
unfolding body_mark mark known layouts
body_mark-root = refl

is-root : (t : List ℕ) (at m k n : ℕ) (r : Record) → Stands t at k n r → (n ≡ no_kind → ⊥)
    → is_root m r ≡ (eqb k 6 && eqb (byte_at t (at + 1)) m)
unfolding is_root
is-root t at m k n r nothing h = absurd (h refl)
is-root t at m k n r a_preamble h = refl
is-root t at m k n r a_trace h = refl
is-root t at m k n r a_clock h = refl
is-root t at m k n r a_stream h = refl
is-root t at m k n r an_event h = refl
is-root t at m k n r a_root h = eqb_swap m (byte_at t (at + 1))
is-root t at m k n r (a_class l u b e f c) h = rw (ne_eqb k 6 (λ g. omega arith))
is-root t at m k n r a_range h = refl
is-root t at m k n r an_option h = refl

any-root : (t : List ℕ) (at k n : ℕ) (r : Record) → Stands t at k n r → body_mark k ≡ n → any_root r ≡ eqb k 6
unfolding any_root
any-root t at k n r nothing h = sym (ne_eqb k 6 (λ e. let f : body_mark 6 ≡ no_kind = rw e at h in omega (arith, body_mark-root)))
any-root t at k n r a_preamble h = refl
any-root t at k n r a_trace h = refl
any-root t at k n r a_clock h = refl
any-root t at k n r a_stream h = refl
any-root t at k n r an_event h = refl
any-root t at k n r a_root h = refl
any-root t at k n r (a_class l u b e f c) h = sym (ne_eqb k 6 (λ g. omega arith))
any-root t at k n r a_range h = refl
any-root t at k n r an_option h = refl

root-here : (t : List ℕ) (at : ℕ) (x : List ℕ) → Rest t at x → (n : ℕ)
    → (leb (size x) (length x) && is_root n (record_of x)) ≡ root_here t n at
unfolding root_here is_root
root-here t at x r n = ⊎_elim
    (λ e. rw (e.1, ne_eqb (head_fault t at) 0 (λ f. (head-whole t at f).known e.0)) (and_none (leb (size x) (length x))))
    (λ k. rw (whole-at t at x r k.0, is-root t at n _ _ _ (stands t at x r) k.0))
    (known-or-not t at _ _ _ (stands t at x r))

a-root : (t : List ℕ) (at n : ℕ) (r : Record) → Stands t at 6 n r → (n ≡ no_kind → ⊥) → (r ≡ root (byte_at t (at + 1))) × (n ≡ 1)
a-root t at n r nothing h = absurd (h refl)
a-root t at n r a_root h = (refl, refl)
a-root t at n r (a_class l u b f g c) h = absurd (omega arith)

-- A root that is not wanted

root-late : Late root_fault
unfolding root_fault
root-late = record { fragments = λ g. refl; high = high }
  where
    high : (r : Record) → root_fault r < 9 → root_fault r ≡ 0
    high unknown l = absurd (omega arith)
    high (fragment f) l = absurd (omega arith)
    high (root r) l = pick-high (ltb r 6) 9 10 (omega arith) (λ h. absurd (omega arith)) l
    high (class y) l = absurd (omega arith)
    high (range g a b) l = absurd (omega arith)
    high (option n) l = absurd (omega arith)

pick_some : (b : Bool) → pick_n b 9 10 ≡ 0 → ⊥
unfolding pick_n
pick_some true h = omega arith
pick_some false h = omega arith

-- n roots from the number m on
abbrev pub numbers : ℕ → ℕ → List ℕ
numbers m zero = []
numbers m (suc n) = m ∷ numbers (m + 1) n

abbrev pub Any : {A : Type 0} → A → ℕ → Type 0
Any a e = Unit {0}

module _ (t : List ℕ) (b : Bytes t) (q : Ids) (trace : Bool) (seen : List ℕ) (known : Sees t q trace seen) (timed uuid : Bool) where
  pub stray-tie : (at : ℕ) (x : List ℕ) → Rest t at x
      → Tied t trace seen Any (parse_roots q timed uuid [] x) (or_else (stray t at) at (Fine at))
  unfolding parse_roots stray
  stray-tie at x r = rw (missing_at t at x r, any-root t at _ _ _ (stands t at x r) refl, parse_roots)
      (by (leb (length t) at) (eqb (byte_at t at) 6) refl)
    where
      by : (a c : Bool) → eqb (byte_at t at) 6 ≡ c → Tied t trace seen {A = List (Option Class)} Any
          (elim (not a && c) [ true ↦ one q root_fault (λ r x. bad 9 x) x | false ↦ good [] x ])
          (or_else (pick_n a 0 (pick_n c (first (head_fault t at) (pick_n (ltb (byte_at t (at + 1)) 6) 9 10)) 0)) at (Fine at))
      by true c e = unfold pick_n or_else in both-good tt r
      by false false e = unfold pick_n or_else in both-good tt r
      by false true e = unfold pick_n root_fault in
          one-tie t trace seen q known at x r root_fault root-late (pick_n (ltb (byte_at t (at + 1)) 6) 9 10)
          (λ w. rw (a-root t at _ _ (stands-as t at x r 6 (eqb-true (byte_at t at) 6 e)) w.known).0
          (pick_same (ltb (byte_at t (at + 1)) 6) 9 10))
          _ _ (λ w h. absurd (pick_some (ltb (byte_at t (at + 1)) 6) h))

  pub roots-tie : (n m at : ℕ) (x : List ℕ) → Rest t at x
      → Tied t trace seen Any (parse_roots q timed uuid (numbers m n) x) (roots_at t timed uuid m at n)
  unfolding roots_at parse_roots root_at
  roots-tie zero m at x r = stray-tie at x r
  roots-tie (suc n) m at x r = rw (root-here t at x r m, parse_roots) (by (root_here t m at) refl (λ e y g. roots-tie n (m + 1) e y g))
    where
      by : (c : Bool) → root_here t m at ≡ c
          → ((e : ℕ) (y : List ℕ) → Rest t e y
          → Tied t trace seen Any (parse_roots q timed uuid (numbers (m + 1) n) y) (roots_at t timed uuid (m + 1) e n))
          → Tied t trace seen {A = List (Option Class)} Any
          (elim c [
            | true ↦ rules_then (parse_class q (record { root = m; timed = timed; uuid = uuid }) 8 top (behind x)) λ c x.
                rules_then (parse_roots q timed uuid (numbers (m + 1) n) x) λ cs x. good (Some c ∷ cs) x
            | false ↦ rules_then (parse_roots q timed uuid (numbers (m + 1) n) x) λ cs x. good (None ∷ cs) x
          ])
          (then (pick_w c (class_at (under timed uuid m (at + 2)) 8 t (at + 2)) (Fine at)) λ e. roots_at t timed uuid (m + 1) e n)
      by true h rec = unfold pick_w root_here ruled under in
          let w = head-whole t at (eqb-true (head_fault t at) 0 (and_left (eqb (head_fault t at) 0) _ h)) in
          let k = eqb-true (byte_at t at) 6 (and_left (eqb (byte_at t at) 6) _ (and_right (eqb (head_fault t at) 0) _ h)) in
          let g = rest-behind t at x r w 1 (a-root t at _ _ (stands-as t at x r 6 k) w.known).1 in
          then_tie t trace seen (class-tie t b q trace seen known (under timed uuid m (at + 2)) 8 top (at + 2) (behind x) g refl) _ _
          (λ c e y k g. made-tie t trace seen (rec e y g) (λ cs. Some c ∷ cs) (λ cs e k. tt))
      by false h rec = unfold pick_w then in made-tie t trace seen (rec at x r) (λ cs. None ∷ cs) (λ cs e k. tt)
