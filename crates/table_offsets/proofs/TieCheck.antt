-- The check by offsets is the rules' answer, but for the homes of slots, for every list of bytes; and there is one answer alone. In order:
-- the first record; a root behind it; the whole table. The parts stand in the files Tie..., from the bytes of a record up to the fragments.
use Rattle.std.specs.Prelude.{Err, Result}
use Rattle.rules.specs.Verdict.{table_fault}
use Rattle.rules.specs.declared.TableFault.{TableFault}
use Rattle.rules.specs.declared.ByteLength.{ByteLength}
use mathlib.Core.Path.{◌≡◌, refl, sym, ap, ◌∙◌}
use mathlib.Core.Bool.{Bool, true, false, ◌||◌}
use mathlib.Core.List.{List, [], ◌∷◌}
use Prim.Native.Nat.{ℕ, zero, suc, ◌-◌}
use native.Mathlib.Omega.{arith}
use lib.ListN.{length}
use lib.Dec.{ltb, leb, eqb, eqb-suc-zero}
use borrow.Author.Tests.{eqb-true, ne_eqb}
use Rattle.facts.specs.Bytes.{Bytes}
use Rattle.facts.proofs.Truth.{clash, or-false}
use Rattle.rules.specs.Place.{byte_length}
use Rattle.rules.specs.Table.{Table}
use Rattle.rules.specs.Record.{preamble, trace_class, clock_class, stream_class, event_class, Record, unknown, fragment, root, class, range}
use Rattle.rules.specs.Record.{option, record_of, behind, size}
use Rattle.rules.specs.Faults.{pick, no_ids, first_fault as rules_fault}
use Rattle.rules.specs.Parse.{Parser, bad, then, sound, missing, parse_roots, parse_fragments, parse_table, byte_of, checked_of, checked}
use Rattle.table_offsets.specs.Walks.{Fine}
use Rattle.table_offsets.specs.Bodies.{known, no_kind}
use Rattle.table_offsets.specs.Check.{pick_n, first, or_else, byte_at, head_fault, order_fault}
use Rattle.table_offsets.specs.Check.{lowest, stray, or_refused, then_checked, fragments_at}
use Rattle.table_offsets.specs.Check.{first_fault, checked_at}
use Rattle.table_offsets.proofs.TieBytes.{Rest, rest-length}
use Rattle.table_offsets.proofs.TieKinds.{Stands, nothing, a_preamble, a_trace, a_clock, a_stream}
use Rattle.table_offsets.proofs.TieKinds.{an_event, a_root, a_class, a_range, an_option}
use Rattle.table_offsets.proofs.TieKinds.{stands, stands-as}
use Rattle.table_offsets.proofs.TieHead.{head-whole, Tested, record-fault, rest-behind}
use Rattle.table_offsets.proofs.TieIds.{sees-none}
use Rattle.table_offsets.proofs.Picked.{first_fine}
use Rattle.table_offsets.proofs.TieTests.{pick_same}
use Rattle.table_offsets.proofs.TieRoots.{stray-tie}
use Rattle.table_offsets.proofs.TieFragments.{sound-checked, then-checked, fragments-tie}

-- The first record

first-tested : Tested rules_fault
unfolding rules_fault pick known
first-tested = record { unknowns = λ s. refl; others = others }
  where
    others : (s : Bool) (r : Record) → known r ≡ true → rules_fault s r ≡ pick s 3 (rules_fault false r)
    others s unknown h = absurd (clash h)
    others s (fragment (preamble v)) h = refl
    others s (fragment (trace_class u l)) h = refl
    others s (fragment (clock_class i f)) h = refl
    others s (fragment (stream_class i c)) h = refl
    others s (fragment (event_class i j)) h = refl
    others s (root n) h = refl
    others s (class y) h = refl
    others s (range g l u) h = refl
    others s (option n) h = refl

first-agrees : (t : List ℕ) (k n : ℕ) (r : Record) → Stands t 0 k n r → (n ≡ no_kind → ⊥)
    → rules_fault false r ≡ pick_n (eqb k 1) (pick_n (eqb (byte_at t 1) 2) 0 5) 4
unfolding rules_fault pick pick_n
first-agrees t k n r nothing h = absurd (h refl)
first-agrees t k n r a_preamble h = pick_same (eqb (byte_at t 1) 2) 0 5
first-agrees t k n r a_trace h = refl
first-agrees t k n r a_clock h = refl
first-agrees t k n r a_stream h = refl
first-agrees t k n r an_event h = refl
first-agrees t k n r a_root h = refl
first-agrees t k n r (a_class l u b e f c) h = rw (ne_eqb k 1 (λ g. omega arith))
first-agrees t k n r a_range h = refl
first-agrees t k n r an_option h = refl

-- where it has no fault it is a preamble
first_kind : (a b : Bool) → pick_n a (pick_n b 0 5) 4 ≡ 0 → a ≡ true
unfolding pick_n
first_kind true b h = refl
first_kind false b h = absurd (omega arith)

a-preamble : (t : List ℕ) (n : ℕ) (r : Record) → Stands t 0 1 n r → (n ≡ no_kind → ⊥) → n ≡ 1
a-preamble t n r nothing h = absurd (h refl)
a-preamble t n r a_preamble h = refl
a-preamble t n r (a_class l u b f g c) h = absurd (omega arith)

all : (t : List ℕ) → Rest t 0 t
all t = record { is = refl; within = omega arith }

first-number : (t : List ℕ) → missing t ≡ false → rules_fault (ltb (length t) (size t)) (record_of t) ≡ first_fault t
unfolding first_fault pick
first-number t m = rw m at (record-fault t 0 t (all t) rules_fault first-tested) ∙ by (head_fault t 0) refl
  where
    by : (c : ℕ) → head_fault t 0 ≡ c
        → first c (rules_fault false (record_of t)) ≡ first c (pick_n (eqb (byte_at t 0) 1) (pick_n (eqb (byte_at t 1) 2) 0 5) 4)
    by zero e = unfold first in first-agrees t _ _ _ (stands t 0 t (all t)) (head-whole t 0 e).known
    by (suc c) e = unfold first in refl

-- A root behind it

stray-root : (t : List ℕ) (at c : ℕ) → stray t at ≡ suc c → byte_at t at ≡ 6
unfolding stray
stray-root t at c = by (leb (length t) at) (eqb (byte_at t at) 6) _ refl
  where
    by : (a b : Bool) (m : ℕ) → eqb (byte_at t at) 6 ≡ b → pick_n a 0 (pick_n b m 0) ≡ suc c → byte_at t at ≡ 6
    by true b m e h = unfold pick_n in absurd (omega arith)
    by false true m e h = eqb-true (byte_at t at) 6 e
    by false false m e h = unfold pick_n in absurd (omega arith)

-- no number of a root is lowered
lowest-root : (t : List ℕ) (trace : Bool) (os : List ℕ) (m at : ℕ) → byte_at t at ≡ 6 → lowest t trace os m at ≡ m
unfolding lowest order_fault first pick_n
lowest-root t trace os m at e = rw e (by (ltb m 4))
  where
    by : (b : Bool) → pick_n b m m ≡ m
    by true = refl
    by false = refl

stray-refused : (t : List ℕ) (trace : Bool) (os : List ℕ) (at : ℕ) (C : ℕ → Result ByteLength TableFault)
    → or_refused (stray t at) at (C at)
    ≡ then_checked (or_else (stray t at) at (Fine at)) (λ m p. Err (table_fault (lowest t trace os m p) (byte_length p))) C
stray-refused t trace os at C = by (stray t at) (stray-root t at)
  where
    by : (n : ℕ) → ((c : ℕ) → n ≡ suc c → byte_at t at ≡ 6)
        → or_refused n at (C at) ≡ then_checked (or_else n at (Fine at)) (λ m p. Err (table_fault (lowest t trace os m p) (byte_length p))) C
    by zero h = unfold or_refused then_checked or_else in refl
    by (suc n) h = unfold or_refused then_checked or_else in rw (lowest-root t trace os (suc n) at (h n refl))

-- The whole table

-- what is behind the preamble: no root, and fragments to the end
rest : Parser Table
rest x = then (parse_roots no_ids false false [] x) λ cs x. parse_fragments (length x) no_ids x

rest-checked : (t : List ℕ) → Bytes t → (x : List ℕ) → Rest t 2 x
    → or_refused (stray t 2) 2 (fragments_at (length t - 2) t false [] 2) ≡ checked_of t (rest x)
unfolding rest
rest-checked t b x r =
    stray-refused t false [] 2 (λ e. fragments_at (length t - e) t false [] e)
    ∙ then-checked t false [] (stray-tie t b no_ids false [] (sees-none t) false false 2 x r) _ _ (λ cs e y g.
    rw (rest-length t e y g) (fragments-tie t b (length t - e) no_ids false [] (sees-none t) e y g))

missing-all : (t : List ℕ) → missing t ≡ eqb (length t) 0
unfolding missing
missing-all [] = refl
missing-all (c ∷ t) = sym (eqb-suc-zero (length t))

first-checked : (t : List ℕ) → Bytes t → missing t ≡ false
    → or_refused (first_fault t) 0 (or_refused (stray t 2) 2 (fragments_at (length t - 2) t false [] 2))
    ≡ checked_of t (sound (rules_fault (ltb (length t) (size t)) (record_of t)) t rest)
unfolding first_fault
first-checked t b m = sound-checked t 0 t (all t) _ (first_fault t) (first-number t m) rest _ (λ e.
    let h = first_fine (head_fault t 0) _ e in
    let w = head-whole t 0 h.0 in
    let k = eqb-true (byte_at t 0) 1 (first_kind (eqb (byte_at t 0) 1) (eqb (byte_at t 1) 2) h.1) in
    rest-checked t b (behind t) (rest-behind t 0 t (all t) w 1 (a-preamble t _ _ (stands-as t 0 t (all t) 1 k) w.known)))

-- the check by offsets is the rules' answer, but for the homes of slots
pub check-tie : (t : List ℕ) → Bytes t → checked_at t ≡ checked_of t (parse_table t)
unfolding checked_at parse_table rest
check-tie t b = rw (missing-all t, parse_table) (by (eqb (length t) 0 || ltb 65536 (length t)) refl)
  where
    by : (c : Bool) → (eqb (length t) 0 || ltb 65536 (length t)) ≡ c
        → elim c [
          | true ↦ Err (table_fault 1 (byte_length 0))
          | false ↦ or_refused (first_fault t) 0
              (or_refused (stray t 2) 2 (fragments_at (length t - 2) t false [] 2))
        ]
        ≡ checked_of t (elim c [ true ↦ bad 1 t | false ↦ sound (rules_fault (ltb (length t) (size t)) (record_of t)) t rest ])
    by true e = unfold checked_of byte_of in ap (λ n. Err (table_fault 1 (byte_length n))) (omega arith)
    by false e = first-checked t b (missing-all t ∙ (or-false (eqb (length t) 0) (ltb 65536 (length t)) e).0)

-- one answer alone
pub check-once : (t : List ℕ) (r s : Result ByteLength TableFault) → r ≡ checked t → s ≡ checked t → r ≡ s
check-once t r s p q = p ∙ sym q
