-- The walk over fragments is the rules' parse of them: the same answer, after as many rounds.
use Rattle.rules.specs.Verdict.{table_fault}
use Rattle.rules.specs.declared.TableFault.{TableFault}
use Rattle.rules.specs.declared.ByteLength.{ByteLength}
use Rattle.std.specs.Prelude.{Option, Ok, Err, Result}
use mathlib.Core.Path.{◌≡◌, refl, ap, ◌∙◌}
use mathlib.Core.Bool.{Bool, true, false, not, ◌||◌}
use mathlib.Core.List.{List, ◌∷◌}
use Prim.Native.Nat.{ℕ, zero, suc, ◌+◌}
use native.Mathlib.Omega.{arith}
use lib.ListN.{length}
use lib.Dec.{ltb, eqb}
use borrow.Author.Tests.{ne_eqb}
use Rattle.facts.specs.Bytes.{Bytes}
use Rattle.rules.specs.Place.{byte_length}
use Rattle.rules.specs.Class.{Class}
use Rattle.rules.specs.Table.{Table}
use Rattle.rules.specs.Record.{trace_class, clock_class, stream_class, event_class, Record, record_of, behind, size}
use Rattle.rules.specs.Faults.{pick, Ids, seen, many, record_fault, open_fault as rules_fault}
use Rattle.rules.specs.Parse.{Parsed, Parser, bad, good, then, sound, missing, one, is_timed, has_uuid, root_numbers, add, no_table}
use Rattle.rules.specs.Parse.{parse_roots}
use Rattle.rules.specs.Parse.{parse_fragment, parse_opened, parse_fragments, byte_of, checked_of}
use Rattle.table_offsets.specs.Walks.{Walk}
use Rattle.table_offsets.specs.Bodies.{no_kind}
use Rattle.table_offsets.specs.Check.{pick_n, pick_b, pick_w, first, byte_at, u64, head_fault}
use Rattle.table_offsets.specs.Check.{order_fault, open_fault, fragment_fault, lowest}
use Rattle.table_offsets.specs.Check.{roots_at, roots_of, seen_with, traced, or_refused, then_checked, fragments_at}
use Rattle.table_offsets.proofs.Picked.{first_fine}
use Rattle.table_offsets.proofs.TieTests.{pick_same}
use Rattle.table_offsets.proofs.TieBytes.{Rest, rest-length, rest-missing}
use Rattle.table_offsets.proofs.TieKinds.{Stands, nothing, a_preamble, a_trace, a_clock, a_stream}
use Rattle.table_offsets.proofs.TieKinds.{an_event, a_root, a_class, a_range, an_option, stands}
use Rattle.table_offsets.proofs.TieHead.{head-whole, record-tested, record-fault, rest-behind}
use Rattle.table_offsets.proofs.TieIds.{Sees, sees-trace, sees-clock, sees-stream, sees-event}
use Rattle.table_offsets.proofs.TieOrder.{order-tie}
use Rattle.table_offsets.proofs.TieWalk.{Tied, both-bad, both-good}
use Rattle.table_offsets.proofs.TieRoots.{numbers, roots-tie}

-- A fragment's number

clock-open : (a b c : Bool) → pick (a || b) 10 (pick c 15 0) ≡ pick_n a 10 (pick_n b 10 (pick_n c 15 0))
unfolding pick pick_n
clock-open true b c = refl
clock-open false true c = refl
clock-open false false true = refl
clock-open false false false = refl

module _ (t : List ℕ) (q : Ids) (trace : Bool) (os : List ℕ) (s : Sees t q trace os) where
  many-seen : many q ≡ ltb 511 (length os)
  unfolding many
  many-seen = rw s.count

  open-agrees : (at k n : ℕ) (r : Record) → Stands t at k n r → (n ≡ no_kind → ⊥) → rules_fault q r ≡ open_fault t (length os) at k
  unfolding rules_fault open_fault pick_n
  open-agrees at k n r nothing h = absurd (h refl)
  open-agrees at k n r a_preamble h = refl
  open-agrees at k n r a_trace h = pick_same (ltb 1 (byte_at t (at + 1))) 10 0
  open-agrees at k n r a_clock h = rw many-seen (clock-open (eqb (byte_at t (at + 1)) 255) (eqb (u64 t (at + 2)) 0) (ltb 511 (length os)))
  open-agrees at k n r a_stream h = rw many-seen (pick_same (ltb 511 (length os)) 15 0)
  open-agrees at k n r an_event h = rw many-seen (pick_same (ltb 511 (length os)) 15 0)
  open-agrees at k n r a_root h = refl
  open-agrees at k n r (a_class l u b e f c) h =
      rw (ne_eqb k 2 (λ g. omega arith), ne_eqb k 3 (λ g. omega arith), ne_eqb k 4 (λ g. omega arith), ne_eqb k 5 (λ g. omega arith))
  open-agrees at k n r a_range h = refl
  open-agrees at k n r an_option h = refl

  fragment-number : (at : ℕ) (x : List ℕ) → Rest t at x
      → pick (missing x) 3 (record_fault (ltb (length x) (size x)) q (record_of x) (rules_fault q (record_of x)))
      ≡ fragment_fault t trace os (length os) at
  unfolding fragment_fault
  fragment-number at x h =
      record-fault t at x h (λ short r. record_fault short q r (rules_fault q (record_of x))) (record-tested q (rules_fault q (record_of x)))
      ∙ by (head_fault t at) refl
    where
      by : (c : ℕ) → head_fault t at ≡ c → first c (record_fault false q (record_of x) (rules_fault q (record_of x)))
          ≡ first c (first (order_fault t trace os at (byte_at t at)) (open_fault t (length os) at (byte_at t at)))
      by zero e = unfold first in
          let w = head-whole t at e in
          order-tie t q trace os s at _ _ _ (stands t at x h) w.known (rules_fault q (record_of x))
          ∙ ap (first (order_fault t trace os at (byte_at t at))) (open-agrees at _ _ _ (stands t at x h) w.known)
      by (suc c) e = unfold first in refl

-- Answers

byte-of : (t : List ℕ) (at : ℕ) (x : List ℕ) → Rest t at x → byte_of t x ≡ byte_length at
unfolding byte_of
byte-of t at x r = ap byte_length (omega (arith, rest-length t at x r, r.within))

-- a number of a record, or else what is behind it
pub sound-checked : (t : List ℕ) (at : ℕ) (x : List ℕ) → Rest t at x → (n m : ℕ) → n ≡ m → (f : Parser Table) (c : Result ByteLength TableFault)
    → (m ≡ 0 → c ≡ checked_of t (f (behind x)))
    → or_refused m at c ≡ checked_of t (sound n x f)
unfolding or_refused sound checked_of
sound-checked t at x r zero zero e f c k = k refl
sound-checked t at x r zero (suc m) e f c k = absurd (omega arith)
sound-checked t at x r (suc n) zero e f c k = absurd (omega arith)
sound-checked t at x r (suc n) (suc m) e f c k = rw (byte-of t at x r, e)

pub then-checked : (t : List ℕ) (trace : Bool) (os : List ℕ) {A : Type 0} {P : A → ℕ → Type 0} {o : Parsed A} {w : Walk}
    → Tied t trace os P o w
    → (F : A → Parser Table) (C : ℕ → Result ByteLength TableFault) → ((a : A) (e : ℕ) (x : List ℕ) → Rest t e x → C e ≡ checked_of t (F a x))
    → then_checked w (λ m p. Err (table_fault (lowest t trace os m p) (byte_length p))) C ≡ checked_of t (then o F)
unfolding then_checked checked_of then
then-checked t trace os (both-bad {p = p} {x = x} e r) F C h = rw (e, byte-of t p x r)
then-checked t trace os (both-good {a = a} {e = e} {x = x} k r) F C h = h a e x r

-- the table that is made of it is no matter of the answer
made-checked : (t : List ℕ) (o : Parsed Table) (f : Table → Table) → checked_of t o ≡ checked_of t (then o (λ a x. good (f a) x))
unfolding checked_of then
made-checked t (bad n x) f = refl
made-checked t (good a x) f = refl

-- The walk

module _ (t : List ℕ) (b : Bytes t) (left : ℕ)
    (rec : (q : Ids) (trace : Bool) (os : List ℕ) → Sees t q trace os → (at : ℕ) (x : List ℕ) → Rest t at x
    → fragments_at left t trace os at ≡ checked_of t (parse_fragments left q x)) where
  -- a fragment's roots, and then the fragments behind them
  roots-checked : (q : Ids) (trace : Bool) (os : List ℕ) → Sees t q trace os → (timed uuid : Bool) (n m at : ℕ) (x : List ℕ) → Rest t at x
      → (f : List (Option Class) → Table → Table)
      → then_checked (roots_at t timed uuid m at n) (λ m p. Err (table_fault (lowest t trace os m p) (byte_length p)))
      (λ e. fragments_at left t trace os e)
      ≡ checked_of t (then (parse_roots q timed uuid (numbers m n) x) λ cs x. then (parse_fragments left q x) λ a x. good (f cs a) x)
  roots-checked q trace os s timed uuid n m at x r f =
      then-checked t trace os (roots-tie t b q trace os s timed uuid n m at x r) _ _ (λ cs e y g.
      rec q trace os s e y g ∙ made-checked t (parse_fragments left q y) (f cs))

  opened-checked : (q : Ids) (trace : Bool) (os : List ℕ) → Sees t q trace os → (at k n : ℕ) (r : Record) → Stands t at k n r
      → (n ≡ no_kind → ⊥) → byte_at t at ≡ k
      → open_fault t (length os) at k ≡ 0 → (x : List ℕ) → Rest t (at + (1 + n)) x
      → then_checked (roots_of t at k) (λ m p. Err (table_fault (lowest t (traced trace k) (seen_with at k os) m p) (byte_length p)))
      (λ e. fragments_at left t (traced trace k) (seen_with at k os) e)
      ≡ checked_of t (parse_opened q (parse_fragments left) r x)
  unfolding open_fault pick_n roots_of pick_w traced pick_b seen_with parse_opened parse_fragment root_numbers is_timed has_uuid
  opened-checked q trace os s at k n r nothing h e o x g = absurd (h refl)
  opened-checked q trace os s at k n r a_preamble h e o x g = absurd (omega arith)
  opened-checked q trace os s at k n r (a_trace {l = l}) h e o x g =
      roots-checked (seen q (trace_class (byte_at t (at + 1)) l)) true os (sees-trace t b at q trace os s (byte_at t (at + 1)) l)
      false (eqb (byte_at t (at + 1)) 1) 1 0 (at + 18) x g (add (trace_class (byte_at t (at + 1)) l))
  opened-checked q trace os s at k n r a_clock h e o x g =
      roots-checked (seen q (clock_class (byte_at t (at + 1)) (u64 t (at + 2)))) trace (at ∷ os)
      (sees-clock t b at q trace os s (u64 t (at + 2)) e)
      false false 0 0 (at + 10) x g (add (clock_class (byte_at t (at + 1)) (u64 t (at + 2))))
  opened-checked q trace os s at k n r a_stream h e o x g =
      roots-checked (seen q (stream_class (u64 t (at + 1)) (byte_at t (at + 9)))) trace (at ∷ os)
      (sees-stream t b at q trace os s (byte_at t (at + 9)) e)
      (not (eqb (byte_at t (at + 9)) 255)) false 3 1 (at + 10) x g (add (stream_class (u64 t (at + 1)) (byte_at t (at + 9))))
  opened-checked q trace os s at k n r an_event h e o x g =
      roots-checked (seen q (event_class (u64 t (at + 1)) (u64 t (at + 9)))) trace (at ∷ os) (sees-event t b at q trace os s e)
      false false 2 4 (at + 17) x g (add (event_class (u64 t (at + 1)) (u64 t (at + 9))))
  opened-checked q trace os s at k n r a_root h e o x g = absurd (omega arith)
  opened-checked q trace os s at k n r (a_class l u c i f p) h e o x g =
      let z : ◌≡◌ {A = ℕ} 9 0 = rw (
        ne_eqb k 2 (λ g. omega arith),
        ne_eqb k 3 (λ g. omega arith),
        ne_eqb k 4 (λ g. omega arith),
        ne_eqb k 5 (λ g. omega arith),
      ) at o in
      absurd (omega arith)
  opened-checked q trace os s at k n r a_range h e o x g = absurd (omega arith)
  opened-checked q trace os s at k n r an_option h e o x g = absurd (omega arith)

  module _ (q : Ids) (trace : Bool) (os : List ℕ) (s : Sees t q trace os) (at : ℕ) (x : List ℕ) (r : Rest t at x) where
    -- the answer where there are bytes left
    abbrev here : Result ByteLength TableFault
    here = or_refused (fragment_fault t trace os (length os) at) at
        (then_checked (roots_of t at (byte_at t at))
        (λ m p. Err (table_fault (lowest t (traced trace (byte_at t at)) (seen_with at (byte_at t at) os) m p) (byte_length p)))
        (λ e. fragments_at left t (traced trace (byte_at t at)) (seen_with at (byte_at t at) os) e))

    fragment-checked : here ≡ checked_of t (one q (rules_fault q) (λ r x. parse_opened q (parse_fragments left) r x) x)
    unfolding one fragment_fault
    fragment-checked = sound-checked t at x r _ _ (fragment-number t q trace os s at x r)
        (parse_opened q (parse_fragments left) (record_of x)) _ (λ e.
        let h = first_fine (head_fault t at) _ e in
        let o = first_fine (order_fault t trace os at (byte_at t at)) _ h.1 in
        let w = head-whole t at h.0 in
        opened-checked q trace os s at _ _ _ (stands t at x r) w.known refl o.1 (behind x) (rest-behind t at x r w _ refl))

    round : fragments_at (suc left) t trace os at ≡ checked_of t (parse_fragments (suc left) q x)
    unfolding fragments_at parse_fragments
    round = rw (rest-missing t at x r, fragments_at, parse_fragments) (by (ltb at (length t)))
      where
        by : (c : Bool) → elim c [ true ↦ here | false ↦ Ok (byte_length (length t)) ]
            ≡ checked_of t (elim (not c) [
              | true ↦ good no_table x
              | false ↦ one q (rules_fault q)
                  (λ r x. parse_opened q (parse_fragments left) r x) x
            ])
        by true = fragment-checked
        by false = unfold checked_of in refl

pub fragments-tie : (t : List ℕ) → Bytes t → (left : ℕ) (q : Ids) (trace : Bool) (os : List ℕ) → Sees t q trace os → (at : ℕ) (x : List ℕ)
    → Rest t at x
    → fragments_at left t trace os at ≡ checked_of t (parse_fragments left q x)
unfolding fragments_at parse_fragments checked_of
fragments-tie t b zero q trace os s at x r = refl
fragments-tie t b (suc left) q trace os s at x r = round t b left (fragments-tie t b left) q trace os s at x r
