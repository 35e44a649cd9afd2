-- The slots that the records of a class name are those that the class and all that it holds can set, `sets`: its records stand one behind
-- the other in the order in which the tree lists them, and ranges and options name none.
--
-- slots-of                     the slots named are those set
-- unset-at, forgets-at         to unset them is to forget the class
use mathlib.Core.Path.{◌≡◌, refl, sym, ap, ◌∙◌}
use Prim.Native.Nat.{ℕ, zero, suc, ◌+◌, ◌*◌, ◌≤◌}
use native.Mathlib.Omega.{arith}
use mathlib.Core.List.{List, [], ◌++◌, append_assoc, append-nil}
use lib.ListN.{get_or}
use Rattle.rules.specs.Faults.{pick}
use Rattle.rules.specs.Record.{u8}
use Rattle.rules.specs.Record.{Shape, bit_field, leb_field, signed_leb_field, zero_string, text, blob, text_of, blob_of, members, elements}
use Rattle.rules.specs.Record.{elements_of, option?, options, no, bits_layout, layouts}
use Rattle.rules.specs.Class.{bit_array, boolean, unsigned_int, signed_int, float, setting, sets, members_set, options_set}
use Rattle.rules.specs.Slots.{Slots, unset}
use Rattle.rules.specs.Step.{change, with_slots}
use Rattle.rules.specs.Field.{forget}
use Rattle.table_offsets.specs.Bodies.{known, mark, body_mark}
use Rattle.class_layout.specs.Trees.{shape_of, record_size, option_class, Stood, members_at, behind_members, options_at}
use Rattle.class_layout.specs.Trees.{behind_options, class_in, next_in, stood_at, class_at, next_at, WholeMembers, WholeOptions, WholeIn, IsWhole}
use Rattle.class_layout.specs.Trees.{RangeKinds, OptionKinds, KindsIn}
use Rattle.table_records.specs.Named.{slot_place}
use Rattle.class_layout.proofs.Named.{place_in, of-class, named_in, named-in, optional-sets}
use Rattle.class_slots.specs.Named.{behind_record, slots_of}
use Rattle.class_slots.proofs.Rounds.{slots_to, slots-none, slots-record, slots-whole}

-- Parts of a pass: from p to q the records name the slots l

record Passed (t : List ℕ) (p : ℕ) (l : List ℕ) (q : ℕ) : Type 0 where
  onward : p ≤ q
  slots : (end : ℕ) → q ≤ end → slots_to t p end ≡ l ++ slots_to t q end

passed-nothing : (t : List ℕ) (p q : ℕ) → p ≡ q → Passed t p [] q
passed-nothing t p q e = record { onward = omega arith; slots = λ end h. ap (λ i. slots_to t i end) e }

passed-both : {t : List ℕ} {p q r : ℕ} {a b : List ℕ} → Passed t p a q → Passed t q b r → Passed t p (a ++ b) r
passed-both {t} {p} {q} {r} {a} {b} v w = record {
  onward = omega (arith, v.onward, w.onward);
  slots = λ end h.
      v.slots end (omega (arith, w.onward)) ∙ ap (λ l. a ++ l) (w.slots end h) ∙ sym (append_assoc a b (slots_to t r end));
}

passed-as : {t : List ℕ} {p q : ℕ} {a b : List ℕ} → a ≡ b → Passed t p a q → Passed t p b q
passed-as e w = rw e at w

-- one record, and q behind it
record-passed : (t : List ℕ) (p i q : ℕ) → slot_place (u8 t p) ≡ i → behind_record t p ≡ q → Passed t p (named_in t p i) q
record-passed t p i q e f = record {
  onward = omega arith;
  slots = λ end h.
      slots-record t p end (omega arith) ∙ ap (λ l. l ++ slots_to t (behind_record t p) end) (named-in t p i e)
      ∙ ap (λ j. named_in t p i ++ slots_to t j end) f;
}

-- a record that names none, and what is behind it
none_passed : {t : List ℕ} {p q r : ℕ} {l : List ℕ} → slot_place (u8 t p) ≡ 0 → behind_record t p ≡ q → Passed t q l r → Passed t p l r
unfolding named_in setting
none_passed {t} {p} {q} e f w = passed-both (record-passed t p 0 q e f) w

range-place : (t : List ℕ) (at : ℕ) → u8 t at ≡ 33 → slot_place (u8 t at) ≡ 0
unfolding slot_place pick
range-place t at k = rw k refl

range-bytes : (t : List ℕ) (at : ℕ) → u8 t at ≡ 33 → behind_record t at ≡ at + 18
unfolding body_mark mark known layouts no bits_layout
range-bytes t at k = rw k (omega arith)

option-place : (t : List ℕ) (at : ℕ) → u8 t at ≡ 34 → slot_place (u8 t at) ≡ 0
unfolding slot_place pick
option-place t at k = rw k refl

option-bytes : (t : List ℕ) (at : ℕ) → u8 t at ≡ 34 → behind_record t at ≡ at + 2
unfolding body_mark mark known layouts no bits_layout
option-bytes t at k = rw k (omega arith)

ranges-passed : (t : List ℕ) (at n q : ℕ) → q ≡ at + 18 * n → RangeKinds t at n → Passed t at [] q
unfolding RangeKinds
ranges-passed t at zero q e k = passed-nothing t at q (omega arith)
ranges-passed t at (suc n) q e k =
    none_passed (range-place t at k.0) (range-bytes t at k.0) (ranges-passed t (at + 18) n q (omega arith) k.1)

-- What classes hold: g says of a byte that a class stands whole there, f what stands there
module _ (t : List ℕ) (g : ℕ → Type 0) (f : ℕ → Stood) (deeper : (p : ℕ) → g p → Passed t p (sets (f p).class) (f p).next) where
  members-passed : (at n : ℕ) → WholeMembers g f at n → Passed t at (members_set (members_at f at n)) (behind_members f at n)
  unfolding WholeMembers members_at behind_members sets
  members-passed at zero w = passed-nothing t at at refl
  members-passed at (suc n) w = passed-both (deeper at w.0) (members-passed (f at).next n w.1)

  options-passed : (at n : ℕ) → WholeOptions g f t at n → OptionKinds f t at n
      → Passed t at (options_set (options_at f t at n)) (behind_options f t at n)
  unfolding WholeOptions OptionKinds options_at behind_options sets
  options-passed at zero w k = passed-nothing t at at refl
  options-passed at (suc n) w k =
      let o = option_class t at in
      none_passed (option-place t at k.0) (option-bytes t at k.0)
      (passed-both (ranges-passed t (at + 2) (u8 t (at + 1)) o (omega arith) k.1)
      (passed-both (deeper o w.2) (options-passed (f o).next n w.3 k.2)))

  shape-passed : (at : ℕ) (s : Shape) → slot_place (u8 t at) ≡ place_in s → suc (body_mark (u8 t at)) ≡ record_size s → WholeIn g f t at s
      → KindsIn f t at s → Passed t at (sets (class_in f t at s)) (next_in f t at s)
  unfolding place_in named_in record_size WholeIn KindsIn class_in next_in sets setting
  shape-passed at (bit_field bit_array) e b w k = record-passed t at 0 (at + 4) e (omega arith)
  shape-passed at (bit_field boolean) e b w k = record-passed t at 4 (at + 5) e (omega arith)
  shape-passed at (bit_field unsigned_int) e b w k = record-passed t at 4 (at + 6) e (omega arith)
  shape-passed at (bit_field signed_int) e b w k = record-passed t at 4 (at + 5) e (omega arith)
  shape-passed at (bit_field float) e b w k = record-passed t at 0 (at + 4) e (omega arith)
  shape-passed at leb_field e b w k = record-passed t at 1 (at + 3) e (omega arith)
  shape-passed at signed_leb_field e b w k = record-passed t at 1 (at + 2) e (omega arith)
  shape-passed at zero_string e b w k = record-passed t at 0 (at + 1) e (omega arith)
  shape-passed at text e b w k = record-passed t at 0 (at + 3) e (omega arith)
  shape-passed at blob e b w k = record-passed t at 0 (at + 4) e (omega arith)
  shape-passed at text_of e b w k = record-passed t at 0 (at + 2) e (omega arith)
  shape-passed at blob_of e b w k = record-passed t at 0 (at + 2) e (omega arith)
  shape-passed at members e b w k =
      none_passed {q = at + 3} e (omega arith) (members-passed (at + 3) (u8 t (at + 1)) w.1)
  shape-passed at elements e b w k = none_passed {q = at + 4} e (omega arith) (deeper (at + 4) w.1)
  shape-passed at elements_of e b w k = none_passed {q = at + 3} e (omega arith) (deeper (at + 3) w.1)
  shape-passed at option? e b w k =
      let o = at + 3 + 18 * u8 t (at + 2) in
      passed-as (sym (optional-sets _ _ _ _)) (none_passed {q = at + 3} e (omega arith)
      (passed-both (ranges-passed t (at + 3) (u8 t (at + 2)) o (omega arith) k) (deeper o w.1)))
  shape-passed at options e b w k =
      none_passed {q = at + 3} e (omega arith) (options-passed (at + 3) (u8 t (at + 2)) w.1 k)

-- A class

class-passed : (d : ℕ) (t : List ℕ) (p : ℕ) → IsWhole d t p → Passed t p (sets (class_at d t p)) (next_at d t p)
unfolding IsWhole stood_at
class-passed zero t p w = absurd w
class-passed (suc d) t p w =
    let k = of-class (u8 t p) w.low w.high in
    shape-passed t (IsWhole d t) (stood_at d t) (λ q v. class-passed d t q v) p (shape_of (u8 t p)) k.slot k.bytes w.parts w.kinds

module _ (d : ℕ) (t s : List ℕ) (p : ℕ) (w : IsWhole d t p) (h : p + get_or s p 0 ≡ next_at d t p) where
  pub slots-of : slots_of t s p ≡ sets (class_at d t p)
  slots-of =
      let q = next_at d t p in
      slots-whole t s p ∙ ap (slots_to t p) h ∙ (class-passed d t p w).slots q (omega arith)
      ∙ ap (λ l. sets (class_at d t p) ++ l) (slots-none t q q (omega arith)) ∙ append-nil _

  pub unset-at : (l : Slots) → unset l (slots_of t s p) ≡ unset l (sets (class_at d t p))
  unset-at l = ap (unset l) slots-of

  pub forgets-at : forget (class_at d t p) ≡ change (λ x. with_slots (unset x.slots (slots_of t s p)) x)
  unfolding forget
  forgets-at = ap (λ l. change (λ x. with_slots (unset x.slots l) x)) (sym slots-of)
