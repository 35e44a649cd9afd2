-- A class that stands whole takes bytes, and they are there.
use Prim.Native.Nat.{ℕ, zero, suc, ◌+◌, ◌≤◌, ◌<◌}
use native.Mathlib.Omega.{arith}
use mathlib.Core.List.{List}
use lib.ListN.{length}
use Rattle.rules.specs.Class.{bit_array, boolean, unsigned_int, signed_int, float}
use Rattle.rules.specs.Record.{Shape, bit_field, leb_field, signed_leb_field, zero_string, text, blob, text_of, blob_of, members, elements}
use Rattle.rules.specs.Record.{elements_of, option?, options, u8}
use Rattle.class_layout.specs.Trees.{shape_of, record_size, option_class, Stood, behind_members, behind_options, next_in, stood_at, next_at}
use Rattle.class_layout.specs.Trees.{WholeMembers, WholeOptions, WholeIn, IsWhole}

-- from a place on, up to the table's end
pub record Ends (t : List ℕ) (from next : ℕ) : Type 0 where
  pub onward : from ≤ next
  pub within : next ≤ length t

module _ (t : List ℕ) (g : ℕ → Type 0) (f : ℕ → Stood) (deeper : (p : ℕ) → g p → Ends t (p + 1) (f p).next) where
  members-end : (at n : ℕ) → at ≤ length t → WholeMembers g f at n → Ends t at (behind_members f at n)
  unfolding WholeMembers behind_members
  members-end at zero l w = record { onward = omega arith; within = l }
  members-end at (suc n) l w =
      let a = deeper at w.0 in
      let b = members-end (f at).next n a.within w.1 in record { onward = omega (arith, a.onward, b.onward); within = b.within }

  options-end : (at n : ℕ) → at ≤ length t → WholeOptions g f t at n → Ends t at (behind_options f t at n)
  unfolding WholeOptions behind_options
  options-end at zero l w = record { onward = omega arith; within = l }
  options-end at (suc n) l w =
      let a = deeper (option_class t at) w.2 in
      let b = options-end (f (option_class t at)).next n a.within w.3 in
      record { onward = omega (arith, a.onward, b.onward); within = b.within }

  further : {at p next : ℕ} → at < p → Ends t p next → Ends t (at + 1) next
  further l e = record { onward = omega (arith, e.onward); within = e.within }

  further-in : {at p : ℕ} → at < p → g p → Ends t (at + 1) (f p).next
  further-in l w = let e = deeper _ w in record { onward = omega (arith, e.onward); within = e.within }

  shape-ends : (at : ℕ) (s : Shape) → at + record_size s ≤ length t → WholeIn g f t at s → Ends t (at + 1) (next_in f t at s)
  unfolding record_size WholeIn next_in
  shape-ends at (bit_field bit_array) l w = record { onward = omega arith; within = l }
  shape-ends at (bit_field boolean) l w = record { onward = omega arith; within = l }
  shape-ends at (bit_field unsigned_int) l w = record { onward = omega arith; within = l }
  shape-ends at (bit_field signed_int) l w = record { onward = omega arith; within = l }
  shape-ends at (bit_field float) l w = record { onward = omega arith; within = l }
  shape-ends at leb_field l w = record { onward = omega arith; within = l }
  shape-ends at signed_leb_field l w = record { onward = omega arith; within = l }
  shape-ends at zero_string l w = record { onward = omega arith; within = l }
  shape-ends at text l w = record { onward = omega arith; within = l }
  shape-ends at blob l w = record { onward = omega arith; within = l }
  shape-ends at text_of l w = record { onward = omega arith; within = l }
  shape-ends at blob_of l w = record { onward = omega arith; within = l }
  shape-ends at members l w = further (omega arith) (members-end (at + 3) (u8 t (at + 1)) l w.1)
  shape-ends at elements l w = further-in (omega arith) w.1
  shape-ends at elements_of l w = further-in (omega arith) w.1
  shape-ends at option? l w = further-in (omega arith) w.1
  shape-ends at options l w = further (omega arith) (options-end (at + 3) (u8 t (at + 2)) l w.1)

pub whole-ends : (d : ℕ) (t : List ℕ) (p : ℕ) → IsWhole d t p → Ends t (p + 1) (next_at d t p)
unfolding IsWhole stood_at
whole-ends zero t p w = absurd w
whole-ends (suc d) t p w = shape-ends t (IsWhole d t) (stood_at d t) (λ q v. whole-ends d t q v) p (shape_of (u8 t p)) w.there w.parts
