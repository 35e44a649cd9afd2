-- The numbers of the records of what stands whole. Its records stand one behind the other, as many as its tree has, and none of them opens
-- a fragment: so they count on, from class to class and into what a class holds.
--
-- class-begins, behind-begins      a record begins where a class stands whole, and behind it
-- number_small                     its number fits 16 bits
-- number_behind, members-behind    the number of the record behind a class; behind members
-- structure-number … variant-number    of what a class holds, by its kind
-- OptionsStand                     options one behind the other: the number of an option's class, and of the option behind it
use mathlib.Core.Path.{◌≡◌, refl, ap}
use Prim.Native.Nat.{ℕ, zero, suc, ◌+◌, ◌*◌, ◌≤◌, ◌<◌}
use native.Mathlib.Omega.{arith}
use mathlib.Core.List.{List, [], ◌∷◌}
use lib.ListN.{length, drop}
use Rattle.rules.specs.Class.{bit_array, boolean, unsigned_int, signed_int, float, Sign, Range, Class, records, member_records, option_records}
use Rattle.rules.specs.Record.{Shape, bit_field, leb_field, signed_leb_field, zero_string, text, blob, text_of, blob_of, members, elements}
use Rattle.rules.specs.Record.{elements_of, option?, options, u8, size, layouts}
use Rattle.class_layout.specs.Numbers.{Begins, number_at}
use Rattle.class_layout.specs.Trees.{shapes, shape_of, record_size, ranges_at, option_class, optional_of, Stood, members_at, behind_members}
use Rattle.class_layout.specs.Trees.{options_at, behind_options, class_in, next_in, stood_at, class_at, next_at, WholeMembers, WholeOptions}
use Rattle.class_layout.specs.Trees.{WholeIn, IsWhole, RangeKinds, OptionKinds, KindsIn}
use Rattle.class_layout.proofs.Numbers.{begins-behind, next-number, number-low, Passed, passed_none, passed-one, passed-both}
use Rattle.class_layout.proofs.Records.{size-at}
use Rattle.class_layout.proofs.ClassRecords.{class-size}
use Rattle.class_layout.proofs.Turns.{whole-inside}

-- Ranges and options

passed-as : {t : List ℕ} {p q m n : ℕ} → m ≡ n → Passed t p m q → Passed t p n q
passed-as e w = rw e at w

range_size : (t : List ℕ) (at : ℕ) → u8 t at ≡ 33 → size (drop at t) ≡ 18
unfolding layouts
range_size t at k = size-at t at 33 k

option-size : (t : List ℕ) (at : ℕ) → u8 t at ≡ 34 → size (drop at t) ≡ 2
unfolding layouts
option-size t at k = size-at t at 34 k

-- a record of so many bytes, of a kind that opens no fragment
pub record-passed : (t : List ℕ) (at n : ℕ) → 5 < u8 t at → size (drop at t) ≡ n → Passed t at 1 (at + n)
record-passed t at n k e = passed-one t at (at + n) k (ap (λ i. at + i) e)

ranges-passed : (t : List ℕ) (at n q : ℕ) → q ≡ at + 18 * n → RangeKinds t at n → Passed t at n q
unfolding RangeKinds
ranges-passed t at zero q e k = passed_none t at q (omega arith)
ranges-passed t at (suc n) q e k =
    passed-as (omega arith) (passed-both (record-passed t at 18 (omega (arith, k.0)) (range_size t at k.0))
    (ranges-passed t (at + 18) n q (omega arith) k.1))

pub length-ranges : (t : List ℕ) (at n : ℕ) → length (ranges_at t at n) ≡ n
unfolding ranges_at
length-ranges t at zero = refl
length-ranges t at (suc n) = ap suc (length-ranges t (at + 18) n)

-- an option's record, and its ranges up to its class
option-passed : (t : List ℕ) (at : ℕ) → u8 t at ≡ 34 → RangeKinds t (at + 2) (u8 t (at + 1))
    → Passed t at (1 + length (ranges_at t (at + 2) (u8 t (at + 1)))) (option_class t at)
option-passed t at k r =
    rw (length-ranges t (at + 2) (u8 t (at + 1)))
    (passed-both (record-passed t at 2 (omega (arith, k)) (option-size t at k))
    (ranges-passed t (at + 2) (u8 t (at + 1)) (option_class t at) refl r))

-- the same of an optional: of its record's bytes, and of those of its ranges
optional-passed : (t : List ℕ) (at : ℕ) → 5 < u8 t at → size (drop at t) ≡ 3 → RangeKinds t (at + 3) (u8 t (at + 2))
    → Passed t at (1 + length (ranges_at t (at + 3) (u8 t (at + 2)))) (at + 3 + 18 * u8 t (at + 2))
optional-passed t at k e r =
    rw (length-ranges t (at + 3) (u8 t (at + 2)))
    (passed-both (record-passed t at 3 k e) (ranges-passed t (at + 3) (u8 t (at + 2)) _ refl r))

optional-records : (i : ℕ) (g : Sign) (rs : List Range) (c : Class) → 1 + length rs + records c ≡ records (optional_of i g rs c)
unfolding optional_of records
optional-records i g [] c = refl
optional-records i g (r ∷ rs) c = refl

-- What classes hold: g says of a byte that a class stands whole there, f what stands there
module _ (t : List ℕ) (g : ℕ → Type 0) (f : ℕ → Stood) (deeper : (p : ℕ) → g p → Passed t p (records (f p).class) (f p).next) where
  members-passed : (at n : ℕ) → WholeMembers g f at n → Passed t at (member_records (members_at f at n)) (behind_members f at n)
  unfolding WholeMembers members_at behind_members records
  members-passed at zero w = passed_none t at at refl
  members-passed at (suc n) w = passed-both (deeper at w.0) (members-passed (f at).next n w.1)

  options-passed : (at n : ℕ) → WholeOptions g f t at n → OptionKinds f t at n
      → Passed t at (option_records (options_at f t at n)) (behind_options f t at n)
  unfolding WholeOptions OptionKinds options_at behind_options records
  options-passed at zero w k = passed_none t at at refl
  options-passed at (suc n) w k =
      let o = option_class t at in
      passed-both (passed-both (option-passed t at k.0 k.1) (deeper o w.2)) (options-passed (f o).next n w.3 k.2)

  shape-passed : (at : ℕ) (s : Shape) → 5 < u8 t at → size (drop at t) ≡ record_size s → WholeIn g f t at s → KindsIn f t at s
      → Passed t at (records (class_in f t at s)) (next_in f t at s)
  unfolding record_size WholeIn KindsIn class_in next_in records
  shape-passed at (bit_field bit_array) h e w k = record-passed t at 4 h e
  shape-passed at (bit_field boolean) h e w k = record-passed t at 5 h e
  shape-passed at (bit_field unsigned_int) h e w k = record-passed t at 6 h e
  shape-passed at (bit_field signed_int) h e w k = record-passed t at 5 h e
  shape-passed at (bit_field float) h e w k = record-passed t at 4 h e
  shape-passed at leb_field h e w k = record-passed t at 3 h e
  shape-passed at signed_leb_field h e w k = record-passed t at 2 h e
  shape-passed at zero_string h e w k = record-passed t at 1 h e
  shape-passed at text h e w k = record-passed t at 3 h e
  shape-passed at blob h e w k = record-passed t at 4 h e
  shape-passed at text_of h e w k = record-passed t at 2 h e
  shape-passed at blob_of h e w k = record-passed t at 2 h e
  shape-passed at members h e w k = passed-both (record-passed t at 3 h e) (members-passed (at + 3) (u8 t (at + 1)) w.1)
  shape-passed at elements h e w k = passed-both (record-passed t at 4 h e) (deeper (at + 4) w.1)
  shape-passed at elements_of h e w k = passed-both (record-passed t at 3 h e) (deeper (at + 3) w.1)
  shape-passed at option? h e w k =
      passed-as (optional-records _ _ _ _) (passed-both (optional-passed t at h e k) (deeper (at + 3 + 18 * u8 t (at + 2)) w.1))
  shape-passed at options h e w k = passed-both (record-passed t at 3 h e) (options-passed (at + 3) (u8 t (at + 2)) w.1 k)

-- A class

pub class-opens-none : (d : ℕ) (t : List ℕ) (at : ℕ) → IsWhole d t at → 5 < u8 t at
unfolding IsWhole
class-opens-none zero t at w = absurd w
class-opens-none (suc d) t at w = omega (arith, w.low)

pub class-begins : (d : ℕ) (t : List ℕ) (at : ℕ) → IsWhole d t at → Begins t at
unfolding IsWhole
class-begins zero t at w = absurd w
class-begins (suc d) t at w = w.begins

pub class-passed : (d : ℕ) (t : List ℕ) (at : ℕ) → IsWhole d t at → Passed t at (records (class_at d t at)) (next_at d t at)
unfolding IsWhole stood_at
class-passed zero t at w = absurd w
class-passed (suc d) t at w =
    shape-passed t (IsWhole d t) (stood_at d t) (λ q v. class-passed d t q v) at (shape_of (u8 t at)) (omega (arith, w.low))
    (class-size t at w.low w.high) w.parts w.kinds

module _ (d : ℕ) (t : List ℕ) (at : ℕ) where
  pub behind-begins : IsWhole d t at → Begins t (next_at d t at)
  behind-begins w = (class-passed d t at w).begins (class-begins d t at w)

  pub number_small : IsWhole d t at → length t ≤ 65536 → number_at t at < 65536
  number_small w l = omega (arith, number-low (class-begins d t at w), whole-inside d t at w)

  pub number_behind : IsWhole d t at → 5 < u8 t (next_at d t at) → number_at t (next_at d t at) ≡ number_at t at + records (class_at d t at)
  number_behind w h = (class-passed d t at w).number (class-begins d t at w) h

  pub members-behind : (n : ℕ) → WholeMembers (IsWhole d t) (stood_at d t) at n → 5 < u8 t (behind_members (stood_at d t) at n)
      → number_at t (behind_members (stood_at d t) at n) ≡ number_at t at + member_records (members_at (stood_at d t) at n)
  unfolding WholeMembers members_at behind_members records
  members-behind zero w h = omega arith
  members-behind (suc n) w h =
      (members-passed t (IsWhole d t) (stood_at d t) (class-passed d t) at (suc n) w).number (class-begins d t at w.0) h

-- What it holds, by its kind

held_number : (t : List ℕ) (at n : ℕ) → Begins t at → size (drop at t) ≡ n → 5 < u8 t (at + n) → number_at t (at + n) ≡ number_at t at + 1
held_number t at n b e h = rw e at (next-number b (rw e h))

-- the first of some options
option-first : (f : ℕ → Stood) (t : List ℕ) (at n : ℕ) → 1 ≤ n → OptionKinds f t at n → u8 t at ≡ 34
unfolding OptionKinds
option-first f t at zero l k = absurd (omega arith)
option-first f t at (suc n) l k = k.0

-- a class of the kind k
record OfKind (d : ℕ) (t : List ℕ) (at k : ℕ) : Type 0 where
  begins : Begins t at
  low : 5 < u8 t at
  bytes : size (drop at t) ≡ record_size (shape_of k)
  parts : WholeIn (IsWhole d t) (stood_at d t) t at (shape_of k)
  kinds : KindsIn (stood_at d t) t at (shape_of k)

of-kind : (d : ℕ) (t : List ℕ) (at k : ℕ) → IsWhole (suc d) t at → u8 t at ≡ k → OfKind d t at k
unfolding IsWhole
of-kind d t at k w e = record {
  begins = w.begins;
  low = omega (arith, w.low);
  bytes = rw e at (class-size t at w.low w.high);
  parts = rw e at w.parts;
  kinds = rw e at w.kinds;
}

pub structure-number : (d : ℕ) (t : List ℕ) (at : ℕ) → IsWhole d t at → u8 t at ≡ 28 → 5 < u8 t (at + 3)
    → number_at t (at + 3) ≡ number_at t at + 1
unfolding IsWhole record_size shape_of shapes
structure-number zero t at w e h = absurd w
structure-number (suc d) t at w e h = let k = of-kind d t at 28 w e in held_number t at 3 k.begins k.bytes h

pub structure-members : (d : ℕ) (t : List ℕ) (at : ℕ) → IsWhole (suc d) t at → u8 t at ≡ 28
    → WholeMembers (IsWhole d t) (stood_at d t) (at + 3) (u8 t (at + 1))
unfolding shape_of shapes WholeIn
structure-members d t at w e = (of-kind d t at 28 w e).parts.1

pub array-number : (d : ℕ) (t : List ℕ) (at : ℕ) → IsWhole d t at → u8 t at ≡ 29 → number_at t (at + 4) ≡ number_at t at + 1
unfolding IsWhole record_size shape_of shapes WholeIn
array-number zero t at w e = absurd w
array-number (suc d) t at w e =
    let k = of-kind d t at 29 w e in held_number t at 4 k.begins k.bytes (class-opens-none d t (at + 4) k.parts.1)

pub dynamic-number : (d : ℕ) (t : List ℕ) (at : ℕ) → IsWhole d t at → u8 t at ≡ 30 → number_at t (at + 3) ≡ number_at t at + 1
unfolding IsWhole record_size shape_of shapes WholeIn
dynamic-number zero t at w e = absurd w
dynamic-number (suc d) t at w e =
    let k = of-kind d t at 30 w e in held_number t at 3 k.begins k.bytes (class-opens-none d t (at + 3) k.parts.1)

pub optional-number : (d : ℕ) (t : List ℕ) (at : ℕ) → IsWhole d t at → u8 t at ≡ 31
    → number_at t (at + 3 + 18 * u8 t (at + 2)) ≡ number_at t at + 1 + length (ranges_at t (at + 3) (u8 t (at + 2)))
unfolding IsWhole record_size shape_of shapes WholeIn KindsIn
optional-number zero t at w e = absurd w
optional-number (suc d) t at w e =
    let k = of-kind d t at 31 w e in
    let o = at + 3 + 18 * u8 t (at + 2) in
    omega (arith, (optional-passed t at k.low k.bytes k.kinds).number k.begins (class-opens-none d t o k.parts.1))

pub variant-number : (d : ℕ) (t : List ℕ) (at : ℕ) → IsWhole d t at → u8 t at ≡ 32 → number_at t (at + 3) ≡ number_at t at + 1
unfolding IsWhole record_size shape_of shapes WholeIn KindsIn
variant-number zero t at w e = absurd w
variant-number (suc d) t at w e =
    let k = of-kind d t at 32 w e in
    let o = option-first (stood_at d t) t (at + 3) (u8 t (at + 2)) k.parts.0 k.kinds in
    held_number t at 3 k.begins k.bytes (omega (arith, o))

-- Options, one behind the other

pub record OptionsStand (d : ℕ) (t : List ℕ) (at n : ℕ) : Type 0 where
  pub begins : Begins t at
  pub whole : WholeOptions (IsWhole d t) (stood_at d t) t at n
  pub kinds : OptionKinds (stood_at d t) t at n

pub variant-options : (d : ℕ) (t : List ℕ) (at : ℕ) → IsWhole (suc d) t at → u8 t at ≡ 32 → OptionsStand d t (at + 3) (u8 t (at + 2))
unfolding record_size shape_of shapes WholeIn KindsIn
variant-options d t at w e =
    let k = of-kind d t at 32 w e in
    record { begins = begins-behind k.begins 3 k.bytes; whole = k.parts.1; kinds = k.kinds }

module _ (d : ℕ) (t : List ℕ) (at n : ℕ) (s : OptionsStand d t at (suc n)) where
  -- an option with its class
  record OptionFirst : Type 0 where
    class : IsWhole d t (option_class t at)
    rest : WholeOptions (IsWhole d t) (stood_at d t) t (next_at d t (option_class t at)) n
    kinds : OptionKinds (stood_at d t) t (next_at d t (option_class t at)) n
    row : Passed t at (1 + length (ranges_at t (at + 2) (u8 t (at + 1)))) (option_class t at)

  first : OptionFirst
  unfolding WholeOptions OptionKinds
  first = record {
    class = s.whole.2;
    rest = s.whole.3;
    kinds = s.kinds.2;
    row = option-passed t at s.kinds.0 s.kinds.1;
  }

  pub options-rest : OptionsStand d t (next_at d t (option_class t at)) n
  options-rest = record { begins = behind-begins d t (option_class t at) first.class; whole = first.rest; kinds = first.kinds }

  pub option-class-number : number_at t (option_class t at) ≡ number_at t at + 1 + length (ranges_at t (at + 2) (u8 t (at + 1)))
  option-class-number = omega (arith, first.row.number s.begins (class-opens-none d t (option_class t at) first.class))

  pub option-next-number : 1 ≤ n
      → number_at t (next_at d t (option_class t at))
      ≡ number_at t at + 1 + length (ranges_at t (at + 2) (u8 t (at + 1))) + records (class_at d t (option_class t at))
  option-next-number l =
      let next = option-first (stood_at d t) t (next_at d t (option_class t at)) n l first.kinds in
      omega (arith, option-class-number, number_behind d t (option_class t at) first.class (omega (arith, next)))
