-- The rules' reading of a field of kinds 28 to 32 is what is told of it, and then what is done with that.
-- In order: a place and an entry; alignment; a length; a number; each kind; all five.
use Rattle.std.specs.Prelude.{Ok, Err, Result}
use mathlib.Core.Path.{◌≡◌, refl, sym, ap, ◌∙◌}
use Prim.Native.Nat.{ℕ, zero, suc, ◌+◌, ◌≤◌}
use native.Mathlib.Nat.{add-zero}
use native.Mathlib.Omega.{arith}
use mathlib.Core.List.{List, [], ◌∷◌}
use mathlib.Core.Bool.{Bool, true, false}
use lib.ListN.{length}
use lib.Dec.{ltb}
use Rattle.rules.specs.declared.BitPlace.{BitPlace}
use Rattle.rules.specs.declared.Content.{Content}
use Rattle.rules.specs.declared.Content.TheVariants.{Unset, Flag, Unsigned, Signed}
use Rattle.rules.specs.declared.Refusal.{Refusal}
use Rattle.rules.specs.declared.Refusal.TheVariants.{PastBound, LengthTooLarge}
use Rattle.rules.specs.Limits.{length_limit, words_per_entry}
use Rattle.rules.specs.Place.{bit_place, round_up, align_from}
use Rattle.rules.specs.Slots.{slot_at}
use Rattle.rules.specs.Record.{u8, u16}
use Rattle.rules.specs.Class.{Sign, plain, signed, Range, structure, static_array, dynamic_array, variant, count, align_of, any_holds}
use Rattle.rules.specs.Entry.{entry}
use Rattle.rules.specs.Verdict.{stop_at}
use Rattle.rules.specs.Step.{State, Step, ◌⨾◌, onto, after, refuse, refuse_at, listed}
use Rattle.rules.specs.Field.{Env, aligned, fit, field, from_slot, as_flag, as_number, as_length, times, present, read, read_members, read_option}
use Rattle.facts.proofs.Steps.{onto-nil, after-pass}
use Rattle.frame.specs.declared.Frame.{Frame}
use Rattle.frame.specs.Framed.{Framed, env_of, aligned_at}
use Rattle.slots.specs.Taken.{length_of, number_of}
use Rattle.listing.proofs.Checks.{check-stops, check-goes, check_at-stops, check_at-goes, room-first}
use Rattle.class_layout.specs.Numbers.{number_at}
use Rattle.class_layout.specs.Trees.{shape_of, shapes, ranges_at, sign_at, option_class, optional_of, Stood, members_at, options_at, class_in}
use Rattle.class_layout.specs.Trees.{stood_at, class_at, next_at, WholeOptions, WholeIn, IsWhole}
use Rattle.class_layout.specs.Notes.{Notes, end_noted, Prepared}
use Rattle.class_layout.proofs.Turns.{whole-inside}
use Rattle.class_layout.proofs.Aligned as aligned
use Rattle.class_layout.proofs.Numbered.{array-number, dynamic-number, optional-number, variant-number, OptionsStand, variant-options}
use Rattle.class_layout.proofs.Numbered.{options-rest}
use Rattle.class_layout.proofs.NumberedReads.{structure-reads, option-reads}
use Rattle.field_choice.specs.declared.Choice.{Choice}
use Rattle.field_choice.specs.declared.Choice.TheVariants.{Refused as NotTold}
use Rattle.field_inside.specs.declared.look.Inside.{Inside}
use Rattle.field_inside.specs.declared.look.Inside.TheVariants.{Members, Refused}
use Rattle.field_choice.specs.Choice.{InTable, by_number, present_at, by_flag, by_ranges, optional_class, optional_at, option_from}
use Rattle.field_choice.specs.Choice.{variant_in, variant_at}
use Rattle.field_inside.specs.Inside.{element_of, slot_read_in, slot_read_at, within, standing, members_from, elements_from, by_length}
use Rattle.field_inside.specs.Inside.{optional_inside, variant_inside, bits_noted, behind_noted, inside_in, inside_of, opened}
use Rattle.field_inside.proofs.Holders.{five}
use Rattle.field_inside.proofs.Noted.{option-same, end_same}

-- A place and an entry

align-one : (start p : ℕ) → start ≤ p → align_from start 1 p ≡ p
unfolding align_from round_up
align-one start p h = omega arith

members-counted : (g : ℕ → Stood) (at n : ℕ) → count (members_at g at n) ≡ n
unfolding members_at count
members-counted g at zero = refl
members-counted g at (suc n) = rw (members-counted g (g at).next n) (omega arith)

-- a field of no bits stays where it stands
field-listed : (e : Env) (j k a v : ℕ) (s : State) → field e j k a 0 v s ≡ listed (entry k (aligned e a s) 0 v j) (aligned e a s) s
unfolding field aligned
field-listed e j k a v s = ap (λ p. listed (entry k (aligned e a s) 0 v j) (bit_place p) s) (add-zero _)

-- j is the number of the field's record
module _ (b uuid : List ℕ) (f : Frame) (s : State) (d : ℕ) (t : List ℕ) (j : ℕ) where
  abbrev e : Env
  e = env_of b uuid f

  entered : (k a v : ℕ) (m : Step) → (field e j k a 0 v ⨾ m) s ≡ (listed (entry k (aligned e a s) 0 v j) (aligned e a s) ⨾ m) s
  unfolding ◌⨾◌
  entered k a v m = ap (λ o. after o m) (field-listed e j k a v s)

  -- Alignment

  stands-opened : (k a : ℕ) (m : Step) (w : BitPlace → Inside) → m s ≡ opened e j k d t (w (aligned_at f a s.place)) s
      → (fit e a 0 ⨾ m) s ≡ opened e j k d t (standing f a s.place w) s
  unfolding fit aligned ◌⨾◌ after standing within aligned_at opened refuse_at
  stands-opened k a m w h = by (ltb f.bound.0 (align_from f.start.0 a s.place.0)) refl
    where
      zero-on : align_from f.start.0 a s.place.0 + 0 ≡ align_from f.start.0 a s.place.0
      zero-on = add-zero _

      by : (c : Bool) → ltb f.bound.0 (align_from f.start.0 a s.place.0) ≡ c
          → (fit e a 0 ⨾ m) s ≡ opened e j k d t (standing f a s.place w) s
      by true q = ap (λ o. after o m) (check_at-stops _ PastBound _ s (rw zero-on q)) ∙ rw (q, within) refl
      by false q = ap (λ o. after o m) (check_at-goes _ PastBound _ s (rw zero-on q)) ∙ onto-nil (m s) ∙ h ∙ rw (q, within) refl

  -- what is inside, each by its own record's number
  abbrev members_read : ℕ → ℕ → Step
  members_read from n = read_members e (number_at t from) (members_at (stood_at d t) from n)

  abbrev elements_read : ℕ → ℕ → Step
  elements_read from n = times n (element_of e (number_at t from) (class_at d t from))

  -- "structures and arrays have bits 0 and their count"
  members-opened : (k a from n : ℕ)
      → (fit e a 0 ⨾ field e j k a 0 (count (members_at (stood_at d t) from n)) ⨾ members_read from n) s
      ≡ opened e j k d t (standing f a s.place (members_from n from)) s
  unfolding opened aligned aligned_at
  members-opened k a from n =
      stands-opened k a _ (members_from n from)
      (rw (members-counted (stood_at d t) from n) (entered k a n (members_read from n)))

  elements-opened : (k a from n : ℕ)
      → (fit e a 0 ⨾ field e j k a 0 n ⨾ elements_read from n) s
      ≡ opened e j k d t (standing f a s.place (elements_from n from)) s
  unfolding opened aligned aligned_at
  elements-opened k a from n = stands-opened k a _ (elements_from n from) (entered k a n (elements_read from n))

  -- A length, and a number: "slot checks 26, 27, 28"

  length-opened : (k : ℕ) (x : Content) (m : ℕ → Step) (w : ℕ → Inside) → ((n : ℕ) → m n s ≡ opened e j k d t (w n) s)
      → as_length x m s ≡ opened e j k d t (by_length s.place (length_of x) w) s
  unfolding as_length as_number length_of by_length opened ◌⨾◌ after refuse refuse_at
  length-opened k Unset m w h = refl
  length-opened k (Flag c) m w h = refl
  length-opened k (Signed n) m w h = refl
  length-opened k (Unsigned n) m w h = by (ltb length_limit n) refl
    where
      by : (c : Bool) → ltb length_limit n ≡ c
          → as_length (Unsigned n) m s ≡ opened e j k d t (by_length s.place (length_of (Unsigned n)) w) s
      by true q = ap (λ o. after o (m n)) (check-stops _ LengthTooLarge s q) ∙ rw (q, length_of) refl
      by false q = ap (λ o. after o (m n)) (check-goes _ LengthTooLarge s q) ∙ onto-nil (m n s) ∙ h n ∙ rw (q, length_of) refl

  -- what is told of a choice, where one that cannot be told is refused at the field's place
  module _ (k : ℕ) (inside : Choice → Inside) (refused : (r : Refusal) → inside (NotTold r) ≡ Refused (stop_at r s.place)) where
    refused-opened : (r : Refusal) → refuse r s ≡ opened e j k d t (inside (NotTold r)) s
    unfolding opened refuse refuse_at
    refused-opened r = rw (refused r) refl

    number-opened : (g : Sign) (x : Content) (m : ℕ → Step) (w : ℕ → Choice) → ((n : ℕ) → m n s ≡ opened e j k d t (inside (w n)) s)
        → as_number g x m s ≡ opened e j k d t (inside (by_number (number_of g x) w)) s
    unfolding as_number number_of by_number
    number-opened g Unset m w h = refused-opened _
    number-opened g (Flag c) m w h = refused-opened _
    number-opened plain (Unsigned n) m w h = h n
    number-opened signed (Unsigned n) m w h = refused-opened _
    number-opened plain (Signed n) m w h = refused-opened _
    number-opened signed (Signed n) m w h = h n

    flag-opened : (x : Content) (m : Bool → Step) (class : ℕ) → ((c : Bool) → m c s ≡ opened e j k d t (inside (present_at c class)) s)
        → as_flag x m s ≡ opened e j k d t (inside (by_flag x class)) s
    unfolding as_flag by_flag
    flag-opened Unset m class h = refused-opened _
    flag-opened (Flag c) m class h = h c
    flag-opened (Unsigned n) m class h = refused-opened _
    flag-opened (Signed n) m class h = refused-opened _

  -- Optionals and variants stand where the place is

  module _ (begun : f.start.0 ≤ s.place.0) where
    at_place : aligned e 1 s ≡ s.place
    unfolding aligned
    at_place = ap bit_place (align-one f.start.0 s.place.0 begun)

    -- one class, and none
    one-opened : (k v class : ℕ)
        → (field e j k 1 0 v ⨾ read e (number_at t class) (class_at d t class)) s ≡ opened e j k d t (Members s.place v class 1) s
    unfolding opened read_members members_at ◌⨾◌ after listed
    one-opened k v class = entered k 1 v _ ∙ rw (at_place) (ap (onto _) (sym (after-pass _)))

    none-opened : (k v from : ℕ) → field e j k 1 0 v s ≡ opened e j k d t (Members s.place v from 0) s
    unfolding opened read_members members_at ◌⨾◌
    none-opened k v from = field-listed e j k 1 v s ∙ rw (at_place) (sym (after-pass _))

    present-opened : (at class : ℕ) (c : Bool)
        → present e j c (read e (number_at t class) (class_at d t class)) s
        ≡ opened e j 31 d t (optional_inside s.place at (present_at c class)) s
    unfolding present present_at optional_inside
    present-opened at class true = one-opened 31 1 class
    present-opened at class false = none-opened 31 0 at

    either : (c : Bool) (m n : Step) (x y : Choice)
        → m s ≡ opened e j 32 d t (variant_inside s.place x) s → n s ≡ opened e j 32 d t (variant_inside s.place y) s
        → (elim c as (λ c. Step) [ true ↦ m | false ↦ n ]) s
        ≡ opened e j 32 d t (variant_inside s.place (elim c [ true ↦ x | false ↦ y ])) s
    either true m n x y h i = h
    either false m n x y h i = i

    option-opened : (g : Sign) (v k at n : ℕ) → OptionsStand d t at n
        → read_option e j (number_at t at) g v k (options_at (stood_at d t) t at n) s
        ≡ opened e j 32 d t (variant_inside s.place (option_from (stood_at d t) t g v k at n)) s
    unfolding option_from variant_inside
    option-opened g v k at zero o =
        unfold read_option options_at in refused-opened 32 (variant_inside s.place) (λ r. refl) _
    option-opened g v k at (suc n) o =
        ap (λ m. m s) (option-reads e j g v k d t at n o)
        ∙ either (any_holds g v (ranges_at t (at + 2) (u8 t (at + 1)))) _ _ _ _ (one-opened 32 k (option_class t at))
        (option-opened g v (k + 1) (next_at d t (option_class t at)) n (options-rest d t at n o))

  -- Each kind, where there is room for its entry

  module _ (room : words_per_entry ≤ s.room) where
    structure-opened : (a from n A : ℕ) → align_of (structure a (members_at (stood_at d t) from n)) ≡ A
        → read_members e (j + 1) (members_at (stood_at d t) from n) ≡ members_read from n
        → read e j (structure a (members_at (stood_at d t) from n)) s ≡ opened e j 28 d t (standing f A s.place (members_from n from)) s
    unfolding read
    structure-opened a from n A h same = room-first _ s room ∙ rw (← h, same) (members-opened 28 _ from n)

    array-opened : (n a from A : ℕ) → align_of (static_array n a (class_at d t from)) ≡ A → number_at t from ≡ j + 1
        → read e j (static_array n a (class_at d t from)) s ≡ opened e j 29 d t (standing f A s.place (elements_from n from)) s
    unfolding read
    array-opened n a from A h number = room-first _ s room ∙ rw (← h, ← number) (elements-opened 29 _ from n)

    dynamic-opened : (i a from A : ℕ) → align_of (dynamic_array i a (class_at d t from)) ≡ A → number_at t from ≡ j + 1
        → read e j (dynamic_array i a (class_at d t from)) s
        ≡ opened e j 30 d t (by_length s.place (length_of (slot_at s.slots i)) (λ n. standing f A s.place (elements_from n from))) s
    unfolding read from_slot
    dynamic-opened i a from A h number =
        room-first _ s room ∙ rw (← h, ← number) (length-opened 30 (slot_at s.slots i) _ _ (elements-opened 30 _ from))

    module _ (begun : f.start.0 ≤ s.place.0) where
      optional-opened : (i at class : ℕ) (g : Sign) (rs : List Range) → number_at t class ≡ j + 1 + length rs
          → read e j (optional_of i g rs (class_at d t class)) s
          ≡ opened e j 31 d t (optional_inside s.place at (by_ranges (slot_at s.slots i) g rs class)) s
      unfolding read from_slot optional_of by_ranges optional_inside
      optional-opened i at class g [] number =
          let n : number_at t class ≡ j + 1 = omega (arith, number) in
          room-first _ s room ∙ rw (← n)
          (flag-opened 31 (optional_inside s.place at) (λ r. refl) (slot_at s.slots i) _ class (present-opened begun at class))
      optional-opened i at class g (r ∷ rs) number =
          room-first _ s room ∙ rw (← number)
          (number-opened 31 (optional_inside s.place at) (λ r. refl) g (slot_at s.slots i) _
          (λ v. present_at (any_holds g v (r ∷ rs)) class)
          (λ v. present-opened begun at class (any_holds g v (r ∷ rs))))

      variant-opened : (i at n : ℕ) (g : Sign) → number_at t at ≡ j + 1 → OptionsStand d t at n
          → read e j (variant i g (options_at (stood_at d t) t at n)) s
          ≡ opened e j 32 d t
          (variant_inside s.place (by_number (number_of g (slot_at s.slots i)) (λ v. option_from (stood_at d t) t g v 0 at n))) s
      unfolding read from_slot variant_inside
      variant-opened i at n g number o =
          room-first _ s room ∙ rw (← number)
          (number-opened 32 (variant_inside s.place) (λ r. refl) g (slot_at s.slots i) _ (λ v. option_from (stood_at d t) t g v 0 at n)
          (λ v. option-opened begun g v 0 at n o))

-- All five

number_same : (n : Result ℕ Refusal) (m m' : ℕ → Choice) → ((v : ℕ) → m v ≡ m' v) → by_number n m ≡ by_number n m'
unfolding by_number
number_same (Ok v) m m' h = h v
number_same (Err r) m m' h = refl

-- the notes find the option that the tree has
pub variant-noted : (d : ℕ) (t : List ℕ) (x : Notes) (at : ℕ) (c : Content) → Prepared t x
    → WholeOptions (IsWhole d t) (stood_at d t) t (at + 3) (u8 t (at + 2)) → variant_at t x.sizes at c ≡ variant_in (stood_at d t) t at c
unfolding variant_in
variant-noted d t x at c r w =
    number_same (number_of (sign_at t (at + 5)) c) _ _
    (λ v. option-same t (IsWhole d t) (InTable t) (stood_at d t) (end_noted x.sizes) (λ p u. whole-inside d t p u)
    (λ p u. end_same t x r d p u) _ v 0 (at + 3) (u8 t (at + 2)) w)

module _ (b uuid : List ℕ) (f : Frame) (d : ℕ) (t : List ℕ) (x : Notes) (at : ℕ) (c : Content) (s : State) where
  abbrev env : Env
  env = env_of b uuid f

  -- where the class at the byte is of the kind k
  abbrev Reads : ℕ → Type 0
  Reads k =
      u8 t at ≡ k → align_of (class_in (stood_at d t) t at (shape_of k)) ≡ bits_noted x at
      → WholeIn (IsWhole d t) (stood_at d t) t at (shape_of k) → c ≡ slot_at s.slots (slot_read_in t at (shape_of k))
      → read env (number_at t at) (class_in (stood_at d t) t at (shape_of k)) s
      ≡ opened env (number_at t at) k d t (inside_in t x at f s.place c (shape_of k)) s

  pub inside-read : IsWhole (suc d) t at → 28 ≤ u8 t at → words_per_entry ≤ s.room → c ≡ slot_at s.slots (slot_read_at t at)
      → Framed b f s.place → Prepared t x → read env (number_at t at) (class_at (suc d) t at) s
      ≡ opened env (number_at t at) (u8 t at) d t (inside_of t x at f s.place c) s
  unfolding IsWhole stood_at slot_read_at inside_of class_in inside_in slot_read_in WholeIn shape_of shapes optional_at variant_in
  inside-read w k room told framed ready =
      five Reads
      (λ h a p q. structure-opened b uuid f s d t m room (u8 t (at + 2)) (at + 3) (u8 t (at + 1)) _ a (structure-reads env d t at w h))
      (λ h a p q. array-opened b uuid f s d t m room (u16 t (at + 1)) (u8 t (at + 3)) (at + 4) _ a (array-number (suc d) t at w h))
      (λ h a p q. rw q
      (dynamic-opened b uuid f s d t m room (u8 t (at + 1)) (u8 t (at + 2)) (at + 3) _ a (dynamic-number (suc d) t at w h)))
      (λ h a p q. rw q
      (optional-opened b uuid f s d t m room begun (u8 t (at + 1)) (behind_noted x at) (optional_class t at) (sign_at t (at + 3))
      (ranges_at t (at + 3) (u8 t (at + 2))) (optional-number (suc d) t at w h)))
      (λ h a p q. rw (variant-noted d t x at c ready p.1, q)
      (variant-opened b uuid f s d t m room begun (u8 t (at + 1)) (at + 3) (u8 t (at + 2)) (sign_at t (at + 5))
      (variant-number (suc d) t at w h) (variant-options d t at w h)))
      (u8 t at) k w.high refl align w.parts told
    where
      m : ℕ
      m = number_at t at

      begun : f.start.0 ≤ s.place.0
      begun = framed.begun

      align : align_of (class_in (stood_at d t) t at (shape_of (u8 t at))) ≡ bits_noted x at
      align = rw (ready.classes (suc d) at w).align (aligned.aligned (suc d) t at w).0
