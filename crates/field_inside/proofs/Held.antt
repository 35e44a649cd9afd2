-- What is told of a field can be read on: the classes that it holds stand whole, and its place lies in the packet.
use Rattle.std.specs.Prelude.{Ok, Err, Result}
use mathlib.Core.Path.{◌≡◌, refl}
use Prim.Native.Nat.{ℕ, zero, suc, ◌+◌, ◌^◌, ◌≤◌, ◌<◌}
use native.Mathlib.Omega.{arith}
use lib.Pow.{pow_pos}
use mathlib.Core.List.{List, [], ◌∷◌}
use mathlib.Core.Bool.{Bool, true, false}
use lib.Dec.{ltb}
use lib.ListN.{length}
use borrow.Author.Tests.{ltb-false}
use Rattle.rules.specs.declared.BitPlace.{BitPlace}
use Rattle.rules.specs.declared.Content.{Content}
use Rattle.rules.specs.declared.Content.TheVariants.{Unset, Flag, Unsigned, Signed}
use Rattle.rules.specs.declared.Refusal.{Refusal}
use Rattle.rules.specs.declared.Stop.{Stop}
use Rattle.rules.specs.Limits.{length_limit}
use Rattle.rules.specs.Record.{u8}
use Rattle.rules.specs.Class.{Sign, Range, any_holds}
use Rattle.places.proofs.Multiple.{align-near}
use Rattle.frame.specs.declared.Frame.{Frame}
use Rattle.frame.specs.Framed.{Framed, aligned_at}
use Rattle.slots.specs.Taken.{length_of, number_of}
use Rattle.class_layout.specs.Trees.{shape_of, shapes, record_size, ranges_at, sign_at, option_class, Stood, stood_at, next_at, behind_members}
use Rattle.class_layout.specs.Trees.{WholeMembers, WholeOptions, WholeIn, IsWhole}
use Rattle.class_layout.specs.Notes.{Notes, Prepared}
use Rattle.class_layout.proofs.InPlace.{structure-in-place, optional-in-place}
use Rattle.field_choice.specs.declared.Choice.{Choice}
use Rattle.field_choice.specs.declared.Choice.TheVariants.{Class, Nothing, Refused as NotTold}
use Rattle.field_inside.specs.declared.look.Inside.{Inside}
use Rattle.field_inside.specs.declared.look.Inside.TheVariants.{Members, Elements, Refused}
use Rattle.field_choice.specs.Choice.{by_number, present_at, by_flag, by_ranges, optional_class, optional_at, option_from, variant_in}
use Rattle.field_inside.specs.Inside.{within, standing, by_length, optional_inside, variant_inside, bits_noted, behind_noted}
use Rattle.field_inside.specs.Inside.{inside_in, inside_of}
use Rattle.field_inside.specs.Held.{Placed, Held}
use Rattle.field_inside.proofs.Holders.{five}
use Rattle.field_inside.proofs.Opened.{variant-noted}

-- A place

placed-here : (f : Frame) (from : BitPlace) → f.start.0 ≤ from.0 → from.0 ≤ f.bound.0 → Placed f from from
placed-here f from l h = record { begun = l; within = h; onward = omega arith }

placed-aligned : (f : Frame) (from : BitPlace) (a : ℕ) → f.start.0 ≤ from.0 → (aligned_at f (2 ^ a) from).0 ≤ f.bound.0
    → Placed f from (aligned_at f (2 ^ a) from)
unfolding aligned_at
placed-aligned f from a l h =
    let n = align-near f.start.0 (2 ^ a) from.0 (pow_pos a) l in
    record { begun = omega (arith, n.0); within = h; onward = n.0 }

-- What holds of all that may be told holds of what is told; P is that, and a refusal has it

either-has : (P : Choice → Type 0) (c : Bool) (x y : Choice) → P x → P y → P (elim c [ true ↦ x | false ↦ y ])
either-has P true x y h i = h
either-has P false x y h i = i

-- of the options from a byte on: one of them, or none
option-has : (P : Choice → Type 0) (w : ℕ → Type 0) (f : ℕ → Stood) (t : List ℕ) (g : Sign) (v k at n : ℕ) → WholeOptions w f t at n
    → ((class i : ℕ) → w class → i < k + n → P (Class class i)) → P Nothing → P (option_from f t g v k at n)
unfolding WholeOptions option_from
option-has P w f t g v k at zero h some none = none
option-has P w f t g v k at (suc n) h some none =
    either-has P (any_holds g v (ranges_at t (at + 2) (u8 t (at + 1)))) _ _ (some (option_class t at) k h.2 (omega arith))
    (option-has P w f t g v (k + 1) (f (option_class t at)).next n h.3 (λ class i u l. some class i u (omega arith)) none)

module _ (P : Inside → Type 0) (refused : (v : Stop) → P (Refused v)) where
  standing-has : (f : Frame) (a : ℕ) (from : BitPlace) (m : BitPlace → Inside)
      → ((aligned_at f a from).0 ≤ f.bound.0 → P (m (aligned_at f a from))) → P (standing f a from m)
  unfolding standing within
  standing-has f a from m h = by (ltb f.bound.0 (aligned_at f a from).0) refl
    where
      by : (c : Bool) → ltb f.bound.0 (aligned_at f a from).0 ≡ c → P (standing f a from m)
      by true q = rw (q, within) (refused _)
      by false q = rw (q, within) (h (ltb-false _ _ q))

  length_has : (p : BitPlace) (x : Content) (m : ℕ → Inside) → ((n : ℕ) → n ≤ length_limit → P (m n)) → P (by_length p (length_of x) m)
  unfolding length_of by_length
  length_has p Unset m h = refused _
  length_has p (Flag c) m h = refused _
  length_has p (Signed n) m h = refused _
  length_has p (Unsigned n) m h = by (ltb length_limit n) refl
    where
      by : (c : Bool) → ltb length_limit n ≡ c → P (by_length p (length_of (Unsigned n)) m)
      by true q = rw (q, length_of) (refused _)
      by false q = rw (q, length_of) (h n (ltb-false _ _ q))

  number-has : (inside : Choice → Inside) → ((r : Refusal) → P (inside (NotTold r))) → (n : Result ℕ Refusal) (m : ℕ → Choice)
      → ((v : ℕ) → P (inside (m v))) → P (inside (by_number n m))
  unfolding by_number
  number-has inside none (Ok v) m h = h v
  number-has inside none (Err r) m h = none r

  module _ (p : BitPlace) (at class : ℕ) (there : P (Members p 1 class 1)) (none : P (Members p 0 at 0)) where
    present-has : (c : Bool) → P (optional_inside p at (present_at c class))
    unfolding present_at optional_inside
    present-has true = there
    present-has false = none

    optional-has : (x : Content) (g : Sign) (rs : List Range) → P (optional_inside p at (by_ranges x g rs class))
    unfolding by_ranges by_flag optional_inside
    optional-has Unset g [] = refused _
    optional-has (Flag c) g [] = present-has c
    optional-has (Unsigned n) g [] = refused _
    optional-has (Signed n) g [] = refused _
    optional-has x g (r ∷ rs) =
        number-has (optional_inside p at) (λ r. refused _) (number_of g x) _ (λ v. present-has (any_holds g v (r ∷ rs)))

  variant-has : (p : BitPlace) (w : ℕ → Type 0) (f : ℕ → Stood) (t : List ℕ) (at : ℕ) (x : Content)
      → WholeOptions w f t (at + 3) (u8 t (at + 2)) → ((class i : ℕ) → w class → i < 0 + u8 t (at + 2) → P (Members p i class 1))
      → P (variant_inside p (variant_in f t at x))
  unfolding variant_in variant_inside
  variant-has p w f t at x h some =
      number-has (variant_inside p) (λ r. refused _) (number_of (sign_at t (at + 5)) x) _
      (λ v. option-has (λ o. P (variant_inside p o)) w f t (sign_at t (at + 5)) v 0 (at + 3) (u8 t (at + 2)) h some (refused _))

-- All five

module _ (b : List ℕ) (f : Frame) (d : ℕ) (t : List ℕ) (x : Notes) (at : ℕ) (c : Content) (from : BitPlace) where
  -- where the class at the byte is of the kind k
  abbrev Has : (Inside → Type 0) → ℕ → Type 0
  Has P k =
      WholeIn (IsWhole d t) (stood_at d t) t at (shape_of k) → at + record_size (shape_of k) ≤ length t → P (inside_in t x at f from c (shape_of k))

  abbrev Here : Inside → Type 0
  Here = Held d t f from

  pub inside-whole : IsWhole (suc d) t at → 28 ≤ u8 t at → Framed b f from → Prepared t x → Held d t f from (inside_of t x at f from c)
  unfolding IsWhole inside_of inside_in WholeIn shape_of shapes optional_at Held WholeMembers
  inside-whole w k framed ready =
      five (Has Here)
      (λ p l. standing-has Here (λ v. tt) f _ from _ (λ h. record { place = aligned h; classes = p.1 }))
      (λ p l. standing-has Here (λ v. tt) f _ from _ (λ h. record { place = aligned h; class = p.1 }))
      (λ p l. length_has Here (λ v. tt) from c _
      (λ n u. standing-has Here (λ v. tt) f _ from _ (λ h. record { place = aligned h; class = p.1 })))
      (λ p l. optional-has Here (λ v. tt) from (behind_noted x at) (optional_class t at) (record { place = here; classes = (p.1, tt) })
      (record { place = here; classes = tt }) c (sign_at t (at + 3)) (ranges_at t (at + 3) (u8 t (at + 2))))
      (λ p l. rw (variant-noted d t x at c ready p.1)
      (variant-has Here (λ v. tt) from (IsWhole d t) (stood_at d t) t at c p.1 (λ class i u h. record { place = here; classes = (u, tt) })))
      (u8 t at) k w.high w.parts w.there
    where
      aligned : (aligned_at f (bits_noted x at) from).0 ≤ f.bound.0 → Placed f from (aligned_at f (bits_noted x at) from)
      aligned h = placed-aligned f from _ framed.begun h

      here : Placed f from from
      here = placed-here f from framed.begun framed.within

-- How what is told takes a field's place in a run: members of any kind but a variant end where the field ends, and a variant's is one;
-- elements are an array's, of kind 29 or 30

unfoldable pub Ends : ℕ → List ℕ → ℕ → ℕ → Inside → Type 0
Ends d t at k (Members p v from n) = (k ≡ 32 → n ≡ 1) × ((k ≡ 32 → ⊥) → behind_members (stood_at d t) from n ≡ next_at d t at)
Ends d t at k (Elements p v from n) = (k ≡ 28 → ⊥) × (k ≡ 31 → ⊥)
Ends d t at k (Refused v) = Unit {0}

module _ (f : Frame) (d : ℕ) (t : List ℕ) (x : Notes) (at : ℕ) (c : Content) (from : BitPlace) (w : IsWhole (suc d) t at) (ready : Prepared t x)
  where
    abbrev Here-ends : ℕ → Inside → Type 0
    Here-ends k = Ends (suc d) t at k

    abbrev Ending : ℕ → Type 0
    Ending k = u8 t at ≡ k → WholeIn (IsWhole d t) (stood_at d t) t at (shape_of k) → Here-ends k (inside_in t x at f from c (shape_of k))

    pub inside-ends : 28 ≤ u8 t at → Here-ends (u8 t at) (inside_of t x at f from c)
    unfolding IsWhole inside_of inside_in WholeIn shape_of shapes optional_at Ends behind_members
    inside-ends k =
        five Ending
        (λ e p. standing-has (Here-ends 28) (λ v. tt) f _ from _
        (λ h. (λ z. absurd (omega arith), λ z. (structure-in-place (suc d) t at w (rw e refl)).ends)))
        (λ e p. standing-has (Here-ends 29) (λ v. tt) f _ from _ (λ h. (λ z. absurd (omega arith), λ z. absurd (omega arith))))
        (λ e p. length_has (Here-ends 30) (λ v. tt) from c _
        (λ n u. standing-has (Here-ends 30) (λ v. tt) f _ from _ (λ h. (λ z. absurd (omega arith), λ z. absurd (omega arith)))))
        (λ e p. optional-has (Here-ends 31) (λ v. tt) from (behind_noted x at) (optional_class t at)
        (λ z. absurd (omega arith), λ z. (optional-in-place (suc d) t at w (rw e refl)).ends)
        (λ z. absurd (omega arith), λ z. (ready.classes (suc d) at w).size)
        c (sign_at t (at + 3)) (ranges_at t (at + 3) (u8 t (at + 2))))
        (λ e p. rw (variant-noted d t x at c ready p.1)
        (variant-has (Here-ends 32) (λ v. tt) from (IsWhole d t) (stood_at d t) t at c p.1
        (λ class i u h. (λ z. refl, λ z. absurd (z refl)))))
        (u8 t at) k w.high refl w.parts
