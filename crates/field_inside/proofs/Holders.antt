-- The five kinds that hold others, each by its number: what its record says, and what is told of it.
use Rattle.std.specs.Prelude.{Ok, Err}
use mathlib.Core.Path.{◌≡◌, refl}
use Prim.Native.Nat.{ℕ, ◌+◌, ◌-◌, ◌≤◌}
use native.Mathlib.Omega.{arith}
use mathlib.Core.List.{List}
use lib.ListN.{length}
use Rattle.rules.specs.declared.BitPlace.{BitPlace}
use Rattle.rules.specs.declared.Content.{Content}
use Rattle.rules.specs.declared.Refusal.{Refusal}
use Rattle.rules.specs.Limits.{no_slot}
use Rattle.rules.specs.Verdict.{stop_at}
use Rattle.rules.specs.Record.{u8, u16}
use Rattle.facts.proofs.Cases.{below, ◌▷◌}
use Rattle.frame.specs.declared.Frame.{Frame}
use Rattle.slots.specs.Taken.{length_of}
use Rattle.class_layout.specs.Trees.{shape_of, shapes, record_size, WholeIn}
use Rattle.class_layout.specs.Notes.{Notes, end_noted}
use Rattle.field_inside.specs.declared.look.Inside.TheVariants.{Refused}
use Rattle.field_choice.specs.Choice.{InTable, optional_at, variant_at, WholeOptional, WholeVariant}
use Rattle.field_inside.specs.Inside.{slot_read_in, slot_read_at, standing, members_from, elements_from, by_length, optional_inside}
use Rattle.field_inside.specs.Inside.{variant_inside, bits_noted, behind_noted, inside_in, inside_of, HolderStands}

-- a law of the five, one after the other
pub five : (P : ℕ → Type 0) → P 28 → P 29 → P 30 → P 31 → P 32 → (k : ℕ) → 28 ≤ k → k ≤ 32 → P k
five P a b c d e k l h =
    let same : 28 + (k - 28) ≡ k = omega arith in
    rw same at (below (λ j. P (28 + j)) 5 (a ▷ b ▷ c ▷ d ▷ e ▷ tt) (k - 28) (omega arith))

module _ (t : List ℕ) (x : Notes) (at : ℕ) (f : Frame) (p : BitPlace) (c : Content) where
  pub inside-structure : u8 t at ≡ 28 → standing f (bits_noted x at) p (members_from (u8 t (at + 1)) (at + 3)) ≡ inside_of t x at f p c
  unfolding inside_of inside_in shape_of shapes
  inside-structure e = rw (e) refl

  pub inside-array : u8 t at ≡ 29 → standing f (bits_noted x at) p (elements_from (u16 t (at + 1)) (at + 4)) ≡ inside_of t x at f p c
  unfolding inside_of inside_in shape_of shapes
  inside-array e = rw (e) refl

  pub inside-no-length : (r : Refusal) → u8 t at ≡ 30 → length_of c ≡ Err r → Refused (stop_at r p) ≡ inside_of t x at f p c
  unfolding inside_of inside_in shape_of shapes by_length
  inside-no-length r e h = rw (e, h) refl

  pub inside-dynamic : (n : ℕ) → u8 t at ≡ 30 → length_of c ≡ Ok n
      → standing f (bits_noted x at) p (elements_from n (at + 3)) ≡ inside_of t x at f p c
  unfolding inside_of inside_in shape_of shapes by_length
  inside-dynamic n e h = rw (e, h) refl

  pub inside-optional : u8 t at ≡ 31 → optional_inside p (behind_noted x at) (optional_at t at c) ≡ inside_of t x at f p c
  unfolding inside_of inside_in shape_of shapes
  inside-optional e = rw (e) refl

  pub inside-variant : u8 t at ≡ 32 → variant_inside p (variant_at t x.sizes at c) ≡ inside_of t x at f p c
  unfolding inside_of inside_in shape_of shapes
  inside-variant e = rw (e) refl

-- What the record of a kind says is there

module _ {t : List ℕ} {x : Notes} {at : ℕ} (o : HolderStands t x at) where
  there : (k : ℕ) → u8 t at ≡ k → at + record_size (shape_of k) ≤ length t
  there k e = rw (e) at o.stands.there

  parts : (k : ℕ) → u8 t at ≡ k → WholeIn (InTable t) (end_noted x.sizes) t at (shape_of k)
  parts k e = rw (e) at o.stands.parts

  pub record-there : at + 3 ≤ length t
  unfolding record_size shape_of shapes
  record-there =
      five (λ k. u8 t at ≡ k → at + 3 ≤ length t) (λ e. there 28 e) (λ e. omega (arith, there 29 e))
      (λ e. there 30 e) (λ e. there 31 e) (λ e. there 32 e)
      (u8 t at) o.kind o.stands.high refl

  pub optional-there : u8 t at ≡ 31 → WholeOptional t at
  unfolding WholeIn shape_of shapes
  optional-there e = record { limit = o.limit; there = record-there; ranges = (parts 31 e).0 }

  pub variant-there : u8 t at ≡ 32 → WholeVariant t x.sizes at
  unfolding WholeIn shape_of shapes
  variant-there e =
      record { limit = o.limit; room = o.sizes; there = record-there; some = (parts 32 e).0; options = (parts 32 e).1 }

-- the slot that a kind from 26 on reads

module _ (t : List ℕ) (at : ℕ) where
  pub no-slot-28 : u8 t at ≡ 28 → no_slot ≡ slot_read_at t at
  unfolding slot_read_at slot_read_in shape_of shapes
  no-slot-28 e = rw (e) refl

  pub no-slot-29 : u8 t at ≡ 29 → no_slot ≡ slot_read_at t at
  unfolding slot_read_at slot_read_in shape_of shapes
  no-slot-29 e = rw (e) refl

  abbrev Reads : ℕ → Type 0
  Reads k = u8 t at ≡ 26 + k → (k ≡ 2 → ⊥) → (k ≡ 3 → ⊥) → u8 t (at + 1) ≡ slot_read_at t at

  pub slot_read : 26 ≤ u8 t at → u8 t at ≤ 32 → (u8 t at ≡ 28 → ⊥) → (u8 t at ≡ 29 → ⊥) → u8 t (at + 1) ≡ slot_read_at t at
  unfolding slot_read_at slot_read_in shape_of shapes
  slot_read l h a b =
      below Reads 7
      ((λ e m n. rw (e) refl) ▷ (λ e m n. rw (e) refl) ▷ (λ e m n. absurd (m refl)) ▷ (λ e m n. absurd (n refl))
      ▷ (λ e m n. rw (e) refl) ▷ (λ e m n. rw (e) refl) ▷ (λ e m n. rw (e) refl) ▷ tt)
      (u8 t at - 26) (omega arith) (omega arith) (λ e. a (omega arith)) (λ e. b (omega arith))
