-- A class record by its kind: that its kind is known, and that the slot which it names is what it says to set. Then its bytes, test by
-- test, and what they tell of the record.
use mathlib.Core.Path.{◌≡◌, refl, sym, ap, ◌∙◌}
use mathlib.Core.Bool.{Bool, true, false, ◌&&◌}
use mathlib.Core.List.{List}
use Prim.Native.Nat.{ℕ, ◌+◌, ◌-◌, ◌<◌, ◌≤◌}
use native.Mathlib.Omega.{arith}
use lib.ListN.{length}
use lib.Dec.{eqb, leb}
use borrow.Author.Tests.{le-leb, lt-leb}
use Rattle.rules.specs.Limits.{no_slot}
use Rattle.rules.specs.Faults.{pick}
use Rattle.rules.specs.Record.{u8, no, bits_layout, layouts}
use Rattle.facts.proofs.Cases.{◌▷◌, below}
use Rattle.table_offsets.specs.Bodies.{no_kind, known, mark, body_mark}
use Rattle.table_offsets.specs.Check.{pick_n, byte_at, inside, head_fault, bits_say, say, sayings, say_of, says_at}
use Rattle.table_offsets.proofs.Picked.{inside-fine}
use Rattle.table_records.specs.Named.{slot_place, named_at}
use Rattle.check_slots.specs.Homes.{is_among, class_size}

-- By kind

record OfKind (k : ℕ) : Type 0 where
  mark-known : eqb (body_mark k) no_kind ≡ false
  names : (t : List ℕ) (at : ℕ) → elim (eqb (slot_place k) 0) [ true ↦ no_slot | false ↦ u8 t (at + slot_place k) ] ≡ (say_of k t at).sets

of-kind : (k : ℕ) → 16 ≤ k → k ≤ 32 → OfKind k
unfolding body_mark mark known layouts no bits_layout slot_place pick u8 say_of sayings say bits_say
of-kind k l h = at-16 (k - 16) (omega arith) k (omega arith)
  where
    at-16 : (i : ℕ) → i < 17 → (k : ℕ) → k ≡ 16 + i → OfKind k
    at-16 i h k e = rw e (below (λ i. OfKind (16 + i)) 17 (
        record { mark-known = refl; names = λ t at. refl } ▷ record { mark-known = refl; names = λ t at. refl }
        ▷ record { mark-known = refl; names = λ t at. refl } ▷ record { mark-known = refl; names = λ t at. refl }
        ▷ record { mark-known = refl; names = λ t at. refl } ▷ record { mark-known = refl; names = λ t at. refl }
        ▷ record { mark-known = refl; names = λ t at. refl } ▷ record { mark-known = refl; names = λ t at. refl }
        ▷ record { mark-known = refl; names = λ t at. refl } ▷ record { mark-known = refl; names = λ t at. refl }
        ▷ record { mark-known = refl; names = λ t at. refl } ▷ record { mark-known = refl; names = λ t at. refl }
        ▷ record { mark-known = refl; names = λ t at. refl } ▷ record { mark-known = refl; names = λ t at. refl }
        ▷ record { mark-known = refl; names = λ t at. refl } ▷ record { mark-known = refl; names = λ t at. refl }
        ▷ record { mark-known = refl; names = λ t at. refl } ▷ tt
        ) i h)

pub named-says : (t : List ℕ) (at : ℕ) → 16 ≤ byte_at t at → byte_at t at ≤ 32 → named_at t at ≡ (says_at t at).sets
unfolding named_at says_at u8
named-says t at l h = (of-kind (byte_at t at) l h).names t at

-- Its bytes: past the end, of another kind, cut short, whole

pub size-past : (t : List ℕ) (at : ℕ) → length t ≤ at → class_size t at ≡ 0
unfolding class_size is_among head_fault pick_n
size-past t at h = rw (le-leb (length t) at h)

module _ (t : List ℕ) (at k : ℕ) (kind : k ≡ byte_at t at) where
  pub size-other : inside k 16 32 ≡ false → class_size t at ≡ 0
  unfolding class_size is_among pick_n
  size-other e = by (eqb (head_fault t at) 0) _ (ap (λ k. inside k 16 32) (sym kind) ∙ e)
    where
      by : (a b : Bool) → b ≡ false → pick_n (a && b) (1 + body_mark (byte_at t at)) 0 ≡ 0
      by true b e = rw e
      by false b e = refl

  module _ (within : at < length t) (class : inside k 16 32 ≡ true) (n : ℕ) (bytes : n ≡ 1 + body_mark k) where
    mark-known : eqb (body_mark k) no_kind ≡ false
    mark-known = (of-kind k (inside-fine k 16 32 class).0 (inside-fine k 16 32 class).1).mark-known

    pub size-cut : length t - at < n → class_size t at ≡ 0
    unfolding class_size is_among head_fault pick_n
    size-cut h =
        let body : leb (length t - at) (body_mark k) ≡ true = le-leb (length t - at) (body_mark k) (omega (arith, bytes, h)) in
        rw (← kind, lt-leb (length t) at within, mark-known, body)

    pub size-whole : n ≤ length t - at → n ≡ class_size t at
    unfolding class_size is_among head_fault pick_n
    size-whole h =
        let body : leb (length t - at) (body_mark k) ≡ false = lt-leb (length t - at) (body_mark k) (omega (arith, bytes, h)) in
        rw (← kind, lt-leb (length t) at within, mark-known, body, class, bytes)

-- What they tell

module _ (t : List ℕ) (at n : ℕ) (size : n ≡ class_size t at) where
  pub sized-none : n ≡ 0 → is_among t 16 32 at ≡ false
  unfolding class_size pick_n
  sized-none e = by (is_among t 16 32 at) refl (sym size ∙ e)
    where
      by : (b : Bool) → is_among t 16 32 at ≡ b → pick_n b (1 + body_mark (byte_at t at)) 0 ≡ 0 → b ≡ false
      by true e h = absurd (omega (arith, h))
      by false e h = refl

  pub sized : (n ≡ 0 → ⊥) → (is_among t 16 32 at ≡ true) × (n ≡ 1 + body_mark (byte_at t at))
  unfolding class_size pick_n
  sized h = by (is_among t 16 32 at) size
    where
      by : (b : Bool) → n ≡ pick_n b (1 + body_mark (byte_at t at)) 0 → (b ≡ true) × (n ≡ 1 + body_mark (byte_at t at))
      by true e = (refl, e)
      by false e = absurd (h e)
