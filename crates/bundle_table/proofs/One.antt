-- One fragment: whether it stays, by its kind; and how many of its bytes do. What stays are its first bytes, all or none.
use mathlib.Core.Path.{◌≡◌, refl, ap}
use Prim.Native.Nat.{ℕ, zero, suc, ◌+◌, ◌-◌, ◌≤◌, ◌<◌}
use native.Mathlib.Omega.{arith}
use mathlib.Core.Logic.{⊎_elim}
use mathlib.Core.List.{List, [], ◌∷◌}
use mathlib.Core.Bool.{Bool, true, false}
use lib.ListN.{length, get_or, take, drop, length-take, length-drop}
use borrow.Author.Tests.{eq-eqb, ne_eqb}
use Rattle.rules.specs.Record.{u8}
use Rattle.facts.proofs.Numbers.{lt-or-ge}
use Rattle.class_layout.specs.Fragments.{stream_kind, event_kind, behind_fragment, Fragment}
use Rattle.class_layout.specs.Sizes.{SizedFragment}
use Rattle.bundle_table.specs.Kept.{marked, stood, bytes_of, kept_one}

-- By its kind

module _ (t m : List ℕ) (o : ℕ) where
  pub stream-stood : u8 t o ≡ stream_kind → marked m o ≡ stood t m o
  unfolding stood
  stream-stood k = rw (eq-eqb (u8 t o) stream_kind k, stood)

  pub event-stood : u8 t o ≡ event_kind → marked m o ≡ stood t m o
  unfolding stood
  event-stood k = rw (ne_eqb (u8 t o) stream_kind (λ e. omega arith), eq-eqb (u8 t o) event_kind k, stood)

  -- their numbers are neighbours
  pub marked-stood : stream_kind ≤ u8 t o → u8 t o ≤ event_kind → marked m o ≡ stood t m o
  marked-stood j k = ⊎_elim
      (λ (l : u8 t o < event_kind). stream-stood (omega arith))
      (λ (l : event_kind ≤ u8 t o). event-stood (omega arith))
      (lt-or-ge (u8 t o) event_kind)

  pub other-stood : (u8 t o ≡ stream_kind → ⊥) → (u8 t o ≡ event_kind → ⊥) → true ≡ stood t m o
  unfolding stood
  other-stood j k = rw (ne_eqb (u8 t o) stream_kind j, ne_eqb (u8 t o) event_kind k, stood)

-- Its bytes

-- the first bytes are as many as there are
pub take_own : (n : ℕ) (x : List ℕ) → take (length (take n x)) x ≡ take n x
take_own zero x = refl
take_own (suc n) [] = refl
take_own (suc n) (a ∷ x) = ap (λ y. a ∷ y) (take_own n x)

bytes-length : (t : List ℕ) (o : ℕ) → Fragment t o → length (bytes_of t o) ≡ behind_fragment t o - o
unfolding bytes_of
bytes-length t o f =
    let n = behind_fragment t o - o in
    omega (arith, length-take n (drop o t), length-drop o t, f.within)

module _ (t m : List ℕ) (o : ℕ) where
  pub stays-length : {s : List ℕ} {n : ℕ} → SizedFragment t s o → true ≡ stood t m o → n ≡ get_or s o 0 → n ≡ length (kept_one t m o)
  unfolding kept_one
  stays-length f b e = rw (← b, kept_one) (omega (arith, e, bytes-length t o f.stands, f.size))

  pub goes-length : false ≡ stood t m o → 0 ≡ length (kept_one t m o)
  unfolding kept_one
  goes-length b = rw (← b, kept_one)

  pub one-bytes : take (length (kept_one t m o)) (drop o t) ≡ kept_one t m o
  unfolding kept_one bytes_of
  one-bytes = by (stood t m o)
    where
      whole : List ℕ
      whole = take (behind_fragment t o - o) (drop o t)

      by : (b : Bool)
          → take (length {A = ℕ} (elim b [ true ↦ whole | false ↦ [] ])) (drop o t) ≡ elim b [ true ↦ whole | false ↦ [] ]
      by true = take_own (behind_fragment t o - o) (drop o t)
      by false = refl

  pub one-within : Fragment t o → o + length (kept_one t m o) ≤ behind_fragment t o
  unfolding kept_one
  one-within f = by (stood t m o)
    where
      by : (b : Bool) → o + length {A = ℕ} (elim b [ true ↦ bytes_of t o | false ↦ [] ]) ≤ behind_fragment t o
      by true = omega (arith, bytes-length t o f, f.onward)
      by false = omega (arith, f.onward)
