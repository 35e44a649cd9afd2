-- What stays of a table by marks: a byte for each byte of a table, of which those count where a stream class or an event class opens.
use Rattle.std.specs.Prelude.{◌≡◌, ℕ, ◌+◌, ◌-◌, List, [], ◌∷◌, ◌++◌, Bool, true, false, length, get_or, take, drop, ltb, eqb}
use Rattle.rules.specs.Record.{u8, u64}
use Rattle.rules.specs.Edition.{both}
use Rattle.class_layout.specs.Fragments.{stream_kind, event_kind, behind_fragment, fragments_of, All}

-- whether a byte of the table is marked
unfoldable pub marked : List ℕ → ℕ → Bool
marked m o = ltb 0 (get_or m o 0)

-- whether the fragment at a byte stays: one that is neither a stream class nor an event class, or one that is marked
unfoldable pub stood : List ℕ → List ℕ → ℕ → Bool
stood t m o =
    elim (eqb (u8 t o) stream_kind) [ true ↦ marked m o | false ↦ elim (eqb (u8 t o) event_kind) [ true ↦ marked m o | false ↦ true ] ]

-- the bytes of a fragment, with its roots; and of it, what stays
unfoldable pub bytes_of : List ℕ → ℕ → List ℕ
bytes_of t o = take (behind_fragment t o - o) (drop o t)

unfoldable pub kept_one : List ℕ → List ℕ → ℕ → List ℕ
kept_one t m o = elim (stood t m o) [ true ↦ bytes_of t o | false ↦ [] ]

-- of these fragments, one behind another
unfoldable pub kept_from : List ℕ → List ℕ → List ℕ → List ℕ
kept_from t m [] = []
kept_from t m (o ∷ os) = kept_one t m o ++ kept_from t m os

-- the preamble, and what stays behind it
unfoldable pub kept : List ℕ → List ℕ → List ℕ
kept t m = take 2 t ++ kept_from t m (fragments_of t)

-- a buffer with these bytes in its front, and as it was behind them
abbrev pub in_front : List ℕ → List ℕ → List ℕ
in_front x old = x ++ drop (length x) old

-- The marks are those of the ids that stay, as `leave` is told them (rules, Edition)

pub record Mark (ks : ℕ → Bool) (ke : ℕ → ℕ → Bool) (t m : List ℕ) (o : ℕ) : Type 0 where
  pub stream : u8 t o ≡ stream_kind → marked m o ≡ ks (u64 t (o + 1))
  pub event : u8 t o ≡ event_kind → marked m o ≡ both ks ke (u64 t (o + 1)) (u64 t (o + 9))

pub record Marks (ks : ℕ → Bool) (ke : ℕ → ℕ → Bool) (t m : List ℕ) : Type 0 where
  pub each : All (Mark ks ke t m) (fragments_of t)
