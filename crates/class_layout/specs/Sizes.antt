-- What a table's sizes say: how many bytes each fragment takes with its roots, and each class with all that it holds.
use Rattle.std.specs.Prelude.{◌≡◌, ℕ, zero, suc, ◌+◌, ◌-◌, ◌≤◌, ◌<◌, List, [], ◌∷◌, true, false, length, get_or, eqb, Option, None, Some}
use Rattle.rules.specs.Record.{u8}
use Rattle.rules.specs.Limits.{table_limit, depth_limit}
use Rattle.class_layout.specs.declared.openings.Opening.{Opening}
use Rattle.class_layout.specs.Trees.{next_at}
use Rattle.class_layout.specs.Fragments.{opening_size, roots_of, root_here, behind_fragment, fragments_from, fragments_of, root_place, Fragment, All}

-- of the fragment at a byte, and of its roots' classes
abbrev pub SizedRoots : List ℕ → List ℕ → ℕ → Type 0
SizedRoots t s o = (i p : ℕ) → root_place t o i ≡ Some p → p + get_or s p 0 ≡ next_at depth_limit t p

pub record SizedFragment (t s : List ℕ) (o : ℕ) : Type 0 where
  pub stands : Fragment t o
  pub size : o + get_or s o 0 ≡ behind_fragment t o
  pub roots : SizedRoots t s o

pub record Sized (t s : List ℕ) : Type 0 where
  pub limit : length t ≤ table_limit
  pub room : length t ≤ length s
  pub each : All (SizedFragment t s) (fragments_of t)

-- the places of the fragments from a byte on; each takes a byte or more, so that as many rounds as there are bytes left are enough
unfoldable pub places_from : List ℕ → ℕ → List ℕ
places_from t at = fragments_from (length t - at) t at

-- so of all from a byte on
pub record SizedFrom (t s : List ℕ) (at : ℕ) : Type 0 where
  pub limit : length t ≤ table_limit
  pub room : length t ≤ length s
  pub each : All (SizedFragment t s) (places_from t at)

-- What `root_place` goes by

-- m numbers, from n on
unfoldable pub numbered : ℕ → ℕ → List ℕ
numbered n zero = []
numbered n (suc m) = n ∷ numbered (n + 1) m

-- what opens a fragment of the kind k: its first record's bytes, and its roots' numbers, from 0 where it has none
pub record OpeningOf (k : ℕ) (r : Opening) : Type 0 where
  pub size : r.size ≡ opening_size k
  pub roots : roots_of k ≡ numbered r.first r.count
  pub none : r.count ≡ 0 → r.first ≡ 0
  pub small : (r.size ≤ 18) × (r.first ≤ 4) × (r.count ≤ 3)

-- the byte behind the root n, if it stands at a byte
unfoldable pub behind_root : List ℕ → ℕ → ℕ → ℕ
behind_root t at n = elim (root_here t at n) [ true ↦ next_at depth_limit t (at + 2) | false ↦ at ]

-- if the root n stands at a byte, its class's size is noted
abbrev pub SizedRoot : List ℕ → List ℕ → ℕ → ℕ → Type 0
SizedRoot t s at n = root_here t at n ≡ true → (at + 2 < length t) × (at + 2 + get_or s (at + 2) 0 ≡ next_at depth_limit t (at + 2))

-- "1 if it has a UUID else 0; 16 bytes"
unfoldable pub uuid_place : List ℕ → ℕ → Option ℕ
uuid_place t o = elim (eqb (u8 t (o + 1)) 0) [ true ↦ None | false ↦ Some (o + 2) ]
