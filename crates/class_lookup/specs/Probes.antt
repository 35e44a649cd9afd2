-- How many words of the index a search looks at: as many as there were up to the empty one when the class was put.
use Rattle.std.specs.Prelude.{◌≡◌, ℕ, zero, suc, ◌+◌, ◌*◌, ◌%◌, List, [], ◌∷◌, ◌++◌, true, false, get_or, replicate, eqb}
use Rattle.class_lookup.specs.Index.{places, home_of, put_from}

-- up to the first empty word, of n from one on
unfoldable pub probes_from : ℕ → List ℕ → ℕ → ℕ
probes_from zero l at = 0
probes_from (suc n) l at = 1 + elim (eqb (get_or l at 0) 0) [ true ↦ 0 | false ↦ probes_from n l ((at + 1) % places) ]

-- of all these pairs of ids, put one behind the other
unfoldable pub probes : List (ℕ × ℕ) → List ℕ → ℕ
probes [] l = 0
probes (p ∷ ps) l = probes_from places l (home_of p.0 p.1) + probes ps (put_from places l (home_of p.0 p.1) 1)

-- the first n events of a stream class, ids a step apart
unfoldable pub events : ℕ → ℕ → ℕ → List (ℕ × ℕ)
events stream step zero = []
events stream step (suc n) = (stream, step * n) ∷ events stream step n

-- so many events in each of the first n stream classes
unfoldable pub streams : ℕ → ℕ → List (ℕ × ℕ)
streams zero count = []
streams (suc n) count = events n 1 count ++ streams n count

-- 496 classes by 1.07 probes each, 500 by 1.05
pub record Probes : Type 0 where
  pub by-streams : probes (streams 8 62) (replicate places 0) ≡ 528
  pub by-steps : probes (events 0 1024 500) (replicate places 0) ≡ 525
