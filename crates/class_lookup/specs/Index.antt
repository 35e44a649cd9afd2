-- The index of event classes: a place of the table in each of its words, or 0; how it is made, and what a search by it rests on.
use Rattle.std.specs.Prelude.{◌≡◌, ℕ, zero, suc, ◌+◌, ◌*◌, ◌/◌, ◌%◌, ◌^◌, ◌<◌, List, [], ◌∷◌, true, false, length, get_or, set, eqb, Some}
use Rattle.rules.specs.Record.{u8, u64}
use Rattle.class_layout.specs.Fragments.{event_kind, is_event, find_event_at, fragments_of, Fragment}

abbrev pub places : ℕ
places = 4096

-- both ids as one number below 2 to the 31: each half of each by a factor of its own
unfoldable pub mixed : ℕ → ℕ → ℕ
mixed i j = (i % 2 ^ 32 * 770493857 + i / 2 ^ 32 * 671546289 + j % 2 ^ 32 * 582208147 + j / 2 ^ 32 * 659168895) % 2 ^ 31

-- where the search for a pair of ids begins: of x (2 x + 1), which is another number for each x, the twelve highest of 31 bits
unfoldable pub home_of : ℕ → ℕ → ℕ
home_of i j = mixed i j * (2 * mixed i j + 1) % 2 ^ 31 / 2 ^ 19

-- a place in the first empty word from one on, of n
unfoldable pub put_from : ℕ → List ℕ → ℕ → ℕ → List ℕ
put_from zero l at o = l
put_from (suc n) l at o = elim (eqb (get_or l at 0) 0) [ true ↦ set l at o | false ↦ put_from n l ((at + 1) % places) o ]

-- the fragment at a place, if it is an event class
unfoldable pub index_one : List ℕ → ℕ → List ℕ → List ℕ
index_one t o l = elim (eqb (u8 t o) event_kind) [ true ↦ put_from places l (home_of (u64 t (o + 1)) (u64 t (o + 9))) o | false ↦ l ]

-- these fragments, from the front
unfoldable pub indexed : List ℕ → List ℕ → List ℕ → List ℕ
indexed t [] l = l
indexed t (o ∷ os) l = indexed t os (index_one t o l)

-- a fragment, and the first event class of its ids if it is one
pub record Hint (t : List ℕ) (o : ℕ) : Type 0 where
  pub stands : Fragment t o
  pub first : (i j : ℕ) → is_event t i j o ≡ true → find_event_at t (fragments_of t) i j ≡ Some o

-- every word is 0, or such a place
pub record Hints (t l : List ℕ) : Type 0 where
  pub room : length l ≡ places
  pub each : (k : ℕ) → 0 < get_or l k 0 → Hint t (get_or l k 0)
