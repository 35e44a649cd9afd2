-- The smallest bundle: "the table that keeps the preamble, trace class, clocks, and just those stream and event classes whose finding some
-- reading lists; a stream class also stays if one of its event classes does" (02, 14). In order: which classes some lists find; that the
-- rules' bundle is the smallest table. The same of calls stands in SmallestCalls.
use Rattle.std.specs.Prelude.{◌≡◌, ◌⊎◌, ◌↔◌, ℕ, List, [], ◌∷◌, map, Bool, true, not, ◌&&◌, eqb}
use Rattle.rules.specs.declared.Entry.{Entry}
use Rattle.rules.specs.Read.{Reading}
use Rattle.rules.specs.Edition.{leave}
use Rattle.rules.specs.Lists.{readings}
use Rattle.rules.specs.Bundle.{under, bundle_of}
use Rattle.promises.specs.Missing.{Good}

-- Findings

-- some entry of a list says so, h being the stream class in front of the list
abbrev pub Lists : (ℕ → Entry → Type 0) → ℕ → List Entry → Type 0
Lists P h [] = ⊥
Lists P h (e ∷ es) = P h e ⊎ Lists P (under h e) es

-- some entry of some list does. An entry 5 stands behind an entry 2, so that the 0 is not used
abbrev pub SomeLists : (ℕ → Entry → Type 0) → List (List Entry) → Type 0
SomeLists P [] = ⊥
SomeLists P (es ∷ ess) = Lists P 0 es ⊎ SomeLists P ess

-- an entry that is the finding of event class j of stream class i: "5: class found, place, 0, id", under the latest entry 2
abbrev pub FindsEvent : ℕ → ℕ → ℕ → Entry → Type 0
FindsEvent i j h e = (e.kind ≡ 5) × (h ≡ i) × (e.value ≡ j)

-- one for which stream class i stays: "2: class found, place, 0, id", or the finding of one of its event classes
abbrev pub FindsStream : ℕ → ℕ → Entry → Type 0
FindsStream i h e = ((e.kind ≡ 2) × (e.value ≡ i)) ⊎ ((e.kind ≡ 5) × (h ≡ i))

-- ks and ke say just those stream classes and event classes that some list finds
pub record JustFound (ks : ℕ → Bool) (ke : ℕ → ℕ → Bool) (ess : List (List Entry)) : Type 0 where
  pub streams : (i : ℕ) → (ks i ≡ true) ↔ SomeLists (FindsStream i) ess
  pub events : (i j : ℕ) → (ke i j ≡ true) ↔ SomeLists (FindsEvent i j) ess

-- The rules' bundle

abbrev pub entries_of : List Reading → List (List Entry)
entries_of rs = map (λ (r : Reading). r.entries) rs

-- every class stays; all but one event class; all but one stream class, with its events
abbrev pub any_stream : ℕ → Bool
any_stream a = true

abbrev pub any_event : ℕ → ℕ → Bool
any_event a c = true

abbrev pub but_event : ℕ → ℕ → ℕ → ℕ → Bool
but_event i j a c = not (eqb a i && eqb c j)

abbrev pub but_stream : ℕ → ℕ → Bool
but_stream i a = not (eqb a i)

-- y is the smallest table that x may be cut to, for streams bs with lists ls
pub record Smallest (x y : List ℕ) (bs ls : List (List ℕ)) : Type 0 where
  -- what is kept, by ids: nothing but stream classes and event classes goes, and of them just those that no reading finds
  pub ks : ℕ → Bool
  pub ke : ℕ → ℕ → Bool
  pub kept : y ≡ leave ks ke x
  pub found : JustFound ks ke (entries_of (readings x bs ls))
  pub accepted : Good y
  -- "Every stream must read alike under it, list and verdict."
  pub alike : readings y bs ls ≡ readings x bs ls
  -- "Leaving out any further event class, or a stream class with its events, must change at least one of those readings."
  pub event-needed : (i j : ℕ) → ke i j ≡ true → readings (leave any_stream (but_event i j) y) bs ls ≡ readings x bs ls → ⊥
  pub stream-needed : (i : ℕ) → ks i ≡ true → readings (leave (but_stream i) any_event y) bs ls ≡ readings x bs ls → ⊥
  -- so of any choice of classes: where every reading is the same, nothing was left out
  pub none-further : (ts : ℕ → Bool) (te : ℕ → ℕ → Bool) → readings (leave ts te y) bs ls ≡ readings x bs ls → leave ts te y ≡ y

-- "Given an accepted table and up to sixteen streams, each with its own list room": of any number of streams, and of lists too
abbrev pub SmallestBundle : Type 0
SmallestBundle = (x : List ℕ) → Good x → (bs ls : List (List ℕ)) → Smallest x (bundle_of x (readings x bs ls)) bs ls
