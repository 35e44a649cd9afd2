-- Demand 3: the first finding of a class that was left out, and the reading that ends just before it.
use Rattle.std.specs.Prelude.{◌≡◌, ℕ, suc, List, [], ◌∷◌, ◌++◌, Bool, true, false, not, ◌&&◌, length, take, eqb, Option, None, Some, Ok}
use Rattle.rules.specs.declared.Entry.{Entry}
use Rattle.rules.specs.declared.Refusal.TheVariants.{StreamClassUnknown, EventClassUnknown}
use Rattle.rules.specs.declared.Stop.{Stop}
use Rattle.rules.specs.declared.Verdict.TheVariants.{Refused}
use Rattle.rules.specs.Verdict.{stop_at}
use Rattle.rules.specs.Entry.{stream_class_found, event_class_found}
use Rattle.rules.specs.Place.{bit_place, byte_length}
use Rattle.rules.specs.Parse.{checked}
use Rattle.rules.specs.Read.{Reading, read_all, result_of}
use Rattle.promises.specs.Figures.{table40, stream1}
use Rattle.promises.specs.Cases.{payload, structure, string, event_class, root}
use Rattle.rules.specs.Edition.{both, leave}
use Rattle.rules.specs.Bundle.{under}

-- an entry of a list, by its number from 0, and the refusal that names the class of which it is the finding
pub record Lost : Type 0 where
  pub index : ℕ
  pub refusal : Stop

-- gs and ge say which stream classes and which event classes were left out, by their ids
module _ (gs : ℕ → Bool) (ge : ℕ → ℕ → Bool) where
  -- where an entry is the finding of a class left out, under a stream class id: the refusal that names it, at the entry's place
  unfoldable pub lost : ℕ → Entry → Option Stop
  lost i e =
      elim (eqb e.kind stream_class_found && gs e.value) [
        | true ↦ Some (stop_at (StreamClassUnknown e.value) e.place)
        | false ↦ elim (eqb e.kind event_class_found && ge i e.value) [ true ↦ Some (stop_at (EventClassUnknown i e.value) e.place) | false ↦ None ]
      ]

  unfoldable pub later : Option Lost → Option Lost
  later None = None
  later (Some l) = Some (record { index = suc l.index; refusal = l.refusal })

  unfoldable pub front : Option Stop → Option Lost → Option Lost
  front None o = later o
  front (Some v) o = Some (record { index = 0; refusal = v })

  -- the first finding of a class left out
  unfoldable pub first_lost : ℕ → List Entry → Option Lost
  first_lost i [] = None
  first_lost i (e ∷ es) = front (lost i e) (first_lost (under i e) es)

-- a stream class that does not stay; an event class that does not, or whose stream class does not
unfoldable pub gone_stream : (ℕ → Bool) → ℕ → Bool
gone_stream ks i = not (ks i)

unfoldable pub gone_event : (ℕ → Bool) → (ℕ → ℕ → Bool) → ℕ → ℕ → Bool
gone_event ks ke i j = not (both ks ke i j)

-- the first finding of a class left out in a list, where ks and ke say which classes stay. An entry 5 stands behind an entry 2, so that
-- the 0 is not used
unfoldable pub missed : (ℕ → Bool) → (ℕ → ℕ → Bool) → List Entry → Option Lost
missed ks ke es = first_lost (gone_stream ks) (gone_event ks ke) 0 es

-- an accepted table
abbrev pub Good : List ℕ → Type 0
Good x = checked x ≡ Ok (byte_length (length x))

-- a table x, a stream b, and room for a list
pub record MissingClass (ks : ℕ → Bool) (ke : ℕ → ℕ → Bool) (x b : List ℕ) (room : ℕ) : Type 0 where
  -- the rest is accepted
  pub accepted : Good (leave ks ke x)
  -- the full reading lists the finding of a class that was left out
  pub cut : (l : Lost) → missed ks ke (read_all x b room).entries ≡ Some l
      → ((read_all (leave ks ke x) b room).entries ≡ take l.index (read_all x b room).entries) × ((read_all (leave ks ke x) b room).verdict ≡ Refused l.refusal)
  -- it lists none
  pub same : missed ks ke (read_all x b room).entries ≡ None → read_all (leave ks ke x) b room ≡ read_all x b room

abbrev pub Demand3 : Type 0
Demand3 = (ks : ℕ → Bool) (ke : ℕ → ℕ → Bool) (x : List ℕ) → Good x → (b : List ℕ) (room : ℕ) → MissingClass ks ke x b room

-- the same as one equation: the short reading is a function of the whole one
unfoldable pub shortened : Option Lost → Reading → Reading
shortened None r = r
shortened (Some l) r = record { entries = take l.index r.entries; verdict = Refused l.refusal }

abbrev pub Demand3≡ : Type 0
Demand3≡ = (ks : ℕ → Bool) (ke : ℕ → ℕ → Bool) (x : List ℕ) → Good x → (b : List ℕ) (room : ℕ)
    → read_all (leave ks ke x) b room ≡ shortened (missed ks ke (read_all x b room).entries) (read_all x b room)

-- a table of two event classes, whose events are a string each; with one of them left out; and a stream of two events of the one that
-- stays, the second of which is no text
abbrev pub one_text : List ℕ
one_text = payload (structure 1 ++ string)

abbrev pub two_texts : List ℕ
two_texts = one_text ++ event_class 0 1 ++ root 5 ++ structure 1 ++ string

abbrev pub no_text : List ℕ
no_text = 97 ∷ 0 ∷ 0xFF ∷ 0 ∷ []

-- the figure's table "with the event class left out: 37, four entries, ids 0 and 0"; and with its stream class left out
pub record Demand3Figures : Type 0 where
  pub event-bytes : leave (λ i. true) (λ i j. false) table40 ≡ take 12 table40
  pub event-missed : missed (λ i. true) (λ i j. false) (read_all table40 stream1 40).entries
      ≡ Some (record { index = 4; refusal = stop_at (EventClassUnknown 0 0) (bit_place 0) })
  pub event-result : result_of (read_all (take 12 table40) stream1 40) ≡ record { number = 37; entries = 4; place = 0; first = 0; second = 0 }
  pub stream-bytes : leave (λ i. false) (λ i j. true) table40 ≡ take 2 table40
  pub stream-missed : missed (λ i. false) (λ i j. true) (read_all table40 stream1 40).entries
      ≡ Some (record { index = 1; refusal = stop_at (StreamClassUnknown 0) (bit_place 0) })
  pub stream-result : result_of (read_all (take 2 table40) stream1 40) ≡ record { number = 33; entries = 1; place = 0; first = 0; second = 0 }
  -- 41 does not tell two editions apart: the same number, place and list
  pub text-bytes : leave (λ i. true) (λ i j. eqb j 0) two_texts ≡ one_text
  pub text-missed : missed (λ i. true) (λ i j. eqb j 0) (read_all two_texts no_text 500).entries ≡ None
  pub text-result : result_of (read_all two_texts no_text 500) ≡ record { number = 41; entries = 10; place = 16; first = 0; second = 0 }
  pub text_same : read_all one_text no_text 500 ≡ read_all two_texts no_text 500
