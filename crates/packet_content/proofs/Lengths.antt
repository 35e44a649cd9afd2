-- A packet's lengths, of the rules' states: what 34 leaves, where the content stops, and what is left behind entry 3.
use mathlib.Core.Path.{◌≡◌, ◌∙◌}
use mathlib.Core.List.{List, [], ◌∷◌}
use mathlib.Core.Bool.{true, false}
use Prim.Native.Nat.{ℕ, ◌+◌, ◌-◌, ◌*◌, ◌%◌, ◌≤◌, ◌<◌}
use lib.ListN.{length}
use Rattle.rules.specs.declared.BitPlace.{BitPlace}
use Rattle.rules.specs.declared.Refusal.TheVariants.{ListFull, LengthsContradict, ClocksContradict}
use Rattle.rules.specs.Limits.{words_per_entry}
use Rattle.rules.specs.Verdict.{stop_at}
use Rattle.rules.specs.Place.{further}
use Rattle.rules.specs.Entry.{entry, lengths_settled}
use Rattle.rules.specs.Step.{State, stop, Step, onto}
use Rattle.rules.specs.Table.{StreamClass, Asked}
use Rattle.rules.specs.Packet.{read_events, read_content, above}
use Rattle.contradictions.specs.Lengths.{contradicts}
use Rattle.listing.proofs.Checks.{room-first}
use Rattle.listing.proofs.Marks.{check-stop, check-on, due-stop, mark_on, less}
use Rattle.facts.proofs.Truth.{or-false}
use borrow.Author.Tests.{ltb-false, eqb-true, not-false}

-- what 34 leaves
pub record Lengths (b : List ℕ) (p total content q : ℕ) : Type 0 where
  pub whole : total % 8 ≡ 0
  pub order : content ≤ total
  pub in_stream : p + total ≤ 8 * length b
  pub reach : q ≤ p + content

pub lengths : (b : List ℕ) (p q : BitPlace) (total content : ℕ) → contradicts total content p q (8 * length b) ≡ false
    → Lengths b p.0 total content q.0
lengths b p q total content h =
    let x = or-false _ _ h in
    let y = or-false _ _ x.0 in
    let z = or-false _ _ y.0 in
    record {
      whole = eqb-true _ 0 (not-false _ z.0);
      order = ltb-false _ _ z.1;
      in_stream = ltb-false _ _ y.1;
      reach = ltb-false _ _ x.1;
    }

module _ (t : Asked) (c : StreamClass) (b : List ℕ) (p : BitPlace) (total content : ℕ) (s : State) where
  abbrev pub events_of : Step
  events_of =
      read_events t c (record { bytes = b; start = p; bound = further p content; uuid = t.uuid }) (further p total) 0
      (p.0 + content - s.place.0)

  pub content-full : s.room < words_per_entry → read_content t c b p total content s ≡ stop [] (stop_at ListFull s.place)
  unfolding read_content
  content-full h = due-stop _ s h

  module _ (room : words_per_entry ≤ s.room) where
    pub content-lengths : contradicts total content p s.place (8 * length b) ≡ true
        → read_content t c b p total content s ≡ stop [] (stop_at LengthsContradict s.place)
    unfolding read_content
    content-lengths h = room-first _ s room ∙ check-stop _ LengthsContradict _ s h

    module _ (fine : contradicts total content p s.place (8 * length b) ≡ false) where
      pub content-clocks : above s.clock s.said.ending ≡ true
          → read_content t c b p total content s ≡ stop [] (stop_at ClocksContradict s.place)
      unfolding read_content
      content-clocks h = room-first _ s room ∙ check-on _ LengthsContradict _ s fine ∙ check-stop _ ClocksContradict _ s h

      pub content-marked : above s.clock s.said.ending ≡ false
          → read_content t c b p total content s ≡ onto (entry lengths_settled s.place total content 0 ∷ []) (events_of (less s))
      unfolding read_content
      content-marked h =
          room-first _ s room ∙ check-on _ LengthsContradict _ s fine ∙ check-on _ ClocksContradict _ s h
          ∙ mark_on lengths_settled total content _ s
