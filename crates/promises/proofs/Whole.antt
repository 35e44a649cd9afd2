-- A packet that goes through, as its entries show it: entry 1 comes first and nowhere else, its first entry 3 says how far it reaches,
-- and no entry stands before its place.
use Rattle.std.specs.Prelude.{Option, None, Some}
use mathlib.Core.Path.{◌≡◌, refl, sym, ap, ◌∙◌, subst}
use mathlib.Core.Logic.{inl, inr}
use Prim.Native.Nat.{ℕ, zero, suc, ◌+◌, ◌-◌, ◌*◌, ◌%◌, ◌≤◌, ◌<◌}
use native.Mathlib.Omega.{arith}
use mathlib.Core.List.{List, [], ◌∷◌, ◌++◌}
use mathlib.Core.Bool.{Bool, true, false}
use lib.ListN.{length}
use lib.Dec.{ltb, eqb}
use borrow.Author.Tests.{ne_eqb}
use Rattle.rules.specs.declared.BitPlace.{BitPlace}
use Rattle.rules.specs.declared.Entry.{Entry}
use Rattle.rules.specs.declared.Refusal.TheVariants.{EventClassUnknown, EventTookNoBits, ClockWentBack}
use Rattle.rules.specs.Limits.{words_per_entry}
use Rattle.rules.specs.Entry.{entry, packet_starts, stream_class_found, lengths_settled, event_starts, event_class_found}
use Rattle.rules.specs.Entry.{packet_ends}
use Rattle.rules.specs.Step.{State, Out, go, Step, ◌⨾◌}
use Rattle.rules.specs.Class.{Class}
use Rattle.rules.specs.Table.{StreamClass, EventClass, Asked}
use Rattle.rules.specs.Field.{Env}
use Rattle.rules.specs.Packet.{mark, read_root, with_event, start_event, read_event, end_packet, read_events, start_packet, read_packet}
use Rattle.rules.specs.Packet.{first_root, header_number, common_number, payload_number}
use Rattle.facts.proofs.Steps.{list_of}
use Rattle.laws.specs.All.{All}
use Rattle.laws.proofs.All.{all_append}
use Rattle.laws.proofs.Law.{Any}
use Rattle.laws.proofs.Accepted.{Fitting}
use Rattle.packet_alone.specs.Behind.{to_end, up_to, less, total_of, content_of}
use Rattle.packet_alone.proofs.Ran.{Ran, RanWhole, ran, ran-whole}
use Rattle.packet_alone.proofs.Ends.{ends-behind}
use Rattle.promises.specs.Laws.{Rising}
use Rattle.promises.specs.Apart.{total_in}
use Rattle.promises.proofs.Each.{Each, each-refuse, each-check, each-due, each-change, each-listed, ◌⨾ᵉ◌, FieldEntry}
use Rattle.promises.proofs.Each.{fields-root}
use Rattle.promises.proofs.Rising.{RiseOut, Onward}
use Rattle.promises.proofs.Packets.{Positive, Behind, go-packet}

all_map : {P Q : Entry → Type 0} → ((x : Entry) → P x → Q x) → (es : List Entry) → All P es → All Q es
all_map f [] h = tt
all_map f (x ∷ es) h = (f x h.0, all_map f es h.1)

-- entries of another kind than k; those of fields are of kind 6, or 16 and up
abbrev pub NotOf : ℕ → Entry → Type 0
NotOf k x = x.kind ≡ k → ⊥

field-not : (k : ℕ) → k < 6 → (x : Entry) → FieldEntry x → NotOf k x
field-not k l x (inl p) q = omega arith
field-not k l x (inr p) q = let g : 16 ≤ x.kind = p.0 in omega arith

root-not : (k : ℕ) → k < 6 → (e : Env) (m : ℕ) (c : Option Class) (s : State) (es : List Entry) (u : State) → read_root e m c s ≡ go es u
    → All (NotOf k) es
unfolding list_of
root-not k l e m c s es u q = all_map (field-not k l) es (subst (λ o. All FieldEntry (list_of o)) q ((fields-root e m c).at s))

-- Entry 1 comes nowhere else

abbrev NoStart : Entry → Type 0
NoStart x = NotOf packet_starts x

root_none : (e : Env) (m : ℕ) (c : Option Class) → Each NoStart (read_root e m c)
root_none e m c = record { at = λ s. all_map (field-not packet_starts (omega arith)) (list_of (read_root e m c s)) ((fields-root e m c).at s) }

mark-none : (k n v : ℕ) → (k ≡ packet_starts → ⊥) → Each NoStart (mark k n v)
unfolding mark
mark-none k n v h = record { at = λ s. each-listed NoStart (entry k s.place n v 0) s.place s h }

infixr 20 ◌⨾ⁿ◌
◌⨾ⁿ◌ : {m n : Step} → Each NoStart m → Each NoStart n → Each NoStart (m ⨾ n)
h ⨾ⁿ k = ◌⨾ᵉ◌ NoStart h k

module _ (t : Asked) (c : StreamClass) (e : Env) where
  abbrev inside : ℕ → EventClass → Step
  inside j d = mark event_class_found 0 j ⨾ read_root e (common_number c) c.common ⨾ read_root e first_root d.specific
      ⨾ read_root e (payload_number d) d.payload

  class-none : (i j : ℕ) (x : Option EventClass) → Each NoStart (with_event i j x (inside j))
  unfolding with_event
  class-none i j None = each-refuse NoStart (EventClassUnknown i j)
  class-none i j (Some d) = mark-none event_class_found 0 j (λ q. omega arith) ⨾ⁿ root_none e (common_number c) c.common
      ⨾ⁿ root_none e first_root d.specific
      ⨾ⁿ root_none e (payload_number d) d.payload

  event-none : (n : ℕ) → Each NoStart (read_event t c e n)
  unfolding read_event
  event-none n = record {
    at = λ s₀.
        (each-due NoStart ⨾ⁿ mark-none event_starts 0 n (λ q. omega arith) ⨾ⁿ each-change NoStart start_event
        ⨾ⁿ root_none e (header_number c) c.header
        ⨾ⁿ each-check NoStart _ ClockWentBack
        ⨾ⁿ each-change NoStart _ ⨾ⁿ each-due NoStart
        ⨾ⁿ record { at = λ s. (class-none c.id s.said.event (t.event c.id s.said.event)).at s }
        ⨾ⁿ each-check NoStart (λ s. eqb s.place.0 s₀.place.0) EventTookNoBits).at s₀;
  }

  end_none : (to : BitPlace) (n : ℕ) → Each NoStart (end_packet to n)
  unfolding end_packet
  end_none to n = each-due NoStart
      ⨾ⁿ record { at = λ s. each-listed NoStart (entry packet_ends to (to.0 - s.place.0) n 0) to s (λ q. omega arith) }

  none-if : (b : Bool) (x y : Out) → All NoStart (list_of x) → All NoStart (list_of y)
      → All NoStart (list_of (elim b [ true ↦ x | false ↦ y ]))
  none-if true x y h k = h
  none-if false x y h k = k

  events-none : (to : BitPlace) (n left : ℕ) → Each NoStart (read_events t c e to n left)
  unfolding read_events
  events-none to n zero = end_none to n
  events-none to n (suc left) = record {
    at = λ s. none-if (ltb s.place.0 e.bound.0) _ _ ((event-none n ⨾ⁿ events-none to (n + 1) left).at s) ((end_none to n).at s);
  }

-- The first entry 3

-- what is chosen where a test fails
pub if-false : (b : Bool) (n m : ℕ) → b ≡ false → elim b [ true ↦ n | false ↦ m ] ≡ m
if-false true n m q = let z : ◌≡◌ {A = ℕ} 0 1 = cc in absurd (omega arith)
if-false false n m q = refl

total-skip : (es fs : List Entry) → All (NotOf lengths_settled) es → total_in (es ++ fs) ≡ total_in fs
unfolding total_in
total-skip [] fs h = refl
total-skip (x ∷ es) fs h = if-false (eqb x.kind lengths_settled) _ _ (ne_eqb x.kind lengths_settled h.0) ∙ total-skip es fs h.1

module _ (t : Asked) (b : List ℕ) (p : BitPlace) (rest : ℕ) (i : Option ℕ) (s : State) (es : List Entry) (u : State)
    (r : Ran t b p rest i s es u) where
  abbrev found : Entry
  found = entry stream_class_found r.s₁.place 0 r.s₁.said.stream 0

  abbrev settled : Entry
  settled = entry lengths_settled r.s₂.place (total_of rest r.s₂) (content_of rest r.s₂) 0

  not-header : (k : ℕ) → k < 6 → All (NotOf k) r.es₁
  not-header k l = root-not k l (to_end t b p) first_root t.header (start_packet s) r.es₁ r.s₁ r.header

  not-context : (k : ℕ) → k < 6 → All (NotOf k) r.es₂
  not-context k l = root-not k l (to_end t b p) first_root r.c.context (less r.s₁) r.es₂ r.s₂ r.context

  events-not : All NoStart r.content.rest
  unfolding list_of
  events-not = subst (λ o. All NoStart (list_of o)) r.content.events
      ((events-none t r.c (up_to t b p (p.0 + content_of rest r.s₂)) _ 0 _).at (less r.s₂))

  all_none : All NoStart es
  all_none =
      subst (All NoStart) (sym r.list) (all_append NoStart r.es₁ _ (not-header packet_starts (omega arith)) (
        (λ (q : stream_class_found ≡ packet_starts). omega arith),
        all_append NoStart r.es₂ r.es₃ (not-context packet_starts (omega arith))
            (subst (All NoStart) (sym r.content.list) ((λ (q : lengths_settled ≡ packet_starts). omega arith), events-not)),
      ))

  total-is : total_in es ≡ total_of rest r.s₂
  total-is =
      ap total_in r.list ∙ total-skip r.es₁ (found ∷ (r.es₂ ++ r.es₃)) (not-header lengths_settled (omega arith))
      ∙ past-found ∙ total-skip r.es₂ r.es₃ (not-context lengths_settled (omega arith)) ∙ ap total_in r.content.list ∙ at-settled
    where
      past-found : total_in (found ∷ (r.es₂ ++ r.es₃)) ≡ total_in (r.es₂ ++ r.es₃)
      past-found = unfold total_in in refl

      at-settled : total_in (settled ∷ r.content.rest) ≡ total_of rest r.s₂
      at-settled = unfold total_in in refl

-- All of it

rising-all : (es : List Entry) (p q : ℕ) → Rising es p q → All (λ x. p ≤ x.place.0) es
rising-all [] p q h = tt
rising-all (x ∷ es) p q h =
    let l : p ≤ x.place.0 = h.0 in
    (l, all_map (λ y k. let m : x.place.0 ≤ y.place.0 = k in omega arith) es (rising-all es x.place.0 q h.1))

pub record Whole (t : Asked) (b : List ℕ) (k : ℕ) (i : Option ℕ) (s : State) (es : List Entry) (u : State) : Type 0 where
  pub others : List Entry
  pub list : es ≡ entry packet_starts s.place 0 k 0 ∷ others
  pub none : All (NotOf packet_starts) others
  pub behind : All (λ x. s.place.0 ≤ x.place.0) others
  pub total : u.place.0 ≡ s.place.0 + total_in others
  pub takes : s.place.0 + 8 ≤ u.place.0
  pub whole : u.place.0 % 8 ≡ 0
  pub in_stream : u.place.0 ≤ 8 * length b
  pub room : ltb s.room words_per_entry ≡ false
  pub ran : Ran t b s.place (8 * length b - s.place.0) i (less s) others u

pub whole-packet : (t : Asked) → Fitting Positive (λ r. Any) Any t
    → (b : List ℕ) (k : ℕ) (i : Option ℕ) (s : State) (es : List Entry) (u : State)
    → s.place.0 < 8 * length b → s.place.0 % 8 ≡ 0 → read_packet t b k i s ≡ go es u → Whole t b k i s es u
whole-packet t w b k i s es u l z q = record {
  others = a.others;
  list = a.list;
  none = all_none t b s.place _ i (less s) a.others u r;
  behind = (subst (All (λ x. s.place.0 ≤ x.place.0)) a.list (rising-all es s.place.0 u.place.0 rises)).1;
  total = ends-behind t b s.place _ i (less s) a.others u r
      ∙ ap (λ n. s.place.0 + n) (sym (total-is t b s.place _ i (less s) a.others u r));
  takes = g.0;
  whole = g.1;
  in_stream = g.2;
  room = a.room;
  ran = r;
}
  where
    a : RanWhole t b k i s es u
    a = ran-whole t b k i s es u q

    r : Ran t b s.place (8 * length b - s.place.0) i (less s) a.others u
    r = ran t b s.place _ i (less s) a.others u a.behind

    rises : Rising es s.place.0 u.place.0
    rises = subst (RiseOut s.place.0) q (go-packet t w b k i s l z).0

    g : Behind t w b s.place.0 u
    g = subst (Onward (Behind t w b s.place.0)) q (go-packet t w b k i s l z).1
