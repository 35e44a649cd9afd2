-- A field that holds others: its own entry stands in front, and what is inside is lent the rest of the list.
use Rattle.std.specs.Prelude.{Ok, Err, Result, ⊤}
use mathlib.Core.Path.{◌≡◌, refl, ap, sym, subst, ◌∙◌}
use mathlib.Core.List.{List, [], ◌∷◌}
use mathlib.Core.Bool.{true, false}
use Prim.Native.Nat.{ℕ, suc, ◌+◌, ◌-◌, ◌*◌, ◌^◌, ◌≤◌, ◌<◌}
use native.Mathlib.Omega.{arith}
use lib.ListN.{length}
use borrow.Rule.Slice.PartMut.{same_len_mid}
use Rattle.rules.specs.declared.BitPlace.{BitPlace}
use Rattle.rules.specs.declared.Stop.{Stop}
use Rattle.rules.specs.Limits.{slot_count, words_per_entry}
use Rattle.rules.specs.Verdict.{stop_at}
use Rattle.rules.specs.Slots.{Slots, slot_at}
use Rattle.rules.specs.Entry.{entry}
use Rattle.rules.specs.declared.Content.{Content}
use Rattle.rules.specs.Record.{u8}
use Rattle.rules.specs.Class.{sets}
use Rattle.rules.specs.Step.{State, Step, after, ◌⨾◌, refuse_at, listed}
use Rattle.facts.proofs.Truth.{clash}
use Rattle.class_layout.specs.Numbers.{number_at}
use Rattle.class_layout.specs.Trees.{IsWhole, WholeMembers, stood_at, class_at}
use Rattle.class_layout.specs.Notes.{Notes, Prepared, number_noted}
use Rattle.field_inside.specs.declared.look.Inside.{Inside}
use Rattle.field_inside.specs.declared.look.Inside.TheVariants.{Members, Elements, Refused}
use Rattle.field_inside.specs.declared.opening.Opened.{Opened}
use Rattle.field_inside.specs.Opening.{opened_as, went_in, list_holder, list_opened}
use Rattle.field_inside.specs.Inside.{inside_of, slot_read_at, opened, HolderStands}
use Rattle.field_inside.specs.Held.{Held, Placed, HeldMembers, HeldElements}
use Rattle.field_inside.proofs.Noted.{opens}
use Rattle.field_inside.proofs.Opened.{inside-read}
use Rattle.field_inside.proofs.Held.{inside-whole}
use Rattle.field_runs.specs.Ahead.{Forgets}
use Rattle.frame.specs.declared.Frame.{Frame}
use Rattle.frame.specs.Framed.{Framed, env_of}
use Rattle.listing.specs.declared.Progress.{Progress}
use Rattle.listing.specs.Did.{full, at_place}
use Rattle.listing.proofs.Roles.{went-no-further}
use Rattle.listing.proofs.Parts.{Part, part-last-on, part-last-stopped, part_length, back-room, lent, merged}
use Rattle.field_read.specs.declared.Field.{Field}
use Rattle.field_read.specs.Reads.{FieldReads, gone, entered}
use Rattle.class_layout.proofs.Standing.{depth-some}
use Rattle.field_read.proofs.Noted.{around-noted}
use Rattle.field_read.proofs.Turns.{Call, call, outcome, CallReads, stopped_call, class_read, members_read, elements_read, did-length}

-- the class at a byte holds fields, and c is the content of the slot that it reads
pub record Holder (b u : List ℕ) (f : Frame) (t : List ℕ) (x : Notes) (d at : ℕ) (c : Content) (st : Progress) (l : Slots)
    (ws : List ℕ) : Type 0 where
  pub stands : IsWhole d t at
  pub holds : 28 ≤ u8 t at
  pub room : words_per_entry ≤ length ws
  pub small : 8 * length ws < 2 ^ 63
  pub noted : Prepared t x
  pub framed : Framed b f st.place
  pub many : length l ≡ slot_count
  pub told : slot_at l (slot_read_at t at) ≡ c

-- what the fields inside did to the field that holds them, whose entry stands in front: ws is the list behind them
pub record Closed (w : Call) (ws : List ℕ) (r : Field) : Type 0 where
  pub fits : words_per_entry + r.used < 2 ^ 60
  pub same : length ws ≡ length w.list
  pub stops : (v : Stop) → r.went ≡ Err v → CallReads w (stopped_call w v (words_per_entry + r.used)) ws
  pub goes : r.went ≡ Ok tt → CallReads w (record { went = Ok tt; used = words_per_entry + r.used; state = r.state; slots = r.slots }) ws

-- the class of an opened array's elements, and what is forgotten around each
pub record ElementsStand (d : ℕ) (t : List ℕ) (o : Opened) : Type 0 where
  pub class : IsWhole d t o.from
  pub forgets : Forgets o.count o.forgets (sets (class_at d t o.from))

-- the same at numbers of the code's own
pub closed_same : {w : Call} {ws ws' : List ℕ} {r r' : Field} → ws' ≡ ws → r' ≡ r → Closed w ws r → Closed w ws' r'
closed_same e f k = rw (e, f) k

-- as it went
pub closed-reads : {w : Call} {ws : List ℕ} {r : Field} → Closed w ws r → CallReads w (entered r w.came w.given) ws
unfolding gone
closed-reads {w} {ws} {r} k = by r.went refl
  where
    by : (g : Result ⊤ Stop) → r.went ≡ g → CallReads w (gone g (words_per_entry + r.used) r.state r.slots w.came w.given) ws
    by (Ok u) on = k.goes on
    by (Err v) off = k.stops v off

module _ {b u : List ℕ} {f : Frame} {t : List ℕ} {x : Notes} {d at : ℕ} {c : Content} {st : Progress} {l : Slots} {ws : List ℕ}
    (h : Holder b u f t x d at c st l ws) where
  pub can-look : HolderStands t x at
  can-look = opens t x h.noted d at h.stands h.holds

  -- its own depth is one of those left
  deep : IsWhole (suc (d - 1)) t at
  deep = subst (λ (e : ℕ). IsWhole e t at) (depth-some t at d h.stands) h.stands

  held : Held (d - 1) t f st.place (inside_of t x at f st.place c)
  held = inside-whole b f (d - 1) t x at c st.place deep h.holds h.framed h.noted

  placed : (p : BitPlace) → Placed f st.place p → Framed b f p
  placed p q = record { whole = h.framed.whole; begun = q.begun; within = q.within; ends = h.framed.ends; small = h.framed.small }

  pub members-held : {o : Inside} {p : BitPlace} {v at' n : ℕ} → o ≡ inside_of t x at f st.place c → o ≡ Members p v at' n
      → WholeMembers (IsWhole (d - 1) t) (stood_at (d - 1) t) at' n × Framed b f p
  unfolding Held
  members-held {p = p} {at' = at'} {n = n} look e =
      let q : HeldMembers (d - 1) t f st.place p at' n = rw (sym look ∙ e) at held in
      (q.classes, placed p q.place)

  pub elements-held : {o : Inside} {p : BitPlace} {v at' n : ℕ} → o ≡ inside_of t x at f st.place c → o ≡ Elements p v at' n
      → IsWhole (d - 1) t at' × Framed b f p
  unfolding Held
  elements-held {p = p} {at' = at'} look e =
      let q : HeldElements (d - 1) t f st.place p at' = rw (sym look ∙ e) at held in
      (q.class, placed p q.place)

  abbrev this : Call
  this = call b u f (class_read d t at) st l ws

  abbrev s : State
  s = full st l (length ws)

  abbrev number : ℕ
  number = number_at t at

  opened-read : outcome this ≡ opened (env_of b u f) number (u8 t at) (d - 1) t (inside_of t x at f st.place c) s
  opened-read = ap (λ (e : ℕ). class_read e t at (env_of b u f) s) (depth-some t at d h.stands)
      ∙ inside-read b u f (d - 1) t x at c s deep h.holds h.room (sym h.told) h.framed h.noted

  pub refusal-reads : {o : Inside} {v : Stop} → o ≡ inside_of t x at f st.place c → o ≡ Refused v
      → CallReads this (stopped_call this v 0) ws
  unfolding refuse_at opened
  refusal-reads look e = record {
    did = went-no-further _ st _ _ ws (opened-read ∙ rw (sym look ∙ e) refl);
    kept = λ v off. refl;
    many = h.many;
  }

  -- the field is its entry, and then m
  module _ {p : BitPlace} (v : ℕ) {m : Step} {ws₁ ys : List ℕ} {r : Field}
      (o : outcome this ≡ (listed (entry (u8 t at) p 0 v number) p ⨾ m) s) (e : ws₁ ≡ list_holder (u8 t at) p v number ws)
      (did : FieldReads m (at_place p st) l r (lent words_per_entry ws₁) ys) where
    entry-part : Part (outcome this) m ws ws₁ words_per_entry (at_place p st) l
    unfolding ◌⨾◌ after listed
    entry-part = record { listed = entry (u8 t at) p 0 v number ∷ []; list = e; counted = refl; room = h.room; rest = o }

    closed : Closed this (merged words_per_entry ws₁ ys) r
    closed = record {
      fits = omega (arith, back-room m entry-part did.did, h.small);
      same = same_len_mid words_per_entry (length ws₁ - words_per_entry) ws₁ ys (did-length did.did) ∙ part_length entry-part;
      stops = λ v off. record { did = part-last-stopped m entry-part did.did v st _ off; kept = λ v h. refl; many = h.many };
      goes = λ on. record {
        did = part-last-on m entry-part did.did st on;
        kept = λ v h. let z : ◌≡◌ {A = ℕ} 0 1 = cc in absurd (omega arith);
        many = did.many;
      };
    }

  pub members-closed : {o : Inside} {p : BitPlace} {v at' n : ℕ} {ws₁ ys : List ℕ} {r : Field}
      → o ≡ inside_of t x at f st.place c → o ≡ Members p v at' n → ws₁ ≡ list_holder (u8 t at) p v number ws
      → FieldReads (members_read (d - 1) t at' n (env_of b u f)) (at_place p st) l r (lent words_per_entry ws₁) ys
      → Closed this (merged words_per_entry ws₁ ys) r
  unfolding opened
  members-closed look e = closed _ (opened-read ∙ rw (sym look ∙ e) refl)

  pub elements-closed : {o : Inside} {p : BitPlace} {v at' n : ℕ} {ws₁ ys : List ℕ} {r : Field}
      → o ≡ inside_of t x at f st.place c → o ≡ Elements p v at' n → ws₁ ≡ list_holder (u8 t at) p v number ws
      → FieldReads (elements_read (d - 1) t at' n (env_of b u f)) (at_place p st) l r (lent words_per_entry ws₁) ys
      → Closed this (merged words_per_entry ws₁ ys) r
  unfolding opened
  elements-closed look e = closed _ (opened-read ∙ rw (sym look ∙ e) refl)

  -- as it was opened: ws₁ is the list behind its entry
  abbrev told : Inside
  told = inside_of t x at f st.place c

  refused-told : (j : Inside) → told ≡ j →
      let o = opened_as x.aligns j in
      o.on ≡ false → CallReads this (stopped_call this (stop_at o.why o.place) 0) (list_opened (u8 t at) number j ws)
  unfolding opened_as went_in list_opened
  refused-told (Members p v from n) e off = absurd (clash (sym off))
  refused-told (Elements p v from n) e off = absurd (clash (sym off))
  refused-told (Refused v) e off = refusal-reads (sym e) refl

  members-told : (j : Inside) → told ≡ j →
      let o = opened_as x.aligns j in
      o.on ≡ true → o.elements ≡ false → WholeMembers (IsWhole (d - 1) t) (stood_at (d - 1) t) o.from o.count × Framed b f o.place
  unfolding opened_as went_in
  members-told (Members p v from n) e on one = members-held (sym e) refl
  members-told (Elements p v from n) e on one = absurd (clash (sym one))
  members-told (Refused v) e on one = absurd (clash on)

  elements-told : (j : Inside) → told ≡ j →
      let o = opened_as x.aligns j in
      o.on ≡ true → o.elements ≡ true → ElementsStand (d - 1) t o × Framed b f o.place
  unfolding opened_as went_in
  elements-told (Members p v from n) e on one = absurd (clash one)
  elements-told (Elements p v from n) e on one =
      let q = elements-held (sym e) refl in
      (record { class = q.0; forgets = around-noted (d - 1) t x h.noted from n q.0 }, q.1)
  elements-told (Refused v) e on one = absurd (clash on)

  members-did : {ys : List ℕ} {r : Field} (j : Inside) → told ≡ j →
      let o = opened_as x.aligns j in
      o.on ≡ true → o.elements ≡ false
      → FieldReads (members_read (d - 1) t o.from o.count (env_of b u f)) (at_place o.place st) l r
      (lent words_per_entry (list_opened (u8 t at) number j ws)) ys
      → Closed this (merged words_per_entry (list_opened (u8 t at) number j ws) ys) r
  unfolding opened_as went_in list_opened
  members-did (Members p v from n) e on one did = members-closed (sym e) refl refl did
  members-did (Elements p v from n) e on one did = absurd (clash (sym one))
  members-did (Refused v) e on one did = absurd (clash on)

  elements-did : {ys : List ℕ} {r : Field} (j : Inside) → told ≡ j →
      let o = opened_as x.aligns j in
      o.on ≡ true → o.elements ≡ true
      → FieldReads (elements_read (d - 1) t o.from o.count (env_of b u f)) (at_place o.place st) l r
      (lent words_per_entry (list_opened (u8 t at) number j ws)) ys
      → Closed this (merged words_per_entry (list_opened (u8 t at) number j ws) ys) r
  unfolding opened_as went_in list_opened
  elements-did (Members p v from n) e on one did = absurd (clash one)
  elements-did (Elements p v from n) e on one did = elements-closed (sym e) refl refl did
  elements-did (Refused v) e on one did = absurd (clash on)

  -- the same of what the code says
  module _ {o : Opened} {ws₁ : List ℕ} (e : o ≡ opened_as x.aligns told)
      (noted : ws₁ ≡ list_opened (u8 t at) (number_noted x.aligns at) told ws) where
    list : ws₁ ≡ list_opened (u8 t at) number told ws
    list = noted ∙ ap (λ n. list_opened (u8 t at) n told ws) (h.noted.numbers d at h.stands)

    pub open-refused : o.on ≡ false → CallReads this (stopped_call this (stop_at o.why o.place) 0) ws₁
    open-refused off = rw (list, e) (refused-told told refl (rw e at off))

    pub open-members : o.on ≡ true → o.elements ≡ false
        → WholeMembers (IsWhole (d - 1) t) (stood_at (d - 1) t) o.from o.count × Framed b f o.place
    open-members on one = rw e (members-told told refl (rw e at on) (rw e at one))

    pub open-elements : o.on ≡ true → o.elements ≡ true → ElementsStand (d - 1) t o × Framed b f o.place
    open-elements on one = rw e (elements-told told refl (rw e at on) (rw e at one))

    pub members-open : {ys : List ℕ} {r : Field} → o.on ≡ true → o.elements ≡ false
        → FieldReads (members_read (d - 1) t o.from o.count (env_of b u f)) (at_place o.place st) l r (lent words_per_entry ws₁) ys
        → Closed this (merged words_per_entry ws₁ ys) r
    members-open on one did = rw list (members-did told refl (rw e at on) (rw e at one) (rw (list, e) at did))

    pub elements-open : {ys : List ℕ} {r : Field} → o.on ≡ true → o.elements ≡ true
        → FieldReads (elements_read (d - 1) t o.from o.count (env_of b u f)) (at_place o.place st) l r (lent words_per_entry ws₁) ys
        → Closed this (merged words_per_entry ws₁ ys) r
    elements-open on one did = rw list (elements-did told refl (rw e at on) (rw e at one) (rw (list, e) at did))
