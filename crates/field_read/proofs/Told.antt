-- What the code of a loop says of its run, of the run's first field and of what it did, at numbers of its own: each is a round as Round and
-- Apart have it. In order: the run, and its first field; the leaves at its front, and what is due of the last; a field that holds others.
use Rattle.std.specs.Prelude.{Ok}
use mathlib.Core.Path.{◌≡◌, refl, sym, ◌∙◌}
use mathlib.Core.List.{List, []}
use mathlib.Core.Bool.{Bool, true, false, not}
use mathlib.Core.Logic.{◌⊎◌, ⊎_elim}
use Prim.Native.Nat.{ℕ, suc, ◌+◌, ◌-◌, ◌≤◌, ◌<◌}
use native.Mathlib.Omega.{arith}
use lib.ListN.{length}
use lib.Dec.{eqb}
use borrow.Author.Tests.{eqb-false}
use Rattle.rules.specs.declared.Content.{Content}
use Rattle.rules.specs.declared.Content.TheVariants.{Unset}
use Rattle.rules.specs.Record.{u8}
use Rattle.rules.specs.Limits.{slot_count, words_per_entry}
use Rattle.rules.specs.Slots.{Slots, slot_at, set_slot, unset}
use Rattle.rules.specs.Step.{Step, ◌⨾◌}
use Rattle.rules.specs.Faults.{role_of}
use Rattle.rules.specs.Field.{read, role}
use Rattle.facts.specs.Bytes.{Bytes}
use Rattle.facts.proofs.Numbers.{lt-or-ge}
use Rattle.facts.proofs.Truth.{clash, and_right}
use Rattle.facts.proofs.Steps.{seq-assoc, pass-seq}
use Rattle.facts.proofs.Slots.{no-slot}
use Rattle.class_layout.specs.Numbers.{number_at}
use Rattle.class_layout.specs.Notes.{number_noted}
use Rattle.class_layout.specs.Trees.{IsWhole, class_at}
use Rattle.class_slots.specs.Named.{slots_of}
use Rattle.class_slots.proofs.Sets.{unset-at, forgets-at}
use Rattle.leaf_after.specs.declared.Leaves.{Leaves}
use Rattle.leaf_read.specs.Reads.{leaf_slot}
use Rattle.leaf_read.specs.Leaves.{content_of, LeavesListed, list_behind, leaves_read, Standing as InRow}
use Rattle.listing.specs.declared.Progress.{Progress}
use Rattle.listing.specs.declared.role.Roled.{Roled}
use Rattle.listing.specs.Did.{RoleDid}
use Rattle.listing.proofs.Parts.{lent, merged}
use Rattle.field_inside.specs.declared.look.Inside.{Inside}
use Rattle.field_inside.specs.declared.opening.Entered.{Entered}
use Rattle.field_inside.specs.declared.opening.Opened.{Opened}
use Rattle.field_inside.specs.Inside.{inside_of, slot_read_at, bits_noted}
use Rattle.field_inside.specs.Opening.{opened_as, list_opened, entered_at, list_entered}
use Rattle.field_runs.specs.declared.Run.{Run}
use Rattle.field_runs.specs.Run.{border, over, element, first_at, count_of, can_open}
use Rattle.field_runs.specs.Run.{forgetting, forward_run, behind_run, taken_run, opened_run, alone_run, into_run}
use Rattle.field_runs.specs.Ahead.{closes, ahead, WholeRun}
use Rattle.field_runs.proofs.Cases.{Begun, forward-begun, open_free}
use Rattle.field_runs.proofs.Ahead.{forgotten, Forward, forward-reads, sort-stands, taken-first, taken-same}
use Rattle.field_read.specs.declared.Field.{Field}
use Rattle.field_read.specs.Reads.{FieldReads, state_at}
use Rattle.field_read.proofs.Round.{Loop, env, left, Kept, Round, same-round, forgot, first-there, LeavesRound, leaves-round, stored}
use Rattle.field_read.proofs.Round.{RoleRound, role-round, Holder, CodeRound, code-round, EnterRound, enter-round}
use Rattle.field_read.proofs.Round.{FieldRound, field-round}
use Rattle.field_read.proofs.Apart.{apart_from, ApartRound, apart-round}

-- The run behind a border: the slots of its elements are forgotten there, and it goes on with the next one, or with what it had put off

forgets-true : (r : Run) → border r ≡ true → forgetting r ≡ true
unfolding border
forgets-true r h = and_right (eqb r.todo 0) (forgetting r) h

not-zero : (r : Run) → forgetting r ≡ true → 0 < r.forgets
unfolding forgetting
not-zero r h = by (eqb r.forgets 0) refl h
  where
    by : (b : Bool) → eqb r.forgets 0 ≡ b → not b ≡ true → 0 < r.forgets
    by true e k = absurd (clash k)
    by false e k =
        let n = eqb-false r.forgets 0 e in
        ⊎_elim (λ (x : 0 < r.forgets). x) (λ (x : r.forgets ≤ 0). absurd (n (omega arith))) (lt-or-ge 0 r.forgets)

pub border-some : (r : Run) → border r ≡ true → 0 < r.forgets
border-some r h = not-zero r (forgets-true r h)

-- what is left of a round, in front of its border and behind it
module _ {w : Loop} {r : Run} {ws : List ℕ} {used : ℕ} {st : Progress} {l : Slots} (h : Round w r ws used st l) where
  goes : Forward w.depths w.table r (forward_run r)
  goes = forward-reads w.depths w.table r h.stands

  behind-border : Kept w (forgotten w.depths w.table r ⨾ left w (forward_run r)) (forward_run r) ws used st l
  behind-border = record {
    stands = goes.stands;
    noted = h.noted;
    framed = h.framed;
    many = h.many;
    part =
        let next = ahead w.depths w.table (env w) (forward_run r) in
        rw (goes.reads (env w), seq-assoc (forgotten w.depths w.table r) next w.behind) at h.part;
  }

  at-border : border r ≡ true → Round w (forward_run r) ws used st (unset l (slots_of w.table w.notes.sizes r.again))
  unfolding forgotten closes
  at-border b =
      let there = h.stands.element (forgets-true r b) in
      let forgets = forgets-at w.depths w.table w.notes.sizes r.again there (h.noted.classes _ _ there).size in
      forgot _ (rw (b, forgets) at behind-border)

  at_none : border r ≡ false → Round w (forward_run r) ws used st l
  unfolding forgotten closes
  at_none b = rw (b, pass-seq (left w (forward_run r))) at behind-border

pub forward-round : {w : Loop} {r r' : Run} {ws : List ℕ} {used : ℕ} {st : Progress} {l l' : Slots} → r' ≡ forward_run r
    → ((border r ≡ true) × (l' ≡ unset l (slots_of w.table w.notes.sizes r.again))) ⊎ ((border r ≡ false) × (l' ≡ l))
    → Round w r ws used st l → Round w r' ws used st l'
forward-round e set h = rw e (⊎_elim (λ x. rw x.1 (at-border h x.0)) (λ x. rw x.1 (at_none h x.0)) set)

pub forward-left : (r : Run) {r' : Run} → r' ≡ forward_run r → over r' ≡ false → Begun r'
forward-left r e h = rw e (forward-begun r (rw e at h))

-- where the elements set just one slot, to unset it is to forget them all
pub forgot-one : {w : Loop} {r : Run} {ws : List ℕ} {used : ℕ} {st : Progress} {l : Slots} → Round w r ws used st l → border r ≡ true
    → r.forgets ≤ slot_count → {i : ℕ} {l' : Slots} → i ≡ r.forgets - 1 → l' ≡ set_slot l i Unset
    → l' ≡ unset l (slots_of w.table w.notes.sizes r.again)
forgot-one {w} {r} {l = l} h b few {i} e f =
    let some = forgets-true r b in
    let there = h.stands.element some in
    let n : r.forgets ≡ suc i = omega (arith, not-zero r some) in
    f ∙ sym (unset-at w.depths w.table w.notes.sizes r.again there (h.noted.classes _ _ there).size l
    ∙ (h.stands.forgotten some).one i n (omega (arith, n)) l)

-- its first field
pub first-whole : {w : Loop} {r : Run} {ws : List ℕ} {used : ℕ} {st : Progress} {l : Slots} {n : ℕ} → n ≡ first_at r → Round w r ws used st l
    → Begun r → IsWhole w.depths w.table n
first-whole e h some = rw e (first-there h some)

-- Leaves at its front

-- so many from a byte on, of one class again and again or one behind the other, by the content of the slot that they read
abbrev pub leaves_at : Loop → Progress → ℕ → List ℕ → Bool → Content → ℕ → ℕ → LeavesListed
leaves_at w st used ws again x n count =
    leaves_read again w.table w.stream w.uuid w.frame x n count st.place st.order (length (lent used ws))

module _ {w : Loop} {r : Run} {ws : List ℕ} {used : ℕ} {st : Progress} {l : Slots} (h : Round w r ws used st l) (some : Begun r)
    {again : Bool} {n count : ℕ} (is-element : again ≡ element r) (is-first : n ≡ first_at r) (is-count : count ≡ count_of r) where
  pub leaves-in-row : InRow again w.table n count
  leaves-in-row =
      rw (is-element, is-first, is-count) record {
        depth = w.depths;
        stands = sort-stands w.depths w.table r h.stands some.some;
      }

  pub leaves-did : Bytes w.stream → (x : Content) → u8 w.table n < 28 → words_per_entry ≤ length ws - used
      → slot_at l (leaf_slot w.table n) ≡ x → {q : Leaves} {ys : List ℕ} → q ≡ (leaves_at w st used ws again x n count).leaves
      → ys ≡ list_behind (leaves_at w st used ws again x n count) (lent used ws) → LeavesRound w r ws used st l q ys
  leaves-did bytes x kind room told e f =
      leaves-round h some bytes x (rw is-first at kind) room (rw is-first at told) (rw (is-element, is-first, is-count) at e)
      (rw (is-element, is-first, is-count) at f)

-- the last one's slot is set, and its role is due
pub leaves-due : {w : Loop} {r r' : Run} {ws : List ℕ} {used : ℕ} {st : Progress} {l l' : Slots} {q : Leaves} {ys : List ℕ}
    → LeavesRound w r ws used st l q ys → q.on ≡ true → length l ≡ slot_count → r' ≡ behind_run r w.notes.sizes q.at q.todo
    → (l' ≡ set_slot l q.slot (content_of (u8 w.table q.at) q.value)) ⊎ ((slot_count ≤ q.slot) × (l' ≡ l))
    → Kept w (role (role_of q.role) q.width q.value ⨾ left w r') r' (merged used ws ys) (used + q.used)
    (state_at q.place q.order st) l'
unfolding set_slot
leaves-due {l = l} {q = q} d on many e set =
    let h = stored _ _ (d.goes on) in
    rw e (⊎_elim (λ f. rw f h) (λ f. rw f.1 (rw (no-slot l q.slot _ many f.0) at h)) set)

-- a role that was applied
pub role-did : {w : Loop} {m : Step} {r : Run} {ws : List ℕ} {used : ℕ} {st st' : Progress} {l : Slots} {q : Roled} {ys : List ℕ}
    (k n v : ℕ) → Kept w (role (role_of k) n v ⨾ m) r ws used st l → st' ≡ st → RoleDid (role (role_of k) n v) st' q (lent used ws) ys
    → RoleRound w m r ws used st l q ys
role-did k n v h e did = role-round k n v h (rw e at did)

-- A field that holds others, taken as a member

pub taken-round : {w : Loop} {r r' : Run} {ws : List ℕ} {used : ℕ} {st : Progress} {l : Slots} → r' ≡ taken_run r → Begun r
    → Round w r ws used st l → Round w r' ws used st l
taken-round e some h = rw e (same-round (taken-same _ _ _ h.stands some.some some.plain) h)

-- where its class stands
abbrev pub FirstAt : Run → ℕ → Type 0
FirstAt r n = (0 < r.todo) × (r.next ≡ n)

pub taken_next : (r : Run) {r' : Run} {n : ℕ} → n ≡ first_at r → r' ≡ taken_run r → Begun r → FirstAt r' n
taken_next r e f some = rw (e, f) (taken-first 0 [] r some.some)

pub holds-first : {w : Loop} {r : Run} {ws : List ℕ} {used : ℕ} {st : Progress} {l : Slots} {n : ℕ} {x : Content} → Round w r ws used st l
    → FirstAt r n → 28 ≤ u8 w.table n → words_per_entry ≤ length ws - used → slot_at l (slot_read_at w.table n) ≡ x
    → Holder w r ws used st l x
holds-first h first kind room told = record {
  round = h;
  some = first.0;
  kind = rw first.1 kind;
  room = room;
  told = rw first.1 told;
}

module _ {w : Loop} {r : Run} {ws : List ℕ} {used : ℕ} {st : Progress} {l : Slots} {x : Content} (h : Holder w r ws used st l x) {n : ℕ}
    (first : FirstAt r n) where
  abbrev t : List ℕ
  t = w.table

  abbrev inside : Inside
  inside = inside_of t w.notes n w.frame st.place x

  -- its record's number, as it is noted
  abbrev noted : ℕ
  noted = number_noted w.notes.aligns n

  -- a structure that was entered
  pub entered-did : u8 t n ≡ 28 → {o : Entered} {ys : List ℕ} → o ≡ entered_at w.frame (bits_noted w.notes n) st.place
      → ys ≡ list_entered w.frame (bits_noted w.notes n) st.place (u8 t (n + 1)) noted (lent used ws)
      → EnterRound w r ws used st l o ys
  entered-did k e f = enter-round h (rw first.1 k) (rw first.1 e) (rw first.1 f)

  pub entered-run : {o : Entered} {ys : List ℕ} {q : Run} {k : ℕ} → EnterRound w r ws used st l o ys → q ≡ opened_run r (n + 3) k
      → k ≡ u8 t (n + 1) → o.on ≡ true → Round w q (merged used ws ys) (used + words_per_entry) (state_at o.place st.order st) l
  entered-run d e f on = rw (e, f, sym first.1) (d.goes on)

  -- a field that was opened in its run
  pub inside-did : can_open (u8 t n) r ≡ true → {o : Opened} {ys : List ℕ} → o ≡ opened_as w.notes.aligns inside
      → ys ≡ list_opened (u8 t n) noted inside (lent used ws) → CodeRound w r ws used st l o ys
  inside-did can e f = code-round h (λ y z. sym (open_free _ _ (rw first.1 at z)) ∙ can) (rw first.1 e) (rw first.1 f)

  pub inside-run : {o : Opened} {ys : List ℕ} {q : Run} → CodeRound w r ws used st l o ys
      → q ≡ into_run (u8 t n) r w.notes.sizes o.from o.count o.elements o.forgets → o.on ≡ true
      → Round w q (merged used ws ys) (used + words_per_entry) (state_at o.place st.order st) l
  inside-run d e on = rw (e, sym first.1) (d.goes on)

  -- or in a run of its own
  pub apart-did : {o : Opened} {ys : List ℕ} → o ≡ opened_as w.notes.aligns inside → ys ≡ list_opened (u8 t n) noted inside (lent used ws)
      → ApartRound w r ws used st l o ys
  apart-did e f = apart-round h (rw first.1 e) (rw first.1 f)

  pub apart-run : {o : Opened} {ys : List ℕ} {q rest : Run} → ApartRound w r ws used st l o ys
      → q ≡ alone_run o.from o.count o.elements o.forgets → rest ≡ behind_run r w.notes.sizes n (r.todo - 1) → o.on ≡ true
      → WholeRun w.depths t rest
      × Round (apart_from w rest) q (merged used ws ys) (used + words_per_entry) (state_at o.place st.order st) l
  apart-run d e f on = rw (e, f, sym first.1) (d.rest-stands, d.goes on)

  -- a field that was read by itself
  pub field-did : {q : Field} {ys : List ℕ} {st' : Progress} → st' ≡ st
      → FieldReads (read (env w) (number_at t n) (class_at w.depths t n)) st' l q (lent used ws) ys → FieldRound w r ws used q ys
  field-did e did = field-round h (rw first.1 (rw e at did))

  pub field-run : {q : Field} {ys : List ℕ} {rest : Run} → FieldRound w r ws used q ys
      → rest ≡ behind_run r w.notes.sizes n (r.todo - 1) → (on : q.went ≡ Ok tt)
      → Round w rest (merged used ws ys) (used + q.used) q.state q.slots
  field-run d e on = rw (e, sym first.1) (d.goes on)
