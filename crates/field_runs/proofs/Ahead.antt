-- What a run still reads, by what was made of it. In order: steps; the runs that a walk starts with; its end; what comes forward; a first
-- member, and a first element taken as one; fields of the first one's sort, and behind some of them. What a first member holds is in
-- Openings.
use mathlib.Core.Path.{◌≡◌, refl, sym, ap, ◌∙◌}
use mathlib.Core.Logic.{◌⊎◌, inl, inr}
use Prim.Native.Nat.{ℕ, zero, suc, ◌-◌, ◌<◌, ◌≤◌}
use native.Mathlib.Omega.{arith}
use mathlib.Core.List.{List, []}
use mathlib.Core.Bool.{Bool, true, false, not}
use lib.Dec.{eqb}
use borrow.Author.Tests.{eqb-true, eq-eqb}
use Rattle.rules.specs.Class.{Class, sets}
use Rattle.rules.specs.Step.{State, Step, after, ◌⨾◌, pass}
use Rattle.rules.specs.Field.{Env, read, read_members, times, forget}
use Rattle.facts.proofs.Numbers.{lt-or-ge}
use Rattle.facts.proofs.Truth.{clash, and_left, and_right}
use Rattle.facts.proofs.Steps.{after-after, seq-assoc, pass-seq, seq-pass}
use Rattle.facts.proofs.Forgets.{forget-again, times-kept}
use Rattle.class_layout.specs.Numbers.{number_at}
use Rattle.class_layout.specs.Trees.{Stood, stood_at, class_at, next_at, members_at, IsWhole, WholeMembers}
use Rattle.class_layout.specs.Fields.{read_fields, WholeFields, onward}
use Rattle.class_layout.specs.Notes.{SizedClasses}
use Rattle.class_layout.specs.Words.{SaysSet}
use Rattle.class_layout.proofs.Standing.{no_member_lem, first}
use Rattle.class_layout.proofs.NumberedReads.{members-first}
use Rattle.field_runs.specs.declared.Run.{Run}
use Rattle.field_runs.specs.Run.{members_run, elements_run, alone_run, forgetting, free, over, element, first_at, count_of}
use Rattle.field_runs.specs.Run.{border, forward_run, behind_run, taken_run}
use Rattle.field_runs.specs.Ahead.{closes, element_read, ahead, WholeRun, Forgets}
use Rattle.field_runs.proofs.Cases.{element-no, first_member, count-members, forward-members, behind-members, taken-members}
use Rattle.field_runs.proofs.Cases.{no-border, element-yes, first-element, count-elements, some-element}
use Rattle.field_runs.proofs.Cases.{forward-elements, forward-taken, forward-later, behind-elements, taken-element, border-forgets}

-- Steps

pub no-times : (n : ℕ) (m : Step) → n ≤ 0 → times n m ≡ pass
unfolding times
no-times zero m h = refl
no-times (suc n) m h = absurd (omega arith)

pub not-true : (b : Bool) → not b ≡ true → b ≡ false
not-true true h = sym h
not-true false h = refl

-- where no element is open, and no slots are forgotten
pub closes-none : (c : Class) → closes false c ≡ pass
unfolding closes
closes-none c = refl

closes-some : (c : Class) → closes true c ≡ forget c
unfolding closes
closes-some c = refl

-- some slots are forgotten, by the number that says which
abbrev pub forgets_by : ℕ → Bool
forgets_by f = not (eqb f 0)

pub forgets-some : (n f : ℕ) (l : List ℕ) → Forgets n f l → forgets_by f ≡ true → (0 < n) × SaysSet f l
forgets-some n f l q h = q.some (λ z. clash (sym (ap not (eq-eqb f 0 z)) ∙ h))

-- a step that does at a state what two do, before a third
pub instead : (c m n k : Step) (s : State) → c s ≡ (m ⨾ n) s → (c ⨾ k) s ≡ (m ⨾ (n ⨾ k)) s
unfolding ◌⨾◌
instead c m n k s h = ap (λ o. after o k) h ∙ after-after (m s) n k

module _ (d : ℕ) (t : List ℕ) where
  abbrev pub stood : ℕ → Stood
  stood = stood_at d t

  abbrev pub members_read : Env → ℕ → ℕ → Step
  members_read e at n = read_members e (number_at t at) (members_at stood at n)

  -- the class at a byte, by its record's number
  abbrev pub class_read : Env → ℕ → Step
  class_read e at = read e (number_at t at) (class_at d t at)

  abbrev pub elements_read : Env → Bool → ℕ → ℕ → Step
  elements_read e b at n = times n (element_read b e (number_at t at) (class_at d t at))

  abbrev pub closed : Bool → ℕ → Step
  closed b at = closes b (class_at d t at)

  abbrev pub Members : ℕ → ℕ → Type 0
  Members at n = WholeMembers (IsWhole d t) stood at n

  pub no-members : (e : Env) (at n : ℕ) → n ≤ 0 → members_read e at n ≡ pass
  unfolding read_members
  no-members e at n h = rw (no_member_lem stood at n h) refl

  pub none-whole : (at : ℕ) → Members at 0
  unfolding WholeMembers
  none-whole at = tt

  -- Runs that a walk starts with

  pub members-reads : (e : Env) (at n : ℕ) → ahead d t e (members_run at n) ≡ members_read e at n
  unfolding ahead members_run forgetting
  members-reads e at n =
      rw (
        closes-none (class_at d t at),
        no-times 0 (element_read false e (number_at t at) (class_at d t at)) (omega arith),
        no-members e at 0 (omega arith),
        pass-seq pass,
        pass-seq pass,
      )
      (seq-pass _)

  -- an element's slots are forgotten in front of the first one, where there is one: twice is once
  pub closes-first : (e : Env) (b : Bool) (m : ℕ) (c : Class) (n : ℕ) → (b ≡ true → 0 < n)
      → (closes b c ⨾ times n (element_read b e m c)) ≡ times n (element_read b e m c)
  unfolding closes element_read
  closes-first e false m c n h = pass-seq _
  closes-first e true m c zero h = absurd (omega (arith, h refl))
  closes-first e true m c (suc n) h = unfold times in
      (ap (λ f. forget c ⨾ f) (seq-assoc (forget c) (read e m c ⨾ forget c) (times n (element_read true e m c)))
      ∙ forget-again c _ ∙ sym (seq-assoc (forget c) (read e m c ⨾ forget c) (times n (element_read true e m c))))

  -- as the rules read an array's elements
  pub elements-times : (e : Env) (at n : ℕ)
      → elements_read e true at n ≡ times n (forget (class_at d t at) ⨾ class_read e at ⨾ forget (class_at d t at))
  unfolding element_read
  elements-times e at n = refl

  -- where there is nothing to forget, there is no element, or none sets a slot
  pub elements-forget : (e : Env) (at n f : ℕ) → Forgets n f (sets (class_at d t at))
      → elements_read e (forgets_by f) at n ≡ elements_read e true at n
  elements-forget e at n f q = by (eqb f 0) refl
    where
      none : (n ≡ 0) ⊎ (sets (class_at d t at) ≡ []) → elements_read e false at n ≡ elements_read e true at n
      none (inl z) = no-times n _ (omega (arith, z)) ∙ sym (no-times n _ (omega (arith, z)))
      none (inr z) = unfold element_read in sym (times-kept (class_at d t at) (class_read e at) n z)

      by : (b : Bool) → eqb f 0 ≡ b → elements_read e (not b) at n ≡ elements_read e true at n
      by true h = none (q.none (eqb-true f 0 h))
      by false h = refl

  pub elements-reads : (e : Env) (at n f : ℕ) → Forgets n f (sets (class_at d t at))
      → ahead d t e (elements_run at n f) ≡ elements_read e true at n
  unfolding ahead elements_run forgetting
  elements-reads e at n f q =
      rw (no-members e at 0 (omega arith))
      (pass-seq _ ∙ ap (λ m. closed (forgets_by f) at ⨾ m) (seq-pass _)
      ∙ closes-first e (forgets_by f) (number_at t at) (class_at d t at) n (λ h. (forgets-some n f _ q h).0)
      ∙ elements-forget e at n f q)

  pub members-stand : (at n : ℕ) → Members at n → WholeRun d t (members_run at n)
  unfolding members_run forgetting
  members-stand at n w = record {
    members = w;
    elements = λ h. absurd (omega arith);
    element = λ h. absurd (clash h);
    forgotten = λ h. absurd (clash h);
    later = none-whole at;
  }

  pub elements-stand : (at n f : ℕ) → IsWhole d t at → Forgets n f (sets (class_at d t at)) → WholeRun d t (elements_run at n f)
  unfolding elements_run forgetting
  elements-stand at n f w q = record {
    members = none-whole at;
    elements = λ _. w;
    element = λ _. w;
    forgotten = λ h. (forgets-some n f _ q h).1;
    later = none-whole at;
  }

  -- what a field holds reads as many elements or members, in a run of its own
  unfoldable pub held_read : Env → ℕ → ℕ → Bool → Step
  held_read e from n true = elements_read e true from n
  held_read e from n false = members_read e from n

  pub alone-reads : (e : Env) (from n : ℕ) (b : Bool) (f : ℕ) → (b ≡ true → Forgets n f (sets (class_at d t from)))
      → ahead d t e (alone_run from n b f) ≡ held_read e from n b
  unfolding alone_run held_read
  alone-reads e from n true f q = elements-reads e from n f (q refl)
  alone-reads e from n false f q = members-reads e from n

  pub alone-stands : (from n : ℕ) (b : Bool) (f : ℕ) → (b ≡ true → IsWhole d t from)
      → (b ≡ true → Forgets n f (sets (class_at d t from))) → (b ≡ false → Members from n) → WholeRun d t (alone_run from n b f)
  unfolding alone_run
  alone-stands from n true f many forgets parts = elements-stand from n f (many refl) (forgets refl)
  alone-stands from n false f many forgets parts = members-stand from n (parts refl)

  -- Nothing is left

  pub over_reads : (e : Env) (r : Run) → over r ≡ true → ahead d t e r ≡ pass
  unfolding ahead over free
  over_reads e r h =
      let f = and_right (eqb r.todo 0) _ h in
      let g = and_right (eqb r.more 0) _ f in
      let a = eqb-true r.todo 0 (and_left (eqb r.todo 0) _ h) in
      let b = eqb-true r.more 0 (and_left (eqb r.more 0) _ f) in
      let c = eqb-true r.rest 0 (and_left (eqb r.rest 0) _ g) in
      let f = not-true (forgetting r) (and_right (eqb r.rest 0) _ g) in
      rw (
        f,
        no-members e r.next r.todo (omega arith),
        no-times r.more (element_read false e (number_at t r.again) (class_at d t r.again)) (omega arith),
        no-members e r.later r.rest (omega arith),
      )
      (pass-seq _ ∙ ap (λ m. m ⨾ (pass ⨾ pass)) (closes-none (class_at d t r.again)) ∙ pass-seq _ ∙ pass-seq _)

  -- Two runs read the same, and the second stands whole

  pub record Same (r r' : Run) : Type 0 where
    pub reads : (e : Env) → ahead d t e r ≡ ahead d t e r'
    pub stands : WholeRun d t r'

  same-run : (r r' : Run) → r' ≡ r → WholeRun d t r → Same r r'
  same-run r r' h w = rw h record { reads = λ e. refl; stands = w }

  -- What is forgotten at a border, and what comes behind it

  unfoldable pub forgotten : Run → Step
  forgotten r = closed (border r) r.again

  pub record Forward (r r' : Run) : Type 0 where
    pub reads : (e : Env) → ahead d t e r ≡ (forgotten r ⨾ ahead d t e r')
    pub stands : WholeRun d t r'

  -- A first member, and a first element taken as one

  -- what is behind the first member
  unfoldable pub rest_read : Env → Run → Step
  rest_read e r =
      members_read e (next_at d t r.next) (r.todo - 1)
      ⨾ closed (forgetting r) r.again
      ⨾ elements_read e (forgetting r) r.again r.more
      ⨾ members_read e r.later r.rest

  pub first-whole : (r : Run) → WholeRun d t r → 0 < count_of r → IsWhole d t (first_at r)
  first-whole r w h = by (lt-or-ge 0 r.todo)
    where
      by : (0 < r.todo) ⊎ (r.todo ≤ 0) → IsWhole d t (first_at r)
      by (inl k) = rw (first_member r k) (first (IsWhole d t) stood r.next r.todo k w.members).whole
      by (inr k) = rw (first-element r k) (w.elements (some-element r k h))

  pub member-reads : (e : Env) (r : Run) → WholeRun d t r → 0 < r.todo → ahead d t e r ≡ (class_read e r.next ⨾ rest_read e r)
  unfolding ahead rest_read
  member-reads e r w h =
      rw (members-first e d t r.next r.todo h w.members) (seq-assoc _ _ _)

  one-times : (n : ℕ) (m : Step) → 0 < n → times n m ≡ (m ⨾ times (n - 1) m)
  unfolding times
  one-times zero m h = absurd (omega arith)
  one-times (suc n) m h = let e : suc n - 1 ≡ n = omega arith in rw e refl

  pub one-member : (e : Env) (at : ℕ) → members_read e at 1 ≡ class_read e at
  unfolding read_members members_at
  one-member e at = seq-pass _

  pub taken-same : (r : Run) → WholeRun d t r → 0 < count_of r → (r.todo ≤ 0 → forgetting r ≡ false) → Same r (taken_run r)
  unfolding forgetting
  taken-same r w h plain = by (lt-or-ge 0 r.todo)
    where
      by : (0 < r.todo) ⊎ (r.todo ≤ 0) → Same r (taken_run r)
      by (inl k) = same-run r _ (taken-members r k) w
      by (inr k) = let more = some-element r k h in rw (taken-element r k) record {
        reads = λ e. unfold ahead in
            (rw (
              plain k,
              no-members e r.next r.todo k,
              one-member e r.again,
              one-times r.more (element_read false e (number_at t r.again) (class_at d t r.again)) more,
            )
            (pass-seq _ ∙ (unfold closes element_read in
            (pass-seq _ ∙ seq-assoc _ _ _ ∙ ap (λ m. class_read e r.again ⨾ m) (sym (pass-seq _))))));
        stands = record {
          members = unfold WholeMembers in (w.elements more, tt);
          elements = λ _. w.elements more;
          element = w.element;
          forgotten = w.forgotten;
          later = w.later;
        };
      }

  -- the next element, once its slots are forgotten
  taken-reads : (e : Env) (r : Run) → r.todo ≤ 0 → 0 < r.more → forgetting r ≡ true
      → ahead d t e r ≡ (forget (class_at d t r.again) ⨾ ahead d t e (taken_run r))
  unfolding ahead forgetting
  taken-reads e r k more f =
      let c = class_at d t r.again in
      let one = class_read e r.again in
      let left = elements_read e true r.again (r.more - 1) in
      let later = members_read e r.later r.rest in
      rw (
        taken-element r k,
        f,
        no-members e r.next r.todo k,
        one-member e r.again,
        one-times r.more (element_read true e (number_at t r.again) (class_at d t r.again)) more,
      )
      (pass-seq _ ∙ (unfold closes element_read in
      (ap (λ m. forget c ⨾ m) (seq-assoc _ left later ∙ seq-assoc (forget c) (one ⨾ forget c) (left ⨾ later))
      ∙ forget-again c _
      ∙ ap (λ m. forget c ⨾ m) (seq-assoc one (forget c) (left ⨾ later)))))

  forgotten-by : (r : Run) → r.todo ≤ 0 → (b : Bool) → forgetting r ≡ b → forgotten r ≡ closed b r.again
  unfolding forgotten
  forgotten-by r h b f = ap (λ x. closed x r.again) (border-forgets r h ∙ f)

  pub forward-reads : (r : Run) → WholeRun d t r → Forward r (forward_run r)
  unfolding forgetting
  forward-reads r w = by (lt-or-ge 0 r.todo) (lt-or-ge 0 r.more) (forgetting r) refl
    where
      by : (0 < r.todo) ⊎ (r.todo ≤ 0) → (0 < r.more) ⊎ (r.more ≤ 0) → (b : Bool) → forgetting r ≡ b → Forward r (forward_run r)
      by (inl h) k b f = rw (forward-members r h) record {
        reads = λ e. unfold forgotten in rw (no-border r h) (unfold closes in sym (pass-seq _));
        stands = w;
      }
      by (inr h) (inl k) true f = rw (forward-taken r h k f) record {
        reads = λ e. taken-reads e r h k f ∙ ap (λ m. m ⨾ ahead d t e (taken_run r)) (sym (forgotten-by r h true f ∙ closes-some _));
        stands = rw (taken-element r h) record {
          members = unfold WholeMembers in (w.elements k, tt);
          elements = λ _. w.elements k;
          element = w.element;
          forgotten = w.forgotten;
          later = w.later;
        };
      }
      by (inr h) (inl k) false f = rw (forward-elements r h k f) record {
        reads = λ e. sym (ap (λ m. m ⨾ ahead d t e r) (forgotten-by r h false f ∙ closes-none _) ∙ pass-seq _);
        stands = w;
      }
      by (inr h) (inr k) b f = rw (forward-later r h k) record {
        reads = λ e. unfold forgotten ahead in
            rw (
              border-forgets r h,
              no-members e r.next r.todo h,
              no-times r.more (element_read (forgetting r) e (number_at t r.again) (class_at d t r.again)) k,
            )
            (pass-seq _ ∙ ap (λ m. closed (forgetting r) r.again ⨾ m) (pass-seq _ ∙ sym (members-reads e r.later r.rest)));
        stands = members-stand r.later r.rest w.later;
      }

  pub taken-first : (r : Run) → 0 < count_of r → (0 < (taken_run r).todo) × ((taken_run r).next ≡ first_at r)
  taken-first r h = by (lt-or-ge 0 r.todo)
    where
      by : (0 < r.todo) ⊎ (r.todo ≤ 0) → (0 < (taken_run r).todo) × ((taken_run r).next ≡ first_at r)
      by (inl k) = rw (taken-members r k, first_member r k) (k, refl)
      by (inr k) = rw (taken-element r k, first-element r k) (omega arith, refl)

  -- Fields of the first one's sort, and what is behind them

  unfoldable pub tail_read : Env → Run → Step
  tail_read e r = elim (element r) [
    | true ↦ members_read e r.later r.rest
    | false ↦ closed (forgetting r) r.again ⨾ elements_read e (forgetting r) r.again r.more ⨾ members_read e r.later r.rest
  ]

  pub sort-reads : (e : Env) (r : Run) → (r.todo ≤ 0 → forgetting r ≡ false)
      → ahead d t e r ≡ (read_fields (element r) d t (first_at r) (count_of r) e ⨾ tail_read e r)
  unfolding ahead tail_read read_fields
  sort-reads e r plain = by (lt-or-ge 0 r.todo)
    where
      by : (0 < r.todo) ⊎ (r.todo ≤ 0) → ahead d t e r ≡ (read_fields (element r) d t (first_at r) (count_of r) e ⨾ tail_read e r)
      by (inl h) = rw (element-no r h, first_member r h, count-members r h, tail_read, read_fields) refl
      by (inr h) =
          rw (element-yes r h, first-element r h, count-elements r h, tail_read, read_fields, no-members e r.next r.todo h, plain h)
          (pass-seq _ ∙ (unfold closes element_read in pass-seq _))

  pub sort-stands : (r : Run) → WholeRun d t r → 0 < count_of r → WholeFields (element r) d t (first_at r) (count_of r)
  unfolding WholeFields
  sort-stands r w some = by (lt-or-ge 0 r.todo)
    where
      by : (0 < r.todo) ⊎ (r.todo ≤ 0) → WholeFields (element r) d t (first_at r) (count_of r)
      by (inl h) = rw (element-no r h, first_member r h, count-members r h, WholeFields) w.members
      by (inr h) = rw (element-yes r h, first-element r h, WholeFields) (w.elements (some-element r h some))

  -- Behind some of them: the last one's class stands at a byte, that of an element where all do

  module _ (s : List ℕ) (sized : SizedClasses t s) (r : Run) (last left : ℕ) (there : IsWhole d t last)
      (same : r.todo ≤ 0 → last ≡ r.again) (plain : r.todo ≤ 0 → forgetting r ≡ false) where
    abbrev pub next_field : ℕ
    next_field = onward (element r) last (next_at d t last)

    pub behind-reads : (e : Env)
        → ahead d t e (behind_run r s last left) ≡ (read_fields (element r) d t next_field left e ⨾ tail_read e r)
    unfolding ahead tail_read read_fields onward forgetting
    behind-reads e = by (lt-or-ge 0 r.todo)
      where
        by : (0 < r.todo) ⊎ (r.todo ≤ 0)
            → ahead d t e (behind_run r s last left) ≡ (read_fields (element r) d t next_field left e ⨾ tail_read e r)
        by (inl h) = rw (behind-members r h s last left, element-no r h, sized d last there, tail_read, read_fields, onward) refl
        by (inr h) =
            rw (
              behind-elements r h s last left,
              element-yes r h,
              tail_read,
              read_fields,
              onward,
              same h,
              plain h,
              no-members e r.next 0 (omega arith),
            )
            (pass-seq _ ∙ (unfold closes element_read in pass-seq _))

    pub behind-stands : WholeRun d t r → WholeFields (element r) d t next_field left → WholeRun d t (behind_run r s last left)
    unfolding WholeFields onward forgetting
    behind-stands w rest = by (lt-or-ge 0 r.todo)
      where
        by : (0 < r.todo) ⊎ (r.todo ≤ 0) → WholeRun d t (behind_run r s last left)
        by (inl h) = rw (behind-members r h s last left) record {
          members = rw (sized d last there) (rw (element-no r h, WholeFields, onward) at rest);
          elements = w.elements;
          element = w.element;
          forgotten = w.forgotten;
          later = w.later;
        }
        by (inr h) = rw (behind-elements r h s last left) record {
          members = none-whole r.next;
          elements = λ _. rw (same h) at there;
          element = w.element;
          forgotten = w.forgotten;
          later = w.later;
        }
