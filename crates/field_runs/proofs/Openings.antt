-- A first member that is opened: at the state at hand it reads m, its own entry, and then what it holds, which takes its turn in the run or
-- stands in front of what was left. In order: parts in its place; a class n times in front; both, as `into` picks.
use mathlib.Core.Path.{◌≡◌, refl, sym, ap, ◌∙◌}
use Prim.Native.Nat.{ℕ, ◌+◌, ◌-◌, ◌<◌}
use native.Mathlib.Omega.{arith}
use mathlib.Core.List.{List}
use mathlib.Core.Bool.{Bool, true, false}
use lib.ListN.{get_or}
use lib.Dec.{eqb}
use borrow.Author.Tests.{eqb-true, eqb-false}
use Rattle.rules.specs.Class.{sets}
use Rattle.rules.specs.Step.{State, Step, ◌⨾◌, pass}
use Rattle.rules.specs.Field.{Env, read_members, times}
use Rattle.facts.proofs.Truth.{clash, and_left, and_right}
use Rattle.facts.proofs.Steps.{seq-assoc, pass-seq, seq-pass}
use Rattle.class_layout.specs.Numbers.{number_at}
use Rattle.class_layout.specs.Trees.{class_at, next_at, members_at, behind_members, IsWhole, WholeMembers}
use Rattle.class_layout.specs.Notes.{SizedClasses}
use Rattle.class_layout.specs.Words.{SaysSet}
use Rattle.class_layout.proofs.Standing.{first}
use Rattle.class_layout.proofs.Split.{read-split, whole_join}
use Rattle.field_runs.specs.declared.Run.{Run}
use Rattle.field_runs.specs.Run.{variant_kind, forgetting, free, opened_run, put_off_run, into_run}
use Rattle.field_runs.specs.Ahead.{element_read, ahead, WholeRun, Forgets}
use Rattle.field_runs.proofs.Cases.{into-elements, into-variant, into-parts}
use Rattle.field_runs.proofs.Ahead.{stood, members_read, elements_read, Members, no-members, no-times, none-whole, not-true}
use Rattle.field_runs.proofs.Ahead.{forgets_by, forgets-some, closes-none, closes-first, elements-forget}
use Rattle.field_runs.proofs.Ahead.{class_read, held_read, rest_read, member-reads, instead}

-- at a state a run reads m, and then what another one does, which stands whole
pub record OpensTo (d : ℕ) (t : List ℕ) (e : Env) (s : State) (m : Step) (r r' : Run) : Type 0 where
  pub reads : ahead d t e r s ≡ (m ⨾ ahead d t e r') s
  pub stands : WholeRun d t r'

module _ (d : ℕ) (t : List ℕ) (r : Run) (w : WholeRun d t r) (h : 0 < r.todo) where
  rest-whole : Members d t (next_at d t r.next) (r.todo - 1)
  rest-whole = (first (IsWhole d t) (stood d t) r.next r.todo h w.members).rest

  -- n parts from a byte on, which end where the member ends
  module _ (from n : ℕ) (parts : Members d t from n) (ends : behind_members (stood d t) from n ≡ next_at d t r.next) where
    -- they, and what is behind the member
    both : Members d t from (n + (r.todo - 1))
    both = whole_join (stood d t) (IsWhole d t) n (r.todo - 1) from parts (rw ends rest-whole)

    opened-reads : (e : Env) → ahead d t e (opened_run r from n) ≡ (members_read d t e from n ⨾ rest_read d t e r)
    unfolding ahead opened_run rest_read forgetting
    opened-reads e =
        let k : r.todo - 1 + n ≡ n + (r.todo - 1) = omega arith in
        rw (k, read-split e d t n (r.todo - 1) from both, ends) (seq-assoc _ _ _)

    opened-stands : WholeRun d t (opened_run r from n)
    unfolding opened_run forgetting
    opened-stands =
        let k : r.todo - 1 + n ≡ n + (r.todo - 1) = omega arith in
        record {
          members = rw k both;
          elements = w.elements;
          element = w.element;
          forgotten = w.forgotten;
          later = w.later;
        }

    pub opened-opens : (e : Env) (s : State) (m : Step) → class_read d t e r.next s ≡ (m ⨾ members_read d t e from n) s
        → OpensTo d t e s m r (opened_run r from n)
    opened-opens e s m k = record {
      reads =
          ap (λ f. f s) (member-reads d t e r w h) ∙ instead _ m _ _ s k
          ∙ ap (λ f. (m ⨾ f) s) (sym (opened-reads e));
      stands = opened-stands;
    }

  -- the class at a byte n times, as elements of an array or of none, where nothing is put off
  module _ (sizes : List ℕ) (sized : SizedClasses t sizes) (f : free r ≡ true) (at n forgets : ℕ) (class : IsWhole d t at)
      (some : forgets_by forgets ≡ true → (0 < n) × SaysSet forgets (sets (class_at d t at))) where
    no_more : r.more ≡ 0
    unfolding free
    no_more = eqb-true r.more 0 (and_left (eqb r.more 0) _ f)

    no-rest : r.rest ≡ 0
    unfolding free
    no-rest = eqb-true r.rest 0 (and_left (eqb r.rest 0) _ (and_right (eqb r.more 0) _ f))

    no-forgets : forgetting r ≡ false
    unfolding free
    no-forgets = not-true (forgetting r) (and_right (eqb r.rest 0) _ (and_right (eqb r.more 0) _ f))

    behind-first : r.next + get_or sizes r.next 0 ≡ next_at d t r.next
    behind-first = sized d r.next (first (IsWhole d t) (stood d t) r.next r.todo h w.members).whole

    rest-reads : (e : Env) → rest_read d t e r ≡ members_read d t e (next_at d t r.next) (r.todo - 1)
    unfolding rest_read
    rest-reads e =
        rw (
          no-forgets,
          closes-none (class_at d t r.again),
          no-times r.more (element_read false e (number_at t r.again) (class_at d t r.again)) (omega (arith, no_more)),
          no-members d t e r.later r.rest (omega (arith, no-rest)),
          pass-seq pass,
          pass-seq pass,
        )
        (seq-pass _)

    put-off-reads : (e : Env)
        → ahead d t e (put_off_run r sizes at n forgets) ≡ (elements_read d t e (forgets_by forgets) at n ⨾ rest_read d t e r)
    unfolding ahead put_off_run forgetting
    put-off-reads e =
        rw (behind-first, rest-reads e, no-members d t e at 0 (omega arith))
        (pass-seq _ ∙ sym (seq-assoc _ _ _)
        ∙ ap (λ m. m ⨾ members_read d t e (next_at d t r.next) (r.todo - 1))
        (closes-first d t e (forgets_by forgets) (number_at t at) (class_at d t at) n (λ g. (some g).0)))

    put-off-stands : WholeRun d t (put_off_run r sizes at n forgets)
    unfolding put_off_run forgetting
    put-off-stands = record {
      members = none-whole d t at;
      elements = λ _. class;
      element = λ _. class;
      forgotten = λ g. (some g).1;
      later = rw behind-first rest-whole;
    }

    pub put-off-opens : (e : Env) (s : State) (m : Step)
        → class_read d t e r.next s ≡ (m ⨾ elements_read d t e (forgets_by forgets) at n) s
        → OpensTo d t e s m r (put_off_run r sizes at n forgets)
    put-off-opens e s m k = record {
      reads =
          ap (λ f. f s) (member-reads d t e r w h) ∙ instead _ m _ _ s k
          ∙ ap (λ f. (m ⨾ f) s) (sym (put-off-reads e));
      stands = put-off-stands;
    }

  -- What a member of the kind k holds, as `into` takes it: n elements of the class at a byte, or n members from there on. A variant holds
  -- one. Elements, and what a variant holds, are put in front; all other parts end where the member ends.
  pub record Holds (sizes : List ℕ) (k from n : ℕ) (elements : Bool) : Type 0 where
    pub noted : SizedClasses t sizes
    pub many : elements ≡ true → (free r ≡ true) × IsWhole d t from
    pub one : elements ≡ false → k ≡ variant_kind → (n ≡ 1) × (free r ≡ true)
    pub parts : elements ≡ false → Members d t from n
    pub ends : elements ≡ false → (k ≡ variant_kind → ⊥) → behind_members (stood d t) from n ≡ next_at d t r.next

  one-element : (e : Env) (at : ℕ) → elements_read d t e false at 1 ≡ members_read d t e at 1
  unfolding times read_members members_at element_read
  one-element e at = refl

  one-whole : (at : ℕ) → Members d t at 1 → IsWhole d t at
  unfolding WholeMembers
  one-whole at v = v.0

  pub into-opens : (sizes : List ℕ) (k from n : ℕ) (elements : Bool) (f : ℕ) → Holds sizes k from n elements
      → (elements ≡ true → Forgets n f (sets (class_at d t from))) → (e : Env) (s : State) (m : Step)
      → class_read d t e r.next s ≡ (m ⨾ held_read d t e from n elements) s
      → OpensTo d t e s m r (into_run k r sizes from n elements f)
  unfolding held_read
  into-opens sizes k from n true f q forgets e s m h =
      let a = q.many refl in
      let g = forgets refl in
      rw (into-elements k r sizes from n true f refl)
      (put-off-opens sizes q.noted a.0 from n f a.1 (forgets-some n f _ g) e s m
      (h ∙ ap (λ x. (m ⨾ x) s) (sym (elements-forget d t e from n f g))))
  into-opens sizes k from n false f q forgets e s m h = by (eqb k variant_kind) refl
    where
      by : (b : Bool) → eqb k variant_kind ≡ b → OpensTo d t e s m r (into_run k r sizes from n false f)
      by true b =
          let v = eqb-true k variant_kind b in
          let a = q.one refl v in
          let c = one-whole from (rw a.0 at (q.parts refl)) in
          rw (into-variant k r sizes from n false f refl v)
          (put-off-opens sizes q.noted a.1 from 1 0 c (λ g. absurd (clash g)) e s m (rw (one-element e from, ← a.0) h))
      by false b =
          let v = eqb-false k variant_kind b in
          rw (into-parts k r sizes from n false f refl v) (opened-opens from n (q.parts refl) (q.ends refl v) e s m h)
