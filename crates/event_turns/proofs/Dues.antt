-- A root that is next, in the rules' words. An event's header is the run that it begins with; behind the lookup, what is left of an event
-- from a turn on is the run of the root that is next, and then what is left from the turn behind it on.
use Rattle.std.specs.Prelude.{Some, None, Option}
use mathlib.Core.Path.{◌≡◌, refl, ap, sym, ◌∙◌}
use mathlib.Core.List.{List}
use mathlib.Core.Bool.{Bool, true, false}
use Prim.Native.Nat.{ℕ, zero, suc, ◌+◌, ◌-◌, ◌≤◌, ◌<◌}
use native.Mathlib.Omega.{arith}
use lib.Dec.{eqb}
use Rattle.rules.specs.Limits.{depth_limit}
use Rattle.rules.specs.Step.{◌⨾◌, pass}
use Rattle.rules.specs.Field.{Env}
use Rattle.rules.specs.Packet.{read_root, first_root, common_number, payload_number}
use Rattle.facts.proofs.Steps.{pass-seq, seq-pass}
use Rattle.class_layout.specs.Fragments.{root_place, stream_class_at, event_class_at}
use Rattle.class_layout.specs.Sizes.{SizedFragment}
use Rattle.class_layout.proofs.RootNumbers.{first-number, payload-number}
use Rattle.field_runs.specs.Run.{members_run}
use Rattle.field_runs.specs.Ahead.{ahead, WholeRun}
use Rattle.field_runs.proofs.Ahead.{members-reads, members-stand, none-whole, no-members}
use Rattle.field_runs.proofs.Ahead.{one-member as one-reads}
use Rattle.event_turns.specs.declared.Asking.{Asking}
use Rattle.event_turns.specs.declared.Due.{Due}
use Rattle.event_turns.specs.Roots.{class_of, number_of, Numbered, RootStands, parts_of}
use Rattle.event_turns.specs.Ready.{OfStream}
use Rattle.event_turns.specs.Left.{turns, root_run, root_found, none_due, next_due}
use Rattle.event_turns.specs.Turns.{turns_from, turns_at}
use Rattle.event_turns.proofs.Lefts.{due-end, due-at, due-behind}
use Rattle.event_turns.proofs.Looked.{one-member, root-class, root_stands, root-numbered, numbered-reads}

-- the run of a root

module _ (t : List ℕ) where
  pub run-reads : (e : Env) (x : Option ℕ) → ahead depth_limit t e (root_run x) ≡ read_root e (number_of t x) (class_of t x)
  unfolding root_run number_of class_of read_root
  run-reads e None = members-reads depth_limit t e 0 0 ∙ no-members depth_limit t e 0 0 (omega arith)
  run-reads e (Some p) = members-reads depth_limit t e p 1 ∙ one-reads depth_limit t e p

  -- by the number that it has in its fragment
  pub run-numbered : (e : Env) (x : Option ℕ) (m : ℕ) → Numbered t x m → ahead depth_limit t e (root_run x) ≡ read_root e m (class_of t x)
  run-numbered e x m h = run-reads e x ∙ numbered-reads t e x m h

  pub run-stands : (x : Option ℕ) → RootStands t x → WholeRun depth_limit t (root_run x)
  unfolding root_run
  run-stands None h = members-stand depth_limit t 0 0 (none-whole depth_limit t 0)
  run-stands (Some p) h = members-stand depth_limit t p 1 (one-member t (Some p) p refl h)

-- what is due from a turn behind the lookup on
pub record DueAt (t : List ℕ) (w : Asking) (class turn : ℕ) (d : Due) : Type 0 where
  pub reads : (e : Env) → turns_at t w e class turn ≡ (ahead depth_limit t e d.run ⨾ turns_at t w e class d.turn)
  pub stands : WholeRun depth_limit t d.run
  pub onward : turn ≤ d.turn
  pub rises : turn < turns → turn < d.turn
  pub bound : turn ≤ turns → d.turn ≤ turns

module _ (t s : List ℕ) (w : Asking) (of : OfStream t w) (class : ℕ) (known : SizedFragment t s class) where
  turn-stands : (turn : ℕ) → RootStands t (root_found t w turn class)
  unfolding root_found
  turn-stands turn = by (eqb turn 2) (eqb turn 3)
    where
      place : ℕ → Option ℕ
      place i = root_place t class i

      by : (a b : Bool) → RootStands t (elim a [ true ↦ w.common | false ↦ elim b [ true ↦ place 0 | false ↦ place 1 ] ])
      by true b = of.common_stands
      by false true = root_stands t class 0 (place 0) known.stands refl
      by false false = root_stands t class 1 (place 1) known.stands refl

  -- the roots of an event class
  abbrev found : ℕ → Option ℕ
  found i = root_place t class i

  specific-reads : (e : Env) → ahead depth_limit t e (root_run (found 0)) ≡ read_root e first_root (event_class_at t class).specific
  unfolding event_class_at
  specific-reads e =
      run-numbered t e (found 0) first_root
      (root-numbered t class 0 first_root (found 0) refl (λ p h. first-number t class p known.stands h))
      ∙ ap (read_root e first_root) (root-class t class 0 (found 0) refl)

  payload-reads : (e : Env)
      → ahead depth_limit t e (root_run (found 1)) ≡ read_root e (payload_number (event_class_at t class)) (event_class_at t class).payload
  payload-reads e =
      let m = payload_number (event_class_at t class) in
      run-numbered t e (found 1) m
      (root-numbered t class 1 m (found 1) refl (λ p h. payload-number t class p known.stands h))
      ∙ ap (read_root e m) (root-class t class 1 (found 1) refl ∙ (unfold event_class_at in refl))

  common-reads : (e : Env)
      → ahead depth_limit t e (root_run w.common)
      ≡ read_root e (common_number (stream_class_at t w.class)) (stream_class_at t w.class).common
  common-reads e = run-numbered t e w.common _ of.common_numbered ∙ ap (read_root e _) of.common

  turn-first : (turn : ℕ) → 2 ≤ turn → turn < turns → (e : Env)
      → turns_at t w e class turn ≡ (ahead depth_limit t e (root_run (root_found t w turn class)) ⨾ turns_at t w e class (turn + 1))
  unfolding turns_from root_found parts_of
  turn-first zero k h e = absurd (omega arith)
  turn-first (suc zero) k h e = absurd (omega arith)
  turn-first (suc (suc zero)) k h e = rw (common-reads e) refl
  turn-first (suc (suc (suc zero))) k h e = rw (specific-reads e) refl
  turn-first (suc (suc (suc (suc zero)))) k h e = rw (payload-reads e) (sym (seq-pass _))
  turn-first (suc (suc (suc (suc (suc n))))) k h e = absurd (omega arith)

  none_reads : (e : Env) → ahead depth_limit t e (root_run None) ≡ pass
  none_reads e = unfold number_of class_of read_root in run-reads t e None

  all_done : (turn : ℕ) → turns ≤ turn → DueAt t w class turn (none_due turn)
  unfolding none_due root_run
  all_done turn h = record {
    reads = λ e. sym (ap (λ m. m ⨾ turns_at t w e class turn) (nothing e) ∙ pass-seq _);
    stands = run-stands t None (unfold RootStands in tt);
    onward = omega arith;
    rises = λ k. absurd (omega arith);
    bound = λ k. k;
  }
    where
      nothing : (e : Env) → ahead depth_limit t e (members_run 0 0) ≡ pass
      nothing e = unfold root_run in none_reads e

  module _ (turn : ℕ) (k : 2 ≤ turn) (h : turn < turns) where
    root-due : (p : ℕ) → Some p ≡ root_found t w turn class → DueAt t w class turn (record { turn = turn + 1; run = members_run p 1 })
    unfolding root_run
    root-due p is = record {
      reads = λ e. turn-first turn k h e ∙ ap (λ x. ahead depth_limit t e (root_run x) ⨾ turns_at t w e class (turn + 1)) (sym is);
      stands = run-stands t (Some p) (rw (← is) at (turn-stands turn));
      onward = omega arith;
      rises = λ _. omega arith;
      bound = λ _. omega arith;
    }

    -- a turn whose root is not there
    passed : None ≡ root_found t w turn class → (e : Env) → turns_at t w e class turn ≡ turns_at t w e class (turn + 1)
    passed is e = turn-first turn k h e ∙ rw (← is, none_reads e) (pass-seq _)

    behind : (d : Due) → None ≡ root_found t w turn class → DueAt t w class (turn + 1) d → DueAt t w class turn d
    behind d is later = record {
      reads = λ e. passed is e ∙ later.reads e;
      stands = later.stands;
      onward = omega (arith, later.onward);
      rises = λ _. omega (arith, later.onward);
      bound = λ _. later.bound (omega arith);
    }

    -- what is due behind a turn is due there, if its root is not
    due-here : DueAt t w class (turn + 1) (next_due t w class (turn + 1)) → (x : Option ℕ) → x ≡ root_found t w turn class
        → DueAt t w class turn (next_due t w class turn)
    due-here later None is = rw (due-behind t w class turn h is) (behind _ is later)
    due-here later (Some p) is = rw (due-at t w class turn h p is) (root-due p is)

  due-next : (n turn : ℕ) → turns - turn ≡ n → 2 ≤ turn → DueAt t w class turn (next_due t w class turn)
  due-next zero turn left k = let h : turns ≤ turn = omega arith in rw (due-end t w class turn h) (all_done turn h)
  due-next (suc n) turn left k =
      due-here turn k (omega (arith, left)) (due-next n (turn + 1) (omega (arith, left)) (omega arith)) (root_found t w turn class) refl

  pub due-from : (turn : ℕ) → 2 ≤ turn → DueAt t w class turn (next_due t w class turn)
  due-from turn k = due-next (turns - turn) turn refl k
