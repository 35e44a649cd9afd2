-- The demands, gathered; and as the functions of `promises_calls` ensure them, from what `read` ensures.
use Rattle.std.specs.Prelude.{None}
use mathlib.Core.Path.{◌≡◌, sym, ap, subst, ◌∙◌}
use Prim.Native.Nat.{ℕ}
use mathlib.Core.List.{List}
use lib.ListN.{length}
use Rattle.rules.specs.declared.Entry.{Entry}
use Rattle.rules.specs.declared.Report.{Report}
use Rattle.rules.specs.Verdict.{refusal_number}
use Rattle.rules.specs.Read.{read_all, result_of, list_after}
use Rattle.clock.specs.Ticked.{ticked_number}
use Rattle.promises.specs.Demands.{Call, call, listed_by, Contract, Demands, OneCall, TwoCalls}
use Rattle.promises.specs.Clocks.{Ticking, NeedsMore}
use Rattle.promises.proofs.Clocks.{reading-ticks, reading-needs}
use Rattle.promises.proofs.Calls.{lists-entries, demand-3-calls}
use Rattle.promises.proofs.Answers.{demand-1, less-room-calls}

-- of a call that meets the contract: what the rules list is what it lists
ticks : (x b : List ℕ) (c : Call) → Contract x b c → (p : Entry) → Ticking 0 p (listed_by c)
ticks x b c h p = subst (Ticking 0 p) (sym (lists-entries x b c h)) (reading-ticks x b (length c.before) p)

needs-more : (x b : List ℕ) (c : Call) → Contract x b c → c.result.number ≡ ticked_number None
    → NeedsMore (listed_by c) c.result.place
unfolding ticked_number refusal_number result_of
needs-more x b c h e =
    let r = read_all x b (length c.before) in
    let m = reading-needs x b (length c.before) (sym (ap (λ z. z.number) h.result) ∙ e) in
    let at : NeedsMore r.entries c.result.place = subst (NeedsMore r.entries) (sym (ap (λ z. z.place) h.result)) m in
    subst (λ es. NeedsMore es c.result.place) (sym (lists-entries x b c h)) at

pub demands : Demands
demands = record {
  demand-1 = demand-1;
  demand-2 = λ x b c h. record { rules = h; clocks = ticks x b c h; too_large = needs-more x b c h };
  demand-3 = demand-3-calls;
  less-room = less-room-calls;
}

-- what `read` ensures of a table, a stream, a result, and the list before and after
abbrev pub Ensured : List ℕ → List ℕ → Report → List ℕ → List ℕ → Type 0
Ensured x b r ws ws' = (r ≡ result_of (read_all x b (length ws))) × (ws' ≡ list_after (read_all x b (length ws)) ws)

pub contract : (x b : List ℕ) (r : Report) (ws ws' : List ℕ) → Ensured x b r ws ws' → Contract x b (call r ws ws')
contract x b r ws ws' e = record { result = e.0; list = e.1 }

pub one-call : (x b : List ℕ) (r : Report) (ws ws' : List ℕ) → Ensured x b r ws ws' → OneCall x b (call r ws ws')
one-call x b r ws ws' e = let h = contract x b r ws ws' e in record { demand-1 = demands.demand-1 x b _ h; demand-2 = demands.demand-2 x b _ h }

pub two-calls : (x x' b : List ℕ) (r : Report) (ws ws' : List ℕ) (r' : Report) (vs vs' : List ℕ) → Ensured x b r ws ws' → Ensured x' b r' vs vs'
    → TwoCalls x x' b (call r ws ws') (call r' vs vs')
two-calls x x' b r ws ws' r' vs vs' e f =
    let h = contract x b r ws ws' e in
    let k = contract x' b r' vs vs' f in
    record { first = h; second = k; demand-3 = demands.demand-3 x x' b _ _ h k; less-room = demands.less-room x x' b _ _ h k }
