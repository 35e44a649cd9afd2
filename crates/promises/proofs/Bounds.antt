-- Inside a packet the place stays between the packet's start and the bound; and behind a stated length it has moved.
use Rattle.std.specs.Prelude.{Option}
use Prim.Native.Nat.{ℕ, ◌≤◌}
use Rattle.rules.specs.declared.Refusal.{Refusal}
use Rattle.rules.specs.Verdict.{stop_at}
use Rattle.rules.specs.Step.{State, Step}
use Rattle.rules.specs.Class.{Class}
use Rattle.rules.specs.Field.{Env}
use Rattle.rules.specs.Packet.{read_root}
use Rattle.laws.proofs.Law.{Any, FitRoot, law-root}
use Rattle.laws.proofs.Triple.{Triple, weaker, looser}
use Rattle.laws.proofs.Between.{In, At, NoMore, held-law}
use Rattle.laws.proofs.Moved.{moved-kept}
use Rattle.promises.specs.Laws.{Inside}

module _ (e : Env) where
  abbrev pub Bounded : Step → Type 0
  Bounded m = Triple (In e) (At e) (NoMore e) (Inside e) m (Inside e)

  pub place_of : (r : Refusal) → NoMore e r → (s : State) → Inside e s → At e (stop_at r s.place)
  place_of r i s h = (h.from, h.to)

  -- a root whose fields have a bit or more
  pub bound-root : (m : ℕ) (c : Option Class) → FitRoot (λ n. 1 ≤ n) Any Any c → Bounded (read_root e m c)
  bound-root m c w =
      weaker (In e) (At e) (NoMore e) (λ s h. record { from = h.from; to = h.to; kept = h.moved })
      (looser (In e) (At e) (NoMore e) (λ s h. record { from = h.from; to = h.to; moved = h.kept })
      (law-root e (held-law e (moved-kept e)) m c w))
