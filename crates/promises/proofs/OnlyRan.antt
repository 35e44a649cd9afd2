-- No slack, of what hands no slots on: as of every step, whatever the slots behind it are.
use mathlib.Core.Path.{◌≡◌}
use Prim.Native.Nat.{ℕ}
use mathlib.Core.List.{List}
use lib.ListN.{length}
use Rattle.rules.specs.Slots.{Slots, no_slots}
use Rattle.rules.specs.Step.{Out}
use Rattle.listing.specs.declared.Progress.{Progress}
use Rattle.listing.specs.Did.{Did, full}
use Rattle.outcome.specs.declared.Ran.{Ran}
use Rattle.promises.specs.OnlyRan.{NoSlackRan}
use Rattle.promises.proofs.Only.{did-same}

ran-same : (o : Out) (st : Progress) (ws : List ℕ) (l l' : Slots) (r r' : Ran) (vs vs' : List ℕ)
    → Did o st r.went r.used r.state l ws vs
    → Did o st r'.went r'.used r'.state l' ws vs' → (r ≡ r') × (vs ≡ vs')
ran-same o st ws l l' r r' vs vs' d d' =
    let x = did-same o st ws _ _ _ _ _ _ l l' vs vs' d d' in
    ((λ i. record { went = x.went i; used = x.used i; state = x.state i }), x.list)

pub no-slack-ran : NoSlackRan
no-slack-ran = record {
  ran = λ o st ws. record { same = λ r r' vs vs' d d'. ran-same o st ws _ _ r r' vs vs' d.did d'.did };
  event = λ m st l ws. record { same = λ r r' vs vs' d d'. ran-same (m (full st l (length ws))) st ws _ _ r r' vs vs' d.did d'.did };
  packet = λ m st ws. record {
    same = λ r r' vs vs' d d'. ran-same (m (full st no_slots (length ws))) st ws _ _ r r' vs vs' (d.at no_slots).did (d'.at no_slots).did;
  };
}
