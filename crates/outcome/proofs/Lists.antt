-- A list written part by part by what hands no slots on.
use Rattle.std.specs.Prelude.{Ok, Err, Result, ⊤}
use mathlib.Core.Path.{◌≡◌, refl, ap, ◌∙◌}
use mathlib.Core.List.{List, [], ◌∷◌, ◌++◌}
use Prim.Native.Nat.{ℕ, ◌+◌, ◌-◌, ◌≤◌}
use native.Mathlib.Omega.{arith}
use lib.ListN.{length, drop}
use Rattle.rules.specs.declared.Entry.{Entry}
use Rattle.rules.specs.declared.Stop.{Stop}
use Rattle.rules.specs.Limits.{words_per_entry}
use Rattle.rules.specs.Slots.{Slots}
use Rattle.rules.specs.Entry.{words}
use Rattle.rules.specs.Step.{Out, stop, Step, onto, after, ◌⨾◌}
use Rattle.listing.specs.declared.Progress.{Progress}
use Rattle.listing.specs.Did.{Did, full, out_of}
use Rattle.listing.proofs.Parts.{Part, part-last-on, part-last-stopped, back-room, lent, merged}
use Rattle.outcome.specs.declared.Ran.{Ran}
use Rattle.outcome.specs.Ran.{RanDid, stopped_ran, gone_ran, last_ran}

-- nothing was listed
pub refused-ran : (o : Out) (st : Progress) (l : Slots) (ws : List ℕ) (v : Stop) → o ≡ stop [] v → RanDid o st (stopped_ran v 0 st) ws ws
unfolding out_of words
refused-ran o st l ws v e =
    record { slots = l; did = record { listed = []; out = e; counted = refl; list = refl; room = omega arith; kept = λ w h. refl } }

-- one entry was written
pub marked-part : (o : Out) (x : Entry) (f : Step) {ws ws₁ : List ℕ} {st : Progress} {l : Slots} → words_per_entry ≤ length ws
    → ws₁ ≡ words (x ∷ []) ++ drop words_per_entry ws
    → o ≡ onto (x ∷ []) (f (full st l (length ws - words_per_entry))) → Part o f ws ws₁ words_per_entry st l
marked-part o x f h w e = record { listed = x ∷ []; list = w; counted = refl; room = h; rest = e }

-- the rest may be said otherwise
pub part_same : {o : Out} (m m' : Step) {ws₀ ws : List ℕ} {used : ℕ} {st st' : Progress} {l l' : Slots}
    → m (full st l (length ws₀ - used)) ≡ m' (full st' l' (length ws₀ - used)) → Part o m ws₀ ws used st l → Part o m' ws₀ ws used st' l'
part_same m m' e p = record { listed = p.listed; list = p.list; counted = p.counted; room = p.room; rest = p.rest ∙ ap (onto p.listed) e }

-- f was lent the whole list
module _ (f g : Step) {o : Out} {ws ys : List ℕ} {st st' : Progress} {l l' : Slots} {went : Result ⊤ Stop} {n : ℕ} (e : o ≡ (f ⨾ g) (full st l (length ws)))
    (d : Did (f (full st l (length ws))) st went n st' l' ws ys) where
  pub part-first : went ≡ Ok tt → Part o g ws ys n st' l'
  unfolding ◌⨾◌ after out_of
  part-first on = record {
    listed = d.listed;
    list = d.list;
    counted = d.counted;
    room = d.room;
    rest = e ∙ ap (λ x. after x g) (d.out ∙ ap (λ w. out_of d.listed w st' l' (length ws - n)) on);
  }

  pub first-stopped : (v : Stop) → went ≡ Err v → RanDid o st (stopped_ran v n st) ws ys
  unfolding ◌⨾◌ after out_of
  first-stopped v off = record {
    slots = l;
    did = record {
      listed = d.listed;
      out = e ∙ ap (λ x. after x g) (d.out ∙ ap (λ w. out_of d.listed w st' l' (length ws - n)) off);
      counted = d.counted;
      list = d.list;
      room = d.room;
      kept = λ w h. refl;
    };
  }

-- f is all that is left
module _ (f : Step) {o : Out} {ws₀ ws : List ℕ} {used : ℕ} {st : Progress} {l : Slots} (p : Part o f ws₀ ws used st l) {r : Ran} {ys : List ℕ}
    (d : RanDid (f (full st l (length (lent used ws)))) st r (lent used ws) ys) where
  pub ran-room : used + r.used ≤ length ws₀
  ran-room = back-room f p d.did

  -- as it went
  gone : (w : Result ⊤ Stop) (came : Progress) → r.went ≡ w → RanDid o came (gone_ran w (used + r.used) r.state came) ws₀ (merged used ws ys)
  unfolding gone_ran
  gone (Ok u) came on = record { slots = d.slots; did = part-last-on f p d.did came on }
  gone (Err v) came off = record { slots = l; did = part-last-stopped f p d.did v came l off }

  pub ran-last : (came : Progress) → RanDid o came (last_ran used r came) ws₀ (merged used ws ys)
  ran-last came = gone r.went came refl
