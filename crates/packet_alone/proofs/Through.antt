-- A step that goes through: taken apart into its parts, which went through too, and put together again.
use mathlib.Core.Path.{◌≡◌, refl, sym, ap, ◌∙◌}
use Prim.Native.Nat.{ℕ, ◌-◌}
use native.Mathlib.Omega.{arith}
use mathlib.Core.List.{List, [], ◌∷◌, ◌++◌}
use mathlib.Core.Bool.{Bool, true, false}
use lib.Dec.{ltb}
use Rattle.rules.specs.declared.Entry.{Entry}
use Rattle.rules.specs.declared.Refusal.{Refusal}
use Rattle.rules.specs.declared.Refusal.TheVariants.{ListFull}
use Rattle.rules.specs.Limits.{words_per_entry}
use Rattle.rules.specs.Entry.{entry}
use Rattle.rules.specs.Step.{State, Out, stop, go, Step, onto, after, ◌⨾◌, refuse, check, due, listed, change, pass}
use Rattle.rules.specs.Packet.{mark}
use Rattle.facts.proofs.Steps.{onto-nil}
use Rattle.packet_alone.specs.Behind.{less}
use Rattle.laws.proofs.Pair.{through, onto-go}

joined : (fs : List Entry) (o : Out) (es : List Entry) (u : State) (gs : List Entry) → onto fs o ≡ go es u → o ≡ go gs u → es ≡ fs ++ gs
unfolding onto
joined fs o es u gs q r = let w : go (fs ++ gs) u ≡ go es u = sym (ap (onto fs) r) ∙ q in cc

-- One step, then another

pub record Split (m n : Step) (s : State) (es : List Entry) (u : State) : Type 0 where
  pub first : List Entry
  pub middle : State
  pub second : List Entry
  pub goes : m s ≡ go first middle
  pub goes_on : n middle ≡ go second u
  pub list : es ≡ first ++ second

pub split : (m n : Step) (s : State) (es : List Entry) (u : State) → (m ⨾ n) s ≡ go es u → Split m n s es u
unfolding ◌⨾◌
split m n s es u q = by (m s) refl q
  where
    by : (o : Out) → m s ≡ o → after o n ≡ go es u → Split m n s es u
    by (stop fs v) r q = unfold after in let z : ◌≡◌ {A = ℕ} 0 1 = cc in absurd (omega arith)
    by (go fs x) r q =
        let h : onto fs (n x) ≡ go es u = unfold after in q in
        let g = onto-go fs (n x) es u h in
        record { first = fs; middle = x; second = g.0; goes = r; goes_on = g.1; list = joined fs (n x) es u g.0 h g.1 }

pub join : (m n : Step) (s : State) (fs : List Entry) (x : State) (gs : List Entry) (u : State) → m s ≡ go fs x → n x ≡ go gs u
    → (m ⨾ n) s ≡ go (fs ++ gs) u
unfolding ◌⨾◌ after onto
join m n s fs x gs u p q = ap (λ o. after o n) p ∙ ap (onto fs) q

-- A test, a change and an entry in front of a step

pub passed : (t : State → Bool) (r : Refusal) (m : Step) (s : State) (es : List Entry) (u : State) → (check t r ⨾ m) s ≡ go es u
    → t s ≡ false
unfolding check ◌⨾◌
passed t r m s es u q = by (t s) q
  where
    by : (z : Bool) → after (elim z [ true ↦ refuse r s | false ↦ pass s ]) m ≡ go es u → z ≡ false
    by true g = unfold refuse after in let v : ◌≡◌ {A = ℕ} 0 1 = cc in absurd (omega arith)
    by false g = refl

pub pass-check : (t : State → Bool) (r : Refusal) (m : Step) (s : State) → t s ≡ false → (check t r ⨾ m) s ≡ m s
unfolding check ◌⨾◌
pass-check t r m s q = ap (λ b. after (elim b [ true ↦ refuse r s | false ↦ pass s ]) m) q ∙ by
  where
    by : after (pass s) m ≡ m s
    by = unfold pass after in onto-nil (m s)

pub do-change : (f : State → State) (m : Step) (s : State) → (change f ⨾ m) s ≡ m (f s)
unfolding change ◌⨾◌ after
do-change f m s = onto-nil (m (f s))

pub do-mark : (k n v : ℕ) (m : Step) (s : State) → (mark k n v ⨾ m) s ≡ onto (entry k s.place n v 0 ∷ []) (m (less s))
unfolding mark listed ◌⨾◌ after
do-mark k n v m s = refl

pub has_room : (m : Step) (s : State) (es : List Entry) (u : State) → (due ⨾ m) s ≡ go es u → ltb s.room words_per_entry ≡ false
unfolding due
has_room m s es u q = passed (λ s. ltb s.room words_per_entry) ListFull m s es u q

pub past-due : (m : Step) (s : State) (es : List Entry) (u : State) → (due ⨾ m) s ≡ go es u → m s ≡ go es u
unfolding due
past-due m s es u q = through (λ s. ltb s.room words_per_entry) ListFull m s es u q

pub pass-due : (m : Step) (s : State) → ltb s.room words_per_entry ≡ false → (due ⨾ m) s ≡ m s
unfolding due
pass-due m s q = pass-check (λ s. ltb s.room words_per_entry) ListFull m s q

pub marked : (k n v : ℕ) (m : Step) (s : State) (es : List Entry) (u : State) → (mark k n v ⨾ m) s ≡ go es u
    → (fs : List Entry) × (m (less s) ≡ go fs u) × (es ≡ entry k s.place n v 0 ∷ fs)
marked k n v m s es u q =
    let h : onto (entry k s.place n v 0 ∷ []) (m (less s)) ≡ go es u = sym (do-mark k n v m s) ∙ q in
    let g = onto-go (entry k s.place n v 0 ∷ []) (m (less s)) es u h in
    (g.0, g.1, joined (entry k s.place n v 0 ∷ []) (m (less s)) es u g.0 h g.1)

pub pass-mark : (k n v : ℕ) (m : Step) (s : State) (fs : List Entry) (u : State) → m (less s) ≡ go fs u
    → (mark k n v ⨾ m) s ≡ go (entry k s.place n v 0 ∷ fs) u
unfolding onto
pass-mark k n v m s fs u q = do-mark k n v m s ∙ ap (onto (entry k s.place n v 0 ∷ [])) q
