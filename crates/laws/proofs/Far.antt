-- The same bytes at another place: steps that do the same there whatever the bytes, and what stands beside what in front of a step: a
-- test, the room of an entry, the bound, bits that must fit before it. What is meant by it stands in specs/Far.
use mathlib.Core.Path.{◌≡◌, refl, sym, ap, ◌∙◌, subst}
use mathlib.Core.Logic.{inl, inr, ⊎_elim}
use Prim.Native.Nat.{ℕ, ◌+◌, ◌-◌, ◌≤◌, ◌<◌}
use native.Mathlib.Omega.{arith}
use mathlib.Core.List.{List, [], ◌∷◌, ◌++◌}
use mathlib.Core.Bool.{Bool, true, false}
use lib.Dec.{ltb}
use borrow.Author.Tests.{ltb-true, ltb-false}
use Rattle.rules.specs.declared.Entry.{Entry}
use Rattle.rules.specs.declared.Refusal.{Refusal}
use Rattle.rules.specs.declared.Refusal.TheVariants.{PastBound, LebTooLarge, ListFull}
use Rattle.rules.specs.Place.{bit_place, round_up, align_from}
use Rattle.rules.specs.Entry.{entry}
use Rattle.rules.specs.Verdict.{stop_at}
use Rattle.rules.specs.Limits.{words_per_entry}
use Rattle.rules.specs.Step.{State, Out, stop, go, Step, onto, after, ◌⨾◌, refuse, refuse_at, check, check_at, due, listed, pass}
use Rattle.rules.specs.Field.{Env, aligned, fit, field}
use Rattle.facts.proofs.Steps.{onto-nil}
use Rattle.facts.proofs.Numbers.{lt-or-ge}
use Rattle.laws.proofs.Places.{start-le, tenth_byte}
use Rattle.laws.specs.Far.{away, far_entry, far_all, far_stop, far, far_out, Rel}

module _ (e e' : Env) where
  pub far-append : (es fs : List Entry) → far_all e e' (es ++ fs) ≡ far_all e e' es ++ far_all e e' fs
  unfolding far_all
  far-append [] fs = refl
  far-append (x ∷ es) fs = ap (λ l. far_entry e e' x ∷ l) (far-append es fs)

  pub far-onto : (l : ℕ → ℕ) (es : List Entry) (o : Out) → onto (far_all e e' es) (far_out e e' l o) ≡ far_out e e' l (onto es o)
  unfolding onto far_out
  far-onto l es (stop fs v) = ap (λ x. stop x (far_stop e e' v)) (sym (far-append es fs))
  far-onto l es (go fs s) = ap (λ x. go x (far e e' l s)) (sym (far-append es fs))

  -- Steps that do the same there, whatever the bytes

  pub record Exact (m m' : Step) : Type 0 where
    pub at : (l : ℕ → ℕ) (s : State) → m' (far e e' l s) ≡ far_out e e' l (m s)

  pub exact-seq : {m n m' n' : Step} → Exact m m' → Exact n n' → Exact (m ⨾ n) (m' ⨾ n')
  unfolding ◌⨾◌ after far_out
  exact-seq {m} {n} {m'} {n'} h k = record { at = λ l s. ap (λ x. after x n') (h.at l s) ∙ by l (m s) }
    where
      by : (l : ℕ → ℕ) (o : Out) → after (far_out e e' l o) n' ≡ far_out e e' l (after o n)
      by l (stop es v) = refl
      by l (go es t) = ap (onto (far_all e e' es)) (k.at l t) ∙ far-onto l es (n t)

  -- where a field stands
  pub aligned-far : (a : ℕ) (l : ℕ → ℕ) (s : State) → (aligned e' a (far e e' l s)).0 ≡ away e e' (aligned e a s).0
  unfolding aligned align_from far
  aligned-far a l s =
      let p : away e e' s.place.0 - e'.start.0 ≡ s.place.0 - e.start.0 = omega arith in
      let q : e.start.0 + round_up a (s.place.0 - e.start.0) - e.start.0 ≡ round_up a (s.place.0 - e.start.0) = omega arith in
      ap (λ x. e'.start.0 + round_up a x) p ∙ ap (λ x. e'.start.0 + x) (sym q)

  pub start-aligned : (a : ℕ) (s : State) → e.start.0 ≤ (aligned e a s).0
  unfolding aligned
  start-aligned a s = start-le e.start.0 a s.place.0

  pub exact-field : (m k a n v : ℕ) → Exact (field e m k a n v) (field e' m k a n v)
  unfolding field listed far_out far_all far_entry aligned far
  exact-field m k a n v = record {
    at = λ l s.
        let x : ℕ = align_from e.start.0 a s.place.0 in
        let x' : ℕ = align_from e'.start.0 a (away e e' s.place.0) in
        let out : ℕ → ℕ → Out =
        λ y z. go (entry k (bit_place y) n v m ∷ []) (record {
          place = bit_place z;
          room = s.room - words_per_entry;
          slots = s.slots;
          order = s.order;
          clock = s.clock;
          last = l s.last;
          said = s.said;
        }) in
        let p : x' ≡ away e e' x = aligned-far a l s in
        let g : e.start.0 ≤ x = start-le e.start.0 a s.place.0 in
        let q : away e e' x + n ≡ away e e' (x + n) = omega arith in
        ap (λ y. out y (y + n)) p ∙ ap (λ z. out (away e e' x) z) q;
  }

  -- a step that refuses, and one that does not look

  pub exact-refuse : (r : Refusal) → Exact (refuse r) (refuse r)
  unfolding refuse far_out far_all far
  exact-refuse r = record { at = λ l s. refl }

  pub exact-large : Exact (λ s. refuse_at LebTooLarge (tenth_byte e s) s) (λ s. refuse_at LebTooLarge (tenth_byte e' s) s)
  unfolding refuse_at far_out far_all
  exact-large = record {
    at = λ l s.
        let p : (tenth_byte e' (far e e' l s)).0 ≡ away e e' (tenth_byte e s).0 = omega (arith, aligned-far 8 l s, start-aligned 8 s) in
        ap (λ x. stop [] (stop_at LebTooLarge (bit_place x))) p;
  }

  pub exact-pass : Exact pass pass
  unfolding pass far_out far_all
  exact-pass = record { at = λ l s. refl }

  -- in front of a step: a test that comes out the same
  rel-if : (l : ℕ → ℕ) (r : Refusal) (m m' : Step) (s : State) (b : Bool) → Rel e e' l (m s) (m' (far e e' l s))
      → Rel e e' l (after (elim b [ true ↦ refuse r s | false ↦ pass s ]) m)
      (after (elim b [ true ↦ refuse r (far e e' l s) | false ↦ pass (far e e' l s) ]) m')
  unfolding refuse pass after
  rel-if l r m m' s true h = unfold far_out far_all far in inl refl
  rel-if l r m m' s false h = rw (onto-nil (m s), onto-nil (m' (far e e' l s))) h

  pub rel-check : (l : ℕ → ℕ) (t t' : State → Bool) (r : Refusal) (m m' : Step) (s : State) → t' (far e e' l s) ≡ t s
      → Rel e e' l (m s) (m' (far e e' l s))
      → Rel e e' l ((check t r ⨾ m) s) ((check t' r ⨾ m') (far e e' l s))
  unfolding check ◌⨾◌
  rel-check l t t' r m m' s p h =
      subst (λ b. Rel e e' l (after (elim (t s) [ true ↦ refuse r s | false ↦ pass s ]) m)
      (after (elim b [ true ↦ refuse r (far e e' l s) | false ↦ pass (far e e' l s) ]) m'))
      (sym p) (rel-if l r m m' s (t s) h)

  pub rel-due : (l : ℕ → ℕ) (m m' : Step) (s : State) → Rel e e' l (m s) (m' (far e e' l s))
      → Rel e e' l ((due ⨾ m) s) ((due ⨾ m') (far e e' l s))
  unfolding due
  rel-due l m m' s h = rel-check l _ _ ListFull m m' s (unfold far in refl) h

  module _ (inside : e.start.0 ≤ e.bound.0) (inside' : e'.start.0 ≤ e'.bound.0)
      (narrower : e.bound.0 - e.start.0 ≤ e'.bound.0 - e'.start.0) where
    -- refused at the bound: at the same place there, or short of a bound that is further
    pub rel-past : (l : ℕ → ℕ) (s : State) → Rel e e' l (refuse_at PastBound e.bound s) (refuse_at PastBound e'.bound (far e e' l s))
    unfolding refuse_at onto far_out far_all
    rel-past l s = ⊎_elim
        (λ (w : e.bound.0 - e.start.0 < e'.bound.0 - e'.start.0). inr (record {
          es = [];
          v = stop_at PastBound e.bound;
          stops = refl;
          short = inl refl;
          rest = stop [] (stop_at PastBound e'.bound);
          goes = refl;
          wider = w;
          beyond = λ fs t q. let z : ◌≡◌ {A = ℕ} 0 1 = cc in absurd (omega arith);
        }))
        (λ (w : e'.bound.0 - e'.start.0 ≤ e.bound.0 - e.start.0).
        let p : e'.bound.0 ≡ away e e' e.bound.0 = omega arith in
        inl (ap (λ x. stop [] (stop_at PastBound (bit_place x))) p))
        (lt-or-ge (e.bound.0 - e.start.0) (e'.bound.0 - e'.start.0))

    -- in front of a step that takes n bits from where it stands: it ends behind them where it goes through
    pub rel-fit : (l : ℕ → ℕ) (a n : ℕ) (m m' : Step) (s : State)
        → ((aligned e a s).0 + n ≤ e.bound.0 → Rel e e' l (m s) (m' (far e e' l s)))
        → ((aligned e' a (far e e' l s)).0 + n ≤ e'.bound.0 → (fs : List Entry) (t : State) → m' (far e e' l s) ≡ go fs t
        → (aligned e' a (far e e' l s)).0 + n ≤ t.place.0)
        → Rel e e' l ((fit e a n ⨾ m) s) ((fit e' a n ⨾ m') (far e e' l s))
    unfolding fit check_at ◌⨾◌
    rel-fit l a n m m' s h g =
        by (ltb e.bound.0 ((aligned e a s).0 + n)) refl (ltb e'.bound.0 ((aligned e' a (far e e' l s)).0 + n)) refl
      where
        same : (aligned e' a (far e e' l s)).0 ≡ away e e' (aligned e a s).0
        same = aligned-far a l s

        from : e.start.0 ≤ (aligned e a s).0
        from = start-aligned a s

        by : (b : Bool) → ltb e.bound.0 ((aligned e a s).0 + n) ≡ b → (b' : Bool)
            → ltb e'.bound.0 ((aligned e' a (far e e' l s)).0 + n) ≡ b'
            → Rel e e' l (after (elim b [ true ↦ refuse_at PastBound e.bound s | false ↦ pass s ]) m)
            (after (elim b' [ true ↦ refuse_at PastBound e'.bound (far e e' l s) | false ↦ pass (far e e' l s) ]) m')
        by true p true p' = unfold refuse_at after in rel-past l s
        by false p false p' = unfold pass after in rw (onto-nil (m s), onto-nil (m' (far e e' l s))) (h (ltb-false _ _ p))
        by false p true p' =
            let u : (aligned e a s).0 + n ≤ e.bound.0 = ltb-false _ _ p in
            let u' : e'.bound.0 < (aligned e' a (far e e' l s)).0 + n = ltb-true _ _ p' in
            absurd (omega (arith, same, from, u, u'))
        by true p false p' =
            let u : e.bound.0 < (aligned e a s).0 + n = ltb-true _ _ p in
            let u' : (aligned e' a (far e e' l s)).0 + n ≤ e'.bound.0 = ltb-false _ _ p' in
            inr (record {
              es = [];
              v = stop_at PastBound e.bound;
              stops = unfold refuse_at after in refl;
              short = inl refl;
              rest = m' (far e e' l s);
              goes = unfold pass after far_all in refl;
              wider = omega (arith, same, from, u, u');
              beyond = λ fs t q.
                  let q' : m' (far e e' l s) ≡ go fs t = unfold pass after in (sym (onto-nil (m' (far e e' l s))) ∙ q) in
                  let z : (aligned e' a (far e e' l s)).0 + n ≤ t.place.0 = g u' fs t q' in
                  omega (arith, same, from, u, z);
            })
