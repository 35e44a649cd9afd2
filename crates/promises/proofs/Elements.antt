-- What a reading's last step leaves, the reading leaves: an array's last step is to forget its last element.
use mathlib.Core.Path.{◌≡◌, refl, sym, ap, subst, ◌∙◌}
use Prim.Native.Nat.{ℕ, zero, suc, ◌+◌, ◌<◌}
use native.Mathlib.Omega.{arith}
use mathlib.Core.List.{List, ◌++◌}
use mathlib.Core.Bool.{Bool, true, false}
use lib.Dec.{ltb}
use Rattle.rules.specs.Limits.{words_per_entry}
use Rattle.rules.specs.declared.Entry.{Entry}
use Rattle.rules.specs.declared.Content.{Content}
use Rattle.rules.specs.declared.Content.TheVariants.{Unsigned}
use Rattle.rules.specs.declared.Stop.{Stop}
use Rattle.rules.specs.declared.Refusal.TheVariants.{ListFull}
use Rattle.rules.specs.Slots.{slot_at}
use Rattle.rules.specs.Step.{State, Out, stop, go, Step, ◌⨾◌, onto, after, pass, refuse, check, due, change, with_slots}
use Rattle.rules.specs.Class.{Class, static_array, dynamic_array, sets}
use Rattle.rules.specs.Field.{Env, forget, times, read, from_slot, as_length, as_number}
use Rattle.facts.proofs.Steps.{onto-nil, seq-pass}
use Rattle.facts.proofs.Forgets.{unset-among}
use Rattle.promises.specs.Elements.{NoneSet, Behind, Elements}

stop-go : (es fs : List Entry) (v : Stop) (s : State) → ◌≡◌ {A = Out} (stop es v) (go fs s) → ⊥
stop-go es fs v s h = let z : ◌≡◌ {A = ℕ} 0 1 = cc in omega arith

go-state : (es fs : List Entry) (s t : State) → ◌≡◌ {A = Out} (go es s) (go fs t) → s ≡ t
go-state es fs s t h = cc

module _ (P : State → Type 0) where
  behind-seq : (m n : Step) → Behind P n → Behind P (m ⨾ n)
  unfolding ◌⨾◌ after onto
  behind-seq m n k s es s' h = by (m s) h
    where
      by2 : (fs : List Entry) (s₁ : State) (o : Out) → n s₁ ≡ o → onto fs o ≡ go es s' → P s'
      by2 fs s₁ (stop gs v) e h = absurd (stop-go (fs ++ gs) es v s' h)
      by2 fs s₁ (go gs s₂) e h = subst P (go-state (fs ++ gs) es s₂ s' h) (k s₁ gs s₂ e)

      by : (o : Out) → after o n ≡ go es s' → P s'
      by (stop fs v) h = absurd (stop-go fs es v s' h)
      by (go fs s₁) h = by2 fs s₁ (n s₁) refl h

  behind-times : (m : Step) (n : ℕ) → Behind P m → Behind P (times (suc n) m)
  unfolding times
  behind-times m zero k = subst (Behind P) (sym (seq-pass m)) k
  behind-times m (suc n) k = behind-seq m (times (suc n) m) (behind-times m n k)

  behind-some : (m : Step) (n : ℕ) → 0 < n → Behind P m → Behind P (times n m)
  behind-some m zero h k = absurd (omega arith)
  behind-some m (suc n) h k = behind-times m n k

-- a step behind the test for room begins where the test did
due-step : (m : Step) (s : State) (es : List Entry) (s' : State) → (due ⨾ m) s ≡ go es s' → m s ≡ go es s'
unfolding due check ◌⨾◌
due-step m s es s' h = by (ltb s.room words_per_entry) h
  where
    by : (b : Bool) → after (elim b [ true ↦ refuse ListFull s | false ↦ pass s ]) m ≡ go es s' → m s ≡ go es s'
    by true h = unfold refuse after in absurd (stop-go _ es _ s' h)
    by false h = unfold pass after in sym (onto-nil (m s)) ∙ h

start : (c : Class) → Behind (NoneSet c) (forget c)
unfolding forget change with_slots
start c s es s' h i a = ap (λ (t : State). slot_at t.slots i) (sym (go-state _ es _ s' h)) ∙ unset-among s.slots (sets c) i a

end : (e : Env) (m : ℕ) (c : Class) → Behind (NoneSet c) (forget c ⨾ read e m c ⨾ forget c)
end e m c = behind-seq (NoneSet c) (forget c) (read e m c ⨾ forget c) (behind-seq (NoneSet c) (read e m c) (forget c) (start c))

elems : (e : Env) (m : ℕ) (c : Class) (n : ℕ) → 0 < n → Behind (NoneSet c) (times n (forget c ⨾ read e m c ⨾ forget c))
elems e m c n h = behind-some (NoneSet c) _ n h (end e m c)

static : (e : Env) (m n a : ℕ) (c : Class) → 0 < n → Behind (NoneSet c) (read e m (static_array n a c))
unfolding read
static e m n a c h = behind-seq P _ _ (behind-seq P _ _ (behind-seq P _ _ (elems e (m + 1) c n h)))
  where
    P : State → Type 0
    P = NoneSet c

of_length : (P : State → Type 0) (x : Content) (f : ℕ → Step) (n : ℕ) → x ≡ Unsigned n → Behind P (f n) → Behind P (as_length x f)
unfolding as_length as_number
of_length P x f n p k = subst (λ y. Behind P (as_length y f)) (sym p) (behind-seq P _ (f n) k)

dynamic : (e : Env) (m i a : ℕ) (c : Class) (n : ℕ) → 0 < n → (s : State) (es : List Entry) (s' : State)
    → slot_at s.slots i ≡ Unsigned n → read e m (dynamic_array i a c) s ≡ go es s' → NoneSet c s'
unfolding read from_slot
dynamic e m i a c n h s es s' p r =
    of_length (NoneSet c) (slot_at s.slots i) _ n p (behind-seq (NoneSet c) _ _ (behind-seq (NoneSet c) _ _ (elems e (m + 1) c n h)))
    s es s' (due-step _ s es s' r)

pub elements : Elements
elements = record { start = start; end = end; static = static; dynamic = dynamic }
