-- The place never goes back: each entry's place is at or behind the one before, and where a step goes on is at or behind the last. So is
-- where it stops, but for 22: it stops at the bound, which is at or behind the last where the entries lie within the packet.
use Rattle.std.specs.Prelude.{Option}
use mathlib.Core.Path.{◌≡◌, refl}
use mathlib.Core.Logic.{◌⊎◌, inl, inr}
use Prim.Native.Nat.{ℕ, ◌≤◌}
use native.Mathlib.Omega.{arith}
use native.Mathlib.Nat.{le_refl}
use mathlib.Core.List.{List, [], ◌∷◌, ◌++◌}
use mathlib.Core.Bool.{Bool, true, false}
use Rattle.rules.specs.declared.BitPlace.{BitPlace}
use Rattle.rules.specs.declared.Entry.{Entry}
use Rattle.rules.specs.declared.Refusal.{Refusal}
use Rattle.rules.specs.declared.Refusal.TheVariants.{PastBound, ListFull}
use Rattle.rules.specs.declared.Stop.{Stop}
use Rattle.rules.specs.Slots.{slot_at}
use Rattle.rules.specs.Step.{State, Out, stop, go, Step, onto, after, ◌⨾◌, refuse, refuse_at, check, check_at, due, listed, change, pass}
use Rattle.rules.specs.Step.{with_slots, with_order, with_clock, with_said}
use Rattle.rules.specs.Class.{Class}
use Rattle.rules.specs.Field.{Env, aligned, field, store, say, from_slot}
use Rattle.rules.specs.Packet.{mark, read_root}
use Rattle.laws.specs.All.{All}
use Rattle.laws.proofs.Places.{align_from-le}
use Rattle.laws.proofs.Between.{In, At, NoMore}
use Rattle.laws.proofs.Triple.{Ok}
use Rattle.promises.specs.Laws.{Rising}
use Rattle.laws.proofs.Law.{Any, AnyRecord}
use Rattle.laws.proofs.Simple.{Simple, view, simple-root}

abbrev pub RiseOut : ℕ → Out → Type 0
RiseOut p (stop es v) = Rising es p v.place.0
RiseOut p (go es s) = Rising es p s.place.0

pub rising_le : (es : List Entry) (p q : ℕ) → Rising es p q → p ≤ q
rising_le [] p q h = h
rising_le (e ∷ es) p q h = let l : p ≤ e.place.0 = h.0 in omega (arith, rising_le es e.place.0 q h.1)

lower : (es : List Entry) (p q r : ℕ) → p ≤ q → Rising es q r → Rising es p r
lower [] p q r h k = omega arith
lower (e ∷ es) p q r h k = let l : q ≤ e.place.0 = k.0 in (omega arith, k.1)

higher : (es : List Entry) (p q r : ℕ) → Rising es p q → q ≤ r → Rising es p r
higher [] p q r h k = omega arith
higher (e ∷ es) p q r h k = (h.0, higher es e.place.0 q r h.1 k)

rise-append : (es fs : List Entry) (p q r : ℕ) → Rising es p q → Rising fs q r → Rising (es ++ fs) p r
rise-append [] fs p q r h k = lower fs p q r h k
rise-append (e ∷ es) fs p q r h k = (h.0, rise-append es fs e.place.0 q r h.1 k)

rise-onto : (p q : ℕ) (es : List Entry) (o : Out) → Rising es p q → RiseOut q o → RiseOut p (onto es o)
unfolding onto
rise-onto p q es (stop fs v) h k = rise-append es fs p q v.place.0 h k
rise-onto p q es (go fs s) h k = rise-append es fs p q s.place.0 h k

-- what holds of the state where an outcome goes on
abbrev pub Onward : (State → Type 0) → Out → Type 0
Onward A (stop es v) = Unit {0}
Onward A (go es s) = A s

pub rise-after : (A : State → Type 0) (p : ℕ) (o : Out) (n : Step) → RiseOut p o → Onward A o
    → ((s : State) → A s → RiseOut s.place.0 (n s)) → RiseOut p (after o n)
unfolding after
rise-after A p (stop es v) n h a k = h
rise-after A p (go es s) n h a k = rise-onto p s.place.0 es (n s) h (k s a)

-- Steps, from any place: the entries rise to a last place, and it stops at or behind that one, or at the bound

pub record Stopped (e : Env) (p : ℕ) (es : List Entry) (v : Stop) : Type 0 where
  pub last : ℕ
  pub rises : Rising es p last
  pub stops : (last ≤ v.place.0) ⊎ (v.place ≡ e.bound)

abbrev pub RiseIn : Env → ℕ → Out → Type 0
RiseIn e p (stop es v) = Stopped e p es v
RiseIn e p (go es s) = Rising es p s.place.0

pub record Rise (e : Env) (m : Step) : Type 0 where
  pub at : (s : State) → RiseIn e s.place.0 (m s)

module _ (e : Env) where
  in-onto : (p q : ℕ) (es : List Entry) (o : Out) → Rising es p q → RiseIn e q o → RiseIn e p (onto es o)
  unfolding onto
  in-onto p q es (stop fs v) h k = record { last = k.last; rises = rise-append es fs p q k.last h k.rises; stops = k.stops }
  in-onto p q es (go fs s) h k = rise-append es fs p q s.place.0 h k

  in_after : (p : ℕ) (o : Out) (n : Step) → RiseIn e p o → Rise e n → RiseIn e p (after o n)
  unfolding after
  in_after p (stop es v) n h k = h
  in_after p (go es s) n h k = in-onto p s.place.0 es (n s) h (k.at s)

  in-if : (p : ℕ) (b : Bool) (x y : Out) → RiseIn e p x → RiseIn e p y → RiseIn e p (elim b [ true ↦ x | false ↦ y ])
  in-if p true x y h k = h
  in-if p false x y h k = k

  in-listed : (x : Entry) (p : BitPlace) (s : State) → s.place.0 ≤ x.place.0 → x.place.0 ≤ p.0
      → RiseIn e s.place.0 (listed x p s)
  unfolding listed
  in-listed x p s h k = (h, k)

  -- with no entry
  stopped : (s : State) (v : Stop) → (s.place.0 ≤ v.place.0) ⊎ (v.place ≡ e.bound) → Stopped e s.place.0 [] v
  stopped s v h = record { last = s.place.0; rises = le_refl s.place.0; stops = h }

module _ {e : Env} where
  infixr 20 ◌⨾ᵘ◌
  pub ◌⨾ᵘ◌ : {m n : Step} → Rise e m → Rise e n → Rise e (m ⨾ n)
  unfolding ◌⨾◌
  ◌⨾ᵘ◌ {m} {n} h k = record { at = λ s. in_after e s.place.0 (m s) n (h.at s) k }

  rise-pass : Rise e pass
  unfolding pass
  rise-pass = record { at = λ s. le_refl s.place.0 }

  pub rise-refuse : (r : Refusal) → Rise e (refuse r)
  unfolding refuse
  rise-refuse r = record { at = λ s. stopped e s _ (inl (le_refl s.place.0)) }

  rise-past : Rise e (refuse_at PastBound e.bound)
  unfolding refuse_at
  rise-past = record { at = λ s. stopped e s _ (inr refl) }

  pub rise-check : (t : State → Bool) (r : Refusal) → Rise e (check t r)
  unfolding check
  rise-check t r = record { at = λ s. in-if e s.place.0 (t s) _ _ ((rise-refuse r).at s) (rise-pass.at s) }

  rise-check_past : (t : State → Bool) → Rise e (check_at t PastBound e.bound)
  unfolding check_at
  rise-check_past t = record { at = λ s. in-if e s.place.0 (t s) _ _ (rise-past.at s) (rise-pass.at s) }

  pub rise-due : Rise e due
  unfolding due
  rise-due = rise-check _ ListFull

  pub rise-change : (f : State → State) → ((s : State) → (f s).place ≡ s.place) → Rise e (change f)
  unfolding change
  rise-change f h = record { at = λ s. rw (h s) (le_refl s.place.0) }

  pub rise-mark : (k n v : ℕ) → Rise e (mark k n v)
  unfolding mark
  rise-mark k n v = record { at = λ s. in-listed e _ _ s (le_refl s.place.0) (le_refl s.place.0) }

rise-field : (e : Env) (m k a n v : ℕ) → 1 ≤ a → Rise e (field e m k a n v)
unfolding field aligned
rise-field e m k a n v h = record { at = λ s. in-listed e _ _ s (align_from-le e.start.0 a s.place.0 h) (omega arith) }

rise-simple : (e : Env) → Simple e AnyRecord Any (Rise e) (Rise e)
unfolding refuse_at aligned store say from_slot with_slots with_order with_clock with_said
rise-simple e = record {
  seq = λ a b. a ⨾ᵘ b;
  seqʳ = λ a b. a ⨾ᵘ b;
  narrow = λ a. a;
  dueʳ = λ a. rise-due ⨾ᵘ a;
  passes = rise-pass;
  refuses = λ r small. rise-refuse r;
  checks = λ t r small. rise-check _ r;
  checksʳ = λ t r small a. rise-check _ r ⨾ᵘ a;
  refuses_past = rise-past;
  checks_pastʳ = λ t a. rise-check_past _ ⨾ᵘ a;
  refuses_large = record { at = λ s. stopped e s _ (inl (omega (arith, align_from-le e.start.0 8 s.place.0 (omega arith)))) };
  looks = λ f a. record { at = λ s. (a (view s)).at s };
  looksʳ = λ f a. record { at = λ s. (a (view s)).at s };
  slots = λ i f a. record { at = λ s. (a (slot_at s.slots i)).at s };
  fields = λ m k a n v h z l. rise-field e m k a n v l;
  clocked = λ l c. record { at = λ s. in-listed e _ _ s (le_refl s.place.0) (le_refl s.place.0) };
  stores = λ i x w. rise-change _ (λ s. refl);
  orders = λ o. rise-change _ (λ s. refl);
  clocks = λ c. rise-change _ (λ s. refl);
  says = λ f. rise-change _ (λ s. refl);
}

pub rise-root : (e : Env) (m : ℕ) (c : Option Class) → Rise e (read_root e m c)
rise-root e m c = simple-root e (rise-simple e) m c

-- Within the packet, the bound is at or behind the last

module _ (e : Env) where
  to-bound : (es : List Entry) (p q : ℕ) → p ≤ e.bound.0 → All (In e) es → Rising es p q → Rising es p e.bound.0
  to-bound [] p q l a h = l
  to-bound (x ∷ es) p q l a h = (h.0, to-bound es x.place.0 q a.0.1 a.1 h.1)

  pub rise-within : (B : State → Type 0) (p : ℕ) (o : Out) → p ≤ e.bound.0 → Ok (In e) (At e) (NoMore e) B o → RiseIn e p o → RiseOut p o
  rise-within B p (stop es v) l a h = by h.stops
    where
      by : (h.last ≤ v.place.0) ⊎ (v.place ≡ e.bound) → Rising es p v.place.0
      by (inl k) = higher es p h.last v.place.0 h.rises k
      by (inr k) = rw k (to-bound es p h.last l a.0 h.rises)
  rise-within B p (go es s) l a h = h
