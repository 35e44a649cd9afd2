-- Entries that are all of a kind, and steps that list only such. The entries of fields have kinds 16 to 32, and those of clocks kind 6.
use Rattle.std.specs.Prelude.{Option}
use mathlib.Core.Path.{◌≡◌, refl}
use mathlib.Core.Logic.{◌⊎◌, inl, inr}
use Prim.Native.Nat.{ℕ}
use mathlib.Core.List.{List, []}
use mathlib.Core.Bool.{Bool, true, false}
use Rattle.rules.specs.declared.BitPlace.{BitPlace}
use Rattle.rules.specs.declared.Entry.{Entry}
use Rattle.rules.specs.declared.Refusal.{Refusal}
use Rattle.rules.specs.declared.Refusal.TheVariants.{PastBound, LebTooLarge, ListFull}
use Rattle.rules.specs.declared.Stop.{Stop}
use Rattle.rules.specs.Entry.{entry, clock_advanced}
use Rattle.rules.specs.Slots.{slot_at}
use Rattle.rules.specs.Step.{State, Out, stop, go, Step, onto, after, ◌⨾◌, refuse, refuse_at, check, check_at, due, listed, change, pass}
use Rattle.rules.specs.Class.{Class}
use Rattle.rules.specs.Field.{Env, aligned, field, store, say, from_slot}
use Rattle.rules.specs.Packet.{read_root}
use Rattle.facts.proofs.Steps.{list_of}
use Rattle.laws.specs.All.{All}
use Rattle.laws.proofs.All.{all_append}
use Rattle.laws.proofs.Law.{FieldKind, Any, fit_root, AnyRecord, any-root, NumberedRoot}
use Rattle.laws.proofs.Places.{tenth_byte}
use Rattle.laws.proofs.Simple.{Simple, view, simple-numbered}

module _ (P : Entry → Type 0) where
  pub record Each (m : Step) : Type 0 where
    pub at : (s : State) → All P (list_of (m s))

  pub all-onto : (es : List Entry) (o : Out) → All P es → All P (list_of o) → All P (list_of (onto es o))
  unfolding onto list_of
  all-onto es (stop fs v) h k = all_append P es fs h k
  all-onto es (go fs s) h k = all_append P es fs h k

  pub all_after : (o : Out) (n : Step) → All P (list_of o) → ((s : State) → All P (list_of (n s))) → All P (list_of (after o n))
  unfolding after list_of
  all_after (stop es v) n h k = h
  all_after (go es s) n h k = all-onto es (n s) h (k s)

  infixr 20 ◌⨾ᵉ◌
  pub ◌⨾ᵉ◌ : {m n : Step} → Each m → Each n → Each (m ⨾ n)
  unfolding ◌⨾◌
  ◌⨾ᵉ◌ {m} {n} h k = record { at = λ s. all_after (m s) n (h.at s) k.at }

  pub each-λ : {f : State → Step} → ((s : State) → Each (f s)) → Each (λ s. f s s)
  each-λ h = record { at = λ s. (h s).at s }

  pub each-pass : Each pass
  unfolding pass list_of
  each-pass = record { at = λ s. tt }

  pub each-refuse : (r : Refusal) → Each (refuse r)
  unfolding refuse list_of
  each-refuse r = record { at = λ s. tt }

  each-refuse_at : (r : Refusal) (p : BitPlace) → Each (refuse_at r p)
  unfolding refuse_at list_of
  each-refuse_at r p = record { at = λ s. tt }

  each-test : (v : Stop) (s : State) (b : Bool) → All P (list_of (elim b [ true ↦ stop [] v | false ↦ pass s ]))
  unfolding list_of
  each-test v s true = tt
  each-test v s false = each-pass.at s

  pub each-check : (t : State → Bool) (r : Refusal) → Each (check t r)
  unfolding check refuse
  each-check t r = record { at = λ s. each-test _ s (t s) }

  each-check_at : (t : State → Bool) (r : Refusal) (p : BitPlace) → Each (check_at t r p)
  unfolding check_at refuse_at
  each-check_at t r p = record { at = λ s. each-test _ s (t s) }

  pub each-due : Each due
  unfolding due
  each-due = each-check _ ListFull

  pub each-change : (f : State → State) → Each (change f)
  unfolding change list_of
  each-change f = record { at = λ s. tt }

  pub each-listed : (e : Entry) (p : BitPlace) (s : State) → P e → All P (list_of (listed e p s))
  unfolding listed list_of
  each-listed e p s h = (h, tt)

-- Fields: P holds of every entry, where it holds of a field's own, if M does of the record that it names, and of a clock's

module _ (P : Entry → Type 0) (M : ℕ → ℕ → Type 0) (e : Env)
    (fields : (p : BitPlace) (m k n v : ℕ) → FieldKind k → M m k → P (entry k p n v m))
    (clocks : (p : BitPlace) (l c : ℕ) → P (entry clock_advanced p l c 0)) where
  each-simple : Simple e M Any (Each P) (Each P)
  unfolding field store say from_slot
  each-simple = record {
    seq = λ a b. ◌⨾ᵉ◌ P a b;
    seqʳ = λ a b. ◌⨾ᵉ◌ P a b;
    narrow = λ a. a;
    dueʳ = λ a. ◌⨾ᵉ◌ P (each-due P) a;
    passes = each-pass P;
    refuses = λ r small. each-refuse P r;
    checks = λ t r small. each-check P _ r;
    checksʳ = λ t r small a. ◌⨾ᵉ◌ P (each-check P _ r) a;
    refuses_past = each-refuse_at P PastBound e.bound;
    checks_pastʳ = λ t a. ◌⨾ᵉ◌ P (each-check_at P _ PastBound e.bound) a;
    refuses_large = each-λ P (λ s. each-refuse_at P LebTooLarge (tenth_byte e s));
    looks = λ f a. each-λ P {f = λ s. f (view s)} (λ s. a (view s));
    looksʳ = λ f a. each-λ P {f = λ s. f (view s)} (λ s. a (view s));
    slots = λ i f a. record { at = λ s. (a (slot_at s.slots i)).at s };
    fields = λ m k a n v h z l. record {
      at = λ s. each-listed P (entry k (aligned e a s) n v m) _ s (fields (aligned e a s) m k n v h z);
    };
    clocked = λ l c. record { at = λ s. each-listed P (entry clock_advanced s.place l c 0) s.place s (clocks s.place l c) };
    stores = λ i x w. each-change P _;
    orders = λ o. each-change P _;
    clocks = λ c. each-change P _;
    says = λ f. each-change P _;
  }

  pub each-root : (m : ℕ) (c : Option Class) → NumberedRoot M m c → Each P (read_root e m c)
  each-root m c z = simple-numbered e each-simple m c (fit_root Any Any Any (λ n. tt) (λ n. tt) (λ n. tt) c) z

-- The kinds of a field's entries

abbrev pub FieldEntry : Entry → Type 0
FieldEntry e = (e.kind ≡ clock_advanced) ⊎ FieldKind e.kind

-- what a root lists is of fields
pub fields-root : (e : Env) (m : ℕ) (c : Option Class) → Each FieldEntry (read_root e m c)
fields-root e m c = each-root FieldEntry AnyRecord e (λ p m k n v h z. inr h) (λ p l c. inl refl) m c (any-root m c)
