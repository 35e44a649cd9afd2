-- What the walk of homes knows of the classes that it went over: of each setting, that its slot was set elsewhere, or here and by this home.
-- So a class whose slot is none of elsewhere has the home of all that set its slot before. That places differ is asked for nowhere.
use mathlib.Core.Path.{◌≡◌, refl, sym, ap, ◌∙◌, subst}
use mathlib.Core.Logic.{◌⊎◌, inl, inr}
use Prim.Native.Nat.{ℕ}
use mathlib.Core.List.{List, [], ◌∷◌, ◌++◌, append_assoc}
use mathlib.Core.Bool.{Bool, true, false, ◌||◌}
use lib.Dec.{eqb}
use borrow.Author.Tests.{eq-eqb}
use Rattle.facts.proofs.Truth.{clash}
use Rattle.rules.specs.Limits.{no_slot}
use Rattle.rules.specs.Faults.{among}
use Rattle.rules.specs.Class.{setting}
use Rattle.rules.specs.Homes.{Homes, homes, no_homes, both, across}
use Rattle.promises.specs.SlotHomes.{Home, Setting, homed, In, OneHome}

-- Of two lists one behind the other

pub in_left : {A : Type 0} (a : A) (k l : List A) → In a k → In a (k ++ l)
unfolding In
in_left a [] l i = absurd i
in_left a (b ∷ k) l (inl e) = inl e
in_left a (b ∷ k) l (inr i) = inr (in_left a k l i)

pub in_right : {A : Type 0} (a : A) (k l : List A) → In a l → In a (k ++ l)
unfolding In
in_right a [] l i = i
in_right a (b ∷ k) l i = inr (in_right a k l i)

pub in_either : {A : Type 0} (a : A) (k l : List A) → In a (k ++ l) → In a k ⊎ In a l
unfolding In
in_either a [] l i = inr i
in_either a (b ∷ k) l (inl e) = inl (inl e)
in_either {A} a (b ∷ k) l (inr i) = by (in_either a k l i)
  where
    by : In a k ⊎ In a l → In a (b ∷ k) ⊎ In a l
    by (inl j) = inl (inr j)
    by (inr j) = inr j

-- all of k are in l
abbrev pub Within : List Setting → List Setting → Type 0
Within k l = (a : Setting) → In a k → In a l

pub within-one : (k l : List Setting) → Within k l → OneHome l → OneHome k
within-one k l w h a b i j = h a b (w a i) (w b j)

pub within_both : (k l m : List Setting) → Within k m → Within l m → Within (k ++ l) m
within_both k l m f g a i = by (in_either a k l i)
  where
    by : In a k ⊎ In a l → In a m
    by (inl j) = f a j
    by (inr j) = g a j

pub within_more : (k k' l l' : List Setting) → Within k k' → Within l l' → Within (k ++ l) (k' ++ l')
within_more k k' l l' f g =
    within_both k l (k' ++ l') (λ a i. in_left a k' l' (f a i)) (λ a i. in_right a k' l' (g a i))

-- Slots

pub or_right : (a : Bool) → (a || true) ≡ true
or_right true = refl
or_right false = refl

pub among-left : (i : ℕ) (xs ys : List ℕ) → among i xs ≡ true → among i (xs ++ ys) ≡ true
unfolding among
among-left i [] ys h = absurd (clash h)
among-left i (x ∷ xs) ys h = by (eqb i x) h (λ k. among-left i xs ys k)
  where
    by : (b : Bool) → (b || among i xs) ≡ true → (among i xs ≡ true → among i (xs ++ ys) ≡ true) → (b || among i (xs ++ ys)) ≡ true
    by true k rec = refl
    by false k rec = rec k

pub among-right : (i : ℕ) (xs ys : List ℕ) → among i ys ≡ true → among i (xs ++ ys) ≡ true
unfolding among
among-right i [] ys h = h
among-right i (x ∷ xs) ys h = ap (λ b. eqb i x || b) (among-right i xs ys h) ∙ or_right (eqb i x)

-- a setting, by the slots that were set, here being the home o
abbrev Known : Homes → Home → Setting → Type 0
Known h o a = (among a.slot h.elsewhere ≡ true) ⊎ ((a.home ≡ o) × (among a.slot h.here ≡ true))

abbrev pub Covers : Homes → Home → List Setting → Type 0
Covers h o l = (a : Setting) → In a l → Known h o a

pub within-covers : (h : Homes) (o : Home) (k l : List Setting) → Within k l → Covers h o l → Covers h o k
within-covers h o k l w c a i = c a (w a i)

pub covers-nothing : (h : Homes) (o : Home) → Covers h o []
unfolding In
covers-nothing h o a i = absurd i

module _ (g h : Homes) (o : Home) (a : Setting) where
  known-left : Known g o a → Known (both g h) o a
  unfolding both
  known-left (inl e) = inl (among-left a.slot g.elsewhere h.elsewhere e)
  known-left (inr e) = inr (e.0, among-left a.slot g.here h.here e.1)

  known-right : Known h o a → Known (both g h) o a
  unfolding both
  known-right (inl e) = inl (among-right a.slot g.elsewhere h.elsewhere e)
  known-right (inr e) = inr (e.0, among-right a.slot g.here h.here e.1)

covers-both : (h : Homes) (o : Home) (k l : List Setting) → Covers h o k → Covers h o l → Covers h o (k ++ l)
covers-both h o k l c d a i = by (in_either a k l i)
  where
    by : In a k ⊎ In a l → Known h o a
    by (inl j) = c a j
    by (inr j) = d a j

-- across an element's border all is elsewhere, whatever the home
covers-across : (h : Homes) (o o' : Home) (l : List Setting) → Covers h o l → Covers (across h) o' l
unfolding across
covers-across h o o' l c a i = by (c a i)
  where
    by : Known h o a → Known (across h) o' a
    by (inl e) = inl (among-right a.slot h.here h.elsewhere e)
    by (inr e) = inl (among-left a.slot h.here h.elsewhere e.1)

-- What a walk tells by g that began with h, of the settings K that it went over under the home o: g covers them; and where h covers what
-- was set before, with one home a slot, so it is of both together
pub record Tells (h g : Homes) (o : Home) (K : List Setting) : Type 0 where
  pub own : Covers g o K
  pub one : (l : List Setting) → Covers h o l → OneHome l → OneHome (l ++ K)

pub tells_none : (h : Homes) (o : Home) → Tells h no_homes o []
unfolding In
tells_none h o = record { own = covers-nothing no_homes o; one = λ l c d. within-one (l ++ []) l (λ a i. by a l (in_either a l [] i)) d }
  where
    by : (a : Setting) (l : List Setting) → In a l ⊎ In a [] → In a l
    by a l (inl j) = j
    by a l (inr j) = absurd j

pub tells-onward : (h a b : Homes) (o : Home) (K L : List Setting) → Tells h a o K → Tells (both a h) b o L → Tells h (both a b) o (K ++ L)
tells-onward h a b o K L s t = record {
  own = covers-both (both a b) o K L (λ c i. known-left a b o c (s.own c i)) (λ c i. known-right a b o c (t.own c i));
  one = λ l c d.
      subst OneHome (append_assoc l K L) (t.one (l ++ K)
      (covers-both (both a h) o l K (λ e i. known-right a h o e (c e i)) (λ e i. known-left a h o e (s.own e i))) (s.one l c d));
}

-- into an element, whose home is o', and out of it
pub tells-out : (h g : Homes) (o o' : Home) (K : List Setting) → Tells (across h) g o' K → Tells h (across g) o K
tells-out h g o o' K t = record {
  own = covers-across g o' o K t.own;
  one = λ l c d. t.one l (covers-across h o o' l c) d;
}

-- a class that sets a slot which is none of elsewhere: all that set it before have this home
module _ (h : Homes) (i : ℕ) (n : among i h.elsewhere ≡ false) where
  abbrev new : Home → Setting
  new o = record { slot = i; home = o }

  is-new : (o : Home) (a : Setting) → In a (new o ∷ []) → a ≡ new o
  unfolding In
  is-new o a (inl e) = e
  is-new o a (inr e) = absurd e

  own_new : (o : Home) → Covers (homes (i ∷ []) []) o (new o ∷ [])
  unfolding among
  own_new o a j =
      let e = is-new o a j in
      let k : among i (i ∷ []) ≡ true = rw (eq-eqb i i refl) refl in
      inr (ap (λ (s : Setting). s.home) e, ap (λ (s : Setting). among s.slot (i ∷ [])) e ∙ k)

  earlier : (o : Home) (a : Setting) → a.slot ≡ i → Known h o a → a.home ≡ o
  earlier o a e (inl k) = absurd (clash (sym n ∙ ap (λ j. among j h.elsewhere) (sym e) ∙ k))
  earlier o a e (inr k) = k.0

  one-new : (o : Home) (l : List Setting) → Covers h o l → OneHome l → (a b : Setting) → In a l ⊎ In a (new o ∷ [])
      → In b l ⊎ In b (new o ∷ []) → a.slot ≡ b.slot → a.home ≡ b.home
  one-new o l c d a b (inl u) (inl v) e = d a b u v e
  one-new o l c d a b (inl u) (inr v) e =
      let f = is-new o b v in
      earlier o a (e ∙ ap (λ (s : Setting). s.slot) f) (c a u) ∙ sym (ap (λ (s : Setting). s.home) f)
  one-new o l c d a b (inr u) (inl v) e =
      let f = is-new o a u in
      ap (λ (s : Setting). s.home) f ∙ sym (earlier o b (sym e ∙ ap (λ (s : Setting). s.slot) f) (c b v))
  one-new o l c d a b (inr u) (inr v) e = ap (λ (s : Setting). s.home) (is-new o a u ∙ sym (is-new o b v))

  pub tells-leaf : (o : Home) → Tells h (homes (setting i) []) o (homed o (setting i))
  unfolding setting homed
  tells-leaf o = by (eqb i no_slot)
    where
      by : (b : Bool) → Tells h (homes (elim b [ true ↦ [] | false ↦ i ∷ [] ]) []) o (homed o (elim b [ true ↦ [] | false ↦ i ∷ [] ]))
      by true = tells_none h o
      by false = record { own = own_new o; one = λ l c d a b u v. one-new o l c d a b (in_either a l _ u) (in_either b l _ v) }
