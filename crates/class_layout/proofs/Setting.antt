-- What a record sets that names a slot, and what two classes set: by the tests of the code; one class behind two others, or two behind one;
-- and the number is right of both lists of slots, where it is right of each.
use mathlib.Core.Path.{◌≡◌, refl, sym, ap, ◌∙◌}
use Prim.Native.Nat.{ℕ, ◌+◌, ◌<◌}
use native.Mathlib.Omega.{arith}
use mathlib.Core.List.{List, [], ◌∷◌, ◌++◌, append-nil}
use mathlib.Core.Bool.{Bool, true, false}
use lib.Seq.{set-set}
use lib.Dec.{eqb}
use borrow.Author.Tests.{eqb-true, eqb-false, eq-eqb, ne_eqb}
use Rattle.rules.specs.declared.Content.TheVariants.{Unset}
use Rattle.rules.specs.Limits.{no_slot}
use Rattle.rules.specs.Slots.{slot, set_slot, unset}
use Rattle.rules.specs.Class.{setting}
use Rattle.facts.proofs.Forgets.{unset-append}
use Rattle.class_layout.specs.Words.{several, sets_one, sets_both, SaysSet}

pub one_none : (i : ℕ) → i ≡ no_slot → sets_one i ≡ 0
unfolding sets_one
one_none i e = simp (e, sets_one)

pub one-there : (i : ℕ) → (i ≡ no_slot → ⊥) → sets_one i ≡ i + 1
unfolding sets_one
one-there i h = simp (ne_eqb i no_slot h, sets_one)

pub both_first : (a b : ℕ) → a ≡ 0 → sets_both a b ≡ b
unfolding sets_both
both_first a b e = simp (e, sets_both)

module _ (a b : ℕ) (h : a ≡ 0 → ⊥) where
  pub both-second : b ≡ 0 → sets_both a b ≡ a
  unfolding sets_both
  both-second e = simp (ne_eqb a 0 h, e, sets_both)

  pub both-same : (b ≡ 0 → ⊥) → a ≡ b → sets_both a b ≡ a
  unfolding sets_both
  both-same k e = simp (ne_eqb a 0 h, ne_eqb b 0 k, eq-eqb a b e, sets_both)

  pub both-several : (b ≡ 0 → ⊥) → (a ≡ b → ⊥) → sets_both a b ≡ several
  unfolding sets_both
  both-several k n = simp (ne_eqb a 0 h, ne_eqb b 0 k, ne_eqb a b n, sets_both)

-- Whether two numbers are the same

by-same : {P : Type 0} (a b : ℕ) → (a ≡ b → P) → ((a ≡ b → ⊥) → P) → P
by-same {P} a b y n = by (eqb a b) refl
  where
    by : (c : Bool) → eqb a b ≡ c → P
    by true e = y (eqb-true a b e)
    by false e = n (eqb-false a b e)

-- A number of what is set is small

pub one-small : (i : ℕ) → i < 256 → sets_one i < 8192
one-small i l = by-same i no_slot
    (λ e. omega (arith, one_none i e))
    (λ n. omega (arith, one-there i n))

pub both_small : (a b : ℕ) → a < 8192 → b < 8192 → sets_both a b < 8192
both_small a b l h = by-same a 0
    (λ e. omega (arith, both_first a b e))
    (λ n. by-same b 0
    (λ e. omega (arith, both-second a b n e))
    (λ k. by-same a b (λ s. omega (arith, both-same a b n k s)) (λ d. omega (arith, both-several a b n k d))))

-- Three classes

pub both-none : (a : ℕ) → sets_both a 0 ≡ a
both-none a = by-same a 0 (λ e. both_first a 0 e ∙ sym e) (λ n. both-second a 0 n refl)

both-not-none : (a b : ℕ) → (a ≡ 0 → ⊥) → sets_both a b ≡ 0 → ⊥
both-not-none a b n e = by-same b 0
    (λ z. n (sym (both-second a b n z) ∙ e))
    (λ k. by-same a b
    (λ s. n (sym (both-same a b n k s) ∙ e))
    (λ d. let z : ◌≡◌ {A = ℕ} 256 0 = sym (both-several a b n k d) ∙ e in absurd (omega arith)))

several-both : (a : ℕ) → sets_both several a ≡ several
several-both a =
    let n : several ≡ 0 → ⊥ = λ e. absurd (omega arith) in
    by-same a 0 (λ e. both-second several a n e)
    (λ k. by-same several a (λ s. both-same several a n k s) (λ d. both-several several a n k d))

both-several-last : (a : ℕ) → (a ≡ 0 → ⊥) → sets_both a several ≡ several
both-several-last a n =
    let k : several ≡ 0 → ⊥ = λ e. absurd (omega arith) in
    by-same a several (λ s. both-same a several n k s ∙ s) (λ d. both-several a several n k d)

pub both-assoc : (a b c : ℕ) → sets_both (sets_both a b) c ≡ sets_both a (sets_both b c)
both-assoc a b c = by-same a 0
    (λ e. ap (λ x. sets_both x c) (both_first a b e) ∙ sym (both_first a (sets_both b c) e))
    (λ n. by-same b 0
    (λ e. ap (λ x. sets_both x c) (both-second a b n e) ∙ ap (sets_both a) (sym (both_first b c e)))
    (λ k. by-same c 0
    (λ e. both-second (sets_both a b) c (both-not-none a b n) e ∙ ap (sets_both a) (sym (both-second b c k e)))
    (λ m. all n k m)))
  where
    all : (a ≡ 0 → ⊥) → (b ≡ 0 → ⊥) → (c ≡ 0 → ⊥) → sets_both (sets_both a b) c ≡ sets_both a (sets_both b c)
    all n k m = by-same a b
        (λ s. ap (λ x. sets_both x c) (both-same a b n k s) ∙ ap (λ x. sets_both x c) s ∙ by-same b c
        (λ u. both-same b c k m u ∙ sym s ∙ sym (both-same a b n k s) ∙ ap (sets_both a) (sym (both-same b c k m u)))
        (λ d. both-several b c k m d ∙ sym (both-several-last a n) ∙ ap (sets_both a) (sym (both-several b c k m d))))
        (λ d. ap (λ x. sets_both x c) (both-several a b n k d) ∙ several-both c ∙ by-same b c
        (λ u. sym (both-several a b n k d) ∙ ap (sets_both a) (sym (both-same b c k m u)))
        (λ v. sym (both-several-last a n) ∙ ap (sets_both a) (sym (both-several b c k m v))))

-- The number is right

pub says_none : SaysSet 0 []
says_none = record { none = λ e. refl; one = λ i e l x. absurd (omega arith) }

pub says-one : (i : ℕ) → SaysSet (sets_one i) (setting i)
unfolding sets_one setting unset
says-one i = by (eqb i no_slot) refl
  where
    by : (b : Bool) → eqb i no_slot ≡ b
        → SaysSet (elim b [ true ↦ 0 | false ↦ i + 1 ]) (elim b [ true ↦ [] | false ↦ i ∷ [] ])
    by true e = says_none
    by false e = record {
      none = λ z. absurd (omega arith);
      one = λ j z l x. let k : i ≡ j = omega arith in ap (λ n. set_slot x n Unset) k;
    }

pub says_both : (a b : ℕ) (l m : List ℕ) → SaysSet a l → SaysSet b m → SaysSet (sets_both a b) (l ++ m)
unfolding set_slot
says_both a b l m f g = by-same a 0 (λ e. first e f) (λ n. other n f)
  where
    first : a ≡ 0 → SaysSet a l → SaysSet (sets_both a b) (l ++ m)
    first e h = rw (both_first a b e, h.none e) g

    twice : (a ≡ 0 → ⊥) → a ≡ b → SaysSet a l → SaysSet a (l ++ m)
    twice n s h = record {
      none = λ e. absurd (n e);
      one = λ i e c x. unset-append x l m ∙ ap (λ y. unset y m) (h.one i e c x) ∙ g.one i (sym s ∙ e) c (set_slot x i Unset)
          ∙ set-set x i (slot Unset) (slot Unset);
    }

    many : SaysSet several (l ++ m)
    many = record { none = λ e. absurd (omega arith); one = λ i e c x. absurd (omega arith) }

    other : (a ≡ 0 → ⊥) → SaysSet a l → SaysSet (sets_both a b) (l ++ m)
    other n h = by-same b 0
        (λ e. rw (both-second a b n e, g.none e, append-nil l) h)
        (λ k. by-same a b (λ s. rw (both-same a b n k s) (twice n s h)) (λ d. rw (both-several a b n k d) many))
