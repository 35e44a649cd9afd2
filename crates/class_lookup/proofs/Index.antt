-- Laws of the index. In order: a place that is put; one fragment; what a search by it finds; that its words are hints, those of an accepted
-- table's among them.
use Rattle.std.specs.Prelude.{Some, Ok}
use mathlib.Core.Path.{◌≡◌, refl, ◌∙◌}
use Prim.Native.Nat.{ℕ, zero, suc, ◌+◌, ◌-◌, ◌%◌, ◌<◌, ◌≤◌}
use native.Mathlib.Omega.{arith}
use mathlib.Core.List.{List, [], ◌∷◌}
use mathlib.Core.Bool.{Bool, true, false}
use lib.ListN.{length, get_or, set, replicate, length-set, length-replicate}
use lib.Seq.{get_or-set_same, get_or-set_other}
use lib.Dec.{eqb}
use borrow.Author.Tests.{eq-eqb, ne_eqb, eqb-true, eqb-false}
use Rattle.rules.specs.declared.ByteLength.{ByteLength}
use Rattle.rules.specs.Record.{u8, u64}
use Rattle.rules.specs.Parse.{checked}
use Rattle.class_layout.specs.Fragments.{event_kind, is_event, find_event_at, fragments_of, All, AllFragments}
use Rattle.class_layout.proofs.Asked.{Accepts, checked-accepts}
use Rattle.class_lookup.specs.Index.{places, home_of, put_from, index_one, indexed, Hint, Hints}

-- Putting

module _ (l : List ℕ) (at o : ℕ) where
  pub put-here : (n : ℕ) → 0 < n → get_or l at 0 ≡ 0 → put_from n l at o ≡ set l at o
  unfolding put_from
  put-here zero h e = absurd (omega arith)
  put-here (suc n) h e = rw (eq-eqb (get_or l at 0) 0 e, put_from) refl

  pub put_on : (n : ℕ) → 0 < n → (get_or l at 0 ≡ 0 → ⊥) → put_from n l at o ≡ put_from (n - 1) l ((at + 1) % places) o
  unfolding put_from
  put_on zero h e = absurd (omega arith)
  put_on (suc n) h e = let k : suc n - 1 ≡ n = omega arith in rw (k, ne_eqb (get_or l at 0) 0 e, put_from) refl

  pub put_full : (n : ℕ) → n ≤ 0 → put_from n l at o ≡ l
  unfolding put_from
  put_full zero h = refl
  put_full (suc n) h = absurd (omega arith)

-- One fragment

module _ (t : List ℕ) (o : ℕ) (l : List ℕ) where
  pub index-event : {a b h : ℕ} {z : List ℕ} → u8 t o ≡ event_kind → a ≡ u64 t (o + 1) → b ≡ u64 t (o + 9) → h ≡ home_of a b
      → z ≡ put_from places l h o → z ≡ index_one t o l
  unfolding index_one
  index-event k ea eb eh e = rw (eq-eqb (u8 t o) event_kind k, index_one) (rw (eh, ea, eb) at e)

  pub index-other : (u8 t o ≡ event_kind → ⊥) → l ≡ index_one t o l
  unfolding index_one
  index-other k = rw (ne_eqb (u8 t o) event_kind k, index_one) refl

-- What a search finds

module _ {t l : List ℕ} (h : Hints t l) where
  pub hint : (k : ℕ) {o : ℕ} → o ≡ get_or l k 0 → (o ≡ 0 → ⊥) → Hint t o
  hint k {o} e n = rw e (h.each k (positive (get_or l k 0) (λ z. n (e ∙ z))))
    where
      positive : (n : ℕ) → (n ≡ 0 → ⊥) → 0 < n
      positive zero h = absurd (h refl)
      positive (suc n) h = omega arith

pub hint-found : {t : List ℕ} {o : ℕ} (i j : ℕ) → Hint t o → is_event t i j o ≡ true → Some o ≡ find_event_at t (fragments_of t) i j
hint-found i j k e = rw (k.first i j e)

-- Words of the index are hints

set-hints : (t : List ℕ) (o : ℕ) → Hint t o → (l : List ℕ) (at : ℕ) → at < places → Hints t l → Hints t (set l at o)
set-hints t o k l at a h = record { room = rw length-set h.room; each = λ i p. by i p (eqb i at) refl }
  where
    by : (i : ℕ) → 0 < get_or (set l at o) i 0 → (b : Bool) → eqb i at ≡ b → Hint t (get_or (set l at o) i 0)
    by i p true e =
        let here : get_or (set l at o) i 0 ≡ o = rw (eqb-true i at e) (get_or-set_same l at o 0 (omega (arith, h.room))) in rw here k
    by i p false e =
        let there : get_or (set l at o) i 0 ≡ get_or l i 0 = get_or-set_other l at i o 0 (eqb-false i at e) in
        rw there (h.each i (rw there at p))

put-hints : (t : List ℕ) (o : ℕ) → Hint t o → (n : ℕ) (l : List ℕ) (at : ℕ) → at < places → Hints t l → Hints t (put_from n l at o)
unfolding put_from
put-hints t o k zero l at a h = h
put-hints t o k (suc n) l at a h =
    by (eqb (get_or l at 0) 0) (set-hints t o k l at a h) (put-hints t o k n l ((at + 1) % places) (omega arith) h)
  where
    by : (b : Bool) → Hints t (set l at o) → Hints t (put_from n l ((at + 1) % places) o)
        → Hints t (elim b [ true ↦ set l at o | false ↦ put_from n l ((at + 1) % places) o ])
    by true s p = s
    by false s p = p

pub index-hints : (t os l : List ℕ) → All (Hint t) os → Hints t l → Hints t (indexed t os l)
unfolding indexed index_one home_of
index-hints t [] l k h = h
index-hints t (o ∷ os) l k h = index-hints t os (index_one t o l) k.1 (by (eqb (u8 t o) event_kind))
  where
    home : ℕ
    home = home_of (u64 t (o + 1)) (u64 t (o + 9))

    by : (b : Bool) → Hints t (elim b [ true ↦ put_from places l home o | false ↦ l ])
    by true = put-hints t o k.0 places l home (omega arith) h
    by false = h

-- Of an accepted table

hint-all : (t os : List ℕ) → AllFragments t os
    → ((i j : ℕ) → All (λ o. is_event t i j o ≡ true → find_event_at t (fragments_of t) i j ≡ Some o) os) → All (Hint t) os
hint-all t [] f g = tt
hint-all t (o ∷ os) f g = (record { stands = f.0; first = λ i j. (g i j).0 }, hint-all t os f.1 (λ i j. (g i j).1))

-- an index that is made over an empty one has hints alone
pub accepted-hints : (t l : List ℕ) → Accepts t → Hints t l → Hints t (indexed t (fragments_of t) l)
accepted-hints t l a h = index-hints t (fragments_of t) l (hint-all t (fragments_of t) a.fragments a.firsts) h

pub empty-hints : (t l : List ℕ) → length l ≡ places → ((k : ℕ) → get_or l k 0 ≡ 0) → Hints t l
empty-hints t l n z = record { room = n; each = λ k p. absurd (omega (arith, z k)) }

-- every place of it is empty at first
pub empty-places : {l : List ℕ} → l ≡ replicate places 0 → length l ≡ places
empty-places e = rw e (length-replicate {A = ℕ} places 0)

pub zeros : (n k : ℕ) → get_or {A = ℕ} (replicate n 0) k 0 ≡ 0
zeros zero k = refl
zeros (suc n) zero = refl
zeros (suc n) (suc k) = zeros n k

pub made-hints : (t : List ℕ) (n : ByteLength) → checked t ≡ Ok n → {l l' : List ℕ} → l ≡ replicate places 0
    → l' ≡ indexed t (fragments_of t) l → Hints t l'
made-hints t n h {l} e f =
    rw f (accepted-hints t l (checked-accepts t n h) (empty-hints t l (empty-places e) (λ k. rw e (zeros places k))))
