-- No slack, proved. What a step did is fixed by the rules' outcome: its entries, and so its words and the list; why it stopped, or the
-- state behind it.
use Rattle.rules.specs.declared.NoBundle.{NoBundle}
use Rattle.rules.specs.declared.ByteLength.{ByteLength}
use Rattle.std.specs.Prelude.{Ok, Err, Result, ⊤}
use mathlib.Core.Path.{◌≡◌, refl, sym, ap, ◌∙◌}
use Prim.Native.Nat.{ℕ, zero, suc, ◌+◌, ◌-◌, ◌*◌}
use native.Mathlib.Omega.{arith}
use mathlib.Core.List.{List, ◌∷◌, ◌++◌}
use lib.ListN.{length, drop}
use Rattle.rules.specs.declared.Entry.{Entry}
use Rattle.rules.specs.declared.Stop.{Stop}
use Rattle.rules.specs.Limits.{words_per_entry}
use Rattle.rules.specs.Entry.{words}
use Rattle.rules.specs.Bundle.{bundle_of, bundle_readings, buffer_after, lists_after}
use Rattle.rules.specs.Slots.{Slots, no_slots}
use Rattle.rules.specs.Step.{State, Out, stop, go, Step}
use Rattle.listing.specs.declared.Progress.{Progress}
use Rattle.listing.specs.Did.{Did, RoleDid, full, out_of}
use Rattle.listing.specs.declared.role.Roled.{Roled}
use Rattle.field_read.specs.declared.Field.{Field}
use Rattle.field_read.specs.Reads.{FieldReads}
use Rattle.class_layout.specs.declared.openings.Opening.{Opening}
use Rattle.class_layout.specs.Sizes.{numbered, OpeningOf}
use Rattle.table_offsets.proofs.Told.{same-faults, same-walks}
use Rattle.promises.specs.SmallestCalls.{cut, CutContract}
use Rattle.promises.specs.Only.{NoSlack}

-- What a step did

pub record SameDid (w w' : Result ⊤ Stop) (u u' : ℕ) (st st' : Progress) (l l' : Slots) (vs vs' : List ℕ) : Type 0 where
  pub went : w ≡ w'
  pub used : u ≡ u'
  pub state : st ≡ st'
  pub slots : w ≡ Ok tt → l ≡ l'
  pub list : vs ≡ vs'

stop-entries : (es es' : List Entry) (v v' : Stop) → stop es v ≡ stop es' v' → es ≡ es'
stop-entries es es' v v' h = cc

stop-why : (es es' : List Entry) (v v' : Stop) → stop es v ≡ stop es' v' → v ≡ v'
stop-why es es' v v' h = cc

go-entries : (es es' : List Entry) (s s' : State) → go es s ≡ go es' s' → es ≡ es'
go-entries es es' s s' h = cc

go-state : (es es' : List Entry) (s s' : State) → go es s ≡ go es' s' → s ≡ s'
go-state es es' s s' h = cc

full-state : (st st' : Progress) (l l' : Slots) (n n' : ℕ) → full st l n ≡ full st' l' n' → st ≡ st'
full-state st st' l l' n n' h = λ i. record {
  place = (h i).place;
  order = (h i).order;
  clock = record { value = (h i).clock };
  last = (h i).last;
  said = (h i).said;
}

module _ (o : Out) (came : Progress) (ws : List ℕ) where
  same-list : (u u' : ℕ) (es es' : List Entry) (vs vs' : List ℕ) → es ≡ es' → u ≡ u'
      → vs ≡ words es ++ drop u ws → vs' ≡ words es' ++ drop u' ws → vs ≡ vs'
  same-list u u' es es' vs vs' e p h k = h ∙ (λ i. words (e i) ++ drop (p i) ws) ∙ sym k

  pub did-same : (w w' : Result ⊤ Stop) (u u' : ℕ) (st st' : Progress) (l l' : Slots) (vs vs' : List ℕ)
      → Did o came w u st l ws vs → Did o came w' u' st' l' ws vs'
      → SameDid w w' u u' st st' l l' vs vs'
  unfolding out_of
  did-same (Ok x) (Ok y) u u' st st' l l' vs vs' d d' =
      let q : go d.listed (full st l (length ws - u)) ≡ go d'.listed (full st' l' (length ws - u')) = sym d.out ∙ d'.out in
      let e : d.listed ≡ d'.listed = go-entries _ _ _ _ q in
      let s = go-state _ _ _ _ q in
      let p : u ≡ u' = d.counted ∙ ap (λ z. words_per_entry * length z) e ∙ sym d'.counted in
      record {
        went = refl;
        used = p;
        state = full-state st st' l l' _ _ s;
        slots = λ z. ap (λ y. y.slots) s;
        list = same-list u u' _ _ vs vs' e p d.list d'.list;
      }
  did-same (Ok x) (Err v) u u' st st' l l' vs vs' d d' =
      let q = sym d.out ∙ d'.out in
      let z : ◌≡◌ {A = ℕ} 0 1 = cc in absurd (omega arith)
  did-same (Err v) (Ok x) u u' st st' l l' vs vs' d d' =
      let q = sym d.out ∙ d'.out in
      let z : ◌≡◌ {A = ℕ} 0 1 = cc in absurd (omega arith)
  did-same (Err v) (Err v') u u' st st' l l' vs vs' d d' =
      let q : stop d.listed v ≡ stop d'.listed v' = sym d.out ∙ d'.out in
      let e : d.listed ≡ d'.listed = stop-entries _ _ _ _ q in
      let p : u ≡ u' = d.counted ∙ ap (λ z. words_per_entry * length z) e ∙ sym d'.counted in
      record {
        went = ap Err (stop-why _ _ _ _ q);
        used = p;
        state = d.kept v refl ∙ sym (d'.kept v' refl);
        slots = λ h. let z : ◌≡◌ {A = ℕ} 0 1 = cc in absurd (omega arith);
        list = same-list u u' _ _ vs vs' e p d.list d'.list;
      }

-- a step that goes on, or stops
pub went-by : {P : Type 0} (w : Result ⊤ Stop) → (w ≡ Ok tt → P) → ((v : Stop) → w ≡ Err v → P) → P
went-by (Ok u) f g = f refl
went-by (Err v) f g = g v refl

-- Fields and roles

field-same : (m : Step) (st : Progress) (l : Slots) (ws : List ℕ) (r r' : Field) (vs vs' : List ℕ)
    → FieldReads m st l r ws vs → FieldReads m st l r' ws vs' → (r ≡ r') × (vs ≡ vs')
field-same m st l ws r r' vs vs' d d' =
    let x = did-same (m (full st l (length ws))) st ws _ _ _ _ _ _ _ _ vs vs' d.did d'.did in
    let y : r.slots ≡ r'.slots = went-by r.went (λ q. x.slots q) (λ v q. d.kept v q ∙ sym (d'.kept v (sym x.went ∙ q))) in
    ((λ i. record { went = x.went i; used = x.used i; state = x.state i; slots = y i }), x.list)

role_same : (m : Step) (st : Progress) (ws : List ℕ) (r r' : Roled) (vs vs' : List ℕ)
    → RoleDid m st r ws vs → RoleDid m st r' ws vs' → (r ≡ r') × (vs ≡ vs')
role_same m st ws r r' vs vs' d d' =
    let x = did-same (m (full st no_slots (length ws))) st ws _ _ _ _ _ _ _ _ vs vs' (d.at no_slots) (d'.at no_slots) in
    ((λ i. record { went = x.went i; used = x.used i; state = x.state i }), x.list)

-- A bundle

cut-same : (x b ns ms ws out : List ℕ) (r r' : Result ByteLength NoBundle) (wr wr' or or' : List ℕ) → CutContract x b ns ms (cut r ws wr out or)
    → CutContract x b ns ms (cut r' ws wr' out or') → (r ≡ r') × (wr ≡ wr') × (or ≡ or')
cut-same x b ns ms ws out r r' wr wr' or or' p q =
    let e : r ≡ r' = p.result ∙ sym q.result in
    let rs = bundle_readings x b ns ms ws in (
      e,
      p.list ∙ ap (λ z. lists_after z rs ms ws) e ∙ sym q.list,
      p.buffer ∙ ap (λ z. buffer_after z (bundle_of x rs) out) e ∙ sym q.buffer,
    )

-- Openings

cons_head : (a b : ℕ) (l m : List ℕ) → a ∷ l ≡ b ∷ m → a ≡ b
cons_head a b l m h = cc

cons_tail : (a b : ℕ) (l m : List ℕ) → a ∷ l ≡ b ∷ m → l ≡ m
cons_tail a b l m h = cc

count_same : (n n' c c' : ℕ) → numbered n c ≡ numbered n' c' → c ≡ c'
unfolding numbered
count_same n n' zero zero h = refl
count_same n n' zero (suc c') h = let z : ◌≡◌ {A = ℕ} 0 1 = cc in absurd (omega arith)
count_same n n' (suc c) zero h = let z : ◌≡◌ {A = ℕ} 0 1 = cc in absurd (omega arith)
count_same n n' (suc c) (suc c') h = ap suc (count_same (n + 1) (n' + 1) c c' (cons_tail _ _ _ _ h))

first-same : (n n' c c' : ℕ) → numbered n c ≡ numbered n' c' → (c ≡ 0 → n ≡ 0) → (c' ≡ 0 → n' ≡ 0) → n ≡ n'
unfolding numbered
first-same n n' zero zero h p q = p refl ∙ sym (q refl)
first-same n n' zero (suc c') h p q = let z : ◌≡◌ {A = ℕ} 0 1 = cc in absurd (omega arith)
first-same n n' (suc c) zero h p q = let z : ◌≡◌ {A = ℕ} 0 1 = cc in absurd (omega arith)
first-same n n' (suc c) (suc c') h p q = cons_head _ _ _ _ h

opening-same : (k : ℕ) (r r' : Opening) → OpeningOf k r → OpeningOf k r' → r ≡ r'
opening-same k r r' p q =
    let h = sym p.roots ∙ q.roots in
    λ i. record {
      size = (p.size ∙ sym q.size) i;
      first = (first-same _ _ _ _ h p.none q.none) i;
      count = (count_same _ _ _ _ h) i;
    }

pub no-slack : NoSlack
no-slack = record {
  equation = λ a v. record { same = λ r r' p q. p ∙ sym q };
  below = λ v n. record { same = λ r r' p q. p.0 ∙ sym q.0 };
  at_most = λ v n. record { same = λ r r' p q. p.0 ∙ sym q.0 };
  clock = λ n. record { same = λ r r' p q. λ i. record { value = (p ∙ sym q) i } };
  reading = λ x b ws. record { same = λ r r' vs vs' p q. (p.result ∙ sym q.result, p.list ∙ sym q.list) };
  once = λ x b ws. record {
    same = λ r r' vs vs' p q. (
      p.demand-2.rules.result ∙ sym q.demand-2.rules.result,
      p.demand-2.rules.list ∙ sym q.demand-2.rules.list,
    );
  };
  both = λ x x' b ws vs r r' wr wr' vr vr' p q. (
    (λ i. record { first = (p.first.result ∙ sym q.first.result) i; second = (p.second.result ∙ sym q.second.result) i }),
    p.first.list ∙ sym q.first.list,
    p.second.list ∙ sym q.second.list,
  );
  streams = λ x b b' ws vs r r' wr wr' vr vr' p q. (
    (λ i. record { first = (p.first.result ∙ sym q.first.result) i; second = (p.second.result ∙ sym q.second.result) i }),
    p.first.list ∙ sym q.first.list,
    p.second.list ∙ sym q.second.list,
  );
  cut-bundle = λ x b ns ms ws out r r' wr wr' or or' p q. cut-same x b ns ms ws out r r' wr wr' or or' p.contract q.contract;
  role = λ m st ws. record { same = role_same m st ws };
  field = λ m st l ws. record { same = field-same m st l ws };
  notes = λ t x. record { same = λ r r' p q. p.notes ∙ sym q.notes };
  reach = λ t x p. record {
    same = λ r r' h k. λ i. record {
      next = (h.end ∙ sym k.end) i;
      align = (h.align ∙ sym k.align) i;
      sets = (h.sets.0 ∙ sym k.sets.0) i;
    };
  };
  opening = λ k. record { same = opening-same k };
  fault = λ n. record { same = λ r s p q. same-faults r s (p ∙ sym q) };
  walked = λ w. record { same = λ r s p q. same-walks r s (p ∙ sym q) };
}
