-- Ids: equal bytes are equal numbers, and the places of the fragments seen tell the same as the rules' lists of their ids.
use mathlib.Core.Path.{◌≡◌, refl, sym, ap, ◌∙◌}
use mathlib.Core.Bool.{Bool, true, false, not, ◌&&◌, ◌||◌}
use mathlib.Core.List.{List, [], ◌∷◌}
use Prim.Native.Nat.{ℕ, zero, suc, ◌+◌, ◌*◌, ◌<◌}
use native.Mathlib.Omega.{arith}
use native.Mathlib.Nat.{add-suc}
use lib.ListN.{length}
use lib.Dec.{eqb}
use borrow.Author.Tests.{eqb-true, eqb-false, eq-eqb, ne_eqb}
use Rattle.facts.specs.Bytes.{Bytes}
use Rattle.rules.specs.Record.{trace_class, clock_class, stream_class, event_class}
use Rattle.rules.specs.Faults.{Ids, no_ids, seen, among, pair_among}
use Rattle.table_offsets.specs.Check.{pick_b, byte_at, number_at, u64, same, is_named, named}
use Rattle.table_offsets.proofs.TieTests.{eqb_swap}

-- Equal bytes, equal numbers

and-true : (a : Bool) → (a && true) ≡ a
and-true true = refl
and-true false = refl

and-middle : (a b c : Bool) → (a && (b && c)) ≡ (b && (a && c))
and-middle true b c = refl
and-middle false true c = refl
and-middle false false c = refl

same-split : (t : List ℕ) (a b m n : ℕ) → same t a b (m + n) ≡ (same t a b m && same t (a + m) (b + m) n)
unfolding same
same-split t a b m zero = let e : m + 0 ≡ m = omega arith in rw (e, and-true)
same-split t a b m (suc n) =
    let f : a + (m + n) ≡ a + m + n = omega arith in
    let g : b + (m + n) ≡ b + m + n = omega arith in
    rw (add-suc m n, same-split t a b m n, f, g)
    (and-middle (eqb (byte_at t (a + m + n)) (byte_at t (b + m + n))) (same t a b m) (same t (a + m) (b + m) n))

-- the lowest digit first
digits : (x y a b : ℕ) → x < 256 → y < 256 → (eqb x y && eqb b a) ≡ eqb (b * 256 + y) (a * 256 + x)
digits x y a b hx hy = by (eqb x y) (eqb b a) refl refl
  where
    by : (c d : Bool) → eqb x y ≡ c → eqb b a ≡ d → (c && d) ≡ eqb (b * 256 + y) (a * 256 + x)
    by true true p q =
        let e : b * 256 + y ≡ a * 256 + x = omega (arith, eqb-true x y p, eqb-true b a q) in sym (eq-eqb (b * 256 + y) (a * 256 + x) e)
    by true false p q =
        let e : x ≡ y = eqb-true x y p in
        sym (ne_eqb (b * 256 + y) (a * 256 + x) (λ (f : b * 256 + y ≡ a * 256 + x). eqb-false b a q (omega arith)))
    by false d p q = sym (ne_eqb (b * 256 + y) (a * 256 + x) (λ (f : b * 256 + y ≡ a * 256 + x). eqb-false x y p (omega arith)))

same_number : (t : List ℕ) → Bytes t → (n a b : ℕ) → same t a b n ≡ eqb (number_at t b n) (number_at t a n)
unfolding same number_at
same_number t h zero a b = refl
same_number t h (suc n) a b =
    let e : suc n ≡ 1 + n = omega arith in
    let za : a + 0 ≡ a = omega arith in
    let zb : b + 0 ≡ b = omega arith in
    ap (same t a b) e ∙ same-split t a b 1 n ∙
    rw (za, zb, and-true, same_number t h n (a + 1) (b + 1))
    (digits (byte_at t a) (byte_at t b) (number_at t (a + 1) n) (number_at t (b + 1) n) (h a) (h b))

same_byte : (t : List ℕ) (a b : ℕ) → same t a b 1 ≡ eqb (byte_at t b) (byte_at t a)
unfolding same
same_byte t a b =
    let za : a + 0 ≡ a = omega arith in
    let zb : b + 0 ≡ b = omega arith in
    rw (za, zb, and-true) (eqb_swap (byte_at t a) (byte_at t b))

same-pair : (t : List ℕ) → Bytes t → (a b : ℕ) → same t a b 16 ≡ (eqb (u64 t b) (u64 t a) && eqb (u64 t (b + 8)) (u64 t (a + 8)))
unfolding u64
same-pair t h a b = same-split t a b 8 8 ∙ rw (same_number t h 8 a b, same_number t h 8 (a + 8) (b + 8))

-- What the fragments seen tell

pub record Sees (t : List ℕ) (q : Ids) (trace : Bool) (places : List ℕ) : Type 0 where
  pub traced : q.trace ≡ trace
  pub clocks : (at : ℕ) → named t 3 at 1 places ≡ among (byte_at t at) q.clocks
  pub streams : (at : ℕ) → named t 4 at 8 places ≡ among (u64 t at) q.streams
  pub events : (at : ℕ) → named t 5 at 16 places ≡ pair_among (u64 t at) (u64 t (at + 8)) q.events
  pub any : (at : ℕ) → named t 4 at 0 places ≡ not (eqb (length q.streams) 0)
  pub count : length places ≡ length q.clocks + length q.streams + length q.events

pub sees-none : (t : List ℕ) → Sees t no_ids false []
unfolding no_ids named among pair_among
sees-none t = record { traced = refl; clocks = λ at. refl; streams = λ at. refl; events = λ at. refl; any = λ at. refl; count = refl }

named-at : (t : List ℕ) (k a n o : ℕ) (os : List ℕ) → byte_at t o ≡ k → named t k a n (o ∷ os) ≡ (same t (o + 1) a n || named t k a n os)
unfolding named is_named
named-at t k a n o os e = rw (e, eq-eqb k k refl) (by (same t (o + 1) a n))
  where
    by : (b : Bool) → pick_b b true (named t k a n os) ≡ (b || named t k a n os)
    by true = unfold pick_b in refl
    by false = unfold pick_b in refl

named_past : (t : List ℕ) (k a n o : ℕ) (os : List ℕ) → (byte_at t o ≡ k → ⊥) → named t k a n (o ∷ os) ≡ named t k a n os
unfolding named is_named pick_b
named_past t k a n o os e = rw (ne_eqb (byte_at t o) k e)

module _ (t : List ℕ) (h : Bytes t) (o : ℕ) (q : Ids) (trace : Bool) (os : List ℕ) (s : Sees t q trace os) where
  pub sees-trace : (u : ℕ) (l : List ℕ) → Sees t (seen q (trace_class u l)) true os
  unfolding seen
  sees-trace u l = record { traced = refl; clocks = s.clocks; streams = s.streams; events = s.events; any = s.any; count = s.count }

  pub sees-clock : (f : ℕ) → byte_at t o ≡ 3 → Sees t (seen q (clock_class (byte_at t (o + 1)) f)) trace (o ∷ os)
  unfolding seen among
  sees-clock f e = record {
    traced = s.traced;
    clocks = λ a. rw (named-at t 3 a 1 o os e, same_byte t (o + 1) a, s.clocks a);
    streams = λ a. named_past t 4 a 8 o os (λ f. omega arith) ∙ s.streams a;
    events = λ a. named_past t 5 a 16 o os (λ f. omega arith) ∙ s.events a;
    any = λ a. named_past t 4 a 0 o os (λ f. omega arith) ∙ s.any a;
    count = omega (arith, s.count);
  }

  pub sees-stream : (c : ℕ) → byte_at t o ≡ 4 → Sees t (seen q (stream_class (u64 t (o + 1)) c)) trace (o ∷ os)
  unfolding seen among same u64
  sees-stream c e = record {
    traced = s.traced;
    clocks = λ a. named_past t 3 a 1 o os (λ f. omega arith) ∙ s.clocks a;
    streams = λ a. rw (named-at t 4 a 8 o os e, same_number t h 8 (o + 1) a, s.streams a);
    events = λ a. named_past t 5 a 16 o os (λ f. omega arith) ∙ s.events a;
    any = λ a. named-at t 4 a 0 o os e ∙ sym (ap not (ne_eqb (suc (length q.streams)) 0 (λ f. omega arith)));
    count = omega (arith, s.count);
  }

  pub sees-event : byte_at t o ≡ 5 → Sees t (seen q (event_class (u64 t (o + 1)) (u64 t (o + 9)))) trace (o ∷ os)
  unfolding seen pair_among
  sees-event e = record {
    traced = s.traced;
    clocks = λ a. named_past t 3 a 1 o os (λ f. omega arith) ∙ s.clocks a;
    streams = λ a. named_past t 4 a 8 o os (λ f. omega arith) ∙ s.streams a;
    events = λ a. let n : o + 1 + 8 ≡ o + 9 = omega arith in rw (named-at t 5 a 16 o os e, same-pair t h (o + 1) a, s.events a, n);
    any = λ a. named_past t 4 a 0 o os (λ f. omega arith) ∙ s.any a;
    count = omega (arith, s.count);
  }
