-- Records by the table's bytes: where they stand, and that the parser's classes are made of them in this order. So each class's number
-- names, in the bytes, a record of its kind.
use mathlib.Core.Path.{◌≡◌, refl, sym, ap, subst, ◌∙◌}
use mathlib.Core.Logic.{⊎_elim}
use Prim.Native.Nat.{ℕ, zero, suc, ◌+◌, ◌≤◌, ◌<◌}
use native.Mathlib.Omega.{arith}
use mathlib.Core.List.{List, [], ◌∷◌, ◌++◌}
use lib.ListN.{length, get_or, drop, get_or-eq_default, get_or-append}
use lib.Seq.{get_or-drop, drop-drop, get_or-append-add}
use Rattle.rules.specs.Record.{Fragment, Record, unknown, fragment, root, class, range, option, Says}
use Rattle.rules.specs.Record.{Shape, bit_field, leb_field, signed_leb_field, zero_string, text, blob, text_of, blob_of, members, elements}
use Rattle.rules.specs.Record.{elements_of, option?, options}
use Rattle.rules.specs.Record.{no, u8, layouts, layout_of, record_of, size, behind}
use Rattle.rules.specs.Class.{Sort, bit_array, boolean, unsigned_int, signed_int, float, kind_of}
use Rattle.rules.specs.Table.{Table, asked}
use Rattle.rules.specs.Parse.{good, parse}
use Rattle.facts.proofs.Numbers.{lt-or-ge}
use Rattle.laws.specs.Owner.{Owner, owner_of}
use Rattle.laws.proofs.Numbering.{kind_by, InFragment, KindIs, record-kind, Walks, Numbering, accepted-numbering}
use Rattle.promises.specs.Records.{nth, Named}

-- Where records stand

nth-add : (t : List ℕ) (p m n : ℕ) → nth t (nth t p m) n ≡ nth t p (m + n)
unfolding nth
nth-add t p m zero = let e : m + 0 ≡ m = omega arith in rw e refl
nth-add t p m (suc n) =
    let e : m + suc n ≡ suc (m + n) = omega arith in
    rw (e, nth) (ap (λ q. q + size (drop q t)) (nth-add t p m n))

-- each takes a byte or more
pub nth-le : (t : List ℕ) (p n : ℕ) → p + n ≤ nth t p n
unfolding nth size
nth-le t p zero = omega arith
nth-le t p (suc n) = omega (arith, nth-le t p n)

-- the kind of a record that is in the bytes
kind-behind : (t : List ℕ) (p : ℕ) → u8 (drop p t) 0 ≡ u8 t p
unfolding u8
kind-behind t p = get_or-drop p t 0 0 ∙ (let e : p + 0 ≡ p = omega arith in ap (λ q. get_or t q 0) e)

inside-kind : (y : List ℕ) → InFragment (record_of y) → 6 ≤ u8 y 0
inside-kind y h = by (record_of y) (record-kind y) h
  where
    shape-kind : (s : Shape) → 6 ≤ kind_by s
    shape-kind (bit_field bit_array) = unfold kind_by kind_of in omega arith
    shape-kind (bit_field boolean) = unfold kind_by kind_of in omega arith
    shape-kind (bit_field unsigned_int) = unfold kind_by kind_of in omega arith
    shape-kind (bit_field signed_int) = unfold kind_by kind_of in omega arith
    shape-kind (bit_field float) = unfold kind_by kind_of in omega arith
    shape-kind leb_field = unfold kind_by in omega arith
    shape-kind signed_leb_field = unfold kind_by in omega arith
    shape-kind zero_string = unfold kind_by in omega arith
    shape-kind text = unfold kind_by in omega arith
    shape-kind blob = unfold kind_by in omega arith
    shape-kind text_of = unfold kind_by in omega arith
    shape-kind blob_of = unfold kind_by in omega arith
    shape-kind members = unfold kind_by in omega arith
    shape-kind elements = unfold kind_by in omega arith
    shape-kind elements_of = unfold kind_by in omega arith
    shape-kind option? = unfold kind_by in omega arith
    shape-kind options = unfold kind_by in omega arith

    by : (r : Record) → KindIs (u8 y 0) r → InFragment r → 6 ≤ u8 y 0
    by unknown k i = absurd i
    by (fragment g) k i = absurd i
    by (root r) k i = omega arith
    by (class s) k i = omega (arith, shape-kind s.shape)
    by (range g l u) k i = omega arith
    by (option n) k i = omega arith

-- Along the parse

module _ (t : List ℕ) where
  -- y is the rest of the table from its record number `index` on
  record Begins (y : List ℕ) : Type 0 where
    index : ℕ
    rest : y ≡ drop (nth t 0 index) t

  -- and here from the record number m of an owner's fragment on
  record BeginsIn (o : Owner) (m : ℕ) (y : List ℕ) : Type 0 where
    index : ℕ
    opener : Fragment
    opens : record_of (drop (nth t 0 index) t) ≡ fragment opener
    owner : owner_of opener ≡ o
    inside : (i : ℕ) → 1 ≤ i → i < m → 6 ≤ u8 t (nth t (nth t 0 index) i)
    rest : y ≡ drop (nth t (nth t 0 index) m) t

  rest-behind : (p n : ℕ) (y : List ℕ) → y ≡ drop (nth t p n) t → behind y ≡ drop (nth t p (suc n)) t
  unfolding behind nth
  rest-behind p n y e = ap (λ z. drop (size z) z) e ∙ drop-drop (size (drop (nth t p n) t)) (nth t p n) t

  kind-rest : (p n : ℕ) (y : List ℕ) → y ≡ drop (nth t p n) t → u8 t (nth t p n) ≡ u8 y 0
  kind-rest p n y e = sym (kind-behind t (nth t p n)) ∙ ap (λ z. u8 z 0) (sym e)

  kinds : (m : ℕ) (p : ℕ) (y : List ℕ) → ((i : ℕ) → 1 ≤ i → i < m → 6 ≤ u8 t (nth t p i)) → y ≡ drop (nth t p m) t
      → InFragment (record_of y) → (i : ℕ) → 1 ≤ i → i ≤ m → 6 ≤ u8 t (nth t p i)
  kinds m p y h e g i l k = ⊎_elim
      (λ (b : i < m). h i l b)
      (λ (b : m ≤ i). let q : i ≡ m = omega arith in subst (λ j. 6 ≤ u8 t (nth t p j)) (sym q)
      (subst (λ j. 6 ≤ j) (sym (kind-rest p m y e)) (inside-kind y g)))
      (lt-or-ge i m)

  named-records : Walks (Named t) BeginsIn Begins
  named-records = record {
    opens = λ x g h e. record {
      index = h.index;
      opener = g;
      opens = subst (λ z. record_of z ≡ fragment g) h.rest e;
      owner = refl;
      inside = λ i l k. absurd (omega arith);
      rest = unfold nth in rest-behind (nth t 0 h.index) 0 x h.rest;
    };
    on = λ o m x h i. record {
      index = h.index;
      opener = h.opener;
      opens = h.opens;
      owner = h.owner;
      inside = λ j l k. kinds m (nth t 0 h.index) x h.inside h.rest i j l (omega arith);
      rest = let e : m + 1 ≡ suc m = omega arith in rw e (rest-behind (nth t 0 h.index) m x h.rest);
    };
    over = λ o m x h. record {
      index = h.index + m;
      rest = h.rest ∙ ap (λ p. drop p t) (nth-add t 0 h.index m);
    };
    tells = λ o m x y h e.
        let k : u8 x 0 ≡ kind_by y.shape = subst (KindIs (u8 x 0)) e (record-kind x) in
        record {
          index = h.index;
          opener = h.opener;
          opens = h.opens;
          owner = h.owner;
          inside = kinds m (nth t 0 h.index) x h.inside h.rest (subst InFragment (sym e) tt);
          kind = kind-rest (nth t 0 h.index) m x h.rest ∙ k;
        };
  }

  pub accepted-named : (T : Table) (y : List ℕ) → parse t ≡ good T y → Numbering (Named t) (asked T)
  accepted-named T y p = accepted-numbering named-records t T y (record { index = 0; rest = unfold nth in refl }) p

-- a record that is named is in the table, and has its number of records before it
pub named_small : (t : List ℕ) (o : Owner) (n k : ℕ) → 1 ≤ k → Named t o n k → n < length t
named_small t o n k l h = ⊎_elim
    (λ (b : at < length t). omega (arith, nth-le t (nth t 0 h.index) n))
    (λ (b : length t ≤ at). let z : u8 t at ≡ 0 = unfold u8 in get_or-eq_default t 0 b in absurd (omega (arith, h.kind)))
    (lt-or-ge at (length t))
  where
    at : ℕ
    at = nth t (nth t 0 h.index) n

-- A fragment's own bytes

size_same : (x y : List ℕ) → u8 x 0 ≡ u8 y 0 → size x ≡ size y
unfolding size layout_of
size_same x y e = ap (λ k. suc (get_or layouts k no).0) e

kind-own : (before f behind : List ℕ) (q : ℕ) → q < length f → u8 (before ++ (f ++ behind)) (length before + q) ≡ u8 f q
unfolding u8
kind-own before f behind q l = get_or-append-add before (f ++ behind) q 0 ∙ get_or-append f behind 0 q l

size-own : (before f behind : List ℕ) (q : ℕ) → q < length f
    → size (drop (length before + q) (before ++ (f ++ behind))) ≡ size (drop q f)
size-own before f behind q l =
    size_same _ _ (kind-behind (before ++ (f ++ behind)) (length before + q) ∙ kind-own before f behind q l ∙ sym (kind-behind f q))

pub own-bytes : (before f behind : List ℕ) (n : ℕ) → nth f 0 n < length f
    → nth (before ++ (f ++ behind)) (length before) n ≡ length before + nth f 0 n
unfolding nth
own-bytes before f behind zero h = omega arith
own-bytes before f behind (suc n) h =
    let l : nth f 0 n < length f = omega arith in
    ap (λ p. p + size (drop p (before ++ (f ++ behind)))) (own-bytes before f behind n l)
    ∙ omega (arith, size-own before f behind (nth f 0 n) l)
