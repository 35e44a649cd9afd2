-- The loops over the fragments: what stays of those passed, and those ahead. In order: the walk, which both loops make; its steps; the
-- buffer of the one that copies.
use mathlib.Core.Path.{◌≡◌, refl, sym, ap, ◌∙◌}
use Prim.Native.Nat.{ℕ, zero, suc, ◌+◌, ◌-◌, ◌≤◌, ◌<◌}
use native.Mathlib.Nat.{zero-add}
use native.Mathlib.Omega.{arith}
use mathlib.Core.Logic.{⊎_elim}
use mathlib.Core.List.{List, [], ◌∷◌, ◌++◌, append_assoc, append-nil}
use lib.ListN.{length, take, drop, length-append, length-take, length-drop}
use lib.Seq.{drop-drop, take_at, drop_at, paste}
use borrow.Author.Tests.{lt-ltb}
use Rattle.facts.proofs.Numbers.{lt-or-ge}
use Rattle.class_layout.specs.Fragments.{behind_fragment, fragments_from, fragments_of, All}
use Rattle.class_layout.specs.Sizes.{SizedFragment, Sized}
use Rattle.class_layout.proofs.Walked.{none_left}
use Rattle.bundle_table.specs.Kept.{kept_one, kept_from, kept}
use Rattle.bundle_table.proofs.One.{take_own, one-bytes, one-within}

-- what stays is `done`, which has n bytes, and then what stays of the fragments os
pub record Walked (t s m os : List ℕ) (n : ℕ) (done : List ℕ) : Type 0 where
  pub each : All (SizedFragment t s) os
  pub split : kept t m ≡ done ++ kept_from t m os
  pub size : n ≡ length done

-- one fragment, and those behind it
record Step (t s m rest : List ℕ) (at n : ℕ) (done : List ℕ) : Type 0 where
  here : SizedFragment t s at
  fits : n + length (kept_one t m at) ≤ length (kept t m)
  next : Walked t s m rest (n + length (kept_one t m at)) (done ++ kept_one t m at)

module _ {t s m : List ℕ} where
  pub walk_start : {n : ℕ} {os : List ℕ} → Sized t s → os ≡ fragments_of t → n ≡ length (take 2 t) → Walked t s m os n (take 2 t)
  unfolding kept
  walk_start h e k = record { each = rw e h.each; split = rw e refl; size = k }

  step : {at n : ℕ} {done os rest : List ℕ} → Walked t s m os n done → os ≡ at ∷ rest → Step t s m rest at n done
  unfolding kept_from
  step {at} {n} {done} {os} {rest} h e =
      let one = kept_one t m at in
      let w : All (SizedFragment t s) (at ∷ rest) = rw e at h.each in
      let k : kept t m ≡ done ++ (one ++ kept_from t m rest) = h.split ∙ ap (λ os. done ++ kept_from t m os) e in
      record {
        here = w.0;
        fits = omega (arith, ap length k, length-append done (one ++ kept_from t m rest), length-append one (kept_from t m rest), h.size);
        next = record {
          each = w.1;
          split = k ∙ sym (append_assoc done one (kept_from t m rest));
          size = omega (arith, h.size, length-append done one);
        };
      }

  pub walk_here : {at n : ℕ} {done os rest : List ℕ} → Walked t s m os n done → os ≡ at ∷ rest → SizedFragment t s at
  walk_here h e = (step h e).here

  pub walk-fits : {at n k : ℕ} {done os rest : List ℕ} → Walked t s m os n done → os ≡ at ∷ rest → k ≡ length (kept_one t m at)
      → (n + k ≤ length (kept t m)) × (at + k ≤ length t)
  walk-fits {at} h e k =
      let f = (step h e).here.stands in
      (omega (arith, k, (step h e).fits), omega (arith, k, one-within t m at f, f.within))

  pub walk-next : {at n k : ℕ} {done os rest : List ℕ} → Walked t s m os n done → os ≡ at ∷ rest → k ≡ length (kept_one t m at)
      → Walked t s m rest (n + k) (done ++ kept_one t m at)
  walk-next h e k = rw k (step h e).next

  -- behind the last one
  pub walk_end : {n : ℕ} {done os : List ℕ} → Walked t s m os n done → os ≡ [] → kept t m ≡ done
  unfolding kept_from
  walk_end {n} {done} h e = h.split ∙ ap (λ os. done ++ kept_from t m os) e ∙ append-nil done

  pub walk-some : {n : ℕ} {done os : List ℕ} → Walked t s m os n done → n ≤ length (kept t m)
  walk-some {n} {done} {os} h = omega (arith, h.size, ap length h.split, length-append done (kept_from t m os))

-- What stays is no longer than the table

module _ (t s m : List ℕ) where
  from-within : (n at : ℕ) → All (SizedFragment t s) (fragments_from n t at)
      → length (kept_from t m (fragments_from n t at)) ≤ length t - at
  unfolding fragments_from kept_from
  from-within zero at w = omega arith
  from-within (suc n) at w = ⊎_elim
      (λ (l : at < length t).
      let b = lt-ltb at (length t) l in
      let os = fragments_from n t (behind_fragment t at) in
      let w₁ : All (SizedFragment t s) (at ∷ os) = rw (b, fragments_from) at w in
      let f = w₁.0.stands in
      let k : length (kept_one t m at ++ kept_from t m os) ≤ length t - at =
      omega (
        arith,
        length-append (kept_one t m at) (kept_from t m os),
        one-within t m at f,
        from-within n (behind_fragment t at) w₁.1,
        f.within,
      ) in
      rw (b, fragments_from) k)
      (λ (l : length t ≤ at). rw (none_left t at (suc n) l) (omega arith))
      (lt-or-ge at (length t))

  pub kept-within : Sized t s → length (kept t m) ≤ length t
  unfolding kept fragments_of
  kept-within h =
      omega (
        arith,
        length-append (take 2 t) (kept_from t m (fragments_of t)),
        length-take 2 t,
        from-within (length t - 2) 2 h.each,
      )

-- What `kept_length` keeps

pub record Counting (t s m os : List ℕ) (count : ℕ) : Type 0 where
  pub done : List ℕ
  pub walked : Walked t s m os count done

module _ {t s m : List ℕ} where
  pub count-start : {n : ℕ} {os : List ℕ} → Sized t s → os ≡ fragments_of t → n ≡ length (take 2 t) → Counting t s m os n
  count-start h e k = record { done = take 2 t; walked = walk_start h e k }

  pub count_next : {at n k : ℕ} {os rest : List ℕ} → Counting t s m os n → os ≡ at ∷ rest → k ≡ length (kept_one t m at)
      → Counting t s m rest (n + k)
  count_next {at} h e k = record { done = h.done ++ kept_one t m at; walked = walk-next h.walked e k }

  pub count-end : {n : ℕ} {os : List ℕ} → Counting t s m os n → os ≡ [] → n ≡ length (kept t m)
  count-end h e = h.walked.size ∙ ap length (sym (walk_end h.walked e))

-- What `copy_kept` keeps: what stays of the fragments passed stands in front, and behind it the buffer is as it was before the first

pub record Copying (t s m old out os : List ℕ) (to : ℕ) : Type 0 where
  pub done : List ℕ
  pub walked : Walked t s m os to done
  pub list : out ≡ done ++ drop to old

-- behind some bytes in its front a buffer is the old one
behind-front : (x old out : List ℕ) (n k : ℕ) → n ≡ length x → out ≡ x ++ drop n old → n ≤ k → drop k out ≡ drop k old
behind-front x old out n k e h l =
    let rest : drop n out ≡ drop n old = ap (drop n) h ∙ drop_at x (drop n old) n (sym e) in
    let far : n + (k - n) ≡ k = omega arith in
    rw far at (sym (drop-drop (k - n) n out) ∙ ap (drop (k - n)) rest ∙ drop-drop (k - n) n old)

-- e bytes of y are put behind them
pasted : (x old out y : List ℕ) (n e : ℕ) → n ≡ length x → out ≡ x ++ drop n old → paste out n y e ≡ (x ++ take e y) ++ drop (n + e) old
pasted x old out y n e k h =
    let front : take n out ≡ x = ap (take n) h ∙ take_at x (drop n old) n (sym k) in
    let far : drop (n + e) out ≡ drop (n + e) old = behind-front x old out n (n + e) k h (omega arith) in
    rw (front, far)

-- the preamble is put into an old buffer; it has n bytes
pub record Begun (t old out : List ℕ) (n : ℕ) : Type 0 where
  pub size : n ≡ length (take 2 t)
  pub list : out ≡ take 2 t ++ drop n old

pub begun : {n : ℕ} (t old out : List ℕ) → n ≡ length (take 2 t) → out ≡ paste old 0 (drop 0 t) n → Begun t old out n
begun {n} t old out e k =
    let own : take n t ≡ take 2 t = ap (λ i. take i t) e ∙ take_own 2 t in
    record { size = e; list = k ∙ rw (zero-add n, own) }

-- what stays begins with the preamble
first_fits : (t m : List ℕ) → length (take 2 t) ≤ length (kept t m)
unfolding kept
first_fits t m = omega (arith, length-append (take 2 t) (kept_from t m (fragments_of t)))

pub preamble-fits : {n room : ℕ} (t m : List ℕ) → n ≡ length (take 2 t) → length (kept t m) ≤ room → (0 + n ≤ length t) × (0 + n ≤ room)
preamble-fits t m e l = (omega (arith, e, length-take 2 t), omega (arith, e, first_fits t m))

module _ {t s m : List ℕ} where
  pub copy_start : {n : ℕ} {old out os : List ℕ} → Sized t s → os ≡ fragments_of t → Begun t old out n → Copying t s m out out os n
  copy_start {n} {old} {out} h e b = record {
    done = take 2 t;
    walked = walk_start h e b.size;
    list = b.list ∙ ap (λ y. take 2 t ++ y) (sym (behind-front (take 2 t) old out n n b.size b.list (omega arith)));
  }

  pub copy-next : {old out out' os rest : List ℕ} {at to k : ℕ} → Copying t s m old out os to → os ≡ at ∷ rest
      → k ≡ length (kept_one t m at) → out' ≡ paste out to (drop at t) k → Copying t s m old out' rest (to + k)
  copy-next {old} {out} {out'} {os} {rest} {at} {to} {k} h e q r =
      let bytes : take k (drop at t) ≡ kept_one t m at = ap (λ n. take n (drop at t)) q ∙ one-bytes t m at in
      record {
        done = h.done ++ kept_one t m at;
        walked = walk-next h.walked e q;
        list = r ∙ pasted h.done old out (drop at t) to k h.walked.size h.list ∙ rw bytes;
      }

  -- the buffer keeps its length
  pub copy-length : {old first out os : List ℕ} {n to : ℕ} → length (kept t m) ≤ length old → Begun t old first n
      → Copying t s m first out os to → length out ≡ length old
  copy-length {old} {first} {out} {os} {n} {to} l b h =
      let few : n ≤ length old = omega (arith, b.size, first_fits t m) in
      let some : to ≤ length old = omega (arith, walk-some h.walked) in
      let was : length first ≡ length old =
      ap length b.list ∙ omega (arith, length-append (take 2 t) (drop n old), length-drop n old, b.size) in
      ap length h.list ∙ omega (arith, length-append h.done (drop to first), length-drop to first, h.walked.size)

  pub copy-end : {old first out os : List ℕ} {n to : ℕ} → os ≡ [] → Begun t old first n → Copying t s m first out os to
      → out ≡ kept t m ++ drop (length (kept t m)) old
  copy-end {old} {first} {out} {os} {n} {to} e b h =
      let all : kept t m ≡ h.done = walk_end h.walked e in
      let size : to ≡ length (kept t m) = h.walked.size ∙ ap length (sym all) in
      let low : n ≤ length (kept t m) = omega (arith, b.size, first_fits t m) in
      let rest = behind-front (take 2 t) old first n (length (kept t m)) b.size b.list low in
      h.list ∙ rw (← all, size) (ap (λ y. kept t m ++ y) rest)
