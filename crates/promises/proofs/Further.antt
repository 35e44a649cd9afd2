-- What stayed of a table and is cut again, by tests that keep all that stayed, is as it was: record by record.
use mathlib.Core.Path.{◌≡◌, refl, sym, ap, ◌∙◌}
use Prim.Native.Nat.{ℕ, zero, suc, ◌≤◌, ◌<◌}
use native.Mathlib.Omega.{arith}
use native.Mathlib.Nat.{le_refl}
use mathlib.Core.List.{List, [], ◌∷◌, ◌++◌, append-nil}
use mathlib.Core.Bool.{Bool, true, false}
use lib.ListN.{length, take, drop, drop_of_length-le}
use lib.Seq.{take_all}
use lib.Dec.{ltb}
use borrow.Author.Tests.{ltb-true, ltb-false}
use Rattle.facts.proofs.Truth.{clash}
use Rattle.rules.specs.Record.{Record, unknown, fragment, root, class, range, option, record_of, size, behind}
use Rattle.rules.specs.Record.{preamble, trace_class, clock_class, stream_class, event_class}
use Rattle.rules.specs.Parse.{missing}
use Rattle.rules.specs.Edition.{both, stays, part, leave_records, leave}
use Rattle.promises.proofs.Local.{first-whole, first-record}
use Rattle.promises.proofs.Edited.{keep_if, left, left-whole}

-- no bytes: nothing is left
left-nil : (ks : ℕ → Bool) (ke : ℕ → ℕ → Bool) (n : ℕ) (now : Bool) → leave_records ks ke n now [] ≡ []
unfolding leave_records missing
left-nil ks ke zero now = refl
left-nil ks ke (suc n) now = refl

behind-nil : (x : List ℕ) → length x < size x → behind x ≡ []
unfolding behind
behind-nil x h = drop_of_length-le x {i = size x} (omega arith)

-- ts and te keep what ks and ke kept
pub record Keeps (ks : ℕ → Bool) (ke : ℕ → ℕ → Bool) (ts : ℕ → Bool) (te : ℕ → ℕ → Bool) : Type 0 where
  pub streams : (i : ℕ) → ks i ≡ true → ts i ≡ true
  pub events : (i j : ℕ) → both ks ke i j ≡ true → both ts te i j ≡ true

-- a record that stays, in front of what else stays; the last one may be short
module _ (ts : ℕ → Bool) (te : ℕ → ℕ → Bool) (now : Bool) where
  whole-stays : (x z : List ℕ) → missing x ≡ false → stays ts te now (record_of x) ≡ true → size x ≤ length x
      → left ts te now (take (size x) x ++ z) ≡ take (size x) x ++ left ts te true z
  unfolding keep_if
  whole-stays x z there s fits =
      left-whole ts te now (take (size x) x) z (first-whole x there fits) ∙ rw (first-record x there fits, s) refl

  short-stays : (n : ℕ) (x : List ℕ) → length x ≤ n → missing x ≡ false → stays ts te now (record_of x) ≡ true → length x < size x
      → leave_records ts te n now x ≡ x
  unfolding leave_records part missing
  short-stays zero [] l there s short = refl
  short-stays zero (a ∷ x) l there s short = absurd (omega arith)
  short-stays (suc n) [] l there s short = refl
  short-stays (suc n) (a ∷ x) l there s short =
      rw (s, behind-nil (a ∷ x) short, left-nil ts te n true)
      (append-nil (take (size (a ∷ x)) (a ∷ x)) ∙ take_all (size (a ∷ x)) (a ∷ x) (omega arith))

  short-left : (x : List ℕ) → missing x ≡ false → stays ts te now (record_of x) ≡ true → length x < size x → left ts te now x ≡ x
  unfolding left
  short-left x there s short = short-stays (length x) x (le_refl (length x)) there s short

module _ (ks : ℕ → Bool) (ke : ℕ → ℕ → Bool) (ts : ℕ → Bool) (te : ℕ → ℕ → Bool) (h : Keeps ks ke ts te) where
  stays-still : (now now' : Bool) → (now ≡ true → now' ≡ true) → (r : Record) → stays ks ke now r ≡ true → stays ts te now' r ≡ true
  unfolding stays
  stays-still now now' f unknown s = f s
  stays-still now now' f (fragment (preamble v)) s = refl
  stays-still now now' f (fragment (trace_class u l)) s = refl
  stays-still now now' f (fragment (clock_class i c)) s = refl
  stays-still now now' f (fragment (stream_class i c)) s = h.streams i s
  stays-still now now' f (fragment (event_class i j)) s = h.events i j s
  stays-still now now' f (root r) s = f s
  stays-still now now' f (class y) s = f s
  stays-still now now' f (range g l k) s = f s
  stays-still now now' f (option n) s = f s

  -- n rounds, and what is left of what they left
  abbrev Still : ℕ → Type 0
  Still n = (now now' : Bool) → (now ≡ true → now' ≡ true) → (x : List ℕ)
      → left ts te now' (leave_records ks ke n now x) ≡ leave_records ks ke n now x

  module _ (n : ℕ) (rec : Still n) (now now' : Bool) (f : now ≡ true → now' ≡ true) (x : List ℕ) (there : missing x ≡ false) where
    abbrev others : Bool → List ℕ
    others s = leave_records ks ke n s (behind x)

    record-stays : stays ks ke now (record_of x) ≡ true → left ts te now' (take (size x) x ++ others true) ≡ take (size x) x ++ others true
    record-stays s = by (ltb (length x) (size x)) refl
      where
        s' : stays ts te now' (record_of x) ≡ true
        s' = stays-still now now' f (record_of x) s

        by : (b : Bool) → ltb (length x) (size x) ≡ b → left ts te now' (take (size x) x ++ others true) ≡ take (size x) x ++ others true
        by true e =
            let short : length x < size x = ltb-true _ _ e in
            let none : others true ≡ [] = ap (leave_records ks ke n true) (behind-nil x short) ∙ left-nil ks ke n true in
            let all : take (size x) x ++ others true ≡ x = rw none (append-nil (take (size x) x) ∙ take_all (size x) x (omega arith)) in
            ap (left ts te now') all ∙ short-left ts te now' x there s' short ∙ sym all
        by false e =
            whole-stays ts te now' x (others true) there s' (ltb-false _ _ e)
            ∙ ap (λ z. take (size x) x ++ z) (rec true true (λ q. q) (behind x))

    record-still : (s : Bool) → stays ks ke now (record_of x) ≡ s → left ts te now' (part ks ke s x ++ others s) ≡ part ks ke s x ++ others s
    unfolding part
    record-still true e = record-stays e
    record-still false e = rec false now' (λ q. absurd (clash q)) (behind x)

  still : (n : ℕ) → Still n
  unfolding leave_records
  still zero now now' f x = unfold left in refl
  still (suc n) now now' f x = by (still n) (missing x) refl
    where
      round : Bool → List ℕ
      round b = elim b [
        | true ↦ []
        | false ↦ part ks ke (stays ks ke now (record_of x)) x ++ leave_records ks ke n (stays ks ke now (record_of x)) (behind x)
      ]

      by : Still n → (b : Bool) → missing x ≡ b → left ts te now' (round b) ≡ round b
      by rec true e = unfold left in refl
      by rec false e = record-still n rec now now' f x e (stays ks ke now (record_of x)) refl

  pub leave-again : (x : List ℕ) → leave ts te (leave ks ke x) ≡ leave ks ke x
  unfolding leave left
  leave-again x = still (length x) true true (λ q. q) x
