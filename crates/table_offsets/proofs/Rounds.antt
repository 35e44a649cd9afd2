-- The walk over fragments: one round; that as many rounds as bytes are enough; a turn of the code's loop.
use Rattle.std.specs.Prelude.{Ok, Err, Result}
use Rattle.rules.specs.Verdict.{table_fault}
use Rattle.rules.specs.declared.TableFault.{TableFault}
use Rattle.rules.specs.declared.ByteLength.{ByteLength}
use mathlib.Core.Path.{◌≡◌, refl, sym, ◌∙◌}
use mathlib.Core.Bool.{Bool, true, false}
use mathlib.Core.List.{List}
use Prim.Native.Nat.{ℕ, zero, suc, ◌+◌, ◌-◌, ◌<◌, ◌≤◌}
use native.Mathlib.Omega.{arith}
use borrow.Author.Tests.{lt-ltb, le-ltb, ltb-true, ltb-false}
use lib.Dec.{ltb}
use lib.ListN.{length, get_or, set}
use Rattle.rules.specs.Place.{byte_length}
use Rattle.table_offsets.specs.Check.{or_refused, fragments_at, lowest, latest, roots_of, fragment_fault}
use Rattle.table_offsets.specs.Check.{seen_with, traced, counted, then_checked}
use Rattle.table_offsets.specs.Walks.{Walk, Fine, Bad}
use Rattle.table_offsets.proofs.Descent.{less}
use Rattle.table_offsets.proofs.FragmentOpens.{FragmentOpens, opens, fragment-end, seen_more, seen-length}
use Rattle.table_offsets.proofs.Places.{latest-length}

module _ (t : List ℕ) (trace : Bool) (seen : List ℕ) (at : ℕ) (more : at < length t) where
  fragments-on : (left : ℕ) → 0 < left → fragments_at left t trace seen at
      ≡ or_refused (fragment_fault t trace seen (length seen) at) at
      (then_checked (roots_of t at (get_or t at 0))
      (λ m p. Err (table_fault (lowest t (traced trace (get_or t at 0)) (seen_with at (get_or t at 0) seen) m p) (byte_length p)))
      (λ e. fragments_at (left - 1) t (traced trace (get_or t at 0)) (seen_with at (get_or t at 0) seen) e))
  unfolding fragments_at
  fragments-on zero h = absurd (omega arith)
  fragments-on (suc left) h = let e : suc left - 1 ≡ left = omega arith in simp (lt-ltb _ _ more, e, fragments_at)

  fragments-stop : (left n : ℕ) → 0 < left → n ≡ fragment_fault t trace seen (length seen) at → (n ≡ 0 → ⊥)
      → fragments_at left t trace seen at ≡ Err (table_fault n (byte_length at))
  unfolding or_refused
  fragments-stop left zero h e z = absurd (z refl)
  fragments-stop left (suc n) h e z = fragments-on left h ∙ rw (← e)

  fragments-bad : (left m p : ℕ) → 0 < left → fragment_fault t trace seen (length seen) at ≡ 0 → roots_of t at (get_or t at 0) ≡ Bad m p
      → fragments_at left t trace seen at
      ≡ Err (table_fault (lowest t (traced trace (get_or t at 0)) (seen_with at (get_or t at 0) seen) m p) (byte_length p))
  unfolding or_refused then_checked
  fragments-bad left m p h e w = fragments-on left h ∙ rw (e, w)

  fragments-fine : (left e : ℕ) → 0 < left → fragment_fault t trace seen (length seen) at ≡ 0 → roots_of t at (get_or t at 0) ≡ Fine e
      → fragments_at left t trace seen at ≡ fragments_at (left - 1) t (traced trace (get_or t at 0)) (seen_with at (get_or t at 0) seen) e
  unfolding or_refused then_checked
  fragments-fine left e h z w = fragments-on left h ∙ rw (z, w)

fragments-none : (left : ℕ) (t : List ℕ) (trace : Bool) (seen : List ℕ) (at : ℕ) → length t ≤ at
    → fragments_at left t trace seen at ≡ Ok (byte_length (length t))
unfolding fragments_at
fragments-none zero t trace seen at h = refl
fragments-none (suc left) t trace seen at h = simp (le-ltb _ _ h, fragments_at)

-- two numbers of rounds, both enough

agree : (n at : ℕ) (w : Walk) (g : ℕ → ℕ → Result ByteLength TableFault) (f f' : ℕ → Result ByteLength TableFault) → (n ≡ 0 → (e : ℕ) → w ≡ Fine e → f e ≡ f' e)
    → or_refused n at (then_checked w g f) ≡ or_refused n at (then_checked w g f')
unfolding or_refused then_checked
agree zero at (Fine e) g f f' h = h refl e refl
agree zero at (Bad m p) g f f' h = refl
agree (suc n) at w g f f' h = refl

round : (m k : ℕ) (t : List ℕ)
    → ((trace : Bool) (seen : List ℕ) (at : ℕ) → length seen ≤ 512 → length t ≤ at + k → k ≤ m
    → fragments_at m t trace seen at ≡ fragments_at k t trace seen at)
    → (trace : Bool) (seen : List ℕ) (at : ℕ) → length seen ≤ 512 → length t ≤ at + suc k → suc k ≤ suc m → (b : Bool)
    → ltb at (length t) ≡ b
    → fragments_at (suc m) t trace seen at ≡ fragments_at (suc k) t trace seen at
round m k t ih trace seen at s h l true e =
    let more : at < length t = ltb-true _ _ e in
    fragments-on t trace seen at more (suc m) (omega arith)
    ∙ agree _ at _ _ _ _
    (λ z x w.
    let o : FragmentOpens t (length seen) at = opens t trace seen (length seen) at s _ refl z in
    let p = fragment-end t (length seen) at x o w in
    rw (less m, less k)
    (ih (traced trace (get_or t at 0)) (seen_with at (get_or t at 0) seen) x (omega (arith, o.few, seen-length at (get_or t at 0) seen))
    (omega (arith, p.0))
    (omega arith)))
    ∙ sym (fragments-on t trace seen at more (suc k) (omega arith))
round m k t ih trace seen at s h l false e =
    let none : length t ≤ at = ltb-false _ _ e in
    fragments-none (suc m) t trace seen at none ∙ sym (fragments-none (suc k) t trace seen at none)

rounds : (m k : ℕ) (t : List ℕ) (trace : Bool) (seen : List ℕ) (at : ℕ) → length seen ≤ 512 → length t ≤ at + k → k ≤ m
    → fragments_at m t trace seen at ≡ fragments_at k t trace seen at
rounds zero zero t trace seen at s h l = refl
rounds zero (suc k) t trace seen at s h l = absurd (omega arith)
rounds (suc m) zero t trace seen at s h l =
    fragments-none (suc m) t trace seen at (omega arith) ∙ sym (fragments-none zero t trace seen at (omega arith))
rounds (suc m) (suc k) t trace seen at s h l =
    round m k t (λ tr sn a x y z. rounds m k t tr sn a x y z) trace seen at s h l (ltb at (length t)) refl

-- a turn of the code's loop: w is the whole check, and the first n places of xs are the fragments so far

module _ (w : Result ByteLength TableFault) (t : List ℕ) (trace : Bool) (xs : List ℕ) (n at : ℕ)
    (so_far : w ≡ fragments_at (length t - at) t trace (latest xs n) at) where
  pub turn-none : length t ≤ at → Ok (byte_length (length t)) ≡ w
  turn-none h = sym (so_far ∙ fragments-none (length t - at) t trace (latest xs n) at h)

  module _ (more : at < length t) (f : ℕ) (asked : f ≡ fragment_fault t trace (latest xs n) n at) where
    pub turn-stop : (f ≡ 0 → ⊥) → Err (table_fault f (byte_length at)) ≡ w
    turn-stop z =
        sym (so_far ∙ fragments-stop t trace (latest xs n) at more (length t - at) f (omega arith) (rw (latest-length xs n) asked) z)

    module _ (fine : f ≡ 0) (few : n ≤ 512) (size : length xs ≡ 513) (tr : Bool) (c : ℕ) (same-trace : tr ≡ traced trace (get_or t at 0))
        (same_count : c ≡ counted (get_or t at 0)) (r : Walk) (walked : r ≡ roots_of t at (get_or t at 0)) where
      none : fragment_fault t trace (latest xs n) (length (latest xs n)) at ≡ 0
      none = rw (latest-length xs n) (sym asked ∙ fine)

      now-seen : latest (set xs n at) (n + c) ≡ seen_with at (get_or t at 0) (latest xs n)
      now-seen = rw same_count (seen_more xs n at (get_or t at 0) (omega arith))

      pub turn-bad : (m p l : ℕ) → r ≡ Bad m p → l ≡ lowest t tr (latest (set xs n at) (n + c)) m p → Err (table_fault l (byte_length p)) ≡ w
      turn-bad m p l b e =
          sym
          (so_far
          ∙ fragments-bad t trace (latest xs n) at more (length t - at) m p (omega arith) none (sym walked ∙ b)
          ∙ rw (e, same-trace, now-seen))

      pub turn-fine : (e : ℕ) → r ≡ Fine e → w ≡ fragments_at (length t - e) t tr (latest (set xs n at) (n + c)) e
      turn-fine e b =
          let o = opens t trace (latest xs n) n at few f asked fine in
          let p = fragment-end t n at e o (sym walked ∙ b) in
          so_far
          ∙ fragments-fine t trace (latest xs n) at more (length t - at) e (omega arith) none (sym walked ∙ b)
          ∙ rounds (length t - at - 1) (length t - e) t (traced trace (get_or t at 0)) (seen_with at (get_or t at 0) (latest xs n)) e
          (omega (arith, o.few, seen-length at (get_or t at 0) (latest xs n), latest-length xs n)) (omega (arith, p.0))
          (omega (arith, p.0))
          ∙ rw (same-trace, now-seen)
