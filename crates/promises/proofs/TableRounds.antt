-- The rounds of the table's loop are enough: each fragment takes a byte or more.
use mathlib.Core.Path.{◌≡◌, refl, ap}
use Prim.Native.Nat.{ℕ, zero, suc, ◌+◌, ◌≤◌}
use native.Mathlib.Omega.{arith}
use native.Mathlib.Nat.{suc-add}
use mathlib.Core.List.{List, [], ◌∷◌}
use mathlib.Core.Bool.{Bool, true, false}
use lib.ListN.{length, length-drop}
use lib.Dec.{ltb}
use Rattle.rules.specs.Record.{Record, unknown, fragment, root, class, range, option, record_of, behind, size, layout_of}
use Rattle.rules.specs.Table.{Table}
use Rattle.rules.specs.Parse.{Parsed, bad, good, Parser, then, sound, missing, one, parse_roots, no_table}
use Rattle.rules.specs.Parse.{root_numbers, is_timed, has_uuid, add, parse_fragment, parse_opened, parse_fragments}
use Rattle.rules.specs.Faults.{pick, Ids, record_fault, open_fault, seen}
use Rattle.laws.proofs.Law.{Any}
use Rattle.laws.proofs.Accepted.{Tells, Yields, yields-roots}

-- behind a record there are fewer bytes
pub behind-less : (x : List ℕ) (n : ℕ) → missing x ≡ false → length x ≤ suc n → length (behind x) ≤ n
unfolding missing behind size
behind-less [] n h k = let z : ◌≡◌ {A = ℕ} 0 1 = cc in absurd (omega arith)
behind-less (b ∷ x) n h k = rw (length-drop (layout_of (b ∷ x)).0 x) (omega arith)

less-on : (n : ℕ) (x : List ℕ) → length x ≤ n → length (behind x) ≤ n
unfolding behind
less-on n x h = rw (length-drop (size x) x) (omega arith)

shorter : (n : ℕ) → Tells Any (λ r. Any) Any (λ y. length y ≤ n)
shorter n = record { bits = λ k a b. tt; slots = λ r i h. tt; values = λ x y g e k l. tt; on = less-on n }

then-agree : {A B : Type 0} (n : ℕ) (P : A → Type 0) (o : Parsed A) (F F' : A → Parser B)
    → Yields (shorter n) P o
    → ((a : A) (x : List ℕ) → length x ≤ n → F a x ≡ F' a x) → then o F ≡ then o F'
unfolding then
then-agree n P (bad k x) F F' h k' = refl
then-agree n P (good a x) F F' h k' = k' a x h.1

one-agree : {A : Type 0} (q : Ids) (more : Record → ℕ) (f f' : Record → Parser A) (x : List ℕ)
    → f (record_of x) (behind x) ≡ f' (record_of x) (behind x) → one q more f x ≡ one q more f' x
unfolding one
one-agree {A} q more f f' x h = by (pick (missing x) 3 (record_fault (ltb (length x) (size x)) q (record_of x) (more (record_of x))))
  where
    by : (v : ℕ) → sound v x (f (record_of x)) ≡ sound v x (f' (record_of x))
    by zero = unfold sound in h
    by (suc v) = unfold sound in refl

opened-agree : (n : ℕ) (q : Ids) (F F' : Ids → Parser Table) → ((q : Ids) (x : List ℕ) → length x ≤ n → F q x ≡ F' q x)
    → (r : Record) (x : List ℕ) → length x ≤ n
    → parse_opened q F r x ≡ parse_opened q F' r x
unfolding parse_opened parse_fragment
opened-agree n q F F' h unknown x l = refl
opened-agree n q F F' h (fragment g) x l =
    then-agree n _ (parse_roots (seen q g) (is_timed g) (has_uuid g) (root_numbers g) x) _ _
    (yields-roots (shorter n) (seen q g) (is_timed g) (has_uuid g) (root_numbers g) x l)
    (λ cs y k. ap (λ o. then o (λ t x. good (add g cs t) x)) (h (seen q g) y k))
opened-agree n q F F' h (root r) x l = refl
opened-agree n q F F' h (class y) x l = refl
opened-agree n q F F' h (range s a b) x l = refl
opened-agree n q F F' h (option k) x l = refl

-- as many rounds as there are bytes left are enough
pub table-rounds : (left more : ℕ) (q : Ids) (x : List ℕ) → length x ≤ left → parse_fragments (left + more) q x ≡ parse_fragments left q x
unfolding parse_fragments missing
table-rounds zero more q [] h = by (zero + more)
  where
    by : (k : ℕ) → parse_fragments k q [] ≡ good no_table []
    by zero = refl
    by (suc k) = refl
table-rounds zero more q (b ∷ x) h = absurd (omega arith)
table-rounds (suc left) more q x h = rw suc-add (by (missing x) refl (λ q y k. table-rounds left more q y k))
  where
    -- a round with n more behind it, by whether x is at its end
    round : ℕ → Bool → Parsed Table
    round n b = elim b [ true ↦ good no_table x | false ↦ one q (open_fault q) (λ r x. parse_opened q (parse_fragments n) r x) x ]

    by : (b : Bool) → missing x ≡ b
        → ((q : Ids) (y : List ℕ) → length y ≤ left → parse_fragments (left + more) q y ≡ parse_fragments left q y)
        → round (left + more) b ≡ round left b
    by true e rec = refl
    by false e rec = one-agree q (open_fault q) _ _ x (opened-agree left q _ _ rec (record_of x) (behind x) (behind-less x left e h))
