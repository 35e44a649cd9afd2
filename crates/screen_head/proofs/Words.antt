-- Laws of the words of kinds: which kinds have none, and how long a word is.
use mathlib.Core.Path.{◌≡◌, refl, sym, ap}
use mathlib.Core.Logic.{⊎_elim}
use mathlib.Core.List.{List, [], ◌∷◌}
use mathlib.Core.Bool.{false, ◌||◌}
use Prim.Native.Nat.{ℕ, ◌<◌, ◌≤◌}
use native.Mathlib.Omega.{arith}
use borrow.Author.Tests.{ne_eqb}
use lib.ListN.{length, length-append, get_or-eq_default}
use lib.Dec.{T, leb, eqb, leb→le}
use Rattle.facts.proofs.Numbers.{lt-or-ge}
use Rattle.facts.proofs.Cases.{Each, below, ◌▷◌}
use Rattle.screen_number.specs.Number.{bytes, decimal}
use Rattle.screen_number.proofs.Decimal.{decimal-length}
use Rattle.screen_number.proofs.Apart.{Among, Apart, not-among}
use Rattle.screen_head.specs.Kinds.{rows, row, row_of, word, named, unknown, kind_number}
use Rattle.screen_head.specs.Head.{has_sign}

pub none-behind : (k : ℕ) → 33 ≤ k → row_of k ≡ unknown
unfolding row_of rows row
none-behind k h = get_or-eq_default rows unknown h

-- a kind that is none of those with a word has none
abbrev with_words : List ℕ
with_words =
    1 ∷ 2 ∷ 3 ∷ 4 ∷ 5 ∷ 6 ∷ 7 ∷ 8 ∷ 16 ∷ 17 ∷ 18 ∷ 19 ∷ 20 ∷ 21 ∷ 22 ∷ 23 ∷ 24 ∷ 25 ∷ 26 ∷ 27 ∷ 28 ∷ 29 ∷ 30 ∷ 31 ∷ 32 ∷ []

abbrev Wordless : ℕ → Type 0
Wordless k = (Among k with_words → ⊥) → (row_of k).name ≡ []

wordless_each : Each Wordless 0 33
unfolding row_of rows row unknown
wordless_each =
    (λ n. refl) ▷ (λ n. absurd (n tt)) ▷ (λ n. absurd (n tt)) ▷ (λ n. absurd (n tt)) ▷ (λ n. absurd (n tt)) ▷ (λ n. absurd (n tt))
    ▷ (λ n. absurd (n tt)) ▷ (λ n. absurd (n tt)) ▷ (λ n. absurd (n tt)) ▷ (λ n. refl) ▷ (λ n. refl) ▷ (λ n. refl) ▷ (λ n. refl)
    ▷ (λ n. refl) ▷ (λ n. refl) ▷ (λ n. refl) ▷ (λ n. absurd (n tt)) ▷ (λ n. absurd (n tt)) ▷ (λ n. absurd (n tt))
    ▷ (λ n. absurd (n tt)) ▷ (λ n. absurd (n tt)) ▷ (λ n. absurd (n tt)) ▷ (λ n. absurd (n tt)) ▷ (λ n. absurd (n tt))
    ▷ (λ n. absurd (n tt)) ▷ (λ n. absurd (n tt)) ▷ (λ n. absurd (n tt)) ▷ (λ n. absurd (n tt)) ▷ (λ n. absurd (n tt))
    ▷ (λ n. absurd (n tt)) ▷ (λ n. absurd (n tt)) ▷ (λ n. absurd (n tt)) ▷ (λ n. absurd (n tt)) ▷ tt

pub wordless : (k : ℕ) → Apart k with_words → word k ≡ kind_number k
unfolding word named unknown
wordless k n = ap (λ x. named k x) (⊎_elim
    (λ (l : k < 33). below Wordless 33 wordless_each k l (not-among k with_words n))
    (λ (l : 33 ≤ k). ap (λ r. r.name) (none-behind k l))
    (lt-or-ge k 33))

-- a word has 15 bytes at most, and one with a number 25
kind-number-length : (k : ℕ) → length (kind_number k) ≤ 25
unfolding kind_number bytes
kind-number-length k = omega (arith, length-append (bytes "kind-") (decimal k), decimal-length k)

abbrev Short : ℕ → Type 0
Short k = T (leb (length (row_of k).name) 15)

short-each : Each Short 0 33
unfolding row_of rows row unknown bytes
short-each =
    tt ▷ tt ▷ tt ▷ tt ▷ tt ▷ tt ▷ tt ▷ tt ▷ tt ▷ tt ▷ tt ▷ tt ▷ tt ▷ tt ▷ tt ▷ tt ▷ tt ▷ tt ▷ tt ▷ tt ▷ tt ▷ tt ▷ tt ▷ tt ▷ tt ▷ tt ▷ tt
    ▷ tt ▷ tt ▷ tt ▷ tt ▷ tt ▷ tt ▷ tt

named-length : (k : ℕ) (x : List ℕ) → length x ≤ 15 → length (named k x) ≤ 25
unfolding named
named-length k [] h = kind-number-length k
named-length k (b ∷ x) h = omega arith

pub word-length : (k : ℕ) → length (word k) ≤ 25
unfolding word named unknown
word-length k = ⊎_elim
    (λ (l : k < 33). named-length k (row_of k).name (leb→le (length (row_of k).name) 15 (below Short 33 short-each k l)))
    (λ (l : 33 ≤ k). rw (none-behind k l) (kind-number-length k))
    (lt-or-ge k 33)

-- 19 and 22 alone have a sign
abbrev Signed : ℕ → Type 0
Signed k = (eqb k 19 || eqb k 22) ≡ has_sign (row_of k).shows

signed-each : Each Signed 0 33
unfolding row_of rows row unknown has_sign
signed-each =
    refl ▷ refl ▷ refl ▷ refl ▷ refl ▷ refl ▷ refl ▷ refl ▷ refl ▷ refl ▷ refl ▷ refl ▷ refl ▷ refl ▷ refl ▷ refl ▷ refl ▷ refl ▷ refl
    ▷ refl ▷ refl ▷ refl ▷ refl ▷ refl ▷ refl ▷ refl ▷ refl ▷ refl ▷ refl ▷ refl ▷ refl ▷ refl ▷ refl ▷ tt

unknown-sign : (k : ℕ) → row_of k ≡ unknown → false ≡ has_sign (row_of k).shows
unfolding unknown has_sign
unknown-sign k e = ap (λ r. has_sign r.shows) (sym e)

pub sign_of : (k : ℕ) → (eqb k 19 || eqb k 22) ≡ has_sign (row_of k).shows
sign_of k = ⊎_elim
    (λ (l : k < 33). below Signed 33 signed-each k l)
    (λ (l : 33 ≤ k). rw (ne_eqb k 19 (λ e. omega (arith, e, l)), ne_eqb k 22 (λ e. omega (arith, e, l))) (unknown-sign k (none-behind k l)))
    (lt-or-ge k 33)
