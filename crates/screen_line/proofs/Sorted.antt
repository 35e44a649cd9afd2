-- Laws of what is shown of a kind, by the number of its sort. In order: the table by kind; a text or not; the meaning by the number.
use mathlib.Core.Path.{◌≡◌, refl, sym, ap, ◌∙◌}
use mathlib.Core.List.{List, [], ◌∷◌, ◌++◌}
use mathlib.Core.Bool.{true, false}
use Prim.Native.Nat.{ℕ, ◌<◌, ◌≤◌}
use borrow.Author.Tests.{eq-eqb, ne_eqb}
use lib.ListN.{length, get_or-eq_default}
use Rattle.facts.proofs.Cases.{Each, below, ◌▷◌}
use Rattle.screen_number.specs.Number.{bytes}
use Rattle.screen_head.specs.Kinds.{Shows, plain, signed, as_hex, as_float, as_seconds, as_text, as_bytes, row_of, rows, unknown}
use Rattle.screen_head.specs.Head.{Five, five}
use Rattle.screen_number.proofs.Apart.{Among, Apart, not-among}
use Rattle.facts.proofs.Numbers.{lt-or-ge}
use native.Mathlib.Omega.{arith}
use mathlib.Core.Logic.{⊎_elim}
use Rattle.screen_line.specs.declared.meant.Sort.{Sort}
use Rattle.screen_line.specs.declared.meant.Sort.TheVariants.{Nothing, Hex, Float, Seconds, Text, Bytes}
use Rattle.screen_meaning.specs.Bytes.{blob}
use Rattle.screen_meaning.specs.Seconds.{seconds}
use Rattle.screen_line.specs.Line.{meaning, bytes_of, clock_meaning, blob_meaning}
use Rattle.screen_line.specs.Pieces.{sort_of, sort_of_kind, is_text}
use Rattle.screen_line.specs.Sorts.{short_meaning, from_seconds, number_of, sorts}

sort-above : (k : ℕ) → 33 ≤ k → 0 ≡ sort_of_kind k
unfolding sorts
sort-above k h = rw (get_or-eq_default rows unknown {n = k} h)

-- a kind that is none of these has nothing behind its numbers
abbrev sorted : List ℕ
sorted = 6 ∷ 16 ∷ 20 ∷ 23 ∷ 24 ∷ 25 ∷ 26 ∷ 27 ∷ []

abbrev Sortless : ℕ → Type 0
Sortless k = (Among k sorted → ⊥) → 0 ≡ sort_of_kind k

sortless_each : Each Sortless 0 33
unfolding sorts
sortless_each =
    (λ n. refl) ▷ (λ n. refl) ▷ (λ n. refl) ▷ (λ n. refl) ▷ (λ n. refl) ▷ (λ n. refl) ▷ (λ n. absurd (n tt)) ▷ (λ n. refl) ▷
    (λ n. refl) ▷ (λ n. refl) ▷ (λ n. refl) ▷ (λ n. refl) ▷ (λ n. refl) ▷ (λ n. refl) ▷ (λ n. refl) ▷ (λ n. refl) ▷
    (λ n. absurd (n tt)) ▷ (λ n. refl) ▷ (λ n. refl) ▷ (λ n. refl) ▷ (λ n. absurd (n tt)) ▷ (λ n. refl) ▷ (λ n. refl) ▷
    (λ n. absurd (n tt)) ▷ (λ n. absurd (n tt)) ▷ (λ n. absurd (n tt)) ▷ (λ n. absurd (n tt)) ▷ (λ n. absurd (n tt)) ▷ (λ n. refl) ▷
    (λ n. refl) ▷ (λ n. refl) ▷ (λ n. refl) ▷ (λ n. refl) ▷ tt

pub sortless : (k : ℕ) → Apart k sorted → 0 ≡ sort_of_kind k
sortless k n = ⊎_elim
    (λ (l : k < 33). below Sortless 33 sortless_each k l (not-among k sorted n))
    (λ (l : 33 ≤ k). sort-above k l)
    (lt-or-ge k 33)

-- a text or not
pub is-text : (e : Five) (n : ℕ) → n ≡ sort_of_kind e.kind → n ≡ 4 → is_text e ≡ true
unfolding is_text
is-text e n h k = eq-eqb (sort_of_kind e.kind) 4 (sym h ∙ k)

no_text : (e : Five) (n : ℕ) → n ≡ sort_of_kind e.kind → (n ≡ 4 → ⊥) → is_text e ≡ false
unfolding is_text
no_text e n h k = ne_eqb (sort_of_kind e.kind) 4 (λ z. k (h ∙ z))

text-number : (o : Sort) → number_of o ≡ 4 → o ≡ Text
text-number Nothing e = absurd (omega (arith, e))
text-number Hex e = absurd (omega (arith, e))
text-number Float e = absurd (omega (arith, e))
text-number Seconds e = absurd (omega (arith, e))
text-number Text e = refl
text-number Bytes e = absurd (omega (arith, e))

pub not-text : (e : Five) (o : Sort) → number_of o ≡ sort_of_kind e.kind → (o ≡ Text → ⊥) → is_text e ≡ false
not-text e o h n = no_text e (number_of o) h (λ z. n (text-number o z))

-- the meaning of what is no text
by-sort : (h : Shows) (s : List ℕ) (f : ℕ) (e : Five) → (sort_of h ≡ 4 → ⊥) → short_meaning (sort_of h) s f e ≡ meaning h s f e
unfolding short_meaning from_seconds sort_of meaning
by-sort plain s f e n = refl
by-sort signed s f e n = refl
by-sort as_hex s f e n = refl
by-sort as_float s f e n = refl
by-sort as_seconds s f e n = refl
by-sort as_text s f e n = absurd (n refl)
by-sort as_bytes s f e n = refl

pub meant-by : (s : List ℕ) (f : ℕ) (e : Five) (n : ℕ) → n ≡ sort_of_kind e.kind → (n ≡ 4 → ⊥)
    → short_meaning n s f e ≡ meaning (row_of e.kind).shows s f e
unfolding sort_of_kind
meant-by s f e n h k = ap (λ j. short_meaning j s f e) h ∙ by-sort (row_of e.kind).shows s f e (λ z. k (h ∙ z))

-- a clock and a BLOB
pub no-clock-meant : (f v : ℕ) → f ≡ 0 → [] ≡ clock_meaning f v
unfolding clock_meaning
no-clock-meant f v h = simp (clock_meaning, eq-eqb f 0 h)

pub clock-meant : (f v : ℕ) → (f ≡ 0 → ⊥) → bytes "  " ++ seconds f v ≡ clock_meaning f v
unfolding clock_meaning
clock-meant f v h = simp (clock_meaning, ne_eqb f 0 h)

pub no-blob-meant : (b : List ℕ) → length b ≡ 0 → [] ≡ blob_meaning b
unfolding blob_meaning
no-blob-meant b h = simp (blob_meaning, eq-eqb (length b) 0 h)

pub blob-meant : (b : List ℕ) → (length b ≡ 0 → ⊥) → bytes "  " ++ blob b ≡ blob_meaning b
unfolding blob_meaning
blob-meant b h = simp (blob_meaning, ne_eqb (length b) 0 h)

-- kind and number do not matter to it beside the sort
pub same-meaning : (n : ℕ) (s : List ℕ) (f : ℕ) (e : Five) → short_meaning n s f (five 0 e.place e.bits e.value 0) ≡ short_meaning n s f e
unfolding short_meaning from_seconds bytes_of
same-meaning n s f e = refl
