-- Laws of the last semicolon: no sentence and no number has one, so that it stands before the count of entries.
use mathlib.Core.Path.{◌≡◌, refl, sym, ap, subst, ◌∙◌}
use mathlib.Core.Logic.{⊎_elim}
use mathlib.Core.List.{List, [], ◌∷◌, ◌++◌, append-nil}
use mathlib.Core.Bool.{Bool, true, false}
use Prim.Native.Nat.{ℕ, ◌-◌, ◌<◌, ◌≤◌}
use native.Mathlib.Omega.{arith}
use borrow.Author.Tests.{ne_eqb}
use lib.ListN.{get_or}
use lib.Dec.{T, eqb}
use Rattle.facts.proofs.Numbers.{lt-or-ge}
use Rattle.facts.proofs.Cases.{Each, below, ◌▷◌}
use Rattle.screen_number.specs.Number.{bytes, decimal}
use Rattle.screen_verdict.specs.Sentences.{no_words, faults, fault, plain_reasons, plain_reason, reason}
use Rattle.screen_verdict.specs.Sentences.{table_refused, bound_crossed, no_stream_class, no_event_class}
use Rattle.screen_verdict.specs.Told.{behind_semicolon}
use Rattle.screen_verdict.proofs.Sentences.{Case, is-20, is-22, is-33, is-37, is_plain, case, fault-behind, plain-behind}
use Rattle.screen_verdict.proofs.Sentences.{reason-20, reason-22, reason-33, reason-37, reason-plain}
use Rattle.screen_verdict.proofs.Digits.{Digits, decimal-digits}

unfoldable pub clean : List ℕ → Bool
clean [] = true
clean (b ∷ x) = elim (eqb b 59) [ true ↦ false | false ↦ clean x ]

-- one byte that is none; and that the rest has none
no-semicolon : (t : Bool) (x : List ℕ) → T (elim t [ true ↦ false | false ↦ clean x ]) → (t ≡ false) × T (clean x)
no-semicolon true x h = absurd h
no-semicolon false x h = (refl, h)

on : (found x : List ℕ) (b : ℕ) → eqb b 59 ≡ false → behind_semicolon found (b ∷ x) ≡ behind_semicolon found x
unfolding behind_semicolon
on found x b e = simp (behind_semicolon, e)

pub passed : (found x y : List ℕ) → T (clean x) → behind_semicolon found (x ++ y) ≡ behind_semicolon found y
unfolding clean
passed found [] y h = refl
passed found (b ∷ x) y h =
    let s = no-semicolon (eqb b 59) x h in
    on found (x ++ y) b s.0 ∙ passed found x y s.1

found_here : (found y : List ℕ) → behind_semicolon found (59 ∷ y) ≡ behind_semicolon y y
unfolding behind_semicolon
found_here found y = refl

found-end : (found : List ℕ) → behind_semicolon found [] ≡ found
unfolding behind_semicolon
found-end found = refl

pub last-semicolon : (x y : List ℕ) → T (clean x) → T (clean y) → behind_semicolon [] (x ++ (59 ∷ y)) ≡ y
last-semicolon x y h k =
    passed [] x (59 ∷ y) h ∙ found_here [] y ∙ ap (behind_semicolon y) (sym (append-nil y)) ∙ passed y y [] k ∙ found-end y

-- joined, and of digits
clean-on : (b : ℕ) (x : List ℕ) → eqb b 59 ≡ false → T (clean x) → T (clean (b ∷ x))
unfolding clean
clean-on b x e h = subst (λ t. T (elim t [ true ↦ false | false ↦ clean x ])) (sym e) h

pub clean-append : (x y : List ℕ) → T (clean x) → T (clean y) → T (clean (x ++ y))
unfolding clean
clean-append [] y h k = k
clean-append (b ∷ x) y h k =
    let s = no-semicolon (eqb b 59) x h in
    clean-on b (x ++ y) s.0 (clean-append x y s.1 k)

clean-digits : (x : List ℕ) → Digits x → T (clean x)
unfolding clean
clean-digits [] d = tt
clean-digits (b ∷ x) d = clean-on b x (ne_eqb b 59 (λ e. omega (arith, e, d.0.1))) (clean-digits x d.1)

pub clean-decimal : (n : ℕ) → T (clean (decimal n))
clean-decimal n = clean-digits (decimal n) (decimal-digits n)

-- of sentences
abbrev CleanFault : ℕ → Type 0
CleanFault n = T (clean (fault n))

faults-clean : Each CleanFault 0 16
unfolding clean fault faults no_words bytes
faults-clean = tt ▷ tt ▷ tt ▷ tt ▷ tt ▷ tt ▷ tt ▷ tt ▷ tt ▷ tt ▷ tt ▷ tt ▷ tt ▷ tt ▷ tt ▷ tt ▷ tt

none-clean : T (clean no_words)
unfolding clean no_words bytes
none-clean = tt

fault-clean : (n : ℕ) → T (clean (fault n))
fault-clean n = ⊎_elim
    (λ (l : n < 16). below CleanFault 16 faults-clean n l)
    (λ (l : 16 ≤ n). rw (← (fault-behind n l)) none-clean)
    (lt-or-ge n 16)

abbrev CleanPlain : ℕ → Type 0
CleanPlain n = T (clean (get_or plain_reasons n no_words))

plain-each : Each CleanPlain 0 22
unfolding clean plain_reasons no_words bytes
plain-each =
    tt ▷ tt ▷ tt ▷ tt ▷ tt ▷ tt ▷ tt ▷ tt ▷ tt ▷ tt ▷ tt ▷ tt ▷ tt ▷ tt ▷ tt ▷ tt ▷ tt ▷ tt ▷ tt ▷ tt ▷ tt ▷ tt ▷ tt

plain-clean : (n : ℕ) → T (clean (plain_reason n))
unfolding plain_reason
plain-clean n = ⊎_elim
    (λ (l : n - 20 < 22). below CleanPlain 22 plain-each (n - 20) l)
    (λ (l : 22 ≤ n - 20). rw (← (plain-behind n (omega arith))) none-clean)
    (lt-or-ge (n - 20) 22)

clean-20 : (i : ℕ) → T (clean (table_refused i))
unfolding table_refused clean bytes
clean-20 i = clean-append (decimal i ++ bytes ": ") (fault i) (clean-append (decimal i) (bytes ": ") (clean-decimal i) tt) (fault-clean i)

clean-22 : (p : ℕ) → T (clean (bound_crossed p))
unfolding bound_crossed clean bytes
clean-22 p = clean-decimal p

clean-33 : (i : ℕ) → T (clean (no_stream_class i))
unfolding no_stream_class clean bytes
clean-33 i = clean-decimal i

clean-37 : (i j : ℕ) → T (clean (no_event_class i j))
unfolding no_event_class clean bytes
clean-37 i j =
    clean-append (decimal j ++ bytes " in stream class ") (decimal i)
    (clean-append (decimal j) (bytes " in stream class ") (clean-decimal j) tt) (clean-decimal i)

by-case : (n p i j : ℕ) → Case n → T (clean (reason n p i j))
by-case n p i j (is-20 e) = rw (← (reason-20 n p i j e)) (clean-20 i)
by-case n p i j (is-22 e) = rw (← (reason-22 n p i j e)) (clean-22 p)
by-case n p i j (is-33 e) = rw (← (reason-33 n p i j e)) (clean-33 i)
by-case n p i j (is-37 e) = rw (← (reason-37 n p i j e)) (clean-37 i j)
by-case n p i j (is_plain a b c d) = rw (← (reason-plain n p i j a b c d)) (plain-clean n)

pub reason-clean : (n p i j : ℕ) → T (clean (reason n p i j))
reason-clean n p i j = by-case n p i j (case n)
