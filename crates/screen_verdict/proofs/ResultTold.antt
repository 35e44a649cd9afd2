-- From the verdict's line the result's five numbers can be told.
use mathlib.Core.Path.{◌≡◌, refl, sym, ap, ◌∙◌}
use mathlib.Core.Logic.{⊎_elim}
use mathlib.Core.List.{List, [], ◌∷◌, ◌++◌, append_assoc}
use mathlib.Core.Bool.{Bool, true, false}
use Prim.Native.Nat.{ℕ, ◌^◌, ◌<◌}
use native.Mathlib.Omega.{arith}
use borrow.Author.Tests.{eq-eqb, ne_eqb}
use lib.Dec.{T, eqb}
use Rattle.screen_number.specs.Number.{bytes, decimal, blank}
use Rattle.screen_number.specs.Back.{is_end, token, after_token, skip, same, from, number_in, number_at}
use Rattle.screen_number.proofs.Tokens.{Word, word-plain, decimal-word, after-word, skip-word}
use Rattle.screen_verdict.specs.Sentences.{reason, fault, table_refused, no_stream_class, no_event_class}
use Rattle.screen_verdict.specs.Verdict.{unit, refused_at, listed, accepted_line, refused_line}
use Rattle.screen_verdict.specs.Told.{entries_in, first_in, second_in, told_result, ResultTold}
use Rattle.screen_verdict.proofs.Sentences.{Case, is-20, is-22, is-33, is-37, is_plain, case, is-or, reason-20, reason-33}
use Rattle.screen_verdict.proofs.Sentences.{reason-37}
use Rattle.screen_verdict.proofs.Lines.{verdict-accepted, verdict-refused}
use Rattle.screen_verdict.proofs.Digits.{told-alone, told-colon, told-semicolon, colon-word}
use Rattle.screen_verdict.proofs.Semicolons.{clean, clean-append, clean-decimal, reason-clean, last-semicolon}

abbrev next : List ℕ → List ℕ
next x = skip (after_token x)

-- A number that stands at a place of the line: the digits of it, then a blank
module _ (n p : ℕ) (hn : n < 10 ^ 20) (hp : p < 10 ^ 20) where
  accepted-parts : accepted_line n p ≡ bytes "accepted: " ++ (decimal n ++ (bytes " entries, " ++ (decimal p ++ bytes " bits\n")))
  unfolding accepted_line
  accepted-parts = simp append_assoc

  abbrev la : List ℕ
  la = bytes "accepted: " ++ (decimal n ++ (bytes " entries, " ++ (decimal p ++ bytes " bits\n")))

  accepted-1 : from 1 la ≡ decimal n ++ (bytes " entries, " ++ (decimal p ++ bytes " bits\n"))
  unfolding from skip after_token is_end bytes
  accepted-1 = skip-word (decimal n) (bytes " entries, " ++ (decimal p ++ bytes " bits\n")) (decimal-word n hn)

  accepted-2 : from 2 la ≡ bytes "entries, " ++ (decimal p ++ bytes " bits\n")
  unfolding from skip is_end bytes
  accepted-2 =
      ap (λ x. skip (after_token x)) accepted-1
      ∙ ap skip (after-word (decimal n) (bytes " entries, " ++ (decimal p ++ bytes " bits\n")) (word-plain (decimal n) (decimal-word n hn))
      refl)

  accepted-3 : from 3 la ≡ decimal p ++ bytes " bits\n"
  unfolding from skip after_token is_end bytes
  accepted-3 = ap (λ x. skip (after_token x)) accepted-2 ∙ skip-word (decimal p) (bytes " bits\n") (decimal-word p hp)

  pub accepted-told : told_result (accepted_line n p) ≡ 0 ∷ n ∷ p ∷ 0 ∷ 0 ∷ []
  unfolding told_result number_at same token is_end bytes
  accepted-told =
      let e₁ : number_at 1 la ≡ n = ap (λ x. number_in 0 (token x)) accepted-1 ∙ told-alone n hn
      (bytes "entries, " ++ (decimal p ++ bytes " bits\n")) in
      let e₃ : number_at 3 la ≡ p = ap (λ x. number_in 0 (token x)) accepted-3 ∙ told-alone p hp (bytes "bits\n") in
      ap told_result accepted-parts
      ∙ ap (λ x. 0 ∷ x ∷ number_at 3 la ∷ 0 ∷ 0 ∷ []) e₁
      ∙ ap (λ x. 0 ∷ n ∷ x ∷ 0 ∷ 0 ∷ []) e₃

-- A refusal: u is "byte" or "bit", z what stands behind the place
module _ (n p : ℕ) (hn : n < 10 ^ 20) (hp : p < 10 ^ 20) (u : List ℕ) (hu : Word u) (z : List ℕ) where
  abbrev lr : List ℕ
  lr = bytes "refused " ++ (decimal n ++ (bytes " at " ++ (u ++ (blank ∷ (decimal p ++ (58 ∷ (blank ∷ z)))))))

  refused-1 : from 1 lr ≡ decimal n ++ (bytes " at " ++ (u ++ (blank ∷ (decimal p ++ (58 ∷ (blank ∷ z))))))
  unfolding from skip after_token is_end bytes
  refused-1 = skip-word (decimal n) (bytes " at " ++ (u ++ (blank ∷ (decimal p ++ (58 ∷ (blank ∷ z)))))) (decimal-word n hn)

  refused-2 : from 2 lr ≡ bytes "at " ++ (u ++ (blank ∷ (decimal p ++ (58 ∷ (blank ∷ z)))))
  unfolding from skip is_end bytes
  refused-2 =
      ap (λ x. skip (after_token x)) refused-1
      ∙ ap skip
      (after-word (decimal n) (bytes " at " ++ (u ++ (blank ∷ (decimal p ++ (58 ∷ (blank ∷ z))))))
      (word-plain (decimal n) (decimal-word n hn)) refl)

  refused-3 : from 3 lr ≡ u ++ (blank ∷ (decimal p ++ (58 ∷ (blank ∷ z))))
  unfolding from skip after_token is_end bytes
  refused-3 = ap (λ x. skip (after_token x)) refused-2 ∙ skip-word u (blank ∷ (decimal p ++ (58 ∷ (blank ∷ z)))) hu

  refused-4 : from 4 lr ≡ decimal p ++ (58 ∷ (blank ∷ z))
  unfolding from skip is_end
  refused-4 =
      ap (λ x. skip (after_token x)) refused-3
      ∙ ap skip (after-word u (blank ∷ (decimal p ++ (58 ∷ (blank ∷ z)))) (word-plain u hu) refl)
      ∙ skip-word (decimal p) (58 ∷ (blank ∷ z)) (decimal-word p hp)

  pub refused-5 : from 5 lr ≡ skip z
  unfolding from skip is_end
  refused-5 =
      ap (λ x. skip (after_token x)) (refused-4 ∙ sym (append_assoc (decimal p) (58 ∷ []) (blank ∷ z)))
      ∙ ap skip (after-word (decimal p ++ (58 ∷ [])) (blank ∷ z) (colon-word p hp z) refl)

  pub number-told : number_at 1 lr ≡ n
  unfolding number_at bytes
  number-told = ap (λ x. number_in 0 (token x)) refused-1 ∙ told-alone n hn _

  pub place-told : number_at 4 lr ≡ p
  unfolding number_at
  place-told = ap (λ x. number_in 0 (token x)) refused-4 ∙ told-colon p hp z

  pub refused-result : told_result lr ≡ number_at 1 lr ∷ entries_in lr ∷ number_at 4 lr ∷ first_in (number_at 1 lr) lr ∷ second_in (number_at 1 lr)
      lr ∷ []
  unfolding told_result same token is_end bytes
  refused-result = refl

-- The ids of 20, 33 and 37
module _ (n p : ℕ) (hn : n < 10 ^ 20) (hp : p < 10 ^ 20) (u : List ℕ) (hu : Word u) (i j : ℕ) (hi : i < 10 ^ 20) (hj : j < 10 ^ 20)
    (t : List ℕ) where
  regroup-20 : (decimal i ++ (58 ∷ (blank ∷ [])) ++ fault i) ++ t ≡ decimal i ++ (58 ∷ (blank ∷ (fault i ++ t)))
  regroup-20 = simp append_assoc

  fault-from : from 10 (lr n p hn hp u hu (table_refused i ++ t)) ≡ decimal i ++ (58 ∷ (blank ∷ (fault i ++ t)))
  unfolding from skip after_token is_end bytes table_refused
  fault-from =
      ap (λ x. next (next (next (next (next x))))) (refused-5 n p hn hp u hu (table_refused i ++ t))
      ∙ ap skip regroup-20 ∙ skip-word (decimal i) (58 ∷ (blank ∷ (fault i ++ t))) (decimal-word i hi)

  pub fault-told : number_at 10 (lr n p hn hp u hu (table_refused i ++ t)) ≡ i
  unfolding number_at
  fault-told = ap (λ x. number_in 0 (token x)) fault-from ∙ told-colon i hi (fault i ++ t)

  stream-from : from 11 (lr n p hn hp u hu (no_stream_class i ++ (59 ∷ (blank ∷ t)))) ≡ decimal i ++ (59 ∷ (blank ∷ t))
  unfolding from skip after_token is_end bytes no_stream_class
  stream-from =
      ap (λ x. next (next (next (next (next (next x)))))) (refused-5 n p hn hp u hu (no_stream_class i ++ (59 ∷ (blank ∷ t))))
      ∙ skip-word (decimal i) (59 ∷ (blank ∷ t)) (decimal-word i hi)

  pub stream-told : number_at 11 (lr n p hn hp u hu (no_stream_class i ++ (59 ∷ (blank ∷ t)))) ≡ i
  unfolding number_at
  stream-told = ap (λ x. number_in 0 (token x)) stream-from ∙ told-semicolon i hi t

  abbrev behind-event : List ℕ
  behind-event = bytes " in stream class " ++ (decimal i ++ (59 ∷ (blank ∷ t)))

  regroup-37 : (decimal j ++ bytes " in stream class " ++ decimal i) ++ (59 ∷ (blank ∷ t)) ≡ decimal j ++ behind-event
  regroup-37 = simp append_assoc

  event-from : from 11 (lr n p hn hp u hu (no_event_class i j ++ (59 ∷ (blank ∷ t)))) ≡ decimal j ++ behind-event
  unfolding from skip after_token is_end bytes no_event_class
  event-from =
      ap (λ x. next (next (next (next (next (next x)))))) (refused-5 n p hn hp u hu (no_event_class i j ++ (59 ∷ (blank ∷ t))))
      ∙ ap skip regroup-37 ∙ skip-word (decimal j) behind-event (decimal-word j hj)

  pub event-told : number_at 11 (lr n p hn hp u hu (no_event_class i j ++ (59 ∷ (blank ∷ t)))) ≡ j
  unfolding number_at bytes
  event-told = ap (λ x. number_in 0 (token x)) event-from ∙ told-alone j hj _

  its-stream-from : from 15 (lr n p hn hp u hu (no_event_class i j ++ (59 ∷ (blank ∷ t)))) ≡ decimal i ++ (59 ∷ (blank ∷ t))
  unfolding from skip after_token is_end bytes
  its-stream-from =
      ap (λ x. next (next (next (next x)))) event-from
      ∙ ap (λ x. next (next (next (skip x)))) (after-word (decimal j) behind-event (word-plain (decimal j) (decimal-word j hj)) refl)
      ∙ skip-word (decimal i) (59 ∷ (blank ∷ t)) (decimal-word i hi)

  pub its-stream-told : number_at 15 (lr n p hn hp u hu (no_event_class i j ++ (59 ∷ (blank ∷ t)))) ≡ i
  unfolding number_at
  its-stream-told = ap (λ x. number_in 0 (token x)) its-stream-from ∙ told-semicolon i hi t

-- Which ids are looked for
module _ (n : ℕ) (x : List ℕ) where
  first-20 : n ≡ 20 → first_in n x ≡ number_at 10 x
  unfolding first_in
  first-20 e = simp (first_in, eq-eqb n 20 e)

  first-33 : n ≡ 33 → first_in n x ≡ number_at 11 x
  unfolding first_in
  first-33 e = simp (first_in, ne_eqb n 20 (λ f. omega (arith, e, f)), eq-eqb n 33 e)

  first-37 : n ≡ 37 → first_in n x ≡ number_at 15 x
  unfolding first_in
  first-37 e = simp (first_in, ne_eqb n 20 (λ f. omega (arith, e, f)), ne_eqb n 33 (λ f. omega (arith, e, f)), eq-eqb n 37 e)

  first-none : (n ≡ 20 → ⊥) → (n ≡ 33 → ⊥) → (n ≡ 37 → ⊥) → first_in n x ≡ 0
  unfolding first_in
  first-none a b c = simp (first_in, ne_eqb n 20 a, ne_eqb n 33 b, ne_eqb n 37 c)

  second-37 : n ≡ 37 → second_in n x ≡ number_at 11 x
  unfolding second_in
  second-37 e = simp (second_in, eq-eqb n 37 e)

  second_none : (n ≡ 37 → ⊥) → second_in n x ≡ 0
  unfolding second_in
  second_none h = simp (second_in, ne_eqb n 37 h)

-- The unit of the place
unit_of : Bool → List ℕ
unit_of true = bytes "byte"
unit_of false = bytes "bit"

unit-word : (b : Bool) → Word (unit_of b)
unfolding unit_of bytes is_end
unit-word true = (refl, (refl, (refl, (refl, tt))))
unit-word false = (refl, (refl, (refl, tt)))

by-unit : (b : Bool) → elim b [ true ↦ bytes " at byte " | false ↦ bytes " at bit " ] ≡ bytes " at " ++ (unit_of b ++ (blank ∷ []))
unfolding unit_of bytes
by-unit true = refl
by-unit false = refl

unit-parts : (n : ℕ) → unit n ≡ bytes " at " ++ (unit_of (eqb n 20) ++ (blank ∷ []))
unfolding unit
unit-parts n = by-unit (eqb n 20)

by-clean : (b : Bool) → T (clean (elim b [ true ↦ bytes " at byte " | false ↦ bytes " at bit " ]))
unfolding clean bytes
by-clean true = tt
by-clean false = tt

unit-clean : (n : ℕ) → T (clean (unit n))
unfolding unit
unit-clean n = by-clean (eqb n 20)

literal-clean : T (clean (bytes "refused ")) × T (clean (bytes ": "))
unfolding clean bytes
literal-clean = (tt, tt)

refused-clean : (n p : ℕ) → T (clean (refused_at n (unit n) p))
unfolding refused_at
refused-clean n p =
    clean-append (bytes "refused " ++ decimal n ++ unit n ++ decimal p) (bytes ": ")
    (clean-append (bytes "refused " ++ decimal n ++ unit n) (decimal p)
    (clean-append (bytes "refused " ++ decimal n) (unit n)
    (clean-append (bytes "refused ") (decimal n) literal-clean.0 (clean-decimal n))
    (unit-clean n))
    (clean-decimal p))
    literal-clean.1

regroup : (r d a u b p c w s e t : List ℕ)
    → (r ++ d ++ (a ++ (u ++ b)) ++ p ++ c) ++ w ++ (s ++ e ++ t) ≡ r ++ (d ++ (a ++ (u ++ (b ++ (p ++ (c ++ (w ++ (s ++ (e ++ t)))))))))
regroup r d a u b p c w s e t = simp append_assoc

-- The line of a refusal
module _ (n e p i j : ℕ) (hn : n < 10 ^ 20) (he : e < 10 ^ 20) (hp : p < 10 ^ 20) (hi : i < 10 ^ 20) (hj : j < 10 ^ 20) where
  abbrev u : List ℕ
  u = unit_of (eqb n 20)

  abbrev hu : Word u
  hu = unit-word (eqb n 20)

  abbrev rest : List ℕ
  rest = decimal e ++ bytes " entries\n"

  abbrev with : List ℕ → List ℕ
  with w = lr n p hn hp u hu (w ++ (59 ∷ (blank ∷ rest)))

  line-parts : refused_line n e p i j ≡ with (reason n p i j)
  unfolding refused_line refused_at listed bytes
  line-parts =
      ap (λ v. (bytes "refused " ++ decimal n ++ v ++ decimal p ++ bytes ": ") ++ reason n p i
      j ++ (bytes "; " ++ decimal e ++ bytes " entries\n"))
      (unit-parts n)
      ∙ regroup (bytes "refused ") (decimal n) (bytes " at ") u (blank ∷ []) (decimal p) (bytes ": ") (reason n p i j) (bytes "; ")
      (decimal e)
      (bytes " entries\n")

  rest-clean : T (clean (blank ∷ rest))
  unfolding clean bytes
  rest-clean = clean-append (decimal e) (bytes " entries\n") (clean-decimal e) tt

  entries-told : entries_in (refused_line n e p i j) ≡ e
  unfolding entries_in refused_line listed bytes skip
  entries-told =
      ap (λ x. number_in 0 (token (skip x)))
      (last-semicolon (refused_at n (unit n) p ++ reason n p i j) (blank ∷ rest)
      (clean-append (refused_at n (unit n) p) (reason n p i j) (refused-clean n p) (reason-clean n p i j)) rest-clean)
      ∙ ap (λ x. number_in 0 (token x)) (skip-word (decimal e) (bytes " entries\n") (decimal-word e he))
      ∙ told-alone e he (bytes "entries\n")

  -- the ids, by the number
  pub IdsFor : Type 0
  IdsFor = (first_in n (with (reason n p i j)) ≡ i) × (second_in n (with (reason n p i j)) ≡ j)

  ids : Case n → ((n ≡ 20 → ⊥) → (n ≡ 33 → ⊥) → (n ≡ 37 → ⊥) → i ≡ 0) → ((n ≡ 37 → ⊥) → j ≡ 0) → IdsFor
  unfolding IdsFor
  ids (is-20 q) f s = (
    ap (λ w. first_in n (with w)) (sym (reason-20 n p i j q)) ∙ first-20 n _ q ∙ fault-told n p hn hp u hu i j hi hj (59 ∷ (blank ∷ rest)),
    second_none n _ (λ r. omega (arith, q, r)) ∙ sym (s (λ r. omega (arith, q, r))),
  )
  ids (is-22 q) f s = (
    first-none n _ (λ r. omega (arith, q, r)) (λ r. omega (arith, q, r)) (λ r. omega (arith, q, r))
        ∙ sym (f (λ r. omega (arith, q, r)) (λ r. omega (arith, q, r)) (λ r. omega (arith, q, r))),
    second_none n _ (λ r. omega (arith, q, r)) ∙ sym (s (λ r. omega (arith, q, r))),
  )
  ids (is-33 q) f s = (
    ap (λ w. first_in n (with w)) (sym (reason-33 n p i j q)) ∙ first-33 n _ q ∙ stream-told n p hn hp u hu i j hi hj rest,
    second_none n _ (λ r. omega (arith, q, r)) ∙ sym (s (λ r. omega (arith, q, r))),
  )
  ids (is-37 q) f s = (
    ap (λ w. first_in n (with w)) (sym (reason-37 n p i j q)) ∙ first-37 n _ q ∙ its-stream-told n p hn hp u hu i j hi hj rest,
    ap (λ w. second_in n (with w)) (sym (reason-37 n p i j q)) ∙ second-37 n _ q ∙ event-told n p hn hp u hu i j hi hj rest,
  )
  ids (is_plain a b c d) f s = (first-none n _ a c d ∙ sym (f a c d), second_none n _ d ∙ sym (s d))

  pub refused-told : ((n ≡ 20 → ⊥) → (n ≡ 33 → ⊥) → (n ≡ 37 → ⊥) → i ≡ 0) → ((n ≡ 37 → ⊥) → j ≡ 0)
      → told_result (refused_line n e p i j) ≡ n ∷ e ∷ p ∷ i ∷ j ∷ []
  unfolding IdsFor
  refused-told f s =
      let l = with (reason n p i j) in
      let z = reason n p i j ++ (59 ∷ (blank ∷ rest)) in
      let e₁ : number_at 1 l ≡ n = number-told n p hn hp u hu z in
      let e₂ : entries_in l ≡ e = ap entries_in (sym line-parts) ∙ entries-told in
      let e₃ : number_at 4 l ≡ p = place-told n p hn hp u hu z in
      let k = ids (case n) f s in
      ap told_result line-parts ∙ refused-result n p hn hp u hu z
      ∙ ap (λ x. x ∷ entries_in l ∷ number_at 4 l ∷ first_in x l ∷ second_in x l ∷ []) e₁
      ∙ ap (λ x. n ∷ x ∷ number_at 4 l ∷ first_in n l ∷ second_in n l ∷ []) e₂
      ∙ ap (λ x. n ∷ e ∷ x ∷ first_in n l ∷ second_in n l ∷ []) e₃
      ∙ ap (λ x. n ∷ e ∷ p ∷ x ∷ second_in n l ∷ []) k.0
      ∙ ap (λ x. n ∷ e ∷ p ∷ i ∷ x ∷ []) k.1

five-same : (a b c d : ℕ) (x y : ℕ) → a ≡ 0 → x ≡ 0 → y ≡ 0 → 0 ∷ c ∷ d ∷ 0 ∷ 0 ∷ [] ≡ a ∷ c ∷ d ∷ x ∷ y ∷ []
five-same a b c d x y p q r = cc

pub result-told : ResultTold
result-told r h = ⊎_elim
    (λ (z : r.number ≡ 0).
    ap told_result (sym (verdict-accepted r z)) ∙ accepted-told r.entries r.place (omega (arith, h.entries)) (omega (arith, h.place))
    ∙ five-same r.number 0 r.entries r.place r.first r.second z
    (h.no-first (λ f. omega (arith, z, f)) (λ f. omega (arith, z, f)) (λ f. omega (arith, z, f)))
    (h.no_second (λ f. omega (arith, z, f))))
    (λ (z : r.number ≡ 0 → ⊥).
    ap told_result (sym (verdict-refused r z))
    ∙ refused-told r.number r.entries r.place r.first r.second
    (omega (arith, h.number)) (omega (arith, h.entries)) (omega (arith, h.place)) (omega (arith, h.first)) (omega (arith, h.second))
    h.no-first h.no_second)
    (is-or r.number 0)
