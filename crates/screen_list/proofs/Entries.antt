-- An entry's line from a piece on: what of it is left behind what is put, that it fits, and where it stops. Then laws of what the code's
-- functions answer of an entry.
use mathlib.Core.Path.{◌≡◌, refl, ap, ◌∙◌}
use mathlib.Core.Logic.{⊎_elim}
use mathlib.Core.List.{List, [], ◌++◌}
use mathlib.Core.Bool.{Bool, true, false}
use Prim.Native.Nat.{ℕ, ◌+◌, ◌-◌, ◌/◌, ◌<◌, ◌≤◌}
use native.Mathlib.Omega.{arith}
use borrow.Author.Tests.{lt-ltb, le-ltb, eq-eqb, ne_eqb, leb-true, leb-false}
use lib.ListN.{length}
use lib.Seq.{sets}
use lib.Dec.{leb}
use Rattle.facts.proofs.Numbers.{lt-or-ge}
use Rattle.rules.specs.Limits.{words_per_entry}
use Rattle.rules.specs.Entry.{stream_class_found}
use Rattle.screen_clock.specs.Frequency.{frequency_of}
use Rattle.screen_head.specs.Head.{Five, five}
use Rattle.screen_line.specs.Line.{bytes_of}
use Rattle.screen_line.specs.Pieces.{pieces, is_text}
use Rattle.screen_list.specs.declared.Put.{Put}
use Rattle.screen_list.specs.Lines.{entries_in, settled}
use Rattle.screen_list.specs.Rest.{rest_of, pieces_from}
use Rattle.screen_list.specs.Fill.{laid_to, laid_text, put_to, put_text}
use Rattle.screen_list.proofs.Pieces.{laid-rest, laid-stops, laid-fits, pieces_none}

module _ (t s : List ℕ) (e : Five) (room used k f : ℕ) where
  pub put_rest : put_text t s e room used k f ++ rest_of s (settled t f e) e (put_to t s e room used k f).piece ≡ rest_of s (settled t f e) e k
  unfolding put_text put_to rest_of
  put_rest = laid-rest s (settled t f e) e room (pieces s e - k) (pieces s e) used k refl

  pub put-used : (put_to t s e room used k f).used ≡ used + length (put_text t s e room used k f)
  unfolding put_to
  put-used = refl

  pub put-frequency : (put_to t s e room used k f).frequency ≡ settled t f e
  unfolding put_to
  put-frequency = refl

  pub put-fits : used ≤ room → (put_to t s e room used k f).used ≤ room
  unfolding put_to put_text
  put-fits h = laid-fits s (settled t f e) e room (pieces s e - k) used k h

  pub put_whole : (put_to t s e room used k f).whole ≡ true → rest_of s (settled t f e) e (put_to t s e room used k f).piece ≡ []
  unfolding put_to rest_of
  put_whole h =
      let j = laid_to (pieces s e - k) s (settled t f e) e room used k in
      let z : pieces s e - j ≡ 0 = omega (arith, leb-true (pieces s e) j h) in
      ap (λ n. pieces_from n s (settled t f e) e j) z ∙ pieces_none s (settled t f e) e j

  pub put-part : (put_to t s e room used k f).whole ≡ false → room - (put_to t s e room used k f).used < 256
  unfolding put_to put_text
  put-part h =
      laid-stops s (settled t f e) e room (pieces s e - k) (pieces s e) used k refl
      (leb-false (pieces s e) (laid_to (pieces s e - k) s (settled t f e) e room used k) h)

-- how many entries
pub entries-words : (words n : ℕ) → words / words_per_entry < n → words / words_per_entry ≡ entries_in words n
unfolding entries_in
entries-words words n h = simp (entries_in, lt-ltb (words / words_per_entry) n h)

pub entries-asked : (words n : ℕ) → n ≤ words / words_per_entry → n ≡ entries_in words n
unfolding entries_in
entries-asked words n h = simp (entries_in, le-ltb (words / words_per_entry) n h)

pub entries-most : (words n : ℕ) → entries_in words n ≤ words / words_per_entry
entries-most words n = ⊎_elim
    (λ (h : words / words_per_entry < n). omega (arith, entries-words words n h))
    (λ (h : n ≤ words / words_per_entry). omega (arith, entries-asked words n h))
    (lt-or-ge (words / words_per_entry) n)

-- the frequency
pub settled-anew : (t : List ℕ) (f : ℕ) (e : Five) → e.kind ≡ stream_class_found → frequency_of t e.value ≡ settled t f e
unfolding settled
settled-anew t f e h = simp (settled, eq-eqb e.kind stream_class_found h)

pub settled_before : (t : List ℕ) (f : ℕ) (e : Five) → (e.kind ≡ stream_class_found → ⊥) → f ≡ settled t f e
unfolding settled
settled_before t f e h = simp (settled, ne_eqb e.kind stream_class_found h)

-- what `pieces` and `settle` answer by some of the words is so by all of them
pub pieces-by : (s : List ℕ) (e : Five) → pieces s (five e.kind e.place 0 e.value 0) ≡ pieces s e
unfolding pieces is_text bytes_of
pieces-by s e = refl

pub settled-by : (t : List ℕ) (f : ℕ) (e : Five) → settled t f (five e.kind 0 0 e.value 0) ≡ settled t f e
unfolding settled
settled-by t f e = refl

-- what the code makes of its callees' answers
abbrev put_of : ℕ → ℕ → ℕ → Bool → Put
put_of k u f w = record { piece = k; used = u; frequency = f; whole = w }

put_same : {k k' u u' f f' : ℕ} {w w' : Bool} → k ≡ k' → u ≡ u' → f ≡ f' → w ≡ w' → put_of k u f w ≡ put_of k' u' f' w'
put_same m n o p = cc

module _ (t s l l' : List ℕ) (u k f g p to end : ℕ) (e : Five) where
  abbrev text : ℕ → ℕ → List ℕ
  text n z = laid_text (n - k) s z e (length l) u k

  pub entry-put : g ≡ settled t f e → p ≡ pieces s e
      → ((to ≡ laid_to (p - k) s g e (length l) u k) × (end ≡ u + length (text p g))) × (l' ≡ sets l u (text p g))
      → (put_of to end g (leb p to) ≡ put_to t s e (length l) u k f) × (l' ≡ sets l u (put_text t s e (length l) u k f))
  unfolding put_to put_text
  entry-put a b h =
      let x : text p g ≡ text (pieces s e) (settled t f e) = ap (λ j. text j g) b ∙ ap (λ z. text (pieces s e) z) a in
      let y : to ≡ laid_to (pieces s e - k) s (settled t f e) e (length l) u k =
      h.0.0 ∙ ap (λ j. laid_to (j - k) s g e (length l) u k) b ∙ ap (λ z. laid_to (pieces s e - k) s z e (length l) u k) a
      in (
        put_same y (h.0.1 ∙ ap (λ z. u + length z) x) a (ap (λ z. leb z to) b ∙ ap (λ z. leb (pieces s e) z) y),
        h.1 ∙ ap (λ z. sets l u z) x,
      )
