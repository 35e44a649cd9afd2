-- A line's pieces, one behind the other, are the line.
use mathlib.Core.Path.{◌≡◌, refl, sym, ap, ◌∙◌}
use mathlib.Core.List.{List, [], ◌++◌, append-nil, append_assoc}
use mathlib.Core.Bool.{Bool, true, false}
use Prim.Native.Nat.{ℕ, zero, suc, ◌+◌, ◌-◌, ◌*◌, ◌/◌, ◌%◌, ◌≤◌}
use native.Mathlib.Omega.{arith}
use lib.ListN.{length}
use Rattle.screen_number.specs.Number.{bytes}
use Rattle.screen_head.specs.Kinds.{Shows, plain, signed, as_hex, as_float, as_seconds, as_text, as_bytes, row_of}
use Rattle.screen_head.specs.Head.{Five, head}
use Rattle.screen_text.specs.Escape.{part, quoted}
use Rattle.screen_text.proofs.Texts.{part-append}
use Rattle.screen_text.proofs.Texts as texts
use Rattle.screen_line.specs.Line.{line, bytes_of, meaning}
use Rattle.screen_line.specs.Pieces.{sort_of, sort_of_kind, is_text, text_part, piece, pieces, joined}
use Rattle.screen_line.specs.Promised.{LineJoined}
use Rattle.screen_line.proofs.Parts.{part-whole, part-last, piece-opens, piece-behind}
use Rattle.screen_line.proofs.Parts.{piece-text, piece-only, pieces-text, pieces-one}
use borrow.Author.Tests.{eqb-true}

joined-suc : (s : List ℕ) (f : ℕ) (e : Five) (n : ℕ) → joined s f e (suc n) ≡ joined s f e n ++ piece s f e n
unfolding joined
joined-suc s f e n = refl

joined-none : (s : List ℕ) (f : ℕ) (e : Five) → joined s f e 0 ≡ []
unfolding joined
joined-none s f e = refl

-- of a line that shows no text
one_piece : (s : List ℕ) (f : ℕ) (e : Five) → is_text e ≡ false → joined s f e 1 ≡ line s f e
one_piece s f e h =
    joined-suc s f e 0 ∙ ap (λ x. x ++ piece s f e 0) (joined-none s f e) ∙ sym (piece-only s f e 0 h refl)

module _ (s : List ℕ) (f : ℕ) (e : Five) (h : is_text e ≡ true) where
  abbrev t : List ℕ
  t = bytes_of s e

  abbrev opened : List ℕ
  opened = head e ++ bytes "  \""

  first : joined s f e 1 ≡ opened
  first =
      joined-suc s f e 0 ∙ ap (λ x. x ++ piece s f e 0) (joined-none s f e) ∙ sym (piece-opens e t 0 refl ∙ piece-text s f e 0 h)

  behind : (k : ℕ) → text_part t k ≡ piece s f e (suc k)
  behind k =
      let z : suc k - 1 ≡ k = omega arith in
      ap (λ j. text_part t j) (sym z) ∙ piece-behind e t (suc k) (λ q. omega (arith, q)) ∙ piece-text s f e (suc k) h

  so_far : (k : ℕ) → k ≤ length t / 32 → joined s f e (suc k) ≡ opened ++ part t 0 (32 * k)
  so_far zero l = first ∙ sym (ap (λ x. opened ++ x) (texts.part_none t 0) ∙ append-nil opened)
  so_far (suc k) l =
      let a : 32 * suc k ≡ 32 * k + 32 = omega arith in
      let b : 0 + 32 * k ≡ 32 * k = omega arith in
      joined-suc s f e (suc k)
      ∙ ap (λ x. x ++ piece s f e (suc k)) (so_far k (omega arith))
      ∙ ap (λ x. opened ++ part t 0 (32 * k) ++ x) (sym (part-whole t k (omega arith) ∙ behind k))
      ∙ append_assoc opened (part t 0 (32 * k)) (part t (32 * k) 32)
      ∙ ap (λ x. opened ++ x) (ap (λ j. part t 0 (32 * k) ++ part t j 32) (sym b) ∙ part-append t 0 (32 * k) 32)
      ∙ ap (λ j. opened ++ part t 0 j) (sym a)

  all-parts : joined s f e (length t / 32 + 2) ≡ opened ++ (part t 0 (length t) ++ bytes "\"\n")
  all-parts =
      let k = length t / 32 in
      let n : k + 2 ≡ suc (suc k) = omega arith in
      let b : 0 + 32 * k ≡ 32 * k = omega arith in
      let w : 32 * k + length t % 32 ≡ length t = omega arith in
      ap (λ j. joined s f e j) n
      ∙ joined-suc s f e (suc k)
      ∙ ap (λ x. x ++ piece s f e (suc k)) (so_far k (omega arith))
      ∙ ap (λ x. opened ++ part t 0 (32 * k) ++ x) (sym (part-last t k refl ∙ behind k))
      ∙ append_assoc opened (part t 0 (32 * k)) (part t (32 * k) (length t % 32) ++ bytes "\"\n")
      ∙ ap (λ x. opened ++ x)
      (sym (append_assoc (part t 0 (32 * k)) (part t (32 * k) (length t % 32)) (bytes "\"\n"))
      ∙ ap (λ x. x ++ bytes "\"\n")
      (ap (λ j. part t 0 (32 * k) ++ part t j (length t % 32)) (sym b) ∙ part-append t 0 (32 * k) (length t % 32)
      ∙ ap (λ j. part t 0 j) w))

  shows-text : (g : Shows) → sort_of g ≡ 4 → meaning g s f e ≡ bytes "  " ++ quoted t
  unfolding sort_of meaning
  shows-text plain z = absurd (omega (arith, z))
  shows-text signed z = absurd (omega (arith, z))
  shows-text as_hex z = absurd (omega (arith, z))
  shows-text as_float z = absurd (omega (arith, z))
  shows-text as_seconds z = absurd (omega (arith, z))
  shows-text as_text z = refl
  shows-text as_bytes z = absurd (omega (arith, z))

  is-four : sort_of (row_of e.kind).shows ≡ 4
  unfolding is_text sort_of_kind
  is-four = eqb-true _ _ h

  whole : line s f e ≡ opened ++ (part t 0 (length t) ++ bytes "\"\n")
  unfolding line quoted bytes
  whole =
      ap (λ x. head e ++ (x ++ bytes "\n")) (shows-text (row_of e.kind).shows is-four)
      ∙ simp append_assoc

  pub text-joined : joined s f e (pieces s e) ≡ line s f e
  text-joined = ap (λ j. joined s f e j) (sym (pieces-text s e h)) ∙ all-parts ∙ sym whole

by : (s : List ℕ) (f : ℕ) (e : Five) (b : Bool) → is_text e ≡ b → joined s f e (pieces s e) ≡ line s f e
by s f e true h = text-joined s f e h
by s f e false h = ap (λ j. joined s f e j) (sym (pieces-one s e h)) ∙ one_piece s f e h

pub line-joined : LineJoined
line-joined s f e = by s f e (is_text e) refl
