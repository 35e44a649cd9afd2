-- Pieces of a line laid while there is room: branch by branch; what of the line is left behind them; where they stop; that they fit. Then
-- the turns of the code's loop.
use mathlib.Core.Path.{◌≡◌, refl, sym, ap, subst, ◌∙◌}
use mathlib.Core.List.{List, [], ◌++◌, append-nil, append_assoc}
use mathlib.Core.Bool.{Bool, true, false}
use Prim.Native.Nat.{ℕ, zero, suc, ◌+◌, ◌-◌, ◌<◌, ◌≤◌}
use native.Mathlib.Omega.{arith}
use borrow.Author.Tests.{lt-ltb, le-ltb, ltb-true, ltb-false}
use lib.ListN.{length, length-append}
use lib.Seq.{sets, length-sets}
use Rattle.screen_number.proofs.Laid.{sets-append}
use Rattle.screen_head.specs.Head.{Five}
use Rattle.screen_line.specs.Pieces.{piece, pieces, joined}
use Rattle.screen_line.specs.Line.{line}
use Rattle.screen_line.proofs.Rooms.{piece-length}
use Rattle.screen_line.proofs.Joined.{line-joined}
use Rattle.screen_list.specs.Rest.{pieces_from, rest_of}
use Rattle.screen_list.specs.Fill.{full, laid_to, laid_text}

pub is-full : (room used : ℕ) → room - used < 256 → full room used ≡ true
unfolding full
is-full room used h = lt-ltb (room - used) 256 h

pub not_full : (room used : ℕ) → 256 ≤ room - used → full room used ≡ false
unfolding full
not_full room used h = le-ltb (room - used) 256 h

full_is : (room used : ℕ) → full room used ≡ true → room - used < 256
unfolding full
full_is room used h = ltb-true (room - used) 256 h

full-not : (room used : ℕ) → full room used ≡ false → 256 ≤ room - used
unfolding full
full-not room used h = ltb-false (room - used) 256 h

-- pieces from the first on are the line
pieces-suc : (n : ℕ) (s : List ℕ) (f : ℕ) (e : Five) (k : ℕ) → pieces_from (suc n) s f e k ≡ piece s f e k ++ pieces_from n s f e (k + 1)
unfolding pieces_from
pieces-suc n s f e k = refl

pub pieces_none : (s : List ℕ) (f : ℕ) (e : Five) (k : ℕ) → pieces_from 0 s f e k ≡ []
unfolding pieces_from
pieces_none s f e k = refl

joined-more : (s : List ℕ) (f : ℕ) (e : Five) (k : ℕ) → joined s f e k ++ piece s f e k ≡ joined s f e (k + 1)
unfolding joined
joined-more s f e k =
    let z : k + 1 ≡ suc k = omega arith in
    sym (ap (λ j. joined s f e j) z)

pieces-joined : (n : ℕ) (s : List ℕ) (f : ℕ) (e : Five) (k : ℕ) → joined s f e k ++ pieces_from n s f e k ≡ joined s f e (k + n)
pieces-joined zero s f e k =
    let z : k ≡ k + 0 = omega arith in
    ap (λ x. joined s f e k ++ x) (pieces_none s f e k) ∙ append-nil (joined s f e k) ∙ ap (λ j. joined s f e j) z
pieces-joined (suc n) s f e k =
    let z : k + 1 + n ≡ k + suc n = omega arith in
    ap (λ x. joined s f e k ++ x) (pieces-suc n s f e k)
    ∙ sym (append_assoc (joined s f e k) (piece s f e k) (pieces_from n s f e (k + 1)))
    ∙ ap (λ x. x ++ pieces_from n s f e (k + 1)) (joined-more s f e k)
    ∙ pieces-joined n s f e (k + 1)
    ∙ ap (λ j. joined s f e j) z

joined-none : (s : List ℕ) (f : ℕ) (e : Five) → joined s f e 0 ≡ []
unfolding joined
joined-none s f e = refl

pub rest-line : (s : List ℕ) (f : ℕ) (e : Five) → rest_of s f e 0 ≡ line s f e
unfolding rest_of
rest-line s f e =
    let z : 0 + (pieces s e - 0) ≡ pieces s e = omega arith in
    sym (ap (λ x. x ++ pieces_from (pieces s e - 0) s f e 0) (joined-none s f e))
    ∙ pieces-joined (pieces s e - 0) s f e 0
    ∙ ap (λ j. joined s f e j) z
    ∙ line-joined s f e

module _ (s : List ℕ) (f : ℕ) (e : Five) (room : ℕ) where
  abbrev behind : ℕ → ℕ → ℕ
  behind used k = used + length (piece s f e k)

  to-full : (n used k : ℕ) → full room used ≡ true → laid_to (suc n) s f e room used k ≡ k
  unfolding laid_to
  to-full n used k h = simp (laid_to, h)

  to-more : (n used k : ℕ) → full room used ≡ false → laid_to (suc n) s f e room used k ≡ laid_to n s f e room (behind used k) (k + 1)
  unfolding laid_to
  to-more n used k h = simp (laid_to, h)

  text-full : (n used k : ℕ) → full room used ≡ true → laid_text (suc n) s f e room used k ≡ []
  unfolding laid_text
  text-full n used k h = simp (laid_text, h)

  text-more : (n used k : ℕ) → full room used ≡ false
      → laid_text (suc n) s f e room used k ≡ piece s f e k ++ laid_text n s f e room (behind used k) (k + 1)
  unfolding laid_text
  text-more n used k h = simp (laid_text, h)

  to_none : (used k : ℕ) → laid_to 0 s f e room used k ≡ k
  unfolding laid_to
  to_none used k = refl

  text-none : (used k : ℕ) → laid_text 0 s f e room used k ≡ []
  unfolding laid_text
  text-none used k = refl

  -- what is laid of a line of p pieces, and what is left of it
  abbrev Rest : ℕ → ℕ → ℕ → ℕ → Type 0
  Rest n p used k =
      laid_text n s f e room used k ++ pieces_from (p - laid_to n s f e room used k) s f e (laid_to n s f e room used k)
      ≡ pieces_from (p - k) s f e k

  rest-by : (n p used k : ℕ) (b : Bool) → suc n ≡ p - k → full room used ≡ b → Rest n p (behind used k) (k + 1) → Rest (suc n) p used k
  rest-by n p used k true h q r =
      ap (λ x. x ++ pieces_from (p - laid_to (suc n) s f e room used k) s f e (laid_to (suc n) s f e room used k)) (text-full n used k q)
      ∙ ap (λ j. pieces_from (p - j) s f e j) (to-full n used k q)
  rest-by n p used k false h q r =
      let a : p - k ≡ suc (p - (k + 1)) = omega arith in
      let j = laid_to n s f e room (behind used k) (k + 1) in
      let x = laid_text n s f e room (behind used k) (k + 1) in
      ap (λ y. y ++ pieces_from (p - laid_to (suc n) s f e room used k) s f e (laid_to (suc n) s f e room used k)) (text-more n used k q)
      ∙ ap (λ i. piece s f e k ++ x ++ pieces_from (p - i) s f e i) (to-more n used k q)
      ∙ append_assoc (piece s f e k) x (pieces_from (p - j) s f e j)
      ∙ ap (λ y. piece s f e k ++ y) r
      ∙ sym (ap (λ i. pieces_from i s f e k) a ∙ pieces-suc (p - (k + 1)) s f e k)

  pub laid-rest : (n p used k : ℕ) → n ≡ p - k → Rest n p used k
  laid-rest zero p used k h =
      ap (λ x. x ++ pieces_from (p - laid_to 0 s f e room used k) s f e (laid_to 0 s f e room used k)) (text-none used k)
      ∙ ap (λ j. pieces_from (p - j) s f e j) (to_none used k)
  laid-rest (suc n) p used k h =
      rest-by n p used k (full room used) h refl (laid-rest n p (behind used k) (k + 1) (omega arith))

  -- they stop before the last where the room is full
  abbrev Stops : ℕ → ℕ → ℕ → ℕ → Type 0
  Stops n p used k = laid_to n s f e room used k < p → room - (used + length (laid_text n s f e room used k)) < 256

  stops-by : (n p used k : ℕ) (b : Bool) → full room used ≡ b → Stops n p (behind used k) (k + 1) → Stops (suc n) p used k
  stops-by n p used k true q r l = omega (arith, full_is room used q, ap length (text-full n used k q))
  stops-by n p used k false q r l = omega (
    arith,
    r (omega (arith, to-more n used k q)),
    ap length (text-more n used k q),
    length-append (piece s f e k) (laid_text n s f e room (behind used k) (k + 1)),
  )

  pub laid-stops : (n p used k : ℕ) → n ≡ p - k → Stops n p used k
  laid-stops zero p used k h l = absurd (omega (arith, to_none used k))
  laid-stops (suc n) p used k h l =
      stops-by n p used k (full room used) refl (laid-stops n p (behind used k) (k + 1) (omega arith)) l

  abbrev Fits : ℕ → ℕ → ℕ → Type 0
  Fits n used k = used ≤ room → used + length (laid_text n s f e room used k) ≤ room

  fits_by : (n used k : ℕ) (b : Bool) → full room used ≡ b → Fits n (behind used k) (k + 1) → Fits (suc n) used k
  fits_by n used k true q r h = omega (arith, ap length (text-full n used k q))
  fits_by n used k false q r h = omega (
    arith,
    r (omega (arith, full-not room used q, piece-length s f e k)),
    ap length (text-more n used k q),
    length-append (piece s f e k) (laid_text n s f e room (behind used k) (k + 1)),
  )

  pub laid-fits : (n used k : ℕ) → Fits n used k
  laid-fits zero used k h = omega (arith, ap length (text-none used k))
  laid-fits (suc n) used k h = fits_by n used k (full room used) refl (laid-fits n (behind used k) (k + 1)) h

-- The turns of the loop: what the pieces from here on come to and lay is what those from the first on do
pub record Lays (s : List ℕ) (f : ℕ) (e : Five) (p room : ℕ) (l₀ : List ℕ) (u₀ k₀ : ℕ) (l : List ℕ) (u k : ℕ) : Type 0 where
  pub to : laid_to (p - k) s f e room u k ≡ laid_to (p - k₀) s f e room u₀ k₀
  pub end : u + length (laid_text (p - k) s f e room u k) ≡ u₀ + length (laid_text (p - k₀) s f e room u₀ k₀)
  pub list : sets l u (laid_text (p - k) s f e room u k) ≡ sets l₀ u₀ (laid_text (p - k₀) s f e room u₀ k₀)
  pub fits : u ≤ room
  pub same : length l ≡ room

pub lays-start : (s : List ℕ) (f : ℕ) (e : Five) (p : ℕ) (l : List ℕ) (u k : ℕ) → u ≤ length l → Lays s f e p (length l) l u k l u k
lays-start s f e p l u k h = record { to = refl; end = refl; list = refl; fits = h; same = refl }

module _ (s : List ℕ) (f : ℕ) (e : Five) (p room : ℕ) (u k : ℕ) (h : k < p) where
  one_more : p - k ≡ suc (p - (k + 1))
  one_more = omega arith

  to_step : full room u ≡ false → laid_to (p - k) s f e room u k ≡ laid_to (p - (k + 1)) s f e room (u + length (piece s f e k)) (k + 1)
  to_step q = ap (λ j. laid_to j s f e room u k) one_more ∙ to-more s f e room (p - (k + 1)) u k q

  text-step : full room u ≡ false
      → laid_text (p - k) s f e room u k ≡ piece s f e k ++ laid_text (p - (k + 1)) s f e room (u + length (piece s f e k)) (k + 1)
  text-step q = ap (λ j. laid_text j s f e room u k) one_more ∙ text-more s f e room (p - (k + 1)) u k q

module _ {s : List ℕ} {f : ℕ} {e : Five} {p room : ℕ} {l₀ : List ℕ} {u₀ k₀ : ℕ} {l : List ℕ} {u k : ℕ}
    (h : Lays s f e p room l₀ u₀ k₀ l u k) where
  laid_one : k < p → 256 ≤ length l - u
      → Lays s f e p room l₀ u₀ k₀ (sets l u (piece s f e k)) (u + length (piece s f e k)) (k + 1)
  laid_one b g =
      let q : full room u ≡ false = not_full room u (omega (arith, h.same)) in
      let x = laid_text (p - (k + 1)) s f e room (u + length (piece s f e k)) (k + 1) in
      record {
        to = sym (to_step s f e p room u k b q) ∙ h.to;
        end = omega (arith, h.end, ap length (text-step s f e p room u k b q), length-append (piece s f e k) x);
        list = sets-append l u (piece s f e k) x ∙ ap (λ y. sets l u y) (sym (text-step s f e p room u k b q)) ∙ h.list;
        fits = omega (arith, h.same, piece-length s f e k);
        same = length-sets l u (piece s f e k) ∙ h.same;
      }

  pub lays_step : {l' : List ℕ} {u' : ℕ} → k < p → 256 ≤ length l - u
      → u' ≡ u + length (piece s f e k) → l' ≡ sets l u (piece s f e k) → Lays s f e p room l₀ u₀ k₀ l' u' (k + 1)
  lays_step {l'} {u'} b g m n =
      subst (λ z. Lays s f e p room l₀ u₀ k₀ z u' (k + 1)) (sym n)
      (subst (λ z. Lays s f e p room l₀ u₀ k₀ (sets l u (piece s f e k)) z (k + 1)) (sym m) (laid_one b g))

  -- as the contract says it
  abbrev Laid : Type 0
  Laid =
      ((k ≡ laid_to (p - k₀) s f e room u₀ k₀) × (u ≡ u₀ + length (laid_text (p - k₀) s f e room u₀ k₀)))
      × (l ≡ sets l₀ u₀ (laid_text (p - k₀) s f e room u₀ k₀))

  laid_so : laid_to (p - k) s f e room u k ≡ k → laid_text (p - k) s f e room u k ≡ [] → Laid
  laid_so x y = ((sym x ∙ h.to, omega (arith, h.end, ap length y)), ap (λ z. sets l u z) (sym y) ∙ h.list)

  pub lays-full : k < p → length l - u < 256 → Laid
  lays-full b g =
      let q : full room u ≡ true = is-full room u (omega (arith, h.same)) in
      let a = one_more s f e p room u k b in
      laid_so (ap (λ j. laid_to j s f e room u k) a ∙ to-full s f e room (p - (k + 1)) u k q)
      (ap (λ j. laid_text j s f e room u k) a ∙ text-full s f e room (p - (k + 1)) u k q)

  pub lays-end : p ≤ k → Laid
  lays-end b =
      let a : p - k ≡ 0 = omega arith in
      laid_so (ap (λ j. laid_to j s f e room u k) a ∙ to_none s f e room u k)
      (ap (λ j. laid_text j s f e room u k) a ∙ text-none s f e room u k)
