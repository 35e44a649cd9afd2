-- Entries put one behind another while there is room: branch by branch; what of the lines is left behind them; that they fit, and where
-- they end. Then the turns of the code's loop.
use mathlib.Core.Path.{◌≡◌, refl, sym, ap, subst, ◌∙◌}
use mathlib.Core.List.{List, [], ◌++◌, append-nil, append_assoc}
use mathlib.Core.Bool.{Bool, true, false}
use Prim.Native.Nat.{ℕ, zero, suc, ◌+◌, ◌-◌, ◌<◌, ◌≤◌}
use native.Mathlib.Omega.{arith}
use lib.ListN.{length, length-append}
use lib.Seq.{sets, length-sets}
use Rattle.facts.proofs.Truth.{clash}
use Rattle.screen_number.proofs.Laid.{sets-append}
use Rattle.screen_list.specs.declared.Mark.{Mark}
use Rattle.screen_list.specs.declared.Put.{Put}
use Rattle.screen_list.specs.declared.Filled.{Filled}
use Rattle.screen_list.specs.Lines.{entries_in, entry_at, settled, lines_from}
use Rattle.screen_list.specs.Rest.{rest_of, rest_from, mark_at}
use Rattle.screen_list.specs.Fill.{put_to, put_text, filled_at, filled_from, written_from, filled, written}
use Rattle.screen_list.proofs.Pieces.{rest-line}
use Rattle.screen_list.proofs.Entries.{put_rest, put-used, put-frequency, put-fits, put_whole, put-part}

-- from the first piece on what is still to come are the lines
pub rest_lines : (n : ℕ) (t s ws : List ℕ) (i f : ℕ) → rest_from n t s ws i 0 f ≡ lines_from n t s ws i f
unfolding rest_from lines_from
rest_lines zero t s ws i f = refl
rest_lines (suc n) t s ws i f =
    ap (λ x. x ++ lines_from n t s ws (i + 1) (settled t f (entry_at ws i))) (rest-line s (settled t f (entry_at ws i)) (entry_at ws i))

module _ (t s ws : List ℕ) (room : ℕ) where
  abbrev put : ℕ → ℕ → ℕ → ℕ → Put
  put u i k f = put_to t s (entry_at ws i) room u k f

  abbrev text : ℕ → ℕ → ℕ → ℕ → List ℕ
  text u i k f = put_text t s (entry_at ws i) room u k f

  to_whole : (n u i k f : ℕ) → (put u i k f).whole ≡ true
      → filled_from (suc n) t s ws room u i k f ≡ filled_from n t s ws room (put u i k f).used (i + 1) 0 (put u i k f).frequency
  unfolding filled_from
  to_whole n u i k f h = simp (filled_from, h)

  to_part : (n u i k f : ℕ) → (put u i k f).whole ≡ false
      → filled_from (suc n) t s ws room u i k f ≡ filled_at (mark_at i (put u i k f).piece f) (put u i k f).used false
  unfolding filled_from
  to_part n u i k f h = simp (filled_from, h)

  text-whole : (n u i k f : ℕ) → (put u i k f).whole ≡ true → written_from (suc n) t s ws room u i k f
      ≡ text u i k f ++ written_from n t s ws room (put u i k f).used (i + 1) 0 (put u i k f).frequency
  unfolding written_from
  text-whole n u i k f h = simp (written_from, h)

  text-part : (n u i k f : ℕ) → (put u i k f).whole ≡ false → written_from (suc n) t s ws room u i k f ≡ text u i k f
  unfolding written_from
  text-part n u i k f h = simp (written_from, h) (append-nil (text u i k f))

  to_none : (u i k f : ℕ) → filled_from 0 t s ws room u i k f ≡ filled_at (mark_at i k f) u true
  unfolding filled_from
  to_none u i k f = refl

  text-none : (u i k f : ℕ) → written_from 0 t s ws room u i k f ≡ []
  unfolding written_from
  text-none u i k f = refl

  -- what is still to come where a call stopped, of c entries
  abbrev left : ℕ → Filled → List ℕ
  left c r = rest_from (c - r.mark.entry) t s ws r.mark.entry r.mark.piece r.mark.frequency

  rest-suc : (n i k f : ℕ) → rest_from (suc n) t s ws i k f
      ≡ rest_of s (settled t f (entry_at ws i)) (entry_at ws i) k ++ lines_from n t s ws (i + 1) (settled t f (entry_at ws i))
  unfolding rest_from
  rest-suc n i k f = refl

  rest-none : (i k f : ℕ) → rest_from 0 t s ws i k f ≡ []
  unfolding rest_from
  rest-none i k f = refl

  abbrev Rest : ℕ → ℕ → ℕ → ℕ → ℕ → ℕ → Type 0
  Rest n c u i k f =
      written_from n t s ws room u i k f ++ left c (filled_from n t s ws room u i k f) ≡ rest_from n t s ws i k f

  rest-by : (n c u i k f : ℕ) (b : Bool) → suc n ≡ c - i → (put u i k f).whole ≡ b
      → Rest n c (put u i k f).used (i + 1) 0 (put u i k f).frequency → Rest (suc n) c u i k f
  rest-by n c u i k f true h q r =
      let p = put u i k f in
      let e = entry_at ws i in
      let x = text u i k f in
      let more = written_from n t s ws room p.used (i + 1) 0 p.frequency in
      let all : x ≡ rest_of s (settled t f e) e k =
      sym (append-nil x) ∙ ap (λ y. x ++ y) (sym (put_whole t s e room u k f q)) ∙ put_rest t s e room u k f
      in
      ap (λ y. y ++ left c (filled_from (suc n) t s ws room u i k f)) (text-whole n u i k f q)
      ∙ ap (λ z. x ++ more ++ left c z) (to_whole n u i k f q)
      ∙ append_assoc x more (left c (filled_from n t s ws room p.used (i + 1) 0 p.frequency))
      ∙ ap (λ y. x ++ y) (r ∙ rest_lines n t s ws (i + 1) p.frequency)
      ∙ ap (λ z. x ++ lines_from n t s ws (i + 1) z) (put-frequency t s e room u k f)
      ∙ ap (λ y. y ++ lines_from n t s ws (i + 1) (settled t f e)) all
      ∙ sym (rest-suc n i k f)
  rest-by n c u i k f false h q r =
      let p = put u i k f in
      let e = entry_at ws i in
      let x = text u i k f in
      let behind = lines_from n t s ws (i + 1) (settled t f e) in
      let a : c - i ≡ suc n = omega arith in
      ap (λ y. y ++ left c (filled_from (suc n) t s ws room u i k f)) (text-part n u i k f q)
      ∙ ap (λ z. x ++ left c z) (to_part n u i k f q)
      ∙ ap (λ j. x ++ rest_from j t s ws i p.piece f) a
      ∙ ap (λ y. x ++ y) (rest-suc n i p.piece f)
      ∙ sym (append_assoc x (rest_of s (settled t f e) e p.piece) behind)
      ∙ ap (λ y. y ++ behind) (put_rest t s e room u k f)
      ∙ sym (rest-suc n i k f)

  pub fill-rest : (n c u i k f : ℕ) → n ≡ c - i → Rest n c u i k f
  fill-rest zero c u i k f h =
      ap (λ x. x ++ left c (filled_from 0 t s ws room u i k f)) (text-none u i k f)
      ∙ ap (λ r. left c r) (to_none u i k f)
      ∙ ap (λ n. rest_from n t s ws i k f) (sym h)
  fill-rest (suc n) c u i k f h =
      let p = put u i k f in
      rest-by n c u i k f p.whole h refl (fill-rest n c p.used (i + 1) 0 p.frequency (omega arith))

  -- how much is used
  abbrev Used : ℕ → ℕ → ℕ → ℕ → ℕ → Type 0
  Used n u i k f = (filled_from n t s ws room u i k f).used ≡ u + length (written_from n t s ws room u i k f)

  used-by : (n u i k f : ℕ) (b : Bool) → (put u i k f).whole ≡ b → Used n (put u i k f).used (i + 1) 0 (put u i k f).frequency
      → Used (suc n) u i k f
  used-by n u i k f true q r =
      let p = put u i k f in
      omega (
        arith,
        ap (λ z. z.used) (to_whole n u i k f q),
        put-used t s (entry_at ws i) room u k f,
        ap length (text-whole n u i k f q),
        length-append (text u i k f) (written_from n t s ws room p.used (i + 1) 0 p.frequency),
      )
  used-by n u i k f false q r = omega (
    arith,
    ap (λ z. z.used) (to_part n u i k f q),
    put-used t s (entry_at ws i) room u k f,
    ap length (text-part n u i k f q),
  )

  pub fill-used : (n u i k f : ℕ) → Used n u i k f
  fill-used zero u i k f = omega (arith, ap (λ r. r.used) (to_none u i k f), ap length (text-none u i k f))
  fill-used (suc n) u i k f =
      let p = put u i k f in
      used-by n u i k f p.whole refl (fill-used n p.used (i + 1) 0 p.frequency)

  abbrev Fits : ℕ → ℕ → ℕ → ℕ → ℕ → Type 0
  Fits n u i k f = u ≤ room → (filled_from n t s ws room u i k f).used ≤ room

  fits_by : (n u i k f : ℕ) (b : Bool) → (put u i k f).whole ≡ b → Fits n (put u i k f).used (i + 1) 0 (put u i k f).frequency
      → Fits (suc n) u i k f
  fits_by n u i k f true q r h =
      omega (arith, ap (λ z. z.used) (to_whole n u i k f q), r (put-fits t s (entry_at ws i) room u k f h))
  fits_by n u i k f false q r h = omega (arith, ap (λ z. z.used) (to_part n u i k f q), put-fits t s (entry_at ws i) room u k f h)

  pub fill-fits : (n u i k f : ℕ) → Fits n u i k f
  fill-fits zero u i k f h = omega (arith, ap (λ r. r.used) (to_none u i k f))
  fill-fits (suc n) u i k f h =
      let p = put u i k f in
      fits_by n u i k f p.whole refl (fill-fits n p.used (i + 1) 0 p.frequency) h

  -- at the end nothing is left
  abbrev Ends : ℕ → ℕ → ℕ → ℕ → ℕ → ℕ → Type 0
  Ends n c u i k f = (filled_from n t s ws room u i k f).done ≡ true → left c (filled_from n t s ws room u i k f) ≡ []

  ends_by : (n c u i k f : ℕ) (b : Bool) → (put u i k f).whole ≡ b → Ends n c (put u i k f).used (i + 1) 0 (put u i k f).frequency
      → Ends (suc n) c u i k f
  ends_by n c u i k f true q r d =
      ap (λ z. left c z) (to_whole n u i k f q) ∙ r (sym (ap (λ z. z.done) (to_whole n u i k f q)) ∙ d)
  ends_by n c u i k f false q r d = absurd (clash (sym (ap (λ z. z.done) (to_part n u i k f q)) ∙ d))

  pub fill-ends : (n c u i k f : ℕ) → n ≡ c - i → Ends n c u i k f
  fill-ends zero c u i k f h d =
      ap (λ r. left c r) (to_none u i k f) ∙ ap (λ n. rest_from n t s ws i k f) (sym h) ∙ rest-none i k f
  fill-ends (suc n) c u i k f h d =
      let p = put u i k f in
      ends_by n c u i k f p.whole refl (fill-ends n c p.used (i + 1) 0 p.frequency (omega arith)) d

  -- before it the room is full
  abbrev Goes : ℕ → ℕ → ℕ → ℕ → ℕ → Type 0
  Goes n u i k f = (filled_from n t s ws room u i k f).done ≡ false → room - (filled_from n t s ws room u i k f).used < 256

  goes_by : (n u i k f : ℕ) (b : Bool) → (put u i k f).whole ≡ b → Goes n (put u i k f).used (i + 1) 0 (put u i k f).frequency
      → Goes (suc n) u i k f
  goes_by n u i k f true q r d = omega (
    arith,
    ap (λ z. z.used) (to_whole n u i k f q),
    r (sym (ap (λ z. z.done) (to_whole n u i k f q)) ∙ d),
  )
  goes_by n u i k f false q r d = omega (arith, ap (λ z. z.used) (to_part n u i k f q), put-part t s (entry_at ws i) room u k f q)

  pub fill-goes : (n u i k f : ℕ) → Goes n u i k f
  fill-goes zero u i k f d = absurd (clash (sym d ∙ ap (λ r. r.done) (to_none u i k f)))
  fill-goes (suc n) u i k f d =
      let p = put u i k f in
      goes_by n u i k f p.whole refl (fill-goes n p.used (i + 1) 0 p.frequency) d

-- The turns of the loop: what the entries from here on come to and write is what those from the first on do
pub record Filling (t s ws : List ℕ) (c room : ℕ) (l₀ : List ℕ) (i₀ k₀ f₀ : ℕ) (l : List ℕ) (u i k f : ℕ) : Type 0 where
  pub to : filled_from (c - i) t s ws room u i k f ≡ filled_from (c - i₀) t s ws room 0 i₀ k₀ f₀
  pub list : sets l u (written_from (c - i) t s ws room u i k f) ≡ sets l₀ 0 (written_from (c - i₀) t s ws room 0 i₀ k₀ f₀)
  pub fits : u ≤ room
  pub same : length l ≡ room

pub filling-start : (t s ws : List ℕ) (c : ℕ) (l : List ℕ) (i k f : ℕ) → Filling t s ws c (length l) l i k f l 0 i k f
filling-start t s ws c l i k f = record { to = refl; list = refl; fits = omega arith; same = refl }

module _ {t s ws : List ℕ} {c room : ℕ} {l₀ : List ℕ} {i₀ k₀ f₀ : ℕ} {l : List ℕ} {u i k f : ℕ}
    (h : Filling t s ws c room l₀ i₀ k₀ f₀ l u i k f) where
  abbrev one : ℕ → Put
  one n = put_to t s (entry_at ws i) n u k f

  abbrev its : ℕ → List ℕ
  its n = put_text t s (entry_at ws i) n u k f

  -- as the contract says it
  abbrev Came : Filled → List ℕ → Type 0
  Came r l' =
      (r ≡ filled_from (c - i₀) t s ws room 0 i₀ k₀ f₀) × (l' ≡ sets l₀ 0 (written_from (c - i₀) t s ws room 0 i₀ k₀ f₀))

  whole-one : i < c → (one room).whole ≡ true
      → Filling t s ws c room l₀ i₀ k₀ f₀ (sets l u (its room)) (one room).used (i + 1) 0 (one room).frequency
  whole-one b q =
      let a : c - i ≡ suc (c - (i + 1)) = omega arith in
      let p = one room in
      let x = written_from (c - (i + 1)) t s ws room p.used (i + 1) 0 p.frequency in
      record {
        to =
            sym (ap (λ j. filled_from j t s ws room u i k f) a ∙ to_whole t s ws room (c - (i + 1)) u i k f q) ∙ h.to;
        list =
            ap (λ z. sets (sets l u (its room)) z x) (put-used t s (entry_at ws i) room u k f)
            ∙ sets-append l u (its room) x
            ∙ ap (λ z. sets l u z)
            (sym (ap (λ j. written_from j t s ws room u i k f) a ∙ text-whole t s ws room (c - (i + 1)) u i k f q))
            ∙ h.list;
        fits = put-fits t s (entry_at ws i) room u k f h.fits;
        same = length-sets l u (its room) ∙ h.same;
      }

  answered : {p : Put} → p ≡ one (length l) → p ≡ one room
  answered m = m ∙ ap (λ z. one z) h.same

  listed : {l' : List ℕ} → l' ≡ sets l u (its (length l)) → l' ≡ sets l u (its room)
  listed n = n ∙ ap (λ z. sets l u (its z)) h.same

  -- by what a call answered of an entry
  pub filling_step : {l' : List ℕ} {p : Put} → i < c → p ≡ one (length l) → l' ≡ sets l u (its (length l)) → p.whole ≡ true
      → Filling t s ws c room l₀ i₀ k₀ f₀ l' p.used (i + 1) 0 p.frequency
  filling_step {l'} {p} b m n q =
      subst (λ z. Filling t s ws c room l₀ i₀ k₀ f₀ z p.used (i + 1) 0 p.frequency) (sym (listed n))
      (subst (λ z. Filling t s ws c room l₀ i₀ k₀ f₀ (sets l u (its room)) z.used (i + 1) 0 z.frequency) (sym (answered m))
      (whole-one b (sym (ap (λ z. z.whole) (answered m)) ∙ q)))

  pub filling-part : {l' : List ℕ} {p : Put} → i < c → p ≡ one (length l) → l' ≡ sets l u (its (length l)) → p.whole ≡ false
      → Came (filled_at (mark_at i p.piece f) p.used false) l'
  filling-part {l'} {p} b m n q =
      let a : c - i ≡ suc (c - (i + 1)) = omega arith in
      let w : (one room).whole ≡ false = sym (ap (λ z. z.whole) (answered m)) ∙ q in (
        ap (λ z. filled_at (mark_at i z.piece f) z.used false) (answered m)
            ∙ sym (ap (λ j. filled_from j t s ws room u i k f) a ∙ to_part t s ws room (c - (i + 1)) u i k f w)
            ∙ h.to,
        listed n
            ∙ ap (λ z. sets l u z) (sym (ap (λ j. written_from j t s ws room u i k f) a ∙ text-part t s ws room (c - (i + 1)) u i k f w))
            ∙ h.list,
      )

  pub filling-end : c ≤ i → Came (filled_at (mark_at i k f) u true) l
  filling-end b =
      let a : c - i ≡ 0 = omega arith in (
        sym (ap (λ j. filled_from j t s ws room u i k f) a ∙ to_none t s ws room u i k f) ∙ h.to,
        sym (ap (λ j. sets l u (written_from j t s ws room u i k f)) a ∙ ap (λ z. sets l u z) (text-none t s ws room u i k f)) ∙ h.list,
      )

pub came : (t s ws : List ℕ) (n room : ℕ) (m : Mark) (c : ℕ) (l₀ l : List ℕ) (r : Filled) → c ≡ entries_in (length ws) n
    → (r ≡ filled_from (c - m.entry) t s ws room 0 m.entry m.piece m.frequency)
    × (l ≡ sets l₀ 0 (written_from (c - m.entry) t s ws room 0 m.entry m.piece m.frequency))
    → (r ≡ filled t s ws n room m) × (l ≡ sets l₀ 0 (written t s ws n room m))
unfolding filled written
came t s ws n room m c l₀ l r e h = (
  h.0 ∙ ap (λ j. filled_from (j - m.entry) t s ws room 0 m.entry m.piece m.frequency) e,
  h.1 ∙ ap (λ j. sets l₀ 0 (written_from (j - m.entry) t s ws room 0 m.entry m.piece m.frequency)) e,
)
