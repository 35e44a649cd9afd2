-- A list is cut by its own entries: entry 1 of a number begins a packet, and no other entry does. So a packet's entries in front of
-- others are passed over or found, and show their place and their total length.
use mathlib.Core.Path.{◌≡◌, refl, sym, ap, ◌∙◌, subst}
use Prim.Native.Nat.{ℕ, suc, ◌+◌, ◌<◌}
use native.Mathlib.Omega.{arith}
use mathlib.Core.List.{List, [], ◌∷◌, ◌++◌}
use mathlib.Core.Bool.{Bool, true, false, ◌&&◌}
use lib.Dec.{eqb}
use borrow.Author.Tests.{eq-eqb, ne_eqb}
use Rattle.rules.specs.declared.Entry.{Entry}
use Rattle.rules.specs.declared.BitPlace.{BitPlace}
use Rattle.rules.specs.Entry.{entry, packet_starts, lengths_settled}
use Rattle.laws.specs.All.{All}
use Rattle.promises.specs.Apart.{starts_packet, before_packet, from_packet, place_in, total_in, packets_in}
use Rattle.promises.proofs.Whole.{NotOf}

-- entries that do not begin packet n
abbrev Passed : ℕ → Entry → Type 0
Passed n x = starts_packet n x ≡ false

pub before-skip : (n : ℕ) (es fs : List Entry) → All (Passed n) es → before_packet n (es ++ fs) ≡ es ++ before_packet n fs
unfolding before_packet
before-skip n [] fs h = refl
before-skip n (x ∷ es) fs h =
    ap (λ b. elim b [ true ↦ [] | false ↦ x ∷ before_packet n (es ++ fs) ]) h.0 ∙ ap (λ l. x ∷ l) (before-skip n es fs h.1)

pub from-skip : (n : ℕ) (es fs : List Entry) → All (Passed n) es → from_packet n (es ++ fs) ≡ from_packet n fs
unfolding from_packet
from-skip n [] fs h = refl
from-skip n (x ∷ es) fs h = ap (λ b. elim b [ true ↦ x ∷ (es ++ fs) | false ↦ from_packet n (es ++ fs) ]) h.0 ∙ from-skip n es fs h.1

others-passed : (n : ℕ) (es : List Entry) → All (NotOf packet_starts) es → All (Passed n) es
unfolding starts_packet
others-passed n [] h = tt
others-passed n (x ∷ es) h = (ap (λ b. b && eqb x.value n) (ne_eqb x.kind packet_starts h.0), others-passed n es h.1)

-- A packet's entries: entry 1 of number k at p, and others

module _ (p : BitPlace) (k : ℕ) (es others : List Entry) (list : es ≡ entry packet_starts p 0 k 0 ∷ others)
    (none : All (NotOf packet_starts) others) where
  pub packet-passed : (n : ℕ) → (k ≡ n → ⊥) → All (Passed n) es
  packet-passed n d = subst (All (Passed n)) (sym list) (unfold starts_packet in ne_eqb k n d, others-passed n others none)

  begins : starts_packet k (entry packet_starts p 0 k 0) ≡ true
  unfolding starts_packet
  begins = eq-eqb k k refl

  pub before_at : (fs : List Entry) → before_packet k (es ++ fs) ≡ []
  unfolding before_packet
  before_at fs = ap (λ l. before_packet k (l ++ fs)) list
      ∙ ap (λ b. elim b [ true ↦ [] | false ↦ entry packet_starts p 0 k 0 ∷ before_packet k (others ++ fs) ]) begins

  pub from_at : (fs : List Entry) → from_packet k (es ++ fs) ≡ es ++ fs
  unfolding from_packet
  from_at fs = ap (λ l. from_packet k (l ++ fs)) list
      ∙ ap (λ b. elim b [ true ↦ entry packet_starts p 0 k 0 ∷ (others ++ fs) | false ↦ from_packet k (others ++ fs) ]) begins
      ∙ ap (λ l. l ++ fs) (sym list)

  pub place_at : (fs : List Entry) → place_in (es ++ fs) ≡ p.0
  place_at fs = ap (λ l. place_in (l ++ fs)) list ∙ (unfold place_in in refl)

  counts : (xs fs : List Entry) → All (NotOf packet_starts) xs → packets_in (xs ++ fs) ≡ packets_in fs
  unfolding packets_in
  counts [] fs h = refl
  counts (x ∷ xs) fs h =
      ap (λ b. elim b [ true ↦ suc (packets_in (xs ++ fs)) | false ↦ packets_in (xs ++ fs) ]) (ne_eqb x.kind packet_starts h.0)
      ∙ counts xs fs h.1

  pub packets-at : (fs : List Entry) → packets_in (es ++ fs) ≡ packets_in fs + 1
  packets-at fs =
      let s : packets_in ((entry packet_starts p 0 k 0 ∷ others) ++ fs) ≡ suc (packets_in (others ++ fs)) = unfold packets_in in refl in
      let c : packets_in (others ++ fs) ≡ packets_in fs = counts others fs none in
      let z : packets_in (es ++ fs) ≡ packets_in ((entry packet_starts p 0 k 0 ∷ others) ++ fs) = ap (λ l. packets_in (l ++ fs)) list in
      omega arith

  -- its first entry 3 is found before any that follows
  total-append : (xs fs : List Entry) → 0 < total_in xs → total_in (xs ++ fs) ≡ total_in xs
  unfolding total_in
  total-append [] fs h = absurd (omega arith)
  total-append (x ∷ xs) fs h = by (eqb x.kind lengths_settled) _ h (λ g. total-append xs fs g)
    where
      by : (b : Bool) (n : ℕ) → 0 < elim b [ true ↦ n | false ↦ total_in xs ] → (0 < total_in xs → total_in (xs ++ fs) ≡ total_in xs)
          → ◌≡◌ {A = ℕ} (elim b [ true ↦ n | false ↦ total_in (xs ++ fs) ]) (elim b [ true ↦ n | false ↦ total_in xs ])
      by true n g r = refl
      by false n g r = r g

  pub total-at : (fs : List Entry) → 0 < total_in others → total_in (es ++ fs) ≡ total_in others
  total-at fs h = ap (λ l. total_in (l ++ fs)) list ∙ past ∙ total-append others fs h
    where
      past : total_in ((entry packet_starts p 0 k 0 ∷ others) ++ fs) ≡ total_in (others ++ fs)
      past = unfold total_in in refl
