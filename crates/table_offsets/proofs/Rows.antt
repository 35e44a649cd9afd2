-- What the constant table of body lengths says, proved at all of its places by one test that antt computes. The list here is made of the
-- rules' rows; that it is the code's constant, antt computes where the code is proved.
use Rattle.std.specs.Prelude.{Some, None, Option}
use mathlib.Core.Path.{◌≡◌, refl, ap, ◌∙◌}
use mathlib.Core.Bool.{Bool, true, false}
use mathlib.Core.List.{List, map}
use mathlib.Core.Logic.{◌⊎◌, inl, inr}
use Prim.Native.Nat.{ℕ, suc, ◌+◌, ◌<◌, ◌≤◌}
use native.Mathlib.Omega.{arith}
use borrow.Author.Tests.{ne_eqb}
use lib.Dec.{T, eqb, eqb→eq}
use lib.ListN.{get_or, get_or-eq_default}
use Rattle.facts.proofs.Every.{at, both, both_left, both_right}
use Rattle.facts.proofs.Numbers.{lt-or-ge}
use Rattle.rules.specs.Record.{no, bits_layout, layouts}
use Rattle.table_offsets.specs.Bodies.{known, body_in, body_of, no_kind, mark, body_mark}

-- what stands in the constant, and what it says
unfoldable pub marks : List ℕ
marks = map mark layouts

said : ℕ → Option ℕ
said n = elim (eqb n no_kind) [ true ↦ None | false ↦ Some n ]

same : Option ℕ → Option ℕ → Bool
same (Some m) (Some n) = eqb m n
same (Some m) None = false
same None (Some n) = false
same None None = true

same-eq : (a b : Option ℕ) → T (same a b) → a ≡ b
unfolding same
same-eq (Some m) (Some n) t = ap Some (eqb→eq m n t)
same-eq (Some m) None t = absurd t
same-eq None (Some n) t = absurd t
same-eq None None t = refl

right : ℕ → ℕ → Bool
right kind n = both (eqb n (body_mark kind)) (same (said n) (body_of kind))

module _ (kind : ℕ) where
  passed : kind < 35 → T (right kind (get_or marks kind 0))
  unfolding right same said marks mark body_mark body_of body_in known layouts no bits_layout
  passed h = at right marks tt kind h

  pub mark-at : kind < 35 → get_or marks kind 0 ≡ body_mark kind
  unfolding right
  mark-at h = eqb→eq _ _ (both_left (eqb (get_or marks kind 0) (body_mark kind)) _ (passed h))

  pub mark-above : 35 ≤ kind → no_kind ≡ body_mark kind
  unfolding body_mark mark known no layouts
  mark-above h = rw (get_or-eq_default layouts no {n = kind} h)

  above-unknown : 35 ≤ kind → None ≡ body_of kind
  unfolding body_of body_in known no layouts
  above-unknown h = rw (get_or-eq_default layouts no {n = kind} h)

  mark-says : said (body_mark kind) ≡ body_of kind
  unfolding right said
  mark-says = by (lt-or-ge kind 35)
    where
      by : (kind < 35) ⊎ (35 ≤ kind) → said (body_mark kind) ≡ body_of kind
      by (inl h) = rw (← mark-at h) (same-eq _ _ (both_right (eqb (get_or marks kind 0) (body_mark kind)) _ (passed h)))
      by (inr h) = rw (← mark-above h) (above-unknown h)

  pub mark-unknown : body_mark kind ≡ no_kind → None ≡ body_of kind
  unfolding said
  mark-unknown e = rw (← mark-says, e)

  pub mark-known : (body_mark kind ≡ no_kind → ⊥) → Some (body_mark kind) ≡ body_of kind
  unfolding said
  mark-known e = rw (← mark-says, ne_eqb (body_mark kind) no_kind e, said)

-- the rows that a walk steps over
pub record RowMarks : Type 0 where
  pub trace_class : body_mark 2 ≡ 17
  pub clock_class : body_mark 3 ≡ 9
  pub stream_class : body_mark 4 ≡ 9
  pub event_class : body_mark 5 ≡ 16
  pub structure : body_mark 28 ≡ 2
  pub optional : body_mark 31 ≡ 2
  pub variant : body_mark 32 ≡ 2
  pub range : body_mark 33 ≡ 17
  pub option : body_mark 34 ≡ 1

pub rows : RowMarks
unfolding body_mark mark known layouts no bits_layout
rows =
    record {
      trace_class = refl;
      clock_class = refl;
      stream_class = refl;
      event_class = refl;
      structure = refl;
      optional = refl;
      variant = refl;
      range = refl;
      option = refl;
    }

-- a whole record of a kind has its row's bytes
pub room : (k j n : ℕ) → body_mark j ≡ n → (l at : ℕ) → at + 1 + body_mark k ≤ l → k ≡ j → at + suc n ≤ l
room k j n b l at h e = let m : body_mark k ≡ n = ap body_mark e ∙ b in omega arith
