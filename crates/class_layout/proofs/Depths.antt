-- A class that stands whole at d depths is the same class, and whole, at more. So do members one behind the other.
use mathlib.Core.Path.{◌≡◌, refl, ap, subst}
use Prim.Native.Nat.{ℕ, zero, suc, ◌+◌, ◌-◌, ◌*◌, ◌≤◌}
use native.Mathlib.Omega.{arith}
use mathlib.Core.List.{List}
use Rattle.rules.specs.Record.{Shape, bit_field, leb_field, signed_leb_field, zero_string, text, blob, text_of, blob_of, u8}
use Rattle.rules.specs.Record.{members, elements, elements_of, option?, options}
use Rattle.class_layout.specs.Trees.{shape_of, option_class, Stood, members_at, behind_members, stood_at}
use Rattle.class_layout.specs.Trees.{WholeMembers, WholeOptions, WholeIn, IsWhole}
use Rattle.class_layout.proofs.Announced.{same-kinds}
use Rattle.class_layout.proofs.One.{one}

-- g and f say at a byte what g' and f' say
abbrev pub Also : (g g' : ℕ → Type 0) (f f' : ℕ → Stood) → ℕ → Type 0
Also g g' f f' p = g p → g' p × (f p ≡ f' p)

module _ (t : List ℕ) (g g' : ℕ → Type 0) (f f' : ℕ → Stood) (also : (p : ℕ) → Also g g' f f' p) where
  members-also : (at n : ℕ) → WholeMembers g f at n → WholeMembers g' f' at n
  unfolding WholeMembers
  members-also at zero w = tt
  members-also at (suc n) w = let a = also at w.0 in (a.0, rw (← a.1) (members-also (f at).next n w.1))

  options-also : (at n : ℕ) → WholeOptions g f t at n → WholeOptions g' f' t at n
  unfolding WholeOptions
  options-also at zero w = tt
  options-also at (suc n) w =
      let a = also (option_class t at) w.2 in (w.0, w.1, a.0, rw (← a.1) (options-also (f (option_class t at)).next n w.3))

  shape-also : (at : ℕ) (s : Shape) → WholeIn g f t at s → WholeIn g' f' t at s
  unfolding WholeIn
  shape-also at (bit_field k) w = w
  shape-also at leb_field w = w
  shape-also at signed_leb_field w = w
  shape-also at zero_string w = w
  shape-also at text w = w
  shape-also at blob w = w
  shape-also at text_of w = w
  shape-also at blob_of w = w
  shape-also at members w = (w.0, members-also (at + 3) (u8 t (at + 1)) w.1)
  shape-also at elements w = (w.0, (also (at + 4) w.1).0)
  shape-also at elements_of w = (w.0, (also (at + 3) w.1).0)
  shape-also at option? w = (w.0, (also (at + 3 + 18 * u8 t (at + 2)) w.1).0)
  shape-also at options w = (w.0, options-also (at + 3) (u8 t (at + 2)) w.1)

  -- members are the same where they are whole
  same-members : (at n : ℕ) → WholeMembers g f at n
      → (members_at f at n ≡ members_at f' at n) × (behind_members f at n ≡ behind_members f' at n)
  unfolding WholeMembers members_at behind_members
  same-members at zero w = (refl, refl)
  same-members at (suc n) w =
      let a = also at w.0 in let r = same-members (f at).next n w.1 in (rw (← a.1, r.0), rw (← a.1, r.1))

-- one depth more
pub whole-more : (d : ℕ) (t : List ℕ) (at : ℕ) → IsWhole d t at → IsWhole (suc d) t at
unfolding IsWhole
whole-more zero t at w = absurd w
whole-more (suc d) t at w = record {
  low = w.low;
  high = w.high;
  there = w.there;
  parts =
      shape-also t (IsWhole d t) (IsWhole (suc d) t) (stood_at d t) (stood_at (suc d) t)
      (λ p v. let m = whole-more d t p v in (m, (one d (suc d) t p v m).0)) at (shape_of (u8 t at)) w.parts;
  kinds =
      same-kinds t (IsWhole d t) (stood_at d t) (stood_at (suc d) t) (λ p v. ap (λ s. s.next) (one d (suc d) t p v (whole-more d t p v)).0) at
      (shape_of (u8 t at)) w.parts w.kinds;
  begins = w.begins;
}

-- as many depths, or k more
whole-add : (k d e : ℕ) (t : List ℕ) (at : ℕ) → e ≡ d + k → IsWhole d t at → IsWhole e t at
whole-add zero d e t at h w = let same : d ≡ e = omega arith in subst (λ (n : ℕ). IsWhole n t at) same w
whole-add (suc k) d e t at h w = whole-add k (suc d) e t at (omega arith) (whole-more d t at w)

pub deeper : (d e : ℕ) (t : List ℕ) → d ≤ e → (at : ℕ) → Also (IsWhole d t) (IsWhole e t) (stood_at d t) (stood_at e t) at
deeper d e t l at w = let m = whole-add (e - d) d e t at (omega arith) w in (m, (one d e t at w m).0)

-- the same of members one behind the other
pub record Deeper (d e : ℕ) (t : List ℕ) (at n : ℕ) : Type 0 where
  pub stand : WholeMembers (IsWhole e t) (stood_at e t) at n
  pub same : members_at (stood_at d t) at n ≡ members_at (stood_at e t) at n
  pub ends : behind_members (stood_at d t) at n ≡ behind_members (stood_at e t) at n

pub members-deeper : (d e : ℕ) (t : List ℕ) (at n : ℕ) → d ≤ e → WholeMembers (IsWhole d t) (stood_at d t) at n → Deeper d e t at n
members-deeper d e t at n l w =
    let s = same-members t (IsWhole d t) (IsWhole e t) (stood_at d t) (stood_at e t) (deeper d e t l) at n w in
    record {
      stand = members-also t (IsWhole d t) (IsWhole e t) (stood_at d t) (stood_at e t) (deeper d e t l) at n w;
      same = s.0;
      ends = s.1;
    }
