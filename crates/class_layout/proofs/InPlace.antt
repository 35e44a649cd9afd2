-- A structure, or an optional, that stands whole at d depths: what it holds stands whole at d depths too, one behind the other, and ends
-- where it ends. So many classes one behind the other have a byte each in the table.
use mathlib.Core.Path.{◌≡◌, sym, subst, ◌∙◌}
use Prim.Native.Nat.{ℕ, zero, suc, ◌+◌, ◌*◌, ◌≤◌}
use native.Mathlib.Omega.{arith}
use mathlib.Core.List.{List}
use lib.ListN.{length}
use Rattle.rules.specs.Record.{Shape, members, option?, u8}
use Rattle.class_layout.specs.Trees.{shape_of, behind_members, next_in, stood_at, next_at, WholeMembers, WholeIn, IsWhole}
use Rattle.class_layout.proofs.Ends.{whole-ends}
use Rattle.class_layout.proofs.Depths.{members-deeper}

pub record InPlace (d : ℕ) (t : List ℕ) (at from n : ℕ) : Type 0 where
  pub stand : WholeMembers (IsWhole d t) (stood_at d t) from n
  pub ends : behind_members (stood_at d t) from n ≡ next_at d t at

-- one depth more
in_place : (d : ℕ) (t : List ℕ) (at from n : ℕ) → WholeMembers (IsWhole d t) (stood_at d t) from n
    → behind_members (stood_at d t) from n ≡ next_at (suc d) t at → InPlace (suc d) t at from n
in_place d t at from n w h =
    let m = members-deeper d (suc d) t from n (omega arith) w in record { stand = m.stand; ends = sym m.ends ∙ h }

pub structure-in-place : (d : ℕ) (t : List ℕ) (at : ℕ) → IsWhole d t at → shape_of (u8 t at) ≡ members
    → InPlace d t at (at + 3) (u8 t (at + 1))
unfolding IsWhole stood_at next_in WholeIn
structure-in-place zero t at w k = absurd w
structure-in-place (suc d) t at w k =
    let p = subst (λ (s : Shape). WholeIn (IsWhole d t) (stood_at d t) t at s) k w.parts in
    in_place d t at (at + 3) (u8 t (at + 1)) p.1 (rw k)

pub optional-in-place : (d : ℕ) (t : List ℕ) (at : ℕ) → IsWhole d t at → shape_of (u8 t at) ≡ option?
    → InPlace d t at (at + 3 + 18 * u8 t (at + 2)) 1
unfolding IsWhole stood_at next_in WholeIn WholeMembers behind_members
optional-in-place zero t at w k = absurd w
optional-in-place (suc d) t at w k =
    let p = subst (λ (s : Shape). WholeIn (IsWhole d t) (stood_at d t) t at s) k w.parts in
    in_place d t at (at + 3 + 18 * u8 t (at + 2)) 1 (p.1, tt) (rw k)

-- as many bytes as classes
members-fit : (d : ℕ) (t : List ℕ) (at n : ℕ) → at ≤ length t → WholeMembers (IsWhole d t) (stood_at d t) at n → at + n ≤ length t
unfolding WholeMembers
members-fit d t at zero l w = omega arith
members-fit d t at (suc n) l w =
    let e = whole-ends d t at w.0 in omega (arith, e.onward, members-fit d t (next_at d t at) n e.within w.1)

pub members-few : (d : ℕ) (t : List ℕ) (at n : ℕ) → WholeMembers (IsWhole d t) (stood_at d t) at n → n ≤ length t
unfolding WholeMembers
members-few d t at zero w = omega arith
members-few d t at (suc n) w =
    let e = whole-ends d t at w.0 in omega (arith, e.onward, members-fit d t (next_at d t at) n e.within w.1)
