-- k + n members from a byte on are k, and then n from the byte behind these: where they end, that they stand whole, and what reading them
-- is.
use mathlib.Core.Path.{◌≡◌, refl, sym, ap, ◌∙◌}
use Prim.Native.Nat.{ℕ, zero, suc, ◌+◌, ◌-◌}
use native.Mathlib.Nat.{suc-add, zero-add}
use native.Mathlib.Omega.{arith}
use mathlib.Core.List.{List}
use Rattle.rules.specs.Step.{◌⨾◌, pass}
use Rattle.rules.specs.Field.{Env, read, read_members}
use Rattle.facts.proofs.Steps.{seq-assoc, pass-seq}
use Rattle.class_layout.specs.Numbers.{number_at}
use Rattle.class_layout.specs.Trees.{Stood, stood_at, class_at, next_at, members_at, behind_members, WholeMembers, IsWhole}
use Rattle.class_layout.proofs.Standing.{first}
use Rattle.class_layout.proofs.NumberedReads.{members-first}

module _ (f : ℕ → Stood) where
  pub behind-split : (k n at : ℕ) → behind_members f at (k + n) ≡ behind_members f (behind_members f at k) n
  unfolding behind_members
  behind-split zero n at = rw zero-add
  behind-split (suc k) n at = rw (suc-add, behind-split k n (f at).next)

  module _ (g : ℕ → Type 0) where
    pub whole_join : (k n at : ℕ) → WholeMembers g f at k → WholeMembers g f (behind_members f at k) n → WholeMembers g f at (k + n)
    unfolding WholeMembers behind_members
    whole_join zero n at v w = rw zero-add w
    whole_join (suc k) n at v w = rw suc-add (v.0, whole_join k n (f at).next v.1 w)

    pub whole_split : (k n at : ℕ) → WholeMembers g f at (k + n) → WholeMembers g f at k × WholeMembers g f (behind_members f at k) n
    unfolding WholeMembers behind_members
    whole_split zero n at w = (tt, rw zero-add at w)
    whole_split (suc k) n at w =
        let v : g at × WholeMembers g f (f at).next (k + n) = rw suc-add at w in
        let r = whole_split k n (f at).next v.1 in ((v.0, r.0), r.1)

-- What reading them is

pub read-split : (e : Env) (d : ℕ) (t : List ℕ) (k n at : ℕ) → WholeMembers (IsWhole d t) (stood_at d t) at (k + n)
    → read_members e (number_at t at) (members_at (stood_at d t) at (k + n))
    ≡ (read_members e (number_at t at) (members_at (stood_at d t) at k)
    ⨾ read_members e (number_at t (behind_members (stood_at d t) at k)) (members_at (stood_at d t) (behind_members (stood_at d t) at k) n))
unfolding behind_members
read-split e d t zero n at w =
    let none : read_members e (number_at t at) (members_at (stood_at d t) at 0) ≡ pass = unfold read_members members_at in refl in
    rw (zero-add n, none) (sym (pass-seq _))
read-split e d t (suc k) n at w =
    let rest = next_at d t at in
    let last = behind_members (stood_at d t) rest k in
    let less : suc k + n - 1 ≡ k + n = omega arith in
    let none : suc k - 1 ≡ k = omega arith in
    let all = first (IsWhole d t) (stood_at d t) at (suc k + n) (omega arith) w in
    let front = (whole_split (stood_at d t) (IsWhole d t) (suc k) n at w).0 in
    members-first e d t at (suc k + n) (omega arith) w
    ∙ ap (λ m. read e (number_at t at) (class_at d t at) ⨾ m) (rw less (read-split e d t k n rest (rw less at all.rest)))
    ∙ sym (seq-assoc _ _ _)
    ∙ ap (λ m. m ⨾ read_members e (number_at t last) (members_at (stood_at d t) last n))
    (sym (rw none at (members-first e d t at (suc k) (omega arith) front)))
