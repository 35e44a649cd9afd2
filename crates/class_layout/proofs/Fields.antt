-- Fields in a row, from the front: one, and then the others from the byte of the next.
use mathlib.Core.Path.{◌≡◌, refl}
use Prim.Native.Nat.{ℕ, zero, suc, ◌-◌, ◌≤◌, ◌<◌}
use native.Mathlib.Omega.{arith}
use mathlib.Core.List.{List, []}
use mathlib.Core.Bool.{Bool, true, false}
use Rattle.rules.specs.Step.{State, Step, go, ◌⨾◌, pass}
use Rattle.rules.specs.Field.{Env, read, read_members, times}
use Rattle.class_layout.specs.Numbers.{number_at}
use Rattle.class_layout.specs.Trees.{Stood, stood_at, class_at, next_at, members_at, IsWhole}
use Rattle.class_layout.specs.Fields.{read_fields, WholeFields, onward}
use Rattle.class_layout.proofs.Standing.{first, no_member_lem}
use Rattle.class_layout.proofs.NumberedReads.{members-first}

more-times : (n : ℕ) (m : Step) → 0 < n → times n m ≡ (m ⨾ times (n - 1) m)
unfolding times
more-times zero m h = absurd (omega arith)
more-times (suc n) m h = let e : suc n - 1 ≡ n = omega arith in rw e refl

pub record Foremost (again : Bool) (d : ℕ) (t : List ℕ) (at n : ℕ) : Type 0 where
  pub stands : IsWhole d t at
  pub rest : WholeFields again d t (onward again at (next_at d t at)) (n - 1)
  pub reads : (e : Env)
      → read_fields again d t at n e
      ≡ (read e (number_at t at) (class_at d t at) ⨾ read_fields again d t (onward again at (next_at d t at)) (n - 1) e)

pub foremost : (again : Bool) (d : ℕ) (t : List ℕ) (at n : ℕ) → 0 < n → WholeFields again d t at n → Foremost again d t at n
unfolding read_fields WholeFields onward
foremost false d t at n h w =
    let m = first (IsWhole d t) (stood_at d t) at n h w in
    record { stands = m.whole; rest = m.rest; reads = λ e. members-first e d t at n h w }
foremost true d t at n h w = record { stands = w; rest = w; reads = λ e. more-times n (read e (number_at t at) (class_at d t at)) h }

-- none is left

pub members-end : (e : Env) (m : ℕ) (h : ℕ → Stood) (at n : ℕ) → n ≤ 0 → (s : State) → read_members e m (members_at h at n) s ≡ go [] s
unfolding read_members pass
members-end e m h at n k s = rw (no_member_lem h at n k) refl

no-times : (n : ℕ) (m : Step) → n ≤ 0 → (s : State) → times n m s ≡ go [] s
unfolding times pass
no-times zero m h s = refl
no-times (suc n) m h s = absurd (omega arith)

pub fields-end : (again : Bool) (d : ℕ) (t : List ℕ) (at n : ℕ) (e : Env) → n ≤ 0 → (s : State) → read_fields again d t at n e s ≡ go [] s
unfolding read_fields
fields-end false d t at n e h s = members-end e (number_at t at) (stood_at d t) at n h s
fields-end true d t at n e h s = no-times n (read e (number_at t at) (class_at d t at)) h s
