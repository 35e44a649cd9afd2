-- Readings by numbers: the rules count on from a class to what it holds, and from a member or an option to the next; by the table's bytes
-- each is read with the number of its own record. Where there is none, no number matters.
--
-- members-numbered    members from a byte on, by any number that is right if there is one
-- members-first       the first member, and then the others
-- structure-reads     a structure's members
-- option-reads        the first option, and then the others
use mathlib.Core.Path.{◌≡◌, refl, sym, ap, ◌∙◌}
use Prim.Native.Nat.{ℕ, zero, suc, ◌+◌, ◌-◌, ◌≤◌, ◌<◌}
use native.Mathlib.Omega.{arith}
use mathlib.Core.List.{List}
use mathlib.Core.Bool.{Bool, true, false}
use Rattle.rules.specs.Class.{Sign, any_holds, records}
use Rattle.rules.specs.Record.{u8}
use Rattle.rules.specs.Step.{Step, ◌⨾◌}
use Rattle.rules.specs.Field.{Env, field, read, read_members, read_option}
use Rattle.class_layout.specs.Numbers.{number_at}
use Rattle.class_layout.specs.Trees.{ranges_at, option_class, Stood, members_at, options_at, stood_at, class_at, next_at, WholeMembers}
use Rattle.class_layout.specs.Trees.{IsWhole}
use Rattle.class_layout.proofs.Standing.{first}
use Rattle.class_layout.proofs.Numbered.{class-opens-none, number_behind, structure-number, OptionsStand, option-class-number}
use Rattle.class_layout.proofs.Numbered.{option-next-number, structure-members}

-- Members

pub members-numbered : (e : Env) (t : List ℕ) (m : ℕ) (f : ℕ → Stood) (at n : ℕ) → (0 < n → m ≡ number_at t at)
    → read_members e m (members_at f at n) ≡ read_members e (number_at t at) (members_at f at n)
unfolding read_members members_at
members-numbered e t m f at zero h = refl
members-numbered e t m f at (suc n) h = ap (λ i. read_members e i (members_at f at (suc n))) (h (omega arith))

-- a member opens no fragment
member-kind : (d : ℕ) (t : List ℕ) (at n : ℕ) → 0 < n → WholeMembers (IsWhole d t) (stood_at d t) at n → 5 < u8 t at
member-kind d t at n h w = class-opens-none d t at (first (IsWhole d t) (stood_at d t) at n h w).whole

pub members-first : (e : Env) (d : ℕ) (t : List ℕ) (at n : ℕ) → 0 < n → WholeMembers (IsWhole d t) (stood_at d t) at n
    → read_members e (number_at t at) (members_at (stood_at d t) at n)
    ≡ (read e (number_at t at) (class_at d t at)
    ⨾ read_members e (number_at t (next_at d t at)) (members_at (stood_at d t) (next_at d t at) (n - 1)))
unfolding read_members
members-first e d t at n h w =
    let m = first (IsWhole d t) (stood_at d t) at n h w in
    ap (read_members e (number_at t at)) m.classes
    ∙ ap (λ s. read e (number_at t at) (class_at d t at) ⨾ s)
    (members-numbered e t (number_at t at + records (class_at d t at)) (stood_at d t) (next_at d t at) (n - 1)
    (λ some. sym (number_behind d t at m.whole (member-kind d t (next_at d t at) (n - 1) some m.rest))))

pub structure-reads : (e : Env) (d : ℕ) (t : List ℕ) (at : ℕ) → IsWhole (suc d) t at → u8 t at ≡ 28
    → read_members e (number_at t at + 1) (members_at (stood_at d t) (at + 3) (u8 t (at + 1)))
    ≡ read_members e (number_at t (at + 3)) (members_at (stood_at d t) (at + 3) (u8 t (at + 1)))
structure-reads e d t at w k =
    members-numbered e t (number_at t at + 1) (stood_at d t) (at + 3) (u8 t (at + 1))
    (λ some. sym (structure-number (suc d) t at w k (member-kind d t (at + 3) (u8 t (at + 1)) some (structure-members d t at w k))))

-- Options

options-numbered : (e : Env) (m i j : ℕ) (g : Sign) (v k : ℕ) (t : List ℕ) (f : ℕ → Stood) (at n : ℕ) → (1 ≤ n → i ≡ j)
    → read_option e m i g v k (options_at f t at n) ≡ read_option e m j g v k (options_at f t at n)
unfolding read_option options_at
options-numbered e m i j g v k t f at zero h = refl
options-numbered e m i j g v k t f at (suc n) h = ap (λ i. read_option e m i g v k (options_at f t at (suc n))) (h (omega arith))

either_same : (b : Bool) {m m' n n' : Step} → m ≡ m' → n ≡ n'
    → ◌≡◌ {A = Step} (elim b [ true ↦ m | false ↦ n ]) (elim b [ true ↦ m' | false ↦ n' ])
either_same true f g = f
either_same false f g = g

pub option-reads : (e : Env) (m : ℕ) (g : Sign) (v k d : ℕ) (t : List ℕ) (at n : ℕ) → OptionsStand d t at (suc n)
    → read_option e m (number_at t at) g v k (options_at (stood_at d t) t at (suc n))
    ≡ elim (any_holds g v (ranges_at t (at + 2) (u8 t (at + 1)))) [
      | true ↦ field e m 32 1 0 k ⨾ read e (number_at t (option_class t at)) (class_at d t (option_class t at))
      | false ↦ read_option e m (number_at t (next_at d t (option_class t at))) g v (k + 1)
          (options_at (stood_at d t) t (next_at d t (option_class t at)) n)
    ]
unfolding read_option options_at
option-reads e m g v k d t at n s =
    let o = option_class t at in
    either_same (any_holds g v (ranges_at t (at + 2) (u8 t (at + 1))))
    (ap (λ i. field e m 32 1 0 k ⨾ read e i (class_at d t o)) (sym (option-class-number d t at n s)))
    (options-numbered e m _ (number_at t (next_at d t o)) g v (k + 1) t (stood_at d t) (next_at d t o) n
    (λ some. sym (option-next-number d t at n s some)))
