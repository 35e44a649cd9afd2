-- What a test answers, and its number: none is 0, and a fault's is not. A walk answers so too.
use mathlib.Core.Path.{◌≡◌, refl, sym, ap, ◌∙◌}
use mathlib.Core.List.{[], ◌∷◌}
use Prim.Native.Nat.{ℕ, ◌-◌}
use lib.ListN.{get_or}
use native.Mathlib.Omega.{arith}
use mathlib.Core.Bool.{true, false}
use Rattle.std.specs.Prelude.{⊤, Result, Ok, Err, IsErrAnd, is_ok}
use Rattle.std.proofs.lemmas.Result.{err_from_is_err_and}
use Rattle.facts.proofs.Truth.{clash}
use Rattle.table_offsets.specs.declared.faults.FaultAt.{FaultAt}
use Rattle.table_offsets.specs.declared.faults.Fault.{Fault}
use Rattle.table_offsets.specs.declared.faults.Fault.TheVariants.{BadSize, UnknownKind, CutShort, PreambleMisplaced, WrongVersion}
use Rattle.table_offsets.specs.declared.faults.Fault.TheVariants.{TraceClassMisplaced, IdUsed, IdUnknown, KindNotAllowed, NumberOutOfRange}
use Rattle.table_offsets.specs.declared.faults.Fault.TheVariants.{SlotNotAllowed, RoleNotAllowed, RangesContradict, TooDeep}
use Rattle.table_offsets.specs.declared.faults.Fault.TheVariants.{TooManyFragments}
use Rattle.table_offsets.specs.Check.{first, or_else}
use Rattle.table_offsets.specs.Faults.{number, fault_number, walk}
use Rattle.table_offsets.specs.Walks.{Walk, Fine, Bad}
use Rattle.table_offsets.proofs.Ends.{fine-bad}
use Rattle.table_offsets.proofs.Picked.{first-zero, first_some, else-zero, else-some}

pub number-some : (f : Fault) → number f ≡ 0 → ⊥
unfolding number
number-some f e = elim f as (λ f. number f ≡ 0 → ⊥) [
  | BadSize ↦ λ e. absurd (omega arith)
  | UnknownKind ↦ λ e. absurd (omega arith)
  | CutShort ↦ λ e. absurd (omega arith)
  | PreambleMisplaced ↦ λ e. absurd (omega arith)
  | WrongVersion ↦ λ e. absurd (omega arith)
  | TraceClassMisplaced ↦ λ e. absurd (omega arith)
  | IdUsed ↦ λ e. absurd (omega arith)
  | IdUnknown ↦ λ e. absurd (omega arith)
  | KindNotAllowed ↦ λ e. absurd (omega arith)
  | NumberOutOfRange ↦ λ e. absurd (omega arith)
  | SlotNotAllowed ↦ λ e. absurd (omega arith)
  | RoleNotAllowed ↦ λ e. absurd (omega arith)
  | RangesContradict ↦ λ e. absurd (omega arith)
  | TooDeep ↦ λ e. absurd (omega arith)
  | TooManyFragments ↦ λ e. absurd (omega arith)
] e

-- what leaves by a `?`

pub exit-number : (q : Result ⊤ Fault) (f : Fault) → IsErrAnd q (λ e. e ≡ f) → fault_number q ≡ number f
unfolding fault_number
exit-number q f h = let p = err_from_is_err_and q h in ap fault_number p.1 ∙ ap number p.2

pub exit-walk : (q : Result ℕ FaultAt) (f : FaultAt) → IsErrAnd q (λ e. e ≡ f) → walk q ≡ Bad (number f.fault) f.byte
unfolding walk
exit-walk q f h = let p = err_from_is_err_and q h in ap walk p.1 ∙ ap (λ z. walk (Err z)) p.2

-- whether a test found nothing

pub ok-zero : (r : Result ⊤ Fault) → is_ok r ≡ true → fault_number r ≡ 0
unfolding fault_number
ok-zero (Ok x) h = refl
ok-zero (Err f) h = absurd (clash h)

pub err-some : (r : Result ⊤ Fault) → is_ok r ≡ false → fault_number r ≡ 0 → ⊥
unfolding fault_number
err-some (Ok x) h = absurd (clash (sym h))
err-some (Err f) h = number-some f

-- a walk

pub walk-fine : {r : Result ℕ FaultAt} {e : ℕ} → r ≡ Ok e → walk r ≡ Fine e
unfolding walk
walk-fine h = ap walk h

pub walk-bad : {r : Result ℕ FaultAt} {f : FaultAt} → r ≡ Err f → walk r ≡ Bad (number f.fault) f.byte
unfolding walk
walk-bad h = ap walk h

-- a test

module _ {r : Result ⊤ Fault} {n : ℕ} (asked : fault_number r ≡ n) where
  -- with no fault

  pub none : {x : ⊤} → r ≡ Ok x → n ≡ 0
  unfolding fault_number
  none e = sym asked ∙ ap fault_number e

  pub first-none : {x : ⊤} → r ≡ Ok x → (m : ℕ) → first n m ≡ m
  first-none e m = first-zero n (none e) m

  pub else-none : {x : ⊤} → r ≡ Ok x → (at : ℕ) (w : Walk) → or_else n at w ≡ w
  else-none e at w = else-zero n at w (none e)

  -- with a fault

  pub told : {f : Fault} → r ≡ Err f → n ≡ number f
  unfolding fault_number
  told e = sym asked ∙ ap fault_number e

  pub some : {f : Fault} → r ≡ Err f → n ≡ 0 → ⊥
  some {f} e z = number-some f (sym (told e) ∙ z)

  pub first-told : {f : Fault} → r ≡ Err f → (m : ℕ) → first n m ≡ number f
  first-told e m = first_some n (some e) m ∙ told e

  pub else-told : {f : Fault} → r ≡ Err f → (at : ℕ) (w : Walk) → or_else n at w ≡ Bad (number f) at
  else-told e at w = else-some n at w (some e) ∙ ap (λ z. Bad z at) (told e)

  pub first-exit : {f : Fault} → r ≡ Err f → (q : Result ⊤ Fault) → IsErrAnd q (λ e. e ≡ f) → (m : ℕ) → fault_number q ≡ first n m
  first-exit e q h m = exit-number q _ h ∙ sym (first-told e m)

-- a number, or a walk as the definition has it, fixes the answer

fault_of : ℕ → Fault
fault_of n =
    get_or
    (BadSize ∷ UnknownKind ∷ CutShort ∷ PreambleMisplaced ∷ WrongVersion ∷ TraceClassMisplaced ∷ IdUsed ∷ IdUnknown
    ∷ KindNotAllowed ∷ NumberOutOfRange ∷ SlotNotAllowed ∷ RoleNotAllowed ∷ RangesContradict ∷ TooDeep ∷ TooManyFragments ∷ [])
    (n - 1)
    BadSize

back : (f : Fault) → fault_of (number f) ≡ f
unfolding number fault_of
back BadSize = refl
back UnknownKind = refl
back CutShort = refl
back PreambleMisplaced = refl
back WrongVersion = refl
back TraceClassMisplaced = refl
back IdUsed = refl
back IdUnknown = refl
back KindNotAllowed = refl
back NumberOutOfRange = refl
back SlotNotAllowed = refl
back RoleNotAllowed = refl
back RangesContradict = refl
back TooDeep = refl
back TooManyFragments = refl

same_number : (f g : Fault) → number f ≡ number g → f ≡ g
same_number f g e = sym (back f) ∙ ap fault_of e ∙ back g

pub same-faults : (r s : Result ⊤ Fault) → fault_number r ≡ fault_number s → r ≡ s
unfolding fault_number
same-faults (Ok x) (Ok y) e = refl
same-faults (Ok x) (Err g) e = absurd (number-some g (sym e))
same-faults (Err f) (Ok y) e = absurd (number-some f e)
same-faults (Err f) (Err g) e = ap Err (same_number f g e)

same_place : {a b : Fault} {x y : ℕ} → a ≡ b → x ≡ y
    → ◌≡◌ {A = FaultAt} (record { fault = a; byte = x }) (record { fault = b; byte = y })
same_place e h = rw (e, h)

pub same-walks : (r s : Result ℕ FaultAt) → walk r ≡ walk s → r ≡ s
unfolding walk
same-walks (Ok a) (Ok b) e = let q : a ≡ b = cc in ap Ok q
same-walks (Ok a) (Err g) e = absurd (fine-bad _ _ _ (sym e))
same-walks (Err f) (Ok b) e = absurd (fine-bad _ _ _ e)
same-walks (Err f) (Err g) e =
    let n : number f.fault ≡ number g.fault = cc in
    let p : f.byte ≡ g.byte = cc in
    ap Err (same_place (same_number _ _ n) p)
