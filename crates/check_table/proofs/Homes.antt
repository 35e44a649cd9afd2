-- The rules' answer is the earlier of both walks' by offsets: where that over homes finds a byte, the rules' walk finds it too.
use Rattle.std.specs.Prelude.{Result}
use Rattle.rules.specs.declared.TableFault.{TableFault}
use Rattle.rules.specs.declared.ByteLength.{ByteLength}
use mathlib.Core.Path.{◌≡◌, refl, sym, ap, ◌∙◌}
use Prim.Native.Nat.{ℕ, ◌-◌, ◌≤◌, ◌<◌}
use native.Mathlib.Omega.{arith}
use native.Mathlib.Nat.{le_refl}
use mathlib.Core.List.{List}
use mathlib.Core.Bool.{Bool, true, false}
use lib.ListN.{length, drop, length-drop}
use lib.Dec.{ltb}
use borrow.Author.Tests.{ltb-true, ltb-false}
use Rattle.facts.specs.Bytes.{Bytes}
use Rattle.rules.specs.Homes.{Walked, fault, lost}
use Rattle.rules.specs.Parse.{checked}
use Rattle.table_offsets.specs.Check.{checked_at}
use Rattle.table_offsets.specs.Earlier.{fault_byte, earlier}
use Rattle.table_offsets.proofs.Earlier.{check-earlier, earlier-none}
use Rattle.check_slots.specs.Homes.{first_home_fault}
use Rattle.check_slots.proofs.TieFragments.{walk-tie}

-- of a walk that finds a fault at f, if that is below the table's length
abbrev found : List ℕ → ℕ → Walked
found t f = elim (ltb f (length t)) [ true ↦ fault (drop f t) | false ↦ lost ]

by-walk : (t : List ℕ) (c : Result ByteLength TableFault) (f : ℕ) → earlier (length t) c (fault_byte t (found t f)) ≡ earlier (length t) c f
unfolding fault_byte
by-walk t c f = by (ltb f (length t)) refl
  where
    place : Bool → ℕ
    place b = fault_byte t (elim b [ true ↦ fault (drop f t) | false ↦ lost ])

    by : (b : Bool) → ltb f (length t) ≡ b → earlier (length t) c (place b) ≡ earlier (length t) c f
    by true e =
        let low : f < length t = ltb-true _ _ e in
        let same : length t - length (drop f t) ≡ f = omega (arith, length-drop f t, low) in
        ap (earlier (length t) c) same
    by false e =
        let high : length t ≤ f = ltb-false _ _ e in
        earlier-none (length t) (length t) (le_refl (length t)) c ∙ sym (earlier-none (length t) f high c)

pub check-homes : (t : List ℕ) → Bytes t → checked t ≡ earlier (length t) (checked_at t) (first_home_fault t)
check-homes t b =
    check-earlier t b
    ∙ ap (λ w. earlier (length t) (checked_at t) (fault_byte t w)) (walk-tie t b)
    ∙ by-walk t (checked_at t) (first_home_fault t)
