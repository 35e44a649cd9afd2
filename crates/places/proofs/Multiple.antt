-- Alignment is the least multiple and the standard's formula, and goes less than a unit on.
use mathlib.Core.Path.{◌≡◌}
use mathlib.Core.Logic.{⊎_elim}
use Prim.Native.Nat.{ℕ, ◌+◌, ◌-◌, ◌*◌, ◌/◌, ◌%◌, ◌^◌, ◌<◌, ◌≤◌}
use native.Mathlib.Nat.{mod-lt, mod-eq_of_lt, mul-mod_left, div-add-mod', mul-le-mul_right, lt_of_le_of_lt, div-mul-le_self}
use native.Mathlib.Omega.{arith}
use lib.Bits.{and_high}
use lib.Pow.{pow_pos, pow_mono, shr_le}
use Rattle.facts.proofs.Numbers.{lt-or-ge, multiple-more}
use Rattle.rules.specs.Place.{round_up, align_from}
use Rattle.places.specs.Multiple.{LeastMultiple, standard, Aligning}

round-least : (a x : ℕ) → 0 < a → LeastMultiple a x (round_up a x)
unfolding round_up
round-least a x h =
    let y = x + (a - 1) in
    let parts : y / a * a + y % a ≡ y = div-add-mod' y a in
    let small : y % a < a = mod-lt y h in
    record {
      multiple = mul-mod_left _ _;
      not-below = omega arith;
      least = λ m e l. ⊎_elim
          (λ (k : m / a < y / a). absurd (omega (arith, multiple-more _ _ a k, div-add-mod' m a)))
          (λ (k : y / a ≤ m / a). omega (arith, mul-le-mul_right a k, div-add-mod' m a))
          (lt-or-ge (m / a) (y / a));
    }

standard-align : (start k place : ℕ) → place - start + (2 ^ k - 1) < 2 ^ 64 → standard start k place ≡ align_from start (2 ^ k) place
unfolding standard align_from round_up
standard-align start k place h =
    let y = place - start + (2 ^ k - 1) in
    let all : y / 2 ^ k % 2 ^ 64 ≡ y / 2 ^ k = mod-eq_of_lt (lt_of_le_of_lt (shr_le y k) h) in
    rw (and_high y 64 k, all)

pub align-near : (start a place : ℕ) → 0 < a → start ≤ place → (place ≤ align_from start a place) × (align_from start a place < place + a)
unfolding align_from round_up
align-near start a place h l =
    let up : place - start ≤ round_up a (place - start) = (round-least a (place - start) h).not-below in
    (omega arith, omega (arith, div-mul-le_self (place - start + (a - 1)) a))

pub align_fits : (start k place : ℕ) → start ≤ place → k ≤ 6 → place + 64 ≤ 2 ^ 64 → align_from start (2 ^ k) place < 2 ^ 64
align_fits start k place l h fits =
    let unit : 2 ^ k ≤ 2 ^ 6 = pow_mono {i = k} {j = 6} h in
    omega (arith, (align-near start (2 ^ k) place (pow_pos k) l).1)

pub aligning : Aligning
aligning = record { is-least = round-least; is-standard = standard-align; near = align-near }
