-- The first places of an array, the last of them in front: one place less, one place stored.
use mathlib.Core.Path.{◌≡◌, refl, ap, ◌∙◌}
use mathlib.Core.List.{List, [], ◌∷◌}
use Prim.Native.Nat.{ℕ, zero, suc, ◌+◌, ◌-◌, ◌<◌, ◌≤◌}
use native.Mathlib.Numerals.{add-one}
use native.Mathlib.Omega.{arith}
use lib.ListN.{length, get_or, set, take}
use lib.Seq.{get_or-set_same, get_or-set_other}
use Rattle.std.proofs.lemmas.List.{get_or-take, length-take-le}
use Rattle.table_offsets.specs.Check.{latest}

pub latest-step : (xs : List ℕ) (i : ℕ) → 0 < i → latest xs i ≡ get_or xs (i - 1) 0 ∷ latest xs (i - 1)
unfolding latest
latest-step xs zero h = absurd (omega arith)
latest-step xs (suc i) h = let e : suc i - 1 ≡ i = omega arith in rw e

pub latest-none : (xs : List ℕ) (i : ℕ) → i ≤ 0 → latest xs i ≡ []
unfolding latest
latest-none xs zero h = refl
latest-none xs (suc i) h = absurd (omega arith)

pub latest-length : (xs : List ℕ) (n : ℕ) → length (latest xs n) ≡ n
unfolding latest
latest-length xs zero = refl
latest-length xs (suc n) = ap suc (latest-length xs n)

pub latest-other : (xs : List ℕ) (n v i : ℕ) → i ≤ n → latest (set xs n v) i ≡ latest xs i
unfolding latest
latest-other xs n v zero h = refl
latest-other xs n v (suc i) h =
    let a : get_or (set xs n v) i 0 ≡ get_or xs i 0 = get_or-set_other xs n i v 0 (λ e. omega arith) in
    let b : latest (set xs n v) i ≡ latest xs i = latest-other xs n v i (omega arith) in cc

pub latest-set : (xs : List ℕ) (n v : ℕ) → n < length xs → v ∷ latest xs n ≡ latest (set xs n v) (n + 1)
unfolding latest
latest-set xs n v h =
    let a : get_or (set xs n v) n 0 ≡ v = get_or-set_same xs n v 0 h in
    let b : latest (set xs n v) n ≡ latest xs n = latest-other xs n v n (omega arith) in rw (add-one n) (cc)

-- the slice of the first n says the same

latest-front : (xs : List ℕ) (n i : ℕ) → i ≤ n → latest (take n xs) i ≡ latest xs i
unfolding latest
latest-front xs n zero h = refl
latest-front xs n (suc i) h =
    let a : get_or (take n xs) i 0 ≡ get_or xs i 0 = get_or-take n xs i 0 (omega arith) in
    let b : latest (take n xs) i ≡ latest xs i = latest-front xs n i (omega arith) in cc

pub latest-taken : (xs : List ℕ) (n : ℕ) → n ≤ length xs → latest (take n xs) (length (take n xs)) ≡ latest xs n
latest-taken xs n l = ap (latest (take n xs)) (length-take-le n xs l) ∙ latest-front xs n n (omega arith)
