-- Laws of a float's millionths. In order: below the limit; millionths of a whole number; the words of m millionths; whether six decimals
-- are all; the nearest millionth.
use mathlib.Core.Path.{◌≡◌, sym, ap, ◌∙◌}
use mathlib.Core.Logic.{⊎_elim}
use mathlib.Core.Bool.{true, false}
use Prim.Native.Nat.{ℕ, ◌+◌, ◌-◌, ◌*◌, ◌/◌, ◌%◌, ◌^◌, ◌<◌, ◌≤◌}
use native.Mathlib.Nat.{div-add-mod', mod-one, mod-eq_of_lt, div-eq_of_lt, le-div_iff_mul-le, mul-le-mul_right}
use native.Mathlib.Nat.{mul-div-mul_right, mul-add-div_right, add-mul-div_right, div-div-eq-div-mul, mul_assoc, add-mul-mod_self_right}
use native.Mathlib.Omega.{arith}
use borrow.Author.Tests.{lt-ltb, le-ltb, le-leb, lt-leb, eq-eqb, ne_eqb, ltb-true}
use lib.Dec.{ltb, leb, eqb}
use lib.Pow.{pow_mono, pow_pos, pow-add, mod-mod-pow, mod-pow-add}
use Rattle.facts.proofs.Numbers.{lt-or-ge, pow-double}
use Rattle.screen_meaning.specs.Float.{over, below, is_exact, millionths}

pub over_zero : (m : ℕ) → over m 0 ≡ m * 1000000
unfolding over
over_zero m = omega arith

-- Below the limit
pub below-room : (m u d : ℕ) → below m u d ≡ true → over m u < 10 ^ 18 * 2 ^ d
unfolding below
below-room m u d h = ltb-true _ _ h

below-is : (m u d : ℕ) → over m u < 10 ^ 18 * 2 ^ d → true ≡ below m u d
unfolding below
below-is m u d h = sym (lt-ltb _ _ h)

below-not : (m u d : ℕ) → 10 ^ 18 * 2 ^ d ≤ over m u → false ≡ below m u d
unfolding below
below-not m u d h = sym (le-ltb _ _ h)

pub below-far : (m d : ℕ) → m < 2 ^ 53 → 14 ≤ d → true ≡ below m 0 d
below-far m d h k =
    let p : 2 ^ 14 ≤ 2 ^ d = pow_mono {i = 14} {j = d} k in
    below-is m 0 d (omega (arith, p, over_zero m))

pub below-near : (m d : ℕ) → ltb m (1000000000000 * 2 ^ d) ≡ below m 0 d
below-near m d = ⊎_elim
    (λ (l : m < 1000000000000 * 2 ^ d). lt-ltb m _ l ∙ below-is m 0 d (omega (arith, over_zero m)))
    (λ (l : 1000000000000 * 2 ^ d ≤ m). le-ltb m _ l ∙ below-not m 0 d (omega (arith, over_zero m)))
    (lt-or-ge m (1000000000000 * 2 ^ d))

over_none : (m u : ℕ) → m ≡ 0 → over m u ≡ 0
unfolding over
over_none m u e = rw e (omega arith)

over-some : (m u : ℕ) → 40 ≤ u → 0 < m → 10 ^ 18 ≤ over m u
unfolding over
over-some m u h k =
    let p : 2 ^ 40 ≤ 2 ^ u = pow_mono {i = 40} {j = u} h in
    let q : 1 * 2 ^ u ≤ m * 2 ^ u = mul-le-mul_right (2 ^ u) k in
    omega (arith, p, q)

pub below-high : (m u : ℕ) → 40 ≤ u → eqb m 0 ≡ below m u 0
below-high m u h = ⊎_elim
    (λ (l : m < 1).
    let z : m ≡ 0 = omega arith in
    eq-eqb m 0 z ∙ below-is m u 0 (omega (arith, over_none m u z)))
    (λ (l : 1 ≤ m). ne_eqb m 0 (λ e. omega (arith, e)) ∙ below-not m u 0 (omega (arith, over-some m u h l)))
    (lt-or-ge m 1)

over-limit : (m u : ℕ) → m * 2 ^ u ≤ 999999999999 → over m u < 10 ^ 18 * 2 ^ 0
unfolding over
over-limit m u h = omega arith

over-beyond : (m u : ℕ) → 999999999999 < m * 2 ^ u → 10 ^ 18 * 2 ^ 0 ≤ over m u
unfolding over
over-beyond m u h = omega arith

pub below-low : (m u p : ℕ) → p ≡ 2 ^ u → leb m (999999999999 / p) ≡ below m u 0
below-low m u p e = rw e (⊎_elim
    (λ (l : 999999999999 / 2 ^ u < m).
    lt-leb _ _ l
    ∙ below-not m u 0 (over-beyond m u (⊎_elim
    (λ (k : 999999999999 < m * 2 ^ u). k)
    (λ (k : m * 2 ^ u ≤ 999999999999).
    absurd (omega (arith, (le-div_iff_mul-le {k = 2 ^ u} {x = m} {y = 999999999999} (pow_pos u)).1 k)))
    (lt-or-ge 999999999999 (m * 2 ^ u)))))
    (λ (l : m ≤ 999999999999 / 2 ^ u).
    le-leb _ _ l ∙ below-is m u 0 (over-limit m u ((le-div_iff_mul-le {k = 2 ^ u} {x = m} {y = 999999999999} (pow_pos u)).0 l)))
    (lt-or-ge (999999999999 / 2 ^ u) m))

-- Millionths of a whole number
whole-over : (m u : ℕ) → over m u ≡ millionths m u 0
unfolding millionths
whole-over m u = omega arith

pub whole-none : (m u : ℕ) → 40 ≤ u → below m u 0 ≡ true → 0 ≡ millionths m u 0
whole-none m u h k = ⊎_elim
    (λ (l : m < 1). sym (over_none m u (omega arith)) ∙ whole-over m u)
    (λ (l : 1 ≤ m). absurd (omega (arith, below-room m u 0 k, over-some m u h l)))
    (lt-or-ge m 1)

pub whole-some : (m u p : ℕ) → p ≡ 2 ^ u → m * p * 1000000 ≡ millionths m u 0
unfolding over
whole-some m u p e = rw e (whole-over m u)

pub whole_room : (m u p : ℕ) → p ≡ 2 ^ u → below m u 0 ≡ true → m * p * 1000000 < 2 ^ 64
unfolding over
whole_room m u p e h = rw e (omega (arith, below-room m u 0 h))

pub whole-exact : (m u : ℕ) → true ≡ is_exact m u 0
unfolding is_exact
whole-exact m u = sym (eq-eqb _ _ (mod-one (over m u)))

-- The words of m millionths
over-words : (m : ℕ) → over m 0 ≡ m % 4294967296 * 1000000 + m / 4294967296 * 1000000 * 4294967296
over-words m = omega (arith, over_zero m)

pub low-is : (m : ℕ) → m % 4294967296 * 1000000 % 4294967296 ≡ over m 0 % 2 ^ 32
low-is m =
    sym (ap (λ z. z % 4294967296) (over-words m)
    ∙ add-mul-mod_self_right (m % 4294967296 * 1000000) (m / 4294967296 * 1000000) 4294967296)

pub high_is : (m : ℕ) → m / 4294967296 * 1000000 + m % 4294967296 * 1000000 / 4294967296 ≡ over m 0 / 2 ^ 32
high_is m =
    let s = add-mul-div_right (m % 4294967296 * 1000000) (m / 4294967296 * 1000000) {z = 4294967296} (omega arith) in
    omega (arith, sym (ap (λ z. z / 4294967296) (over-words m) ∙ s))

-- Whether six decimals are all: the remainder is 0
pub exact-near : (m d l p : ℕ) → d ≤ 32 → l ≡ over m 0 % 2 ^ 32 → p ≡ 2 ^ d → eqb (l % p) 0 ≡ is_exact m 0 d
unfolding is_exact
exact-near m d l p h el ep =
    let s : 32 - d + d ≡ 32 = omega arith in
    rw (el, ep)
    (ap (λ z. eqb z 0) (ap (λ k. over m 0 % 2 ^ k % 2 ^ d) (sym s) ∙ mod-mod-pow (over m 0) (32 - d) d))

over-small : (m : ℕ) → m < 2 ^ 53 → over m 0 < 2 ^ 73
over-small m h = omega (arith, over_zero m)

pub exact-far : (m d : ℕ) → m < 2 ^ 53 → 94 < d → eqb m 0 ≡ is_exact m 0 d
unfolding is_exact
exact-far m d h k =
    let p : 2 ^ 73 ≤ 2 ^ d = pow_mono {i = 73} {j = d} (omega arith) in
    let r : over m 0 % 2 ^ d ≡ over m 0 = mod-eq_of_lt (omega (arith, p, over-small m h)) in
    ⊎_elim
    (λ (l : m < 1). eq-eqb m 0 (omega arith) ∙ sym (eq-eqb (over m 0 % 2 ^ d) 0 (omega (arith, r, over_zero m))))
    (λ (l : 1 ≤ m). ne_eqb m 0 (λ e. omega (arith, e)) ∙ sym (ne_eqb (over m 0 % 2 ^ d) 0 (λ e. omega (arith, e, r, over_zero m))))
    (lt-or-ge m 1)

-- the remainder by its words, behind the thirty-second bit
split-far : (x d : ℕ) → 32 < d → x % 2 ^ d ≡ (x / 2 ^ 32 % 2 ^ (d - 32)) * 2 ^ 32 + x % 2 ^ 32
split-far x d h =
    let s : d ≡ d - 32 + 32 = omega arith in
    ap (λ k. x % 2 ^ k) s ∙ mod-pow-add x (d - 32) 32

pub exact-high : (m d l h p : ℕ) → 32 < d → l ≡ over m 0 % 2 ^ 32 → l ≡ 0 → h ≡ over m 0 / 2 ^ 32 → p ≡ 2 ^ (d - 32)
    → eqb (h % p) 0 ≡ is_exact m 0 d
unfolding is_exact
exact-high m d l h p k el z eh ep = rw (eh, ep) (⊎_elim
    (λ (n : over m 0 / 2 ^ 32 % 2 ^ (d - 32) < 1).
    eq-eqb (over m 0 / 2 ^ 32 % 2 ^ (d - 32)) 0 (omega arith)
    ∙ sym (eq-eqb (over m 0 % 2 ^ d) 0 (omega (arith, split-far (over m 0) d k, el, z))))
    (λ (n : 1 ≤ over m 0 / 2 ^ 32 % 2 ^ (d - 32)).
    ne_eqb (over m 0 / 2 ^ 32 % 2 ^ (d - 32)) 0 (λ e. omega (arith, e))
    ∙ sym (ne_eqb (over m 0 % 2 ^ d) 0 (λ e. omega (arith, e, split-far (over m 0) d k))))
    (lt-or-ge (over m 0 / 2 ^ 32 % 2 ^ (d - 32)) 1))

pub exact-not : (m d l : ℕ) → 32 < d → l ≡ over m 0 % 2 ^ 32 → (l ≡ 0 → ⊥) → false ≡ is_exact m 0 d
unfolding is_exact
exact-not m d l k el n = sym (ne_eqb (over m 0 % 2 ^ d) 0 (λ e. n (omega (arith, e, el, split-far (over m 0) d k))))

-- The nearest millionth: half of the divisor is added
half_up : (m d : ℕ) → 0 < d → (over m 0 + 2 ^ (d - 1)) / 2 ^ d ≡ millionths m 0 d
unfolding millionths
half_up m d h =
    let p : 2 ^ d ≡ 2 ^ (d - 1) * 2 = pow-double d h in
    let n : 2 * over m 0 + 2 ^ d ≡ (over m 0 + 2 ^ (d - 1)) * 2 = omega (arith, p) in
    let q : 2 * 2 ^ d ≡ 2 ^ d * 2 = omega arith in
    sym (ap (λ z. z / (2 * 2 ^ d)) n ∙ ap (λ z. (over m 0 + 2 ^ (d - 1)) * 2 / z) q
    ∙ mul-div-mul_right {m = 2} (over m 0 + 2 ^ (d - 1)) (2 ^ d) (omega arith))

words : (d : ℕ) → d ≤ 32 → 2 ^ 32 ≡ 2 ^ (32 - d) * 2 ^ d
words d h =
    let s : 32 ≡ 32 - d + d = omega arith in
    ap (λ k. 2 ^ k) s ∙ pow-add 2 (32 - d) d

split-near : (x d : ℕ) → d ≤ 32 → x ≡ x / 2 ^ 32 * 2 ^ (32 - d) * 2 ^ d + x % 2 ^ 32
split-near x d h =
    sym (div-add-mod' x (2 ^ 32))
    ∙ ap (λ k. x / 2 ^ 32 * k + x % 2 ^ 32) (words d h)
    ∙ ap (λ k. k + x % 2 ^ 32) (sym (mul_assoc (x / 2 ^ 32) (2 ^ (32 - d)) (2 ^ d)))

pub near-is : (m d h l a b p : ℕ) → 0 < d → d ≤ 32 → h ≡ over m 0 / 2 ^ 32 → l ≡ over m 0 % 2 ^ 32 → a ≡ 2 ^ (d - 1)
    → b ≡ 2 ^ (32 - d) → p ≡ 2 ^ d → h * b + (l + a) / p ≡ millionths m 0 d
near-is m d h l a b p k g eh el ea eb ep =
    let x = over m 0 in
    let s : x + 2 ^ (d - 1) ≡ x / 2 ^ 32 * 2 ^ (32 - d) * 2 ^ d + (x % 2 ^ 32 + 2 ^ (d - 1)) = omega (arith, split-near x d g) in
    rw (eh, el, ea, eb, ep)
    (sym (mul-add-div_right {m = 2 ^ d} (pow_pos d) (x / 2 ^ 32 * 2 ^ (32 - d)) (x % 2 ^ 32 + 2 ^ (d - 1)))
    ∙ ap (λ z. z / 2 ^ d) (sym s) ∙ half_up m d k)

-- what is above the thirty-second bit takes no more room than the millionths
pub near-room : (m d h b : ℕ) → d ≤ 32 → h ≡ over m 0 / 2 ^ 32 → b ≡ 2 ^ (32 - d) → below m 0 d ≡ true → h * b < 10 ^ 18
near-room m d h b g eh eb k = rw (eh, eb) (⊎_elim
    (λ (l : over m 0 / 2 ^ 32 * 2 ^ (32 - d) < 10 ^ 18). l)
    (λ (l : 10 ^ 18 ≤ over m 0 / 2 ^ 32 * 2 ^ (32 - d)).
    absurd (omega (
      arith,
      mul-le-mul_right (2 ^ d) l,
      split-near (over m 0) d g,
      below-room m 0 d k,
    )))
    (lt-or-ge (over m 0 / 2 ^ 32 * 2 ^ (32 - d)) (10 ^ 18)))

pub far_none : (m d : ℕ) → m < 2 ^ 53 → 94 < d → 0 ≡ millionths m 0 d
far_none m d h k =
    let p : 2 ^ d ≡ 2 ^ (d - 1) * 2 = pow-double d (omega arith) in
    let q : 2 ^ 73 ≤ 2 ^ (d - 1) = pow_mono {i = 73} {j = d - 1} (omega arith) in
    sym (div-eq_of_lt (omega (arith, p, q, over-small m h))) ∙ half_up m d (omega arith)

pub middle-is : (m d h a p : ℕ) → 32 < d → h ≡ over m 0 / 2 ^ 32 → a ≡ 2 ^ (d - 33) → p ≡ 2 ^ (d - 32) → (h + a) / p ≡ millionths m 0 d
middle-is m d h a p k eh ea ep =
    let x = over m 0 in
    let e : d - 1 ≡ d - 33 + 32 = omega arith in
    let f : d ≡ 32 + (d - 32) = omega arith in
    let c : 2 ^ (d - 1) ≡ 2 ^ (d - 33) * 2 ^ 32 = ap (λ j. 2 ^ j) e ∙ pow-add 2 (d - 33) 32 in
    let g : 2 ^ d ≡ 2 ^ 32 * 2 ^ (d - 32) = ap (λ j. 2 ^ j) f ∙ pow-add 2 32 (d - 32) in
    rw (eh, ea, ep)
    (ap (λ z. z / 2 ^ (d - 32)) (sym (add-mul-div_right x (2 ^ (d - 33)) {z = 2 ^ 32} (pow_pos 32)))
    ∙ div-div-eq-div-mul (x + 2 ^ (d - 33) * 2 ^ 32) (2 ^ 32) (2 ^ (d - 32))
    ∙ ap (λ z. (x + z) / (2 ^ 32 * 2 ^ (d - 32))) (sym c)
    ∙ ap (λ z. (x + 2 ^ (d - 1)) / z) (sym g)
    ∙ half_up m d (omega arith))
