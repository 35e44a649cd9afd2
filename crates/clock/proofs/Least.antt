-- The new clock is the least value that ends in the stamp's bits, and the standard's. The idea: two values less than a turn apart that
-- end in the same bits are one.
use Rattle.std.specs.Prelude.{None, Some}
use Rattle.std.proofs.Common.{◌≡◌, ℕ, suc, ◌+◌, ◌-◌, ◌*◌, ◌/◌, ◌%◌, ◌^◌, ◌<◌, ◌≤◌, ◌↔◌, sym, ◌∙◌, ⊎_elim}
use Rattle.std.proofs.Common.{lt_of_le_of_lt, mul-le-mul_right, mod-lt, mod-eq_of_lt, suc-mul, div-add-mod', arith}
use Rattle.std.proofs.Common.{pow_pos, le-ltb, lt-ltb, le-leb}
use native.Mathlib.Nat.{add-mod-mod}
use borrow.Author.Tests.{lt-leb}
use lib.Bits.{bit_and, and_mask, and_high}
use lib.Pow.{shr_le, low}
use Rattle.facts.proofs.Numbers.{lt-or-ge, multiple-more}
use Rattle.rules.specs.Clock.{advance, clock_after}
use Rattle.clock.specs.Least.{Least, standard, NewClock}

-- less than a turn apart, with the same remainder
mod-apart : (a b M : ℕ) → a ≤ b → b < a + M → a % M ≡ b % M → a ≡ b
mod-apart a b M h₀ h₁ e = ⊎_elim
    (λ (k : a / M < b / M). absurd (omega (arith, multiple-more _ _ M k, div-add-mod' a M, div-add-mod' b M)))
    (λ (k : b / M ≤ a / M). omega (arith, mul-le-mul_right M k, div-add-mod' a M, div-add-mod' b M))
    (lt-or-ge (a / M) (b / M))

low_turn : (q l : ℕ) {stamp : ℕ} → stamp < 2 ^ l → (q * 2 ^ l + 2 ^ l + stamp) % 2 ^ l ≡ stamp
low_turn q l h = rw (← suc-mul q (2 ^ l)) (low (suc q) l h)

module _ (clock l stamp : ℕ) where
  abbrev pub new : ℕ
  new = clock + advance clock l stamp

  pub new-fits : new < 2 ^ 64 → clock_after clock l stamp ≡ Some new
  unfolding clock_after
  new-fits h = rw (lt-ltb new (2 ^ 64) h, clock_after)

  pub new-above : 2 ^ 64 ≤ new → clock_after clock l stamp ≡ None
  unfolding clock_after
  new-above h = rw (le-ltb new (2 ^ 64) h, clock_after)

  new-lt : new < clock + 2 ^ l
  unfolding advance
  new-lt = omega (arith, mod-lt (stamp + 2 ^ l - clock % 2 ^ l) (pow_pos l))

  pub new-low-bits : stamp < 2 ^ l → new % 2 ^ l ≡ stamp
  unfolding advance
  new-low-bits hs =
      let turn : clock + (stamp + 2 ^ l - clock % 2 ^ l) ≡ clock / 2 ^ l * 2 ^ l + 2 ^ l + stamp =
      omega (arith, div-add-mod' clock (2 ^ l), mod-lt clock (pow_pos l)) in
      rw (add-mod-mod, turn) (low_turn _ l hs)

  new-least : stamp < 2 ^ l → Least clock l stamp new
  new-least hs = record {
    not-below = omega arith;
    low_bits = new-low-bits hs;
    least = λ m h e. ⊎_elim
        (λ (k : m < new). absurd (omega (arith, mod-apart m new (2 ^ l) (omega arith) (omega (arith, new-lt)) (e ∙ sym (new-low-bits hs)))))
        (λ k. k)
        (lt-or-ge m new);
  }

  -- whatever ends in the stamp's bits less than a turn ahead is the new clock
  pub ahead-new : stamp < 2 ^ l → (n : ℕ) → clock ≤ n → n < clock + 2 ^ l → n % 2 ^ l ≡ stamp → n ≡ new
  ahead-new hs n h₀ h₁ e = sym (mod-apart new n (2 ^ l) ((new-least hs).least n h₀ e) (omega arith) (new-low-bits hs ∙ sym e))

-- the standard's H: all but the low bits
and-not-mask : (clock l : ℕ) → clock < 2 ^ 64 → bit_and clock (2 ^ (64 + l) - 1 - (2 ^ l - 1)) ≡ clock / 2 ^ l * 2 ^ l
and-not-mask clock l hc =
    let ones : 2 ^ (64 + l) - 1 - (2 ^ l - 1) ≡ 2 ^ (64 + l) - 2 ^ l = omega (arith, pow_pos l) in
    let all : clock / 2 ^ l % 2 ^ 64 ≡ clock / 2 ^ l = mod-eq_of_lt (lt_of_le_of_lt (shr_le clock l) hc) in
    rw (ones, and_high clock 64 l, all)

standard-new : (clock l stamp : ℕ) → clock < 2 ^ 64 → stamp < 2 ^ l → standard clock l stamp ≡ new clock l stamp
unfolding standard
standard-new clock l stamp hc hs = ⊎_elim turned straight (lt-or-ge stamp (clock % 2 ^ l))
  where
    parts : clock / 2 ^ l * 2 ^ l + clock % 2 ^ l ≡ clock
    parts = div-add-mod' clock (2 ^ l)

    straight : clock % 2 ^ l ≤ stamp → standard clock l stamp ≡ new clock l stamp
    straight k =
        rw (le-leb (bit_and clock (2 ^ l - 1)) stamp (rw (and_mask clock l) k), standard, and-not-mask clock l hc)
        (ahead-new clock l stamp hs _ (omega (arith, parts, mod-lt clock (pow_pos l))) (omega (arith, parts)) (low _ l hs))

    turned : stamp < clock % 2 ^ l → standard clock l stamp ≡ new clock l stamp
    turned k =
        let turn : clock / 2 ^ l * 2 ^ l + (2 ^ l - 1) + 1 ≡ clock / 2 ^ l * 2 ^ l + 2 ^ l = omega (arith, pow_pos l) in
        rw (lt-leb (bit_and clock (2 ^ l - 1)) stamp (rw (and_mask clock l) k), standard, and-not-mask clock l hc, turn)
        (ahead-new clock l stamp hs _ (omega (arith, parts, mod-lt clock (pow_pos l))) (omega (arith, parts)) (low_turn _ l hs))

least-once : {clock l stamp a b : ℕ} → Least clock l stamp a → Least clock l stamp b → a ≡ b
least-once {a = a} {b = b} p q = omega (arith, p.least b q.not-below q.low_bits, q.least a p.not-below p.low_bits)

given-least : {clock l stamp n : ℕ} → Least clock l stamp n → (clock_after clock l stamp ≡ Some n) ↔ (n < 2 ^ 64)
given-least {clock} {l} {stamp} {n} p =
    let hs : stamp < 2 ^ l = rw (← p.low_bits) (mod-lt n (pow_pos l)) in
    rw (least-once p (new-least clock l stamp hs))
    (⊎_elim
    (λ (h : new clock l stamp < 2 ^ 64). (λ e. h, new-fits clock l stamp))
    (λ (h : 2 ^ 64 ≤ new clock l stamp). (
      λ e. let z : ◌≡◌ {A = ℕ} 0 1 = cc (new-above clock l stamp h) in absurd (omega arith),
      λ k. absurd (omega arith),
    ))
    (lt-or-ge (new clock l stamp) (2 ^ 64)))

pub new-clock : NewClock
new-clock = record { is-least = new-least; once = least-once; is-standard = standard-new; given = given-least }
