-- How the code comes to the new clock: w is the stamp less the old clock, wrapped at 64 bits, and is then cut to l bits.
use Rattle.std.specs.Prelude.{Some, None}
use Rattle.std.proofs.Common.{◌≡◌, ℕ, ◌+◌, ◌-◌, ◌%◌, ◌^◌, ◌<◌, ◌≤◌, ◌⊎◌, subst, inl, inr, ⊎_elim, lt_of_lt_of_le}
use Rattle.std.proofs.Common.{mod-lt, mod-eq_of_lt, add_comm, arith, pow_pos, pow_mono}
use native.Mathlib.Nat.{add-mod-mod}
use lib.Pow.{mod-mod-pow}
use Rattle.facts.proofs.Numbers.{lt-or-ge}
use Rattle.rules.specs.Clock.{clock_after}
use Rattle.clock.specs.Ticked.{ticked_of}
use Rattle.clock.proofs.Least.{new, new-fits, new-above, new-low-bits, ahead-new}

module _ (clock l stamp w : ℕ) (hc : clock < 2 ^ 64) (hw : w < 2 ^ 64) (hs : stamp < 2 ^ l) (e : (w + clock) % 2 ^ 64 ≡ stamp) where
  -- the code's sum is the new clock, or both are above 64 bits
  abbrev Agree : Type 0
  Agree = (clock + w % 2 ^ l ≡ new clock l stamp) ⊎ ((2 ^ 64 ≤ clock + w % 2 ^ l) × (2 ^ 64 ≤ new clock l stamp))

  -- shorter stamps: the low l bits know nothing of the wrap
  short : l < 64 → clock + w % 2 ^ l ≡ new clock l stamp
  short h =
      let all : 64 - l + l ≡ 64 = omega arith in
      let same : (w + clock) % 2 ^ 64 % 2 ^ l ≡ (w + clock) % 2 ^ l =
      subst (λ (k : ℕ). (w + clock) % 2 ^ k % 2 ^ l ≡ (w + clock) % 2 ^ l) all (mod-mod-pow (w + clock) (64 - l) l) in
      ahead-new clock l stamp hs _ (omega arith) (omega (arith, mod-lt w (pow_pos l)))
      (rw (add-mod-mod, add_comm clock w, ← same, e) (mod-eq_of_lt hs))

  -- longer ones: nothing is cut, and a sum that fits 64 bits is the stamp itself
  long-fits : 2 ^ 64 ≤ 2 ^ l → clock + w < 2 ^ 64 → clock + w ≡ new clock l stamp
  long-fits turn h =
      let same : clock + w ≡ stamp = omega arith in
      ahead-new clock l stamp hs _ (omega arith) (omega arith) (rw same (mod-eq_of_lt hs))

  -- one that does not means a stamp below the old clock, which only a turn of l bits leads to
  long-above : 2 ^ 64 ≤ 2 ^ l → 2 ^ 64 ≤ clock + w → 2 ^ 64 ≤ new clock l stamp
  long-above turn h = ⊎_elim
      (λ (k : new clock l stamp < 2 ^ 64). absurd (omega (arith, new-low-bits clock l stamp hs, mod-eq_of_lt (lt_of_lt_of_le k turn))))
      (λ k. k)
      (lt-or-ge (new clock l stamp) (2 ^ 64))

  long : 64 ≤ l → Agree
  long h =
      let turn : 2 ^ 64 ≤ 2 ^ l = pow_mono {i = 64} {j = l} h in
      rw (mod-eq_of_lt (lt_of_lt_of_le hw turn))
      (⊎_elim (λ k. inl (long-fits turn k)) (λ k. inr (k, long-above turn k)) (lt-or-ge (clock + w) (2 ^ 64)))

  agree : Agree
  agree = ⊎_elim (λ h. inl (short h)) long (lt-or-ge l 64)

  pub ticked-to : clock + w % 2 ^ l < 2 ^ 64 → Some (record { value = clock + w % 2 ^ l }) ≡ ticked_of (clock_after clock l stamp)
  unfolding ticked_of
  ticked-to h = ⊎_elim (λ n. rw (n, new-fits clock l stamp (rw n at h))) (λ n. absurd (omega arith)) agree

  pub ticked-large : 2 ^ 64 ≤ clock + w % 2 ^ l → None ≡ ticked_of (clock_after clock l stamp)
  unfolding ticked_of
  ticked-large h = rw (new-above clock l stamp (⊎_elim (λ n. rw (← n) h) (λ n. n.1) agree))
