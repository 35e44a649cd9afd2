-- Laws of the walk over a table's records. In order: what stands at a byte; past the table's end nothing is found; one record more.
use mathlib.Core.Path.{◌≡◌, refl, sym, ap, ◌∙◌}
use mathlib.Core.List.{List}
use mathlib.Core.Bool.{Bool, true, false}
use Prim.Native.Nat.{ℕ, zero, suc, ◌+◌, ◌-◌, ◌<◌, ◌≤◌}
use native.Mathlib.Omega.{arith}
use borrow.Author.Tests.{eq-eqb, ne_eqb}
use lib.ListN.{length, get_or, get_or-eq_default}
use lib.Dec.{eqb}
use Rattle.table_offsets.specs.Check.{number_at}
use Rattle.rules.specs.Record.{u8}
use Rattle.class_layout.specs.Numbers.{next_record}
use Rattle.class_layout.proofs.Records.{size-at}
use Rattle.screen_clock.specs.Frequency.{behind, is_stream, is_clock, clock_from, frequency_from}

-- what stands at a byte
pub stream-here : (t : List ℕ) (at i : ℕ) → get_or t at 0 ≡ 4 → eqb (number_at t (at + 1) 8) i ≡ is_stream t at i
unfolding is_stream
stream-here t at i h = simp (is_stream, eq-eqb (get_or t at 0) 4 h)

pub no_stream : (t : List ℕ) (at i : ℕ) → (get_or t at 0 ≡ 4 → ⊥) → false ≡ is_stream t at i
unfolding is_stream
no_stream t at i h = simp (is_stream, ne_eqb (get_or t at 0) 4 h)

pub clock-here : (t : List ℕ) (at i : ℕ) → get_or t at 0 ≡ 3 → eqb (get_or t (at + 1) 0) i ≡ is_clock t at i
unfolding is_clock
clock-here t at i h = simp (is_clock, eq-eqb (get_or t at 0) 3 h)

pub no-clock : (t : List ℕ) (at i : ℕ) → (get_or t at 0 ≡ 3 → ⊥) → false ≡ is_clock t at i
unfolding is_clock
no-clock t at i h = simp (is_clock, ne_eqb (get_or t at 0) 3 h)

behind_more : (t : List ℕ) (at : ℕ) → at < behind t at
unfolding behind
behind_more t at = omega arith

-- it is where the rules' record ends
pub behind-next : (t : List ℕ) (at : ℕ) → behind t at ≡ next_record t at
unfolding behind u8
behind-next t at = omega (arith, size-at t at (get_or t at 0) refl)

-- a round more
clock-suc : (n : ℕ) (t : List ℕ) (at i : ℕ) (b : Bool) → is_stream t at i ≡ b
    → clock_from (suc n) t at i ≡ elim b [ true ↦ get_or t (at + 9) 0 | false ↦ clock_from n t (behind t at) i ]
unfolding clock_from
clock-suc n t at i b h = rw (← h)

frequency-suc : (n : ℕ) (t : List ℕ) (at i : ℕ) (b : Bool) → is_clock t at i ≡ b
    → frequency_from (suc n) t at i ≡ elim b [ true ↦ number_at t (at + 2) 8 | false ↦ frequency_from n t (behind t at) i ]
unfolding frequency_from
frequency-suc n t at i b h = rw (← h)

-- past the table's end
byte_past : (t : List ℕ) (at : ℕ) → length t ≤ at → get_or t at 0 ≡ 0
byte_past t at h = get_or-eq_default t 0 h

pub number_past : (n : ℕ) (t : List ℕ) (at : ℕ) → length t ≤ at → 0 ≡ number_at t at n
unfolding number_at
number_past zero t at h = refl
number_past (suc n) t at h = omega (arith, number_past n t (at + 1) (omega arith), byte_past t at h)

pub clock-past : (n : ℕ) (t : List ℕ) (at i : ℕ) → length t ≤ at → 255 ≡ clock_from n t at i
unfolding clock_from
clock-past zero t at i h = refl
clock-past (suc n) t at i h =
    clock-past n t (behind t at) i (omega (arith, behind_more t at))
    ∙ sym (clock-suc n t at i false (sym (no_stream t at i (λ e. omega (arith, e, byte_past t at h)))))

pub frequency-past : (n : ℕ) (t : List ℕ) (at i : ℕ) → length t ≤ at → 0 ≡ frequency_from n t at i
unfolding frequency_from
frequency-past zero t at i h = refl
frequency-past (suc n) t at i h =
    frequency-past n t (behind t at) i (omega (arith, behind_more t at))
    ∙ sym (frequency-suc n t at i false (sym (no-clock t at i (λ e. omega (arith, e, byte_past t at h)))))

-- one record more: it is found, or the walk goes on
module _ (n : ℕ) (some : 0 < n) where
  rounds : n ≡ suc (n - 1)
  rounds = omega arith

  pub clock-found : (t : List ℕ) (at i : ℕ) → is_stream t at i ≡ true → get_or t (at + 9) 0 ≡ clock_from n t at i
  clock-found t at i h = sym (ap (λ k. clock_from k t at i) rounds ∙ clock-suc (n - 1) t at i true h)

  pub clock-on : (t : List ℕ) (at i : ℕ) → is_stream t at i ≡ false → clock_from n t at i ≡ clock_from (n - 1) t (behind t at) i
  clock-on t at i h = ap (λ k. clock_from k t at i) rounds ∙ clock-suc (n - 1) t at i false h

  pub frequency-found : (t : List ℕ) (at i : ℕ) → is_clock t at i ≡ true → number_at t (at + 2) 8 ≡ frequency_from n t at i
  frequency-found t at i h = sym (ap (λ k. frequency_from k t at i) rounds ∙ frequency-suc (n - 1) t at i true h)

  pub frequency-on : (t : List ℕ) (at i : ℕ) → is_clock t at i ≡ false → frequency_from n t at i ≡ frequency_from (n - 1) t (behind t at) i
  frequency-on t at i h = ap (λ k. frequency_from k t at i) rounds ∙ frequency-suc (n - 1) t at i false h

pub clock-none : (n : ℕ) (t : List ℕ) (at i : ℕ) → n ≤ 0 → 255 ≡ clock_from n t at i
unfolding clock_from
clock-none n t at i h = let e : n ≡ 0 = omega arith in rw e refl

pub frequency-none : (n : ℕ) (t : List ℕ) (at i : ℕ) → n ≤ 0 → 0 ≡ frequency_from n t at i
unfolding frequency_from
frequency-none n t at i h = let e : n ≡ 0 = omega arith in rw e refl
