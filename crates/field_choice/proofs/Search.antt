-- The search for a range, and for the option, that holds a selector: what the loops know of what is left.
use Rattle.std.proofs.Common.{◌≡◌, ℕ, zero, suc, ◌+◌, ◌-◌, ◌*◌, ◌<◌, ◌≤◌, true, false, List, length, sym, refl, ◌∙◌, arith}
use Rattle.rules.specs.Record.{u8}
use Rattle.rules.specs.Class.{Sign, holds, any_holds}
use Rattle.class_layout.specs.Trees.{Stood, ranges_at, option_class, WholeOptions}
use Rattle.field_choice.specs.declared.Choice.TheVariants.{Class, Nothing}
use Rattle.field_choice.specs.Choice.{range_at, option_from, InTable}

less : (n : ℕ) → suc n - 1 ≡ n
less n = omega arith

module _ (t : List ℕ) (g : Sign) (v : ℕ) where
  range-holds : (at n : ℕ) → 0 < n → holds g v (range_at t at) ≡ true → any_holds g v (ranges_at t at n) ≡ true
  unfolding ranges_at any_holds
  range-holds at zero l h = absurd (omega arith)
  range-holds at (suc n) l h = rw (h) refl

  range-not : (at n : ℕ) → 0 < n → holds g v (range_at t at) ≡ false
      → any_holds g v (ranges_at t at n) ≡ any_holds g v (ranges_at t (at + 18) (n - 1))
  unfolding ranges_at any_holds
  range-not at zero l h = absurd (omega arith)
  range-not at (suc n) l h = rw (h, less n) refl

  no-range : (at n : ℕ) → n ≤ 0 → any_holds g v (ranges_at t at n) ≡ false
  unfolding ranges_at any_holds
  no-range at zero l = refl
  no-range at (suc n) l = absurd (omega arith)

  -- of n ranges from `at` on, i are passed
  pub record RangesPassed (at n i : ℕ) : Type 0 where
    pub same : any_holds g v (ranges_at t at n) ≡ any_holds g v (ranges_at t (at + 18 * i) (n - i))

  pub ranges-start : (at n : ℕ) → RangesPassed at n 0
  ranges-start at n =
      let here : at + 18 * 0 ≡ at = omega arith in let all : n - 0 ≡ n = omega arith in record { same = rw (here, all) refl }

  module _ {at n i : ℕ} (r : RangesPassed at n i) where
    pub ranges-hit : i < n → holds g v (range_at t (at + 18 * i)) ≡ true → any_holds g v (ranges_at t at n) ≡ true
    ranges-hit l h = r.same ∙ range-holds (at + 18 * i) (n - i) (omega arith) h

    pub ranges-next : i < n → holds g v (range_at t (at + 18 * i)) ≡ false → RangesPassed at n (i + 1)
    ranges-next l h =
        let here : at + 18 * (i + 1) ≡ at + 18 * i + 18 = omega arith in
        let left : n - (i + 1) ≡ n - i - 1 = omega arith in
        record { same = rw (here, left) (r.same ∙ range-not (at + 18 * i) (n - i) (omega arith) h) }

    pub ranges-done : n ≤ i → any_holds g v (ranges_at t at n) ≡ false
    ranges-done l = r.same ∙ no-range (at + 18 * i) (n - i) (omega arith)

-- the option at a byte: its ranges and its class are there
pub record OptionHere (t : List ℕ) (at : ℕ) : Type 0 where
  pub some : 1 ≤ u8 t (at + 1)
  pub there : option_class t at < length t

module _ (f : ℕ → Stood) (t : List ℕ) where
  pub option-here : (at n : ℕ) → 0 < n → WholeOptions (InTable t) f t at n → OptionHere t at
  unfolding WholeOptions
  option-here at zero l w = absurd (omega arith)
  option-here at (suc n) l w = record { some = w.0; there = w.2 }

  whole-rest : (at n : ℕ) → 0 < n → WholeOptions (InTable t) f t at n → WholeOptions (InTable t) f t (f (option_class t at)).next (n - 1)
  unfolding WholeOptions
  whole-rest at zero l w = absurd (omega arith)
  whole-rest at (suc n) l w = rw (less n) w.3

  module _ (g : Sign) (v : ℕ) where
    option-holds : (k at n : ℕ) → 0 < n → any_holds g v (ranges_at t (at + 2) (u8 t (at + 1))) ≡ true
        → option_from f t g v k at n ≡ Class (option_class t at) k
    unfolding option_from
    option-holds k at zero l h = absurd (omega arith)
    option-holds k at (suc n) l h = rw (h, option_from) refl

    option-not : (k at n : ℕ) → 0 < n → any_holds g v (ranges_at t (at + 2) (u8 t (at + 1))) ≡ false
        → option_from f t g v k at n ≡ option_from f t g v (k + 1) (f (option_class t at)).next (n - 1)
    unfolding option_from
    option-not k at zero l h = absurd (omega arith)
    option-not k at (suc n) l h = rw (h, option_from, less n) refl

    no-option : (k at n : ℕ) → n ≤ 0 → option_from f t g v k at n ≡ Nothing
    unfolding option_from
    no-option k at zero l = refl
    no-option k at (suc n) l = absurd (omega arith)

    -- of n options from `at` on, k are passed, and `next` is where they end
    pub record OptionsPassed (at n next k : ℕ) : Type 0 where
      pub whole : WholeOptions (InTable t) f t next (n - k)
      pub same : option_from f t g v 0 at n ≡ option_from f t g v k next (n - k)

    pub options-start : {at n : ℕ} → WholeOptions (InTable t) f t at n → OptionsPassed at n at 0
    options-start {at} {n} w = let all : n - 0 ≡ n = omega arith in record { whole = rw all w; same = rw all refl }

    module _ {at n next k : ℕ} (o : OptionsPassed at n next k) where
      pub options-there : k < n → option_class t next < length t
      options-there l = (option-here next (n - k) (omega arith) o.whole).there

      pub options-hit : k < n → any_holds g v (ranges_at t (next + 2) (u8 t (next + 1))) ≡ true
          → Class (option_class t next) k ≡ option_from f t g v 0 at n
      options-hit l h = sym (o.same ∙ option-holds k next (n - k) (omega arith) h)

      pub options-next : k < n → any_holds g v (ranges_at t (next + 2) (u8 t (next + 1))) ≡ false
          → OptionsPassed at n (f (option_class t next)).next (k + 1)
      options-next l h =
          let left : n - (k + 1) ≡ n - k - 1 = omega arith in record {
            whole = rw left (whole-rest next (n - k) (omega arith) o.whole);
            same = rw left (o.same ∙ option-not k next (n - k) (omega arith) h);
          }

      pub options-done : n ≤ k → Nothing ≡ option_from f t g v 0 at n
      options-done l = sym (o.same ∙ no-option k next (n - k) (omega arith))
