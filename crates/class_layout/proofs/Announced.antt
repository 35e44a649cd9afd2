-- The kinds of the ranges and options that a class announces are told from where the classes before them end, and from nothing else.
use mathlib.Core.Path.{◌≡◌}
use Prim.Native.Nat.{ℕ, zero, suc, ◌+◌}
use mathlib.Core.List.{List}
use Rattle.rules.specs.Record.{Shape, bit_field, leb_field, signed_leb_field, zero_string, text, blob, text_of, blob_of, u8}
use Rattle.rules.specs.Record.{members, elements, elements_of, option?, options}
use Rattle.class_layout.specs.Trees.{option_class, Stood, WholeOptions, WholeIn, OptionKinds, KindsIn}

-- f and f' agree on where the classes end that stand whole by g
module _ (t : List ℕ) (g : ℕ → Type 0) (f f' : ℕ → Stood) (same : (p : ℕ) → g p → (f p).next ≡ (f' p).next) where
  options-kinds : (at n : ℕ) → WholeOptions g f t at n → OptionKinds f t at n → OptionKinds f' t at n
  unfolding WholeOptions OptionKinds
  options-kinds at zero w k = tt
  options-kinds at (suc n) w k =
      let e = same (option_class t at) w.2 in
      (k.0, k.1, rw (← e) (options-kinds (f (option_class t at)).next n w.3 k.2))

  pub same-kinds : (at : ℕ) (s : Shape) → WholeIn g f t at s → KindsIn f t at s → KindsIn f' t at s
  unfolding WholeIn KindsIn
  same-kinds at (bit_field k) w v = tt
  same-kinds at leb_field w v = tt
  same-kinds at signed_leb_field w v = tt
  same-kinds at zero_string w v = tt
  same-kinds at text w v = tt
  same-kinds at blob w v = tt
  same-kinds at text_of w v = tt
  same-kinds at blob_of w v = tt
  same-kinds at members w v = tt
  same-kinds at elements w v = tt
  same-kinds at elements_of w v = tt
  same-kinds at option? w v = v
  same-kinds at options w v = options-kinds (at + 3) (u8 t (at + 2)) w.1 v
