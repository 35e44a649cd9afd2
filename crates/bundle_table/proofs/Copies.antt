-- The loop that copies: i bytes from one of the table on stand in the buffer, and the others there are as they came.
use mathlib.Core.Path.{◌≡◌, sym, ap, ◌∙◌}
use Prim.Native.Nat.{ℕ, ◌+◌, ◌≤◌, ◌<◌}
use native.Mathlib.Numerals.{add-one}
use native.Mathlib.Omega.{arith}
use mathlib.Core.List.{List}
use lib.ListN.{length, get_or, set, drop, length-drop}
use lib.Seq.{get_or-drop, paste, paste-zero, paste-suc, length-paste}

pub record Copies (t : List ℕ) (from size : ℕ) (old : List ℕ) (to : ℕ) (out : List ℕ) (i : ℕ) : Type 0 where
  pub few : i ≤ size
  pub list : out ≡ paste old to (drop from t) i

-- so many bytes are there, and so much room is
module _ (t : List ℕ) (from size : ℕ) (old : List ℕ) (to : ℕ) (there : from + size ≤ length t) (room : to + size ≤ length old) where
  pub copies-start : Copies t from size old to old 0
  copies-start = record { few = omega arith; list = paste-zero old to (drop from t) }

  pub copies-next : {out : List ℕ} {i : ℕ} → i < size → Copies t from size old to out i
      → Copies t from size old to (set out (to + i) (get_or t (from + i) 0)) (i + 1)
  copies-next {out} {i} l h =
      let far : i < length (drop from t) = omega (arith, length-drop from t) in
      record {
        few = omega arith;
        list = ap (λ o. set o (to + i) (get_or t (from + i) 0)) h.list
            ∙ ap (λ b. set (paste old to (drop from t) i) (to + i) b) (sym (get_or-drop from t i 0))
            ∙ paste-suc old to (drop from t) i 0 (omega arith) far ∙ ap (paste old to (drop from t)) (sym (add-one i));
      }

  pub copies_length : {out : List ℕ} {i : ℕ} → Copies t from size old to out i → length out ≡ length old
  copies_length {out} {i} h =
      let few = h.few in
      ap length h.list ∙ length-paste old to (drop from t) i (omega arith) (omega (arith, length-drop from t))

  pub copies-end : {out : List ℕ} {i : ℕ} → size ≤ i → Copies t from size old to out i → out ≡ paste old to (drop from t) size
  copies-end {out} {i} l h =
      let few = h.few in
      let all : i ≡ size = omega arith in h.list ∙ ap (paste old to (drop from t)) all
