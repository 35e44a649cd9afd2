-- The answer in words, by what was answered.
use Rattle.std.specs.Prelude.{Result}
use Rattle.rules.specs.declared.NoBundle.{NoBundle}
use Rattle.rules.specs.declared.TableFault.{TableFault}
use Rattle.rules.specs.declared.ByteLength.{ByteLength}
use mathlib.Core.Path.{◌≡◌, sym, ◌∙◌}
use Prim.Native.Nat.{ℕ}
use mathlib.Core.List.{List}
use Rattle.rules.specs.declared.Report.{Report}
use Rattle.rules.specs.Parse.{checked_number}
use Rattle.rules.specs.Read.{Reading}
use Rattle.rules.specs.Bundle.{lists_after, buffer_after, bundled_number}
use Rattle.trevoskel_words.specs.Written.{written}
use Rattle.trevoskel.specs.Words.{checked_words, result_words, bundled_words}

-- what is said of the case that a check gave is said of the check
pub answered : (c d : Result ByteLength TableFault) (old : List ℕ) {r : ℕ} {out : List ℕ} → c ≡ d
    → (r ≡ checked_number d) × (out ≡ written (checked_words d) old)
    → (r ≡ checked_number c) × (out ≡ written (checked_words c) old)
answered c d old e h = rw (e) h

-- and what is said of the reader's result is said of the rules'
pub resulted : (x y : Report) (old : List ℕ) {out : List ℕ} → x ≡ y → out ≡ written (result_words x) old → out ≡ written (result_words y) old
resulted x y old e h = rw (sym e) h

-- what is said of a bundle's answer b, and of the case d that it is, is said of the rules' answer a
pub cut : (a b d : Result ByteLength NoBundle) (rs : List Reading) (ms ws y o old : List ℕ) {r : ℕ} {ws' o' out : List ℕ} → b ≡ a → b ≡ d
    → ws' ≡ lists_after b rs ms ws → o' ≡ buffer_after b y o → (r ≡ bundled_number d) × (out ≡ written (bundled_words d) old)
    → (r ≡ bundled_number a) × ((ws' ≡ lists_after a rs ms ws) × ((o' ≡ buffer_after a y o) × (out ≡ written (bundled_words a) old)))
cut a b d rs ms ws y o old e f lists buffer told =
    (rw (sym e ∙ f) told.0, (rw (sym e) lists, (rw (sym e) buffer, rw (sym e ∙ f) told.1)))
