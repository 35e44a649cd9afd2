-- A head is of printable ASCII alone: the words of the kinds by computing all of them, a kind that has none by its number.
use mathlib.Core.Logic.{⊎_elim}
use mathlib.Core.List.{List}
use Prim.Native.Nat.{ℕ, ◌<◌, ◌≤◌}
use native.Mathlib.Omega.{arith}
use lib.Dec.{T}
use Rattle.facts.proofs.Numbers.{lt-or-ge}
use Rattle.facts.proofs.Cases.{Each, below, ◌▷◌}
use Rattle.screen_number.specs.Number.{bytes, decimal, decimal_of, signed_decimal, left}
use Rattle.screen_number.proofs.Printed.{Printed, printed-append, printed-5, printed-either, decimal-printed, signed-printed}
use Rattle.screen_number.proofs.Printed.{right-printed}
use Rattle.screen_number.proofs.Printed.{left-printed, all_printed, all-printed, given-printed}
use Rattle.screen_head.specs.Kinds.{rows, row_of, word, named, unknown, row, kind_number}
use Rattle.screen_head.specs.Head.{Five, column, value_of_kind, shown_value, has_sign, head}
use Rattle.screen_head.proofs.HeadTold.{word_number}

abbrev PrintedWord : ℕ → Type 0
PrintedWord k = T (all_printed (word k))

words-printed : Each PrintedWord 0 33
unfolding all_printed word named row_of rows row unknown kind_number bytes decimal decimal_of
words-printed =
    tt ▷ tt ▷ tt ▷ tt ▷ tt ▷ tt ▷ tt ▷ tt ▷ tt ▷ tt ▷ tt ▷ tt ▷ tt ▷ tt ▷ tt ▷ tt ▷ tt ▷ tt ▷ tt ▷ tt ▷ tt ▷ tt ▷ tt ▷ tt ▷ tt ▷ tt ▷ tt
    ▷ tt ▷ tt ▷ tt ▷ tt ▷ tt ▷ tt ▷ tt

kind-printed : Printed (bytes "kind-")
unfolding bytes all_printed
kind-printed = given-printed "kind-" tt

word-printed : (k : ℕ) → Printed (word k)
word-printed k = ⊎_elim
    (λ (l : k < 33). all-printed (word k) (below PrintedWord 33 words-printed k l))
    (λ (l : 33 ≤ k). rw (word_number k l) (printed-append (bytes "kind-") (decimal k) kind-printed (decimal-printed k)))
    (lt-or-ge k 33)

column-printed : (w : ℕ) (x : List ℕ) → Printed x → Printed (column w x)
unfolding column
column-printed w x p = ((omega arith, omega arith), right-printed w x p)

value-printed : (k v : ℕ) → Printed (value_of_kind k v)
unfolding value_of_kind shown_value
value-printed k v = printed-either (has_sign (row_of k).shows) (signed_decimal v) (decimal v) (signed-printed v) (decimal-printed v)

pub head-printed : (e : Five) → Printed (head e)
unfolding head
head-printed e =
    printed-5
    (left 15 (word e.kind)) (column 10 (decimal e.place)) (column 9 (decimal e.bits))
    (left-printed 15 (word e.kind) (word-printed e.kind))
    (column-printed 10 (decimal e.place) (decimal-printed e.place))
    (column-printed 9 (decimal e.bits) (decimal-printed e.bits))
    (column 21 (value_of_kind e.kind e.value))
    (column-printed 21 (value_of_kind e.kind e.value) (value-printed e.kind e.value))
    (column 5 (decimal e.number)) (column-printed 5 (decimal e.number) (decimal-printed e.number))
