-- No entry's line begins as a verdict's does: no kind's word begins with a byte that `accepted:` or `refused` begins with.
use mathlib.Core.Path.{◌≡◌, refl, ap, ◌∙◌}
use mathlib.Core.Logic.{⊎_elim}
use mathlib.Core.List.{List, ◌++◌, append_assoc}
use Prim.Native.Nat.{ℕ, ◌-◌, ◌<◌, ◌≤◌}
use lib.ListN.{length}
use Rattle.facts.proofs.Numbers.{lt-or-ge}
use Rattle.facts.proofs.Cases.{Each, below, ◌▷◌}
use Rattle.screen_number.specs.Number.{bytes, decimal, decimal_of, times, left, blank}
use Rattle.screen_number.specs.Back.{is_end, token, same}
use Rattle.screen_head.specs.Kinds.{rows, row_of, word, named, unknown, row, kind_number}
use Rattle.screen_head.specs.Head.{Five, column, value_of_kind, head}
use Rattle.screen_head.proofs.HeadTold.{word_number}
use Rattle.screen_verdict.specs.Told.{status_in}
use Rattle.screen_line.specs.Line.{line, meaning}
use Rattle.screen_line.specs.Promised.{NotAVerdict}

-- the kind's word comes first
unfoldable behind_word : Five → List ℕ → List ℕ
behind_word e t =
    times (15 - length (word e.kind)) blank
    ++ (column 10 (decimal e.place) ++ (column 9 (decimal e.bits) ++ (column 21 (value_of_kind e.kind e.value)
    ++ (column 5 (decimal e.number) ++ t))))

word_first : (e : Five) (t : List ℕ) → head e ++ t ≡ word e.kind ++ behind_word e t
unfolding head left behind_word
word_first e t = simp append_assoc

abbrev OtherWord : ℕ → Type 0
OtherWord k = (t : List ℕ) → status_in (word k ++ t) ≡ 2

other-words : Each OtherWord 0 33
unfolding status_in same token is_end word named row_of rows row unknown kind_number bytes decimal decimal_of
other-words =
    (λ t. refl) ▷ (λ t. refl) ▷ (λ t. refl) ▷ (λ t. refl) ▷ (λ t. refl) ▷ (λ t. refl) ▷ (λ t. refl) ▷ (λ t. refl) ▷ (λ t. refl)
    ▷ (λ t. refl) ▷ (λ t. refl) ▷ (λ t. refl) ▷ (λ t. refl) ▷ (λ t. refl) ▷ (λ t. refl) ▷ (λ t. refl) ▷ (λ t. refl) ▷ (λ t. refl)
    ▷ (λ t. refl) ▷ (λ t. refl) ▷ (λ t. refl) ▷ (λ t. refl) ▷ (λ t. refl) ▷ (λ t. refl) ▷ (λ t. refl) ▷ (λ t. refl) ▷ (λ t. refl)
    ▷ (λ t. refl) ▷ (λ t. refl) ▷ (λ t. refl) ▷ (λ t. refl) ▷ (λ t. refl) ▷ (λ t. refl) ▷ tt

kind-first : (x t : List ℕ) → status_in (bytes "kind-" ++ x ++ t) ≡ 2
unfolding status_in same token is_end bytes
kind-first x t = refl

word-other : (k : ℕ) (t : List ℕ) → status_in (word k ++ t) ≡ 2
word-other k t = ⊎_elim
    (λ (l : k < 33). below OtherWord 33 other-words k l t)
    (λ (l : 33 ≤ k). ap (λ x. status_in (x ++ t)) (word_number k l) ∙ kind-first (decimal k) t)
    (lt-or-ge k 33)

pub not-a-verdict : NotAVerdict
unfolding line
not-a-verdict s f e =
    let t = meaning (row_of e.kind).shows s f e ++ bytes "\n" in
    ap status_in (word_first e t) ∙ word-other e.kind (behind_word e t)
