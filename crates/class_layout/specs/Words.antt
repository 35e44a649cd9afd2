-- The word that is noted of a class: its alignment's exponent, 0 to 6, in three bits; what the class sets with all that it holds, in a
-- number of thirteen bits: 0 where no slot, i + 1 where just the slot i, `several` where more than one; and its record's number within its
-- fragment.
use Rattle.std.specs.Prelude.{◌≡◌, ℕ, suc, ◌+◌, ◌*◌, ◌/◌, ◌%◌, ◌<◌, List, [], true, false, eqb}
use Rattle.rules.specs.declared.Content.TheVariants.{Unset}
use Rattle.rules.specs.Limits.{no_slot, slot_count}
use Rattle.rules.specs.Slots.{Slots, set_slot, unset}

unfoldable pub word_of : ℕ → ℕ → ℕ
word_of align sets = align % 8 + 8 * sets

unfoldable pub align_of_word : ℕ → ℕ
align_of_word w = w % 8

unfoldable pub sets_of_word : ℕ → ℕ
sets_of_word w = w / 8 % 8192

unfoldable pub number_of_word : ℕ → ℕ
number_of_word w = w / 65536

-- a word with a number, whatever number it had
unfoldable pub numbered_word : ℕ → ℕ → ℕ
numbered_word w n = w % 65536 + 65536 * n

abbrev pub several : ℕ
several = 256

-- what a record sets that names a slot; what two classes set
unfoldable pub sets_one : ℕ → ℕ
sets_one i = elim (eqb i no_slot) [ true ↦ 0 | false ↦ i + 1 ]

unfoldable pub sets_both : ℕ → ℕ → ℕ
sets_both a b =
    elim (eqb a 0) [ true ↦ b | false ↦ elim (eqb b 0) [ true ↦ a | false ↦ elim (eqb a b) [ true ↦ a | false ↦ several ] ] ]

-- the number is right of the slots l: none are set; or to unset them all is to unset the one
pub record SaysSet (n : ℕ) (l : List ℕ) : Type 0 where
  pub none : n ≡ 0 → l ≡ []
  pub one : (i : ℕ) → n ≡ suc i → i < slot_count → (x : Slots) → unset x l ≡ set_slot x i Unset
