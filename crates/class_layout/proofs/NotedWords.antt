-- A word says what it was made of, and with a number what it said before.
use mathlib.Core.Path.{◌≡◌}
use Prim.Native.Nat.{ℕ, ◌≤◌, ◌<◌}
use native.Mathlib.Omega.{arith}
use Rattle.class_layout.specs.Words.{word_of, align_of_word, sets_of_word, number_of_word, numbered_word}

pub align_word : (e n : ℕ) → e ≤ 6 → align_of_word (word_of e n) ≡ e
unfolding align_of_word word_of
align_word e n l = omega arith

pub sets_word : (e n : ℕ) → n < 8192 → sets_of_word (word_of e n) ≡ n
unfolding sets_of_word word_of
sets_word e n l = omega arith

pub align-numbered : (w n : ℕ) → align_of_word (numbered_word w n) ≡ align_of_word w
unfolding align_of_word numbered_word
align-numbered w n = omega arith

pub sets-numbered : (w n : ℕ) → sets_of_word (numbered_word w n) ≡ sets_of_word w
unfolding sets_of_word numbered_word
sets-numbered w n = omega arith

pub number-numbered : (w n : ℕ) → number_of_word (numbered_word w n) ≡ n
unfolding number_of_word numbered_word
number-numbered w n = omega arith

pub sets-of-small : (w : ℕ) → sets_of_word w < 8192
unfolding sets_of_word
sets-of-small w = omega arith
