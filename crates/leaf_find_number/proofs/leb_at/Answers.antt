-- By the answer; no LEB128 number has more than ten bytes.
use mathlib.Core.Path.{refl}
use native.Mathlib.Omega.{arith}
use Rattle.leaf_find_number.proofs.Finds.{short-value}
use Rattle.leaf_find_number.specs.Found.{found_leb}
use Rattle.leaf_find_number.proofs.leb_at.Goals as goal

pub bits_in-requires : goal.bits_in-requires
bits_in-requires c = omega (arith, short-value _ _ _ c.requires.short c.in-Value.is)

pub further-tenth-requires : goal.further-tenth-requires
further-tenth-requires c = omega (arith, c.requires.place_bound)

pub returns-in-Value : goal.returns-in-Value
unfolding found_leb
returns-in-Value c = rw (c.in-Value.is, c.bits_in.ensures) refl

pub returns-in-Past : goal.returns-in-Past
unfolding found_leb
returns-in-Past c = rw c.in-Past.is refl

pub returns-in-Large : goal.returns-in-Large
unfolding found_leb
returns-in-Large c = rw (c.in-Large.is, c.further-tenth.ensures) refl
