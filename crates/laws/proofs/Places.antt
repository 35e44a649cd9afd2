-- Places: alignment does not go back; what is read ahead of a place ends at or before the bound; and so does a number's tenth byte, where
-- the number is too large.
use mathlib.Core.Path.{◌≡◌}
use Prim.Native.Nat.{ℕ, ◌+◌, ◌-◌, ◌*◌, ◌/◌, ◌≤◌}
use native.Mathlib.Omega.{arith}
use native.Mathlib.Nat.{div-add-mod', mod-lt}
use mathlib.Core.List.{List}
use lib.ListN.{length, drop, length-take}
use Rattle.rules.specs.declared.BitPlace.{BitPlace}
use Rattle.rules.specs.declared.ByteLength.{ByteLength}
use Rattle.rules.specs.declared.Leb.{Leb}
use Rattle.rules.specs.declared.Leb.TheVariants.{Value, Large}
use Rattle.rules.specs.Limits.{leb_limit}
use Rattle.rules.specs.Place.{further, round_up, align_from}
use Rattle.rules.specs.Step.{State}
use Rattle.rules.specs.Field.{Env, aligned, ahead}
use Rattle.leb128.specs.Answer.{ValueSays, TenthByte}

round_up-le : (a x : ℕ) → 1 ≤ a → x ≤ round_up a x
unfolding round_up
round_up-le a x h = omega (arith, div-add-mod' (x + (a - 1)) a, mod-lt (x + (a - 1)) h)

pub align_from-le : (start a p : ℕ) → 1 ≤ a → p ≤ align_from start a p
unfolding align_from
align_from-le start a p h = omega (arith, round_up-le a (p - start) h)

pub start-le : (start a p : ℕ) → start ≤ align_from start a p
unfolding align_from
start-le start a p = omega arith

pub align-one : (start p : ℕ) → start ≤ p → align_from start 1 p ≡ p
unfolding align_from round_up
align-one start p h = omega arith

pub ahead-fits : (e : Env) (p : BitPlace) (n : ℕ) → p.0 ≤ e.bound.0 → n ≤ length (ahead e p) → p.0 + 8 * n ≤ e.bound.0
unfolding ahead
ahead-fits e p n h k = omega (arith, length-take ((e.bound.0 - p.0) / 8) (drop (p.0 / 8) e.bytes))

-- what a reading of a LEB128 number among some bytes gives
abbrev pub LebFits : List ℕ → Leb → Type 0
LebFits bs x = (v : ℕ) (n : ByteLength) → x ≡ Value v n → ValueSays bs v n

-- and of one that is too large: there is a tenth byte
abbrev pub LebReaches : List ℕ → Leb → Type 0
LebReaches bs x = x ≡ Large → TenthByte bs

-- the first bit of that byte, where 24 is refused
abbrev pub tenth_byte : Env → State → BitPlace
tenth_byte e s = further (aligned e 8 s) (8 * (leb_limit - 1))

pub start-tenth : (e : Env) (s : State) → e.start.0 ≤ (tenth_byte e s).0
unfolding aligned
start-tenth e s = omega (arith, start-le e.start.0 8 s.place.0)

pub tenth-fits : (e : Env) (s : State) → (aligned e 8 s).0 ≤ e.bound.0 → TenthByte (ahead e (aligned e 8 s))
    → (tenth_byte e s).0 ≤ e.bound.0
tenth-fits e s h t = omega (arith, ahead-fits e (aligned e 8 s) leb_limit h t.there)
