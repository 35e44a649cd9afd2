-- By kind: the row of the definition, with the bytes that the code read. A kind that is none of the first sixteen is the last.
use mathlib.Core.Path.{◌≡◌, refl, sym, ap, ◌∙◌}
use mathlib.Core.List.{List}
use Prim.Native.Nat.{ℕ}
use native.Mathlib.Omega.{arith}
use Rattle.table_offsets.specs.Check.{byte_at, bits_say, say, says_at, say_of, sayings}
use Rattle.table_records.proofs.record_says.Goals as goal

-- what is said by the same bytes is the same

same_bits : (t : List ℕ) (at k : ℕ) {i i' r r' : ℕ} → i ≡ i' → r ≡ r' → bits_say t at k i r ≡ bits_say t at k i' r'
same_bits t at k e f = rw (e, f)

same-say : (k : ℕ) {i i' j j' r r' n n' a a' : ℕ} → i ≡ i' → j ≡ j' → r ≡ r' → n ≡ n' → a ≡ a'
    → say k i j r n a ≡ say k i' j' r' n' a'
same-say k e f g h l = rw (e, f, g, h, l)

-- what the kind that was read says

says : (t : List ℕ) (at : ℕ) {k : ℕ} → k ≡ byte_at t at → (n : ℕ) → k ≡ n → say_of n t at ≡ says_at t at
unfolding says_at
says t at read n e = ap (λ m. say_of m t at) (sym e ∙ read)

-- What each kind says, from 16

pub returns-in-16 : goal.returns-in-16
unfolding say_of sayings
returns-in-16 c = c.fixed.ensures ∙ says _ _ c.byte-k.ensures 16 c.in-16.is

pub returns-in-17 : goal.returns-in-17
unfolding say_of sayings
returns-in-17 c =
    c.fixed-in-17.ensures ∙ same_bits _ _ 17 c.byte-b4.ensures refl ∙ says _ _ c.byte-k.ensures 17 c.in-17.is

pub returns-in-18 : goal.returns-in-18
unfolding say_of sayings
returns-in-18 c =
    c.fixed-in-18.ensures ∙ same_bits _ _ 18 c.byte-b4.ensures c.byte-b5.ensures ∙ says _ _ c.byte-k.ensures 18 c.in-18.is

pub returns-in-19 : goal.returns-in-19
unfolding say_of sayings
returns-in-19 c =
    c.fixed-in-19.ensures ∙ same_bits _ _ 19 c.byte-b4.ensures refl ∙ says _ _ c.byte-k.ensures 19 c.in-19.is

pub returns-in-20 : goal.returns-in-20
unfolding say_of sayings
returns-in-20 c = c.fixed-in-20.ensures ∙ says _ _ c.byte-k.ensures 20 c.in-20.is

pub returns-in-21 : goal.returns-in-21
unfolding say_of sayings
returns-in-21 c =
    c.plain.ensures ∙ same-say 21 c.byte-b1.ensures refl c.byte-b2.ensures refl refl ∙ says _ _ c.byte-k.ensures 21 c.in-21.is

pub returns-in-22 : goal.returns-in-22
unfolding say_of sayings
returns-in-22 c =
    c.plain-in-22.ensures ∙ same-say 22 c.byte-b1.ensures refl refl refl refl ∙ says _ _ c.byte-k.ensures 22 c.in-22.is

pub returns-in-23 : goal.returns-in-23
unfolding say_of sayings
returns-in-23 c = c.plain-in-23.ensures ∙ says _ _ c.byte-k.ensures 23 c.in-23.is

pub returns-in-24 : goal.returns-in-24
unfolding say_of sayings
returns-in-24 c =
    c.plain-in-24.ensures ∙ same-say 24 refl refl refl c.two-b12.ensures.0 refl ∙ says _ _ c.byte-k.ensures 24 c.in-24.is

pub returns-in-25 : goal.returns-in-25
unfolding say_of sayings
returns-in-25 c =
    c.plain-in-25.ensures ∙ same-say 25 refl refl c.byte-b3.ensures c.two-b12.ensures.0 refl ∙ says _ _ c.byte-k.ensures 25 c.in-25.is

pub returns-in-26 : goal.returns-in-26
unfolding say_of sayings
returns-in-26 c =
    c.plain-in-26.ensures ∙ same-say 26 refl c.byte-b1.ensures refl refl refl ∙ says _ _ c.byte-k.ensures 26 c.in-26.is

pub returns-in-27 : goal.returns-in-27
unfolding say_of sayings
returns-in-27 c =
    c.plain-in-27.ensures ∙ same-say 27 refl c.byte-b1.ensures refl refl refl ∙ says _ _ c.byte-k.ensures 27 c.in-27.is

pub returns-in-28 : goal.returns-in-28
unfolding say_of sayings
returns-in-28 c =
    let count = c.wide.ensures.0 ∙ c.byte-b1.ensures in
    c.plain-in-28.ensures ∙ same-say 28 refl refl refl count c.byte-b2.ensures ∙ says _ _ c.byte-k.ensures 28 c.in-28.is

pub returns-in-29 : goal.returns-in-29
unfolding say_of sayings
returns-in-29 c =
    c.plain-in-29.ensures ∙ same-say 29 refl refl refl c.two-b12.ensures.0 c.byte-b3.ensures ∙ says _ _ c.byte-k.ensures 29 c.in-29.is

pub returns-in-30 : goal.returns-in-30
unfolding say_of sayings
returns-in-30 c =
    c.plain-in-30.ensures ∙ same-say 30 refl c.byte-b1.ensures refl refl c.byte-b2.ensures ∙ says _ _ c.byte-k.ensures 30 c.in-30.is

pub returns-in-31 : goal.returns-in-31
unfolding say_of sayings
returns-in-31 c =
    let count = c.wide-in-31.ensures.0 ∙ c.byte-b2.ensures in
    c.plain-in-31.ensures ∙ same-say 31 refl c.byte-b1.ensures refl count refl ∙ says _ _ c.byte-k.ensures 31 c.in-31.is

pub returns-in_default : goal.returns-in_default
unfolding say_of sayings
returns-in_default c =
    let k = c.byte-k.ensures in
    let last : c.byte-k.result ≡ 32 = omega (arith, k, c.requires) in
    let count = c.wide-in_default.ensures.0 ∙ c.byte-b2.ensures in
    c.plain-in_default.ensures ∙ same-say 32 refl c.byte-b1.ensures refl count refl ∙ says _ _ k 32 last
