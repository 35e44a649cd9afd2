-- The walks over members and over options, where that over the classes one deeper is as the rules': each goes on at the same byte.
use mathlib.Core.Path.{◌≡◌, refl}
use mathlib.Core.Logic.{inl}
use mathlib.Core.Bool.{Bool, true, false, not, ◌&&◌}
use mathlib.Core.List.{List, ◌∷◌, ◌++◌}
use Prim.Native.Nat.{ℕ, zero, suc, ◌+◌, ◌<◌, ◌≤◌}
use native.Mathlib.Omega.{arith}
use native.Mathlib.Nat.{le_refl, le_trans}
use lib.Dec.{leb, eqb}
use borrow.Author.Tests.{leb-true, eqb-true, ne_eqb}
use Rattle.rules.specs.Class.{Class, member, option as an_option'}
use Rattle.rules.specs.Record.{Record, unknown, fragment, root, class, range, option, behind}
use Rattle.rules.specs.Faults.{pick, out, Ids, Spot, inside as within, option_fault as rules_fault}
use Rattle.rules.specs.Parse.{Parser, Ranges, count_of, parse_members, parse_options}
use Rattle.table_offsets.specs.Walks.{Walk}
use Rattle.table_offsets.specs.Bodies.{no_kind}
use Rattle.table_offsets.specs.Check.{pick_n, inside, byte_at, option_fault, members_at, options_at}
use Rattle.table_offsets.proofs.TieBytes.{Rest}
use Rattle.table_offsets.proofs.TieKinds.{Stands, nothing, a_preamble, a_trace, a_clock, a_stream}
use Rattle.table_offsets.proofs.TieKinds.{an_event, a_root, a_class, a_range, an_option}
use Rattle.table_offsets.proofs.TieKinds.{stands, stands-as}
use Rattle.table_offsets.proofs.TieHead.{rest-behind}
use Rattle.table_offsets.proofs.TieIds.{Sees}
use Rattle.table_offsets.proofs.TieOrder.{Late}
use Rattle.table_offsets.proofs.TieWalk.{Tied, both-good, then_tie, made-tie, one-tie}
use Rattle.table_offsets.proofs.TieSays.{Spotted, inside-not-out}
use Rattle.table_offsets.proofs.TieTests.{pick-high}
use Rattle.table_offsets.proofs.TieRanges.{Signed, Told, told_more, Read, ranges-tie}

-- An option's number

-- the numbers from 9 up where an option is due
unfoldable later_fault : List ℕ → ℕ → ℕ → ℕ
later_fault t at k = pick_n (eqb k 34) (pick_n (inside (byte_at t (at + 1)) 1 16) 0 10) 9

option-agrees : (t : List ℕ) (at k n : ℕ) (r : Record) → Stands t at k n r → (n ≡ no_kind → ⊥) → rules_fault r ≡ later_fault t at k
unfolding rules_fault later_fault pick_n
option-agrees t at k n r nothing h = absurd (h refl)
option-agrees t at k n r a_preamble h = refl
option-agrees t at k n r a_trace h = refl
option-agrees t at k n r a_clock h = refl
option-agrees t at k n r a_stream h = refl
option-agrees t at k n r an_event h = refl
option-agrees t at k n r a_root h = refl
option-agrees t at k n r (a_class l u b e f c) h = rw (ne_eqb k 34 (λ g. omega arith))
option-agrees t at k n r a_range h = refl
option-agrees t at k n r an_option h = rw (inside-not-out (byte_at t (at + 1)) 1 16) (by (out 1 16 (byte_at t (at + 1))))
  where
    by : (b : Bool) → pick b 10 0 ≡ pick_n (not b) 0 10
    by true = unfold pick pick_n in refl
    by false = unfold pick pick_n in refl

option-late : Late rules_fault
unfolding rules_fault
option-late = record { fragments = λ g. refl; high = high }
  where
    high : (r : Record) → rules_fault r < 9 → rules_fault r ≡ 0
    high unknown l = absurd (omega arith)
    high (fragment f) l = absurd (omega arith)
    high (root r) l = absurd (omega arith)
    high (class y) l = absurd (omega arith)
    high (range g a b) l = absurd (omega arith)
    high (option n) l = pick-high _ 10 0 (omega arith) (λ h. refl) l

-- what a sound option says of its kind and its ranges
record Sound (t : List ℕ) (at : ℕ) : Type 0 where
  kind : byte_at t at ≡ 34
  some : 0 < byte_at t (at + 1)

sound-option : (t : List ℕ) (at : ℕ) → later_fault t at (byte_at t at) ≡ 0 → Sound t at
unfolding later_fault inside
sound-option t at = by (eqb (byte_at t at) 34) (leb 1 (byte_at t (at + 1))) (leb (byte_at t (at + 1)) 16) refl refl
  where
    by : (a b c : Bool) → eqb (byte_at t at) 34 ≡ a → leb 1 (byte_at t (at + 1)) ≡ b → pick_n a (pick_n (b && c) 0 10) 9 ≡ 0 → Sound t at
    by false b c p q h = unfold pick_n in absurd (omega arith)
    by true false c p q h = unfold pick_n in absurd (omega arith)
    by true true c p q h = record { kind = eqb-true (byte_at t at) 34 p; some = leb-true 1 (byte_at t (at + 1)) q }

an-option : (t : List ℕ) (at n : ℕ) (r : Record) → Stands t at 34 n r → (n ≡ no_kind → ⊥) → (r ≡ option (byte_at t (at + 1))) × (n ≡ 1)
an-option t at n r nothing h = absurd (h refl)
an-option t at n r (a_class l u b f g c) h = absurd (omega arith)
an-option t at n r an_option h = (refl, refl)

-- The walks, under a root structure at `start`

module _ (t : List ℕ) (q : Ids) (trace : Bool) (seen : List ℕ) (known : Sees t q trace seen) (start : ℕ) where
  -- f reads the classes that F walks; each takes a byte or more
  abbrev pub Walks : (Spot → Parser Class) → (ℕ → Walk) → Type 0
  Walks f F = (z : Spot) (at : ℕ) (x : List ℕ) → Rest t at x → Spotted z start at → Tied t trace seen (λ c e. at < e) (f z x) (F at)

  module _ (f : Spot → Parser Class) (F : ℕ → Walk) (h : Walks f F) where
    pub members-tie : (n at : ℕ) (z : Spot) (x : List ℕ) → Rest t at x → Spotted z start at → start + 3 ≤ at
        → Tied t trace seen (λ c e. at ≤ e) (parse_members f z n x) (members_at F at n)
    unfolding parse_members members_at
    members-tie zero at z x r s l = both-good (le_refl at) r
    members-tie (suc n) at z x r s l =
        then_tie t trace seen (h z at x r s) _ _ (λ c e y (k : at < e) r'.
        let past : start + 3 < e = omega arith in
        made-tie t trace seen (members-tie n e within y r' past (omega arith)) (member c)
        (λ cs e' (k' : e ≤ e'). le_trans (omega arith) k'))

    pub options-tie : (head n at : ℕ) (x : List ℕ) (p : Ranges) (os : List ℕ) → Rest t at x → Signed t head p.0 (at + 2)
        → Told t os p.1 → start + 3 ≤ at
        → Tied t trace seen (λ c e. at ≤ e) (parse_options q f n p x) (options_at F t head os at n)
    unfolding parse_options options_at option_fault later_fault count_of
    options-tie head zero at x p os r s d l = both-good (le_refl at) r
    options-tie head (suc n) at x p os r s d l =
        one-tie t trace seen q known at x r rules_fault option-late (later_fault t at (byte_at t at))
        (λ w. option-agrees t at _ _ _ (stands t at x r) w.known) _ _ (λ w m.
        let g = sound-option t at m in
        let o = an-option t at _ _ (stands-as t at x r 34 g.kind) w.known in
        rw o.0
        (then_tie t trace seen
        (ranges-tie t q trace seen known head os p.1 d (byte_at t (at + 1)) (at + 2) (behind x) p.0
        (rest-behind t at x r w 1 o.1) s) _ _
        (λ rs e y (k : Read t head (at + 2) (byte_at t (at + 1)) p.0 rs e) r'.
        let past : start + 3 < e = omega (arith, k.on) in
        then_tie t trace seen (h within e y r' past) _ _ (λ c e' y' (k' : e < e') r''.
        made-tie t trace seen
        (options-tie head n e' y' (rs.0, p.1 ++ rs.1) (at ∷ os) r'' (k.sign (inl g.some) (e' + 2))
        (told_more t os p.1 rs.1 at d k.ranges) (omega arith))
        (λ os. (os.0, an_option' rs.1 c os.1)) (λ os e'' (k'' : e' ≤ e''). le_trans (omega (arith, k.on)) k'')))))
