-- What the rules' parse accepts at a byte of a table is the class that stands there, whole, and the parse goes on where that class ends.
-- It goes from record to record: where one begins at that byte, one begins behind the class too.
-- In order: ranges; members and options, whose classes are one depth less; a class.
use Rattle.std.specs.Prelude.{Option, None, Some}
use mathlib.Core.Path.{◌≡◌, refl, sym, ap, ◌∙◌}
use Prim.Native.Nat.{ℕ, zero, suc, ◌+◌, ◌*◌, ◌≤◌, ◌<◌}
use native.Mathlib.Omega.{arith}
use mathlib.Core.List.{List, [], ◌++◌}
use mathlib.Core.Bool.{false}
use lib.ListN.{length, drop}
use lib.Dec.{ltb}
use borrow.Author.Tests.{ltb-false}
use Rattle.rules.specs.Class.{bit_array, boolean, unsigned_int, signed_int, float, Sign, plain, signed, Range, Class, Classes, Options}
use Rattle.rules.specs.Class.{option as an_option, static_array, dynamic_array, structure, variant, key}
use Rattle.rules.specs.Record.{Shape, bit_field, leb_field, signed_leb_field, zero_string, text, blob, text_of, blob_of, members, elements}
use Rattle.rules.specs.Record.{elements_of, option?, options, Record, unknown, fragment, root, class, range, option, u8, u16, u64, size}
use Rattle.rules.specs.Record.{record_of}
use Rattle.rules.specs.Parse.{good, Parser, then, Ranges, range_of, count_of, the_sign, selected, parse_ranges, parse_members, parse_options}
use Rattle.rules.specs.Parse.{parse_shape, parse_body, parse_class}
use Rattle.rules.specs.Faults.{Ids, Spot, inside, member_spot, Under, sign_of, other_sign, meets, range_fault, option_fault, out, class_fault}
use Rattle.facts.proofs.Truth.{or-false, clash}
use Rattle.class_layout.specs.Numbers.{Begins}
use Rattle.class_layout.specs.Trees.{shape_of, record_size, ranges_at, sign_at, option_class, optional_of, Stood, members_at, behind_members}
use Rattle.class_layout.specs.Trees.{options_at, behind_options, class_in, next_in, stood_at, class_at, next_at, WholeMembers, WholeOptions}
use Rattle.class_layout.specs.Trees.{WholeIn, IsWhole, RangeKinds, OptionKinds, KindsIn}
use Rattle.class_layout.proofs.Numbers.{begins-behind}
use Rattle.class_layout.proofs.Records.{range_at, option-at}
use Rattle.class_layout.proofs.ClassRecords.{said_at, class-at}
use Rattle.facts.proofs.Faults.{pick-false, pick-zero}
use Rattle.class_layout.proofs.Sound.{bad-good, good-value, good-rest, then-good, one-good, Sane, class-sane}

-- of what stands from a byte on, a by the table's bytes: W holds of it, the parse found it, b, and the rest x begins at `next`, where a
-- record does
pub record Took {A : Type 0} (t : List ℕ) (W : Type 0) (a : A) (from next : ℕ) (b : A) (x : List ℕ) : Type 0 where
  pub stands : W
  pub says : a ≡ b
  pub rest : x ≡ drop next t
  pub within : next ≤ length t
  pub onward : from ≤ next
  pub begins : Begins t next

-- a class that holds what was taken last, m of it
took-inside : {A : Type 0} (t : List ℕ) {W U : Type 0} (m : A → Class) {a b : A} (at : ℕ) {from next : ℕ} {k c : Class} {x y : List ℕ} → U
    → Took t W a from next b y
    → at < from → k ≡ m a → good (m b) y ≡ good c x → Took t U k (at + 1) next c x
took-inside t m at v w l f e = record {
  stands = v;
  says = f ∙ ap m w.says ∙ good-value e;
  rest = sym (good-rest e) ∙ w.rest;
  within = w.within;
  onward = omega (arith, w.onward);
  begins = w.begins;
}

-- Ranges

-- the sign behind n ranges, of which the first has the sign g, under a sign
unfoldable pub sign_from : ℕ → Sign → Option Sign → Option Sign
sign_from zero g o = o
sign_from (suc n) g None = Some g
sign_from (suc n) g (Some s) = Some s

sign_kept : (n : ℕ) (g s : Sign) → sign_from n g (Some s) ≡ Some s
unfolding sign_from
sign_kept zero g s = refl
sign_kept (suc n) g s = refl

sign-through : (m n : ℕ) (g s : Sign) (o : Option Sign) → 1 ≤ m → sign_from (suc n) g o ≡ sign_from n s (sign_from m g o)
unfolding sign_from
sign-through zero n g s o h = absurd (omega arith)
sign-through (suc m) n g s None h = sym (sign_kept n s g)
sign-through (suc m) n g s (Some r) h = sym (sign_kept n s r)

same_sign : (n : ℕ) (g : Sign) (o : Option Sign) → other_sign g o ≡ false → sign_from (suc n) g o ≡ Some g
unfolding sign_from other_sign
same_sign n g None h = refl
same_sign n plain (Some plain) h = refl
same_sign n plain (Some signed) h = absurd (clash (sym h))
same_sign n signed (Some plain) h = absurd (clash (sym h))
same_sign n signed (Some signed) h = refl

-- a range with no fault has the sign so far
range-sign : (o : Option Sign) (rs : List Range) (g l h : ℕ) → range_fault o rs (range g l h) ≡ 0 → other_sign (sign_of g) o ≡ false
unfolding range_fault
range-sign o rs g l h e =
    (or-false (ltb (key (sign_of g) h) (key (sign_of g) l)) (other_sign (sign_of g) o)
    (or-false _ (meets (sign_of g) l h rs) (pick-false _ 12 0 (pick-zero (ltb 1 g) 9 _ e))).0).1

module _ (t : List ℕ) where
  abbrev RangesStand : ℕ → ℕ → Option Sign → Ranges → List ℕ → Type 0
  RangesStand at n o p x = Took t (RangeKinds t at n) (sign_from n (sign_at t at) o, ranges_at t at n) at (at + 18 * n) p x

  ranges-stand : (q : Ids) (earlier : List Range) (n : ℕ) (o : Option Sign) (at : ℕ) (p : Ranges) (x : List ℕ) → at ≤ length t
      → Begins t at → parse_ranges q earlier n o (drop at t) ≡ good p x → RangesStand at n o p x
  unfolding parse_ranges ranges_at sign_at range_fault range_of RangeKinds
  ranges-stand q earlier zero o at p x l begun h =
      let e : at ≡ at + 18 * 0 = omega arith in
      record {
        stands = tt;
        says = unfold sign_from in good-value h;
        rest = sym (good-rest h) ∙ ap (λ j. drop j t) e;
        within = omega arith;
        onward = omega arith;
        begins = rw (← e) begun;
      }
  ranges-stand q earlier (suc n) o at p x l begun h =
      let f = one-good q _ _ t at p x h in
      by (λ o at p x l begun h. ranges-stand q earlier n o at p x l begun h) (record_of (drop at t)) refl f.fine f.there f.rest
    where
      Rest : Type 0
      Rest = (o : Option Sign) (at : ℕ) (p : Ranges) (x : List ℕ) → at ≤ length t → Begins t at
          → parse_ranges q earlier n o (drop at t) ≡ good p x → RangesStand at n o p x

      by : Rest → (r : Record) → record_of (drop at t) ≡ r → range_fault o earlier r ≡ 0 → at + size (drop at t) ≤ length t
          → then (parse_ranges q earlier n (range_of r).0 (drop (at + size (drop at t)) t)) (λ p x. good (p.0, (range_of r).1 ++ p.1) x)
          ≡ good p x
          → RangesStand at (suc n) o p x
      by rec unknown e z m k = absurd (omega arith)
      by rec (fragment g) e z m k = absurd (omega arith)
      by rec (root r) e z m k = absurd (omega arith)
      by rec (class y) e z m k = absurd (omega arith)
      by rec (option n) e z m k = absurd (omega arith)
      by rec (range g a b) e z m k =
          let r = range_at t at g a b e in
          let c = then-good _ _ p x (rw r.bytes at k) in
          let s = rec (Some (sign_of g)) (at + 18) c.value c.rest (omega (arith, r.bytes)) (begins-behind begun 18 r.bytes)
          c.first in
          let g₁ : u8 t (at + 1) ≡ g = cc r.says in
          let l₁ : u64 t (at + 2) ≡ a = cc r.says in
          let h₁ : u64 t (at + 10) ≡ b = cc r.says in
          let f₀ : sign_from (suc n) (sign_at t at) o ≡ Some (sign_of g) = rw g₁ (same_sign n (sign_of g) o (range-sign o earlier g a b z)) in
          let f₁ : sign_from (suc n) (sign_at t at) o ≡ c.value.0 = f₀ ∙ sym (sign_kept n _ (sign_of g)) ∙ ap (λ v. v.0) s.says in
          let f₂ : ranges_at t (at + 18) n ≡ c.value.1 = ap (λ v. v.1) s.says in
          let d : at + 18 + 18 * n ≡ at + 18 * suc n = omega arith in
          record {
            stands = (r.kind, s.stands);
            says = rw (f₁, f₂, l₁, h₁) (good-value c.second);
            rest = sym (good-rest c.second) ∙ s.rest ∙ ap (λ j. drop j t) d;
            within = omega (arith, s.within);
            onward = omega arith;
            begins = rw d at s.begins;
          }

  -- Members and options: g says of a byte that a class stands whole there, h what stands there, f parses it
  module _ (q : Ids) (f : Spot → Parser Class) (g : ℕ → Type 0) (h : ℕ → Stood)
      (deeper : (z : Spot) (p : ℕ) (c : Class) (x : List ℕ) → Begins t p → f z (drop p t) ≡ good c x
      → Took t (g p) (h p).class (p + 1) (h p).next c x) where
    members-stand : (z : Spot) (n at : ℕ) (cs : Classes) (x : List ℕ) → at ≤ length t → Begins t at
        → parse_members f z n (drop at t) ≡ good cs x
        → Took t (WholeMembers g h at n) (members_at h at n) at (behind_members h at n) cs x
    unfolding parse_members WholeMembers members_at behind_members
    members-stand z zero at cs x l begun e = record {
      stands = tt;
      says = good-value e;
      rest = sym (good-rest e);
      within = l;
      onward = omega arith;
      begins = begun;
    }
    members-stand z (suc n) at cs x l begun e =
        let a = then-good (f z (drop at t)) _ cs x e in
        let b = deeper z at a.value a.rest begun a.first in
        let c = then-good (parse_members f inside n (drop (h at).next t)) _ cs x (rw b.rest at a.second) in
        let d = members-stand inside n (h at).next c.value c.rest b.within b.begins c.first in
        record {
          stands = (b.stands, d.stands);
          says = rw (b.says, d.says) (good-value c.second);
          rest = sym (good-rest c.second) ∙ d.rest;
          within = d.within;
          onward = omega (arith, b.onward, d.onward);
          begins = d.begins;
        }

    abbrev OptionsStand : ℕ → ℕ → Option Sign → Option Sign × Options → List ℕ → Type 0
    OptionsStand at n o p x =
        Took t (WholeOptions g h t at n × OptionKinds h t at n) (sign_from n (sign_at t (at + 2)) o, options_at h t at n) at (behind_options h t at n) p x

    option-stands : (n : ℕ) (o : Option Sign) (at : ℕ) (rs : Ranges) (c : Class) (ps os : Option Sign × Options) (x₁ x₂ x₃ x : List ℕ)
        → u8 t at ≡ 34 → 1 ≤ u8 t (at + 1)
        → RangesStand (at + 2) (u8 t (at + 1)) o rs x₁
        → Took t (g (option_class t at)) (h (option_class t at)).class (option_class t at + 1) (h (option_class t at)).next c x₂
        → OptionsStand (h (option_class t at)).next n rs.0 ps x₃
        → good (ps.0, an_option rs.1 c ps.1) x₃ ≡ good os x → OptionsStand at (suc n) o os x
    unfolding WholeOptions OptionKinds options_at behind_options
    option-stands n o at rs c ps os x₁ x₂ x₃ x k i b d w e =
        let s = sign_at t ((h (option_class t at)).next + 2) in
        let f₁ : sign_from (suc n) (sign_at t (at + 2)) o ≡ ps.0 =
        sign-through (u8 t (at + 1)) n _ s o i ∙ ap (λ r. sign_from n s r.0) b.says ∙ ap (λ r. r.0) w.says in
        let f₂ : ranges_at t (at + 2) (u8 t (at + 1)) ≡ rs.1 = ap (λ r. r.1) b.says in
        let f₃ : options_at h t (h (option_class t at)).next n ≡ ps.1 = ap (λ r. r.1) w.says in
        record {
          stands = ((i, b.within, d.stands, w.stands.0), (k, b.stands, w.stands.1));
          says = rw (f₁, f₂, f₃, d.says) (good-value e);
          rest = sym (good-rest e) ∙ w.rest;
          within = w.within;
          onward = omega (arith, d.onward, w.onward);
          begins = w.begins;
        }

    options-stand : (n : ℕ) (p : Ranges) (at : ℕ) (os : Option Sign × Options) (x : List ℕ) → at ≤ length t → Begins t at
        → parse_options q f n p (drop at t) ≡ good os x → OptionsStand at n p.0 os x
    unfolding parse_options WholeOptions OptionKinds options_at behind_options option_fault count_of out
    options-stand zero p at os x l begun e = record {
      stands = (tt, tt);
      says = unfold sign_from in good-value e;
      rest = sym (good-rest e);
      within = l;
      onward = omega arith;
      begins = begun;
    }
    options-stand (suc n) p at os x l begun e =
        let k = one-good q _ _ t at os x e in
        by (λ p at os x l begun e. options-stand n p at os x l begun e) (record_of (drop at t)) refl k.fine k.there k.rest
      where
        Rest : Type 0
        Rest = (p : Ranges) (at : ℕ) (os : Option Sign × Options) (x : List ℕ) → at ≤ length t → Begins t at
            → parse_options q f n p (drop at t) ≡ good os x → OptionsStand at n p.0 os x

        by : Rest → (r : Record) → record_of (drop at t) ≡ r → option_fault r ≡ 0 → at + size (drop at t) ≤ length t
            → then (parse_ranges q p.1 (count_of r) p.0 (drop (at + size (drop at t)) t)) (λ rs x. then (f inside x) λ c x.
            then (parse_options q f n (rs.0, p.1 ++ rs.1) x) λ os x. good (os.0, an_option rs.1 c os.1) x) ≡ good os x
            → OptionsStand at (suc n) p.0 os x
        by rec unknown e z m k = absurd (omega arith)
        by rec (fragment g) e z m k = absurd (omega arith)
        by rec (root r) e z m k = absurd (omega arith)
        by rec (class y) e z m k = absurd (omega arith)
        by rec (range g a b) e z m k = absurd (omega arith)
        by rec (option j) e z m k =
            let r = option-at t at j e in
            let j₁ : j ≡ u8 t (at + 1) = cc r.says in
            let a = then-good (parse_ranges q p.1 (u8 t (at + 1)) p.0 (drop (at + 2) t)) _ os x (rw (r.bytes, j₁) at k) in
            let b = ranges-stand q p.1 (u8 t (at + 1)) p.0 (at + 2) a.value a.rest (omega (arith, r.bytes))
            (begins-behind begun 2 r.bytes) a.first in
            let c = then-good (f inside (drop (option_class t at) t)) _ os x (rw b.rest at a.second) in
            let d = deeper inside (option_class t at) c.value c.rest b.begins c.first in
            let v = then-good (parse_options q f n (a.value.0, p.1 ++ a.value.1) (drop (h (option_class t at)).next t)) _ os x
            (rw d.rest at c.second) in
            let w = rec (a.value.0, p.1 ++ a.value.1) (h (option_class t at)).next v.value v.rest d.within d.begins
            v.first in
            let i : 1 ≤ j = ltb-false j 1 (or-false (ltb j 1) _ (pick-false _ 9 0 z)).0 in
            option-stands n p.0 at a.value c.value v.value os a.rest c.rest v.rest x r.kind (omega arith) b d w
            v.second

    -- by what the record announces
    abbrev ShapeStands : ℕ → Shape → Class → List ℕ → Type 0
    ShapeStands at s c x = Took t (WholeIn g h t at s × KindsIn h t at s) (class_in h t at s) (at + 1) (next_in h t at s) c x

    leaf-stands : (s : Shape) (at : ℕ) (c : Class) (x : List ℕ) → WholeIn g h t at s → KindsIn h t at s
        → next_in h t at s ≡ at + record_size s
        → 1 ≤ record_size s
        → at + record_size s ≤ length t → Begins t (at + record_size s)
        → good (class_in h t at s) (drop (at + record_size s) t) ≡ good c x → ShapeStands at s c x
    leaf-stands s at c x w v n k l begun e =
        record {
          stands = (w, v);
          says = good-value e;
          rest = sym (good-rest e) ∙ ap (λ j. drop j t) (sym n);
          within = omega arith;
          onward = omega arith;
          begins = rw n begun;
        }

    flagged-or-not : (i n at : ℕ) (c : Class)
        → selected i (sign_from n (sign_at t at) None, ranges_at t at n) c ≡ optional_of i (sign_at t at) (ranges_at t at n) c
    unfolding selected sign_from ranges_at optional_of
    flagged-or-not i zero at c = refl
    flagged-or-not i (suc n) at c = refl

    first-sign : (n : ℕ) (s : Sign) → 1 ≤ n → the_sign (sign_from n s None) ≡ s
    unfolding the_sign sign_from
    first-sign zero s l = absurd (omega arith)
    first-sign (suc n) s l = refl

    shape-stands : (z : Spot) (at : ℕ) (s : Shape) (c : Class) (x : List ℕ) → Sane (said_at t at s) → at + record_size s ≤ length t
        → Begins t (at + record_size s)
        → parse_shape q f z (said_at t at s) (said_at t at s).shape (drop (at + record_size s) t) ≡ good c x → ShapeStands at s c x
    unfolding parse_shape said_at WholeIn KindsIn class_in next_in record_size
    shape-stands z at (bit_field bit_array) c x k l begun e =
        leaf-stands (bit_field bit_array) at c x (k.low, k.high, k.align) tt refl (omega arith) l begun e
    shape-stands z at (bit_field boolean) c x k l begun e =
        leaf-stands (bit_field boolean) at c x (k.low, k.high, k.align) tt refl (omega arith) l begun e
    shape-stands z at (bit_field unsigned_int) c x k l begun e =
        leaf-stands (bit_field unsigned_int) at c x (k.low, k.high, k.align) tt refl (omega arith) l begun e
    shape-stands z at (bit_field signed_int) c x k l begun e =
        leaf-stands (bit_field signed_int) at c x (k.low, k.high, k.align) tt refl (omega arith) l begun e
    shape-stands z at (bit_field float) c x k l begun e =
        leaf-stands (bit_field float) at c x (k.low, k.high, k.align) tt refl (omega arith) l begun e
    shape-stands z at leb_field c x k l begun e = leaf-stands leb_field at c x tt tt refl (omega arith) l begun e
    shape-stands z at signed_leb_field c x k l begun e = leaf-stands signed_leb_field at c x tt tt refl (omega arith) l begun e
    shape-stands z at zero_string c x k l begun e = leaf-stands zero_string at c x tt tt refl (omega arith) l begun e
    shape-stands z at text c x k l begun e = leaf-stands text at c x tt tt refl (omega arith) l begun e
    shape-stands z at blob c x k l begun e = leaf-stands blob at c x tt tt refl (omega arith) l begun e
    shape-stands z at text_of c x k l begun e = leaf-stands text_of at c x tt tt refl (omega arith) l begun e
    shape-stands z at blob_of c x k l begun e = leaf-stands blob_of at c x tt tt refl (omega arith) l begun e
    shape-stands z at members c x k l begun e =
        let a = then-good (parse_members f (member_spot z) (u8 t (at + 1)) (drop (at + 3) t)) _ c x e in
        let b = members-stand (member_spot z) (u8 t (at + 1)) (at + 3) a.value a.rest l begun a.first in
        took-inside t (structure (u8 t (at + 2))) at ((k.align, b.stands), tt) b (omega arith) refl a.second
    shape-stands z at elements c x k l begun e =
        let a = then-good (f inside (drop (at + 4) t)) _ c x e in
        let b = deeper inside (at + 4) a.value a.rest begun a.first in
        took-inside t (static_array (u16 t (at + 1)) (u8 t (at + 3))) at ((k.align, b.stands), tt) b (omega arith) refl a.second
    shape-stands z at elements_of c x k l begun e =
        let a = then-good (f inside (drop (at + 3) t)) _ c x e in
        let b = deeper inside (at + 3) a.value a.rest begun a.first in
        took-inside t (dynamic_array (u8 t (at + 1)) (u8 t (at + 2))) at ((k.align, b.stands), tt) b (omega arith) refl a.second
    shape-stands z at option? c x k l begun e =
        let o = at + 3 + 18 * u8 t (at + 2) in
        let a = then-good (parse_ranges q [] (u8 t (at + 2)) None (drop (at + 3) t)) _ c x e in
        let b = ranges-stand q [] (u8 t (at + 2)) None (at + 3) a.value a.rest l begun a.first in
        let d = then-good (f inside (drop o t)) _ c x (rw b.rest at a.second) in
        let w = deeper inside o d.value d.rest b.begins d.first in
        took-inside t (selected (u8 t (at + 1)) a.value) at ((b.within, w.stands), b.stands) w (omega arith)
        (sym (flagged-or-not (u8 t (at + 1)) (u8 t (at + 2)) (at + 3) _) ∙ ap (λ p. selected (u8 t (at + 1)) p (h o).class) b.says)
        d.second
    shape-stands z at options c x k l begun e =
        let a = then-good (parse_options q f (u8 t (at + 2)) (None, []) (drop (at + 3) t)) _ c x e in
        let b = options-stand (u8 t (at + 2)) (None, []) (at + 3) a.value a.rest l begun a.first in
        let i : 1 ≤ u8 t (at + 2) = k.options refl in
        let j : at + 5 ≡ at + 3 + 2 = omega arith in
        took-inside t (λ p. variant (u8 t (at + 1)) (the_sign p.0) p.1) at ((i, b.stands.0), b.stands.1) b (omega arith)
        (ap (λ s. variant (u8 t (at + 1)) s (options_at h t (at + 3) (u8 t (at + 2))))
        (ap (sign_at t) j ∙ sym (first-sign (u8 t (at + 2)) _ i)))
        a.second

-- A class

abbrev pub Stands : ℕ → List ℕ → ℕ → Class → List ℕ → Type 0
Stands d t at c x = Took t (IsWhole d t at) (class_at d t at) (at + 1) (next_at d t at) c x

pub stands : (q : Ids) (u : Under) (d : ℕ) (z : Spot) (t : List ℕ) (at : ℕ) (c : Class) (x : List ℕ) → Begins t at
    → parse_class q u d z (drop at t) ≡ good c x → Stands d t at c x
unfolding parse_class class_fault parse_body IsWhole stood_at
stands q u zero z t at c x begun e = absurd (bad-good (one-good q _ _ t at c x e).rest)
stands q u (suc d) z t at c x begun e =
    let k = one-good q _ _ t at c x e in
    by (λ z p c x begun e. stands q u d z t p c x begun e) (record_of (drop at t)) refl k.fine k.there k.rest
  where
    by : ((z : Spot) (p : ℕ) (c : Class) (x : List ℕ) → Begins t p → parse_class q u d z (drop p t) ≡ good c x → Stands d t p c x)
        → (r : Record) → record_of (drop at t) ≡ r → class_fault u z false r ≡ 0 → at + size (drop at t) ≤ length t
        → parse_body q (parse_class q u d) z r (drop (at + size (drop at t)) t) ≡ good c x → Stands (suc d) t at c x
    by rec unknown e n m k = absurd (omega arith)
    by rec (fragment g) e n m k = absurd (omega arith)
    by rec (root r) e n m k = absurd (omega arith)
    by rec (range g a b) e n m k = absurd (omega arith)
    by rec (option j) e n m k = absurd (omega arith)
    by rec (class y) e n m k =
        let a = class-at t at y e in
        let s = shape-stands t q (parse_class q u d) (IsWhole d t) (stood_at d t) rec z at (shape_of (u8 t at)) c x
        (rw a.says at (class-sane u z false y n)) (omega (arith, a.bytes)) (begins-behind begun _ a.bytes)
        (rw (a.bytes, a.says) at k) in
        record {
          stands = record {
            low = a.low;
            high = a.high;
            there = omega (arith, a.bytes);
            parts = s.stands.0;
            kinds = s.stands.1;
            begins = begun;
          };
          says = s.says;
          rest = s.rest;
          within = s.within;
          onward = s.onward;
          begins = s.begins;
        }
