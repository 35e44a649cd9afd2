-- A parser that accepts looks at no byte behind what it takes, and by no id of earlier records.
use Rattle.std.specs.Prelude.{Option, None}
use mathlib.Core.Path.{◌≡◌, refl, sym, ap, ◌∙◌, subst}
use Prim.Native.Nat.{ℕ, zero, suc, ◌+◌, ◌-◌, ◌≤◌}
use native.Mathlib.Omega.{arith}
use mathlib.Core.List.{List, [], ◌∷◌, ◌++◌, append_assoc}
use mathlib.Core.Bool.{Bool, true, false}
use lib.ListN.{length, length-append, take, take-append-drop}
use lib.Seq.{take_at, drop_at, length-take-le, take_all}
use lib.Dec.{ltb}
use borrow.Author.Tests.{ltb-false, le-ltb}
use Rattle.rules.specs.Class.{Sign, Range, Class, no_member, member, no_option, option as an_option}
use Rattle.rules.specs.Class.{structure, static_array, dynamic_array, variant}
use Rattle.rules.specs.Record.{Record, unknown, fragment, root, class, range, option, Fragment, Says, Shape, bit_field, leb_field}
use Rattle.rules.specs.Record.{signed_leb_field, zero_string, text, blob, text_of, blob_of, members, elements, elements_of, option?, options}
use Rattle.rules.specs.Record.{record_of, size, behind, layout_of, u8}
use Rattle.rules.specs.Parse.{Parsed, bad, good, Parser, then, sound, missing, one, Ranges, range_of, count_of, the_sign}
use Rattle.rules.specs.Parse.{selected, parse_ranges, parse_members, parse_options, parse_shape, parse_body, parse_class}
use Rattle.facts.proofs.Faults.{pick-zero}
use Rattle.rules.specs.Faults.{pick, Ids, record_fault, Spot, inside, Under, member_spot, class_fault, range_fault, option_fault}
use Rattle.laws.proofs.Sound.{no-fault}

-- a whole record that is no fragment's first
unfoldable pub is_fragment : Record → Bool
is_fragment unknown = false
is_fragment (fragment f) = true
is_fragment (root r) = false
is_fragment (class y) = false
is_fragment (range g l h) = false
is_fragment (option n) = false

pub record Whole (w : List ℕ) : Type 0 where
  pub there : missing w ≡ false
  pub whole : length w ≡ size w

-- bytes behind a whole record change nothing of it
pub whole-size : (w z : List ℕ) → Whole w → size (w ++ z) ≡ size w
unfolding size layout_of u8 missing
whole-size [] z h = let x : ◌≡◌ {A = ℕ} 0 1 = cc h.there in absurd (omega arith)
whole-size (b ∷ w) z h = refl

pub whole-record : (w z : List ℕ) → Whole w → record_of (w ++ z) ≡ record_of w
unfolding record_of layout_of u8 missing size
whole-record [] z h = let x : ◌≡◌ {A = ℕ} 0 1 = cc h.there in absurd (omega arith)
whole-record (b ∷ w) z h =
    let n : ℕ = (layout_of (b ∷ w)).0 in
    let e : length w ≡ n = omega (arith, h.whole) in
    let f : length w ≤ n = omega arith in
    ap (layout_of (b ∷ w)).1 (take_at w z n e ∙ sym (take_all n w f))

pub whole-behind : (w z : List ℕ) → Whole w → behind (w ++ z) ≡ z
unfolding behind
whole-behind w z h = rw (whole-size w z h) (drop_at w z _ h.whole)

pub whole-missing : (w z : List ℕ) → Whole w → missing (w ++ z) ≡ false
unfolding missing
whole-missing [] z h = let x : ◌≡◌ {A = ℕ} 0 1 = cc h.there in absurd (omega arith)
whole-missing (b ∷ w) z h = refl

-- the record that some bytes begin with
pub first-whole : (x : List ℕ) → missing x ≡ false → size x ≤ length x → Whole (take (size x) x)
unfolding missing size layout_of u8
first-whole [] h k = let x : ◌≡◌ {A = ℕ} 0 1 = cc h in absurd (omega arith)
first-whole (b ∷ x) h k = record { there = refl; whole = ap suc (length-take-le _ x (omega arith)) }

pub first-split : (x : List ℕ) → take (size x) x ++ behind x ≡ x
unfolding behind
first-split x = take-append-drop (size x) x

pub first-record : (x : List ℕ) → missing x ≡ false → size x ≤ length x → record_of (take (size x) x) ≡ record_of x
first-record x h k = sym (whole-record (take (size x) x) (behind x) (first-whole x h k)) ∙ ap record_of (first-split x)

-- records that are no fragment's first
pub data Plain : List ℕ → Type 0 where
  nothing : Plain []
  after : {u : List ℕ} (w : List ℕ) → Whole w → is_fragment (record_of w) ≡ false → Plain u → Plain (w ++ u)

pub plain-append : {u v : List ℕ} → Plain u → Plain v → Plain (u ++ v)
plain-append nothing q = q
plain-append {v = v} (after {u} w h k p) q = subst Plain (sym (append_assoc w u v)) (after w h k (plain-append p q))

-- what a parser took
pub record Taken {A : Type 0} (P : Ids → Parser A) (x : List ℕ) (a : A) (y : List ℕ) : Type 0 where
  pub u : List ℕ
  pub split : x ≡ u ++ y
  pub plain : Plain u
  pub again : (q : Ids) (z : List ℕ) → P q (u ++ z) ≡ good a z

pub record Local {A : Type 0} (P : Ids → Parser A) : Type 0 where
  pub at : (q : Ids) (x : List ℕ) (a : A) (y : List ℕ) → P q x ≡ good a y → Taken P x a y

local-good : {A : Type 0} (a : A) → Local (λ q x. good a x)
local-good {A} a = record { at = λ q x b y h. by x b y h }
  where
    by : (x : List ℕ) (b : A) (y : List ℕ) → ◌≡◌ {A = Parsed A} (good a x) (good b y) → Taken (λ q x. good a x) x b y
    by x b y h =
        let e : x ≡ y = cc in
        let f : a ≡ b = cc in record { u = []; split = e; plain = nothing; again = λ q z. ap (λ c. good c z) f }

pub bad-good : {A : Type 0} (n : ℕ) (x : List ℕ) (b : A) (y : List ℕ) → ◌≡◌ {A = Parsed A} (bad n x) (good b y) → ⊥
bad-good n x b y h = let z : ◌≡◌ {A = ℕ} 0 1 = cc in omega arith

local-bad : {A : Type 0} (n : ℕ) → Local {A = A} (λ q x. bad n x)
local-bad {A} n = record { at = λ q x b y h. absurd (bad-good n x b y h) }

local-then : {A B : Type 0} (P : Ids → Parser A) (F : A → Ids → Parser B) → Local P → ((a : A) → Local (F a))
    → Local (λ q x. then (P q x) (λ a x. F a q x))
unfolding then
local-then {A} {B} P F l k = record { at = λ q x b y h. by q x b y (P q x) refl h }
  where
    by : (q : Ids) (x : List ℕ) (b : B) (y : List ℕ) (o : Parsed A) → P q x ≡ o → then o (λ a x. F a q x) ≡ good b y
        → Taken (λ q x. then (P q x) (λ a x. F a q x)) x b y
    by q x b y (bad n x') e h = absurd (bad-good n x' b y h)
    by q x b y (good a x') e h =
        let s = l.at q x a x' e in
        let t = (k a).at q x' b y h in
        record {
          u = s.u ++ t.u;
          split = s.split ∙ ap (λ l. s.u ++ l) t.split ∙ sym (append_assoc s.u t.u y);
          plain = plain-append s.plain t.plain;
          again = λ q z. rw (append_assoc s.u t.u z, s.again q (t.u ++ z)) (t.again q z);
        }

-- one record
fault-free : (short : Bool) (q : Ids) (r : Record) (m : ℕ) → is_fragment r ≡ false → record_fault short q r m ≡ 0 → (q : Ids)
    → record_fault short q r m ≡ 0
unfolding record_fault is_fragment
fault-free short q unknown m f h q' = h
fault-free short q (fragment g) m f h q' = let z : ◌≡◌ {A = ℕ} 0 1 = cc in absurd (omega arith)
fault-free short q (root r) m f h q' = h
fault-free short q (class y) m f h q' = h
fault-free short q (range g l k) m f h q' = h
fault-free short q (option n) m f h q' = h

-- a fault of 9 at a fragment's first record keeps such records out
kept_out : (more : Record → ℕ) → ((g : Fragment) → more (fragment g) ≡ 9) → (r : Record) → more r ≡ 0 → is_fragment r ≡ false
unfolding is_fragment
kept_out more k unknown h = refl
kept_out more k (fragment g) h = absurd (omega (arith, k g))
kept_out more k (root r) h = refl
kept_out more k (class y) h = refl
kept_out more k (range g l i) h = refl
kept_out more k (option n) h = refl

whole-short : (w z : List ℕ) → Whole w → ltb (length (w ++ z)) (size (w ++ z)) ≡ false
whole-short w z h =
    let k : size (w ++ z) ≤ length (w ++ z) = rw (whole-size w z h, length-append w z) (omega (arith, h.whole)) in
    le-ltb _ _ k

pub one-whole : {A : Type 0} (q : Ids) (more : Record → ℕ) (f : Record → Parser A) (w z : List ℕ) → Whole w
    → record_fault false q (record_of w) (more (record_of w)) ≡ 0 → one q more f (w ++ z) ≡ f (record_of w) z
unfolding one sound pick
one-whole q more f w z h k = rw (whole-missing w z h, whole-short w z h, whole-record w z h, k) (ap (f (record_of w)) (whole-behind w z h))

local-one : {A : Type 0} (more : Record → ℕ) → ((g : Fragment) → more (fragment g) ≡ 9) → (f : Record → Ids → Parser A)
    → ((r : Record) → Local (f r)) → Local (λ q x. one q more (λ r x. f r q x) x)
unfolding one sound
local-one {A} more kf f l = record { at = λ q x a y h. by q x a y _ refl h }
  where
    by : (q : Ids) (x : List ℕ) (a : A) (y : List ℕ) (n : ℕ)
        → pick (missing x) 3 (record_fault (ltb (length x) (size x)) q (record_of x) (more (record_of x))) ≡ n
        → sound n x (λ x'. f (record_of x) q x') ≡ good a y → Taken (λ q x. one q more (λ r x. f r q x) x) x a y
    by q x a y (suc n) e h = absurd (bad-good (suc n) x a y h)
    by q x a y zero e h =
        let k = no-fault (missing x) (ltb (length x) (size x)) q (record_of x) (more (record_of x)) e in
        let s = (l (record_of x)).at q (behind x) a y h in
        let fits = ltb-false (length x) (size x) k.fits in
        let w = take (size x) x in
        let hw = first-whole x k.there fits in
        let hr = first-record x k.there fits in
        let nf = kept_out more kf (record_of x) k.later in
        let hq : record_fault false q (record_of x) (more (record_of x)) ≡ 0 = rw k.fits at (pick-zero (missing x) 2 _ e) in
        record {
          u = w ++ s.u;
          split = sym (first-split x) ∙ ap (λ l. w ++ l) s.split ∙ sym (append_assoc w s.u y);
          plain = after w hw (rw hr nf) s.plain;
          again = λ q' z. rw (append_assoc w s.u z)
              (one-whole q' more (λ r x. f r q' x) w (s.u ++ z) hw
              (rw hr (fault-free false q (record_of x) (more (record_of x)) nf hq q')) ∙ rw hr (s.again q' z));
        }

-- the parsers of a class

local-ranges : (earlier : List Range) (n : ℕ) (o : Option Sign) → Local (λ q x. parse_ranges q earlier n o x)
unfolding parse_ranges range_fault
local-ranges earlier zero o = local-good (o, [])
local-ranges earlier (suc n) o =
    local-one (range_fault o earlier) (λ g. refl)
    (λ r q x. then (parse_ranges q earlier n (range_of r).0 x) (λ p x. good (p.0, (range_of r).1 ++ p.1) x))
    (λ r. local-then (λ q x. parse_ranges q earlier n (range_of r).0 x) (λ p q x. good (p.0, (range_of r).1 ++ p.1) x)
    (local-ranges earlier n (range_of r).0) (λ p. local-good (p.0, (range_of r).1 ++ p.1)))

module _ (f : Ids → Spot → Parser Class) (lf : (z : Spot) → Local (λ q x. f q z x)) where
  local-members : (z : Spot) (n : ℕ) → Local (λ q x. parse_members (f q) z n x)
  unfolding parse_members
  local-members z zero = local-good no_member
  local-members z (suc n) =
      local-then (λ q x. f q z x) (λ c q x. then (parse_members (f q) inside n x) (λ cs x. good (member c cs) x)) (lf z)
      (λ c. local-then (λ q x. parse_members (f q) inside n x) (λ cs q x. good (member c cs) x) (local-members inside n)
      (λ cs. local-good (member c cs)))

  local-options : (n : ℕ) (p : Ranges) → Local (λ q x. parse_options q (f q) n p x)
  unfolding parse_options option_fault
  local-options zero p = local-good (p.0, no_option)
  local-options (suc n) p =
      local-one option_fault (λ g. refl) _ (λ r.
      local-then (λ q x. parse_ranges q p.1 (count_of r) p.0 x) _ (local-ranges p.1 (count_of r) p.0) (λ rs.
      local-then (λ q x. f q inside x) _ (lf inside) (λ c.
      local-then (λ q x. parse_options q (f q) n (rs.0, p.1 ++ rs.1) x) _ (local-options n (rs.0, p.1 ++ rs.1)) (λ os.
      local-good (os.0, an_option rs.1 c os.1)))))

  local-shape : (z : Spot) (y : Says) (k : Shape) → Local (λ q x. parse_shape q (f q) z y k x)
  unfolding parse_shape
  local-shape z y (bit_field k) = local-good _
  local-shape z y leb_field = local-good _
  local-shape z y signed_leb_field = local-good _
  local-shape z y zero_string = local-good _
  local-shape z y text = local-good _
  local-shape z y blob = local-good _
  local-shape z y text_of = local-good _
  local-shape z y blob_of = local-good _
  local-shape z y members = local-then _ _ (local-members (member_spot z) y.count) (λ cs. local-good (structure y.align cs))
  local-shape z y elements = local-then _ _ (lf inside) (λ c. local-good (static_array y.count y.align c))
  local-shape z y elements_of = local-then _ _ (lf inside) (λ c. local-good (dynamic_array y.reads y.align c))
  local-shape z y option? =
      local-then _ _ (local-ranges [] y.count None) (λ p. local-then _ _ (lf inside) (λ c. local-good (selected y.reads p c)))
  local-shape z y options =
      local-then _ _ (local-options y.count (None, [])) (λ p. local-good (variant y.reads (the_sign p.0) p.1))

  local-body : (z : Spot) (r : Record) → Local (λ q x. parse_body q (f q) z r x)
  unfolding parse_body
  local-body z unknown = local-bad 2
  local-body z (fragment g) = local-bad 9
  local-body z (root r) = local-bad 9
  local-body z (class y) = local-shape z y y.shape
  local-body z (range g l h) = local-bad 9
  local-body z (option n) = local-bad 9

pub local-class : (u : Under) (n : ℕ) (z : Spot) → Local (λ q x. parse_class q u n z x)
unfolding parse_class class_fault
local-class u zero z = local-one (class_fault u z true) (λ g. refl) (λ r q x. bad 14 x) (λ r. local-bad 14)
local-class u (suc n) z =
    local-one (class_fault u z false) (λ g. refl) (λ r q x. parse_body q (parse_class q u n) z r x)
    (λ r. local-body (λ q. parse_class q u n) (local-class u n) z r)
