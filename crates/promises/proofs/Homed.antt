-- The walk over homes, where the parser accepts: it looks at no byte behind the records that it goes over. By what was set before them, it
-- either goes over them all, and tells what they set, of the trees that the parser gives (Settings); or it stops at one of them.
use Rattle.std.specs.Prelude.{Option, None, Some}
use mathlib.Core.Path.{◌≡◌, refl, sym, ap, ◌∙◌, subst}
use Prim.Native.Nat.{ℕ, zero, suc, ◌+◌, ◌≤◌}
use native.Mathlib.Omega.{arith}
use mathlib.Core.List.{List, [], ◌∷◌, ◌++◌, append_assoc}
use mathlib.Core.Bool.{Bool, true, false, not, ◌&&◌}
use lib.ListN.{length, length-append, take}
use lib.Seq.{take_at}
use lib.Dec.{ltb, leb}
use borrow.Author.Tests.{ltb-false, le-leb, leb-true}
use Rattle.facts.proofs.Truth.{and_left, and_right, and_none}
use Rattle.rules.specs.Class.{Class, Sign, Range, Classes, member, Options, option as an_option, structure, static_array, dynamic_array}
use Rattle.rules.specs.Class.{variant, setting}
use Rattle.rules.specs.Record.{Record, unknown, fragment, root, class, range, option, Says, Shape, bit_field, leb_field}
use Rattle.rules.specs.Record.{signed_leb_field, zero_string, text, blob, text_of, blob_of, members, elements, elements_of, option?, options}
use Rattle.rules.specs.Record.{record_of, size, behind, layout_of, layouts, no, u8}
use Rattle.rules.specs.Parse.{Parsed, bad, good, Parser, then, sound, missing, one, Ranges, range_of, count_of, the_sign, selected}
use Rattle.rules.specs.Parse.{parse_ranges, parse_members, parse_options, parse_shape, parse_body, parse_class, is_root, any_root, parse_roots}
use Rattle.rules.specs.Faults.{pick, among, Ids, record_fault, Spot, top, inside, Under, member_spot, class_fault, range_fault, option_fault}
use Rattle.rules.specs.Faults.{root_fault}
use Rattle.rules.specs.Homes.{Homes, homes, no_homes, both, across, Walked, fault, walked, Walk, more, onward, out, is_whole, is_range}
use Rattle.rules.specs.Homes.{walk_ranges, walk_option, walk_options, walk_members, walk_shape, walk_record, walk_class, is_any_root, walk_roots}
use Rattle.laws.proofs.Sound.{no-fault}
use Rattle.promises.specs.SlotHomes.{Home, Place, homed, settings, member_settings, option_settings, of_root, of_roots}
use Rattle.promises.proofs.Settings.{Tells, tells_none, tells-onward, tells-out, tells-leaf}
use Rattle.promises.proofs.Local.{Whole, whole-size, whole-record, whole-behind, first-whole, first-split, first-record, bad-good}
use Rattle.promises.proofs.Roots.{Stops, root-there, one-bad}

-- what a success went through

pub record Through {A B : Type 0} (o : Parsed A) (F : A → Parser B) (b : B) (y : List ℕ) : Type 0 where
  pub a : A
  pub x : List ℕ
  pub first : o ≡ good a x
  pub second : F a x ≡ good b y

pub through : {A B : Type 0} (o : Parsed A) (F : A → Parser B) (b : B) (y : List ℕ) → then o F ≡ good b y → Through o F b y
unfolding then
through (bad n x) F b y h = absurd (bad-good n x b y h)
through (good a x) F b y h = record { a = a; x = x; first = refl; second = h }

good-rest : {A : Type 0} (a b : A) (x y : List ℕ) → ◌≡◌ {A = Parsed A} (good a x) (good b y) → x ≡ y
good-rest a b x y h = cc

good-is : {A : Type 0} (a b : A) (x y : List ℕ) → ◌≡◌ {A = Parsed A} (good a x) (good b y) → a ≡ b
good-is a b x y h = cc

-- one success, where it ends, and what is made of it
record Last {A B : Type 0} (o : Parsed A) (k : A → B) (b : B) (y : List ℕ) : Type 0 where
  a : A
  first : o ≡ good a y
  made : k a ≡ b

last_of : {A B : Type 0} (o : Parsed A) (k : A → B) (b : B) (y : List ℕ) → then o (λ a x. good (k a) x) ≡ good b y → Last o k b y
last_of o k b y h =
    let t = through o (λ a x. good (k a) x) b y h in
    record {
      a = t.a;
      first = t.first ∙ ap (good t.a) (good-rest (k t.a) b t.x y t.second);
      made = good-is (k t.a) b t.x y t.second;
    }

-- the first record of a success

record First {A : Type 0} (more : Record → ℕ) (F : Record → Parser A) (x : List ℕ) (a : A) (y : List ℕ) : Type 0 where
  w : List ℕ
  whole : Whole w
  split : x ≡ w ++ behind x
  is : record_of w ≡ record_of x
  later : more (record_of x) ≡ 0
  rest : F (record_of x) (behind x) ≡ good a y

first_of : {A : Type 0} (q : Ids) (more : Record → ℕ) (F : Record → Parser A) (x : List ℕ) (a : A) (y : List ℕ)
    → one q more F x ≡ good a y → First more F x a y
unfolding one sound
first_of q more F x a y h = by _ refl h
  where
    by : (n : ℕ) → pick (missing x) 3 (record_fault (ltb (length x) (size x)) q (record_of x) (more (record_of x))) ≡ n
        → sound n x (F (record_of x)) ≡ good a y → First more F x a y
    by (suc n) e h = absurd (bad-good (suc n) x a y h)
    by zero e h =
        let k = no-fault (missing x) (ltb (length x) (size x)) q (record_of x) (more (record_of x)) e in
        let fits = ltb-false (length x) (size x) k.fits in
        record {
          w = take (size x) x;
          whole = first-whole x k.there fits;
          split = sym (first-split x);
          is = first-record x k.there fits;
          later = k.later;
          rest = h;
        }

pub is-whole : (w z : List ℕ) → Whole w → is_whole (w ++ z) ≡ true
unfolding is_whole
is-whole w z h =
    let k : size (w ++ z) ≤ length (w ++ z) = rw (whole-size w z h, length-append w z) (omega (arith, h.whole)) in
    le-leb _ _ k

-- what a walk tells, by what it began with
abbrev Telling : Type 1
Telling = Homes → Homes → Type 0

-- where a walk over u ends, whatever is behind
data Ends (f : Walk) (P : Telling) (h : Homes) (u : List ℕ) : Type 0 where
  passes : (g : Homes) → P h g → ((z : List ℕ) → f h (u ++ z) ≡ walked g z) → Ends f P h u
  halts : (v : List ℕ) → ((z : List ℕ) → f h (u ++ z) ≡ fault (v ++ z)) → Ends f P h u

-- a walk from x to y
record Gone (f : Walk) (P : Telling) (x y : List ℕ) : Type 0 where
  u : List ℕ
  split : x ≡ u ++ y
  ends : (h : Homes) → Ends f P h u

gone-here : (f : Walk) (P : Telling) (g : Homes) (x y : List ℕ) → ((h : Homes) → P h g) → ((h : Homes) (z : List ℕ) → f h z ≡ walked g z)
    → x ≡ y → Gone f P x y
gone-here f P g x y t e p = record { u = []; split = p; ends = λ h. passes g (t h) (λ z. e h z) }

gone-as : (f : Walk) (P Q : Telling) (x y : List ℕ) → ((h g : Homes) → P h g → Q h g) → Gone f P x y → Gone f Q x y
gone-as f P Q x y t a = record { u = a.u; split = a.split; ends = λ h. by h (a.ends h) }
  where
    by : (h : Homes) → Ends f P h a.u → Ends f Q h a.u
    by h (passes g q p) = passes g (t h g q) p
    by h (halts v p) = halts v p

-- one walk and then another one
module _ (f g : Walk) (P Q R : Telling) (t : (h a b : Homes) → P h a → Q (both a h) b → R h (both a b)) where
  ends-onward : (u v : List ℕ) → ((h : Homes) → Ends f P h u) → ((h : Homes) → Ends g Q h v) → (h : Homes)
      → Ends (λ h x. onward h (f h x) g) R h (u ++ v)
  unfolding onward more
  ends-onward u v e k h = by (e h)
    where
      by2 : (a : Homes) → P h a → ((z : List ℕ) → f h (u ++ z) ≡ walked a z) → Ends g Q (both a h) v
          → Ends (λ h x. onward h (f h x) g) R h (u ++ v)
      by2 a s p (passes b r q) =
          passes (both a b) (t h a b s r) (λ z.
          ap (λ l. onward h (f h l) g) (append_assoc u v z) ∙ ap (λ o. onward h o g) (p (v ++ z)) ∙ ap (more a) (q z))
      by2 a s p (halts w q) =
          halts w (λ z. ap (λ l. onward h (f h l) g) (append_assoc u v z) ∙ ap (λ o. onward h o g) (p (v ++ z)) ∙ ap (more a) (q z))

      by : Ends f P h u → Ends (λ h x. onward h (f h x) g) R h (u ++ v)
      by (passes a s p) = by2 a s p (k (both a h))
      by (halts w p) =
          halts (w ++ v) (λ z.
          ap (λ l. onward h (f h l) g) (append_assoc u v z) ∙ ap (λ o. onward h o g) (p (v ++ z)) ∙ ap fault (sym (append_assoc w v z)))

  gone-onward : (x y z : List ℕ) → Gone f P x y → Gone g Q y z → Gone (λ h x. onward h (f h x) g) R x z
  gone-onward x y z a b = record {
    u = a.u ++ b.u;
    split = a.split ∙ ap (λ l. a.u ++ l) b.split ∙ sym (append_assoc a.u b.u z);
    ends = ends-onward a.u b.u a.ends b.ends;
  }

-- an element
gone-out : (f : Walk) (P Q : Telling) (x y : List ℕ) → ((h g : Homes) → P (across h) g → Q h (across g)) → Gone f P x y
    → Gone (λ h x. out (f (across h) x)) Q x y
unfolding out
gone-out f P Q x y t a = record { u = a.u; split = a.split; ends = λ h. by h (a.ends (across h)) }
  where
    by : (h : Homes) → Ends f P (across h) a.u → Ends (λ h x. out (f (across h) x)) Q h a.u
    by h (passes g q p) = passes (across g) (t h g q) (λ z. ap out (p z))
    by h (halts v p) = halts v (λ z. ap out (p z))

-- behind a record
gone-behind : (f g : Walk) (P : Telling) (x y w : List ℕ) → x ≡ w ++ behind x → ((h : Homes) (z : List ℕ) → f h (w ++ z) ≡ g h z)
    → Gone g P (behind x) y → Gone f P x y
gone-behind f g P x y w s e a = record {
  u = w ++ a.u;
  split = s ∙ ap (λ l. w ++ l) a.split ∙ sym (append_assoc w a.u y);
  ends = λ h. by h (a.ends h);
}
  where
    by : (h : Homes) → Ends g P h a.u → Ends f P h (w ++ a.u)
    by h (passes b q p) = passes b q (λ z. ap (f h) (append_assoc w a.u z) ∙ e h (a.u ++ z) ∙ p z)
    by h (halts v p) = halts v (λ z. ap (f h) (append_assoc w a.u z) ∙ e h (a.u ++ z) ∙ p z)

-- a class may be at fault itself
or_at : ℕ → List ℕ → Walk → Walk
or_at i w g h z = elim (among i h.elsewhere) [ true ↦ fault (w ++ z) | false ↦ g h z ]

-- what is told where it is not
abbrev Unless : ℕ → Telling → Telling
Unless i P h g = among i h.elsewhere ≡ false → P h g

gone-or : (i : ℕ) (w : List ℕ) (g : Walk) (P : Telling) (x y : List ℕ) → Gone g (Unless i P) x y → Gone (or_at i w g) P x y
unfolding or_at
gone-or i w g P x y a = record { u = a.u; split = a.split; ends = λ h. by h (among i h.elsewhere) refl }
  where
    by : (h : Homes) (b : Bool) → among i h.elsewhere ≡ b → Ends (or_at i w g) P h a.u
    by h true e = halts (w ++ a.u) (λ z. rw (e, or_at) (ap fault (sym (append_assoc w a.u z))))
    by h false e = same (a.ends h)
      where
        same : Ends g (Unless i P) h a.u → Ends (or_at i w g) P h a.u
        same (passes b q p) = passes b (q e) (λ z. rw (e, or_at) (p z))
        same (halts v p) = halts v (λ z. rw (e, or_at) (p z))

-- What is told: of no class; of a class; of members and options, the first of which is number k
abbrev OfNone : Telling
OfNone h g = (o : Home) → Tells h g o []

abbrev OfClass : Class → Telling
OfClass c h g = (o : Home) (p : Place) → Tells h g o (settings c o p)

abbrev OfMembers : Classes → Telling
OfMembers cs h g = (o : Home) (p : Place) (k : ℕ) → Tells h g o (member_settings cs o p k)

abbrev OfOptions : Options → Telling
OfOptions os h g = (o : Home) (p : Place) (k : ℕ) → Tells h g o (option_settings os o p k)

-- Ranges, options, members

is-range : (o : Option Sign) (earlier : List Range) (r : Record) → range_fault o earlier r ≡ 0 → is_range r ≡ true
unfolding range_fault is_range
is-range o earlier unknown h = absurd (omega arith)
is-range o earlier (fragment f) h = absurd (omega arith)
is-range o earlier (root n) h = absurd (omega arith)
is-range o earlier (class y) h = absurd (omega arith)
is-range o earlier (range g l k) h = refl
is-range o earlier (option n) h = absurd (omega arith)

gone-ranges : (q : Ids) (earlier : List Range) (n : ℕ) (o : Option Sign) (x : List ℕ) (a : Ranges) (y : List ℕ)
    → parse_ranges q earlier n o x ≡ good a y → Gone (walk_ranges n) OfNone x y
unfolding parse_ranges walk_ranges
gone-ranges q earlier zero o x a y h =
    gone-here (walk_ranges zero) OfNone no_homes x y (λ h o. tells_none h o) (λ h z. refl) (good-rest _ _ x y h)
gone-ranges q earlier (suc n) o x a y h =
    let f = first_of q (range_fault o earlier) _ x a y h in
    let l = last_of (parse_ranges q earlier n (range_of (record_of x)).0 (behind x)) _ a y f.rest in
    gone-behind (walk_ranges (suc n)) (walk_ranges n) OfNone x y f.w f.split
    (λ h z.
    rw (is-whole f.w z f.whole, whole-record f.w z f.whole, f.is, is-range o earlier (record_of x) f.later, walk_ranges)
    (ap (walk_ranges n h) (whole-behind f.w z f.whole)))
    (gone-ranges q earlier n (range_of (record_of x)).0 (behind x) l.a y l.first)

module _ (q : Ids) (p : Spot → Parser Class) (f : Walk)
    (rec : (s : Spot) (x : List ℕ) (c : Class) (y : List ℕ) → p s x ≡ good c y → Gone f (OfClass c) x y) where
  gone-members : (s : Spot) (n : ℕ) (x : List ℕ) (cs : Classes) (y : List ℕ) → parse_members p s n x ≡ good cs y
      → Gone (walk_members f n) (OfMembers cs) x y
  unfolding parse_members walk_members member_settings
  gone-members s zero x cs y h =
      gone-here (walk_members f zero) (OfMembers cs) no_homes x y
      (λ b. subst (λ cs. OfMembers cs b no_homes) (good-is _ cs x y h) (λ o p k. tells_none b o)) (λ h z. refl) (good-rest _ _ x y h)
  gone-members s (suc n) x cs y h =
      let t = through (p s x) _ cs y h in
      let l = last_of (parse_members p inside n t.x) _ cs y t.second in
      subst (λ cs. Gone (walk_members f (suc n)) (OfMembers cs) x y) l.made
      (gone-onward f (walk_members f n) (OfClass t.a) (OfMembers l.a) (OfMembers (member t.a l.a))
      (λ h a b u v o p k. tells-onward h a b o (settings t.a o (k ∷ p)) _ (u o (k ∷ p)) (v o p (k + 1)))
      x t.x y (rec s x t.a t.x t.first) (gone-members inside n t.x l.a y l.first))

  -- ranges and then a class
  gone-ranged : (n : ℕ) (e : List Range) (o : Option Sign) (x x₁ x₂ : List ℕ) (a : Ranges) (c : Class)
      → parse_ranges q e n o x ≡ good a x₁ → p inside x₁ ≡ good c x₂ → Gone (λ h x. onward h (walk_ranges n h x) f) (OfClass c) x x₂
  gone-ranged n e o x x₁ x₂ a c k l =
      gone-onward (walk_ranges n) f OfNone (OfClass c) (OfClass c) (λ h a b u v o p. tells-onward h a b o [] (settings c o p) (u o) (v o p))
      x x₁ x₂ (gone-ranges q e n o x a x₁ k) (rec inside x₁ c x₂ l)

  -- an option's record and class
  gone-option : (r : Record) (e : List Range) (o : Option Sign) (x x₁ x₂ : List ℕ) (a : Ranges) (c : Class) → option_fault r ≡ 0
      → parse_ranges q e (count_of r) o x ≡ good a x₁ → p inside x₁ ≡ good c x₂ → Gone (λ h x. walk_option f h r x) (OfClass c) x x₂
  unfolding option_fault walk_option count_of
  gone-option unknown e o x x₁ x₂ a c h k l = absurd (omega arith)
  gone-option (fragment g) e o x x₁ x₂ a c h k l = absurd (omega arith)
  gone-option (root n) e o x x₁ x₂ a c h k l = absurd (omega arith)
  gone-option (class y) e o x x₁ x₂ a c h k l = absurd (omega arith)
  gone-option (range g m j) e o x x₁ x₂ a c h k l = absurd (omega arith)
  gone-option (option n) e o x x₁ x₂ a c h k l = gone-ranged n e o x x₁ x₂ a c k l

  gone-options : (n : ℕ) (rs : Ranges) (x : List ℕ) (a : Option Sign × Options) (y : List ℕ) → parse_options q p n rs x ≡ good a y
      → Gone (walk_options f n) (OfOptions a.1) x y
  unfolding parse_options walk_options option_settings
  gone-options zero rs x a y h =
      gone-here (walk_options f zero) (OfOptions a.1) no_homes x y
      (λ b. subst (λ (a : Option Sign × Options). OfOptions a.1 b no_homes) (good-is _ a x y h) (λ o p k. tells_none b o))
      (λ h z. refl) (good-rest _ _ x y h)
  gone-options (suc n) rs x a y h =
      let o = first_of q option_fault _ x a y h in
      let r = record_of x in
      let t₁ = through (parse_ranges q rs.1 (count_of r) rs.0 (behind x)) _ a y o.rest in
      let t₂ = through (p inside t₁.x) _ a y t₁.second in
      let l = last_of (parse_options q p n (t₁.a.0, rs.1 ++ t₁.a.1) t₂.x) _ a y t₂.second in
      subst (λ (a : Option Sign × Options). Gone (walk_options f (suc n)) (OfOptions a.1) x y) l.made
      (gone-behind (walk_options f (suc n)) (λ h x. onward h (walk_option f h r x) (walk_options f n))
      (OfOptions (an_option t₁.a.1 t₂.a l.a.1)) x y o.w o.split
      (λ h z. rw (is-whole o.w z o.whole, whole-record o.w z o.whole, o.is, walk_options)
      (ap (λ l. onward h (walk_option f h r l) (walk_options f n)) (whole-behind o.w z o.whole)))
      (gone-onward (λ h x. walk_option f h r x) (walk_options f n) (OfClass t₂.a) (OfOptions l.a.1)
      (OfOptions (an_option t₁.a.1 t₂.a l.a.1))
      (λ h a b u v o p k. tells-onward h a b o (settings t₂.a o (k ∷ p)) _ (u o (k ∷ p)) (v o p (k + 1)))
      (behind x) t₂.x y
      (gone-option r rs.1 rs.0 (behind x) t₁.x t₂.x t₁.a t₂.a o.later t₁.first t₂.first)
      (gone-options n (t₁.a.0, rs.1 ++ t₁.a.1) t₂.x l.a y l.first)))

  -- a class that sets its slot, or none, and holds nothing
  gone-leaf : (d : Says) (k : Shape) (c e : Class) (x y : List ℕ) → ((o : Home) (p : Place) → settings c o p ≡ homed o (setting d.sets))
      → ((h : Homes) (z : List ℕ) → walk_shape f d k h z ≡ walked (homes (setting d.sets) []) z)
      → ◌≡◌ {A = Parsed Class} (good c x) (good e y) → Gone (walk_shape f d k) (Unless d.sets (OfClass e)) x y
  gone-leaf d k c e x y s w h =
      subst (λ e. Gone (walk_shape f d k) (Unless d.sets (OfClass e)) x y) (good-is c e x y h)
      (gone-here (walk_shape f d k) (Unless d.sets (OfClass c)) (homes (setting d.sets) []) x y
      (λ h n o p. subst (Tells h _ o) (sym (s o p)) (tells-leaf h d.sets n o)) w (good-rest c e x y h))

  gone-bare : (d : Says) (k : Shape) (c e : Class) (x y : List ℕ) → ((o : Home) (p : Place) → settings c o p ≡ [])
      → ((h : Homes) (z : List ℕ) → walk_shape f d k h z ≡ walked no_homes z) → ◌≡◌ {A = Parsed Class} (good c x) (good e y)
      → Gone (walk_shape f d k) (Unless d.sets (OfClass e)) x y
  gone-bare d k c e x y s w h =
      subst (λ e. Gone (walk_shape f d k) (Unless d.sets (OfClass e)) x y) (good-is c e x y h)
      (gone-here (walk_shape f d k) (Unless d.sets (OfClass c)) no_homes x y
      (λ h n o p. subst (Tells h _ o) (sym (s o p)) (tells_none h o)) w (good-rest c e x y h))

  -- an array
  gone-elements : (d : Says) (k : Shape) (array : Class → Class) (x : List ℕ) (c : Class) (y : List ℕ)
      → ((e : Class) (o : Home) (p : Place) → settings (array e) o p ≡ settings e (Some p) (0 ∷ p))
      → then (p inside x) (λ e x. good (array e) x) ≡ good c y
      → Gone (λ h x. out (f (across h) x)) (Unless d.sets (OfClass c)) x y
  gone-elements d k array x c y s h =
      let l = last_of (p inside x) array c y h in
      subst (λ c. Gone (λ h x. out (f (across h) x)) (Unless d.sets (OfClass c)) x y) l.made
      (gone-out f (OfClass l.a) (Unless d.sets (OfClass (array l.a))) x y
      (λ h g t n o p. subst (Tells h _ o) (sym (s l.a o p)) (tells-out h g o (Some p) _ (t (Some p) (0 ∷ p))))
      (rec inside x l.a y l.first))

  selected-sets : (i : ℕ) (g : Option Sign) (rs : List Range) (c : Class) (o : Home) (p : Place)
      → settings (selected i (g, rs) c) o p ≡ settings c o (0 ∷ p)
  unfolding selected settings
  selected-sets i None rs c o p = refl
  selected-sets i (Some g) rs c o p = refl

  gone-shape : (s : Spot) (d : Says) (k : Shape) (x : List ℕ) (c : Class) (y : List ℕ) → parse_shape q p s d k x ≡ good c y
      → Gone (walk_shape f d k) (Unless d.sets (OfClass c)) x y
  unfolding parse_shape walk_shape settings
  gone-shape s d (bit_field k) x c y h = gone-leaf d (bit_field k) _ c x y (λ o p. refl) (λ h z. refl) h
  gone-shape s d leb_field x c y h = gone-leaf d leb_field _ c x y (λ o p. refl) (λ h z. refl) h
  gone-shape s d signed_leb_field x c y h = gone-leaf d signed_leb_field _ c x y (λ o p. refl) (λ h z. refl) h
  gone-shape s d zero_string x c y h = gone-bare d zero_string _ c x y (λ o p. refl) (λ h z. refl) h
  gone-shape s d text x c y h = gone-bare d text _ c x y (λ o p. refl) (λ h z. refl) h
  gone-shape s d blob x c y h = gone-bare d blob _ c x y (λ o p. refl) (λ h z. refl) h
  gone-shape s d text_of x c y h = gone-bare d text_of _ c x y (λ o p. refl) (λ h z. refl) h
  gone-shape s d blob_of x c y h = gone-bare d blob_of _ c x y (λ o p. refl) (λ h z. refl) h
  gone-shape s d members x c y h =
      let l = last_of (parse_members p (member_spot s) d.count x) _ c y h in
      subst (λ c. Gone (walk_members f d.count) (Unless d.sets (OfClass c)) x y) l.made
      (gone-as (walk_members f d.count) (OfMembers l.a) (Unless d.sets (OfClass (structure d.align l.a))) x y
      (λ h g t n o p. t o p 0) (gone-members (member_spot s) d.count x l.a y l.first))
  gone-shape s d elements x c y h = gone-elements d elements (static_array d.count d.align) x c y (λ e o p. refl) h
  gone-shape s d elements_of x c y h = gone-elements d elements_of (dynamic_array d.reads d.align) x c y (λ e o p. refl) h
  gone-shape s d option? x c y h =
      let t = through (parse_ranges q [] d.count None x) _ c y h in
      let l = last_of (p inside t.x) _ c y t.second in
      subst (λ c. Gone (walk_shape f d option?) (Unless d.sets (OfClass c)) x y) l.made
      (gone-as (λ h x. onward h (walk_ranges d.count h x) f) (OfClass l.a)
      (Unless d.sets (OfClass (selected d.reads t.a l.a))) x y
      (λ h g u n o p. subst (Tells h g o) (sym (selected-sets d.reads t.a.0 t.a.1 l.a o p)) (u o (0 ∷ p)))
      (gone-ranged d.count [] None x t.x y t.a l.a t.first l.first))
  gone-shape s d options x c y h =
      let l = last_of (parse_options q p d.count (None, []) x) _ c y h in
      subst (λ c. Gone (walk_options f d.count) (Unless d.sets (OfClass c)) x y) l.made
      (gone-as (walk_options f d.count) (OfOptions l.a.1)
      (Unless d.sets (OfClass (variant d.reads (the_sign l.a.0) l.a.1))) x y
      (λ h g t n o p. t o p 0) (gone-options d.count (None, []) x l.a y l.first))

  -- a class's record, whole, and what it holds
  gone-body : (walk : Walk) (s : Spot) (r : Record) (x w : List ℕ) (c : Class) (y : List ℕ) → record_of w ≡ r → Whole w → x ≡ w ++ behind x
      → ((h : Homes) (z : List ℕ) → walk h (w ++ z) ≡ walk_record f h r (w ++ z)) → parse_body q p s r (behind x) ≡ good c y
      → Gone walk (OfClass c) x y
  unfolding parse_body walk_record
  gone-body walk s unknown x w c y e hw sp k h = absurd (bad-good _ _ c y h)
  gone-body walk s (fragment g) x w c y e hw sp k h = absurd (bad-good _ _ c y h)
  gone-body walk s (root n) x w c y e hw sp k h = absurd (bad-good _ _ c y h)
  gone-body walk s (range g l j) x w c y e hw sp k h = absurd (bad-good _ _ c y h)
  gone-body walk s (option n) x w c y e hw sp k h = absurd (bad-good _ _ c y h)
  gone-body walk s (class d) x w c y e hw sp k h =
      gone-behind walk (or_at d.sets w (walk_shape f d d.shape)) (OfClass c) x y w sp
      (λ h z. k h z ∙ unfold or_at in
      ap (λ l. elim (among d.sets h.elsewhere) as (λ _. Walked) [ true ↦ fault (w ++ z) | false ↦ walk_shape f d d.shape h l ])
      (whole-behind w z hw))
      (gone-or d.sets w (walk_shape f d d.shape) (OfClass c) (behind x) y (gone-shape s d d.shape (behind x) c y h))

gone-class : (q : Ids) (v : Under) (n : ℕ) (s : Spot) (x : List ℕ) (c : Class) (y : List ℕ) → parse_class q v n s x ≡ good c y
    → Gone (walk_class n) (OfClass c) x y
unfolding parse_class walk_class
gone-class q v zero s x c y h = absurd (one-bad q (class_fault v s true) 14 x c y h)
gone-class q v (suc n) s x c y h =
    let f = first_of q (class_fault v s false) _ x c y h in
    gone-body q (parse_class q v n) (walk_class n) (gone-class q v n) (walk_class (suc n)) s (record_of x) x f.w c y f.is
    f.whole f.split
    (λ h z. rw (is-whole f.w z f.whole, whole-record f.w z f.whole, f.is, walk_class) refl)
    f.rest

-- Roots

any-root : (r : Record) → is_any_root r ≡ any_root r
unfolding is_any_root any_root
any-root unknown = refl
any-root (fragment f) = refl
any-root (root n) = refl
any-root (class y) = refl
any-root (range g l h) = refl
any-root (option n) = refl

root-any : (n : ℕ) (r : Record) → is_root n r ≡ true → is_any_root r ≡ true
unfolding is_any_root is_root
root-any n unknown h = h
root-any n (fragment f) h = h
root-any n (root m) h = refl
root-any n (class y) h = h
root-any n (range g l k) h = h
root-any n (option m) h = h

-- where no root stands, the roots end
stopped : (m : ℕ) (h : Homes) (z : List ℕ) → Stops z → walk_roots m h z ≡ walked no_homes z
unfolding walk_roots is_whole missing size layout_of u8 layouts no record_of is_any_root
stopped zero h z s = refl
stopped (suc m) h [] s = refl
stopped (suc m) h (b ∷ z) s =
    let e : is_any_root (record_of (b ∷ z)) ≡ false = any-root (record_of (b ∷ z)) ∙ s in
    let k : (is_whole (b ∷ z) && is_any_root (record_of (b ∷ z))) ≡ false = rw e (and_none (is_whole (b ∷ z))) in
    ap (λ t. elim t as (λ _. Walked) [
      | true ↦ onward h (walk_class 8 h (behind (b ∷ z))) (walk_roots m)
      | false ↦ walked no_homes (b ∷ z)
    ]) k

-- what is told of roots, the first of which has the number n
abbrev pub OfRoots : List (Option Class) → Telling
OfRoots cs h g = (n : ℕ) → Tells h g None (of_roots n cs)

-- the roots u, whatever is behind them, if it is no root; each takes a byte or more
pub data RootsEnd (cs : List (Option Class)) (h : Homes) (u : List ℕ) : Type 0 where
  over : (g : Homes) → OfRoots cs h g
      → ((m : ℕ) (z : List ℕ) → length u ≤ m → Stops z → walk_roots m h (u ++ z) ≡ walked g z) → RootsEnd cs h u
  within : (v : List ℕ) → ((m : ℕ) (z : List ℕ) → length u ≤ m → Stops z → walk_roots m h (u ++ z) ≡ fault (v ++ z)) → RootsEnd cs h u

record RootsGone (cs : List (Option Class)) (x y : List ℕ) : Type 0 where
  u : List ℕ
  split : x ≡ u ++ y
  ends : (h : Homes) → RootsEnd cs h u

-- a root that is not there says nothing
no-root : (cs : List (Option Class)) (h : Homes) (u : List ℕ) → RootsEnd cs h u → RootsEnd (None ∷ cs) h u
unfolding of_roots of_root
no-root cs h u (over g t p) = over g (λ n. t (n + 1)) p
no-root cs h u (within v p) = within v p

pub whole-one : (w : List ℕ) → Whole w → 1 ≤ length w
unfolding size
whole-one w h = rw h.whole (omega arith)

module _ (w : List ℕ) (hw : Whole w) (is : is_any_root (record_of w) ≡ true) where
  roots-step : (m : ℕ) (h : Homes) (z : List ℕ) → walk_roots (suc m) h (w ++ z) ≡ onward h (walk_class 8 h z) (walk_roots m)
  unfolding walk_roots
  roots-step m h z =
      rw (is-whole w z hw, whole-record w z hw, is, walk_roots) (ap (λ l. onward h (walk_class 8 h l) (walk_roots m)) (whole-behind w z hw))

  module _ (c : Class) (cs : List (Option Class)) (u v : List ℕ) (k : (h : Homes) → RootsEnd cs h v) (h : Homes) where
    abbrev all : List ℕ
    all = w ++ (u ++ v)

    all-assoc : (z : List ℕ) → all ++ z ≡ w ++ (u ++ (v ++ z))
    all-assoc z = append_assoc w (u ++ v) z ∙ ap (λ l. w ++ l) (append_assoc u v z)

    -- as far as the class
    to-class : (m : ℕ) (z : List ℕ) (o : Walked) → ((m : ℕ) → length v ≤ m → onward h (walk_class 8 h (u ++ (v ++ z))) (walk_roots m) ≡ o)
        → length all ≤ m → walk_roots m h (all ++ z) ≡ o
    to-class zero z o g l = absurd (omega (arith, whole-one w hw, simp length-append at l))
    to-class (suc m) z o g l =
        ap (walk_roots (suc m) h) (all-assoc z) ∙ roots-step m h (u ++ (v ++ z))
        ∙ g m (omega (arith, whole-one w hw, simp length-append at l))

    roots-behind : (a : Homes) → OfClass c h a → ((z : List ℕ) → walk_class 8 h (u ++ z) ≡ walked a z) → RootsEnd cs (both a h) v
        → RootsEnd (Some c ∷ cs) h all
    unfolding onward more of_roots of_root
    roots-behind a s p (over b r t) =
        over (both a b) (λ n. tells-onward h a b None (settings c None (n ∷ [])) _ (s None (n ∷ [])) (r (n + 1)))
        (λ m z l s. to-class m z _ (λ m l. ap (λ o. onward h o (walk_roots m)) (p (v ++ z)) ∙ ap (more a) (t m z l s)) l)
    roots-behind a s p (within y t) =
        within y (λ m z l s. to-class m z _ (λ m l.
        ap (λ o. onward h o (walk_roots m)) (p (v ++ z)) ∙ ap (more a) (t m z l s)) l)

    roots-more : Ends (walk_class 8) (OfClass c) h u → RootsEnd (Some c ∷ cs) h all
    unfolding onward
    roots-more (passes a s p) = roots-behind a s p (k (both a h))
    roots-more (halts y p) =
        within (y ++ v) (λ m z l s. to-class m z _ (λ m l.
        ap (λ o. onward h o (walk_roots m)) (p (v ++ z)) ∙ ap fault (sym (append_assoc y v z))) l)

module _ (timed u? : Bool) (q : Ids) where
  abbrev Others : List ℕ → Type 0
  Others ns = (x : List ℕ) (cs : List (Option Class)) (y : List ℕ) → parse_roots q timed u? ns x ≡ good cs y → RootsGone cs x y

  gone-roots : (ns : List ℕ) → Others ns
  unfolding parse_roots of_roots
  gone-roots [] x cs y h = by (not (missing x) && any_root (record_of x)) h
    where
      by : (b : Bool)
          → elim b as (λ _. Parsed (List (Option Class))) [ true ↦ one q root_fault (λ r x. bad 9 x) x | false ↦ good [] x ] ≡ good cs y
          → RootsGone cs x y
      by true h = absurd (one-bad q root_fault 9 x cs y h)
      by false h =
          subst (λ cs. RootsGone cs x y) (good-is [] cs x y h)
          (record { u = []; split = good-rest _ _ x y h; ends = λ h. over no_homes (λ n. tells_none h None) (λ m z l s. stopped m h z s) })
  gone-roots (n ∷ ns) x cs y h = by (λ x cs y h. gone-roots ns x cs y h) (leb (size x) (length x) && is_root n (record_of x)) refl h
    where
      U : Under
      U = record { root = n; timed = timed; uuid = u? }

      rest : Class → Parser (List (Option Class))
      rest c x = then (parse_roots q timed u? ns x) (λ cs x. good (Some c ∷ cs) x)

      by : Others ns → (b : Bool) → (leb (size x) (length x) && is_root n (record_of x)) ≡ b
          → elim b as (λ _. Parsed (List (Option Class))) [
            | true ↦ then (parse_class q U 8 top (behind x)) rest
            | false ↦ then (parse_roots q timed u? ns x) (λ cs x. good (None ∷ cs) x)
          ] ≡ good cs y
          → RootsGone cs x y
      by rec false e h =
          let l = last_of (parse_roots q timed u? ns x) (λ cs. None ∷ cs) cs y h in
          let r = rec x l.a y l.first in
          subst (λ cs. RootsGone cs x y) l.made
          (record { u = r.u; split = r.split; ends = λ h. no-root l.a h r.u (r.ends h) })
      by rec true e h =
          let ir = and_right (leb (size x) (length x)) (is_root n (record_of x)) e in
          let fits = leb-true _ _ (and_left (leb (size x) (length x)) (is_root n (record_of x)) e) in
          let th = root-there n x ir in
          let w = take (size x) x in
          let hw = first-whole x th fits in
          let t = through (parse_class q U 8 top (behind x)) rest cs y h in
          let l = last_of (parse_roots q timed u? ns t.x) (λ cs. Some t.a ∷ cs) cs y t.second in
          let k = gone-class q U 8 top (behind x) t.a t.x t.first in
          let r = rec t.x l.a y l.first in
          let is : is_any_root (record_of w) ≡ true = ap is_any_root (first-record x th fits) ∙ root-any n (record_of x) ir in
          let ky : behind x ≡ (k.u ++ r.u) ++ y = k.split ∙ ap (λ l. k.u ++ l) r.split ∙ sym (append_assoc k.u r.u y) in
          subst (λ cs. RootsGone cs x y) l.made
          (record {
            u = w ++ (k.u ++ r.u);
            split = sym (first-split x) ∙ ap (λ l. w ++ l) ky ∙ sym (append_assoc w (k.u ++ r.u) y);
            ends = λ h. roots-more w hw is t.a l.a k.u r.u r.ends h (k.ends h);
          })

  same-front : (u v y : List ℕ) → u ++ y ≡ v ++ y → u ≡ v
  same-front u v y e =
      let l : length u ≡ length v = omega (arith, sym (length-append u y) ∙ ap length e ∙ length-append v y) in
      sym (take_at u y (length u) refl) ∙ ap (take (length u)) e ∙ take_at v y (length u) (sym l)

  pub roots-end : (ns : List ℕ) (x : List ℕ) (cs : List (Option Class)) (y : List ℕ) → parse_roots q timed u? ns x ≡ good cs y
      → (u : List ℕ) → x ≡ u ++ y → (h : Homes) → RootsEnd cs h u
  roots-end ns x cs y p u e h =
      let r = gone-roots ns x cs y p in
      subst (RootsEnd cs h) (same-front r.u u y (sym r.split ∙ e)) (r.ends h)
