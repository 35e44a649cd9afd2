-- Where the parser and the walk over homes end: what holds of a table's bytes, and behind each record, holds of the bytes from which either
-- finds a fault; and the walk finds one only at a record that is there whole.
--
-- Left, Ends                  it holds of the bytes that a parser leaves; of those that a walk leaves
-- table-left, walk_ends       the parser's, and the walk's
-- table-short, walk-short     no more bytes than the table has; at the walk's fault, one or more
use Rattle.std.specs.Prelude.{Option, None, Some}
use mathlib.Core.Path.{◌≡◌, refl, subst}
use Prim.Native.Nat.{ℕ, zero, suc, ◌≤◌, ◌<◌}
use native.Mathlib.Omega.{arith}
use native.Mathlib.Nat.{le_refl}
use mathlib.Core.List.{List, [], ◌∷◌, ◌++◌}
use mathlib.Core.Bool.{Bool, true, false, not, ◌&&◌, ◌||◌}
use lib.ListN.{length, length-drop}
use lib.Dec.{ltb, leb}
use borrow.Author.Tests.{leb-true}
use Rattle.rules.specs.Limits.{table_limit, depth_limit}
use Rattle.rules.specs.Class.{Sign, Range, Class}
use Rattle.rules.specs.Record.{Shape, bit_field, leb_field, signed_leb_field, zero_string, text, blob, text_of, blob_of, members, elements}
use Rattle.rules.specs.Record.{elements_of, option?, options, Says, Fragment}
use Rattle.rules.specs.Record.{Record, unknown, fragment, root, class, range, option, record_of, behind, size}
use Rattle.rules.specs.Faults.{Ids, no_ids, seen, among, Spot, top, inside, member_spot, Under, bad_size, kind_not_allowed, first_fault}
use Rattle.rules.specs.Faults.{root_fault, open_fault}
use Rattle.rules.specs.Table.{Table}
use Rattle.rules.specs.Homes.{Homes, no_homes, both, across, Walked, fault, walked, lost, Walk, more, onward, out, is_whole, is_range}
use Rattle.rules.specs.Homes.{walk_ranges, walk_option, walk_options, walk_members, walk_shape, walk_record, walk_class, is_any_root, walk_roots}
use Rattle.rules.specs.Homes.{homes_before, header_homes, stream_homes, walk_rest, walk_opened, walk_fragments, walk}
use Rattle.rules.specs.Parse.{Parsed, bad, good, Parser, then, sound, missing, one, Ranges, range_of, count_of, parse_ranges, parse_options}
use Rattle.rules.specs.Parse.{parse_members, parse_shape, parse_body, parse_class, is_root, any_root, parse_roots, root_numbers, is_timed, has_uuid}
use Rattle.rules.specs.Parse.{no_table, parse_fragment, parse_opened, parse_fragments, parse_table}

module _ (G : List ℕ → Type 0) (on : (x : List ℕ) → G x → G (behind x)) where
  -- The parser

  abbrev pub Left : {A : Type 0} → Parsed A → Type 0
  Left (bad n x) = G x
  Left (good a x) = G x

  left-then : {A B : Type 0} (o : Parsed A) (F : A → Parser B) → Left o → ((a : A) (x : List ℕ) → G x → Left (F a x)) → Left (then o F)
  unfolding then
  left-then (bad n x) F h k = h
  left-then (good a x) F h k = k a x h

  left-sound : {A : Type 0} (n : ℕ) (x : List ℕ) (f : Parser A) → G x → Left (f (behind x)) → Left (sound n x f)
  unfolding sound
  left-sound zero x f g h = h
  left-sound (suc n) x f g h = g

  left_one : {A : Type 0} (q : Ids) (m : Record → ℕ) (f : Record → Parser A) (x : List ℕ) → G x
      → ((r : Record) (y : List ℕ) → G y → Left (f r y)) → Left (one q m f x)
  unfolding one
  left_one q m f x g h = left-sound _ x (f (record_of x)) g (h (record_of x) (behind x) (on x g))

  left-ranges : (q : Ids) (earlier : List Range) (n : ℕ) (o : Option Sign) (x : List ℕ) → G x → Left (parse_ranges q earlier n o x)
  unfolding parse_ranges
  left-ranges q earlier zero o x g = g
  left-ranges q earlier (suc n) o x g =
      left_one q _ _ x g (λ r y h.
      left-then (parse_ranges q earlier n (range_of r).0 y) _ (left-ranges q earlier n (range_of r).0 y h) (λ p z k. k))

  module _ (f : Spot → Parser Class) (h : (z : Spot) (x : List ℕ) → G x → Left (f z x)) where
    left-members : (z : Spot) (n : ℕ) (x : List ℕ) → G x → Left (parse_members f z n x)
    unfolding parse_members
    left-members z zero x g = g
    left-members z (suc n) x g =
        left-then (f z x) _ (h z x g) (λ c y k. left-then (parse_members f inside n y) _ (left-members inside n y k) (λ cs w j. j))

    left-options : (q : Ids) (n : ℕ) (p : Ranges) (x : List ℕ) → G x → Left (parse_options q f n p x)
    unfolding parse_options
    left-options q zero p x g = g
    left-options q (suc n) p x g =
        left_one q _ _ x g (λ r y k.
        left-then (parse_ranges q p.1 (count_of r) p.0 y) _ (left-ranges q p.1 (count_of r) p.0 y k) (λ rs u j.
        left-then (f inside u) _ (h inside u j) (λ c v i.
        left-then (parse_options q f n (rs.0, p.1 ++ rs.1) v) _ (left-options q n (rs.0, p.1 ++ rs.1) v i) (λ os w l. l))))

    left-shape : (q : Ids) (z : Spot) (y : Says) (s : Shape) (x : List ℕ) → G x → Left (parse_shape q f z y s x)
    unfolding parse_shape
    left-shape q z y (bit_field k) x g = g
    left-shape q z y leb_field x g = g
    left-shape q z y signed_leb_field x g = g
    left-shape q z y zero_string x g = g
    left-shape q z y text x g = g
    left-shape q z y blob x g = g
    left-shape q z y text_of x g = g
    left-shape q z y blob_of x g = g
    left-shape q z y members x g =
        left-then (parse_members f (member_spot z) y.count x) _ (left-members (member_spot z) y.count x g) (λ cs w j. j)
    left-shape q z y elements x g = left-then (f inside x) _ (h inside x g) (λ c w j. j)
    left-shape q z y elements_of x g = left-then (f inside x) _ (h inside x g) (λ c w j. j)
    left-shape q z y option? x g =
        left-then (parse_ranges q [] y.count None x) _ (left-ranges q [] y.count None x g) (λ p w j.
        left-then (f inside w) _ (h inside w j) (λ c v i. i))
    left-shape q z y options x g =
        left-then (parse_options q f y.count (None, []) x) _ (left-options q y.count (None, []) x g) (λ p w j. j)

    left_body : (q : Ids) (z : Spot) (r : Record) (x : List ℕ) → G x → Left (parse_body q f z r x)
    unfolding parse_body
    left_body q z unknown x g = g
    left_body q z (fragment k) x g = g
    left_body q z (root r) x g = g
    left_body q z (class y) x g = left-shape q z y y.shape x g
    left_body q z (range s l k) x g = g
    left_body q z (option n) x g = g

  left-class : (q : Ids) (u : Under) (n : ℕ) (z : Spot) (x : List ℕ) → G x → Left (parse_class q u n z x)
  unfolding parse_class
  left-class q u zero z x g = left_one q _ _ x g (λ r y h. h)
  left-class q u (suc n) z x g =
      left_one q _ _ x g (λ r y h. left_body (parse_class q u n) (λ z x g. left-class q u n z x g) q z r y h)

  left-roots : (q : Ids) (timed u? : Bool) (ns : List ℕ) (x : List ℕ) → G x → Left (parse_roots q timed u? ns x)
  unfolding parse_roots
  left-roots q timed u? [] x g = by (not (missing x) && any_root (record_of x))
    where
      by : (b : Bool)
          → Left {A = List (Option Class)} (elim b [ true ↦ one q root_fault (λ r x. bad kind_not_allowed x) x | false ↦ good [] x ])
      by true = left_one q _ _ x g (λ r y h. h)
      by false = g
  left-roots q timed u? (n ∷ ns) x g = by (leb (size x) (length x) && is_root n (record_of x)) (λ y k. left-roots q timed u? ns y k)
    where
      this : Parsed Class
      this = parse_class q (record { root = n; timed = timed; uuid = u? }) depth_limit top (behind x)

      by : (b : Bool) → ((y : List ℕ) → G y → Left (parse_roots q timed u? ns y)) → Left {A = List (Option Class)} (elim b [
        | true ↦ then this λ c x. then (parse_roots q timed u? ns x) λ cs x. good (Some c ∷ cs) x
        | false ↦ then (parse_roots q timed u? ns x) λ cs x. good (None ∷ cs) x
      ])
      by true rec =
          left-then this _ (left-class q _ depth_limit top (behind x) (on x g)) (λ c y k.
          left-then (parse_roots q timed u? ns y) _ (rec y k) (λ cs w j. j))
      by false rec = left-then (parse_roots q timed u? ns x) _ (rec x g) (λ cs w j. j)

  left-fragments : (n : ℕ) (q : Ids) (x : List ℕ) → G x → Left (parse_fragments n q x)
  unfolding parse_fragments
  left-fragments zero q x g = g
  left-fragments (suc n) q x g = by (missing x) (λ q x g. left-fragments n q x g)
    where
      opened : ((q : Ids) (x : List ℕ) → G x → Left (parse_fragments n q x)) → (r : Record) (y : List ℕ) → G y
          → Left (parse_opened q (parse_fragments n) r y)
      opened rec unknown y h = unfold parse_opened in h
      opened rec (fragment k) y h =
          unfold parse_opened parse_fragment in
          left-then (parse_roots (seen q k) (is_timed k) (has_uuid k) (root_numbers k) y) _
          (left-roots (seen q k) (is_timed k) (has_uuid k) (root_numbers k) y h)
          (λ cs w j. left-then (parse_fragments n (seen q k) w) _ (rec (seen q k) w j) (λ t v i. i))
      opened rec (root r) y h = unfold parse_opened in h
      opened rec (class s) y h = unfold parse_opened in h
      opened rec (range s l k) y h = unfold parse_opened in h
      opened rec (option m) y h = unfold parse_opened in h

      by : (b : Bool) → ((q : Ids) (x : List ℕ) → G x → Left (parse_fragments n q x)) → Left {A = Table} (elim b [
        | true ↦ good no_table x
        | false ↦ one q (open_fault q) (λ r x. parse_opened q (parse_fragments n) r x) x
      ])
      by true rec = g
      by false rec = left_one q _ _ x g (λ r y h. opened rec r y h)

  pub table-left : (x : List ℕ) → G x → Left (parse_table x)
  unfolding parse_table
  table-left x g = by (missing x || ltb table_limit (length x))
    where
      rest : Parser Table
      rest x = then (parse_roots no_ids false false [] x) λ cs x. parse_fragments (length x) no_ids x

      by : (b : Bool)
          → Left {A = Table} (elim b [ true ↦ bad bad_size x | false ↦ sound (first_fault (ltb (length x) (size x)) (record_of x)) x rest ])
      by true = g
      by false =
          left-sound _ x rest g (left-then (parse_roots no_ids false false [] (behind x)) _
          (left-roots no_ids false false [] (behind x) (on x g)) (λ cs y k. left-fragments (length y) no_ids y k))

  -- The walk

  abbrev pub Ends : Walked → Type 0
  Ends (fault y) = G y × (is_whole y ≡ true)
  Ends (walked h x) = G x
  Ends lost = Unit {0}

  ends_more : (g : Homes) (w : Walked) → Ends w → Ends (more g w)
  unfolding more
  ends_more g (fault y) h = h
  ends_more g (walked k x) h = h
  ends_more g lost h = tt

  ends-onward : (k : Homes) (w : Walked) (f : Walk) → Ends w → ((k : Homes) (x : List ℕ) → G x → Ends (f k x)) → Ends (onward k w f)
  unfolding onward
  ends-onward k (fault y) f h rec = h
  ends-onward k (walked g x) f h rec = ends_more g (f (both g k) x) (rec (both g k) x h)
  ends-onward k lost f h rec = tt

  ends-out : (w : Walked) → Ends w → Ends (out w)
  unfolding out
  ends-out (fault y) h = h
  ends-out (walked g x) h = h
  ends-out lost h = tt

  ends-if : (b : Bool) (v w : Walked) → Ends v → Ends w → Ends (elim b [ true ↦ v | false ↦ w ])
  ends-if true v w h k = h
  ends-if false v w h k = k

  ends-whole : (x : List ℕ) (w : Walked) → (is_whole x ≡ true → Ends w) → Ends (elim (is_whole x) [ true ↦ w | false ↦ lost ])
  ends-whole x w h = by (is_whole x) h
    where
      by : (b : Bool) → (b ≡ true → Ends w) → Ends (elim b [ true ↦ w | false ↦ lost ])
      by true h = h refl
      by false h = tt

  ends-ranges : (n : ℕ) (k : Homes) (x : List ℕ) → G x → Ends (walk_ranges n k x)
  unfolding walk_ranges
  ends-ranges zero k x g = g
  ends-ranges (suc n) k x g = ends-if (is_whole x && is_range (record_of x)) _ lost (ends-ranges n k (behind x) (on x g)) tt

  module _ (f : Walk) (rec : (k : Homes) (x : List ℕ) → G x → Ends (f k x)) where
    ends-option : (k : Homes) (r : Record) (x : List ℕ) → G x → Ends (walk_option f k r x)
    unfolding walk_option
    ends-option k unknown x g = tt
    ends-option k (fragment h) x g = tt
    ends-option k (root r) x g = tt
    ends-option k (class y) x g = tt
    ends-option k (range s l h) x g = tt
    ends-option k (option n) x g = ends-onward k (walk_ranges n k x) f (ends-ranges n k x g) rec

    ends-options : (n : ℕ) (k : Homes) (x : List ℕ) → G x → Ends (walk_options f n k x)
    unfolding walk_options
    ends-options zero k x g = g
    ends-options (suc n) k x g =
        ends-if (is_whole x) _ lost (ends-onward k (walk_option f k (record_of x) (behind x)) (walk_options f n)
        (ends-option k (record_of x) (behind x) (on x g)) (λ k x g. ends-options n k x g)) tt

    ends-members : (n : ℕ) (k : Homes) (x : List ℕ) → G x → Ends (walk_members f n k x)
    unfolding walk_members
    ends-members zero k x g = g
    ends-members (suc n) k x g = ends-onward k (f k x) (walk_members f n) (rec k x g) (λ k x g. ends-members n k x g)

    ends-shape : (y : Says) (s : Shape) (k : Homes) (x : List ℕ) → G x → Ends (walk_shape f y s k x)
    unfolding walk_shape
    ends-shape y (bit_field s) k x g = g
    ends-shape y leb_field k x g = g
    ends-shape y signed_leb_field k x g = g
    ends-shape y zero_string k x g = g
    ends-shape y text k x g = g
    ends-shape y blob k x g = g
    ends-shape y text_of k x g = g
    ends-shape y blob_of k x g = g
    ends-shape y members k x g = ends-members y.count k x g
    ends-shape y elements k x g = ends-out (f (across k) x) (rec (across k) x g)
    ends-shape y elements_of k x g = ends-out (f (across k) x) (rec (across k) x g)
    ends-shape y option? k x g = ends-onward k (walk_ranges y.count k x) f (ends-ranges y.count k x g) rec
    ends-shape y options k x g = ends-options y.count k x g

    ends-record : (k : Homes) (r : Record) (x : List ℕ) → G x → is_whole x ≡ true → Ends (walk_record f k r x)
    unfolding walk_record
    ends-record k unknown x g w = tt
    ends-record k (fragment h) x g w = tt
    ends-record k (root r) x g w = tt
    ends-record k (class y) x g w =
        ends-if (among y.sets k.elsewhere) (fault x) _ (g, w) (ends-shape y y.shape k (behind x) (on x g))
    ends-record k (range s l h) x g w = tt
    ends-record k (option n) x g w = tt

  ends-class : (n : ℕ) (k : Homes) (x : List ℕ) → G x → Ends (walk_class n k x)
  unfolding walk_class
  ends-class zero k x g = ends-whole x _ (λ w. ends-record (λ h x. lost) (λ k x g. tt) k (record_of x) x g w)
  ends-class (suc n) k x g = ends-whole x _ (λ w. ends-record (walk_class n) (λ k x g. ends-class n k x g) k (record_of x) x g w)

  ends-roots : (n : ℕ) (k : Homes) (x : List ℕ) → G x → Ends (walk_roots n k x)
  unfolding walk_roots
  ends-roots zero k x g = g
  ends-roots (suc n) k x g =
      ends-if (is_whole x && is_any_root (record_of x)) _ (walked no_homes x)
      (ends-onward k (walk_class depth_limit k (behind x)) (walk_roots n) (ends-class depth_limit k (behind x) (on x g))
      (λ k x g. ends-roots n k x g)) g

  ends-fragments : (n : ℕ) (k : Homes) (l : List (ℕ × Homes)) (x : List ℕ) → G x → Ends (walk_fragments n k l x)
  unfolding walk_fragments
  ends-fragments zero k l x g = tt
  ends-fragments (suc n) k l x g = ends-if (is_whole x) _ lost (opened (record_of x) (λ k l x g. ends-fragments n k l x g)) tt
    where
      rest : ((k : Homes) (l : List (ℕ × Homes)) (x : List ℕ) → G x → Ends (walk_fragments n k l x))
          → (f : Fragment) (w : Walked) → Ends w → Ends (walk_rest (walk_fragments n) k l f w)
      rest rec f (fault y) h = unfold walk_rest in h
      rest rec f (walked g y) h = unfold walk_rest in rec (header_homes f g k) (stream_homes f g l) y h
      rest rec f lost h = unfold walk_rest in tt

      opened : (r : Record) → ((k : Homes) (l : List (ℕ × Homes)) (x : List ℕ) → G x → Ends (walk_fragments n k l x))
          → Ends (walk_opened (walk_fragments n) k l r (behind x))
      opened unknown rec = unfold walk_opened in tt
      opened (fragment f) rec =
          unfold walk_opened in
          rest rec f (walk_roots (length (behind x)) (homes_before k l f) (behind x))
          (ends-roots (length (behind x)) (homes_before k l f) (behind x) (on x g))
      opened (root r) rec = unfold walk_opened in tt
      opened (class y) rec = unfold walk_opened in tt
      opened (range s m h) rec = unfold walk_opened in tt
      opened (option m) rec = unfold walk_opened in tt

  pub walk_ends : (x : List ℕ) → G x → Ends (walk x)
  unfolding walk
  walk_ends x g = ends-fragments (length x) no_homes [] x g

-- no more bytes than the table has

abbrev UpTo : ℕ → List ℕ → Type 0
UpTo n x = length x ≤ n

fewer : (n : ℕ) (x : List ℕ) → UpTo n x → UpTo n (behind x)
unfolding behind
fewer n x h = omega (arith, length-drop (size x) x)

some_bytes : (x : List ℕ) → is_whole x ≡ true → 0 < length x
unfolding is_whole size
some_bytes x w = omega (arith, leb-true (size x) (length x) w)

pub table-short : (x : List ℕ) (n : ℕ) (y : List ℕ) → parse_table x ≡ bad n y → length y ≤ length x
table-short x n y e =
    subst (λ (o : Parsed Table). Left (UpTo (length x)) (fewer (length x)) o) e
    (table-left (UpTo (length x)) (fewer (length x)) x (le_refl (length x)))

pub walk-short : (x y : List ℕ) → walk x ≡ fault y → (0 < length y) × (length y ≤ length x)
walk-short x y e =
    let h : (length y ≤ length x) × (is_whole y ≡ true) =
    subst (λ w. Ends (UpTo (length x)) (fewer (length x)) w) e
    (walk_ends (UpTo (length x)) (fewer (length x)) x (le_refl (length x))) in
    (some_bytes y h.1, h.0)
