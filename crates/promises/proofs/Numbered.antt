-- A table is refused by one of the paper's numbers, 1 to 15: so is each test, and so all that is parsed.
use Rattle.std.specs.Prelude.{Option, None}
use mathlib.Core.Path.{◌≡◌, subst}
use Prim.Native.Nat.{ℕ, zero, suc, ◌≤◌}
use native.Mathlib.Omega.{arith}
use mathlib.Core.List.{List, [], ◌∷◌, ◌++◌}
use mathlib.Core.Bool.{Bool, true, false, not, ◌&&◌, ◌||◌}
use lib.ListN.{length}
use lib.Dec.{ltb, leb, eqb}
use Rattle.rules.specs.Limits.{table_limit, depth_limit}
use Rattle.rules.specs.Class.{Sign, Range, Class}
use Rattle.rules.specs.Record.{Shape, bit_field, leb_field, signed_leb_field, zero_string, text, blob, text_of, blob_of, members, elements, elements_of, option?, options}
use Rattle.rules.specs.Record.{Says, Fragment, preamble, trace_class, clock_class, stream_class, event_class}
use Rattle.rules.specs.Record.{Record, unknown, fragment, root, class, range, option, record_of, behind, size}
use Rattle.rules.specs.Faults.{slot_not_allowed}
use Rattle.rules.specs.Faults.{pick, Ids, no_ids, seen, fragment_fault, record_fault, first_fault, Spot, top}
use Rattle.rules.specs.Faults.{inside, member_spot, Under, class_fault, range_fault, option_fault, root_fault, open_fault}
use Rattle.rules.specs.Table.{Table}
use Rattle.rules.specs.Parse.{Parsed, bad, good, Parser, then, sound, missing, one, Ranges, range_of, count_of, parse_ranges, parse_options, parse_members, parse_shape, parse_body, parse_class}
use Rattle.rules.specs.Parse.{is_root, any_root, parse_roots, root_numbers, is_timed, has_uuid, parse_fragment, parse_opened, parse_fragments}
use Rattle.rules.specs.Parse.{parse_table, or_fault, parse}
use Rattle.rules.specs.Homes.{Walked, fault, walked, lost, walk}

-- Tests

abbrev To15 : ℕ → Type 0
To15 n = n ≤ 15

pick-15 : (b : Bool) (n m : ℕ) → To15 n → To15 m → To15 (pick b n m)
unfolding pick
pick-15 true n m h k = h
pick-15 false n m h k = k

fragment-15 : (q : Ids) (f : Fragment) (m : ℕ) → To15 m → To15 (fragment_fault q f m)
unfolding fragment_fault
fragment-15 q (preamble v) m h = omega arith
fragment-15 q (trace_class u x) m h = pick-15 _ 6 m (omega arith) h
fragment-15 q (clock_class i f) m h = pick-15 _ 7 m (omega arith) h
fragment-15 q (stream_class i c) m h = pick-15 _ 7 _ (omega arith) (pick-15 _ 8 m (omega arith) h)
fragment-15 q (event_class i j) m h = pick-15 _ 7 _ (omega arith) (pick-15 _ 8 m (omega arith) h)

record-15 : (short : Bool) (q : Ids) (r : Record) (m : ℕ) → To15 m → To15 (record_fault short q r m)
unfolding record_fault
record-15 short q unknown m h = omega arith
record-15 short q (fragment f) m h = pick-15 short 3 _ (omega arith) (fragment-15 q f m h)
record-15 short q (root r) m h = pick-15 short 3 m (omega arith) h
record-15 short q (class y) m h = pick-15 short 3 m (omega arith) h
record-15 short q (range g l i) m h = pick-15 short 3 m (omega arith) h
record-15 short q (option n) m h = pick-15 short 3 m (omega arith) h

first-15 : (short : Bool) (r : Record) → To15 (first_fault short r)
unfolding first_fault
first-15 short unknown = omega arith
first-15 short (fragment (preamble v)) = pick-15 short 3 _ (omega arith) (pick-15 _ 0 5 (omega arith) (omega arith))
first-15 short (fragment (trace_class u l)) = pick-15 short 3 4 (omega arith) (omega arith)
first-15 short (fragment (clock_class i f)) = pick-15 short 3 4 (omega arith) (omega arith)
first-15 short (fragment (stream_class i c)) = pick-15 short 3 4 (omega arith) (omega arith)
first-15 short (fragment (event_class i j)) = pick-15 short 3 4 (omega arith) (omega arith)
first-15 short (root r) = pick-15 short 3 4 (omega arith) (omega arith)
first-15 short (class y) = pick-15 short 3 4 (omega arith) (omega arith)
first-15 short (range g l h) = pick-15 short 3 4 (omega arith) (omega arith)
first-15 short (option n) = pick-15 short 3 4 (omega arith) (omega arith)

class-15 : (u : Under) (z : Spot) (deep : Bool) (r : Record) → To15 (class_fault u z deep r)
unfolding class_fault
class-15 u z deep unknown = omega arith
class-15 u z deep (fragment f) = omega arith
class-15 u z deep (root r) = omega arith
class-15 u z deep (range g l h) = omega arith
class-15 u z deep (option n) = omega arith
class-15 u z deep (class y) =
    pick-15 _ 9 _ (omega arith) (pick-15 _ 10 _ (omega arith) (pick-15 _ 11 _ (omega arith) (pick-15 _ 12 _ (omega arith) (pick-15 deep 14 0 (omega arith) (omega arith)))))

range-15 : (o : Option Sign) (rs : List Range) (r : Record) → To15 (range_fault o rs r)
unfolding range_fault
range-15 o rs unknown = omega arith
range-15 o rs (fragment f) = omega arith
range-15 o rs (root r) = omega arith
range-15 o rs (class y) = omega arith
range-15 o rs (option n) = omega arith
range-15 o rs (range g l h) = pick-15 _ 10 _ (omega arith) (pick-15 _ 13 0 (omega arith) (omega arith))

option-15 : (r : Record) → To15 (option_fault r)
unfolding option_fault
option-15 unknown = omega arith
option-15 (fragment f) = omega arith
option-15 (root r) = omega arith
option-15 (class y) = omega arith
option-15 (range g l h) = omega arith
option-15 (option n) = pick-15 _ 10 0 (omega arith) (omega arith)

root-15 : (r : Record) → To15 (root_fault r)
unfolding root_fault
root-15 unknown = omega arith
root-15 (fragment f) = omega arith
root-15 (root r) = pick-15 _ 9 10 (omega arith) (omega arith)
root-15 (class y) = omega arith
root-15 (range g l h) = omega arith
root-15 (option n) = omega arith

open-15 : (q : Ids) (r : Record) → To15 (open_fault q r)
unfolding open_fault
open-15 q unknown = omega arith
open-15 q (fragment (preamble v)) = omega arith
open-15 q (fragment (trace_class u l)) = pick-15 _ 10 0 (omega arith) (omega arith)
open-15 q (fragment (clock_class i f)) = pick-15 _ 10 _ (omega arith) (pick-15 _ 15 0 (omega arith) (omega arith))
open-15 q (fragment (stream_class i c)) = pick-15 _ 15 0 (omega arith) (omega arith)
open-15 q (fragment (event_class i j)) = pick-15 _ 15 0 (omega arith) (omega arith)
open-15 q (root r) = omega arith
open-15 q (class y) = omega arith
open-15 q (range g l h) = omega arith
open-15 q (option n) = omega arith

-- Parsers

abbrev Numbered : {A : Type 0} → Parsed A → Type 0
Numbered (bad n x) = (1 ≤ n) × (n ≤ 15)
Numbered (good a x) = Unit {0}

then-numbered : {A B : Type 0} (p : Parsed A) (f : A → Parser B) → Numbered p → ((a : A) (x : List ℕ) → Numbered (f a x)) → Numbered (then p f)
unfolding then
then-numbered (bad n x) f h k = h
then-numbered (good a x) f h k = k a x

sound-numbered : {A : Type 0} (n : ℕ) (x : List ℕ) (f : Parser A) → To15 n → ((y : List ℕ) → Numbered (f y)) → Numbered (sound n x f)
unfolding sound
sound-numbered zero x f h k = k (behind x)
sound-numbered (suc n) x f h k = omega arith

one-numbered : {A : Type 0} (q : Ids) (more : Record → ℕ) (f : Record → Parser A) (x : List ℕ) → ((r : Record) → To15 (more r)) → ((r : Record) (y : List ℕ) → Numbered (f r y))
    → Numbered (one q more f x)
unfolding one
one-numbered q more f x h k = sound-numbered _ x _ (pick-15 (missing x) 3 _ (omega arith) (record-15 _ q (record_of x) _ (h (record_of x)))) (λ y. k (record_of x) y)

ranges-numbered : (q : Ids) (earlier : List Range) (n : ℕ) (o : Option Sign) (x : List ℕ) → Numbered (parse_ranges q earlier n o x)
unfolding parse_ranges
ranges-numbered q earlier zero o x = tt
ranges-numbered q earlier (suc n) o x =
    one-numbered q _ _ x (range-15 o earlier) (λ r y. then-numbered (parse_ranges q earlier n (range_of r).0 y) _ (ranges-numbered q earlier n (range_of r).0 y) (λ p z. tt))

module _ (q : Ids) (f : Spot → Parser Class) (h : (z : Spot) (x : List ℕ) → Numbered (f z x)) where
  options-numbered : (n : ℕ) (p : Ranges) (x : List ℕ) → Numbered (parse_options q f n p x)
  unfolding parse_options
  options-numbered zero p x = tt
  options-numbered (suc n) p x =
      one-numbered q _ _ x option-15 (λ r y.
      then-numbered (parse_ranges q p.1 (count_of r) p.0 y) _ (ranges-numbered q p.1 (count_of r) p.0 y) (λ rs y.
      then-numbered (f inside y) _ (h inside y) (λ c y.
      then-numbered (parse_options q f n (rs.0, p.1 ++ rs.1) y) _ (options-numbered n (rs.0, p.1 ++ rs.1) y) (λ os y. tt))))

  members-numbered : (z : Spot) (n : ℕ) (x : List ℕ) → Numbered (parse_members f z n x)
  unfolding parse_members
  members-numbered z zero x = tt
  members-numbered z (suc n) x = then-numbered (f z x) _ (h z x) (λ c y. then-numbered (parse_members f inside n y) _ (members-numbered inside n y) (λ cs y. tt))

  shape-numbered : (z : Spot) (y : Says) (s : Shape) (x : List ℕ) → Numbered (parse_shape q f z y s x)
  unfolding parse_shape
  shape-numbered z y (bit_field k) x = tt
  shape-numbered z y leb_field x = tt
  shape-numbered z y signed_leb_field x = tt
  shape-numbered z y zero_string x = tt
  shape-numbered z y text x = tt
  shape-numbered z y blob x = tt
  shape-numbered z y text_of x = tt
  shape-numbered z y blob_of x = tt
  shape-numbered z y members x = then-numbered (parse_members f (member_spot z) y.count x) _ (members-numbered (member_spot z) y.count x) (λ cs v. tt)
  shape-numbered z y elements x = then-numbered (f inside x) _ (h inside x) (λ c v. tt)
  shape-numbered z y elements_of x = then-numbered (f inside x) _ (h inside x) (λ c v. tt)
  shape-numbered z y option? x =
      then-numbered (parse_ranges q [] y.count None x) _ (ranges-numbered q [] y.count None x) (λ p v. then-numbered (f inside v) _ (h inside v) (λ c w. tt))
  shape-numbered z y options x = then-numbered (parse_options q f y.count (None, []) x) _ (options-numbered y.count (None, []) x) (λ p v. tt)

  body-numbered : (z : Spot) (r : Record) (x : List ℕ) → Numbered (parse_body q f z r x)
  unfolding parse_body
  body-numbered z unknown x = omega arith
  body-numbered z (fragment g) x = omega arith
  body-numbered z (root r) x = omega arith
  body-numbered z (class y) x = shape-numbered z y y.shape x
  body-numbered z (range g l i) x = omega arith
  body-numbered z (option n) x = omega arith

class-numbered : (q : Ids) (u : Under) (left : ℕ) (z : Spot) (x : List ℕ) → Numbered (parse_class q u left z x)
unfolding parse_class
class-numbered q u zero z x = one-numbered q _ _ x (class-15 u z true) (λ r y. omega arith)
class-numbered q u (suc left) z x =
    one-numbered q _ _ x (class-15 u z false) (λ r y. body-numbered q (parse_class q u left) (λ s v. class-numbered q u left s v) z r y)

numbered-if : {A : Type 0} (b : Bool) (p r : Parsed A) → Numbered p → Numbered r → Numbered {A = A} (elim b [ true ↦ p | false ↦ r ])
numbered-if true p r h k = h
numbered-if false p r h k = k

roots-numbered : (q : Ids) (timed has : Bool) (ns : List ℕ) (x : List ℕ) → Numbered (parse_roots q timed has ns x)
unfolding parse_roots
roots-numbered q timed has [] x = numbered-if (not (missing x) && any_root (record_of x)) _ _ (one-numbered q _ _ x root-15 (λ r y. omega arith)) tt
roots-numbered q timed has (n ∷ ns) x =
    numbered-if (leb (size x) (length x) && is_root n (record_of x)) _ _
    (then-numbered (parse_class q (record { root = n; timed = timed; uuid = has }) depth_limit top (behind x)) _ (class-numbered q _ depth_limit top (behind x)) (λ c y.
    then-numbered (parse_roots q timed has ns y) _ (roots-numbered q timed has ns y) (λ cs y. tt)))
    (then-numbered (parse_roots q timed has ns x) _ (roots-numbered q timed has ns x) (λ cs y. tt))

opened-numbered : (q : Ids) (f : Ids → Parser Table) → ((s : Ids) (x : List ℕ) → Numbered (f s x)) → (r : Record) (x : List ℕ) → Numbered (parse_opened q f r x)
unfolding parse_opened parse_fragment
opened-numbered q f h unknown x = omega arith
opened-numbered q f h (fragment g) x =
    then-numbered (parse_roots (seen q g) (is_timed g) (has_uuid g) (root_numbers g) x) _ (roots-numbered (seen q g) (is_timed g) (has_uuid g) (root_numbers g) x) (λ cs y.
    then-numbered (f (seen q g) y) _ (h (seen q g) y) (λ t y. tt))
opened-numbered q f h (root r) x = omega arith
opened-numbered q f h (class y) x = omega arith
opened-numbered q f h (range g l i) x = omega arith
opened-numbered q f h (option n) x = omega arith

fragments-numbered : (left : ℕ) (q : Ids) (x : List ℕ) → Numbered (parse_fragments left q x)
unfolding parse_fragments
fragments-numbered zero q x = tt
fragments-numbered (suc left) q x =
    numbered-if (missing x) _ _ tt (one-numbered q _ _ x (open-15 q) (λ r y. opened-numbered q (parse_fragments left) (λ s v. fragments-numbered left s v) r y))

table-numbered : (x : List ℕ) → Numbered (parse_table x)
unfolding parse_table
table-numbered x =
    numbered-if (missing x || ltb table_limit (length x)) _ _ (omega arith)
    (sound-numbered _ x _ (first-15 _ (record_of x)) (λ y.
    then-numbered (parse_roots no_ids false false [] y) _ (roots-numbered no_ids false false [] y) (λ cs z. fragments-numbered (length z) no_ids z)))

-- 11 of a slot of two homes, or the parser's number
or-numbered : (o : Parsed Table) (w : Walked) → Numbered o → Numbered (or_fault o w)
unfolding or_fault
or-numbered (good t x) (fault y) h = omega arith
or-numbered (good t x) (walked hs y) h = tt
or-numbered (good t x) lost h = tt
or-numbered (bad n x) (walked hs y) h = h
or-numbered (bad n x) lost h = h
or-numbered (bad n x) (fault y) h =
    numbered-if (ltb (length x) (length y) || (eqb (length x) (length y) && ltb slot_not_allowed n)) _ _ (omega arith) h

all-numbered : (x : List ℕ) → Numbered (parse x)
unfolding parse
all-numbered x = or-numbered (parse_table x) (walk x) (table-numbered x)

pub refused-number : (x : List ℕ) (n : ℕ) (y : List ℕ) → parse x ≡ bad n y → (1 ≤ n) × (n ≤ 15)
refused-number x n y h = subst Numbered h (all-numbered x)
