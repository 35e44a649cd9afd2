-- The records of an accepted table, along the parse: what is known of the bytes from a record on, which is the mth of its fragment, is
-- known of each record that the table's classes are made of. So M holds of the number and the kind of each class's record.
--
-- kind_by, InFragment      the kind of a class's record; a record that is none of a fragment's first
-- record-kind             a record's first byte is its kind
-- Walks                   what is known of the bytes, from a fragment's first record on: G of the mth, H of any
-- Numbering               a table's roots, whose classes' records are numbered from the fragment's first on
-- accepted-numbering      an accepted table's
use Rattle.std.specs.Prelude.{Option, None, Some}
use mathlib.Core.Path.{◌≡◌, refl, sym, ap, subst}
use Prim.Native.Nat.{ℕ, zero, suc, ◌+◌, ◌≤◌, ◌<◌}
use native.Mathlib.Omega.{arith}
use mathlib.Core.List.{List, [], ◌∷◌, ◌++◌}
use mathlib.Core.Bool.{Bool, true, false, not, ◌&&◌, ◌||◌}
use mathlib.Core.Logic.{⊎_elim}
use lib.ListN.{length, get_or, take, drop, get_or-eq_default}
use lib.Dec.{ltb, leb, eqb}
use borrow.Author.Tests.{eqb-true}
use Rattle.rules.specs.Limits.{table_limit, depth_limit, no_clock}
use Rattle.rules.specs.Class.{Sort, kind_of, Sign, Range, Class, Classes, Options, flagged, optional, option as an_option, records}
use Rattle.rules.specs.Class.{member_records, option_records}
use Rattle.rules.specs.Record.{Shape, bit_field, leb_field, signed_leb_field, zero_string, text, blob, text_of, blob_of, members, elements}
use Rattle.rules.specs.Record.{elements_of, option?, options, Says, u8, Layout, no, bits_layout, layouts, layout_of}
use Rattle.rules.specs.Record.{Fragment, preamble, trace_class, clock_class, stream_class, event_class}
use Rattle.rules.specs.Record.{Record, unknown, fragment, root, class, range, option, record_of, behind, size}
use Rattle.rules.specs.Table.{StreamClass, EventClass, Table, asked, find_stream, find_event, Asked}
use Rattle.rules.specs.Packet.{first_root, root_records, header_number, common_number, payload_number}
use Rattle.rules.specs.Parse.{Parsed, bad, good, Parser, then, sound, missing, one, Ranges, range_of, count_of, selected, the_sign}
use Rattle.rules.specs.Parse.{is_root, any_root, no_table, root_of, root_numbers, is_timed, has_uuid, add}
use Rattle.rules.specs.Parse.{parse_ranges, parse_members, parse_options, parse_shape, parse_body, parse_class, parse_roots}
use Rattle.rules.specs.Parse.{parse_fragment, parse_opened, parse_fragments, parse_table, parse}
use Rattle.rules.specs.Faults.{pick, Ids, no_ids, seen, Spot, top, inside, member_spot, Under, bad_size, kind_not_allowed, record_fault}
use Rattle.rules.specs.Faults.{class_fault, range_fault, option_fault, root_fault, open_fault, first_fault}
use Rattle.facts.proofs.Cases.{Each, ◌▷◌, below}
use Rattle.facts.proofs.Numbers.{lt-or-ge}
use Rattle.facts.proofs.Truth.{clash, and_left, and_right}
use Rattle.facts.proofs.Parsed.{parse-table}
use Rattle.laws.specs.Owner.{Owner, of_trace, of_stream, of_event, owner_of}
use Rattle.laws.proofs.Law.{Numbered, NumberedMembers, NumberedOptions, NumberedRoot}
use Rattle.laws.proofs.Sound.{no-fault}

-- Kinds

unfoldable pub kind_by : Shape → ℕ
kind_by (bit_field k) = kind_of k
kind_by leb_field = 21
kind_by signed_leb_field = 22
kind_by zero_string = 23
kind_by text = 24
kind_by blob = 25
kind_by text_of = 26
kind_by blob_of = 27
kind_by members = 28
kind_by elements = 29
kind_by elements_of = 30
kind_by option? = 31
kind_by options = 32

-- a root, a class, a range or an option
abbrev pub InFragment : Record → Type 0
InFragment unknown = ⊥
InFragment (fragment g) = ⊥
InFragment (root r) = Unit {0}
InFragment (class y) = Unit {0}
InFragment (range g l h) = Unit {0}
InFragment (option n) = Unit {0}

-- what a record tells of its kind
abbrev pub KindIs : ℕ → Record → Type 0
KindIs k unknown = Unit {0}
KindIs k (fragment g) = (1 ≤ k) × (k ≤ 5)
KindIs k (root r) = k ≡ 6
KindIs k (class y) = k ≡ kind_by y.shape
KindIs k (range g l h) = k ≡ 33
KindIs k (option n) = k ≡ 34

abbrev RowIs : ℕ → Type 0
RowIs k = (b : List ℕ) → KindIs k ((get_or layouts k no).1 b)

rows : Each RowIs 0 35
unfolding layouts no bits_layout kind_by kind_of
rows =
    (λ b. tt)
    ▷ (λ b. (omega arith, omega arith)) ▷ (λ b. (omega arith, omega arith)) ▷ (λ b. (omega arith, omega arith))
    ▷ (λ b. (omega arith, omega arith)) ▷ (λ b. (omega arith, omega arith)) ▷ (λ b. refl)
    ▷ (λ b. tt) ▷ (λ b. tt) ▷ (λ b. tt) ▷ (λ b. tt) ▷ (λ b. tt) ▷ (λ b. tt) ▷ (λ b. tt) ▷ (λ b. tt) ▷ (λ b. tt)
    ▷ (λ b. refl) ▷ (λ b. refl) ▷ (λ b. refl) ▷ (λ b. refl) ▷ (λ b. refl) ▷ (λ b. refl) ▷ (λ b. refl) ▷ (λ b. refl) ▷ (λ b. refl)
    ▷ (λ b. refl) ▷ (λ b. refl) ▷ (λ b. refl) ▷ (λ b. refl) ▷ (λ b. refl) ▷ (λ b. refl) ▷ (λ b. refl) ▷ (λ b. refl) ▷ (λ b. refl)
    ▷ (λ b. refl)
    ▷ tt

pub record-kind : (x : List ℕ) → KindIs (u8 x 0) (record_of x)
unfolding record_of layout_of
record-kind x = ⊎_elim
    (λ (l : u8 x 0 < 35). below RowIs 35 rows (u8 x 0) l _)
    (λ (l : 35 ≤ u8 x 0). let e : get_or layouts (u8 x 0) no ≡ no = unfold layouts in get_or-eq_default layouts no l in None e)
    (lt-or-ge (u8 x 0) 35)
  where
    None : get_or layouts (u8 x 0) no ≡ no
        → KindIs (u8 x 0) ((get_or layouts (u8 x 0) no).1 (take (get_or layouts (u8 x 0) no).0 (drop 1 x)))
    None e = rw e (unfold no in tt)

-- What is known of the bytes from a record on: G of the mth of an owner's, H of any
pub record Walks (M : Owner → ℕ → ℕ → Type 0) (G : Owner → ℕ → List ℕ → Type 0) (H : List ℕ → Type 0) : Type 0 where
  -- a fragment's first record is followed by its number 1
  pub opens : (x : List ℕ) (g : Fragment) → H x → record_of x ≡ fragment g → G (owner_of g) 1 (behind x)
  pub on : (o : Owner) (m : ℕ) (x : List ℕ) → G o m x → InFragment (record_of x) → G o (m + 1) (behind x)
  pub over : (o : Owner) (m : ℕ) (x : List ℕ) → G o m x → H x
  pub tells : (o : Owner) (m : ℕ) (x : List ℕ) (y : Says) → G o m x → record_of x ≡ class y → M o m (kind_by y.shape)

-- a table's roots
pub record Numbering (M : Owner → ℕ → ℕ → Type 0) (t : Asked) : Type 0 where
  pub packet : NumberedRoot (M of_trace) first_root t.header
  pub context : (i : ℕ) (c : StreamClass) → t.stream i ≡ Some c → NumberedRoot (M (of_stream i)) first_root c.context
  pub header : (i : ℕ) (c : StreamClass) → t.stream i ≡ Some c → NumberedRoot (M (of_stream i)) (header_number c) c.header
  pub common : (i : ℕ) (c : StreamClass) → t.stream i ≡ Some c → NumberedRoot (M (of_stream i)) (common_number c) c.common
  pub specific : (i j : ℕ) (d : EventClass) → t.event i j ≡ Some d → NumberedRoot (M (of_event i j)) first_root d.specific
  pub payload : (i j : ℕ) (d : EventClass) → t.event i j ≡ Some d → NumberedRoot (M (of_event i j)) (payload_number d) d.payload

-- What a parser yields: P of what it reads and of the bytes behind it

abbrev Yields : {A : Type 0} → (A → List ℕ → Type 0) → Parsed A → Type 0
Yields P (bad n x) = Unit {0}
Yields P (good a x) = P a x

yields-then : {A B : Type 0} (P : A → List ℕ → Type 0) (Q : B → List ℕ → Type 0) (o : Parsed A) (F : A → Parser B) → Yields P o
    → ((a : A) (x : List ℕ) → P a x → Yields Q (F a x)) → Yields Q (then o F)
unfolding then
yields-then P Q (bad n x) F h k = tt
yields-then P Q (good a x) F h k = k a x h

yields-one : {A : Type 0} (Q : A → List ℕ → Type 0) (q : Ids) (more : Record → ℕ) (f : Record → Parser A) (x : List ℕ)
    → ((r : Record) → record_of x ≡ r → more r ≡ 0 → Yields Q (f r (behind x))) → Yields Q (one q more f x)
unfolding one
yields-one Q q more f x h = by (pick (missing x) 3 (record_fault (ltb (length x) (size x)) q (record_of x) (more (record_of x)))) refl
  where
    by : (v : ℕ) → pick (missing x) 3 (record_fault (ltb (length x) (size x)) q (record_of x) (more (record_of x))) ≡ v
        → Yields Q (sound v x (f (record_of x)))
    by zero e =
        unfold sound in
        h (record_of x) refl (no-fault (missing x) (ltb (length x) (size x)) q (record_of x) (more (record_of x)) e).later
    by (suc v) e = unfold sound in tt

-- the first record is a fragment's
no-first : (short : Bool) → pick short 3 4 ≡ 0 → ⊥
unfolding pick
no-first true h = omega arith
no-first false h = omega arith

root_in : (n : ℕ) (r : Record) → is_root n r ≡ true → InFragment r
unfolding is_root
root_in n unknown h = clash h
root_in n (fragment g) h = clash h
root_in n (root r) h = tt
root_in n (class y) h = tt
root_in n (range g l k) h = tt
root_in n (option m) h = tt

module _ {M : Owner → ℕ → ℕ → Type 0} {G : Owner → ℕ → List ℕ → Type 0} {H : List ℕ → Type 0} (w : Walks M G H) where
  module _ (o : Owner) where
    at : (a b : ℕ) (x : List ℕ) → a ≡ b → G o a x → G o b x
    at a b x e g = subst (λ n. G o n x) e g

    next : (m : ℕ) (x : List ℕ) (r : Record) → G o m x → record_of x ≡ r → InFragment r → G o (m + 1) (behind x)
    next m x r g e i = w.on o m x g (subst InFragment (sym e) i)

    -- ranges, one record each; none has no sign
    abbrev SomeRanges : ℕ → Option Sign → Ranges → List ℕ → Type 0
    SomeRanges m s p y = G o (m + length p.1) y × (p.0 ≡ None → (s ≡ None) × (length p.1 ≡ 0))

    yields-ranges : (q : Ids) (earlier : List Range) (n : ℕ) (s : Option Sign) (m : ℕ) (x : List ℕ) → G o m x
        → Yields (SomeRanges m s) (parse_ranges q earlier n s x)
    unfolding parse_ranges
    yields-ranges q earlier zero s m x g = (at m (m + 0) x (omega arith) g, λ e. (e, refl))
    yields-ranges q earlier (suc n) s m x g = yields-one _ q _ _ x (body (λ s m x g. yields-ranges q earlier n s m x g))
      where
        body : ((s : Option Sign) (m : ℕ) (x : List ℕ) → G o m x → Yields (SomeRanges m s) (parse_ranges q earlier n s x))
            → (r : Record) → record_of x ≡ r → range_fault s earlier r ≡ 0
            → Yields (SomeRanges m s)
            (then (parse_ranges q earlier n (range_of r).0 (behind x)) λ p x. good (p.0, (range_of r).1 ++ p.1) x)
        body rec unknown e c = unfold range_fault in absurd (omega arith)
        body rec (fragment h) e c = unfold range_fault in absurd (omega arith)
        body rec (root r) e c = unfold range_fault in absurd (omega arith)
        body rec (class y) e c = unfold range_fault in absurd (omega arith)
        body rec (option k) e c = unfold range_fault in absurd (omega arith)
        body rec (range h l k) e c =
            let s' = (range_of (range h l k)).0 in
            yields-then (SomeRanges (m + 1) s') _ (parse_ranges q earlier n s' (behind x)) _ (rec s' (m + 1) (behind x) (next m x _ g e tt))
            (λ p y z. unfold range_of in (
              at (m + 1 + length p.1) (m + suc (length p.1)) y (omega arith) z.0,
              λ d. let u : ◌≡◌ {A = ℕ} 0 1 = let v = (z.1 d).0 in cc in absurd (omega arith),
            ))

    -- a class, and the bytes behind it
    abbrev Counted : ℕ → Class → List ℕ → Type 0
    Counted m c y = Numbered (M o) m c × G o (m + records c) y

    module _ (f : Spot → Parser Class) (h : (z : Spot) (m : ℕ) (x : List ℕ) → G o m x → Yields (Counted m) (f z x)) where
      abbrev Members : ℕ → Classes → List ℕ → Type 0
      Members m cs y = NumberedMembers (M o) m cs × G o (m + member_records cs) y

      abbrev OptionsFrom : ℕ → Option Sign × Options → List ℕ → Type 0
      OptionsFrom m os y = NumberedOptions (M o) m os.1 × G o (m + option_records os.1) y

      yields-members : (n : ℕ) (z : Spot) (m : ℕ) (x : List ℕ) → G o m x → Yields (Members m) (parse_members f z n x)
      unfolding parse_members member_records
      yields-members zero z m x g = (tt, at m (m + 0) x (omega arith) g)
      yields-members (suc n) z m x g =
          yields-then (Counted m) _ (f z x) _ (h z m x g) (λ c y p.
          yields-then (Members (m + records c)) _ (parse_members f inside n y) _
          (yields-members n inside (m + records c) y p.1) (λ cs v k.
          ((p.0, k.0), at (m + records c + member_records cs) (m + (records c + member_records cs)) v (omega arith) k.1)))

      yields-options : (q : Ids) (n : ℕ) (p : Ranges) (m : ℕ) (x : List ℕ) → G o m x → Yields (OptionsFrom m) (parse_options q f n p x)
      unfolding parse_options option_records
      yields-options q zero p m x g = (tt, at m (m + 0) x (omega arith) g)
      yields-options q (suc n) p m x g = yields-one _ q _ _ x (body (λ p m x g. yields-options q n p m x g))
        where
          body : ((p : Ranges) (m : ℕ) (x : List ℕ) → G o m x → Yields (OptionsFrom m) (parse_options q f n p x))
              → (r : Record) → record_of x ≡ r → option_fault r ≡ 0
              → Yields (OptionsFrom m) (then (parse_ranges q p.1 (count_of r) p.0 (behind x)) λ rs x.
              then (f inside x) λ c x.
              then (parse_options q f n (rs.0, p.1 ++ rs.1) x) λ os x. good (os.0, an_option rs.1 c os.1) x)
          body rec unknown e c = unfold option_fault in absurd (omega arith)
          body rec (fragment k) e c = unfold option_fault in absurd (omega arith)
          body rec (root r) e c = unfold option_fault in absurd (omega arith)
          body rec (class y) e c = unfold option_fault in absurd (omega arith)
          body rec (range k l u) e c = unfold option_fault in absurd (omega arith)
          body rec (option k) e c =
              let ranges = yields-ranges q p.1 (count_of (option k)) p.0 (m + 1) (behind x) (next m x _ g e tt) in
              yields-then (SomeRanges (m + 1) p.0) _ (parse_ranges q p.1 (count_of (option k)) p.0 (behind x)) _ ranges (λ rs y u.
              let j : ℕ = m + 1 + length rs.1 in
              yields-then (Counted j) _ (f inside y) _ (h inside j y u.0) (λ d y' v.
              let later = rec (rs.0, p.1 ++ rs.1) (j + records d) y' v.1 in
              yields-then (OptionsFrom (j + records d)) _ (parse_options q f n (rs.0, p.1 ++ rs.1) y') _ later (λ os y'' t. (
                (v.0, t.0),
                at (j + records d + option_records os.1) (m + (1 + length rs.1 + records d + option_records os.1)) y'' (omega arith)
                    t.1,
              ))))

      selected-counted : (m i : ℕ) (p : Ranges) (c : Class) (y : List ℕ) → M o m 31 → (p.0 ≡ None → length p.1 ≡ 0)
          → Counted (m + 1 + length p.1) c y → Counted m (selected i p c) y
      unfolding selected records
      selected-counted m i p c y k e g = by p.0 refl
        where
          by : (s : Option Sign) → p.0 ≡ s → Counted m (elim s [ None ↦ flagged i c | Some s ↦ optional i s p.1 c ]) y
          by None q =
              let z : m + 1 + length p.1 ≡ m + 1 = omega (arith, e q) in (
                (k, subst (λ n. Numbered (M o) n c) z g.0),
                at (m + 1 + length p.1 + records c) (m + (1 + records c)) y (omega (arith, e q)) g.1,
              )
          by (Some s) q =
              ((k, g.0), at (m + 1 + length p.1 + records c) (m + (1 + length p.1 + records c)) y (omega arith) g.1)

      -- behind the record of its own
      yields-shape : (q : Ids) (z : Spot) (y : Says) (s : Shape) (m : ℕ) (x : List ℕ) → M o m (kind_by s) → G o (m + 1) x
          → Yields (Counted m) (parse_shape q f z y s x)
      unfolding parse_shape kind_by records
      yields-shape q z y (bit_field k) m x n g = (n, g)
      yields-shape q z y leb_field m x n g = (n, g)
      yields-shape q z y signed_leb_field m x n g = (n, g)
      yields-shape q z y zero_string m x n g = (n, g)
      yields-shape q z y text m x n g = (n, g)
      yields-shape q z y blob m x n g = (n, g)
      yields-shape q z y text_of m x n g = (n, g)
      yields-shape q z y blob_of m x n g = (n, g)
      yields-shape q z y members m x n g =
          yields-then (Members (m + 1)) _ (parse_members f (member_spot z) y.count x) _
          (yields-members y.count (member_spot z) (m + 1) x g) (λ cs v p.
          ((n, p.0), at (m + 1 + member_records cs) (m + (1 + member_records cs)) v (omega arith) p.1))
      yields-shape q z y elements m x n g =
          yields-then (Counted (m + 1)) _ (f inside x) _ (h inside (m + 1) x g) (λ c v p.
          ((n, p.0), at (m + 1 + records c) (m + (1 + records c)) v (omega arith) p.1))
      yields-shape q z y elements_of m x n g =
          yields-then (Counted (m + 1)) _ (f inside x) _ (h inside (m + 1) x g) (λ c v p.
          ((n, p.0), at (m + 1 + records c) (m + (1 + records c)) v (omega arith) p.1))
      yields-shape q z y option? m x n g =
          yields-then (SomeRanges (m + 1) None) _ (parse_ranges q [] y.count None x) _ (yields-ranges q [] y.count None (m + 1) x g)
          (λ rs v u.
          yields-then (Counted (m + 1 + length rs.1)) _ (f inside v) _ (h inside (m + 1 + length rs.1) v u.0) (λ c v' p.
          selected-counted m y.reads rs c v' n (λ e. (u.1 e).1) p))
      yields-shape q z y options m x n g =
          yields-then (OptionsFrom (m + 1)) _ (parse_options q f y.count (None, []) x) _
          (yields-options q y.count (None, []) (m + 1) x g)
          (λ os v p. ((n, p.0), at (m + 1 + option_records os.1) (m + (1 + option_records os.1)) v (omega arith) p.1))

    yields-class : (q : Ids) (u : Under) (left : ℕ) (z : Spot) (m : ℕ) (x : List ℕ) → G o m x → Yields (Counted m) (parse_class q u left z x)
    unfolding parse_class
    yields-class q u zero z m x g = yields-one _ q _ _ x (λ r e c. tt)
    yields-class q u (suc left) z m x g = yields-one _ q _ _ x (λ r e c. body (λ z m x g. yields-class q u left z m x g) r e)
      where
        body : ((z : Spot) (m : ℕ) (x : List ℕ) → G o m x → Yields (Counted m) (parse_class q u left z x))
            → (r : Record) → record_of x ≡ r → Yields (Counted m) (parse_body q (parse_class q u left) z r (behind x))
        body rec unknown e = unfold parse_body in tt
        body rec (fragment h) e = unfold parse_body in tt
        body rec (root r) e = unfold parse_body in tt
        body rec (class y) e =
            unfold parse_body in
            yields-shape (parse_class q u left) rec q z y y.shape m (behind x) (w.tells o m x y g e) (next m x _ g e tt)
        body rec (range s l h) e = unfold parse_body in tt
        body rec (option n) e = unfold parse_body in tt

    -- roots, the first one's record being number m
    abbrev Rooted : ℕ → List (Option Class) → Type 0
    Rooted m [] = Unit {0}
    Rooted m (c ∷ cs) = NumberedRoot (M o) (m + 1) c × Rooted (m + root_records c) cs

    abbrev RootsFrom : ℕ → List (Option Class) → List ℕ → Type 0
    RootsFrom m cs y = Rooted m cs × H y

    yields-roots : (q : Ids) (timed u? : Bool) (ns : List ℕ) (m : ℕ) (x : List ℕ) → G o m x
        → Yields (RootsFrom m) (parse_roots q timed u? ns x)
    unfolding parse_roots root_records
    yields-roots q timed u? [] m x g = by (not (missing x) && any_root (record_of x))
      where
        by : (b : Bool) → Yields (RootsFrom m) (elim b [ true ↦ one q root_fault (λ r x. bad kind_not_allowed x) x | false ↦ good [] x ])
        by true = yields-one _ q _ _ x (λ r e c. tt)
        by false = (tt, w.over o m x g)
    yields-roots q timed u? (n ∷ ns) m x g =
        by (leb (size x) (length x) && is_root n (record_of x)) refl (λ m y k. yields-roots q timed u? ns m y k)
      where
        this : Parsed Class
        this = parse_class q (record { root = n; timed = timed; uuid = u? }) depth_limit top (behind x)

        by : (b : Bool) → leb (size x) (length x) && is_root n (record_of x) ≡ b
            → ((m : ℕ) (y : List ℕ) → G o m y → Yields (RootsFrom m) (parse_roots q timed u? ns y)) → Yields (RootsFrom m) (elim b [
              | true ↦ then this λ c x. then (parse_roots q timed u? ns x) λ cs x. good (Some c ∷ cs) x
              | false ↦ then (parse_roots q timed u? ns x) λ cs x. good (None ∷ cs) x
            ])
        by true e rec =
            let i = root_in n (record_of x) (and_right (leb (size x) (length x)) (is_root n (record_of x)) e) in
            yields-then (Counted (m + 1)) _ this _ (yields-class q _ depth_limit top (m + 1) (behind x) (w.on o m x g i)) (λ c y p.
            let r = at (m + 1 + records c) (m + (1 + records c)) y (omega arith) p.1 in
            yields-then (RootsFrom (m + (1 + records c))) _ (parse_roots q timed u? ns y) _ (rec (m + (1 + records c)) y r) (λ cs y' p'.
            ((p.0, p'.0), p'.1)))
        by false e rec =
            yields-then (RootsFrom (m + 0)) _ (parse_roots q timed u? ns x) _ (rec (m + 0) x (at m (m + 0) x (omega arith) g)) (λ cs y p.
            ((tt, p.0), p.1))

  -- Tables

  abbrev OfStream : StreamClass → Type 0
  OfStream c =
      NumberedRoot (M (of_stream c.id)) first_root c.context
      × NumberedRoot (M (of_stream c.id)) (header_number c) c.header
      × NumberedRoot (M (of_stream c.id)) (common_number c) c.common

  abbrev OfStreams : List StreamClass → Type 0
  OfStreams [] = Unit {0}
  OfStreams (c ∷ cs) = OfStream c × OfStreams cs

  abbrev OfEvent : EventClass → Type 0
  OfEvent d =
      NumberedRoot (M (of_event d.stream d.id)) first_root d.specific
      × NumberedRoot (M (of_event d.stream d.id)) (payload_number d) d.payload

  abbrev OfEvents : List EventClass → Type 0
  OfEvents [] = Unit {0}
  OfEvents (d ∷ ds) = OfEvent d × OfEvents ds

  record OfTable (t : Table) : Type 0 where
    header : NumberedRoot (M of_trace) first_root t.header
    streams : OfStreams t.streams
    events : OfEvents t.events

  -- a root behind others
  moved : (o : Owner) (m n : ℕ) (c : Option Class) → m ≡ n → NumberedRoot (M o) m c → NumberedRoot (M o) n c
  moved o m n c e h = subst (λ k. NumberedRoot (M o) k c) e h

  trace-numbered : (cs : List (Option Class)) → Rooted of_trace 1 cs → NumberedRoot (M of_trace) first_root (root_of cs 0)
  unfolding root_of
  trace-numbered [] h = tt
  trace-numbered (c ∷ cs) h = h.0

  stream-numbered : (i : ℕ) (timed : Bool) (cs : List (Option Class)) → Rooted (of_stream i) 1 cs
      → OfStream (record { id = i; timed = timed; context = root_of cs 0; header = root_of cs 1; common = root_of cs 2 })
  unfolding root_of
  stream-numbered i timed [] h = (tt, tt, tt)
  stream-numbered i timed (a ∷ []) h = (h.0, tt, tt)
  stream-numbered i timed (a ∷ b ∷ []) h =
      (h.0, moved (of_stream i) (1 + root_records a + 1) (2 + root_records a) b (omega arith) h.1.0, tt)
  stream-numbered i timed (a ∷ b ∷ c ∷ cs) h = (
    h.0,
    moved (of_stream i) (1 + root_records a + 1) (2 + root_records a) b (omega arith) h.1.0,
    moved (of_stream i) (1 + root_records a + root_records b + 1) (2 + root_records a + root_records b) c (omega arith) h.1.1.0,
  )

  event-numbered : (i j : ℕ) (cs : List (Option Class)) → Rooted (of_event i j) 1 cs
      → OfEvent (record { stream = i; id = j; specific = root_of cs 0; payload = root_of cs 1 })
  unfolding root_of
  event-numbered i j [] h = (tt, tt)
  event-numbered i j (a ∷ []) h = (h.0, tt)
  event-numbered i j (a ∷ b ∷ cs) h =
      (h.0, moved (of_event i j) (1 + root_records a + 1) (2 + root_records a) b (omega arith) h.1.0)

  add-numbered : (g : Fragment) (cs : List (Option Class)) (t : Table) → Rooted (owner_of g) 1 cs → OfTable t → OfTable (add g cs t)
  unfolding add owner_of
  add-numbered (preamble v) cs t h k = k
  add-numbered (trace_class u l) cs t h k = record { header = trace-numbered cs h; streams = k.streams; events = k.events }
  add-numbered (clock_class i f) cs t h k = k
  add-numbered (stream_class i c) cs t h k =
      record { header = k.header; streams = (stream-numbered i (not (eqb c no_clock)) cs h, k.streams); events = k.events }
  add-numbered (event_class i j) cs t h k =
      record { header = k.header; streams = k.streams; events = (event-numbered i j cs h, k.events) }

  abbrev Tables : Table → List ℕ → Type 0
  Tables t y = OfTable t

  yields-fragments : (left : ℕ) (q : Ids) (x : List ℕ) → H x → Yields Tables (parse_fragments left q x)
  unfolding parse_fragments
  yields-fragments zero q x g = unfold no_table in record { header = tt; streams = tt; events = tt }
  yields-fragments (suc left) q x g = by (missing x) (λ q x g. yields-fragments left q x g)
    where
      opened : ((q : Ids) (x : List ℕ) → H x → Yields Tables (parse_fragments left q x))
          → (r : Record) → record_of x ≡ r → Yields Tables (parse_opened q (parse_fragments left) r (behind x))
      opened rec unknown e = unfold parse_opened in tt
      opened rec (fragment h) e =
          unfold parse_opened parse_fragment in
          let roots = yields-roots (owner_of h) (seen q h) (is_timed h) (has_uuid h) (root_numbers h) 1 (behind x) (w.opens x h g e) in
          yields-then (RootsFrom (owner_of h) 1) _ (parse_roots (seen q h) (is_timed h) (has_uuid h) (root_numbers h) (behind x)) _ roots
          (λ cs y p.
          yields-then Tables _ (parse_fragments left (seen q h) y) _ (rec (seen q h) y p.1) (λ t y p'. add-numbered h cs t p.0 p'))
      opened rec (root r) e = unfold parse_opened in tt
      opened rec (class y) e = unfold parse_opened in tt
      opened rec (range s l h) e = unfold parse_opened in tt
      opened rec (option n) e = unfold parse_opened in tt

      by : (b : Bool) → ((q : Ids) (x : List ℕ) → H x → Yields Tables (parse_fragments left q x))
          → Yields Tables (elim b [
            | true ↦ good no_table x
            | false ↦ one q (open_fault q) (λ r x. parse_opened q (parse_fragments left) r x) x
          ])
      by true rec = unfold no_table in record { header = tt; streams = tt; events = tt }
      by false rec = yields-one _ q _ _ x (λ r e c. opened rec r e)

  -- the preamble
  yields-table : (x : List ℕ) → H x → Yields Tables (parse_table x)
  unfolding parse_table
  yields-table x g = by (missing x || ltb table_limit (length x))
    where
      rest : Parser Table
      rest x = then (parse_roots no_ids false false [] x) λ cs x. parse_fragments (length x) no_ids x

      first : (r : Record) → record_of x ≡ r → first_fault (ltb (length x) (size x)) r ≡ 0 → Yields Tables (rest (behind x))
      first unknown e c = unfold first_fault in absurd (omega arith)
      first (fragment h) e c =
          let none = yields-roots (owner_of h) no_ids false false [] 1 (behind x) (w.opens x h g e) in
          yields-then (RootsFrom (owner_of h) 1) _ (parse_roots no_ids false false [] (behind x)) _ none
          (λ cs y p. yields-fragments (length y) no_ids y p.1)
      first (root r) e c = absurd (no-first (ltb (length x) (size x)) (unfold first_fault in c))
      first (class y) e c = absurd (no-first (ltb (length x) (size x)) (unfold first_fault in c))
      first (range s l h) e c = absurd (no-first (ltb (length x) (size x)) (unfold first_fault in c))
      first (option n) e c = absurd (no-first (ltb (length x) (size x)) (unfold first_fault in c))

      by-fault : (v : ℕ) → first_fault (ltb (length x) (size x)) (record_of x) ≡ v → Yields Tables (sound v x rest)
      by-fault zero e = unfold sound in first (record_of x) refl e
      by-fault (suc v) e = unfold sound in tt

      by : (b : Bool)
          → Yields Tables (elim b [ true ↦ bad bad_size x | false ↦ sound (first_fault (ltb (length x) (size x)) (record_of x)) x rest ])
      by true = tt
      by false = by-fault (first_fault (ltb (length x) (size x)) (record_of x)) refl

  found-stream : (cs : List StreamClass) (i : ℕ) (c : StreamClass) → OfStreams cs → find_stream cs i ≡ Some c → OfStream c × (c.id ≡ i)
  unfolding find_stream
  found-stream [] i c h p = let z : ◌≡◌ {A = ℕ} 0 1 = cc in absurd (omega arith)
  found-stream (d ∷ cs) i c h p = by (eqb d.id i) refl p (λ q. found-stream cs i c h.1 q)
    where
      by : (b : Bool) → eqb d.id i ≡ b → elim b [ true ↦ Some d | false ↦ find_stream cs i ] ≡ Some c
          → (find_stream cs i ≡ Some c → OfStream c × (c.id ≡ i)) → OfStream c × (c.id ≡ i)
      by true e p r = let q : d ≡ c = cc in (subst OfStream q h.0, subst (λ z. z.id ≡ i) q (eqb-true d.id i e))
      by false e p r = r p

  found-event : (cs : List EventClass) (i j : ℕ) (c : EventClass) → OfEvents cs → find_event cs i j ≡ Some c
      → OfEvent c × (c.stream ≡ i) × (c.id ≡ j)
  unfolding find_event
  found-event [] i j c h p = let z : ◌≡◌ {A = ℕ} 0 1 = cc in absurd (omega arith)
  found-event (d ∷ cs) i j c h p = by (eqb d.stream i && eqb d.id j) refl p (λ q. found-event cs i j c h.1 q)
    where
      by : (b : Bool) → eqb d.stream i && eqb d.id j ≡ b → elim b [ true ↦ Some d | false ↦ find_event cs i j ] ≡ Some c
          → (find_event cs i j ≡ Some c → OfEvent c × (c.stream ≡ i) × (c.id ≡ j)) → OfEvent c × (c.stream ≡ i) × (c.id ≡ j)
      by true e p r =
          let q : d ≡ c = cc in (
            subst OfEvent q h.0,
            subst (λ z. z.stream ≡ i) q (eqb-true d.stream i (and_left (eqb d.stream i) (eqb d.id j) e)),
            subst (λ z. z.id ≡ j) q (eqb-true d.id j (and_right (eqb d.stream i) (eqb d.id j) e)),
          )
      by false e p r = r p

  pub accepted-numbering : (x : List ℕ) (t : Table) (y : List ℕ) → H x → parse x ≡ good t y → Numbering M (asked t)
  unfolding asked
  accepted-numbering x t y g p =
      let f : OfTable t = subst (Yields Tables) (parse-table x t y p) (yields-table x g) in
      record {
        packet = f.header;
        context = λ i c q. let z = found-stream t.streams i c f.streams q in
            subst (λ n. NumberedRoot (M (of_stream n)) first_root c.context) z.1 z.0.0;
        header = λ i c q. let z = found-stream t.streams i c f.streams q in
            subst (λ n. NumberedRoot (M (of_stream n)) (header_number c) c.header) z.1 z.0.1;
        common = λ i c q. let z = found-stream t.streams i c f.streams q in
            subst (λ n. NumberedRoot (M (of_stream n)) (common_number c) c.common) z.1 z.0.2;
        specific = λ i j d q. let z = found-event t.events i j d f.events q in
            subst (λ n. NumberedRoot (M (of_event n j)) first_root d.specific) z.1
            (subst (λ n. NumberedRoot (M (of_event d.stream n)) first_root d.specific) z.2 z.0.0);
        payload = λ i j d q. let z = found-event t.events i j d f.events q in
            subst (λ n. NumberedRoot (M (of_event n j)) (payload_number d) d.payload) z.1
            (subst (λ n. NumberedRoot (M (of_event d.stream n)) (payload_number d) d.payload) z.2 z.0.1);
      }
