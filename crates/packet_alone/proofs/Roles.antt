-- An accepted table has the role of the stream class id in packet headers alone (12 refuses others), so that no field behind a header
-- changes the stream class id that the header said. In order: roles of a class; what an accepted table's classes are, along the parse;
-- readings.
use Rattle.std.specs.Prelude.{Option, None, Some}
use Rattle.rules.specs.declared.ByteLength.{ByteLength}
use mathlib.Core.Path.{◌≡◌, refl, sym, ap, ◌∙◌, subst}
use Prim.Native.Nat.{ℕ, zero, suc, ◌+◌, ◌*◌, ◌^◌, ◌≤◌}
use native.Mathlib.Omega.{arith}
use mathlib.Core.List.{List, [], ◌∷◌, ◌++◌}
use mathlib.Core.Bool.{Bool, true, false, not, ◌&&◌, ◌||◌}
use lib.ListN.{length, get_or}
use lib.Dec.{ltb, leb, eqb}
use borrow.Author.Tests.{eqb-true}
use Rattle.rules.specs.declared.Order.{Order}
use Rattle.rules.specs.declared.Content.{Content}
use Rattle.rules.specs.declared.Content.TheVariants.{Unset, Flag, Unsigned, Signed}
use Rattle.rules.specs.declared.Leb.{Leb}
use Rattle.rules.specs.declared.Leb.TheVariants.{Value, Past, Large}
use Rattle.rules.specs.declared.Entry.{Entry}
use Rattle.rules.specs.declared.Refusal.{Refusal}
use Rattle.rules.specs.declared.Refusal.TheVariants.{OrderChanged, NoZeroByte, SlotUnset, SlotOfWrongSort, NotText}
use Rattle.rules.specs.declared.Refusal.TheVariants.{LengthTooLarge, SelectorInNoOption, WrongMagic, WrongUuid, ClockTooLarge}
use Rattle.rules.specs.declared.Stop.{Stop}
use Rattle.rules.specs.Verdict.{stop_at}
use Rattle.rules.specs.Bits.{bits}
use Rattle.rules.specs.Leb128.{leb_width, leb_unsigned, leb_signed}
use Rattle.rules.specs.Text.{text_length, zero_at}
use Rattle.rules.specs.Clock.{clock_after}
use Rattle.rules.specs.Slots.{slot_at}
use Rattle.rules.specs.Entry.{entry, clock_advanced}
use Rattle.rules.specs.Step.{State, Step, ◌⨾◌, refuse, refuse_at, check, due, listed, change, pass, with_slots, with_order, with_clock}
use Rattle.rules.specs.Step.{with_said}
use Rattle.rules.specs.Class.{Role, no_role, magic, stream_class_id, stream_id, uuid, total_length, content_length, clock, end_clock, discarded}
use Rattle.rules.specs.Class.{sequence, event_class_id}
use Rattle.rules.specs.Class.{Sort, kind_of, Sign, plain, signed as with_sign, any_holds, Class, fixed, leb128, signed_leb128}
use Rattle.rules.specs.Class.{string, static_string, static_blob, dynamic_string, dynamic_blob}
use Rattle.rules.specs.Class.{structure, static_array, dynamic_array, flagged, optional, variant, Classes, no_member, member, Options}
use Rattle.rules.specs.Class.{no_option, option as an_option, count, records}
use Rattle.rules.specs.Field.{Env, aligned, fit, field, store, new_clock, say, role, blob_role as role_of_bytes, from_slot, as_flag, as_number}
use Rattle.rules.specs.Field.{as_length, value_of, slot_of, ahead, bytes_at, read_fixed, read_leb, as_text, read_zero, read_text, read_blob, times}
use Rattle.rules.specs.Field.{forget, present, read, read_members, read_option}
use Rattle.rules.specs.Packet.{read_root}
use Rattle.rules.specs.Record.{Shape, bit_field, leb_field, signed_leb_field, zero_string, text, blob, text_of, blob_of, members, elements}
use Rattle.rules.specs.Record.{elements_of, option?, options, Says, Fragment, preamble, trace_class, clock_class, stream_class, event_class}
use Rattle.rules.specs.Record.{Record, unknown, fragment, root, class, range, option, record_of, behind, size}
use Rattle.rules.specs.Table.{StreamClass, EventClass, Table, asked, find_stream, find_event, Asked}
use Rattle.rules.specs.Parse.{Parsed, bad, good, Parser, then, sound, missing, one, Ranges, count_of, parse_ranges, parse_members}
use Rattle.rules.specs.Parse.{parse_options, selected, parse_shape, parse_body, parse_class, is_root, any_root, parse_roots, no_table, root_of}
use Rattle.rules.specs.Parse.{root_numbers, is_timed, has_uuid, add, parse_fragment, parse_opened, parse_fragments, parse_table, parse}
use Rattle.rules.specs.Faults.{pick, Ids, record_fault, Spot, top, inside, member_spot, Under, role_of, roles, number_role, blob_role, bad_role}
use Rattle.rules.specs.Faults.{bad_slot, bad_number, class_fault, is_top, option_fault, root_fault, open_fault, seen, first_fault, no_ids}
use Rattle.facts.proofs.Truth.{and_left}
use Rattle.facts.proofs.Faults.{pick-zero, pick-false}
use Rattle.facts.proofs.Parsed.{parse-table}
use Rattle.laws.proofs.Sound.{no-fault}
use Rattle.laws.proofs.Triple.{Triple, then as thenᵗ, passing, changing, refusing, refusing-at, checks, untested, untested-at, dued}

-- Classes whose numbers have no role of the stream class id

abbrev pub Other : Role → Type 0
Other r = r ≡ stream_class_id → ⊥

abbrev mutual
  pub Others : Class → Type 0
  Others (fixed k n o a i r) = Other r
  Others (leb128 i r) = Other r
  Others (signed_leb128 i) = Unit {0}
  Others string = Unit {0}
  Others (static_string n) = Unit {0}
  Others (static_blob n r) = Unit {0}
  Others (dynamic_string i) = Unit {0}
  Others (dynamic_blob i) = Unit {0}
  Others (structure a cs) = OtherMembers cs
  Others (static_array n a c) = Others c
  Others (dynamic_array i a c) = Others c
  Others (flagged i c) = Others c
  Others (optional i g rs c) = Others c
  Others (variant i g os) = OtherOptions os

  pub OtherMembers : Classes → Type 0
  OtherMembers no_member = Unit {0}
  OtherMembers (member c cs) = Others c × OtherMembers cs

  pub OtherOptions : Options → Type 0
  OtherOptions no_option = Unit {0}
  OtherOptions (an_option rs c os) = Others c × OtherOptions os

abbrev pub OtherRoot : Option Class → Type 0
OtherRoot None = Unit {0}
OtherRoot (Some c) = Others c

-- the roots that are read behind a header
pub record HeaderOnly (t : Asked) : Type 0 where
  pub context : (i : ℕ) (c : StreamClass) → t.stream i ≡ Some c → OtherRoot c.context
  pub header : (i : ℕ) (c : StreamClass) → t.stream i ≡ Some c → OtherRoot c.header
  pub common : (i : ℕ) (c : StreamClass) → t.stream i ≡ Some c → OtherRoot c.common
  pub specific : (i j : ℕ) (d : EventClass) → t.event i j ≡ Some d → OtherRoot d.specific
  pub payload : (i j : ℕ) (d : EventClass) → t.event i j ≡ Some d → OtherRoot d.payload

-- A sound record's role

not-id : (r : ℕ) → (r ≡ 0) → Other (role_of r)
unfolding role_of roles
not-id r p q = let z : no_role ≡ stream_class_id = sym (ap (λ x. get_or roles x no_role) p) ∙ q in let n : ◌≡◌ {A = ℕ} 0 1 = cc in omega arith

not-id-4 : (r : ℕ) → (r ≡ 4) → Other (role_of r)
unfolding role_of roles
not-id-4 r p q = let z : uuid ≡ stream_class_id = sym (ap (λ x. get_or roles x no_role) p) ∙ q in let n : ◌≡◌ {A = ℕ} 0 1 = cc in omega arith

-- "2 stream class id ... in root 0" (The class table)
role-in : (u : Under) (z : Spot) (y : Says) → bad_role u z y ≡ false → 1 ≤ u.root → Other (role_of y.role)
unfolding bad_role
role-in u z y h g = by (eqb y.kind 25) h
  where
    bytes : (a b : Bool) → eqb y.role 0 ≡ a → eqb y.role 4 && eqb u.root 0 && eqb y.count 16 && u.uuid ≡ b
        → not (a || b) ≡ false → Other (role_of y.role)
    bytes true b p q n = not-id y.role (eqb-true _ _ p)
    bytes false true p q n = not-id-4 y.role (eqb-true _ _ (and_left _ _ (and_left _ _ (and_left _ _ q))))
    bytes false false p q n = let w : ◌≡◌ {A = ℕ} 0 1 = cc in absurd (omega arith)

    number : not (number_role (role_of y.role) u z y) ≡ false → Other (role_of y.role)
    number n q = zero-root (eqb u.root 0) refl (subst (λ r. not (number_role r u z y) ≡ false) q n)
      where
        zero-root : (b : Bool) → eqb u.root 0 ≡ b → not (number_role stream_class_id u z y) ≡ false → ⊥
        zero-root true p n = let k : u.root ≡ 0 = eqb-true u.root 0 p in omega arith
        zero-root false p n = let k : not (eqb u.root 0) ≡ false = unfold number_role in n in
            let w : ◌≡◌ {A = ℕ} 0 1 = cc in omega arith

    by : (b : Bool) → elim b [ true ↦ not (blob_role u y) | false ↦ not (number_role (role_of y.role) u z y) ] ≡ false
        → Other (role_of y.role)
    by true n = bytes (eqb y.role 0) _ refl refl (unfold blob_role in n)
    by false n = number n

class-role : (u : Under) (z : Spot) (deep : Bool) (y : Says) → class_fault u z deep (class y) ≡ 0 → bad_role u z y ≡ false
unfolding class_fault
class-role u z deep y h = pick-false (bad_role u z y) 11 _ (pick-zero (bad_slot (ltb u.root 2) y) 10 _
    (pick-zero (bad_number y) 9 _ (pick-zero (is_top z && not (eqb y.kind 28)) 8 _ h)))

-- Along the parse

abbrev Yields : {A : Type 0} → (A → Type 0) → Parsed A → Type 0
Yields P (bad n x) = Unit {0}
Yields P (good a x) = P a

yields-then : {A B : Type 0} (P : A → Type 0) (Q : B → Type 0) (o : Parsed A) (F : A → Parser B) → Yields P o
    → ((a : A) (x : List ℕ) → P a → Yields Q (F a x)) → Yields Q (then o F)
unfolding then
yields-then P Q (bad n x) F h k = tt
yields-then P Q (good a x) F h k = k a x h

yields-one : {A : Type 0} (Q : A → Type 0) (q : Ids) (more : Record → ℕ) (f : Record → Parser A) (x : List ℕ)
    → ((r : Record) → more r ≡ 0 → Yields Q (f r (behind x))) → Yields Q (one q more f x)
unfolding one
yields-one Q q more f x h = by (pick (missing x) 3 (record_fault (ltb (length x) (size x)) q (record_of x) (more (record_of x)))) refl
  where
    by : (v : ℕ) → pick (missing x) 3 (record_fault (ltb (length x) (size x)) q (record_of x) (more (record_of x))) ≡ v
        → Yields Q (sound v x (f (record_of x)))
    by zero e = unfold sound in h (record_of x) (no-fault (missing x) (ltb (length x) (size x)) q (record_of x) (more (record_of x)) e).later
    by (suc v) e = unfold sound in tt

abbrev Whatever : {A : Type 0} → A → Type 0
Whatever a = Unit {0}

yields-any : {A : Type 0} (o : Parsed A) → Yields Whatever o
yields-any (bad n x) = tt
yields-any (good a x) = tt

module _ (f : Spot → Parser Class) (h : (z : Spot) (x : List ℕ) → Yields Others (f z x)) where
  yields-members : (n : ℕ) (z : Spot) (x : List ℕ) → Yields OtherMembers (parse_members f z n x)
  unfolding parse_members
  yields-members zero z x = tt
  yields-members (suc n) z x =
      yields-then Others _ (f z x) _ (h z x) (λ c y p.
      yields-then OtherMembers _ (parse_members f inside n y) _ (yields-members n inside y) (λ cs v q. (p, q)))

  yields-options : (q : Ids) (n : ℕ) (p : Ranges) (x : List ℕ) → Yields (λ os. OtherOptions os.1) (parse_options q f n p x)
  unfolding parse_options
  yields-options q zero p x = tt
  yields-options q (suc n) p x =
      yields-one _ q option_fault _ x (λ r e.
      yields-then Whatever _ (parse_ranges q p.1 (count_of r) p.0 (behind x)) _
      (yields-any (parse_ranges q p.1 (count_of r) p.0 (behind x))) (λ rs y u.
      yields-then Others _ (f inside y) _ (h inside y) (λ d y' fd.
      yields-then (λ os. OtherOptions os.1) _ (parse_options q f n (rs.0, p.1 ++ rs.1) y') _
      (yields-options q n (rs.0, p.1 ++ rs.1) y') (λ os y'' fo. (fd, fo)))))

  selected-others : (i : ℕ) (p : Ranges) (c : Class) → Others c → Others (selected i p c)
  unfolding selected
  selected-others i p c g = by p.0
    where
      by : (o : Option Sign) → Others (elim o [ None ↦ flagged i c | Some s ↦ optional i s p.1 c ])
      by None = g
      by (Some s) = g

  yields-shape : (q : Ids) (z : Spot) (y : Says) (s : Shape) (x : List ℕ) → Other (role_of y.role)
      → Yields Others (parse_shape q f z y s x)
  unfolding parse_shape
  yields-shape q z y (bit_field k) x r = r
  yields-shape q z y leb_field x r = r
  yields-shape q z y signed_leb_field x r = tt
  yields-shape q z y zero_string x r = tt
  yields-shape q z y text x r = tt
  yields-shape q z y blob x r = tt
  yields-shape q z y text_of x r = tt
  yields-shape q z y blob_of x r = tt
  yields-shape q z y members x r =
      yields-then OtherMembers _ (parse_members f (member_spot z) y.count x) _ (yields-members y.count (member_spot z) x) (λ cs x p. p)
  yields-shape q z y elements x r = yields-then Others _ (f inside x) _ (h inside x) (λ c x p. p)
  yields-shape q z y elements_of x r = yields-then Others _ (f inside x) _ (h inside x) (λ c x p. p)
  yields-shape q z y option? x r =
      yields-then Whatever _ (parse_ranges q [] y.count None x) _ (yields-any (parse_ranges q [] y.count None x)) (λ rs x u.
      yields-then Others _ (f inside x) _ (h inside x) (λ c x p. selected-others y.reads rs c p))
  yields-shape q z y options x r =
      yields-then (λ os. OtherOptions os.1) _ (parse_options q f y.count (None, []) x) _ (yields-options q y.count (None, []) x)
      (λ os x p. p)

yields-class : (q : Ids) (u : Under) → 1 ≤ u.root → (left : ℕ) (z : Spot) (x : List ℕ) → Yields Others (parse_class q u left z x)
unfolding parse_class
yields-class q u g zero z x = yields-one _ q _ _ x (λ r c. tt)
yields-class q u g (suc left) z x = yields-one _ q _ _ x (λ r c. body (λ z x. yields-class q u g left z x) r c)
  where
    body : ((z : Spot) (x : List ℕ) → Yields Others (parse_class q u left z x)) → (r : Record) → class_fault u z false r ≡ 0
        → Yields Others (parse_body q (parse_class q u left) z r (behind x))
    body rec unknown c = unfold parse_body in tt
    body rec (fragment h) c = unfold parse_body in tt
    body rec (root r) c = unfold parse_body in tt
    body rec (class y) c = unfold parse_body in
        yields-shape (parse_class q u left) rec q z y y.shape (behind x) (role-in u z y (class-role u z false y c) g)
    body rec (range s l h) c = unfold parse_body in tt
    body rec (option n) c = unfold parse_body in tt

-- the roots of some numbers, of which 0 is the packet header's
abbrev OtherRoots : List ℕ → List (Option Class) → Type 0
OtherRoots [] [] = Unit {0}
OtherRoots [] (c ∷ cs) = ⊥
OtherRoots (n ∷ ns) [] = Unit {0}
OtherRoots (n ∷ ns) (c ∷ cs) = (1 ≤ n → OtherRoot c) × OtherRoots ns cs

yields-header : (n : ℕ) (o : Parsed Class) → (1 ≤ n → Yields Others o) → Yields (λ c. 1 ≤ n → Others c) o
yields-header n (bad m x) h = tt
yields-header n (good c x) h = h

yields-roots : (q : Ids) (timed u? : Bool) (ns : List ℕ) (x : List ℕ) → Yields (OtherRoots ns) (parse_roots q timed u? ns x)
unfolding parse_roots
yields-roots q timed u? [] x = by (not (missing x) && any_root (record_of x))
  where
    by : (b : Bool) → Yields (OtherRoots []) (elim b [ true ↦ one q root_fault (λ r x. bad 9 x) x | false ↦ good [] x ])
    by true = yields-one _ q _ _ x (λ r c. tt)
    by false = tt
yields-roots q timed u? (n ∷ ns) x = by (leb (size x) (length x) && is_root n (record_of x)) (λ y. yields-roots q timed u? ns y)
  where
    by : (b : Bool) → ((y : List ℕ) → Yields (OtherRoots ns) (parse_roots q timed u? ns y)) → Yields (OtherRoots (n ∷ ns)) (elim b [
      | true ↦ then (parse_class q (record { root = n; timed = timed; uuid = u? }) 8 top (behind x)) λ c x. then
          (parse_roots q timed u? ns x) λ cs x. good (Some c ∷ cs) x
      | false ↦ then (parse_roots q timed u? ns x) λ cs x. good (None ∷ cs) x
    ])
    by true rec =
        yields-then (λ c. 1 ≤ n → Others c) _ (parse_class q (record { root = n; timed = timed; uuid = u? }) 8 top (behind x)) _
        (yields-header n (parse_class q (record { root = n; timed = timed; uuid = u? }) 8 top (behind x))
        (λ g. yields-class q (record { root = n; timed = timed; uuid = u? }) g 8 top (behind x))) (λ c y p.
        yields-then (OtherRoots ns) _ (parse_roots q timed u? ns y) _ (rec y) (λ cs y' p'. (p, p')))
    by false rec = yields-then (OtherRoots ns) _ (parse_roots q timed u? ns x) _ (rec x) (λ cs y' p'. ((λ g. tt), p'))

root-others : (ns : List ℕ) (cs : List (Option Class)) (i : ℕ) → OtherRoots ns cs → 1 ≤ get_or ns i 0 → OtherRoot (root_of cs i)
unfolding root_of
root-others [] [] i h g = tt
root-others [] (c ∷ cs) i h g = absurd h
root-others (n ∷ ns) [] i h g = tt
root-others (n ∷ ns) (c ∷ cs) zero h g = h.0 g
root-others (n ∷ ns) (c ∷ cs) (suc i) h g = root-others ns cs i h.1 g

-- Tables

abbrev OtherStream : StreamClass → Type 0
OtherStream c = OtherRoot c.context × OtherRoot c.header × OtherRoot c.common

abbrev OtherStreams : List StreamClass → Type 0
OtherStreams [] = Unit {0}
OtherStreams (c ∷ cs) = OtherStream c × OtherStreams cs

abbrev OtherEvent : EventClass → Type 0
OtherEvent d = OtherRoot d.specific × OtherRoot d.payload

abbrev OtherEvents : List EventClass → Type 0
OtherEvents [] = Unit {0}
OtherEvents (d ∷ ds) = OtherEvent d × OtherEvents ds

abbrev OtherTable : Table → Type 0
OtherTable t = OtherStreams t.streams × OtherEvents t.events

add-others : (g : Fragment) (cs : List (Option Class)) (t : Table) → OtherRoots (root_numbers g) cs → OtherTable t → OtherTable (add g cs t)
unfolding add root_numbers
add-others (preamble v) cs t h k = k
add-others (trace_class u l) cs t h k = k
add-others (clock_class i f) cs t h k = k
add-others (stream_class i c) cs t h k =
    let ns : List ℕ = 1 ∷ 2 ∷ 3 ∷ [] in
    (((root-others ns cs 0 h (omega arith), root-others ns cs 1 h (omega arith), root-others ns cs 2 h (omega arith)), k.0), k.1)
add-others (event_class i j) cs t h k =
    let ns : List ℕ = 4 ∷ 5 ∷ [] in
    (k.0, ((root-others ns cs 0 h (omega arith), root-others ns cs 1 h (omega arith)), k.1))

yields-fragments : (left : ℕ) (q : Ids) (x : List ℕ) → Yields OtherTable (parse_fragments left q x)
unfolding parse_fragments
yields-fragments zero q x = unfold no_table in (tt, tt)
yields-fragments (suc left) q x = by (missing x) (λ q x. yields-fragments left q x)
  where
    opened : ((q : Ids) (x : List ℕ) → Yields OtherTable (parse_fragments left q x)) → (r : Record)
        → Yields OtherTable (parse_opened q (parse_fragments left) r (behind x))
    opened rec unknown = unfold parse_opened in tt
    opened rec (fragment h) =
        unfold parse_opened parse_fragment in
        yields-then (OtherRoots (root_numbers h)) _ (parse_roots (seen q h) (is_timed h) (has_uuid h) (root_numbers h) (behind x)) _
        (yields-roots (seen q h) (is_timed h) (has_uuid h) (root_numbers h) (behind x)) (λ cs y p.
        yields-then OtherTable _ (parse_fragments left (seen q h) y) _ (rec (seen q h) y) (λ t y p'. add-others h cs t p p'))
    opened rec (root r) = unfold parse_opened in tt
    opened rec (class y) = unfold parse_opened in tt
    opened rec (range s l h) = unfold parse_opened in tt
    opened rec (option n) = unfold parse_opened in tt

    by : (b : Bool) → ((q : Ids) (x : List ℕ) → Yields OtherTable (parse_fragments left q x))
        → Yields OtherTable (elim b
        [ true ↦ good no_table x | false ↦ one q (open_fault q) (λ r x. parse_opened q (parse_fragments left) r x) x ])
    by true rec = unfold no_table in (tt, tt)
    by false rec = yields-one _ q _ _ x (λ r c. opened rec r)

yields-table : (x : List ℕ) → Yields OtherTable (parse_table x)
unfolding parse_table
yields-table x = by (missing x || ltb 65536 (length x))
  where
    rest : Parser Table
    rest x = then (parse_roots no_ids false false [] x) λ cs x. parse_fragments (length x) no_ids x

    first : (v : ℕ) → Yields OtherTable (sound v x rest)
    first zero = unfold sound in
        yields-then (OtherRoots []) _ (parse_roots no_ids false false [] (behind x)) _ (yields-roots no_ids false false [] (behind x))
        (λ cs y p. yields-fragments (length y) no_ids y)
    first (suc v) = unfold sound in tt

    by : (b : Bool) → Yields OtherTable
        (elim b [ true ↦ bad 1 x | false ↦ sound (first_fault (ltb (length x) (size x)) (record_of x)) x rest ])
    by true = tt
    by false = first (first_fault (ltb (length x) (size x)) (record_of x))

stream-others : (cs : List StreamClass) (i : ℕ) (c : StreamClass) → OtherStreams cs → find_stream cs i ≡ Some c → OtherStream c
unfolding find_stream
stream-others [] i c h p = let z : ◌≡◌ {A = ℕ} 0 1 = cc in absurd (omega arith)
stream-others (d ∷ cs) i c h p = by (eqb d.id i) p (λ q. stream-others cs i c h.1 q)
  where
    by : (b : Bool) → elim b [ true ↦ Some d | false ↦ find_stream cs i ] ≡ Some c → (find_stream cs i ≡ Some c → OtherStream c)
        → OtherStream c
    by true p r = let q : d ≡ c = cc in subst OtherStream q h.0
    by false p r = r p

event-others : (cs : List EventClass) (i j : ℕ) (c : EventClass) → OtherEvents cs → find_event cs i j ≡ Some c → OtherEvent c
unfolding find_event
event-others [] i j c h p = let z : ◌≡◌ {A = ℕ} 0 1 = cc in absurd (omega arith)
event-others (d ∷ cs) i j c h p = by (eqb d.stream i && eqb d.id j) p (λ q. event-others cs i j c h.1 q)
  where
    by : (b : Bool) → elim b [ true ↦ Some d | false ↦ find_event cs i j ] ≡ Some c → (find_event cs i j ≡ Some c → OtherEvent c)
        → OtherEvent c
    by true p r = let q : d ≡ c = cc in subst OtherEvent q h.0
    by false p r = r p

pub header-only : (x : List ℕ) (t : Table) (y : List ℕ) → parse x ≡ good t y → HeaderOnly (asked t)
unfolding asked
header-only x t y p =
    let f : OtherTable t = subst (Yields OtherTable) (parse-table x t y p) (yields-table x) in
    record {
      context = λ i c q. (stream-others t.streams i c f.0 q).0;
      header = λ i c q. (stream-others t.streams i c f.0 q).1;
      common = λ i c q. (stream-others t.streams i c f.0 q).2;
      specific = λ i j d q. (event-others t.events i j d f.1 q).0;
      payload = λ i j d q. (event-others t.events i j d f.1 q).1;
    }

-- Readings

abbrev AnyEntry : Entry → Type 0
AnyEntry x = Unit {0}

abbrev AnyStop : Stop → Type 0
AnyStop v = Unit {0}

abbrev AnyRefusal : Refusal → Type 0
AnyRefusal r = Unit {0}

not-no_role : Other no_role
not-no_role q = let z : ◌≡◌ {A = ℕ} 0 1 = cc in omega arith

-- the stream class id that was said is j, and stays
module _ (j : ℕ) where
  abbrev Said : State → Type 0
  Said s = s.said.stream ≡ j

  abbrev pub Keeps : Step → Type 0
  Keeps m = Triple AnyEntry AnyStop AnyRefusal Said m Said

  stops : (r : Refusal) → AnyRefusal r → (s : State) → Said s → AnyStop (stop_at r s.place)
  stops r i s h = tt

  infixr 20 ◌⨾ᵏ◌
  pub ◌⨾ᵏ◌ : {m n : Step} → Keeps m → Keeps n → Keeps (m ⨾ n)
  h ⨾ᵏ k = thenᵗ AnyEntry AnyStop AnyRefusal h k

  pub keeps-pass : Keeps pass
  keeps-pass = passing AnyEntry AnyStop AnyRefusal

  pub keeps-refuse : (r : Refusal) → Keeps (refuse r)
  keeps-refuse r = refusing AnyEntry AnyStop AnyRefusal stops r tt

  pub keeps-check : (t : State → Bool) (r : Refusal) → Keeps (check t r)
  keeps-check t r = checks AnyEntry AnyStop AnyRefusal stops t r tt

  pub keeps-change : (f : State → State) → ((s : State) → (f s).said.stream ≡ s.said.stream) → Keeps (change f)
  keeps-change f h = changing AnyEntry AnyStop AnyRefusal f (λ s a. h s ∙ a)

  keeps-field : (e : Env) (m k a n v : ℕ) → Keeps (field e m k a n v)
  unfolding field listed
  keeps-field e m k a n v = record { at = λ s h. ((tt, tt), h) }

  tested : (t : State → Bool) (r : Refusal) {m : Step} → Keeps m → Keeps (check t r ⨾ m)
  tested t r h = untested AnyEntry AnyStop AnyRefusal stops t r tt h

  pub keeps-due : {m : Step} → Keeps m → Keeps (due ⨾ m)
  keeps-due h = dued AnyEntry AnyStop AnyRefusal stops tt h

  fitted : (e : Env) (a n : ℕ) {m : Step} → Keeps m → Keeps (fit e a n ⨾ m)
  unfolding fit
  fitted e a n h = untested-at AnyEntry AnyStop AnyRefusal _ _ (λ s x. tt) _ h

  keeps-store : (i : ℕ) (x : Content) → Keeps (store i x)
  unfolding store with_slots
  keeps-store i x = keeps-change _ (λ s. refl)

  keeps-order : (o : Option Order) → Keeps (change (with_order o))
  unfolding with_order
  keeps-order o = keeps-change _ (λ s. refl)

  keeps-clock : (l : ℕ) (o : Option ℕ) → Keeps (new_clock l o)
  unfolding new_clock
  keeps-clock l None = keeps-refuse ClockTooLarge
  keeps-clock l (Some c) = shown ⨾ᵏ keeps-change (with_clock c) (λ s. unfold with_clock in refl)
    where
      shown : Keeps (λ s. listed (entry clock_advanced s.place l c 0) s.place s)
      shown = unfold listed in record { at = λ s h. ((tt, tt), h) }

  keeps-role : (r : Role) → Other r → (l v : ℕ) → Keeps (role r l v)
  unfolding role say with_said
  keeps-role no_role w l v = keeps-pass
  keeps-role magic w l v = keeps-check _ WrongMagic
  keeps-role stream_class_id w l v = absurd (w refl)
  keeps-role stream_id w l v = keeps-pass
  keeps-role uuid w l v = keeps-pass
  keeps-role total_length w l v = keeps-change _ (λ s. refl)
  keeps-role content_length w l v = keeps-change _ (λ s. refl)
  keeps-role clock w l v = keeps-due (record { at = λ s h. (keeps-clock l (clock_after s.clock l v)).at s h })
  keeps-role end_clock w l v = keeps-change _ (λ s. refl)
  keeps-role discarded w l v = keeps-pass
  keeps-role sequence w l v = keeps-pass
  keeps-role event_class_id w l v = keeps-change _ (λ s. refl)

  keeps-blob_role : (e : Env) (r : Role) (b : List ℕ) → Keeps (role_of_bytes e r b)
  unfolding role_of_bytes
  keeps-blob_role e no_role b = keeps-pass
  keeps-blob_role e magic b = keeps-pass
  keeps-blob_role e stream_class_id b = keeps-pass
  keeps-blob_role e stream_id b = keeps-pass
  keeps-blob_role e uuid b = keeps-check _ WrongUuid
  keeps-blob_role e total_length b = keeps-pass
  keeps-blob_role e content_length b = keeps-pass
  keeps-blob_role e clock b = keeps-pass
  keeps-blob_role e end_clock b = keeps-pass
  keeps-blob_role e discarded b = keeps-pass
  keeps-blob_role e sequence b = keeps-pass
  keeps-blob_role e event_class_id b = keeps-pass

  module _ (e : Env) where
    keeps-fixed : (m : ℕ) (k : Sort) (n : ℕ) (o : Order) (a i : ℕ) (r : Role) → Other r → Keeps (read_fixed e m k n o a i r)
    unfolding read_fixed
    keeps-fixed m k n o a i r w = keeps-due (fitted e a 0 (tested _ OrderChanged (fitted e a n (record {
      at = λ s h.
          (let v : ℕ = bits o e.bytes (aligned e a s).0 n in
          keeps-field e m (kind_of k) a n (value_of k n v) ⨾ᵏ keeps-order (Some o) ⨾ᵏ keeps-store i (slot_of k n v)
          ⨾ᵏ keeps-role r w n (value_of k n v)).at s h;
    }))))

    keeps-leb : (m k : ℕ) (c : ℕ → Content) (i : ℕ) (r : Role) → Other r → (x : Leb) → Keeps (read_leb e m k c i r x)
    unfolding read_leb refuse_at
    keeps-leb m k c i r w (Value v n) = keeps-field e m k 8 (8 * n.0) v ⨾ᵏ keeps-store i (c v) ⨾ᵏ keeps-role r w (leb_width n) v
    keeps-leb m k c i r w Past = refusing-at AnyEntry AnyStop AnyRefusal _ _ (λ s x. tt)
    keeps-leb m k c i r w Large = record { at = λ s h. (tt, tt) }

    keeps-as_text : (x : List ℕ) → Keeps (as_text x)
    unfolding as_text
    keeps-as_text x = keeps-check _ NotText

    keeps-zero : (m : ℕ) (x : Option ByteLength) → Keeps (read_zero e m x)
    unfolding read_zero
    keeps-zero m (Some n) =
        record { at = λ s h. (keeps-as_text (bytes_at e (aligned e 8 s) n.0)).at s h } ⨾ᵏ keeps-field e m 23 8 (8 * (n.0 + 1)) n.0
    keeps-zero m None = keeps-refuse NoZeroByte

    keeps-text : (m k n : ℕ) → Keeps (read_text e m k n)
    unfolding read_text
    keeps-text m k n = fitted e 8 0 (fitted e 8 (8 * n) (record {
      at = λ s h. let b = bytes_at e (aligned e 8 s) n in (keeps-as_text b ⨾ᵏ keeps-field e m k 8 (8 * n) (text_length b)).at s h;
    }))

    keeps-blob : (m k n : ℕ) (r : Role) → Keeps (read_blob e m k n r)
    unfolding read_blob
    keeps-blob m k n r = fitted e 8 0 (fitted e 8 (8 * n) (record {
      at = λ s h. (keeps-field e m k 8 (8 * n) n ⨾ᵏ keeps-blob_role e r (bytes_at e (aligned e 8 s) n)).at s h;
    }))

    keeps-slot : (i : ℕ) (f : Content → Step) → ((x : Content) → Keeps (f x)) → Keeps (from_slot i f)
    unfolding from_slot
    keeps-slot i f g = record { at = λ s h. (g (slot_at s.slots i)).at s h }

    keeps-flag : (x : Content) (f : Bool → Step) → ((b : Bool) → Keeps (f b)) → Keeps (as_flag x f)
    unfolding as_flag
    keeps-flag Unset f g = keeps-refuse SlotUnset
    keeps-flag (Flag b) f g = g b
    keeps-flag (Unsigned n) f g = keeps-refuse SlotOfWrongSort
    keeps-flag (Signed n) f g = keeps-refuse SlotOfWrongSort

    keeps-number : (s : Sign) (x : Content) (f : ℕ → Step) → ((n : ℕ) → Keeps (f n)) → Keeps (as_number s x f)
    unfolding as_number
    keeps-number s Unset f g = keeps-refuse SlotUnset
    keeps-number s (Flag b) f g = keeps-refuse SlotOfWrongSort
    keeps-number plain (Unsigned n) f g = g n
    keeps-number with_sign (Unsigned n) f g = keeps-refuse SlotOfWrongSort
    keeps-number plain (Signed n) f g = keeps-refuse SlotOfWrongSort
    keeps-number with_sign (Signed n) f g = g n

    keeps-length : (x : Content) (f : ℕ → Step) → ((n : ℕ) → Keeps (f n)) → Keeps (as_length x f)
    unfolding as_length
    keeps-length x f g = keeps-number plain x _ (λ n. tested _ LengthTooLarge (g n))

    keeps-times : (n : ℕ) {m : Step} → Keeps m → Keeps (times n m)
    unfolding times
    keeps-times zero g = keeps-pass
    keeps-times (suc n) g = g ⨾ᵏ keeps-times n g

    keeps-forget : (c : Class) → Keeps (forget c)
    unfolding forget with_slots
    keeps-forget c = keeps-change _ (λ s. refl)

    -- an element
    keeps-element : (c : Class) {m : Step} → Keeps m → Keeps (forget c ⨾ m ⨾ forget c)
    keeps-element c g = keeps-forget c ⨾ᵏ g ⨾ᵏ keeps-forget c

    keeps-present : (m : ℕ) (b : Bool) {f : Step} → Keeps f → Keeps (present e m b f)
    unfolding present
    keeps-present m true g = keeps-field e m 31 1 0 1 ⨾ᵏ g
    keeps-present m false g = keeps-field e m 31 1 0 0

    keeps-if : (b : Bool) {x y : Step} → Keeps x → Keeps y → Keeps (elim b [ true ↦ x | false ↦ y ])
    keeps-if true p q = p
    keeps-if false p q = q

    keeps-head : (m k a v : ℕ) {f : Step} → Keeps f → Keeps (fit e a 0 ⨾ field e m k a 0 v ⨾ f)
    keeps-head m k a v h = fitted e a 0 (keeps-field e m k a 0 v ⨾ᵏ h)

    mutual
      unfolding read read_members read_option

      keeps-read : (m : ℕ) (c : Class) → Others c → Keeps (read e m c)
      keeps-read m (fixed k n o a i r) w = keeps-fixed m k n o (2 ^ a) i r w
      keeps-read m (leb128 i r) w =
          keeps-due (fitted e 8 0 (record { at = λ s h. (keeps-leb m 21 Unsigned i r w (leb_unsigned (ahead e (aligned e 8 s)))).at s h }))
      keeps-read m (signed_leb128 i) w =
          keeps-due (fitted e 8 0
          (record { at = λ s h. (keeps-leb m 22 Signed i no_role not-no_role (leb_signed (ahead e (aligned e 8 s)))).at s h }))
      keeps-read m string w = keeps-due (fitted e 8 0 (record { at = λ s h. (keeps-zero m (zero_at (ahead e (aligned e 8 s)))).at s h }))
      keeps-read m (static_string n) w = keeps-due (keeps-text m 24 n)
      keeps-read m (static_blob n r) w = keeps-due (keeps-blob m 25 n r)
      keeps-read m (dynamic_string i) w = keeps-due (keeps-slot i _ (λ x. keeps-length x _ (λ n. keeps-text m 26 n)))
      keeps-read m (dynamic_blob i) w = keeps-due (keeps-slot i _ (λ x. keeps-length x _ (λ n. keeps-blob m 27 n no_role)))
      keeps-read m (structure a cs) w = keeps-due (keeps-head m 28 _ _ (keeps-members (m + 1) cs w))
      keeps-read m (static_array n a c) w =
          keeps-due (keeps-head m 29 _ _ (keeps-times n (keeps-element c (keeps-read (m + 1) c w))))
      keeps-read m (dynamic_array i a c) w =
          keeps-due (keeps-slot i _ (λ x. keeps-length x _ (λ n.
          keeps-head m 30 _ _ (keeps-times n (keeps-element c (keeps-read (m + 1) c w))))))
      keeps-read m (flagged i c) w =
          keeps-due (keeps-slot i _ (λ x. keeps-flag x _ (λ b. keeps-present m b (keeps-read (m + 1) c w))))
      keeps-read m (optional i g rs c) w =
          keeps-due (keeps-slot i _ (λ x. keeps-number g x _ (λ v.
          keeps-present m (any_holds g v rs) (keeps-read (m + 1 + length rs) c w))))
      keeps-read m (variant i g os) w =
          keeps-due (keeps-slot i _ (λ x. keeps-number g x _ (λ v. keeps-option m (m + 1) g v 0 os w)))

      keeps-members : (m : ℕ) (cs : Classes) → OtherMembers cs → Keeps (read_members e m cs)
      keeps-members m no_member w = keeps-pass
      keeps-members m (member c cs) w = keeps-read m c w.0 ⨾ᵏ keeps-members (m + records c) cs w.1

      keeps-option : (m j : ℕ) (g : Sign) (v k : ℕ) (os : Options) → OtherOptions os → Keeps (read_option e m j g v k os)
      keeps-option m j g v k no_option w = keeps-refuse SelectorInNoOption
      keeps-option m j g v k (an_option rs c os) w =
          keeps-if (any_holds g v rs) (keeps-field e m 32 1 0 k ⨾ᵏ keeps-read (j + 1 + length rs) c w.0)
          (keeps-option m (j + 1 + length rs + records c) g v (k + 1) os w.1)

    pub keeps-root : (m : ℕ) (c : Option Class) → OtherRoot c → Keeps (read_root e m c)
    unfolding read_root
    keeps-root m None w = keeps-pass
    keeps-root m (Some c) w = keeps-read m c w
