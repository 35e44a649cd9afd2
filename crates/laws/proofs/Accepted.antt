-- What an accepted table's classes are: lengths of 1 to 64 bits, slots that their roots may set, and numbers that their bytes can say.
-- It goes along the parse: what sound records tell holds of the classes that are made of them.
use Rattle.std.specs.Prelude.{Option, None, Some}
use mathlib.Core.Path.{◌≡◌, refl, subst}
use Prim.Native.Nat.{ℕ, zero, suc, ◌+◌, ◌-◌, ◌≤◌, ◌<◌}
use native.Mathlib.Omega.{arith}
use mathlib.Core.List.{List, [], ◌∷◌, ◌++◌}
use mathlib.Core.Bool.{Bool, true, false, not, ◌&&◌, ◌||◌}
use mathlib.Core.Logic.{◌⊎◌, inl, inr}
use lib.ListN.{length, get_or}
use lib.Dec.{ltb, leb, eqb}
use borrow.Author.Tests.{ltb-true, ltb-false, lt-ltb, le-ltb, not-false}
use Rattle.rules.specs.Limits.{slot_count, packet_slot_count, no_slot}
use Rattle.rules.specs.Class.{Sign, Range, Class, Classes, Options, flagged, optional, count}
use Rattle.rules.specs.Record.{Shape, bit_field, leb_field, signed_leb_field, zero_string, text, blob, text_of, blob_of, members, elements}
use Rattle.rules.specs.Record.{elements_of, option?, options, Says}
use Rattle.rules.specs.Record.{Fragment, preamble, trace_class, clock_class, stream_class, event_class}
use Rattle.rules.specs.Record.{Record, unknown, fragment, root, class, range, option, record_of, behind, size}
use Rattle.rules.specs.Table.{StreamClass, EventClass, Table, asked, find_stream, find_event, Asked}
use Rattle.rules.specs.Parse.{Parsed, bad, good, Parser, then, sound, missing, one, Ranges, range_of, count_of, selected}
use Rattle.rules.specs.Parse.{is_root, any_root, no_table, root_of, root_numbers, is_timed, has_uuid, add}
use Rattle.rules.specs.Parse.{parse_ranges, parse_members, parse_options, parse_shape, parse_body, parse_class, parse_roots}
use Rattle.rules.specs.Parse.{parse_fragment, parse_opened, parse_fragments, parse_table, parse}
use Rattle.rules.specs.Faults.{pick, Ids, no_ids, seen, Spot, top, inside, member_spot, Under, out, bad_number, bad_slot, is_top}
use Rattle.rules.specs.Faults.{record_fault, class_fault, option_fault, root_fault, open_fault, first_fault}
use Rattle.facts.proofs.Truth.{or-false, or-true}
use Rattle.facts.proofs.Faults.{pick-zero, pick-false}
use Rattle.facts.proofs.Parsed.{parse-table}
use Rattle.laws.proofs.Law.{Fits, FitMembers, FitOptions, FitRoot}
use Rattle.laws.proofs.Sound.{no-fault}
use Rattle.laws.proofs.SlotIn.{SetUnder, slot-in}

-- a sound class's length is 1 to 64
bits_in : (y : Says) → bad_number y ≡ false → (1 ≤ y.length) × (y.length ≤ 64)
unfolding bad_number out
bits_in y h =
    let h₆ = (or-false _ _ (or-false _ _ (or-false _ _ h).0).0).0 in
    let h₃ = (or-false _ _ (or-false _ _ (or-false _ _ h₆).0).0).0 in
    let h₀ = (or-false _ _ (or-false _ _ (or-false _ _ h₃).0).0).0 in
    let length = or-false (ltb y.length 1) (ltb 64 y.length) h₀ in
    (ltb-false y.length 1 length.0, ltb-false 64 y.length length.1)

class-bits : (u : Under) (z : Spot) (deep : Bool) (y : Says) → class_fault u z deep (class y) ≡ 0 → bad_number y ≡ false
unfolding class_fault
class-bits u z deep y h = pick-false (bad_number y) 9 _ (pick-zero (is_top z && not (eqb y.kind 28)) 8 _ h)

class-slot : (u : Under) (z : Spot) (deep : Bool) (y : Says) → class_fault u z deep (class y) ≡ 0 → bad_slot (ltb u.root 2) y ≡ false
unfolding class_fault
class-slot u z deep y h =
    let k = pick-zero (is_top z && not (eqb y.kind 28)) 8 _ h in
    pick-false (bad_slot (ltb u.root 2) y) 10 _ (pick-zero (bad_number y) 9 _ k)

-- a table whose classes fit; S is asked of the slots that a root's fields set, by the root
pub record Fitting (N : ℕ → Type 0) (S : ℕ → ℕ → Type 0) (W : ℕ → Type 0) (t : Asked) : Type 0 where
  pub header : FitRoot N (S 0) W t.header
  pub context : (i : ℕ) (c : StreamClass) → t.stream i ≡ Some c → FitRoot N (S 1) W c.context
  pub events : (i : ℕ) (c : StreamClass) → t.stream i ≡ Some c → FitRoot N (S 2) W c.header × FitRoot N (S 3) W c.common
  pub event : (i j : ℕ) (d : EventClass) → t.event i j ≡ Some d → FitRoot N (S 4) W d.specific × FitRoot N (S 5) W d.payload

-- what sound records tell of their numbers, where G is known of the bytes
pub record Tells (N : ℕ → Type 0) (S : ℕ → ℕ → Type 0) (W : ℕ → Type 0) (G : List ℕ → Type 0) : Type 0 where
  pub bits : (n : ℕ) → 1 ≤ n → n ≤ 64 → N n
  pub slots : (r i : ℕ) → SetUnder r i → S r i
  pub values : (x : List ℕ) (y : Says) → G x → record_of x ≡ class y → (k : ℕ) → k ≤ y.count → W k
  pub on : (x : List ℕ) → G x → G (behind x)

module _ {N : ℕ → Type 0} {S : ℕ → ℕ → Type 0} {W : ℕ → Type 0} {G : List ℕ → Type 0} (tells : Tells N S W G) where
  -- what a parser yields: of what it reads, and of the bytes behind it
  abbrev pub Yields : {A : Type 0} → (A → Type 0) → Parsed A → Type 0
  Yields P (bad n x) = Unit {0}
  Yields P (good a x) = P a × G x

  yields-then : {A B : Type 0} (P : A → Type 0) (Q : B → Type 0) (o : Parsed A) (F : A → Parser B) → Yields P o
      → ((a : A) (x : List ℕ) → P a → G x → Yields Q (F a x)) → Yields Q (then o F)
  unfolding then
  yields-then P Q (bad n x) F h k = tt
  yields-then P Q (good a x) F h k = k a x h.0 h.1

  yields-one : {A : Type 0} (Q : A → Type 0) (q : Ids) (more : Record → ℕ) (f : Record → Parser A) (x : List ℕ) → G x
      → ((r : Record) → record_of x ≡ r → more r ≡ 0 → Yields Q (f r (behind x))) → Yields Q (one q more f x)
  unfolding one
  yields-one Q q more f x g h = by (pick (missing x) 3 (record_fault (ltb (length x) (size x)) q (record_of x) (more (record_of x)))) refl
    where
      by : (v : ℕ) → pick (missing x) 3 (record_fault (ltb (length x) (size x)) q (record_of x) (more (record_of x))) ≡ v
          → Yields Q (sound v x (f (record_of x)))
      by zero e =
          unfold sound in
          h (record_of x) refl (no-fault (missing x) (ltb (length x) (size x)) q (record_of x) (more (record_of x)) e).later
      by (suc v) e = unfold sound in tt

  -- ranges are asked nothing
  abbrev AnyRanges : Ranges → Type 0
  AnyRanges p = Unit {0}

  yields-ranges : (q : Ids) (earlier : List Range) (n : ℕ) (o : Option Sign) (x : List ℕ) → G x
      → Yields AnyRanges (parse_ranges q earlier n o x)
  unfolding parse_ranges
  yields-ranges q earlier zero o x g = (tt, g)
  yields-ranges q earlier (suc n) o x g =
      yields-one _ q _ _ x g (λ r e c.
      let s = (range_of r).0 in
      let h = yields-ranges q earlier n s (behind x) (tells.on x g) in
      yields-then AnyRanges _ (parse_ranges q earlier n s (behind x)) _ h (λ p y u v. (tt, v)))

  module _ (r : ℕ) (f : Spot → Parser Class) (h : (z : Spot) (x : List ℕ) → G x → Yields (Fits N (S r) W) (f z x)) where
    -- n members, and options from number k on
    abbrev Members : ℕ → Classes → Type 0
    Members n cs = FitMembers N (S r) W cs × (count cs ≡ n)

    abbrev OptionsFrom : ℕ → Option Sign × Options → Type 0
    OptionsFrom k os = FitOptions N (S r) W os.1 k

    yields-members : (n : ℕ) (z : Spot) (x : List ℕ) → G x → Yields (Members n) (parse_members f z n x)
    unfolding parse_members count
    yields-members zero z x g = ((tt, refl), g)
    yields-members (suc n) z x g =
        yields-then (Fits N (S r) W) _ (f z x) _ (h z x g) (λ c y p k.
        yields-then (Members n) _ (parse_members f inside n y) _ (yields-members n inside y k) (λ cs v q j.
        let e : count cs ≡ n = q.1 in (((p, q.0), omega arith), j)))

    yields-options : (q : Ids) (n k : ℕ) (p : Ranges) (x : List ℕ) → ((j : ℕ) → j < k + n → W j) → G x
        → Yields (OptionsFrom k) (parse_options q f n p x)
    unfolding parse_options
    yields-options q zero k p x w g = (tt, g)
    yields-options q (suc n) k p x w g =
        yields-one _ q option_fault _ x g (λ r' e c.
        let ranges = yields-ranges q p.1 (count_of r') p.0 (behind x) (tells.on x g) in
        yields-then AnyRanges _ (parse_ranges q p.1 (count_of r') p.0 (behind x)) _ ranges (λ rs y u v.
        yields-then (Fits N (S r) W) _ (f inside y) _ (h inside y v) (λ d y' fd v'.
        let later = yields-options q n (k + 1) (rs.0, p.1 ++ rs.1) y' (λ j l. w j (omega arith)) v' in
        yields-then (OptionsFrom (k + 1)) _ (parse_options q f n (rs.0, p.1 ++ rs.1) y') _ later (λ os y'' fo v''.
        ((w k (omega arith), fd, fo), v'')))))

    selected-fits : (i : ℕ) (p : Ranges) (c : Class) → Fits N (S r) W c → Fits N (S r) W (selected i p c)
    unfolding selected
    selected-fits i p c g = by p.0
      where
        by : (o : Option Sign) → Fits N (S r) W (elim o [ None ↦ flagged i c | Some s ↦ optional i s p.1 c ])
        by None = g
        by (Some s) = g

    yields-shape : (q : Ids) (z : Spot) (y : Says) (s : Shape) (x : List ℕ) → N y.length → S r y.sets
        → ((k : ℕ) → k ≤ y.count → W k) → G x → Yields (Fits N (S r) W) (parse_shape q f z y s x)
    unfolding parse_shape
    yields-shape q z y (bit_field k) x n i w g = ((n, i), g)
    yields-shape q z y leb_field x n i w g = (i, g)
    yields-shape q z y signed_leb_field x n i w g = (i, g)
    yields-shape q z y zero_string x n i w g = (tt, g)
    yields-shape q z y text x n i w g = (tt, g)
    yields-shape q z y blob x n i w g = (tt, g)
    yields-shape q z y text_of x n i w g = (tt, g)
    yields-shape q z y blob_of x n i w g = (tt, g)
    yields-shape q z y members x n i w g =
        let all = yields-members y.count (member_spot z) x g in
        yields-then (Members y.count) _ (parse_members f (member_spot z) y.count x) _ all (λ cs x p g.
        let e : count cs ≡ y.count = p.1 in ((w (count cs) (omega arith), p.0), g))
    yields-shape q z y elements x n i w g =
        yields-then (Fits N (S r) W) _ (f inside x) _ (h inside x g) (λ c x p g. ((w y.count (omega arith), p), g))
    yields-shape q z y elements_of x n i w g = yields-then (Fits N (S r) W) _ (f inside x) _ (h inside x g) (λ c x p g. (p, g))
    yields-shape q z y option? x n i w g =
        yields-then AnyRanges _ (parse_ranges q [] y.count None x) _ (yields-ranges q [] y.count None x g) (λ rs x u g.
        yields-then (Fits N (S r) W) _ (f inside x) _ (h inside x g) (λ c x p g. (selected-fits y.reads rs c p, g)))
    yields-shape q z y options x n i w g =
        let all = yields-options q y.count 0 (None, []) x (λ j l. w j (omega arith)) g in
        yields-then (OptionsFrom 0) _ (parse_options q f y.count (None, []) x) _ all (λ os x p g. (p, g))

  yields-class : (q : Ids) (u : Under) (left : ℕ) (z : Spot) (x : List ℕ) → G x → Yields (Fits N (S u.root) W) (parse_class q u left z x)
  unfolding parse_class
  yields-class q u zero z x g = yields-one _ q _ _ x g (λ r e c. tt)
  yields-class q u (suc left) z x g = yields-one _ q _ _ x g (λ r e c. body (λ z x g. yields-class q u left z x g) r e c)
    where
      body : ((z : Spot) (x : List ℕ) → G x → Yields (Fits N (S u.root) W) (parse_class q u left z x))
          → (r : Record) → record_of x ≡ r → class_fault u z false r ≡ 0
          → Yields (Fits N (S u.root) W) (parse_body q (parse_class q u left) z r (behind x))
      body rec unknown e c = unfold parse_body in tt
      body rec (fragment h) e c = unfold parse_body in tt
      body rec (root r) e c = unfold parse_body in tt
      body rec (class y) e c =
          unfold parse_body in
          let b = bits_in y (class-bits u z false y c) in
          let i = tells.slots u.root y.sets (slot-in u.root y (class-slot u z false y c)) in
          yields-shape u.root (parse_class q u left) rec q z y y.shape (behind x) (tells.bits y.length b.0 b.1) i
          (tells.values x y g e) (tells.on x g)
      body rec (range s l h) e c = unfold parse_body in tt
      body rec (option n) e c = unfold parse_body in tt

  -- the roots of some numbers
  abbrev pub FitRoots : List ℕ → List (Option Class) → Type 0
  FitRoots [] [] = Unit {0}
  FitRoots [] (c ∷ cs) = ⊥
  FitRoots (n ∷ ns) [] = Unit {0}
  FitRoots (n ∷ ns) (c ∷ cs) = FitRoot N (S n) W c × FitRoots ns cs

  pub yields-roots : (q : Ids) (timed u? : Bool) (ns : List ℕ) (x : List ℕ) → G x → Yields (FitRoots ns) (parse_roots q timed u? ns x)
  unfolding parse_roots
  yields-roots q timed u? [] x g = by (not (missing x) && any_root (record_of x))
    where
      by : (b : Bool) → Yields (FitRoots []) (elim b [ true ↦ one q root_fault (λ r x. bad 9 x) x | false ↦ good [] x ])
      by true = yields-one _ q _ _ x g (λ r e c. tt)
      by false = (tt, g)
  yields-roots q timed u? (n ∷ ns) x g = by (leb (size x) (length x) && is_root n (record_of x)) (λ y k. yields-roots q timed u? ns y k)
    where
      this : Parsed Class
      this = parse_class q (record { root = n; timed = timed; uuid = u? }) 8 top (behind x)

      by : (b : Bool) → ((y : List ℕ) → G y → Yields (FitRoots ns) (parse_roots q timed u? ns y)) → Yields (FitRoots (n ∷ ns)) (elim b [
        | true ↦ then this λ c x. then (parse_roots q timed u? ns x) λ cs x. good (Some c ∷ cs) x
        | false ↦ then (parse_roots q timed u? ns x) λ cs x. good (None ∷ cs) x
      ])
      by true rec =
          yields-then (Fits N (S n) W) _ this _ (yields-class q _ 8 top (behind x) (tells.on x g)) (λ c y p k.
          yields-then (FitRoots ns) _ (parse_roots q timed u? ns y) _ (rec y k) (λ cs y' p' k'. ((p, p'), k')))
      by false rec = yields-then (FitRoots ns) _ (parse_roots q timed u? ns x) _ (rec x g) (λ cs y' p' k'. ((tt, p'), k'))

  root-fits : (ns : List ℕ) (cs : List (Option Class)) (i : ℕ) → FitRoots ns cs → FitRoot N (S (get_or ns i 0)) W (root_of cs i)
  unfolding root_of
  root-fits [] [] i h = tt
  root-fits [] (c ∷ cs) i h = absurd h
  root-fits (n ∷ ns) [] i h = tt
  root-fits (n ∷ ns) (c ∷ cs) zero h = h.0
  root-fits (n ∷ ns) (c ∷ cs) (suc i) h = root-fits ns cs i h.1

  -- tables

  abbrev FitStream : StreamClass → Type 0
  FitStream c = FitRoot N (S 1) W c.context × FitRoot N (S 2) W c.header × FitRoot N (S 3) W c.common

  abbrev FitStreams : List StreamClass → Type 0
  FitStreams [] = Unit {0}
  FitStreams (c ∷ cs) = FitStream c × FitStreams cs

  abbrev FitEvent : EventClass → Type 0
  FitEvent d = FitRoot N (S 4) W d.specific × FitRoot N (S 5) W d.payload

  abbrev FitEvents : List EventClass → Type 0
  FitEvents [] = Unit {0}
  FitEvents (d ∷ ds) = FitEvent d × FitEvents ds

  record FitTable (t : Table) : Type 0 where
    header : FitRoot N (S 0) W t.header
    streams : FitStreams t.streams
    events : FitEvents t.events

  add-fits : (g : Fragment) (cs : List (Option Class)) (t : Table) → FitRoots (root_numbers g) cs → FitTable t → FitTable (add g cs t)
  unfolding add root_numbers
  add-fits (preamble v) cs t h k = k
  add-fits (trace_class u l) cs t h k = record { header = root-fits (0 ∷ []) cs 0 h; streams = k.streams; events = k.events }
  add-fits (clock_class i f) cs t h k = k
  add-fits (stream_class i c) cs t h k =
      let context = root-fits (1 ∷ 2 ∷ 3 ∷ []) cs 0 h in
      let header = root-fits (1 ∷ 2 ∷ 3 ∷ []) cs 1 h in
      let common = root-fits (1 ∷ 2 ∷ 3 ∷ []) cs 2 h in
      record { header = k.header; streams = ((context, header, common), k.streams); events = k.events }
  add-fits (event_class i j) cs t h k =
      let specific = root-fits (4 ∷ 5 ∷ []) cs 0 h in
      let payload = root-fits (4 ∷ 5 ∷ []) cs 1 h in
      record { header = k.header; streams = k.streams; events = ((specific, payload), k.events) }

  yields-fragments : (left : ℕ) (q : Ids) (x : List ℕ) → G x → Yields FitTable (parse_fragments left q x)
  unfolding parse_fragments
  yields-fragments zero q x g = (unfold no_table in record { header = tt; streams = tt; events = tt }, g)
  yields-fragments (suc left) q x g = by (missing x) (λ q x g. yields-fragments left q x g)
    where
      opened : ((q : Ids) (x : List ℕ) → G x → Yields FitTable (parse_fragments left q x))
          → (r : Record) → Yields FitTable (parse_opened q (parse_fragments left) r (behind x))
      opened rec unknown = unfold parse_opened in tt
      opened rec (fragment h) =
          unfold parse_opened parse_fragment in
          let roots = yields-roots (seen q h) (is_timed h) (has_uuid h) (root_numbers h) (behind x) (tells.on x g) in
          yields-then (FitRoots (root_numbers h)) _ (parse_roots (seen q h) (is_timed h) (has_uuid h) (root_numbers h) (behind x)) _ roots
          (λ cs y p k.
          yields-then FitTable _ (parse_fragments left (seen q h) y) _ (rec (seen q h) y k) (λ t y p' k'. (add-fits h cs t p p', k')))
      opened rec (root r) = unfold parse_opened in tt
      opened rec (class y) = unfold parse_opened in tt
      opened rec (range s l h) = unfold parse_opened in tt
      opened rec (option n) = unfold parse_opened in tt

      by : (b : Bool) → ((q : Ids) (x : List ℕ) → G x → Yields FitTable (parse_fragments left q x))
          → Yields FitTable (elim b [
            | true ↦ good no_table x
            | false ↦ one q (open_fault q) (λ r x. parse_opened q (parse_fragments left) r x) x
          ])
      by true rec = (unfold no_table in record { header = tt; streams = tt; events = tt }, g)
      by false rec = yields-one _ q _ _ x g (λ r e c. opened rec r)

  yields-table : (x : List ℕ) → G x → Yields FitTable (parse_table x)
  unfolding parse_table
  yields-table x g = by (missing x || ltb 65536 (length x))
    where
      rest : Parser Table
      rest x = then (parse_roots no_ids false false [] x) λ cs x. parse_fragments (length x) no_ids x

      first : (v : ℕ) → Yields FitTable (sound v x rest)
      first zero = unfold sound in
          let none = yields-roots no_ids false false [] (behind x) (tells.on x g) in
          yields-then (FitRoots []) _ (parse_roots no_ids false false [] (behind x)) _ none
          (λ cs y p k. yields-fragments (length y) no_ids y k)
      first (suc v) = unfold sound in tt

      by : (b : Bool)
          → Yields FitTable (elim b [ true ↦ bad 1 x | false ↦ sound (first_fault (ltb (length x) (size x)) (record_of x)) x rest ])
      by true = tt
      by false = first (first_fault (ltb (length x) (size x)) (record_of x))

  stream-fits : (cs : List StreamClass) (i : ℕ) (c : StreamClass) → FitStreams cs → find_stream cs i ≡ Some c → FitStream c
  unfolding find_stream
  stream-fits [] i c h p = let z : ◌≡◌ {A = ℕ} 0 1 = cc in absurd (omega arith)
  stream-fits (d ∷ cs) i c h p = by (eqb d.id i) p (λ q. stream-fits cs i c h.1 q)
    where
      by : (b : Bool) → elim b [ true ↦ Some d | false ↦ find_stream cs i ] ≡ Some c → (find_stream cs i ≡ Some c → FitStream c)
          → FitStream c
      by true p r = let q : d ≡ c = cc in subst FitStream q h.0
      by false p r = r p

  event-fits : (cs : List EventClass) (i j : ℕ) (c : EventClass) → FitEvents cs → find_event cs i j ≡ Some c → FitEvent c
  unfolding find_event
  event-fits [] i j c h p = let z : ◌≡◌ {A = ℕ} 0 1 = cc in absurd (omega arith)
  event-fits (d ∷ cs) i j c h p = by (eqb d.stream i && eqb d.id j) p (λ q. event-fits cs i j c h.1 q)
    where
      by : (b : Bool) → elim b [ true ↦ Some d | false ↦ find_event cs i j ] ≡ Some c → (find_event cs i j ≡ Some c → FitEvent c)
          → FitEvent c
      by true p r = let q : d ≡ c = cc in subst FitEvent q h.0
      by false p r = r p

  -- an accepted table's classes fit
  pub accepted-fits : (x : List ℕ) (t : Table) (y : List ℕ) → G x → parse x ≡ good t y → Fitting N S W (asked t)
  unfolding asked
  accepted-fits x t y g p =
      let f : FitTable t × G y = subst (Yields FitTable) (parse-table x t y p) (yields-table x g) in
      record {
        header = f.0.header;
        context = λ i c q. (stream-fits t.streams i c f.0.streams q).0;
        events = λ i c q. let z = stream-fits t.streams i c f.0.streams q in (z.1, z.2);
        event = λ i j d q. event-fits t.events i j d f.0.events q;
      }
