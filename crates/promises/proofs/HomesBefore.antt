-- What the walk over homes told of the fragments before stands for those behind: of the header for stream classes, and of a stream class
-- for its event classes. So one home a slot holds with one fragment more in front, of each kind.
use Rattle.std.specs.Prelude.{Option, None}
use mathlib.Core.Path.{◌≡◌, refl, sym, ap, ◌∙◌, subst}
use mathlib.Core.Logic.{◌⊎◌, inl, inr}
use Prim.Native.Nat.{ℕ, zero, suc, ◌+◌}
use native.Mathlib.Omega.{arith}
use mathlib.Core.List.{List, [], ◌∷◌, ◌++◌}
use mathlib.Core.Bool.{Bool, true, false, not, ◌||◌}
use lib.ListN.{length}
use lib.Dec.{eqb}
use borrow.Author.Tests.{eqb-true, eq-eqb, ne_eqb}
use Rattle.facts.proofs.Truth.{clash, or-false}
use Rattle.facts.proofs.Faults.{pick-zero, pick-false}
use Rattle.rules.specs.Class.{Class}
use Rattle.rules.specs.Faults.{among, Ids, seen, record_fault, fragment_fault, open_fault}
use Rattle.rules.specs.Record.{Fragment, preamble, trace_class, clock_class, stream_class, event_class}
use Rattle.rules.specs.Table.{StreamClass, EventClass, Table}
use Rattle.rules.specs.Parse.{root_of, add, no_table}
use Rattle.rules.specs.Homes.{Homes, no_homes, homes_of, homes_before, header_homes, stream_homes}
use Rattle.promises.specs.SlotHomes.{Setting, of_root, of_roots, of_packet, of_event, In, OneHome}
use Rattle.promises.proofs.Settings.{or_right, Within, within-one, within_both, within_more, in_left, in_right}
use Rattle.promises.proofs.Settings.{Covers, within-covers, covers-nothing}
use Rattle.promises.proofs.Homed.{OfRoots}
use Rattle.promises.proofs.Fragments.{Clean}

-- Roots that a table takes of a fragment's

none_within : (l : List Setting) → Within [] l
unfolding In
none_within l a i = absurd i

all-within : (l : List Setting) → Within l l
all-within l a i = i

left-within : (k l : List Setting) → Within k (k ++ l)
left-within k l a i = in_left a k l i

-- the first k of some roots, as the table takes them
firsts : ℕ → List (Option Class) → List (Option Class)
firsts zero cs = []
firsts (suc k) [] = None ∷ firsts k []
firsts (suc k) (c ∷ cs) = c ∷ firsts k cs

firsts-within : (k n : ℕ) (cs : List (Option Class)) → Within (of_roots n (firsts k cs)) (of_roots n cs)
unfolding firsts of_roots of_root
firsts-within zero n cs = none_within (of_roots n cs)
firsts-within (suc k) n [] = firsts-within k (n + 1) []
firsts-within (suc k) n (c ∷ cs) =
    within_more (of_root n c) (of_root n c) (of_roots (n + 1) (firsts k cs)) (of_roots (n + 1) cs) (all-within (of_root n c))
    (firsts-within k (n + 1) cs)

first_one : (n : ℕ) (cs : List (Option Class)) → Within (of_roots n (root_of cs 0 ∷ [])) (of_roots n cs)
unfolding root_of firsts
first_one n [] = firsts-within 1 n []
first_one n (c ∷ cs) = firsts-within 1 n (c ∷ cs)

first_two : (n : ℕ) (cs : List (Option Class)) → Within (of_roots n (root_of cs 0 ∷ root_of cs 1 ∷ [])) (of_roots n cs)
unfolding root_of firsts
first_two n [] = firsts-within 2 n []
first_two n (c ∷ []) = firsts-within 2 n (c ∷ [])
first_two n (c ∷ d ∷ cs) = firsts-within 2 n (c ∷ d ∷ cs)

first_three : (n : ℕ) (cs : List (Option Class)) → Within (of_roots n (root_of cs 0 ∷ root_of cs 1 ∷ root_of cs 2 ∷ [])) (of_roots n cs)
unfolding root_of firsts
first_three n [] = firsts-within 3 n []
first_three n (c ∷ []) = firsts-within 3 n (c ∷ [])
first_three n (c ∷ d ∷ []) = firsts-within 3 n (c ∷ d ∷ [])
first_three n (c ∷ d ∷ e ∷ cs) = firsts-within 3 n (c ∷ d ∷ e ∷ cs)

-- What the walk told of the fragments so far

-- a header, where there is one; roots 1 to 3
abbrev pub of_header : Option Class → List Setting
of_header c = of_roots 0 (c ∷ [])

abbrev pub of_stream : StreamClass → List Setting
of_stream s = of_roots 1 (s.context ∷ s.header ∷ s.common ∷ [])

-- no trace class may follow
abbrev pub closed : Ids → Bool
closed q = q.trace || not (eqb (length q.streams) 0)

-- of a stream class that was gone over
pub record Before (ids : List ℕ) (l : List (ℕ × Homes)) (s : StreamClass) : Type 0 where
  pub known : among s.id ids ≡ true
  pub covers : Covers (homes_of l s.id) None (of_stream s)
  pub one : OneHome (of_stream s)

-- the table's header c: it is still to come, in t, or was gone over
pub data Header (shut : Bool) (h : Homes) (t : Table) (c : Option Class) : Type 0 where
  ahead : shut ≡ false → c ≡ t.header → Header shut h t c
  gone : shut ≡ true → Covers h None (of_header c) → OneHome (of_header c) → Header shut h t c

-- so it is of the fragments t that are still to come
pub record Rest (shut : Bool) (ids : List ℕ) (h : Homes) (l : List (ℕ × Homes)) (t : Table) : Type 0 where
  pub fresh : (s : StreamClass) → In s t.streams → among s.id ids ≡ false
  pub no_header : shut ≡ true → t.header ≡ None
  pub header : OneHome (of_header t.header)
  pub packet : (c : Option Class) → Header shut h t c → (s : StreamClass) → In s t.streams → OneHome (of_packet c s)
  pub stream : (s : StreamClass) → In s t.streams → OneHome (of_stream s)
  pub later : (s : StreamClass) → Before ids l s → (e : EventClass) → In e t.events → e.stream ≡ s.id → OneHome (of_event s e)
  pub event : (s : StreamClass) → In s t.streams → (e : EventClass) → In e t.events → e.stream ≡ s.id → OneHome (of_event s e)

one-nothing : OneHome []
unfolding In
one-nothing a b i j e = absurd i

no_one : (c : Option Class) → c ≡ None → OneHome (of_header c)
unfolding of_roots of_root
no_one c e = subst (λ c. OneHome (of_header c)) (sym e) one-nothing

no-covers : (h : Homes) (c : Option Class) → c ≡ None → Covers h None (of_header c)
unfolding of_roots of_root
no-covers h c e = subst (λ c. Covers h None (of_header c)) (sym e) (covers-nothing h None)

pub rest-none : (shut : Bool) (ids : List ℕ) (h : Homes) (l : List (ℕ × Homes)) → Rest shut ids h l no_table
unfolding no_table In
rest-none shut ids h l = record {
  fresh = λ s i. absurd i;
  no_header = λ e. refl;
  header = no_one None refl;
  packet = λ c k s i. absurd i;
  stream = λ s i. absurd i;
  later = λ s b e i. absurd i;
  event = λ s i. absurd i;
}

-- a fragment's roots on their own: what the walk told of them, with nothing before
tells-alone : (h k : Homes) (cs : List (Option Class)) (n : ℕ) → OfRoots cs h k → OneHome (of_roots n cs)
tells-alone h k cs n r = (r n).one [] (covers-nothing h None) one-nothing

-- One fragment more in front

-- the trace class, which stands before all stream classes
rest-trace : (u : ℕ) (x : List ℕ) (ids : List ℕ) (h k : Homes) (l : List (ℕ × Homes)) (cs : List (Option Class)) (t : Table)
    → OfRoots cs no_homes k → Rest true ids k l t → Rest false ids h l (add (trace_class u x) cs t)
unfolding add
rest-trace u x ids h k l cs t r m = record {
  fresh = m.fresh;
  no_header = λ e. absurd (clash e);
  header = one;
  packet = λ c o. m.packet c (of c o);
  stream = m.stream;
  later = m.later;
  event = m.event;
}
  where
    one : OneHome (of_header (root_of cs 0))
    one = within-one (of_header (root_of cs 0)) (of_roots 0 cs) (first_one 0 cs) (tells-alone no_homes k cs 0 r)

    covers : Covers k None (of_header (root_of cs 0))
    covers = within-covers k None (of_header (root_of cs 0)) (of_roots 0 cs) (first_one 0 cs) (r 0).own

    of : (c : Option Class) → Header false h (add (trace_class u x) cs t) c → Header true k t c
    of c (ahead e f) = subst (Header true k t) (sym f) (gone refl covers one)
    of c (gone e f g) = absurd (clash e)

-- an id of those known is none that is not
known-apart : (i j : ℕ) (ids : List ℕ) → among i ids ≡ false → among j ids ≡ true → eqb i j ≡ false
known-apart i j ids e f = by (eqb i j) refl
  where
    by : (b : Bool) → eqb i j ≡ b → b ≡ false
    by true p = absurd (clash (sym e ∙ ap (λ n. among n ids) (eqb-true i j p) ∙ f))
    by false p = refl

-- a stream class
module _ (i c : ℕ) (shut : Bool) (ids : List ℕ) (h k : Homes) (l : List (ℕ × Homes)) (cs : List (Option Class)) (t : Table)
    (n : among i ids ≡ false) (r : OfRoots cs h k) (m : Rest true (i ∷ ids) h ((i, k) ∷ l) t) where
  abbrev this : StreamClass
  this = record { id = i; timed = not (eqb c 255); context = root_of cs 0; header = root_of cs 1; common = root_of cs 2 }

  stream-one : OneHome (of_stream this)
  stream-one = within-one (of_stream this) (of_roots 1 cs) (first_three 1 cs) (tells-alone h k cs 1 r)

  stream-before : Before (i ∷ ids) ((i, k) ∷ l) this
  unfolding among homes_of
  stream-before = record {
    known = rw (eq-eqb i i refl) refl;
    covers = rw (eq-eqb i i refl, homes_of) (within-covers k None (of_stream this) (of_roots 1 cs) (first_three 1 cs) (r 1).own);
    one = stream-one;
  }

  before-still : (s : StreamClass) → Before ids l s → Before (i ∷ ids) ((i, k) ∷ l) s
  unfolding among homes_of
  before-still s b = record {
    known = ap (λ x. eqb s.id i || x) b.known ∙ or_right (eqb s.id i);
    covers = rw (known-apart i s.id ids n b.known, homes_of) b.covers;
    one = b.one;
  }

  packet-one : (d : Option Class) → Covers h None (of_header d) → OneHome (of_header d) → OneHome (of_packet d this)
  unfolding of_packet of_roots
  packet-one d v o =
      within-one (of_packet d this) (of_header d ++ of_roots 1 cs)
      (within_more (of_root 0 d) (of_header d) (of_roots 1 (root_of cs 0 ∷ [])) (of_roots 1 cs) (left-within (of_root 0 d) []) (first_one 1 cs))
      ((r 1).one (of_header d) v o)

  header-gone : (d : Option Class) → Header shut h (add (stream_class i c) cs t) d → Covers h None (of_header d) × OneHome (of_header d)
  unfolding add
  header-gone d (ahead e f) = let z = f ∙ m.no_header refl in (no-covers h d z, no_one d z)
  header-gone d (gone e f g) = (f, g)

  rest-stream : Rest shut ids h l (add (stream_class i c) cs t)
  unfolding add In among
  rest-stream = record {
    fresh = fresh;
    no_header = λ e. m.no_header refl;
    header = m.header;
    packet = packet;
    stream = stream;
    later = λ s b. m.later s (before-still s b);
    event = event;
  }
    where
      fresh : (s : StreamClass) → (s ≡ this) ⊎ In s t.streams → among s.id ids ≡ false
      fresh s (inl e) = ap (λ (s : StreamClass). among s.id ids) e ∙ n
      fresh s (inr e) = (or-false (eqb s.id i) (among s.id ids) (m.fresh s e)).1

      packet : (d : Option Class) → Header shut h (add (stream_class i c) cs t) d → (s : StreamClass) → (s ≡ this) ⊎ In s t.streams
          → OneHome (of_packet d s)
      packet d o s (inl e) = let z = header-gone d o in subst (λ s. OneHome (of_packet d s)) (sym e) (packet-one d z.0 z.1)
      packet d o s (inr e) = let z = header-gone d o in m.packet d (gone refl z.0 z.1) s e

      stream : (s : StreamClass) → (s ≡ this) ⊎ In s t.streams → OneHome (of_stream s)
      stream s (inl e) = subst (λ s. OneHome (of_stream s)) (sym e) stream-one
      stream s (inr e) = m.stream s e

      event : (s : StreamClass) → (s ≡ this) ⊎ In s t.streams → (e : EventClass) → In e t.events → e.stream ≡ s.id
          → OneHome (of_event s e)
      event s (inl p) e j f = m.later s (subst (Before (i ∷ ids) ((i, k) ∷ l)) (sym p) stream-before) e j f
      event s (inr p) e j f = m.event s p e j f

-- an event class, whose stream class was gone over
module _ (i j : ℕ) (shut : Bool) (ids : List ℕ) (h k : Homes) (l : List (ℕ × Homes)) (cs : List (Option Class)) (t : Table)
    (n : among i ids ≡ true) (r : OfRoots cs (homes_of l i) k) (m : Rest shut ids h l t) where
  abbrev new : EventClass
  new = record { stream = i; id = j; specific = root_of cs 0; payload = root_of cs 1 }

  event-within : (s : StreamClass) → Within (of_event s new) (of_stream s ++ of_roots 4 cs)
  unfolding of_event of_roots
  event-within s =
      let all = of_stream s ++ of_roots 4 cs in
      let a = of_root 1 s.context in
      let b = of_root 2 s.header in
      let c = of_root 3 s.common in
      within_both b (c ++ of_roots 4 (root_of cs 0 ∷ root_of cs 1 ∷ [])) all
      (λ x i. in_left x (of_stream s) (of_roots 4 cs) (in_right x a (b ++ (c ++ [])) (in_left x b (c ++ []) i)))
      (within_both c (of_roots 4 (root_of cs 0 ∷ root_of cs 1 ∷ [])) all
      (λ x i. in_left x (of_stream s) (of_roots 4 cs) (in_right x a (b ++ (c ++ [])) (in_right x b (c ++ []) (in_left x c [] i))))
      (λ x i. in_right x (of_stream s) (of_roots 4 cs) (first_two 4 cs x i)))

  event-one : (s : StreamClass) → Before ids l s → i ≡ s.id → OneHome (of_event s new)
  event-one s b e =
      within-one (of_event s new) (of_stream s ++ of_roots 4 cs) (event-within s)
      ((r 4).one (of_stream s) (subst (λ i. Covers (homes_of l i) None (of_stream s)) (sym e) b.covers) b.one)

  rest-event : Rest shut ids h l (add (event_class i j) cs t)
  unfolding add In
  rest-event = record {
    fresh = m.fresh;
    no_header = m.no_header;
    header = m.header;
    packet = λ c o. m.packet c (of c o);
    stream = m.stream;
    later = later;
    event = event;
  }
    where
      of : (c : Option Class) → Header shut h (add (event_class i j) cs t) c → Header shut h t c
      of c (ahead e f) = ahead e f
      of c (gone e f g) = gone e f g

      later : (s : StreamClass) → Before ids l s → (e : EventClass) → (e ≡ new) ⊎ In e t.events → e.stream ≡ s.id
          → OneHome (of_event s e)
      later s b e (inl p) f =
          subst (λ e. OneHome (of_event s e)) (sym p) (event-one s b (sym (ap (λ (e : EventClass). e.stream) p) ∙ f))
      later s b e (inr p) f = m.later s b e p f

      event : (s : StreamClass) → In s t.streams → (e : EventClass) → (e ≡ new) ⊎ In e t.events → e.stream ≡ s.id
          → OneHome (of_event s e)
      event s w e (inl p) f =
          let q : i ≡ s.id = sym (ap (λ (e : EventClass). e.stream) p) ∙ f in
          absurd (clash (sym (m.fresh s w) ∙ ap (λ x. among x ids) (sym q) ∙ n))
      event s w e (inr p) f = m.event s w e p f

not-false : (a : Bool) → not a ≡ false → a ≡ true
not-false true h = refl
not-false false h = sym h

-- behind a stream class no trace class may follow
shut-behind : (b : Bool) (i : ℕ) (ids : List ℕ) → (b || not (eqb (length (i ∷ ids)) 0)) ≡ true
shut-behind b i ids =
    let z : eqb (length (i ∷ ids)) 0 ≡ false = ne_eqb (length (i ∷ ids)) 0 (omega arith) in
    ap (λ x. b || not x) z ∙ or_right b

-- any fragment without a fault
pub rest-one : (q : Ids) (h k : Homes) (l : List (ℕ × Homes)) (g : Fragment) (cs : List (Option Class)) (t : Table) → Clean q g
    → OfRoots cs (homes_before h l g) k → Rest (closed (seen q g)) (seen q g).streams (header_homes g k h) (stream_homes g k l) t
    → Rest (closed q) q.streams h l (add g cs t)
unfolding seen homes_before header_homes stream_homes record_fault fragment_fault open_fault
rest-one q h k l (preamble v) cs t c r m = unfold add in m
rest-one q h k l (trace_class u x) cs t c r m =
    let e = pick-false (closed q) 5 _ (pick-zero false 2 _ c) in
    subst (λ b. Rest b q.streams h l (add (trace_class u x) cs t)) (sym e) (rest-trace u x q.streams h k l cs t r m)
rest-one q h k l (clock_class i f) cs t c r m = unfold add in m
rest-one q h k l (stream_class i d) cs t c r m =
    let e = pick-false (among i q.streams) 6 _ (pick-zero false 2 _ c) in
    rest-stream i d (closed q) q.streams h k l cs t e r
    (subst (λ b. Rest b (i ∷ q.streams) h ((i, k) ∷ l) t) (shut-behind q.trace i q.streams) m)
rest-one q h k l (event_class i j) cs t c r m =
    let e = pick-false (not (among i q.streams)) 7 _ (pick-zero _ 6 _ (pick-zero false 2 _ c)) in
    rest-event i j (closed q) q.streams h k l cs t (not-false _ e) r m
