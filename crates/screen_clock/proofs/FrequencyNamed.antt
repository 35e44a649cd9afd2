-- The frequency is the one that the rules' records say of the clock that the stream class names. In order: numbers by offsets and by the
-- rest of the bytes; what the walks find is what stands among the fragments; a stream class that names no clock, and one that does.
use Rattle.std.specs.Prelude.{Option, None, Some}
use mathlib.Core.Path.{◌≡◌, refl, sym, ap, ◌∙◌}
use mathlib.Core.Logic.{⊎_elim}
use mathlib.Core.List.{List, [], ◌∷◌}
use mathlib.Core.Bool.{Bool, true, false, ◌&&◌}
use Prim.Native.Nat.{ℕ, zero, suc, ◌+◌, ◌<◌, ◌≤◌}
use native.Mathlib.Omega.{arith}
use borrow.Author.Tests.{eqb-true, eq-eqb, not-false}
use lib.ListN.{length, get_or, drop, get_or-eq_default, drop_of_length-le}
use lib.Seq.{drop-cons}
use lib.Dec.{eqb}
use Rattle.facts.proofs.Truth.{clash, and_left, and_right}
use Rattle.facts.proofs.Numbers.{lt-or-ge}
use Rattle.rules.specs.Record.{number, u8, u64, record_of, fragment, clock_class, stream_class, layouts}
use Rattle.rules.specs.Faults.{no_ids, among}
use Rattle.rules.specs.Table.{Table, StreamClass, find_stream, asked}
use Rattle.rules.specs.Parse.{good, parse}
use Rattle.table_offsets.specs.Check.{number_at}
use Rattle.class_layout.specs.Numbers.{next_record}
use Rattle.class_layout.specs.Fragments.{fragments_of, find_stream_at, first_of, is_stream as is_stream_class, map_option, stream_class_at}
use Rattle.class_layout.specs.Fragments.{asked_at, All}
use Rattle.class_layout.proofs.Records.{record-at, u8-body, number-body}
use Rattle.class_layout.proofs.Asked.{all-fragments, asked-at, preamble-first}
use Rattle.class_layout.proofs.Lookups.{first_holds}
use Rattle.screen_clock.specs.Frequency.{behind, is_stream, is_clock, clock_from, frequency_from, frequency_of}
use Rattle.screen_clock.specs.Named.{Clocked, Named, FrequencyNamed}
use Rattle.screen_clock.proofs.Walked.{no_stream, no-clock, number_past, behind-next}
use Rattle.screen_clock.proofs.Found.{found, found_all}
use Rattle.screen_clock.proofs.Clocks.{Clocks, table-clocks, clock-record}

-- Numbers

number-at : (n : ℕ) (t : List ℕ) (at : ℕ) → number (drop at t) n ≡ number_at t at n
unfolding number number_at
number-at zero t at = refl
number-at (suc n) t at = ⊎_elim
    (λ (l : at < length t).
    let e : suc at ≡ at + 1 = omega arith in
    let m : number (drop (suc at) t) n ≡ number_at t (at + 1) n = ap (λ j. number (drop j t) n) e ∙ number-at n t (at + 1) in
    rw (drop-cons t at 0 l) (omega (arith, m)))
    (λ (l : length t ≤ at).
    rw (drop_of_length-le t {i = at} l) (unfold number_at in number_past (suc n) t at l))
    (lt-or-ge at (length t))

-- What the walks find

unfoldable clock_at : List ℕ → Option ℕ → ℕ
clock_at t None = 255
clock_at t (Some p) = get_or t (p + 9) 0

unfoldable frequency_at : List ℕ → Option ℕ → ℕ
frequency_at t None = 0
frequency_at t (Some p) = number_at t (p + 2) 8

clock-found : (n : ℕ) (t : List ℕ) (at i : ℕ) → clock_from n t at i ≡ clock_at t (found (λ p. is_stream t p i) t n at)
unfolding clock_from found clock_at
clock-found zero t at i = refl
clock-found (suc n) t at i =
    by (is_stream t at i) (ap (λ p. clock_from n t p i) (behind-next t at) ∙ clock-found n t (next_record t at) i)
  where
    by : (b : Bool) → clock_from n t (behind t at) i ≡ clock_at t (found (λ p. is_stream t p i) t n (next_record t at))
        → elim b [ true ↦ get_or t (at + 9) 0 | false ↦ clock_from n t (behind t at) i ]
        ≡ clock_at t (elim b [ true ↦ Some at | false ↦ found (λ p. is_stream t p i) t n (next_record t at) ])
    by true h = refl
    by false h = h

frequency-found : (n : ℕ) (t : List ℕ) (at i : ℕ) → frequency_from n t at i ≡ frequency_at t (found (λ p. is_clock t p i) t n at)
unfolding frequency_from found frequency_at
frequency-found zero t at i = refl
frequency-found (suc n) t at i =
    by (is_clock t at i) (ap (λ p. frequency_from n t p i) (behind-next t at) ∙ frequency-found n t (next_record t at) i)
  where
    by : (b : Bool) → frequency_from n t (behind t at) i ≡ frequency_at t (found (λ p. is_clock t p i) t n (next_record t at))
        → elim b [ true ↦ number_at t (at + 2) 8 | false ↦ frequency_from n t (behind t at) i ]
        ≡ frequency_at t (elim b [ true ↦ Some at | false ↦ found (λ p. is_clock t p i) t n (next_record t at) ])
    by true h = refl
    by false h = h

same_test : (t : List ℕ) (i p : ℕ) → is_stream t p i ≡ is_stream_class t i p
unfolding is_stream is_stream_class u8 u64
same_test t i p = ap (λ v. eqb (get_or t p 0) 4 && eqb v i) (sym (number-at 8 t (p + 1)))

byte_past : (t : List ℕ) (p : ℕ) → length t ≤ p → get_or t p 0 ≡ 0
byte_past t p h = get_or-eq_default t 0 h

high_byte : (t : List ℕ) (p : ℕ) → 5 < u8 t p → 5 < get_or t p 0
unfolding u8
high_byte t p h = h

module _ (t : List ℕ) (T : Table) (y : List ℕ) (ok : parse t ≡ good T y) where
  abbrev os : List ℕ
  os = fragments_of t

  first : u8 t 0 ≡ 1
  first = preamble-first t T y ok

  first_byte : get_or t 0 0 ≡ 1
  first_byte = unfold u8 in first

  clock-told : (i : ℕ) → clock_from (length t) t 0 i ≡ clock_at t (find_stream_at t os i)
  clock-told i =
      clock-found (length t) t 0 i
      ∙ ap (clock_at t)
      (found_all (λ p. is_stream t p i) t
      (λ p h. sym (no_stream t p i (λ e. omega (arith, e, high_byte t p h))))
      (λ p h. sym (no_stream t p i (λ e. omega (arith, e, byte_past t p h))))
      first (all-fragments t T y ok) (sym (no_stream t 0 i (λ e. omega (arith, e, first_byte))))
      ∙ ap (λ f. first_of f os) (λ k p. same_test t i p k))

  frequency-told : (c : ℕ) → frequency_from (length t) t 0 c ≡ frequency_at t (first_of (λ p. is_clock t p c) os)
  frequency-told c =
      frequency-found (length t) t 0 c
      ∙ ap (frequency_at t)
      (found_all (λ p. is_clock t p c) t
      (λ p h. sym (no-clock t p c (λ e. omega (arith, e, high_byte t p h))))
      (λ p h. sym (no-clock t p c (λ e. omega (arith, e, byte_past t p h))))
      first (all-fragments t T y ok) (sym (no-clock t 0 c (λ e. omega (arith, e, first_byte)))))

  clocks : Clocks t no_ids os
  clocks = table-clocks t T y ok first

  -- a clock class that was found
  clock-kind : (c p : ℕ) → is_clock t p c ≡ true → (u8 t p ≡ 3) × (u8 t (p + 1) ≡ c)
  unfolding is_clock u8
  clock-kind c p h =
      (eqb-true _ 3 (and_left (eqb (get_or t p 0) 3) _ h), eqb-true _ c (and_right (eqb (get_or t p 0) 3) _ h))

  stream-kind : (i o : ℕ) → is_stream_class t i o ≡ true → (u8 t o ≡ 4) × (u64 t (o + 1) ≡ i)
  unfolding is_stream_class
  stream-kind i o h = (eqb-true _ 4 (and_left (eqb (u8 t o) 4) _ h), eqb-true _ i (and_right (eqb (u8 t o) 4) _ h))

  stream-record : (o : ℕ) → u8 t o ≡ 4 → record_of (drop o t) ≡ fragment (stream_class (u64 t (o + 1)) (u8 t (o + 9)))
  unfolding layouts u64
  stream-record o k = record-at t o 4 k ∙ rw (u8-body t o 9 8 (omega arith), number-body t o 9 0 8 (omega arith))

  -- The stream class at o, which names the clock c
  module _ (i o : ℕ) (there : find_stream_at t os i ≡ Some o) where
    abbrev c : ℕ
    c = u8 t (o + 9)

    of-clock : frequency_of t i ≡ frequency_at t (first_of (λ p. is_clock t p c) os)
    unfolding frequency_of clock_at u8
    of-clock =
        ap (λ j. frequency_from (length t) t 0 j) (clock-told i ∙ ap (clock_at t) there) ∙ frequency-told (get_or t (o + 9) 0)

    kind : (u8 t o ≡ 4) × (u64 t (o + 1) ≡ i)
    kind = stream-kind i o (first_holds (λ p. Unit {0}) (is_stream_class t i) os o there (any os)).0
      where
        any : (ps : List ℕ) → All (λ p. Unit {0}) ps
        any [] = tt
        any (p ∷ ps) = (tt, any ps)

    no-clock-named : c ≡ 255 → (r : Option ℕ) → first_of (λ p. is_clock t p c) os ≡ r → frequency_at t r ≡ 0
    unfolding frequency_at
    no-clock-named e None h = refl
    no-clock-named e (Some p) h =
        let f = first_holds _ (λ p. is_clock t p c) os p h clocks.sane in
        let k = clock-kind c p f.0 in
        absurd ((f.1 k.0).0 (k.1 ∙ e))

    a-clock-named : (c ≡ 255 → ⊥) → (r : Option ℕ) → first_of (λ p. is_clock t p c) os ≡ r → Clocked t i (frequency_at t r)
    unfolding frequency_at
    a-clock-named n None h =
        absurd ((first_holds _ (is_stream_class t i) os o there clocks.names).1 kind.0 n (unfold no_ids among in refl) h)
    a-clock-named n (Some p) h =
        let f = first_holds _ (λ p. is_clock t p c) os p h clocks.sane in
        let k = clock-kind c p f.0 in
        let turns : u64 t (p + 2) ≡ number_at t (p + 2) 8 = unfold u64 in number-at 8 t (p + 2) in
        record {
          stream = o;
          clock = p;
          id = c;
          stream-there = there;
          stream-says = stream-record o kind.0 ∙ ap (λ j. fragment (stream_class j c)) kind.1;
          clock-there = h;
          clock-says = clock-record t p k.0 ∙ ap (λ j. fragment (clock_class j (u64 t (p + 2)))) k.1
              ∙ ap (λ j. fragment (clock_class c j)) turns;
          some-turns = λ e. (f.1 k.0).1 (turns ∙ e);
        }

    of-class : (k : StreamClass) → stream_class_at t o ≡ k → Named t i k
    unfolding stream_class_at
    of-class k e = record {
      timed = λ h. rw of-clock (a-clock-named (λ z. clash (sym (simp (eq-eqb c 255 z)) ∙ ap (λ j. j.timed) e ∙ h)) _ refl);
      untimed = λ h. of-clock ∙ no-clock-named (eqb-true c 255 (not-false (eqb c 255) (ap (λ j. j.timed) e ∙ h))) _ refl;
    }

  asks : (i : ℕ) → find_stream T.streams i ≡ map_option (stream_class_at t) (find_stream_at t os i)
  unfolding asked asked_at
  asks i = ap (λ a. a.stream i) (asked-at t T y ok)

  named : (i : ℕ) (k : StreamClass) → find_stream T.streams i ≡ Some k → Named t i k
  named i k e = by (find_stream_at t os i) refl (sym (asks i) ∙ e)
    where
      by : (r : Option ℕ) → find_stream_at t os i ≡ r → map_option (stream_class_at t) r ≡ Some k → Named t i k
      by None h e = let z : ◌≡◌ {A = ℕ} 0 1 = unfold map_option in cc in absurd (omega (arith, z))
      by (Some o) h e = of-class i o h k (unfold map_option in cc)

pub frequency-named : FrequencyNamed
frequency-named t T y ok i k e = named t T y ok i k e
