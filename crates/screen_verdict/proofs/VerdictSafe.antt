-- A verdict's line is of printable ASCII, and ends where the line ends: its sentences by computing all of them, its numbers by their
-- digits.
use Rattle.std.specs.Prelude.{Err, Ok, Result}
use Rattle.rules.specs.declared.TableFault.{TableFault}
use Rattle.rules.specs.declared.ByteLength.{ByteLength}
use mathlib.Core.Path.{◌≡◌, refl, sym, ap, ◌∙◌}
use mathlib.Core.Logic.{⊎_elim}
use mathlib.Core.List.{List, [], ◌∷◌, ◌++◌, append_assoc}
use Prim.Native.Nat.{ℕ, ◌-◌, ◌<◌, ◌≤◌}
use native.Mathlib.Omega.{arith}
use lib.ListN.{get_or}
use lib.Dec.{T, eqb}
use Rattle.facts.proofs.Numbers.{lt-or-ge}
use Rattle.facts.proofs.Cases.{Each, below, ◌▷◌}
use Rattle.rules.specs.declared.Report.{Report}
use Rattle.screen_number.specs.Number.{bytes, decimal, line_end}
use Rattle.screen_number.specs.Safe.{SafeLine}
use Rattle.screen_number.proofs.Printed.{Printed, printed-append, printed-3, printed-4, printed-5, printed-either, decimal-printed}
use Rattle.screen_number.proofs.Printed.{all_printed, all-printed, given-printed, printed-safe}
use Rattle.screen_verdict.specs.Sentences.{no_words, faults, fault, plain_reasons, plain_reason, reason}
use Rattle.screen_verdict.specs.Sentences.{table_refused, bound_crossed, no_stream_class, no_event_class}
use Rattle.screen_verdict.specs.Verdict.{unit, refused_at, listed, accepted_line, refused_line, verdict, accepted_table, refused_table}
use Rattle.screen_verdict.specs.Verdict.{checked_line, cut_refused}
use Rattle.screen_verdict.specs.Told.{VerdictSafe}
use Rattle.screen_verdict.proofs.Sentences.{Case, is-20, is-22, is-33, is-37, is_plain, case, is-or, fault-behind, plain-behind}
use Rattle.screen_verdict.proofs.Sentences.{reason-20, reason-22, reason-33, reason-37, reason-plain}
use Rattle.screen_verdict.proofs.Lines.{verdict-accepted, verdict-refused}

-- Sentences

none-printed : Printed no_words
unfolding no_words bytes all_printed
none-printed = all-printed no_words tt

abbrev PrintedFault : ℕ → Type 0
PrintedFault n = T (all_printed (fault n))

faults-printed : Each PrintedFault 0 16
unfolding all_printed fault faults no_words bytes
faults-printed = tt ▷ tt ▷ tt ▷ tt ▷ tt ▷ tt ▷ tt ▷ tt ▷ tt ▷ tt ▷ tt ▷ tt ▷ tt ▷ tt ▷ tt ▷ tt ▷ tt

fault-printed : (n : ℕ) → Printed (fault n)
fault-printed n = ⊎_elim
    (λ (l : n < 16). all-printed (fault n) (below PrintedFault 16 faults-printed n l))
    (λ (l : 16 ≤ n). rw (← (fault-behind n l)) none-printed)
    (lt-or-ge n 16)

abbrev PrintedPlain : ℕ → Type 0
PrintedPlain n = T (all_printed (get_or plain_reasons n no_words))

plains-printed : Each PrintedPlain 0 22
unfolding all_printed plain_reasons no_words bytes
plains-printed =
    tt ▷ tt ▷ tt ▷ tt ▷ tt ▷ tt ▷ tt ▷ tt ▷ tt ▷ tt ▷ tt ▷ tt ▷ tt ▷ tt ▷ tt ▷ tt ▷ tt ▷ tt ▷ tt ▷ tt ▷ tt ▷ tt ▷ tt

plain-printed : (n : ℕ) → Printed (plain_reason n)
unfolding plain_reason
plain-printed n = ⊎_elim
    (λ (l : n - 20 < 22). all-printed (get_or plain_reasons (n - 20) no_words) (below PrintedPlain 22 plains-printed (n - 20) l))
    (λ (l : 22 ≤ n - 20). rw (← (plain-behind n (omega arith))) none-printed)
    (lt-or-ge (n - 20) 22)

printed-20 : (i : ℕ) → Printed (table_refused i)
unfolding table_refused bytes all_printed
printed-20 i =
    printed-4 (bytes "the table is refused by ") (decimal i) (bytes ": ") (given-printed "the table is refused by " tt) (decimal-printed i)
    (given-printed ": " tt) (fault i) (fault-printed i)

printed-22 : (p : ℕ) → Printed (bound_crossed p)
unfolding bound_crossed bytes all_printed
printed-22 p =
    printed-append (bytes "the field behind the last entry crosses the bound at bit ") (decimal p)
    (given-printed "the field behind the last entry crosses the bound at bit " tt) (decimal-printed p)

printed-33 : (i : ℕ) → Printed (no_stream_class i)
unfolding no_stream_class bytes all_printed
printed-33 i =
    printed-append (bytes "the table has no stream class ") (decimal i) (given-printed "the table has no stream class " tt)
    (decimal-printed i)

printed-37 : (i j : ℕ) → Printed (no_event_class i j)
unfolding no_event_class bytes all_printed
printed-37 i j =
    printed-4 (bytes "the table has no event class ") (decimal j) (bytes " in stream class ")
    (given-printed "the table has no event class " tt) (decimal-printed j) (given-printed " in stream class " tt)
    (decimal i) (decimal-printed i)

by-case : (n p i j : ℕ) → Case n → Printed (reason n p i j)
by-case n p i j (is-20 e) = rw (← (reason-20 n p i j e)) (printed-20 i)
by-case n p i j (is-22 e) = rw (← (reason-22 n p i j e)) (printed-22 p)
by-case n p i j (is-33 e) = rw (← (reason-33 n p i j e)) (printed-33 i)
by-case n p i j (is-37 e) = rw (← (reason-37 n p i j e)) (printed-37 i j)
by-case n p i j (is_plain a b c d) = rw (← (reason-plain n p i j a b c d)) (plain-printed n)

reason-printed : (n p i j : ℕ) → Printed (reason n p i j)
reason-printed n p i j = by-case n p i j (case n)

-- Lines: what stands before the line's end

ends : (x l : List ℕ) → Printed x → l ≡ x ++ (line_end ∷ []) → SafeLine l
ends x l p e = record { text = x; whole = e; safe = printed-safe x p }

-- behind a text, the rest of the line
ends-behind : (x y z : List ℕ) → Printed x → Printed y → z ≡ y ++ (line_end ∷ []) → SafeLine (x ++ z)
ends-behind x y z p q e = ends (x ++ y) (x ++ z) (printed-append x y p q) (ap (λ k. x ++ k) e ∙ sym (append_assoc x y (line_end ∷ [])))

line-end : bytes "\n" ≡ [] ++ (line_end ∷ [])
unfolding bytes
line-end = refl

bits-end : bytes " bits\n" ≡ bytes " bits" ++ (line_end ∷ [])
unfolding bytes
bits-end = refl

bytes-end : bytes " bytes\n" ≡ bytes " bytes" ++ (line_end ∷ [])
unfolding bytes
bytes-end = refl

entries-end : bytes " entries\n" ≡ bytes " entries" ++ (line_end ∷ [])
unfolding bytes
entries-end = refl

accepted-safe : (n p : ℕ) → SafeLine (accepted_line n p)
unfolding accepted_line bytes all_printed
accepted-safe n p =
    ends-behind (bytes "accepted: " ++ decimal n ++ bytes " entries, " ++ decimal p) (bytes " bits") (bytes " bits\n")
    (printed-4 (bytes "accepted: ") (decimal n) (bytes " entries, ") (given-printed "accepted: " tt) (decimal-printed n)
    (given-printed " entries, " tt) (decimal p) (decimal-printed p))
    (given-printed " bits" tt) bits-end

accepted-table-safe : (n : ℕ) → SafeLine (accepted_table n)
unfolding accepted_table bytes all_printed
accepted-table-safe n =
    ends-behind (bytes "accepted: " ++ decimal n) (bytes " bytes") (bytes " bytes\n")
    (printed-append (bytes "accepted: ") (decimal n) (given-printed "accepted: " tt) (decimal-printed n))
    (given-printed " bytes" tt) bytes-end

unit-printed : (n : ℕ) → Printed (unit n)
unfolding unit bytes all_printed
unit-printed n =
    printed-either (eqb n 20) (bytes " at byte ") (bytes " at bit ") (given-printed " at byte " tt) (given-printed " at bit " tt)

refused-printed : (n : ℕ) (u : List ℕ) (p : ℕ) → Printed u → Printed (refused_at n u p)
unfolding refused_at bytes all_printed
refused-printed n u p q =
    printed-5 (bytes "refused ") (decimal n) u (given-printed "refused " tt) (decimal-printed n) q (decimal p) (decimal-printed p)
    (bytes ": ") (given-printed ": " tt)

listed-parts : (e : ℕ) → listed e ≡ (bytes "; " ++ decimal e ++ bytes " entries") ++ (line_end ∷ [])
unfolding listed
listed-parts e =
    ap (λ k. bytes "; " ++ decimal e ++ k) entries-end ∙ sym (append_assoc (bytes "; " ++ decimal e) (bytes " entries") (line_end ∷ []))

refused-safe : (n e p i j : ℕ) → SafeLine (refused_line n e p i j)
unfolding refused_line bytes all_printed
refused-safe n e p i j =
    ends-behind (refused_at n (unit n) p ++ reason n p i j) (bytes "; " ++ decimal e ++ bytes " entries") (listed e)
    (printed-append (refused_at n (unit n) p) (reason n p i j) (refused-printed n (unit n) p (unit-printed n)) (reason-printed n p i j))
    (printed-3 (bytes "; ") (decimal e) (bytes " entries") (given-printed "; " tt) (decimal-printed e) (given-printed " entries" tt))
    (listed-parts e)

-- a refusal that has no list
unlisted-safe : (n : ℕ) (u : List ℕ) (p : ℕ) (x : List ℕ) → Printed u → Printed x → SafeLine (refused_at n u p ++ x ++ bytes "\n")
unlisted-safe n u p x q r =
    ends-behind (refused_at n u p ++ x) [] (bytes "\n") (printed-append (refused_at n u p) x (refused-printed n u p q) r) tt line-end

reading-safe : (r : Report) → SafeLine (verdict r)
reading-safe r = ⊎_elim
    (λ (z : r.number ≡ 0). rw (← (verdict-accepted r z)) (accepted-safe r.entries r.place))
    (λ (z : r.number ≡ 0 → ⊥).
    rw (← (verdict-refused r z)) (refused-safe r.number r.entries r.place r.first r.second))
    (is-or r.number 0)

table-safe : (c : Result ByteLength TableFault) → SafeLine (checked_line c)
unfolding checked_line refused_table bytes all_printed
table-safe (Ok n) = accepted-table-safe n.0
table-safe (Err v) = unlisted-safe v.number (bytes " at byte ") v.byte.0 (fault v.number) (given-printed " at byte " tt) (fault-printed v.number)

cut-safe : (n b : ℕ) → SafeLine (cut_refused n b)
unfolding cut_refused
cut-safe n b = unlisted-safe 20 (unit 20) b (reason 20 b n 0) (unit-printed 20) (reason-printed 20 b n 0)

pub verdict-safe : VerdictSafe
verdict-safe = record { reading = reading-safe; table = table-safe; cut = cut-safe }
