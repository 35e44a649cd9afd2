-- The exit status is told by the first word of the verdict's line: both words are whole before the first number.
use Rattle.std.specs.Prelude.{Err, Ok, Result}
use Rattle.rules.specs.declared.TableFault.{TableFault}
use Rattle.rules.specs.declared.ByteLength.{ByteLength}
use mathlib.Core.Path.{◌≡◌, refl, sym, ap, ◌∙◌}
use mathlib.Core.Logic.{⊎_elim}
use mathlib.Core.List.{List, ◌++◌, append_assoc}
use Prim.Native.Nat.{ℕ}
use Rattle.rules.specs.declared.Report.{Report}
use Rattle.screen_number.specs.Number.{bytes, decimal}
use Rattle.screen_number.specs.Back.{is_end, token, same}
use Rattle.screen_verdict.specs.Sentences.{fault, reason}
use Rattle.screen_verdict.specs.Verdict.{unit, refused_at, listed, accepted_line, refused_line, verdict, accepted_table, refused_table}
use Rattle.screen_verdict.specs.Verdict.{checked_line, cut_refused, status, checked_status}
use Rattle.screen_verdict.specs.Told.{status_in, StatusTold}
use Rattle.screen_verdict.proofs.Sentences.{is-or}
use Rattle.screen_verdict.proofs.Lines.{verdict-accepted, verdict-refused, status-accepted, status-refused}

accepted-first : (x : List ℕ) → status_in (bytes "accepted: " ++ x) ≡ 0
unfolding status_in same token is_end bytes
accepted-first x = refl

refused-first : (x : List ℕ) → status_in (bytes "refused " ++ x) ≡ 1
unfolding status_in same token is_end bytes
refused-first x = refl

-- the lines, by what stands behind their first word
accepted-line : (n p : ℕ) → status_in (accepted_line n p) ≡ 0
unfolding accepted_line
accepted-line n p =
    ap status_in (simp append_assoc)
    ∙ accepted-first (decimal n ++ (bytes " entries, " ++ (decimal p ++ bytes " bits\n")))

accepted-table : (n : ℕ) → status_in (accepted_table n) ≡ 0
unfolding accepted_table
accepted-table n = ap status_in (simp append_assoc) ∙ accepted-first (decimal n ++ bytes " bytes\n")

refused-at : (n : ℕ) (u : List ℕ) (p : ℕ) (x : List ℕ) → status_in (refused_at n u p ++ x) ≡ 1
unfolding refused_at
refused-at n u p x =
    ap status_in (simp append_assoc) ∙ refused-first (decimal n ++ (u ++ (decimal p ++ (bytes ": " ++ x))))

refused-behind : (n : ℕ) (u : List ℕ) (p : ℕ) (x y : List ℕ) → status_in (refused_at n u p ++ x ++ y) ≡ 1
refused-behind n u p x y = ap status_in (append_assoc (refused_at n u p) x y) ∙ refused-at n u p (x ++ y)

reading-told : (r : Report) → status_in (verdict r) ≡ status r
unfolding refused_line
reading-told r = ⊎_elim
    (λ (z : r.number ≡ 0).
    ap status_in (sym (verdict-accepted r z)) ∙ accepted-line r.entries r.place ∙ status-accepted r z)
    (λ (z : r.number ≡ 0 → ⊥).
    ap status_in (sym (verdict-refused r z))
    ∙ refused-behind r.number (unit r.number) r.place (reason r.number r.place r.first r.second) (listed r.entries)
    ∙ status-refused r z)
    (is-or r.number 0)

table-told : (c : Result ByteLength TableFault) → status_in (checked_line c) ≡ checked_status c
unfolding checked_line checked_status refused_table
table-told (Ok n) = accepted-table n.0
table-told (Err v) = refused-behind v.number (bytes " at byte ") v.byte.0 (fault v.number) (bytes "\n")

cut-told : (n b : ℕ) → status_in (cut_refused n b) ≡ 1
unfolding cut_refused
cut-told n b = refused-behind 20 (unit 20) b (reason 20 b n 0) (bytes "\n")

pub status-told : StatusTold
status-told = record { reading = reading-told; table = table-told; cut = cut-told }
