-- What is promised of calls: each goes on with what is still to come, and all of them, up to the end, have written the lines.
use mathlib.Core.Path.{◌≡◌, refl, sym, ap, ◌∙◌}
use mathlib.Core.List.{List, [], ◌∷◌, ◌++◌, append-nil, append_assoc}
use mathlib.Core.Bool.{true, false}
use Prim.Native.Nat.{ℕ, ◌+◌, ◌-◌, ◌<◌, ◌≤◌}
use native.Mathlib.Omega.{arith}
use lib.ListN.{length, length-append}
use Rattle.screen_list.specs.declared.Mark.{Mark}
use Rattle.screen_list.specs.declared.Filled.{Filled}
use Rattle.screen_list.specs.Lines.{entries_in, lines, lines_from}
use Rattle.screen_list.specs.Rest.{first_mark, rest}
use Rattle.screen_list.specs.Fill.{filled, written}
use Rattle.screen_list.specs.Promised.{FirstRest, EachGoes, came_to, have_written, LinesBegun, LinesWritten}
use Rattle.screen_list.proofs.Fills.{rest_lines, fill-rest, fill-used, fill-fits, fill-ends, fill-goes}

pub first_rest : FirstRest
unfolding rest lines
first_rest t s ws n =
    let z : entries_in (length ws) n - 0 ≡ entries_in (length ws) n = omega arith in
    rest_lines (entries_in (length ws) n - 0) t s ws 0 0 ∙ ap (λ j. lines_from j t s ws 0 0) z

module _ (t s ws : List ℕ) (n room : ℕ) (m : Mark) where
  abbrev c : ℕ
  c = entries_in (length ws) n

  begins : written t s ws n room m ++ rest t s ws n (filled t s ws n room m).mark ≡ rest t s ws n m
  unfolding written rest filled
  begins = fill-rest t s ws room (c - m.entry) c 0 m.entry m.piece m.frequency refl

  counts : (filled t s ws n room m).used ≡ length (written t s ws n room m)
  unfolding written filled
  counts = omega (arith, fill-used t s ws room (c - m.entry) 0 m.entry m.piece m.frequency)

  fits : (filled t s ws n room m).used ≤ room
  unfolding filled
  fits = fill-fits t s ws room (c - m.entry) 0 m.entry m.piece m.frequency (omega arith)

  ends : (filled t s ws n room m).done ≡ true → rest t s ws n (filled t s ws n room m).mark ≡ []
  unfolding rest filled
  ends d = fill-ends t s ws room (c - m.entry) c 0 m.entry m.piece m.frequency refl d

  goes : (filled t s ws n room m).done ≡ false → room < (filled t s ws n room m).used + 256
  unfolding filled
  goes d = omega (arith, fill-goes t s ws room (c - m.entry) 0 m.entry m.piece m.frequency d)

pub each_goes : EachGoes
each_goes t s ws n room m = record {
  begins = begins t s ws n room m;
  counts = counts t s ws n room m;
  fits = fits t s ws n room m;
  ends = ends t s ws n room m;
  goes = goes t s ws n room m;
}

-- for a caller's loop: in 256 bytes a call that does not end leaves less to come
pub rest-falls : (t s ws : List ℕ) (n room : ℕ) (m : Mark) (r : Filled) → r ≡ filled t s ws n room m → 256 ≤ room → r.done ≡ false
    → length (rest t s ws n r.mark) < length (rest t s ws n m)
rest-falls t s ws n room m r e h d =
    let g = each_goes t s ws n room m in
    let left = (filled t s ws n room m).mark in
    omega (
      arith,
      ap (λ z. length (rest t s ws n z.mark)) e,
      ap length g.begins,
      length-append (written t s ws n room m) (rest t s ws n left),
      g.counts,
      g.goes (sym (ap (λ z. z.done) e) ∙ d),
    )

-- calls one behind another, from any mark
calls-rest : (t s ws : List ℕ) (n : ℕ) (rooms : List ℕ) (m : Mark)
    → have_written t s ws n rooms m ++ rest t s ws n (came_to t s ws n rooms m) ≡ rest t s ws n m
unfolding have_written came_to
calls-rest t s ws n [] m = refl
calls-rest t s ws n (room ∷ rooms) m =
    let to = (filled t s ws n room m).mark in
    append_assoc (written t s ws n room m) (have_written t s ws n rooms to) (rest t s ws n (came_to t s ws n rooms to))
    ∙ ap (λ x. written t s ws n room m ++ x) (calls-rest t s ws n rooms to)
    ∙ (each_goes t s ws n room m).begins

pub lines-begun : LinesBegun
lines-begun t s ws n rooms = calls-rest t s ws n rooms first_mark ∙ first_rest t s ws n

pub lines-written : LinesWritten
lines-written t s ws n rooms room d =
    let m = came_to t s ws n rooms first_mark in
    let x = written t s ws n room m in
    let g = each_goes t s ws n room m in
    ap (λ y. have_written t s ws n rooms first_mark ++ y)
    (sym (append-nil x) ∙ ap (λ y. x ++ y) (sym (g.ends d)) ∙ g.begins)
    ∙ lines-begun t s ws n rooms
