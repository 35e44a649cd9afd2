-- From a line the entry's five words are told: behind its head stands a blank or the line's end.
use mathlib.Core.Path.{refl, sym, ap, ◌∙◌}
use mathlib.Core.List.{List, [], ◌++◌}
use mathlib.Core.Bool.{Bool, true, false}
use Prim.Native.Nat.{ℕ}
use lib.ListN.{length}
use lib.Dec.{eqb}
use Rattle.screen_number.specs.Number.{bytes}
use Rattle.screen_number.specs.Back.{is_end}
use Rattle.screen_head.specs.Kinds.{Shows, plain, signed, as_hex, as_float, as_seconds, as_text, as_bytes, row_of}
use Rattle.screen_head.specs.Head.{Five}
use Rattle.screen_head.specs.Told.{told_words, Ends}
use Rattle.screen_head.proofs.HeadTold.{head-told}
use Rattle.screen_meaning.specs.Bytes.{blob}
use Rattle.screen_meaning.specs.Seconds.{seconds}
use Rattle.screen_line.specs.Line.{line, meaning, bytes_of, clock_meaning, blob_meaning}
use Rattle.screen_line.specs.Promised.{LineTold, NoTwoAlike}

ends-or : (b : Bool) (x : List ℕ) → Ends (elim b [ true ↦ [] | false ↦ bytes "  " ++ x ] ++ bytes "\n")
unfolding bytes is_end
ends-or true x = refl
ends-or false x = refl

ends : (h : Shows) (s : List ℕ) (f : ℕ) (e : Five) → Ends (meaning h s f e ++ bytes "\n")
unfolding meaning bytes is_end clock_meaning blob_meaning
ends plain s f e = refl
ends signed s f e = refl
ends as_hex s f e = refl
ends as_float s f e = refl
ends as_seconds s f e = ends-or (eqb f 0) (seconds f e.value)
ends as_text s f e = refl
ends as_bytes s f e = ends-or (eqb (length (bytes_of s e)) 0) (blob (bytes_of s e))

pub line-told : LineTold
unfolding line
line-told s f e h = head-told e (meaning (row_of e.kind).shows s f e ++ bytes "\n") h (ends (row_of e.kind).shows s f e)

pub no-two-alike : NoTwoAlike
no-two-alike s s' f f' e e' h h' same = sym (line-told s f e h) ∙ ap told_words same ∙ line-told s' f' e' h'
