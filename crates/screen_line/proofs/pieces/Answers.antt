-- By whether it shows a text; kind, place and value alone tell how many they are.
use mathlib.Core.Path.{◌≡◌, refl, sym, ap, ◌∙◌}
use mathlib.Core.List.{List}
use Prim.Native.Nat.{ℕ, ◌+◌, ◌/◌}
use Rattle.screen_head.specs.Head.{Five, five, five_of}
use Rattle.screen_line.specs.Line.{bytes_of}
use Rattle.screen_line.specs.Pieces.{pieces, is_text}
use Rattle.screen_line.proofs.Sorted.{is-text, not-text}
use Rattle.screen_line.proofs.Standing.{bytes-length}
use Rattle.screen_line.proofs.Parts.{pieces-text, pieces-one}
use Rattle.screen_line.proofs.pieces.Goals as goal

-- bits and number do not matter
by-three : (s : List ℕ) (e : Five) → pieces s e ≡ pieces s (five e.kind e.place 0 e.value 0)
unfolding pieces is_text bytes_of
by-three s e = refl

pub returns-in-Text : goal.returns-in-Text
returns-in-Text c =
    let e = five_of c.args.entry in
    let all =
    ap (λ n. n / 32 + 2) (c.bytes_of.ensures ∙ sym (bytes-length c.args.stream.now e))
    ∙ pieces-text c.args.stream.now e (is-text e 4 c.in-Text.ensures refl) in
    record { value = all; by_three = all ∙ by-three c.args.stream.now e }

pub returns-in_default : goal.returns-in_default
returns-in_default c =
    let e = five_of c.args.entry in
    let all = pieces-one c.args.stream.now e (not-text e c.sort_of.result c.sort_of.ensures c.in_default.not-Text) in
    record { value = all; by_three = all ∙ by-three c.args.stream.now e }
