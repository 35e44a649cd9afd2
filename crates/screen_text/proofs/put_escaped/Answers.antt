-- By its digits, behind a backslash, or as it is.
use mathlib.Core.Path.{◌≡◌, sym, ap, ◌∙◌}
use native.Mathlib.Omega.{arith}
use mathlib.Core.List.{[], ◌∷◌, ◌++◌}
use Prim.Native.Nat.{◌+◌}
use lib.ListN.{set}
use Rattle.screen_number.specs.Number.{hex}
use Rattle.screen_text.specs.Escape.{escaped}
use Rattle.screen_number.proofs.Laid.{Laid, laid, then, shown-as, one_byte}
use Rattle.screen_text.proofs.Texts.{by_digits, behind-backslash, as-it-is}
use Rattle.screen_text.proofs.put_escaped.Goals as goal

pub returns-then-hidden : goal.returns-then-hidden
returns-then-hidden c =
    let a = c.args in
    let put = c.put_hex in
    let two = set (set a.out.now a.at 92) (a.at + 1) 120 in
    let one_on : a.at + 1 + 1 ≡ a.at + 2 = omega arith in
    let first : Laid a.out.now two a.at (a.at + 2) ((92 ∷ []) ++ (120 ∷ [])) =
    rw one_on at (then (one_byte a.out.now a.at 92) (one_byte (set a.out.now a.at 92) (a.at + 1) 120)) in
    let all = shown-as
    (then first (laid two put.new.out (a.at + 2) put.result (hex 2 c.from.result) (put.ensures.value, put.ensures.out_after)))
    (ap (λ n. 92 ∷ 120 ∷ hex 2 n) c.from.ensures ∙ by_digits a.c ∙ ap (λ h. escaped h a.c) (sym c.if-hidden.true)) in
    record { value = all.end; out_after = all.list }

pub returns-then-marked : goal.returns-then-marked
returns-then-marked c =
    let a = c.args in
    let two = set (set a.out.now a.at 92) (a.at + 1) a.c in
    let one_on : a.at + 1 + 1 ≡ a.at + 2 = omega arith in
    let first : Laid a.out.now two a.at (a.at + 2) ((92 ∷ []) ++ (a.c ∷ [])) =
    rw one_on at (then (one_byte a.out.now a.at 92) (one_byte (set a.out.now a.at 92) (a.at + 1) a.c)) in
    let all = shown-as first
    (behind-backslash a.c (sym c.marked.ensures ∙ c.if-marked.true) ∙ ap (λ h. escaped h a.c)
    (sym c.if-hidden.false)) in
    record { value = all.end; out_after = all.list }

pub returns : goal.returns
returns c =
    let a = c.args in
    let all = shown-as
    (one_byte a.out.now a.at a.c)
    (as-it-is a.c (sym c.marked.ensures ∙ c.if-marked.false) ∙ ap (λ h. escaped h a.c) (sym c.if-hidden.false)) in
    record { value = all.end; out_after = all.list }
