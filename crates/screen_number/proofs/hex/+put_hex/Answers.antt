-- No digit; or those of the number's sixteenth, and one more.
use Rattle.std.proofs.Common.{◌≡◌, ◌<◌, ◌+◌, ◌-◌, ◌/◌, [], ◌∷◌, ◌++◌, length, sym, ap, ◌∙◌, arith}
use Rattle.std.proofs.lemmas.List.Edits.{sets}
use Rattle.screen_number.specs.Number.{hex}
use Rattle.screen_number.proofs.Laid.{laid, then, shown-as, one_byte, hex-none, hex-more, length-hex}
use Rattle.screen_number.proofs.hex.+put_hex.Goals as goal

pub returns-then-digits-eq0 : goal.returns-then-digits-eq0
returns-then-digits-eq0 t c =
    let a = c.args in
    let none : hex a.digits a.n ≡ [] = ap (λ k. hex k a.n) c.if-digits-eq0.true ∙ hex-none a.n in
    record {
      value = sym (ap (λ x. a.at + length x) none ∙ omega arith);
      out_after = sym (ap (λ x. sets a.out.now a.at x) none);
    }

pub bounds-out-end : goal.bounds-out-end
bounds-out-end t c =
    let a = c.args in
    let put = c.put_hex-end in
    omega (arith, put.ensures.value, put.auto.out, length-hex (a.digits - 1) (a.n / 16), c.if-digits-eq0.false, c.requires)

pub overflow_add-result : goal.overflow_add-result
overflow_add-result t c =
    let a = c.args in
    let put = c.put_hex-end in
    omega (arith, put.ensures.value, put.auto.out, length-hex (a.digits - 1) (a.n / 16), c.if-digits-eq0.false, c.requires)

pub returns : goal.returns
returns t c =
    let a = c.args in
    let put = c.put_hex-end in
    let some : 0 < a.digits = omega (arith, c.if-digits-eq0.false) in
    let shown : hex (a.digits - 1) (a.n / 16) ++ (c.glyph.result ∷ []) ≡ hex a.digits a.n =
    ap (λ d. hex (a.digits - 1) (a.n / 16) ++ (d ∷ [])) c.glyph.ensures ∙ hex-more a.digits a.n some in
    let all =
    shown-as
    (then (laid a.out.now put.new.out a.at put.result (hex (a.digits - 1) (a.n / 16)) (put.ensures.value, put.ensures.out_after))
    (one_byte put.new.out put.result c.glyph.result))
    shown
    in
    record { value = all.end; out_after = all.list }
