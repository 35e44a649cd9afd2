-- The byte by its neighbours.
use mathlib.Core.Path.{◌≡◌}
use Prim.Native.Nat.{◌+◌}
use lib.ListN.{take, drop, get_or}
use Rattle.screen_text.specs.Escape.{escaped, hidden, before, shown_at}
use Rattle.screen_number.proofs.Laid.{same_text}
use Rattle.screen_text.proofs.Texts.{shown_by}
use Rattle.screen_text.proofs.put_byte.Goals as goal

pub returns : goal.returns
returns c =
    let a = c.args in
    let put = c.put_escaped in
    let t = take a.bytes (drop a.from a.stream.now) in
    let ea : c.byte_before-a.result ≡ before t a.i 2 = c.byte_before-a.ensures in
    let eb : c.byte_before-b.result ≡ before t a.i 1 = c.byte_before-b.ensures in
    let ec : c.byte_at-c.result ≡ get_or t a.i 0 = c.byte_at-c.ensures in
    let ed : c.byte_at-d.result ≡ get_or t (a.i + 1) 0 = c.byte_at-d.ensures in
    let ee : c.byte_at-e.result ≡ get_or t (a.i + 2) 0 = c.byte_at-e.ensures in
    let eh : c.hidden.result
    ≡ hidden c.byte_before-a.result c.byte_before-b.result c.byte_at-c.result c.byte_at-d.result
    c.byte_at-e.result =
    c.hidden.ensures in
    let all = same_text a.out.now put.new.out a.at put.result (escaped c.hidden.result c.byte_at-c.result)
    (shown_at t a.i)
    (shown_by t a.i _ _ _ _ _ _ ea eb ec ed ee eh) (put.ensures.value, put.ensures.out_after) in
    record { value = all.0; out_after = all.1 }
