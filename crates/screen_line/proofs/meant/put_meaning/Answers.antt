-- By the sort.
use mathlib.Core.Path.{◌≡◌, sym, ap}
use mathlib.Core.List.{List}
use Prim.Native.Nat.{ℕ}
use Rattle.screen_line.specs.declared.meant.Sort.{Sort}
use Rattle.screen_number.specs.Number.{bytes}
use Rattle.screen_head.specs.Head.{Five, five_of}
use Rattle.screen_meaning.specs.Bytes.{bit_array}
use Rattle.screen_meaning.specs.Float.{shown_float}
use Rattle.screen_line.specs.Line.{bytes_of, clock_meaning, blob_meaning}
use Rattle.screen_line.specs.Sorts.{number_of, short_meaning, from_seconds}
use Rattle.screen_line.proofs.Parts.{laid_none}
use Rattle.screen_number.proofs.Laid.{laid, then, shown-as}
use Rattle.screen_line.proofs.meant.put_meaning.Goals as goal

-- from the sort that it is
meant : {o u : Sort} (s : List ℕ) (f : ℕ) (e : Five) → o ≡ u → short_meaning (number_of o) s f e ≡ short_meaning (number_of u) s f e
meant s f e h = ap (λ o. short_meaning (number_of o) s f e) h

pub returns-in-Nothing : goal.returns-in-Nothing
unfolding bytes short_meaning from_seconds
returns-in-Nothing c =
    let a = c.args in
    let all = shown-as
    (laid_none a.out.now a.at)
    (meant a.stream.now a.frequency (five_of a.entry) (sym c.in-Nothing.is)) in
    record { value = all.end; out_after = all.list }

pub returns-in-Hex : goal.returns-in-Hex
unfolding bytes short_meaning from_seconds
returns-in-Hex c =
    let a = c.args in
    let all = shown-as
    (then
    (laid a.out.now c.put_bytes-a.new.out a.at c.put_bytes-a.result (bytes "  ")
    (c.put_bytes-a.ensures.value, c.put_bytes-a.ensures.out_after))
    (laid c.put_bytes-a.new.out c.put_bit_array.new.out c.put_bytes-a.result c.put_bit_array.result
    (bit_array a.entry.bits a.entry.value) (c.put_bit_array.ensures.value, c.put_bit_array.ensures.out_after)))
    (meant a.stream.now a.frequency (five_of a.entry) (sym c.in-Hex.is)) in
    record { value = all.end; out_after = all.list }

pub returns-in-Float : goal.returns-in-Float
unfolding bytes short_meaning from_seconds
returns-in-Float c =
    let a = c.args in
    let all = shown-as
    (then
    (laid a.out.now c.put_bytes-b.new.out a.at c.put_bytes-b.result (bytes "  ")
    (c.put_bytes-b.ensures.value, c.put_bytes-b.ensures.out_after))
    (laid c.put_bytes-b.new.out c.put_float.new.out c.put_bytes-b.result c.put_float.result (shown_float a.entry.bits a.entry.value)
    (c.put_float.ensures.value, c.put_float.ensures.out_after)))
    (meant a.stream.now a.frequency (five_of a.entry) (sym c.in-Float.is)) in
    record { value = all.end; out_after = all.list }

pub returns-in-Seconds : goal.returns-in-Seconds
unfolding bytes short_meaning from_seconds
returns-in-Seconds c =
    let a = c.args in
    let all = shown-as
    (laid a.out.now c.put_clock.new.out a.at c.put_clock.result (clock_meaning a.frequency a.entry.value)
    (c.put_clock.ensures.value, c.put_clock.ensures.out_after))
    (meant a.stream.now a.frequency (five_of a.entry) (sym c.in-Seconds.is)) in
    record { value = all.end; out_after = all.list }

pub returns-in-Text : goal.returns-in-Text
unfolding bytes short_meaning from_seconds
returns-in-Text c =
    let a = c.args in
    let all = shown-as
    (laid_none a.out.now a.at)
    (meant a.stream.now a.frequency (five_of a.entry) (sym c.in-Text.is)) in
    record { value = all.end; out_after = all.list }

pub returns-in-Bytes : goal.returns-in-Bytes
unfolding bytes short_meaning from_seconds
returns-in-Bytes c =
    let a = c.args in
    let all = shown-as
    (laid a.out.now c.put_bytes_meant.new.out a.at c.put_bytes_meant.result (blob_meaning (bytes_of a.stream.now (five_of a.entry)))
    (c.put_bytes_meant.ensures.value, c.put_bytes_meant.ensures.out_after))
    (meant a.stream.now a.frequency (five_of a.entry) (sym c.in-Bytes.is)) in
    record { value = all.end; out_after = all.list }
