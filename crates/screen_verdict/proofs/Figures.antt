-- Lines of a few verdicts, each computed from the definitions, as `ctf` prints them.
use Rattle.std.specs.Prelude.{Ok, Err}
use Rattle.rules.specs.Verdict.{table_fault}
use mathlib.Core.Path.{◌≡◌, refl}
use Rattle.screen_number.specs.Number.{bytes, decimal, decimal_of}
use Rattle.screen_verdict.specs.Sentences.{faults, fault, plain_reasons, plain_reason, reason}
use Rattle.screen_verdict.specs.Sentences.{table_refused, bound_crossed, no_stream_class, no_event_class}
use Rattle.screen_verdict.specs.Verdict.{unit, refused_at, listed, accepted_line, refused_line, verdict}
use Rattle.screen_verdict.specs.Verdict.{accepted_table, refused_table, checked_line}

accepted-shown : verdict (record { number = 0; entries = 101; place = 1192; first = 0; second = 0 })
    ≡ bytes "accepted: 101 entries, 1192 bits\n"
unfolding bytes decimal decimal_of verdict accepted_line
accepted-shown = refl

missing-shown : verdict (record { number = 37; entries = 46; place = 536; first = 0; second = 2 })
    ≡ bytes "refused 37 at bit 536: the table has no event class 2 in stream class 0; 46 entries\n"
unfolding bytes decimal decimal_of verdict refused_line refused_at unit listed reason no_event_class
missing-shown = refl

stream-shown : verdict (record { number = 33; entries = 5; place = 168; first = 200; second = 0 })
    ≡ bytes "refused 33 at bit 168: the table has no stream class 200; 5 entries\n"
unfolding bytes decimal decimal_of verdict refused_line refused_at unit listed reason no_stream_class
stream-shown = refl

bound-shown : verdict (record { number = 22; entries = 10; place = 72; first = 0; second = 0 })
    ≡ bytes "refused 22 at bit 72: the field behind the last entry crosses the bound at bit 72; 10 entries\n"
unfolding bytes decimal decimal_of verdict refused_line refused_at unit listed reason bound_crossed
bound-shown = refl

text-shown : verdict (record { number = 41; entries = 9; place = 64; first = 0; second = 0 })
    ≡ bytes "refused 41 at bit 64: the string behind the last entry is not UTF-8 text; 9 entries\n"
unfolding bytes decimal decimal_of verdict refused_line refused_at unit listed reason plain_reason plain_reasons
text-shown = refl

table-shown : verdict (record { number = 20; entries = 0; place = 34; first = 7; second = 0 })
    ≡ bytes "refused 20 at byte 34: the table is refused by 7: this clock id, stream class id or pair of event ids was used before; 0 entries\n"
unfolding bytes decimal decimal_of verdict refused_line refused_at unit listed reason table_refused fault faults
table-shown = refl

checked-shown : checked_line (Ok (record { 0 = 40 })) ≡ bytes "accepted: 40 bytes\n"
unfolding bytes decimal decimal_of checked_line accepted_table
checked-shown = refl

fault-shown : checked_line (Err (table_fault 14 (record { 0 = 55 }))) ≡ bytes "refused 14 at byte 55: this class stands at depth 9\n"
unfolding bytes decimal decimal_of checked_line refused_table refused_at fault faults
fault-shown = refl
