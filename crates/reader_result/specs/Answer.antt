-- What a reading answers, by what it did.
use Rattle.std.specs.Prelude.{ℕ, ◌/◌, Ok, Err, ⊤, Result}
use Rattle.rules.specs.declared.BitPlace.{BitPlace}
use Rattle.rules.specs.declared.Stop.{Stop}
use Rattle.rules.specs.declared.Report.{Report}
use Rattle.rules.specs.Limits.{words_per_entry}
use Rattle.rules.specs.Verdict.{refusal_number, refusal_first, refusal_second}
use Rattle.listing.specs.declared.Progress.{Progress}

abbrev pub result_with : ℕ → ℕ → BitPlace → ℕ → ℕ → Report
result_with n k p i j = record { number = n; entries = k; place = p.0; first = i; second = j }

unfoldable pub refused_with : Stop → ℕ → Report
refused_with v n = record {
  number = refusal_number v.why;
  entries = n;
  place = v.place.0;
  first = refusal_first v.why;
  second = refusal_second v.why;
}

-- so many words an entry
unfoldable pub answer_of : Result ⊤ Stop → ℕ → Progress → Report
answer_of (Ok u) used st = record { number = 0; entries = used / words_per_entry; place = st.place.0; first = 0; second = 0 }
answer_of (Err v) used st = refused_with v (used / words_per_entry)
