-- Whose records a number counts: those of "its own fragment" (02, 7), which is named by its ids. The preamble and clock classes have no
-- roots, so that they own no class.
use Rattle.std.specs.Prelude.{ℕ}
use Rattle.rules.specs.Record.{Fragment, preamble, trace_class, clock_class, stream_class, event_class}

pub data Owner : Type 0 where
  nobody : Owner
  of_trace : Owner
  of_stream : ℕ → Owner
  of_event : ℕ → ℕ → Owner

unfoldable pub owner_of : Fragment → Owner
owner_of (preamble v) = nobody
owner_of (trace_class u l) = of_trace
owner_of (clock_class i f) = nobody
owner_of (stream_class i c) = of_stream i
owner_of (event_class i j) = of_event i j
