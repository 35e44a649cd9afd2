-- The test is the definition's own.
use mathlib.Core.Path.{refl}
use Rattle.rules.specs.Record.{u8}
use Rattle.class_layout.specs.Fragments.{is_trace}
use Rattle.class_lookup.proofs.is_trace_class.Goals as goal

pub returns : goal.returns
unfolding is_trace u8
returns c = refl
