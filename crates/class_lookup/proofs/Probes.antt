-- Counted, by computing.
use mathlib.Core.Path.{refl}
use Rattle.class_lookup.specs.Index.{mixed, home_of, put_from}
use Rattle.class_lookup.specs.Probes.{probes_from, probes, events, streams, Probes}

pub few-probes : Probes
unfolding mixed home_of put_from probes_from probes events streams
few-probes = record { by-streams = refl; by-steps = refl }
