-- The figures of the smallest bundle hold: each by computation.
use mathlib.Core.Path.{refl}
use Rattle.rules.specs.Opened.{opened}
use Rattle.rules.specs.Edition.{both, stays, part, leave_records, leave}
use Rattle.rules.specs.Lists.{parts, behind_parts, readings, words_after}
use Rattle.rules.specs.Bundle.{under, stream_in, event_in, event_under, stream_listed, event_listed, bundle_of, fitted, bundled}
use Rattle.rules.specs.Bundle.{buffer_after, lists_after, bundled_number, bundled_length, bundled_first}
use Rattle.promises.specs.BundleFigures.{BundleFigures}

pub bundle-figures : BundleFigures
unfolding opened both stays part leave_records leave parts behind_parts readings words_after under stream_in event_in event_under stream_listed
    event_listed bundle_of fitted bundled buffer_after lists_after bundled_number bundled_length bundled_first
bundle-figures = record {
  one = refl;
  both = refl;
  last-event = refl;
  unknown-event = refl;
  no_room = refl;
  no_stream = refl;
  no-list = refl;
  long = refl;
  fits = refl;
  short = refl;
  sixteen = refl;
  seventeen = refl;
  bad-table = refl;
  number-0 = refl;
  number-45 = refl;
  number-44 = refl;
  number-20 = refl;
  buffer = refl;
  buffer-45 = refl;
  buffer-44 = refl;
  buffer-20 = refl;
  lists = refl;
  lists-45 = refl;
  lists-44 = refl;
  lists-20 = refl;
}
