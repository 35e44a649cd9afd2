-- The starred figures hold: each by computation.
use mathlib.Core.Path.{refl}
use Rattle.rules.specs.Opened.{opened}
use Rattle.promises.specs.Figures.{Figures}

pub figures : Figures
unfolding opened
figures = record {
  entries-40 = refl;
  result-40 = refl;
  entries-39 = refl;
  result-39 = refl;
  little-1 = refl;
  little-2 = refl;
  big-1 = refl;
  big-2 = refl;
  leb-unsigned = refl;
  leb-signed = refl;
  leb-padded = refl;
  leb-bits = refl;
  clock-turned = refl;
  clock-same = refl;
  clock-64 = λ s. refl;
  clock-70 = λ s. refl;
  clock-number = refl;
  align-1 = refl;
  align-8 = refl;
  signed-4 = refl;
  signed-4-word = refl;
}
