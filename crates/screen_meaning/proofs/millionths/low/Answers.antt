-- What is below the thirty-second bit counts alone.
use Rattle.screen_meaning.proofs.Nearest.{low-is}
use Rattle.screen_meaning.proofs.millionths.low.Goals as goal

pub returns : goal.returns
returns c = low-is c.args.m
