-- What is above the thirty-second bit, and what is carried.
use Rattle.screen_meaning.proofs.Nearest.{high_is}
use Rattle.screen_meaning.proofs.millionths.high.Goals as goal

pub returns : goal.returns
returns c = high_is c.args.m
