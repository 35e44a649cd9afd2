-- Below ten, and from ten on.
use Rattle.screen_number.proofs.Laid.{glyph-low, glyph-high}
use Rattle.screen_number.proofs.hex.glyph.Goals as goal

pub returns-then-d-lt10 : goal.returns-then-d-lt10
returns-then-d-lt10 c = glyph-low c.args.d c.if-d-lt10.true

pub returns : goal.returns
returns c = glyph-high c.args.d c.if-d-lt10.false
