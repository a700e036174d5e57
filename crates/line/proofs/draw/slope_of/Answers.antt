-- `line::draw::slope_of` meets its contract.
use Rattle.line.proofs.Fixed.{start_climbs}
use Rattle.line.proofs.draw.slope_of.Goals as goal

pub returns : goal.returns
returns c =
    start_climbs c.args.l c.args.s _ c.requires.0 c.requires.1 c.gradient_of.ensures
