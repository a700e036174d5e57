-- `line::draw::short_slope` meets its contract.
use Rattle.line.proofs.Fixed.{short_climbs}
use Rattle.line.proofs.draw.short_slope.Goals as goal

pub returns : goal.returns
returns c = let p = c.requires in short_climbs c.args.l c.args.s p.0 p.2 p.1
