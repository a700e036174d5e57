-- `fill::span::rows_of` meets its contract.
use Rattle.fill.proofs.Spanning.{extremes_more}
use Rattle.fill.proofs.span.rows_of.Goals as goal

pub loop-i-preserved : goal.loop-i-preserved
loop-i-preserved c = rw (c.min-least.ensures, c.max-most.ensures) (extremes_more c.loop-i.invariant)
