-- `fill::span::rows_of` meets its contract.
use Rattle.fill.proofs.Spanning.{Extremes}
use Rattle.fill.proofs.span.rows_of.Given as goal

abbrev pub invariant-loop-i : goal.invariant-loop-i
invariant-loop-i l = Extremes l.work l.i l.least l.most
