-- `fill::scan` meets its contract.
use Prim.Native.Nat.{◌-◌}
use Rattle.fill.proofs.Walking.{Scanning}
use Rattle.fill.proofs.scan.Given as goal

abbrev pub invariant-loop-at : goal.invariant-loop-at
invariant-loop-at l = Scanning l.shape l.boundary l.row l.initial.at l.to l.at l.initial.sheet l.initial.work l.tail l.sheet l.work l.end

abbrev pub decreases-loop-at : goal.decreases-loop-at
decreases-loop-at l = l.to - l.at
