-- `fill::queue::queue` meets its contract.
use Prim.Native.Nat.{◌-◌, ◌≤◌}
use Rattle.fill.specs.Inner.{Queued}
use Rattle.fill.proofs.queue.queue.Given as goal

abbrev pub invariant-loop-at : goal.invariant-loop-at
invariant-loop-at l = Queued l.row l.from l.at l.initial.work l.tail l.work l.end × (l.from ≤ l.at) × (l.at ≤ l.to)

abbrev pub decreases-loop-at : goal.decreases-loop-at
decreases-loop-at l = l.to - l.at
