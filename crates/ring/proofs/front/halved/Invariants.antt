-- `ring::front::halved` meets its contract: what is below `low` is inside, and what is from `high` on is outside.
use Prim.Native.Nat.{◌-◌, ◌≤◌}
use Rattle.ring.specs.Inner.{Front}
use Rattle.ring.proofs.front.halved.Given as goal

abbrev pub invariant-loop-low : goal.invariant-loop-low
invariant-loop-low l = Front l.a l.b l.v l.least l.low l.low × Front l.a l.b l.v l.high l.past l.high × (l.low ≤ l.high)

abbrev pub decreases-loop-low : goal.decreases-loop-low
decreases-loop-low l = l.high - l.low
