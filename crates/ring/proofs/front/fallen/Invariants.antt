-- `ring::front::fallen` meets its contract: every column that is passed is outside.
use Rattle.std.proofs.Common.{◌≤◌}
use Rattle.ring.specs.Inner.{Front}
use Rattle.ring.proofs.front.fallen.Given as goal

abbrev pub invariant-loop-x : goal.invariant-loop-x
invariant-loop-x l = Front l.a l.b l.v l.x l.past l.x × (l.least ≤ l.x)
