-- `ring::front::risen` meets its contract: every column that is passed is inside.
use Rattle.ring.specs.Inner.{Front}
use Rattle.ring.proofs.front.risen.Given as goal

abbrev pub invariant-loop-x : goal.invariant-loop-x
invariant-loop-x l = Front l.a l.b l.v l.least l.x l.x
