-- `survey::last_edge` meets its contract: q stays between the edges `low` and `high`, which come nearer with each turn.
use Prim.Native.Nat.{◌-◌}
use Rattle.survey.specs.Inner.{Between}
use Rattle.survey.proofs.last_edge.Given as goal

abbrev pub invariant-loop-high : goal.invariant-loop-high
invariant-loop-high l = Between l.low l.high l.q

abbrev pub decreases-loop-high : goal.decreases-loop-high
decreases-loop-high l = l.high - l.low
